-- The checks have shown what the work asks for; the refusal, or else the work.
use Rattle.std.proofs.Common.{refl, ap}
use Rattle.rules.specs.Calls.{prepare_of}
use Rattle.refusals.proofs.Firsts.{prepare_ready}
use Rattle.publish.specs.Promises.{seen_of}
use Rattle.publish.proofs.prepare_index_destinations.Goals as goal

pub prepare-requires : goal.prepare-requires
prepare-requires c = let a = c.in-Ok.ensures in let r = prepare_ready _ _ _ a.0 in record { table_formed = r.0; places = rw a.1 r.1.1 }

pub returns-in-Ok : goal.returns-in-Ok
unfolding prepare_of
returns-in-Ok c = let a = c.in-Ok.ensures in rw a.0 (ap seen_of (rw a.1 at c.prepare.ensures))

pub returns-in-Err : goal.returns-in-Err
unfolding prepare_of
returns-in-Err c = rw (c.in-Err.ensures, c.refused.ensures) refl
