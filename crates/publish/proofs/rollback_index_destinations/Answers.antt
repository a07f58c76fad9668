-- The checks have shown what the work asks for; the refusal, or else the work.
use Rattle.std.proofs.Common.{refl, ap}
use Rattle.rules.specs.Calls.{rollback_of}
use Rattle.refusals.proofs.Firsts.{rollback_ready}
use Rattle.publish.specs.Promises.{seen_of}
use Rattle.publish.proofs.rollback_index_destinations.Goals as goal

pub rollback-requires : goal.rollback-requires
rollback-requires c = let a = c.in-Ok.ensures in let r = rollback_ready _ _ _ a.0 in record { table_formed = r.0; record_in_bounds = rw a.1 r.1.1 }

pub returns-in-Ok : goal.returns-in-Ok
unfolding rollback_of
returns-in-Ok c = let a = c.in-Ok.ensures in rw a.0 (ap seen_of (rw a.1 at c.rollback.ensures))

pub returns-in-Err : goal.returns-in-Err
unfolding rollback_of
returns-in-Err c = rw (c.in-Err.ensures, c.refused.ensures) refl
