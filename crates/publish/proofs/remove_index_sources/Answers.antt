-- The checks have shown what the work asks for; the refusal, or else the work.
use Rattle.std.proofs.Common.{refl, ap}
use Rattle.rules.specs.Calls.{removal_of}
use Rattle.refusals.proofs.Firsts.{removal_ready}
use Rattle.publish.specs.Promises.{seen_of}
use Rattle.publish.proofs.remove_index_sources.Goals as goal

pub remove-requires : goal.remove-requires
remove-requires c = let a = c.in-Ok.ensures in let r = removal_ready _ _ _ a.0 in r.0

pub returns-in-Ok : goal.returns-in-Ok
unfolding removal_of
returns-in-Ok c = let a = c.in-Ok.ensures in rw a.0 (ap seen_of (rw a.1 at c.remove.ensures))

pub returns-in-Err : goal.returns-in-Err
unfolding removal_of
returns-in-Err c = rw (c.in-Err.ensures, c.refused.ensures) refl
