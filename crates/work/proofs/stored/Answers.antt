-- A well-formed table is in order.
use Rattle.table.proofs.Keeping.{well_formed_ordered}
use Rattle.work.proofs.stored.Goals as goal

pub invariant_of-result : goal.invariant_of-result
invariant_of-result c = record { ordered = well_formed_ordered _ _ c.requires }
