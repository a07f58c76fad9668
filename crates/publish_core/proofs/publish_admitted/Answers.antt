-- A well-formed table is in order.
use Rattle.table.proofs.Keeping.{well_formed_ordered}
use Rattle.publish_core.proofs.publish_admitted.Goals as goal

pub clashing-requires : goal.clashing-requires
clashing-requires c = well_formed_ordered _ _ c.requires.formed
