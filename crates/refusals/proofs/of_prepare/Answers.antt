-- A table that its check passes is in order.
use Rattle.std.proofs.Common.{sym}
use Rattle.laws.proofs.Checks.{opened}
use Rattle.table.proofs.Keeping.{well_formed_ordered}
use Rattle.refusals.proofs.of_prepare.Goals as goal

pub arriving-requires : goal.arriving-requires
arriving-requires c = well_formed_ordered _ _ (opened _ _ (sym c.in_ok-opening.ensures)).0
