use native.Mathlib.Omega.{arith}
use Rattle.rules.specs.Orders.{changes}
use Rattle.steps_undo.proofs.Undos.{undo_turn, undo_end, recorded_backward, number_below}
use Rattle.steps_undo.proofs.rollback.Goals as goal

pub at-requires : goal.at-requires
at-requires c = number_below _ _ _ c.requires (omega arith)

pub loop-place-preserved : goal.loop-place-preserved
loop-place-preserved c = undo_turn c.loop-place.invariant (omega arith) (rw c.at.ensures at c.undo_change-so_far.ensures.undone)

pub returns-clause-undone : goal.returns-clause-undone
returns-clause-undone c =
    rw (recorded_backward (changes c.args.list.numbers.now) c.args.record.now) (undo_end c.loop-place.invariant (omega arith))
