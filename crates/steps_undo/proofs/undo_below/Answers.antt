use native.Mathlib.Omega.{arith}
use Rattle.steps_undo.proofs.Undos.{undo_turn, undo_end}
use Rattle.steps_undo.proofs.undo_below.Goals as goal

pub loop-number-preserved : goal.loop-number-preserved
loop-number-preserved c = undo_turn c.loop-number.invariant (omega arith) (rw c.at.ensures at c.undo_change-so_far.ensures.undone)

pub returns-clause-undone : goal.returns-clause-undone
returns-clause-undone c = undo_end c.loop-number.invariant (omega arith)
