-- What is left to undo, done from here, gives the whole.
use Rattle.rules.specs.Orders.{changes}
use Rattle.steps_undo.specs.Leaving.{in_order}
use Rattle.steps_undo.proofs.Undos.{Undoing}
use Rattle.steps_undo.proofs.undo_below.Given as goal

abbrev pub invariant-loop-number : goal.invariant-loop-number
invariant-loop-number l = Undoing in_order (changes l.list.numbers.now) l.change l.initial.storage l.storage l.so_far l.number
