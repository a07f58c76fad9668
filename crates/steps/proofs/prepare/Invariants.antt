-- What is left of the list, prepared from here, gives the whole; a failed insertion ends it with the undo.
use Rattle.rules.specs.Orders.{changes}
use Rattle.steps.proofs.Insertions.{Preparing}
use Rattle.steps.proofs.prepare.Given as goal

abbrev pub invariant-loop-i : goal.invariant-loop-i
invariant-loop-i l = Preparing (changes l.list.numbers.now) l.initial.storage l.storage l.inserted l.i
