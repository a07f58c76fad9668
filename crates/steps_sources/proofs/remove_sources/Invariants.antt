-- What is left to remove, removed from here, gives the whole.
use Rattle.rules.specs.Orders.{changes}
use Rattle.steps_sources.proofs.Removals.{Removing}
use Rattle.steps_sources.proofs.remove_sources.Given as goal

abbrev pub invariant-loop-number : goal.invariant-loop-number
invariant-loop-number l = Removing (changes l.list.numbers.now) l.clear l.initial.storage l.storage l.number
