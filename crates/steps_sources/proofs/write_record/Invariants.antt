-- What is written, and what is left to write, give the whole.
use Rattle.rules.specs.Orders.{changes}
use Rattle.steps_sources.proofs.Writing.{Recording}
use Rattle.steps_sources.proofs.write_record.Given as goal

abbrev pub invariant-loop-number : goal.invariant-loop-number
invariant-loop-number l = Recording (changes l.list.numbers.now) l.initial.«record» l.«record» l.place l.number
