-- What is left of the record, undone from here, gives the whole.
use lib.ListN.{length}
use Rattle.rules.specs.Orders.{changes}
use Rattle.steps_undo.specs.Leaving.{as_recorded}
use Rattle.steps_undo.proofs.Undos.{Undoing}
use Rattle.steps_undo.proofs.rollback.Given as goal

abbrev pub invariant-loop-place : goal.invariant-loop-place
invariant-loop-place l =
    Undoing (as_recorded l.«record») (changes l.list.numbers.now) (length l.«record») l.initial.storage l.storage l.so_far l.place
