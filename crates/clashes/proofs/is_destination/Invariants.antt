-- The posting is a destination of the whole list if it is one of the rest.
use Rattle.std.proofs.Common.{◌≡◌, drop}
use Rattle.rules.specs.Orders.{changes, destinations_from, destinations, postings_of}
use Rattle.rules.specs.Postings.{present}
use Rattle.clashes.proofs.is_destination.Given as goal

abbrev pub invariant-loop-i : goal.invariant-loop-i
invariant-loop-i l =
    present l.p (postings_of (destinations (changes l.list.numbers.now))) ≡ present l.p (postings_of (destinations_from l.i (drop l.i (changes l.list.numbers.now))))
