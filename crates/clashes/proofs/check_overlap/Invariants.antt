-- At each turn what all sources are answered is what the rest are.
use Rattle.std.proofs.Common.{◌≡◌, drop}
use Rattle.rules.specs.Orders.{changes, destinations, postings_of}
use Rattle.rules.specs.Checks.{overlap_check}
use Rattle.clashes.proofs.Named.{overlaps_from}
use Rattle.clashes.proofs.check_overlap.Given as goal

abbrev pub invariant-loop-i : goal.invariant-loop-i
invariant-loop-i l =
    overlap_check (changes l.list.numbers.now) ≡ overlaps_from (postings_of (destinations (changes l.list.numbers.now))) l.i (drop l.i (changes l.list.numbers.now))
