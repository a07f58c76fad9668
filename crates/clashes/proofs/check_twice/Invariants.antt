-- At each turn what all changes, or all earlier ones, are answered is what the rest are; a pair has not been found.
use Rattle.std.proofs.Common.{◌≡◌, None}
use Rattle.rules.specs.Orders.{changes}
use Rattle.rules.specs.Checks.{twice_check}
use Rattle.clashes.specs.Pairs.{seek}
use Rattle.clashes.proofs.Pairs.{pairs_from}
use Rattle.clashes.proofs.check_twice.Given as goal

abbrev pub invariant-pairs : goal.invariant-pairs
invariant-pairs l =
    (l.pair ≡ None) × (twice_check (changes l.list.numbers.now) ≡ pairs_from (changes l.list.numbers.now) l.later)

abbrev pub invariant-loop-earlier : goal.invariant-loop-earlier
invariant-loop-earlier l =
    (l.pair ≡ None) × (seek (changes l.list.numbers.now) l.later 0 ≡ seek (changes l.list.numbers.now) l.later l.earlier)
