-- At each turn what all destinations are answered is what the rest are.
use Rattle.std.proofs.Common.{◌≡◌, drop}
use Rattle.rules.specs.Orders.{changes}
use Rattle.rules.specs.Checks.{present_check}
use Rattle.clashes.proofs.Named.{presents_from}
use Rattle.clashes.proofs.check_present.Given as goal

abbrev pub invariant-loop-i : goal.invariant-loop-i
invariant-loop-i l =
    present_check l.standing (changes l.list.numbers.now) ≡ presents_from l.standing l.i (drop l.i (changes l.list.numbers.now))
