-- At each turn what the whole list is answered is what the rest is.
use Rattle.std.proofs.Common.{◌≡◌, drop}
use Rattle.rules.specs.Orders.{changes}
use Rattle.checks.specs.Guarding.{bindings_from}
use Rattle.checks.proofs.check_bindings.Given as goal

abbrev pub invariant-loop-number : goal.invariant-loop-number
invariant-loop-number l =
    bindings_from l.bindings l.unheld 0 (changes l.list.numbers.now) ≡ bindings_from l.bindings l.unheld l.number (drop l.number (changes l.list.numbers.now))
