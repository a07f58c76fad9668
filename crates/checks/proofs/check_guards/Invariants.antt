-- At each turn what the whole list is answered is what the rest is.
use Rattle.std.proofs.Common.{◌≡◌, drop}
use Rattle.rules.specs.Orders.{changes, guards}
use Rattle.rules.specs.Checks.{guard_check}
use Rattle.checks.proofs.Failing.{guards_from}
use Rattle.checks.proofs.check_guards.Given as goal

abbrev pub invariant-loop-i : goal.invariant-loop-i
invariant-loop-i l =
    guard_check l.bindings (guards l.pairs) (changes l.list.numbers.now) ≡ guards_from l.bindings (guards l.pairs) l.i (drop l.i (changes l.list.numbers.now))
