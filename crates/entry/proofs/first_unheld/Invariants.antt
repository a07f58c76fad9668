-- A place up to which each key that is named is held.
use Rattle.std.proofs.Common.{◌-◌, ◌≡◌}
use Rattle.rules.specs.Orders.{changes}
use Rattle.guarding.specs.Asking.{unheld_from}
use Rattle.entry.proofs.first_unheld.Given as goal

abbrev pub invariant-loop-place : goal.invariant-loop-place
invariant-loop-place l =
    unheld_from l.guards (changes l.list.numbers.now) 0 l.places ≡ unheld_from l.guards (changes l.list.numbers.now) l.place (l.places - l.place)
