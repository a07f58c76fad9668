-- What checks hand on: the changes of a lent list, or why they refuse.
use Rattle.std.specs.Prelude.{◌≡◌, ℕ, List, Result, Ok, Err}
use Rattle.rules.specs.declared.Failure.{Failure}
use Rattle.changes.specs.declared.Changes.{Changes}

-- where the checks pass, the changes are those of this list
abbrev pub Admits : Result Unit Failure → List ℕ → Result Changes Failure → Type 0
Admits checks list (Ok cs) = (checks ≡ Ok tt) × (cs.numbers.now ≡ list)
Admits checks list (Err why) = checks ≡ Err why
