-- 6 GUARD of the changes from one on.
use Rattle.std.proofs.Common.{ℕ, ◌+◌, ◌<◌, ◌≤◌, ◌≡◌, refl, List, length, drop, get_or, Result, Ok}
use lib.ListN.{drop_of_length-le}
use Rattle.rules.specs.declared.Change.{Change}
use Rattle.rules.specs.declared.Guard.{Guard}
use Rattle.rules.specs.declared.Failure.{Failure}
use Rattle.rules.specs.Orders.{no_change}
use Rattle.rules.specs.Checks.{must, or_else, first_failing, guarded, guard_check}
use Rattle.laws.proofs.Left.{item_left}

-- what the check says of changes that are numbered from i on
pub guards_from : ℕ → List Guard → ℕ → List Change → Result Unit Failure
guards_from bindings gs i cs = first_failing (guarded bindings gs) (λ i change. Failure.Guard i) i cs

module _ (bindings : ℕ) (gs : List Guard) (cs : List Change) where
  pub guards_all : guard_check bindings gs cs ≡ guards_from bindings gs 0 cs
  unfolding guards_from guard_check
  guards_all = refl

  module _ (i : ℕ) where
    -- change i, and those after it
    pub guards_left :
        i < length cs →
        guards_from bindings gs i (drop i cs) ≡
        or_else (must (guarded bindings gs (get_or cs i no_change)) (Failure.Guard i)) (guards_from bindings gs (i + 1) (drop (i + 1) cs))
    unfolding guards_from first_failing
    guards_left h = rw (item_left no_change cs i h)

    pub guards_none : length cs ≤ i → guards_from bindings gs i (drop i cs) ≡ Ok tt
    unfolding guards_from first_failing
    guards_none h = rw (drop_of_length-le cs h)
