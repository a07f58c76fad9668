-- Check 6 where the guards have been looked at before: what is known of them is the first change that they do not hold.
use Rattle.std.specs.Prelude.{ℕ, ◌+◌, List, [], ◌∷◌, Bool, not, cond, ◌&&◌, eqb, ltb, Result, Ok}
use Rattle.rules.specs.declared.Change.{Change}
use Rattle.rules.specs.declared.Guard.{Guard}
use Rattle.rules.specs.declared.Failure.{Failure}
use Rattle.rules.specs.Checks.{must, or_else, key_held}

-- every named key of a change is held
abbrev pub keys_held : List Guard → Change → Bool
keys_held gs c = key_held c.binding c.before gs && key_held c.binding c.after gs

-- the first change, numbered from i on, with a named key that is not held; past the last where there is none
unfoldable pub first_unheld : List Guard → ℕ → List Change → ℕ
first_unheld gs i [] = i
first_unheld gs i (c ∷ cs) = cond (keys_held gs c) (first_unheld gs (i + 1) cs) i

-- 6 GUARD of the changes from number i on: the first that is that change, or whose binding is not below the count
unfoldable pub bindings_from : ℕ → ℕ → ℕ → List Change → Result Unit Failure
bindings_from bindings unheld i [] = Ok tt
bindings_from bindings unheld i (c ∷ cs) =
    or_else (must (not (eqb i unheld) && ltb c.binding bindings) (Failure.Guard i)) (bindings_from bindings unheld (i + 1) cs)
