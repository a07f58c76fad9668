-- The guards looked at before (answer 6): what is then known of them tells the first change that is not guarded.
use Rattle.std.proofs.Common.{Ok}
use Prim.Native.Nat.{ℕ, ◌+◌, ◌<◌, ◌≤◌}
use native.Mathlib.Omega.{arith}
use mathlib.Core.Path.{◌≡◌, refl}
use mathlib.Core.List.{List, [], ◌∷◌}
use mathlib.Core.Bool.{Bool, true, false, not, cond, ◌&&◌, and-true, and-false, and_assoc}
use lib.ListN.{length, drop, get_or, drop_of_length-le}
use lib.Dec.{eqb, ltb}
use borrow.Author.Tests.{eq-eqb, ne_eqb}
use Rattle.rules.specs.declared.Change.{Change}
use Rattle.rules.specs.declared.Guard.{Guard}
use Rattle.rules.specs.declared.Failure.{Failure}
use Rattle.rules.specs.Orders.{no_change}
use Rattle.rules.specs.Checks.{must, or_else, first_failing, key_held, guarded}
use Rattle.laws.proofs.Left.{item_left}
use Rattle.checks.specs.Guarding.{keys_held, first_unheld, bindings_from}

module _ (bindings unheld : ℕ) (cs : List Change) (i : ℕ) where
  -- change i, and those after it
  pub bindings_left :
      i < length cs →
      bindings_from bindings unheld i (drop i cs) ≡
      or_else (must (not (eqb i unheld) && ltb (get_or cs i no_change).binding bindings) (Failure.Guard i))
      (bindings_from bindings unheld (i + 1) (drop (i + 1) cs))
  unfolding bindings_from
  bindings_left h = rw (item_left no_change cs i h)

  pub bindings_none : length cs ≤ i → bindings_from bindings unheld i (drop i cs) ≡ Ok tt
  unfolding bindings_from
  bindings_none h = rw (drop_of_length-le cs h)

not_before : (gs : List Guard) (i : ℕ) (cs : List Change) → i ≤ first_unheld gs i cs
unfolding first_unheld
not_before gs i [] = omega arith
not_before gs i (c ∷ cs) = go (keys_held gs c) (not_before gs (i + 1) cs)
  where
    go : (b : Bool) → i + 1 ≤ first_unheld gs (i + 1) cs → i ≤ cond b (first_unheld gs (i + 1) cs) i
    go true h = omega arith
    go false h = omega arith

-- the first change that is not guarded is the first unheld one, or one before it whose binding is not below the count
pub unheld_known :
    (bindings : ℕ) (gs : List Guard) (i : ℕ) (cs : List Change) →
    bindings_from bindings (first_unheld gs i cs) i cs ≡ first_failing (guarded bindings gs) (λ i change. Failure.Guard i) i cs
unfolding bindings_from first_unheld first_failing guarded
unheld_known bindings gs i [] = refl
unheld_known bindings gs i (c ∷ cs) =
    go (keys_held gs c) (and_assoc (ltb c.binding bindings) (key_held c.binding c.before gs) (key_held c.binding c.after gs))
    (unheld_known bindings gs (i + 1) cs)
  where
    Below : Bool
    Below = ltb c.binding bindings

    go :
        (b : Bool) → (Below && key_held c.binding c.before gs && key_held c.binding c.after gs) ≡ (Below && b) →
        bindings_from bindings (first_unheld gs (i + 1) cs) (i + 1) cs ≡ first_failing (guarded bindings gs) (λ i change. Failure.Guard i) (i + 1) cs →
        or_else (must (not (eqb i (cond b (first_unheld gs (i + 1) cs) i)) && Below) (Failure.Guard i))
        (bindings_from bindings (cond b (first_unheld gs (i + 1) cs) i) (i + 1) cs) ≡
        or_else (must (Below && key_held c.binding c.before gs && key_held c.binding c.after gs) (Failure.Guard i))
        (first_failing (guarded bindings gs) (λ i change. Failure.Guard i) (i + 1) cs)
    go true e ih =
        let later : i ≡ first_unheld gs (i + 1) cs → ⊥ = λ s. let n = not_before gs (i + 1) cs in omega arith in
        rw (ne_eqb i (first_unheld gs (i + 1) cs) later, e, ih, and-true Below)
    go false e ih = rw (eq-eqb i i refl, e, and-false)

-- its binding, and then its keys
pub guarded_parts :
    (bindings : ℕ) (gs : List Guard) (c : Change) → guarded bindings gs c ≡ (ltb c.binding bindings && keys_held gs c)
unfolding guarded
guarded_parts bindings gs c = and_assoc (ltb c.binding bindings) (key_held c.binding c.before gs) (key_held c.binding c.after gs)
