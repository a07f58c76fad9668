-- What the flags of lent numbers may be: a key's flag, and the poison flag of a head.
use Prim.Native.Nat.{ℕ}
use native.Mathlib.Omega.{arith}
use mathlib.Core.Path.{◌≡◌, refl}
use mathlib.Core.List.{List}
use mathlib.Core.Bool.{Bool, true, false, cond}
use mathlib.Core.Logic.{◌⊎◌, inl, inr, ◌↔◌}
use lib.Dec.{eqb}
use borrow.Author.Tests.{eqb-true, eqb-false}
use Rattle.rules.specs.declared.Head.{Head}
use Rattle.rules.specs.Table.{well_formed}
use Rattle.rules.specs.Orders.{proper_key}
use Rattle.laws.proofs.Flat.{well_formed_parts}

-- a flag and a key are proper exactly where the flag is 0 and the key is 0, or the flag is 1, with any key
pub proper_key_exactly : (flag key : ℕ) → (proper_key flag key ≡ true) ↔ (((flag ≡ 0) × (key ≡ 0)) ⊎ (flag ≡ 1))
proper_key_exactly flag key = (says, takes)
  where
    says : proper_key flag key ≡ true → ((flag ≡ 0) × (key ≡ 0)) ⊎ (flag ≡ 1)
    says = go (eqb flag 0) refl
      where
        go : (b : Bool) → eqb flag 0 ≡ b → cond b (eqb key 0) (eqb flag 1) ≡ true → ((flag ≡ 0) × (key ≡ 0)) ⊎ (flag ≡ 1)
        go true e h = inl (eqb-true flag 0 e, eqb-true key 0 h)
        go false e h = inr (eqb-true flag 1 h)

    takes : ((flag ≡ 0) × (key ≡ 0)) ⊎ (flag ≡ 1) → proper_key flag key ≡ true
    takes (inl h) = rw (h.0, h.1)
    takes (inr h) = rw h

-- of a well-formed table the poison flag is 0 or 1
pub well_formed_flag : (head : Head) (table : List ℕ) → well_formed head table ≡ true → (head.poisoned ≡ 0) ⊎ (head.poisoned ≡ 1)
well_formed_flag head table h = go (eqb head.poisoned 0) refl
  where
    go : (b : Bool) → eqb head.poisoned 0 ≡ b → (head.poisoned ≡ 0) ⊎ (head.poisoned ≡ 1)
    go true e = inl (eqb-true head.poisoned 0 e)
    go false e = let f = (well_formed_parts head table h).flag in inr (omega (arith, eqb-false head.poisoned 0 e))
