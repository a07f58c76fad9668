-- Answer 3: the limits of lent lists, and what must hold of each change from a place on.
use Rattle.std.proofs.Common.{ℕ, suc, ◌/◌, ◌%◌, ◌<◌, ◌≤◌, ◌≡◌, refl, ap, arith, List, [], ◌∷◌, Bool, true, false, ◌&&◌, length, leb}
use mathlib.Core.Bool.{and-true, and-false}
use borrow.Author.Tests.{le-leb, lt-leb}
use Rattle.std.specs.List.{list_all}
use Rattle.std.specs.Simd.{first_chunks}
use Rattle.rules.specs.Limits.{most_changes}
use Rattle.rules.specs.Orders.{proper_key, changes, proper_changes, proper_lists}
use Rattle.checks.specs.Keys.{proper_keys}

-- whole changes, six numbers by six
pub proper_by_chunks :
    (l : List ℕ) → length l % 6 ≡ 0 → list_all proper_keys (first_chunks 6 (length l / 6) l) ≡ proper_changes l
unfolding proper_changes
proper_by_chunks [] h = refl
proper_by_chunks (a ∷ []) h = absurd (omega arith)
proper_by_chunks (a ∷ b ∷ []) h = absurd (omega arith)
proper_by_chunks (a ∷ b ∷ c ∷ []) h = absurd (omega arith)
proper_by_chunks (a ∷ b ∷ c ∷ d ∷ []) h = absurd (omega arith)
proper_by_chunks (a ∷ b ∷ c ∷ d ∷ e ∷ []) h = absurd (omega arith)
proper_by_chunks (a ∷ b ∷ c ∷ d ∷ e ∷ f ∷ rest) h =
    let n : suc (suc (suc (suc (suc (suc (length rest)))))) / 6 ≡ suc (length rest / 6) = omega arith in
    rw n (ap (λ v. (proper_key c d && proper_key e f) && v) (proper_by_chunks rest (omega arith)))

-- a length that is no multiple of 6
pub proper_not : (l : List ℕ) → (length l % 6 ≡ 0 → ⊥) → proper_changes l ≡ false
unfolding proper_changes
proper_not [] h = absurd (h refl)
proper_not (a ∷ []) h = refl
proper_not (a ∷ b ∷ []) h = refl
proper_not (a ∷ b ∷ c ∷ []) h = refl
proper_not (a ∷ b ∷ c ∷ d ∷ []) h = refl
proper_not (a ∷ b ∷ c ∷ d ∷ e ∷ []) h = refl
proper_not (a ∷ b ∷ c ∷ d ∷ e ∷ f ∷ rest) h =
    rw (proper_not rest (λ k. h (omega arith))) (and-false (proper_key c d && proper_key e f))

module _ (cs : List ℕ) where
  pub lists_over : (paired : Bool) → most_changes < length (changes cs) → proper_lists cs paired ≡ false
  unfolding proper_lists
  lists_over paired h = rw (lt-leb (length (changes cs)) most_changes h, and-false)

  pub lists_unpaired : proper_lists cs false ≡ false
  unfolding proper_lists
  lists_unpaired = and-false (proper_changes cs && leb (length (changes cs)) most_changes)

  pub lists_within : length (changes cs) ≤ most_changes → proper_lists cs true ≡ proper_changes cs
  unfolding proper_lists
  lists_within m = rw (le-leb (length (changes cs)) most_changes m) (simp and-true)
