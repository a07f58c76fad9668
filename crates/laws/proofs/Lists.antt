-- Insertion and removal in lists of postings, by what stands in them. Nothing here asks that a list ascends.
use Prim.Native.Nat.{suc, ◌≤◌}
use native.Mathlib.Omega.{arith}
use mathlib.Core.Path.{◌≡◌, refl, sym, ap, ◌∙◌}
use mathlib.Core.List.{List, [], ◌∷◌}
use mathlib.Core.Bool.{Bool, true, false, cond, not, ◌&&◌, ◌||◌, or_self_left}
use mathlib.Mathlib.Data.Bool.Basic.{eq-false_of_not-eq-true}
use lib.ListN.{length}
use Rattle.rules.specs.declared.Posting.{Posting}
use Rattle.std.specs.declared.cmp.Ordering.{Ordering}
use Rattle.rules.specs.Postings.{compared, is_same, same, present, placed, inserted, removed}
use Rattle.booleans.proofs.Tests.{by_cases, clash, or_left, or_right, or_swap}
use Rattle.laws.proofs.Ranks.{compared_same, same_equal, same_self}

-- what stands in a list after an insertion
pub present_inserted : (p q : Posting) (l : List Posting) → present p (inserted q l) ≡ (same p q || present p l)
unfolding present inserted
present_inserted p q [] = refl
present_inserted p q (x ∷ xs) = go (compared q x) refl (present_inserted p q xs)
  where
    go :
        (o : Ordering) → compared q x ≡ o → present p (inserted q xs) ≡ (same p q || present p xs) →
        present p (placed o q x xs (inserted q xs)) ≡ (same p q || (same p x || present p xs))
    go Ordering.Less e ih = refl
    go Ordering.Equal e ih =
        let k : same p q ≡ same p x = ap (same p) (compared_same q x e) in
        rw k (sym (or_self_left (same p x) (present p xs)))
    go Ordering.Greater e ih = rw ih (or_swap (same p x) (same p q) (present p xs))

not_twice : (a b : Bool) → (b && not a) ≡ ((a || b) && not a)
not_twice true true = refl
not_twice true false = refl
not_twice false b = refl

and_or : (a b c : Bool) → (a ≡ true → c ≡ false) → (a || (b && not c)) ≡ ((a || b) && not c)
and_or true b true f = absurd (clash true refl (f refl))
and_or true b false f = refl
and_or false b c f = refl

-- and after a removal
pub present_removed : (p q : Posting) (l : List Posting) → present p (removed q l) ≡ (present p l && not (same p q))
unfolding present removed
present_removed p q [] = refl
present_removed p q (x ∷ xs) = go (same q x) refl (present_removed p q xs)
  where
    go :
        (b : Bool) → same q x ≡ b → present p (removed q xs) ≡ (present p xs && not (same p q)) →
        present p (cond b (removed q xs) (x ∷ removed q xs)) ≡ ((same p x || present p xs) && not (same p q))
    go true e ih =
        let k : same p x ≡ same p q = ap (same p) (sym (same_equal q x e)) in
        rw (ih, k) (not_twice (same p q) (present p xs))
    go false e ih =
        rw ih
        (and_or (same p x) (present p xs) (same p q) λ h.
        eq-false_of_not-eq-true λ k.
        clash (same q x) (rw (sym (same_equal p q k) ∙ same_equal p x h) (same_self x)) e)

-- what stands in a list differs from what doesn't
pub differs : (p q : Posting) (l : List Posting) → present p l ≡ true → present q l ≡ false → same p q ≡ false
differs p q l h k = eq-false_of_not-eq-true λ e. clash (present q l) (rw (same_equal p q e) at h) k

pub removed_absent : (p : Posting) (l : List Posting) → present p l ≡ false → removed p l ≡ l
unfolding present removed
removed_absent p [] h = refl
removed_absent p (x ∷ xs) h =
    let e : same p x ≡ false = or_left (same p x) (present p xs) h in
    rw (e, removed_absent p xs (or_right (same p x) (present p xs) h))

-- what was not there is inserted and removed again: the list is as before
pub removed_inserted : (p : Posting) (l : List Posting) → present p l ≡ false → removed p (inserted p l) ≡ l
unfolding present removed inserted
removed_inserted p [] h = rw (same_self p)
removed_inserted p (x ∷ xs) h = go (compared p x) refl (removed_inserted p xs absent)
  where
    apart : same p x ≡ false
    apart = or_left (same p x) (present p xs) h

    absent : present p xs ≡ false
    absent = or_right (same p x) (present p xs) h

    go : (o : Ordering) → compared p x ≡ o → removed p (inserted p xs) ≡ xs → removed p (placed o p x xs (inserted p xs)) ≡ x ∷ xs
    go Ordering.Less e ih = rw (same_self p, apart, removed_absent p xs absent)
    go Ordering.Equal e ih = rw (apart, removed_absent p xs absent)
    go Ordering.Greater e ih = rw (apart, ih)

pub length_inserted : (p : Posting) (l : List Posting) → present p l ≡ false → length (inserted p l) ≡ suc (length l)
unfolding present inserted same
length_inserted p [] h = refl
length_inserted p (x ∷ xs) h = go (compared p x) refl (length_inserted p xs (or_right (same p x) (present p xs) h))
  where
    go :
        (o : Ordering) → compared p x ≡ o → length (inserted p xs) ≡ suc (length xs) →
        length (placed o p x xs (inserted p xs)) ≡ suc (suc (length xs))
    go Ordering.Less e ih = refl
    go Ordering.Equal e ih = absurd (clash (same p x) (ap is_same e) (or_left (same p x) (present p xs) h))
    go Ordering.Greater e ih = ap suc ih

pub length_inserted_most : (p : Posting) (l : List Posting) → length (inserted p l) ≤ suc (length l)
unfolding inserted
length_inserted_most p [] = omega arith
length_inserted_most p (x ∷ xs) = go (compared p x) (length_inserted_most p xs)
  where
    go :
        (o : Ordering) → length (inserted p xs) ≤ suc (length xs) →
        length (placed o p x xs (inserted p xs)) ≤ suc (suc (length xs))
    go Ordering.Less ih = omega arith
    go Ordering.Equal ih = omega arith
    go Ordering.Greater ih = omega arith

pub length_removed : (p : Posting) (l : List Posting) → length (removed p l) ≤ length l
unfolding removed
length_removed p [] = omega arith
length_removed p (x ∷ xs) =
    let ih = length_removed p xs in
    by_cases (λ (k : List Posting). length k ≤ suc (length xs)) (same p x) (λ e. omega arith) (λ e. omega arith)
