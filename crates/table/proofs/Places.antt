-- Where a posting stands among ascending ones, by how many stand before it, and what insertion and removal make of the list there.
use Rattle.std.proofs.Common.{Ok, Err}
use Prim.Native.Nat.{ℕ, suc, ◌<◌, ◌≤◌}
use native.Mathlib.Omega.{arith}
use mathlib.Core.Path.{◌≡◌, refl, sym, ap, ◌∙◌}
use mathlib.Core.Logic.{◌⊎◌, inl, inr}
use mathlib.Core.List.{List, [], ◌∷◌, ◌++◌}
use mathlib.Core.Bool.{Bool, true, false, cond}
use lib.ListN.{length, take, drop}
use Rattle.std.specs.Result.{is_ok}
use Rattle.rules.specs.declared.Posting.{Posting}
use Rattle.std.specs.declared.cmp.Ordering.{Ordering}
use Rattle.rules.specs.Postings.{compared, is_before, is_same, same, chain, ascending, present, placed, inserted, removed}
use Rattle.booleans.proofs.Tests.{impossible, clash}
use Rattle.laws.proofs.Ranks.{compared_self, compared_same, after_before, before_after, before_before, same_self}
use Rattle.laws.proofs.Lists.{removed_absent}
use Rattle.laws.proofs.Sorted.{chain_before, chain_rest, chain_cons, ascending_rest, absent_before}
use Rattle.table.specs.Holding.{earlier, place_of}

-- nothing that follows a posting which is not before p is before p
pub earlier_none :
    (p q : Posting) (qs : List Posting) → chain q qs ≡ true → is_before (compared q p) ≡ false → earlier p (q ∷ qs) ≡ 0
unfolding earlier
earlier_none p q [] h e = rw e
earlier_none p q (x ∷ xs) h e = rw e (earlier_none p x xs (chain_rest q x xs h) (go (compared x p) refl))
  where
    go : (o : Ordering) → compared x p ≡ o → is_before o ≡ false
    go Ordering.Less k = absurd (clash (is_before (compared q p)) (ap is_before (before_before q x p (chain_before q x xs h) k)) e)
    go Ordering.Equal k = refl
    go Ordering.Greater k = refl

pub earlier_before :
    (p q : Posting) (qs : List Posting) → compared q p ≡ Ordering.Less → earlier p (q ∷ qs) ≡ suc (earlier p qs)
unfolding earlier
earlier_before p q qs e = rw e

pub earlier_most : (p : Posting) (ps : List Posting) → earlier p ps ≤ length ps
unfolding earlier
earlier_most p [] = omega arith
earlier_most p (q ∷ qs) = go (is_before (compared q p)) (earlier_most p qs)
  where
    go : (b : Bool) → earlier p qs ≤ length qs → cond b (suc (earlier p qs)) (earlier p qs) ≤ suc (length qs)
    go true ih = omega arith
    go false ih = omega arith

apart : (p q : Posting) → compared q p ≡ Ordering.Less → same p q ≡ false
unfolding same
apart p q e = ap is_same (before_after q p e)

pub present_before :
    (p q : Posting) (qs : List Posting) → compared q p ≡ Ordering.Less → present p (q ∷ qs) ≡ present p qs
unfolding present
present_before p q qs e = rw (apart p q e)

pub present_same : (p q : Posting) (qs : List Posting) → compared q p ≡ Ordering.Equal → present p (q ∷ qs) ≡ true
unfolding present
present_same p q qs e = rw (compared_same q p e, same_self p)

pub present_after :
    (p q : Posting) (qs : List Posting) → chain q qs ≡ true → compared q p ≡ Ordering.Greater → present p (q ∷ qs) ≡ false
present_after p q qs h e = absent_before p (q ∷ qs) (chain_cons p q qs (after_before q p e) h)

-- what stood there is found again, and its place is one of the list's
pub earlier_present : (p : Posting) (ps : List Posting) → ascending ps ≡ true → present p ps ≡ true → earlier p ps < length ps
unfolding ascending present earlier
earlier_present p [] h e = absurd (clash false e refl)
earlier_present p (q ∷ qs) h e = go (compared q p) refl (λ k. earlier_present p qs (ascending_rest q qs h) k)
  where
    go :
        (o : Ordering) → compared q p ≡ o → (present p qs ≡ true → earlier p qs < length qs) →
        cond (is_before o) (suc (earlier p qs)) (earlier p qs) < suc (length qs)
    go Ordering.Less k ih =
        let f : present p qs ≡ true = sym (present_before p q qs k) ∙ e in
        let l = ih f in
        omega arith
    go Ordering.Equal k ih = let l = earlier_most p qs in omega arith
    go Ordering.Greater k ih = let l = earlier_most p qs in omega arith

inserted_nowhere : (p : Posting) → inserted p [] ≡ take (earlier p []) [] ++ p ∷ drop (earlier p []) []
unfolding inserted earlier
inserted_nowhere p = refl

pub earlier_nowhere : (p : Posting) → earlier p [] ≡ 0
unfolding earlier
earlier_nowhere p = refl

pub present_nowhere : (p : Posting) → present p [] ≡ false
unfolding present
present_nowhere p = refl

-- an absent posting goes in between those before it and the others
pub inserted_gap :
    (p : Posting) (ps : List Posting) → ascending ps ≡ true → present p ps ≡ false →
    inserted p ps ≡ take (earlier p ps) ps ++ p ∷ drop (earlier p ps) ps
unfolding ascending inserted
inserted_gap p [] h e = inserted_nowhere p
inserted_gap p (q ∷ qs) h e = go (compared p q) refl (λ k. inserted_gap p qs (ascending_rest q qs h) k)
  where
    go :
        (o : Ordering) → compared p q ≡ o →
        (present p qs ≡ false → inserted p qs ≡ take (earlier p qs) qs ++ p ∷ drop (earlier p qs) qs) →
        placed o p q qs (inserted p qs) ≡ take (earlier p (q ∷ qs)) (q ∷ qs) ++ p ∷ drop (earlier p (q ∷ qs)) (q ∷ qs)
    go Ordering.Less k ih = rw (earlier_none p q qs h (ap is_before (before_after p q k)))
    go Ordering.Equal k ih =
        absurd (clash (present p (q ∷ qs)) (present_same p q qs (rw (compared_same p q k) (compared_self q))) e)
    go Ordering.Greater k ih =
        let b : compared q p ≡ Ordering.Less = after_before p q k in
        rw (earlier_before p q qs b, ih (sym (present_before p q qs b) ∙ e))

-- a posting that stands there goes out from between those before it and the others
pub removed_at :
    (p : Posting) (ps : List Posting) → ascending ps ≡ true → present p ps ≡ true →
    removed p ps ≡ take (earlier p ps) ps ++ drop (suc (earlier p ps)) ps
unfolding ascending removed
removed_at p [] h e = absurd (clash (present p []) e (present_nowhere p))
removed_at p (q ∷ qs) h e = go (compared q p) refl (λ k. removed_at p qs (ascending_rest q qs h) k)
  where
    go :
        (o : Ordering) → compared q p ≡ o →
        (present p qs ≡ true → removed p qs ≡ take (earlier p qs) qs ++ drop (suc (earlier p qs)) qs) →
        cond (same p q) (removed p qs) (q ∷ removed p qs) ≡ take (earlier p (q ∷ qs)) (q ∷ qs) ++ drop
        (suc (earlier p (q ∷ qs))) (q ∷ qs)
    go Ordering.Less k ih =
        rw (apart p q k, earlier_before p q qs k, ih (sym (present_before p q qs k) ∙ e))
    go Ordering.Equal k ih =
        let z : q ≡ p = compared_same q p k in
        let c : chain p qs ≡ true = rw z at h in
        rw (z, same_self p, removed_absent p qs (absent_before p qs c), earlier_none p p qs c (ap is_before (compared_self p)))
    go Ordering.Greater k ih = absurd (clash (present p (q ∷ qs)) e (present_after p q qs h k))

-- where a search found it, and whether it stands there
pub at_present : (p : Posting) (ps : List Posting) (at : ℕ) → place_of p ps ≡ Ok at → present p ps ≡ true
unfolding place_of
at_present p ps at e = go (present p ps) e
  where
    go : (b : Bool) → cond b (Ok (earlier p ps)) (Err (earlier p ps)) ≡ Ok at → b ≡ true
    go true f = refl
    go false f = impossible (cc)

pub gap_absent : (p : Posting) (ps : List Posting) (at : ℕ) → place_of p ps ≡ Err at → present p ps ≡ false
unfolding place_of
gap_absent p ps at e = go (present p ps) e
  where
    go : (b : Bool) → cond b (Ok (earlier p ps)) (Err (earlier p ps)) ≡ Err at → b ≡ false
    go true f = impossible (cc)
    go false f = refl

pub place_earlier :
    (p : Posting) (ps : List Posting) (at : ℕ) → (place_of p ps ≡ Ok at) ⊎ (place_of p ps ≡ Err at) → earlier p ps ≡ at
unfolding place_of
place_earlier p ps at e = go (present p ps) e
  where
    go :
        (b : Bool) →
        (cond b (Ok (earlier p ps)) (Err (earlier p ps)) ≡ Ok at)
        ⊎ (cond b (Ok (earlier p ps)) (Err (earlier p ps)) ≡ Err at) →
        earlier p ps ≡ at
    go true (inl f) = cc
    go true (inr f) = impossible (cc)
    go false (inl f) = impossible (cc)
    go false (inr f) = cc

pub found_present : (p : Posting) (ps : List Posting) → is_ok (place_of p ps) ≡ present p ps
unfolding place_of
found_present p ps = go (present p ps)
  where
    go : (b : Bool) → is_ok (cond b (Ok (earlier p ps)) (Err (earlier p ps))) ≡ b
    go true = refl
    go false = refl

pub gap_most : (p : Posting) (ps : List Posting) (at : ℕ) → place_of p ps ≡ Err at → at ≤ length ps
gap_most p ps at e = rw (← place_earlier p ps at (inr e)) (earlier_most p ps)

pub at_inside : (p : Posting) (ps : List Posting) (at : ℕ) → ascending ps ≡ true → place_of p ps ≡ Ok at → at < length ps
at_inside p ps at h e = rw (← place_earlier p ps at (inl e)) (earlier_present p ps h (at_present p ps at e))

-- a list that has the posting stays
inserted_present : (p : Posting) (ps : List Posting) → ascending ps ≡ true → present p ps ≡ true → inserted p ps ≡ ps
unfolding ascending inserted
inserted_present p [] h e = absurd (clash (present p []) e (present_nowhere p))
inserted_present p (q ∷ qs) h e = go (compared p q) refl (λ k. inserted_present p qs (ascending_rest q qs h) k)
  where
    go :
        (o : Ordering) → compared p q ≡ o → (present p qs ≡ true → inserted p qs ≡ qs) → placed o p q qs (inserted p qs) ≡ q ∷ qs
    go Ordering.Less k ih = absurd (clash (present p (q ∷ qs)) e (absent_before p (q ∷ qs) (chain_cons p q qs k h)))
    go Ordering.Equal k ih = refl
    go Ordering.Greater k ih = rw (ih (sym (present_before p q qs (after_before p q k)) ∙ e))

-- what insertion and removal make of an ascending list, by where a search found the posting
module _ (p : Posting) (ps : List Posting) (at : ℕ) (sorted : ascending ps ≡ true) where
  pub inserted_in_gap : place_of p ps ≡ Err at → inserted p ps ≡ take at ps ++ p ∷ drop at ps
  inserted_in_gap e =
      rw (place_earlier p ps at (inr e)) at (inserted_gap p ps sorted (gap_absent p ps at e))

  pub inserted_found : place_of p ps ≡ Ok at → inserted p ps ≡ ps
  inserted_found e = inserted_present p ps sorted (at_present p ps at e)

  pub removed_found : place_of p ps ≡ Ok at → removed p ps ≡ take at ps ++ drop (suc at) ps
  removed_found e = rw (place_earlier p ps at (inl e)) at (removed_at p ps sorted (at_present p ps at e))

  pub removed_from_gap : place_of p ps ≡ Err at → removed p ps ≡ ps
  removed_from_gap e = removed_absent p ps (gap_absent p ps at e)
