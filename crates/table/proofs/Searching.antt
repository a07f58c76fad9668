-- What a binary search over the rows of a table answers: where a posting stands, or would.
use Rattle.std.proofs.Common.{Result, Ok, Err}
use Prim.Native.Nat.{ℕ, zero, suc, ◌<◌, ◌≤◌}
use native.Mathlib.Omega.{arith}
use mathlib.Core.Path.{◌≡◌, refl, sym, ap, ◌∙◌}
use mathlib.Core.List.{List, [], ◌∷◌, map}
use mathlib.Core.Logic.{◌⊎◌, inl, inr}
use mathlib.Core.Bool.{true, false}
use lib.ListN.{length, get_or, get_or-map}
use Rattle.std.specs.List.Sorted.{IsSearchInRange, IsBinarySearchResult, IsNonDecreasingBy}
use Rattle.std.specs.Ordering.{ordering_index}
use Rattle.std.proofs.lemmas.Bool.{cases_lt}
use Rattle.std.proofs.lemmas.List.{length-map}
use Rattle.std.proofs.lemmas.List.Sorted.{IsNonDecreasingBy-from_default}
use Rattle.rules.specs.declared.Posting.{Posting}
use Rattle.std.specs.declared.cmp.Ordering.{Ordering}
use Rattle.rules.specs.Postings.{compared, is_before, chain, ascending, present}
use Rattle.laws.proofs.Ranks.{compared_same, after_before, before_after, before_before}
use Rattle.laws.proofs.Sorted.{chain_before, chain_rest, ascending_rest}
use Rattle.table_postings.specs.Stored.{posting_of, blank}
use Rattle.table.specs.Holding.{earlier, place_of}
use Rattle.table.proofs.Places.{earlier_none, earlier_before, earlier_nowhere, present_nowhere, present_before, present_same, present_after}

-- the first of a chain stands before each of the others
chain_at :
    (q : Posting) (qs : List Posting) (i : ℕ) → chain q qs ≡ true → i < length qs → compared q (get_or qs i blank) ≡ Ordering.Less
chain_at q [] i h l = absurd (omega arith)
chain_at q (x ∷ xs) zero h l = chain_before q x xs h
chain_at q (x ∷ xs) (suc i) h l =
    before_before q x (get_or xs i blank) (chain_before q x xs h) (chain_at x xs i (chain_rest q x xs h) (omega arith))

-- p is where it is read
earlier_here :
    (p : Posting) (ps : List Posting) (i : ℕ) → ascending ps ≡ true → i < length ps →
    compared (get_or ps i blank) p ≡ Ordering.Equal → (earlier p ps ≡ i) × (present p ps ≡ true)
unfolding ascending
earlier_here p [] i h l e = absurd (omega arith)
earlier_here p (q ∷ qs) zero h l e = (earlier_none p q qs h (ap is_before e), present_same p q qs e)
earlier_here p (q ∷ qs) (suc i) h l e =
    let k : compared q p ≡ Ordering.Less = rw (compared_same (get_or qs i blank) p e) at (chain_at q qs i h (omega arith)) in
    let ih = earlier_here p qs i (ascending_rest q qs h) (omega arith) e in
    (earlier_before p q qs k ∙ ap suc ih.0, present_before p q qs k ∙ ih.1)

-- p would stand past those before it, where all others are after it
gap_here :
    (p : Posting) (ps : List Posting) (at : ℕ) → ascending ps ≡ true → at ≤ length ps →
    ((k : ℕ) → k < at → compared (get_or ps k blank) p ≡ Ordering.Less) →
    ((k : ℕ) → at ≤ k → k < length ps → compared (get_or ps k blank) p ≡ Ordering.Greater) →
    (earlier p ps ≡ at) × (present p ps ≡ false)
unfolding ascending
gap_here p [] zero h l f g = (earlier_nowhere p, present_nowhere p)
gap_here p [] (suc at) h l f g = absurd (omega arith)
gap_here p (q ∷ qs) zero h l f g =
    let k = g 0 (omega arith) (omega arith) in (earlier_none p q qs h (ap is_before k), present_after p q qs h k)
gap_here p (q ∷ qs) (suc at) h l f g =
    let k = f 0 (omega arith) in
    let ih =
    gap_here p qs at (ascending_rest q qs h) (omega arith) (λ i m. f (suc i) (omega arith))
    λ i m n. g (suc i) (omega arith) (omega arith) in
    (earlier_before p q qs k ∙ ap suc ih.0, present_before p q qs k ∙ ih.1)

-- each stands before those further on
far_before :
    (ps : List Posting) (i j : ℕ) → ascending ps ≡ true → i < j → j < length ps →
    compared (get_or ps i blank) (get_or ps j blank) ≡ Ordering.Less
unfolding ascending
far_before [] i j h l m = absurd (omega arith)
far_before (q ∷ qs) i zero h l m = absurd (omega arith)
far_before (q ∷ qs) zero (suc j) h l m = chain_at q qs j h (omega arith)
far_before (q ∷ qs) (suc i) (suc j) h l m = far_before qs i j (ascending_rest q qs h) (omega arith) (omega arith)

-- so what p is beside them goes up along the list
beside_rises :
    (p q r : Posting) → compared q r ≡ Ordering.Less → ordering_index (compared q p) ≤ ordering_index (compared r p)
beside_rises p q r h = go (compared q p) refl
  where
    go : (o : Ordering) → compared q p ≡ o → ordering_index o ≤ ordering_index (compared r p)
    go Ordering.Less e = omega arith
    go Ordering.Equal e = let g = before_after p r (rw (compared_same q p e) at h) in rw g (omega arith)
    go Ordering.Greater e = let g = before_after p r (before_before p q r (after_before q p e) h) in rw g (omega arith)

-- the rows of a table, whose postings ascend
module _ (rows : List (List ℕ)) (p : Posting) (sorted : ascending (map posting_of rows) ≡ true) where
  row_at : (i : ℕ) → get_or (map posting_of rows) i blank ≡ posting_of (get_or rows i [])
  row_at i = get_or-map posting_of rows i []

  inside : (i : ℕ) → i < length rows → i < length (map posting_of rows)
  inside i l = rw (length-map rows posting_of) l

  rise : IsNonDecreasingBy (λ row. ordering_index (compared (posting_of row) p)) rows
  rise =
      IsNonDecreasingBy-from_default (λ row. ordering_index (compared (posting_of row) p)) rows [] λ i j le l.
      go i j l (cases_lt i j) le
    where
      go :
          (i j : ℕ) → j < length rows → (i < j) ⊎ (j ≤ i) → i ≤ j →
          ordering_index (compared (posting_of (get_or rows i [])) p) ≤ ordering_index (compared (posting_of (get_or rows j [])) p)
      go i j l (inl m) le =
          beside_rises p _ _ (rw (row_at i, row_at j) at (far_before (map posting_of rows) i j sorted m (inside j l)))
      go i j l (inr m) le = let e : i ≡ j = omega arith in rw e (omega arith)

  -- what a binary search over them answers
  pub searched :
      (r : Result ℕ ℕ) → IsSearchInRange r (length rows) → IsBinarySearchResult (λ row. compared (posting_of row) p) rows r →
      r ≡ place_of p (map posting_of rows)
  unfolding place_of
  searched (Ok at) l same =
      let s = earlier_here p (map posting_of rows) at sorted (inside at l) (rw (row_at at) (same [])) in
      rw s.1 (ap Ok (sym s.0))
  searched (Err at) l parted =
      let s =
      gap_here p (map posting_of rows) at sorted (rw (length-map rows posting_of) l)
      (λ k m. rw (row_at k) ((parted rise).0 k [] (omega arith) m))
      λ k m n. rw (row_at k) ((parted rise).1 k [] m (rw (length-map rows posting_of) at n)) in
      rw s.1 (ap Err (sym s.0))
