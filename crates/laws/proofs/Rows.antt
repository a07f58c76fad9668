-- The rows under a binding and key: a row is among them exactly if its posting stands in the list, and in an ascending list
-- they ascend. So their number is the number of such postings.
use Prim.Native.Nat.{ℕ, ◌+◌, ◌<◌}
use native.Mathlib.Omega.{arith}
use mathlib.Core.Path.{◌≡◌, refl, sym, ◌∙◌}
use mathlib.Core.List.{List, [], ◌∷◌}
use mathlib.Core.Bool.{Bool, true, false, cond, ◌&&◌, ◌||◌, and_assoc}
use mathlib.Mathlib.Data.Bool.Basic.{and_elim_left, and_elim_right, and_intro}
use lib.Dec.{eqb}
use borrow.Author.Tests.{eqb-true, le-leb}
use Rattle.rules.specs.declared.Posting.{Posting}
use Rattle.std.specs.declared.cmp.Ordering.{Ordering}
use Rattle.rules.specs.Postings.{ranked, compared, same, chain, ascending, present, rows_under}
use Rattle.lent_lists.specs.Among.{among}
use Rattle.laws.specs.Words.{rising}
use Rattle.booleans.proofs.Tests.{impossible, Tri, less, equal, more, tri}
use Rattle.laws.proofs.Ranks.{ranked_equal, ranked_more, derived_equality}
use Rattle.laws.proofs.Sorted.{chain_before, chain_rest, chain_skip, ascending_rest}

abbrev pub at : ℕ → ℕ → ℕ → Posting
at binding key row = record { binding = binding; key = key; row = row }

-- two postings are one exactly if their numbers are
same_numbers :
    (binding key row : ℕ) (q : Posting) →
    same (at binding key row) q ≡ ((eqb binding q.binding && eqb key q.key) && eqb row q.row)
same_numbers binding key row q =
    sym (and_assoc (eqb binding q.binding) (eqb key q.key) (eqb row q.row) ∙ derived_equality (at binding key row) q)

pub rows_among :
    (binding key row : ℕ) (ps : List Posting) → among row (rows_under binding key ps) ≡ present (at binding key row) ps
unfolding among rows_under present
rows_among binding key row [] = refl
rows_among binding key row (q ∷ qs) =
    go (eqb binding q.binding && eqb key q.key) refl (rows_among binding key row qs)
  where
    go :
        (b : Bool) → (eqb binding q.binding && eqb key q.key) ≡ b →
        among row (rows_under binding key qs) ≡ present (at binding key row) qs →
        among row (cond b (q.row ∷ rows_under binding key qs) (rows_under binding key qs)) ≡
        (same (at binding key row) q || present (at binding key row) qs)
    go true e ih = rw (same_numbers binding key row q, e, ih)
    go false e ih = rw (same_numbers binding key row q, e) ih

-- of two postings of one binding and key the earlier has the lower row
before_row :
    (p q : Posting) → compared p q ≡ Ordering.Less → p.binding ≡ q.binding → p.key ≡ q.key → p.row < q.row
unfolding compared
before_row p q h b k = go (tri p.row q.row)
  where
    rows : ranked p.row q.row Ordering.Equal ≡ Ordering.Less
    rows =
        sym (ranked_equal p.key q.key _ k) ∙ (sym (ranked_equal p.binding q.binding _ b) ∙ h)

    go : Tri p.row q.row → p.row < q.row
    go (less l) = l
    go (equal e) =
        impossible (cc (ranked_equal p.row q.row Ordering.Equal e, rows))
    go (more m) =
        impossible (cc (ranked_more p.row q.row Ordering.Equal m, rows))

rising_after :
    (binding key : ℕ) (p : Posting) (ps : List Posting) → binding ≡ p.binding → key ≡ p.key → chain p ps ≡ true →
    rising (p.row + 1) (rows_under binding key ps) ≡ true
unfolding rows_under rising
rising_after binding key p [] b k h = refl
rising_after binding key p (q ∷ qs) b k h =
    go (eqb binding q.binding && eqb key q.key) refl
    (rising_after binding key p qs b k (chain_skip p q qs (chain_before p q qs h) (chain_rest p q qs h)))
    (λ x y. rising_after binding key q qs x y (chain_rest p q qs h))
  where
    go :
        (m : Bool) → (eqb binding q.binding && eqb key q.key) ≡ m → rising (p.row + 1) (rows_under binding key qs) ≡ true →
        (binding ≡ q.binding → key ≡ q.key → rising (q.row + 1) (rows_under binding key qs) ≡ true) →
        rising (p.row + 1) (cond m (q.row ∷ rows_under binding key qs) (rows_under binding key qs)) ≡ true
    go true e skip next =
        let x = eqb-true binding q.binding (and_elim_left (eqb binding q.binding) (eqb key q.key) e) in
        let y = eqb-true key q.key (and_elim_right (eqb binding q.binding) (eqb key q.key) e) in
        let l = before_row p q (chain_before p q qs h) (sym b ∙ x) (sym k ∙ y) in
        and_intro (le-leb (p.row + 1) q.row (omega arith))
        (next x y)
    go false e skip next = skip

pub rows_rising :
    (binding key : ℕ) (ps : List Posting) → ascending ps ≡ true → rising 0 (rows_under binding key ps) ≡ true
unfolding ascending rows_under rising
rows_rising binding key [] h = refl
rows_rising binding key (q ∷ qs) h =
    go (eqb binding q.binding && eqb key q.key) refl (rows_rising binding key qs (ascending_rest q qs h))
  where
    go :
        (m : Bool) → (eqb binding q.binding && eqb key q.key) ≡ m → rising 0 (rows_under binding key qs) ≡ true →
        rising 0 (cond m (q.row ∷ rows_under binding key qs) (rows_under binding key qs)) ≡ true
    go true e ih =
        let x = eqb-true binding q.binding (and_elim_left (eqb binding q.binding) (eqb key q.key) e) in
        let y = eqb-true key q.key (and_elim_right (eqb binding q.binding) (eqb key q.key) e) in
        and_intro (le-leb 0 q.row (omega arith))
        (rising_after binding key q qs x y h)
    go false e ih = ih
