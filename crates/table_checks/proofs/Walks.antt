-- What the walks of the checks find: the postings ascend, the last binding decides, and the bits of all numbers past them are none.
use Prim.Native.Nat.{ℕ, zero, suc, ◌+◌, ◌-◌, ◌*◌, ◌/◌, ◌%◌, ◌<◌, ◌≤◌}
use native.Mathlib.Omega.{arith}
use Rattle.std.proofs.Common.{Some, None}
use mathlib.Core.Path.{◌≡◌, refl, sym, ap, ◌∙◌}
use mathlib.Core.List.{List, [], ◌∷◌, map}
use mathlib.Core.Bool.{Bool, true, false, ◌&&◌, and-true, and-false, and_assoc}
use mathlib.Mathlib.Data.Bool.Basic.{and_elim_left, and_elim_right, and_intro}
use lib.ListN.{length, get_or, drop}
use lib.Seq.{get_or-take, length-take-le}
use Rattle.std.proofs.lemmas.List.{length-map}
use lib.Dec.{eqb, ltb, leb}
use lib.Bits.{bit_or, or_add_and, and_le_l, and_le_r}
use borrow.Author.Tests.{ltb-true, eqb-true, lt-ltb, eq-eqb}
use Rattle.rules.specs.declared.Posting.{Posting}
use Rattle.std.specs.List.{IsAllAdjacentAnswer, fold, slice_get}
use Rattle.std.specs.Ordering.{is_lt}
use Rattle.std.specs.declared.cmp.Ordering.{Ordering}
use Rattle.rules.specs.Postings.{every, ranked, compared, is_before, chain, ascending, binding_below}
use Rattle.rules.specs.declared.Head.{Head}
use Rattle.rules.specs.Limits.{most_numbers, most_bindings}
use Rattle.rules.specs.Table.{cells, postings, all_of, limits_hold, well_formed}
use Rattle.booleans.proofs.Tests.{impossible, Tri, less, equal, more, tri, equal_tests}
use Rattle.laws.proofs.Ranks.{ranked_more}
use Rattle.laws.proofs.Sorted.{chain_before, chain_rest}
use Rattle.table_postings.specs.Stored.{posting_of, blank}

lt_before : (o : Ordering) → is_lt o ≡ is_before o
lt_before Ordering.Less = refl
lt_before Ordering.Equal = refl
lt_before Ordering.Greater = refl

-- a chain where each is before the next
all_chained :
    (row : List ℕ) (rows : List (List ℕ)) →
    ((k : ℕ) → k < length rows → is_lt (compared (posting_of (get_or (row ∷ rows) k [])) (posting_of (get_or (row ∷ rows) (suc k) []))) ≡ true) →
    chain (posting_of row) (map posting_of rows) ≡ true
unfolding chain
all_chained row [] f = refl
all_chained row (next ∷ rows) f =
    and_intro (sym (lt_before (compared (posting_of row) (posting_of next))) ∙ f 0 (omega arith))
    (all_chained next rows λ k h. f (suc k) (omega arith))

-- and none where some is not
not_chained :
    (row : List ℕ) (rows : List (List ℕ)) (k : ℕ) → k < length rows →
    is_lt (compared (posting_of (get_or (row ∷ rows) k [])) (posting_of (get_or (row ∷ rows) (suc k) []))) ≡ false →
    chain (posting_of row) (map posting_of rows) ≡ false
unfolding chain
not_chained row [] k h e = absurd (omega arith)
not_chained row (next ∷ rows) zero h e =
    rw (sym (lt_before (compared (posting_of row) (posting_of next))) ∙ e) refl
not_chained row (next ∷ rows) (suc k) h e =
    rw (not_chained next rows k (omega arith) e) (and-false (is_before (compared (posting_of row) (posting_of next))))

-- what a walk over each row and the next answers
pub ascends_answer :
    (rows : List (List ℕ)) (b : Bool) →
    IsAllAdjacentAnswer (λ row next (r : Bool). r ≡ is_lt (compared (posting_of row) (posting_of next))) rows b →
    b ≡ ascending (map posting_of rows)
unfolding ascending
ascends_answer [] true h = refl
ascends_answer [] false h = absurd (let k = h.1 in omega arith)
ascends_answer (row ∷ rows) true h =
    sym (all_chained row rows λ k l. let n : k + 1 ≡ suc k = omega arith in rw n at (sym (h k [] (omega arith))))
ascends_answer (row ∷ rows) false h =
    let n : h.0 + 1 ≡ suc h.0 = omega arith in
    let k = h.1 in
    sym (not_chained row rows h.0 (omega arith) (rw n at (sym (h.2 []))))

binding_before : (p q : Posting) → compared p q ≡ Ordering.Less → p.binding ≤ q.binding
unfolding compared
binding_before p q e = go (tri p.binding q.binding)
  where
    go : Tri p.binding q.binding → p.binding ≤ q.binding
    go (less h) = omega arith
    go (equal h) = omega arith
    go (more h) =
        impossible
        (cc (e, ranked_more p.binding q.binding (ranked p.key q.key (ranked p.row q.row Ordering.Equal)) h))

-- in an ascending list the last posting has the greatest binding, so it alone decides
pub within_last :
    (bindings : ℕ) (p : Posting) (qs : List Posting) (i : ℕ) → chain p qs ≡ true → length qs ≡ i →
    every (binding_below bindings) (p ∷ qs) ≡ ltb (get_or (p ∷ qs) i blank).binding bindings
unfolding every binding_below
within_last bindings p [] zero h e = and-true (ltb p.binding bindings)
within_last bindings p [] (suc i) h e = absurd (omega arith)
within_last bindings p (q ∷ qs) zero h e = absurd (omega arith)
within_last bindings p (q ∷ qs) (suc i) h e =
    go (every (binding_below bindings) (q ∷ qs)) refl (within_last bindings q qs i (chain_rest p q qs h) (omega arith))
  where
    go :
        (b : Bool) → every (binding_below bindings) (q ∷ qs) ≡ b → b ≡ ltb (get_or (q ∷ qs) i blank).binding bindings →
        (ltb p.binding bindings && b) ≡ ltb (get_or (q ∷ qs) i blank).binding bindings
    go true k ih =
        let l = ltb-true q.binding bindings (and_elim_left (ltb q.binding bindings) (every (binding_below bindings) qs) k) in
        let m = binding_before p q (chain_before p q qs h) in
        rw (lt-ltb p.binding bindings (omega arith)) ih
    go false k ih = and-false (ltb p.binding bindings) ∙ ih

-- the last of the rows, and what its posting is
pub last_within :
    (bindings : ℕ) (rows : List (List ℕ)) (row : List ℕ) (last : Posting) → ascending (map posting_of rows) ≡ true →
    Some row ≡ slice_get rows (length rows - 1) → last ≡ posting_of row →
    ltb last.binding bindings ≡ every (binding_below bindings) (map posting_of rows)
unfolding ascending
last_within bindings [] row last sorted e f = impossible (cc)
last_within bindings (r ∷ rows) row last sorted e f =
    let n : suc (length rows) - 1 ≡ length rows = omega arith in
    sym
    (within_last bindings (posting_of r) (map posting_of rows) (length rows) sorted (length-map rows posting_of)
    ∙ ap (λ (p : Posting). ltb p.binding bindings) (last_there r rows row (rw n at e) ∙ sym f))
  where
    last_there :
        (r : List ℕ) (rows : List (List ℕ)) (row : List ℕ) → Some row ≡ slice_get (r ∷ rows) (length rows) →
        get_or (posting_of r ∷ map posting_of rows) (length rows) blank ≡ posting_of row
    last_there r [] row e = let same_row : r ≡ row = cc e in ap posting_of same_row
    last_there r (s ∷ rows) row e = last_there s rows row e

pub none_within :
    (bindings : ℕ) (rows : List (List ℕ)) → None ≡ slice_get rows (length rows - 1) →
    every (binding_below bindings) (map posting_of rows) ≡ true
unfolding every
none_within bindings [] e = refl
none_within bindings (r ∷ rows) e =
    let n : suc (length rows) - 1 ≡ length rows = omega arith in absurd (some_there r rows (rw n at e))
  where
    some_there : (r : List ℕ) (rows : List (List ℕ)) → None ≡ slice_get (r ∷ rows) (length rows) → ⊥
    some_there r [] e = impossible (cc)
    some_there r (s ∷ rows) e = some_there s rows e

-- two numbers are 0 where their bits together are
pub zero_bits : (a b : ℕ) → eqb 0 (bit_or a b) ≡ (eqb 0 a && eqb 0 b)
zero_bits a b = equal_tests (eqb 0 (bit_or a b)) (eqb 0 a && eqb 0 b) apart together
  where
    apart : eqb 0 (bit_or a b) ≡ true → (eqb 0 a && eqb 0 b) ≡ true
    apart h =
        let e = eqb-true 0 (bit_or a b) h in
        let s = or_add_and a b in
        let l = and_le_l a b in
        let r = and_le_r a b in
        and_intro (eq-eqb 0 a (omega arith)) (eq-eqb 0 b (omega arith))

    together : (eqb 0 a && eqb 0 b) ≡ true → eqb 0 (bit_or a b) ≡ true
    together h =
        let ea = eqb-true 0 a (and_elim_left (eqb 0 a) (eqb 0 b) h) in
        let eb = eqb-true 0 b (and_elim_right (eqb 0 a) (eqb 0 b) h) in
        let s = or_add_and a b in
        eq-eqb 0 (bit_or a b) (omega arith)

bits_so_far : (bits : ℕ) (l : List ℕ) → eqb 0 (fold (λ (all n : ℕ). bit_or all n) bits l) ≡ (eqb 0 bits && every (eqb 0) l)
unfolding every
bits_so_far bits [] = sym (and-true (eqb 0 bits))
bits_so_far bits (n ∷ l) =
    bits_so_far (bit_or bits n) l
    ∙ (ap (λ b. b && every (eqb 0) l) (zero_bits bits n) ∙ and_assoc (eqb 0 bits) (eqb 0 n) (every (eqb 0) l))

-- all numbers are 0 where the bits of all together are
pub no_bits : (l : List ℕ) → every (eqb 0) l ≡ eqb (fold (λ (all n : ℕ). bit_or all n) 0 l) 0
no_bits l =
    sym (bits_so_far 0 l)
    ∙ equal_tests (eqb 0 (fold (λ (all n : ℕ). bit_or all n) 0 l)) (eqb (fold (λ (all n : ℕ). bit_or all n) 0 l) 0)
    (λ e. eq-eqb _ 0 (sym (eqb-true 0 _ e)))
    (λ e. eq-eqb 0 _ (sym (eqb-true _ 0 e)))

-- the tests one after the other, as the code has them
pub limit_tests :
    (head : Head) (table : List ℕ) →
    limits_hold head table ≡ (eqb (length table % 3) 0 && (leb (length table) most_numbers && leb head.bindings most_bindings))
unfolding limits_hold all_of
limit_tests head table =
    ap (λ b. eqb (length table % 3) 0 && (leb (length table) most_numbers && b)) (and-true (leb head.bindings most_bindings))

pub tests :
    (head : Head) (table : List ℕ) →
    well_formed head table ≡
    (limits_hold head table
    && (leb head.poisoned 1
    && (leb head.used (length table / 3)
    && (ascending (postings head.used table)
    && (every (binding_below head.bindings) (postings head.used table) && every (eqb 0) (drop (head.used * 3) table))))))
unfolding well_formed all_of
tests head table =
    ap
    (λ b.
    limits_hold head table
    && (leb head.poisoned 1
    && (leb head.used (length table / 3)
    && (ascending (postings head.used table) && (every (binding_below head.bindings) (postings head.used table) && b)))))
    (and-true (every (eqb 0) (drop (head.used * 3) table)))

cells_long : (t : List ℕ) → length (cells t) ≡ length t / 3
unfolding cells
cells_long [] = refl
cells_long (a ∷ []) = refl
cells_long (a ∷ b ∷ []) = refl
cells_long (a ∷ b ∷ c ∷ l) = let ih = cells_long l in omega arith

last_decides :
    (bindings used : ℕ) (ps : List Posting) (last : Posting) → 0 < used → ascending ps ≡ true → length ps ≡ used →
    last ≡ get_or ps (used - 1) blank → ltb last.binding bindings ≡ every (binding_below bindings) ps
unfolding ascending
last_decides bindings used [] last h s l f = absurd (omega arith)
last_decides bindings used (p ∷ ps) last h s l f =
    ap (λ (q : Posting). ltb q.binding bindings) f ∙ sym (within_last bindings p ps (used - 1) s (omega arith))

-- so of a table in use its last posting alone is looked at
pub bindings_within :
    (t : List ℕ) (used bindings : ℕ) → used * 3 ≤ length t → 0 < used → ascending (postings used t) ≡ true →
    (last : Posting) → last ≡ get_or (cells t) (used - 1) blank →
    ltb last.binding bindings ≡ every (binding_below bindings) (postings used t)
bindings_within t used bindings room h sorted last e =
    let long = cells_long t in
    last_decides bindings used (postings used t) last h sorted (length-take-le used (cells t) (omega arith))
    (e ∙ sym (get_or-take used (cells t) (used - 1) blank (omega arith)))
