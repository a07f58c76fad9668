-- The flat table and the postings that it means: a well-formed table is its postings laid out, and postings laid out are well
-- formed.
use Prim.Native.Nat.{ℕ, zero, suc, ◌-◌, ◌*◌, ◌%◌, ◌≤◌}
use native.Mathlib.Omega.{arith}
use mathlib.Core.Path.{◌≡◌, refl, ap}
use mathlib.Core.List.{List, [], ◌∷◌, ◌++◌}
use mathlib.Core.Bool.{Bool, true}
use mathlib.Mathlib.Data.Bool.Basic.{and_elim_left, and_elim_right, and_intro}
use lib.ListN.{length, take, drop, replicate, length-append, length-replicate, take-append-drop, length-drop}
use lib.Seq.{take-append_seam, drop_at, length-take-le}
use lib.Dec.{eqb}
use borrow.Author.Tests.{eqb-true, leb-true, eq-eqb, le-leb}
use Rattle.rules.specs.declared.Posting.{Posting}
use Rattle.rules.specs.declared.Head.{Head}
use Rattle.rules.specs.Limits.{most_numbers, most_bindings}
use Rattle.rules.specs.Postings.{every, ascending, binding_below}
use Rattle.rules.specs.Table.{cells, capacity, postings, numbers, laid_out, all_of, limits_hold, well_formed}

pub length_numbers : (ps : List Posting) → length (numbers ps) ≡ length ps * 3
unfolding numbers
length_numbers [] = refl
length_numbers (p ∷ ps) = let ih = length_numbers ps in omega arith

cells_numbers : (ps : List Posting) (rest : List ℕ) → cells (numbers ps ++ rest) ≡ ps ++ cells rest
unfolding cells numbers
cells_numbers [] rest = refl
cells_numbers (p ∷ ps) rest = ap (λ l. p ∷ l) (cells_numbers ps rest)

-- the postings of a table are its numbers, three by three
numbers_cells : (k : ℕ) (t : List ℕ) → k * 3 ≤ length t → numbers (take k (cells t)) ≡ take (k * 3) t
unfolding cells numbers
numbers_cells zero t h = refl
numbers_cells (suc k) [] h = absurd (omega arith)
numbers_cells (suc k) (a ∷ []) h = absurd (omega arith)
numbers_cells (suc k) (a ∷ b ∷ []) h = absurd (omega arith)
numbers_cells (suc k) (a ∷ b ∷ c ∷ t) h =
    let e : suc k * 3 ≡ suc (suc (suc (k * 3))) = omega arith in
    let i : k * 3 ≤ length t = omega arith in
    rw (e, numbers_cells k t i)

zeros : (l : List ℕ) → every (eqb 0) l ≡ true → l ≡ replicate (length l) 0
unfolding every
zeros [] h = refl
zeros (x ∷ xs) h =
    let e : 0 ≡ x = eqb-true 0 x (and_elim_left (eqb 0 x) (every (eqb 0) xs) h) in
    let ih = zeros xs (and_elim_right (eqb 0 x) (every (eqb 0) xs) h) in
    rw (← e) (ap (λ l. 0 ∷ l) ih)

all_zero : (n : ℕ) → every (eqb 0) (replicate n 0) ≡ true
unfolding every
all_zero zero = refl
all_zero (suc n) = all_zero n

-- what well formed says, part by part
pub record WellFormed (head : Head) (table : List ℕ) : Type 0 where
  pub threes : length table % 3 ≡ 0
  pub size : length table ≤ most_numbers
  pub bindings : head.bindings ≤ most_bindings
  pub flag : head.poisoned ≤ 1
  pub room : head.used ≤ capacity table
  pub sorted : ascending (postings head.used table) ≡ true
  pub bound : every (binding_below head.bindings) (postings head.used table) ≡ true
  pub rest : every (eqb 0) (drop (head.used * 3) table) ≡ true

all_first : (b : Bool) (bs : List Bool) → all_of (b ∷ bs) ≡ true → b ≡ true
unfolding all_of
all_first b bs h = and_elim_left b (all_of bs) h

all_rest : (b : Bool) (bs : List Bool) → all_of (b ∷ bs) ≡ true → all_of bs ≡ true
unfolding all_of
all_rest b bs h = and_elim_right b (all_of bs) h

all_cons : (b : Bool) (bs : List Bool) → b ≡ true → all_of bs ≡ true → all_of (b ∷ bs) ≡ true
unfolding all_of
all_cons b bs p q = and_intro p q

all_none : all_of [] ≡ true
unfolding all_of
all_none = refl

pub well_formed_parts : (head : Head) (table : List ℕ) → well_formed head table ≡ true → WellFormed head table
unfolding well_formed limits_hold
well_formed_parts head table h0 =
    let l0 = all_first _ _ h0 in
    let l1 = all_rest _ _ l0 in
    let h1 = all_rest _ _ h0 in
    let h2 = all_rest _ _ h1 in
    let h3 = all_rest _ _ h2 in
    let h4 = all_rest _ _ h3 in
    let h5 = all_rest _ _ h4 in
    record {
      threes = eqb-true _ _ (all_first _ _ l0);
      size = leb-true _ _ (all_first _ _ l1);
      bindings = leb-true _ _ (all_first _ _ (all_rest _ _ l1));
      flag = leb-true _ _ (all_first _ _ h1);
      room = leb-true _ _ (all_first _ _ h2);
      sorted = all_first _ _ h3;
      bound = all_first _ _ h4;
      rest = all_first _ _ h5;
    }

pub parts_well_formed : (head : Head) (table : List ℕ) → WellFormed head table → well_formed head table ≡ true
unfolding well_formed limits_hold
parts_well_formed head table w =
    all_cons _ _
    (all_cons _ _ (eq-eqb _ _ w.threes)
    (all_cons _ _ (le-leb _ _ w.size) (all_cons _ _ (le-leb _ _ w.bindings) all_none)))
    (all_cons _ _ (le-leb _ _ w.flag)
    (all_cons _ _ (le-leb _ _ w.room)
    (all_cons _ _ w.sorted (all_cons _ _ w.bound (all_cons _ _ w.rest all_none)))))

module _ (head : Head) (table : List ℕ) (w : WellFormed head table) where
  reach : head.used * 3 ≤ length table
  reach = let r = w.room in omega arith

  -- the head's used is the number of postings
  pub used_postings : length (postings head.used table) ≡ head.used
  used_postings =
      let e = ap length (numbers_cells head.used table reach) in
      let f = length_numbers (postings head.used table) in
      let g = length-take-le (head.used * 3) table reach in
      omega arith

  -- a well-formed table is its postings laid out
  pub laid_out_same : laid_out (length table) (postings head.used table) ≡ table
  laid_out_same =
      let n : length table - length (postings head.used table) * 3 ≡ length (drop (head.used * 3) table) =
      rw (used_postings, length-drop (head.used * 3) table) in
      rw (n, ← zeros (drop (head.used * 3) table) w.rest, numbers_cells head.used table reach)
      (take-append-drop (head.used * 3) table)

module _ (size : ℕ) (ps : List Posting) where
  pub postings_laid_out : postings (length ps) (laid_out size ps) ≡ ps
  postings_laid_out =
      rw (cells_numbers ps (replicate (size - length ps * 3) 0)) (take-append_seam ps (cells (replicate (size - length ps * 3) 0)))

  pub length_laid_out : length ps * 3 ≤ size → length (laid_out size ps) ≡ size
  length_laid_out h =
      let e = length-append (numbers ps) (replicate (size - length ps * 3) 0) in
      let f = length_numbers ps in
      let g = length-replicate {A = ℕ} (size - length ps * 3) 0 in
      omega arith

  past_zero : every (eqb 0) (drop (length ps * 3) (laid_out size ps)) ≡ true
  past_zero =
      rw (drop_at (numbers ps) (replicate (size - length ps * 3) 0) (length ps * 3) (length_numbers ps)) (all_zero (size - length ps * 3))

-- postings that a table of this size and binding count may hold
pub record Sound (bindings size : ℕ) (ps : List Posting) : Type 0 where
  pub room : length ps ≤ size
  pub sorted : ascending ps ≡ true
  pub bound : every (binding_below bindings) ps ≡ true

pub sound_postings :
    (head : Head) (table : List ℕ) → WellFormed head table →
    Sound head.bindings (capacity table) (postings head.used table)
sound_postings head table w =
    record { room = rw (used_postings head table w) w.room; sorted = w.sorted; bound = w.bound }

-- laid out in the same table, sound postings are well formed
pub well_formed_laid_out :
    (head after : Head) (table : List ℕ) (ps : List Posting) → WellFormed head table →
    Sound head.bindings (capacity table) ps → after.bindings ≡ head.bindings → after.used ≡ length ps →
    after.poisoned ≤ 1 → well_formed after (laid_out (length table) ps) ≡ true
well_formed_laid_out head after table ps w s eb eu ep =
    parts_well_formed after (laid_out (length table) ps)
    (record {
      threes = rw len w.threes;
      size = rw len w.size;
      bindings = rw eb w.bindings;
      flag = ep;
      room = rw (len, eu) s.room;
      sorted = rw (eu, postings_laid_out (length table) ps) s.sorted;
      bound = rw (eu, eb, postings_laid_out (length table) ps) s.bound;
      rest = rw eu (past_zero (length table) ps);
    })
  where
    len : length (laid_out (length table) ps) ≡ length table
    len = length_laid_out (length table) ps (let r = s.room in omega arith)
