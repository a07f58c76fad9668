-- What the checks name, told by change numbers: the places of destinations and of sources go up with their change numbers, so the
-- first place has the least number.
use Rattle.std.proofs.Common.{Err}
use Prim.Native.Nat.{ℕ, zero, suc, ◌+◌, ◌≤◌, ◌<◌}
use native.Mathlib.Omega.{arith}
use mathlib.Core.Path.{◌≡◌, ap, ◌∙◌}
use mathlib.Core.List.{List, [], ◌∷◌}
use mathlib.Core.Bool.{Bool, true, false}
use mathlib.Core.Logic.{◌⊎◌, inl, inr}
use mathlib.Mathlib.Data.Bool.Basic.{and_elim_left, and_elim_right}
use lib.ListN.{length, get_or}
use lib.Dec.{leb}
use borrow.Author.Tests.{leb-true}
use Rattle.rules.specs.declared.Posting.{Posting}
use Rattle.rules.specs.declared.Change.{Change}
use Rattle.rules.specs.declared.Failure.{Failure}
use Rattle.rules.specs.Postings.{present}
use Rattle.rules.specs.Orders.{Numbered, destinations, sources, postings_of, change_numbers}
use Rattle.rules.specs.Checks.{twice_check, present_check, overlap_check}
use Rattle.laws.specs.Words.{nowhere, number_at, rising}
use Rattle.laws.specs.Names.{twins, FirstAt, NamesPair}
use Rattle.booleans.proofs.Tests.{Tri, less, equal, more, tri, clash}
use Rattle.laws.proofs.Records.{rising_numbers, rising_sources}
use Rattle.laws.proofs.Names.{twice_names, present_names, overlap_names}

-- no number of a rising list is below its bound
rising_bound : (low : ℕ) (ds : List Numbered) → rising low (change_numbers ds) ≡ true → (k : ℕ) → k < length ds → low ≤ number_at ds k
unfolding rising
rising_bound low [] h k l = absurd (omega arith)
rising_bound low (d ∷ ds) h zero l = leb-true low d.number (and_elim_left (leb low d.number) (rising (d.number + 1) (change_numbers ds)) h)
rising_bound low (d ∷ ds) h (suc k) l =
    let b = leb-true low d.number (and_elim_left (leb low d.number) (rising (d.number + 1) (change_numbers ds)) h) in
    let n = rising_bound (d.number + 1) ds (and_elim_right (leb low d.number) (rising (d.number + 1) (change_numbers ds)) h) k (omega arith) in
    omega arith

-- a later place has a greater number
rising_places :
    (low : ℕ) (ds : List Numbered) → rising low (change_numbers ds) ≡ true → (i j : ℕ) → i < j → j < length ds → number_at ds i < number_at ds j
unfolding rising
rising_places low [] h i j k l = absurd (omega arith)
rising_places low (d ∷ ds) h i zero k l = absurd (omega arith)
rising_places low (d ∷ ds) h zero (suc j) k l =
    let n = rising_bound (d.number + 1) ds (and_elim_right (leb low d.number) (rising (d.number + 1) (change_numbers ds)) h) j (omega arith) in
    omega arith
rising_places low (d ∷ ds) h (suc i) (suc j) k l =
    rising_places (d.number + 1) ds (and_elim_right (leb low d.number) (rising (d.number + 1) (change_numbers ds)) h) i j (omega arith) (omega arith)

-- so the first place that fails has the least number of all that fail
first_least :
    (test : Numbered → Bool) (ds : List Numbered) (k : ℕ) → rising 0 (change_numbers ds) ≡ true → FirstAt test nowhere ds k → (j : ℕ) →
    j < length ds → test (get_or ds j nowhere) ≡ false → number_at ds k ≤ number_at ds j
first_least test ds k r f j l e = go (tri k j)
  where
    go : Tri k j → number_at ds k ≤ number_at ds j
    go (less h) = let n = rising_places 0 ds r k j h l in omega arith
    go (equal h) = rw h (omega arith)
    go (more h) = absurd (clash (test (get_or ds j nowhere)) (f.before j h) e)

module _ (cs : List Change) where
  -- 7: the lower change of the pair is told first
  pub twice_ordered : (m n : ℕ) → twice_check cs ≡ Err (Failure.Twice m n) → m < n
  twice_ordered m n h =
      let p = twice_names cs (Failure.Twice m n) h in
      let e = p.names in
      let l : m ≡ number_at (destinations cs) p.i = cc in
      let r : n ≡ number_at (destinations cs) p.j = cc in
      let k = rising_places 0 (destinations cs) (rising_numbers cs) p.i p.j p.first.order p.first.there in
      omega arith

  -- and no equal pair has a lower second change, or the same second and a lower first
  pub twice_least :
      (m n : ℕ) → twice_check cs ≡ Err (Failure.Twice m n) → (i j : ℕ) → i < j → j < length (destinations cs) →
      twins (destinations cs) i j ≡ true →
      (n < number_at (destinations cs) j) ⊎ ((n ≡ number_at (destinations cs) j) × (m ≤ number_at (destinations cs) i))
  twice_least m n h i j k l t = go (tri p.j j)
    where
      p : NamesPair (destinations cs) (Failure.Twice m n)
      p = twice_names cs (Failure.Twice m n) h

      low : (x y : ℕ) → Failure.Twice m n ≡ Failure.Twice x y → m ≡ x
      low x y e = cc

      high : (x y : ℕ) → Failure.Twice m n ≡ Failure.Twice x y → n ≡ y
      high x y e = cc

      up : (a b : ℕ) → a < b → b < length (destinations cs) → number_at (destinations cs) a < number_at (destinations cs) b
      up = rising_places 0 (destinations cs) (rising_numbers cs)

      near : p.j ≡ j → Tri p.i i → m ≤ number_at (destinations cs) i
      near e (less x) = let u = up p.i i x (omega arith) in let z = low _ _ p.names in omega arith
      near e (equal x) = let z = low _ _ p.names in rw (← x) (omega arith)
      near e (more x) = absurd (clash (twins (destinations cs) i j) t (rw e at (p.first.nearest i x)))

      go : Tri p.j j → (n < number_at (destinations cs) j) ⊎ ((n ≡ number_at (destinations cs) j) × (m ≤ number_at (destinations cs) i))
      go (less x) = let u = up p.j j x l in let z = high _ _ p.names in inl (omega arith)
      go (equal x) = inr (high _ _ p.names ∙ ap (number_at (destinations cs)) x, near x (tri p.i i))
      go (more x) = absurd (clash (twins (destinations cs) i j) t (p.first.before i j k x))

-- 8: the least change whose destination stands in the table
pub present_least :
    (ps : List Posting) (cs : List Change) (n : ℕ) → present_check ps cs ≡ Err (Failure.Present n) → (j : ℕ) →
    j < length (destinations cs) → present (get_or (destinations cs) j nowhere).posting ps ≡ true →
    n ≤ number_at (destinations cs) j
present_least ps cs n h j l e =
    let p = present_names ps cs (Failure.Present n) h in
    let k = p.2 in
    let z : n ≡ number_at (destinations cs) p.0 = cc in
    rw z (first_least _ (destinations cs) p.0 (rising_numbers cs) p.1 j l (rw e))

-- 9: the least change whose source is a destination of the list
pub overlap_least :
    (cs : List Change) (n : ℕ) → overlap_check cs ≡ Err (Failure.Overlap n) → (j : ℕ) → j < length (sources cs) →
    present (get_or (sources cs) j nowhere).posting (postings_of (destinations cs)) ≡ true →
    n ≤ number_at (sources cs) j
overlap_least cs n h j l e =
    let p = overlap_names cs (Failure.Overlap n) h in
    let k = p.2 in
    let z : n ≡ number_at (sources cs) p.0 = cc in
    rw z (first_least _ (sources cs) p.0 (rising_sources cs) p.1 j l (rw e))
