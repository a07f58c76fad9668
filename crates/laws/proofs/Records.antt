-- The record of a change list: the ascending numbers of its destinations, which rollback takes and understands.
use Rattle.std.proofs.Common.{Option, Some, None, Ok, ℕ}
use Prim.Native.Nat.{ℕ, zero, suc, ◌+◌, ◌≤◌, ◌<◌}
use native.Mathlib.Nat.{zero-add}
use native.Mathlib.Omega.{arith}
use mathlib.Core.Path.{◌≡◌, refl, sym, ap, subst, ◌∙◌}
use mathlib.Core.List.{List, [], ◌∷◌, reverse_aux, reverse}
use mathlib.Core.Bool.{true, false, ◌||◌, or-true, or-false, or_assoc}
use mathlib.Mathlib.Data.Bool.Basic.{and_elim_left, and_elim_right, and_intro}
use lib.ListN.{length, get_or}
use lib.Dec.{eqb, leb, leb-suc-suc}
use borrow.Author.Tests.{leb-true, eq-eqb, ne_eqb, lt-ltb, le-leb, le-ltb}
use Rattle.rules.specs.declared.Posting.{Posting}
use Rattle.rules.specs.declared.Change.{Change}
use Rattle.rules.specs.Postings.{same, present, inserted}
use Rattle.rules.specs.Orders.{Numbered, named, destination_of, source_of, destinations_from, sources_from, destinations, sources, change_numbers, postings_of, no_change, recorded}
use Rattle.rules.specs.Checks.{is_named, recordable, record_from}
use Rattle.lent_lists.specs.Among.{among}
use Rattle.laws.specs.Words.{added, taken_away, rising}
use Rattle.booleans.proofs.Tests.{neither, or_swap}
use Rattle.laws.proofs.Undo.{Put, put_back}
use Rattle.laws.proofs.Prepare.{Fresh}

-- the changes cs are those of the whole list from number i on
record Behind (all : List Change) (i : ℕ) (cs : List Change) : Type 0 where
  same_there : (k : ℕ) → get_or all (i + k) no_change ≡ get_or cs k no_change
  size : length all ≡ i + length cs

behind_all : (cs : List Change) → Behind cs 0 cs
behind_all cs = record { same_there = λ k. rw (zero-add k); size = sym (zero-add (length cs)) }

module _ (all : List Change) (i : ℕ) (c : Change) (cs : List Change) (b : Behind all i (c ∷ cs)) where
  behind_here : get_or all i no_change ≡ c
  behind_here = let e : i ≡ i + 0 = omega arith in ap (λ k. get_or all k no_change) e ∙ b.same_there 0

  behind_rest : Behind all (i + 1) cs
  behind_rest =
      record {
        same_there = λ k. let e : i + 1 + k ≡ i + suc k = omega arith in ap (λ n. get_or all n no_change) e ∙ b.same_there (suc k);
        size = let s = b.size in omega arith;
      }

-- what the record names are the destinations themselves, in the same order
recorded_from :
    (all : List Change) (i : ℕ) (cs : List Change) → Behind all i cs →
    recorded all (change_numbers (destinations_from i cs)) ≡ destinations_from i cs
unfolding recorded destinations_from
recorded_from all i [] b = refl
recorded_from all i (c ∷ cs) b = go (destination_of c) refl (recorded_from all (i + 1) cs (behind_rest all i c cs b))
  where
    go :
        (k : Option ℕ) → destination_of c ≡ k → recorded all (change_numbers (destinations_from (i + 1) cs)) ≡ destinations_from (i + 1) cs →
        recorded all (change_numbers (named i c k (destinations_from (i + 1) cs))) ≡ named i c k (destinations_from (i + 1) cs)
    go None e ih = ih
    go (Some key) e ih =
        ap (λ (x : Change). named i x (destination_of x) (recorded all (change_numbers (destinations_from (i + 1) cs)))) (behind_here all i c cs b)
        ∙ (ap (λ k. named i c k (recorded all (change_numbers (destinations_from (i + 1) cs)))) e ∙ ap (λ l. named i c (Some key) l) ih)

pub recorded_numbers : (cs : List Change) → recorded cs (change_numbers (destinations cs)) ≡ destinations cs
recorded_numbers cs = recorded_from cs 0 cs (behind_all cs)

-- its numbers ascend
rising_later : (low high : ℕ) (ns : List ℕ) → low ≤ high → rising high ns ≡ true → rising low ns ≡ true
unfolding rising
rising_later low high [] h r = refl
rising_later low high (n ∷ ns) h r =
    let k = leb-true high n (and_elim_left (leb high n) (rising (n + 1) ns) r) in
    and_intro (le-leb low n (omega arith)) (and_elim_right (leb high n) (rising (n + 1) ns) r)

rising_named :
    (i : ℕ) (c : Change) (k : Option ℕ) (others : List Numbered) → rising (i + 1) (change_numbers others) ≡ true →
    rising i (change_numbers (named i c k others)) ≡ true
unfolding rising
rising_named i c None others h = rising_later i (i + 1) (change_numbers others) (omega arith) h
rising_named i c (Some key) others h = and_intro (le-leb i i (omega arith)) h

rising_from : (i : ℕ) (cs : List Change) → rising i (change_numbers (destinations_from i cs)) ≡ true
unfolding destinations_from rising
rising_from i [] = refl
rising_from i (c ∷ cs) = rising_named i c (destination_of c) (destinations_from (i + 1) cs) (rising_from (i + 1) cs)

pub rising_numbers : (cs : List Change) → rising 0 (change_numbers (destinations cs)) ≡ true
rising_numbers cs = rising_from 0 cs

-- so do those of the sources
rising_sources_from : (i : ℕ) (cs : List Change) → rising i (change_numbers (sources_from i cs)) ≡ true
unfolding sources_from rising
rising_sources_from i [] = refl
rising_sources_from i (c ∷ cs) = rising_named i c (source_of c) (sources_from (i + 1) cs) (rising_sources_from (i + 1) cs)

pub rising_sources : (cs : List Change) → rising 0 (change_numbers (sources cs)) ≡ true
rising_sources cs = rising_sources_from 0 cs

-- a number is in it exactly if its change has a destination
among_below : (j low : ℕ) (ns : List ℕ) → j < low → rising low ns ≡ true → among j ns ≡ false
unfolding among rising
among_below j low [] h r = refl
among_below j low (n ∷ ns) h r =
    let k = leb-true low n (and_elim_left (leb low n) (rising (n + 1) ns) r) in
    neither (eqb j n) (among j ns) (ne_eqb j n (λ e. omega arith))
    (among_below j (n + 1) ns (omega arith) (and_elim_right (leb low n) (rising (n + 1) ns) r))

recordable_next : (c : Change) (cs : List Change) (j : ℕ) → recordable (c ∷ cs) (suc j) ≡ recordable cs j
unfolding recordable
recordable_next c cs j = rw (leb-suc-suc (suc j) (length cs))

recordable_first : (c : Change) (cs : List Change) → recordable (c ∷ cs) 0 ≡ is_named (destination_of c)
unfolding recordable
recordable_first c cs = rw (lt-ltb 0 (suc (length cs)) (omega arith))

recordable_none : (j : ℕ) → recordable [] j ≡ false
unfolding recordable
recordable_none j = rw (le-ltb j 0 (omega arith))

among_from : (i : ℕ) (cs : List Change) (j : ℕ) → among (i + j) (change_numbers (destinations_from i cs)) ≡ recordable cs j
unfolding destinations_from among
among_from i [] j = sym (recordable_none j)
among_from i (c ∷ cs) zero = go (destination_of c) ∙ sym (recordable_first c cs)
  where
    go : (k : Option ℕ) → among (i + 0) (change_numbers (named i c k (destinations_from (i + 1) cs))) ≡ is_named k
    go None = among_below (i + 0) (i + 1) (change_numbers (destinations_from (i + 1) cs)) (omega arith) (rising_from (i + 1) cs)
    go (Some key) = rw (eq-eqb (i + 0) i (omega arith))
among_from i (c ∷ cs) (suc j) = go (destination_of c) (among_from (i + 1) cs j) ∙ sym (recordable_next c cs j)
  where
    go :
        (k : Option ℕ) → among (i + 1 + j) (change_numbers (destinations_from (i + 1) cs)) ≡ recordable cs j →
        among (i + suc j) (change_numbers (named i c k (destinations_from (i + 1) cs))) ≡ recordable cs j
    go None ih = let e : i + suc j ≡ i + 1 + j = omega arith in rw e ih
    go (Some key) ih =
        let e : i + suc j ≡ i + 1 + j = omega arith in
        let n : eqb (i + 1 + j) i ≡ false = ne_eqb (i + 1 + j) i (λ k. omega arith) in
        let there = change_numbers (named i c (Some key) (destinations_from (i + 1) cs)) in
        subst (λ (m : ℕ). among m there ≡ recordable cs j) (sym e) (rw n ih)

pub among_numbers : (cs : List Change) (j : ℕ) → among j (change_numbers (destinations cs)) ≡ recordable cs j
among_numbers cs j = ap (λ n. among n (change_numbers (destinations cs))) (sym (zero-add j)) ∙ among_from 0 cs j

-- and rollback takes it as it stands
pub recordable_numbers :
    (cs : List Change) (ns : List ℕ) → ((n : ℕ) → among n ns ≡ true → recordable cs n ≡ true) →
    (place low : ℕ) (earlier : List ℕ) → ((n : ℕ) → low ≤ n → among n earlier ≡ false) → rising low ns ≡ true →
    record_from place cs earlier ns ≡ Ok tt
unfolding record_from among rising
recordable_numbers cs [] f place low earlier g r = refl
recordable_numbers cs (n ∷ ns) f place low earlier g r =
    let k = leb-true low n (and_elim_left (leb low n) (rising (n + 1) ns) r) in
    rw (f n (rw (eq-eqb n n refl)), g n k)
    (recordable_numbers cs ns (λ m h. f m (rw h (or-true (eqb m n)))) (place + 1) (n + 1) (n ∷ earlier)
    (λ m h. neither (eqb m n) (among m earlier) (ne_eqb m n (λ e. omega arith)) (g m (omega arith)))
    (and_elim_right (leb low n) (rising (n + 1) ns) r))

pub record_taken : (cs : List Change) → record_from 0 cs [] (change_numbers (destinations cs)) ≡ Ok tt
unfolding among
record_taken cs =
    recordable_numbers cs (change_numbers (destinations cs)) (λ n h. sym (among_numbers cs n) ∙ h) 0 0 [] (λ n h. refl) (rising_numbers cs)

-- undone from its end, the record takes back all that was added
put_added :
    (base : List Posting) (ds done : List Numbered) (ps : List Posting) → Put base done ps → Fresh ds ps →
    Put base (reverse_aux ds done) (added ds ps)
unfolding added
put_added base [] done ps w f = w
put_added base (d ∷ ds) done ps w f = put_added base ds (d ∷ done) (inserted d.posting ps) (ps, refl, f.0, w) f.1

pub added_back : (ds : List Numbered) (ps : List Posting) → Fresh ds ps → taken_away (reverse ds) (added ds ps) ≡ ps
added_back ds ps f = put_back ps (reverse ds) (added ds ps) (put_added ps ds [] ps refl f)

-- a list and its reverse hold the same
present_reverse_onto :
    (p : Posting) (ds done : List Numbered) →
    present p (postings_of (reverse_aux ds done)) ≡ (present p (postings_of ds) || present p (postings_of done))
unfolding present
present_reverse_onto p [] done = refl
present_reverse_onto p (d ∷ ds) done =
    present_reverse_onto p ds (d ∷ done) ∙ (or_swap (present p (postings_of ds)) (same p d.posting) (present p (postings_of done)) ∙ sym (or_assoc (same p d.posting) (present p (postings_of ds)) (present p (postings_of done))))

pub present_reverse : (p : Posting) (ds : List Numbered) → present p (postings_of (reverse ds)) ≡ present p (postings_of ds)
unfolding present
present_reverse p ds = present_reverse_onto p ds [] ∙ or-false (present p (postings_of ds))
