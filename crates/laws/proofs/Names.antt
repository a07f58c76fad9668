-- Each check that names something names the first, and where it passes nothing is bad.
use Rattle.std.proofs.Common.{Result, Ok, Err}
use Prim.Native.Nat.{ℕ, zero, suc, ◌+◌, ◌<◌}
use native.Mathlib.Nat.{zero-add}
use native.Mathlib.Omega.{arith}
use mathlib.Core.Path.{◌≡◌, refl, sym, ap, ◌∙◌}
use mathlib.Core.List.{List, [], ◌∷◌, ◌++◌}
use mathlib.Core.Bool.{Bool, true, false, not, ◌&&◌, ◌||◌, or-true}
use mathlib.Core.Logic.{◌⊎◌, inl, inr}
use mathlib.Mathlib.Data.Bool.Basic.{and_elim_left, and_elim_right}
use lib.ListN.{length, get_or, length-append, get_or-append}
use lib.Seq.{get_or-append_seam, append_snoc}
use lib.Dec.{eqb}
use borrow.Author.Tests.{eq-eqb, eqb-true, eqb-false, not-true, not-false}
use Rattle.rules.specs.declared.Posting.{Posting}
use Rattle.rules.specs.declared.Change.{Change}
use Rattle.rules.specs.declared.Guard.{Guard}
use Rattle.rules.specs.declared.Failure.{Failure}
use Rattle.rules.specs.Postings.{present}
use Rattle.rules.specs.Orders.{Numbered, held, destinations, sources, postings_of, no_change}
use Rattle.rules.specs.Checks.{must, or_else, first_refusal, first_failing, guarded, guard_check, recordable, record_from, record_check, first_equal, twice_from, twice_check, present_check, overlap_check}
use Rattle.lent_lists.specs.Among.{among}
use Rattle.lent_lists.proofs.Among.{place_among, among_place}
use Rattle.laws.specs.Words.{nowhere, number_at}
use Rattle.laws.specs.Names.{no_guard, FirstAt, NamesFirst, Apart, twins, FirstPair, NamesPair, Repeated, FirstBad, NamesBad, Holder, RefusedAt}
use Rattle.booleans.proofs.Tests.{impossible, clash, or_swap}
use Rattle.laws.proofs.Checks.{failing_first, failing_rest}

-- where none fails
pub failing_passes :
    {A : Type 0} (none : A) (test : A → Bool) (answer : ℕ → A → Failure) (i : ℕ) (xs : List A) →
    first_failing test answer i xs ≡ Ok tt → (k : ℕ) → k < length xs → test (get_or xs k none) ≡ true
failing_passes none test answer i [] h k l = absurd (omega arith)
failing_passes none test answer i (x ∷ xs) h zero l = failing_first test answer i x xs h
failing_passes none test answer i (x ∷ xs) h (suc k) l =
    failing_passes none test answer (i + 1) xs (failing_rest test answer i x xs h) k (omega arith)

-- where one fails, the first is named
pub failing_names :
    {A : Type 0} (none : A) (test : A → Bool) (answer : ℕ → A → Failure) (i : ℕ) (xs : List A) (a : Failure) →
    first_failing test answer i xs ≡ Err a → NamesFirst none test answer i xs a
unfolding first_failing
failing_names none test answer i [] a h = impossible (cc)
failing_names none test answer i (x ∷ xs) a h = go (test x) refl (failing_names none test answer (i + 1) xs a) h
  where
    refused : {v w : Failure} → ◌≡◌ {A = Result Unit Failure} (Err v) (Err w) → v ≡ w
    refused {v} {w} e = cc

    go :
        (b : Bool) → test x ≡ b →
        (first_failing test answer (i + 1) xs ≡ Err a → NamesFirst none test answer (i + 1) xs a) →
        or_else (must b (answer i x)) (first_failing test answer (i + 1) xs) ≡ Err a →
        NamesFirst none test answer i (x ∷ xs) a
    go false e ih h =
        let n : i ≡ i + 0 = omega arith in
        record {
          at = 0;
          first = record { there = omega arith; fails = e; before = λ k l. absurd (omega arith) };
          names = sym (refused h) ∙ ap (λ k. answer k x) n;
        }
    go true e ih h =
        let r = ih h in
        let n : i + 1 + r.at ≡ i + suc r.at = omega arith in
        record {
          at = suc r.at;
          first =
              record {
                there = let t = r.first.there in omega arith;
                fails = r.first.fails;
                before = λ k l. earlier r.at r.first.before k l;
              };
          names = r.names ∙ ap (λ k. answer k (get_or xs r.at none)) n;
        }
      where
        earlier :
            (m : ℕ) → ((k : ℕ) → k < m → test (get_or xs k none) ≡ true) → (k : ℕ) → k < suc m →
            test (get_or (x ∷ xs) k none) ≡ true
        earlier m f zero l = e
        earlier m f (suc k) l = f k (omega arith)

-- 6
module _ (bindings : ℕ) (gs : List Guard) (cs : List Change) where
  pub guard_passes :
      guard_check bindings gs cs ≡ Ok tt → (k : ℕ) → k < length cs → guarded bindings gs (get_or cs k no_change) ≡ true
  unfolding guard_check
  guard_passes h = failing_passes no_change _ _ 0 cs h

  pub guard_names :
      (a : Failure) → guard_check bindings gs cs ≡ Err a →
      (k : ℕ) × FirstAt (guarded bindings gs) no_change cs k × (a ≡ Failure.Guard k)
  unfolding guard_check
  guard_names a h =
      let n = failing_names no_change _ _ 0 cs a h in
      (n.at, n.first, n.names ∙ ap Failure.Guard (zero-add n.at))

-- 8
module _ (ps : List Posting) (cs : List Change) where
  pub present_passes :
      present_check ps cs ≡ Ok tt → (k : ℕ) → k < length (destinations cs) →
      present (get_or (destinations cs) k nowhere).posting ps ≡ false
  unfolding present_check
  present_passes h k l = not-true _ (failing_passes nowhere _ _ 0 (destinations cs) h k l)

  pub present_names :
      (a : Failure) → present_check ps cs ≡ Err a →
      (k : ℕ) × FirstAt (λ (d : Numbered). not (present d.posting ps)) nowhere (destinations cs) k × (a ≡ Failure.Present (number_at (destinations cs) k))
  unfolding present_check
  present_names a h =
      let n = failing_names nowhere _ _ 0 (destinations cs) a h in
      (n.at, n.first, n.names)

-- 9
module _ (cs : List Change) where
  pub overlap_passes :
      overlap_check cs ≡ Ok tt → (k : ℕ) → k < length (sources cs) →
      present (get_or (sources cs) k nowhere).posting (postings_of (destinations cs)) ≡ false
  unfolding overlap_check
  overlap_passes h k l = not-true _ (failing_passes nowhere _ _ 0 (sources cs) h k l)

  pub overlap_names :
      (a : Failure) → overlap_check cs ≡ Err a →
      (k : ℕ) × FirstAt (λ (s : Numbered). not (present s.posting (postings_of (destinations cs)))) nowhere (sources cs) k × (a ≡ Failure.Overlap (number_at (sources cs) k))
  unfolding overlap_check
  overlap_names a h =
      let n = failing_names nowhere _ _ 0 (sources cs) a h in
      (n.at, n.first, n.names)

-- 7: the destination at place n, behind the earlier ones
module _ (all earlier : List Numbered) (d : Numbered) (ds : List Numbered) (e : all ≡ earlier ++ d ∷ ds) where
  at_earlier : (k : ℕ) → k < length earlier → get_or all k nowhere ≡ get_or earlier k nowhere
  at_earlier k h = rw e (get_or-append earlier (d ∷ ds) nowhere k h)

  at_here : get_or all (length earlier) nowhere ≡ d
  at_here = rw e (get_or-append_seam earlier d ds nowhere)

  within_all : length earlier < length all
  within_all = let n = length-append earlier (d ∷ ds) in let m = ap length e in omega arith

  further : all ≡ (earlier ++ d ∷ []) ++ ds
  further = e ∙ sym (append_snoc earlier d ds)

  longer : length (earlier ++ d ∷ []) ≡ length earlier + 1
  longer = length-append earlier (d ∷ [])

  -- d differs from the earlier ones
  apart_more : Apart all (length earlier) → first_equal d earlier ≡ Ok tt → Apart all (length (earlier ++ d ∷ []))
  unfolding first_equal
  apart_more f h l m x y = go (eqb m (length earlier)) refl
    where
      go : (b : Bool) → eqb m (length earlier) ≡ b → twins all l m ≡ false
      go true k =
          let z = eqb-true m (length earlier) k in
          rw (z, at_here, at_earlier l (omega arith)) (not-true _ (failing_passes nowhere _ _ 0 earlier h l (omega arith)))
      go false k =
          let z = eqb-false m (length earlier) k in
          let w = longer in
          f l m x (omega arith)

  pair_here :
      (a : Failure) → Apart all (length earlier) → first_equal d earlier ≡ Err a →
      (i : ℕ) × FirstPair all i (length earlier) × (a ≡ Failure.Twice (number_at all i) (number_at all (length earlier)))
  unfolding first_equal
  pair_here a f h =
      let n = failing_names nowhere _ _ 0 earlier a h in
      let t = n.first.there in (
        n.at,
        record {
          order = t;
          there = within_all;
          equal = rw (at_here, at_earlier n.at t) (not-false _ n.first.fails);
          nearest = λ l k. rw (at_here, at_earlier l (omega arith)) (not-true _ (n.first.before l k));
          before = f;
        },
        n.names ∙ (λ k. Failure.Twice (sym (at_earlier n.at t) k).number (sym at_here k).number),
      )

twice_from_lem :
    (all earlier ds : List Numbered) → all ≡ earlier ++ ds → Apart all (length earlier) →
    (twice_from earlier ds ≡ Ok tt → Apart all (length all)) × ((a : Failure) → twice_from earlier ds ≡ Err a → NamesPair all a)
unfolding twice_from
twice_from_lem all earlier [] e f = (
  (λ h. let n : length all ≡ length earlier = ap length e ∙ (length-append earlier [] ∙ omega arith) in rw n f),
  (λ a h. impossible (cc)),
)
twice_from_lem all earlier (d ∷ ds) e f =
    go (first_equal d earlier) refl
    (λ h. twice_from_lem all (earlier ++ d ∷ []) ds (further all earlier d ds e) (apart_more all earlier d ds e f h))
  where
    go :
        (v : Result Unit Failure) → first_equal d earlier ≡ v →
        (first_equal d earlier ≡ Ok tt → (twice_from (earlier ++ d ∷ []) ds ≡ Ok tt → Apart all (length all)) × ((a : Failure) → twice_from (earlier ++ d ∷ []) ds ≡ Err a → NamesPair all a)) →
        (or_else v (twice_from (earlier ++ d ∷ []) ds) ≡ Ok tt → Apart all (length all)) × ((a : Failure) → or_else v (twice_from (earlier ++ d ∷ []) ds) ≡ Err a → NamesPair all a)
    go (Ok _) h ih = ih h
    go (Err b) h ih = (
      (λ k. impossible (cc)),
      (λ a k.
          let p = pair_here all earlier d ds e a f (h ∙ k) in
          record { i = p.0; j = length earlier; first = p.1; names = p.2 }),
    )

module _ (cs : List Change) where
  both_ways : (twice_from [] (destinations cs) ≡ Ok tt → Apart (destinations cs) (length (destinations cs))) × ((a : Failure) → twice_from [] (destinations cs) ≡ Err a → NamesPair (destinations cs) a)
  both_ways = twice_from_lem (destinations cs) [] (destinations cs) refl λ l m x y. absurd (omega arith)

  -- upstream's unique_destinations
  pub twice_passes : twice_check cs ≡ Ok tt → Apart (destinations cs) (length (destinations cs))
  unfolding twice_check
  twice_passes h = both_ways.0 h

  pub twice_names : (a : Failure) → twice_check cs ≡ Err a → NamesPair (destinations cs) a
  unfolding twice_check
  twice_names a h = both_ways.1 a h

-- 14: the numbers at earlier places
among_not : (n : ℕ) (ns : List ℕ) → among n ns ≡ false → (i : ℕ) → i < length ns → get_or ns i 0 ≡ n → ⊥
among_not n ns h i l e = clash (among n ns) (rw (← e) (place_among ns i l)) h

pub among_snoc : (n : ℕ) (ns : List ℕ) (m : ℕ) → among n (ns ++ m ∷ []) ≡ (eqb n m || among n ns)
unfolding among
among_snoc n [] m = refl
among_snoc n (x ∷ xs) m = rw (among_snoc n xs m) (or_swap (eqb n x) (eqb n m) (among n xs))

-- a place is fine: its number means a destination and is new there
abbrev Fine : List Change → List ℕ → ℕ → Type 0
Fine cs ns i = (recordable cs (get_or ns i 0) ≡ true) × (Repeated ns i → ⊥)

abbrev AllFine : List Change → List ℕ → ℕ → Type 0
AllFine cs ns k = (i : ℕ) → i < k → Fine cs ns i

-- the number at place `length pre`, behind those before it, of which `earlier` keeps the tally
module _ (cs : List Change) (all pre : List ℕ) (n : ℕ) (ns earlier : List ℕ) (e : all ≡ pre ++ n ∷ ns) (f : (m : ℕ) → among m earlier ≡ among m pre) where
  number_before : (k : ℕ) → k < length pre → get_or all k 0 ≡ get_or pre k 0
  number_before k h = rw e (get_or-append pre (n ∷ ns) 0 k h)

  number_here : get_or all (length pre) 0 ≡ n
  number_here = rw e (get_or-append_seam pre n ns 0)

  place_here : length pre < length all
  place_here = let x = length-append pre (n ∷ ns) in let y = ap length e in omega arith

  repeat_here : among n earlier ≡ true → Repeated all (length pre)
  repeat_here h =
      let r = among_place n pre (sym (f n) ∙ h) in
      record { at = r.0; earlier = r.1; equal = number_before r.0 r.1 ∙ (r.2 ∙ sym number_here) }

  no_repeat_here : among n earlier ≡ false → Repeated all (length pre) → ⊥
  no_repeat_here h r =
      among_not n pre (sym (f n) ∙ h) r.at r.earlier (sym (number_before r.at r.earlier) ∙ (r.equal ∙ number_here))

  numbers_further : all ≡ (pre ++ n ∷ []) ++ ns
  numbers_further = e ∙ sym (append_snoc pre n ns)

  tally : (m : ℕ) → among m (n ∷ earlier) ≡ among m (pre ++ n ∷ [])
  unfolding among
  tally m = ap (λ b. eqb m n || b) (f m) ∙ sym (among_snoc m pre n)

  fine_more :
      AllFine cs all (length pre) → recordable cs n ≡ true → among n earlier ≡ false → AllFine cs all (length (pre ++ n ∷ []))
  fine_more g h k i l = go (eqb i (length pre)) refl
    where
      go : (b : Bool) → eqb i (length pre) ≡ b → Fine cs all i
      go true x =
          rw (eqb-true i (length pre) x) (ap (recordable cs) number_here ∙ h, no_repeat_here k)
      go false x = let z = eqb-false i (length pre) x in let w = length-append pre (n ∷ []) in g i (omega arith)

  bad_here : AllFine cs all (length pre) → (recordable cs n && not (among n earlier)) ≡ false → FirstBad cs all (length pre)
  bad_here g h = record { there = place_here; bad = go (recordable cs n) refl h; before = g }
    where
      go :
          (b : Bool) → recordable cs n ≡ b → (b && not (among n earlier)) ≡ false →
          (recordable cs (get_or all (length pre) 0) ≡ false) ⊎ Repeated all (length pre)
      go true x y = inr (repeat_here (not-false (among n earlier) y))
      go false x y = inl (ap (recordable cs) number_here ∙ x)

record_from_lem :
    (cs : List Change) (all pre ns earlier : List ℕ) → all ≡ pre ++ ns → ((m : ℕ) → among m earlier ≡ among m pre) →
    AllFine cs all (length pre) →
    (record_from (length pre) cs earlier ns ≡ Ok tt → AllFine cs all (length all)) × ((a : Failure) → record_from (length pre) cs earlier ns ≡ Err a → NamesBad cs all a)
unfolding record_from
record_from_lem cs all pre [] earlier e f g = (
  (λ h. let n : length all ≡ length pre = ap length e ∙ (length-append pre [] ∙ omega arith) in rw n g),
  (λ a h. impossible (cc)),
)
record_from_lem cs all pre (n ∷ ns) earlier e f g =
    go (recordable cs n && not (among n earlier)) refl
    (λ h.
    rw (length-append pre (n ∷ [])) at
    (record_from_lem cs all (pre ++ n ∷ []) ns (n ∷ earlier) (numbers_further cs all pre n ns earlier e f) (tally cs all pre n ns earlier e f)
    (fine_more cs all pre n ns earlier e f g (and_elim_left (recordable cs n) (not (among n earlier)) h) (not-true (among n earlier) (and_elim_right (recordable cs n) (not (among n earlier)) h)))))
  where
    Both : Result Unit Failure → Type 0
    Both v = (v ≡ Ok tt → AllFine cs all (length all)) × ((a : Failure) → v ≡ Err a → NamesBad cs all a)

    go :
        (b : Bool) → (recordable cs n && not (among n earlier)) ≡ b →
        ((recordable cs n && not (among n earlier)) ≡ true → Both (record_from (length pre + 1) cs (n ∷ earlier) ns)) →
        Both (or_else (must b (Failure.Record (length pre))) (record_from (length pre + 1) cs (n ∷ earlier) ns))
    go true h ih = ih h
    go false h ih = (
      (λ k. impossible (cc)),
      (λ a k. record { at = length pre; first = bad_here cs all pre n ns earlier e f g h; names = same_refusal k }),
    )
      where
        same_refusal :
            {a : Failure} → ◌≡◌ {A = Result Unit Failure} (Err (Failure.Record (length pre))) (Err a) → a ≡ Failure.Record (length pre)
        same_refusal {a} k = cc

module _ (cs : List Change) (list : List ℕ) where
  record_both : (record_from 0 cs [] list ≡ Ok tt → AllFine cs list (length list)) × ((a : Failure) → record_from 0 cs [] list ≡ Err a → NamesBad cs list a)
  record_both = record_from_lem cs list [] list [] refl (λ m. refl) λ i h. absurd (omega arith)

  -- upstream's valid_indices
  pub record_passes :
      record_check cs list ≡ Ok tt → (i : ℕ) → i < length list →
      (recordable cs (get_or list i 0) ≡ true) × (Repeated list i → ⊥)
  unfolding record_check
  record_passes h = record_both.0 h

  pub record_names : (a : Failure) → record_check cs list ≡ Err a → NamesBad cs list a
  unfolding record_check
  record_names a h = record_both.1 a h

-- a pair is held exactly if some guard is that pair
pub held_at :
    (binding key : ℕ) (gs : List Guard) → held binding key gs ≡ true → Holder binding key gs
unfolding held
held_at binding key [] h = absurd (clash false h refl)
held_at binding key (g ∷ gs) h = go (eqb binding g.binding && eqb key g.key) refl (held_at binding key gs) h
  where
    go :
        (b : Bool) → (eqb binding g.binding && eqb key g.key) ≡ b → (held binding key gs ≡ true → Holder binding key gs) →
        (b || held binding key gs) ≡ true → Holder binding key (g ∷ gs)
    go true e ih k =
        record {
          at = 0;
          there = omega arith;
          bindings = sym (eqb-true binding g.binding (and_elim_left (eqb binding g.binding) (eqb key g.key) e));
          keys = sym (eqb-true key g.key (and_elim_right (eqb binding g.binding) (eqb key g.key) e));
        }
    go false e ih k =
        let r = ih k in
        record { at = suc r.at; there = (let t = r.there in omega arith); bindings = r.bindings; keys = r.keys }

pub at_held :
    (binding key : ℕ) (gs : List Guard) (i : ℕ) → i < length gs → (get_or gs i no_guard).binding ≡ binding →
    (get_or gs i no_guard).key ≡ key → held binding key gs ≡ true
unfolding held
at_held binding key [] i l b k = absurd (omega arith)
at_held binding key (g ∷ gs) zero l b k = rw (eq-eqb binding g.binding (sym b), eq-eqb key g.key (sym k))
at_held binding key (g ∷ gs) (suc i) l b k = rw (at_held binding key gs i (omega arith) b k) (or-true (eqb binding g.binding && eqb key g.key))

-- of a list of checks the first that refuses gives the answer
pub refused_at : (vs : List (Result Unit Failure)) (a : Failure) → first_refusal vs ≡ Err a → RefusedAt vs a
unfolding first_refusal
refused_at [] a h = impossible (cc)
refused_at (v ∷ vs) a h = go v (refused_at vs a) h
  where
    go :
        (w : Result Unit Failure) → (first_refusal vs ≡ Err a → RefusedAt vs a) → or_else w (first_refusal vs) ≡ Err a →
        RefusedAt (w ∷ vs) a
    go (Err b) ih k =
        record { at = 0; there = omega arith; refuses = k; before = λ i l. absurd (omega arith) }
    go (Ok _) ih k =
        let r = ih k in
        record {
          at = suc r.at;
          there = (let t = r.there in omega arith);
          refuses = r.refuses;
          before = earlier r.at r.before;
        }
      where
        earlier :
            (m : ℕ) → ((i : ℕ) → i < m → get_or vs i (Ok tt) ≡ Ok tt) → (i : ℕ) → i < suc m →
            get_or ((Ok tt) ∷ vs) i (Ok tt) ≡ Ok tt
        earlier m f zero l = refl
        earlier m f (suc i) l = f i (omega arith)
