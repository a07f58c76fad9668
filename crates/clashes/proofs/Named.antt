-- The first posting that is marked, among those that changes name (7, 8 and 9); and a posting looked for among the destinations
-- (9).
use Rattle.std.proofs.Common.{Option, Some, None, Result, Ok, ℕ}
use Prim.Native.Nat.{ℕ, ◌+◌, ◌<◌, ◌≤◌}
use mathlib.Core.Path.{◌≡◌, refl, ap}
use mathlib.Core.List.{List, [], ◌∷◌}
use mathlib.Core.Bool.{Bool, false, not, ◌&&◌, ◌||◌, and_assoc}
use Rattle.std.proofs.Math.Bool.{and_comm}
use lib.Dec.{eqb}
use lib.ListN.{length, drop, get_or}
use Rattle.rules.specs.declared.Posting.{Posting}
use Rattle.rules.specs.declared.Change.{Change}
use Rattle.rules.specs.declared.Failure.{Failure}
use Rattle.rules.specs.Postings.{same, present}
use Rattle.rules.specs.Orders.{destination_of, source_of, Numbered, named, destinations_from, sources_from, destinations, postings_of, no_change}
use Rattle.rules.specs.Checks.{must, or_else, first_failing, present_check, overlap_check}
use Rattle.laws.proofs.Ranks.{same_turned, derived_equality}
use Rattle.changes.proofs.Walk.{destinations_left, sources_left, destinations_none, sources_none}
use Rattle.clashes.specs.Keys.{under_key, goes_to, destination_in, source_in}
use Rattle.clashes.specs.Pairs.{first_of}

-- an answer that does not speak of the place is the same from any place on
any_place :
    {A : Type 0} (test : A → Bool) (answer : A → Failure) (i j : ℕ) (xs : List A) →
    first_failing test (λ k x. answer x) i xs ≡ first_failing test (λ k x. answer x) j xs
unfolding first_failing
any_place test answer i j [] = refl
any_place test answer i j (x ∷ xs) = ap (or_else (must (test x) (answer x))) (any_place test answer (i + 1) (j + 1) xs)

module _ (marked : Posting → Bool) (answer : ℕ → Failure) where
  first_named :
      (i : ℕ) (c : Change) (key : Option ℕ) (others : List Numbered) →
      first_of marked answer (named i c key others) ≡ or_else (must (not (under_key c key marked)) (answer i))
      (first_of marked answer others)
  unfolding first_failing
  first_named i c None others = refl
  first_named i c (Some key) others =
      ap (or_else (must (not (marked (record { binding = c.binding; key = key; row = c.row }))) (answer i)))
      (any_place (λ (d : Numbered). not (marked d.posting)) (λ (d : Numbered). answer d.number) (0 + 1) 0 others)

  module _ (cs : List Change) (i : ℕ) where
    -- of the destinations from change i on the first marked is that of change i, where it is marked, or else the first after it
    pub first_destination :
        (c : Change) → i < length cs → c ≡ get_or cs i no_change →
        first_of marked answer (destinations_from i (drop i cs)) ≡ or_else (must (not (under_key c (destination_of c) marked)) (answer i))
        (first_of marked answer (destinations_from (i + 1) (drop (i + 1) cs)))
    first_destination c h r =
        rw (destinations_left cs i h, ← r) (first_named i c (destination_of c) (destinations_from (i + 1) (drop (i + 1) cs)))

    -- so it is of the sources
    pub first_source :
        (c : Change) → i < length cs → c ≡ get_or cs i no_change →
        first_of marked answer (sources_from i (drop i cs)) ≡ or_else (must (not (under_key c (source_of c) marked)) (answer i))
        (first_of marked answer (sources_from (i + 1) (drop (i + 1) cs)))
    first_source c h r =
        rw (sources_left cs i h, ← r) (first_named i c (source_of c) (sources_from (i + 1) (drop (i + 1) cs)))

    -- past the last change no destination is marked
    pub no_destination : length cs ≤ i → first_of marked answer (destinations_from i (drop i cs)) ≡ Ok tt
    unfolding first_failing
    no_destination h = rw (destinations_none cs i h)

    -- nor is a source
    pub no_source : length cs ≤ i → first_of marked answer (sources_from i (drop i cs)) ≡ Ok tt
    unfolding first_failing
    no_source h = rw (sources_none cs i h)

-- two postings are one exactly if their rows are, and their keys and bindings
pub row_first : (p q : Posting) → same p q ≡ (eqb p.row q.row && (eqb p.key q.key && eqb p.binding q.binding))
row_first p q =
    let b = eqb p.binding q.binding in
    let k = eqb p.key q.key in
    let r = eqb p.row q.row in
    rw (← derived_equality p q, and_comm b (k && r), and_comm k r) (and_assoc r k b)

-- the destinations from a change on, among which p is looked for
module _ (p : Posting) where
  present_named :
      (i : ℕ) (c : Change) (key : Option ℕ) (others : List Numbered) →
      present p (postings_of (named i c key others)) ≡ (under_key c key (λ d. same d p) || present p (postings_of others))
  unfolding present
  present_named i c None others = refl
  present_named i c (Some key) others =
      ap (λ b. b || present p (postings_of others)) (same_turned p (record { binding = c.binding; key = key; row = c.row }))

  -- p is among those from change i on exactly if change i goes to it or it is among those after
  pub present_left :
      (cs : List Change) (i : ℕ) → i < length cs →
      present p (postings_of (destinations_from i (drop i cs))) ≡
      (goes_to (get_or cs i no_change) p || present p (postings_of (destinations_from (i + 1) (drop (i + 1) cs))))
  present_left cs i h =
      rw (destinations_left cs i h)
      (present_named i (get_or cs i no_change) (destination_of (get_or cs i no_change)) (destinations_from (i + 1) (drop (i + 1) cs)))

  -- past the last change it is not among them
  pub present_none :
      (cs : List Change) (i : ℕ) → length cs ≤ i → present p (postings_of (destinations_from i (drop i cs))) ≡ false
  unfolding present
  present_none cs i h = rw (destinations_none cs i h)

-- 8 PRESENT of the changes from number i on
pub presents_from : List Posting → ℕ → List Change → Result Unit Failure
presents_from ps i cs = first_of (λ d. present d ps) Failure.Present (destinations_from i cs)

module _ (ps : List Posting) (cs : List Change) where
  pub presents_all : present_check ps cs ≡ presents_from ps 0 cs
  unfolding present_check presents_from
  presents_all = refl

  module _ (i : ℕ) where
    pub presents_left :
        i < length cs →
        presents_from ps i (drop i cs) ≡
        or_else (must (not (destination_in (get_or cs i no_change) ps)) (Failure.Present i)) (presents_from ps (i + 1) (drop (i + 1) cs))
    unfolding presents_from
    presents_left h = first_destination (λ d. present d ps) Failure.Present cs i (get_or cs i no_change) h refl

    pub presents_none : length cs ≤ i → presents_from ps i (drop i cs) ≡ Ok tt
    unfolding presents_from
    presents_none h = no_destination (λ d. present d ps) Failure.Present cs i h

-- 9 OVERLAP of the changes from number i on, beside these destinations
pub overlaps_from : List Posting → ℕ → List Change → Result Unit Failure
overlaps_from ds i cs = first_of (λ s. present s ds) Failure.Overlap (sources_from i cs)

pub overlaps_all : (cs : List Change) → overlap_check cs ≡ overlaps_from (postings_of (destinations cs)) 0 cs
unfolding overlap_check overlaps_from
overlaps_all cs = refl

module _ (ds : List Posting) (cs : List Change) (i : ℕ) where
  pub overlaps_left :
      i < length cs →
      overlaps_from ds i (drop i cs) ≡
      or_else (must (not (source_in (get_or cs i no_change) ds)) (Failure.Overlap i)) (overlaps_from ds (i + 1) (drop (i + 1) cs))
  unfolding overlaps_from
  overlaps_left h = first_source (λ s. present s ds) Failure.Overlap cs i (get_or cs i no_change) h refl

  pub overlaps_none : length cs ≤ i → overlaps_from ds i (drop i cs) ≡ Ok tt
  unfolding overlaps_from
  overlaps_none h = no_source (λ s. present s ds) Failure.Overlap cs i h
