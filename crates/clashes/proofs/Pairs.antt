-- Answer 7: the search for two equal destinations, for a later change j among the changes i before it.
use Rattle.std.proofs.Common.{Option, Some, None, Result, Ok, ℕ}
use Prim.Native.Nat.{ℕ, ◌+◌, ◌<◌, ◌≤◌}
use native.Mathlib.Omega.{arith}
use mathlib.Core.Path.{◌≡◌, refl, sym, ◌∙◌}
use mathlib.Core.List.{List, [], ◌∷◌, ◌++◌, append-nil}
use mathlib.Core.Bool.{true, not}
use lib.ListN.{length, take, drop}
use lib.Seq.{length-take-le, get_or-take}
use Rattle.rules.specs.declared.Change.{Change}
use Rattle.rules.specs.declared.Failure.{Failure}
use Rattle.rules.specs.Postings.{same}
use Rattle.rules.specs.Orders.{destination_of, Numbered, named, destinations_from, destinations, no_change}
use Rattle.rules.specs.Checks.{must, or_else, first_failing, first_equal, twice_from, twice_check}
use Rattle.changes.proofs.Walk.{destinations_left, destinations_none, destinations_behind}
use Rattle.clashes.specs.Keys.{under_key, one_destination}
use Rattle.clashes.specs.Pairs.{at, sought, seek}
use Rattle.clashes.proofs.Named.{first_destination, no_destination}

-- a change with no destination equals none
sought_missing :
    (j i : ℕ) (earlier : List Numbered) →
    first_failing {A = Numbered} (λ e. true) (λ k e. Failure.Twice e.number j) i earlier ≡ Ok tt
unfolding first_failing
sought_missing j i [] = refl
sought_missing j i (e ∷ earlier) = sought_missing j (i + 1) earlier

twice_named :
    (j : ℕ) (c : Change) (key : Option ℕ) (earlier others : List Numbered) →
    twice_from earlier (named j c key others) ≡ or_else (sought j c key earlier) (twice_from (earlier ++ named j c key []) others)
unfolding twice_from first_equal sought
twice_named j c None earlier others = rw (sought_missing j 0 earlier, append-nil earlier)
twice_named j c (Some key) earlier others = refl

-- the same question, asked of the earlier change first or of the later
either_way :
    (a : Change) (k : Option ℕ) (b : Change) (m : Option ℕ) →
    under_key a k (λ e. under_key b m (same e)) ≡ under_key b m (λ d. under_key a k (λ e. same e d))
either_way a None b None = refl
either_way a None b (Some m) = refl
either_way a (Some k) b None = refl
either_way a (Some k) b (Some m) = refl

-- the changes from j on, each beside those before it
pub pairs_from : List Change → ℕ → Result Unit Failure
pairs_from cs j = twice_from (destinations (take j cs)) (destinations_from j (drop j cs))

-- the search for two equal destinations is the one from the first change on
pub pairs_all : (cs : List Change) → twice_check cs ≡ pairs_from cs 0
unfolding twice_check pairs_from destinations_from
pairs_all cs = refl

-- past the last change there is no pair left
pub pairs_none : (cs : List Change) (j : ℕ) → length cs ≤ j → pairs_from cs j ≡ Ok tt
unfolding pairs_from twice_from
pairs_none cs j h = rw (destinations_none cs j h)

module _ (cs : List Change) (j : ℕ) (h : j < length cs) where
  reached : length (take j cs) ≡ j
  reached = length-take-le j cs (omega arith)

  pub seek_left :
      (i : ℕ) → i < j →
      seek cs j i ≡ or_else (must (not (one_destination (at cs i) (at cs j))) (Failure.Twice i j)) (seek cs j (i + 1))
  unfolding seek sought
  seek_left i k =
      first_destination (λ e. under_key (at cs j) (destination_of (at cs j)) (same e)) (λ n. Failure.Twice n j) (take j cs) i
      (at cs i)
      (rw reached k)
      (sym (get_or-take j cs i no_change k))
      ∙ rw (either_way (at cs i) (destination_of (at cs i)) (at cs j) (destination_of (at cs j))) refl

  pub seek_none : (i : ℕ) → j ≤ i → seek cs j i ≡ Ok tt
  unfolding seek sought
  seek_none i k =
      no_destination (λ e. under_key (at cs j) (destination_of (at cs j)) (same e)) (λ n. Failure.Twice n j) (take j cs) i
      (rw reached k)

  pub pairs_left : pairs_from cs j ≡ or_else (seek cs j 0) (pairs_from cs (j + 1))
  unfolding pairs_from seek
  pairs_left =
      rw (destinations_left cs j h, destinations_behind cs j h)
      (twice_named j (at cs j) (destination_of (at cs j)) (destinations (take j cs))
      (destinations_from (j + 1) (drop (j + 1) cs)))
