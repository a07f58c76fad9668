-- A change list turn by turn: its length, the change at a place, what a loop that has reached a place still has before it, and what it has behind it.
use Rattle.std.proofs.Common.{Option, Some, None}
use Prim.Native.Nat.{ℕ, zero, suc, ◌+◌, ◌*◌, ◌/◌, ◌<◌, ◌≤◌}
use native.Mathlib.Numerals.{add-one}
use native.Mathlib.Omega.{arith}
use mathlib.Core.Path.{◌≡◌, refl, sym, ◌∙◌}
use mathlib.Core.List.{List, [], ◌∷◌, ◌++◌}
use lib.ListN.{length, take, drop, get_or, drop_of_length-le}
use lib.Seq.{take-suc, length-take-le, get_or-drop}
use Rattle.rules.specs.declared.Change.{Change}
use Rattle.rules.specs.Orders.{Numbered, key_of, changes, destination_of, source_of, named, destinations_from, sources_from, destinations, no_change}
use Rattle.laws.proofs.Left.{item_left}

pub changes_length : (l : List ℕ) → length (changes l) ≡ length l / 6
unfolding changes
changes_length [] = refl
changes_length (a ∷ []) = refl
changes_length (a ∷ b ∷ []) = refl
changes_length (a ∷ b ∷ c ∷ []) = refl
changes_length (a ∷ b ∷ c ∷ d ∷ []) = refl
changes_length (a ∷ b ∷ c ∷ d ∷ e ∷ []) = refl
changes_length (a ∷ b ∷ c ∷ d ∷ e ∷ f ∷ rest) = let ih = changes_length rest in omega arith

-- the change that a list's first six numbers mean
change_of : List ℕ → Change
change_of l =
    record {
      binding = get_or l 0 0;
      row = get_or l 1 0;
      before = key_of (get_or l 2 0) (get_or l 3 0);
      after = key_of (get_or l 4 0) (get_or l 5 0);
    }

change_of_lem : (l : List ℕ) (i : ℕ) → i < length (changes l) → get_or (changes l) i no_change ≡ change_of (drop (i * 6) l)
unfolding changes change_of
change_of_lem [] i h = absurd (omega arith)
change_of_lem (a ∷ []) i h = absurd (omega arith)
change_of_lem (a ∷ b ∷ []) i h = absurd (omega arith)
change_of_lem (a ∷ b ∷ c ∷ []) i h = absurd (omega arith)
change_of_lem (a ∷ b ∷ c ∷ d ∷ []) i h = absurd (omega arith)
change_of_lem (a ∷ b ∷ c ∷ d ∷ e ∷ []) i h = absurd (omega arith)
change_of_lem (a ∷ b ∷ c ∷ d ∷ e ∷ f ∷ rest) zero h = refl
change_of_lem (a ∷ b ∷ c ∷ d ∷ e ∷ f ∷ rest) (suc i) h =
    let n : suc i * 6 ≡ suc (suc (suc (suc (suc (suc (i * 6)))))) = omega arith in
    rw n (change_of_lem rest i (omega arith))

-- the change at a place, number by number
pub change_read :
    (l : List ℕ) (i : ℕ) → i < length (changes l) →
    get_or (changes l) i no_change ≡ record
    { binding = get_or l (i * 6) 0; row = get_or l (i * 6 + 1) 0; before = key_of (get_or l (i * 6 + 2) 0) (get_or l (i * 6 + 3) 0); after = key_of (get_or l (i * 6 + 4) 0) (get_or l (i * 6 + 5) 0) }
unfolding change_of
change_read l i h = let n : i * 6 + 0 ≡ i * 6 = omega arith in change_of_lem l i h ∙ simp (get_or-drop, n)

pub destinations_left :
    (cs : List Change) (i : ℕ) → i < length cs →
    destinations_from i (drop i cs) ≡ named i (get_or cs i no_change) (destination_of (get_or cs i no_change))
    (destinations_from (i + 1) (drop (i + 1) cs))
unfolding destinations_from
destinations_left cs i h = rw (item_left no_change cs i h)

pub sources_left :
    (cs : List Change) (i : ℕ) → i < length cs →
    sources_from i (drop i cs) ≡ named i (get_or cs i no_change) (source_of (get_or cs i no_change))
    (sources_from (i + 1) (drop (i + 1) cs))
unfolding sources_from
sources_left cs i h = rw (item_left no_change cs i h)

pub destinations_none : (cs : List Change) (i : ℕ) → length cs ≤ i → destinations_from i (drop i cs) ≡ []
unfolding destinations_from
destinations_none cs i h = rw (drop_of_length-le cs h)

pub sources_none : (cs : List Change) (i : ℕ) → length cs ≤ i → sources_from i (drop i cs) ≡ []
unfolding sources_from
sources_none cs i h = rw (drop_of_length-le cs h)

-- what a change names, before others and before more
pub named_append :
    (n : ℕ) (c : Change) (k : Option ℕ) (ds es : List Numbered) → named n c k ds ++ es ≡ named n c k (ds ++ es)
named_append n c None ds es = refl
named_append n c (Some key) ds es = refl

-- one more change at the end
pub destinations_last :
    (i : ℕ) (cs : List Change) (c : Change) →
    destinations_from i (cs ++ c ∷ []) ≡ destinations_from i cs ++ named (i + length cs) c (destination_of c) []
unfolding destinations_from
destinations_last i [] c = let n : i + 0 ≡ i = omega arith in rw n
destinations_last i (x ∷ cs) c =
    let n : i + 1 + length cs ≡ i + suc (length cs) = omega arith in
    rw (destinations_last (i + 1) cs c, n)
    (sym (named_append i x (destination_of x) (destinations_from (i + 1) cs) (named (i + suc (length cs)) c (destination_of c) [])))

-- one more change passed
pub destinations_behind :
    (cs : List Change) (i : ℕ) → i < length cs →
    destinations (take (i + 1) cs) ≡ destinations (take i cs) ++ named i (get_or cs i no_change)
    (destination_of (get_or cs i no_change)) []
destinations_behind cs i h =
    let k : i ≤ length cs = omega arith in
    let n : 0 + length (take i cs) ≡ i = omega (arith, length-take-le i cs k) in
    rw (add-one i, take-suc cs i no_change h) (destinations_last 0 (take i cs) (get_or cs i no_change) ∙ rw n)
