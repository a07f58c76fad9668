-- What a walk up a list still has before it: the item at its place, and the rest.
use Prim.Native.Nat.{ℕ, ◌+◌, ◌<◌, ◌≤◌}
use native.Mathlib.Numerals.{add-one}
use mathlib.Core.Path.{◌≡◌}
use mathlib.Core.List.{List, ◌∷◌}
use mathlib.Core.Bool.{Bool, true, ◌&&◌}
use lib.ListN.{length, drop, get_or, drop_of_length-le}
use lib.Seq.{drop-cons}
use Rattle.rules.specs.Postings.{every}

pub item_left :
    {A : Type 0} (none : A) (xs : List A) (i : ℕ) → i < length xs → drop i xs ≡ get_or xs i none ∷ drop (i + 1) xs
item_left none xs i h = rw (add-one i) (drop-cons xs i none h)

pub every_left :
    {A : Type 0} (f : A → Bool) (none : A) (xs : List A) (i : ℕ) (b : Bool) → i < length xs → f (get_or xs i none) ≡ b →
    every f (drop i xs) ≡ (b && every f (drop (i + 1) xs))
unfolding every
every_left f none xs i b h e = rw (item_left none xs i h, e)

pub every_none : {A : Type 0} (f : A → Bool) (xs : List A) (i : ℕ) → length xs ≤ i → every f (drop i xs) ≡ true
unfolding every
every_none f xs i h = rw (drop_of_length-le xs h)
