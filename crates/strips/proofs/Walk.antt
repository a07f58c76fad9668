-- The strip's limit apart from its bytes, these by the library's walk, and what holds of each place of a stretch.
use Prim.Native.Nat.{ℕ, zero, suc, ◌+◌, ◌≤◌, ◌<◌}
use native.Mathlib.Omega.{arith}
use mathlib.Core.Path.{◌≡◌, refl, ap}
use mathlib.Core.List.{List, [], ◌∷◌}
use mathlib.Core.Bool.{Bool, true, false, ◌&&◌}
use mathlib.Mathlib.Data.Bool.Basic.{and_elim_left, and_elim_right}
use lib.ListN.{length}
use lib.Dec.{leb, ltb}
use borrow.Author.Tests.{le-leb, lt-leb, leb-true, ltb-true, ltb-false}
use Rattle.std.specs.List.{list_all}
use Rattle.strips.specs.Strips.{most_bytes, proper_bytes, proper_strip, byte_at}

pub strip_over : (strip : List ℕ) → most_bytes < length strip → proper_strip strip ≡ false
unfolding proper_strip
strip_over strip h = rw (lt-leb (length strip) most_bytes h)

pub strip_within : (strip : List ℕ) → length strip ≤ most_bytes → proper_strip strip ≡ proper_bytes strip
unfolding proper_strip
strip_within strip h = rw (le-leb (length strip) most_bytes h)

-- no byte above 2, by the library's walk
pub bytes_all : (strip : List ℕ) → list_all (λ byte. leb byte 2) strip ≡ proper_bytes strip
unfolding proper_bytes
bytes_all [] = refl
bytes_all (b ∷ bs) = ap (λ v. leb b 2 && v) (bytes_all bs)

-- a proper strip has no byte above 2
pub byte_most : (strip : List ℕ) (i : ℕ) → proper_bytes strip ≡ true → byte_at strip i ≤ 2
unfolding proper_bytes
byte_most [] i h = omega arith
byte_most (b ∷ bs) zero h = leb-true b 2 (and_elim_left (leb b 2) (proper_bytes bs) h)
byte_most (b ∷ bs) (suc i) h = byte_most bs i (and_elim_right (leb b 2) (proper_bytes bs) h)

-- what holds of a place holds of each of the stretch that it is
pub stretch_one : (P : ℕ → Type 0) (at : ℕ) → P at → (i : ℕ) → at ≤ i → i < at + 1 → P i
stretch_one P at h i k l = let e : i ≡ at = omega arith in rw e h

-- two stretches, one behind the other
pub stretch_join :
    (P : ℕ → Type 0) (from via to : ℕ) → ((i : ℕ) → from ≤ i → i < via → P i) → ((i : ℕ) → via ≤ i → i < to → P i) → (i : ℕ) →
    from ≤ i → i < to → P i
stretch_join P from via to p q i k l = go (ltb i via) refl
  where
    go : (b : Bool) → ltb i via ≡ b → P i
    go true e = p i k (ltb-true i via e)
    go false e = q i (ltb-false i via e) l
