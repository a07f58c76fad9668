-- Cases on a test and on two numbers, and the few truths of Booleans that the laws share.
use Prim.Native.Nat.{ℕ, ◌<◌}
use native.Mathlib.Omega.{arith}
use mathlib.Core.Path.{◌≡◌, refl, sym}
use mathlib.Core.Bool.{Bool, true, false, cond, ◌||◌}
use mathlib.Core.Logic.{◌⊎◌, inl, inr}
use lib.Dec.{ltb}
use borrow.Author.Tests.{ltb-true, ltb-false}

-- hypotheses that cannot hold together, of which `cc` finds that 0 is 1, show anything
pub impossible : {A : Type 0} → ◌≡◌ {A = ℕ} 0 1 → A
impossible e = absurd (omega arith)

-- what holds in both cases of a test holds of the choice
pub by_cases : {A : Type 0} (P : A → Type 0) (b : Bool) {x y : A} → (b ≡ true → P x) → (b ≡ false → P y) → P (cond b x y)
by_cases P true f g = f refl
by_cases P false f g = g refl

-- a test is true or false
pub either : (b : Bool) → (b ≡ true) ⊎ (b ≡ false)
either true = inl refl
either false = inr refl

-- how two numbers stand to each other
pub data Tri (a b : ℕ) : Type 0 where
  less : a < b → Tri a b
  equal : a ≡ b → Tri a b
  more : b < a → Tri a b

-- any two numbers stand in one of these ways
pub tri : (a b : ℕ) → Tri a b
tri a b = go (ltb a b) refl (ltb b a) refl
  where
    go : (x : Bool) → ltb a b ≡ x → (y : Bool) → ltb b a ≡ y → Tri a b
    go true p y q = less (ltb-true a b p)
    go false p true q = more (ltb-true b a q)
    go false p false q =
        let h = ltb-false a b p in
        let k = ltb-false b a q in
        equal (omega arith)

-- no test is both true and false
pub clash : (b : Bool) → b ≡ true → b ≡ false → ⊥
clash b p q = impossible (cc)

-- where a choice of two tests is false, so is the first
pub or_left : (a b : Bool) → (a || b) ≡ false → a ≡ false
or_left true b h = h
or_left false b h = refl

-- and so is the second
pub or_right : (a b : Bool) → (a || b) ≡ false → b ≡ false
or_right true b h = absurd (clash true refl h)
or_right false b h = h

-- where two tests are false, so is their choice
pub neither : (a b : Bool) → a ≡ false → b ≡ false → (a || b) ≡ false
neither a b p q = rw (p, q)

-- of three tests the first two may change places
pub or_swap : (a b c : Bool) → (a || (b || c)) ≡ (b || (a || c))
or_swap true true c = refl
or_swap true false c = refl
or_swap false true c = refl
or_swap false false c = refl

-- a true choice of two tests comes of one of them
pub or_cases : (a b : Bool) → (a || b) ≡ true → (a ≡ true) ⊎ (b ≡ true)
or_cases true b h = inl refl
or_cases false b h = inr h

-- two tests that imply each other are equal
pub equal_tests : (a b : Bool) → (a ≡ true → b ≡ true) → (b ≡ true → a ≡ true) → a ≡ b
equal_tests true true f g = refl
equal_tests true false f g = sym (f refl)
equal_tests false true f g = g refl
equal_tests false false f g = refl
