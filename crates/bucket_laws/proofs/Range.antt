-- The check of the range: it passes exactly where every element is below the count, and else names the first that is not.
use Prim.Native.Nat.{ℕ, zero, suc, ◌<◌, ◌≤◌}
use native.Mathlib.Omega.{arith}
use mathlib.Core.Path.{◌≡◌, refl, sym, ap, subst, ◌∙◌}
use mathlib.Core.List.{List, [], ◌∷◌}
use mathlib.Core.Bool.{Bool, true, false}
use mathlib.Core.Logic.{◌↔◌}
use lib.ListN.{get_or}
use lib.Dec.{ltb}
use borrow.Author.Tests.{ltb-true, ltb-false}
use Rattle.std.proofs.Common.{Ok, Err}
use Rattle.booleans.proofs.Tests.{by_cases}
use Rattle.bucket_rules.specs.declared.Failure.{Failure}
use Rattle.bucket_rules.specs.Calls.{Verdict, range_check}
use Rattle.bucket_laws.specs.Clauses.{InRange, FirstInvalid}

-- what the check finds, and where
pub data Ranged (input : List ℕ) (count : ℕ) : Verdict → Type 0 where
  inside : InRange input count → Ranged input count (Ok tt)
  outside : {b : ℕ} → FirstInvalid input count b → Ranged input count (Err (Failure.Range b))

-- one element more that is below the count, before others that are
range_next : (b : ℕ) (rest : List ℕ) (count : ℕ) → b < count → InRange rest count → InRange (b ∷ rest) count
range_next b rest count h r zero k = h
range_next b rest count h r (suc i) k = r i (omega arith)

-- an element that is below the count stands before the first that is not
first_next :
    (b : ℕ) (rest : List ℕ) (count bad : ℕ) → b < count → FirstInvalid rest count bad → FirstInvalid (b ∷ rest) count bad
first_next b rest count bad h f = (
  suc f.0,
  record { within = let k = f.1.within in omega arith; holds = f.1.holds; over = f.1.over; before = before },
)
  where
    before : (j : ℕ) → j < suc f.0 → get_or (b ∷ rest) j 0 < count
    before zero k = h
    before (suc j) k = f.1.before j (omega arith)

-- an element that is not below the count, at the front, is the first
first_here : (b : ℕ) (rest : List ℕ) (count : ℕ) → count ≤ b → FirstInvalid (b ∷ rest) count b
first_here b rest count h =
    (0, record { within = omega arith; holds = refl; over = h; before = λ j k. absurd (omega arith) })

-- what the check finds
pub ranged : (input : List ℕ) (count : ℕ) → Ranged input count (range_check count input)
unfolding range_check
ranged [] count = Ranged.inside (λ i h. absurd (omega arith))
ranged (b ∷ rest) count =
    by_cases (Ranged (b ∷ rest) count) (ltb b count)
    (λ h. go (ltb-true b count h) (range_check count rest) (ranged rest count))
    (λ h. Ranged.outside (first_here b rest count (ltb-false b count h)))
  where
    go : b < count → (v : Verdict) → Ranged rest count v → Ranged (b ∷ rest) count v
    go h v (Ranged.inside r) = Ranged.inside (range_next b rest count h r)
    go h v (Ranged.outside f) = Ranged.outside (first_next b rest count _ h f)

-- where an element is not below the count, not all are
pub first_not_in_range : (input : List ℕ) (count bad : ℕ) → FirstInvalid input count bad → InRange input count → ⊥
first_not_in_range input count bad f r =
    let low = r f.0 f.1.within in let e = f.1.holds in let high = f.1.over in omega arith

-- no first place is before another
first_not_before :
    (input : List ℕ) (count a b : ℕ) (f : FirstInvalid input count a) (g : FirstInvalid input count b) → g.0 ≤ f.0
first_not_before input count a b f g = go (ltb f.0 g.0) refl
  where
    go : (t : Bool) → ltb f.0 g.0 ≡ t → g.0 ≤ f.0
    go true h =
        let low = g.1.before f.0 (ltb-true f.0 g.0 h) in
        let e = f.1.holds in
        let high = f.1.over in
        absurd (omega arith)
    go false h = ltb-false f.0 g.0 h

-- the first element that is not below the count is one number
pub first_unique :
    (input : List ℕ) (count a b : ℕ) → FirstInvalid input count a → FirstInvalid input count b → a ≡ b
first_unique input count a b f g =
    let low = first_not_before input count a b f g in
    let high = first_not_before input count b a g f in
    let e : f.0 ≡ g.0 = omega arith in
    sym f.1.holds ∙ (ap (λ (i : ℕ). get_or input i 0) e ∙ g.1.holds)

-- what can be found is what the check finds
pub range_placed : (input : List ℕ) (count : ℕ) (v : Verdict) → Ranged input count v → range_check count input ≡ v
range_placed input count v k = go (range_check count input) (ranged input count) v k
  where
    go : (u : Verdict) → Ranged input count u → (w : Verdict) → Ranged input count w → u ≡ w
    go u (Ranged.inside r) w (Ranged.inside q) = refl
    go u (Ranged.inside r) w (Ranged.outside {b} f) = absurd (first_not_in_range input count b f r)
    go u (Ranged.outside {b} f) w (Ranged.inside r) = absurd (first_not_in_range input count b f r)
    go u (Ranged.outside {b = a} f) w (Ranged.outside {b = b} g) = rw (first_unique input count a b f g)

-- a passed check, taken apart
ranged_inside : (input : List ℕ) (count : ℕ) → Ranged input count (Ok tt) → InRange input count
ranged_inside input count (Ranged.inside r) = r

-- a refusal of the check, taken apart
ranged_outside :
    (input : List ℕ) (count b : ℕ) → Ranged input count (Err (Failure.Range b)) → FirstInvalid input count b
ranged_outside input count b (Ranged.outside f) = f

-- the check passes exactly where every element is below the count
pub range_passes_exactly : (input : List ℕ) (count : ℕ) → (range_check count input ≡ Ok tt) ↔ InRange input count
range_passes_exactly input count = (
  λ e. ranged_inside input count (subst (Ranged input count) e (ranged input count)),
  λ r. range_placed input count (Ok tt) (Ranged.inside r),
)

-- the check names an element exactly where that is the first that is not below the count
pub range_names_exactly :
    (input : List ℕ) (count b : ℕ) →
    (range_check count input ≡ Err (Failure.Range b)) ↔ FirstInvalid input count b
range_names_exactly input count b = (
  λ e. ranged_outside input count b (subst (Ranged input count) e (ranged input count)),
  λ f. range_placed input count (Err (Failure.Range b)) (Ranged.outside f),
)
