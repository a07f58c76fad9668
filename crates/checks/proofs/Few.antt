-- Numbers below a bound, none of them twice, are at most as many as the bound.
use Prim.Native.Nat.{ℕ, zero, suc, ◌<◌, ◌≤◌}
use native.Mathlib.Omega.{arith}
use mathlib.Core.Path.{◌≡◌, refl}
use mathlib.Core.List.{List, [], ◌∷◌}
use mathlib.Core.Bool.{Bool, true, false, cond}
use lib.ListN.{length}
use lib.Dec.{eqb}
use borrow.Author.Tests.{eqb-true, eqb-false}
use Rattle.lent_lists.specs.Among.{among}
use Rattle.booleans.proofs.Tests.{or_left, or_right, neither}

pub data Few (bound : ℕ) : List ℕ → Type 0 where
  none : Few bound []
  more : {n : ℕ} {ns : List ℕ} → n < bound → among n ns ≡ false → Few bound ns → Few bound (n ∷ ns)

-- the list without a number
without : ℕ → List ℕ → List ℕ
without k [] = []
without k (n ∷ ns) = cond (eqb k n) (without k ns) (n ∷ without k ns)

among_without : (k m : ℕ) (ns : List ℕ) → among m ns ≡ false → among m (without k ns) ≡ false
unfolding among without
among_without k m [] h = refl
among_without k m (n ∷ ns) h = go (eqb k n) (among_without k m ns (or_right (eqb m n) (among m ns) h))
  where
    go : (b : Bool) → among m (without k ns) ≡ false → among m (cond b (without k ns) (n ∷ without k ns)) ≡ false
    go true ih = ih
    go false ih = neither (eqb m n) (among m (without k ns)) (or_left (eqb m n) (among m ns) h) ih

without_absent : (k : ℕ) (ns : List ℕ) → among k ns ≡ false → without k ns ≡ ns
unfolding among without
without_absent k [] h = refl
without_absent k (n ∷ ns) h =
    rw (or_left (eqb k n) (among k ns) h, without_absent k ns (or_right (eqb k n) (among k ns) h))

few_without : (bound : ℕ) (ns : List ℕ) → Few (suc bound) ns → Few bound (without bound ns)
unfolding without
few_without bound [] f = none
few_without bound (n ∷ ns) (more h a f) = go (eqb bound n) refl (few_without bound ns f)
  where
    go :
        (b : Bool) → eqb bound n ≡ b → Few bound (without bound ns) →
        Few bound (cond b (without bound ns) (n ∷ without bound ns))
    go true e ih = ih
    go false e ih =
        let d = eqb-false bound n e in
        let k : n < bound = omega arith in
        more k (among_without bound n ns a) ih

length_without : (bound : ℕ) (ns : List ℕ) → Few (suc bound) ns → length ns ≤ suc (length (without bound ns))
unfolding without
length_without bound [] f = omega arith
length_without bound (n ∷ ns) (more h a f) = go (eqb bound n) refl (length_without bound ns f)
  where
    go :
        (b : Bool) → eqb bound n ≡ b → length ns ≤ suc (length (without bound ns)) →
        length (n ∷ ns) ≤ suc (length (cond b (without bound ns) (n ∷ without bound ns)))
    go true e ih = rw (without_absent bound ns (rw (eqb-true bound n e) a)) (omega arith)
    go false e ih = omega arith

pub few_length : (bound : ℕ) (ns : List ℕ) → Few bound ns → length ns ≤ bound
few_length zero [] f = omega arith
few_length zero (n ∷ ns) (more h a f) = absurd (omega arith)
few_length (suc bound) ns f =
    let ih = few_length bound (without bound ns) (few_without bound ns f) in
    let k = length_without bound ns f in
    omega arith
