-- The guards: how many they are, and a pair looked for among them (answer 6).
use Rattle.std.proofs.Common.{ℕ, suc, ◌+◌, ◌*◌, ◌/◌, ◌<◌, ◌≡◌, refl, ap, arith, List, [], ◌∷◌, ◌&&◌, ◌||◌, length, eqb}
use mathlib.Core.Bool.{true}
use mathlib.Mathlib.Data.Bool.Basic.{and_elim_left, and_elim_right}
use borrow.Author.Tests.{eqb-true, eq-eqb}
use Rattle.booleans.proofs.Tests.{equal_tests}
use Rattle.std.specs.List.{list_any}
use Rattle.std.specs.Simd.{first_chunks}
use Rattle.rules.specs.Orders.{guards, held}
use Rattle.checks.specs.Keys.{is_pair}

pub guards_length : (l : List ℕ) → length (guards l) ≡ length l / 2
unfolding guards
guards_length [] = refl
guards_length (a ∷ []) = refl
guards_length (a ∷ b ∷ rest) = let ih = guards_length rest in omega arith

-- the guards, pair by pair
pub held_by_chunks :
    (binding key : ℕ) (l : List ℕ) → list_any (is_pair binding key) (first_chunks 2 (length l / 2) l) ≡ held binding key (guards l)
unfolding held guards
held_by_chunks binding key [] = refl
held_by_chunks binding key (a ∷ []) = refl
held_by_chunks binding key (a ∷ b ∷ rest) =
    let n : length (a ∷ b ∷ rest) / 2 ≡ suc (length rest / 2) = omega arith in
    rw n (ap (λ v. (eqb binding a && eqb key b) || v) (held_by_chunks binding key rest))

-- two pairs as one number each: the second number of a pair counts 2 ^ 32 times, so that each number is told
pub pair_as_one :
    (a b c d : ℕ) → a < 4294967296 → c < 4294967296 →
    eqb (a + b * 4294967296) (c + d * 4294967296) ≡ (eqb a c && eqb b d)
pair_as_one a b c d p q = equal_tests (eqb (a + b * 4294967296) (c + d * 4294967296)) (eqb a c && eqb b d) parts whole
  where
    parts : eqb (a + b * 4294967296) (c + d * 4294967296) ≡ true → (eqb a c && eqb b d) ≡ true
    parts h =
        let e = eqb-true (a + b * 4294967296) (c + d * 4294967296) h in
        rw (eq-eqb a c (omega arith), eq-eqb b d (omega arith)) refl

    whole : (eqb a c && eqb b d) ≡ true → eqb (a + b * 4294967296) (c + d * 4294967296) ≡ true
    whole h =
        let e = eqb-true a c (and_elim_left (eqb a c) (eqb b d) h) in
        let f = eqb-true b d (and_elim_right (eqb a c) (eqb b d) h) in
        eq-eqb (a + b * 4294967296) (c + d * 4294967296) (omega arith)
