-- Small cases of the guards by computation: their limit, and that repeats, any order and any binding are allowed.
use Rattle.std.specs.Prelude.{ℕ, ◌≡◌, refl, [], ◌∷◌, ◌++◌, true, false, replicate}
use Rattle.rules.specs.declared.Guard.{Guard}
use Rattle.rules.specs.Orders.{held, proper_guards}
use Rattle.rules.specs.Trial.{computing}
use Rattle.guarding.specs.Asking.{flat, unheld_from, unheld_place}

-- a guard by its numbers
abbrev pub guard : ℕ → ℕ → Guard
guard binding key = record { binding = binding; key = key }

-- 1,024 guards are taken, and one more is not, though all are equal; no guard is taken too
pub guard_limit :
    proper_guards (flat (replicate 1024 (guard 0 5))) ∷ proper_guards (flat (replicate 1025 (guard 0 5))) ∷ proper_guards (flat []) ∷ []
    ≡ true ∷ false ∷ true ∷ []
unfolding computing flat
guard_limit = refl

-- repeats, a descending order and a binding that no index has are taken
pub guards_taken :
    proper_guards (flat (guard 0 5 ∷ guard 0 5 ∷ [])) ∷ proper_guards (flat (guard 1 9 ∷ guard 0 6 ∷ guard 0 5 ∷ []))
    ∷ proper_guards (flat (guard 4294967295 5 ∷ []))
    ∷ []
    ≡ true ∷ true ∷ true ∷ []
unfolding computing flat
guards_taken = refl

-- a pair is held wherever it stands, the last of 1,024 too, and however often; binding and key are not exchanged, and both count
pub guards_held :
    held 0 5 (guard 1 9 ∷ guard 0 6 ∷ guard 0 5 ∷ []) ∷ held 0 5 (guard 0 5 ∷ guard 0 5 ∷ [])
    ∷ held 4294967295 5 (guard 4294967295 5 ∷ [])
    ∷ held 1 9 (replicate 1023 (guard 0 5) ++ guard 1 9 ∷ [])
    ∷ held 5 0 (guard 0 5 ∷ [])
    ∷ held 0 6 (guard 0 5 ∷ guard 1 6 ∷ [])
    ∷ held 0 5 []
    ∷ []
    ≡ true ∷ true ∷ true ∷ true ∷ false ∷ false ∷ false ∷ []
unfolding computing
guards_held = refl

-- row 1 of binding 0 goes from key 5 to key 6: place 0 asks for key 5, place 1 for key 6, and past them all is held; beside guards
-- over their limit nothing is asked, nor where the poison flag is set
pub unheld_places :
    unheld_place 0 [] (0 ∷ 1 ∷ 1 ∷ 5 ∷ 1 ∷ 6 ∷ []) ∷ unheld_place 0 (guard 0 5 ∷ []) (0 ∷ 1 ∷ 1 ∷ 5 ∷ 1 ∷ 6 ∷ [])
    ∷ unheld_place 0 (guard 0 6 ∷ guard 0 5 ∷ []) (0 ∷ 1 ∷ 1 ∷ 5 ∷ 1 ∷ 6 ∷ [])
    ∷ unheld_place 0 (replicate 1025 (guard 0 5)) (0 ∷ 1 ∷ 1 ∷ 5 ∷ 1 ∷ 6 ∷ [])
    ∷ unheld_place 1 (guard 0 5 ∷ []) (0 ∷ 1 ∷ 1 ∷ 5 ∷ 1 ∷ 6 ∷ [])
    ∷ []
    ≡ 0 ∷ 1 ∷ 2 ∷ 0 ∷ 0 ∷ []
unfolding computing unheld_from
unheld_places = refl
