-- The numbers that each call may answer with; it uses no other.
use Rattle.std.specs.Prelude.{ℕ, List, [], ◌∷◌}

-- prepare: 0 to 8, 10, 11 and 12
abbrev pub prepare_numbers : List ℕ
prepare_numbers = 0 ∷ 1 ∷ 2 ∷ 3 ∷ 4 ∷ 5 ∷ 6 ∷ 7 ∷ 8 ∷ 10 ∷ 11 ∷ 12 ∷ []

-- rollback: 0 to 4, 6, 12 and 14
abbrev pub rollback_numbers : List ℕ
rollback_numbers = 0 ∷ 1 ∷ 2 ∷ 3 ∷ 4 ∷ 6 ∷ 12 ∷ 14 ∷ []

-- source removal: 0 to 4, 6 and 13
abbrev pub removal_numbers : List ℕ
removal_numbers = 0 ∷ 1 ∷ 2 ∷ 3 ∷ 4 ∷ 6 ∷ 13 ∷ []

-- publish: 0 to 13
abbrev pub publish_numbers : List ℕ
publish_numbers = 0 ∷ 1 ∷ 2 ∷ 3 ∷ 4 ∷ 5 ∷ 6 ∷ 7 ∷ 8 ∷ 9 ∷ 10 ∷ 11 ∷ 12 ∷ 13 ∷ []

-- count: 0, 1, 2 and 6
abbrev pub count_numbers : List ℕ
count_numbers = 0 ∷ 1 ∷ 2 ∷ 6 ∷ []
