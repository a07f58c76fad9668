-- The lettered orders A, B, C, D, E, F, K, M and N, one table under a single claim.
use Rattle.std.specs.Prelude.{ℕ, ◌≡◌, refl, List, [], ◌∷◌}
use Rattle.rules.specs.declared.Told.{Told}
use Rattle.rules.specs.Answers.{told_of}
use Rattle.rules.specs.Calls.{Outcome, publish_of}
use Rattle.rules.specs.Trial.{computing}

-- a row of the table: answer with what it names, used, poison, the whole table and the whole record list
pub record Row : Type 0 where
  pub told : Told
  pub used : ℕ
  pub poisoned : ℕ
  pub table : List ℕ
  pub record_list : List ℕ

-- what is seen of an outcome
unfoldable pub seen : Outcome → Row
seen o =
    record {
      told = told_of o.answer;
      used = o.head.used;
      poisoned = o.head.poisoned;
      table = o.table;
      record_list = o.record_list;
    }

-- a row by its numbers; its answer names one value
unfoldable pub row : ℕ → ℕ → ℕ → ℕ → List ℕ → List ℕ → Row
row answer named used poisoned table list =
    record {
      told = record { answer = answer; named = named; other = 0 };
      used = used;
      poisoned = poisoned;
      table = table;
      record_list = list;
    }

-- binding count 2, used 2; guards (0,5), (0,6), (1,9); a record list of three places that hold 77
unfoldable pub order : List ℕ → List ℕ → List ℕ → Row
order table cs strip =
    seen
    (publish_of (record { bindings = 2; used = 2; poisoned = 0 }) table
    (record { change_list = cs; guard_list = 0 ∷ 5 ∷ 0 ∷ 6 ∷ 1 ∷ 9 ∷ []; strip = strip; record_list = 77 ∷ 77 ∷ 77 ∷ [] }))

-- the table of the orders cut to six numbers: (0,5,1), (0,5,2)
abbrev pub short : List ℕ
short = 0 ∷ 5 ∷ 1 ∷ 0 ∷ 5 ∷ 2 ∷ []

-- and whole, with two free places
abbrev pub whole : List ℕ
whole = 0 ∷ 5 ∷ 1 ∷ 0 ∷ 5 ∷ 2 ∷ 0 ∷ 0 ∷ 0 ∷ 0 ∷ 0 ∷ 0 ∷ []

-- moves a row
abbrev pub changes_A : List ℕ
changes_A = 0 ∷ 1 ∷ 1 ∷ 5 ∷ 1 ∷ 6 ∷ []

-- takes one away
abbrev pub changes_B : List ℕ
changes_B = 0 ∷ 1 ∷ 1 ∷ 5 ∷ 0 ∷ 0 ∷ []

-- brings three where there is room for two
abbrev pub changes_C : List ℕ
changes_C = 1 ∷ 7 ∷ 0 ∷ 0 ∷ 1 ∷ 9 ∷ 1 ∷ 8 ∷ 0 ∷ 0 ∷ 1 ∷ 9 ∷ 1 ∷ 9 ∷ 0 ∷ 0 ∷ 1 ∷ 9 ∷ []

-- moves two
abbrev pub changes_F : List ℕ
changes_F = 0 ∷ 1 ∷ 1 ∷ 5 ∷ 1 ∷ 6 ∷ 0 ∷ 2 ∷ 1 ∷ 5 ∷ 1 ∷ 6 ∷ []

-- takes away what it brings
abbrev pub changes_K : List ℕ
changes_K = 0 ∷ 3 ∷ 0 ∷ 0 ∷ 1 ∷ 6 ∷ 0 ∷ 3 ∷ 1 ∷ 6 ∷ 0 ∷ 0 ∷ []

-- the record list as it was lent
abbrev pub untouched : List ℕ
untouched = 77 ∷ 77 ∷ 77 ∷ []

-- A B C D E F K M N: D and E are C with a strip, M is A on the table cut to six numbers, N has no change
pub lettered :
    (order whole changes_A []
    ∷ order whole changes_B []
    ∷ order whole changes_C []
    ∷ order whole changes_C (0 ∷ 0 ∷ 0 ∷ 1 ∷ 0 ∷ [])
    ∷ order whole changes_C (0 ∷ 0 ∷ 0 ∷ 2 ∷ 0 ∷ [])
    ∷ order whole changes_F (0 ∷ 0 ∷ 1 ∷ [])
    ∷ order whole changes_K []
    ∷ order short changes_A []
    ∷ order whole [] []
    ∷ [])
    ≡ (row 0 1 2 0 (0 ∷ 5 ∷ 2 ∷ 0 ∷ 6 ∷ 1 ∷ 0 ∷ 0 ∷ 0 ∷ 0 ∷ 0 ∷ 0 ∷ []) (0 ∷ 77 ∷ 77 ∷ [])
    ∷ row 0 0 1 0 (0 ∷ 5 ∷ 2 ∷ 0 ∷ 0 ∷ 0 ∷ 0 ∷ 0 ∷ 0 ∷ 0 ∷ 0 ∷ 0 ∷ []) untouched
    ∷ row 11 2 2 0 whole untouched
    ∷ row 12 2 3 1 (0 ∷ 5 ∷ 1 ∷ 0 ∷ 5 ∷ 2 ∷ 1 ∷ 9 ∷ 8 ∷ 0 ∷ 0 ∷ 0 ∷ []) untouched
    ∷ row 12 2 2 1 whole untouched
    ∷ row 13 0 4 1 (0 ∷ 5 ∷ 1 ∷ 0 ∷ 5 ∷ 2 ∷ 0 ∷ 6 ∷ 1 ∷ 0 ∷ 6 ∷ 2 ∷ []) (0 ∷ 1 ∷ 77 ∷ [])
    ∷ row 9 1 2 0 whole untouched
    ∷ row 11 0 2 0 short untouched
    ∷ row 0 0 2 0 whole untouched
    ∷ [])
unfolding computing seen row order
lettered = refl
