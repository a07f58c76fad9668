-- A small history worked by computation: four calls that are right, a source that cannot be removed, and a call after it.
use Rattle.std.specs.Prelude.{ℕ, ◌≡◌, refl, List, [], ◌∷◌, map, true, false, replicate}
use Rattle.rules.specs.Table.{numbers}
use Rattle.rules.specs.Answers.{told_of}
use Rattle.rules.specs.Orders.{Call}
use Rattle.rules.specs.Calls.{Outcome}
use Rattle.rules.specs.Trial.{computing}
use Rattle.laws.specs.Words.{added, taken_away}
use Rattle.history.specs.History.{Index, Holds, counted_in, after, outcomes, unbroken, accepted, said}

-- binding count 2, room for four postings, none there
abbrev pub fresh : Index
fresh = record { head = record { bindings = 2; used = 0; poisoned = 0 }; table = replicate 12 0 }

-- well formed, unpoisoned and empty: the theorems speak of it
pub fresh_holds : Holds fresh []
unfolding computing
fresh_holds = record { formed = refl; healthy = refl; just = refl }

-- under guards (0,5) and (0,6), with two places for the record
abbrev pub call : List ℕ → List ℕ → Call
call cs strip =
    record { change_list = cs; guard_list = 0 ∷ 5 ∷ 0 ∷ 6 ∷ []; strip = strip; record_list = 77 ∷ 77 ∷ [] }

-- rows 1 and 2 come under key 5
abbrev pub two_come : List ℕ
two_come = 0 ∷ 1 ∷ 0 ∷ 0 ∷ 1 ∷ 5 ∷ 0 ∷ 2 ∷ 0 ∷ 0 ∷ 1 ∷ 5 ∷ []

-- row 1 moves from key 5 to key 6
abbrev pub one_moves : List ℕ
one_moves = 0 ∷ 1 ∷ 1 ∷ 5 ∷ 1 ∷ 6 ∷ []

-- row 3 comes under key 6
abbrev pub three_comes : List ℕ
three_comes = 0 ∷ 3 ∷ 0 ∷ 0 ∷ 1 ∷ 6 ∷ []

-- accepted; storage refuses (10); accepted; a destination that is there already (8)
abbrev pub good : List Call
good = call two_come [] ∷ call three_comes (1 ∷ []) ∷ call one_moves (0 ∷ 0 ∷ []) ∷ call one_moves [] ∷ []

-- row 2 moves, but its source stays (13); and what comes after is refused (2)
abbrev pub bad : List Call
bad =
    call two_come []
    ∷ call (0 ∷ 2 ∷ 1 ∷ 5 ∷ 1 ∷ 6 ∷ []) (0 ∷ 1 ∷ [])
    ∷ call three_comes []
    ∷ []

-- the numbers that the operator saw
abbrev pub answers_of : List Outcome → List ℕ
answers_of os = map (λ (o : Outcome). (told_of o.answer).answer) os

pub good_history :
    (answers_of (outcomes fresh good) ≡ 0 ∷ 10 ∷ 0 ∷ 8 ∷ [])
    × (unbroken fresh good ≡ true)
    × (accepted fresh good ≡ call two_come [] ∷ call one_moves (0 ∷ 0 ∷ []) ∷ [])
    × (numbers (said (accepted fresh good) []) ≡ 0 ∷ 5 ∷ 2 ∷ 0 ∷ 6 ∷ 1 ∷ [])
    × ((after fresh good).table ≡ 0 ∷ 5 ∷ 2 ∷ 0 ∷ 6 ∷ 1 ∷ 0 ∷ 0 ∷ 0 ∷ 0 ∷ 0 ∷ 0 ∷ [])
    × (told_of (counted_in (after fresh good) 0 5) ≡ record { answer = 0; named = 1; other = 0 })
unfolding computing outcomes unbroken accepted said after added taken_away
good_history = (refl, refl, refl, refl, refl, refl)

pub bad_history :
    (answers_of (outcomes fresh bad) ≡ 0 ∷ 13 ∷ 2 ∷ [])
    × (unbroken fresh bad ≡ false)
    × (accepted fresh bad ≡ call two_come [] ∷ [])
    × ((after fresh bad).head ≡ record { bindings = 2; used = 3; poisoned = 1 })
    × ((after fresh bad).table ≡ 0 ∷ 5 ∷ 1 ∷ 0 ∷ 5 ∷ 2 ∷ 0 ∷ 6 ∷ 2 ∷ 0 ∷ 0 ∷ 0 ∷ [])
    × (told_of (counted_in (after fresh bad) 0 5) ≡ record { answer = 2; named = 0; other = 0 })
unfolding computing outcomes unbroken accepted after
bad_history = (refl, refl, refl, refl, refl, refl)
