-- The numbers that an operator sees: for each answer its number and what it names, and what follows from the answer alone.
use Rattle.std.specs.Prelude.{Bool, true, false, Result, Ok, Err, ℕ}
use Rattle.rules.specs.declared.Failure.{Failure}
use Rattle.rules.specs.declared.Told.{Told}

-- number, named value, and the second change of answer 7
abbrev pub told_of : Result ℕ Failure → Told
told_of (Ok n) = record { answer = 0; named = n; other = 0 }
told_of (Err Failure.Table) = record { answer = 1; named = 0; other = 0 }
told_of (Err Failure.Poisoned) = record { answer = 2; named = 0; other = 0 }
told_of (Err Failure.List) = record { answer = 3; named = 0; other = 0 }
told_of (Err Failure.Strip) = record { answer = 4; named = 0; other = 0 }
told_of (Err Failure.Room) = record { answer = 5; named = 0; other = 0 }
told_of (Err (Failure.Guard i)) = record { answer = 6; named = i; other = 0 }
told_of (Err (Failure.Twice i j)) = record { answer = 7; named = i; other = j }
told_of (Err (Failure.Present i)) = record { answer = 8; named = i; other = 0 }
told_of (Err (Failure.Overlap i)) = record { answer = 9; named = i; other = 0 }
told_of (Err (Failure.Store i)) = record { answer = 10; named = i; other = 0 }
told_of (Err (Failure.Full i)) = record { answer = 11; named = i; other = 0 }
told_of (Err (Failure.Undo i)) = record { answer = 12; named = i; other = 0 }
told_of (Err (Failure.Source i)) = record { answer = 13; named = i; other = 0 }
told_of (Err (Failure.Record place)) = record { answer = 14; named = place; other = 0 }

-- what an answer tells of the call: it was accepted; a check refused it; storage failed and all was undone; a removal failed
pub data Class : Type 0 where
  accepted : Class
  refused : Class
  undone : Class
  broken : Class

-- 0; 1 to 9 and 14; 10 and 11; 12 and 13
abbrev pub class_of : Result ℕ Failure → Class
class_of (Ok n) = Class.accepted
class_of (Err Failure.Table) = Class.refused
class_of (Err Failure.Poisoned) = Class.refused
class_of (Err Failure.List) = Class.refused
class_of (Err Failure.Strip) = Class.refused
class_of (Err Failure.Room) = Class.refused
class_of (Err (Failure.Guard i)) = Class.refused
class_of (Err (Failure.Twice i j)) = Class.refused
class_of (Err (Failure.Present i)) = Class.refused
class_of (Err (Failure.Overlap i)) = Class.refused
class_of (Err (Failure.Store i)) = Class.undone
class_of (Err (Failure.Full i)) = Class.undone
class_of (Err (Failure.Undo i)) = Class.broken
class_of (Err (Failure.Source i)) = Class.broken
class_of (Err (Failure.Record place)) = Class.refused

-- the call did what it was asked
abbrev pub accepts : Class → Bool
accepts Class.accepted = true
accepts Class.refused = false
accepts Class.undone = false
accepts Class.broken = false

-- a check refused it
abbrev pub refuses : Class → Bool
refuses Class.accepted = false
refuses Class.refused = true
refuses Class.undone = false
refuses Class.broken = false

-- all is as before
abbrev pub changes_nothing : Class → Bool
changes_nothing Class.accepted = false
changes_nothing Class.refused = true
changes_nothing Class.undone = true
changes_nothing Class.broken = false

-- the poison flag is set
abbrev pub breaks : Class → Bool
breaks Class.accepted = false
breaks Class.refused = false
breaks Class.undone = false
breaks Class.broken = true

-- 0
abbrev pub is_accepted : Result ℕ Failure → Bool
is_accepted a = accepts (class_of a)

-- 12 and 13
abbrev pub poisons : Result ℕ Failure → Bool
poisons a = breaks (class_of a)

-- the refusal, or else this answer
abbrev pub settled : Result Unit Failure → Result ℕ Failure → Result ℕ Failure
settled (Ok _) a = a
settled (Err why) a = Err why
