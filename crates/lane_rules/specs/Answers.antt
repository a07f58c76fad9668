-- The numbers that an operator sees: for each answer its number and its value.
use Rattle.std.specs.Prelude.{ℕ, Bool, eqb, Result, Ok, Err}
use Rattle.lane_rules.specs.declared.Failure.{Failure}
use Rattle.lane_rules.specs.declared.Told.{Told}

-- number and value
abbrev pub told_of : Result ℕ Failure → Told
told_of (Ok n) = record { answer = 0; value = n }
told_of (Err Failure.Height) = record { answer = 20; value = 0 }
told_of (Err Failure.View) = record { answer = 21; value = 0 }
told_of (Err Failure.Window) = record { answer = 22; value = 0 }
told_of (Err Failure.Strip) = record { answer = 23; value = 0 }
told_of (Err (Failure.Offset n)) = record { answer = 24; value = n }
told_of (Err (Failure.Budget n)) = record { answer = 25; value = n }

-- 0
abbrev pub is_accepted : Result ℕ Failure → Bool
is_accepted a = eqb (told_of a).answer 0
