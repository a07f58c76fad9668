-- The numbers that an operator sees: for each answer its number and what it names.
use Rattle.std.specs.Prelude.{ℕ, Bool, eqb, Result, Ok, Err}
use Rattle.bucket_rules.specs.declared.Failure.{Failure}
use Rattle.bucket_rules.specs.declared.Told.{Told}

-- the answer of a call: the number of distinct elements, or why it refuses
abbrev pub Answer : Type 0
Answer = Result ℕ Failure

-- number and named value
abbrev pub told_of : Answer → Told
told_of (Ok n) = record { answer = 0; named = n }
told_of (Err Failure.Limits) = record { answer = 30; named = 0 }
told_of (Err Failure.Room) = record { answer = 31; named = 0 }
told_of (Err (Failure.Range b)) = record { answer = 32; named = b }

-- 0
abbrev pub is_accepted : Answer → Bool
is_accepted a = eqb (told_of a).answer 0
