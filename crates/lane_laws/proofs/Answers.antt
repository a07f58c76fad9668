-- The numbers that an operator sees tell the answers apart.
use Prim.Native.Nat.{◌-◌}
use mathlib.Core.Path.{◌≡◌, refl, sym, ap, ◌∙◌}
use mathlib.Core.List.{[], ◌∷◌}
use lib.ListN.{get_or}
use Rattle.std.proofs.Common.{ℕ, Result, Ok, Err}
use Rattle.lane_rules.specs.declared.Told.{Told}
use Rattle.lane_rules.specs.declared.Failure.{Failure}
use Rattle.lane_rules.specs.Answers.{told_of}

-- the answer back from its numbers: 0, and then 20 to 25
answer_of : Told → Result ℕ Failure
answer_of t =
    get_or
    (Ok t.value
    ∷ Err Failure.Height
    ∷ Err Failure.View
    ∷ Err Failure.Window
    ∷ Err Failure.Strip
    ∷ Err (Failure.Offset t.value)
    ∷ Err (Failure.Budget t.value)
    ∷ [])
    (t.answer - 19)
    (Err Failure.Height)

-- each answer comes back
answer_back_lem : (a : Result ℕ Failure) → answer_of (told_of a) ≡ a
unfolding answer_of
answer_back_lem (Ok n) = refl
answer_back_lem (Err Failure.Height) = refl
answer_back_lem (Err Failure.View) = refl
answer_back_lem (Err Failure.Window) = refl
answer_back_lem (Err Failure.Strip) = refl
answer_back_lem (Err (Failure.Offset n)) = refl
answer_back_lem (Err (Failure.Budget n)) = refl

-- equal numbers and values, equal answers
pub told_injective : (a b : Result ℕ Failure) → told_of a ≡ told_of b → a ≡ b
told_injective a b e = sym (answer_back_lem a) ∙ (ap answer_of e ∙ answer_back_lem b)
