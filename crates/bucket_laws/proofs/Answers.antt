-- The numbers that an operator sees tell the answers apart, and what is not accepted is 30, 31 or 32.
use Prim.Native.Nat.{ℕ, ◌-◌}
use mathlib.Core.Path.{◌≡◌, refl, sym, ap, ◌∙◌}
use mathlib.Core.List.{[], ◌∷◌}
use mathlib.Core.Bool.{true, false}
use mathlib.Core.Logic.{◌↔◌, ◌⊎◌, inl, inr, ⊎_elim}
use lib.ListN.{get_or}
use Rattle.std.proofs.Common.{Ok, Err}
use Rattle.booleans.proofs.Tests.{clash}
use Rattle.bucket_rules.specs.declared.Failure.{Failure}
use Rattle.bucket_rules.specs.declared.Told.{Told}
use Rattle.bucket_rules.specs.Answers.{Answer, told_of, is_accepted}

-- the answer back from its numbers: 0, and then 30 to 32
answer_back : Told → Answer
answer_back t =
    get_or (Ok t.named ∷ Err Failure.Limits ∷ Err Failure.Room ∷ Err (Failure.Range t.named) ∷ []) (t.answer - 29)
    (Err Failure.Limits)

-- each answer comes back
answer_back_lem : (a : Answer) → answer_back (told_of a) ≡ a
unfolding answer_back
answer_back_lem (Ok n) = refl
answer_back_lem (Err Failure.Limits) = refl
answer_back_lem (Err Failure.Room) = refl
answer_back_lem (Err (Failure.Range b)) = refl

-- equal numbers and named values, equal answers
pub told_injective : (a b : Answer) → told_of a ≡ told_of b → a ≡ b
told_injective a b e = sym (answer_back_lem a) ∙ (ap answer_back e ∙ answer_back_lem b)

-- an answer is not accepted exactly where it is 30, 31 or 32
pub refused_number :
    (a : Answer) → (is_accepted a ≡ false) ↔ ((a ≡ Err Failure.Limits) ⊎ ((a ≡ Err Failure.Room) ⊎ ((b : ℕ) × (a ≡ Err (Failure.Range b)))))
refused_number a = (number a, λ s. ⊎_elim (λ e. rw e) (λ t. ⊎_elim (λ e. rw e) (λ p. rw p.1) t) s)
  where
    number :
        (c : Answer) → is_accepted c ≡ false →
        (c ≡ Err Failure.Limits) ⊎ ((c ≡ Err Failure.Room) ⊎ ((b : ℕ) × (c ≡ Err (Failure.Range b))))
    number (Ok n) h = absurd (clash true refl h)
    number (Err Failure.Limits) h = inl refl
    number (Err Failure.Room) h = inr (inl refl)
    number (Err (Failure.Range b)) h = inr (inr (b, refl))
