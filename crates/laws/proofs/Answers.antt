-- The numbers that an operator sees tell the answers apart, and the three kinds of answer exclude each other.
use Rattle.std.proofs.Common.{Result, Ok, Err, ℕ}
use Prim.Native.Nat.{ℕ}
use mathlib.Core.Path.{◌≡◌, refl, sym, ap, ◌∙◌}
use mathlib.Core.List.{[], ◌∷◌}
use mathlib.Core.Bool.{true, false}
use lib.ListN.{get_or}
use Rattle.rules.specs.declared.Failure.{Failure}
use Rattle.rules.specs.declared.Told.{Told}
use Rattle.rules.specs.Answers.{told_of, Class, class_of, accepts, refuses, changes_nothing, breaks, is_accepted, poisons}
use Rattle.laws.specs.Words.{class_of_number, is_refusal, is_unchanged}

-- the answer back from its numbers
answer_of : Told → Result ℕ Failure
answer_of t =
    get_or
    (Ok t.named
    ∷ Err Failure.Table
    ∷ Err Failure.Poisoned
    ∷ Err Failure.List
    ∷ Err Failure.Strip
    ∷ Err Failure.Room
    ∷ Err (Failure.Guard t.named)
    ∷ Err (Failure.Twice t.named t.other)
    ∷ Err (Failure.Present t.named)
    ∷ Err (Failure.Overlap t.named)
    ∷ Err (Failure.Store t.named)
    ∷ Err (Failure.Full t.named)
    ∷ Err (Failure.Undo t.named)
    ∷ Err (Failure.Source t.named)
    ∷ Err (Failure.Record t.named)
    ∷ [])
    t.answer
    (Err Failure.Table)

answer_back_lem : (a : Result ℕ Failure) → answer_of (told_of a) ≡ a
unfolding answer_of
answer_back_lem (Ok n) = refl
answer_back_lem (Err Failure.Table) = refl
answer_back_lem (Err Failure.Poisoned) = refl
answer_back_lem (Err Failure.List) = refl
answer_back_lem (Err Failure.Strip) = refl
answer_back_lem (Err Failure.Room) = refl
answer_back_lem (Err (Failure.Guard i)) = refl
answer_back_lem (Err (Failure.Twice i j)) = refl
answer_back_lem (Err (Failure.Present i)) = refl
answer_back_lem (Err (Failure.Overlap i)) = refl
answer_back_lem (Err (Failure.Store i)) = refl
answer_back_lem (Err (Failure.Full i)) = refl
answer_back_lem (Err (Failure.Undo i)) = refl
answer_back_lem (Err (Failure.Source i)) = refl
answer_back_lem (Err (Failure.Record place)) = refl

-- equal numbers and named values, equal answers
pub told_injective : (a b : Result ℕ Failure) → told_of a ≡ told_of b → a ≡ b
told_injective a b e = sym (answer_back_lem a) ∙ (ap answer_of e ∙ answer_back_lem b)

-- and so does the number alone tell the class
pub class_by_number : (a : Result ℕ Failure) → class_of a ≡ class_of_number (told_of a).answer
class_by_number (Ok n) = refl
class_by_number (Err Failure.Table) = refl
class_by_number (Err Failure.Poisoned) = refl
class_by_number (Err Failure.List) = refl
class_by_number (Err Failure.Strip) = refl
class_by_number (Err Failure.Room) = refl
class_by_number (Err (Failure.Guard i)) = refl
class_by_number (Err (Failure.Twice i j)) = refl
class_by_number (Err (Failure.Present i)) = refl
class_by_number (Err (Failure.Overlap i)) = refl
class_by_number (Err (Failure.Store i)) = refl
class_by_number (Err (Failure.Full i)) = refl
class_by_number (Err (Failure.Undo i)) = refl
class_by_number (Err (Failure.Source i)) = refl
class_by_number (Err (Failure.Record place)) = refl

-- accepted; refused or undone with all as before; poisoning
pub data Kind : Result ℕ Failure → Type 0 where
  taken : (n : ℕ) → Kind (Ok n)
  kept : {a : Result ℕ Failure} → is_unchanged a ≡ true → is_accepted a ≡ false → poisons a ≡ false → Kind a
  broken : {a : Result ℕ Failure} → is_unchanged a ≡ false → is_accepted a ≡ false → poisons a ≡ true → Kind a

pub kind : (a : Result ℕ Failure) → Kind a
kind (Ok n) = taken n
kind (Err Failure.Table) = kept refl refl refl
kind (Err Failure.Poisoned) = kept refl refl refl
kind (Err Failure.List) = kept refl refl refl
kind (Err Failure.Strip) = kept refl refl refl
kind (Err Failure.Room) = kept refl refl refl
kind (Err (Failure.Guard i)) = kept refl refl refl
kind (Err (Failure.Twice i j)) = kept refl refl refl
kind (Err (Failure.Present i)) = kept refl refl refl
kind (Err (Failure.Overlap i)) = kept refl refl refl
kind (Err (Failure.Store i)) = kept refl refl refl
kind (Err (Failure.Full i)) = kept refl refl refl
kind (Err (Failure.Undo i)) = broken refl refl refl
kind (Err (Failure.Source i)) = broken refl refl refl
kind (Err (Failure.Record place)) = kept refl refl refl

-- what a check refuses with changes nothing, is not accepted and breaks nothing: class by class
unchanged_class : (k : Class) → refuses k ≡ true → changes_nothing k ≡ true
unchanged_class Class.accepted h = h
unchanged_class Class.refused h = refl
unchanged_class Class.undone h = refl
unchanged_class Class.broken h = h

accepted_not_class : (k : Class) → changes_nothing k ≡ true → accepts k ≡ false
accepted_not_class Class.accepted h = sym h
accepted_not_class Class.refused h = refl
accepted_not_class Class.undone h = refl
accepted_not_class Class.broken h = refl

broken_not_class : (k : Class) → changes_nothing k ≡ true → breaks k ≡ false
broken_not_class Class.accepted h = refl
broken_not_class Class.refused h = refl
broken_not_class Class.undone h = refl
broken_not_class Class.broken h = sym h

pub refusal_unchanged : (a : Result ℕ Failure) → is_refusal a ≡ true → is_unchanged a ≡ true
refusal_unchanged a h = unchanged_class (class_of a) h

pub unchanged_accepts_not : (a : Result ℕ Failure) → is_unchanged a ≡ true → is_accepted a ≡ false
unchanged_accepts_not a h = accepted_not_class (class_of a) h

pub unchanged_poisons_not : (a : Result ℕ Failure) → is_unchanged a ≡ true → poisons a ≡ false
unchanged_poisons_not a h = broken_not_class (class_of a) h
