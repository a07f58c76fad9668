-- Cases on what a compare or a pass says, and how the answers are told apart.
use native.Mathlib.Omega.{arith}
use mathlib.Core.Path.{◌≡◌, refl, ap}
use mathlib.Core.Bool.{true, false, Bool}
use mathlib.Mathlib.Data.Bool.Basic.{and_elim_left}
use lib.Dec.{leb}
use Rattle.std.proofs.Common.{ℕ, Result, Ok, Err, is_err}
use borrow.Author.Tests.{ne_eqb, leb-true}
use Rattle.booleans.proofs.Tests.{impossible}
use Rattle.lane_rules.specs.Answers.{told_of, is_accepted}
use Rattle.lane_rules.specs.Passes.{by_said}
use Rattle.lane_laws.specs.Clauses.{is_refusal}
use Rattle.lane_rules.specs.declared.ErrorByte.{ErrorByte}
use Rattle.lane_rules.specs.declared.Failure.{Failure}
use Rattle.lane_rules.specs.Steps.{error_met}

-- what holds in all three cases holds of the choice
pub by_said_lem :
    {A : Type 0} (P : A → Type 0) (s : Result Bool ErrorByte) {x y z : A} → (s ≡ Ok true → P x) → (s ≡ Ok false → P y) →
    (s ≡ error_met → P z) →
    P (by_said s x y z)
by_said_lem P (Ok true) f g h = f refl
by_said_lem P (Ok false) f g h = g refl
by_said_lem P (Err _) f g h = h refl

-- two choices that differ only in what comes of a no stand to each other as each pair of their cases does
pub by_both :
    {A : Type 0} (P : A → A → Type 0) (s : Result Bool ErrorByte) (x y y' z : A) → P x x → P y y' → P z z →
    P (by_said s x y z) (by_said s x y' z)
by_both P (Ok true) x y y' z f g h = f
by_both P (Ok false) x y y' z f g h = g
by_both P (Err _) x y y' z f g h = h

-- two choices by one word stand to each other as each pair of their cases does
pub by_pairs :
    {A : Type 0} (P : A → A → Type 0) (s : Result Bool ErrorByte) {x x' y y' z z' : A} → (s ≡ Ok true → P x x') →
    (s ≡ Ok false → P y y') →
    (s ≡ error_met → P z z') → P (by_said s x y z) (by_said s x' y' z')
by_pairs P (Ok true) f g h = f refl
by_pairs P (Ok false) f g h = g refl
by_pairs P (Err _) f g h = h refl

-- a yes is not a no
pub yes_not_no : let yes : Result Bool ErrorByte = Ok true in yes ≡ Ok false → ⊥
yes_not_no e = impossible (cc)

-- a no is not a yes
pub no_not_yes : let no : Result Bool ErrorByte = Ok false in no ≡ Ok true → ⊥
no_not_yes e = impossible (cc)

-- an error is not a yes
pub error_not_yes : let fault : Result Bool ErrorByte = error_met in fault ≡ Ok true → ⊥
error_not_yes e = impossible (cc)

-- an error is not a no
pub error_not_no : let fault : Result Bool ErrorByte = error_met in fault ≡ Ok false → ⊥
error_not_no e = impossible (cc)

-- there is one error to meet
pub one_error : {A : Type 0} (r : Result A ErrorByte) → is_err r ≡ true → r ≡ error_met
one_error (Ok x) h = impossible (cc)
one_error (Err e) h = refl

-- answers with different numbers are different
pub other_number : {a b : Result ℕ Failure} → a ≡ b → ((told_of a).answer ≡ (told_of b).answer → ⊥) → ⊥
other_number e f = f (ap (λ (a : Result ℕ Failure). (told_of a).answer) e)

-- a refusal is not accepted
pub refusal_not_accepted : (a : Result ℕ Failure) → is_refusal a ≡ true → is_accepted a ≡ false
refusal_not_accepted a h =
    let number = (told_of a).answer in
    let low = leb-true 20 number (and_elim_left (leb 20 number) (leb number 23) h) in
    ne_eqb number 0 (λ e. omega arith)

-- nor is any failure
pub failure_not_accepted : (f : Failure) → is_accepted (Err f) ≡ false
failure_not_accepted Failure.Height = refl
failure_not_accepted Failure.View = refl
failure_not_accepted Failure.Window = refl
failure_not_accepted Failure.Strip = refl
failure_not_accepted (Failure.Offset n) = refl
failure_not_accepted (Failure.Budget n) = refl

-- a pass tells 1 where it says yes only
pub yes_told :
    (s : Result Bool ErrorByte) → by_said {A = Result ℕ Failure} s (Ok 1) (Ok 0) (Err (Failure.Offset 0)) ≡ Ok 1 →
    s ≡ Ok true
yes_told (Ok true) e = refl
yes_told (Ok false) e = impossible (cc)
yes_told (Err _) e = impossible (cc)

-- and 0 where it says no only
pub no_told :
    (s : Result Bool ErrorByte) → by_said {A = Result ℕ Failure} s (Ok 1) (Ok 0) (Err (Failure.Offset 0)) ≡ Ok 0 →
    s ≡ Ok false
no_told (Ok true) e = impossible (cc)
no_told (Ok false) e = refl
no_told (Err _) e = impossible (cc)

-- and is 24 where it says error only
pub error_told :
    (s : Result Bool ErrorByte) →
    by_said {A = Result ℕ Failure} s (Ok 1) (Ok 0) (Err (Failure.Offset 0)) ≡ Err (Failure.Offset 0) → s ≡ error_met
error_told (Ok true) e = impossible (cc)
error_told (Ok false) e = impossible (cc)
error_told (Err _) e = refl
