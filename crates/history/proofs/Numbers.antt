-- Each call answers with the numbers of its own list alone, whatever it is lent.
use Rattle.std.proofs.Common.{Result, ℕ}
use Prim.Native.Nat.{ℕ}
use native.Mathlib.Omega.{arith}
use mathlib.Core.Path.{◌≡◌, refl}
use mathlib.Core.List.{List, []}
use mathlib.Core.Bool.{Bool, true}
use Rattle.rules.specs.declared.Head.{Head}
use Rattle.rules.specs.declared.Failure.{Failure}
use Rattle.rules.specs.Table.{capacity}
use Rattle.rules.specs.Orders.{destinations, sources, Call, changes_of}
use Rattle.rules.specs.Answers.{told_of}
use Rattle.rules.specs.Checks.{prepare_checks, rollback_checks, removal_checks, publish_checks, count_checks}
use Rattle.lent_lists.specs.Among.{among}
use Rattle.rules.specs.Calls.{prepare_of, rollback_of, removal_of, publish_of, count_of}
use Rattle.laws.proofs.Checks.{Says, prepare_says, rollback_says, removal_says, publish_says, count_says}
use Rattle.laws.proofs.Outcomes.{recorded_back}
use Rattle.history.specs.Acceptance.{Ends, RollbackEnds, RemovalEnds, Answered}
use Rattle.history.specs.Numbers.{prepare_numbers, rollback_numbers, removal_numbers, publish_numbers, count_numbers}
use Rattle.history.proofs.Acceptance.{publish_answered, prepare_answered, rollback_answered, removal_answered, count_answered}

-- the answer's number is one of these
abbrev one_of : List ℕ → Result ℕ Failure → Bool
one_of ns a = among (told_of a).answer ns

-- a call's answer, by its checks and by how it ends
answered_among :
    (ns : List ℕ) (v : Result Unit Failure) (E : Result ℕ Failure → Type 0) → Says (one_of ns) v → ((a : Result ℕ Failure) → E a → one_of ns a ≡ true) → (a : Result ℕ Failure) →
    Answered v E a → one_of ns a ≡ true
answered_among ns v E f g a (Answered.refused why e) = f why e
answered_among ns v E f g a (Answered.ended _ e k) = g a k

module _ (head : Head) (table : List ℕ) (c : Call) where
  -- prepare
  prepare_numbered : Says (one_of prepare_numbers) (prepare_checks head table c)
  unfolding among
  prepare_numbered = prepare_says (one_of prepare_numbers) head table c refl refl refl refl refl (λ i. refl) (λ i j. refl) (λ i. refl)

  -- prepare answers with no number but 0 to 8, 10, 11 and 12
  pub prepare_numbers_lem : among (told_of (prepare_of head table c).answer).answer prepare_numbers ≡ true
  unfolding among
  prepare_numbers_lem = answered_among prepare_numbers (prepare_checks head table c) _ prepare_numbered ends _ (prepare_answered head table c)
    where
      ends :
          (a : Result ℕ Failure) → Ends (capacity table) head.used c.strip (destinations (changes_of c)) [] a →
          among (told_of a).answer prepare_numbers ≡ true
      ends a (Ends.accepted r q) = refl
      ends a (Ends.store k f x u) = refl
      ends a (Ends.full k f x u) = refl
      ends a (Ends.undo k f u) = refl
      ends a (Ends.source j h r q x) = absurd (omega arith)

  -- rollback
  rollback_numbered : Says (one_of rollback_numbers) (rollback_checks head table c)
  unfolding among
  rollback_numbered = rollback_says (one_of rollback_numbers) head table c refl refl refl refl (λ i. refl) (λ i. refl)

  -- rollback answers with no number but 0 to 4, 6, 12 and 14
  pub rollback_numbers_lem : among (told_of (rollback_of head table c).answer).answer rollback_numbers ≡ true
  unfolding among
  rollback_numbers_lem = answered_among rollback_numbers (rollback_checks head table c) _ rollback_numbered ends _ (rollback_answered head table c)
    where
      ends : (a : Result ℕ Failure) → RollbackEnds c.strip (recorded_back c) a → among (told_of a).answer rollback_numbers ≡ true
      ends a (RollbackEnds.accepted q) = refl
      ends a (RollbackEnds.undo k h x l) = refl

  -- source removal
  removal_numbered : Says (one_of removal_numbers) (removal_checks head table c)
  unfolding among
  removal_numbered = removal_says (one_of removal_numbers) head table c refl refl refl refl (λ i. refl)

  -- source removal answers with no number but 0 to 4, 6 and 13
  pub removal_numbers_lem : among (told_of (removal_of head table c).answer).answer removal_numbers ≡ true
  unfolding among
  removal_numbers_lem = answered_among removal_numbers (removal_checks head table c) _ removal_numbered ends _ (removal_answered head table c)
    where
      ends : (a : Result ℕ Failure) → RemovalEnds c.strip (sources (changes_of c)) a → among (told_of a).answer removal_numbers ≡ true
      ends a (RemovalEnds.accepted q) = refl
      ends a (RemovalEnds.source j h l x) = refl

  -- publish
  publish_numbered : Says (one_of publish_numbers) (publish_checks head table c)
  unfolding among
  publish_numbered =
      publish_says (one_of publish_numbers) head table c refl refl refl refl refl (λ i. refl) (λ i j. refl) (λ i. refl) (λ i. refl)

  -- publish answers with no number but 0 to 13
  pub publish_numbers_lem : among (told_of (publish_of head table c).answer).answer publish_numbers ≡ true
  unfolding among
  publish_numbers_lem = answered_among publish_numbers (publish_checks head table c) _ publish_numbered ends _ (publish_answered head table c)
    where
      ends :
          (a : Result ℕ Failure) → Ends (capacity table) head.used c.strip (destinations (changes_of c)) (sources (changes_of c)) a →
          among (told_of a).answer publish_numbers ≡ true
      ends a (Ends.accepted r q) = refl
      ends a (Ends.store k f x u) = refl
      ends a (Ends.full k f x u) = refl
      ends a (Ends.undo k f u) = refl
      ends a (Ends.source j h r q x) = refl

-- count
count_numbered : (head : Head) (table : List ℕ) (binding : ℕ) → Says (one_of count_numbers) (count_checks head table binding)
unfolding among
count_numbered head table binding = count_says (one_of count_numbers) head table binding refl refl refl

-- count answers with no number but 0, 1, 2 and 6
pub count_numbers_lem :
    (head : Head) (table : List ℕ) (binding key : ℕ) → among (told_of (count_of head table binding key)).answer count_numbers ≡ true
unfolding among
count_numbers_lem head table binding key =
    answered_among count_numbers (count_checks head table binding) _ (count_numbered head table binding) (λ a e. rw e) _
    (count_answered head table binding key)
