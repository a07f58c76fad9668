-- The acceptance law, of the calls themselves: each answer is given exactly where its condition holds.
use Rattle.std.proofs.Common.{Result, ℕ}
use Prim.Native.Nat.{ℕ}
use mathlib.Core.Path.{◌≡◌, ap}
use mathlib.Core.List.{List}
use mathlib.Core.Bool.{true}
use mathlib.Core.Logic.{◌↔◌}
use Rattle.rules.specs.declared.Failure.{Failure}
use Rattle.rules.specs.declared.Head.{Head}
use Rattle.rules.specs.Answers.{is_accepted}
use Rattle.rules.specs.Orders.{Call}
use Rattle.rules.specs.declared.Done.{Done}
use Rattle.rules.specs.Calls.{Outcome, prepare_of, rollback_of, removal_of, publish_of, count_of, outcome_of}
use Rattle.laws.proofs.Answers.{told_injective}
use Rattle.history.specs.Acceptance.{Acceptable, PublishAnswers, PrepareAnswers, RollbackAnswers, RemovalAnswers, CountAnswers, Leaves}
use Rattle.history.proofs.Acceptance as law
use Rattle.publish.specs.Promises.{seen, seen_of, PreparePromise, RollbackPromise, RemovalPromise, PublishPromise, CountPromise}
use Rattle.publish.proofs.Outcomes.{seen_outcome}

-- what holds of the outcome that a promise says holds of the result
pub of_result : (P : Outcome → Type 0) (r : Done) (t l : List ℕ) (o : Outcome) → seen r t l ≡ seen_of o → P o → P (outcome_of r t l)
of_result P r t l o e h = rw (seen_outcome r t l o e) h

-- and so it has that outcome's answer
pub answer_of : (r : Done) (t l : List ℕ) (o : Outcome) → seen r t l ≡ seen_of o → r.answer ≡ o.answer
answer_of r t l o e = ap (λ (x : Outcome). x.answer) (seen_outcome r t l o e)

module _ (head : Head) (table : List ℕ) (c : Call) (r : Done) (t l : List ℕ) where
  -- a prepare that keeps its promise gives each answer exactly where its condition holds
  pub prepare_exactly : PreparePromise head table c r t l → (a : Result ℕ Failure) → (r.answer ≡ a) ↔ PrepareAnswers head table c a
  prepare_exactly k = rw (answer_of r t l (prepare_of head table c) k) (law.prepare_exactly head table c)

  -- so does a rollback
  pub rollback_exactly : RollbackPromise head table c r t l → (a : Result ℕ Failure) → (r.answer ≡ a) ↔ RollbackAnswers head table c a
  rollback_exactly k = rw (answer_of r t l (rollback_of head table c) k) (law.rollback_exactly head table c)

  -- so does a source removal
  pub removal_exactly : RemovalPromise head table c r t l → (a : Result ℕ Failure) → (r.answer ≡ a) ↔ RemovalAnswers head table c a
  removal_exactly k = rw (answer_of r t l (removal_of head table c) k) (law.removal_exactly head table c)

  -- so does a publish
  pub publish_exactly : PublishPromise head table c r t l → (a : Result ℕ Failure) → (r.answer ≡ a) ↔ PublishAnswers head table c a
  publish_exactly k = rw (answer_of r t l (publish_of head table c) k) (law.publish_exactly head table c)

  -- a publish is accepted exactly when no check applies, there is room, and every byte that it reads is 0
  pub accepted_exactly : PublishPromise head table c r t l → (is_accepted r.answer ≡ true) ↔ Acceptable head table c
  accepted_exactly k = rw (answer_of r t l (publish_of head table c) k) (law.accepted_exactly head table c)

  -- and then leaves the postings and destinations less the sources
  pub accepted_leaves : PublishPromise head table c r t l → Acceptable head table c → Leaves head table c (outcome_of r t l)
  accepted_leaves k a = rw (seen_outcome r t l (publish_of head table c) k) (law.accepted_leaves head table c a)

-- a count that keeps its promise gives each answer exactly where its condition holds
pub count_exactly :
    (head : Head) (table : List ℕ) (binding key : ℕ) (b : Result ℕ Failure) → CountPromise head table binding key b → (a : Result ℕ Failure) →
    (b ≡ a) ↔ CountAnswers head table binding key a
count_exactly head table binding key b k =
    rw (told_injective b (count_of head table binding key) k) (law.count_exactly head table binding key)
