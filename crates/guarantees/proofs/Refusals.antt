-- Refusals, of the calls themselves: an answer of 1 to 11 or 14 leaves everything as before, a well-formed table stays well formed,
-- no answer touches binding count or size, a well-formed table that is poisoned is refused with 2, and a table that is not well
-- formed with 1.
use Rattle.std.proofs.Common.{Result, Err, ℕ}
use Prim.Native.Nat.{ℕ}
use mathlib.Core.Path.{◌≡◌, ◌∙◌}
use mathlib.Core.List.{List}
use mathlib.Core.Bool.{true, false}
use Rattle.rules.specs.declared.Failure.{Failure}
use Rattle.rules.specs.declared.Head.{Head}
use Rattle.rules.specs.Table.{well_formed}
use Rattle.rules.specs.Orders.{Call}
use Rattle.rules.specs.declared.Done.{Done}
use Rattle.rules.specs.Calls.{prepare_of, rollback_of, removal_of, publish_of, count_of, outcome_of}
use Rattle.laws.specs.Words.{AsBefore, StaysWellFormed, Stable, RefusesPoisoned, RefusesUnformed}
use Rattle.laws.proofs.Answers.{told_injective}
use Rattle.laws.proofs.Calls as law
use Rattle.publish.specs.Promises.{PreparePromise, RollbackPromise, RemovalPromise, PublishPromise, CountPromise}
use Rattle.guarantees.proofs.Acceptance.{of_result}

module _ (head : Head) (table : List ℕ) (c : Call) (r : Done) (t l : List ℕ) where
  -- an answer of 1 to 11 or 14 leaves table, head and record list as before
  pub prepare_as_before : PreparePromise head table c r t l → AsBefore head table c (outcome_of r t l)
  prepare_as_before k = of_result (AsBefore head table c) r t l (prepare_of head table c) k (law.prepare_as_before head table c)

  pub rollback_as_before : RollbackPromise head table c r t l → AsBefore head table c (outcome_of r t l)
  rollback_as_before k = of_result (AsBefore head table c) r t l (rollback_of head table c) k (law.rollback_as_before head table c)

  pub removal_as_before : RemovalPromise head table c r t l → AsBefore head table c (outcome_of r t l)
  removal_as_before k = of_result (AsBefore head table c) r t l (removal_of head table c) k (law.removal_as_before head table c)

  pub publish_as_before : PublishPromise head table c r t l → AsBefore head table c (outcome_of r t l)
  publish_as_before k = of_result (AsBefore head table c) r t l (publish_of head table c) k (law.publish_as_before head table c)

  -- a well-formed table stays well formed, whatever is answered
  pub prepare_well_formed : PreparePromise head table c r t l → StaysWellFormed head table (outcome_of r t l)
  prepare_well_formed k = of_result (StaysWellFormed head table) r t l (prepare_of head table c) k (law.prepare_well_formed head table c)

  pub rollback_well_formed : RollbackPromise head table c r t l → StaysWellFormed head table (outcome_of r t l)
  rollback_well_formed k = of_result (StaysWellFormed head table) r t l (rollback_of head table c) k (law.rollback_well_formed head table c)

  pub removal_well_formed : RemovalPromise head table c r t l → StaysWellFormed head table (outcome_of r t l)
  removal_well_formed k = of_result (StaysWellFormed head table) r t l (removal_of head table c) k (law.removal_well_formed head table c)

  pub publish_well_formed : PublishPromise head table c r t l → StaysWellFormed head table (outcome_of r t l)
  publish_well_formed k = of_result (StaysWellFormed head table) r t l (publish_of head table c) k (law.publish_well_formed head table c)

  -- binding count and size stay at every answer, and the poison flag at all but 12 and 13
  pub prepare_stable : PreparePromise head table c r t l → Stable head table (outcome_of r t l)
  prepare_stable k = of_result (Stable head table) r t l (prepare_of head table c) k (law.prepare_stable head table c)

  pub rollback_stable : RollbackPromise head table c r t l → Stable head table (outcome_of r t l)
  rollback_stable k = of_result (Stable head table) r t l (rollback_of head table c) k (law.rollback_stable head table c)

  pub removal_stable : RemovalPromise head table c r t l → Stable head table (outcome_of r t l)
  removal_stable k = of_result (Stable head table) r t l (removal_of head table c) k (law.removal_stable head table c)

  pub publish_stable : PublishPromise head table c r t l → Stable head table (outcome_of r t l)
  publish_stable k = of_result (Stable head table) r t l (publish_of head table c) k (law.publish_stable head table c)

  -- a well-formed table that is poisoned is refused with 2, and nothing changes
  pub prepare_poisoned : PreparePromise head table c r t l → RefusesPoisoned head table c (outcome_of r t l)
  prepare_poisoned k = of_result (RefusesPoisoned head table c) r t l (prepare_of head table c) k (law.prepare_poisoned head table c)

  pub rollback_poisoned : RollbackPromise head table c r t l → RefusesPoisoned head table c (outcome_of r t l)
  rollback_poisoned k = of_result (RefusesPoisoned head table c) r t l (rollback_of head table c) k (law.rollback_poisoned head table c)

  pub removal_poisoned : RemovalPromise head table c r t l → RefusesPoisoned head table c (outcome_of r t l)
  removal_poisoned k = of_result (RefusesPoisoned head table c) r t l (removal_of head table c) k (law.removal_poisoned head table c)

  pub publish_poisoned : PublishPromise head table c r t l → RefusesPoisoned head table c (outcome_of r t l)
  publish_poisoned k = of_result (RefusesPoisoned head table c) r t l (publish_of head table c) k (law.publish_poisoned head table c)

  -- a table that is not well formed is refused with 1, whatever its poison flag is, and nothing changes
  pub prepare_unformed : PreparePromise head table c r t l → RefusesUnformed head table c (outcome_of r t l)
  prepare_unformed k = of_result (RefusesUnformed head table c) r t l (prepare_of head table c) k (law.prepare_unformed head table c)

  pub rollback_unformed : RollbackPromise head table c r t l → RefusesUnformed head table c (outcome_of r t l)
  rollback_unformed k = of_result (RefusesUnformed head table c) r t l (rollback_of head table c) k (law.rollback_unformed head table c)

  pub removal_unformed : RemovalPromise head table c r t l → RefusesUnformed head table c (outcome_of r t l)
  removal_unformed k = of_result (RefusesUnformed head table c) r t l (removal_of head table c) k (law.removal_unformed head table c)

  pub publish_unformed : PublishPromise head table c r t l → RefusesUnformed head table c (outcome_of r t l)
  publish_unformed k = of_result (RefusesUnformed head table c) r t l (publish_of head table c) k (law.publish_unformed head table c)

-- every count of a poisoned table is refused with 2
pub count_poisoned :
    (head : Head) (table : List ℕ) (binding key : ℕ) (a : Result ℕ Failure) → CountPromise head table binding key a →
    well_formed head table ≡ true → head.poisoned ≡ 1 → a ≡ Err Failure.Poisoned
count_poisoned head table binding key a k f p =
    told_injective a (count_of head table binding key) k ∙ law.count_poisoned head table f p binding key

-- and of one that is not well formed with 1
pub count_unformed :
    (head : Head) (table : List ℕ) (binding key : ℕ) (a : Result ℕ Failure) → CountPromise head table binding key a →
    well_formed head table ≡ false → a ≡ Err Failure.Table
count_unformed head table binding key a k f =
    told_injective a (count_of head table binding key) k ∙ law.count_unformed head table f binding key
