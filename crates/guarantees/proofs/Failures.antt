-- What a storage failure leaves, of the calls themselves: after a 12 and after a 13 the table holds exactly the postings that the
-- bytes of the strip and the room in the table say.
use Prim.Native.Nat.{ℕ}
use mathlib.Core.Path.{◌≡◌}
use mathlib.Core.List.{List}
use Rattle.rules.specs.declared.Head.{Head}
use Rattle.rules.specs.Answers.{told_of}
use Rattle.rules.specs.Orders.{Call}
use Rattle.rules.specs.declared.Done.{Done}
use Rattle.rules.specs.Calls.{Outcome, prepare_of, rollback_of, removal_of, publish_of, outcome_of}
use Rattle.history.specs.Failures.{PublishSourceLeaves, RemovalSourceLeaves, UndoLeaves, RollbackLeaves}
use Rattle.history.proofs.Failures as law
use Rattle.publish.specs.Promises.{seen, seen_of, PreparePromise, RollbackPromise, RemovalPromise, PublishPromise}
use Rattle.guarantees.proofs.Acceptance.{of_result}

-- what holds of the rules' outcome where it has this number holds of the result
carried :
    (P : Outcome → Type 0) (n : ℕ) (r : Done) (t l : List ℕ) (o : Outcome) → seen r t l ≡ seen_of o →
    ((told_of o.answer).answer ≡ n → P o) → (told_of r.answer).answer ≡ n → P (outcome_of r t l)
carried P n r t l o e f = of_result (λ (x : Outcome). (told_of x.answer).answer ≡ n → P x) r t l o e f

module _ (head : Head) (table : List ℕ) (c : Call) (r : Done) (t l : List ℕ) where
  -- 13: of publish and of source removal
  pub publish_source_leaves :
      PublishPromise head table c r t l → (told_of r.answer).answer ≡ 13 → PublishSourceLeaves head table c (outcome_of r t l)
  publish_source_leaves k = carried (PublishSourceLeaves head table c) 13 r t l (publish_of head table c) k (law.publish_source_leaves head table c)

  pub removal_source_leaves :
      RemovalPromise head table c r t l → (told_of r.answer).answer ≡ 13 → RemovalSourceLeaves head table c (outcome_of r t l)
  removal_source_leaves k = carried (RemovalSourceLeaves head table c) 13 r t l (removal_of head table c) k (law.removal_source_leaves head table c)

  -- 12: of prepare, of publish and of rollback
  pub prepare_undo_leaves :
      PreparePromise head table c r t l → (told_of r.answer).answer ≡ 12 → UndoLeaves head table c (outcome_of r t l)
  prepare_undo_leaves k = carried (UndoLeaves head table c) 12 r t l (prepare_of head table c) k (law.prepare_undo_leaves head table c)

  pub publish_undo_leaves :
      PublishPromise head table c r t l → (told_of r.answer).answer ≡ 12 → UndoLeaves head table c (outcome_of r t l)
  publish_undo_leaves k = carried (UndoLeaves head table c) 12 r t l (publish_of head table c) k (law.publish_undo_leaves head table c)

  pub rollback_undo_leaves :
      RollbackPromise head table c r t l → (told_of r.answer).answer ≡ 12 → RollbackLeaves head table c (outcome_of r t l)
  rollback_undo_leaves k = carried (RollbackLeaves head table c) 12 r t l (rollback_of head table c) k (law.rollback_undo_leaves head table c)
