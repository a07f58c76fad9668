-- Upstream's clauses, of the calls themselves: what a call answered and left meets every clause that the rules' outcome meets,
-- and what it inserted and removed was guarded.
use Rattle.std.proofs.Common.{Ok}
use Prim.Native.Nat.{ℕ}
use mathlib.Core.Path.{◌≡◌, sym, ◌∙◌}
use mathlib.Core.List.{List}
use mathlib.Core.Bool.{true}
use lib.ListN.{length}
use Rattle.strips.specs.Strips.{proper_strip}
use Rattle.rules.specs.declared.Head.{Head}
use Rattle.rules.specs.Orders.{destinations, sources, recorded, Call, changes_of}
use Rattle.rules.specs.Answers.{is_accepted}
use Rattle.rules.specs.declared.Done.{Done}
use Rattle.rules.specs.Calls.{as_before, prepare_of, rollback_of, removal_of, publish_of, outcome_of}
use Rattle.laws.specs.Words.{Quiet}
use Rattle.history.specs.Upstream.{PrepareClauses, RollbackClauses, RemovalClauses, back_of}
use Rattle.history.specs.Guarded.{WorksGuarded}
use Rattle.history.proofs.Upstream as law
use Rattle.history.proofs.Guarded as guarded
use Rattle.history.proofs.Restores as restored
use Rattle.publish.specs.Promises.{PreparePromise, RollbackPromise, RemovalPromise, PublishPromise}
use Rattle.publish.proofs.Outcomes.{seen_outcome}
use Rattle.guarantees.proofs.Acceptance.{of_result}

module _ (head : Head) (table : List ℕ) (c : Call) (r : Done) (t l : List ℕ) where
  -- a prepare that keeps its promise meets every clause of upstream's prepare_index_destinations
  pub prepare_clauses : PreparePromise head table c r t l → PrepareClauses head table c (outcome_of r t l)
  prepare_clauses k = rw (seen_outcome r t l (prepare_of head table c) k) (law.prepare_clauses head table c)

  -- a rollback meets every clause of rollback_index_destinations
  pub rollback_clauses : RollbackPromise head table c r t l → RollbackClauses head table c (outcome_of r t l)
  rollback_clauses k = rw (seen_outcome r t l (rollback_of head table c) k) (law.rollback_clauses head table c)

  -- a source removal meets every clause of remove_index_sources
  pub removal_clauses : RemovalPromise head table c r t l → RemovalClauses head table c (outcome_of r t l)
  removal_clauses k = rw (seen_outcome r t l (removal_of head table c) k) (law.removal_clauses head table c)

  -- what a call that no check refused inserts and removes is guarded, as upstream's primitives require: of a publish
  pub publish_inserts_guarded : PublishPromise head table c r t l → WorksGuarded head c (destinations (changes_of c)) (outcome_of r t l)
  publish_inserts_guarded k =
      of_result (WorksGuarded head c (destinations (changes_of c))) r t l (publish_of head table c) k (guarded.publish_inserts_guarded head table c)

  pub publish_removes_guarded : PublishPromise head table c r t l → WorksGuarded head c (sources (changes_of c)) (outcome_of r t l)
  publish_removes_guarded k =
      of_result (WorksGuarded head c (sources (changes_of c))) r t l (publish_of head table c) k (guarded.publish_removes_guarded head table c)

  -- of a prepare, a rollback and a source removal
  pub prepare_inserts_guarded : PreparePromise head table c r t l → WorksGuarded head c (destinations (changes_of c)) (outcome_of r t l)
  prepare_inserts_guarded k =
      of_result (WorksGuarded head c (destinations (changes_of c))) r t l (prepare_of head table c) k (guarded.prepare_inserts_guarded head table c)

  pub rollback_removes_guarded :
      RollbackPromise head table c r t l → WorksGuarded head c (recorded (changes_of c) c.record_list) (outcome_of r t l)
  rollback_removes_guarded k =
      of_result (WorksGuarded head c (recorded (changes_of c) c.record_list)) r t l (rollback_of head table c) k (guarded.rollback_removes_guarded head table c)

  pub removal_removes_guarded : RemovalPromise head table c r t l → WorksGuarded head c (sources (changes_of c)) (outcome_of r t l)
  removal_removes_guarded k =
      of_result (WorksGuarded head c (sources (changes_of c))) r t l (removal_of head table c) k (guarded.removal_removes_guarded head table c)

-- a rollback of an accepted prepare, lent the part of the record that the prepare named, with no storage failure: table and head
-- are those from before the prepare, number for number
pub rollback_restores :
    (head : Head) (table : List ℕ) (c : Call) (strip : List ℕ) (r r' : Done) (t t' l l' : List ℕ) →
    PreparePromise head table c r t l → is_accepted r.answer ≡ true → proper_strip strip ≡ true →
    Quiet strip 0 (length (destinations (changes_of c))) →
    RollbackPromise r.head t (back_of c (outcome_of r t l) strip) r' t' l' →
    outcome_of r' t' l' ≡ as_before head table (back_of c (outcome_of r t l) strip).record_list (Ok 0)
rollback_restores head table c strip r r' t t' l l' k a s q k' =
    let e : prepare_of head table c ≡ outcome_of r t l = sym (seen_outcome r t l (prepare_of head table c) k) in
    let ok : is_accepted (prepare_of head table c).answer ≡ true = rw e a in
    seen_outcome r' t' l' (rollback_of r.head t (back_of c (outcome_of r t l) strip)) k'
    ∙ (rw e at (restored.rollback_restores head table c strip ok s q))
