-- One outcome for each call: any two results that its promise allows are equal, with every number of the lists lent for writing.
use Rattle.std.proofs.Common.{Result, ℕ}
use Prim.Native.Nat.{ℕ}
use mathlib.Core.Path.{◌≡◌, sym, ap, ◌∙◌}
use mathlib.Core.List.{List}
use Rattle.rules.specs.declared.Failure.{Failure}
use Rattle.rules.specs.declared.Head.{Head}
use Rattle.rules.specs.Orders.{Call}
use Rattle.rules.specs.declared.Done.{Done}
use Rattle.rules.specs.Calls.{Outcome, prepare_of, rollback_of, removal_of, publish_of, outcome_of}
use Rattle.laws.proofs.Answers.{told_injective}
use Rattle.publish.specs.Promises.{Seen, seen, seen_of, PreparePromise, RollbackPromise, RemovalPromise, PublishPromise, CountPromise}

-- what is seen determines the outcome: numbers tell answers apart
pub seen_outcome : (r : Done) (t l : List ℕ) (o : Outcome) → seen r t l ≡ seen_of o → outcome_of r t l ≡ o
seen_outcome r t l o e =
    let a : r.answer ≡ o.answer = told_injective _ _ (ap (λ (s : Seen). s.told) e) in
    λ i.
    record {
      answer = a i;
      head = ap (λ (s : Seen). s.head) e i;
      table = ap (λ (s : Seen). s.table) e i;
      record_list = ap (λ (s : Seen). s.record_list) e i;
    }

-- two results, whatever a call gives, with table and record list, are one
pub record OneOutcome {A : Type 0} (r r' : A) (t t' l l' : List ℕ) : Type 0 where
  pub result : r ≡ r'
  pub table : t ≡ t'
  pub record_list : l ≡ l'

alike :
    (r r' : Done) (t t' l l' : List ℕ) (o : Outcome) → seen r t l ≡ seen_of o → seen r' t' l' ≡ seen_of o →
    OneOutcome r r' t t' l l'
alike r r' t t' l l' o e f =
    let g : outcome_of r t l ≡ outcome_of r' t' l' = seen_outcome r t l o e ∙ sym (seen_outcome r' t' l' o f) in
    record {
      result = λ i. record { head = ap (λ (x : Outcome). x.head) g i; answer = ap (λ (x : Outcome). x.answer) g i };
      table = ap (λ (x : Outcome). x.table) g;
      record_list = ap (λ (x : Outcome). x.record_list) g;
    }

module _ (head : Head) (table : List ℕ) (c : Call) (r r' : Done) (t t' l l' : List ℕ) where
  pub prepare_one_outcome : PreparePromise head table c r t l → PreparePromise head table c r' t' l' → OneOutcome r r' t t' l l'
  prepare_one_outcome e f = alike r r' t t' l l' (prepare_of head table c) e f

  pub rollback_one_outcome : RollbackPromise head table c r t l → RollbackPromise head table c r' t' l' → OneOutcome r r' t t' l l'
  rollback_one_outcome e f = alike r r' t t' l l' (rollback_of head table c) e f

  pub removal_one_outcome : RemovalPromise head table c r t l → RemovalPromise head table c r' t' l' → OneOutcome r r' t t' l l'
  removal_one_outcome e f = alike r r' t t' l l' (removal_of head table c) e f

  pub publish_one_outcome : PublishPromise head table c r t l → PublishPromise head table c r' t' l' → OneOutcome r r' t t' l l'
  publish_one_outcome e f = alike r r' t t' l l' (publish_of head table c) e f

pub count_one_outcome :
    (head : Head) (table : List ℕ) (binding key : ℕ) (a b : Result ℕ Failure) → CountPromise head table binding key a →
    CountPromise head table binding key b → a ≡ b
count_one_outcome head table binding key a b e f = told_injective a b (e ∙ sym f)
