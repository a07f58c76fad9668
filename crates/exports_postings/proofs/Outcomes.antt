-- One outcome for each exported call: any two results that its promise allows are equal, with every number of the lists lent for
-- writing.
use Prim.Native.Nat.{ℕ}
use mathlib.Core.Path.{◌≡◌, sym, ap, ◌∙◌}
use mathlib.Core.List.{List}
use Rattle.rules.specs.declared.Head.{Head}
use Rattle.rules.specs.declared.Told.{Told}
use Rattle.rules.specs.Orders.{Call}
use Rattle.publish.specs.Promises as posting
use Rattle.publish.proofs.Outcomes.{OneOutcome}
use Rattle.exports_postings.specs.declared.Done.{Done}
use Rattle.exports_postings.specs.Promises.{posting_seen, PreparePromise, RollbackPromise, RemovalPromise, PublishPromise, CountPromise}

alike :
    (r r' : Done) (t t' l l' : List ℕ) (s : posting.Seen) → posting_seen r t l ≡ s → posting_seen r' t' l' ≡ s →
    OneOutcome r r' t t' l l'
alike r r' t t' l l' s e f =
    let g : posting_seen r t l ≡ posting_seen r' t' l' = e ∙ sym f in
    record {
      result = ap (λ (x : posting.Seen). record { head = x.head; told = x.told }) g;
      table = ap (λ (x : posting.Seen). x.table) g;
      record_list = ap (λ (x : posting.Seen). x.record_list) g;
    }

module _ (head : Head) (table : List ℕ) (c : Call) (r r' : Done) (t t' l l' : List ℕ) where
  pub prepare_one_outcome : PreparePromise head table c r t l → PreparePromise head table c r' t' l' → OneOutcome r r' t t' l l'
  prepare_one_outcome e f = alike r r' t t' l l' _ e f

  pub rollback_one_outcome : RollbackPromise head table c r t l → RollbackPromise head table c r' t' l' → OneOutcome r r' t t' l l'
  rollback_one_outcome e f = alike r r' t t' l l' _ e f

  pub removal_one_outcome : RemovalPromise head table c r t l → RemovalPromise head table c r' t' l' → OneOutcome r r' t t' l l'
  removal_one_outcome e f = alike r r' t t' l l' _ e f

  pub publish_one_outcome : PublishPromise head table c r t l → PublishPromise head table c r' t' l' → OneOutcome r r' t t' l l'
  publish_one_outcome e f = alike r r' t t' l l' _ e f

pub count_one_outcome :
    (head : Head) (table : List ℕ) (binding key : ℕ) (r s : Told) → CountPromise head table binding key r →
    CountPromise head table binding key s → r ≡ s
count_one_outcome head table binding key r s e f = e ∙ sym f
