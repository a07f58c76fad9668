-- One outcome for each exported call: any two results that its promise allows are equal, with every number of the lists lent for
-- writing. That of poison_indexes is the entry's own: poison-one-outcome.
use Prim.Native.Nat.{ℕ}
use mathlib.Core.Path.{◌≡◌, sym, ◌∙◌}
use mathlib.Core.List.{List}
use Rattle.rules.specs.declared.Guard.{Guard}
use Rattle.rules.specs.declared.Head.{Head}
use Rattle.rules.specs.declared.Told.{Told}
use Rattle.rules.specs.Orders.{lending}
use Rattle.publish.proofs.Outcomes.{OneOutcome}
use Rattle.guarding.specs.Asking.{flat}
use Rattle.exports_postings.specs.declared.Done.{Done}
use Rattle.exports_postings.proofs.Outcomes.{publish_one_outcome}
use Rattle.exports_lent.specs.Promises.{LentPublishPromise, HeldPromise}

-- with the head set in place
pub lent_publish_one_outcome :
    (head : Head) (table changes : List ℕ) (guards : List Guard) (strip list : List ℕ) (r r' : Told) (h h' : Head)
    (t t' l l' : List ℕ) → LentPublishPromise head table changes guards strip list r h t l →
    LentPublishPromise head table changes guards strip list r' h' t' l' →
    OneOutcome {A = Done} (record { head = h; told = r }) (record { head = h'; told = r' }) t t' l l'
lent_publish_one_outcome head table changes guards strip list r r' h h' t t' l l' e f =
    publish_one_outcome head table (lending changes (flat guards) strip list) _ _ t t' l l' e f

pub held_one_outcome :
    (guards : List Guard) (binding key r s : ℕ) → HeldPromise guards binding key r → HeldPromise guards binding key s → r ≡ s
held_one_outcome guards binding key r s e f = e ∙ sym f
