-- One outcome for each entry: any two that its promise allows are equal, with the head and every number of the lists lent for
-- writing. And what is guaranteed of publish is guaranteed of the lent form: its promise is publish's own.
use Rattle.std.proofs.Common.{Result, ℕ}
use Prim.Native.Nat.{ℕ}
use mathlib.Core.Path.{◌≡◌, sym, ◌∙◌}
use mathlib.Core.List.{List}
use mathlib.Core.Bool.{Bool}
use Rattle.rules.specs.declared.Failure.{Failure}
use Rattle.rules.specs.declared.Guard.{Guard}
use Rattle.rules.specs.declared.Head.{Head}
use Rattle.rules.specs.Orders.{lending}
use Rattle.rules.specs.declared.Done.{Done}
use Rattle.publish.proofs.Outcomes.{OneOutcome, publish_one_outcome}
use Rattle.guarding.specs.Asking.{flat}
use Rattle.entry.specs.Promises.{PoisonPromise, HeldPromise, EntryPromise}

pub poison_one_outcome : (head h k : Head) → PoisonPromise head h → PoisonPromise head k → h ≡ k
poison_one_outcome head h k e f = e ∙ sym f

pub held_one_outcome :
    (guards : List Guard) (binding key : ℕ) (r s : Bool) → HeldPromise guards binding key r → HeldPromise guards binding key s →
    r ≡ s
held_one_outcome guards binding key r s e f = e ∙ sym f

-- the answer and the head set in place are one, as a by-value call would give them
pub entry_one_outcome :
    (head : Head) (table changes : List ℕ) (guards : List Guard) (strip list : List ℕ) (a a' : Result ℕ Failure) (h h' : Head)
    (t t' l l' : List ℕ) → EntryPromise head table changes guards strip list a h t l →
    EntryPromise head table changes guards strip list a' h' t' l' →
    OneOutcome {A = Done} (record { head = h; answer = a }) (record { head = h'; answer = a' }) t t' l l'
entry_one_outcome head table changes guards strip list a a' h h' t t' l l' e f =
    publish_one_outcome head table (lending changes (flat guards) strip list) _ _ t t' l l' e f
