-- What the entries promise: what the by-value calls promise, at the flat numbers of the guards, with the head set in place.
use Rattle.std.specs.Prelude.{ℕ, List, ◌≡◌, Bool, Result}
use Rattle.rules.specs.declared.Failure.{Failure}
use Rattle.rules.specs.declared.Guard.{Guard}
use Rattle.rules.specs.declared.Head.{Head}
use Rattle.rules.specs.Orders.{held, lending}
use Rattle.publish.specs.Promises.{PublishPromise}
use Rattle.guarding.specs.Asking.{flat}
use Rattle.guarding.specs.InPlace.{poisoned_head}

-- the flag is set in place, and nothing else
abbrev pub PoisonPromise : Head → Head → Type 0
PoisonPromise head head_left = head_left ≡ poisoned_head head

-- the answer of the rules: whether the pair is among the guards
abbrev pub HeldPromise : List Guard → ℕ → ℕ → Bool → Type 0
HeldPromise guards binding key r = r ≡ held binding key guards

-- at entry head, table and what is lent; on return the answer, the head, the table and the record list
abbrev pub EntryPromise :
    Head → List ℕ → List ℕ → List Guard → List ℕ → List ℕ → Result ℕ Failure → Head → List ℕ → List ℕ → Type 0
EntryPromise head table changes guards strip list answer head_left table_left list_left =
    PublishPromise head table (lending changes (flat guards) strip list) (record { head = head_left; answer = answer }) table_left list_left
