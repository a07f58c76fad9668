-- What crosses to C after a call, and what the rules say. The promise of each exported call is that the two are equal: it is the
-- promise of the call behind it, spoken of the numbers that cross.
use Rattle.std.specs.Prelude.{ℕ, ◌≡◌, List, cond}
use Rattle.rules.specs.declared.Guard.{Guard}
use Rattle.rules.specs.declared.Head.{Head}
use Rattle.rules.specs.declared.Told.{Told}
use Rattle.rules.specs.Orders.{held, lending}
use Rattle.guarding.specs.Asking.{flat}
use Rattle.exports_postings.specs.Promises.{PublishPromise}

-- with the head set in place, and the guards' flat numbers
abbrev pub LentPublishPromise : Head → List ℕ → List ℕ → List Guard → List ℕ → List ℕ → Told → Head → List ℕ → List ℕ → Type 0
LentPublishPromise head table changes guards strip list r head_left table_left list_left =
    PublishPromise head table (lending changes (flat guards) strip list) (record { head = head_left; told = r }) table_left list_left

abbrev pub HeldPromise : List Guard → ℕ → ℕ → ℕ → Type 0
HeldPromise guards binding key r = r ≡ cond (held binding key guards) 1 0
