-- The by-value call beside what was found of the guards, and the head that is set in place after it.
use Rattle.std.specs.Prelude.{ℕ, ◌/◌, List, [], ◌∷◌, ◌≡◌, cond, eqb, leb, Result}
use Rattle.rules.specs.declared.Failure.{Failure}
use Rattle.rules.specs.Limits.{most_guards}
use Rattle.rules.specs.declared.Head.{Head}
use Rattle.rules.specs.Orders.{changes}
use Rattle.rules.specs.Checks.{first_refusal, order_checks}
use Rattle.rules.specs.Calls.{Outcome, head_with}
use Rattle.checks.specs.Guarding.{bindings_from}
use Rattle.publish_core.specs.Core.{core_of}
use Rattle.guarding.specs.declared.Published.{Published}

-- the head with its poison flag set
abbrev pub poisoned_head : Head → Head
poisoned_head head = head_with head head.used 1

-- 1 to 5, and 6 by the first place whose key is not held, of so many guards
abbrev pub asked_beside : Head → List ℕ → List ℕ → ℕ → ℕ → List ℕ → List ℕ → Result Unit Failure
asked_beside head table cs guards unheld strip list =
    first_refusal
    (order_checks head table cs (leb guards most_guards) strip list
    ∷ bindings_from head.bindings (unheld / 2) 0 (changes cs)
    ∷ [])

-- what the core leaves after them
abbrev pub value_of : Head → List ℕ → List ℕ → ℕ → ℕ → List ℕ → List ℕ → Outcome
value_of head table cs guards unheld strip list = core_of head table cs (asked_beside head table cs guards unheld strip list) strip list

-- all that is seen is this outcome, but for the poison flag: the head has it as it was lent, and whether it is to be set is told apart
pub record HandsBack (lent : Head) (o : Outcome) (r : Published) (table_left list_left : List ℕ) : Type 0 where
  pub answer : r.answer ≡ o.answer
  pub head : r.head ≡ head_with o.head o.head.used lent.poisoned
  pub flag : r.poisons ≡ eqb o.head.poisoned 1
  pub table : table_left ≡ o.table
  pub record_list : list_left ≡ o.record_list

-- the by-value call hands back what the core leaves
abbrev pub ByValuePromise :
    Head → List ℕ → List ℕ → ℕ → ℕ → List ℕ → List ℕ → Published → List ℕ → List ℕ → Type 0
ByValuePromise head table cs guards unheld strip list r table_left list_left =
    HandsBack head (value_of head table cs guards unheld strip list) r table_left list_left

-- the head as it is set in place: as it was handed back, with the flag where it is to be set
abbrev pub set_in_place : Published → Head
set_in_place r = head_with r.head r.head.used (cond r.poisons 1 r.head.poisoned)
