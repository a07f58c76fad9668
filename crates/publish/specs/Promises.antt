-- What is seen after a call, and what the rules say is seen. The promise of each call is that the two are equal.
use Rattle.std.specs.Prelude.{ℕ, ◌≡◌, List, Result}
use Rattle.rules.specs.declared.Head.{Head}
use Rattle.rules.specs.declared.Failure.{Failure}
use Rattle.rules.specs.declared.Told.{Told}
use Rattle.rules.specs.Answers.{told_of}
use Rattle.rules.specs.declared.Done.{Done}
use Rattle.rules.specs.Orders.{Call}
use Rattle.rules.specs.Calls.{Outcome, prepare_of, rollback_of, removal_of, publish_of, count_of}

-- the numbers of the answer, the head, and every number of the table and of the record list
pub record Seen : Type 0 where
  pub told : Told
  pub head : Head
  pub table : List ℕ
  pub record_list : List ℕ

-- a result, with the lists that were lent for writing as they are on return
abbrev pub seen : Done → List ℕ → List ℕ → Seen
seen r table list = record { told = told_of r.answer; head = r.head; table = table; record_list = list }

-- an outcome of the rules
abbrev pub seen_of : Outcome → Seen
seen_of o = record { told = told_of o.answer; head = o.head; table = o.table; record_list = o.record_list }

-- the promises: at entry head, table and what is lent; on return the result, the table and the record list
abbrev pub PreparePromise : Head → List ℕ → Call → Done → List ℕ → List ℕ → Type 0
PreparePromise head table c r table_left list_left = seen r table_left list_left ≡ seen_of (prepare_of head table c)

abbrev pub RollbackPromise : Head → List ℕ → Call → Done → List ℕ → List ℕ → Type 0
RollbackPromise head table c r table_left list_left = seen r table_left list_left ≡ seen_of (rollback_of head table c)

abbrev pub RemovalPromise : Head → List ℕ → Call → Done → List ℕ → List ℕ → Type 0
RemovalPromise head table c r table_left list_left = seen r table_left list_left ≡ seen_of (removal_of head table c)

abbrev pub PublishPromise : Head → List ℕ → Call → Done → List ℕ → List ℕ → Type 0
PublishPromise head table c r table_left list_left = seen r table_left list_left ≡ seen_of (publish_of head table c)

-- a count only reads: its answer is all that is seen
abbrev pub CountPromise : Head → List ℕ → ℕ → ℕ → Result ℕ Failure → Type 0
CountPromise head table binding key a = told_of a ≡ told_of (count_of head table binding key)
