-- What crosses to C after a call, and what the rules say. The promise of each exported call is that the two are equal: it is the
-- promise of the call behind it, spoken of the numbers that cross.
use Rattle.std.specs.Prelude.{ℕ, ◌≡◌, List}
use Rattle.rules.specs.declared.Head.{Head}
use Rattle.rules.specs.declared.Told.{Told}
use Rattle.rules.specs.Answers.{told_of}
use Rattle.rules.specs.Orders.{Call}
use Rattle.rules.specs.Calls.{prepare_of, rollback_of, removal_of, publish_of, count_of}
use Rattle.publish.specs.Promises as posting
use Rattle.exports_postings.specs.declared.Done.{Done}

-- what is seen of a posting call's result, with the table and the record list as they are on return
abbrev pub posting_seen : Done → List ℕ → List ℕ → posting.Seen
posting_seen r table list = record { told = r.told; head = r.head; table = table; record_list = list }

abbrev pub PreparePromise : Head → List ℕ → Call → Done → List ℕ → List ℕ → Type 0
PreparePromise head table c r table_left list_left = posting_seen r table_left list_left ≡ posting.seen_of (prepare_of head table c)

abbrev pub RollbackPromise : Head → List ℕ → Call → Done → List ℕ → List ℕ → Type 0
RollbackPromise head table c r table_left list_left = posting_seen r table_left list_left ≡ posting.seen_of (rollback_of head table c)

abbrev pub RemovalPromise : Head → List ℕ → Call → Done → List ℕ → List ℕ → Type 0
RemovalPromise head table c r table_left list_left = posting_seen r table_left list_left ≡ posting.seen_of (removal_of head table c)

abbrev pub PublishPromise : Head → List ℕ → Call → Done → List ℕ → List ℕ → Type 0
PublishPromise head table c r table_left list_left = posting_seen r table_left list_left ≡ posting.seen_of (publish_of head table c)

abbrev pub CountPromise : Head → List ℕ → ℕ → ℕ → Told → Type 0
CountPromise head table binding key r = r ≡ told_of (count_of head table binding key)
