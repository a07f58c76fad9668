-- The public calls: what each answers, and the table, head and record list that it leaves.
use Rattle.std.specs.Prelude.{ℕ, List, [], reverse, cond, length, Result, Ok, Err}
use Rattle.lent_lists.specs.Written.{written}
use Rattle.rules.specs.declared.Posting.{Posting}
use Rattle.rules.specs.declared.Change.{Change}
use Rattle.rules.specs.declared.Head.{Head}
use Rattle.rules.specs.declared.Done.{Done}
use Rattle.rules.specs.declared.Failure.{Failure}
use Rattle.rules.specs.Postings.{counted}
use Rattle.rules.specs.Table.{capacity, postings, laid_out}
use Rattle.rules.specs.Orders.{Numbered, destinations, sources, change_numbers, recorded, Call, changes_of}
use Rattle.rules.specs.Answers.{is_accepted, poisons, settled}
use Rattle.rules.specs.Checks.{prepare_checks, rollback_checks, removal_checks, publish_checks, count_checks}
use Rattle.rules.specs.Publication.{undoing, Stage, preparing, removing, rolled_back, then_sources}

-- all that is seen after a call
pub record Outcome : Type 0 where
  pub answer : Result ℕ Failure
  pub head : Head
  pub table : List ℕ
  pub record_list : List ℕ

-- what a call returned, with the table and the record list that it left
abbrev pub outcome_of : Done → List ℕ → List ℕ → Outcome
outcome_of r table list = record { answer = r.answer; head = r.head; table = table; record_list = list }

-- a refusal changes nothing
abbrev pub as_before : Head → List ℕ → List ℕ → Result ℕ Failure → Outcome
as_before head table list a = record { answer = a; head = head; table = table; record_list = list }

-- the refusal, or else the work
abbrev pub unless_refused : Result Unit Failure → (Result ℕ Failure → Outcome) → Outcome → Outcome
unless_refused (Ok _) refusal work = work
unless_refused (Err why) refusal work = refusal (Err why)

-- a head with another used and flag
abbrev pub head_with : Head → ℕ → ℕ → Head
head_with head used poisoned = record { bindings = head.bindings; used = used; poisoned = poisoned }

-- the head beside these postings; 12 and 13 set its poison flag
abbrev pub head_after : Head → Result ℕ Failure → List Posting → Head
head_after head a ps = head_with head (length ps) (cond (poisons a) 1 head.poisoned)

-- a stage's postings shown in the lent table, with the head and the record list that go with them
abbrev pub shown : Head → List ℕ → List ℕ → Stage → Outcome
shown head table list s =
    record {
      answer = s.answer;
      head = head_after head s.answer s.postings;
      table = laid_out (length table) s.postings;
      record_list = list;
    }

-- the record is written only after the last insertion, in the first places of its list; places past it stay
abbrev pub record_after : Stage → List Numbered → List ℕ → List ℕ
record_after stage ds list = cond (is_accepted stage.answer) (written (change_numbers ds) list) list

-- The work of a call that no check refused, over what it looks at: the changes, the strip and the record list.
module _ (head : Head) (table : List ℕ) (cs : List Change) (strip : List ℕ) where
  -- the prepare part of prepare and publish
  abbrev pub preparation : Stage
  preparation = preparing (capacity table) strip (destinations cs) [] 0 (postings head.used table)

  -- prepare, with its record
  abbrev pub prepare_work : List ℕ → Outcome
  prepare_work list = shown head table (record_after preparation (destinations cs) list) preparation

  -- rollback, over its record from the end to the start
  abbrev pub rollback_work : List ℕ → Outcome
  rollback_work list =
      shown head table list
      (rolled_back (undoing strip (reverse (recorded cs list)) (Ok tt) 0 (postings head.used table)))

  -- source removal
  abbrev pub removal_work : List ℕ → Outcome
  removal_work list = shown head table list (removing strip (Ok 0) (sources cs) 0 (postings head.used table))

  -- publish: prepare, then source removal
  abbrev pub publish_work : List ℕ → Outcome
  publish_work list =
      shown head table (record_after preparation (destinations cs) list) (then_sources strip (sources cs) preparation)

module _ (head : Head) (table : List ℕ) (c : Call) where
  -- the prepare part of a call
  abbrev pub prepared : Stage
  prepared = preparation head table (changes_of c) c.strip

  -- the calls: prepare_index_destinations
  unfoldable pub prepare_of : Outcome
  prepare_of =
      unless_refused (prepare_checks head table c) (as_before head table c.record_list)
      (prepare_work head table (changes_of c) c.strip c.record_list)

  -- rollback_index_destinations
  unfoldable pub rollback_of : Outcome
  rollback_of =
      unless_refused (rollback_checks head table c) (as_before head table c.record_list)
      (rollback_work head table (changes_of c) c.strip c.record_list)

  -- remove_index_sources
  unfoldable pub removal_of : Outcome
  removal_of =
      unless_refused (removal_checks head table c) (as_before head table c.record_list)
      (removal_work head table (changes_of c) c.strip c.record_list)

  -- publish
  unfoldable pub publish_of : Outcome
  publish_of =
      unless_refused (publish_checks head table c) (as_before head table c.record_list)
      (publish_work head table (changes_of c) c.strip c.record_list)

-- count: how many postings a binding and key have; an absent key has 0
unfoldable pub count_of : Head → List ℕ → ℕ → ℕ → Result ℕ Failure
count_of head table binding key =
    settled (count_checks head table binding) (Ok (counted binding key (postings head.used table)))
