-- Prepare, rollback and source removal, step by step, and publish, which joins them. One place in the strip goes through a
-- whole call.
use Rattle.std.specs.Prelude.{ℕ, ◌+◌, List, [], ◌∷◌, cond, length, Option, Some, None, Result, Ok, Err}
use Rattle.strips.specs.Strips.{byte_at}
use Rattle.rules.specs.declared.Posting.{Posting}
use Rattle.rules.specs.declared.Fault.{Fault}
use Rattle.rules.specs.declared.Failure.{Failure}
use Rattle.rules.specs.Orders.{Numbered}
use Rattle.rules.specs.Storage.{insertion, removal}
use Rattle.rules.specs.Answers.{is_accepted, settled}

-- what a run of undo removals leaves; refused with the last change whose removal failed
pub record Undone : Type 0 where
  pub verdict : Result Unit Failure
  pub postings : List Posting
  pub read : ℕ

-- through the list, going on after a failed removal
unfoldable pub undoing : List ℕ → List Numbered → Result Unit Failure → ℕ → List Posting → Undone
undoing strip [] verdict read ps = record { verdict = verdict; postings = ps; read = read }
undoing strip (d ∷ ds) verdict read ps =
    let r = removal (byte_at strip read) d.posting ps in
    undoing strip ds (cond r.failed (Err (Failure.Undo d.number)) verdict) (read + 1) r.postings

-- what a part of a call leaves: its answer, the postings, and how many bytes are read
pub record Stage : Type 0 where
  pub answer : Result ℕ Failure
  pub postings : List Posting
  pub read : ℕ

-- a change could not be inserted: the answer that says why, where the undo was clean; else 12, with that same change
abbrev pub why_not : Result Unit Failure → Failure → ℕ → Failure
why_not (Ok _) why change = why
why_not (Err stuck) why change = Failure.Undo change

-- that answer, with what the undo left
abbrev pub not_inserted : Failure → ℕ → Undone → Stage
not_inserted why change u = record { answer = Err (why_not u.verdict why change); postings = u.postings; read = u.read }

-- by what the insertion met: the next change, or back with all that was inserted
abbrev pub by_fault : Option Fault → ℕ → Undone → Stage → Stage
by_fault None change back next = next
by_fault (Some Fault.Store) change back next = not_inserted (Failure.Store change) change back
by_fault (Some Fault.Full) change back next = not_inserted (Failure.Full change) change back

-- prepare goes up the destinations; done has those inserted so far, the last one first, which is the order of their undo
unfoldable pub preparing : ℕ → List ℕ → List Numbered → List Numbered → ℕ → List Posting → Stage
preparing capacity strip [] done read ps = record { answer = Ok (length done); postings = ps; read = read }
preparing capacity strip (d ∷ ds) done read ps =
    let i = insertion (byte_at strip read) capacity d.posting ps in
    by_fault i.fault d.number (undoing strip done (Ok tt) (read + 1) i.postings)
    (preparing capacity strip ds (d ∷ done) (read + 1) i.postings)

-- rollback: accepted where no removal failed, else 12 with the last change whose removal did
abbrev pub rolled_back : Undone → Stage
rolled_back u = record { answer = settled u.verdict (Ok 0); postings = u.postings; read = u.read }

-- source removal goes up the sources and stops at the first failure; the answer is this one where none failed
unfoldable pub removing : List ℕ → Result ℕ Failure → List Numbered → ℕ → List Posting → Stage
removing strip clear [] read ps = record { answer = clear; postings = ps; read = read }
removing strip clear (s ∷ ss) read ps =
    let r = removal (byte_at strip read) s.posting ps in
    cond r.failed
    (record { answer = Err (Failure.Source s.number); postings = r.postings; read = read + 1 })
    (removing strip clear ss (read + 1) r.postings)

-- publish: sources stay until every destination is in
abbrev pub then_sources : List ℕ → List Numbered → Stage → Stage
then_sources strip ss prepared =
    cond (is_accepted prepared.answer)
    (removing strip prepared.answer ss prepared.read prepared.postings)
    prepared
