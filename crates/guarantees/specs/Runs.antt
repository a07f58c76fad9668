-- Calls of publish that were made, one after the other, and what can be said of the table that they leave.
use Rattle.std.specs.Prelude.{ℕ, ◌≡◌, List, [], ◌∷◌, ◌++◌, map, Bool, true, false, cond, not, ◌&&◌, Result, Err}
use Rattle.rules.specs.declared.Failure.{Failure}
use Rattle.rules.specs.declared.Posting.{Posting}
use Rattle.rules.specs.Postings.{present, counted}
use Rattle.rules.specs.Answers.{is_accepted, poisons}
use Rattle.rules.specs.Orders.{Call}
use Rattle.rules.specs.declared.Done.{Done}
use Rattle.rules.specs.Calls.{Outcome, as_before, outcome_of}
use Rattle.history.specs.History.{Index, postings_in, said, said_of, own_count, holding, quiet, AllAgain, relent_all, Holds, Alike, CountSaid}
use Rattle.publish.specs.Promises.{PublishPromise, CountPromise}

-- a call of publish that was made: what it was lent, the result that it returned, and the table and record list as it left them
pub record Made : Type 0 where
  pub call : Call
  pub result : Done
  pub table : List ℕ
  pub record_list : List ℕ

-- all that was seen after it
abbrev pub outcome : Made → Outcome
outcome m = outcome_of m.result m.table m.record_list

-- table and head as it left them
abbrev pub left : Made → Index
left m = record { head = m.result.head; table = m.table }

-- it kept the promise of publish on this table and head
abbrev pub Kept : Index → Made → Type 0
Kept x m = PublishPromise x.head x.table m.call m.result m.table m.record_list

-- calls one after the other, each on the table and head that the one before it left, and each kept its promise
pub data Run : Index → List Made → Type 0 where
  none : {x : Index} → Run x []
  next : {x : Index} {m : Made} {ms : List Made} → Kept x m → Run (left m) ms → Run x (m ∷ ms)

-- table and head after them
unfoldable pub end : Index → List Made → Index
end x [] = x
end x (m ∷ ms) = end (left m) ms

-- what they were lent
abbrev pub calls : List Made → List Call
calls ms = map (λ (m : Made). m.call) ms

-- what was seen after each
abbrev pub seen_after : List Made → List Outcome
seen_after ms = map outcome ms

-- those that were accepted
unfoldable pub taken : List Made → List Made
taken [] = []
taken (m ∷ ms) = cond (is_accepted m.result.answer) (m ∷ taken ms) (taken ms)

-- none answered 12 or 13
unfoldable pub sound : List Made → Bool
sound [] = true
sound (m ∷ ms) = not (poisons m.result.answer) && sound ms

-- until a call answers 12 or 13
pub record CallsRight (x : Index) (start : List Posting) (ms : List Made) : Type 0 where
  -- table and head are what the accepted calls alone say, in order: destinations added, sources taken away
  pub table : end x ms ≡ holding x (said (calls (taken ms)) start)
  pub set : (p : Posting) → present p (postings_in (end x ms)) ≡ said_of (calls (taken ms)) p (present p start)
  -- each count that is answered is that table's own
  pub counts :
      (binding key : ℕ) (a : Result ℕ Failure) → CountPromise (end x ms).head (end x ms).table binding key a →
      a ≡ own_count x (said (calls (taken ms)) start) binding key
  -- and its number is that of the rows that the accepted calls say
  pub rows :
      (binding key : ℕ) →
      CountSaid start (calls (taken ms)) binding key (counted binding key (said (calls (taken ms)) start))
  -- the accepted calls made again with no storage failure, on a table of equal size and binding count that holds the same start,
  -- leave the same table and head; and on the way the same answers, heads and tables, with the same records at the front of whatever
  -- lists were lent
  pub again :
      (y : Index) (more : List Made) → Holds y start → Alike x y → Run y more → AllAgain (calls (taken ms)) (calls more) →
      end y more ≡ end x ms
  pub again_records :
      (y : Index) (more : List Made) → Holds y start → Alike x y → Run y more → AllAgain (calls (taken ms)) (calls more) →
      seen_after more ≡ relent_all (calls more) (seen_after (taken ms))
  -- with empty strips and the record lists that were lent the first time, the same number for number
  pub replay :
      (y : Index) (ns : List Made) → Holds y start → Alike x y → Run y ns → calls ns ≡ map quiet (calls (taken ms)) →
      end y ns ≡ end x ms
  pub records :
      (y : Index) (ns : List Made) → Holds y start → Alike x y → Run y ns → calls ns ≡ map quiet (calls (taken ms)) →
      seen_after ns ≡ seen_after (taken ms)

-- after a call has answered 12 or 13
pub record CallsWithheld (x : Index) (ms : List Made) : Type 0 where
  -- every publish that is made is refused as poisoned, and changes nothing
  pub publishes :
      (m : Made) → Kept (end x ms) m →
      outcome m ≡ as_before (end x ms).head (end x ms).table m.call.record_list (Err Failure.Poisoned)
  -- so is every count
  pub counts : (binding key : ℕ) (a : Result ℕ Failure) → CountPromise (end x ms).head (end x ms).table binding key a → a ≡ Err Failure.Poisoned
  -- and table and head stay fixed, whatever is called
  pub fixed : (more : List Made) → Run (end x ms) more → end (end x ms) more ≡ end x ms

-- any calls: right as long as none has answered 12 or 13, and then withheld
pub record CallsRightOrWithheld (x : Index) (start : List Posting) (ms : List Made) : Type 0 where
  pub right : (before later : List Made) → ms ≡ before ++ later → sound before ≡ true → CallsRight x start before
  pub withheld : sound ms ≡ false → CallsWithheld x ms
