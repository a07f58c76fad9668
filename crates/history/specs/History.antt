-- Right or withheld: what can be said of a table that only publish calls write. All words here are over the rules of one
-- publish and one count; there is no second model.
use Rattle.std.specs.Prelude.{ℕ, ◌+◌, ◌≤◌, ◌≡◌, List, [], ◌∷◌, ◌++◌, map, Bool, true, false, cond, not, ◌&&◌, ◌||◌, length, take, ltb, Result, Ok, Err}
use Rattle.strips.specs.Strips.{proper_strip}
use Rattle.rules.specs.declared.Posting.{Posting}
use Rattle.rules.specs.declared.Head.{Head}
use Rattle.rules.specs.declared.Failure.{Failure}
use Rattle.rules.specs.Postings.{present, counted}
use Rattle.rules.specs.Table.{postings, laid_out, well_formed}
use Rattle.rules.specs.Orders.{destinations, sources, postings_of, Call, changes_of}
use Rattle.rules.specs.Answers.{told_of, is_accepted, poisons}
use Rattle.lent_lists.specs.Among.{among}
use Rattle.lent_lists.specs.Written.{written}
use Rattle.rules.specs.Calls.{Outcome, as_before, head_with, publish_of, count_of}
use Rattle.laws.specs.Words.{added, taken_away, rising, Quiet}

-- a table with its head
pub record Index : Type 0 where
  pub head : Head
  pub table : List ℕ

-- what a publish answers and leaves there
abbrev pub published : Index → Call → Outcome
published x c = publish_of x.head x.table c

-- what a count answers there
abbrev pub counted_in : Index → ℕ → ℕ → Result ℕ Failure
counted_in x binding key = count_of x.head x.table binding key

-- the postings that it holds
abbrev pub postings_in : Index → List Posting
postings_in x = postings x.head.used x.table

-- the index that an outcome leaves
abbrev pub index_of : Outcome → Index
index_of o = record { head = o.head; table = o.table }

-- the index after a list of publish calls
unfoldable pub after : Index → List Call → Index
after x [] = x
after x (c ∷ cs) = after (index_of (published x c)) cs

-- what each call answered and left: answer, head, table and record list
unfoldable pub outcomes : Index → List Call → List Outcome
outcomes x [] = []
outcomes x (c ∷ cs) = published x c ∷ outcomes (index_of (published x c)) cs

-- no call answered 12 or 13
unfoldable pub unbroken : Index → List Call → Bool
unbroken x [] = true
unbroken x (c ∷ cs) = not (poisons (published x c).answer) && unbroken (index_of (published x c)) cs

-- the calls that were accepted, in order
unfoldable pub accepted : Index → List Call → List Call
accepted x [] = []
accepted x (c ∷ cs) =
    cond (is_accepted (published x c).answer) (c ∷ accepted (index_of (published x c)) cs) (accepted (index_of (published x c)) cs)

-- and their outcomes
unfoldable pub accepted_outcomes : Index → List Call → List Outcome
accepted_outcomes x [] = []
accepted_outcomes x (c ∷ cs) =
    cond (is_accepted (published x c).answer)
    (published x c ∷ accepted_outcomes (index_of (published x c)) cs)
    (accepted_outcomes (index_of (published x c)) cs)

-- what calls say, in order: destinations added, sources taken away
unfoldable pub said : List Call → List Posting → List Posting
said [] ps = ps
said (c ∷ cs) ps = said cs (taken_away (sources (changes_of c)) (added (destinations (changes_of c)) ps))

-- whether a posting is among what calls say, if it was or was not there before: in with a destination, out with a source
unfoldable pub said_of : List Call → Posting → Bool → Bool
said_of [] p there = there
said_of (c ∷ cs) p there =
    said_of cs p
    ((there || present p (postings_of (destinations (changes_of c)))) && not (present p (postings_of (sources (changes_of c)))))

-- the count of these postings under a binding and key; 6 where the binding is not below the index's count
abbrev pub own_count : Index → List Posting → ℕ → ℕ → Result ℕ Failure
own_count x ps binding key =
    cond (ltb binding x.head.bindings) (Ok (counted binding key ps)) (Err (Failure.Guard 0))

-- the index of this size and binding count that holds these postings, unpoisoned
abbrev pub holding : Index → List Posting → Index
holding x ps = record { head = head_with x.head (length ps) 0; table = laid_out (length x.table) ps }

-- the same call with no storage failure
abbrev pub quiet : Call → Call
quiet c = record { change_list = c.change_list; guard_list = c.guard_list; strip = []; record_list = c.record_list }

-- a call made again with no storage failure: the same changes and guards, any proper strip of which every byte that is read is 0,
-- and any record list with a place for each change
pub record Again (c d : Call) : Type 0 where
  pub change_list : d.change_list ≡ c.change_list
  pub guard_list : d.guard_list ≡ c.guard_list
  pub room : length (changes_of c) ≤ length d.record_list
  pub proper : proper_strip d.strip ≡ true
  pub quiet : Quiet d.strip 0 (length (destinations (changes_of c)) + length (sources (changes_of c)))

-- calls made again, one by one
pub data AllAgain : List Call → List Call → Type 0 where
  none : AllAgain [] []
  next : {c d : Call} {cs ds : List Call} → Again c d → AllAgain cs ds → AllAgain (c ∷ cs) (d ∷ ds)

-- the record that an accepted call wrote: as many numbers as it names, at the front of its list
abbrev pub record_in : Outcome → List ℕ
record_in o = take (told_of o.answer).named o.record_list

-- the same outcome where another call lent the list: the same record stands at the front of that list, and its later places stay
abbrev pub relent : Call → Outcome → Outcome
relent d o =
    record { answer = o.answer; head = o.head; table = o.table; record_list = written (record_in o) d.record_list }

-- outcomes, each so with the call at its place
unfoldable pub relent_all : List Call → List Outcome → List Outcome
relent_all [] os = []
relent_all (d ∷ ds) [] = []
relent_all (d ∷ ds) (o ∷ os) = relent d o ∷ relent_all ds os

-- well formed, unpoisoned, and holding just these postings; with none, it is empty
pub record Holds (x : Index) (start : List Posting) : Type 0 where
  pub formed : well_formed x.head x.table ≡ true
  pub healthy : x.head.poisoned ≡ 0
  pub just : postings_in x ≡ start

-- of equal size and binding count
pub record Alike (x y : Index) : Type 0 where
  pub size : length y.table ≡ length x.table
  pub bindings : y.head.bindings ≡ x.head.bindings

-- the number of rows whose posting, under this binding and key, is among what calls say: those rows, each once, ascending
pub record CountSaid (start : List Posting) (cs : List Call) (binding key n : ℕ) : Type 0 where
  pub rows : List ℕ
  pub count : n ≡ length rows
  pub ascends : rising 0 rows ≡ true
  pub said :
      (row : ℕ) →
      among row rows ≡
      said_of cs (record { binding = binding; key = key; row = row }) (present (record { binding = binding; key = key; row = row }) start)

-- until a call answers 12 or 13, from an index that holds the postings start
pub record Right (x : Index) (start : List Posting) (cs : List Call) : Type 0 where
  -- table and head are what the accepted calls alone say, in order
  pub table : after x cs ≡ holding x (said (accepted x cs) start)
  -- and so the postings that stand there
  pub set : (p : Posting) → present p (postings_in (after x cs)) ≡ said_of (accepted x cs) p (present p start)
  -- a count answered now is that table's own number
  pub counts : (binding key : ℕ) → counted_in (after x cs) binding key ≡ own_count x (said (accepted x cs) start) binding key
  -- and that is the number of rows that the accepted calls say
  pub rows : (binding key : ℕ) → CountSaid start (accepted x cs) binding key (counted binding key (said (accepted x cs) start))
  -- the accepted calls made again with no storage failure, on an index of equal size and binding count that holds the same start,
  -- give the same table and head; and on the way the same answers, heads and tables, with the same record numbers at the front of
  -- whatever list was lent
  pub again : (y : Index) (ds : List Call) → Holds y start → Alike x y → AllAgain (accepted x cs) ds → after y ds ≡ after x cs
  pub again_records :
      (y : Index) (ds : List Call) → Holds y start → Alike x y → AllAgain (accepted x cs) ds →
      outcomes y ds ≡ relent_all ds (accepted_outcomes x cs)
  -- with empty strips and the record lists that were lent the first time, the same number for number
  pub replay : (y : Index) → Holds y start → Alike x y → after y (map quiet (accepted x cs)) ≡ after x cs
  pub records : (y : Index) → Holds y start → Alike x y → outcomes y (map quiet (accepted x cs)) ≡ accepted_outcomes x cs

-- the first call that answers 12 or 13: until it the history was right, and no later call is accepted
pub record Break (x : Index) (start : List Posting) (cs : List Call) : Type 0 where
  pub before : List Call
  pub call : Call
  pub later : List Call
  pub whole : cs ≡ before ++ call ∷ later
  pub first : unbroken x before ≡ true
  pub fatal : poisons (published (after x before) call).answer ≡ true
  pub until : Right x start before
  pub taken : accepted x cs ≡ accepted x before
  -- table and head are as that call left them
  pub stands : after x cs ≡ index_of (published (after x before) call)

-- after a call has answered 12 or 13
pub record Withheld (x : Index) (start : List Posting) (cs : List Call) : Type 0 where
  pub break : Break x start cs
  -- every publish is refused as poisoned and changes nothing
  pub publishes :
      (c : Call) → published (after x cs) c ≡ as_before (after x cs).head (after x cs).table c.record_list (Err Failure.Poisoned)
  -- so is every count
  pub counts : (binding key : ℕ) → counted_in (after x cs) binding key ≡ Err Failure.Poisoned
  -- and table and head stay fixed, whatever is called
  pub fixed : (more : List Call) → after x (cs ++ more) ≡ after x cs

-- any list of calls: right, or withheld
pub record RightOrWithheld (x : Index) (start : List Posting) (cs : List Call) : Type 0 where
  pub right : unbroken x cs ≡ true → Right x start cs
  pub withheld : unbroken x cs ≡ false → Withheld x start cs
