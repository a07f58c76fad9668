-- The words in which the laws speak of a call, without its steps: what it finds, what destinations and sources come to, the bytes
-- that are read, and what a change of a set may take away.
use Rattle.std.specs.Prelude.{ℕ, ◌+◌, ◌<◌, ◌≤◌, ◌≡◌, List, [], ◌∷◌, Bool, true, false, cond, ◌&&◌, ◌||◌, length, get_or, eqb, leb, Result, Err}
use Rattle.strips.specs.Strips.{byte_at}
use Rattle.rules.specs.declared.Posting.{Posting}
use Rattle.rules.specs.declared.Head.{Head}
use Rattle.rules.specs.declared.Failure.{Failure}
use Rattle.rules.specs.Answers.{Class, class_of, refuses, changes_nothing, poisons}
use Rattle.rules.specs.Postings.{present, inserted, removed}
use Rattle.rules.specs.Orders.{Numbered, Call}
use Rattle.rules.specs.Table.{postings, well_formed}
use Rattle.rules.specs.Calls.{Outcome, as_before}

-- the postings of a table with its head, as a call finds them
abbrev pub postings_before : Head → List ℕ → List Posting
postings_before head table = postings head.used table

-- the list with these destinations
unfoldable pub added : List Numbered → List Posting → List Posting
added [] ps = ps
added (d ∷ ds) ps = added ds (inserted d.posting ps)

-- the list without these sources
unfoldable pub taken_away : List Numbered → List Posting → List Posting
taken_away [] ps = ps
taken_away (d ∷ ds) ps = taken_away ds (removed d.posting ps)

-- strictly ascending numbers, none of them below low
unfoldable pub rising : ℕ → List ℕ → Bool
rising low [] = true
rising low (n ∷ ns) = leb low n && rising (n + 1) ns

-- no destination or source: what stands past the end of their lists
abbrev pub nowhere : Numbered
nowhere = record { number = 0; posting = record { binding = 0; key = 0; row = 0 } }

-- the change number of the destination or source at a place of its list
abbrev pub number_at : List Numbered → ℕ → ℕ
number_at ds k = (get_or ds k nowhere).number

-- every byte from one place up to another is 0
abbrev pub Quiet : List ℕ → ℕ → ℕ → Type 0
Quiet strip from to = (i : ℕ) → from ≤ i → i < to → byte_at strip i ≡ 0

-- some byte there is not 0
pub record Noisy (strip : List ℕ) (from to : ℕ) : Type 0 where
  pub place : ℕ
  pub after : from ≤ place
  pub below : place < to
  pub fault : byte_at strip place ≡ 0 → ⊥

-- upstream's removed_only: nothing came in, and only what is owned may have gone
pub record RemovedOnly (before after owned : List Posting) : Type 0 where
  pub inside : (p : Posting) → present p after ≡ true → present p before ≡ true
  pub kept : (p : Posting) → present p before ≡ true → present p owned ≡ false → present p after ≡ true

-- the class that a number tells: 0; 10 and 11; 12 and 13; every other is a refusal
abbrev pub class_of_number : ℕ → Class
class_of_number n =
    cond (eqb n 0) Class.accepted
    (cond (eqb n 10 || eqb n 11) Class.undone (cond (eqb n 12 || eqb n 13) Class.broken Class.refused))

-- 1 to 9 and 14: what a check refuses with
abbrev pub is_refusal : Result ℕ Failure → Bool
is_refusal a = refuses (class_of a)

-- 1 to 11 and 14: the answers that leave everything as before
abbrev pub is_unchanged : Result ℕ Failure → Bool
is_unchanged a = changes_nothing (class_of a)

-- what is claimed of the outcome of a call: an answer of 1 to 11 or 14 leaves everything as before
abbrev pub AsBefore : Head → List ℕ → Call → Outcome → Type 0
AsBefore head table c o = is_unchanged o.answer ≡ true → o ≡ as_before head table c.record_list o.answer

-- a well-formed table stays well formed
abbrev pub StaysWellFormed : Head → List ℕ → Outcome → Type 0
StaysWellFormed head table o = well_formed head table ≡ true → well_formed o.head o.table ≡ true

-- a well-formed table that is poisoned is refused with 2, and nothing changes
abbrev pub RefusesPoisoned : Head → List ℕ → Call → Outcome → Type 0
RefusesPoisoned head table c o =
    well_formed head table ≡ true → head.poisoned ≡ 1 → o ≡ as_before head table c.record_list (Err Failure.Poisoned)

-- it is refused with 1, whatever its poison flag is, and nothing changes
abbrev pub RefusesUnformed : Head → List ℕ → Call → Outcome → Type 0
RefusesUnformed head table c o = well_formed head table ≡ false → o ≡ as_before head table c.record_list (Err Failure.Table)

-- upstream's stable, and the table's size: no answer touches the binding count, and only 12 and 13 touch the poison flag
pub record Stable (head : Head) (table : List ℕ) (o : Outcome) : Type 0 where
  pub bindings : o.head.bindings ≡ head.bindings
  pub flag : o.head.poisoned ≡ cond (poisons o.answer) 1 head.poisoned
  pub size : length o.table ≡ length table
