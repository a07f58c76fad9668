-- When a publish is accepted, and how it and the other calls end otherwise, told by their checks, the room in the table and the
-- bytes of the strip alone. No step of prepare, undo or source removal is named here.
use Rattle.std.specs.Prelude.{ℕ, ◌+◌, ◌≤◌, ◌<◌, ◌≡◌, List, [], reverse, Bool, true, not, ◌&&◌, ◌||◌, ◌⊎◌, length, Result, Ok, Err}
use Rattle.strips.specs.Strips.{byte_at}
use Rattle.lent_lists.specs.Written.{written}
use Rattle.rules.specs.declared.Posting.{Posting}
use Rattle.rules.specs.declared.Head.{Head}
use Rattle.rules.specs.declared.Failure.{Failure}
use Rattle.rules.specs.Postings.{present, ascending, counted}
use Rattle.rules.specs.Table.{capacity, postings, laid_out}
use Rattle.rules.specs.Orders.{Numbered, destinations, sources, postings_of, change_numbers, recorded, Call, changes_of}
use Rattle.rules.specs.Checks.{prepare_checks, rollback_checks, removal_checks, publish_checks, count_checks}
use Rattle.rules.specs.Calls.{Outcome}
use Rattle.laws.specs.Words.{number_at, Quiet, Noisy}

-- no check 1 to 9 applies, there is room for all destinations, and every byte that is read is 0
pub record Acceptable (head : Head) (table : List ℕ) (c : Call) : Type 0 where
  pub passes : publish_checks head table c ≡ Ok tt
  pub room : head.used + length (destinations (changes_of c)) ≤ capacity table
  pub quiet : Quiet c.strip 0 (length (destinations (changes_of c)) + length (sources (changes_of c)))

-- insertion k is the first to fail: those before it met byte 0 and room; it meets another byte, or no room
pub record Fails (capacity used : ℕ) (strip : List ℕ) (ds : List Numbered) (k : ℕ) : Type 0 where
  pub there : k < length ds
  pub quiet : Quiet strip 0 k
  pub room : used + k ≤ capacity
  pub fault : (byte_at strip k ≡ 0 → ⊥) ⊎ (used + k ≡ capacity)

-- how a publish ends that no check refuses; the undo of k insertions reads the k bytes after byte k
pub data Ends (capacity used : ℕ) (strip : List ℕ) (ds ss : List Numbered) : Result ℕ Failure → Type 0 where
  accepted :
      used + length ds ≤ capacity → Quiet strip 0 (length ds + length ss) →
      Ends capacity used strip ds ss (Ok (length ds))
  store :
      (k : ℕ) → Fails capacity used strip ds k → (byte_at strip k ≡ 0 → ⊥) → Quiet strip (k + 1) (k + 1 + k) →
      Ends capacity used strip ds ss (Err (Failure.Store (number_at ds k)))
  full :
      (k : ℕ) → Fails capacity used strip ds k → byte_at strip k ≡ 0 → Quiet strip (k + 1) (k + 1 + k) →
      Ends capacity used strip ds ss (Err (Failure.Full (number_at ds k)))
  undo :
      (k : ℕ) → Fails capacity used strip ds k → Noisy strip (k + 1) (k + 1 + k) →
      Ends capacity used strip ds ss (Err (Failure.Undo (number_at ds k)))
  source :
      (j : ℕ) → j < length ss → used + length ds ≤ capacity → Quiet strip 0 (length ds + j) →
      (byte_at strip (length ds + j) ≡ 0 → ⊥) → Ends capacity used strip ds ss (Err (Failure.Source (number_at ss j)))

-- how a rollback ends, over its record's destinations in the order of their undo: 12 names the last removal to fail
pub data RollbackEnds (strip : List ℕ) (items : List Numbered) : Result ℕ Failure → Type 0 where
  accepted : Quiet strip 0 (length items) → RollbackEnds strip items (Ok 0)
  undo :
      (k : ℕ) → k < length items → (byte_at strip k ≡ 0 → ⊥) → Quiet strip (k + 1) (length items) →
      RollbackEnds strip items (Err (Failure.Undo (number_at items k)))

-- how a source removal ends: 13 names the first removal to fail
pub data RemovalEnds (strip : List ℕ) (items : List Numbered) : Result ℕ Failure → Type 0 where
  accepted : Quiet strip 0 (length items) → RemovalEnds strip items (Ok 0)
  source :
      (j : ℕ) → j < length items → Quiet strip 0 j → (byte_at strip j ≡ 0 → ⊥) →
      RemovalEnds strip items (Err (Failure.Source (number_at items j)))

-- the answer of a call: the first check's that applies, and else by how it ends
pub data Answered (checks : Result Unit Failure) (ends : Result ℕ Failure → Type 0) : Result ℕ Failure → Type 0 where
  refused : (why : Failure) → checks ≡ Err why → Answered checks ends (Err why)
  ended : (a : Result ℕ Failure) → checks ≡ Ok tt → ends a → Answered checks ends a

module _ (head : Head) (table : List ℕ) (c : Call) where
  -- the conditions of each call's answers
  abbrev pub PublishAnswers : Result ℕ Failure → Type 0
  PublishAnswers a =
      Answered (publish_checks head table c)
      (Ends (capacity table) head.used c.strip (destinations (changes_of c)) (sources (changes_of c)))
      a

  -- as a publish that has no source
  abbrev pub PrepareAnswers : Result ℕ Failure → Type 0
  PrepareAnswers a =
      Answered (prepare_checks head table c) (Ends (capacity table) head.used c.strip (destinations (changes_of c)) []) a

  abbrev pub RollbackAnswers : Result ℕ Failure → Type 0
  RollbackAnswers a =
      Answered (rollback_checks head table c)
      (RollbackEnds c.strip (reverse (recorded (changes_of c) c.record_list)))
      a

  abbrev pub RemovalAnswers : Result ℕ Failure → Type 0
  RemovalAnswers a = Answered (removal_checks head table c) (RemovalEnds c.strip (sources (changes_of c))) a

-- a count that no check refuses is accepted, and names how many rows the table has under its binding and key
abbrev pub CountAnswers : Head → List ℕ → ℕ → ℕ → Result ℕ Failure → Type 0
CountAnswers head table binding key a =
    Answered (count_checks head table binding)
    (λ b. b ≡ Ok (counted binding key (postings head.used table)))
    a

-- a posting stands in the table or is a destination, and is no source
abbrev pub leaves_in : Head → List ℕ → Call → Posting → Bool
leaves_in head table c p =
    (present p (postings head.used table) || present p (postings_of (destinations (changes_of c))))
    && not (present p (postings_of (sources (changes_of c))))

-- what an accepted publish leaves: (postings and destinations) less sources, as a set and as the one ascending list
pub record Leaves (head : Head) (table : List ℕ) (c : Call) (o : Outcome) : Type 0 where
  pub answer : o.answer ≡ Ok (length (destinations (changes_of c)))
  pub bindings : o.head.bindings ≡ head.bindings
  pub poisoned : o.head.poisoned ≡ head.poisoned
  pub record_list : o.record_list ≡ written (change_numbers (destinations (changes_of c))) c.record_list
  pub set : (p : Posting) → present p (postings o.head.used o.table) ≡ leaves_in head table c p
  pub list :
      (l : List Posting) → ascending l ≡ true → ((p : Posting) → present p l ≡ leaves_in head table c p) →
      (o.head.used ≡ length l) × (o.table ≡ laid_out (length table) l)
