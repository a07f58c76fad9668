-- What C and Rust get back are numbers: behind them is an answer of the inner call, of which that call's promise holds. And the
-- calls of a program, one after the other: publishes of either exported form, and counts. What is right and what is withheld is
-- said of the numbers that these calls told, and so is what a replay tells and leaves.
use Rattle.std.specs.Prelude.{ℕ, ◌<◌, ◌≤◌, ◌≡◌, List, [], ◌∷◌, ◌++◌, map, Bool, true, false, cond, not, ◌&&◌, ◌||◌, take, eqb}
use Rattle.lent_lists.specs.Written.{written}
use Rattle.rules.specs.declared.Guard.{Guard}
use Rattle.rules.specs.declared.Head.{Head}
use Rattle.rules.specs.declared.Posting.{Posting}
use Rattle.rules.specs.declared.Told.{Told}
use Rattle.rules.specs.Answers.{told_of}
use Rattle.rules.specs.Orders.{Call, lending}
use Rattle.rules.specs.Postings.{present}
use Rattle.history.specs.History.{Index, postings_in, said, said_of, holding, AllAgain, Holds, Alike, CountSaid}
use Rattle.guarding.specs.Asking.{flat}
use Rattle.exports_postings.specs.Promises.{PublishPromise, CountPromise}
use Rattle.exports_lent.specs.Promises.{LentPublishPromise}
use Rattle.guarantees.specs.Runs.{Made}

-- behind the numbers that were told is an answer that tells them, and of which a claim holds
pub record Behind {A T : Type 0} (tells : A → T) (told : T) (P : A → Type 0) : Type 0 where
  pub answer : A
  pub numbers : tells answer ≡ told
  pub promise : P answer

-- how a publish was lent its guards: asdrifen_publish takes guards, asdrifen_publish_by_value takes numbers, two to a guard
pub data GuardsLent : Type 0 where
  structs : List Guard → GuardsLent
  numbers : List ℕ → GuardsLent

-- their numbers
abbrev pub numbers_of : GuardsLent → List ℕ
numbers_of (GuardsLent.structs gs) = flat gs
numbers_of (GuardsLent.numbers ns) = ns

-- a publish of either form that C or Rust made: what it was lent, the numbers that it told, and head, table and record list as it
-- left them
pub record Crossed : Type 0 where
  pub changes : List ℕ
  pub guards : GuardsLent
  pub strip : List ℕ
  pub list : List ℕ
  pub told : Told
  pub head : Head
  pub table : List ℕ
  pub record_list : List ℕ

-- what it was lent beside head and table
abbrev pub lent_to : Crossed → Call
lent_to m = lending m.changes (numbers_of m.guards) m.strip m.list

-- head and table as it left them
abbrev pub left_by : Crossed → Index
left_by m = record { head = m.head; table = m.table }

-- what the exported function of that form promises of it on this head and table
abbrev pub promised : GuardsLent → Index → Crossed → Type 0
promised (GuardsLent.structs gs) x m =
    LentPublishPromise x.head x.table m.changes gs m.strip m.list m.told m.head m.table m.record_list
promised (GuardsLent.numbers ns) x m =
    PublishPromise x.head x.table (lending m.changes ns m.strip m.list) (record { head = m.head; told = m.told })
    m.table m.record_list

-- it kept its promise on this head and table
abbrev pub KeptAcross : Index → Crossed → Type 0
KeptAcross x m = promised m.guards x m

-- a call of a program: a publish of either form, or a count with the numbers that it told
pub data Called : Type 0 where
  publish : Crossed → Called
  count : (binding key : ℕ) → Told → Called

-- calls one after the other, each on the head and table that the one before it left, and each kept its promise
pub data RunAcross : Index → List Called → Type 0 where
  none : {x : Index} → RunAcross x []
  publish :
      {x : Index} {m : Crossed} {ms : List Called} → KeptAcross x m → RunAcross (left_by m) ms →
      RunAcross x (Called.publish m ∷ ms)
  count :
      {x : Index} {binding key : ℕ} {told : Told} {ms : List Called} → CountPromise x.head x.table binding key told →
      RunAcross x ms → RunAcross x (Called.count binding key told ∷ ms)

-- head and table after them
unfoldable pub end_across : Index → List Called → Index
end_across x [] = x
end_across x (Called.publish m ∷ ms) = end_across (left_by m) ms
end_across x (Called.count binding key told ∷ ms) = end_across x ms

-- the publishes that told 0
unfoldable pub taken_across : List Called → List Crossed
taken_across [] = []
taken_across (Called.publish m ∷ ms) = cond (eqb m.told.answer 0) (m ∷ taken_across ms) (taken_across ms)
taken_across (Called.count binding key told ∷ ms) = taken_across ms

-- none told 12 or 13
unfoldable pub sound_across : List Called → Bool
sound_across [] = true
sound_across (Called.publish m ∷ ms) = not (eqb m.told.answer 12 || eqb m.told.answer 13) && sound_across ms
sound_across (Called.count binding key told ∷ ms) = sound_across ms

-- what the publishes that told 0 were lent
abbrev pub taken_calls : List Called → List Call
taken_calls ms = map lent_to (taken_across ms)

-- the publishes of a run, whatever they told
unfoldable pub publishes_of : List Called → List Crossed
publishes_of [] = []
publishes_of (Called.publish m ∷ ms) = m ∷ publishes_of ms
publishes_of (Called.count binding key told ∷ ms) = publishes_of ms

-- the inner call behind a publish: lent the same, it told the same numbers and left the same
pub record Inner (m : Crossed) (n : Made) : Type 0 where
  pub call : n.call ≡ lent_to m
  pub told : told_of n.result.answer ≡ m.told
  pub head : n.result.head ≡ m.head
  pub table : n.table ≡ m.table
  pub record_list : n.record_list ≡ m.record_list

-- one by one; a count has none
pub data AllInner : List Called → List Made → Type 0 where
  none : AllInner [] []
  publish :
      {m : Crossed} {n : Made} {ms : List Called} {ns : List Made} → Inner m n → AllInner ms ns →
      AllInner (Called.publish m ∷ ms) (n ∷ ns)
  count :
      {binding key : ℕ} {told : Told} {ms : List Called} {ns : List Made} → AllInner ms ns →
      AllInner (Called.count binding key told ∷ ms) ns

-- what a count tells where these calls say what there is: 0 with the number of their rows, and 6 where the binding is not below the
-- binding count
pub record CountTold (x : Index) (start : List Posting) (cs : List Call) (binding key : ℕ) (told : Told) : Type 0 where
  pub answered : binding < x.head.bindings → told ≡ record { answer = 0; named = told.named; other = 0 }
  pub number : binding < x.head.bindings → CountSaid start cs binding key told.named
  pub refused : x.head.bindings ≤ binding → told ≡ record { answer = 6; named = 0; other = 0 }

-- a publish on this head and table told 2 and changed nothing
pub record RefusedAcross (x : Index) (m : Crossed) : Type 0 where
  pub told : m.told ≡ record { answer = 2; named = 0; other = 0 }
  pub index : left_by m ≡ x
  pub record_list : m.record_list ≡ m.list

-- a run makes again, with no storage failure, the publishes of another that told 0: one by one, through either form, the same changes
-- and the same guards by their numbers, any proper strip of which every byte that is read is 0, and any record list with a place for
-- each change. It may count in between
abbrev pub MakesAgain : List Called → List Called → Type 0
MakesAgain ms ns = AllAgain (taken_calls ms) (map lent_to (publishes_of ns))

-- the record of a publish that told 0: as many numbers as it named, at the front of its list
abbrev pub record_by : Crossed → List ℕ
record_by m = take m.told.named m.record_list

-- made again, a publish did the same: it told the same numbers, left the same head and table, and wrote the same record to the front
-- of the list that it was lent now, whose later places stayed
pub record DidAgain (m n : Crossed) : Type 0 where
  pub told : n.told ≡ m.told
  pub index : left_by n ≡ left_by m
  pub record_list : n.record_list ≡ written (record_by m) n.list

-- one by one
pub data AllDidAgain : List Crossed → List Crossed → Type 0 where
  none : AllDidAgain [] []
  next : {m n : Crossed} {ms ns : List Crossed} → DidAgain m n → AllDidAgain ms ns → AllDidAgain (m ∷ ms) (n ∷ ns)

-- a run from y on is a replay of one from x on: it leaves the same head and table, and each of its publishes did what the publish
-- that told 0 at its place did
pub record Replayed (x : Index) (ms : List Called) (y : Index) (ns : List Called) : Type 0 where
  pub index : end_across y ns ≡ end_across x ms
  pub publishes : AllDidAgain (taken_across ms) (publishes_of ns)

-- any run, at each of its calls: right as long as no publish before it told 12 or 13, and then withheld
pub record AcrossRightOrWithheld (x : Index) (start : List Posting) (ms : List Called) : Type 0 where
  -- as long as none told 12 or 13, head and table are what the publishes that told 0 say, in order: destinations added, sources
  -- taken away
  pub table :
      (before later : List Called) → ms ≡ before ++ later → sound_across before ≡ true →
      end_across x before ≡ holding x (said (taken_calls before) start)
  pub set :
      (before later : List Called) → ms ≡ before ++ later → sound_across before ≡ true →
      (p : Posting) → present p (postings_in (end_across x before)) ≡ said_of (taken_calls before) p (present p start)
  -- and each count tells the number of the rows that they say
  pub counts :
      (before later : List Called) (binding key : ℕ) (told : Told) → ms ≡ before ++ Called.count binding key told ∷ later →
      sound_across before ≡ true → CountTold x start (taken_calls before) binding key told
  -- and the publishes that told 0, made again on a head and table of equal size and binding count that hold the same start, leave the
  -- same head and table, tell the same numbers and write the same records
  pub again :
      (before later : List Called) → ms ≡ before ++ later → sound_across before ≡ true →
      (y : Index) (ns : List Called) → Holds y start → Alike x y → RunAcross y ns → MakesAgain before ns → Replayed x before y ns
  -- once one told 12 or 13, each count tells 2
  pub withheld :
      (before later : List Called) (binding key : ℕ) (told : Told) → ms ≡ before ++ Called.count binding key told ∷ later →
      sound_across before ≡ false → told ≡ record { answer = 2; named = 0; other = 0 }
  -- each publish, of either form, tells 2 and changes nothing
  pub refused :
      (before later : List Called) (m : Crossed) → ms ≡ before ++ Called.publish m ∷ later → sound_across before ≡ false →
      RefusedAcross (end_across x before) m
  -- and head and table stay as they are
  pub fixed :
      (before later : List Called) → ms ≡ before ++ later → sound_across before ≡ false → end_across x ms ≡ end_across x before
