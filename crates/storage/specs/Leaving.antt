-- What a step answers and leaves: the rules' own insertion and removal, seen in a lent table with its strip.
use Rattle.std.specs.Prelude.{ℕ, ◌≡◌, Option, Some, None, Result, Ok, Err, List, length, drop, Bool, cond}
use Rattle.rules.specs.declared.Fault.{Fault}
use Rattle.rules.specs.declared.Posting.{Posting}
use Rattle.rules.specs.Storage.{Insertion, Removal}
use Rattle.rules.specs.Table.{postings}
use Rattle.table.specs.Holding.{Carries}
use Rattle.storage.specs.declared.Storage.{Storage}

-- the postings of a table with its strip
abbrev pub holding : Storage → List Posting
holding s = postings s.used s.numbers.now

-- the same lent list, as long as it was, with these postings, and so many bytes of the strip read
abbrev pub Leaves : Storage → Storage → List Posting → ℕ → Type 0
Leaves before after ps read =
    (after.numbers.ghost_name ≡ before.numbers.ghost_name)
    × (length after.numbers.now ≡ length before.numbers.now)
    × (holding after ≡ ps)
    × (after.strip.now ≡ drop read before.strip.now)

-- what an insertion met, as a result
abbrev pub told_fault : Option Fault → Result Unit Fault
told_fault None = Ok tt
told_fault (Some fault) = Err fault

-- an insertion reads one byte
abbrev pub InsertionIn : Insertion → Result Unit Fault → Storage → Storage → Type 0
InsertionIn i r before after = (r ≡ told_fault i.fault) × Leaves before after i.postings 1

-- and so does a removal, whose one fault is the storage's
abbrev pub RemovalIn : Removal → Result Unit Fault → Storage → Storage → Type 0
RemovalIn o r before after = (r ≡ cond o.failed (Err Fault.Store) (Ok tt)) × Leaves before after o.postings 1

-- an insertion seen in a table alone: what it met, and that the table carries the postings that it leaves
pub record CarriesInsertion (i : Insertion) (met : Option Fault) (table : List ℕ) (used : ℕ) : Type 0 where
  pub fault : met ≡ i.fault
  pub carries : Carries table used i.postings

-- and a removal
pub record CarriesRemoval (o : Removal) (fails : Bool) (table : List ℕ) (used : ℕ) : Type 0 where
  pub failed : fails ≡ o.failed
  pub carries : Carries table used o.postings
