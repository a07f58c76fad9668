-- A change seen by its keys: what each walk asks of it.
use Rattle.std.specs.Prelude.{List, Bool, false, Option, Some, None, ℕ}
use Rattle.rules.specs.declared.Posting.{Posting}
use Rattle.rules.specs.declared.Change.{Change}
use Rattle.rules.specs.Postings.{same, present}
use Rattle.rules.specs.Orders.{destination_of, source_of}

-- the test of a change's posting under a key; a change with no key has none
abbrev pub under_key : Change → Option ℕ → (Posting → Bool) → Bool
under_key c None test = false
under_key c (Some key) test = test (record { binding = c.binding; key = key; row = c.row })

-- its destination is this posting
abbrev pub goes_to : Change → Posting → Bool
goes_to c p = under_key c (destination_of c) (λ d. same d p)

-- the two have one destination
abbrev pub one_destination : Change → Change → Bool
one_destination earlier later = under_key later (destination_of later) (goes_to earlier)

-- its destination stands among these postings
abbrev pub destination_in : Change → List Posting → Bool
destination_in c ps = under_key c (destination_of c) (λ d. present d ps)

-- its source does
abbrev pub source_in : Change → List Posting → Bool
source_in c ps = under_key c (source_of c) (λ s. present s ps)
