-- What a part of a call leaves: the rules' own stage, seen in a lent table; and what a failed insertion is answered with.
use Rattle.std.specs.Prelude.{ℕ, ◌≡◌, Result}
use Rattle.rules.specs.declared.Failure.{Failure}
use Rattle.rules.specs.declared.Fault.{Fault}
use Rattle.rules.specs.Publication.{Stage}
use Rattle.storage.specs.declared.Storage.{Storage}
use Rattle.storage.specs.Leaving.{Leaves}

-- the answer of a change whose insertion met a fault
abbrev pub blamed_on : Fault → ℕ → Failure
blamed_on Fault.Store change = Failure.Store change
blamed_on Fault.Full change = Failure.Full change

-- a part of a call in a table with its strip
abbrev pub StageIn : Stage → Result ℕ Failure → Storage → Storage → Type 0
StageIn s answer before after = (answer ≡ s.answer) × Leaves before after s.postings s.read
