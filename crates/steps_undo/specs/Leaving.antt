-- What a run of undo removals leaves: the rules' own, seen in a lent table; and the order of such a run.
use Rattle.std.specs.Prelude.{ℕ, zero, suc, ◌≡◌, List, [], get_or, Result}
use Rattle.rules.specs.declared.Change.{Change}
use Rattle.rules.specs.declared.Failure.{Failure}
use Rattle.rules.specs.Orders.{Numbered, named, destination_of, no_change}
use Rattle.rules.specs.Publication.{Undone}
use Rattle.storage.specs.declared.Storage.{Storage}
use Rattle.storage.specs.Leaving.{Leaves}

-- a run of undo removals in a table with its strip
abbrev pub UndoneIn : Undone → Result Unit Failure → Storage → Storage → Type 0
UndoneIn u r before after = (r ≡ u.verdict) × Leaves before after u.postings u.read

-- the destinations of so many changes, the last one first: the order of their undo. The numbers of the changes are those that a
-- record has, or the first ones
unfoldable pub backward : (ℕ → ℕ) → ℕ → List Change → List Numbered
backward numbering zero cs = []
backward numbering (suc i) cs =
    named (numbering i) (get_or cs (numbering i) no_change) (destination_of (get_or cs (numbering i) no_change))
    (backward numbering i cs)

-- the first changes
abbrev pub in_order : ℕ → ℕ
in_order i = i

-- the changes of a record
abbrev pub as_recorded : List ℕ → ℕ → ℕ
as_recorded ns place = get_or ns place 0
