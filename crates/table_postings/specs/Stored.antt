-- One posting in the numbers of a table: the posting of a row, what is read past a table's end, and what storing one leaves.
use Rattle.std.specs.Prelude.{ℕ, ◌+◌, List, get_or, set}
use Rattle.rules.specs.declared.Posting.{Posting}

-- the posting whose numbers are binding, key, row
abbrev pub posting_of : List ℕ → Posting
posting_of row = record { binding = get_or row 0 0; key = get_or row 1 0; row = get_or row 2 0 }

-- a posting that is no posting: what stands past a table's end
abbrev pub blank : Posting
blank = record { binding = 0; key = 0; row = 0 }

-- the numbers of one posting, stored from a place on
abbrev pub stored : ℕ → Posting → List ℕ → List ℕ
stored at p l = set (set (set l at p.binding) (at + 1) p.key) (at + 2) p.row
