-- The table: a lent list of numbers, three to a posting (binding, key, row), and the head beside it.
use Rattle.std.specs.Prelude.{ℕ, ◌-◌, ◌*◌, ◌/◌, ◌%◌, List, [], ◌∷◌, ◌++◌, Bool, true, ◌&&◌, length, take, drop, replicate, eqb, leb}
use Rattle.rules.specs.declared.Posting.{Posting}
use Rattle.rules.specs.declared.Head.{Head}
use Rattle.rules.specs.Limits.{most_numbers, most_bindings}
use Rattle.rules.specs.Postings.{every, ascending, binding_below}

-- the numbers, three by three
unfoldable pub cells : List ℕ → List Posting
cells [] = []
cells (binding ∷ []) = []
cells (binding ∷ key ∷ []) = []
cells (binding ∷ key ∷ row ∷ rest) = record { binding = binding; key = key; row = row } ∷ cells rest

-- how many postings a table has room for
abbrev pub capacity : List ℕ → ℕ
capacity table = length table / 3

-- what a table with so many postings in use holds
abbrev pub postings : ℕ → List ℕ → List Posting
postings used table = take used (cells table)

-- the numbers of a list of postings
unfoldable pub numbers : List Posting → List ℕ
numbers [] = []
numbers (p ∷ ps) = p.binding ∷ p.key ∷ p.row ∷ numbers ps

-- a table of so many numbers that holds these postings, and 0 past them
abbrev pub laid_out : ℕ → List Posting → List ℕ
laid_out size ps = numbers ps ++ replicate (size - length ps * 3) 0

-- every test passes
unfoldable pub all_of : List Bool → Bool
all_of [] = true
all_of (b ∷ bs) = b && all_of bs

-- a length that is a multiple of 3 and within its limit, and a binding count within its own
unfoldable pub limits_hold : Head → List ℕ → Bool
limits_hold head table =
    all_of (eqb (length table % 3) 0 ∷ leb (length table) most_numbers ∷ leb head.bindings most_bindings ∷ [])

-- the limits hold; the flag is 0 or 1; used ≤ capacity; postings strictly ascending; each binding below the count; every number
-- past used is 0
unfoldable pub well_formed : Head → List ℕ → Bool
well_formed head table =
    all_of
    (limits_hold head table
    ∷ leb head.poisoned 1
    ∷ leb head.used (capacity table)
    ∷ ascending (postings head.used table)
    ∷ every (binding_below head.bindings) (postings head.used table)
    ∷ every (eqb 0) (drop (head.used * 3) table)
    ∷ [])
