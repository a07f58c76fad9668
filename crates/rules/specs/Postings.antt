-- Lists of postings: their order, and what it means to stand in a list, to be inserted, removed and counted.
use Rattle.std.specs.Prelude.{ℕ, List, [], ◌∷◌, Bool, true, false, cond, ◌&&◌, ◌||◌, length, eqb, ltb}
use Rattle.rules.specs.declared.Posting.{Posting}
use Rattle.std.specs.declared.cmp.Ordering.{Ordering}

-- every element of the list passes the test
unfoldable pub every : {A : Type 0} → (A → Bool) → List A → Bool
every f [] = true
every f (x ∷ xs) = f x && every f xs

-- two numbers first, and where they are equal what comes next decides
unfoldable pub ranked : ℕ → ℕ → Ordering → Ordering
ranked a b next = cond (ltb a b) Ordering.Less (cond (ltb b a) Ordering.Greater next)

-- by binding, key, row
unfoldable pub compared : Posting → Posting → Ordering
compared p q =
    ranked p.binding q.binding (ranked p.key q.key (ranked p.row q.row Ordering.Equal))

-- the first stands before the second
abbrev pub is_before : Ordering → Bool
is_before Ordering.Less = true
is_before Ordering.Equal = false
is_before Ordering.Greater = false

-- the two are one
abbrev pub is_same : Ordering → Bool
is_same Ordering.Less = false
is_same Ordering.Equal = true
is_same Ordering.Greater = false

-- one and the same posting
unfoldable pub same : Posting → Posting → Bool
same p q = is_same (compared p q)

-- p, and after it the list, each before the next
unfoldable pub chain : Posting → List Posting → Bool
chain p [] = true
chain p (q ∷ qs) = is_before (compared p q) && chain q qs

-- strictly ascending
unfoldable pub ascending : List Posting → Bool
ascending [] = true
ascending (p ∷ ps) = chain p ps

-- p stands in the list
unfoldable pub present : Posting → List Posting → Bool
present p [] = false
present p (q ∷ qs) = same p q || present p qs

-- p beside q, the head of a list: in front of it, found there already, or further on
abbrev pub placed : Ordering → Posting → Posting → List Posting → List Posting → List Posting
placed Ordering.Less p q qs further = p ∷ q ∷ qs
placed Ordering.Equal p q qs further = q ∷ qs
placed Ordering.Greater p q qs further = q ∷ further

-- p at its place; a list that has it stays
unfoldable pub inserted : Posting → List Posting → List Posting
inserted p [] = p ∷ []
inserted p (q ∷ qs) = placed (compared p q) p q qs (inserted p qs)

-- p taken out; a list that lacks it stays
unfoldable pub removed : Posting → List Posting → List Posting
removed p [] = []
removed p (q ∷ qs) = cond (same p q) (removed p qs) (q ∷ removed p qs)

-- the rows of the postings with a binding and key, in their order
unfoldable pub rows_under : ℕ → ℕ → List Posting → List ℕ
rows_under binding key [] = []
rows_under binding key (q ∷ qs) =
    cond (eqb binding q.binding && eqb key q.key) (q.row ∷ rows_under binding key qs) (rows_under binding key qs)

-- how many there are
abbrev pub counted : ℕ → ℕ → List Posting → ℕ
counted binding key ps = length (rows_under binding key ps)

-- its binding is below the count
unfoldable pub binding_below : ℕ → Posting → Bool
binding_below bindings p = ltb p.binding bindings
