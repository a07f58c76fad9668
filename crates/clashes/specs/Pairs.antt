-- Answer 7: a later change beside those before it.
use Rattle.std.specs.Prelude.{ℕ, List, Bool, not, take, drop, get_or, Option, Result}
use Rattle.rules.specs.declared.Posting.{Posting}
use Rattle.rules.specs.declared.Change.{Change}
use Rattle.rules.specs.declared.Failure.{Failure}
use Rattle.rules.specs.Postings.{same}
use Rattle.rules.specs.Orders.{Numbered, destination_of, destinations_from, no_change}
use Rattle.rules.specs.Checks.{first_failing}
use Rattle.clashes.specs.Keys.{under_key}

-- the first posting that is marked, answered with the number of its change
abbrev pub first_of : (Posting → Bool) → (ℕ → Failure) → List Numbered → Result Unit Failure
first_of marked answer ds =
    first_failing (λ (d : Numbered). not (marked d.posting)) (λ i (d : Numbered). answer d.number) 0 ds

-- the change at a place
abbrev pub at : List Change → ℕ → Change
at cs i = get_or cs i no_change

-- the first of these destinations that equals that of change j
unfoldable pub sought : ℕ → Change → Option ℕ → List Numbered → Result Unit Failure
sought j c key earlier = first_of (λ e. under_key c key (same e)) (λ i. Failure.Twice i j) earlier

-- change j beside the changes from i up to it
unfoldable pub seek : List Change → ℕ → ℕ → Result Unit Failure
seek cs j i = sought j (at cs j) (destination_of (at cs j)) (destinations_from i (drop i (take j cs)))
