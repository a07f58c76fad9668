-- Publish beside a verdict of its checks 1 to 6.
use Rattle.std.specs.Prelude.{ℕ, ◌≤◌, ◌≡◌, List, [], ◌∷◌, true, length, Result, Ok, Err}
use Rattle.rules.specs.declared.Failure.{Failure}
use Rattle.rules.specs.declared.Head.{Head}
use Rattle.rules.specs.Limits.{most_changes}
use Rattle.rules.specs.Table.{postings, well_formed}
use Rattle.rules.specs.Orders.{changes}
use Rattle.rules.specs.Checks.{first_refusal, arriving_checks, leaving_checks}
use Rattle.rules.specs.Calls.{Outcome, as_before, unless_refused, publish_work}
use Rattle.changes.specs.declared.Changes.{Changes}

-- what they have shown where they pass
pub record Ready (head : Head) (table cs list : List ℕ) : Type 0 where
  pub formed : well_formed head table ≡ true
  pub few : length (changes cs) ≤ most_changes
  pub places : length (changes cs) ≤ length list

-- their verdict
abbrev pub verdict_of : Result Changes Failure → Result Unit Failure
verdict_of (Ok cs) = Ok tt
verdict_of (Err why) = Err why

-- and the list that they admitted; where they refused, none is looked at
abbrev pub numbers_of : Result Changes Failure → List ℕ
numbers_of (Ok cs) = cs.numbers.now
numbers_of (Err why) = []

-- that verdict, then 7 to 9, and then the work
unfoldable pub core_of : Head → List ℕ → List ℕ → Result Unit Failure → List ℕ → List ℕ → Outcome
core_of head table cs earlier strip list =
    unless_refused
    (first_refusal (earlier ∷ arriving_checks (postings head.used table) (changes cs) ∷ leaving_checks (changes cs) ∷ []))
    (as_before head table list)
    (publish_work head table (changes cs) strip list)
