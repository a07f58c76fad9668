-- What is seen after a lane call, and what the rules say is seen. The promise of each call is that the two are equal.
use Rattle.std.specs.Prelude.{ℕ, ◌≡◌, List}
use Rattle.lane_rules.specs.declared.View.{View}
use Rattle.lane_rules.specs.declared.Told.{Told}
use Rattle.lane_rules.specs.declared.Done.{Done}
use Rattle.lane_rules.specs.Answers.{told_of}
use Rattle.lane_rules.specs.Calls.{cached_of, refreshed_of, detach_of}

-- the numbers of the answer, and every number of the view
pub record Seen : Type 0 where
  pub told : Told
  pub view : View

-- what is seen of a result
abbrev pub seen : Done → Seen
seen r = record { told = told_of r.answer; view = r.view }

-- the promises: at entry the view, the strip and the rounds lent; on return the result
abbrev pub CachedPromise : View → List ℕ → Done → Type 0
CachedPromise v strip r = seen r ≡ seen (cached_of v strip)

abbrev pub RefreshedPromise : View → List ℕ → Done → Type 0
RefreshedPromise v strip r = seen r ≡ seen (refreshed_of v strip)

abbrev pub DetachPromise : View → List ℕ → ℕ → Done → Type 0
DetachPromise v strip lent r = seen r ≡ seen (detach_of v strip lent)
