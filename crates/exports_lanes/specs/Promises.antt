-- What crosses to C after a call, and what the rules say. The promise of each exported call is that the two are equal: it is the
-- promise of the call behind it, spoken of the numbers that cross.
use Rattle.std.specs.Prelude.{ℕ, ◌≡◌, List}
use Rattle.lane_rules.specs.declared.View.{View}
use Rattle.lane_rules.specs.Calls.{cached_of, refreshed_of, detach_of}
use Rattle.lanes.specs.Promises as lane
use Rattle.exports_lanes.specs.declared.Detached.{Detached}

-- what is seen of a lane call's result
abbrev pub lane_seen : Detached → lane.Seen
lane_seen r = record { told = record { answer = r.answer; value = r.value }; view = r.view }

abbrev pub CachedPromise : View → List ℕ → Detached → Type 0
CachedPromise v strip r = lane_seen r ≡ lane.seen (cached_of v strip)

abbrev pub RefreshedPromise : View → List ℕ → Detached → Type 0
RefreshedPromise v strip r = lane_seen r ≡ lane.seen (refreshed_of v strip)

abbrev pub DetachPromise : View → List ℕ → ℕ → Detached → Type 0
DetachPromise v strip lent r = lane_seen r ≡ lane.seen (detach_of v strip lent)
