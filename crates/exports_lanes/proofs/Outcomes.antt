-- One outcome for each exported call: any two results that its promise allows are equal.
use Prim.Native.Nat.{ℕ}
use mathlib.Core.Path.{◌≡◌, sym, ap, ◌∙◌}
use mathlib.Core.List.{List}
use Rattle.lane_rules.specs.declared.View.{View}
use Rattle.lanes.specs.Promises as lane
use Rattle.exports_lanes.specs.declared.Detached.{Detached}
use Rattle.exports_lanes.specs.Promises.{lane_seen, CachedPromise, RefreshedPromise, DetachPromise}

-- the numbers that are seen are all the numbers of the result
seen_injective : (r s : Detached) → lane_seen r ≡ lane_seen s → r ≡ s
seen_injective r s e =
    ap (λ (x : lane.Seen). record { view = x.view; answer = x.told.answer; value = x.told.value }) e

module _ (v : View) (strip : List ℕ) (r s : Detached) where
  pub cached_one_outcome : CachedPromise v strip r → CachedPromise v strip s → r ≡ s
  cached_one_outcome e f = seen_injective r s (e ∙ sym f)

  pub refreshed_one_outcome : RefreshedPromise v strip r → RefreshedPromise v strip s → r ≡ s
  refreshed_one_outcome e f = seen_injective r s (e ∙ sym f)

  pub detach_one_outcome : (lent : ℕ) → DetachPromise v strip lent r → DetachPromise v strip lent s → r ≡ s
  detach_one_outcome lent e f = seen_injective r s (e ∙ sym f)
