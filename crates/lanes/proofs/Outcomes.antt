-- One outcome for each call: any two results that its promise allows are equal.
use Prim.Native.Nat.{ℕ}
use mathlib.Core.Path.{◌≡◌, sym, ap, ◌∙◌}
use mathlib.Core.List.{List}
use Rattle.lane_rules.specs.declared.View.{View}
use Rattle.lane_rules.specs.declared.Done.{Done}
use Rattle.lane_laws.proofs.Answers.{told_injective}
use Rattle.lanes.specs.Promises.{Seen, seen, CachedPromise, RefreshedPromise, DetachPromise}

-- what is seen determines the result: numbers tell answers apart
pub seen_injective : (r s : Done) → seen r ≡ seen s → r ≡ s
seen_injective r s e =
    let a : r.answer ≡ s.answer = told_injective _ _ (ap (λ (x : Seen). x.told) e) in
    λ i. record { view = ap (λ (x : Seen). x.view) e i; answer = a i }

module _ (v : View) (strip : List ℕ) (r s : Done) where
  pub cached_one_outcome : CachedPromise v strip r → CachedPromise v strip s → r ≡ s
  cached_one_outcome e f = seen_injective r s (e ∙ sym f)

  pub refreshed_one_outcome : RefreshedPromise v strip r → RefreshedPromise v strip s → r ≡ s
  refreshed_one_outcome e f = seen_injective r s (e ∙ sym f)

  pub detach_one_outcome : (lent : ℕ) → DetachPromise v strip lent r → DetachPromise v strip lent s → r ≡ s
  detach_one_outcome lent e f = seen_injective r s (e ∙ sym f)
