-- One outcome for each call: any two that its promise allows are equal.
use Prim.Native.Nat.{ℕ}
use mathlib.Core.Path.{◌≡◌, sym, ap, ◌∙◌}
use mathlib.Core.List.{List, []}
use mathlib.Core.Bool.{Bool}
use Rattle.bucket_rules.specs.Answers.{Answer}
use Rattle.bucket_rules.specs.Calls.{Outcome}
use Rattle.bucket_laws.proofs.Answers.{told_injective}
use Rattle.buckets.specs.Promises.{Seen, outcome_of, seen, SortPromise, BitmapPromise, PrecedesPromise}

-- what is seen determines the outcome: numbers tell answers apart
pub seen_injective : (o p : Outcome) → seen o ≡ seen p → o ≡ p
seen_injective o p e =
    let a : o.answer ≡ p.answer = told_injective _ _ (ap (λ (x : Seen). x.told) e) in
    λ i.
    record { answer = a i; output = ap (λ (x : Seen). x.output) e i; scratch = ap (λ (x : Seen). x.scratch) e i }

module _ (input : List ℕ) (count : ℕ) (output : List ℕ) where
  pub sort_one_outcome :
      (a b : Answer) (o p : List ℕ) → SortPromise input count output a o → SortPromise input count output b p →
      (a ≡ b) × (o ≡ p)
  sort_one_outcome a b o p e f =
      let same = seen_injective (outcome_of a o []) (outcome_of b p []) (e ∙ sym f) in
      (ap (λ (x : Outcome). x.answer) same, ap (λ (x : Outcome). x.output) same)

  pub bitmap_one_outcome :
      (scratch : List ℕ) (a b : Answer) (o p s t : List ℕ) → BitmapPromise input count output scratch a o s →
      BitmapPromise input count output scratch b p t → (a ≡ b) × (o ≡ p) × (s ≡ t)
  bitmap_one_outcome scratch a b o p s t e f =
      let same = seen_injective (outcome_of a o s) (outcome_of b p t) (e ∙ sym f) in (
        ap (λ (x : Outcome). x.answer) same,
        ap (λ (x : Outcome). x.output) same,
        ap (λ (x : Outcome). x.scratch) same,
      )

pub precedes_one_outcome :
    (stamp snapshot : ℕ) (a b : Bool) → PrecedesPromise stamp snapshot a → PrecedesPromise stamp snapshot b → a ≡ b
precedes_one_outcome stamp snapshot a b e f = e ∙ sym f
