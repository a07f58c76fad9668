-- One outcome for each exported call: any two results that its promise allows are equal, with every number of the lists lent for
-- writing.
use Prim.Native.Nat.{ℕ}
use mathlib.Core.Path.{◌≡◌, sym, ap, ◌∙◌}
use mathlib.Core.List.{List, []}
use Rattle.rules.specs.declared.Told.{Told}
use Rattle.exports_buckets.specs.Promises.{BucketSeen, bucket_seen, SortPromise, BitmapPromise, PrecedesPromise}

module _ (input : List ℕ) (count : ℕ) (output : List ℕ) (r s : Told) (o p : List ℕ) where
  pub sort_one_outcome : SortPromise input count output r o → SortPromise input count output s p → (r ≡ s) × (o ≡ p)
  sort_one_outcome e f =
      let same : bucket_seen r o [] ≡ bucket_seen s p [] = e ∙ sym f in
      (ap (λ (x : BucketSeen). x.told) same, ap (λ (x : BucketSeen). x.output) same)

  pub bitmap_one_outcome :
      (scratch b c : List ℕ) → BitmapPromise input count output scratch r o b →
      BitmapPromise input count output scratch s p c → (r ≡ s) × (o ≡ p) × (b ≡ c)
  bitmap_one_outcome scratch b c e f =
      let same : bucket_seen r o b ≡ bucket_seen s p c = e ∙ sym f in (
        ap (λ (x : BucketSeen). x.told) same,
        ap (λ (x : BucketSeen). x.output) same,
        ap (λ (x : BucketSeen). x.scratch) same,
      )

pub precedes_one_outcome : (stamp snapshot r s : ℕ) → PrecedesPromise stamp snapshot r → PrecedesPromise stamp snapshot s → r ≡ s
precedes_one_outcome stamp snapshot r s e f = e ∙ sym f
