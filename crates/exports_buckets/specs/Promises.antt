-- What crosses to C after a call, and what the rules say. The promise of each exported call is that the two are equal: it is the
-- promise of the call behind it, spoken of the numbers that cross.
use Rattle.std.specs.Prelude.{ℕ, ◌≡◌, List, [], cond}
use Rattle.rules.specs.declared.Told.{Told}
use Rattle.bucket_rules.specs.declared.Told as bucket_told
use Rattle.bucket_rules.specs.Calls.{sort_of, bitmap_of}
use Rattle.bucket_rules.specs.Stamps.{precedes}
use Rattle.buckets.specs.Promises as bucket

-- the numbers of a bucket call's answer, and every number of the output and of the scratch
pub record BucketSeen : Type 0 where
  pub told : Told
  pub output : List ℕ
  pub scratch : List ℕ

-- what is seen of a bucket call, with output and scratch as they are on return
abbrev pub bucket_seen : Told → List ℕ → List ℕ → BucketSeen
bucket_seen r output scratch = record { told = r; output = output; scratch = scratch }

-- the two numbers of a bucket call's answer, as three
abbrev pub three_numbers : bucket_told.Told → Told
three_numbers t = record { answer = t.answer; named = t.named; other = 0 }

abbrev pub with_other : bucket.Seen → BucketSeen
with_other s = bucket_seen (three_numbers s.told) s.output s.scratch

abbrev pub SortPromise : List ℕ → ℕ → List ℕ → Told → List ℕ → Type 0
SortPromise input count output r output_left = bucket_seen r output_left [] ≡ with_other (bucket.seen (sort_of input count output))

abbrev pub BitmapPromise : List ℕ → ℕ → List ℕ → List ℕ → Told → List ℕ → List ℕ → Type 0
BitmapPromise input count output scratch r output_left scratch_left =
    bucket_seen r output_left scratch_left ≡ with_other (bucket.seen (bitmap_of input count output scratch))

-- 1 for yes, 0 for no
abbrev pub PrecedesPromise : ℕ → ℕ → ℕ → Type 0
PrecedesPromise stamp snapshot r = r ≡ cond (precedes stamp snapshot) 1 0
