-- What the rules say where the checks refuse, and where they pass: then there is room, and what the engines write is what is said.
use Prim.Native.Nat.{ℕ, ◌≤◌}
use native.Mathlib.Omega.{arith}
use mathlib.Core.Path.{◌≡◌, refl}
use mathlib.Core.List.{List, []}
use mathlib.Core.Bool.{false, ◌||◌}
use lib.ListN.{length}
use Rattle.lent_lists.specs.Written.{written}
use Rattle.bucket_rules.specs.declared.Failure.{Failure}
use Rattle.std.proofs.Common.{Ok, Err}
use Rattle.bucket_rules.specs.Answers.{is_accepted}
use Rattle.bucket_rules.specs.Buckets.{distinct, membership}
use Rattle.bucket_rules.specs.Calls.{most_input, short_output, short_scratch, checks, answer_of, sort_of, bitmap_of}
use Rattle.bucket_laws.specs.Clauses.{InRange, WithinLimits, OutputRoom, BitmapRoom}
use Rattle.bucket_laws.specs.Writing.{Wrote}
use Rattle.bucket_laws.proofs.Choosing.{length_distinct}
use Rattle.bucket_laws.proofs.Exactly.{sort_accepted_exactly, bitmap_accepted_exactly}
use Rattle.bucket_laws.proofs.Upstream.{distinct_fits}
use Rattle.sorting.specs.Gathering.{gathered}
use Rattle.sorting.proofs.Distinct.{gathered_distinct}
use Rattle.bitmaps.specs.Bitmaps.{Holds}
use Rattle.buckets.specs.Promises.{outcome_of}

-- a refusal is no answer of success
refused : (f : Failure) → is_accepted (Err f) ≡ false
refused Failure.Limits = refl
refused Failure.Room = refl
refused (Failure.Range b) = refl

module _ (input : List ℕ) (count : ℕ) (output : List ℕ) where
  -- the sorting engine refuses
  pub sort_refused :
      (f : Failure) → checks (short_output input count output) input count ≡ Err f →
      outcome_of (Err f) output [] ≡ sort_of input count output
  unfolding sort_of answer_of
  sort_refused f e = rw (e, refused f)

  module _ (p : checks (short_output input count output) input count ≡ Ok tt) where
    accepted : (sort_of input count output).answer ≡ Ok (length (distinct input count))
    unfolding sort_of answer_of
    accepted = rw p

    -- so the conditions of success hold
    within : WithinLimits input count
    within = ((sort_accepted_exactly input count output (length (distinct input count))).0 accepted).0

    room : OutputRoom input count output
    room = ((sort_accepted_exactly input count output (length (distinct input count))).0 accepted).1

    range : InRange input count
    range = ((sort_accepted_exactly input count output (length (distinct input count))).0 accepted).2

    same : gathered [] input ≡ distinct input count
    same = gathered_distinct input count range

    -- there is room
    pub sort_room : length (gathered [] input) ≤ length output
    sort_room = rw same (distinct_fits input count output room)

    -- for a number of elements that is small
    pub sort_few : length (gathered [] input) ≤ most_input
    sort_few = rw same (let few = length_distinct input count in let most = within.0 in omega arith)

    -- and what is gathered is what the rules say
    pub sort_passed :
        {n : ℕ} {output' : List ℕ} → Wrote (gathered [] input) n output output' →
        outcome_of (Ok n) output' [] ≡ sort_of input count output
    unfolding sort_of answer_of
    sort_passed wrote = rw (p, wrote.value, wrote.output_after, same)

module _ (input : List ℕ) (count : ℕ) (output scratch : List ℕ) where
  -- the bitmap engine refuses
  pub bitmap_refused :
      (f : Failure) → checks (short_output input count output || short_scratch count scratch) input count ≡ Err f →
      outcome_of (Err f) output scratch ≡ bitmap_of input count output scratch
  unfolding bitmap_of answer_of
  bitmap_refused f e = rw (e, refused f)

  module _ (p : checks (short_output input count output || short_scratch count scratch) input count ≡ Ok tt) where
    bitmap_accepted : (bitmap_of input count output scratch).answer ≡ Ok (length (distinct input count))
    unfolding bitmap_of answer_of
    bitmap_accepted = rw p

    -- so the conditions of success hold
    bitmap_within : WithinLimits input count
    bitmap_within = ((bitmap_accepted_exactly input count output scratch (length (distinct input count))).0 bitmap_accepted).0

    bitmap_lent : BitmapRoom input count output scratch
    bitmap_lent = ((bitmap_accepted_exactly input count output scratch (length (distinct input count))).0 bitmap_accepted).1

    bitmap_range : InRange input count
    bitmap_range = ((bitmap_accepted_exactly input count output scratch (length (distinct input count))).0 bitmap_accepted).2

    -- there is room, in the scratch and in the output
    pub bitmap_room : Holds input count (length scratch) × (length (distinct input count) ≤ length output)
    bitmap_room = (
      record { in_range = bitmap_range; most = bitmap_within.1; reach = bitmap_lent.1 },
      distinct_fits input count output bitmap_lent.0,
    )

    -- for a number of elements that is small
    pub bitmap_few : length (distinct input count) ≤ most_input
    bitmap_few = let few = length_distinct input count in let most = bitmap_within.0 in omega arith

    -- and what is written is what the rules say
    pub bitmap_passed :
        {n : ℕ} {output' scratch' : List ℕ} → Wrote (distinct input count) n output output' →
        scratch' ≡ written (membership input count) scratch →
        outcome_of (Ok n) output' scratch' ≡ bitmap_of input count output scratch
    unfolding bitmap_of answer_of
    bitmap_passed wrote held = rw (p, wrote.value, wrote.output_after, held)
