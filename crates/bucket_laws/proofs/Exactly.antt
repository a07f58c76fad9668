-- The answers of both engines, each exactly where its condition holds.
use Prim.Native.Nat.{ℕ, min, ◌<◌, ◌≤◌}
use mathlib.Core.Path.{◌≡◌, refl, subst}
use mathlib.Core.List.{List}
use mathlib.Core.Bool.{Bool, true, false, ◌||◌}
use mathlib.Core.Logic.{◌↔◌, ◌⊎◌, inl, inr, ⊎_elim}
use mathlib.Mathlib.Data.Bool.Basic.{or_inr}
use lib.ListN.{length}
use lib.Dec.{ltb}
use borrow.Author.Tests.{ltb-true, ltb-false, lt-ltb, le-ltb}
use Rattle.std.proofs.Common.{Ok, Err}
use Rattle.booleans.proofs.Tests.{by_cases, or_left, or_right, or_cases, neither}
use Rattle.bucket_rules.specs.declared.Failure.{Failure}
use Rattle.bucket_rules.specs.Answers.{Answer}
use Rattle.bucket_rules.specs.Buckets.{distinct, numbers_for}
use Rattle.bucket_rules.specs.Calls.{Verdict, most_input, most_buckets, over_limits, short_output, short_scratch, range_check, checks, settled}
use Rattle.bucket_rules.specs.Calls.{answer_of, sort_of, bitmap_of}
use Rattle.bucket_laws.specs.Clauses.{InRange, FirstInvalid, WithinLimits, OverLimits, OutputRoom, OutputShort, ScratchRoom}
use Rattle.bucket_laws.specs.Clauses.{ScratchShort, BitmapRoom, BitmapShort, Answers, SortAnswers, BitmapAnswers}
use Rattle.bucket_laws.proofs.Range.{Ranged, ranged, range_passes_exactly, range_names_exactly}

-- a test of two is true exactly where one of them holds
or_exactly :
    (a b : Bool) {A B : Type 0} → (a ≡ true) ↔ A → (b ≡ true) ↔ B → ((a || b) ≡ true) ↔ (A ⊎ B)
or_exactly a b p q = (
  λ h. ⊎_elim (λ e. inl (p.0 e)) (λ e. inr (q.0 e)) (or_cases a b h),
  λ s. ⊎_elim (λ x. rw (p.1 x)) (λ y. or_inr a b (q.1 y)) s,
)

-- it is false exactly where both fail
neither_exactly :
    (a b : Bool) {A B : Type 0} → (a ≡ false) ↔ A → (b ≡ false) ↔ B → ((a || b) ≡ false) ↔ (A × B)
neither_exactly a b p q = (
  λ h. (p.0 (or_left a b h), q.0 (or_right a b h)),
  λ s. neither a b (p.1 s.0) (q.1 s.1),
)

-- a number is tested to be less exactly where it is
pub less_exactly : (a b : ℕ) → (ltb a b ≡ true) ↔ (a < b)
less_exactly a b = (ltb-true a b, lt-ltb a b)

-- and not to be exactly where it is not
pub not_less_exactly : (a b : ℕ) → (ltb a b ≡ false) ↔ (b ≤ a)
not_less_exactly a b = (ltb-false a b, le-ltb a b)

-- the limits' test is true exactly where the input has more than 4,096 numbers or there are more than 65,536 buckets
pub over_limits_exactly : (input : List ℕ) (count : ℕ) → (over_limits input count ≡ true) ↔ OverLimits input count
unfolding over_limits
over_limits_exactly input count =
    or_exactly (ltb most_input (length input)) (ltb most_buckets count) (less_exactly most_input (length input))
    (less_exactly most_buckets count)

-- it is false exactly where neither is so
pub within_limits_exactly : (input : List ℕ) (count : ℕ) → (over_limits input count ≡ false) ↔ WithinLimits input count
unfolding over_limits
within_limits_exactly input count =
    neither_exactly (ltb most_input (length input)) (ltb most_buckets count) (not_less_exactly most_input (length input))
    (not_less_exactly most_buckets count)

-- the output's test is true exactly where the output is shorter than the smaller of input length and bucket count
pub short_output_exactly :
    (input : List ℕ) (count : ℕ) (output : List ℕ) → (short_output input count output ≡ true) ↔ OutputShort input count output
unfolding short_output
short_output_exactly input count output = less_exactly (length output) (min (length input) count)

-- it is false exactly where the output has room
pub room_output_exactly :
    (input : List ℕ) (count : ℕ) (output : List ℕ) → (short_output input count output ≡ false) ↔ OutputRoom input count output
unfolding short_output
room_output_exactly input count output = not_less_exactly (length output) (min (length input) count)

-- the scratch's test is true exactly where the scratch is shorter than bucket count / 32 rounded up
pub short_scratch_exactly : (count : ℕ) (scratch : List ℕ) → (short_scratch count scratch ≡ true) ↔ ScratchShort count scratch
unfolding short_scratch
short_scratch_exactly count scratch = less_exactly (length scratch) (numbers_for count)

-- it is false exactly where the scratch has room
pub room_scratch_exactly : (count : ℕ) (scratch : List ℕ) → (short_scratch count scratch ≡ false) ↔ ScratchRoom count scratch
unfolding short_scratch
room_scratch_exactly count scratch = not_less_exactly (length scratch) (numbers_for count)

-- the bitmap engine's test is true exactly where output or scratch is too short
pub short_bitmap_exactly :
    (input : List ℕ) (count : ℕ) (output scratch : List ℕ) →
    ((short_output input count output || short_scratch count scratch) ≡ true) ↔ BitmapShort input count output scratch
short_bitmap_exactly input count output scratch =
    or_exactly (short_output input count output) (short_scratch count scratch) (short_output_exactly input count output)
    (short_scratch_exactly count scratch)

-- it is false exactly where both have room
pub room_bitmap_exactly :
    (input : List ℕ) (count : ℕ) (output scratch : List ℕ) →
    ((short_output input count output || short_scratch count scratch) ≡ false) ↔ BitmapRoom input count output scratch
room_bitmap_exactly input count output scratch =
    neither_exactly (short_output input count output) (short_scratch count scratch) (room_output_exactly input count output)
    (room_scratch_exactly count scratch)

-- one law for both engines: their answer by any test of what they were lent
module _ (input : List ℕ) (count : ℕ) (short : Bool) (Short Room : Type 0)
    (is_short : (short ≡ true) ↔ Short) (has_room : (short ≡ false) ↔ Room) where
  -- what is answered, and where
  abbrev Found : Answer → Type 0
  Found = Answers input count Short Room

  -- the answer has its condition
  found : Found (answer_of short input count)
  unfolding answer_of checks
  found =
      let n = length (distinct input count) in
      let P : Verdict → Type 0 = λ v. Found (settled v n) in
      by_cases P (over_limits input count)
      (λ h. Answers.limits ((over_limits_exactly input count).0 h))
      (λ h. by_cases P short
      (λ k. Answers.short ((within_limits_exactly input count).0 h) (is_short.0 k))
      (λ k. go ((within_limits_exactly input count).0 h) (has_room.0 k) (range_check count input) (ranged input count)))
    where
      go :
          WithinLimits input count → Room → (v : Verdict) → Ranged input count v →
          Found (settled v (length (distinct input count)))
      go w r v (Ranged.inside i) = Answers.accepted w r i refl
      go w r v (Ranged.outside f) = Answers.range w r f

  -- what has its condition is the answer
  placed : (a : Answer) → Found a → answer_of short input count ≡ a
  unfolding answer_of checks
  placed a (Answers.limits o) = rw ((over_limits_exactly input count).1 o)
  placed a (Answers.short w s) = rw ((within_limits_exactly input count).1 w, is_short.1 s)
  placed a (Answers.range {b} w r f) =
      rw ((within_limits_exactly input count).1 w, has_room.1 r, (range_names_exactly input count b).1 f)
  placed a (Answers.accepted w r i e) =
      rw ((within_limits_exactly input count).1 w, has_room.1 r, (range_passes_exactly input count).1 i, e)

  -- each answer is given exactly in its place
  pub answer_exactly : (a : Answer) → (answer_of short input count ≡ a) ↔ Answers input count Short Room a
  answer_exactly a = (λ e. subst Found e found, placed a)

module _ {input : List ℕ} {count : ℕ} {Short Room : Type 0} where
  -- 30, taken apart
  pub limits_of : Answers input count Short Room (Err Failure.Limits) → OverLimits input count
  limits_of (Answers.limits o) = o

  -- 31, taken apart
  pub short_of : Answers input count Short Room (Err Failure.Room) → WithinLimits input count × Short
  short_of (Answers.short w s) = (w, s)

  -- 32, taken apart
  pub range_of : {b : ℕ} → Answers input count Short Room (Err (Failure.Range b)) → WithinLimits input count × Room × FirstInvalid input count b
  range_of (Answers.range w r f) = (w, r, f)

  -- 0, taken apart
  pub accepted_of :
      {n : ℕ} → Answers input count Short Room (Ok n) →
      WithinLimits input count × Room × InRange input count × (n ≡ length (distinct input count))
  accepted_of (Answers.accepted w r i e) = (w, r, i, e)

module _ (input : List ℕ) (count : ℕ) (output : List ℕ) where
  -- each answer of the sorting engine, exactly in its place
  pub sort_exactly : (a : Answer) → ((sort_of input count output).answer ≡ a) ↔ SortAnswers input count output a
  unfolding sort_of
  sort_exactly a =
      answer_exactly input count (short_output input count output) (OutputShort input count output)
      (OutputRoom input count output) (short_output_exactly input count output) (room_output_exactly input count output) a

  -- 30 exactly where the input has more than 4,096 numbers or there are more than 65,536 buckets
  pub sort_limits_exactly : ((sort_of input count output).answer ≡ Err Failure.Limits) ↔ OverLimits input count
  sort_limits_exactly =
      let e = sort_exactly (Err Failure.Limits) in (λ h. limits_of (e.0 h), λ o. e.1 (Answers.limits o))

  -- 31 exactly where neither is so and the output is shorter than the smaller of input length and bucket count
  pub sort_room_exactly :
      ((sort_of input count output).answer ≡ Err Failure.Room) ↔ (WithinLimits input count × OutputShort input count output)
  sort_room_exactly =
      let e = sort_exactly (Err Failure.Room) in (λ h. short_of (e.0 h), λ p. e.1 (Answers.short p.0 p.1))

  -- 32 with an element exactly where none of this is so and that is the first element not below the count
  pub sort_range_exactly :
      (b : ℕ) →
      ((sort_of input count output).answer ≡ Err (Failure.Range b))
      ↔ (WithinLimits input count × OutputRoom input count output × FirstInvalid input count b)
  sort_range_exactly b =
      let e = sort_exactly (Err (Failure.Range b)) in (λ h. range_of (e.0 h), λ p. e.1 (Answers.range p.0 p.1 p.2))

  -- 0 exactly where all is as asked, with the number of distinct elements
  pub sort_accepted_exactly :
      (n : ℕ) →
      ((sort_of input count output).answer ≡ Ok n)
      ↔ (WithinLimits input count × OutputRoom input count output × InRange input count × (n ≡ length (distinct input count)))
  sort_accepted_exactly n =
      let e = sort_exactly (Ok n) in
      (λ h. accepted_of (e.0 h), λ p. e.1 (Answers.accepted p.0 p.1 p.2 p.3))

module _ (input : List ℕ) (count : ℕ) (output scratch : List ℕ) where
  -- each answer of the bitmap engine, exactly in its place
  pub bitmap_exactly :
      (a : Answer) → ((bitmap_of input count output scratch).answer ≡ a) ↔ BitmapAnswers input count output scratch a
  unfolding bitmap_of
  bitmap_exactly a =
      answer_exactly input count (short_output input count output || short_scratch count scratch)
      (BitmapShort input count output scratch) (BitmapRoom input count output scratch)
      (short_bitmap_exactly input count output scratch) (room_bitmap_exactly input count output scratch) a

  -- 30 exactly where the input has more than 4,096 numbers or there are more than 65,536 buckets
  pub bitmap_limits_exactly : ((bitmap_of input count output scratch).answer ≡ Err Failure.Limits) ↔ OverLimits input count
  bitmap_limits_exactly =
      let e = bitmap_exactly (Err Failure.Limits) in (λ h. limits_of (e.0 h), λ o. e.1 (Answers.limits o))

  -- 31 exactly where neither is so and output or scratch is too short
  pub bitmap_room_exactly :
      ((bitmap_of input count output scratch).answer ≡ Err Failure.Room)
      ↔ (WithinLimits input count × BitmapShort input count output scratch)
  bitmap_room_exactly =
      let e = bitmap_exactly (Err Failure.Room) in (λ h. short_of (e.0 h), λ p. e.1 (Answers.short p.0 p.1))

  -- 32 with an element exactly where none of this is so and that is the first element not below the count
  pub bitmap_range_exactly :
      (b : ℕ) →
      ((bitmap_of input count output scratch).answer ≡ Err (Failure.Range b))
      ↔ (WithinLimits input count × BitmapRoom input count output scratch × FirstInvalid input count b)
  bitmap_range_exactly b =
      let e = bitmap_exactly (Err (Failure.Range b)) in (λ h. range_of (e.0 h), λ p. e.1 (Answers.range p.0 p.1 p.2))

  -- 0 exactly where all is as asked, with the number of distinct elements
  pub bitmap_accepted_exactly :
      (n : ℕ) →
      ((bitmap_of input count output scratch).answer ≡ Ok n)
      ↔ (WithinLimits input count × BitmapRoom input count output scratch × InRange input count
      × (n ≡ length (distinct input count)))
  bitmap_accepted_exactly n =
      let e = bitmap_exactly (Ok n) in
      (λ h. accepted_of (e.0 h), λ p. e.1 (Answers.accepted p.0 p.1 p.2 p.3))
