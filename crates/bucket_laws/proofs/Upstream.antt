-- Upstream's clauses hold of both engines.
use Prim.Native.Nat.{ℕ, ◌≤◌}
use native.Mathlib.Nat.{zero-add}
use native.Mathlib.Omega.{arith}
use mathlib.Core.Path.{◌≡◌, refl, sym, subst}
use mathlib.Core.List.{List, []}
use mathlib.Core.Bool.{Bool, false}
use mathlib.Core.Logic.{◌↔◌}
use lib.ListN.{length, take}
use Rattle.std.proofs.Common.{Ok, Err}
use Rattle.lent_lists.proofs.Writing.{length_written, written_front, written_later}
use Rattle.bucket_rules.specs.declared.Failure.{Failure}
use Rattle.bucket_rules.specs.Answers.{Answer, is_accepted}
use Rattle.bucket_rules.specs.Buckets.{distinct}
use Rattle.lent_lists.specs.Among.{among}
use Rattle.bucket_rules.specs.Calls.{range_check, list_after, Outcome, sort_of, bitmap_of}
use Rattle.bucket_laws.specs.Clauses.{InRange, Contains, Canonical, UpstreamResult, BucketResult, Gives, OutputRoom, OutputShort, BitmapRoom}
use Rattle.bucket_laws.specs.Clauses.{BitmapShort, Answers, BucketClauses}
use Rattle.bucket_laws.proofs.Standing.{among_below}
use Rattle.lent_lists.proofs.Among.{among_exactly}
use Rattle.bucket_laws.proofs.Ascending.{sorted_unique}
use Rattle.bucket_laws.proofs.Choosing.{choose_passes, passes_chosen, choose_sorted, choose_in_range, length_choose}
use Rattle.bucket_laws.proofs.Choosing.{length_distinct}
use Rattle.bucket_laws.proofs.Range.{range_passes_exactly}
use Rattle.bucket_laws.proofs.Exactly.{range_of, accepted_of, sort_exactly, bitmap_exactly}

-- upstream's canonical list is one list
pub canonical_unique :
    (input : List ℕ) (count : ℕ) (l m : List ℕ) → Canonical input count l → Canonical input count m → l ≡ m
canonical_unique input count l m a c =
    sorted_unique l m a.sorted c.sorted
    (λ b. (λ h. (c.members b).1 ((a.members b).0 h), λ h. (a.members b).1 ((c.members b).0 h)))

-- its members, said by places
pub canonical_contains :
    (input : List ℕ) (count : ℕ) (output : List ℕ) → Canonical input count output → (b : ℕ) → Contains output b ↔ Contains input b
canonical_contains input count output c b = (
  λ p. (among_exactly b input).0 ((c.members b).0 ((among_exactly b output).1 p)),
  λ p. (among_exactly b output).0 ((c.members b).1 ((among_exactly b input).1 p)),
)

-- there are no more distinct elements below the count than buckets
pub distinct_within_count : (input : List ℕ) (count : ℕ) → length (distinct input count) ≤ count
unfolding distinct
distinct_within_count input count = length_choose (λ b. among b input) count 0

-- where every element is below the count, the distinct elements are upstream's canonical list
pub in_range_canonical :
    (input : List ℕ) (count : ℕ) → InRange input count → Canonical input count (distinct input count)
unfolding distinct
in_range_canonical input count r =
    let test : ℕ → Bool = λ b. among b input in
    record {
      sorted = choose_sorted test count 0;
      in_range = rw (zero-add count) at (choose_in_range test count 0);
      within_input = length_distinct input count;
      within_count = length_choose test count 0;
      members = λ b. (
        λ h. (choose_passes test b count 0 h).2,
        λ h. let low = among_below b input count r h in passes_chosen test b count 0 (omega arith) (omega arith) h,
      );
    }

-- where the check of the range passes, the distinct elements are upstream's canonical list
pub distinct_canonical :
    (input : List ℕ) (count : ℕ) → range_check count input ≡ Ok tt → Canonical input count (distinct input count)
distinct_canonical input count h = in_range_canonical input count ((range_passes_exactly input count).0 h)

-- an output with room has it for the distinct elements
pub distinct_fits :
    (input : List ℕ) (count : ℕ) (output : List ℕ) → OutputRoom input count output →
    length (distinct input count) ≤ length output
distinct_fits input count output h =
    let a = length_distinct input count in let b = distinct_within_count input count in omega arith

-- what holds of an engine by its answer, whatever it asks of the lists lent, if that gives the output room
module _ (input : List ℕ) (count : ℕ) (output scratch after : List ℕ) (Short Room : Type 0)
    (fits : Room → OutputRoom input count output) where
  -- what is seen after an answer
  abbrev seen : Answer → Outcome
  seen a = record { answer = a; output = list_after a (distinct input count) output; scratch = after }

  -- an answer with its condition
  abbrev Found : Answer → Type 0
  Found = Answers input count Short Room

  -- after success the front of the output is the list of distinct elements
  front : (a : Answer) (n : ℕ) → Found a → a ≡ Ok n → take n (seen a).output ≡ distinct input count
  front a n k e =
      let named = (accepted_of (subst Found e k)).3 in rw (e, named) (written_front (distinct input count) output)

  -- the output is as long as before
  long : (a : Answer) → Found a → length (seen a).output ≡ length output
  long a (Answers.limits o) = refl
  long a (Answers.short w s) = refl
  long a (Answers.range w r f) = refl
  long a (Answers.accepted w r i e) =
      length_written (distinct input count) output (distinct_fits input count output (fits r))

  -- there is a result, unless the answer is 30 or 31
  result :
      (a : Answer) → (a ≡ Err Failure.Limits → ⊥) → (a ≡ Err Failure.Room → ⊥) → (r : UpstreamResult) × Gives (seen a) r
  result (Ok n) l m = (_, Gives.ok refl)
  result (Err Failure.Limits) l m = absurd (l refl)
  result (Err Failure.Room) l m = absurd (m refl)
  result (Err (Failure.Range b)) l m = (_, Gives.err refl)

  -- the result is as upstream says
  holds : (a : Answer) → Found a → (r : UpstreamResult) → Gives (seen a) r → BucketResult input count r
  holds a k r (Gives.ok {n} e) =
      rw (front a n k e) (in_range_canonical input count (accepted_of (subst Found e k)).2)
  holds a k r (Gives.err e) = (range_of (subst Found e k)).2

  -- all clauses
  clauses :
      (a : Answer) → Found a → (is_accepted a ≡ false → after ≡ scratch) → BucketClauses input count output scratch (seen a)
  clauses a k same =
      record {
        result = result a;
        holds = holds a k;
        refused = λ h. (rw h, same h);
        named = λ n e. rw (front a n k e) (sym (accepted_of (subst Found e k)).3);
        front = λ n e. front a n k e;
        later = λ n e.
            let named = (accepted_of (subst Found e k)).3 in rw (e, named) (written_later (distinct input count) output);
        long = long a k;
      }

-- canonical_buckets_sort
pub sort_clauses :
    (input : List ℕ) (count : ℕ) (output : List ℕ) → BucketClauses input count output [] (sort_of input count output)
unfolding sort_of
sort_clauses input count output =
    clauses input count output [] [] (OutputShort input count output) (OutputRoom input count output) (λ r. r) _
    ((sort_exactly input count output _).0 refl) (λ h. refl)

-- canonical_buckets_bitmap
pub bitmap_clauses :
    (input : List ℕ) (count : ℕ) (output scratch : List ℕ) →
    BucketClauses input count output scratch (bitmap_of input count output scratch)
unfolding bitmap_of
bitmap_clauses input count output scratch =
    clauses input count output scratch (bitmap_of input count output scratch).scratch
    (BitmapShort input count output scratch) (BitmapRoom input count output scratch) (λ r. r.0) _
    ((bitmap_exactly input count output scratch _).0 refl) (λ h. rw h)
