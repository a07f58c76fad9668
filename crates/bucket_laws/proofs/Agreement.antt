-- Upstream's `bucket_result` leaves one result, so the two engines agree; given room, so do their answers and what they wrote.
use Prim.Native.Nat.{ℕ}
use native.Mathlib.Omega.{arith}
use mathlib.Core.Path.{◌≡◌}
use mathlib.Core.List.{List}
use Rattle.std.proofs.Common.{Ok, Err}
use Rattle.bucket_rules.specs.Calls.{sort_of, bitmap_of}
use Rattle.bucket_laws.specs.Clauses.{FirstInvalid, Canonical, UpstreamResult, BucketResult, EquivalentResults, Gives, OutputRoom}
use Rattle.bucket_laws.specs.Clauses.{BitmapRoom, Agree}
use Rattle.bucket_laws.proofs.Standing.{among_below}
use Rattle.lent_lists.proofs.Among.{place_among}
use Rattle.bucket_laws.proofs.Range.{first_unique}
use Rattle.bucket_laws.proofs.Exactly.{room_output_exactly, room_scratch_exactly, room_bitmap_exactly}
use Rattle.bucket_laws.proofs.Upstream.{canonical_unique, sort_clauses, bitmap_clauses}

-- where an element is not below the count, there is no canonical list
pub canonical_not_invalid :
    (input : List ℕ) (count : ℕ) (output : List ℕ) (bad : ℕ) → Canonical input count output → FirstInvalid input count bad → ⊥
canonical_not_invalid input count output bad c f =
    let e = f.1.holds in
    let here = rw e at (place_among input f.0 f.1.within) in
    let low = among_below bad output count c.in_range ((c.members bad).1 here) in
    let high = f.1.over in
    omega arith

-- any two results that upstream allows are equivalent
pub results_equivalent :
    (input : List ℕ) (count : ℕ) (r s : UpstreamResult) → BucketResult input count r → BucketResult input count s →
    EquivalentResults r s
results_equivalent input count (Ok l) (Ok m) p q = canonical_unique input count l m p q
results_equivalent input count (Ok l) (Err b) p q = canonical_not_invalid input count l b p q
results_equivalent input count (Err a) (Ok m) p q = canonical_not_invalid input count m a q p
results_equivalent input count (Err a) (Err b) p q = first_unique input count a b p q

-- the outputs and the scratch may be any
module _ (input : List ℕ) (count : ℕ) (output other scratch : List ℕ) where
  -- whatever results the two engines give are equivalent
  pub engines_equivalent :
      (r s : UpstreamResult) → Gives (sort_of input count output) r → Gives (bitmap_of input count other scratch) s →
      EquivalentResults r s
  engines_equivalent r s g h =
      results_equivalent input count r s ((sort_clauses input count output).holds r g)
      ((bitmap_clauses input count other scratch).holds s h)

  -- given room for both, they answer the same
  pub same_answer :
      OutputRoom input count output → BitmapRoom input count other scratch →
      (sort_of input count output).answer ≡ (bitmap_of input count other scratch).answer
  unfolding sort_of bitmap_of
  same_answer r q =
      rw ((room_output_exactly input count output).1 r, (room_bitmap_exactly input count other scratch).1 q)

  -- given room for both, they agree in answer, in result and in what they wrote
  pub rules_agree :
      OutputRoom input count output → BitmapRoom input count other scratch →
      Agree (sort_of input count output) (bitmap_of input count other scratch)
  rules_agree r q =
      let e = same_answer r q in
      record {
        answer = e;
        results = engines_equivalent;
        front = λ n h. engines_equivalent _ _ (Gives.ok h) (Gives.ok (rw e at h));
      }

-- where the same output is lent to both, with room, it holds the same afterwards
pub outputs_agree :
    (input : List ℕ) (count : ℕ) (output scratch : List ℕ) → BitmapRoom input count output scratch →
    (sort_of input count output).output ≡ (bitmap_of input count output scratch).output
unfolding sort_of bitmap_of
outputs_agree input count output scratch q =
    rw ((room_output_exactly input count output).1 q.0, (room_scratch_exactly count scratch).1 q.1)
