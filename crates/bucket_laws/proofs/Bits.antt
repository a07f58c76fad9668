-- The membership bits, bucket by bucket: each bit says whether its bucket stands in the input, and the bits determine the numbers.
use Prim.Native.Nat.{ℕ, ◌+◌, ◌*◌, ◌/◌, ◌%◌, ◌^◌, ◌<◌, ◌≤◌}
use native.Mathlib.Nat.{zero-add}
use native.Mathlib.Omega.{arith}
use mathlib.Core.Path.{◌≡◌, refl, sym, ◌∙◌}
use mathlib.Core.List.{List}
use mathlib.Core.Bool.{false}
use mathlib.Core.Logic.{⊎_elim}
use lib.ListN.{length, get_or, take, drop, get_or-eq_default}
use lib.Seq.{ext_get_or}
use lib.Dec.{ltb}
use lib.Pow.{pow_pos}
use borrow.Author.Tests.{ltb-true, ltb-false}
use Rattle.std.proofs.Common.{Ok}
use Rattle.lent_lists.proofs.Writing.{length_written, written_front, written_later}
use Rattle.booleans.proofs.Tests.{either}
use Rattle.masks.specs.Masks.{most_lanes, lane_in}
use Rattle.masks.proofs.Lanes.{no_lane, same_lanes}
use Rattle.bucket_rules.specs.Answers.{Answer}
use Rattle.bucket_rules.specs.Buckets.{mark, numbers_for, membership}
use Rattle.lent_lists.specs.Among.{among}
use Rattle.bucket_rules.specs.Calls.{list_after, bitmap_of}
use Rattle.bucket_laws.specs.Clauses.{InRange, bit_in, BitmapRoom, BitmapShort, Answers, MembershipBits, ScratchClauses}
use Rattle.bucket_laws.proofs.Standing.{among_not}
use Rattle.bucket_laws.proofs.Marks.{mark_small, length_bits, bits_number, bits_bit}
use Rattle.bucket_laws.proofs.Exactly.{accepted_of, bitmap_exactly}

module _ (input : List ℕ) (count : ℕ) where
  -- there are bucket count / 32 numbers, rounded up
  pub length_membership : length (membership input count) ≡ numbers_for count
  unfolding membership
  length_membership = length_bits (λ b. among b input) (numbers_for count) 0

  -- number i has the lanes of the 32 buckets from 32 * i on
  get_d_membership :
      (i : ℕ) → i < numbers_for count → get_or (membership input count) i 0 ≡ mark (λ b. among b input) (i * 32) most_lanes
  unfolding membership
  get_d_membership i h = rw zero-add at (bits_number (λ b. among b input) (numbers_for count) 0 i h)

  -- past them there is none
  past_membership : (i : ℕ) → numbers_for count ≤ i → get_or (membership input count) i 0 ≡ 0
  past_membership i h = get_or-eq_default (membership input count) 0 (rw length_membership h)

  -- every number of the membership bits is below 2 ^ 32
  pub membership_small : (i : ℕ) → get_or (membership input count) i 0 < 2 ^ most_lanes
  membership_small i =
      ⊎_elim
      (λ h.
      rw (get_d_membership i (ltb-true i (numbers_for count) h)) (mark_small (λ b. among b input) (i * 32) most_lanes (omega arith)))
      (λ h. rw (past_membership i (ltb-false i (numbers_for count) h)) (pow_pos most_lanes))
      (either (ltb i (numbers_for count)))

  -- where there is a number for it, a bucket's bit says whether the bucket stands in the input
  pub membership_bit :
      (b : ℕ) → b / 32 < numbers_for count → bit_in (membership input count) b ≡ among b input
  unfolding membership
  membership_bit b h = bits_bit (λ x. among x input) (numbers_for count) b h

  -- and so of each bucket below the count
  pub membership_below :
      (b : ℕ) → b < count → bit_in (membership input count) b ≡ among b input
  membership_below b h = membership_bit b (omega arith)

  -- where every element is below the count, no bit at the count or above is set
  pub membership_above :
      InRange input count → (b : ℕ) → count ≤ b → bit_in (membership input count) b ≡ false
  membership_above r b h =
      ⊎_elim (λ k. membership_bit b (ltb-true (b / 32) (numbers_for count) k) ∙ among_not b input count r h)
      (λ k. rw (past_membership (b / 32) (ltb-false (b / 32) (numbers_for count) k)) (no_lane (b % 32)))
      (either (ltb (b / 32) (numbers_for count)))

  -- so they are the membership bits as the clauses say
  pub membership_bits : InRange input count → MembershipBits input count (membership input count)
  membership_bits r =
      record { many = length_membership; small = membership_small; below = membership_below; above = membership_above r }

-- two lists of as many numbers below 2 ^ 32 with the same bits are equal
pub bits_unique :
    (l m : List ℕ) → length l ≡ length m → ((i : ℕ) → get_or l i 0 < 2 ^ most_lanes) → ((i : ℕ) → get_or m i 0 < 2 ^ most_lanes) →
    ((b : ℕ) → bit_in l b ≡ bit_in m b) → l ≡ m
bits_unique l m e small small' f =
    ext_get_or 0 l m e (λ i h. same_lanes (get_or l i 0) (get_or m i 0) most_lanes (small i) (small' i) (λ k low. here i k low))
  where
    here : (i k : ℕ) → k < most_lanes → lane_in (get_or l i 0) k ≡ lane_in (get_or m i 0) k
    here i k low =
        let at : (i * 32 + k) / 32 ≡ i = omega arith in
        let rest : (i * 32 + k) % 32 ≡ k = omega arith in
        rw (at, rest) at (f (i * 32 + k))

-- the membership bits determine the numbers
pub membership_unique :
    (input : List ℕ) (count : ℕ) (l m : List ℕ) → MembershipBits input count l → MembershipBits input count m → l ≡ m
membership_unique input count l m p q =
    bits_unique l m (p.many ∙ sym q.many) p.small q.small (λ b.
    ⊎_elim (λ h. let low = ltb-true b count h in p.below b low ∙ sym (q.below b low))
    (λ h. let high = ltb-false b count h in p.above b high ∙ sym (q.above b high))
    (either (ltb b count)))

-- what the bitmap engine leaves in the scratch
pub scratch_clauses :
    (input : List ℕ) (count : ℕ) (output scratch : List ℕ) →
    ScratchClauses input count scratch (bitmap_of input count output scratch)
unfolding bitmap_of
scratch_clauses input count output scratch =
    record {
      bits = λ n e.
          let k = accepted_of ((bitmap_exactly input count output scratch (Ok n)).0 e) in
          rw (front n e) (membership_bits input count k.2);
      later = λ n e. later n e;
      long = long _ ((bitmap_exactly input count output scratch _).0 refl);
    }
  where
    front :
        (n : ℕ) → (bitmap_of input count output scratch).answer ≡ Ok n →
        take (numbers_for count) (bitmap_of input count output scratch).scratch ≡ membership input count
    front n e = rw (e, ← length_membership input count) (written_front (membership input count) scratch)

    later :
        (n : ℕ) → (bitmap_of input count output scratch).answer ≡ Ok n →
        drop (numbers_for count) (bitmap_of input count output scratch).scratch ≡ drop (numbers_for count) scratch
    later n e = rw (e, ← length_membership input count) (written_later (membership input count) scratch)

    long :
        (a : Answer) → Answers input count (BitmapShort input count output scratch) (BitmapRoom input count output scratch) a →
        length (list_after a (membership input count) scratch) ≡ length scratch
    long a (Answers.limits o) = refl
    long a (Answers.short w s) = refl
    long a (Answers.range w r f) = refl
    long a (Answers.accepted w r i e) =
        let many = length_membership input count in
        let room = r.1 in
        length_written (membership input count) scratch (omega arith)
