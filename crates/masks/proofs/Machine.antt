-- What the machine's operations make of a mask, in the words of the definitions. Nothing above this crate sees a bit operation.
use Prim.Native.Nat.{ℕ, zero, suc, ◌+◌, ◌-◌, ◌*◌, ◌/◌, ◌%◌, ◌^◌, ◌≤◌, ◌<◌, min}
use native.Mathlib.Nat.{mod-eq_of_lt, one-mul, lt_of_le_of_lt}
use native.Mathlib.Numerals.{one-add}
use native.Mathlib.Omega.{arith}
use mathlib.Core.Path.{◌≡◌, refl, sym, ap, ap₂, ◌∙◌}
use mathlib.Core.Bool.{Bool, true, false, cond, true≢false}
use lib.Dec.{eqb}
use lib.Count.{count_trailing_zeros, under}
use lib.Pow.{pow_pos, pow-lt, ones_lt, shr-shr}
use lib.Bits.{bit_and, bit_or, and_step, and_self, and_le_l, and_mask, and_high, and_block, and_shr, or_add_and}
use borrow.Author.Tests.{eq-eqb, ne_eqb, lt-ltb}
use Rattle.masks.specs.Masks.{most_lanes, digit, lane_in, cleared, entered, lanes_below, within, lowest_from, lowest, lowest_cleared}
use Rattle.masks.proofs.Lanes.{digit_two, lane_digit, no_lane_digit, digit_lane, same_lane, own_digit, below_small, lane_below, cleared_in, entered_in, entered_not_in, same_lanes, no_lanes, within_lane, lane_within, lowest_first, lowest_in}

-- a shift and a mask of one digit read a lane
pub shr_lane : (m l : ℕ) → eqb (bit_and (m / 2 ^ l) 1) 1 ≡ lane_in m l
unfolding digit lane_in
shr_lane m l = rw (and_mask (m / 2 ^ l) 1)

-- nothing of a lane's power is shifted out
pub shl_one : (l : ℕ) → l < most_lanes → 1 * 2 ^ l % 2 ^ 32 ≡ 2 ^ l
shl_one l lt = rw one-mul (mod-eq_of_lt (pow-lt lt))

-- it is 1 at least, so that one less is a number
pub shl_some : (l : ℕ) → l < most_lanes → 1 ≤ 1 * 2 ^ l % 2 ^ 32
shl_some l lt = rw (shl_one l lt) (pow_pos l)

-- a power keeps one lane
and_power : (m l : ℕ) → bit_and m (2 ^ l) ≡ digit m l * 2 ^ l
unfolding digit
and_power m l = ap (bit_and m) power ∙ and_high m 1 l
  where
    power : 2 ^ l ≡ 2 ^ (1 + l) - 2 ^ l
    power = rw one-add (omega arith)

-- what a number and its complement keep of a mask is the mask
and_not : (k m n : ℕ) → m < 2 ^ k → n < 2 ^ k → bit_and m (2 ^ k - 1 - n) + bit_and m n ≡ m
and_not zero m n small small' = omega (arith, and_le_l m (2 ^ 0 - 1 - n), and_le_l m n)
and_not (suc k) m n small small' =
    rw (and_step m (2 ^ suc k - 1 - n), and_step m n, half, odd)
    (omega (arith, and_not k (m / 2) (n / 2) (omega arith) (omega arith)))
  where
    half : (2 ^ suc k - 1 - n) / 2 ≡ 2 ^ k - 1 - n / 2
    half = omega arith

    odd : (2 ^ suc k - 1 - n) % 2 ≡ 1 - n % 2
    odd = omega arith

-- the complement of a lane's power clears it
pub and_cleared : (m l : ℕ) → m < 2 ^ 32 → l < most_lanes → bit_and m (2 ^ 32 - 1 - 1 * 2 ^ l % 2 ^ 32) ≡ cleared m l
unfolding cleared
and_cleared m l small lt =
    rw (shl_one l lt) (omega (arith, and_not 32 m (2 ^ l) small (pow-lt lt), and_power m l))

-- a lane's power enters it
pub or_entered : (m l : ℕ) → l < most_lanes → bit_or m (1 * 2 ^ l % 2 ^ 32) ≡ entered m l
or_entered m l lt = rw (shl_one l lt) (go (lane_in m l) refl)
  where
    sum : bit_or m (2 ^ l) + digit m l * 2 ^ l ≡ m + 2 ^ l
    sum = rw (← and_power m l) (or_add_and m (2 ^ l))

    go : (t : Bool) → lane_in m l ≡ t → bit_or m (2 ^ l) ≡ entered m l
    go true h = omega (arith, rw (lane_digit m l h) at sum, entered_in m l h)
    go false h = omega (arith, rw (no_lane_digit m l h) at sum, entered_not_in m l lt h)

-- all digits below a height keep the lanes there
pub and_below : (m h : ℕ) → h < most_lanes → bit_and m (1 * 2 ^ h % 2 ^ 32 - 1) ≡ lanes_below m h
unfolding lanes_below
and_below m h lt = rw (shl_one h lt) (and_mask m h)

-- a lane is in what two masks keep where it is in both
and_digit : (a b l : ℕ) → digit (bit_and a b) l ≡ min (digit a l) (digit b l)
unfolding digit
and_digit a b l = rw (and_shr a b l, and_step (a / 2 ^ l) (b / 2 ^ l)) (omega arith)

-- a mask is within another where the two keep all of it
pub and_within : (a b : ℕ) → a < 2 ^ 32 → eqb (bit_and a b) a ≡ within a b
and_within a b small = go (within a b) refl
  where
    kept : within a b ≡ true → (l : ℕ) → l < most_lanes → lane_in (bit_and a b) l ≡ lane_in a l
    kept w l lt = same_lane (bit_and a b) a l (and_digit a b l ∙ at (lane_in a l) refl)
      where
        at : (t : Bool) → lane_in a l ≡ t → min (digit a l) (digit b l) ≡ digit a l
        at true i = rw (lane_digit a l i, lane_digit b l (within_lane a b l w lt i))
        at false i = rw (no_lane_digit a l i) (omega arith)

    inside : bit_and a b ≡ a → (l : ℕ) → l < most_lanes → lane_in a l ≡ true → lane_in b l ≡ true
    inside e l lt i =
        let both = rw e at (and_digit a b l) in
        digit_lane b l (omega (arith, lane_digit a l i, digit_two b l))

    go : (t : Bool) → within a b ≡ t → eqb (bit_and a b) a ≡ t
    go true w = eq-eqb (bit_and a b) a (same_lanes (bit_and a b) a most_lanes (lt_of_le_of_lt (and_le_l a b) small) small (kept w))
    go false w = ne_eqb (bit_and a b) a (λ e. true≢false (sym (lane_within a b (inside e)) ∙ w))

-- one less changes the lowest 1 and the zeros below it, so that a number and one less keep the digits above
and_less : (above l : ℕ) → bit_and ((above * 2 + 1) * 2 ^ l + 0) ((above * 2 + 0) * 2 ^ l + (2 ^ l - 1)) ≡ above * 2 * 2 ^ l
and_less above l =
    and_block l (above * 2 + 1) (above * 2 + 0) 0 (2 ^ l - 1) (pow_pos l) (ones_lt l) ∙ rw last (omega arith)
  where
    half : (d : ℕ) → d < 2 → (above * 2 + d) / 2 ≡ above
    half d two = omega arith

    last : bit_and (above * 2 + 1) (above * 2 + 0) ≡ above * 2
    last =
        and_step (above * 2 + 1) (above * 2 + 0)
        ∙ rw (half 1 (omega arith), half 0 (omega arith), and_self above) (omega arith)

-- so where no lane is below a lane of a mask, the mask and one less keep all others
and_first : (m l : ℕ) → lanes_below m l ≡ 0 → lane_in m l ≡ true → bit_and m (m - 1) ≡ cleared m l
unfolding lanes_below
and_first m l none i = sym (ap₂ bit_and whole less) ∙ and_less (m / 2 ^ l / 2) l ∙ rest
  where
    whole : (m / 2 ^ l / 2 * 2 + 1) * 2 ^ l + 0 ≡ m
    whole = rw (lane_digit m l i, none) at (own_digit m l)

    less : (m / 2 ^ l / 2 * 2 + 0) * 2 ^ l + (2 ^ l - 1) ≡ m - 1
    less = omega (arith, whole, pow_pos l)

    rest : m / 2 ^ l / 2 * 2 * 2 ^ l ≡ cleared m l
    rest = omega (arith, whole, cleared_in m l i)

-- a mask and one less keep all but the lowest lane
pub and_lowest : (m : ℕ) → m < 2 ^ 32 → (m ≡ 0 → ⊥) → bit_and m (m - 1) ≡ lowest_cleared m
unfolding lowest_cleared
and_lowest m small some = and_first m (lowest m) none (lowest_in m small some)
  where
    none : lanes_below m (lowest m) ≡ 0
    none =
        no_lanes (lanes_below m (lowest m)) (lowest m) (below_small m (lowest m))
        (λ l lt. lane_below m (lowest m) l ∙ rw (lt-ltb l (lowest m) lt) (lowest_first m l lt))

-- the zeros below a mask's lowest digit, from a lane on, count up to its first lane
zeros_from : (k l m : ℕ) → count_trailing_zeros k (m / 2 ^ l) + l ≡ lowest_from k l m
unfolding count_trailing_zeros lowest_from digit lane_in
zeros_from zero l m = omega arith
zeros_from (suc k) l m =
    go (m / 2 ^ l % 2) (omega arith)
    (ap (λ (n : ℕ). count_trailing_zeros k n + (l + 1)) (shr-shr m l 1) ∙ zeros_from k (l + 1) m)
  where
    go :
        (d : ℕ) → d < 2 → count_trailing_zeros k (m / 2 ^ l / 2) + (l + 1) ≡ lowest_from k (l + 1) m →
        under d (count_trailing_zeros k (m / 2 ^ l / 2)) + l ≡ cond (eqb d 1) l (lowest_from k (l + 1) m)
    go zero two e = omega (arith, e)
    go (suc zero) two e = omega arith
    go (suc (suc d)) two e = omega arith

-- the zeros below its lowest digit are the number of its lowest lane
pub zeros_lowest : (m : ℕ) → count_trailing_zeros most_lanes m ≡ lowest m
unfolding lowest
zeros_lowest m =
    let whole : m / 2 ^ 0 ≡ m = omega arith in
    let from = zeros_from most_lanes 0 m in
    ap (count_trailing_zeros most_lanes) (sym whole) ∙ omega (arith, from)
