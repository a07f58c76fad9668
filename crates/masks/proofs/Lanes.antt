-- Masks lane by lane: which lanes a definition takes out, puts in or keeps, and when two masks are equal. The power of lane l, or
-- of a height l, is 2 ^ l.
use Prim.Native.Nat.{ℕ, zero, suc, ◌+◌, ◌-◌, ◌*◌, ◌/◌, ◌%◌, ◌^◌, ◌≤◌, ◌<◌}
use native.Mathlib.Nat.{mod-lt, mod-le, mod-eq_of_lt, mod-one, div-add-mod', div-eq_of_lt, lt_of_lt_of_le, lt_of_le_of_lt}
use native.Mathlib.Numerals.{one-add}
use native.Mathlib.Omega.{arith}
use mathlib.Core.Path.{◌≡◌, refl, sym, ap, ◌∙◌, subst}
use mathlib.Core.Bool.{Bool, true, false, true≢false, cond, not, ◌&&◌, ◌||◌, and-false, and-eq-true_iff}
use lib.Dec.{eqb, ltb}
use lib.Pow.{pow_pos, pow_mono, split, high, low, field, shr-shr, mod-pow-add, mod-mod-pow}
use borrow.Author.Tests.{eqb-true, eqb-false, ltb-true, ltb-false, lt-ltb, le-ltb}
use Rattle.masks.specs.Masks.{most_lanes, digit, lane_in, cleared, entered, lanes_below, within_below, within, lowest_from, lowest, lowest_cleared, Inside}

-- a digit is 0 or 1
pub digit_two : (m l : ℕ) → digit m l < 2
unfolding digit
digit_two m l = mod-lt (m / 2 ^ l) (omega arith)

-- a lane that is in the mask has digit 1
pub lane_digit : (m l : ℕ) → lane_in m l ≡ true → digit m l ≡ 1
unfolding lane_in
lane_digit m l h = eqb-true (digit m l) 1 h

-- a lane that is not in the mask has digit 0
pub no_lane_digit : (m l : ℕ) → lane_in m l ≡ false → digit m l ≡ 0
unfolding lane_in
no_lane_digit m l h = let two = digit_two m l in let other = eqb-false (digit m l) 1 h in omega arith

-- a lane whose digit is 1 is in the mask
pub digit_lane : (m l : ℕ) → digit m l ≡ 1 → lane_in m l ≡ true
unfolding lane_in
digit_lane m l h = rw h

-- a lane whose digit is 0 is not in the mask
pub digit_no_lane : (m l : ℕ) → digit m l ≡ 0 → lane_in m l ≡ false
unfolding lane_in
digit_no_lane m l h = rw h

-- a lane that is in both masks, or in neither, has one digit in them
pub same_digit : (a b l : ℕ) → lane_in a l ≡ lane_in b l → digit a l ≡ digit b l
same_digit a b l e = go (lane_in b l) refl
  where
    go : (t : Bool) → lane_in b l ≡ t → digit a l ≡ digit b l
    go true h = lane_digit a l (e ∙ h) ∙ sym (lane_digit b l h)
    go false h = no_lane_digit a l (e ∙ h) ∙ sym (no_lane_digit b l h)

-- a lane that has one digit in both masks is in both, or in neither
pub same_lane : (a b l : ℕ) → digit a l ≡ digit b l → lane_in a l ≡ lane_in b l
unfolding lane_in
same_lane a b l e = rw e

-- one lane more: its digit stands before the lanes below it
pub below_next : (m l : ℕ) → m % 2 ^ suc l ≡ digit m l * 2 ^ l + m % 2 ^ l
unfolding digit
below_next m l = ap (λ (k : ℕ). m % 2 ^ k) (sym (one-add l)) ∙ mod-pow-add m 1 l

-- the lanes below a height are a number below its power
pub below_small : (m h : ℕ) → lanes_below m h < 2 ^ h
unfolding lanes_below
below_small m h = mod-lt m (pow_pos h)

-- the lanes below a height are a number no larger than the mask
pub below_less : (m h : ℕ) → lanes_below m h ≤ m
unfolding lanes_below
below_less m h = mod-le m (2 ^ h)

-- a number below a height's power is its lanes below
pub bound_below : (m h : ℕ) → m < 2 ^ h → lanes_below m h ≡ m
unfolding lanes_below
bound_below m h lt = mod-eq_of_lt lt

-- a height of 32 or more leaves out no lane of a mask
pub all_below : (m h : ℕ) → m < 2 ^ most_lanes → most_lanes ≤ h → lanes_below m h ≡ m
all_below m h small ge = bound_below m h (lt_of_lt_of_le small (pow_mono ge))

-- and a mask that is its lanes below is such a number
pub below_bound : (m h : ℕ) → lanes_below m h ≡ m → m < 2 ^ h
below_bound m h e = rw e at (below_small m h)

-- below a height, each digit is the mask's
low_digit : (m h l : ℕ) → l < h → digit (m % 2 ^ h) l ≡ digit m l
unfolding digit
low_digit m h l lt = subst (λ (x : ℕ). m % 2 ^ x / 2 ^ l % 2 ≡ m / 2 ^ l % 2) height fields
  where
    height : h - suc l + (1 + l) ≡ h
    height = omega arith

    fields : m % 2 ^ (h - suc l + (1 + l)) / 2 ^ l % 2 ≡ m / 2 ^ l % 2
    fields =
        sym (field (m % 2 ^ (h - suc l + (1 + l))) 1 l) ∙ ap (λ (x : ℕ). x / 2 ^ l) (mod-mod-pow m (h - suc l) (1 + l))
        ∙ field m 1 l

-- masks that agree below a lane and above it agree in each other lane
same_around :
    (a b l k : ℕ) → a % 2 ^ l ≡ b % 2 ^ l → a / 2 ^ l / 2 ≡ b / 2 ^ l / 2 → (k ≡ l → ⊥) → lane_in a k ≡ lane_in b k
unfolding digit
same_around a b l k under over apart = same_lane a b k (go (ltb k l) refl)
  where
    beyond : (m j : ℕ) → m / 2 ^ (l + (1 + j)) ≡ m / 2 ^ l / 2 / 2 ^ j
    beyond m j = sym (shr-shr (m / 2 ^ l) 1 j ∙ shr-shr m l (1 + j))

    go : (t : Bool) → ltb k l ≡ t → digit a k ≡ digit b k
    go true h =
        let lt = ltb-true k l h in
        sym (low_digit a l k lt) ∙ ap (λ (x : ℕ). digit x k) under ∙ low_digit b l k lt
    go false h =
        let ge = ltb-false k l h in
        let far : k ≡ l + (1 + (k - suc l)) = omega arith in
        rw far (rw (beyond a (k - suc l), beyond b (k - suc l), over))

-- the mask with another digit for a lane
abbrev pub with_digit : ℕ → ℕ → ℕ → ℕ
with_digit m l d = (m / 2 ^ l / 2 * 2 + d) * 2 ^ l + m % 2 ^ l

-- with the digit that the lane has, it is the mask itself
pub own_digit : (m l : ℕ) → with_digit m l (digit m l) ≡ m
unfolding digit
own_digit m l = ap (λ (x : ℕ). x * 2 ^ l + m % 2 ^ l) (div-add-mod' (m / 2 ^ l) 2) ∙ split m l

-- the one digit changes, and what is below the lane and above it stays
module _ (m l d : ℕ) where
  with_sum : with_digit m l d + digit m l * 2 ^ l ≡ m + d * 2 ^ l
  with_sum = let own = own_digit m l in omega arith

  with_below : with_digit m l d % 2 ^ l ≡ m % 2 ^ l
  with_below = low (m / 2 ^ l / 2 * 2 + d) l (mod-lt m (pow_pos l))

  with_above : with_digit m l d / 2 ^ l ≡ m / 2 ^ l / 2 * 2 + d
  with_above = high (m / 2 ^ l / 2 * 2 + d) l (mod-lt m (pow_pos l))

  with_here : d < 2 → digit (with_digit m l d) l ≡ d
  unfolding digit
  with_here two = rw with_above (omega arith)

  with_other_lem : (k : ℕ) → d < 2 → (k ≡ l → ⊥) → lane_in (with_digit m l d) k ≡ lane_in m k
  with_other_lem k two apart = same_around (with_digit m l d) m l k with_below (rw with_above (omega arith)) apart

-- a cleared lane has digit 0
cleared_digit : (m l : ℕ) → cleared m l ≡ with_digit m l 0
unfolding cleared
cleared_digit m l = let sum = with_sum m l 0 in omega arith

-- a cleared lane is not in the mask
pub cleared_same : (m l : ℕ) → lane_in (cleared m l) l ≡ false
cleared_same m l = rw (cleared_digit m l) (digit_no_lane (with_digit m l 0) l (with_here m l 0 (omega arith)))

-- each other lane is as it was
pub cleared_other : (m l k : ℕ) → (k ≡ l → ⊥) → lane_in (cleared m l) k ≡ lane_in m k
cleared_other m l k apart = rw (cleared_digit m l) (with_other_lem m l 0 k (omega arith) apart)

-- a lane that is in the mask takes its power away
pub cleared_in : (m l : ℕ) → lane_in m l ≡ true → cleared m l ≡ m - 2 ^ l
unfolding cleared
cleared_in m l h = rw (lane_digit m l h) (omega arith)

-- a lane that is not in the mask is cleared with no change
pub cleared_not_in : (m l : ℕ) → lane_in m l ≡ false → cleared m l ≡ m
unfolding cleared
cleared_not_in m l h = rw (no_lane_digit m l h) (omega arith)

-- nothing is added
pub cleared_less : (m l : ℕ) → cleared m l ≤ m
unfolding cleared
cleared_less m l = omega arith

-- a lane that is in the mask is entered with no change
pub entered_in : (m l : ℕ) → lane_in m l ≡ true → entered m l ≡ m
unfolding entered
entered_in m l h = rw (lane_digit m l h) (go (ltb l most_lanes))
  where
    go : (t : Bool) → cond t (m + (1 - 1) * 2 ^ l) m ≡ m
    go true = omega arith
    go false = refl

-- a lane that is not in the mask adds its power
pub entered_not_in : (m l : ℕ) → l < most_lanes → lane_in m l ≡ false → entered m l ≡ m + 2 ^ l
unfolding entered
entered_not_in m l lt h = rw (lt-ltb l most_lanes lt, no_lane_digit m l h) (omega arith)

-- there is no lane of 32 or more
pub entered_none : (m l : ℕ) → most_lanes ≤ l → entered m l ≡ m
unfolding entered
entered_none m l ge = rw (le-ltb l most_lanes ge)

-- an entered lane has digit 1
entered_digit : (m l : ℕ) → l < most_lanes → entered m l ≡ with_digit m l 1
entered_digit m l lt = go (lane_in m l) refl
  where
    go : (t : Bool) → lane_in m l ≡ t → entered m l ≡ with_digit m l 1
    go true h = let sum = rw (lane_digit m l h) at (with_sum m l 1) in entered_in m l h ∙ omega arith
    go false h = let sum = rw (no_lane_digit m l h) at (with_sum m l 1) in entered_not_in m l lt h ∙ omega arith

-- an entered lane is in the mask
pub entered_same : (m l : ℕ) → l < most_lanes → lane_in (entered m l) l ≡ true
entered_same m l lt = rw (entered_digit m l lt) (digit_lane (with_digit m l 1) l (with_here m l 1 (omega arith)))

-- each other lane is as it was
pub entered_other : (m l k : ℕ) → (k ≡ l → ⊥) → lane_in (entered m l) k ≡ lane_in m k
entered_other m l k apart = go (ltb l most_lanes) refl
  where
    go : (t : Bool) → ltb l most_lanes ≡ t → lane_in (entered m l) k ≡ lane_in m k
    go true h = rw (entered_digit m l (ltb-true l most_lanes h)) (with_other_lem m l 1 k (omega arith) apart)
    go false h = rw (entered_none m l (ltb-false l most_lanes h))

-- a number below a height's power has no lane at the height or above
pub high_lane : (m h l : ℕ) → m < 2 ^ h → h ≤ l → lane_in m l ≡ false
unfolding digit
high_lane m h l lt ge = digit_no_lane m l (rw (div-eq_of_lt (lt_of_lt_of_le lt (pow_mono ge))))

-- the empty mask has no lane
pub no_lane : (l : ℕ) → lane_in 0 l ≡ false
no_lane l = high_lane 0 0 l (omega arith) (omega arith)

-- the lanes below a height are the mask's own
pub lane_below : (m h l : ℕ) → lane_in (lanes_below m h) l ≡ (ltb l h && lane_in m l)
unfolding lanes_below
lane_below m h l = go (ltb l h) refl
  where
    go : (t : Bool) → ltb l h ≡ t → lane_in (m % 2 ^ h) l ≡ (t && lane_in m l)
    go true k = same_lane (m % 2 ^ h) m l (low_digit m h l (ltb-true l h k))
    go false k = high_lane (m % 2 ^ h) h l (below_small m h) (ltb-false l h k)

-- masks with the same lanes below a height are equal there
pub same_below : (a b h : ℕ) → ((l : ℕ) → l < h → lane_in a l ≡ lane_in b l) → lanes_below a h ≡ lanes_below b h
unfolding lanes_below
same_below a b zero f = mod-one a ∙ sym (mod-one b)
same_below a b (suc h) f =
    rw (below_next a h, below_next b h, same_digit a b h (f h (omega arith)), same_below a b h (λ l lt. f l (omega arith)))

-- and masks that are equal there have the same lanes there
pub below_same : (a b h l : ℕ) → lanes_below a h ≡ lanes_below b h → l < h → lane_in a l ≡ lane_in b l
below_same a b h l e lt =
    let yes = lt-ltb l h lt in
    rw yes at (sym (lane_below a h l) ∙ ap (λ (m : ℕ). lane_in m l) e ∙ lane_below b h l)

-- masks with the same lanes are equal
pub same_lanes : (a b h : ℕ) → a < 2 ^ h → b < 2 ^ h → ((l : ℕ) → l < h → lane_in a l ≡ lane_in b l) → a ≡ b
same_lanes a b h small small' f = sym (bound_below a h small) ∙ same_below a b h f ∙ bound_below b h small'

-- a mask with no lane is empty
pub no_lanes : (m h : ℕ) → m < 2 ^ h → ((l : ℕ) → l < h → lane_in m l ≡ false) → m ≡ 0
no_lanes m h small f = same_lanes m 0 h small (pow_pos h) (λ l lt. f l lt ∙ sym (no_lane l))

-- a mask that is its lanes below has no other lane
pub below_lanes : (m h l : ℕ) → lanes_below m h ≡ m → lane_in m l ≡ true → l < h
below_lanes m h l e i = go (ltb l h) refl
  where
    go : (t : Bool) → ltb l h ≡ t → l < h
    go true k = ltb-true l h k
    go false k = absurd (true≢false (sym i ∙ high_lane m h l (below_bound m h e) (ltb-false l h k)))

-- and a mask with no other lane is its lanes below
pub lanes_below_lem : (m h : ℕ) → ((l : ℕ) → lane_in m l ≡ true → l < h) → lanes_below m h ≡ m
lanes_below_lem m h f = same_lanes (lanes_below m h) m m (lt_of_le_of_lt (below_less m h) (small m)) (small m) lanes
  where
    small : (n : ℕ) → n < 2 ^ n
    small zero = omega arith
    small (suc n) = let smaller = small n in omega arith

    go : (l : ℕ) (t : Bool) → lane_in m l ≡ t → (ltb l h && t) ≡ t
    go l true i = rw (lt-ltb l h (f l i))
    go l false i = and-false (ltb l h)

    lanes : (l : ℕ) → l < m → lane_in (lanes_below m h) l ≡ lane_in m l
    lanes l lt = lane_below m h l ∙ go l (lane_in m l) refl

-- a mask with one lane more stays below 2 ^ 32
pub entered_small : (m l : ℕ) → m < 2 ^ most_lanes → l < most_lanes → entered m l < 2 ^ most_lanes
entered_small m l small less = below_bound (entered m l) most_lanes (lanes_below_lem (entered m l) most_lanes under)
  where
    under : (k : ℕ) → lane_in (entered m l) k ≡ true → k < most_lanes
    under k i = go (eqb k l) refl
      where
        go : (t : Bool) → eqb k l ≡ t → k < most_lanes
        go true e = let here = eqb-true k l e in omega arith
        go false e =
            below_lanes m most_lanes k (bound_below m most_lanes small) (sym (entered_other m l k (eqb-false k l e)) ∙ i)

-- within, of the lanes below a height: one lane after the other
within_lane_below : (h a b l : ℕ) → within_below h a b ≡ true → l < h → lane_in a l ≡ true → lane_in b l ≡ true
unfolding within_below
within_lane_below zero a b l w lt i = absurd (omega arith)
within_lane_below (suc h) a b l w lt i = go (eqb l h) refl (λ less. within_lane_below h a b l both.1 less i)
  where
    both : ((not (lane_in a h) || lane_in b h) ≡ true) × (within_below h a b ≡ true)
    both = (and-eq-true_iff (not (lane_in a h) || lane_in b h) (within_below h a b)).0 w

    go : (t : Bool) → eqb l h ≡ t → (l < h → lane_in b l ≡ true) → lane_in b l ≡ true
    go true k below = let e = eqb-true l h k in rw e (rw (rw e at i) at both.0)
    go false k below = let apart = eqb-false l h k in below (omega arith)

lane_within_below : (h a b : ℕ) → ((l : ℕ) → l < h → lane_in a l ≡ true → lane_in b l ≡ true) → within_below h a b ≡ true
unfolding within_below
lane_within_below zero a b f = refl
lane_within_below (suc h) a b f =
    (and-eq-true_iff (not (lane_in a h) || lane_in b h) (within_below h a b)).1
    (go (lane_in a h) refl, lane_within_below h a b (λ l lt i. f l (omega arith) i))
  where
    go : (t : Bool) → lane_in a h ≡ t → (not t || lane_in b h) ≡ true
    go true i = f h (omega arith) i
    go false i = refl

-- a lane of a mask is in each mask that it is within
pub within_lane : (a b l : ℕ) → within a b ≡ true → l < most_lanes → lane_in a l ≡ true → lane_in b l ≡ true
unfolding within
within_lane a b l w lt i = within_lane_below most_lanes a b l w lt i

-- a mask is within another where each of its lanes is in that one
pub lane_within : (a b : ℕ) → ((l : ℕ) → l < most_lanes → lane_in a l ≡ true → lane_in b l ≡ true) → within a b ≡ true
unfolding within
lane_within a b f = lane_within_below most_lanes a b f

-- a mask is inside itself
pub inside_same : (a : ℕ) → Inside a a
inside_same a l i = i

-- what is inside a mask is inside each that this one is inside
pub inside_then : (a b c : ℕ) → Inside a b → Inside b c → Inside a c
inside_then a b c f g l i = g l (f l i)

-- a mask that is inside another is within it
pub inside_within : (a b : ℕ) → Inside a b → within a b ≡ true
inside_within a b f = lane_within a b (λ l lt i. f l i)

-- a mask without a lane is inside it
pub inside_cleared : (m l : ℕ) → Inside (cleared m l) m
inside_cleared m l k i = go (eqb k l) refl
  where
    go : (t : Bool) → eqb k l ≡ t → lane_in m k ≡ true
    go true e = absurd (true≢false (sym i ∙ rw (eqb-true k l e) (cleared_same m l)))
    go false e = sym (cleared_other m l k (eqb-false k l e)) ∙ i

-- a mask without its lowest lane is inside it
pub inside_lowest : (m : ℕ) → Inside (lowest_cleared m) m
unfolding lowest_cleared
inside_lowest m = inside_cleared m (lowest m)

-- nothing is added
pub lowest_less : (m : ℕ) → lowest_cleared m ≤ m
unfolding lowest_cleared
lowest_less m = cleared_less m (lowest m)

-- the empty mask stays empty
pub lowest_none : lowest_cleared 0 ≡ 0
unfolding lowest_cleared
lowest_none = cleared_not_in 0 (lowest 0) (no_lane (lowest 0))

-- no lane that the search passes is in the mask
first_from : (n from m l : ℕ) → from ≤ l → l < lowest_from n from m → lane_in m l ≡ false
unfolding lowest_from
first_from zero from m l ge lt = absurd (omega arith)
first_from (suc n) from m l ge lt = go (lane_in m from) refl lt (λ more less. first_from n (from + 1) m l more less)
  where
    go :
        (t : Bool) → lane_in m from ≡ t → l < cond t from (lowest_from n (from + 1) m) →
        (from + 1 ≤ l → l < lowest_from n (from + 1) m → lane_in m l ≡ false) → lane_in m l ≡ false
    go true h less next = absurd (omega arith)
    go false h less next = here (eqb l from) refl
      where
        here : (t : Bool) → eqb l from ≡ t → lane_in m l ≡ false
        here true e = rw (eqb-true l from e) h
        here false e = let apart = eqb-false l from e in next (omega arith) less

-- the lane at which it stops, unless it has passed all, is in the mask
found_from : (n from m : ℕ) → lowest_from n from m < from + n → lane_in m (lowest_from n from m) ≡ true
unfolding lowest_from
found_from zero from m lt = absurd (omega arith)
found_from (suc n) from m lt = go (lane_in m from) refl lt (λ less. found_from n (from + 1) m less)
  where
    go :
        (t : Bool) → lane_in m from ≡ t → cond t from (lowest_from n (from + 1) m) < from + suc n →
        (lowest_from n (from + 1) m < from + 1 + n → lane_in m (lowest_from n (from + 1) m) ≡ true) →
        lane_in m (cond t from (lowest_from n (from + 1) m)) ≡ true
    go true h less next = h
    go false h less next = next (omega arith)

-- no lane below the lowest is in the mask
pub lowest_first : (m l : ℕ) → l < lowest m → lane_in m l ≡ false
unfolding lowest
lowest_first m l lt = first_from most_lanes 0 m l (omega arith) lt

-- a lowest lane below 32 is in the mask
pub lowest_found : (m : ℕ) → lowest m < most_lanes → lane_in m (lowest m) ≡ true
unfolding lowest
lowest_found m lt = found_from most_lanes 0 m lt

-- the lowest lane of a mask that is not empty is in it
pub lowest_in : (m : ℕ) → m < 2 ^ most_lanes → (m ≡ 0 → ⊥) → lane_in m (lowest m) ≡ true
lowest_in m small some = go (ltb (lowest m) most_lanes) refl
  where
    go : (t : Bool) → ltb (lowest m) most_lanes ≡ t → lane_in m (lowest m) ≡ true
    go true h = lowest_found m (ltb-true (lowest m) most_lanes h)
    go false h =
        let none = ltb-false (lowest m) most_lanes h in
        absurd (some (no_lanes m most_lanes small (λ l lt. lowest_first m l (omega arith))))
