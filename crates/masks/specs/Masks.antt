-- A mask of 32 lanes is a number: lane l is in it where the digit of 2 ^ l is 1.
use Rattle.std.specs.Prelude.{ℕ, zero, suc, ◌+◌, ◌-◌, ◌*◌, ◌/◌, ◌%◌, ◌^◌, ◌≡◌, Bool, true, cond, not, ◌&&◌, ◌||◌, eqb, ltb}

-- lanes that a mask can have
abbrev pub most_lanes : ℕ
most_lanes = 32

-- the digit of a lane, 0 or 1
unfoldable pub digit : ℕ → ℕ → ℕ
digit mask lane = mask / 2 ^ lane % 2

-- the lane is in the mask
unfoldable pub lane_in : ℕ → ℕ → Bool
lane_in mask lane = eqb (digit mask lane) 1

-- the mask without the lane
unfoldable pub cleared : ℕ → ℕ → ℕ
cleared mask lane = mask - digit mask lane * 2 ^ lane

-- the mask with the lane; there is no lane of 32 or more
unfoldable pub entered : ℕ → ℕ → ℕ
entered mask lane = cond (ltb lane most_lanes) (mask + (1 - digit mask lane) * 2 ^ lane) mask

-- the lanes of the mask that are below a height
unfoldable pub lanes_below : ℕ → ℕ → ℕ
lanes_below mask height = mask % 2 ^ height

-- of the lowest lanes, so many, each that is in the mask is in the other
unfoldable pub within_below : ℕ → ℕ → ℕ → Bool
within_below zero mask other = true
within_below (suc lane) mask other = (not (lane_in mask lane) || lane_in other lane) && within_below lane mask other

-- each lane of the mask is in the other
unfoldable pub within : ℕ → ℕ → Bool
within mask other = within_below most_lanes mask other

-- the first lane of the mask, from a lane on and among so many; past them where there is none
unfoldable pub lowest_from : ℕ → ℕ → ℕ → ℕ
lowest_from zero lane mask = lane
lowest_from (suc more) lane mask = cond (lane_in mask lane) lane (lowest_from more (lane + 1) mask)

-- the lowest lane of the mask, or 32 where it has none
unfoldable pub lowest : ℕ → ℕ
lowest mask = lowest_from most_lanes 0 mask

-- the mask without its lowest lane, if it has any
unfoldable pub lowest_cleared : ℕ → ℕ
lowest_cleared mask = cleared mask (lowest mask)

-- each lane of the one mask is in the other
abbrev pub Inside : ℕ → ℕ → Type 0
Inside a b = (l : ℕ) → lane_in a l ≡ true → lane_in b l ≡ true
