-- Masks by computation, up to height 32.
use Rattle.std.specs.Prelude.{◌≡◌, refl, [], ◌∷◌, true, false}
use Rattle.masks.specs.Masks.{digit, lane_in, cleared, entered, lanes_below, within_below, within, lowest_from, lowest, lowest_cleared}

-- lane 31 is the highest, and a lane of 32 or more is in no mask
pub lanes_in :
    lane_in 6 0 ∷ lane_in 6 1 ∷ lane_in 6 2 ∷ lane_in 6 3
    ∷ lane_in 4294967295 31 ∷ lane_in 2147483648 31 ∷ lane_in 2147483647 31 ∷ lane_in 4294967295 32 ∷ []
    ≡ false ∷ true ∷ true ∷ false ∷ true ∷ true ∷ false ∷ false ∷ []
unfolding digit lane_in
lanes_in = refl

-- a lane that isn't there is cleared with no change, and one that is there is set with none
pub lanes_changed :
    cleared 7 1 ∷ cleared 5 1 ∷ cleared 4294967295 31 ∷ cleared 4294967295 32
    ∷ entered 5 1 ∷ entered 7 1 ∷ entered 0 31 ∷ entered 5 32 ∷ []
    ≡ 5 ∷ 5 ∷ 2147483647 ∷ 4294967295 ∷ 7 ∷ 7 ∷ 2147483648 ∷ 5 ∷ []
unfolding digit cleared entered
lanes_changed = refl

-- below height 0 there is no lane, and below height 32 all are
pub lanes_below_lem :
    lanes_below 7 0 ∷ lanes_below 7 2 ∷ lanes_below 4294967295 31 ∷ lanes_below 4294967295 32 ∷ lanes_below 4294967295 33 ∷ []
    ≡ 0 ∷ 3 ∷ 2147483647 ∷ 4294967295 ∷ 4294967295 ∷ []
unfolding lanes_below
lanes_below_lem = refl

pub masks_within :
    within 6 7 ∷ within 7 6 ∷ within 0 0 ∷ within 2147483648 4294967295 ∷ within 4294967295 2147483647 ∷ []
    ≡ true ∷ false ∷ true ∷ true ∷ false ∷ []
unfolding digit lane_in within_below within
masks_within = refl

pub lowest_lanes :
    lowest 6 ∷ lowest 2147483648 ∷ lowest 0 ∷ lowest_cleared 6
    ∷ lowest_cleared 2147483648 ∷ lowest_cleared 0 ∷ lowest_cleared 4294967295 ∷ []
    ≡ 1 ∷ 31 ∷ 32 ∷ 4 ∷ 0 ∷ 0 ∷ 4294967294 ∷ []
unfolding digit lane_in cleared lowest_from lowest lowest_cleared
lowest_lanes = refl
