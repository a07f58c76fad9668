-- The complement of the lane's power clears it, and there is no lane of 32 or more to clear.
use native.Mathlib.Omega.{arith}
use mathlib.Core.Path.{sym}
use Rattle.masks.proofs.Lanes.{high_lane, cleared_not_in}
use Rattle.masks.proofs.Machine.{and_cleared}
use Rattle.masks.proofs.clear_lane.Goals as goal

pub returns-then-lane-ge-MOST_LANES : goal.returns-then-lane-ge-MOST_LANES
returns-then-lane-ge-MOST_LANES c = sym (cleared_not_in _ _ (high_lane _ 32 _ c.ranges.mask.fits (omega arith)))

pub returns : goal.returns
returns c = and_cleared _ _ c.ranges.mask.fits (omega arith)
