-- One digit is read below 32, and no lane is at or above it.
use native.Mathlib.Omega.{arith}
use mathlib.Core.Path.{sym}
use Rattle.masks.proofs.Lanes.{high_lane}
use Rattle.masks.proofs.Machine.{shr_lane}
use Rattle.masks.proofs.lane_in.Goals as goal

pub returns-then-lane-ge-MOST_LANES : goal.returns-then-lane-ge-MOST_LANES
returns-then-lane-ge-MOST_LANES c = sym (high_lane _ 32 _ c.ranges.mask.fits (omega arith))

pub returns : goal.returns
returns c = shr_lane _ _
