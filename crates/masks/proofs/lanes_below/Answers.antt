-- All digits below the height keep the lanes there, and a height of 32 or more leaves out none.
use native.Mathlib.Omega.{arith}
use mathlib.Core.Path.{sym}
use Rattle.masks.proofs.Lanes.{all_below}
use Rattle.masks.proofs.Machine.{shl_some, and_below}
use Rattle.masks.proofs.lanes_below.Goals as goal

pub returns-then-height-ge-MOST_LANES : goal.returns-then-height-ge-MOST_LANES
returns-then-height-ge-MOST_LANES c = sym (all_below _ _ c.ranges.mask.fits (omega arith))

pub overflow_sub-result : goal.overflow_sub-result
overflow_sub-result c = shl_some _ (omega arith)

pub returns : goal.returns
returns c = and_below _ _ (omega arith)
