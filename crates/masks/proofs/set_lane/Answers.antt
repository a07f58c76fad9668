-- The lane's power enters it, and there is no lane of 32 or more to enter.
use native.Mathlib.Omega.{arith}
use mathlib.Core.Path.{sym}
use Rattle.masks.proofs.Lanes.{entered_none}
use Rattle.masks.proofs.Machine.{or_entered}
use Rattle.masks.proofs.set_lane.Goals as goal

pub returns-then-lane-ge-MOST_LANES : goal.returns-then-lane-ge-MOST_LANES
returns-then-lane-ge-MOST_LANES c = sym (entered_none _ _ (omega arith))

pub returns : goal.returns
returns c = or_entered _ _ (omega arith)
