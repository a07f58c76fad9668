-- One less changes the lowest lane and the zeros below it, and the empty mask has no lane to clear.
use mathlib.Core.Path.{sym}
use Rattle.masks.proofs.Lanes.{lowest_none}
use Rattle.masks.proofs.Machine.{and_lowest}
use Rattle.masks.proofs.clear_lowest.Goals as goal

pub returns-then-mask-eq0 : goal.returns-then-mask-eq0
returns-then-mask-eq0 c = rw c.if-mask-eq0.true (sym lowest_none)

pub returns : goal.returns
returns c = and_lowest _ c.ranges.mask.fits c.if-mask-eq0.false
