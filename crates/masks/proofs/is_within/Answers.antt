-- A mask is within another where the two keep all of it.
use Rattle.masks.proofs.Machine.{and_within}
use Rattle.masks.proofs.is_within.Goals as goal

pub returns : goal.returns
returns c = and_within _ _ c.ranges.mask.fits
