-- The zeros below the lowest digit count the lanes below the lowest.
use Rattle.masks.proofs.Machine.{zeros_lowest}
use Rattle.masks.proofs.lowest_lane.Goals as goal

pub returns : goal.returns
returns c = zeros_lowest c.args.mask
