-- Each turn of `add_turn` leaves less of the group.
use Rattle.std.proofs.Common.{length}
use Rattle.case_text.proofs.lists.Filling.add_turn.Given as goal

abbrev pub decreases-loop-first : goal.decreases-loop-first
decreases-loop-first g l = length l.rest
