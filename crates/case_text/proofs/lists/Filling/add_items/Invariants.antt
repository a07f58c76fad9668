-- Each turn of `add_items` leaves less of the text.
use Rattle.std.proofs.Common.{length}
use Rattle.case_text.proofs.lists.Filling.add_items.Given as goal

abbrev pub decreases-loop-first : goal.decreases-loop-first
decreases-loop-first g l = length l.rest
