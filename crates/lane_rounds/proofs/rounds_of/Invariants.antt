-- A turn for each round, while the number of rounds left falls.
use Rattle.lane_rounds.proofs.Rounding.{Rounding}
use Rattle.lane_rounds.proofs.rounds_of.Given as goal

abbrev pub invariant-loop-left : goal.invariant-loop-left
invariant-loop-left l = Rounding l.initial.strip.now l.lent l.initial.view l.strip.now l.view l.left

abbrev pub decreases-loop-left : goal.decreases-loop-left
decreases-loop-left l = l.left
