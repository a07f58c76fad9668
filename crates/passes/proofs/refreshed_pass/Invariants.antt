-- A turn for each lane, from the top lane down.
use Rattle.passes.proofs.Refreshing.{Refreshing}
use Rattle.passes.proofs.refreshed_pass.Given as goal

abbrev pub invariant-loop-lane : goal.invariant-loop-lane
invariant-loop-lane l = Refreshing l.initial.strip.now l.initial.view l.strip.now l.view l.is_untried l.lane
