-- A turn for each lane, from the top lane down.
use Rattle.passes.proofs.Caching.{Caching}
use Rattle.passes.proofs.cached_pass.Given as goal

abbrev pub invariant-loop-lane : goal.invariant-loop-lane
invariant-loop-lane l = Caching l.initial.strip.now l.initial.view l.strip.now l.view l.lane
