-- `number` has what is left of its text, and each digit leaves less.
use Rattle.std.proofs.Common.{◌≤◌, length}
use Rattle.case_text.proofs.items.number.Given as goal

abbrev pub invariant-loop-digit : goal.invariant-loop-digit
invariant-loop-digit l = length l.rest ≤ length l.text

abbrev pub decreases-loop-digit : goal.decreases-loop-digit
decreases-loop-digit l = length l.rest
