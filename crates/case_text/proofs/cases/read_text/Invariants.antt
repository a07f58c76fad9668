-- `read_text` fills its text from the front, and each read that it goes on after leaves less of it.
use Rattle.std.proofs.Common.{◌-◌, ◌≤◌, length}
use Rattle.case_text.proofs.cases.read_text.Given as goal

abbrev pub invariant-loop-size : goal.invariant-loop-size
invariant-loop-size g l = l.size ≤ length l.text

abbrev pub decreases-loop-size : goal.decreases-loop-size
decreases-loop-size g l = length l.text - l.size
