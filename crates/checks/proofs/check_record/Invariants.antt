-- The numbers behind are few, since each means another change, so that a place fits a u32.
use Rattle.std.proofs.Common.{◌≡◌, length}
use Rattle.rules.specs.Checks.{record_check}
use Rattle.rules.specs.Orders.{changes}
use Rattle.checks.proofs.Few.{Few}
use Rattle.checks.proofs.Numbers.{behind, record_left}
use Rattle.checks.proofs.check_record.Given as goal

abbrev pub invariant-loop-place : goal.invariant-loop-place
invariant-loop-place l = record {
  few : Few (length (changes l.list.numbers.now)) (behind l.place l.«record»);
  left : record_check (changes l.list.numbers.now) l.«record» ≡ record_left (changes l.list.numbers.now) l.«record» l.place;
}
