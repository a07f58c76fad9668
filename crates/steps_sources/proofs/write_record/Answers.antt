use native.Mathlib.Omega.{arith}
use Rattle.steps_sources.proofs.Writing.{record_pass, record_turn, record_end}
use Rattle.steps_sources.proofs.write_record.Goals as goal

pub loop-number-preserved-in_default : goal.loop-number-preserved-in_default
loop-number-preserved-in_default c =
    record_pass c.loop-number.invariant (omega arith) _ c.at.ensures c.in_default.is

pub loop-number-preserved : goal.loop-number-preserved
loop-number-preserved c =
    record_turn c.loop-number.invariant (omega arith) _ c.at.ensures _ c.in-Some.is c.requires

pub returns : goal.returns
returns c = record_end c.loop-number.invariant (omega arith)
