use native.Mathlib.Omega.{arith}
use Rattle.steps.proofs.Insertions.{prepare_start, prepare_pass, prepare_clear, prepare_stop, prepare_end}
use Rattle.steps.proofs.prepare.Goals as goal

pub loop-i-init : goal.loop-i-init
loop-i-init c = prepare_start _ _

-- said part by part, of what the storage then has
pub loop-i-preserved-in_default : goal.loop-i-preserved-in_default
loop-i-preserved-in_default c =
    let p = prepare_pass c.loop-i.invariant (omega arith) _ c.at-change.ensures c.in_default.is in
    record { read = p.read; leaves = p.leaves; some = p.some; count = p.count; is = p.is }

pub returns-in-Err-clause-stage : goal.returns-in-Err-clause-stage
returns-in-Err-clause-stage c =
    prepare_stop c.loop-i.invariant (omega arith) _ c.at-change.ensures _ c.in-Some.is _ c.insert.new.self
    (rw c.posting.ensures at c.insert.ensures) _ _ c.not_inserted.new.storage c.in-Err.is c.not_inserted.ensures.stage

pub loop-i-preserved : goal.loop-i-preserved
loop-i-preserved c =
    prepare_clear c.loop-i.invariant (omega arith) _ c.at-change.ensures _ c.in-Some.is _ c.insert.new.self
    (rw c.posting.ensures at c.insert.ensures) c.in_default-insert.is

pub returns-clause-stage : goal.returns-clause-stage
returns-clause-stage c = prepare_end c.loop-i.invariant (omega arith)
