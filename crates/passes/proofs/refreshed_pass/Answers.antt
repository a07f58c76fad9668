use Rattle.std.proofs.Common.{sym, ◌∙◌, arith}
use Rattle.lane_laws.proofs.Cases.{one_error}
use Rattle.passes.proofs.Refreshing.{refreshing_start, refreshing_end, refreshing_outside, refreshing_tried, refreshing_error}
use Rattle.passes.proofs.refreshed_pass.Goals as goal

pub loop-lane-init : goal.loop-lane-init
loop-lane-init c = refreshing_start _ _

pub returns-in_err-compare : goal.returns-in_err-compare
returns-in_err-compare c =
    let inside = sym c.lane_in.ensures ∙ c.if-lane_in.true in
    let k = refreshing_error c.loop-lane.invariant c.loop-lane-test.true c.next_byte.result c.compare.new.attached
    c.compare.result _ inside c.next_byte.ensures.byte c.next_byte.ensures.strip c.compare.ensures c.in_err-compare.was in
    record { said = one_error _ c.from_residual.ensures.0 ∙ k.0; view = k.1; strip = k.2 }

pub loop-lane-preserved-then-lane_in : goal.loop-lane-preserved-then-lane_in
loop-lane-preserved-then-lane_in c =
    let inside = sym c.lane_in.ensures ∙ c.if-lane_in.true in
    refreshing_tried c.loop-lane.invariant c.loop-lane-test.true c.next_byte.result c.compare.new.attached
    c.compare.result _ inside c.next_byte.ensures.byte c.next_byte.ensures.strip c.compare.ensures c.in_ok-compare.field-0 c.in_ok-compare.was

pub loop-lane-preserved : goal.loop-lane-preserved
loop-lane-preserved c =
    refreshing_outside c.loop-lane.invariant c.loop-lane-test.true (sym c.lane_in.ensures ∙ c.if-lane_in.false)

pub returns : goal.returns
returns c =
    let k = refreshing_end c.loop-lane.invariant (omega arith) in
    record { said = k.0; view = k.1; strip = k.2 }
