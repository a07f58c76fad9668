use Rattle.std.proofs.Common.{sym, ◌∙◌, arith}
use Rattle.lane_laws.proofs.Cases.{one_error}
use Rattle.passes.proofs.Caching.{caching_start, caching_end, caching_outside, caching_yes, caching_no, caching_error}
use Rattle.passes.proofs.cached_pass.Goals as goal

pub loop-lane-init : goal.loop-lane-init
loop-lane-init c = caching_start _ _

pub returns-then-not-lane_in : goal.returns-then-not-lane_in
returns-then-not-lane_in c =
    let k = caching_outside c.loop-lane.invariant c.loop-lane-test.true (sym c.lane_in.ensures ∙ c.if-not-lane_in.true) in
    record { said = k.0; view = k.1; strip = k.2 }

pub returns-in_err-compare : goal.returns-in_err-compare
returns-in_err-compare c =
    let inside = sym c.lane_in.ensures ∙ c.if-not-lane_in.false in
    let k = caching_error c.loop-lane.invariant c.loop-lane-test.true c.next_byte.result c.compare.new.attached
    c.compare.result _ inside c.next_byte.ensures.byte c.next_byte.ensures.strip c.compare.ensures c.in_err-compare.was in
    record { said = one_error _ c.from_residual.ensures.0 ∙ k.0; view = k.1; strip = k.2 }

pub returns-then-not-branch : goal.returns-then-not-branch
returns-then-not-branch c =
    let inside = sym c.lane_in.ensures ∙ c.if-not-lane_in.false in
    let k = caching_no c.loop-lane.invariant c.loop-lane-test.true c.next_byte.result c.compare.new.attached
    c.compare.result _ inside c.next_byte.ensures.byte c.next_byte.ensures.strip c.compare.ensures
    (rw (← c.if-not-branch.true) c.in_ok-compare.was) in
    record { said = k.0; view = k.1; strip = k.2 }

pub loop-lane-preserved : goal.loop-lane-preserved
loop-lane-preserved c =
    let inside = sym c.lane_in.ensures ∙ c.if-not-lane_in.false in
    caching_yes c.loop-lane.invariant c.loop-lane-test.true c.next_byte.result c.compare.new.attached
    c.compare.result _ inside c.next_byte.ensures.byte c.next_byte.ensures.strip c.compare.ensures
    (rw (← c.if-not-branch.false) c.in_ok-compare.was)

pub returns : goal.returns
returns c =
    let k = caching_end c.loop-lane.invariant (omega arith) in
    record { said = k.0; view = k.1; strip = k.2 }
