use Rattle.std.proofs.Common.{◌≡◌, Err, ◌-◌, ◌∙◌, arith, rules}
use Rattle.lane_rules.specs.declared.Failure.{Failure}
use Rattle.lane_laws.proofs.Cases.{one_error}
use Rattle.lane_rounds.proofs.Rounding.{was_ok, rounding_start, rounding_end, rounding_yes, rounding_error, rounding_no}
use Rattle.lane_rounds.proofs.rounds_of.Goals as goal

pub loop-left-init : goal.loop-left-init
loop-left-init c = rounding_start _ _ _

pub returns-in_err-map_err : goal.returns-in_err-map_err
returns-in_err-map_err c =
    let round = c.round_of.ensures in
    let k = rounding_error c.loop-left.invariant _ _ c.round_of.result c.loop-left-test.true
    (round.said, round.view, round.strip) (one_error _ (search rules)) in
    let told : c.from_residual.result ≡ Err (Failure.Offset (c.args.lent - (c.loop-left.left - 1))) = search rules in
    record { answer = told ∙ k.0; view = k.1; strip = k.2 }

pub returns-then-branch : goal.returns-then-branch
returns-then-branch c =
    let round = c.round_of.ensures in
    let said = was_ok c.round_of.result c.map_err.result _ _ c.map_err.ensures.cases c.in_ok-map_err.was in
    let k = rounding_yes c.loop-left.invariant _ _ c.round_of.result c.loop-left-test.true
    (round.said, round.view, round.strip) (rw (← c.if-branch.true) said) in
    record { answer = k.0; view = k.1; strip = k.2 }

pub loop-left-preserved : goal.loop-left-preserved
loop-left-preserved c =
    let round = c.round_of.ensures in
    let said = was_ok c.round_of.result c.map_err.result _ _ c.map_err.ensures.cases c.in_ok-map_err.was in
    rounding_no c.loop-left.invariant _ _ c.round_of.result c.loop-left-test.true
    (round.said, round.view, round.strip) (rw (← c.if-branch.false) said)

pub returns : goal.returns
returns c =
    let k = rounding_end c.loop-left.invariant (omega arith) in
    record { answer = k.0; view = k.1; strip = k.2 }
