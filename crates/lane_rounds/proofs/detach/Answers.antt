-- By what the cached pass says.
use Rattle.std.proofs.Common.{◌≡◌, Err, ◌∙◌, rules}
use Rattle.lane_rules.specs.declared.Failure.{Failure}
use Rattle.lane_laws.proofs.Reading.{detaching_reads}
use Rattle.lane_rounds.proofs.Rounding.{detaching_yes, detaching_no, detaching_error}
use Rattle.lane_rounds.proofs.detach.Goals as goal

pub returns-in_err-cached_pass : goal.returns-in_err-cached_pass
returns-in_err-cached_pass c =
    let k = detaching_error c.args.strip.now.now c.args.lent c.args.view.now _ _ _ c.cached_pass.ensures.said
    c.cached_pass.ensures.view c.cached_pass.ensures.strip c.in_err-cached_pass.was in
    let told : c.from_residual.result ≡ Err (Failure.Offset 0) = search rules in
    record { answer = told ∙ k.0; view = k.1; strip = k.2; few = detaching_reads _ _ _ _ _ }

pub returns-then-branch : goal.returns-then-branch
returns-then-branch c =
    let k = detaching_yes c.args.strip.now.now c.args.lent c.args.view.now _ _ _ c.cached_pass.ensures.said
    c.cached_pass.ensures.view c.cached_pass.ensures.strip (rw (← c.if-branch.true) c.in_ok-cached_pass.was) in
    record { answer = k.0; view = k.1; strip = k.2; few = detaching_reads _ _ _ _ _ }

pub returns : goal.returns
returns c =
    let k = detaching_no c.args.strip.now.now c.args.lent c.args.view.now _ _ _ c.cached_pass.ensures.said
    c.cached_pass.ensures.view c.cached_pass.ensures.strip (rw (← c.if-branch.false) c.in_ok-cached_pass.was)
    _ _ _ (c.rounds_of.ensures.answer, c.rounds_of.ensures.view, c.rounds_of.ensures.strip) in
    record { answer = k.0; view = k.1; strip = k.2; few = detaching_reads _ _ _ _ _ }
