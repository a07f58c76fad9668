-- A refresh, and a pass unless it failed.
use Rattle.std.proofs.Common.{◌∙◌}
use Rattle.lane_laws.proofs.Cases.{one_error}
use Rattle.lane_rounds.proofs.Rounding.{round_failed, round_passed}
use Rattle.lane_rounds.proofs.round_of.Goals as goal

pub returns-in_err-refresh : goal.returns-in_err-refresh
returns-in_err-refresh c =
    let k = round_failed c.args.strip.now.now _ c.args.view.now _ _ _ c.next_byte.ensures.byte c.next_byte.ensures.strip
    c.refresh.ensures.said c.refresh.ensures.view c.in_err-refresh.was in
    record { said = one_error _ c.from_residual.ensures.0 ∙ k.0; view = k.1; strip = k.2 }

pub returns : goal.returns
returns c =
    let k = round_passed c.args.strip.now.now _ c.args.view.now _ _ _ c.next_byte.ensures.byte c.next_byte.ensures.strip
    c.refresh.ensures.said c.refresh.ensures.view _ _ _ _ c.in_ok-refresh.was
    c.refreshed_pass.ensures.said c.refreshed_pass.ensures.view c.refreshed_pass.ensures.strip in
    record { said = k.0; view = k.1; strip = k.2 }
