-- The refusal, or else the pass.
use Rattle.std.proofs.Common.{rules}
use Rattle.lane_rules.specs.Calls.{refreshed_of}
use Rattle.lane_laws.specs.Ends.{refreshed_work}
use Rattle.lanes.proofs.Working.{refused, worked, pass_told, pass_failed}
use Rattle.lanes.proofs.refreshed_answer.Goals as goal

pub returns-in_err-refreshed_checks : goal.returns-in_err-refreshed_checks
unfolding refreshed_of
returns-in_err-refreshed_checks c =
    refused c.args.view.now _ _ _ _ _ c.refreshed_checks.ensures c.in_err-refreshed_checks.was (search rules)

pub returns-in_err-refreshed_pass : goal.returns-in_err-refreshed_pass
unfolding refreshed_of
returns-in_err-refreshed_pass c =
    let work = refreshed_work c.args.view.now c.args.strip.now in
    worked _ _ _ _ _ _ c.refreshed_checks.ensures c.in_ok-refreshed_checks.was
    (pass_failed c.args.view.now _ work _ _ c.refreshed_pass.ensures.said c.refreshed_pass.ensures.view
    c.in_err-refreshed_pass.was (search rules))

pub returns : goal.returns
unfolding refreshed_of
returns c =
    let work = refreshed_work c.args.view.now c.args.strip.now in
    worked _ _ _ _ _ _ c.refreshed_checks.ensures c.in_ok-refreshed_checks.was
    (pass_told c.args.view.now _ work _ _ c.refreshed_pass.ensures.said c.refreshed_pass.ensures.view
    _ c.in_ok-refreshed_pass.was (search rules))
