-- The refusal, or else the pass.
use Rattle.std.proofs.Common.{rules}
use Rattle.lane_rules.specs.Calls.{cached_of}
use Rattle.lane_laws.specs.Ends.{cached_work}
use Rattle.lanes.proofs.Working.{refused, worked, pass_told, pass_failed}
use Rattle.lanes.proofs.cached_answer.Goals as goal

pub returns-in_err-entry_checks : goal.returns-in_err-entry_checks
unfolding cached_of
returns-in_err-entry_checks c =
    refused c.args.view.now _ _ _ _ _ c.entry_checks.ensures c.in_err-entry_checks.was (search rules)

pub returns-in_err-said : goal.returns-in_err-said
unfolding cached_of
returns-in_err-said c =
    let work = cached_work c.args.view.now c.args.strip.now in
    worked _ _ _ _ _ _ c.entry_checks.ensures c.in_ok-entry_checks.was
    (pass_failed c.args.view.now _ work _ _ c.cached_pass-said.ensures.said (rw c.cached_pass-said.ensures.view)
    c.in_err-said.was (search rules))

pub returns : goal.returns
unfolding cached_of
returns c =
    let work = cached_work c.args.view.now c.args.strip.now in
    worked _ _ _ _ _ _ c.entry_checks.ensures c.in_ok-entry_checks.was
    (pass_told c.args.view.now _ work _ _ c.cached_pass-said.ensures.said (rw c.cached_pass-said.ensures.view)
    _ c.in_ok-said.was (search rules))
