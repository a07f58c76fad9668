-- The refusal, or else the passes and rounds.
use Rattle.std.proofs.Common.{rules}
use Rattle.lane_rules.specs.Calls.{detach_of}
use Rattle.lane_laws.specs.Ends.{detach_work}
use Rattle.lanes.proofs.Working.{refused, worked, detach_told, detach_failed}
use Rattle.lanes.proofs.detach_answer.Goals as goal

pub returns-in_err-entry_checks : goal.returns-in_err-entry_checks
unfolding detach_of
returns-in_err-entry_checks c =
    refused c.args.view.now _ _ _ _ _ c.entry_checks.ensures c.in_err-entry_checks.was (search rules)

pub returns-in_err-made : goal.returns-in_err-made
unfolding detach_of
returns-in_err-made c =
    let work = detach_work c.args.view.now c.args.strip.now c.args.rounds in
    worked _ _ _ _ _ _ c.entry_checks.ensures c.in_ok-entry_checks.was
    (detach_failed c.args.view.now _ work _ c.detach.ensures.answer c.detach.ensures.view
    _ _ c.in_err-made.was (search rules))

pub returns : goal.returns
unfolding detach_of
returns c =
    let work = detach_work c.args.view.now c.args.strip.now c.args.rounds in
    worked _ _ _ _ _ _ c.entry_checks.ensures c.in_ok-entry_checks.was
    (detach_told c.args.view.now _ work _ c.detach.ensures.answer c.detach.ensures.view _ c.in_ok-made.was)
