use native.Mathlib.Omega.{arith}
use mathlib.Core.Path.{sym, ap, ◌∙◌}
use Rattle.rules.specs.Orders.{source_of}
use Rattle.steps_sources.proofs.Removals.{remove_pass, remove_clear, remove_stop, remove_end}
use Rattle.steps_sources.proofs.remove_sources.Goals as goal

pub loop-number-preserved-in_default : goal.loop-number-preserved-in_default
loop-number-preserved-in_default c =
    remove_pass c.loop-number.invariant (omega arith) (ap source_of (sym c.at-change.ensures) ∙ c.in_default.is)

pub returns-in-Err-clause-stage : goal.returns-in-Err-clause-stage
returns-in-Err-clause-stage c =
    remove_stop c.loop-number.invariant (omega arith) _ (ap source_of (sym c.at-change.ensures) ∙ c.in-Some.is)
    c.remove.new.self c.remove.result (rw (c.posting.ensures, c.at-change.ensures) at c.remove.ensures) _ c.in-Err.is

pub loop-number-preserved : goal.loop-number-preserved
loop-number-preserved c =
    remove_clear c.loop-number.invariant (omega arith) _ (ap source_of (sym c.at-change.ensures) ∙ c.in-Some.is)
    c.remove.new.self c.remove.result (rw (c.posting.ensures, c.at-change.ensures) at c.remove.ensures) _ c.in-Ok.is

pub returns-clause-stage : goal.returns-clause-stage
returns-clause-stage c = remove_end c.loop-number.invariant (omega arith)
