use Rattle.std.proofs.Common.{arith, refl, sym, ◌∙◌}
use Rattle.checks.proofs.Numbers.{few_none, few_places, record_all, record_turn, record_more, record_none}
use Rattle.checks.proofs.check_record.Goals as goal

pub loop-place-init : goal.loop-place-init
loop-place-init c = record { few = few_none _ _; left = record_all _ _ }

pub overflow_cast-result : goal.overflow_cast-result
overflow_cast-result c = omega (arith, few_places _ c.loop-place.place _ c.loop-place.invariant.few)

pub returns-then-not-is_new_at : goal.returns-then-not-is_new_at
returns-then-not-is_new_at c =
    sym (c.loop-place.invariant.left ∙ (record_turn _ _ _ (omega arith) ∙ rw (sym c.if-not-is_new_at.ensures) refl))

pub loop-place-preserved : goal.loop-place-preserved
loop-place-preserved c =
    let new = sym c.if-not-is_new_at.ensures in record {
      few = record_more _ _ _ (omega arith) new c.loop-place.invariant.few;
      left = c.loop-place.invariant.left ∙ (record_turn _ _ _ (omega arith) ∙ rw new refl);
    }

pub returns : goal.returns
returns c = sym (c.loop-place.invariant.left ∙ record_none _ _ _ (omega arith))
