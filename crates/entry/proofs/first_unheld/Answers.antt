-- What is left of the places is walked; where no key is asked for there is none.
use native.Mathlib.Omega.{arith}
use mathlib.Core.Path.{◌≡◌, sym, refl, ◌∙◌}
use Prim.Native.Nat.{◌*◌}
use Rattle.guarding.specs.Asking.{unheld_from}
use Rattle.guarding.proofs.Asking.{unheld_left, unheld_nowhere}
use Rattle.entry.proofs.first_unheld.Goals as goal

pub returns-in_default : goal.returns-in_default
unfolding unheld_from
returns-in_default c = rw c.in_default.ensures refl

pub returns-then-not-is_held : goal.returns-then-not-is_held
returns-then-not-is_held c =
    rw (
      c.in-Some.ensures.1,
      sym c.in-Some.ensures.0,
      sym c.len-places.ensures,
      c.loop-place.invariant,
      unheld_left _ _ _ _ c.loop-place-test.true,
      sym c.wanted_at.ensures,
      sym c.is_held.ensures,
      c.if-not-is_held.true,
    ) refl

pub loop-place-preserved : goal.loop-place-preserved
loop-place-preserved c =
    rw (
      c.loop-place.invariant,
      unheld_left _ _ _ _ c.loop-place-test.true,
      sym c.wanted_at.ensures,
      sym c.is_held.ensures,
      c.if-not-is_held.false,
    ) refl

pub returns : goal.returns
returns c =
    let end : c.loop-place.place ≡ c.len-places.result * 2 = omega arith in
    rw (c.in-Some.ensures.1, sym c.in-Some.ensures.0, sym c.len-places.ensures, c.loop-place.invariant)
    (sym (unheld_nowhere _ _ _ _ c.loop-place-test.false ∙ end))
