-- The checks at entry: what upstream requires of a caller is what passes them, and each refusal is given exactly in its place.
use Prim.Native.Nat.{ℕ}
use native.Mathlib.Omega.{arith}
use mathlib.Core.Path.{◌≡◌, refl, subst}
use mathlib.Core.List.{List}
use mathlib.Core.Bool.{Bool, true, false, not, ◌||◌}
use mathlib.Core.Logic.{◌↔◌, ⊎_elim}
use lib.Dec.{eqb}
use Rattle.std.proofs.Common.{Result, Ok, Err}
use borrow.Author.Tests.{eq-eqb, ne_eqb, eqb-true, eqb-false, le-ltb, ltb-false, not-true, not-false}
use Rattle.strips.specs.Strips.{proper_strip}
use Rattle.booleans.proofs.Tests.{by_cases, either, clash, or_left, or_right}
use Rattle.masks.specs.Masks.{most_lanes, Inside}
use Rattle.masks.proofs.Lanes.{below_lanes, lanes_below_lem, within_lane, inside_within}
use Rattle.lane_rules.specs.declared.View.{View}
use Rattle.lane_rules.specs.declared.Done.{Done}
use Rattle.lane_rules.specs.declared.Failure.{Failure}
use Rattle.lane_rules.specs.Calls.{bad_height, bad_view, bad_window, bad_strip, refuse, entry_checks, refreshed_checks, unless_refused}
use Rattle.lane_laws.specs.Clauses.{Valid, is_refusal, Entry, DetachEntry, RefreshedEntry}

-- 20 and 21 pass for a valid view only
pub passes_valid : (v : View) → bad_height v ≡ false → bad_view v ≡ false → Valid v
unfolding bad_height bad_view
passes_valid v h k =
    let none = eqb v.height 0 in
    let unguarded = not (eqb v.guarded 1) in
    let retired = not (eqb v.retired 0) in
    let flags = or_left (unguarded || retired) _ k in
    let some = eqb-false v.height 0 (or_left none _ h) in
    record {
      least = omega arith;
      most = ltb-false most_lanes v.height (or_right none _ h);
      guard = eqb-true _ 1 (not-false _ (or_left unguarded retired flags));
      unretired = eqb-true _ 0 (not-false _ (or_right unguarded retired flags));
      below = λ lane. below_lanes _ _ lane (eqb-true _ _ (not-false _ (or_right (unguarded || retired) _ k)));
    }

-- and for a valid view they do
pub valid_passes : (v : View) → Valid v → (bad_height v ≡ false) × (bad_view v ≡ false)
unfolding bad_height bad_view
valid_passes v r =
    let some = r.least in
    let below = lanes_below_lem v.attached v.height r.below in (
      rw (ne_eqb v.height 0 (λ e. omega arith), le-ltb most_lanes v.height r.most),
      rw (eq-eqb v.guarded 1 r.guard, eq-eqb v.retired 0 r.unretired, eq-eqb _ _ below),
    )

-- 22 then passes only where every attached lane is in the window
pub passes_inside : (v : View) → Valid v → bad_window v ≡ false → Inside v.attached v.window
unfolding bad_window
passes_inside v r h lane i =
    let low = r.below lane i in
    let most = r.most in
    within_lane v.attached v.window lane (not-false _ h) (omega arith) i

-- and there it does
pub inside_passes : (v : View) → Inside v.attached v.window → bad_window v ≡ false
unfolding bad_window
inside_passes v i = rw (inside_within v.attached v.window i)

-- the checks at entry in their order, with any test of the window, so that one law serves the three calls
module _ (v : View) (strip : List ℕ) (Asked : Type 0) (bad : Bool)
    (asked : Valid v → bad ≡ false → Asked) (good : Asked → bad ≡ false) where
  -- all of them
  abbrev checks : Result Unit Failure
  checks =
      refuse (bad_height v) Failure.Height
      (refuse (bad_view v) Failure.View (refuse bad Failure.Window (refuse (bad_strip strip) Failure.Strip (Ok tt))))

  -- what they may find
  abbrev Found : Result Unit Failure → Type 0
  Found = Entry v Asked strip

  -- what they find
  found : Found checks
  unfolding bad_strip
  found =
      by_cases Found (bad_height v)
      (λ h. Entry.height h)
      (λ h. by_cases Found (bad_view v)
      (λ k. Entry.view h k)
      (λ k.
      let r = passes_valid v h k in
      by_cases Found bad
      (λ b. Entry.window r (λ a. clash bad b (good a)))
      (λ b. by_cases Found (not (proper_strip strip))
      (λ s. Entry.bytes r (asked r b) (not-true _ s))
      (λ s. Entry.passes r (asked r b) (not-false _ s)))))

  -- a window that is not as asked fails the test
  fails : Valid v → (Asked → ⊥) → bad ≡ true
  fails r n = ⊎_elim (λ b. b) (λ b. absurd (n (asked r b))) (either bad)

  -- what can be found is what they find
  placed : (w : Result Unit Failure) → Found w → checks ≡ w
  unfolding bad_strip
  placed w (Entry.height h) = rw h
  placed w (Entry.view h k) = rw (h, k)
  placed w (Entry.window r n) = rw ((valid_passes v r).0, (valid_passes v r).1, fails r n)
  placed w (Entry.bytes r a s) = rw ((valid_passes v r).0, (valid_passes v r).1, good a, s)
  placed w (Entry.passes r a s) = rw ((valid_passes v r).0, (valid_passes v r).1, good a, s)

  -- so each verdict has its place
  entry : (w : Result Unit Failure) → (checks ≡ w) ↔ Found w
  entry w = (λ e. subst Found e found, placed w)

  -- what holds of each refusal, and of the work where all is as asked, holds of the outcome
  by_entry :
      (P : Done → Type 0) (work : Done) →
      ((a : Failure) → is_refusal (Err a) ≡ true → P (record { answer = Err a; view = v })) →
      (Valid v → Asked → P work) → P (unless_refused checks v work)
  by_entry P work refused f = go checks found
    where
      go : (w : Result Unit Failure) → Found w → P (unless_refused w v work)
      go w (Entry.height h) = refused Failure.Height refl
      go w (Entry.view h k) = refused Failure.View refl
      go w (Entry.window r n) = refused Failure.Window refl
      go w (Entry.bytes r a s) = refused Failure.Strip refl
      go w (Entry.passes r a s) = f r a

-- a passed entry, taken apart
entry_passed :
    (v : View) (Asked : Type 0) (strip : List ℕ) → Entry v Asked strip (Ok tt) →
    Valid v × Asked × (proper_strip strip ≡ true)
entry_passed v Asked strip (Entry.passes r a s) = (r, a, s)

module _ (v : View) (strip : List ℕ) where
  -- each verdict of the cached pass and of detach, exactly in its place
  pub detach_entry : (w : Result Unit Failure) → (entry_checks v strip ≡ w) ↔ DetachEntry v strip w
  unfolding entry_checks
  detach_entry w = entry v strip (Unit {0}) false (λ r e. tt) (λ a. refl) w

  -- their checks pass exactly for a valid view and a proper strip
  pub detach_passes : (entry_checks v strip ≡ Ok tt) ↔ (Valid v × (proper_strip strip ≡ true))
  detach_passes =
      let e = detach_entry (Ok tt) in (
        λ h. let p = entry_passed v (Unit {0}) strip (e.0 h) in (p.0, p.2),
        λ p. e.1 (Entry.passes p.0 tt p.1),
      )

  -- what holds of each refusal, and of the work on a valid view, holds of the outcome
  pub detach_cases :
      (P : Done → Type 0) (work : Done) →
      ((a : Failure) → is_refusal (Err a) ≡ true → P (record { answer = Err a; view = v })) →
      (Valid v → P work) → P (unless_refused (entry_checks v strip) v work)
  unfolding entry_checks
  detach_cases P work refused f = by_entry v strip (Unit {0}) false (λ r e. tt) (λ a. refl) P work refused (λ r a. f r)

  -- each verdict of the refreshed pass, exactly in its place
  pub refreshed_entry : (w : Result Unit Failure) → (refreshed_checks v strip ≡ w) ↔ RefreshedEntry v strip w
  unfolding refreshed_checks
  refreshed_entry w = entry v strip (Inside v.attached v.window) (bad_window v) (passes_inside v) (inside_passes v) w

  -- its checks pass exactly where, besides, every attached lane is in the window
  pub refreshed_passes :
      (refreshed_checks v strip ≡ Ok tt) ↔ (Valid v × Inside v.attached v.window × (proper_strip strip ≡ true))
  refreshed_passes =
      let e = refreshed_entry (Ok tt) in (
        λ h. entry_passed v (Inside v.attached v.window) strip (e.0 h),
        λ p. e.1 (Entry.passes p.0 p.1 p.2),
      )

  -- the same of the refreshed pass
  pub refreshed_cases :
      (P : Done → Type 0) (work : Done) →
      ((a : Failure) → is_refusal (Err a) ≡ true → P (record { answer = Err a; view = v })) →
      (Valid v → Inside v.attached v.window → P work) → P (unless_refused (refreshed_checks v strip) v work)
  unfolding refreshed_checks
  refreshed_cases P work refused f =
      by_entry v strip (Inside v.attached v.window) (bad_window v) (passes_inside v) (inside_passes v) P work refused f
