-- Where a pass says yes: the cached pass exactly where it can clear every lane, the refreshed pass exactly where there is none
-- to try.
use Prim.Native.Nat.{ℕ, zero, suc, ◌+◌}
use native.Mathlib.Omega.{arith}
use mathlib.Core.Path.{◌≡◌, refl, ◌∙◌}
use mathlib.Core.List.{List}
use mathlib.Core.Bool.{true, Bool}
use mathlib.Core.Logic.{◌↔◌, ⊎_elim}
use lib.Dec.{eqb}
use Rattle.std.proofs.Common.{Result, Ok}
use borrow.Author.Tests.{eqb-true, eqb-false}
use Rattle.strips.specs.Strips.{byte_at}
use Rattle.booleans.proofs.Tests.{by_cases, either}
use Rattle.masks.specs.Masks.{lane_in, cleared, Inside}
use Rattle.masks.proofs.Lanes.{cleared_other}
use Rattle.lane_rules.specs.declared.View.{View}
use Rattle.lane_rules.specs.declared.ErrorByte.{ErrorByte}
use Rattle.lane_rules.specs.Steps.{compared}
use Rattle.lane_rules.specs.Passes.{cached_pass, Pass}
use Rattle.lane_rules.specs.Calls.{entry_checks, refreshed_checks, cached_of, refreshed_of}
use Rattle.lane_laws.specs.Clauses.{NoneBelow, Says}
use Rattle.lane_laws.specs.Ends.{cached_work, refreshed_work, AllCleared}
use Rattle.lane_laws.proofs.Cases.{by_said_lem, no_not_yes, error_not_yes, yes_told}
use Rattle.lane_laws.proofs.Reading.{begun}
use Rattle.lane_laws.proofs.Frames.{each_next, compare_leaves, refreshed_leaves}
use Rattle.lane_laws.proofs.Sweep.{nothing_tried}

-- a yes of a compare came at byte 0 on an attached lane
pub said_yes :
    (byte lane attached : ℕ) {s : Result Bool ErrorByte} → Says byte lane attached s → s ≡ Ok true →
    (byte ≡ 0) × (lane_in attached lane ≡ true)
said_yes byte lane attached (Says.clears b i) e = (b, i)
said_yes byte lane attached (Says.absent b i) e = absurd (no_not_yes e)
said_yes byte lane attached (Says.keeps b) e = absurd (no_not_yes e)
said_yes byte lane attached (Says.fails b) e = absurd (error_not_yes e)

module _ (strip : List ℕ) (window : ℕ) where
  -- one lane more, where those below it are cleared after it
  cleared_next :
      (lane attached left read : ℕ) → lane_in window lane ≡ true → (byte_at strip read ≡ 0) × (lane_in attached lane ≡ true) →
      Inside left attached → AllCleared strip window left (read + 1) lane → AllCleared strip window attached read (suc lane)
  cleared_next lane attached left read w b i z =
      record {
        in_window = each_next (λ other. lane_in window other ≡ true) lane w z.in_window;
        is_attached = each_next (λ other. lane_in attached other ≡ true) lane b.1 (λ other l. i other (z.is_attached other l));
        zeros = λ at k l.
            ⊎_elim (λ t. rw (eqb-true at read t) b.0)
            (λ f. let n = eqb-false at read f in z.zeros at (omega arith) (omega arith))
            (either (eqb at read));
      }

  -- after a yes of the cached pass every lane was cleared
  yes_cleared :
      (height attached read : ℕ) → (cached_pass strip height window attached read).said ≡ Ok true →
      AllCleared strip window attached read height
  unfolding cached_pass
  yes_cleared zero attached read =
      λ y.
      record {
        in_window = λ l h. absurd (omega arith);
        is_attached = λ l h. absurd (omega arith);
        zeros = λ i h k. absurd (omega arith);
      }
  yes_cleared (suc lane) attached read =
      let c = compared (byte_at strip read) lane attached in
      let leaves = compare_leaves (byte_at strip read) lane attached in
      let P : Pass → Type 0 = λ p. p.said ≡ Ok true → AllCleared strip window attached read (suc lane) in
      by_cases P (lane_in window lane)
      (λ w. by_said_lem P c.said
      (λ s y. cleared_next lane attached c.attached read w (said_yes _ lane attached leaves.says s) leaves.inside
      (yes_cleared lane c.attached (read + 1) y))
      (λ s y. absurd (no_not_yes y))
      (λ s y. absurd (error_not_yes y)))
      (λ w y. absurd (no_not_yes y))

  -- and where every lane can be, it says yes
  cleared_yes :
      (height attached read : ℕ) → AllCleared strip window attached read height →
      (cached_pass strip height window attached read).said ≡ Ok true
  unfolding cached_pass compared
  cleared_yes zero attached read z = refl
  cleared_yes (suc lane) attached read z =
      rw (z.in_window lane (omega arith), z.zeros read (omega arith) (omega arith), z.is_attached lane (omega arith))
      (cleared_yes lane (cleared attached lane) (read + 1) record {
        in_window = λ l h. z.in_window l (omega arith);
        is_attached = λ l h. cleared_other attached lane l (λ e. omega arith) ∙ z.is_attached l (omega arith);
        zeros = λ i h k. z.zeros i (omega arith) (omega arith);
      })

module _ (v : View) (strip : List ℕ) where
  -- the cached pass tells 1 exactly where every lane is in the window and attached, and every byte that it reads is 0
  pub cached_yes_exactly :
      entry_checks v strip ≡ Ok tt →
      ((cached_of v strip).answer ≡ Ok 1) ↔ AllCleared strip v.window v.attached 0 v.height
  unfolding cached_of
  cached_yes_exactly h = (
    λ e. yes_cleared strip v.window v.height v.attached 0 (yes_told (cached_work v strip).said (rw h at e)),
    λ z. rw (h, cleared_yes strip v.window v.height v.attached 0 z),
  )

  -- the refreshed pass tells 1 exactly where no lane below the height is in the window
  pub refreshed_yes_exactly :
      refreshed_checks v strip ≡ Ok tt →
      ((refreshed_of v strip).answer ≡ Ok 1) ↔ NoneBelow v.window v.height
  unfolding refreshed_of
  refreshed_yes_exactly h = (
    λ e.
        ((refreshed_leaves strip v.window v.height (begun v.attached 0)).yes
        (yes_told (refreshed_work v strip).said (rw h at e))).1,
    λ none. rw (h, nothing_tried strip v.window v.height (begun v.attached 0) none refl),
  )
