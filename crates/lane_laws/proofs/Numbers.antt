-- Which numbers each call answers with, whatever comes in.
use Prim.Native.Nat.{ℕ}
use mathlib.Core.Path.{◌≡◌, refl}
use mathlib.Core.List.{List}
use mathlib.Core.Bool.{true}
use Rattle.lent_lists.specs.Among.{among}
use Rattle.lane_rules.specs.declared.View.{View}
use Rattle.lane_rules.specs.declared.Done.{Done}
use Rattle.lane_rules.specs.declared.Failure.{Failure}
use Rattle.lane_rules.specs.Passes.{Pass}
use Rattle.lane_rules.specs.Answers.{told_of}
use Rattle.lane_rules.specs.Calls.{entry_checks, refreshed_checks, unless_refused, passed, cached_of, refreshed_of, detach_of}
use Rattle.lane_laws.specs.Clauses.{Valid, Entry, DetachEntry, RefreshedEntry}
use Rattle.lane_laws.specs.Ends.{cached_work, refreshed_work, Ends, yes, error, spent}
use Rattle.lane_laws.specs.Ends.{cached_numbers, refreshed_numbers, detach_numbers}
use Rattle.lane_laws.proofs.Cases.{by_said_lem}
use Rattle.lane_laws.proofs.Entry.{detach_entry, refreshed_entry}
use Rattle.lane_laws.proofs.Exactly.{detaching_ends}
use Rattle.std.proofs.Common.{Result}

-- the number that a call answers with
abbrev number : Done → ℕ
number o = (told_of o.answer).answer

module _ (v : View) (strip : List ℕ) (P : ℕ → Type 0) (work : Done) where
  -- a call with the checks of the cached pass and of detach answers with 20, 21, 23, or as its work does
  detach_number :
      P 20 → P 21 → P 23 → (Valid v → P (number work)) → P (number (unless_refused (entry_checks v strip) v work))
  detach_number height view bytes f = go (entry_checks v strip) ((detach_entry v strip (entry_checks v strip)).0 refl)
    where
      go : (c : Result Unit Failure) → DetachEntry v strip c → P (number (unless_refused c v work))
      go c (Entry.height h) = height
      go c (Entry.view h k) = view
      go c (Entry.window r n) = absurd (n tt)
      go c (Entry.bytes r a s) = bytes
      go c (Entry.passes r a s) = f r

  -- one with those of the refreshed pass with 22 too
  refreshed_number :
      P 20 → P 21 → P 22 → P 23 → P (number work) → P (number (unless_refused (refreshed_checks v strip) v work))
  refreshed_number height view window bytes f =
      go (refreshed_checks v strip) ((refreshed_entry v strip (refreshed_checks v strip)).0 refl)
    where
      go : (c : Result Unit Failure) → RefreshedEntry v strip c → P (number (unless_refused c v work))
      go c (Entry.height h) = height
      go c (Entry.view h k) = view
      go c (Entry.window r n) = window
      go c (Entry.bytes r a s) = bytes
      go c (Entry.passes r a s) = f

-- a pass that was made answers with 0 or 24
pass_number : (P : ℕ → Type 0) (v : View) (p : Pass) → P 0 → P 24 → P (number (passed v p))
pass_number P v p zero offset =
    by_said_lem (λ (a : Result ℕ Failure). P (told_of a).answer) p.said (λ e. zero) (λ e. zero) (λ e. offset)

-- a detach that was made with 0, 24 or 25
ends_number :
    (P : ℕ → Type 0) {strip : List ℕ} {lent from attached read : ℕ} {a : Result ℕ Failure} →
    Ends strip lent from attached read a →
    P 0 → P 24 → P 25 → P (told_of a).answer
ends_number P (yes n k e c) zero offset budget = zero
ends_number P (error n k f) zero offset budget = offset
ends_number P (spent c) zero offset budget = budget

-- the number is among these
abbrev In : List ℕ → ℕ → Type 0
In numbers n = among n numbers ≡ true

module _ (v : View) (strip : List ℕ) where
  -- a cached pass answers with 0, 20, 21, 23 or 24
  pub cached_numbers_lem : among (told_of (cached_of v strip).answer).answer cached_numbers ≡ true
  unfolding cached_of among
  cached_numbers_lem =
      detach_number v strip (In cached_numbers) _ refl refl refl
      (λ r. pass_number (In cached_numbers) v (cached_work v strip) refl refl)

  -- a refreshed pass with 0 or 20 to 24
  pub refreshed_numbers_lem : among (told_of (refreshed_of v strip).answer).answer refreshed_numbers ≡ true
  unfolding refreshed_of among
  refreshed_numbers_lem =
      refreshed_number v strip (In refreshed_numbers) _ refl refl refl refl
      (pass_number (In refreshed_numbers) v (refreshed_work v strip) refl refl)

  -- a detach with 0, 20, 21, 23, 24 or 25
  pub detach_numbers_lem : (lent : ℕ) → among (told_of (detach_of v strip lent).answer).answer detach_numbers ≡ true
  unfolding detach_of among
  detach_numbers_lem lent =
      detach_number v strip (In detach_numbers) _ refl refl refl
      (λ r.
      ends_number (In detach_numbers) (detaching_ends strip v.height lent v.attached v.window r.below) refl refl refl)
