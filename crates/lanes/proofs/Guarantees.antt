-- What holds of every result of a lane call, by its promise alone: each answer exactly where its condition holds, the numbers that
-- a call answers with, liveness, the rounds told, what becomes of the window, and upstream's clauses.
use Prim.Native.Nat.{ℕ, ◌+◌, ◌/◌, ◌≤◌, ◌<◌}
use mathlib.Core.Path.{◌≡◌, refl, sym, subst, ◌∙◌}
use mathlib.Core.List.{List}
use mathlib.Core.Bool.{true}
use mathlib.Core.Logic.{◌↔◌}
use lib.ListN.{length}
use Rattle.std.proofs.Common.{Result, Ok, Err}
use Rattle.strips.specs.Strips.{most_bytes, byte_at}
use Rattle.lent_lists.specs.Among.{among}
use Rattle.lane_rules.specs.declared.View.{View}
use Rattle.lane_rules.specs.declared.Done.{Done}
use Rattle.lane_rules.specs.declared.Failure.{Failure}
use Rattle.lane_rules.specs.Answers.{told_of, is_accepted}
use Rattle.lane_rules.specs.Calls.{entry_checks, refreshed_checks, cached_of, refreshed_of, detach_of}
use Rattle.lane_laws.specs.Clauses.{NoneBelow, PassClauses, RefreshedClauses, DetachClauses}
use Rattle.lane_laws.specs.Ends.{detach_work, NoErrors, Clean, AllCleared, SomeNo, SomeError, lanes_tried, MetNoError, HadRounds}
use Rattle.lane_laws.specs.Ends.{Retired, rounds_needed, cached_numbers, refreshed_numbers, detach_numbers}
use Rattle.lane_laws.specs.Places.{CachedAnswers, RefreshedAnswers, DetachAnswers}
use Rattle.lane_laws.specs.Windows.{with_window, AlikeBelow, SameButWindow, SetsWindow}
use Rattle.lane_laws.proofs.Exactly as exactly
use Rattle.lane_laws.proofs.Yes as yes
use Rattle.lane_laws.proofs.No as no
use Rattle.lane_laws.proofs.Numbers as numbers
use Rattle.lane_laws.proofs.Live as live
use Rattle.lane_laws.proofs.Slow as slow
use Rattle.lane_laws.proofs.Places as places
use Rattle.lane_laws.proofs.Windows as windows
use Rattle.lane_laws.proofs.Upstream as upstream
use Rattle.lanes.specs.Promises.{CachedPromise, RefreshedPromise, DetachPromise}
use Rattle.lanes.proofs.Outcomes.{seen_injective}

module _ (v : View) (strip : List ℕ) (r : Done) (p : CachedPromise v strip r) where
  -- what holds of the rules' own result holds of this one
  cached_so : (P : Done → Type 0) → P (cached_of v strip) → P r
  cached_so P h = subst P (sym (seen_injective r (cached_of v strip) p)) h

  -- upstream's clauses of the cached pass
  pub cached_clauses : PassClauses v r
  cached_clauses = cached_so (PassClauses v) (upstream.cached_clauses v strip)

  -- each of its answers exactly in its place
  pub cached_exactly : (a : Result ℕ Failure) → (r.answer ≡ a) ↔ CachedAnswers v strip a
  cached_exactly a = cached_so (λ (o : Done). (o.answer ≡ a) ↔ CachedAnswers v strip a) (places.cached_exactly v strip a)

  -- it answers with 0, 20, 21, 23 or 24
  pub cached_numbers_lem : among (told_of r.answer).answer cached_numbers ≡ true
  cached_numbers_lem =
      cached_so (λ (o : Done). among (told_of o.answer).answer cached_numbers ≡ true) (numbers.cached_numbers_lem v strip)

  -- it tells 1 exactly where every lane is in the window and attached, and every byte that it reads is 0
  pub cached_yes_exactly :
      entry_checks v strip ≡ Ok tt →
      (r.answer ≡ Ok 1) ↔ AllCleared strip v.window v.attached 0 v.height
  cached_yes_exactly c =
      cached_so (λ (o : Done). (o.answer ≡ Ok 1) ↔ AllCleared strip v.window v.attached 0 v.height)
      (yes.cached_yes_exactly v strip c)

  -- it tells 0 exactly where it comes to a lane that is outside the window, or has byte 1, or has byte 0 and is not attached
  pub cached_no_exactly :
      entry_checks v strip ≡ Ok tt →
      (r.answer ≡ Ok 0) ↔ SomeNo strip v.window v.attached 0 v.height
  cached_no_exactly c =
      cached_so (λ (o : Done). (o.answer ≡ Ok 0) ↔ SomeNo strip v.window v.attached 0 v.height)
      (no.cached_no_exactly v strip c)

  -- it is 24 exactly where it comes to a lane of the window whose byte is an error
  pub cached_offset_exactly :
      entry_checks v strip ≡ Ok tt →
      (r.answer ≡ Err (Failure.Offset 0)) ↔ SomeError strip v.window v.attached 0 v.height
  cached_offset_exactly c =
      cached_so (λ (o : Done). (o.answer ≡ Err (Failure.Offset 0)) ↔ SomeError strip v.window v.attached 0 v.height)
      (no.cached_offset_exactly v strip c)

module _ (v : View) (strip : List ℕ) (r : Done) (p : RefreshedPromise v strip r) where
  -- the same of the refreshed pass
  refreshed_so : (P : Done → Type 0) → P (refreshed_of v strip) → P r
  refreshed_so P h = subst P (sym (seen_injective r (refreshed_of v strip) p)) h

  -- upstream's clauses of the refreshed pass
  pub refreshed_clauses : RefreshedClauses v r
  refreshed_clauses = refreshed_so (RefreshedClauses v) (upstream.refreshed_clauses v strip)

  -- each of its answers exactly in its place
  pub refreshed_exactly : (a : Result ℕ Failure) → (r.answer ≡ a) ↔ RefreshedAnswers v strip a
  refreshed_exactly a =
      refreshed_so (λ (o : Done). (o.answer ≡ a) ↔ RefreshedAnswers v strip a) (places.refreshed_exactly v strip a)

  -- it answers with 0 or 20 to 24
  pub refreshed_numbers_lem : among (told_of r.answer).answer refreshed_numbers ≡ true
  refreshed_numbers_lem =
      refreshed_so (λ (o : Done). among (told_of o.answer).answer refreshed_numbers ≡ true) (numbers.refreshed_numbers_lem v strip)

  -- it tells 1 exactly where no lane below the height is in the window
  pub refreshed_yes_exactly :
      refreshed_checks v strip ≡ Ok tt →
      (r.answer ≡ Ok 1) ↔ NoneBelow v.window v.height
  refreshed_yes_exactly c =
      refreshed_so (λ (o : Done). (o.answer ≡ Ok 1) ↔ NoneBelow v.window v.height)
      (yes.refreshed_yes_exactly v strip c)

  -- it tells 0 exactly where some lane below the height is in the window, and of the strip's first bytes, one to each such lane,
  -- none is an error
  pub refreshed_no_exactly :
      refreshed_checks v strip ≡ Ok tt →
      (r.answer ≡ Ok 0)
      ↔ ((0 < lanes_tried v.window v.height) × Clean strip 0 (lanes_tried v.window v.height))
  refreshed_no_exactly c =
      refreshed_so
      (λ (o : Done). (o.answer ≡ Ok 0)
      ↔ ((0 < lanes_tried v.window v.height) × Clean strip 0 (lanes_tried v.window v.height)))
      (no.refreshed_no_exactly v strip c)

  -- it is 24 exactly where one of those bytes is an error
  pub refreshed_offset_exactly :
      refreshed_checks v strip ≡ Ok tt →
      (r.answer ≡ Err (Failure.Offset 0)) ↔ ((i : ℕ) × (i < lanes_tried v.window v.height) × (1 < byte_at strip i))
  refreshed_offset_exactly c =
      refreshed_so
      (λ (o : Done). (o.answer ≡ Err (Failure.Offset 0))
      ↔ ((i : ℕ) × (i < lanes_tried v.window v.height) × (1 < byte_at strip i)))
      (no.refreshed_offset_exactly v strip c)

module _ (v : View) (strip : List ℕ) (lent : ℕ) (r : Done) (p : DetachPromise v strip lent r) where
  is : r ≡ detach_of v strip lent
  is = seen_injective r (detach_of v strip lent) p

  -- what holds of the rules' own result holds of this one
  so : (P : Done → Type 0) → P (detach_of v strip lent) → P r
  so P h = subst P (sym is) h

  -- upstream's clauses of detach
  pub detach_clauses : DetachClauses v r
  detach_clauses = so (λ (o : Done). DetachClauses v o) (upstream.detach_clauses v strip lent)

  -- a detach not refused at entry that meets no storage error, with two rounds more than half its strip's bytes, ends retired
  pub detach_live :
      entry_checks v strip ≡ Ok tt → length strip / 2 + 2 ≤ lent → MetNoError r.answer → Retired r
  detach_live c h = so (λ (o : Done). MetNoError o.answer → Retired o) (live.detach_live v strip lent c h)

  -- the customer's own: two rounds more than its strip has bytes
  pub detach_retires :
      entry_checks v strip ≡ Ok tt → length strip + 2 ≤ lent → MetNoError r.answer → Retired r
  detach_retires c h = so (λ (o : Done). MetNoError o.answer → Retired o) (live.detach_retires v strip lent c h)

  -- nothing is asked of the answer where the strip has no error byte
  pub no_errors_retire : entry_checks v strip ≡ Ok tt → length strip / 2 + 2 ≤ lent → NoErrors strip → Retired r
  no_errors_retire c h n = so Retired (live.no_errors_retire v strip lent c h n)

  -- however many rounds are lent, few are made
  pub few_rounds : (told_of r.answer).value ≤ length strip / 2 + 2
  few_rounds = so (λ (o : Done). (told_of o.answer).value ≤ length strip / 2 + 2) (live.few_rounds v strip lent)

  -- 25 tells the rounds lent, which were too few
  pub out_of_rounds : (n : ℕ) → r.answer ≡ Err (Failure.Budget n) → (n ≡ lent) × (lent < length strip / 2 + 2)
  out_of_rounds n =
      so (λ (o : Done). o.answer ≡ Err (Failure.Budget n) → (n ≡ lent) × (lent < length strip / 2 + 2))
      (live.out_of_rounds v strip lent n)

  -- 25 exactly where fewer rounds were lent than the detach needs
  pub budget_exactly : ((n : ℕ) × (r.answer ≡ Err (Failure.Budget n))) ↔ (lent < rounds_needed v strip)
  budget_exactly =
      so (λ (o : Done). ((n : ℕ) × (o.answer ≡ Err (Failure.Budget n))) ↔ (lent < rounds_needed v strip))
      (live.budget_exactly v strip lent)

  -- each of its answers exactly in its place
  pub detach_exactly : (a : Result ℕ Failure) → (r.answer ≡ a) ↔ DetachAnswers v strip lent a
  detach_exactly a = so (λ (o : Done). (o.answer ≡ a) ↔ DetachAnswers v strip lent a) (places.detach_exactly v strip lent a)

  -- it answers with 0, 20, 21, 23, 24 or 25
  pub detach_numbers_lem : among (told_of r.answer).answer detach_numbers ≡ true
  detach_numbers_lem = so (λ (o : Done). among (told_of o.answer).answer detach_numbers ≡ true) (numbers.detach_numbers_lem v strip lent)

  -- 24 exactly where an error byte was read
  pub offset_exactly :
      entry_checks v strip ≡ Ok tt →
      ((n : ℕ) × (r.answer ≡ Err (Failure.Offset n)))
      ↔ ((i : ℕ) × (i < (detach_work v strip lent).read) × (1 < byte_at strip i))
  offset_exactly c =
      so
      (λ (o : Done). ((n : ℕ) × (o.answer ≡ Err (Failure.Offset n)))
      ↔ ((i : ℕ) × (i < (detach_work v strip lent).read) × (1 < byte_at strip i)))
      (exactly.offset_exactly v strip lent c)

  -- accepted exactly where no check applies, no byte that it reads is an error, and as many rounds are lent as it needs
  pub detach_accepted_exactly :
      (is_accepted r.answer ≡ true)
      ↔ ((entry_checks v strip ≡ Ok tt) × Clean strip 0 (detach_work v strip lent).read × (rounds_needed v strip ≤ lent))
  detach_accepted_exactly =
      so
      (λ (o : Done). (is_accepted o.answer ≡ true)
      ↔ ((entry_checks v strip ≡ Ok tt) × Clean strip 0 (detach_work v strip lent).read × (rounds_needed v strip ≤ lent)))
      (live.detach_accepted_exactly v strip lent)

  -- where no refresh sets the window, it is handed back as it came
  pub detach_window_kept : (SetsWindow v strip lent → ⊥) → r.view.window ≡ v.window
  detach_window_kept f = so (λ (o : Done). o.view.window ≡ v.window) (windows.detach_window_kept v strip lent f)

  -- retired exactly where it was accepted
  pub retired_exactly :
      entry_checks v strip ≡ Ok tt → (r.view.retired ≡ 1) ↔ (is_accepted r.answer ≡ true)
  retired_exactly c =
      so (λ (o : Done). (o.view.retired ≡ 1) ↔ (is_accepted o.answer ≡ true)) (exactly.retired_exactly v strip lent c)

module _ (v : View) (strip : List ℕ) (window : ℕ) (r s : Done) (alike : AlikeBelow v.height v.window window) where
  -- two cached passes from views that differ only in window bits at or above the height give the same answer and leave the same lanes
  pub cached_windows : CachedPromise v strip r → CachedPromise (with_window v window) strip s → SameButWindow r s
  cached_windows p q =
      cached_so v strip r p (λ (o : Done). SameButWindow o s)
      (cached_so (with_window v window) strip s q (SameButWindow (cached_of v strip))
      (windows.cached_windows v strip window alike))

  -- two refreshed passes too
  pub refreshed_windows : RefreshedPromise v strip r → RefreshedPromise (with_window v window) strip s → SameButWindow r s
  refreshed_windows p q =
      refreshed_so v strip r p (λ (o : Done). SameButWindow o s)
      (refreshed_so (with_window v window) strip s q (SameButWindow (refreshed_of v strip))
      (windows.refreshed_windows v strip window alike))

  -- and two detaches
  pub detach_windows :
      (lent : ℕ) → DetachPromise v strip lent r → DetachPromise (with_window v window) strip lent s → SameButWindow r s
  detach_windows lent p q =
      so v strip lent r p (λ (o : Done). SameButWindow o s)
      (so (with_window v window) strip lent s q (SameButWindow (detach_of v strip lent))
      (windows.detach_windows v strip window alike lent))

  -- which hand back the same window too, where a refresh sets it
  pub detach_window_set :
      (lent : ℕ) → DetachPromise v strip lent r → DetachPromise (with_window v window) strip lent s → SetsWindow v strip lent →
      s ≡ r
  detach_window_set lent p q f =
      is (with_window v window) strip lent s q
      ∙ (windows.detach_window_set v strip window alike lent f ∙ sym (is v strip lent r p))

-- two detaches of one view by one strip: where the first had rounds enough, more rounds change nothing
pub more_rounds :
    (v : View) (strip : List ℕ) (n m : ℕ) (r s : Done) → DetachPromise v strip n r → DetachPromise v strip m s → n ≤ m →
    HadRounds r.answer → s ≡ r
more_rounds v strip n m r s p q h e =
    let a : r ≡ detach_of v strip n = seen_injective r (detach_of v strip n) p in
    let b : s ≡ detach_of v strip m = seen_injective s (detach_of v strip m) q in
    b ∙ (live.more_rounds v strip n m h (subst (λ (o : Done). HadRounds o.answer) a e) ∙ sym a)

-- and no smaller number of rounds, by the length of the strip, would let every detach end retired
pub no_fewer :
    (few : ℕ → ℕ) →
    ((v : View) (strip : List ℕ) (r : Done) → DetachPromise v strip (few (length strip)) r →
    entry_checks v strip ≡ Ok tt → NoErrors strip → Retired r) →
    (n : ℕ) → n ≤ most_bytes → n / 2 + 2 ≤ few n
no_fewer few enough n h =
    slow.no_fewer few (λ v strip c e. enough v strip (detach_of v strip (few (length strip))) refl c e) n h
