-- Each answer of each call, exactly in its place: one theorem to a call.
use Prim.Native.Nat.{ℕ, ◌+◌, ◌/◌}
use native.Mathlib.Omega.{arith}
use mathlib.Core.Path.{◌≡◌, refl, sym, ap, subst, ◌∙◌}
use mathlib.Core.List.{List}
use mathlib.Core.Bool.{Bool, true, false}
use mathlib.Core.Logic.{◌↔◌}
use lib.ListN.{length}
use lib.Dec.{leb}
use Rattle.std.proofs.Common.{Result, Ok, Err}
use borrow.Author.Tests.{leb-true, leb-false}
use Rattle.booleans.proofs.Tests.{clash}
use Rattle.lane_rules.specs.declared.View.{View}
use Rattle.lane_rules.specs.declared.Done.{Done}
use Rattle.lane_rules.specs.declared.Failure.{Failure}
use Rattle.lane_rules.specs.Answers.{told_of, is_accepted}
use Rattle.lane_rules.specs.Calls.{entry_checks, refreshed_checks, cached_of, refreshed_of, detach_of}
use Rattle.lane_laws.specs.Ends.{PassEnds, said_yes, said_no, said_error, Ends, yes, error, spent, HadRounds, rounds_needed}
use Rattle.lane_laws.specs.Places.{CachedAnswers, RefreshedAnswers, DetachAnswers}
use Rattle.lane_laws.proofs.Cases.{other_number}
use Rattle.lane_laws.proofs.Entry.{detach_entry, refreshed_entry}
use Rattle.lane_laws.proofs.Exactly.{cached_refused, refreshed_refused, detach_refused, cached_ends, refreshed_ends}
use Rattle.lane_laws.proofs.Exactly.{detach_ends, offset_exactly}
use Rattle.lane_laws.proofs.Yes.{cached_yes_exactly, refreshed_yes_exactly}
use Rattle.lane_laws.proofs.No.{cached_no_exactly, cached_offset_exactly, refreshed_no_exactly, refreshed_offset_exactly}
use Rattle.lane_laws.proofs.Live.{more_rounds, bound_rounds, out_of_rounds, budget_exactly, detach_accepted_exactly}

module _ (v : View) (strip : List ℕ) where
  -- the cached pass: its answer has its condition
  cached_found : CachedAnswers v strip (cached_of v strip).answer
  cached_found = go (entry_checks v strip) refl
    where
      worked :
          {attached read : ℕ} (a : Result ℕ Failure) → entry_checks v strip ≡ Ok tt → (cached_of v strip).answer ≡ a →
          PassEnds strip attached read a → CachedAnswers v strip a
      worked a h e (said_yes z c) =
          CachedAnswers.yes ((detach_entry v strip (Ok tt)).0 h) ((cached_yes_exactly v strip h).0 e)
      worked a h e (said_no c) =
          CachedAnswers.no ((detach_entry v strip (Ok tt)).0 h) ((cached_no_exactly v strip h).0 e)
      worked a h e (said_error f) =
          CachedAnswers.offset ((detach_entry v strip (Ok tt)).0 h) ((cached_offset_exactly v strip h).0 e)

      go : (c : Result Unit Failure) → entry_checks v strip ≡ c → CachedAnswers v strip (cached_of v strip).answer
      go (Ok _) h = worked (cached_of v strip).answer h refl (cached_ends v strip h)
      go (Err a) h =
          rw (cached_refused v strip a h).same (CachedAnswers.refused ((detach_entry v strip (Err a)).0 h))

  -- and what has its condition is the answer
  cached_placed : (a : Result ℕ Failure) → CachedAnswers v strip a → (cached_of v strip).answer ≡ a
  cached_placed a (CachedAnswers.refused e) =
      ap (λ (o : Done). o.answer) (cached_refused v strip _ ((detach_entry v strip _).1 e)).same
  cached_placed a (CachedAnswers.yes e z) = (cached_yes_exactly v strip ((detach_entry v strip (Ok tt)).1 e)).1 z
  cached_placed a (CachedAnswers.no e z) = (cached_no_exactly v strip ((detach_entry v strip (Ok tt)).1 e)).1 z
  cached_placed a (CachedAnswers.offset e z) = (cached_offset_exactly v strip ((detach_entry v strip (Ok tt)).1 e)).1 z

  -- each answer of the cached pass, exactly in its place
  pub cached_exactly : (a : Result ℕ Failure) → ((cached_of v strip).answer ≡ a) ↔ CachedAnswers v strip a
  cached_exactly a = (λ e. subst (CachedAnswers v strip) e cached_found, cached_placed a)

  -- the refreshed pass: its answer has its condition
  refreshed_found : RefreshedAnswers v strip (refreshed_of v strip).answer
  refreshed_found = go (refreshed_checks v strip) refl
    where
      worked :
          {attached read : ℕ} (a : Result ℕ Failure) → refreshed_checks v strip ≡ Ok tt →
          (refreshed_of v strip).answer ≡ a →
          PassEnds strip attached read a → RefreshedAnswers v strip a
      worked a h e (said_yes z c) =
          RefreshedAnswers.yes ((refreshed_entry v strip (Ok tt)).0 h) ((refreshed_yes_exactly v strip h).0 e)
      worked a h e (said_no c) =
          let n = (refreshed_no_exactly v strip h).0 e in
          RefreshedAnswers.no ((refreshed_entry v strip (Ok tt)).0 h) n.0 n.1
      worked a h e (said_error f) =
          RefreshedAnswers.offset ((refreshed_entry v strip (Ok tt)).0 h) ((refreshed_offset_exactly v strip h).0 e)

      go : (c : Result Unit Failure) → refreshed_checks v strip ≡ c → RefreshedAnswers v strip (refreshed_of v strip).answer
      go (Ok _) h = worked (refreshed_of v strip).answer h refl (refreshed_ends v strip h)
      go (Err a) h =
          rw (refreshed_refused v strip a h).same
          (RefreshedAnswers.refused ((refreshed_entry v strip (Err a)).0 h))

  -- and what has its condition is the answer
  refreshed_placed : (a : Result ℕ Failure) → RefreshedAnswers v strip a → (refreshed_of v strip).answer ≡ a
  refreshed_placed a (RefreshedAnswers.refused e) =
      ap (λ (o : Done). o.answer) (refreshed_refused v strip _ ((refreshed_entry v strip _).1 e)).same
  refreshed_placed a (RefreshedAnswers.yes e z) =
      (refreshed_yes_exactly v strip ((refreshed_entry v strip (Ok tt)).1 e)).1 z
  refreshed_placed a (RefreshedAnswers.no e s z) =
      (refreshed_no_exactly v strip ((refreshed_entry v strip (Ok tt)).1 e)).1 (s, z)
  refreshed_placed a (RefreshedAnswers.offset e z) =
      (refreshed_offset_exactly v strip ((refreshed_entry v strip (Ok tt)).1 e)).1 z

  -- each answer of the refreshed pass, exactly in its place
  pub refreshed_exactly : (a : Result ℕ Failure) → ((refreshed_of v strip).answer ≡ a) ↔ RefreshedAnswers v strip a
  refreshed_exactly a = (λ e. subst (RefreshedAnswers v strip) e refreshed_found, refreshed_placed a)

-- an accepted answer is 0 with its value
accepted_is : (a : Result ℕ Failure) → is_accepted a ≡ true → a ≡ Ok (told_of a).value
accepted_is (Ok n) t = refl
accepted_is (Err Failure.Height) t = absurd (clash false t refl)
accepted_is (Err Failure.View) t = absurd (clash false t refl)
accepted_is (Err Failure.Window) t = absurd (clash false t refl)
accepted_is (Err Failure.Strip) t = absurd (clash false t refl)
accepted_is (Err (Failure.Offset n)) t = absurd (clash false t refl)
accepted_is (Err (Failure.Budget n)) t = absurd (clash false t refl)

module _ (v : View) (strip : List ℕ) (lent : ℕ) where
  -- a detach whose rounds were enough tells those that it needs
  pub tells_needed :
      HadRounds (detach_of v strip lent).answer → (told_of (detach_of v strip lent).answer).value ≡ rounds_needed v strip
  tells_needed h = go (leb lent (length strip / 2 + 2)) refl
    where
      go :
          (b : Bool) → leb lent (length strip / 2 + 2) ≡ b →
          (told_of (detach_of v strip lent).answer).value ≡ rounds_needed v strip
      go true e =
          let few = leb-true lent (length strip / 2 + 2) e in
          ap (λ (o : Done). (told_of o.answer).value) (sym (more_rounds v strip lent (length strip / 2 + 2) few h))
      go false e =
          let many = leb-false lent (length strip / 2 + 2) e in
          ap (λ (o : Done). (told_of o.answer).value) (bound_rounds v strip lent (omega arith))

  -- so where it is accepted
  accepted_needed : (n : ℕ) → (detach_of v strip lent).answer ≡ Ok n → n ≡ rounds_needed v strip
  accepted_needed n e =
      ap (λ (a : Result ℕ Failure). (told_of a).value) (sym e)
      ∙ tells_needed (λ m f. other_number (sym e ∙ f) (λ k. omega arith))

  -- and where it is 24
  offset_needed : (n : ℕ) → (detach_of v strip lent).answer ≡ Err (Failure.Offset n) → n ≡ rounds_needed v strip
  offset_needed n e =
      ap (λ (a : Result ℕ Failure). (told_of a).value) (sym e)
      ∙ tells_needed (λ m f. other_number (sym e ∙ f) (λ k. omega arith))

  -- detach: its answer has its condition
  detach_found : DetachAnswers v strip lent (detach_of v strip lent).answer
  detach_found = go (entry_checks v strip) refl
    where
      worked :
          {attached read : ℕ} (a : Result ℕ Failure) → entry_checks v strip ≡ Ok tt → (detach_of v strip lent).answer ≡ a →
          Ends strip lent 0 attached read a → DetachAnswers v strip lent a
      worked a h e (yes n k z c) =
          let t = (detach_accepted_exactly v strip lent).0 (rw e) in
          DetachAnswers.accepted ((detach_entry v strip (Ok tt)).0 h) t.1 t.2 (accepted_needed n e)
      worked a h e (error n k f) =
          DetachAnswers.offset ((detach_entry v strip (Ok tt)).0 h) ((offset_exactly v strip lent h).0 (n, e))
          (offset_needed n e)
      worked a h e (spent c) =
          DetachAnswers.budget ((detach_entry v strip (Ok tt)).0 h) ((budget_exactly v strip lent).0 (lent, e))

      go : (c : Result Unit Failure) → entry_checks v strip ≡ c → DetachAnswers v strip lent (detach_of v strip lent).answer
      go (Ok _) h = worked (detach_of v strip lent).answer h refl (detach_ends v strip lent h)
      go (Err a) h =
          rw (detach_refused v strip lent a h).same
          (DetachAnswers.refused ((detach_entry v strip (Err a)).0 h))

  -- and what has its condition is the answer
  detach_placed : (a : Result ℕ Failure) → DetachAnswers v strip lent a → (detach_of v strip lent).answer ≡ a
  detach_placed a (DetachAnswers.refused e) =
      ap (λ (o : Done). o.answer) (detach_refused v strip lent _ ((detach_entry v strip _).1 e)).same
  detach_placed a (DetachAnswers.accepted e c k n) =
      let t = (detach_accepted_exactly v strip lent).1 ((detach_entry v strip (Ok tt)).1 e, c, k) in
      let is = accepted_is (detach_of v strip lent).answer t in
      is ∙ ap Ok (accepted_needed _ is ∙ sym n)
  detach_placed a (DetachAnswers.offset e i n) =
      let o = (offset_exactly v strip lent ((detach_entry v strip (Ok tt)).1 e)).1 i in
      o.1 ∙ ap (λ (n : ℕ). Err (Failure.Offset n)) (offset_needed o.0 o.1 ∙ sym n)
  detach_placed a (DetachAnswers.budget e k) =
      let b = (budget_exactly v strip lent).1 k in
      b.1 ∙ ap (λ (n : ℕ). Err (Failure.Budget n)) (out_of_rounds v strip lent b.0 b.1).0

  -- each answer of detach, exactly in its place
  pub detach_exactly : (a : Result ℕ Failure) → ((detach_of v strip lent).answer ≡ a) ↔ DetachAnswers v strip lent a
  detach_exactly a = (λ e. subst (DetachAnswers v strip lent) e detach_found, detach_placed a)
