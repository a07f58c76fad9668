-- With two rounds more than half the strip's bytes, a detach that meets no storage error ends retired; what rounds are told; and 25
-- and 0, each exactly where it comes.
use Prim.Native.Nat.{ℕ, ◌+◌, ◌-◌, ◌/◌, ◌≤◌, ◌<◌}
use native.Mathlib.Omega.{arith}
use mathlib.Core.Path.{◌≡◌, refl, ap}
use mathlib.Core.List.{List}
use mathlib.Core.Bool.{Bool, true, false}
use mathlib.Core.Logic.{◌⊎◌, inl, inr, ⊎_elim, ◌↔◌}
use lib.ListN.{length}
use lib.Dec.{leb}
use Rattle.std.proofs.Common.{Result, Ok, Err}
use borrow.Author.Tests.{leb-true, leb-false}
use Rattle.booleans.proofs.Tests.{clash}
use Rattle.lane_rules.specs.declared.View.{View}
use Rattle.lane_rules.specs.declared.Failure.{Failure}
use Rattle.lane_rules.specs.Answers.{told_of, is_accepted}
use Rattle.lane_rules.specs.Calls.{entry_checks, ended, unless_refused, detach_of}
use Rattle.lane_laws.specs.Ends.{detach_work, NoErrors, Clean, Ends, yes, error, spent, MetNoError, HadRounds, Retired}
use Rattle.lane_laws.specs.Ends.{rounds_needed}
use Rattle.lane_laws.proofs.Cases.{refusal_not_accepted}
use Rattle.lane_laws.proofs.Exactly.{detach_refused, detach_ends, accepted_retired, offset_fault, else_clean, budget_lent}
use Rattle.lane_laws.proofs.Enough.{accepted_had_rounds, had_rounds, detaching_more, detaching_short, refused_otherwise, rounds_suffice}

module _ {strip : List ℕ} {lent from attached read : ℕ} where
  -- an end that is neither 24 nor 25 is a yes
  must_accept :
      {a : Result ℕ Failure} → Ends strip lent from attached read a → MetNoError a → HadRounds a → is_accepted a ≡ true
  must_accept (yes n k e c) f g = refl
  must_accept (error n k e) f g = absurd (f n refl)
  must_accept (spent c) f g = absurd (g lent refl)

  -- an end tells no more rounds than were lent
  value_of : {a : Result ℕ Failure} → Ends strip lent from attached read a → (told_of a).value ≤ lent
  value_of (yes n k e c) = k
  value_of (error n k e) = k
  value_of (spent c) = omega arith

-- an answer is 25 or is not
spent_or : (a : Result ℕ Failure) → ((n : ℕ) × (a ≡ Err (Failure.Budget n))) ⊎ HadRounds a
spent_or (Ok m) = inr (had_rounds (Ok m) (omega arith))
spent_or (Err Failure.Height) = inr (had_rounds (Err Failure.Height) (omega arith))
spent_or (Err Failure.View) = inr (had_rounds (Err Failure.View) (omega arith))
spent_or (Err Failure.Window) = inr (had_rounds (Err Failure.Window) (omega arith))
spent_or (Err Failure.Strip) = inr (had_rounds (Err Failure.Strip) (omega arith))
spent_or (Err (Failure.Offset m)) = inr (had_rounds (Err (Failure.Offset m)) (omega arith))
spent_or (Err (Failure.Budget m)) = inl (m, refl)

module _ (v : View) (strip : List ℕ) where
  -- where the rounds lent were enough, lending more changes nothing
  pub more_rounds : (n m : ℕ) → n ≤ m → HadRounds (detach_of v strip n).answer → detach_of v strip m ≡ detach_of v strip n
  unfolding detach_of
  more_rounds n m k = go (entry_checks v strip)
    where
      go :
          (c : Result Unit Failure) → HadRounds (unless_refused c v (ended v (detach_work v strip n))).answer →
          unless_refused c v (ended v (detach_work v strip m)) ≡ unless_refused c v (ended v (detach_work v strip n))
      go (Ok _) h = ap (ended v) (detaching_more strip v.height n m v.attached v.window k h)
      go (Err a) h = refl

  -- so from two more than half its strip's bytes on, it makes no difference how many are lent
  pub bound_rounds : (lent : ℕ) → length strip / 2 + 2 ≤ lent → detach_of v strip lent ≡ detach_of v strip (length strip / 2 + 2)
  bound_rounds lent k = more_rounds (length strip / 2 + 2) lent k (rounds_suffice v strip (length strip / 2 + 2) (omega arith))

  -- where the rounds lent were too few, the detach needs more than those
  too_few :
      (lent n : ℕ) → entry_checks v strip ≡ Ok tt → (detach_of v strip lent).answer ≡ Err (Failure.Budget n) →
      lent < rounds_needed v strip
  unfolding detach_of
  too_few lent n h e =
      let bound = length strip / 2 + 2 in
      rw (rounds_needed, h)
      (detaching_short strip v.height lent bound v.attached v.window n (rw h at e)
      (rw h at (rounds_suffice v strip bound (omega arith))))

  -- a detach not refused at entry that meets no storage error, with two rounds more than half its strip's bytes, ends retired
  pub detach_live :
      (lent : ℕ) → entry_checks v strip ≡ Ok tt → length strip / 2 + 2 ≤ lent →
      MetNoError (detach_of v strip lent).answer → Retired (detach_of v strip lent)
  detach_live lent h k f =
      accepted_retired v strip lent h (must_accept (detach_ends v strip lent h) f (rounds_suffice v strip lent k))

  -- the customer's demand: with two rounds more than its strip has bytes
  pub detach_retires :
      (lent : ℕ) → entry_checks v strip ≡ Ok tt → length strip + 2 ≤ lent →
      MetNoError (detach_of v strip lent).answer → Retired (detach_of v strip lent)
  detach_retires lent h k f = detach_live lent h (omega arith) f

  -- where the strip has no error byte, it always ends retired
  pub no_errors_retire :
      (lent : ℕ) → entry_checks v strip ≡ Ok tt → length strip / 2 + 2 ≤ lent → NoErrors strip →
      Retired (detach_of v strip lent)
  no_errors_retire lent h k f =
      detach_live lent h k λ n e.
      let high = (offset_fault v strip lent h n e).last in
      let low = f ((detach_work v strip lent).read - 1) in
      omega arith

  -- no answer tells more rounds than were lent
  pub told_rounds : (lent : ℕ) → (told_of (detach_of v strip lent).answer).value ≤ lent
  told_rounds lent = go (entry_checks v strip) refl
    where
      go : (c : Result Unit Failure) → entry_checks v strip ≡ c → (told_of (detach_of v strip lent).answer).value ≤ lent
      go (Ok _) h = value_of (detach_ends v strip lent h)
      go (Err a) h =
          let r = detach_refused v strip lent a h in
          let none = r.value in
          rw r.same (omega arith)

  -- nor more than two over half the strip's bytes, however many are lent
  pub few_rounds : (lent : ℕ) → (told_of (detach_of v strip lent).answer).value ≤ length strip / 2 + 2
  few_rounds lent = go (leb (length strip / 2 + 2) lent) refl
    where
      go :
          (b : Bool) → leb (length strip / 2 + 2) lent ≡ b →
          (told_of (detach_of v strip lent).answer).value ≤ length strip / 2 + 2
      go true e = rw (bound_rounds lent (leb-true (length strip / 2 + 2) lent e)) (told_rounds (length strip / 2 + 2))
      go false e =
          let few = leb-false (length strip / 2 + 2) lent e in
          let told = told_rounds lent in
          omega arith

  -- 25 tells exactly the rounds lent, and they were fewer than that
  pub out_of_rounds :
      (lent n : ℕ) → (detach_of v strip lent).answer ≡ Err (Failure.Budget n) → (n ≡ lent) × (lent < length strip / 2 + 2)
  out_of_rounds lent n e = (all (entry_checks v strip) refl, fewer (leb (length strip / 2 + 2) lent) refl)
    where
      all : (c : Result Unit Failure) → entry_checks v strip ≡ c → n ≡ lent
      all (Ok _) h = budget_lent v strip lent h n e
      all (Err a) h = absurd (refused_otherwise v strip lent a h n e)

      fewer : (b : Bool) → leb (length strip / 2 + 2) lent ≡ b → lent < length strip / 2 + 2
      fewer true t = absurd (rounds_suffice v strip lent (leb-true (length strip / 2 + 2) lent t) n e)
      fewer false t = leb-false (length strip / 2 + 2) lent t

  -- 25 comes only where fewer rounds were lent than the detach needs
  lent_too_few : (lent n : ℕ) → (detach_of v strip lent).answer ≡ Err (Failure.Budget n) → lent < rounds_needed v strip
  lent_too_few lent n e = short (entry_checks v strip) refl
    where
      short : (c : Result Unit Failure) → entry_checks v strip ≡ c → lent < rounds_needed v strip
      short (Ok _) h = too_few lent n h e
      short (Err a) h = absurd (refused_otherwise v strip lent a h n e)

  -- and there it comes
  lent_is_spent :
      (lent : ℕ) → lent < rounds_needed v strip → (n : ℕ) × ((detach_of v strip lent).answer ≡ Err (Failure.Budget n))
  lent_is_spent lent k = ⊎_elim (λ e. e) (λ h. absurd (enough h)) (spent_or (detach_of v strip lent).answer)
    where
      enough : HadRounds (detach_of v strip lent).answer → ⊥
      enough h =
          let most = told_rounds (length strip / 2 + 2) in
          let same = more_rounds lent (length strip / 2 + 2) (omega arith) h in
          let needed : rounds_needed v strip ≤ lent = rw (rounds_needed, same) (told_rounds lent) in
          omega arith

  -- 25 exactly where fewer rounds were lent than the detach needs
  pub budget_exactly :
      (lent : ℕ) → ((n : ℕ) × ((detach_of v strip lent).answer ≡ Err (Failure.Budget n))) ↔ (lent < rounds_needed v strip)
  budget_exactly lent = (λ e. lent_too_few lent e.0 e.1, λ k. lent_is_spent lent k)

  -- accepted exactly where no check applies, no byte that it reads is an error, and as many rounds are lent as it needs
  pub detach_accepted_exactly :
      (lent : ℕ) →
      (is_accepted (detach_of v strip lent).answer ≡ true)
      ↔ ((entry_checks v strip ≡ Ok tt) × Clean strip 0 (detach_work v strip lent).read × (rounds_needed v strip ≤ lent))
  detach_accepted_exactly lent = (
    λ t.
        let passes = unrefused (entry_checks v strip) refl t in
        (passes, clean passes t, enough (leb (rounds_needed v strip) lent) refl t),
    λ (h, c, k).
        must_accept (detach_ends v strip lent h)
        (λ n e.
        let f = offset_fault v strip lent h n e in
        let some = f.some in
        let high = f.last in
        let low = c ((detach_work v strip lent).read - 1) (omega arith) (omega arith) in
        omega arith)
        (λ n e. let few = lent_too_few lent n e in omega arith),
  )
    where
      unrefused :
          (c : Result Unit Failure) → entry_checks v strip ≡ c → is_accepted (detach_of v strip lent).answer ≡ true →
          entry_checks v strip ≡ Ok tt
      unrefused (Ok _) h t = h
      unrefused (Err a) h t =
          let r = detach_refused v strip lent a h in
          absurd (clash (is_accepted (Err a)) (rw r.same at t) (refusal_not_accepted (Err a) r.number))

      clean :
          entry_checks v strip ≡ Ok tt → is_accepted (detach_of v strip lent).answer ≡ true →
          Clean strip 0 (detach_work v strip lent).read
      clean h t i low k = else_clean v strip lent h (λ n e. clash false (rw e at t) refl) i k

      enough :
          (b : Bool) → leb (rounds_needed v strip) lent ≡ b → is_accepted (detach_of v strip lent).answer ≡ true →
          rounds_needed v strip ≤ lent
      enough true e t = leb-true (rounds_needed v strip) lent e
      enough false e t =
          let few = lent_is_spent lent (leb-false (rounds_needed v strip) lent e) in
          absurd (accepted_had_rounds (detach_of v strip lent).answer t few.0 few.1)
