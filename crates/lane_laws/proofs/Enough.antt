-- Two rounds more than half the strip's bytes are enough, and rounds that were enough end alike with more lent. Each round that says
-- no reads at least two bytes: its refresh's, and that of a lane that it tries. So at most half as many rounds as the strip has bytes
-- try a lane inside it. Past its end every byte is 0: there one round clears all lanes, and the next says yes.
use Prim.Native.Nat.{ℕ, zero, suc, ◌+◌, ◌-◌, ◌/◌, ◌≤◌, ◌<◌}
use native.Mathlib.Omega.{arith}
use mathlib.Core.Path.{◌≡◌, refl}
use mathlib.Core.List.{List}
use mathlib.Core.Bool.{Bool, true, false}
use lib.ListN.{length}
use lib.Dec.{leb}
use Rattle.std.proofs.Common.{Result, Ok, Err}
use borrow.Author.Tests.{leb-true, leb-false}
use Rattle.booleans.proofs.Tests.{clash}
use Rattle.lane_rules.specs.declared.View.{View}
use Rattle.lane_rules.specs.declared.Failure.{Failure}
use Rattle.lane_rules.specs.Answers.{told_of, is_accepted}
use Rattle.lane_rules.specs.Passes.{cached_pass}
use Rattle.lane_rules.specs.Rounds.{round, rounds, detaching, Ended}
use Rattle.lane_rules.specs.Calls.{entry_checks, detach_of}
use Rattle.lane_laws.specs.Clauses.{AllBelow, is_refusal}
use Rattle.lane_laws.specs.Ends.{HadRounds}
use Rattle.lane_laws.proofs.Cases.{by_said_lem, by_both, other_number}
use Rattle.lane_laws.proofs.Reading.{round_no_reads}
use Rattle.lane_laws.proofs.Entry.{detach_passes}
use Rattle.lane_laws.proofs.Frames.{below_inside, cached_leaves, round_leaves}
use Rattle.lane_laws.proofs.Sweep.{round_no, last_round}
use Rattle.lane_laws.proofs.Exactly.{detach_refused}

-- an answer with another number is not 25
pub had_rounds : (a : Result ℕ Failure) → ((told_of a).answer ≡ 25 → ⊥) → HadRounds a
had_rounds a f n e = other_number e f

-- 0 is not
pub accepted_had_rounds : (a : Result ℕ Failure) → is_accepted a ≡ true → HadRounds a
accepted_had_rounds a h n e = clash false (rw e at h) refl

-- nor is what a check refuses with
refused_had_rounds : (a : Result ℕ Failure) → is_refusal a ≡ true → HadRounds a
refused_had_rounds a h n e = clash false (rw e at h) refl

-- an end for want of rounds, beside one that had enough, which told more than these
abbrev pub Short : ℕ → ℕ → Ended → Ended → Type 0
Short n few a b = a.answer ≡ Err (Failure.Budget n) → HadRounds b.answer → few < (told_of b.answer).value

-- an end that is that of more rounds too
abbrev pub Alike : Ended → Ended → Type 0
Alike a b = HadRounds a.answer → b ≡ a

module _ (strip : List ℕ) (height : ℕ) where
  -- with no lane left, past the strip's end, the next round is the last
  last_rounds :
      (left made window read : ℕ) → length strip ≤ read → HadRounds (rounds strip height (suc left) made 0 window read).answer
  unfolding rounds
  last_rounds left made window read past =
      rw (last_round strip height window read past) (had_rounds (Ok (made + 1)) (omega arith))

  -- after a round that said no: its compares lay past the strip's end, and no lane is left; or the strip had two bytes for it
  after_no :
      (left made attached window from read : ℕ) → from + 2 ≤ read → (length strip ≤ from + 1 → attached ≡ 0) →
      (from + 2 ≤ length strip → HadRounds (rounds strip height (suc left) made attached window read).answer) →
      HadRounds (rounds strip height (suc left) made attached window read).answer
  after_no left made attached window from read on none more = go (leb (length strip) (from + 1)) refl
    where
      go :
          (b : Bool) → leb (length strip) (from + 1) ≡ b →
          HadRounds (rounds strip height (suc left) made attached window read).answer
      go true e =
          let past = leb-true (length strip) (from + 1) e in
          rw (none past) (last_rounds left made window read (omega arith))
      go false e = let inside = leb-false (length strip) (from + 1) e in more (omega arith)

  -- so two rounds more than half of the bytes still to be read are enough
  rounds_enough :
      (left made attached window read : ℕ) → AllBelow attached height → (length strip - read) / 2 + 2 ≤ left →
      HadRounds (rounds strip height left made attached window read).answer
  unfolding rounds
  rounds_enough zero made attached window read h k = absurd (omega arith)
  rounds_enough (suc zero) made attached window read h k = absurd (omega arith)
  rounds_enough (suc (suc left)) made attached window read h k =
      let r = round strip height attached window read in
      let below = below_inside height attached r.attached (round_leaves strip height attached window read).inside h in
      by_said_lem (λ (e : Ended). HadRounds e.answer) r.said
      (λ s. had_rounds (Ok (made + 1)) (omega arith))
      (λ s.
      let on = round_no_reads strip height attached window read s in
      after_no left (made + 1) r.attached r.window read r.read on
      (λ past. round_no strip height attached window read past h s)
      (λ inside. rounds_enough (suc left) (made + 1) r.attached r.window r.read below (omega arith)))
      (λ s. had_rounds (Err (Failure.Offset (made + 1))) (omega arith))

  -- rounds that were enough end alike with more lent
  rounds_more :
      (left more made attached window read : ℕ) → left ≤ more →
      HadRounds (rounds strip height left made attached window read).answer →
      rounds strip height more made attached window read ≡ rounds strip height left made attached window read
  unfolding rounds
  rounds_more zero more made attached window read k h = absurd (h made refl)
  rounds_more (suc left) zero made attached window read k h = absurd (omega arith)
  rounds_more (suc left) (suc more) made attached window read k h =
      let r = round strip height attached window read in
      by_both Alike r.said _ _ _ _
      (λ h. refl)
      (rounds_more left more (made + 1) r.attached r.window r.read (omega arith))
      (λ h. refl)
      h

  -- rounds tell those made before them too
  told_made :
      (left made attached window read : ℕ) → made ≤ (told_of (rounds strip height left made attached window read).answer).value
  unfolding rounds
  told_made zero made attached window read = omega arith
  told_made (suc left) made attached window read =
      let r = round strip height attached window read in
      let more = told_made left (made + 1) r.attached r.window r.read in
      by_said_lem (λ (e : Ended). made ≤ (told_of e.answer).value) r.said (λ s. omega arith) (λ s. omega arith) (λ s. omega arith)

  -- where rounds were too few, as many as were enough tell more than those
  rounds_short :
      (left more made attached window read n : ℕ) →
      Short n (made + left) (rounds strip height left made attached window read)
      (rounds strip height more made attached window read)
  unfolding rounds
  rounds_short left zero made attached window read n e h = absurd (h made refl)
  rounds_short zero (suc more) made attached window read n e h =
      let r = round strip height attached window read in
      let told = told_made more (made + 1) r.attached r.window r.read in
      by_said_lem (λ (x : Ended). made + 0 < (told_of x.answer).value) r.said
      (λ s. omega arith)
      (λ s. omega arith)
      (λ s. omega arith)
  rounds_short (suc left) (suc more) made attached window read n e h =
      let r = round strip height attached window read in
      by_both (Short n (made + suc left)) r.said _ _ _ _
      (λ e h. absurd (other_number e (omega arith)))
      (λ e h. let k = rounds_short left more (made + 1) r.attached r.window r.read n e h in omega arith)
      (λ e h. absurd (other_number e (omega arith)))
      e
      h

  -- the same of the cached pass and the rounds behind it: enough
  detaching_enough :
      (lent attached window : ℕ) → AllBelow attached height → length strip / 2 + 2 ≤ lent →
      HadRounds (detaching strip height lent attached window).answer
  unfolding detaching
  detaching_enough lent attached window h k =
      let p = cached_pass strip height window attached 0 in
      let below = below_inside height attached p.attached (cached_leaves strip window height attached 0).clears.inside h in
      by_said_lem (λ (e : Ended). HadRounds e.answer) p.said
      (λ s. had_rounds (Ok 0) (omega arith))
      (λ s. rounds_enough lent 0 p.attached window p.read below (omega arith))
      (λ s. had_rounds (Err (Failure.Offset 0)) (omega arith))

  -- and alike with more
  pub detaching_more :
      (lent more attached window : ℕ) → lent ≤ more → HadRounds (detaching strip height lent attached window).answer →
      detaching strip height more attached window ≡ detaching strip height lent attached window
  unfolding detaching
  detaching_more lent more attached window k h =
      let p = cached_pass strip height window attached 0 in
      by_both Alike p.said _ _ _ _ (λ h. refl) (rounds_more lent more 0 p.attached window p.read k) (λ h. refl) h

  -- and too few
  pub detaching_short :
      (lent more attached window n : ℕ) →
      Short n lent (detaching strip height lent attached window) (detaching strip height more attached window)
  unfolding detaching
  detaching_short lent more attached window n e h =
      let p = cached_pass strip height window attached 0 in
      by_both (Short n lent) p.said _ _ _ _
      (λ e h. absurd (other_number e (omega arith)))
      (λ e h. let k = rounds_short lent more 0 p.attached window p.read n e h in omega arith)
      (λ e h. absurd (other_number e (omega arith)))
      e
      h

module _ (v : View) (strip : List ℕ) where
  -- a detach that was refused did not end for want of rounds
  pub refused_otherwise :
      (lent : ℕ) (a : Failure) → entry_checks v strip ≡ Err a → HadRounds (detach_of v strip lent).answer
  refused_otherwise lent a h n e =
      let r = detach_refused v strip lent a h in refused_had_rounds (Err a) r.number n (rw r.same at e)

  -- with two rounds more than half its strip's bytes, no detach ends for want of rounds
  pub rounds_suffice : (lent : ℕ) → length strip / 2 + 2 ≤ lent → HadRounds (detach_of v strip lent).answer
  unfolding detach_of
  rounds_suffice lent k = go (entry_checks v strip) refl
    where
      go : (c : Result Unit Failure) → entry_checks v strip ≡ c → HadRounds (detach_of v strip lent).answer
      go (Ok _) h =
          rw h (detaching_enough strip v.height lent v.attached v.window ((detach_passes v strip).0 h).0.below k)
      go (Err a) h = refused_otherwise lent a h
