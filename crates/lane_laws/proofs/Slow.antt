-- Two rounds more than half the strip's bytes is exact: the slow strip, of any length, needs them all.
use Prim.Native.Nat.{ℕ, zero, suc, ◌+◌, ◌*◌, ◌/◌, ◌≤◌}
use native.Mathlib.Nat.{zero-add, add-zero}
use native.Mathlib.Omega.{arith}
use mathlib.Core.Path.{◌≡◌, refl, ap, ◌∙◌}
use mathlib.Core.List.{List}
use mathlib.Core.Bool.{Bool, true, false}
use lib.ListN.{length}
use lib.Dec.{leb}
use Rattle.std.proofs.Common.{Ok, Err}
use borrow.Author.Tests.{le-leb, leb-true, leb-false}
use Rattle.strips.specs.Strips.{most_bytes, proper_bytes, proper_strip, byte_at}
use Rattle.booleans.proofs.Tests.{clash}
use Rattle.masks.specs.Masks.{digit, lane_in, cleared, lanes_below}
use Rattle.lane_rules.specs.Answers.{is_accepted}
use Rattle.lane_rules.specs.Steps.{compared, refreshed}
use Rattle.lane_rules.specs.Passes.{cached_pass, try_lane, refreshed_from}
use Rattle.lane_rules.specs.Rounds.{round, rounds, detaching}
use Rattle.lane_rules.specs.Calls.{bad_height, bad_view, bad_strip, entry_checks, ended, detach_of}
use Rattle.lane_laws.specs.Ends.{NoErrors}
use Rattle.lane_laws.specs.Slow.{slow_strip, slow_view, AlwaysEnough}
use Rattle.lane_laws.proofs.Enough.{accepted_had_rounds}
use Rattle.lane_laws.proofs.Live.{more_rounds, no_errors_retire}
use Rattle.lane_rules.specs.declared.Failure.{Failure}

-- the slow strip has as many bytes as it is asked for
pub slow_length : (n : ℕ) → length (slow_strip n) ≡ n
unfolding slow_strip
slow_length zero = refl
slow_length (suc zero) = refl
slow_length (suc (suc n)) = ap (λ (m : ℕ). suc (suc m)) (slow_length n)

-- none of them is above 2
slow_proper : (n : ℕ) → proper_bytes (slow_strip n) ≡ true
unfolding slow_strip proper_bytes
slow_proper zero = refl
slow_proper (suc zero) = refl
slow_proper (suc (suc n)) = slow_proper n

-- nor is one an error
pub slow_no_errors : (n : ℕ) → NoErrors (slow_strip n)
unfolding slow_strip
slow_no_errors zero i = omega arith
slow_no_errors (suc zero) zero = omega arith
slow_no_errors (suc zero) (suc i) = omega arith
slow_no_errors (suc (suc n)) zero = omega arith
slow_no_errors (suc (suc n)) (suc zero) = omega arith
slow_no_errors (suc (suc n)) (suc (suc i)) = slow_no_errors n i

-- a detach of the slow view passes its checks
pub slow_passes : (n : ℕ) → n ≤ most_bytes → entry_checks slow_view (slow_strip n) ≡ Ok tt
unfolding entry_checks bad_height bad_view bad_strip proper_strip lanes_below
slow_passes n h = rw (slow_length n, le-leb n most_bytes h, slow_proper n)

-- from a place on, the strip reads as another does from its start
abbrev From : List ℕ → ℕ → List ℕ → Type 0
From strip read rest = (i : ℕ) → byte_at strip (read + i) ≡ byte_at rest i

module _ (strip : List ℕ) (window read : ℕ) (refreshes : byte_at strip read ≡ 0) where
  -- two bytes, one after the other
  two : read + 1 + 1 ≡ read + 2
  two = omega arith

  -- a round whose compare says no keeps the one lane
  round_keeps :
      byte_at strip (read + 1) ≡ 1 →
      round strip 1 1 window read ≡ record { said = Ok false; attached = 1; window = 1; read = read + 2 }
  unfolding round refreshed refreshed_from try_lane compared digit lane_in
  round_keeps e = rw (refreshes, e, two)

  -- one whose compare says yes clears it, and says no all the same
  round_clears :
      byte_at strip (read + 1) ≡ 0 →
      round strip 1 1 window read ≡ record { said = Ok false; attached = 0; window = 1; read = read + 2 }
  unfolding round refreshed refreshed_from try_lane compared digit lane_in cleared
  round_clears e = rw (refreshes, e, two)

-- from its start on it reads as itself
from_start : (strip : List ℕ) → From strip 0 strip
from_start strip i = rw (zero-add i)

-- two bytes on
from_next : (strip : List ℕ) (read n : ℕ) → From strip read (slow_strip (suc (suc n))) → From strip (read + 2) (slow_strip n)
unfolding slow_strip
from_next strip read n f i = let e : read + 2 + i ≡ read + suc (suc i) = omega arith in rw e (f (suc (suc i)))

module _ (strip : List ℕ) where
  -- a round less to make, and one made, that kept the lane
  rounds_keep :
      (left made window read : ℕ) → byte_at strip read ≡ 0 → byte_at strip (read + 1) ≡ 1 →
      rounds strip 1 (suc left) made 1 window read ≡ rounds strip 1 left (made + 1) 1 1 (read + 2)
  unfolding rounds
  rounds_keep left made window read e f = rw (round_keeps strip window read e f)

  -- or that cleared it
  rounds_clear :
      (left made window read : ℕ) → byte_at strip read ≡ 0 → byte_at strip (read + 1) ≡ 0 →
      rounds strip 1 (0 + suc left) made 1 window read ≡ rounds strip 1 left (made + 1) 0 1 (read + 2)
  unfolding rounds
  rounds_clear left made window read e f = rw (zero-add (suc left), round_clears strip window read e f)

  -- a round to each two bytes keeps the lane, and one more clears it
  slow_rounds :
      (n left made window read : ℕ) → From strip read (slow_strip n) →
      rounds strip 1 (n / 2 + suc left) made 1 window read
      ≡ rounds strip 1 left (made + (n / 2 + 1)) 0 1 (read + (n / 2 + 1) * 2)
  unfolding slow_strip
  slow_rounds zero left made window read f = rounds_clear left made window read (rw add-zero at (f 0)) (f 1)
  slow_rounds (suc zero) left made window read f = rounds_clear left made window read (rw add-zero at (f 0)) (f 1)
  slow_rounds (suc (suc n)) left made window read f =
      let e : suc (suc n) / 2 + suc left ≡ suc (n / 2 + suc left) = omega arith in
      let m : made + (suc (suc n) / 2 + 1) ≡ made + 1 + (n / 2 + 1) = omega arith in
      let k : read + (suc (suc n) / 2 + 1) * 2 ≡ read + 2 + (n / 2 + 1) * 2 = omega arith in
      rw (e, m, k)
      (rounds_keep (n / 2 + suc left) made window read (rw add-zero at (f 0)) (f 1)
      ∙ slow_rounds n left (made + 1) 1 (read + 2) (from_next strip read n f))

-- the cached pass stops at the lane, which is outside the window, and has read nothing
slow_start :
    (n lent : ℕ) → n ≤ most_bytes →
    detach_of slow_view (slow_strip n) lent ≡ ended slow_view (rounds (slow_strip n) 1 lent 0 1 0 0)
unfolding detach_of detaching cached_pass digit lane_in
slow_start n lent h = rw (slow_passes n h)

-- one round fewer than the bound is not enough
pub slow_short :
    (n : ℕ) → n ≤ most_bytes → (detach_of slow_view (slow_strip n) (n / 2 + 1)).answer ≡ Err (Failure.Budget (n / 2 + 1))
unfolding rounds
slow_short n h =
    rw (slow_start n (n / 2 + 1) h, slow_rounds (slow_strip n) n 0 0 0 0 (from_start (slow_strip n)), zero-add (n / 2 + 1))

-- two rounds more than half the strip's bytes are always enough
pub half_enough : AlwaysEnough (λ bytes. bytes / 2 + 2)
half_enough v strip h f = no_errors_retire v strip (length strip / 2 + 2) h (omega arith) f

-- and for no length of a strip are fewer
pub no_fewer : (few : ℕ → ℕ) → AlwaysEnough few → (n : ℕ) → n ≤ most_bytes → n / 2 + 2 ≤ few n
no_fewer few enough n h = go (leb (n / 2 + 2) (few n)) refl
  where
    accepted : is_accepted (detach_of slow_view (slow_strip n) (few n)).answer ≡ true
    accepted = rw (slow_length n) at (enough slow_view (slow_strip n) (slow_passes n h) (slow_no_errors n)).accepted

    go : (b : Bool) → leb (n / 2 + 2) (few n) ≡ b → n / 2 + 2 ≤ few n
    go true e = leb-true (n / 2 + 2) (few n) e
    go false e =
        let fewer = leb-false (n / 2 + 2) (few n) e in
        let same = more_rounds slow_view (slow_strip n) (few n) (n / 2 + 1) (omega arith) (accepted_had_rounds _ accepted) in
        absurd (clash false (rw (← same, slow_short n h) at accepted) refl)
