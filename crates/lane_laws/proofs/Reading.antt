-- The bytes of the strip that each part reads: at most one to a lane and a refresh, and at least two in a round that says no.
use Prim.Native.Nat.{ℕ, zero, suc, ◌+◌, ◌*◌, ◌≤◌}
use native.Mathlib.Omega.{arith}
use mathlib.Core.Path.{◌≡◌, refl, sym, ◌∙◌}
use mathlib.Core.List.{List}
use mathlib.Core.Bool.{cond, true, false}
use Rattle.strips.specs.Strips.{byte_at}
use Rattle.booleans.proofs.Tests.{by_cases}
use Rattle.masks.specs.Masks.{most_lanes, lane_in}
use Rattle.lane_rules.specs.Steps.{compared, refreshed, error_met, Compared}
use Rattle.lane_rules.specs.Passes.{by_said, failed, cached_pass, try_lane, refreshed_from, Pass}
use Rattle.lane_rules.specs.Rounds.{round, rounds, detaching, Round, Ended}
use Rattle.lane_laws.proofs.Cases.{by_said_lem, yes_not_no, error_not_no}
use Rattle.std.proofs.Common.{Ok, is_err}
use Rattle.std.proofs.Math.Nat.{mul-le-mul_left}

-- a part of a call that began where `from` bytes were read has read at least `least` and at most `most` of them
pub record Reads (from least most read : ℕ) : Type 0 where
  pub low : from + least ≤ read
  pub high : read ≤ from + most

-- a refreshed pass as it begins, when no lane was tried
abbrev pub begun : ℕ → ℕ → Pass
begun attached read = record { said = Ok true; attached = attached; read = read }

-- a refreshed pass after a lane that it tried
abbrev pub tried : Pass → Compared → Pass
tried p c = record { said = by_said c.said (Ok false) (Ok false) error_met; attached = c.attached; read = p.read + 1 }

module _ (strip : List ℕ) (window : ℕ) where
  -- a cached pass reads at most a byte to a lane
  pub cached_reads :
      (height attached read : ℕ) → Reads read 0 height (cached_pass strip height window attached read).read
  unfolding cached_pass
  cached_reads zero attached read = record { low = omega arith; high = omega arith }
  cached_reads (suc lane) attached read =
      let c = compared (byte_at strip read) lane attached in
      let ih = cached_reads lane c.attached (read + 1) in
      by_cases (λ (p : Pass). Reads read 0 (suc lane) p.read) (lane_in window lane)
      (λ e. by_said_lem (λ (p : Pass). Reads read 0 (suc lane) p.read) c.said
      (λ s. let a = ih.low in let b = ih.high in record { low = omega arith; high = omega arith })
      (λ s. record { low = omega arith; high = omega arith })
      (λ s. record { low = omega arith; high = omega arith }))
      (λ e. record { low = omega arith; high = omega arith })

  -- a lane of a refreshed pass takes a byte or none
  pub try_reads : (lane : ℕ) (p : Pass) → Reads p.read 0 1 (try_lane strip window lane p).read
  unfolding try_lane
  try_reads lane p =
      by_cases (λ (q : Pass). Reads p.read 0 1 q.read) (lane_in window lane)
      (λ e. record { low = omega arith; high = omega arith })
      (λ e. record { low = omega arith; high = omega arith })

  -- so it reads at most a byte to a lane too
  pub refreshed_reads :
      (height : ℕ) (p : Pass) → Reads p.read 0 height (refreshed_from strip height window p).read
  unfolding refreshed_from
  refreshed_reads zero p = record { low = omega arith; high = omega arith }
  refreshed_reads (suc lane) p =
      let q = try_lane strip window lane p in
      let once = try_reads lane p in
      let more = refreshed_reads lane q in
      let a = once.low in
      let b = once.high in
      let c = more.low in
      let d = more.high in
      by_cases (λ (r : Pass). Reads p.read 0 (suc lane) r.read) (failed q)
      (λ e. record { low = omega arith; high = omega arith })
      (λ e. record { low = omega arith; high = omega arith })

  -- one that says no, and did not before, has tried a lane, and so has read a byte
  pub no_reads :
      (height : ℕ) (p : Pass) → p.said ≡ Ok true → (refreshed_from strip height window p).said ≡ Ok false →
      p.read + 1 ≤ (refreshed_from strip height window p).read
  unfolding refreshed_from try_lane
  no_reads zero p y = λ n. absurd (yes_not_no (sym y ∙ n))
  no_reads (suc lane) p y =
      let q = tried p (compared (byte_at strip p.read) lane p.attached) in
      let P : Pass → Type 0 = λ r. r.said ≡ Ok false → p.read + 1 ≤ r.read in
      let more = (refreshed_reads lane q).low in
      by_cases (λ (r : Pass). P (cond (failed r) r (refreshed_from strip lane window r))) (lane_in window lane)
      (λ e. by_cases P (failed q) (λ f n. omega arith) (λ f n. omega arith))
      (λ e. by_cases P (failed p) (λ f n. absurd (yes_not_no (sym y ∙ n))) (λ f. no_reads lane p y))

module _ (strip : List ℕ) (height : ℕ) where
  -- a round reads its refresh's byte, and then at most a byte to a lane
  pub round_reads : (attached window read : ℕ) → Reads read 1 (height + 1) (round strip height attached window read).read
  unfolding round
  round_reads attached window read =
      let f = refreshed (byte_at strip read) attached window in
      let p = refreshed_reads strip f.window height (begun f.attached (read + 1)) in
      by_cases (λ (r : Round). Reads read 1 (height + 1) r.read) (is_err f.said)
      (λ e. record { low = omega arith; high = omega arith })
      (λ e. let a = p.low in let b = p.high in record { low = omega arith; high = omega arith })

  -- a round that says no has read two bytes: its refresh's, and that of a lane tried
  pub round_no_reads :
      (attached window read : ℕ) → (round strip height attached window read).said ≡ Ok false →
      read + 2 ≤ (round strip height attached window read).read
  unfolding round
  round_no_reads attached window read =
      let f = refreshed (byte_at strip read) attached window in
      by_cases (λ (r : Round). r.said ≡ Ok false → read + 2 ≤ r.read) (is_err f.said)
      (λ e n. absurd (error_not_no n))
      (λ e n. let a = no_reads strip f.window height (begun f.attached (read + 1)) refl n in omega arith)

  -- so many rounds read at most that much each
  pub rounds_reads :
      (left made attached window read : ℕ) →
      (rounds strip height left made attached window read).read ≤ read + left * (height + 1)
  unfolding rounds
  rounds_reads zero made attached window read = omega arith
  rounds_reads (suc left) made attached window read =
      let r = round strip height attached window read in
      let once : r.read ≤ read + (height + 1) = (round_reads attached window read).high in
      by_said_lem (λ (e : Ended). e.read ≤ read + suc left * (height + 1)) r.said
      (λ s. omega arith)
      (λ s. let more = rounds_reads left (made + 1) r.attached r.window r.read in omega arith)
      (λ s. omega arith)

  -- and a detach at most a byte to a lane more, for its cached pass
  pub detaching_reads :
      (lent attached window : ℕ) → (detaching strip height lent attached window).read ≤ height + lent * (height + 1)
  unfolding detaching
  detaching_reads lent attached window =
      let p = cached_pass strip height window attached 0 in
      let first : p.read ≤ 0 + height = (cached_reads strip window height attached 0).high in
      by_said_lem (λ (e : Ended). e.read ≤ height + lent * (height + 1)) p.said
      (λ s. omega arith)
      (λ s. let more = rounds_reads lent 0 p.attached window p.read in omega arith)
      (λ s. omega arith)

  -- so at most 32 for its cached pass, and 33 for each round
  pub detaching_most :
      (lent attached window : ℕ) → height ≤ most_lanes →
      (detaching strip height lent attached window).read ≤ most_lanes + lent * (most_lanes + 1)
  detaching_most lent attached window k =
      let all = detaching_reads lent attached window in
      let each : height + 1 ≤ most_lanes + 1 = omega arith in
      let more : lent * (height + 1) ≤ lent * (most_lanes + 1) = mul-le-mul_left lent each in
      omega arith
