-- Past the strip's end every byte is 0: there one round clears all lanes, and the next says yes.
use Prim.Native.Nat.{ℕ, zero, suc, ◌+◌, ◌≤◌}
use native.Mathlib.Omega.{arith}
use mathlib.Core.Path.{◌≡◌, refl, ap}
use mathlib.Core.List.{List}
use mathlib.Core.Bool.{false, true}
use lib.ListN.{length, get_or-eq_default}
use Rattle.std.proofs.Common.{Ok, is_err}
use Rattle.strips.specs.Strips.{byte_at}
use Rattle.booleans.proofs.Tests.{by_cases}
use Rattle.masks.specs.Masks.{lane_in, Inside}
use Rattle.masks.proofs.Lanes.{cleared_same, no_lane, inside_then}
use Rattle.lane_rules.specs.Steps.{compared, refreshed, Compared}
use Rattle.lane_rules.specs.Passes.{failed, try_lane, refreshed_from, Pass}
use Rattle.lane_rules.specs.Rounds.{round, Round}
use Rattle.lane_laws.specs.Clauses.{AllBelow, NoneBelow}
use Rattle.lane_laws.proofs.Cases.{error_not_no}
use Rattle.lane_laws.proofs.Reading.{begun, tried, try_reads}
use Rattle.lane_laws.proofs.Frames.{lane_inside, none_next, none_left, refresh_leaves, try_leaves, refreshed_leaves}

-- past its end a strip reads 0
pub past_end : (strip : List ℕ) (read : ℕ) → length strip ≤ read → byte_at strip read ≡ 0
past_end strip read h = get_or-eq_default strip 0 h

module _ (strip : List ℕ) (window : ℕ) where
  -- a lane of a refreshed pass is then cleared, if it was attached, and there is no error
  try_clears :
      (lane : ℕ) (p : Pass) → failed p ≡ false → length strip ≤ p.read → Inside p.attached window →
      let q = try_lane strip window lane p in
      (failed q ≡ false) × (lane_in q.attached lane ≡ false)
  unfolding try_lane compared
  try_clears lane p ok past i =
      let P : Pass → Type 0 = λ q. (failed q ≡ false) × (lane_in q.attached lane ≡ false) in
      by_cases P (lane_in window lane)
      (λ e. rw (past_end strip p.read past)
      (by_cases (λ (c : Compared). P (tried p c)) (lane_in p.attached lane)
      (λ t. (refl, cleared_same p.attached lane))
      (λ t. (refl, t))))
      (λ e. (ok, lane_inside window p.attached lane i e))

  -- so a refreshed pass leaves none attached, where every attached lane was in its window
  clears_all :
      (height : ℕ) (p : Pass) → failed p ≡ false → length strip ≤ p.read → Inside p.attached window →
      NoneBelow (refreshed_from strip height window p).attached height
  unfolding refreshed_from
  clears_all zero p ok past i = λ lane l. absurd (omega arith)
  clears_all (suc lane) p ok past i =
      let q = try_lane strip window lane p in
      let once = try_clears lane p ok past i in
      let on = (try_reads strip window lane p).low in
      let w = inside_then q.attached p.attached window (try_leaves strip window lane p).clears.inside i in
      let more = (refreshed_leaves strip window lane q).clears.inside in
      rw once.0
      (none_next lane _ (lane_inside q.attached _ lane more once.1) (clears_all lane q once.0 (omega arith) w))

-- a window with no lane below the height leaves all as it is
pub nothing_tried :
    (strip : List ℕ) (window height : ℕ) (p : Pass) → NoneBelow window height → failed p ≡ false →
    refreshed_from strip height window p ≡ p
unfolding refreshed_from try_lane
nothing_tried strip window zero p none ok = refl
nothing_tried strip window (suc lane) p none ok =
    rw (none lane (omega arith), ok) (nothing_tried strip window lane p (λ other l. none other (omega arith)) ok)

-- a round that says no leaves no lane, where its compares lie past the strip's end; its refresh may still read the last byte
pub round_no :
    (strip : List ℕ) (height attached window read : ℕ) →
    let r = round strip height attached window read in
    length strip ≤ read + 1 → AllBelow attached height → r.said ≡ Ok false → r.attached ≡ 0
unfolding round
round_no strip height attached window read past h =
    let f = refreshed (byte_at strip read) attached window in
    let p = begun f.attached (read + 1) in
    let once = refresh_leaves (byte_at strip read) attached window in
    let more = (refreshed_leaves strip f.window height p).clears.inside in
    by_cases (λ (r : Round). r.said ≡ Ok false → r.attached ≡ 0) (is_err f.said)
    (λ e n. absurd (error_not_no n))
    (λ e n.
    let w : Inside f.attached f.window = λ lane t. rw (once.sets e) t in
    none_left height attached _ (inside_then _ f.attached attached more once.inside) h
    (clears_all strip f.window height p refl past w))

-- with no lane left, a round past the strip's end says yes
pub last_round :
    (strip : List ℕ) (height window read : ℕ) → length strip ≤ read → (round strip height 0 window read).said ≡ Ok true
unfolding round refreshed
last_round strip height window read past =
    let same = nothing_tried strip 0 height (begun 0 (read + 1)) (λ lane l. no_lane lane) refl in
    rw (past_end strip read past) (ap (λ (q : Pass). q.said) same)
