-- Where so many bytes of a strip are read, what is left of it is a strip from its start: passes and rounds go on there as they do
-- here, but for the count of bytes read.
use Rattle.std.proofs.Common.{◌≡◌, ℕ, zero, suc, ◌+◌, List, Bool, true, false, cond, is_err, drop, refl, sym, arith}
use Rattle.std.proofs.lemmas.List.{get_or-drop}
use Rattle.strips.specs.Strips.{byte_at}
use Rattle.masks.specs.Masks.{lane_in}
use Rattle.lane_rules.specs.Steps.{refreshed}
use Rattle.lane_rules.specs.Passes.{Pass, failed, try_lane, refreshed_from}
use Rattle.lane_rules.specs.Rounds.{Round, Ended, round, rounds}
use Rattle.lane_laws.proofs.Cases.{by_pairs}
use Rattle.lane_laws.proofs.Reading.{begun}

-- a pass, a round and an end, with so many bytes read besides
abbrev pub pass_ahead : ℕ → Pass → Pass
pass_ahead k p = record p { read = k + p.read }

abbrev pub round_ahead : ℕ → Round → Round
round_ahead k r = record r { read = k + r.read }

abbrev pub ended_ahead : ℕ → Ended → Ended
ended_ahead k e = record e { read = k + e.read }

module _ (strip : List ℕ) (k : ℕ) where
  -- the byte read next
  pub byte_ahead : (read : ℕ) → byte_at strip (k + read) ≡ byte_at (drop k strip) read
  byte_ahead read = sym (get_or-drop k strip read 0)

  -- a choice of two passes
  either_ahead : (b : Bool) (x y : Pass) → cond b (pass_ahead k x) (pass_ahead k y) ≡ pass_ahead k (cond b x y)
  either_ahead true x y = refl
  either_ahead false x y = refl

  -- one lane of a refreshed pass
  try_ahead :
      (window lane : ℕ) (p : Pass) →
      try_lane strip window lane (pass_ahead k p) ≡ pass_ahead k (try_lane (drop k strip) window lane p)
  unfolding try_lane
  try_ahead window lane p =
      let more : k + p.read + 1 ≡ k + (p.read + 1) = omega arith in
      rw (byte_ahead p.read, more) (either_ahead (lane_in window lane) _ p)

  -- the whole of it
  pub refreshed_from_ahead :
      (lane window : ℕ) (p : Pass) →
      refreshed_from strip lane window (pass_ahead k p) ≡ pass_ahead k (refreshed_from (drop k strip) lane window p)
  unfolding refreshed_from
  refreshed_from_ahead zero window p = refl
  refreshed_from_ahead (suc lane) window p =
      let q = try_lane (drop k strip) window lane p in
      rw (try_ahead window lane p, refreshed_from_ahead lane window q) (either_ahead (failed q) q _)

  -- a round
  pub round_from_ahead :
      (height attached window read : ℕ) →
      round strip height attached window (k + read) ≡ round_ahead k (round (drop k strip) height attached window read)
  unfolding round
  round_from_ahead height attached window read =
      let f = refreshed (byte_at (drop k strip) read) attached window in
      let more : k + read + 1 ≡ k + (read + 1) = omega arith in
      let p = begun f.attached (read + 1) in
      rw (byte_ahead read, more, refreshed_from_ahead height f.window p) (go (is_err f.said) _ _)
    where
      go : (b : Bool) (x y : Round) → cond b (round_ahead k x) (round_ahead k y) ≡ round_ahead k (cond b x y)
      go true x y = refl
      go false x y = refl

  -- and so many rounds
  pub rounds_ahead :
      (height left made attached window read : ℕ) →
      rounds strip height left made attached window (k + read)
      ≡ ended_ahead k (rounds (drop k strip) height left made attached window read)
  unfolding rounds
  rounds_ahead height zero made attached window read = refl
  rounds_ahead height (suc left) made attached window read =
      let r = round (drop k strip) height attached window read in
      rw (round_from_ahead height attached window read)
      (by_pairs (λ (x y : Ended). x ≡ ended_ahead k y) r.said
      (λ s. refl)
      (λ s. rounds_ahead height left (made + 1) r.attached r.window r.read)
      (λ s. refl))
