-- The refreshed pass, turn by turn: where so many lanes are left, the pass from the start is the pass from here.
use Rattle.std.proofs.Common.{◌≡◌, ℕ, suc, ◌+◌, ◌-◌, ◌<◌, List, Bool, true, false, cond, Result, Ok, drop, refl, ap, ◌∙◌, arith}
use Rattle.strips.specs.Strips.{byte_at}
use Rattle.masks.specs.Masks.{lane_in}
use Rattle.lane_rules.specs.declared.ErrorByte.{ErrorByte}
use Rattle.lane_rules.specs.declared.View.{View}
use Rattle.lane_rules.specs.Steps.{error_met, compared}
use Rattle.lane_rules.specs.Passes.{Pass, failed, try_lane, refreshed_from}
use Rattle.lane_laws.specs.Ends.{refreshed_work}
use Rattle.passes.proofs.Standing.{Standing, Ends, standing_start, next_at, standing_next, ends}

-- the pass as it stands, where it has tried none, or some
abbrev pub so_far : Bool → ℕ → ℕ → Pass
so_far untried attached read = record { said = Ok untried; attached = attached; read = read }

-- it met no error
untroubled : (untried : Bool) (attached read : ℕ) → failed (so_far untried attached read) ≡ false
untroubled true attached read = refl
untroubled false attached read = refl

-- so many lanes are left
pub record Refreshing (strip : List ℕ) (start : View) (rest : List ℕ) (now : View) (untried : Bool) (lane : ℕ) : Type 0 where
  pub read : ℕ
  pub standing : Standing strip start rest now read
  pub is : refreshed_work start strip ≡ refreshed_from strip lane now.window (so_far untried now.attached read)

pub refreshing_start : (strip : List ℕ) (start : View) → Refreshing strip start strip start true start.height
refreshing_start strip start = record { read = 0; standing = standing_start strip start; is = refl }

module _ {strip : List ℕ} {start : View} {rest : List ℕ} {now : View} {untried : Bool} {lane : ℕ}
    (z : Refreshing strip start rest now untried lane) where
  -- all lanes are done
  pub refreshing_end : lane ≡ 0 → Ends strip start rest now (Ok untried) (refreshed_work start strip)
  unfolding refreshed_from
  refreshing_end e = ends z.standing (Ok untried) _ (z.is ∙ rw e)

  module _ (h : 0 < lane) where
    turn :
        let q = try_lane strip now.window (lane - 1) (so_far untried now.attached z.read) in
        refreshed_work start strip ≡ cond (failed q) q (refreshed_from strip (lane - 1) now.window q)
    unfolding refreshed_from
    turn =
        let top : lane ≡ suc (lane - 1) = omega arith in
        z.is ∙ ap (λ (n : ℕ). refreshed_from strip n now.window (so_far untried now.attached z.read)) top

    -- a lane outside the window is passed over
    pub refreshing_outside : lane_in now.window (lane - 1) ≡ false → Refreshing strip start rest now untried (lane - 1)
    unfolding try_lane
    refreshing_outside i =
        record { read = z.read; standing = z.standing; is = turn ∙ rw (i, untroubled untried now.attached z.read) }

    -- a lane inside it is tried by the next byte
    module _ (byte attached : ℕ) (said : Result Bool ErrorByte) (next : List ℕ) (i : lane_in now.window (lane - 1) ≡ true)
        (b : byte ≡ byte_at rest 0) (d : next ≡ drop 1 rest)
        (e : record { said = said; attached = attached } ≡ compared byte (lane - 1) now.attached) where
      -- whether it was cleared or not
      pub refreshing_tried :
          (cleared : Bool) → said ≡ Ok cleared →
          Refreshing strip start next (record now { attached = attached }) false (lane - 1)
      unfolding try_lane
      refreshing_tried true s =
          record {
            read = z.read + 1;
            standing = standing_next z.standing next attached d;
            is = turn ∙ rw (i, ← next_at z.standing byte b, ← e, s);
          }
      refreshing_tried false s =
          record {
            read = z.read + 1;
            standing = standing_next z.standing next attached d;
            is = turn ∙ rw (i, ← next_at z.standing byte b, ← e, s);
          }

      -- an error was met
      pub refreshing_error :
          said ≡ error_met →
          Ends strip start next (record now { attached = attached }) error_met (refreshed_work start strip)
      unfolding try_lane
      refreshing_error s =
          ends (standing_next z.standing next attached d) error_met _
          (turn ∙ rw (i, ← next_at z.standing byte b, ← e, s))
