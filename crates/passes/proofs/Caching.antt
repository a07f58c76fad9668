-- The cached pass, turn by turn: where so many lanes are left, the pass from the start is the pass from here.
use Rattle.std.proofs.Common.{◌≡◌, ℕ, suc, ◌+◌, ◌-◌, ◌<◌, List, Bool, true, false, Result, Ok, drop, refl, ap, ◌∙◌, arith}
use Rattle.strips.specs.Strips.{byte_at}
use Rattle.masks.specs.Masks.{lane_in}
use Rattle.lane_rules.specs.declared.ErrorByte.{ErrorByte}
use Rattle.lane_rules.specs.declared.View.{View}
use Rattle.lane_rules.specs.Steps.{error_met, compared}
use Rattle.lane_rules.specs.Passes.{by_said, cached_pass}
use Rattle.lane_laws.specs.Ends.{cached_work}
use Rattle.passes.proofs.Standing.{Standing, Ends, standing_start, next_at, standing_next, ends}

-- so many lanes are left
pub record Caching (strip : List ℕ) (start : View) (rest : List ℕ) (now : View) (lane : ℕ) : Type 0 where
  pub read : ℕ
  pub standing : Standing strip start rest now read
  pub is : cached_work start strip ≡ cached_pass strip lane now.window now.attached read

pub caching_start : (strip : List ℕ) (start : View) → Caching strip start strip start start.height
caching_start strip start = record { read = 0; standing = standing_start strip start; is = refl }

module _ {strip : List ℕ} {start : View} {rest : List ℕ} {now : View} {lane : ℕ}
    (z : Caching strip start rest now lane) where
  -- all lanes are done
  pub caching_end : lane ≡ 0 → Ends strip start rest now (Ok true) (cached_work start strip)
  unfolding cached_pass
  caching_end e = ends z.standing (Ok true) _ (z.is ∙ rw e)

  module _ (h : 0 < lane) where
    turn : cached_work start strip ≡ cached_pass strip (suc (lane - 1)) now.window now.attached z.read
    turn =
        let top : lane ≡ suc (lane - 1) = omega arith in
        z.is ∙ ap (λ (n : ℕ). cached_pass strip n now.window now.attached z.read) top

    -- a lane outside the window
    pub caching_outside :
        lane_in now.window (lane - 1) ≡ false → Ends strip start rest now (Ok false) (cached_work start strip)
    unfolding cached_pass
    caching_outside i = ends z.standing (Ok false) _ (turn ∙ rw i)

    -- a lane inside it is tried by the next byte
    module _ (byte attached : ℕ) (said : Result Bool ErrorByte) (next : List ℕ) (i : lane_in now.window (lane - 1) ≡ true)
        (b : byte ≡ byte_at rest 0) (d : next ≡ drop 1 rest)
        (e : record { said = said; attached = attached } ≡ compared byte (lane - 1) now.attached) where
      tries :
          cached_work start strip ≡ by_said said
          (cached_pass strip (lane - 1) now.window attached (z.read + 1))
          (record { said = Ok false; attached = attached; read = z.read + 1 })
          (record { said = error_met; attached = attached; read = z.read + 1 })
      unfolding cached_pass
      tries = turn ∙ rw (i, ← next_at z.standing byte b, ← e) refl

      -- it was cleared
      pub caching_yes : said ≡ Ok true → Caching strip start next (record now { attached = attached }) (lane - 1)
      caching_yes s =
          record { read = z.read + 1; standing = standing_next z.standing next attached d; is = tries ∙ rw s }

      -- it was not
      pub caching_no :
          said ≡ Ok false → Ends strip start next (record now { attached = attached }) (Ok false) (cached_work start strip)
      caching_no s = ends (standing_next z.standing next attached d) (Ok false) _ (tries ∙ rw s)

      -- an error was met
      pub caching_error :
          said ≡ error_met → Ends strip start next (record now { attached = attached }) error_met (cached_work start strip)
      caching_error s = ends (standing_next z.standing next attached d) error_met _ (tries ∙ rw s)
