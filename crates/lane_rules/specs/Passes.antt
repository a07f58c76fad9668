-- The two passes, each from the top lane down. Neither changes the window.
use Rattle.std.specs.Prelude.{ℕ, zero, suc, ◌+◌, List, Bool, true, false, cond, Result, Ok, Err}
use Rattle.strips.specs.Strips.{byte_at}
use Rattle.masks.specs.Masks.{lane_in}
use Rattle.lane_rules.specs.declared.ErrorByte.{ErrorByte}
use Rattle.lane_rules.specs.Steps.{error_met, compared}

-- what a pass says, the attached lanes that it leaves, and how many bytes of the strip are then read
pub record Pass : Type 0 where
  pub said : Result Bool ErrorByte
  pub attached : ℕ
  pub read : ℕ

-- what comes of a yes, of a no and of an error
abbrev pub by_said : {A : Type 0} → Result Bool ErrorByte → A → A → A → A
by_said (Ok true) on_yes on_no on_error = on_yes
by_said (Ok false) on_yes on_no on_error = on_no
by_said (Err e) on_yes on_no on_error = on_error

-- the cached pass over so many lanes: no at the first lane that is outside the window or is not cleared
unfoldable pub cached_pass : List ℕ → ℕ → ℕ → ℕ → ℕ → Pass
cached_pass strip zero window attached read = record { said = Ok true; attached = attached; read = read }
cached_pass strip (suc lane) window attached read =
    let c = compared (byte_at strip read) lane attached in
    cond (lane_in window lane)
    (by_said c.said
    (cached_pass strip lane window c.attached (read + 1))
    (record { said = Ok false; attached = c.attached; read = read + 1 })
    (record { said = error_met; attached = c.attached; read = read + 1 }))
    (record { said = Ok false; attached = attached; read = read })

-- one lane of the refreshed pass: outside the window it is skipped, and else it is tried, which makes the answer no
unfoldable pub try_lane : List ℕ → ℕ → ℕ → Pass → Pass
try_lane strip window lane p =
    let c = compared (byte_at strip p.read) lane p.attached in
    cond (lane_in window lane)
    (record { said = by_said c.said (Ok false) (Ok false) error_met; attached = c.attached; read = p.read + 1 })
    p

-- it met an error
abbrev pub failed : Pass → Bool
failed p = by_said p.said false false true

-- the refreshed pass over so many lanes, from what it says so far; an error ends it
unfoldable pub refreshed_from : List ℕ → ℕ → ℕ → Pass → Pass
refreshed_from strip zero window p = p
refreshed_from strip (suc lane) window p =
    let q = try_lane strip window lane p in
    cond (failed q) q (refreshed_from strip lane window q)

-- the refreshed pass: it says yes where no lane was tried
abbrev pub refreshed_pass : List ℕ → ℕ → ℕ → ℕ → ℕ → Pass
refreshed_pass strip height window attached read =
    refreshed_from strip height window (record { said = Ok true; attached = attached; read = read })
