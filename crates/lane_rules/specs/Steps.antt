-- One compare and one refresh, by the next byte of the strip.
use Rattle.std.specs.Prelude.{ℕ, Bool, true, false, cond, eqb, Result, Ok, Err}
use Rattle.masks.specs.Masks.{lane_in, cleared, lowest_cleared}
use Rattle.lane_rules.specs.declared.ErrorByte.{ErrorByte}

-- what a compare says, and the attached lanes that it leaves
pub record Compared : Type 0 where
  pub said : Result Bool ErrorByte
  pub attached : ℕ

-- what a refresh says, and the two masks that it leaves
pub record Refreshed : Type 0 where
  pub said : Result Unit ErrorByte
  pub attached : ℕ
  pub window : ℕ

-- that it met an error
abbrev pub error_met : {A : Type 0} → Result A ErrorByte
error_met = Err (record {})

-- byte 0 clears the lane and says yes if it is attached, else no; byte 1 says no; byte 2 is an error
unfoldable pub compared : ℕ → ℕ → ℕ → Compared
compared byte lane attached =
    cond (eqb byte 0)
    (cond (lane_in attached lane)
    (record { said = Ok true; attached = cleared attached lane })
    (record { said = Ok false; attached = attached }))
    (cond (eqb byte 1)
    (record { said = Ok false; attached = attached })
    (record { said = error_met; attached = attached }))

-- byte 0 sets the window to the attached lanes; byte 1 first clears the lowest attached lane, if any; byte 2 is an error, all
-- unchanged
unfoldable pub refreshed : ℕ → ℕ → ℕ → Refreshed
refreshed byte attached window =
    cond (eqb byte 0)
    (record { said = Ok tt; attached = attached; window = attached })
    (cond (eqb byte 1)
    (record { said = Ok tt; attached = lowest_cleared attached; window = lowest_cleared attached })
    (record { said = error_met; attached = attached; window = window }))
