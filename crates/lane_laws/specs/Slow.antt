-- How many rounds are always enough, and the strip and the view that need the most.
use Rattle.std.specs.Prelude.{ℕ, zero, suc, ◌≡◌, List, [], ◌∷◌, length, Ok}
use Rattle.lane_rules.specs.declared.View.{View}
use Rattle.lane_rules.specs.Calls.{entry_checks, detach_of}
use Rattle.lane_laws.specs.Ends.{NoErrors, Retired}

-- so many rounds, by the length of the strip, let every detach end retired that passes its checks, if no byte is an error
abbrev pub AlwaysEnough : (ℕ → ℕ) → Type 0
AlwaysEnough few =
    (v : View) (strip : List ℕ) → entry_checks v strip ≡ Ok tt → NoErrors strip →
    Retired (detach_of v strip (few (length strip)))

-- each refresh succeeds, and each compare behind it says no, up to the strip's end
unfoldable pub slow_strip : ℕ → List ℕ
slow_strip zero = []
slow_strip (suc zero) = 0 ∷ []
slow_strip (suc (suc n)) = 0 ∷ 1 ∷ slow_strip n

-- one lane, attached, and not in the window
abbrev pub slow_view : View
slow_view = record { height = 1; guarded = 1; retired = 0; attached = 1; window = 0 }
