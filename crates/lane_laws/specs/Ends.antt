-- The words in which the laws say how a pass and a detach end.
use Rattle.std.specs.Prelude.{ℕ, zero, suc, ◌+◌, ◌-◌, ◌/◌, ◌≤◌, ◌<◌, ◌≡◌, List, [], ◌∷◌, true, false, cond, ◌⊎◌, length, Result, Ok, Err, Bool}
use Rattle.strips.specs.Strips.{byte_at}
use Rattle.masks.specs.Masks.{lane_in}
use Rattle.lane_rules.specs.declared.View.{View}
use Rattle.lane_rules.specs.declared.Done.{Done}
use Rattle.lane_rules.specs.declared.ErrorByte.{ErrorByte}
use Rattle.lane_rules.specs.declared.Failure.{Failure}
use Rattle.lane_rules.specs.Answers.{told_of, is_accepted}
use Rattle.lane_rules.specs.Passes.{cached_pass, refreshed_pass, Pass}
use Rattle.lane_rules.specs.Rounds.{detaching, Ended}
use Rattle.lane_rules.specs.Calls.{detach_of}
use Rattle.lane_laws.specs.Clauses.{is_refusal}

-- what a cached pass does past its checks
abbrev pub cached_work : View → List ℕ → Pass
cached_work v strip = cached_pass strip v.height v.window v.attached 0

-- what a refreshed pass does past its checks
abbrev pub refreshed_work : View → List ℕ → Pass
refreshed_work v strip = refreshed_pass strip v.height v.window v.attached 0

-- what a detach does past its checks
abbrev pub detach_work : View → List ℕ → ℕ → Ended
detach_work v strip lent = detaching strip v.height lent v.attached v.window

-- no byte of the strip is an error
abbrev pub NoErrors : List ℕ → Type 0
NoErrors strip = (i : ℕ) → byte_at strip i ≤ 1

-- no byte from one place of the strip up to another is an error
abbrev pub Clean : List ℕ → ℕ → ℕ → Type 0
Clean strip from to = (i : ℕ) → from ≤ i → i < to → byte_at strip i ≤ 1

-- of the bytes from one place up to another the last is an error, and no other
pub record Fault (strip : List ℕ) (from to : ℕ) : Type 0 where
  pub some : from < to
  pub before : Clean strip from (to - 1)
  pub last : 1 < byte_at strip (to - 1)

-- an error is said exactly where the last byte read was one
abbrev pub Heard : List ℕ → ℕ → ℕ → Result Bool ErrorByte → Type 0
Heard strip from to (Ok true) = Clean strip from to
Heard strip from to (Ok false) = Clean strip from to
Heard strip from to (Err _) = Fault strip from to

-- a refusal tells its number and the value 0, and changes nothing
pub record RefusedWith (a : Failure) (v : View) (o : Done) : Type 0 where
  pub number : is_refusal (Err a) ≡ true
  pub value : (told_of (Err a)).value ≡ 0
  pub same : o ≡ record { answer = Err a; view = v }

-- each lane below the height is in the window and attached, and each byte for it, from a place on, is 0
pub record AllCleared (strip : List ℕ) (window attached read height : ℕ) : Type 0 where
  pub in_window : (lane : ℕ) → lane < height → lane_in window lane ≡ true
  pub is_attached : (lane : ℕ) → lane < height → lane_in attached lane ≡ true
  pub zeros : (i : ℕ) → read ≤ i → i < read + height → byte_at strip i ≡ 0

-- the place of the byte for a lane, where each lane above it has taken one
abbrev pub byte_for : ℕ → ℕ → ℕ → ℕ
byte_for read height lane = read + (height - suc lane)

-- a cached pass comes down to a lane: each lane above it is in the window and attached, and each byte for those is 0
pub record ComesTo (strip : List ℕ) (window attached read height lane : ℕ) : Type 0 where
  pub under : lane < height
  pub in_window : (above : ℕ) → lane < above → above < height → lane_in window above ≡ true
  pub is_attached : (above : ℕ) → lane < above → above < height → lane_in attached above ≡ true
  pub zeros : (i : ℕ) → read ≤ i → i < byte_for read height lane → byte_at strip i ≡ 0

-- and there it says no: the lane is outside the window, or its byte is 1, or its byte is 0 and it is not attached
abbrev pub NoAt : ℕ → ℕ → ℕ → ℕ → Type 0
NoAt window attached lane byte =
    (lane_in window lane ≡ false) ⊎ ((byte ≡ 1) ⊎ ((byte ≡ 0) × (lane_in attached lane ≡ false)))

-- or there it meets an error: the lane is in the window, and its byte is above 1
abbrev pub ErrorAt : ℕ → ℕ → ℕ → Type 0
ErrorAt window lane byte = (lane_in window lane ≡ true) × (1 < byte)

-- a lane at which a cached pass says no
abbrev pub SomeNo : List ℕ → ℕ → ℕ → ℕ → ℕ → Type 0
SomeNo strip window attached read height =
    (lane : ℕ) × ComesTo strip window attached read height lane
    × NoAt window attached lane (byte_at strip (byte_for read height lane))

-- a lane at which it meets an error
abbrev pub SomeError : List ℕ → ℕ → ℕ → ℕ → ℕ → Type 0
SomeError strip window attached read height =
    (lane : ℕ) × ComesTo strip window attached read height lane
    × ErrorAt window lane (byte_at strip (byte_for read height lane))

-- how many lanes below the height are in the window: so many bytes has a refreshed pass to read
unfoldable pub lanes_tried : ℕ → ℕ → ℕ
lanes_tried window zero = 0
lanes_tried window (suc lane) = cond (lane_in window lane) 1 0 + lanes_tried window lane

-- a pass ends with a yes and no lane attached, with a no, or at an error byte
pub data PassEnds (strip : List ℕ) (attached read : ℕ) : Result ℕ Failure → Type 0 where
  said_yes : attached ≡ 0 → Clean strip 0 read → PassEnds strip attached read (Ok 1)
  said_no : Clean strip 0 read → PassEnds strip attached read (Ok 0)
  said_error : Fault strip 0 read → PassEnds strip attached read (Err (Failure.Offset 0))

-- at most `lent` rounds, from byte `from` on, end with a yes and no lane attached, or at an error byte, or when all are used up
pub data Ends (strip : List ℕ) (lent from attached read : ℕ) : Result ℕ Failure → Type 0 where
  yes : (n : ℕ) → n ≤ lent → attached ≡ 0 → Clean strip from read → Ends strip lent from attached read (Ok n)
  error : (n : ℕ) → n ≤ lent → Fault strip from read → Ends strip lent from attached read (Err (Failure.Offset n))
  spent : Clean strip from read → Ends strip lent from attached read (Err (Failure.Budget lent))

-- not 24: it met no storage error
abbrev pub MetNoError : Result ℕ Failure → Type 0
MetNoError a = (n : ℕ) → a ≡ Err (Failure.Offset n) → ⊥

-- not 25: its rounds were enough
abbrev pub HadRounds : Result ℕ Failure → Type 0
HadRounds a = (n : ℕ) → a ≡ Err (Failure.Budget n) → ⊥

-- the node is retired, and no lane leads to it
pub record Retired (o : Done) : Type 0 where
  pub accepted : is_accepted o.answer ≡ true
  pub retired : o.view.retired ≡ 1
  pub detached : o.view.attached ≡ 0

-- the rounds that a detach makes where enough are lent
abbrev pub rounds_needed : View → List ℕ → ℕ
rounds_needed v strip = (told_of (detach_of v strip (length strip / 2 + 2)).answer).value

-- the numbers that a cached pass answers with
abbrev pub cached_numbers : List ℕ
cached_numbers = 0 ∷ 20 ∷ 21 ∷ 23 ∷ 24 ∷ []

-- and a refreshed pass
abbrev pub refreshed_numbers : List ℕ
refreshed_numbers = 0 ∷ 20 ∷ 21 ∷ 22 ∷ 23 ∷ 24 ∷ []

-- and a detach
abbrev pub detach_numbers : List ℕ
detach_numbers = 0 ∷ 20 ∷ 21 ∷ 23 ∷ 24 ∷ 25 ∷ []
