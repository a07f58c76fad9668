-- Rounds of a refresh and a refreshed pass, until a yes.
use Rattle.std.specs.Prelude.{ℕ, zero, suc, ◌+◌, List, Bool, cond, Result, Ok, Err, is_err}
use Rattle.strips.specs.Strips.{byte_at}
use Rattle.lane_rules.specs.declared.ErrorByte.{ErrorByte}
use Rattle.lane_rules.specs.declared.Failure.{Failure}
use Rattle.lane_rules.specs.Steps.{error_met, refreshed}
use Rattle.lane_rules.specs.Passes.{Pass, by_said, cached_pass, refreshed_pass}

-- what a round says, the two masks that it leaves, and how many bytes of the strip are then read
pub record Round : Type 0 where
  pub said : Result Bool ErrorByte
  pub attached : ℕ
  pub window : ℕ
  pub read : ℕ

-- how a detach ended: the answer with the rounds made, the two masks that it leaves, and how many bytes of the strip are then read
pub record Ended : Type 0 where
  pub answer : Result ℕ Failure
  pub attached : ℕ
  pub window : ℕ
  pub read : ℕ

-- a pass with the window that it went by
abbrev pub pass_with : ℕ → Pass → Round
pass_with window p = record { said = p.said; attached = p.attached; window = window; read = p.read }

-- a refresh, and then a refreshed pass, unless the refresh failed
unfoldable pub round : List ℕ → ℕ → ℕ → ℕ → ℕ → Round
round strip height attached window read =
    let f = refreshed (byte_at strip read) attached window in
    cond (is_err f.said)
    (record { said = error_met; attached = f.attached; window = f.window; read = read + 1 })
    (pass_with f.window (refreshed_pass strip height f.window f.attached (read + 1)))

-- a round as the end of a detach
abbrev pub ended_by : Result ℕ Failure → Round → Ended
ended_by a r = record { answer = a; attached = r.attached; window = r.window; read = r.read }

-- so many rounds are left, and so many made; each refresh begun counts, a failed one too
unfoldable pub rounds : List ℕ → ℕ → ℕ → ℕ → ℕ → ℕ → ℕ → Ended
rounds strip height zero made attached window read =
    record { answer = Err (Failure.Budget made); attached = attached; window = window; read = read }
rounds strip height (suc left) made attached window read =
    let r = round strip height attached window read in
    by_said r.said
    (ended_by (Ok (made + 1)) r)
    (rounds strip height left (made + 1) r.attached r.window r.read)
    (ended_by (Err (Failure.Offset (made + 1))) r)

-- the cached pass, and then rounds until a yes
unfoldable pub detaching : List ℕ → ℕ → ℕ → ℕ → ℕ → Ended
detaching strip height lent attached window =
    let p = cached_pass strip height window attached 0 in
    by_said p.said
    (ended_by (Ok 0) (pass_with window p))
    (rounds strip height lent 0 p.attached window p.read)
    (ended_by (Err (Failure.Offset 0)) (pass_with window p))
