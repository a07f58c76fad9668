-- What each way that the work of a call can go comes to.
use Rattle.std.proofs.Common.{◌≡◌, ℕ, Bool, true, false, Result, Ok, Err, refl}
use Rattle.std.specs.Int.{from_bool}
use Rattle.lane_rules.specs.declared.ErrorByte.{ErrorByte}
use Rattle.lane_rules.specs.declared.Failure.{Failure}
use Rattle.lane_rules.specs.declared.View.{View}
use Rattle.lane_rules.specs.declared.Done.{Done}
use Rattle.lane_rules.specs.Steps.{error_met}
use Rattle.lane_rules.specs.Passes.{Pass}
use Rattle.lane_rules.specs.Rounds.{Ended}
use Rattle.lane_rules.specs.Calls.{unless_refused, view_with, passed, ended}
use Rattle.lane_laws.proofs.Cases.{failure_not_accepted}

-- a refusal leaves the view as it was
pub refused :
    (v : View) (work : Done) (s c : Result Unit Failure) (a : Failure) (t : Result ℕ Failure) → s ≡ c → s ≡ Err a →
    t ≡ Err a →
    record { view = v; answer = t } ≡ unless_refused c v work
refused v work s c a t e h k = rw (← e, h, k) refl

-- and what passes goes on to the work
pub worked :
    (v : View) (work x : Done) (s c : Result Unit Failure) (u : Unit) → s ≡ c → s ≡ Ok u → x ≡ work →
    x ≡ unless_refused c v work
worked v work x s c u e h k = rw (← e, h) k

module _ (v x : View) (p : Pass) (s : Result Bool ErrorByte) (t : Result ℕ Failure) (e : s ≡ p.said)
    (f : x ≡ view_with v p.attached v.window v.retired) where
  -- a pass that said yes or no
  pub pass_told : (b : Bool) → s ≡ Ok b → t ≡ Ok (from_bool b) → record { view = x; answer = t } ≡ passed v p
  pass_told true h k = rw (f, k, ← e, h) refl
  pass_told false h k = rw (f, k, ← e, h) refl

  -- and one that met an error
  pub pass_failed : s ≡ error_met → t ≡ Err (Failure.Offset 0) → record { view = x; answer = t } ≡ passed v p
  pass_failed h k = rw (f, k, ← e, h) refl

module _ (v x : View) (d : Ended) (s : Result ℕ Failure) (e : s ≡ d.answer)
    (f : x ≡ view_with v d.attached d.window v.retired) where
  -- a detach that ended with a yes retires the node
  pub detach_told : (n : ℕ) → s ≡ Ok n → record { view = record x { retired = 1 }; answer = Ok n } ≡ ended v d
  detach_told n h = rw (f, ← e, h) refl

  -- and any other does not
  pub detach_failed :
      (a : Failure) (t : Result ℕ Failure) → s ≡ Err a → t ≡ Err a → record { view = x; answer = t } ≡ ended v d
  detach_failed a t h k = rw (f, k, ← e, h, failure_not_accepted a) refl
