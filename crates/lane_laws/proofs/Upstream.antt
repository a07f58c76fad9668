-- Upstream's clauses hold of every step, pass and detach.
use Prim.Native.Nat.{ℕ}
use mathlib.Core.Path.{◌≡◌, refl, sym, ap, ◌∙◌}
use mathlib.Core.List.{List}
use mathlib.Core.Bool.{true, false, Bool}
use Rattle.booleans.proofs.Tests.{clash}
use Rattle.masks.specs.Masks.{Inside}
use Rattle.masks.proofs.Lanes.{no_lane, inside_same}
use Rattle.lane_rules.specs.declared.View.{View}
use Rattle.lane_rules.specs.declared.ErrorByte.{ErrorByte}
use Rattle.lane_rules.specs.declared.Failure.{Failure}
use Rattle.lane_rules.specs.Rounds.{Ended}
use Rattle.lane_rules.specs.Answers.{is_accepted}
use Rattle.lane_rules.specs.Passes.{by_said, cached_pass, try_lane, refreshed_from, Pass}
use Rattle.lane_rules.specs.Calls.{view_with, passed, ended, cached_of, refreshed_of, detach_of}
use Rattle.lane_laws.specs.Clauses.{NoneBelow, Valid, Frame, is_refusal, WindowClauses, CompareClauses, RefreshClauses}
use Rattle.lane_laws.specs.Clauses.{RefreshBegins, RetireClauses, PassClauses, RefreshedClauses, DetachClauses}
use Rattle.lane_laws.specs.Ends.{cached_work, refreshed_work, detach_work, Ends}
use Rattle.lane_laws.proofs.Cases.{no_not_yes, error_not_yes, refusal_not_accepted, yes_told}
use Rattle.lane_laws.proofs.Reading.{begun}
use Rattle.lane_laws.proofs.Entry.{detach_cases, refreshed_cases}
use Rattle.lane_laws.proofs.Frames.{below_inside, compare_leaves, refresh_leaves, Clears, cached_leaves, refreshed_leaves}
use Rattle.lane_laws.proofs.Frames.{refreshed_yes, round_leaves, detaching_inside}
use Rattle.lane_laws.proofs.Exactly.{detaching_ends, accepted_detached, ends_unrefused}
use Rattle.std.proofs.Common.{Result, Ok, Err}

-- a view in which lanes were cleared is in upstream's frame
frame_inside :
    (v : View) (attached window : ℕ) → Inside attached v.attached → Frame v (view_with v attached window v.retired)
frame_inside v attached window i = record { height = refl; guarded = refl; retired = refl; inside = i }

-- one in which nothing changed, too
frame_same : (v : View) → Frame v v
frame_same v = frame_inside v v.attached v.window (inside_same v.attached)

-- a view in which lanes were cleared is valid if it was
valid_inside :
    (v : View) (attached window : ℕ) → Inside attached v.attached → Valid v → Valid (view_with v attached window v.retired)
valid_inside v attached window i r =
    record {
      least = r.least;
      most = r.most;
      guard = r.guard;
      unretired = r.unretired;
      below = below_inside v.height v.attached attached i r.below;
    }

-- window_contains
pub window_clauses : (v : View) (lane : ℕ) → WindowClauses v lane
unfolding cached_pass refreshed_from try_lane
window_clauses v lane =
    record {
      cached_stops = λ h strip attached read. rw h;
      refreshed_skips = λ h strip p ok. rw (h, ok);
      cached_tries = λ h strip attached read. rw h;
      refreshed_tries = λ h strip p. rw h;
    }

-- detach_lane
pub compare_clauses : (v : View) (byte lane : ℕ) → CompareClauses v byte lane
compare_clauses v byte lane =
    let k = compare_leaves byte lane v.attached in
    let f = frame_inside v _ v.window k.inside in
    record {
      valid = valid_inside v _ v.window k.inside;
      frame = f;
      window = refl;
      step = record {
        frame = f;
        window = refl;
        yes = k.yes;
        no = λ s. k.same (λ y. no_not_yes (sym s ∙ y));
        others = k.others;
      };
      errors = λ s. ap (λ a. view_with v a v.window v.retired) (k.same (λ y. error_not_yes (sym s ∙ y)));
      says = k.says;
    }

-- refresh_window
pub refresh_clauses : (v : View) (byte : ℕ) → RefreshClauses v byte
refresh_clauses v byte =
    let k = refresh_leaves byte v.attached v.window in
    record {
      valid = valid_inside v _ _ k.inside;
      frame = frame_inside v _ _ k.inside;
      ok_window = k.sets;
      errors = λ h. rw ((k.fails h).0, (k.fails h).1);
    }

-- each refresh of a detach finds a valid view, if the detach was given one
pub refresh_begins_valid :
    (v : View) (strip : List ℕ) → Valid v → {w : View} {read : ℕ} → RefreshBegins v strip w read → Valid w
refresh_begins_valid v strip r (RefreshBegins.first said) =
    valid_inside v _ v.window (cached_leaves strip v.window v.height v.attached 0).clears.inside r
refresh_begins_valid v strip r (RefreshBegins.next {w} {read} b said) =
    valid_inside w _ _ (round_leaves strip w.height w.attached w.window read).inside (refresh_begins_valid v strip r b)

-- retire_node
pub retire_clauses : (v : View) → RetireClauses v
retire_clauses v = record { retired = refl; attached = refl; height = refl; guarded = λ r. r.guard; window = refl }

-- a pass gives no answer of a check
told_unrefused :
    (s : Result Bool ErrorByte) →
    is_refusal (by_said {A = Result ℕ Failure} s (Ok 1) (Ok 0) (Err (Failure.Offset 0))) ≡ false
told_unrefused (Ok true) = refl
told_unrefused (Ok false) = refl
told_unrefused (Err _) = refl

module _ (v : View) where
  -- a pass that a check refused
  refused_pass : (a : Failure) → is_refusal (Err a) ≡ true → PassClauses v (record { answer = Err a; view = v })
  refused_pass a h =
      record {
        requires_valid = λ n. absurd (clash (is_refusal (Err a)) h n);
        refused = λ e. refl;
        valid = λ r. r;
        frame = frame_same v;
        yes = λ e. absurd (clash (is_refusal (Err a)) h (ap is_refusal e));
        window = refl;
        outside = λ lane n. refl;
      }

  -- a pass that went through the lanes
  worked_pass :
      (p : Pass) → Valid v → Clears v.window v.attached p.attached →
      (p.said ≡ Ok true → NoneBelow p.attached v.height) → PassClauses v (passed v p)
  worked_pass p r k y =
      record {
        requires_valid = λ n. r;
        refused = λ e. absurd (clash _ e (told_unrefused p.said));
        valid = valid_inside v p.attached v.window k.inside;
        frame = frame_inside v p.attached v.window k.inside;
        yes = λ e. y (yes_told p.said e);
        window = refl;
        outside = k.outside;
      }

  -- cached_detach
  pub cached_clauses : (strip : List ℕ) → PassClauses v (cached_of v strip)
  unfolding cached_of
  cached_clauses strip =
      let leaves = cached_leaves strip v.window v.height v.attached 0 in
      detach_cases v strip (PassClauses v) _ refused_pass
      (λ r. worked_pass (cached_work v strip) r leaves.clears leaves.yes)

  -- refreshed_detach
  pub refreshed_clauses : (strip : List ℕ) → RefreshedClauses v (refreshed_of v strip)
  unfolding refreshed_of
  refreshed_clauses strip =
      let p = begun v.attached 0 in
      let q = refreshed_work v strip in
      let leaves = refreshed_leaves strip v.window v.height p in
      refreshed_cases v strip (RefreshedClauses v) _
      (λ a h. record {
        pass = refused_pass a h;
        requires_inside = λ n. absurd (clash (is_refusal (Err a)) h n);
        yes_same = λ e. refl;
      })
      (λ r i. record {
        pass = worked_pass q r leaves.clears (refreshed_yes v.height v.window p q leaves i);
        requires_inside = λ n. i;
        yes_same = λ e.
            ap (λ (w : Pass). view_with v w.attached v.window v.retired) (leaves.yes (yes_told q.said e)).0;
      })

  -- a detach that a check refused
  refused_detach : (a : Failure) → is_refusal (Err a) ≡ true → DetachClauses v (record { answer = Err a; view = v })
  refused_detach a h =
      record {
        requires_valid = λ n. absurd (clash (is_refusal (Err a)) h n);
        refused = λ e. refl;
        height = refl;
        guarded = refl;
        ok_retired = λ e. absurd (never e);
        ok_detached = λ e. absurd (never e);
        ok_attached = λ e. absurd (never e);
        errors = λ e. refl;
        retires = λ e. absurd (never e);
        leaves = λ e. refl;
        loop_detached = λ e. absurd (never e);
        loop_valid = λ r. r;
        loop_height = refl;
        loop_frame = frame_same v;
      }
    where
      never : is_accepted (Err a) ≡ true → ⊥
      never e = clash (is_accepted (Err a)) e (refusal_not_accepted (Err a) h)

  -- a detach that came to its end
  ended_detach :
      (strip : List ℕ) (lent : ℕ) (e : Ended) → Valid v → Inside e.attached v.attached →
      Ends strip lent 0 e.attached e.read e.answer → DetachClauses v (ended v e)
  ended_detach strip lent e r i k =
      let none : is_accepted e.answer ≡ true → NoneBelow e.attached v.height =
      λ a lane l. rw (accepted_detached k a) (no_lane lane) in
      record {
        requires_valid = λ n. r;
        refused = λ n. absurd (clash _ n (ends_unrefused k));
        height = refl;
        guarded = refl;
        ok_retired = λ a. rw a;
        ok_detached = none;
        ok_attached = accepted_detached k;
        errors = λ a. rw a;
        retires = λ a. rw a;
        leaves = λ a. rw a;
        loop_detached = none;
        loop_valid = valid_inside v e.attached e.window i;
        loop_height = refl;
        loop_frame = frame_inside v e.attached e.window i;
      }

  -- detach_before_retire
  pub detach_clauses : (strip : List ℕ) (lent : ℕ) → DetachClauses v (detach_of v strip lent)
  unfolding detach_of
  detach_clauses strip lent =
      let inside = detaching_inside strip v.height lent v.attached v.window in
      detach_cases v strip (DetachClauses v) _ refused_detach
      (λ r. ended_detach strip lent (detach_work v strip lent) r inside
      (detaching_ends strip v.height lent v.attached v.window r.below))
