-- Window bits at or above the height are ignored, and the window is handed back as it came unless a refresh set it.
use Prim.Native.Nat.{ℕ, zero, suc, ◌+◌, ◌≤◌, ◌<◌}
use native.Mathlib.Omega.{arith}
use mathlib.Core.Path.{◌≡◌, refl, sym, ap, ◌∙◌}
use mathlib.Core.List.{List}
use mathlib.Core.Bool.{Bool, true, false, not, cond}
use lib.Dec.{eqb, leb}
use Rattle.std.proofs.Common.{Result, Ok, Err}
use borrow.Author.Tests.{ne_eqb, eqb-false, leb-true, leb-false}
use Rattle.strips.specs.Strips.{byte_at}
use Rattle.booleans.proofs.Tests.{clash, equal_tests}
use Rattle.masks.specs.Masks.{lane_in, within}
use Rattle.masks.proofs.Lanes.{below_same, within_lane, lane_within}
use Rattle.lane_rules.specs.declared.View.{View}
use Rattle.lane_rules.specs.declared.Done.{Done}
use Rattle.lane_rules.specs.declared.Failure.{Failure}
use Rattle.lane_rules.specs.Answers.{is_accepted}
use Rattle.lane_rules.specs.Steps.{compared, refreshed}
use Rattle.lane_rules.specs.Passes.{cached_pass, try_lane, refreshed_from, Pass}
use Rattle.lane_rules.specs.Rounds.{round, rounds, detaching, Ended}
use Rattle.lane_rules.specs.Calls.{bad_height, bad_view, bad_window, entry_checks, refreshed_checks, unless_refused, passed, ended}
use Rattle.lane_rules.specs.Calls.{cached_of, refreshed_of, detach_of}
use Rattle.lane_laws.specs.Clauses.{Valid, is_refusal}
use Rattle.lane_laws.specs.Ends.{cached_work, refreshed_work}
use Rattle.lane_laws.specs.Windows.{with_window, AlikeBelow, SameButWindow, SetsWindow}
use Rattle.lane_laws.proofs.Cases.{by_said_lem, by_pairs, no_told}
use Rattle.lane_laws.proofs.Reading.{begun}
use Rattle.lane_laws.proofs.Entry.{passes_valid}
use Rattle.lane_laws.proofs.Exactly.{cached_refused}

module _ (strip : List ℕ) (a b : ℕ) where
  -- a cached pass goes by the lanes of its window below the height
  cached_alike :
      (height attached read : ℕ) → ((lane : ℕ) → lane < height → lane_in a lane ≡ lane_in b lane) →
      cached_pass strip height b attached read ≡ cached_pass strip height a attached read
  unfolding cached_pass
  cached_alike zero attached read f = refl
  cached_alike (suc lane) attached read f =
      let c = compared (byte_at strip read) lane attached in
      rw (f lane (omega arith), cached_alike lane c.attached (read + 1) (λ l k. f l (omega arith)))

  -- and so does a refreshed pass
  refreshed_alike :
      (height : ℕ) (p : Pass) → ((lane : ℕ) → lane < height → lane_in a lane ≡ lane_in b lane) →
      refreshed_from strip height b p ≡ refreshed_from strip height a p
  unfolding refreshed_from try_lane
  refreshed_alike zero p f = refl
  refreshed_alike (suc lane) p f =
      rw (f lane (omega arith), refreshed_alike lane (try_lane strip b lane p) (λ l k. f l (omega arith)))

-- a refresh that does not fail asks nothing of the window before it
refresh_alike : (a b byte attached : ℕ) → byte ≤ 1 → refreshed byte attached b ≡ refreshed byte attached a
unfolding refreshed
refresh_alike a b byte attached h = go (eqb byte 0) refl (eqb byte 1) refl
  where
    go :
        (t : Bool) → eqb byte 0 ≡ t → (u : Bool) → eqb byte 1 ≡ u → refreshed byte attached b ≡ refreshed byte attached a
    go true e u f = rw e
    go false e true f = rw (e, f)
    go false e false f =
        let some = eqb-false byte 0 e in
        let more = eqb-false byte 1 f in
        absurd (omega arith)

-- what is alike of two ends: their answers, and the attached lanes that they leave
abbrev Alike : Ended → Ended → Type 0
Alike x y = (y.answer ≡ x.answer) × (y.attached ≡ x.attached)

module _ (strip : List ℕ) (height : ℕ) where
  -- rounds whose first refresh fails end with it, and change nothing
  rounds_failed :
      (left made attached window read : ℕ) → 1 < byte_at strip read →
      rounds strip height (suc left) made attached window read
      ≡ record { answer = Err (Failure.Offset (made + 1)); attached = attached; window = window; read = read + 1 }
  unfolding rounds round refreshed
  rounds_failed left made attached window read h =
      rw (ne_eqb (byte_at strip read) 0 (λ e. omega arith), ne_eqb (byte_at strip read) 1 (λ e. omega arith))

  -- the others do not depend on the window that they begin with
  rounds_set :
      (a b left made attached read : ℕ) → byte_at strip read ≤ 1 →
      rounds strip height (suc left) made attached b read ≡ rounds strip height (suc left) made attached a read
  unfolding rounds round
  rounds_set a b left made attached read h = rw (refresh_alike a b (byte_at strip read) attached h)

  -- where no round is made, or the first refresh fails, the window is as it was
  rounds_kept :
      (left made attached window read : ℕ) → (0 < left → byte_at strip read ≤ 1 → ⊥) →
      (rounds strip height left made attached window read).window ≡ window
  unfolding rounds
  rounds_kept zero made attached window read f = refl
  rounds_kept (suc left) made attached window read f = go (leb (byte_at strip read) 1) refl
    where
      go :
          (t : Bool) → leb (byte_at strip read) 1 ≡ t →
          (rounds strip height (suc left) made attached window read).window ≡ window
      go true e = absurd (f (omega arith) (leb-true (byte_at strip read) 1 e))
      go false e =
          ap (λ (x : Ended). x.window) (rounds_failed left made attached window read (leb-false (byte_at strip read) 1 e))

  -- rounds from two windows end alike
  rounds_alike :
      (a b left made attached read : ℕ) →
      Alike (rounds strip height left made attached a read) (rounds strip height left made attached b read)
  unfolding rounds
  rounds_alike a b zero made attached read = (refl, refl)
  rounds_alike a b (suc left) made attached read = go (leb (byte_at strip read) 1) refl
    where
      go :
          (t : Bool) → leb (byte_at strip read) 1 ≡ t →
          Alike (rounds strip height (suc left) made attached a read) (rounds strip height (suc left) made attached b read)
      go true e = rw (rounds_set a b left made attached read (leb-true (byte_at strip read) 1 e)) (refl, refl)
      go false e =
          let fails = leb-false (byte_at strip read) 1 e in
          rw (rounds_failed left made attached a read fails, rounds_failed left made attached b read fails) (refl, refl)

  -- a detach hands back the window that it was given, unless it comes to a refresh that does not fail
  detaching_kept :
      (lent attached window : ℕ) →
      let p = cached_pass strip height window attached 0 in
      (p.said ≡ Ok false → 0 < lent → byte_at strip p.read ≤ 1 → ⊥) →
      (detaching strip height lent attached window).window ≡ window
  unfolding detaching
  detaching_kept lent attached window f =
      let p = cached_pass strip height window attached 0 in
      by_said_lem (λ (e : Ended). e.window ≡ window) p.said
      (λ s. refl)
      (λ s. rounds_kept lent 0 p.attached window p.read (f s))
      (λ s. refl)

  module _ (a b : ℕ) (f : (lane : ℕ) → lane < height → lane_in a lane ≡ lane_in b lane) where
    -- two windows alike below the height make two detaches end alike
    detaching_alike :
        (lent attached : ℕ) → Alike (detaching strip height lent attached a) (detaching strip height lent attached b)
    unfolding detaching
    detaching_alike lent attached =
        let p = cached_pass strip height a attached 0 in
        rw (cached_alike strip a b height attached 0 f)
        (by_pairs Alike p.said
        (λ s. (refl, refl))
        (λ s. rounds_alike a b lent 0 p.attached p.read)
        (λ s. (refl, refl)))

    -- and where a refresh sets the window, alike in all
    detaching_set :
        (lent attached : ℕ) →
        let p = cached_pass strip height a attached 0 in
        p.said ≡ Ok false → 0 < lent → byte_at strip p.read ≤ 1 →
        detaching strip height lent attached b ≡ detaching strip height lent attached a
    unfolding detaching
    detaching_set zero attached s some h = absurd (omega arith)
    detaching_set (suc lent) attached s some h =
        let p = cached_pass strip height a attached 0 in
        rw (cached_alike strip a b height attached 0 f, s) (rounds_set a b lent 0 p.attached p.read h)

module _ (v : View) (window : ℕ) where
  -- what a pass leaves differs in the window at most
  pass_same : (p : Pass) → SameButWindow (passed v p) (passed (with_window v window) p)
  pass_same p = record { answer = refl; height = refl; guarded = refl; retired = refl; attached = refl }

  -- and so does what a refused call leaves
  unless_same :
      (c : Result Unit Failure) {x y : Done} → SameButWindow x y →
      SameButWindow (unless_refused c v x) (unless_refused c (with_window v window) y)
  unless_same (Ok _) s = s
  unless_same (Err a) s =
      record { answer = refl; height = refl; guarded = refl; retired = refl; attached = refl }

module _ (v : View) (strip : List ℕ) where
  -- a cached pass that tells 0 was not refused, and said no
  told_no :
      (cached_of v strip).answer ≡ Ok 0 →
      (entry_checks v strip ≡ Ok tt) × ((cached_work v strip).said ≡ Ok false)
  unfolding cached_of
  told_no e = go (entry_checks v strip) refl
    where
      go :
          (c : Result Unit Failure) → entry_checks v strip ≡ c →
          (entry_checks v strip ≡ Ok tt) × ((cached_work v strip).said ≡ Ok false)
      go (Ok _) h = (h, no_told (cached_work v strip).said (rw h at e))
      go (Err a) h =
          let r = cached_refused v strip a h in absurd (clash (is_refusal (Err a)) r.number (ap is_refusal (rw h at e)))

  -- where no refresh sets the window, a detach hands it back as it came; a pass always does (upstream's clause `window`)
  pub detach_window_kept : (lent : ℕ) → (SetsWindow v strip lent → ⊥) → (detach_of v strip lent).view.window ≡ v.window
  unfolding detach_of cached_of
  detach_window_kept lent f = go (entry_checks v strip) refl
    where
      go : (c : Result Unit Failure) → entry_checks v strip ≡ c → (detach_of v strip lent).view.window ≡ v.window
      go (Ok _) h =
          rw h
          (detaching_kept strip v.height lent v.attached v.window
          (λ s some k. f record { no = rw (h, s); some = some; refreshes = k }))
      go (Err a) h = rw h

  module _ (window : ℕ) (alike : AlikeBelow v.height v.window window) where
    -- the same lanes, one by one
    lanes_alike : (lane : ℕ) → lane < v.height → lane_in v.window lane ≡ lane_in window lane
    lanes_alike lane l = below_same v.window window v.height lane alike l

    -- the checks of the cached pass and of detach do not look at the window
    entry_checks_alike : entry_checks (with_window v window) strip ≡ entry_checks v strip
    unfolding entry_checks bad_height bad_view
    entry_checks_alike = refl

    -- 22 looks below the height only, as no attached lane is above it
    bad_window_alike : Valid v → bad_window (with_window v window) ≡ bad_window v
    unfolding bad_window
    bad_window_alike r =
        ap not
        (equal_tests (within v.attached window) (within v.attached v.window)
        (λ t. lane_within v.attached v.window
        (λ lane l i. lanes_alike lane (r.below lane i) ∙ within_lane v.attached window lane t l i))
        (λ t. lane_within v.attached window
        (λ lane l i. sym (lanes_alike lane (r.below lane i)) ∙ within_lane v.attached v.window lane t l i)))

    -- so the checks of the refreshed pass find the same
    refreshed_checks_alike : refreshed_checks (with_window v window) strip ≡ refreshed_checks v strip
    unfolding refreshed_checks bad_height bad_view
    refreshed_checks_alike = go (bad_height v) refl (bad_view v) refl
      where
        go :
            (t : Bool) → bad_height v ≡ t → (u : Bool) → bad_view v ≡ u →
            refreshed_checks (with_window v window) strip ≡ refreshed_checks v strip
        go true h u k = rw h
        go false h true k = rw (h, k)
        go false h false k = rw (bad_window_alike (passes_valid v h k))

    -- the cached pass gives the same answer and leaves the same lanes, whatever bits the window has at or above the height
    pub cached_windows : SameButWindow (cached_of v strip) (cached_of (with_window v window) strip)
    unfolding cached_of
    cached_windows =
        rw (entry_checks_alike, cached_alike strip v.window window v.height v.attached 0 lanes_alike)
        (unless_same v window (entry_checks v strip) (pass_same v window (cached_work v strip)))

    -- and so does the refreshed pass
    pub refreshed_windows : SameButWindow (refreshed_of v strip) (refreshed_of (with_window v window) strip)
    unfolding refreshed_of
    refreshed_windows =
        rw (refreshed_checks_alike, refreshed_alike strip v.window window v.height (begun v.attached 0) lanes_alike)
        (unless_same v window (refreshed_checks v strip) (pass_same v window (refreshed_work v strip)))

    -- and detach
    pub detach_windows : (lent : ℕ) → SameButWindow (detach_of v strip lent) (detach_of (with_window v window) strip lent)
    unfolding detach_of
    detach_windows lent =
        let same = detaching_alike strip v.height v.window window lanes_alike lent v.attached in
        rw entry_checks_alike
        (unless_same v window (entry_checks v strip) record {
          answer = same.0;
          height = refl;
          guarded = refl;
          retired = ap (λ (a : Result ℕ Failure). cond (is_accepted a) 1 v.retired) same.0;
          attached = same.1;
        })

    -- which hands back the same window too, where a refresh sets it
    pub detach_window_set :
        (lent : ℕ) → SetsWindow v strip lent → detach_of (with_window v window) strip lent ≡ detach_of v strip lent
    unfolding detach_of
    detach_window_set lent s =
        let told = told_no s.no in
        rw (entry_checks_alike, told.0)
        (ap (ended v)
        (detaching_set strip v.height v.window window lanes_alike lent v.attached told.1 s.some s.refreshes))
