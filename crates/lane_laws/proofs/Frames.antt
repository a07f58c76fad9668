-- What is left of the attached lanes: each part of a call only clears lanes, a pass those of its window, and a yes leaves none.
use Prim.Native.Nat.{ℕ, zero, suc, ◌+◌, ◌<◌}
use native.Mathlib.Omega.{arith}
use mathlib.Core.Path.{◌≡◌, refl, sym, ap, ◌∙◌}
use mathlib.Core.List.{List}
use mathlib.Core.Bool.{true, false, Bool}
use mathlib.Core.Logic.{⊎_elim}
use lib.Dec.{eqb}
use Rattle.std.proofs.Common.{Result, Ok, is_err}
use borrow.Author.Tests.{eqb-true, eqb-false}
use Rattle.strips.specs.Strips.{byte_at}
use Rattle.booleans.proofs.Tests.{by_cases, either, clash}
use Rattle.masks.specs.Masks.{lane_in, lowest_cleared, Inside}
use Rattle.masks.proofs.Lanes.{cleared_same, cleared_other, no_lanes, below_bound, lanes_below_lem}
use Rattle.masks.proofs.Lanes.{inside_same, inside_then, inside_cleared, inside_lowest}
use Rattle.lane_rules.specs.Steps.{compared, refreshed, error_met, Compared, Refreshed}
use Rattle.lane_rules.specs.Passes.{failed, cached_pass, try_lane, refreshed_from, Pass}
use Rattle.lane_rules.specs.Rounds.{round, rounds, detaching, Round, Ended}
use Rattle.lane_laws.specs.Clauses.{AllBelow, NoneBelow, Outside, Says}
use Rattle.lane_laws.proofs.Cases.{by_said_lem, no_not_yes, error_not_yes}
use Rattle.lane_laws.proofs.Reading.{begun}
use Rattle.lane_rules.specs.declared.ErrorByte.{ErrorByte}

-- a lane that a mask lacks is in no mask inside it
pub lane_inside : (a b lane : ℕ) → Inside b a → lane_in a lane ≡ false → lane_in b lane ≡ false
lane_inside a b lane i h = ⊎_elim (λ t. absurd (clash (lane_in a lane) (i lane t) h)) (λ f. f) (either (lane_in b lane))

-- the lanes of a mask inside another are below what the other's are below
pub below_inside : (height a b : ℕ) → Inside b a → AllBelow a height → AllBelow b height
below_inside height a b i h lane e = h lane (i lane e)

-- and it has none below a height where the other has none
pub none_inside : (height a b : ℕ) → Inside b a → NoneBelow a height → NoneBelow b height
none_inside height a b i h lane l = lane_inside a b lane i (h lane l)

-- what holds of a lane, and of each below it, holds of each below the next
pub each_next :
    (P : ℕ → Type 0) (lane : ℕ) → P lane → ((other : ℕ) → other < lane → P other) → (other : ℕ) → other < suc lane → P other
each_next P lane p h other l =
    ⊎_elim (λ t. rw (eqb-true other lane t) p) (λ f. let n = eqb-false other lane f in h other (omega arith))
    (either (eqb other lane))

-- none, with one lane more
pub none_next : (lane a : ℕ) → lane_in a lane ≡ false → NoneBelow a lane → NoneBelow a (suc lane)
none_next lane a e h = each_next (λ other. lane_in a other ≡ false) lane e h

-- where all lanes were below the height, and none there is left, the mask is empty
pub none_left : (height a b : ℕ) → Inside b a → AllBelow a height → NoneBelow b height → b ≡ 0
none_left height a b i h n = no_lanes b height (below_bound b height (lanes_below_lem b height (below_inside height a b i h))) n

-- a compare: a yes clears its lane, and there is no other change
pub record CompareLeaves (byte lane attached : ℕ) (c : Compared) : Type 0 where
  pub says : Says byte lane attached c.said
  pub inside : Inside c.attached attached
  pub others : (other : ℕ) → (other ≡ lane → ⊥) → lane_in c.attached other ≡ lane_in attached other
  pub yes : c.said ≡ Ok true → lane_in c.attached lane ≡ false
  pub same : (c.said ≡ Ok true → ⊥) → c.attached ≡ attached

module _ (byte lane attached : ℕ) where
  -- without a yes
  compare_same :
      (said : Result Bool ErrorByte) → (said ≡ Ok true → ⊥) → Says byte lane attached said →
      CompareLeaves byte lane attached (record { said = said; attached = attached })
  compare_same said n k =
      record { says = k; inside = inside_same attached; others = λ other h. refl; yes = λ y. absurd (n y); same = λ h. refl }

  -- whatever its byte
  pub compare_leaves : CompareLeaves byte lane attached (compared byte lane attached)
  unfolding compared
  compare_leaves =
      by_cases (CompareLeaves byte lane attached) (eqb byte 0)
      (λ e. by_cases (CompareLeaves byte lane attached) (lane_in attached lane)
      (λ t. record {
        says = Says.clears (eqb-true byte 0 e) t;
        inside = inside_cleared attached lane;
        others = cleared_other attached lane;
        yes = λ y. cleared_same attached lane;
        same = λ h. absurd (h refl);
      })
      (λ t. compare_same (Ok false) no_not_yes (Says.absent (eqb-true byte 0 e) t)))
      (λ e. by_cases (CompareLeaves byte lane attached) (eqb byte 1)
      (λ t. compare_same (Ok false) no_not_yes (Says.keeps (eqb-true byte 1 t)))
      (λ t.
      let a = eqb-false byte 0 e in
      let b = eqb-false byte 1 t in
      compare_same error_met error_not_yes (Says.fails (omega arith))))

-- a refresh: the window is then what is attached; one that fails changes nothing
pub record RefreshLeaves (attached window : ℕ) (f : Refreshed) : Type 0 where
  pub inside : Inside f.attached attached
  pub sets : is_err f.said ≡ false → f.window ≡ f.attached
  pub fails : is_err f.said ≡ true → (f.attached ≡ attached) × (f.window ≡ window)

-- one that does not fail
refresh_sets :
    (attached window a : ℕ) → Inside a attached →
    RefreshLeaves attached window (record { said = Ok tt; attached = a; window = a })
refresh_sets attached window a i = record { inside = i; sets = λ h. refl; fails = λ h. absurd (clash false h refl) }

-- whatever its byte
pub refresh_leaves : (byte attached window : ℕ) → RefreshLeaves attached window (refreshed byte attached window)
unfolding refreshed
refresh_leaves byte attached window =
    by_cases (RefreshLeaves attached window) (eqb byte 0)
    (λ e. refresh_sets attached window attached (inside_same attached))
    (λ e. by_cases (RefreshLeaves attached window) (eqb byte 1)
    (λ t. refresh_sets attached window (lowest_cleared attached) (inside_lowest attached))
    (λ t. record { inside = inside_same attached; sets = λ h. absurd (clash true refl h); fails = λ h. (refl, refl) }))

-- a pass clears lanes of its window only
pub record Clears (window before after : ℕ) : Type 0 where
  pub inside : Inside after before
  pub outside : Outside window before after

-- no lane
clears_same : (window a : ℕ) → Clears window a a
clears_same window a = record { inside = inside_same a; outside = λ lane h. refl }

-- lanes in two parts
clears_then : (window a b c : ℕ) → Clears window a b → Clears window b c → Clears window a c
clears_then window a b c f g =
    record {
      inside = inside_then c b a g.inside f.inside;
      outside = λ lane h. g.outside lane h ∙ f.outside lane h;
    }

-- by a compare on a lane of the window
clears_lane :
    (window byte lane attached : ℕ) (c : Compared) → lane_in window lane ≡ true → CompareLeaves byte lane attached c →
    Clears window attached c.attached
clears_lane window byte lane attached c e k =
    record {
      inside = k.inside;
      outside = λ other h. k.others other (λ same. clash (lane_in window lane) e (ap (lane_in window) (sym same) ∙ h));
    }

-- a cached pass that says yes leaves no lane below the height attached
pub record CachedLeaves (height window attached : ℕ) (p : Pass) : Type 0 where
  pub clears : Clears window attached p.attached
  pub yes : p.said ≡ Ok true → NoneBelow p.attached height

-- one lane of a refreshed pass: after a yes it was skipped, as it is outside the window
pub record TryLeaves (lane window : ℕ) (p q : Pass) : Type 0 where
  pub clears : Clears window p.attached q.attached
  pub yes : q.said ≡ Ok true → (q ≡ p) × (lane_in window lane ≡ false)

-- a refreshed pass, from where it stands on: after a yes none was tried, as no lane below the height is in the window
pub record RefreshedLeaves (height window : ℕ) (p q : Pass) : Type 0 where
  pub clears : Clears window p.attached q.attached
  pub yes : q.said ≡ Ok true → (q ≡ p) × NoneBelow window height

module _ (strip : List ℕ) (window : ℕ) where
  -- from any lane down
  pub cached_leaves :
      (height attached read : ℕ) → CachedLeaves height window attached (cached_pass strip height window attached read)
  unfolding cached_pass
  cached_leaves zero attached read = record { clears = clears_same window attached; yes = λ y lane l. absurd (omega arith) }
  cached_leaves (suc lane) attached read =
      let c = compared (byte_at strip read) lane attached in
      let leaves = compare_leaves (byte_at strip read) lane attached in
      let more = cached_leaves lane c.attached (read + 1) in
      by_cases (CachedLeaves (suc lane) window attached) (lane_in window lane)
      (λ e.
      let k = clears_lane window _ lane attached c e leaves in
      by_said_lem (CachedLeaves (suc lane) window attached) c.said
      (λ s. record {
        clears = clears_then window attached c.attached _ k more.clears;
        yes = λ y. none_next lane _ (lane_inside c.attached _ lane more.clears.inside (leaves.yes s)) (more.yes y);
      })
      (λ s. record { clears = k; yes = λ y. absurd (no_not_yes y) })
      (λ s. record { clears = k; yes = λ y. absurd (error_not_yes y) }))
      (λ e. record { clears = clears_same window attached; yes = λ y. absurd (no_not_yes y) })

  -- a lane that is tried leaves no yes
  pub try_leaves : (lane : ℕ) (p : Pass) → TryLeaves lane window p (try_lane strip window lane p)
  unfolding try_lane
  try_leaves lane p =
      let c = compared (byte_at strip p.read) lane p.attached in
      let leaves = compare_leaves (byte_at strip p.read) lane p.attached in
      by_cases (TryLeaves lane window p) (lane_in window lane)
      (λ e. record {
        clears = clears_lane window _ lane p.attached c e leaves;
        yes = λ y.
            absurd
            (by_said_lem (λ (s : Result Bool ErrorByte). s ≡ Ok true → ⊥) c.said
            (λ s. no_not_yes) (λ s. no_not_yes) (λ s. error_not_yes) y);
      })
      (λ e. record { clears = clears_same window p.attached; yes = λ y. (refl, e) })

  -- from any lane down, whatever was tried before
  pub refreshed_leaves : (height : ℕ) (p : Pass) → RefreshedLeaves height window p (refreshed_from strip height window p)
  unfolding refreshed_from
  refreshed_leaves zero p =
      record { clears = clears_same window p.attached; yes = λ y. (refl, λ lane l. absurd (omega arith)) }
  refreshed_leaves (suc lane) p =
      let q = try_lane strip window lane p in
      let once = try_leaves lane p in
      let more = refreshed_leaves lane q in
      by_cases (RefreshedLeaves (suc lane) window p) (failed q)
      (λ e. record { clears = once.clears; yes = λ y. absurd (clash false (rw y at e) refl) })
      (λ e. record {
        clears = clears_then window p.attached q.attached _ once.clears more.clears;
        yes = λ y.
            let m = more.yes y in
            let o = once.yes (ap (λ (r : Pass). r.said) (sym m.0) ∙ y) in
            (m.0 ∙ o.0, none_next lane window o.1 m.1);
      })

-- so no lane below the height is attached, where every attached lane was in the window
pub refreshed_yes :
    (height window : ℕ) (p q : Pass) → RefreshedLeaves height window p q → Inside p.attached window → q.said ≡ Ok true →
    NoneBelow q.attached height
refreshed_yes height window p q k i y =
    none_inside height window q.attached (inside_then q.attached p.attached window k.clears.inside i) (k.yes y).1

-- a round that says yes leaves no lane attached
pub record RoundLeaves (height attached : ℕ) (r : Round) : Type 0 where
  pub inside : Inside r.attached attached
  pub yes : AllBelow attached height → r.said ≡ Ok true → r.attached ≡ 0

module _ (strip : List ℕ) (height : ℕ) where
  -- a refresh and a refreshed pass
  pub round_leaves : (attached window read : ℕ) → RoundLeaves height attached (round strip height attached window read)
  unfolding round
  round_leaves attached window read =
      let f = refreshed (byte_at strip read) attached window in
      let p = begun f.attached (read + 1) in
      let once = refresh_leaves (byte_at strip read) attached window in
      let more = refreshed_leaves strip f.window height p in
      by_cases (RoundLeaves height attached) (is_err f.said)
      (λ e. record { inside = once.inside; yes = λ h y. absurd (error_not_yes y) })
      (λ e.
      let i = inside_then _ f.attached attached more.clears.inside once.inside in
      let w : Inside f.attached f.window = λ lane t. rw (once.sets e) t in
      record { inside = i; yes = λ h y. none_left height attached _ i h (refreshed_yes height f.window p _ more w y) })

  -- rounds only clear lanes
  pub rounds_inside :
      (left made attached window read : ℕ) → Inside (rounds strip height left made attached window read).attached attached
  unfolding rounds
  rounds_inside zero made attached window read = inside_same attached
  rounds_inside (suc left) made attached window read =
      let r = round strip height attached window read in
      let once = (round_leaves attached window read).inside in
      let more = rounds_inside left (made + 1) r.attached r.window r.read in
      by_said_lem (λ (e : Ended). Inside e.attached attached) r.said
      (λ s. once)
      (λ s. inside_then _ r.attached attached more once)
      (λ s. once)

  -- and so do the cached pass and the rounds behind it
  pub detaching_inside : (lent attached window : ℕ) → Inside (detaching strip height lent attached window).attached attached
  unfolding detaching
  detaching_inside lent attached window =
      let p = cached_pass strip height window attached 0 in
      let once = (cached_leaves strip window height attached 0).clears.inside in
      let more = rounds_inside lent 0 p.attached window p.read in
      by_said_lem (λ (e : Ended). Inside e.attached attached) p.said
      (λ s. once)
      (λ s. inside_then _ p.attached attached more once)
      (λ s. once)
