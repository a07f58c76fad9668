-- Where a pass says no, and where it is 24: the cached pass by the first lane from the top that it cannot clear, the refreshed pass
-- by the bytes that it has to read, one to each lane of its window.
use Prim.Native.Nat.{ℕ, zero, suc, ◌+◌, ◌-◌, ◌≤◌, ◌<◌}
use native.Mathlib.Omega.{arith}
use mathlib.Core.Path.{◌≡◌, refl, sym, ap, ◌∙◌}
use mathlib.Core.List.{List}
use mathlib.Core.Bool.{Bool, true, false, cond}
use mathlib.Core.Logic.{◌↔◌, ◌⊎◌, inl, inr, ⊎_elim}
use lib.Dec.{eqb}
use Rattle.std.proofs.Common.{Result, Ok, Err}
use borrow.Author.Tests.{eqb-true, eqb-false, ne_eqb}
use Rattle.strips.specs.Strips.{byte_at}
use Rattle.booleans.proofs.Tests.{by_cases, either, clash}
use Rattle.masks.specs.Masks.{lane_in, cleared, Inside}
use Rattle.masks.proofs.Lanes.{cleared_other}
use Rattle.lane_rules.specs.declared.View.{View}
use Rattle.lane_rules.specs.declared.ErrorByte.{ErrorByte}
use Rattle.lane_rules.specs.declared.Failure.{Failure}
use Rattle.lane_rules.specs.Steps.{compared, error_met, Compared}
use Rattle.lane_rules.specs.Passes.{by_said, failed, cached_pass, try_lane, refreshed_from, Pass}
use Rattle.lane_rules.specs.Calls.{entry_checks, refreshed_checks, cached_of, refreshed_of}
use Rattle.lane_laws.specs.Clauses.{NoneBelow, Says}
use Rattle.lane_laws.specs.Ends.{cached_work, refreshed_work, Clean, Heard}
use Rattle.lane_laws.specs.Ends.{byte_for, ComesTo, NoAt, ErrorAt, SomeNo, SomeError, lanes_tried}
use Rattle.lane_laws.proofs.Cases.{by_said_lem, yes_not_no, error_not_yes, error_not_no, no_told, error_told}
use Rattle.lane_laws.proofs.Reading.{begun, tried, no_reads}
use Rattle.lane_laws.proofs.Frames.{each_next, none_next, compare_leaves, refreshed_leaves}
use Rattle.lane_laws.proofs.Exactly.{refreshed_heard}
use Rattle.lane_laws.proofs.Yes.{said_yes}

-- a no of a compare came at byte 1, or at byte 0 on a lane that is not attached
said_no :
    (byte lane attached : ℕ) {s : Result Bool ErrorByte} → Says byte lane attached s → s ≡ Ok false →
    (byte ≡ 1) ⊎ ((byte ≡ 0) × (lane_in attached lane ≡ false))
said_no byte lane attached (Says.clears b i) e = absurd (yes_not_no e)
said_no byte lane attached (Says.absent b i) e = inr (b, i)
said_no byte lane attached (Says.keeps b) e = inl b
said_no byte lane attached (Says.fails b) e = absurd (error_not_no e)

-- an error of a compare came at a byte above 1
said_error : (byte lane attached : ℕ) {s : Result Bool ErrorByte} → Says byte lane attached s → s ≡ error_met → 1 < byte
said_error byte lane attached (Says.clears b i) e = absurd (error_not_yes (sym e))
said_error byte lane attached (Says.absent b i) e = absurd (error_not_no (sym e))
said_error byte lane attached (Says.keeps b) e = absurd (error_not_no (sym e))
said_error byte lane attached (Says.fails b) e = b

module _ (strip : List ℕ) (window : ℕ) where
  -- a cached pass comes to its top lane
  comes_here : (lane attached read : ℕ) → ComesTo strip window attached read (suc lane) lane
  comes_here lane attached read =
      record {
        under = omega arith;
        in_window = λ above l k. absurd (omega arith);
        is_attached = λ above l k. absurd (omega arith);
        zeros = λ i h k. absurd (omega arith);
      }

  -- and to a lane below it, where it clears the top lane and then comes to that
  comes_next :
      (top attached left read lane : ℕ) → lane_in window top ≡ true → (byte_at strip read ≡ 0) × (lane_in attached top ≡ true) →
      Inside left attached → ComesTo strip window left (read + 1) top lane → ComesTo strip window attached read (suc top) lane
  comes_next top attached left read lane w b i c =
      let low = c.under in
      record {
        under = omega arith;
        in_window = λ above l k.
            each_next (λ other. lane < other → lane_in window other ≡ true) top (λ m. w) (λ other m n. c.in_window other n m)
            above k l;
        is_attached = λ above l k.
            each_next (λ other. lane < other → lane_in attached other ≡ true) top (λ m. b.1)
            (λ other m n. i other (c.is_attached other n m)) above k l;
        zeros = λ at k l.
            ⊎_elim (λ t. rw (eqb-true at read t) b.0)
            (λ f. let n = eqb-false at read f in c.zeros at (omega arith) (omega arith))
            (either (eqb at read));
      }

  -- what a cached pass that ends with a word has met
  abbrev Met : ℕ → ℕ → ℕ → Result Bool ErrorByte → Type 0
  Met attached read height (Ok true) = Unit {0}
  Met attached read height (Ok false) = SomeNo strip window attached read height
  Met attached read height (Err _) = SomeError strip window attached read height

  module _ (top attached left read : ℕ)
      (w : lane_in window top ≡ true) (b : (byte_at strip read ≡ 0) × (lane_in attached top ≡ true))
      (i : Inside left attached) (others : (other : ℕ) → (other ≡ top → ⊥) → lane_in left other ≡ lane_in attached other) where
    -- one lane more, where the top lane is cleared
    met_next : (s : Result Bool ErrorByte) → Met left (read + 1) top s → Met attached read (suc top) s
    met_next (Ok true) m = tt
    met_next (Ok false) m =
        let low = m.1.under in
        let place : byte_for (read + 1) top m.0 ≡ byte_for read (suc top) m.0 = omega arith in
        let here = others m.0 (λ e. omega arith) in
        (m.0, comes_next top attached left read m.0 w b i m.1, rw (place, here) at m.2)
    met_next (Err _) m =
        let low = m.1.under in
        let place : byte_for (read + 1) top m.0 ≡ byte_for read (suc top) m.0 = omega arith in
        (m.0, comes_next top attached left read m.0 w b i m.1, rw place at m.2)

  -- a cached pass, whatever it says
  met : (height attached read : ℕ) → Met attached read height (cached_pass strip height window attached read).said
  unfolding cached_pass
  met zero attached read = tt
  met (suc lane) attached read =
      let byte = byte_at strip read in
      let c = compared byte lane attached in
      let leaves = compare_leaves byte lane attached in
      let next = cached_pass strip lane window c.attached (read + 1) in
      let place : byte_for read (suc lane) lane ≡ read = omega arith in
      let P : Pass → Type 0 = λ p. Met attached read (suc lane) p.said in
      by_cases P (lane_in window lane)
      (λ w. by_said_lem P c.said
      (λ s. met_next lane attached c.attached read w (said_yes byte lane attached leaves.says s) leaves.inside
      leaves.others next.said (met lane c.attached (read + 1)))
      (λ s. (lane, comes_here lane attached read, rw place (inr (said_no byte lane attached leaves.says s))))
      (λ s. (lane, comes_here lane attached read, rw place (w, said_error byte lane attached leaves.says s))))
      (λ w. (lane, comes_here lane attached read, inl w))

  -- a lane less, where the top lane is cleared
  comes_lower :
      (top attached read lane : ℕ) → lane < top → ComesTo strip window attached read (suc top) lane →
      ComesTo strip window (cleared attached top) (read + 1) top lane
  comes_lower top attached read lane low c =
      record {
        under = low;
        in_window = λ above l k. c.in_window above l (omega arith);
        is_attached = λ above l k. cleared_other attached top above (λ e. omega arith) ∙ c.is_attached above l (omega arith);
        zeros = λ i h k. c.zeros i (omega arith) (omega arith);
      }

  -- a cached pass goes on at a lane as one whose top lane that is
  abbrev Down : ℕ → ℕ → ℕ → ℕ → Type 0
  Down height attached read lane =
      (left : ℕ) × (lane_in left lane ≡ lane_in attached lane)
      × (cached_pass strip height window attached read ≡ cached_pass strip (suc lane) window left (byte_for read height lane))

  -- from the top lane on to the next
  down_next :
      (top attached read lane : ℕ) → lane < top → ComesTo strip window attached read (suc top) lane →
      Down top (cleared attached top) (read + 1) lane → Down (suc top) attached read lane
  unfolding cached_pass compared
  down_next top attached read lane low c (left, same, d) =
      let place : byte_for (read + 1) top lane ≡ byte_for read (suc top) lane = omega arith in
      let w = c.in_window top low (omega arith) in
      let b = c.zeros read (omega arith) (omega arith) in
      let i = c.is_attached top low (omega arith) in
      (left, same ∙ cleared_other attached top lane (λ e. omega arith), rw (w, b, i) (rw place at d))

  -- and so to each lane that it comes to
  comes_down :
      (height attached read lane : ℕ) → ComesTo strip window attached read height lane → Down height attached read lane
  comes_down zero attached read lane c = let low = c.under in absurd (omega arith)
  comes_down (suc top) attached read lane c =
      let low = c.under in
      ⊎_elim
      (λ t.
      let here = eqb-true lane top t in
      let place : byte_for read (suc lane) lane ≡ read = omega arith in
      (attached, refl, rw (sym here, place)))
      (λ f.
      let apart = eqb-false lane top f in
      let under : lane < top = omega arith in
      down_next top attached read lane under c
      (comes_down top (cleared attached top) (read + 1) lane (comes_lower top attached read lane under c)))
      (either (eqb lane top))

  -- it says no at a lane outside the window, at byte 1, and at byte 0 on a lane that is not attached
  no_at :
      (lane attached read : ℕ) → NoAt window attached lane (byte_at strip read) →
      (cached_pass strip (suc lane) window attached read).said ≡ Ok false
  unfolding cached_pass compared
  no_at lane attached read n =
      by_cases (λ (p : Pass). p.said ≡ Ok false) (lane_in window lane)
      (λ w. ⊎_elim (λ e. absurd (clash (lane_in window lane) w e))
      (λ m. ⊎_elim (λ b. rw b) (λ b. rw (b.0, b.1)) m) n)
      (λ w. refl)

  -- it meets an error at a lane of the window whose byte is above 1
  error_at :
      (lane attached read : ℕ) → ErrorAt window lane (byte_at strip read) →
      (cached_pass strip (suc lane) window attached read).said ≡ error_met
  unfolding cached_pass compared
  error_at lane attached read h =
      let high = h.1 in
      rw (h.0, ne_eqb (byte_at strip read) 0 (λ e. omega arith), ne_eqb (byte_at strip read) 1 (λ e. omega arith))

  -- so a cached pass that comes to such a lane says no
  cached_no :
      (height attached read : ℕ) → SomeNo strip window attached read height →
      (cached_pass strip height window attached read).said ≡ Ok false
  cached_no height attached read (lane, c, n) =
      let down = comes_down height attached read lane c in
      rw down.2 (no_at lane down.0 (byte_for read height lane) (rw (sym down.1) at n))

  -- and one that comes to a lane of the window with an error byte meets an error
  cached_error :
      (height attached read : ℕ) → SomeError strip window attached read height →
      (cached_pass strip height window attached read).said ≡ error_met
  cached_error height attached read (lane, c, h) =
      let down = comes_down height attached read lane c in
      rw down.2 (error_at lane down.0 (byte_for read height lane) h)

  -- a lane of a refreshed pass takes a byte where it is in the window, and else none
  try_tried : (lane : ℕ) (p : Pass) → (try_lane strip window lane p).read ≡ p.read + cond (lane_in window lane) 1 0
  unfolding try_lane
  try_tried lane p = go (lane_in window lane)
    where
      c : Compared
      c = compared (byte_at strip p.read) lane p.attached

      go : (t : Bool) → (cond t (tried p c) p).read ≡ p.read + cond t 1 0
      go true = refl
      go false = omega arith

  -- so it reads at most a byte to each lane of its window, and all these unless it meets an error
  refreshed_tries_lem :
      (height : ℕ) (p : Pass) →
      let q = refreshed_from strip height window p in
      (q.read ≤ p.read + lanes_tried window height) × (failed q ≡ false → q.read ≡ p.read + lanes_tried window height)
  unfolding refreshed_from lanes_tried
  refreshed_tries_lem zero p = (omega arith, λ ok. omega arith)
  refreshed_tries_lem (suc lane) p =
      let q = try_lane strip window lane p in
      let once = try_tried lane p in
      let more = refreshed_tries_lem lane q in
      let most = more.0 in
      let all = more.1 in
      let tries = p.read + (cond (lane_in window lane) 1 0 + lanes_tried window lane) in
      by_cases (λ (r : Pass). (r.read ≤ tries) × (failed r ≡ false → r.read ≡ tries)) (failed q)
      (λ e. (omega arith, λ ok. absurd (clash (failed q) e ok)))
      (λ e. (omega arith, λ ok. let each = all ok in omega arith))

-- there is none to try exactly where no lane below the height is in the window
pub none_tried : (window height : ℕ) → (lanes_tried window height ≡ 0) ↔ NoneBelow window height
unfolding lanes_tried
none_tried window zero = (λ e lane l. absurd (omega arith), λ n. refl)
none_tried window (suc top) =
    let lower = none_tried window top in (
      λ e. none_next top window (outside (lane_in window top) (omega arith)) (lower.0 (omega arith)),
      λ n. let rest = lower.1 (λ lane l. n lane (omega arith)) in rw (n top (omega arith)) (omega arith),
    )
  where
    outside : (t : Bool) → cond {A = ℕ} t 1 0 ≡ 0 → t ≡ false
    outside true k = absurd (omega arith)
    outside false k = refl

module _ (v : View) (strip : List ℕ) where
  -- the cached pass tells 0 exactly where it comes to a lane that is outside the window, or has byte 1, or has byte 0 and is not
  -- attached
  pub cached_no_exactly :
      entry_checks v strip ≡ Ok tt →
      ((cached_of v strip).answer ≡ Ok 0) ↔ SomeNo strip v.window v.attached 0 v.height
  unfolding cached_of
  cached_no_exactly h = (
    λ e. rw (no_told (cached_work v strip).said (rw h at e)) at (met strip v.window v.height v.attached 0),
    λ n. rw (h, cached_no strip v.window v.height v.attached 0 n),
  )

  -- it is 24 exactly where it comes to a lane of the window whose byte is an error
  pub cached_offset_exactly :
      entry_checks v strip ≡ Ok tt →
      ((cached_of v strip).answer ≡ Err (Failure.Offset 0)) ↔ SomeError strip v.window v.attached 0 v.height
  unfolding cached_of
  cached_offset_exactly h = (
    λ e. rw (error_told (cached_work v strip).said (rw h at e)) at (met strip v.window v.height v.attached 0),
    λ n. rw (h, cached_error strip v.window v.height v.attached 0 n),
  )

  -- how many lanes a refreshed pass tries, unless it meets an error
  abbrev tries : ℕ
  tries = lanes_tried v.window v.height

  -- what a refreshed pass that ends with a word has met; each shuts out the others
  abbrev Tried : Result Bool ErrorByte → Type 0
  Tried (Ok true) = tries ≡ 0
  Tried (Ok false) = (0 < tries) × Clean strip 0 tries
  Tried (Err _) = (i : ℕ) × (i < tries) × (1 < byte_at strip i)

  -- one of them, by what is read and said
  tried_by :
      (read : ℕ) (s : Result Bool ErrorByte) → Heard strip 0 read s → read ≤ tries →
      (by_said s false false true ≡ false → read ≡ tries) →
      (s ≡ Ok true → read ≡ 0) → (s ≡ Ok false → 0 < read) → Tried s
  tried_by read (Ok true) heard most all none some = let a = all refl in let b = none refl in omega arith
  tried_by read (Ok false) heard most all none some =
      let a = all refl in
      let b = some refl in
      (omega arith, rw a at heard)
  tried_by read (Err _) heard most all none some =
      let k = heard.some in (read - 1, omega arith, heard.last)

  -- the one by which it ends
  tried_met : Tried (refreshed_work v strip).said
  tried_met =
      let p = begun v.attached 0 in
      let q = refreshed_work v strip in
      let k = refreshed_tries_lem strip v.window v.height p in
      let most = k.0 in
      let all = k.1 in
      tried_by q.read q.said (refreshed_heard strip v.height v.window p refl) (omega arith)
      (λ ok. let a = all ok in omega arith)
      (λ y. ap (λ (r : Pass). r.read) ((refreshed_leaves strip v.window v.height p).yes y).0)
      (λ n. let a = no_reads strip v.window v.height p refl n in omega arith)

  -- two of them are one
  tried_one : (s t : Result Bool ErrorByte) → Tried s → Tried t → s ≡ t
  tried_one (Ok true) (Ok true) x y = refl
  tried_one (Ok true) (Ok false) x y = let a = y.0 in absurd (omega arith)
  tried_one (Ok true) (Err _) x y = let a = y.1 in absurd (omega arith)
  tried_one (Ok false) (Ok true) x y = let a = x.0 in absurd (omega arith)
  tried_one (Ok false) (Ok false) x y = refl
  tried_one (Ok false) (Err _) x y =
      let a = x.1 y.0 (omega arith) y.1 in
      let b = y.2 in
      absurd (omega arith)
  tried_one (Err _) (Ok true) x y = let a = x.1 in absurd (omega arith)
  tried_one (Err _) (Ok false) x y =
      let a = y.1 x.0 (omega arith) x.1 in
      let b = x.2 in
      absurd (omega arith)
  tried_one (Err _) (Err _) x y = refl

  -- the refreshed pass tells 0 exactly where some lane below the height is in the window, and of the strip's first bytes, one to
  -- each such lane, none is an error
  pub refreshed_no_exactly :
      refreshed_checks v strip ≡ Ok tt →
      ((refreshed_of v strip).answer ≡ Ok 0)
      ↔ ((0 < lanes_tried v.window v.height) × Clean strip 0 (lanes_tried v.window v.height))
  unfolding refreshed_of
  refreshed_no_exactly h = (
    λ e. rw (no_told (refreshed_work v strip).said (rw h at e)) at tried_met,
    λ n. rw (h, tried_one (refreshed_work v strip).said (Ok false) tried_met n),
  )

  -- it is 24 exactly where one of those bytes is an error
  pub refreshed_offset_exactly :
      refreshed_checks v strip ≡ Ok tt →
      ((refreshed_of v strip).answer ≡ Err (Failure.Offset 0))
      ↔ ((i : ℕ) × (i < lanes_tried v.window v.height) × (1 < byte_at strip i))
  unfolding refreshed_of
  refreshed_offset_exactly h = (
    λ e. rw (error_told (refreshed_work v strip).said (rw h at e)) at tried_met,
    λ n. rw (h, tried_one (refreshed_work v strip).said error_met tried_met n),
  )
