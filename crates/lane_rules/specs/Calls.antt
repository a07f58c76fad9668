-- The three calls: the checks at entry in their order, then the work, and what is left in the view.
use Rattle.std.specs.Prelude.{ℕ, List, Bool, cond, not, ◌||◌, eqb, ltb, Result, Ok, Err}
use Rattle.strips.specs.Strips.{proper_strip}
use Rattle.masks.specs.Masks.{most_lanes, lanes_below, within}
use Rattle.lane_rules.specs.declared.Done.{Done}
use Rattle.lane_rules.specs.declared.View.{View}
use Rattle.lane_rules.specs.declared.Failure.{Failure}
use Rattle.lane_rules.specs.Answers.{is_accepted}
use Rattle.lane_rules.specs.Passes.{Pass, by_said, cached_pass, refreshed_pass}
use Rattle.lane_rules.specs.Rounds.{Ended, detaching}

-- 20 HEIGHT: 0 or above 32
unfoldable pub bad_height : View → Bool
bad_height v = eqb v.height 0 || ltb most_lanes v.height

-- 21 VIEW: not guarded, retired, or attached bit at or above height
unfoldable pub bad_view : View → Bool
bad_view v =
    not (eqb v.guarded 1) || not (eqb v.retired 0) || not (eqb (lanes_below v.attached v.height) v.attached)

-- 22 WINDOW: attached not within window
unfoldable pub bad_window : View → Bool
bad_window v = not (within v.attached v.window)

-- 23 STRIP: over 1,024 bytes or byte above 2
unfoldable pub bad_strip : List ℕ → Bool
bad_strip strip = not (proper_strip strip)

-- the failure where its test applies, and else what comes next
abbrev pub refuse : Bool → Failure → Result Unit Failure → Result Unit Failure
refuse applies a next = cond applies (Err a) next

-- the checks of the cached pass and of detach: the first that applies is given
unfoldable pub entry_checks : View → List ℕ → Result Unit Failure
entry_checks v strip =
    refuse (bad_height v) Failure.Height
    (refuse (bad_view v) Failure.View
    (refuse (bad_strip strip) Failure.Strip (Ok tt)))

-- the checks of the refreshed pass
unfoldable pub refreshed_checks : View → List ℕ → Result Unit Failure
refreshed_checks v strip =
    refuse (bad_height v) Failure.Height
    (refuse (bad_view v) Failure.View
    (refuse (bad_window v) Failure.Window
    (refuse (bad_strip strip) Failure.Strip (Ok tt))))

-- the outcome of a refusal, which changes nothing, or else that of the work
abbrev pub unless_refused : Result Unit Failure → View → Done → Done
unless_refused (Ok e) v work = work
unless_refused (Err a) v work = record { answer = Err a; view = v }

-- the view with other masks and another retired flag
abbrev pub view_with : View → ℕ → ℕ → ℕ → View
view_with v attached window retired =
    record { height = v.height; guarded = v.guarded; retired = retired; attached = attached; window = window }

-- a pass: yes tells 1, no tells 0, an error is 24 and no round was made
abbrev pub passed : View → Pass → Done
passed v p =
    record {
      answer = by_said p.said (Ok 1) (Ok 0) (Err (Failure.Offset 0));
      view = view_with v p.attached v.window v.retired;
    }

-- a detach: the node is retired exactly where it ended with a yes
abbrev pub ended : View → Ended → Done
ended v e =
    record { answer = e.answer; view = view_with v e.attached e.window (cond (is_accepted e.answer) 1 v.retired) }

-- the cached pass as a call
unfoldable pub cached_of : View → List ℕ → Done
cached_of v strip =
    unless_refused (entry_checks v strip) v (passed v (cached_pass strip v.height v.window v.attached 0))

-- the refreshed pass as a call
unfoldable pub refreshed_of : View → List ℕ → Done
refreshed_of v strip =
    unless_refused (refreshed_checks v strip) v (passed v (refreshed_pass strip v.height v.window v.attached 0))

-- detach, with so many rounds lent
unfoldable pub detach_of : View → List ℕ → ℕ → Done
detach_of v strip lent =
    unless_refused (entry_checks v strip) v (ended v (detaching strip v.height lent v.attached v.window))
