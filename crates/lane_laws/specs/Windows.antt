-- The words in which the laws say what a call makes of the window.
use Rattle.std.specs.Prelude.{ℕ, ◌≤◌, ◌<◌, ◌≡◌, List, Ok}
use Rattle.strips.specs.Strips.{byte_at}
use Rattle.masks.specs.Masks.{lanes_below}
use Rattle.lane_rules.specs.declared.View.{View}
use Rattle.lane_rules.specs.declared.Done.{Done}
use Rattle.lane_rules.specs.Calls.{view_with, cached_of}
use Rattle.lane_laws.specs.Ends.{cached_work}

-- the view with another window
abbrev pub with_window : View → ℕ → View
with_window v window = view_with v v.attached window v.retired

-- two windows have the same lanes below the height; at or above it they may differ
abbrev pub AlikeBelow : ℕ → ℕ → ℕ → Type 0
AlikeBelow height a b = lanes_below a height ≡ lanes_below b height

-- two results differ at most in the window that they hand back
pub record SameButWindow (a b : Done) : Type 0 where
  pub answer : b.answer ≡ a.answer
  pub height : b.view.height ≡ a.view.height
  pub guarded : b.view.guarded ≡ a.view.guarded
  pub retired : b.view.retired ≡ a.view.retired
  pub attached : b.view.attached ≡ a.view.attached

-- the first refresh of a detach sets the window: the cached pass says no, a round is lent, and the byte of its refresh is no error
pub record SetsWindow (v : View) (strip : List ℕ) (lent : ℕ) : Type 0 where
  pub no : (cached_of v strip).answer ≡ Ok 0
  pub some : 0 < lent
  pub refreshes : byte_at strip (cached_work v strip).read ≤ 1
