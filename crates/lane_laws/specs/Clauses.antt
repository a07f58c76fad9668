-- Upstream's contracts of the lane functions, clause by clause, said of the views that the rules leave.
use Rattle.std.specs.Prelude.{ℕ, suc, ◌+◌, ◌<◌, ◌≤◌, ◌≡◌, List, Bool, true, false, ◌&&◌, leb, Result, Ok, Err, is_err}
use Rattle.strips.specs.Strips.{proper_strip, byte_at}
use Rattle.masks.specs.Masks.{most_lanes, lane_in, Inside}
use Rattle.lane_rules.specs.declared.View.{View}
use Rattle.lane_rules.specs.declared.Done.{Done}
use Rattle.lane_rules.specs.declared.ErrorByte.{ErrorByte}
use Rattle.lane_rules.specs.declared.Failure.{Failure}
use Rattle.lane_rules.specs.Answers.{told_of, is_accepted}
use Rattle.lane_rules.specs.Steps.{compared, refreshed, error_met}
use Rattle.lane_rules.specs.Passes.{by_said, failed, cached_pass, try_lane, refreshed_from, Pass}
use Rattle.lane_rules.specs.Rounds.{round, Round}
use Rattle.lane_rules.specs.Calls.{bad_height, bad_view, view_with}

-- each lane of the mask is below the height
abbrev pub AllBelow : ℕ → ℕ → Type 0
AllBelow mask height = (lane : ℕ) → lane_in mask lane ≡ true → lane < height

-- no lane below the height is in the mask
abbrev pub NoneBelow : ℕ → ℕ → Type 0
NoneBelow mask height = (lane : ℕ) → lane < height → lane_in mask lane ≡ false

-- each lane outside the window is as before
abbrev pub Outside : ℕ → ℕ → ℕ → Type 0
Outside window before after = (lane : ℕ) → lane_in window lane ≡ false → lane_in after lane ≡ lane_in before lane

-- valid: what upstream requires of a caller; here it is checked, and else refused
pub record Valid (v : View) : Type 0 where
  -- the height is above 0
  pub least : 0 < v.height
  -- and at most 32
  pub most : v.height ≤ most_lanes
  -- guarded and pinned
  pub guard : v.guarded ≡ 1
  -- not retired
  pub unretired : v.retired ≡ 0
  -- every attached lane is below the height
  pub below : AllBelow v.attached v.height

-- detached: no lane below the height is attached
abbrev pub Detached : View → Type 0
Detached v = NoneBelow v.attached v.height

-- frame; contents are no part of a view: the calls are lent them for reading only
pub record Frame (a b : View) : Type 0 where
  -- the height stays
  pub height : b.height ≡ a.height
  -- the guard flag stays
  pub guarded : b.guarded ≡ a.guarded
  -- the retired flag stays
  pub retired : b.retired ≡ a.retired
  -- no lane becomes attached
  pub inside : Inside b.attached a.attached

-- cas_step
pub record CasStep (a b : View) (lane : ℕ) (said : Result Bool ErrorByte) : Type 0 where
  -- as frame says
  pub frame : Frame a b
  -- the window stays
  pub window : b.window ≡ a.window
  -- after a yes the lane is not attached
  pub yes : said ≡ Ok true → lane_in b.attached lane ≡ false
  -- after a no the attached lanes are as before
  pub no : said ≡ Ok false → b.attached ≡ a.attached
  -- every other lane is as before
  pub others : (other : ℕ) → (other ≡ lane → ⊥) → lane_in b.attached other ≡ lane_in a.attached other

-- what a compare says, and where; each constructor shuts out the others
pub data Says (byte lane attached : ℕ) : Result Bool ErrorByte → Type 0 where
  clears : byte ≡ 0 → lane_in attached lane ≡ true → Says byte lane attached (Ok true)
  absent : byte ≡ 0 → lane_in attached lane ≡ false → Says byte lane attached (Ok false)
  keeps : byte ≡ 1 → Says byte lane attached (Ok false)
  fails : 1 < byte → Says byte lane attached error_met

-- the view that a compare on a lane leaves
abbrev pub compared_of : View → ℕ → ℕ → View
compared_of v byte lane = view_with v (compared byte lane v.attached).attached v.window v.retired

-- the view that a refresh leaves
abbrev pub refreshed_by : View → ℕ → View
refreshed_by v byte =
    let f = refreshed byte v.attached v.window in view_with v f.attached f.window v.retired

-- the view that a cached pass leaves
abbrev pub cached_by : View → List ℕ → View
cached_by v strip =
    view_with v (cached_pass strip v.height v.window v.attached 0).attached v.window v.retired

-- what a round does with the view, from so many bytes on
abbrev pub round_from : View → List ℕ → ℕ → Round
round_from v strip read = round strip v.height v.attached v.window read

-- the view that it leaves
abbrev pub round_by : View → List ℕ → ℕ → View
round_by v strip read = view_with v (round_from v strip read).attached (round_from v strip read).window v.retired

-- where the refreshes of a detach begin, as view and bytes read: after a cached pass that says no, and after each round that does
pub data RefreshBegins (v : View) (strip : List ℕ) : View → ℕ → Type 0 where
  first :
      (cached_pass strip v.height v.window v.attached 0).said ≡ Ok false →
      RefreshBegins v strip (cached_by v strip) (cached_pass strip v.height v.window v.attached 0).read
  next :
      {w : View} {read : ℕ} → RefreshBegins v strip w read → (round_from w strip read).said ≡ Ok false →
      RefreshBegins v strip (round_by w strip read) (round_from w strip read).read

-- the view once the node is retired
abbrev pub retired_of : View → View
retired_of v = view_with v v.attached v.window 1

-- the view that the rounds of a detach left, before the node was retired
abbrev pub before_retiring : View → Done → View
before_retiring v o = view_with v o.view.attached o.view.window v.retired

-- 20 to 23: what a check refuses with
abbrev pub is_refusal : Result ℕ Failure → Bool
is_refusal a = leb 20 (told_of a).answer && leb (told_of a).answer 23

-- what the checks at entry find, with what is asked of the window; each constructor shuts out the others
pub data Entry (v : View) (Asked : Type 0) (strip : List ℕ) : Result Unit Failure → Type 0 where
  height : bad_height v ≡ true → Entry v Asked strip (Err Failure.Height)
  view : bad_height v ≡ false → bad_view v ≡ true → Entry v Asked strip (Err Failure.View)
  window : Valid v → (Asked → ⊥) → Entry v Asked strip (Err Failure.Window)
  bytes : Valid v → Asked → proper_strip strip ≡ false → Entry v Asked strip (Err Failure.Strip)
  passes : Valid v → Asked → proper_strip strip ≡ true → Entry v Asked strip (Ok tt)

-- of the cached pass and of detach, which ask nothing of it
abbrev pub DetachEntry : View → List ℕ → Result Unit Failure → Type 0
DetachEntry v = Entry v (Unit {0})

-- of the refreshed pass, which asks that every attached lane is in it
abbrev pub RefreshedEntry : View → List ℕ → Result Unit Failure → Type 0
RefreshedEntry v = Entry v (Inside v.attached v.window)

-- window_contains: at each lane a pass goes by whether the window has it, and by nothing else
pub record WindowClauses (v : View) (lane : ℕ) : Type 0 where
  -- a cached pass says no at a lane outside the window
  pub cached_stops :
      lane_in v.window lane ≡ false → (strip : List ℕ) (attached read : ℕ) →
      cached_pass strip (suc lane) v.window attached read ≡ record { said = Ok false; attached = attached; read = read }
  -- a refreshed pass, in which no error was met so far, goes on to the next
  pub refreshed_skips :
      lane_in v.window lane ≡ false → (strip : List ℕ) (p : Pass) → failed p ≡ false →
      refreshed_from strip (suc lane) v.window p ≡ refreshed_from strip lane v.window p
  -- a cached pass tries a lane in the window, and goes on where the compare says yes
  pub cached_tries :
      lane_in v.window lane ≡ true → (strip : List ℕ) (attached read : ℕ) →
      let c = compared (byte_at strip read) lane attached in
      cached_pass strip (suc lane) v.window attached read ≡
      by_said c.said (cached_pass strip lane v.window c.attached (read + 1))
      (record { said = Ok false; attached = c.attached; read = read + 1 })
      (record { said = error_met; attached = c.attached; read = read + 1 })
  -- a refreshed pass tries it too, and no longer says yes
  pub refreshed_tries :
      lane_in v.window lane ≡ true → (strip : List ℕ) (p : Pass) →
      let c = compared (byte_at strip p.read) lane p.attached in
      try_lane strip v.window lane p ≡
      record { said = by_said c.said (Ok false) (Ok false) error_met; attached = c.attached; read = p.read + 1 }

-- detach_lane, of any view and any lane
pub record CompareClauses (v : View) (byte lane : ℕ) : Type 0 where
  -- a valid view stays valid
  pub valid : Valid v → Valid (compared_of v byte lane)
  -- as frame says
  pub frame : Frame v (compared_of v byte lane)
  -- the window stays
  pub window : (compared_of v byte lane).window ≡ v.window
  -- as cas_step says, with an error too
  pub step : CasStep v (compared_of v byte lane) lane (compared byte lane v.attached).said
  -- with an error the attached lanes are as before, and so is all else
  pub errors : (compared byte lane v.attached).said ≡ error_met → compared_of v byte lane ≡ v
  -- yes, no and error come by the byte; upstream leaves open which
  pub says : Says byte lane v.attached (compared byte lane v.attached).said

-- refresh_window, of any view
pub record RefreshClauses (v : View) (byte : ℕ) : Type 0 where
  -- a valid view stays valid
  pub valid : Valid v → Valid (refreshed_by v byte)
  -- as frame says
  pub frame : Frame v (refreshed_by v byte)
  -- without an error the window is then the attached lanes
  pub ok_window :
      is_err (refreshed byte v.attached v.window).said ≡ false →
      (refreshed_by v byte).window ≡ (refreshed_by v byte).attached
  -- with an error all is as before; upstream leaves the window open
  pub errors : is_err (refreshed byte v.attached v.window).said ≡ true → refreshed_by v byte ≡ v

-- retire_node
pub record RetireClauses (v : View) : Type 0 where
  -- the node is retired
  pub retired : (retired_of v).retired ≡ 1
  -- the attached lanes stay
  pub attached : (retired_of v).attached ≡ v.attached
  -- the height stays
  pub height : (retired_of v).height ≡ v.height
  -- the node is still guarded and pinned
  pub guarded : Valid v → (retired_of v).guarded ≡ 1
  -- the window stays; upstream leaves it open
  pub window : (retired_of v).window ≡ v.window

-- cached_detach, and what refreshed_detach has in common with it
pub record PassClauses (v : View) (o : Done) : Type 0 where
  -- requires valid
  pub requires_valid : is_refusal o.answer ≡ false → Valid v
  -- a refusal changes nothing
  pub refused : is_refusal o.answer ≡ true → o.view ≡ v
  -- a valid view stays valid
  pub valid : Valid v → Valid o.view
  -- as frame says
  pub frame : Frame v o.view
  -- after a yes no lane is attached
  pub yes : o.answer ≡ Ok 1 → Detached o.view
  -- the window stays; upstream leaves it open
  pub window : o.view.window ≡ v.window
  -- no lane outside the window was tried
  pub outside : Outside v.window v.attached o.view.attached

-- refreshed_detach
pub record RefreshedClauses (v : View) (o : Done) : Type 0 where
  -- what it has in common with cached_detach
  pub pass : PassClauses v o
  -- requires that every attached lane is in the window
  pub requires_inside : is_refusal o.answer ≡ false → Inside v.attached v.window
  -- a yes has tried no lane
  pub yes_same : o.answer ≡ Ok 1 → o.view ≡ v

-- detach_before_retire
pub record DetachClauses (v : View) (o : Done) : Type 0 where
  -- requires valid
  pub requires_valid : is_refusal o.answer ≡ false → Valid v
  -- a refusal changes nothing
  pub refused : is_refusal o.answer ≡ true → o.view ≡ v
  -- the height stays
  pub height : o.view.height ≡ v.height
  -- the guard flag stays
  pub guarded : o.view.guarded ≡ v.guarded
  -- after success the node is retired
  pub ok_retired : is_accepted o.answer ≡ true → o.view.retired ≡ 1
  -- after success no lane below the height is attached
  pub ok_detached : is_accepted o.answer ≡ true → Detached o.view
  -- and so none at all
  pub ok_attached : is_accepted o.answer ≡ true → o.view.attached ≡ 0
  -- after an error the retired flag is as before
  pub errors : is_accepted o.answer ≡ false → o.view.retired ≡ v.retired
  -- what was retired is the view that the retry loop left
  pub retires : is_accepted o.answer ≡ true → o.view ≡ retired_of (before_retiring v o)
  -- and at every other answer that view is handed back
  pub leaves : is_accepted o.answer ≡ false → o.view ≡ before_retiring v o
  -- the loop ensures detached
  pub loop_detached : is_accepted o.answer ≡ true → Detached (before_retiring v o)
  -- the loop ensures valid
  pub loop_valid : Valid v → Valid (before_retiring v o)
  -- the loop ensures that the height stays
  pub loop_height : (before_retiring v o).height ≡ v.height
  -- the loop ensures frame, since entry
  pub loop_frame : Frame v (before_retiring v o)
