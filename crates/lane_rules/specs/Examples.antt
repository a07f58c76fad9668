-- Small cases that a careless reader would get wrong, by computation: the worked example, the steps, the passes, the rounds and
-- their count, the order of the checks, and the limits.
use Rattle.std.specs.Prelude.{ℕ, ◌-◌, ◌^◌, ◌≡◌, refl, List, [], ◌∷◌, map, replicate}
use Rattle.lane_rules.specs.declared.View.{View}
use Rattle.lane_rules.specs.declared.Done.{Done}
use Rattle.lane_rules.specs.Answers.{told_of}
use Rattle.lane_rules.specs.Calls.{cached_of, refreshed_of, detach_of}
use Rattle.lane_rules.specs.Trial.{computing}

-- what is seen of a call: number and value of its answer, attached lanes, window, retired flag
pub record Row : Type 0 where
  pub answer : ℕ
  pub value : ℕ
  pub attached : ℕ
  pub window : ℕ
  pub retired : ℕ

abbrev pub row : ℕ → ℕ → ℕ → ℕ → ℕ → Row
row answer value attached window retired =
    record { answer = answer; value = value; attached = attached; window = window; retired = retired }

abbrev pub seen : Done → Row
seen d =
    row (told_of d.answer).answer (told_of d.answer).value d.view.attached d.view.window d.view.retired

-- a case: what is computed of a call, and what it should be
infix 68 ◌gives◌
abbrev pub ◌gives◌ : Done → Row → Row × Row
◌gives◌ given due = (seen given, due)

-- all cases are as they should be
abbrev pub Hold : List (Row × Row) → Type 0
Hold cases = map (λ (c : Row × Row). c.0) cases ≡ map (λ (c : Row × Row). c.1) cases

-- a guarded view that is not retired
abbrev pub view : ℕ → ℕ → ℕ → View
view height attached window = record { height = height; guarded = 1; retired = 0; attached = attached; window = window }

-- all 32 lanes
abbrev pub all_lanes : ℕ
all_lanes = 2 ^ 32 - 1

-- height 3, attached 7, empty strip: a window of 6 needs two rounds, of which the first clears lane 0 and says no; one round
-- gives 25 with attached 0; a window of 7 needs none
pub worked :
    Hold
    (detach_of (view 3 7 6) [] 2 gives row 0 2 0 0 1
    ∷ detach_of (view 3 7 6) [] 1 gives row 25 1 0 1 0
    ∷ detach_of (view 3 7 7) [] 0 gives row 0 0 0 7 1
    ∷ [])
unfolding computing
worked = refl

-- the cached pass goes from the top lane down and stops at the first lane that is outside the window or is not cleared
pub cached_passes :
    Hold
    (cached_of (view 3 7 7) [] gives row 0 1 0 7 0
    ∷ cached_of (view 3 7 3) [] gives row 0 0 7 3 0
    ∷ cached_of (view 3 7 5) [] gives row 0 0 3 5 0
    -- a lane of the window that is not attached says no
    ∷ cached_of (view 3 5 7) [] gives row 0 0 1 7 0
    ∷ cached_of (view 3 0 7) [] gives row 0 0 0 7 0
    -- byte 1 says no, byte 2 is an error, and what was cleared before stays cleared
    ∷ cached_of (view 3 7 7) (0 ∷ 1 ∷ []) gives row 0 0 3 7 0
    ∷ cached_of (view 3 7 7) (0 ∷ 2 ∷ []) gives row 24 0 3 7 0
    -- a byte that is not reached is no error
    ∷ cached_of (view 3 7 7) (1 ∷ 2 ∷ []) gives row 0 0 7 7 0
    ∷ [])
unfolding computing
cached_passes = refl

-- the refreshed pass skips the lanes outside the window, and any lane that it tries makes its answer no
pub refreshed_passes :
    Hold
    (refreshed_of (view 3 5 5) [] gives row 0 0 0 5 0
    ∷ refreshed_of (view 3 0 0) [] gives row 0 1 0 0 0
    ∷ refreshed_of (view 3 0 2) [] gives row 0 0 0 2 0
    -- it goes on after a no, and stops at an error
    ∷ refreshed_of (view 3 7 7) (1 ∷ 0 ∷ 1 ∷ []) gives row 0 0 5 7 0
    ∷ refreshed_of (view 3 7 7) (0 ∷ 2 ∷ []) gives row 24 0 3 7 0
    -- a skipped lane reads no byte
    ∷ refreshed_of (view 3 5 5) (0 ∷ 0 ∷ 2 ∷ []) gives row 0 0 0 5 0
    ∷ [])
unfolding computing
refreshed_passes = refl

-- byte 1 in a refresh clears the lowest attached lane first; with none attached it clears none
pub refreshes :
    Hold
    (detach_of (view 3 7 0) (1 ∷ 1 ∷ 1 ∷ []) 1 gives row 25 1 6 6 0
    ∷ detach_of (view 3 6 0) (1 ∷ 1 ∷ []) 1 gives row 25 1 4 4 0
    ∷ detach_of (view 3 4 0) (1 ∷ []) 1 gives row 0 1 0 0 1
    ∷ detach_of (view 3 0 0) (1 ∷ []) 1 gives row 0 1 0 0 1
    -- a failed refresh changes neither mask, and its round counts
    ∷ detach_of (view 3 7 6) (0 ∷ 0 ∷ 2 ∷ []) 5 gives row 24 1 1 6 0
    ∷ detach_of (view 3 7 0) (0 ∷ 1 ∷ 1 ∷ 1 ∷ 2 ∷ []) 5 gives row 24 2 7 7 0
    ∷ [])
unfolding computing
refreshes = refl

-- rounds are counted as their refreshes begin
pub rounds_made :
    Hold
    -- an error in the cached pass makes no round, one in a refreshed pass makes that round
    (detach_of (view 3 7 7) (2 ∷ []) 5 gives row 24 0 7 7 0
    ∷ detach_of (view 3 7 0) (0 ∷ 0 ∷ 2 ∷ []) 5 gives row 24 1 3 7 0
    -- a yes in the last lent round is a success; a lane that was cleared in a round needs one more
    ∷ detach_of (view 1 1 0) [] 2 gives row 0 2 0 0 1
    ∷ detach_of (view 1 1 0) [] 1 gives row 25 1 0 1 0
    -- with no round lent, the cached pass alone decides, and no refresh reads a byte
    ∷ detach_of (view 1 1 1) [] 0 gives row 0 0 0 1 1
    ∷ detach_of (view 1 1 0) (2 ∷ []) 0 gives row 25 0 1 0 0
    -- no attached lane and a full window: the cached pass says no, and one round is needed
    ∷ detach_of (view 1 0 1) [] 0 gives row 25 0 0 1 0
    ∷ detach_of (view 1 0 1) [] 1 gives row 0 1 0 0 1
    -- a compare of the cached pass that said no has read its byte, and the refresh reads the next
    ∷ detach_of (view 1 1 1) (1 ∷ 2 ∷ []) 5 gives row 24 1 1 1 0
    -- rounds that are not needed are not made
    ∷ detach_of (view 1 1 0) (0 ∷ 1 ∷ []) 9 gives row 0 3 0 0 1
    ∷ [])
unfolding computing
rounds_made = refl

-- height and guarded flag stay, whatever is done
pub whole_views :
    (cached_of (view 3 7 7) []).view ∷ (refreshed_of (view 3 5 5) []).view ∷ (detach_of (view 3 7 6) [] 2).view ∷ []
    ≡ view 3 0 7
    ∷ view 3 0 5
    ∷ record { height = 3; guarded = 1; retired = 1; attached = 0; window = 0 }
    ∷ []
unfolding computing
whole_views = refl

-- window bits at or above the height are ignored, and handed back unless a refresh set the window
pub high_window :
    Hold
    (cached_of (view 2 3 7) [] gives row 0 1 0 7 0
    ∷ refreshed_of (view 2 0 4) [] gives row 0 1 0 4 0
    ∷ detach_of (view 2 3 7) [] 0 gives row 0 0 0 7 1
    ∷ detach_of (view 2 3 4) [] 2 gives row 0 2 0 0 1
    ∷ detach_of (view 2 3 4) [] 0 gives row 25 0 3 4 0
    ∷ cached_of (view 3 7 all_lanes) [] gives row 0 1 0 all_lanes 0
    ∷ refreshed_of (view 3 7 all_lanes) [] gives row 0 0 0 all_lanes 0
    -- only lanes below the height can be within the window
    ∷ refreshed_of (view 2 3 4) [] gives row 22 0 3 4 0
    ∷ [])
unfolding computing
high_window = refl

-- height 32 is accepted: all lanes in no round, the top lane alone, two rounds for the lanes outside the window, and an error
-- behind a refresh that cleared lane 0; heights 33, 0 and the largest are refused
pub full_height :
    Hold
    (cached_of (view 32 all_lanes all_lanes) [] gives row 0 1 0 all_lanes 0
    ∷ refreshed_of (view 32 (2 ^ 31) (2 ^ 31)) [] gives row 0 0 0 (2 ^ 31) 0
    ∷ detach_of (view 32 all_lanes all_lanes) [] 0 gives row 0 0 0 all_lanes 1
    ∷ detach_of (view 32 all_lanes (2 ^ 31)) [] 2 gives row 0 2 0 0 1
    ∷ detach_of (view 32 all_lanes 0) (1 ∷ 2 ∷ []) 2 gives row 24 1 (all_lanes - 1) (all_lanes - 1) 0
    ∷ cached_of (view 33 0 0) [] gives row 20 0 0 0 0
    ∷ cached_of (view 0 0 0) [] gives row 20 0 0 0 0
    ∷ cached_of (view all_lanes 0 0) [] gives row 20 0 0 0 0
    ∷ refreshed_of (view 33 0 0) [] gives row 20 0 0 0 0
    ∷ detach_of (view 33 0 0) [] 9 gives row 20 0 0 0 0
    ∷ detach_of (view 0 0 0) [] 9 gives row 20 0 0 0 0
    ∷ [])
unfolding computing
full_height = refl

-- a view with these flags
abbrev pub flagged : ℕ → ℕ → View
flagged guarded retired = record { height = 3; guarded = guarded; retired = retired; attached = 7; window = 7 }

-- not guarded, retired, a flag that is neither 0 nor 1, and a lane at the height or above it
pub bad_views :
    Hold
    (cached_of (flagged 0 0) [] gives row 21 0 7 7 0
    ∷ cached_of (flagged 1 1) [] gives row 21 0 7 7 1
    ∷ cached_of (flagged 2 0) [] gives row 21 0 7 7 0
    ∷ cached_of (flagged 3 0) [] gives row 21 0 7 7 0
    ∷ cached_of (flagged all_lanes 0) [] gives row 21 0 7 7 0
    ∷ cached_of (flagged 1 2) [] gives row 21 0 7 7 2
    ∷ cached_of (flagged 1 3) [] gives row 21 0 7 7 3
    ∷ cached_of (flagged 1 all_lanes) [] gives row 21 0 7 7 all_lanes
    ∷ refreshed_of (flagged 3 0) [] gives row 21 0 7 7 0
    ∷ refreshed_of (flagged 1 3) [] gives row 21 0 7 7 3
    ∷ detach_of (flagged 3 0) [] 9 gives row 21 0 7 7 0
    ∷ detach_of (flagged 1 3) [] 9 gives row 21 0 7 7 3
    ∷ detach_of (view 2 4 7) [] 9 gives row 21 0 4 7 0
    ∷ detach_of (view 2 8 15) [] 9 gives row 21 0 8 15 0
    ∷ detach_of (view 2 (2 ^ 31) all_lanes) [] 9 gives row 21 0 (2 ^ 31) all_lanes 0
    ∷ detach_of (view 31 (2 ^ 31) 0) [] 9 gives row 21 0 (2 ^ 31) 0 0
    ∷ [])
unfolding computing
bad_views = refl

-- the first that applies is given: 20, 21, 22, 23; and 22 belongs to the refreshed pass alone
pub check_order :
    Hold
    (refreshed_of (record { height = 0; guarded = 0; retired = 1; attached = 7; window = 0 }) (3 ∷ []) gives row 20 0 7 0 1
    ∷ refreshed_of (record { height = 2; guarded = 1; retired = 0; attached = 7; window = 0 }) (3 ∷ []) gives row 21 0 7 0 0
    ∷ refreshed_of (view 3 7 6) (3 ∷ []) gives row 22 0 7 6 0
    ∷ refreshed_of (view 3 7 7) (3 ∷ []) gives row 23 0 7 7 0
    ∷ cached_of (view 3 7 6) (0 ∷ 3 ∷ []) gives row 23 0 7 6 0
    ∷ detach_of (view 3 7 6) (0 ∷ 3 ∷ []) 9 gives row 23 0 7 6 0
    ∷ detach_of (view 3 7 6) [] 9 gives row 0 2 0 0 1
    ∷ [])
unfolding computing
check_order = refl

-- 1,024 bytes are a strip, and one more is not
pub strip_limit :
    Hold
    (cached_of (view 1 1 1) (replicate 1024 0) gives row 0 1 0 1 0
    ∷ cached_of (view 1 1 1) (replicate 1025 0) gives row 23 0 1 1 0
    ∷ refreshed_of (view 1 1 1) (replicate 1024 0) gives row 0 0 0 1 0
    ∷ refreshed_of (view 1 1 1) (replicate 1025 0) gives row 23 0 1 1 0
    ∷ detach_of (view 1 1 1) (replicate 1024 0) 0 gives row 0 0 0 1 1
    ∷ detach_of (view 1 1 1) (replicate 1025 0) 0 gives row 23 0 1 1 0
    -- the largest byte is none, and one that would not be read counts too
    ∷ cached_of (view 1 1 0) (255 ∷ []) gives row 23 0 1 0 0
    ∷ [])
unfolding computing
strip_limit = refl
