-- Trying the rules: a theorem with `unfolding computing` sees every rule of masks, strips and lanes compute, and holds by `refl`.
use Rattle.strips.specs.Strips.{proper_bytes, proper_strip}
use Rattle.masks.specs.Masks.{digit, lane_in, cleared, entered, lanes_below, within_below, within, lowest_from, lowest, lowest_cleared}
use Rattle.lane_rules.specs.Steps.{compared, refreshed}
use Rattle.lane_rules.specs.Passes.{cached_pass, try_lane, refreshed_from}
use Rattle.lane_rules.specs.Rounds.{round, rounds, detaching}
use Rattle.lane_rules.specs.Calls.{bad_height, bad_view, bad_window, bad_strip, entry_checks, refreshed_checks, cached_of, refreshed_of, detach_of}

-- any value, as it is
unfoldable pub computing : {A : Type 0} → A → A
unfolding proper_bytes proper_strip digit lane_in cleared entered lanes_below within_below within lowest_from lowest lowest_cleared compared refreshed cached_pass try_lane refreshed_from round rounds detaching bad_height bad_view bad_window bad_strip entry_checks refreshed_checks cached_of refreshed_of detach_of
computing x = x
