-- The library's walk is that of the rules.
use mathlib.Core.Path.{◌∙◌}
use Rattle.guarding.proofs.Asking.{held_by_any}
use Rattle.entry.proofs.held.Goals as goal

pub returns : goal.returns
returns c = c.is_among.ensures ∙ held_by_any _ _ _
