-- What means a destination, and what the library finds in the part before.
use Rattle.std.proofs.Common.{not, sym, ap, ◌∙◌}
use Rattle.lent_lists.proofs.Among.{among_by_any}
use Rattle.checks.proofs.is_new_at.Goals as goal

pub returns-then-is_recordable : goal.returns-then-is_recordable
returns-then-is_recordable c =
    rw (sym c.is_recordable.ensures ∙ c.if-is_recordable.true) (ap not (c.contains.ensures.value ∙ among_by_any _ _))
