-- The core's head is stored as a whole, and the flag is set where the core decided so.
use Rattle.std.proofs.lemmas.Float.{T_from_true, T_from_false}
use Rattle.guarding.proofs.InPlace.{poisoned_in_place, kept_in_place}
use Rattle.entry.proofs.publish.Goals as goal

pub returns-then-done : goal.returns-then-done
returns-then-done c =
    rw c.poison_indexes.ensures
    (poisoned_in_place _ _ _ _ _ _ _ _ _ (rw c.first_unheld-unheld.ensures at c.publish_by_value-done.ensures)
    (T_from_true _ c.if-done.true))

pub returns-else-done : goal.returns-else-done
returns-else-done c =
    kept_in_place _ _ _ _ _ _ _ _ _ (rw c.first_unheld-unheld.ensures at c.publish_by_value-done.ensures)
    (T_from_false _ c.if-done.false)
