-- The search says where; the numbers past it go down, and zeros are stored in the place set free.
use mathlib.Core.Path.{sym, ◌∙◌}
use Rattle.table.proofs.Keeping.{removed_kept, removed_carries}
use Rattle.table.proofs.remove.Goals as goal

pub returns-in-Err : goal.returns-in-Err
returns-in-Err c = removed_kept _ _ _ _ c.requires (rw c.new.ensures at (sym c.find.ensures.0 ∙ c.in-Err.is))

pub returns-in-Ok : goal.returns-in-Ok
returns-in-Ok c =
    removed_carries _ _ _ _ c.requires _ _ (rw c.new.ensures at (sym c.find.ensures.0 ∙ c.in-Ok.is)) c.copy_within.ensures.after c.write.ensures
