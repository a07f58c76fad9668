-- The search says where; the numbers from there on go up, and the posting is stored.
use native.Mathlib.Omega.{arith}
use mathlib.Core.Path.{sym, ◌∙◌}
use Rattle.table.proofs.Keeping.{inserted_kept, inserted_carries}
use Rattle.table.proofs.insert.Goals as goal

pub returns-in-Ok : goal.returns-in-Ok
returns-in-Ok c = inserted_kept _ _ _ _ c.requires.0 (rw c.new.ensures at (sym c.find.ensures.0 ∙ c.in-Ok.is))

pub returns-in-Err : goal.returns-in-Err
returns-in-Err c =
    inserted_carries _ _ _ _ c.requires.0 _ _ (rw c.new.ensures at (sym c.find.ensures.0 ∙ c.in-Err.is))
    (omega arith) c.copy_within.ensures.after c.write.ensures
