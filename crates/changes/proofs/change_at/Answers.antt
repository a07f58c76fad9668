-- The six numbers of a change that is there.
use Rattle.std.proofs.Common.{sym}
use Rattle.changes.proofs.Walk.{change_read}
use Rattle.changes.proofs.change_at.Goals as goal

pub returns : goal.returns
returns c = rw (c.key_of-2.ensures, c.key_of.ensures) (sym (change_read c.args.numbers.now _ c.requires))
