-- Three numbers copied over three.
use Prim.Native.Nat.{◌*◌, ◌+◌, ◌-◌}
use native.Mathlib.Omega.{arith}
use mathlib.Core.Path.{◌≡◌}
use Rattle.table_postings.proofs.Cells.{copied_over}
use Rattle.table_postings.proofs.write.Goals as goal

pub returns : goal.returns
returns c =
    let three : c.args.at * 3 + 3 - c.args.at * 3 ≡ 3 = omega arith in
    rw (three, c.copy_from_slice.ensures.after) (copied_over c.args.p c.args.table.now _ c.requires)
