-- A well-formed table has few postings, so their number fits.
use native.Mathlib.Omega.{arith}
use Rattle.rules.specs.Table.{postings}
use Rattle.laws.proofs.Flat.{well_formed_parts}
use Rattle.table.proofs.Keeping.{well_formed_ordered}
use Rattle.work.proofs.Showing.{counted_most}
use Rattle.work.proofs.count.Goals as goal

pub count_postings-requires : goal.count_postings-requires
count_postings-requires c = (well_formed_ordered _ _ c.requires).room

pub overflow_cast-result : goal.overflow_cast-result
overflow_cast-result c =
    let h = well_formed_ordered _ _ c.requires in
    let s = (well_formed_parts _ _ c.requires).size in
    let e = c.count_postings.ensures in
    let m =
    counted_most c.args.binding c.args.key
    (postings c.args.head.used c.args.table.now) in
    let r = h.room in
    let n = h.count in
    omega arith
