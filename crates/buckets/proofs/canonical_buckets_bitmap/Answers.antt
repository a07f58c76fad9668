-- The refusal, or else what is read out of the membership bits.
use Rattle.std.proofs.Common.{sym, ap, ◌∙◌, rules}
use Rattle.std.proofs.lemmas.Result.{err_from_is_err_and}
use Rattle.buckets.specs.Promises.{seen}
use Rattle.buckets.proofs.Working.{bitmap_refused, bitmap_room, bitmap_few, bitmap_passed}
use Rattle.buckets.proofs.canonical_buckets_bitmap.Goals as goal

pub returns-in_err-bitmap_checks : goal.returns-in_err-bitmap_checks
returns-in_err-bitmap_checks c =
    let p = err_from_is_err_and c.from_residual.result c.from_residual.ensures.1 in
    let refused = sym c.bitmap_checks.ensures ∙ c.in_err-bitmap_checks.was in
    rw (p.1, p.2) (ap seen
    (bitmap_refused c.args.input.now c.args.count c.args.output.now c.args.scratch.now _ refused))

pub spread-requires : goal.spread-requires
spread-requires c =
    let passes = sym c.bitmap_checks.ensures ∙ c.in_ok-bitmap_checks.was in
    bitmap_room c.args.input.now c.args.count c.args.output.now c.args.scratch.now passes

pub overflow_cast-result : goal.overflow_cast-result
overflow_cast-result c =
    let passes = sym c.bitmap_checks.ensures ∙ c.in_ok-bitmap_checks.was in
    let few = bitmap_few c.args.input.now c.args.count c.args.output.now c.args.scratch.now passes in
    let count = c.spread.ensures.output_after.value in
    search rules

pub returns : goal.returns
returns c =
    let passes = sym c.bitmap_checks.ensures ∙ c.in_ok-bitmap_checks.was in
    ap seen
    (bitmap_passed c.args.input.now c.args.count c.args.output.now c.args.scratch.now passes c.spread.ensures.output_after
    c.spread.ensures.scratch_after)
