-- The refusal, or else what is gathered.
use Rattle.std.proofs.Common.{sym, ap, ◌∙◌, rules}
use Rattle.std.proofs.lemmas.Result.{err_from_is_err_and}
use Rattle.buckets.specs.Promises.{seen}
use Rattle.buckets.proofs.Working.{sort_refused, sort_room, sort_few, sort_passed}
use Rattle.buckets.proofs.canonical_buckets_sort.Goals as goal

pub returns-in_err-sort_checks : goal.returns-in_err-sort_checks
returns-in_err-sort_checks c =
    let p = err_from_is_err_and c.from_residual.result c.from_residual.ensures.1 in
    let refused = sym c.sort_checks.ensures ∙ c.in_err-sort_checks.was in
    rw (p.1, p.2) (ap seen (sort_refused c.args.input.now c.args.count c.args.output.now _ refused))

pub gather-requires : goal.gather-requires
gather-requires c =
    let passes = sym c.sort_checks.ensures ∙ c.in_ok-sort_checks.was in
    sort_room c.args.input.now c.args.count c.args.output.now passes

pub overflow_cast-result : goal.overflow_cast-result
overflow_cast-result c =
    let passes = sym c.sort_checks.ensures ∙ c.in_ok-sort_checks.was in
    let few = sort_few c.args.input.now c.args.count c.args.output.now passes in
    let count = c.gather.ensures.value in
    search rules

pub returns : goal.returns
returns c =
    let passes = sym c.sort_checks.ensures ∙ c.in_ok-sort_checks.was in
    ap seen (sort_passed c.args.input.now c.args.count c.args.output.now passes c.gather.ensures)
