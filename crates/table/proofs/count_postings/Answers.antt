-- The filter takes the rows with this binding and key.
use borrow.Author.Rules.{rules}
use Rattle.table.proofs.Counting.{counted_by}
use Rattle.table.proofs.count_postings.Goals as goal

pub returns : goal.returns
returns c = rw (← c.rows.ensures, counted_by c.args.binding c.args.key c.rows.result.now) (search rules)
