-- The rows are the table's numbers three by three.
use Rattle.table_postings.proofs.Cells.{rows_used}
use Rattle.table_postings.proofs.rows.Goals as goal

pub returns : goal.returns
returns c = rw c.as_chunks.ensures.front (rows_used _ _ c.requires)
