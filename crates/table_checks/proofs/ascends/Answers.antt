-- The closure says whether a row's posting is before the next one's.
use borrow.Author.Rules.{rules}
use Rattle.std.specs.Ordering.{is_lt}
use Rattle.std.proofs.lemmas.List.Sorted.{answers_always}
use Rattle.rules.specs.Postings.{compared}
use Rattle.table_postings.specs.Stored.{posting_of}
use Rattle.table_checks.proofs.Walks.{ascends_answer}
use Rattle.table_checks.proofs.ascends.Goals as goal

pub returns : goal.returns
returns c =
    ascends_answer _ _
    (c.is_sorted_by.ensures.cases (λ row next. is_lt (compared (posting_of row) (posting_of next)))
    (answers_always _ _ _ λ f a r g called. search rules))
