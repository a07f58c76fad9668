-- The closure says what a row's posting is beside the one looked for.
use borrow.Author.Rules.{rules}
use Rattle.std.proofs.lemmas.List.{length-map}
use Rattle.std.proofs.lemmas.Fn.{always_returns_same}
use Rattle.rules.specs.Postings.{compared}
use Rattle.table_postings.specs.Stored.{posting_of}
use Rattle.table.proofs.Searching.{searched}
use Rattle.table.proofs.Postings.find.Goals as goal

pub returns : goal.returns
returns c =
    let facts = c.binary_search_by.ensures in
    let place =
    searched _ c.args.p c.self.invariant _ facts.bound
    (facts.position (λ row. compared (posting_of row) c.args.p) (always_returns_same _ _ _ λ a r f called. (search rules, search rules)))
    in
    rw (← c.self.view_is) (place, rw (length-map c.self.inside.rows.now posting_of) facts.bound)
