-- What a step on the table needs and keeps, and where a posting stands.
use Rattle.std.specs.Prelude.{ℕ, suc, ◌*◌, ◌≤◌, ◌≡◌, List, [], ◌∷◌, true, cond, length, Result, Ok, Err}
use Rattle.rules.specs.declared.Posting.{Posting}
use Rattle.rules.specs.Postings.{compared, is_before, ascending, present}
use Rattle.rules.specs.Table.{postings, laid_out}

-- the table has these postings, ascending, then zeros, and used is how many they are
pub record Carries (table : List ℕ) (used : ℕ) (ps : List Posting) : Type 0 where
  pub count : used ≡ length ps
  pub room : used * 3 ≤ length table
  pub sorted : ascending ps ≡ true
  pub laid : table ≡ laid_out (length table) ps

-- it carries the postings that it shows
abbrev pub Ordered : List ℕ → ℕ → Type 0
Ordered table used = Carries table used (postings used table)

-- how many of the postings stand before p
unfoldable pub earlier : Posting → List Posting → ℕ
earlier p [] = 0
earlier p (q ∷ qs) = cond (is_before (compared q p)) (suc (earlier p qs)) (earlier p qs)

-- p stands past so many others, or would
unfoldable pub place_of : Posting → List Posting → Result ℕ ℕ
place_of p ps = cond (present p ps) (Ok (earlier p ps)) (Err (earlier p ps))
