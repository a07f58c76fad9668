-- How many postings have a binding and key, row by row.
use Prim.Native.Nat.{ℕ, ◌+◌}
use native.Mathlib.Omega.{arith}
use mathlib.Core.Path.{◌≡◌, refl}
use mathlib.Core.List.{List, ◌∷◌, map}
use mathlib.Core.Bool.{Bool, true, false, cond, ◌&&◌}
use lib.ListN.{length, get_or}
use lib.Dec.{eqb}
use Rattle.std.specs.List.{count_by}
use Rattle.std.proofs.lemmas.List.Recursion.{is_count_by}
use Rattle.rules.specs.Postings.{rows_under, counted}
use Rattle.table_postings.specs.Stored.{posting_of}

pub counted_by :
    (binding key : ℕ) (rows : List (List ℕ)) →
    counted binding key (map posting_of rows) ≡ count_by (λ row. eqb binding (get_or row 0 0) && eqb key (get_or row 1 0)) rows
unfolding rows_under
counted_by binding key =
    is_count_by (λ rows. counted binding key (map posting_of rows)) (λ row. eqb binding (get_or row 0 0) && eqb key (get_or row 1 0)) refl
    λ row rows.
    one_more (eqb binding (get_or row 0 0) && eqb key (get_or row 1 0)) (get_or row 2 0) (rows_under binding key (map posting_of rows))
  where
    one_more : (b : Bool) (row : ℕ) (l : List ℕ) → length (cond b (row ∷ l) l) ≡ cond b (1 + length l) (length l)
    one_more true row l = omega arith
    one_more false row l = refl
