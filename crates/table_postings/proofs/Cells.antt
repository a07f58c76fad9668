-- The numbers of a table three by three: the rows that its postings lie in, and a posting stored over three numbers.
use Prim.Native.Nat.{ℕ, zero, suc, ◌+◌, ◌*◌, ◌/◌, ◌≤◌}
use native.Mathlib.Omega.{arith}
use native.Mathlib.Numerals.{add-one}
use mathlib.Core.Path.{◌≡◌, refl, sym, ap, ◌∙◌}
use mathlib.Core.List.{List, [], ◌∷◌, ◌++◌, map, append_assoc}
use lib.ListN.{length, take, drop}
use lib.Seq.{sets-eq, drop-drop}
use borrow.Rule.Slice.PartMut.{put_mid}
use Rattle.std.specs.Simd.{first_chunks}
use Rattle.rules.specs.Table.{cells, postings, numbers}
use Rattle.rules.specs.declared.Posting.{Posting}
use Rattle.table_postings.specs.Stored.{posting_of, stored}

-- the first rows mean the first postings
rows_cells : (used : ℕ) (t : List ℕ) → used * 3 ≤ length t → map posting_of (first_chunks 3 used t) ≡ take used (cells t)
unfolding cells
rows_cells zero t h = refl
rows_cells (suc used) [] h = absurd (omega arith)
rows_cells (suc used) (a ∷ []) h = absurd (omega arith)
rows_cells (suc used) (a ∷ b ∷ []) h = absurd (omega arith)
rows_cells (suc used) (a ∷ b ∷ c ∷ t) h = ap (λ l. record { binding = a; key = b; row = c } ∷ l) (rows_cells used t (omega arith))

fewer_chunks : (used n : ℕ) (t : List ℕ) → used ≤ n → take used (first_chunks 3 n t) ≡ first_chunks 3 used t
fewer_chunks zero n t h = refl
fewer_chunks (suc used) zero t h = absurd (omega arith)
fewer_chunks (suc used) (suc n) t h = ap (λ l. take 3 t ∷ l) (fewer_chunks used n (drop 3 t) (omega arith))

-- the rows of the postings in use
pub rows_used :
    (used : ℕ) (t : List ℕ) → used * 3 ≤ length t → map posting_of (take used (first_chunks 3 (length t / 3) t)) ≡ postings used t
rows_used used t h = ap (map posting_of) (fewer_chunks used (length t / 3) t (omega arith)) ∙ rows_cells used t h

-- a posting stored over three numbers
pub stored_over :
    (p : Posting) (l : List ℕ) (at : ℕ) → at + 3 ≤ length l → stored at p l ≡ take at l ++ (numbers (p ∷ []) ++ drop (at + 3) l)
unfolding numbers
stored_over p l at h =
    let one : at + 1 ≡ suc at = add-one at in
    let two : at + 2 ≡ suc (suc at) = omega arith in
    rw (one, two)
    (sets-eq (p.binding ∷ p.key ∷ p.row ∷ []) l at h
    ∙ append_assoc (take at l) (p.binding ∷ p.key ∷ p.row ∷ []) (drop (at + 3) l))

pub copied_over :
    (p : Posting) (l : List ℕ) (at : ℕ) → at + 3 ≤ length l → put_mid at 3 l (p.binding ∷ p.key ∷ p.row ∷ []) ≡ stored at p l
unfolding numbers
copied_over p l at h =
    ap (λ rest. take at l ++ (p.binding ∷ p.key ∷ p.row ∷ rest)) (drop-drop 3 at l) ∙ sym (stored_over p l at h)
