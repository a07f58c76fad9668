-- A table that carries its postings carries them after an insertion and after a removal.
use Rattle.std.proofs.Common.{Ok, Err}
use Prim.Native.Nat.{ℕ, suc, ◌+◌, ◌-◌, ◌*◌, ◌<◌, ◌≤◌}
use native.Mathlib.Omega.{arith}
use mathlib.Core.Path.{◌≡◌, sym, ap, ◌∙◌}
use mathlib.Core.List.{List, ◌∷◌, ◌++◌}
use mathlib.Core.Bool.{true}
use lib.ListN.{length, take, drop, length-append, length-drop}
use lib.Seq.{paste, length-take-le}
use Rattle.rules.specs.declared.Head.{Head}
use Rattle.rules.specs.declared.Posting.{Posting}
use Rattle.rules.specs.Postings.{ascending, inserted, removed}
use Rattle.rules.specs.Table.{postings, laid_out, well_formed}
use Rattle.laws.proofs.Lists.{length_inserted}
use Rattle.laws.proofs.Sorted.{ascending_inserted, ascending_removed}
use Rattle.laws.proofs.Flat.{well_formed_parts, used_postings, laid_out_same, postings_laid_out, length_laid_out}
use Rattle.table_postings.specs.Stored.{blank, stored}
use Rattle.table.specs.Holding.{Carries, Ordered, place_of}
use Rattle.table.proofs.Places.{gap_most, at_inside, gap_absent, inserted_in_gap, inserted_found, removed_found, removed_from_gap}
use Rattle.table.proofs.Moves.{opened, closed}

-- the postings that a table carries are those that it shows
pub carries_postings : (t : List ℕ) (used : ℕ) (ps : List Posting) → Carries t used ps → postings used t ≡ ps
carries_postings t used ps h =
    rw h.count (ap (postings (length ps)) h.laid ∙ postings_laid_out (length t) ps)

pub carries_ordered : (t : List ℕ) (used : ℕ) (ps : List Posting) → Carries t used ps → Ordered t used
carries_ordered t used ps h = rw (carries_postings t used ps h) h

-- a well-formed table carries its postings
pub well_formed_ordered : (head : Head) (table : List ℕ) → well_formed head table ≡ true → Ordered table head.used
well_formed_ordered head table e =
    let w = well_formed_parts head table e in
    record {
      count = sym (used_postings head table w);
      room = (let r = w.room in omega arith);
      sorted = w.sorted;
      laid = sym (laid_out_same head table w);
    }

-- postings laid out over the length of a table are held there
laid_carries :
    (t x : List ℕ) (ps : List Posting) (used : ℕ) → used ≡ length ps → used * 3 ≤ length t → ascending ps ≡ true →
    x ≡ laid_out (length t) ps → Carries x used ps
laid_carries t x ps used e room sorted laid =
    let long : length x ≡ length t = ap length laid ∙ length_laid_out (length t) ps (rw (← e) room) in
    record { count = e; room = rw long room; sorted = sorted; laid = rw long laid }

module _ (t : List ℕ) (used : ℕ) (p : Posting) (at : ℕ) (h : Ordered t used) where
  pub inserted_kept : place_of p (postings used t) ≡ Ok at → Carries t used (inserted p (postings used t))
  inserted_kept e = rw (inserted_found p (postings used t) at h.sorted e) h

  pub removed_kept : place_of p (postings used t) ≡ Err at → Carries t used (removed p (postings used t))
  removed_kept e = rw (removed_from_gap p (postings used t) at h.sorted e) h

  pub inserted_carries :
      (x y : List ℕ) → place_of p (postings used t) ≡ Err at → used * 3 + 3 ≤ length t →
      x ≡ paste t (at * 3 + 3) (drop (at * 3) t) (used * 3 - at * 3) → y ≡ stored (at * 3) p x → Carries y (used + 1) (inserted p (postings used t))
  inserted_carries x y e room ex ey =
      let ps : List Posting = postings used t in
      let n : used ≡ length ps = h.count in
      let low : at ≤ length ps = gap_most p ps at e in
      let new : inserted p ps ≡ take at ps ++ p ∷ drop at ps = inserted_in_gap p ps at h.sorted e in
      laid_carries t y (inserted p ps) (used + 1) (let f = length_inserted p ps (gap_absent p ps at e) in omega arith)
      (omega arith)
      (ascending_inserted p ps h.sorted)
      (ey
      ∙ (ap (stored (at * 3) p) ex
      ∙ (ap (λ (l : List ℕ). stored (at * 3) p (paste l (at * 3 + 3) (drop (at * 3) l) (used * 3 - at * 3))) h.laid
      ∙ (ap (λ (m : ℕ). stored (at * 3) p (paste (laid_out (length t) ps) (at * 3 + 3) (drop (at * 3) (laid_out (length t) ps)) (m * 3 - at * 3))) n
      ∙ (opened ps (length t) at p low (omega arith) ∙ ap (laid_out (length t)) (sym new))))))

  pub removed_carries :
      (x y : List ℕ) → place_of p (postings used t) ≡ Ok at →
      x ≡ paste t (at * 3) (drop (at * 3 + 3) t) (used * 3 - (at * 3 + 3)) → y ≡ stored ((used - 1) * 3) blank x → Carries y (used - 1) (removed p (postings used t))
  removed_carries x y e ex ey =
      let ps : List Posting = postings used t in
      let n : used ≡ length ps = h.count in
      let inside : at < length ps = at_inside p ps at h.sorted e in
      let fewer : removed p ps ≡ take at ps ++ drop (suc at) ps = removed_found p ps at h.sorted e in
      let room : used * 3 ≤ length t = h.room in
      let count : length (removed p ps) ≡ length ps - 1 =
      (let a = ap length fewer in
      let b = length-append (take at ps) (drop (suc at) ps) in
      let d = length-take-le at ps (omega arith) in
      let f = length-drop (suc at) ps in
      omega arith) in
      laid_carries t y (removed p ps) (used - 1) (omega arith) (omega arith) (ascending_removed p ps h.sorted)
      (ey
      ∙ (ap (stored ((used - 1) * 3) blank) ex
      ∙ (ap (λ (l : List ℕ). stored ((used - 1) * 3) blank (paste l (at * 3) (drop (at * 3 + 3) l) (used * 3 - (at * 3 + 3)))) h.laid
      ∙ (ap (λ (m : ℕ). stored ((m - 1) * 3) blank (paste (laid_out (length t) ps) (at * 3) (drop (at * 3 + 3) (laid_out (length t) ps)) (m * 3 - (at * 3 + 3)))) n
      ∙ (closed ps (length t) at inside (omega arith) ∙ ap (laid_out (length t)) (sym fewer))))))
