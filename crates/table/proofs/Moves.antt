-- The numbers of a flat list as a place for one posting opens or closes: what a copy makes of postings that are laid out.
use Prim.Native.Nat.{ℕ, zero, suc, ◌+◌, ◌-◌, ◌*◌, ◌<◌, ◌≤◌}
use native.Mathlib.Omega.{arith}
use mathlib.Core.Path.{◌≡◌, refl, sym, ap, ◌∙◌}
use mathlib.Core.List.{List, [], ◌∷◌, ◌++◌, append_assoc}
use lib.ListN.{length, get_or, take, drop, replicate, length-append, length-drop, length-replicate, take-append-drop}
use lib.Seq.{paste, length-take-le, drop-cons, drop-append-add, drop-append_seam, take-append-add, take-append_seam, take_at, drop_at, drop-drop}
use Rattle.rules.specs.declared.Posting.{Posting}
use Rattle.rules.specs.Table.{numbers, laid_out}
use Rattle.laws.proofs.Flat.{length_numbers}
use Rattle.table_postings.specs.Stored.{blank, stored}
use Rattle.table_postings.proofs.Cells.{stored_over}

numbers_append : (ps qs : List Posting) → numbers (ps ++ qs) ≡ numbers ps ++ numbers qs
unfolding numbers
numbers_append [] qs = refl
numbers_append (p ∷ ps) qs = ap (λ (l : List ℕ). p.binding ∷ p.key ∷ p.row ∷ l) (numbers_append ps qs)

-- three numbers in the middle of a list make room for others
over_middle :
    (a m b : List ℕ) (at : ℕ) → length a ≡ at → length m ≡ 3 → (p : Posting) →
    stored at p (a ++ (m ++ b)) ≡ a ++ (numbers (p ∷ []) ++ b)
over_middle a m b at la lm p =
    let long : at + 3 ≤ length (a ++ (m ++ b)) =
    (let e = length-append a (m ++ b) in let f = length-append m b in omega arith) in
    let past : drop (at + 3) (a ++ (m ++ b)) ≡ b =
    rw (← la) (drop-append-add a (m ++ b) 3 ∙ drop_at m b 3 lm) in
    stored_over p (a ++ (m ++ b)) at long ∙ rw (take_at a (m ++ b) at la, past)

-- a list in parts, of which one is copied three numbers up
up_parts :
    (a b z : List ℕ) (from to : ℕ) → length a ≡ from → from + length b ≡ to →
    paste (a ++ (b ++ z)) (from + 3) (drop from (a ++ (b ++ z))) (to - from) ≡ a ++ (take 3 (b ++ z) ++ (b ++ drop 3 z))
up_parts a b z from to la lb =
    let first : take (from + 3) (a ++ (b ++ z)) ≡ a ++ take 3 (b ++ z) = rw (← la) (take-append-add a (b ++ z) 3) in
    let long : to - from ≡ length b = omega arith in
    let middle : take (to - from) (drop from (a ++ (b ++ z))) ≡ b = rw (drop_at a (b ++ z) from la, long) (take-append_seam b z) in
    let beyond : from + 3 + (to - from) ≡ length a + (length b + 3) = omega arith in
    let last : drop (from + 3 + (to - from)) (a ++ (b ++ z)) ≡ drop 3 z =
    rw beyond (drop-append-add a (b ++ z) (length b + 3) ∙ drop-append-add b z 3) in
    rw (first, middle, last)
    (append_assoc (a ++ take 3 (b ++ z)) b (drop 3 z) ∙ append_assoc a (take 3 (b ++ z)) (b ++ drop 3 z))

-- and three down, over those before it
down_parts :
    (a m b z : List ℕ) (from to : ℕ) → length a ≡ from → length m ≡ 3 → from + 3 + length b ≡ to →
    paste (a ++ (m ++ (b ++ z))) from (drop (from + 3) (a ++ (m ++ (b ++ z)))) (to - (from + 3)) ≡
    a ++ (b ++ drop (to - 3) (a ++ (m ++ (b ++ z))))
down_parts a m b z from to la lm lb =
    let rest : drop (from + 3) (a ++ (m ++ (b ++ z))) ≡ b ++ z =
    rw (← la) (drop-append-add a (m ++ (b ++ z)) 3) ∙ drop_at m (b ++ z) 3 lm in
    let long : to - (from + 3) ≡ length b = omega arith in
    let middle : take (to - (from + 3)) (drop (from + 3) (a ++ (m ++ (b ++ z)))) ≡ b = rw (rest, long) (take-append_seam b z) in
    let end : from + (to - (from + 3)) ≡ to - 3 = omega arith in
    rw (take_at a (m ++ (b ++ z)) from la, middle, end) (append_assoc a b (drop (to - 3) (a ++ (m ++ (b ++ z)))))

drop_zeros : (n : ℕ) → 3 ≤ n → drop 3 (replicate {A = ℕ} n 0) ≡ replicate (n - 3) 0
drop_zeros zero h = absurd (omega arith)
drop_zeros (suc zero) h = absurd (omega arith)
drop_zeros (suc (suc zero)) h = absurd (omega arith)
drop_zeros (suc (suc (suc n))) h = let e : suc (suc (suc n)) - 3 ≡ n = omega arith in rw e

-- postings laid out, cut at a place: those before it, those from it on, and the zeros
module _ (ps : List Posting) (size at : ℕ) where
  front : at ≤ length ps → length (numbers (take at ps)) ≡ at * 3
  front low = let e = length_numbers (take at ps) in let f = length-take-le at ps low in omega arith

  cut : (rest : List ℕ) → numbers ps ++ rest ≡ numbers (take at ps) ++ (numbers (drop at ps) ++ rest)
  cut rest =
      ap (λ (l : List ℕ). l ++ rest) (ap numbers (sym (take-append-drop at ps)) ∙ numbers_append (take at ps) (drop at ps))
      ∙ append_assoc (numbers (take at ps)) (numbers (drop at ps)) rest

  -- the place opens, and a posting is stored there
  pub opened :
      (p : Posting) → at ≤ length ps → length ps * 3 + 3 ≤ size →
      stored (at * 3) p
      (paste (laid_out size ps) (at * 3 + 3) (drop (at * 3) (laid_out size ps)) (length ps * 3 - at * 3)) ≡ laid_out size (take at ps ++ p ∷ drop at ps)
  unfolding numbers
  opened p low room =
      let free : ℕ = size - length ps * 3 in
      let zeros : List ℕ = replicate free 0 in
      let back : List ℕ = numbers (drop at ps) in
      let long : length (back ++ zeros) ≡ size - at * 3 =
      (let e = length-append back zeros in
      let f = length_numbers (drop at ps) in
      let g = length-drop at ps in
      let h = length-replicate {A = ℕ} free 0 in
      omega arith) in
      let reach : at * 3 + length back ≡ length ps * 3 =
      (let f = length_numbers (drop at ps) in let g = length-drop at ps in omega arith) in
      let count : length (take at ps ++ p ∷ drop at ps) ≡ suc (length ps) =
      (let e = length-append (take at ps) (p ∷ drop at ps) in
      let f = length-take-le at ps low in
      let g = length-drop at ps in
      omega arith) in
      let left : size - length (take at ps ++ p ∷ drop at ps) * 3 ≡ free - 3 = omega arith in
      ap (stored (at * 3) p)
      (ap (λ (l : List ℕ). paste l (at * 3 + 3) (drop (at * 3) l) (length ps * 3 - at * 3)) (cut zeros)
      ∙ up_parts (numbers (take at ps)) back zeros (at * 3) (length ps * 3) (front low) reach)
      ∙ (over_middle (numbers (take at ps)) (take 3 (back ++ zeros)) (back ++ drop 3 zeros) (at * 3) (front low)
      (length-take-le 3 (back ++ zeros) (omega arith)) p
      ∙ rw (left, numbers_append (take at ps) (p ∷ drop at ps), drop_zeros free (omega arith))
      (sym (append_assoc (numbers (take at ps)) (numbers (p ∷ drop at ps)) (replicate (free - 3) 0))))

  -- the place closes, and zeros are stored in the one set free
  pub closed :
      at < length ps → length ps * 3 ≤ size →
      stored ((length ps - 1) * 3) blank
      (paste (laid_out size ps) (at * 3) (drop (at * 3 + 3) (laid_out size ps)) (length ps * 3 - (at * 3 + 3))) ≡
      laid_out size (take at ps ++ drop (suc at) ps)
  unfolding numbers
  closed inside fits =
      let free : ℕ = size - length ps * 3 in
      let zeros : List ℕ = replicate free 0 in
      let gone : List ℕ = numbers (get_or ps at blank ∷ []) in
      let back : List ℕ = numbers (drop (suc at) ps) in
      let low : at ≤ length ps = omega arith in
      let whole : laid_out size ps ≡ numbers (take at ps) ++ (gone ++ (back ++ zeros)) =
      cut zeros ∙ ap (λ (l : List Posting). numbers (take at ps) ++ (numbers l ++ zeros)) (drop-cons ps at blank inside) in
      let reach : at * 3 + 3 + length back ≡ length ps * 3 =
      (let f = length_numbers (drop (suc at) ps) in let g = length-drop (suc at) ps in omega arith) in
      let rest : List ℕ = drop (length ps * 3 - 3) (numbers (take at ps) ++ (gone ++ (back ++ zeros))) in
      let beyond : drop 3 rest ≡ zeros =
      (let e : length ps * 3 - 3 + 3 ≡ length (numbers (take at ps)) + (3 + length back) = (let f = front low in omega arith) in
      drop-drop 3 (length ps * 3 - 3) (numbers (take at ps) ++ (gone ++ (back ++ zeros)))
      ∙ rw e
      (drop-append-add (numbers (take at ps)) (gone ++ (back ++ zeros)) (3 + length back)
      ∙ (drop-append-add gone (back ++ zeros) (length back) ∙ drop-append_seam back zeros))) in
      let long : 3 ≤ length rest =
      (let a = length-append (numbers (take at ps)) (gone ++ (back ++ zeros)) in
      let b = length-append back zeros in
      let d = length-drop (length ps * 3 - 3) (numbers (take at ps) ++ (gone ++ (back ++ zeros))) in
      let f = front low in
      omega arith) in
      let kept : length (numbers (take at ps) ++ back) ≡ (length ps - 1) * 3 =
      (let a = length-append (numbers (take at ps)) back in let f = front low in omega arith) in
      let count : length (take at ps ++ drop (suc at) ps) ≡ length ps - 1 =
      (let e = length-append (take at ps) (drop (suc at) ps) in
      let f = length-take-le at ps low in
      let g = length-drop (suc at) ps in
      omega arith) in
      let left : size - length (take at ps ++ drop (suc at) ps) * 3 ≡ suc (suc (suc free)) = omega arith in
      ap (stored ((length ps - 1) * 3) blank)
      (ap (λ (l : List ℕ). paste l (at * 3) (drop (at * 3 + 3) l) (length ps * 3 - (at * 3 + 3))) whole
      ∙ (down_parts (numbers (take at ps)) gone back zeros (at * 3) (length ps * 3) (front low) refl reach
      ∙ (sym (append_assoc (numbers (take at ps)) back rest)
      ∙ ap (λ (l : List ℕ). (numbers (take at ps) ++ back) ++ l) (sym (take-append-drop 3 rest)))))
      ∙ (over_middle (numbers (take at ps) ++ back) (take 3 rest) (drop 3 rest) ((length ps - 1) * 3) kept (length-take-le 3 rest long) blank
      ∙ rw (left, numbers_append (take at ps) (drop (suc at) ps), beyond))
