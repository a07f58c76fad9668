-- Writing a lent list from its front: number by number, or all at once.
use Prim.Native.Nat.{ℕ, suc, ◌+◌, ◌<◌, ◌≤◌}
use native.Mathlib.Nat.{zero-add, add-zero}
use native.Mathlib.Omega.{arith}
use native.Mathlib.Numerals.{add-one}
use mathlib.Core.Path.{◌≡◌, sym, ◌∙◌}
use mathlib.Core.List.{List, [], ◌∷◌, ◌++◌}
use lib.ListN.{length, take, drop, set, length-append, length-drop}
use lib.Seq.{take-suc-set, drop-set-lt, drop-drop, append_snoc, take-append_seam, drop-append_seam, sets, sets-eq}
use Rattle.lent_lists.specs.Written.{written}

-- one number more
pub written_more :
    (n : ℕ) (ns list : List ℕ) (place : ℕ) → place < length list →
    take place list ++ written (n ∷ ns) (drop place list) ≡
    take (place + 1) (set list place n) ++ written ns (drop (place + 1) (set list place n))
written_more n ns list place h =
    let rest : drop (suc (length ns)) (drop place list) ≡ drop (length ns) (drop (suc place) list) =
    (let e : place + suc (length ns) ≡ suc place + length ns = omega arith in
    drop-drop (suc (length ns)) place list ∙ rw e (sym (drop-drop (length ns) (suc place) list))) in
    rw (add-one place, take-suc-set list place n h, drop-set-lt (suc place) list place n (omega arith), rest)
    (sym (append_snoc (take place list) n (ns ++ drop (length ns) (drop (suc place) list))))

-- numbers set one after the other, in two parts
pub sets_append : (ns ms list : List ℕ) (at : ℕ) → sets list at (ns ++ ms) ≡ sets (sets list at ns) (at + length ns) ms
sets_append [] ms list at = rw (add-zero at)
sets_append (n ∷ ns) ms list at =
    let next : at + suc (length ns) ≡ suc at + length ns = omega arith in
    rw next (sets_append ns ms (set list at n) (suc at))

-- numbers set one after the other from place 0 on
pub sets_written : (ns list : List ℕ) → length ns ≤ length list → sets list 0 ns ≡ written ns list
sets_written ns list h = rw zero-add at (sets-eq ns list 0 (omega arith))

-- the list is as long as before
pub length_written : (ns list : List ℕ) → length ns ≤ length list → length (written ns list) ≡ length list
length_written ns list h =
    let a = length-append ns (drop (length ns) list) in let b = length-drop (length ns) list in omega arith

-- the front of a written list is what was written
pub written_front : (ns list : List ℕ) → take (length ns) (written ns list) ≡ ns
written_front ns list = take-append_seam ns (drop (length ns) list)

-- and the places behind it stay
pub written_later : (ns list : List ℕ) → drop (length ns) (written ns list) ≡ drop (length ns) list
written_later ns list = drop-append_seam ns (drop (length ns) list)
