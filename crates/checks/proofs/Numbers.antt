-- Answer 14: the record from a place on, the numbers behind it, and why they stay few.
use Rattle.std.proofs.Common.{Result, Ok}
use Prim.Native.Nat.{ℕ, zero, suc, ◌+◌, ◌<◌, ◌≤◌}
use native.Mathlib.Numerals.{add-one}
use native.Mathlib.Omega.{arith}
use mathlib.Core.Path.{◌≡◌, refl, ◌∙◌}
use mathlib.Core.List.{List, [], ◌∷◌}
use mathlib.Core.Bool.{true, not}
use mathlib.Mathlib.Data.Bool.Basic.{and_elim_left, and_elim_right}
use lib.ListN.{length, take, drop, get_or, drop_of_length-le}
use lib.Seq.{take-suc}
use lib.Dec.{ltb}
use borrow.Author.Tests.{ltb-true, not-true}
use Rattle.rules.specs.declared.Change.{Change}
use Rattle.rules.specs.declared.Failure.{Failure}
use Rattle.rules.specs.Orders.{destination_of, no_change}
use Rattle.rules.specs.Checks.{must, or_else, is_named, recordable, record_from, record_check}
use Rattle.lent_lists.specs.Among.{among}
use Rattle.laws.proofs.Names.{among_snoc}
use Rattle.laws.proofs.Left.{item_left}
use Rattle.checks.specs.Keys.{is_new_at}
use Rattle.checks.proofs.Few.{Few, none, more, few_length}

-- what a number of the record means
module _ (cs : List Change) (n : ℕ) where
  recordable_below : recordable cs n ≡ true → n < length cs
  unfolding recordable
  recordable_below h = ltb-true n (length cs) (and_elim_left (ltb n (length cs)) (is_named (destination_of (get_or cs n no_change))) h)

-- the numbers before a place, the last first: as the check keeps them
pub behind : ℕ → List ℕ → List ℕ
behind zero l = []
behind (suc place) l = get_or l place 0 ∷ behind place l

-- what the check says of the record from a place on
abbrev pub record_left : List Change → List ℕ → ℕ → Result Unit Failure
record_left cs l place = record_from place cs (behind place l) (drop place l)

length_behind : (place : ℕ) (l : List ℕ) → length (behind place l) ≡ place
unfolding behind
length_behind zero l = refl
length_behind (suc place) l = let ih = length_behind place l in omega arith

among_behind :
    (number place : ℕ) (l : List ℕ) → place ≤ length l → among number (behind place l) ≡ among number (take place l)
unfolding behind among
among_behind number zero l h = refl
among_behind number (suc place) l h =
    let k : place < length l = omega arith in
    rw (take-suc l place 0 k, among_snoc number (take place l) (get_or l place 0), among_behind number place l (omega arith))

-- a place with few numbers behind it is at most their bound
pub few_places : (bound place : ℕ) (l : List ℕ) → Few bound (behind place l) → place ≤ bound
few_places bound place l f =
    let h = few_length bound (behind place l) f in
    let n = length_behind place l in
    omega arith

-- the number at a place: it passes, or the record is refused there
module _ (cs : List Change) (l : List ℕ) (place : ℕ) (h : place < length l) where
  pub record_turn :
      record_left cs l place ≡ or_else (must (is_new_at cs l place) (Failure.Record place)) (record_left cs l (place + 1))
  unfolding record_from behind
  record_turn =
      let k : place ≤ length l = omega arith in
      rw (item_left 0 l place h, among_behind (get_or l place 0) place l k, add-one place)

  -- a number that passes keeps the numbers behind few
  pub record_more : is_new_at cs l place ≡ true → Few (length cs) (behind place l) → Few (length cs) (behind (place + 1) l)
  unfolding behind
  record_more n f =
      let k : place ≤ length l = omega arith in
      let r = and_elim_left (recordable cs (get_or l place 0)) (not (among (get_or l place 0) (take place l))) n in
      let a = not-true (among (get_or l place 0) (take place l)) (and_elim_right (recordable cs (get_or l place 0)) (not (among (get_or l place 0) (take place l))) n) in
      rw (add-one place)
      (more (recordable_below cs (get_or l place 0) r) (among_behind (get_or l place 0) place l k ∙ a) f)

pub few_none : (bound : ℕ) (l : List ℕ) → Few bound (behind 0 l)
unfolding behind
few_none bound l = none

pub record_all : (cs : List Change) (l : List ℕ) → record_check cs l ≡ record_left cs l 0
unfolding record_check behind
record_all cs l = refl

pub record_none : (cs : List Change) (l : List ℕ) (place : ℕ) → length l ≤ place → record_left cs l place ≡ Ok tt
unfolding record_from
record_none cs l place h = rw (drop_of_length-le l h)
