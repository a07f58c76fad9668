-- The record: the turns of the walk that writes it.
use Rattle.std.proofs.Common.{Option, Some, None, ℕ}
use Prim.Native.Nat.{ℕ, ◌+◌, ◌<◌, ◌≤◌}
use native.Mathlib.Omega.{arith}
use mathlib.Core.Path.{◌≡◌, sym, ap, ◌∙◌}
use mathlib.Core.List.{List, ◌++◌}
use lib.ListN.{length, take, drop, set, get_or, length-set, take-append-drop}
use Rattle.lent_lists.specs.Written.{written}
use Rattle.lent_lists.proofs.Writing.{written_more}
use Rattle.rules.specs.declared.Change.{Change}
use Rattle.rules.specs.Orders.{Numbered, named, change_numbers, destination_of, destinations_from, no_change}
use Rattle.changes.proofs.Walk.{destinations_left, destinations_none}

-- a record that is written up to a place, for the changes before i
pub record Recording (cs : List Change) (list₀ list : List ℕ) (place i : ℕ) : Type 0 where
  pub low : i ≤ length cs
  pub few : place ≤ i
  pub len : length list ≡ length list₀
  pub is :
      written (change_numbers (destinations_from 0 cs)) list₀ ≡
      take place list ++ written (change_numbers (destinations_from i (drop i cs))) (drop place list)

module _ {cs : List Change} {list₀ list : List ℕ} {place i : ℕ} (z : Recording cs list₀ list place i) where
  pub record_end : length cs ≤ i → list ≡ written (change_numbers (destinations_from 0 cs)) list₀
  record_end h =
      sym
      (z.is
      ∙ (ap (λ (ds : List Numbered). take place list ++ written (change_numbers ds) (drop place list)) (destinations_none cs i h)
      ∙ take-append-drop place list))

  module _ (h : i < length cs) (c : Change) (ec : c ≡ get_or cs i no_change) where
    left :
        (k : Option ℕ) → destination_of c ≡ k →
        written (change_numbers (destinations_from 0 cs)) list₀ ≡
        take place list ++ written (change_numbers (named i c k (destinations_from (i + 1) (drop (i + 1) cs)))) (drop place list)
    left k e =
        z.is
        ∙ (ap (λ (ds : List Numbered). take place list ++ written (change_numbers ds) (drop place list)) (destinations_left cs i h)
        ∙ rw (← ec)
        (ap (λ (j : Option ℕ). take place list ++ written (change_numbers (named i c j (destinations_from (i + 1) (drop (i + 1) cs)))) (drop place list)) e))

    pub record_pass : destination_of c ≡ None → Recording cs list₀ list place (i + 1)
    record_pass e =
        let f = z.few in
        record { low = omega arith; few = omega arith; len = z.len; is = left None e }

    pub record_turn :
        (key : ℕ) → destination_of c ≡ Some key → length cs ≤ length list₀ → Recording cs list₀ (set list place i) (place + 1) (i + 1)
    record_turn key e room =
        let f = z.few in
        let l = z.len in
        record {
          low = omega arith;
          few = omega arith;
          len = length-set list place i ∙ l;
          is =
              left (Some key) e
              ∙ written_more i (change_numbers (destinations_from (i + 1) (drop (i + 1) cs))) list place (omega arith);
        }
