-- Prepare: the turns of its walk up the changes, and its end where a change could not be inserted.
use Rattle.std.proofs.Common.{Option, Some, None, Result, Ok, Err, ℕ}
use Prim.Native.Nat.{ℕ, ◌+◌, ◌/◌, ◌<◌, ◌≤◌}
use native.Mathlib.Omega.{arith}
use native.Mathlib.Numerals.{add-one}
use mathlib.Core.Path.{◌≡◌, refl, sym, ap, ◌∙◌}
use mathlib.Core.List.{List, [], ◌∷◌}
use lib.ListN.{length, drop, get_or}
use lib.Seq.{get_or-drop}
use Rattle.strips.specs.Strips.{byte_at}
use Rattle.rules.specs.declared.Change.{Change}
use Rattle.rules.specs.declared.Fault.{Fault}
use Rattle.rules.specs.declared.Posting.{Posting}
use Rattle.rules.specs.declared.Failure.{Failure}
use Rattle.rules.specs.Table.{capacity}
use Rattle.rules.specs.Orders.{Numbered, named, destination_of, destinations_from, no_change}
use Rattle.rules.specs.Storage.{insertion}
use Rattle.rules.specs.Publication.{Undone, Stage, undoing, not_inserted, by_fault, preparing}
use Rattle.booleans.proofs.Tests.{impossible}
use Rattle.changes.proofs.Walk.{destinations_left, destinations_none}
use Rattle.storage.specs.declared.Storage.{Storage}
use Rattle.storage.specs.Leaving.{holding, Leaves, told_fault, InsertionIn}
use Rattle.storage.proofs.Following.{leaves_all, leaves_then}
use Rattle.steps_undo.specs.Leaving.{backward, in_order}
use Rattle.steps_undo.proofs.Undos.{backward_none, undoing_later}
use Rattle.steps.specs.Leaving.{blamed_on, StageIn}

-- the whole of a prepare
abbrev pub whole : List Change → Storage → Stage
whole cs s = preparing (capacity s.numbers.now) s.strip.now (destinations_from 0 cs) [] 0 (holding s)

-- a prepare that has come up to i, with so many postings inserted
pub record Preparing (cs : List Change) (before after : Storage) (inserted i : ℕ) : Type 0 where
  pub read : ℕ
  pub leaves : Leaves before after (holding after) read
  pub some : inserted ≤ i
  pub count : inserted ≡ length (backward in_order i cs)
  pub is :
      whole cs before ≡
      preparing (capacity before.numbers.now) before.strip.now (destinations_from i (drop i cs)) (backward in_order i cs) read (holding after)

preparing_step :
    (capacity : ℕ) (strip : List ℕ) (d : Numbered) (ds done : List Numbered) (read : ℕ) (ps : List Posting) →
    preparing capacity strip (d ∷ ds) done read ps ≡
    by_fault (insertion (byte_at strip read) capacity d.posting ps).fault d.number
    (undoing strip done (Ok tt) (read + 1) (insertion (byte_at strip read) capacity d.posting ps).postings)
    (preparing capacity strip ds (d ∷ done) (read + 1) (insertion (byte_at strip read) capacity d.posting ps).postings)
unfolding preparing
preparing_step capacity strip d ds done read ps = refl

pub prepare_start : (cs : List Change) (s : Storage) → Preparing cs s s 0 0
prepare_start cs s =
    record {
      read = 0;
      leaves = leaves_all s;
      some = omega arith;
      count = ap length (backward_none in_order cs);
      is =
          ap (λ done. preparing (capacity s.numbers.now) s.strip.now (destinations_from 0 cs) done 0 (holding s))
          (backward_none in_order cs);
    }

-- the fault that is told is the one that was met
none_met : (fault : Option Fault) → told_fault fault ≡ Ok tt → fault ≡ None
none_met None e = refl
none_met (Some fault) e = impossible (cc)

some_met : (met : Option Fault) (fault : Fault) → told_fault met ≡ Err fault → met ≡ Some fault
some_met None fault e = impossible (cc)
some_met (Some met) fault e = let same : met ≡ fault = cc in ap Some same

-- it ends the prepare with the undo of what was inserted
blamed_ends :
    (fault : Fault) (change : ℕ) (back : Undone) (next : Stage) →
    by_fault (Some fault) change back next ≡ not_inserted (blamed_on fault change) change back
blamed_ends Fault.Store change back next = refl
blamed_ends Fault.Full change back next = refl

-- one change further, the list of what is to be undone begins with its destination
backward_more :
    (cs : List Change) (i : ℕ) (c : Change) (k : Option ℕ) → c ≡ get_or cs i no_change → destination_of c ≡ k →
    backward in_order (i + 1) cs ≡ named i c k (backward in_order i cs)
unfolding backward
backward_more cs i c k ec e =
    rw (add-one i, ← ec) (ap (λ (j : Option ℕ). named i c j (backward in_order i cs)) e)

module _ {cs : List Change} {before after : Storage} {inserted i : ℕ} (z : Preparing cs before after inserted i) where
  pub prepare_end : length cs ≤ i → StageIn (whole cs before) (Ok inserted) before after
  unfolding preparing
  prepare_end h =
      rw
      (z.is
      ∙ ap
      (λ ds. preparing (capacity before.numbers.now) before.strip.now ds (backward in_order i cs) z.read (holding after))
      (destinations_none cs i h))
      (ap Ok z.count, z.leaves)

  module _ (h : i < length cs) (c : Change) (ec : c ≡ get_or cs i no_change) where
    left :
        (k : Option ℕ) → destination_of c ≡ k →
        whole cs before ≡
        preparing (capacity before.numbers.now) before.strip.now (named i c k (destinations_from (i + 1) (drop (i + 1) cs)))
        (backward in_order i cs) z.read (holding after)
    left k e =
        z.is
        ∙ (ap
        (λ ds. preparing (capacity before.numbers.now) before.strip.now ds (backward in_order i cs) z.read (holding after))
        (destinations_left cs i h)
        ∙ rw (← ec)
        (ap
        (λ (j : Option ℕ).
        preparing (capacity before.numbers.now) before.strip.now (named i c j (destinations_from (i + 1) (drop (i + 1) cs))) (backward in_order i cs) z.read (holding after))
        e))

    pub prepare_pass : destination_of c ≡ None → Preparing cs before after inserted (i + 1)
    prepare_pass e =
        let s = z.some in
        let b = backward_more cs i c None ec e in
        record {
          read = z.read;
          leaves = z.leaves;
          some = omega arith;
          count = z.count ∙ ap length (sym b);
          is =
              left None e
              ∙ ap
              (λ done.
              preparing (capacity before.numbers.now) before.strip.now (destinations_from (i + 1) (drop (i + 1) cs)) done z.read (holding after))
              (sym b);
        }

    module _ (key : ℕ) (ek : destination_of c ≡ Some key) (r : Result Unit Fault) (next : Storage)
        (o : InsertionIn (insertion (byte_at after.strip.now 0) (capacity after.numbers.now) (record { binding = c.binding; key = key; row = c.row }) (holding after)) r after next) where
      reached : Leaves before next (holding next) (z.read + 1)
      reached = let l = leaves_then before after next z.read 1 z.leaves o.1 in (l.0, l.1, refl, l.3)

      stepped :
          (fault : Option Fault) →
          (insertion (byte_at after.strip.now 0) (capacity after.numbers.now) (record { binding = c.binding; key = key; row = c.row }) (holding after)).fault ≡ fault →
          whole cs before ≡
          by_fault fault i (undoing before.strip.now (backward in_order i cs) (Ok tt) (z.read + 1) (holding next))
          (preparing (capacity before.numbers.now) before.strip.now (destinations_from (i + 1) (drop (i + 1) cs))
          (backward in_order (i + 1) cs) (z.read + 1) (holding next))
      stepped fault e =
          let n : z.read + 0 ≡ z.read = omega arith in
          let byte : byte_at after.strip.now 0 ≡ byte_at before.strip.now z.read =
          ap (λ l. byte_at l 0) z.leaves.3 ∙ (get_or-drop z.read before.strip.now 0 0 ∙ ap (byte_at before.strip.now) n) in
          let room : capacity after.numbers.now ≡ capacity before.numbers.now = ap (λ m. m / 3) z.leaves.1 in
          left (Some key) ek
          ∙ (preparing_step (capacity before.numbers.now) before.strip.now (record { number = i; posting = record { binding = c.binding; key = key; row = c.row } }) (destinations_from (i + 1) (drop (i + 1) cs)) (backward in_order i cs) z.read (holding after)
          ∙ rw (← byte, ← room, e, ← o.1.2, backward_more cs i c (Some key) ec ek))

      pub prepare_clear : r ≡ Ok tt → Preparing cs before next (inserted + 1) (i + 1)
      prepare_clear e =
          let s = z.some in
          let n = z.count in
          let b = ap length (backward_more cs i c (Some key) ec ek) in
          record {
            read = z.read + 1;
            leaves = reached;
            some = omega arith;
            count = omega arith;
            is = stepped None (none_met _ (sym o.0 ∙ e));
          }

      -- the insertion failed: what undo reaches is what the whole reaches
      pub prepare_stop :
          (fault : Fault) (why : Failure) (end : Storage) → r ≡ Err fault →
          StageIn
          (not_inserted (blamed_on fault i) i
          (undoing next.strip.now (backward in_order i cs) (Ok tt) 0 (holding next)))
          (Err why) next end →
          StageIn (whole cs before) (Err why) before end
      prepare_stop fault why end e u =
          let n : z.read + 1 + 0 ≡ z.read + 1 = omega arith in
          let later = undoing_later before.strip.now (z.read + 1) (backward in_order i cs) (Ok tt) 0 (holding next) in
          rw (
            stepped (Some fault) (some_met _ fault (sym o.0 ∙ e)) ∙ blamed_ends fault i _ _
                ∙ ap (not_inserted (blamed_on fault i) i) (rw n at later),
            ← reached.3,
          )
          (u.0, leaves_then before next end (z.read + 1) _ reached u.1)
