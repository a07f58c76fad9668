-- Undo: one change, and the turns of a run from the last change to the first.
use Rattle.std.proofs.Common.{Option, Some, None, Result, Ok, Err, ℕ}
use Prim.Native.Nat.{ℕ, zero, suc, ◌+◌, ◌-◌, ◌<◌, ◌≤◌}
use native.Mathlib.Omega.{arith}
use mathlib.Core.Path.{◌≡◌, refl, sym, ap, ◌∙◌}
use mathlib.Core.List.{List, [], ◌∷◌, ◌++◌, reverse, reverse_aux-eq, append-nil}
use mathlib.Core.Bool.{true, cond}
use mathlib.Mathlib.Data.Bool.Basic.{and_elim_left, and_elim_right}
use lib.ListN.{length, get_or, drop}
use lib.Seq.{get_or-drop}
use lib.Dec.{ltb}
use borrow.Author.Tests.{ltb-true}
use Rattle.strips.specs.Strips.{byte_at}
use Rattle.rules.specs.declared.Change.{Change}
use Rattle.rules.specs.declared.Posting.{Posting}
use Rattle.rules.specs.declared.Failure.{Failure}
use Rattle.rules.specs.Orders.{Numbered, named, destination_of, no_change, recorded}
use Rattle.rules.specs.Storage.{removal}
use Rattle.rules.specs.Postings.{every}
use Rattle.rules.specs.Publication.{Undone, undoing}
use Rattle.changes.proofs.Walk.{named_append}
use Rattle.storage.specs.declared.Storage.{Storage}
use Rattle.storage.specs.Leaving.{holding, Leaves}
use Rattle.storage.proofs.Following.{leaves_then}
use Rattle.steps_undo.specs.Leaving.{UndoneIn, backward, as_recorded}

undoing_step :
    (strip : List ℕ) (d : Numbered) (ds : List Numbered) (v : Result Unit Failure) (read : ℕ) (ps : List Posting) →
    undoing strip (d ∷ ds) v read ps ≡
    undoing strip ds
    (cond (removal (byte_at strip read) d.posting ps).failed (Err (Failure.Undo d.number)) v) (read + 1)
    (removal (byte_at strip read) d.posting ps).postings
unfolding undoing
undoing_step strip d ds v read ps = refl

undoing_nothing : (strip : List ℕ) (v : Result Unit Failure) (read : ℕ) (ps : List Posting) → undoing strip [] v read ps ≡ record { verdict = v; postings = ps; read = read }
unfolding undoing
undoing_nothing strip v read ps = refl

-- a run that begins where so many bytes are read is the run over the bytes that are left, and has read that many more
pub undoing_later :
    (strip : List ℕ) (n : ℕ) (ds : List Numbered) (v : Result Unit Failure) (read : ℕ) (ps : List Posting) →
    undoing strip ds v (n + read) ps ≡ record
    { verdict = (undoing (drop n strip) ds v read ps).verdict; postings = (undoing (drop n strip) ds v read ps).postings; read = n + (undoing (drop n strip) ds v read ps).read }
undoing_later strip n [] v read ps = rw (undoing_nothing strip v (n + read) ps, undoing_nothing (drop n strip) v read ps)
undoing_later strip n (d ∷ ds) v read ps =
    let next : n + read + 1 ≡ n + (read + 1) = omega arith in
    let byte : byte_at (drop n strip) read ≡ byte_at strip (n + read) = get_or-drop n strip read 0 in
    rw (undoing_step strip d ds v (n + read) ps, undoing_step (drop n strip) d ds v read ps, byte, next)
    (undoing_later strip n ds _ (read + 1) _)

-- a run reads one byte for each removal
pub undoing_reads :
    (strip : List ℕ) (ds : List Numbered) (v : Result Unit Failure) (read : ℕ) (ps : List Posting) →
    (undoing strip ds v read ps).read ≡ read + length ds
unfolding undoing
undoing_reads strip [] v read ps = omega arith
undoing_reads strip (d ∷ ds) v read ps =
    let next : read + 1 + length ds ≡ read + suc (length ds) = omega arith in
    undoing_reads strip ds _ (read + 1) (removal (byte_at strip read) d.posting ps).postings ∙ next

-- a change names one posting at most
pub named_few :
    (number : ℕ) (c : Change) (k : Option ℕ) (ds : List Numbered) (most : ℕ) → length ds ≤ most → length (named number c k ds) ≤ suc most
named_few number c None ds most h = omega arith
named_few number c (Some key) ds most h = omega arith

-- one change is undone, and what is left to undo goes on from there
one_more :
    (strip : List ℕ) (number : ℕ) (c : Change) (k : Option ℕ) (ds : List Numbered) (v : Result Unit Failure) (read : ℕ) (ps : List Posting) →
    undoing strip (named number c k ds) v read ps ≡
    undoing strip ds (undoing (drop read strip) (named number c k []) v 0 ps).verdict
    (read + (undoing (drop read strip) (named number c k []) v 0 ps).read)
    (undoing (drop read strip) (named number c k []) v 0 ps).postings
unfolding undoing
one_more strip number c None ds v read ps = let n : read + 0 ≡ read = omega arith in rw n
one_more strip number c (Some key) ds v read ps =
    let n : read + 0 ≡ read = omega arith in rw (get_or-drop read strip 0 0, n)

-- no change, and one change further
pub backward_none : (number : ℕ → ℕ) (cs : List Change) → [] ≡ backward number 0 cs
unfolding backward
backward_none number cs = refl

backward_next :
    (number : ℕ → ℕ) (cs : List Change) (i : ℕ) → 0 < i →
    backward number i cs ≡ named (number (i - 1)) (get_or cs (number (i - 1)) no_change)
    (destination_of (get_or cs (number (i - 1)) no_change)) (backward number (i - 1) cs)
unfolding backward
backward_next number cs zero h = absurd (omega arith)
backward_next number cs (suc i) h = let e : suc i - 1 ≡ i = omega arith in rw e

-- so many changes name no more postings than they are
backward_few : (number : ℕ → ℕ) (cs : List Change) (i : ℕ) → length (backward number i cs) ≤ i
unfolding backward
backward_few number cs zero = omega arith
backward_few number cs (suc i) =
    let c : Change = get_or cs (number i) no_change in
    named_few (number i) c (destination_of c) (backward number i cs) i (backward_few number cs i)

-- and their undo reads no more bytes
pub undo_few :
    (strip : List ℕ) (number : ℕ → ℕ) (cs : List Change) (i : ℕ) (v : Result Unit Failure) (ps : List Posting) →
    (undoing strip (backward number i cs) v 0 ps).read ≤ i
undo_few strip number cs i v ps =
    let r = undoing_reads strip (backward number i cs) v 0 ps in
    let f = backward_few number cs i in
    omega arith

-- a run of undo removals that has come down to i
pub record Undoing (number : ℕ → ℕ) (cs : List Change) (n : ℕ) (before after : Storage) (v : Result Unit Failure) (i : ℕ) : Type 0 where
  pub read : ℕ
  pub leaves : Leaves before after (holding after) read
  pub is :
      undoing before.strip.now (backward number n cs) (Ok tt) 0 (holding before) ≡
      undoing before.strip.now (backward number i cs) v read (holding after)

module _ {number : ℕ → ℕ} {cs : List Change} {n : ℕ} {before after : Storage} {v : Result Unit Failure} {i : ℕ}
    (z : Undoing number cs n before after v i) where
  pub undo_turn :
      {next : Storage} {r : Result Unit Failure} → 0 < i →
      UndoneIn
      (undoing after.strip.now
      (named (number (i - 1)) (get_or cs (number (i - 1)) no_change) (destination_of (get_or cs (number (i - 1)) no_change)) [])
      v 0 (holding after))
      r after next →
      Undoing number cs n before next r (i - 1)
  undo_turn {next} {r} h o =
      let c : Change = get_or cs (number (i - 1)) no_change in
      let b : List ℕ = before.strip.now in
      let here : after.strip.now ≡ drop z.read b = z.leaves.3 in
      let u : Undone = undoing after.strip.now (named (number (i - 1)) c (destination_of c) []) v 0 (holding after) in
      record {
        read = z.read + u.read;
        leaves = let l = leaves_then before after next z.read u.read z.leaves o.1 in (l.0, l.1, refl, l.3);
        is =
            z.is
            ∙ (ap (λ ds. undoing b ds v z.read (holding after)) (backward_next number cs i h)
            ∙ (one_more b (number (i - 1)) c (destination_of c) (backward number (i - 1) cs) v z.read (holding after)
            ∙ rw (← here, o.0, o.1.2) refl));
      }

  pub undo_end : i ≡ 0 → UndoneIn (undoing before.strip.now (backward number n cs) (Ok tt) 0 (holding before)) v before after
  unfolding backward undoing
  undo_end e =
      rw (z.is ∙ ap (λ m. undoing before.strip.now (backward number m cs) v z.read (holding after)) e) (refl, z.leaves)

-- a record from its end to its start
named_reverse :
    (n : ℕ) (c : Change) (k : Option ℕ) (ds : List Numbered) → reverse (named n c k ds) ≡ reverse ds ++ named n c k []
named_reverse n c None ds = sym (append-nil (reverse ds))
named_reverse n c (Some key) ds =
    reverse_aux-eq ds (record { number = n; posting = record { binding = c.binding; key = key; row = c.row } } ∷ [])

backward_last :
    (cs : List Change) (n : ℕ) (ns : List ℕ) (i : ℕ) →
    backward (as_recorded (n ∷ ns)) (suc i) cs ≡
    backward (as_recorded ns) i cs ++ named n (get_or cs n no_change) (destination_of (get_or cs n no_change)) []
unfolding backward
backward_last cs n ns zero = refl
backward_last cs n ns (suc i) =
    let k : ℕ = get_or ns i 0 in
    ap (named k (get_or cs k no_change) (destination_of (get_or cs k no_change))) (backward_last cs n ns i)
    ∙ sym
    (named_append k (get_or cs k no_change) (destination_of (get_or cs k no_change)) (backward (as_recorded ns) i cs)
    (named n (get_or cs n no_change) (destination_of (get_or cs n no_change)) []))

pub recorded_backward : (cs : List Change) (ns : List ℕ) → reverse (recorded cs ns) ≡ backward (as_recorded ns) (length ns) cs
unfolding recorded
recorded_backward cs [] = backward_none (as_recorded []) cs
recorded_backward cs (n ∷ ns) =
    named_reverse n (get_or cs n no_change) (destination_of (get_or cs n no_change)) (recorded cs ns)
    ∙ (ap (λ ds. ds ++ named n (get_or cs n no_change) (destination_of (get_or cs n no_change)) []) (recorded_backward cs ns)
    ∙ sym (backward_last cs n ns (length ns)))

-- so a rollback reads no more bytes than its record is long
pub rollback_few :
    (strip : List ℕ) (cs : List Change) (ns : List ℕ) (v : Result Unit Failure) (ps : List Posting) →
    (undoing strip (reverse (recorded cs ns)) v 0 ps).read ≤ length ns
rollback_few strip cs ns v ps =
    rw (recorded_backward cs ns) (undo_few strip (as_recorded ns) cs (length ns) v ps)

-- each number of a record that passed its check is a change's
pub number_below :
    (count : ℕ) (ns : List ℕ) (i : ℕ) → every (λ n. ltb n count) ns ≡ true → i < length ns → get_or ns i 0 < count
unfolding every
number_below count [] i e h = absurd (omega arith)
number_below count (n ∷ ns) zero e h = ltb-true n count (and_elim_left (ltb n count) (every (λ n. ltb n count) ns) e)
number_below count (n ∷ ns) (suc i) e h =
    number_below count ns i (and_elim_right (ltb n count) (every (λ n. ltb n count) ns) e) (omega arith)
