-- One step by the next byte: what an insertion and a removal leave, and how undo, prepare and source removal go on from there.
use Rattle.std.proofs.Common.{Some, None, Result, Ok, Err, ℕ}
use Prim.Native.Nat.{ℕ, ◌+◌, ◌≤◌, ◌<◌}
use native.Mathlib.Omega.{arith}
use mathlib.Core.Path.{◌≡◌, refl, sym, ◌∙◌}
use mathlib.Core.List.{List, ◌∷◌}
use mathlib.Core.Bool.{true, false, not}
use mathlib.Core.Logic.{◌⊎◌, inl, inr}
use mathlib.Mathlib.Data.Bool.Basic.{and_elim_left}
use lib.ListN.{length}
use lib.Dec.{eqb}
use borrow.Author.Tests.{eq-eqb, ne_eqb, lt-ltb, le-ltb}
use Rattle.strips.specs.Strips.{byte_at}
use Rattle.rules.specs.declared.Posting.{Posting}
use Rattle.rules.specs.declared.Fault.{Fault}
use Rattle.rules.specs.declared.Failure.{Failure}
use Rattle.rules.specs.Postings.{binding_below, same, present, inserted, removed}
use Rattle.rules.specs.Orders.{Numbered}
use Rattle.rules.specs.Storage.{insertion, Removal, removal}
use Rattle.rules.specs.Publication.{undoing, not_inserted, preparing, removing}
use Rattle.laws.specs.Words.{RemovedOnly}
use Rattle.booleans.proofs.Tests.{by_cases, or_left, or_right}
use Rattle.laws.proofs.Lists.{present_removed, length_removed, length_inserted_most}
use Rattle.laws.proofs.Sorted.{ascending_inserted, ascending_removed, every_inserted, every_removed}
use Rattle.laws.proofs.Flat.{Sound}

pub removal_clear :
    (byte : ℕ) (p : Posting) (ps : List Posting) → byte ≡ 0 →
    removal byte p ps ≡ record { failed = false; postings = removed p ps }
unfolding removal
removal_clear byte p ps h = rw (eq-eqb byte 0 h)

pub removal_fails : (byte : ℕ) (p : Posting) (ps : List Posting) → (byte ≡ 0 → ⊥) → (removal byte p ps).failed ≡ true
unfolding removal
removal_fails byte p ps h =
    rw (ne_eqb byte 0 h) (by_cases (λ (r : Removal). r.failed ≡ true) (eqb byte 1) (λ e. refl) (λ e. refl))

-- byte 1 keeps the posting, byte 2 takes it
pub removal_keeps : (p : Posting) (ps : List Posting) → removal 1 p ps ≡ record { failed = true; postings = ps }
unfolding removal
removal_keeps p ps = refl

pub removal_takes : (p : Posting) (ps : List Posting) → removal 2 p ps ≡ record { failed = true; postings = removed p ps }
unfolding removal
removal_takes p ps = refl

-- whatever the byte, the posting is there as before or is gone
pub removal_leaves :
    (byte : ℕ) (p : Posting) (ps : List Posting) →
    ((removal byte p ps).postings ≡ ps) ⊎ ((removal byte p ps).postings ≡ removed p ps)
unfolding removal
removal_leaves byte p ps =
    by_cases (λ (r : Removal). (r.postings ≡ ps) ⊎ (r.postings ≡ removed p ps)) (eqb byte 0) (λ e. inr refl)
    (λ e. by_cases (λ (r : Removal). (r.postings ≡ ps) ⊎ (r.postings ≡ removed p ps)) (eqb byte 1) (λ k. inl refl) (λ k. inr refl))

pub insertion_clear :
    (byte capacity : ℕ) (p : Posting) (ps : List Posting) → byte ≡ 0 → length ps < capacity →
    insertion byte capacity p ps ≡ record { fault = None; postings = inserted p ps }
unfolding insertion
insertion_clear byte capacity p ps h k = rw (eq-eqb byte 0 h, lt-ltb (length ps) capacity k)

pub insertion_full :
    (byte capacity : ℕ) (p : Posting) (ps : List Posting) → byte ≡ 0 → capacity ≤ length ps →
    insertion byte capacity p ps ≡ record { fault = (Some Fault.Full); postings = ps }
unfolding insertion
insertion_full byte capacity p ps h k = rw (eq-eqb byte 0 h, le-ltb (length ps) capacity k)

pub insertion_store :
    (byte capacity : ℕ) (p : Posting) (ps : List Posting) → (byte ≡ 0 → ⊥) →
    insertion byte capacity p ps ≡ record { fault = (Some Fault.Store); postings = ps }
unfolding insertion
insertion_store byte capacity p ps h = rw (ne_eqb byte 0 h)

module _ (strip : List ℕ) (d : Numbered) (ds : List Numbered) (read : ℕ) (ps : List Posting) where
  pub undoing_clear :
      (v : Result Unit Failure) → byte_at strip read ≡ 0 →
      undoing strip (d ∷ ds) v read ps ≡ undoing strip ds v (read + 1) (removed d.posting ps)
  unfolding undoing
  undoing_clear v h = rw (removal_clear (byte_at strip read) d.posting ps h)

  pub undoing_fails :
      (v : Result Unit Failure) → (byte_at strip read ≡ 0 → ⊥) →
      undoing strip (d ∷ ds) v read ps ≡ undoing strip ds (Err (Failure.Undo d.number)) (read + 1) (removal (byte_at strip read) d.posting ps).postings
  unfolding undoing
  undoing_fails v h = rw (removal_fails (byte_at strip read) d.posting ps h)

  pub removing_clear :
      (a : Result ℕ Failure) → byte_at strip read ≡ 0 →
      removing strip a (d ∷ ds) read ps ≡ removing strip a ds (read + 1) (removed d.posting ps)
  unfolding removing
  removing_clear a h = rw (removal_clear (byte_at strip read) d.posting ps h)

  pub removing_fails :
      (a : Result ℕ Failure) → (byte_at strip read ≡ 0 → ⊥) →
      removing strip a (d ∷ ds) read ps ≡ record { answer = Err (Failure.Source d.number); postings = (removal (byte_at strip read) d.posting ps).postings; read = read + 1 }
  unfolding removing
  removing_fails a h = rw (removal_fails (byte_at strip read) d.posting ps h)

  pub preparing_clear :
      (capacity : ℕ) (done : List Numbered) → byte_at strip read ≡ 0 → length ps < capacity →
      preparing capacity strip (d ∷ ds) done read ps ≡ preparing capacity strip ds (d ∷ done) (read + 1) (inserted d.posting ps)
  unfolding preparing
  preparing_clear capacity done h k = rw (insertion_clear (byte_at strip read) capacity d.posting ps h k)

  pub preparing_full :
      (capacity : ℕ) (done : List Numbered) → byte_at strip read ≡ 0 → capacity ≤ length ps →
      preparing capacity strip (d ∷ ds) done read ps ≡ not_inserted (Failure.Full d.number) d.number (undoing strip done (Ok tt) (read + 1) ps)
  unfolding preparing
  preparing_full capacity done h k = rw (insertion_full (byte_at strip read) capacity d.posting ps h k)

  pub preparing_store :
      (capacity : ℕ) (done : List Numbered) → (byte_at strip read ≡ 0 → ⊥) →
      preparing capacity strip (d ∷ ds) done read ps ≡ not_inserted (Failure.Store d.number) d.number (undoing strip done (Ok tt) (read + 1) ps)
  unfolding preparing
  preparing_store capacity done h = rw (insertion_store (byte_at strip read) capacity d.posting ps h)

-- a removal takes away nothing but its own posting, whatever the byte
pub removed_only_then :
    (byte : ℕ) (q : Posting) (ps l qs : List Posting) → RemovedOnly (removal byte q ps).postings l qs →
    RemovedOnly ps l (q ∷ qs)
unfolding present
removed_only_then byte q ps l qs r =
    record {
      inside = λ p h. back p (removal_leaves byte q ps) (r.inside p h);
      kept = λ p h k. r.kept p (stays p h (or_left (same p q) (present p qs) k) (removal_leaves byte q ps)) (or_right (same p q) (present p qs) k);
    }
  where
    back :
        (p : Posting) → ((removal byte q ps).postings ≡ ps) ⊎ ((removal byte q ps).postings ≡ removed q ps) →
        present p (removal byte q ps).postings ≡ true → present p ps ≡ true
    back p (inl e) h = rw e at h
    back p (inr e) h = and_elim_left (present p ps) (not (same p q)) (sym (present_removed p q ps) ∙ (rw e at h))

    stays :
        (p : Posting) → present p ps ≡ true → same p q ≡ false →
        ((removal byte q ps).postings ≡ ps) ⊎ ((removal byte q ps).postings ≡ removed q ps) →
        present p (removal byte q ps).postings ≡ true
    stays p h k (inl e) = rw e h
    stays p h k (inr e) = rw (e, present_removed p q ps, h, k)

pub removed_only_same : (ps qs : List Posting) → RemovedOnly ps ps qs
removed_only_same ps qs = record { inside = λ p h. h; kept = λ p h k. h }

-- sound postings stay sound
pub sound_removal :
    (n size byte : ℕ) (p : Posting) (ps : List Posting) → Sound n size ps → Sound n size (removal byte p ps).postings
sound_removal n size byte p ps s = go (removal_leaves byte p ps)
  where
    go :
        ((removal byte p ps).postings ≡ ps) ⊎ ((removal byte p ps).postings ≡ removed p ps) →
        Sound n size (removal byte p ps).postings
    go (inl e) = rw e s
    go (inr e) =
        rw e
        (record {
          room = let h = length_removed p ps in let k = s.room in omega arith;
          sorted = ascending_removed p ps s.sorted;
          bound = every_removed (binding_below n) p ps s.bound;
        })

pub sound_inserted :
    (n size : ℕ) (p : Posting) (ps : List Posting) → binding_below n p ≡ true → length ps < size → Sound n size ps →
    Sound n size (inserted p ps)
sound_inserted n size p ps b h s =
    record {
      room = let k = length_inserted_most p ps in omega arith;
      sorted = ascending_inserted p ps s.sorted;
      bound = every_inserted (binding_below n) p ps b s.bound;
    }
