-- Prepare over destinations that are all new: it is ready exactly where there is room for them all and every byte that it
-- reads is 0; else it stops at one destination and takes back those before it.
use Rattle.std.proofs.Common.{Ok, Err}
use Prim.Native.Nat.{ℕ, suc, ◌+◌, ◌≤◌, ◌<◌}
use native.Mathlib.Omega.{arith}
use mathlib.Core.Path.{◌≡◌, refl, sym, ap, ◌∙◌}
use mathlib.Core.List.{List, [], ◌∷◌}
use mathlib.Core.Bool.{true, false, ◌||◌, or_assoc}
use mathlib.Core.Logic.{◌⊎◌, inl, inr, ⊎_elim}
use mathlib.Mathlib.Data.Bool.Basic.{and_elim_left, and_elim_right}
use lib.ListN.{length}
use lib.Dec.{ltb}
use borrow.Author.Tests.{ltb-true, ltb-false}
use Rattle.strips.specs.Strips.{byte_at}
use Rattle.rules.specs.declared.Posting.{Posting}
use Rattle.rules.specs.declared.Failure.{Failure}
use Rattle.rules.specs.Postings.{every, binding_below, same, present, inserted}
use Rattle.rules.specs.Orders.{Numbered, postings_of}
use Rattle.rules.specs.Publication.{undoing, Stage, why_not, not_inserted, preparing}
use Rattle.laws.specs.Words.{added, number_at, Quiet, Noisy}
use Rattle.booleans.proofs.Tests.{either, or_swap}
use Rattle.laws.proofs.Lists.{present_inserted, length_inserted}
use Rattle.laws.proofs.Flat.{Sound}
use Rattle.laws.proofs.Steps.{preparing_clear, preparing_full, preparing_store, sound_inserted}
use Rattle.laws.proofs.Undo.{byte_is, quiet_cons, quiet_none, UndoClean, UndoFailed, undo_runs, undo_removes, undo_sound, Put, put_back, put_other}

-- each destination is new when its turn comes
abbrev pub Fresh : List Numbered → List Posting → Type 0
Fresh [] ps = Unit {0}
Fresh (d ∷ ds) ps = (present d.posting ps ≡ false) × Fresh ds (inserted d.posting ps)

pub record Ready (capacity : ℕ) (strip : List ℕ) (ds done : List Numbered) (read : ℕ) (ps : List Posting) (s : Stage) : Type 0 where
  pub room : length ps + length ds ≤ capacity
  pub quiet : Quiet strip read (read + length ds)
  pub answers : s.answer ≡ Ok (length done + length ds)
  pub leaves : s.postings ≡ added ds ps
  pub reads : s.read ≡ read + length ds

-- why an insertion failed
pub data Cause (byte used capacity change : ℕ) : Failure → Type 0 where
  store : (byte ≡ 0 → ⊥) → Cause byte used capacity change (Failure.Store change)
  full : byte ≡ 0 → used ≡ capacity → Cause byte used capacity change (Failure.Full change)

-- the postings put in were all taken out again
pub record TakenBack (strip : List ℕ) (from to : ℕ) (base : List Posting) (why : Failure) (s : Stage) : Type 0 where
  pub quiet : Quiet strip from to
  pub answers : s.answer ≡ Err why
  pub leaves : s.postings ≡ base

-- some could not be taken out
pub record LeftBehind (strip : List ℕ) (from to change : ℕ) (base : List Posting) (s : Stage) : Type 0 where
  pub noisy : Noisy strip from to
  pub answers : s.answer ≡ Err (Failure.Undo change)
  pub keeps : (p : Posting) → present p base ≡ true → present p s.postings ≡ true

-- the insertion at `at` failed, and as many removals as were insertions followed
pub record Stopped (capacity : ℕ) (strip : List ℕ) (base : List Posting) (ds : List Numbered) (before read used : ℕ) (s : Stage) : Type 0 where
  pub at : ℕ
  pub there : at < length ds
  pub quiet : Quiet strip read (read + at)
  pub room : used + at ≤ capacity
  pub why : Failure
  pub cause : Cause (byte_at strip (read + at)) (used + at) capacity (number_at ds at) why
  pub undo : TakenBack strip (read + at + 1) (read + at + 1 + (before + at)) base why s ⊎ LeftBehind strip (read + at + 1) (read + at + 1 + (before + at)) (number_at ds at) base s

module _ (capacity : ℕ) (strip : List ℕ) (base : List Posting) where
  abbrev Runs : List Numbered → List Numbered → ℕ → List Posting → Stage → Type 0
  Runs ds done read ps s =
      Ready capacity strip ds done read ps s ⊎ Stopped capacity strip base ds (length done) read (length ps) s

  ready_none :
      (done : List Numbered) (read : ℕ) (ps : List Posting) → length ps ≤ capacity →
      Ready capacity strip [] done read ps (preparing capacity strip [] done read ps)
  unfolding preparing added
  ready_none done read ps h =
      record {
        room = omega arith;
        quiet = quiet_none strip read (read + 0) (omega arith);
        answers = let e : length done ≡ length done + 0 = omega arith in ap Ok e;
        leaves = refl;
        reads = omega arith;
      }

  ready_cons :
      (d : Numbered) (ds done : List Numbered) (read : ℕ) (ps : List Posting) (s : Stage) → byte_at strip read ≡ 0 →
      present d.posting ps ≡ false → Ready capacity strip ds (d ∷ done) (read + 1) (inserted d.posting ps) s →
      Ready capacity strip (d ∷ ds) done read ps s
  unfolding added
  ready_cons d ds done read ps s h k r =
      let e : suc (length done) + length ds ≡ length done + suc (length ds) = omega arith in
      record {
        room = let l = length_inserted d.posting ps k in let m = r.room in omega arith;
        quiet = quiet_cons strip read (read + suc (length ds)) h λ i j l. r.quiet i j (omega arith);
        answers = r.answers ∙ ap Ok e;
        leaves = r.leaves;
        reads = let l = r.reads in omega arith;
      }

  stopped_cons :
      (d : Numbered) (ds done : List Numbered) (read : ℕ) (ps : List Posting) (s : Stage) → byte_at strip read ≡ 0 →
      present d.posting ps ≡ false →
      Stopped capacity strip base ds (suc (length done)) (read + 1) (length (inserted d.posting ps)) s →
      Stopped capacity strip base (d ∷ ds) (length done) read (length ps) s
  stopped_cons d ds done read ps s h k r =
      let l = length_inserted d.posting ps k in
      let e : read + 1 + r.at ≡ read + suc r.at = omega arith in
      let u : length (inserted d.posting ps) + r.at ≡ length ps + suc r.at = omega arith in
      let f : read + 1 + r.at + 1 ≡ read + suc r.at + 1 = omega arith in
      let n : suc (length done) + r.at ≡ length done + suc r.at = omega arith in
      record {
        at = suc r.at;
        there = let t = r.there in omega arith;
        quiet = quiet_cons strip read (read + suc r.at) h λ i j m. r.quiet i j (omega arith);
        room = let m = r.room in omega arith;
        why = r.why;
        cause = rw (e, u) at r.cause;
        undo = rw (f, n) at r.undo;
      }

  stopped_here :
      (why : Failure) (d : Numbered) (ds done : List Numbered) (read : ℕ) (ps : List Posting) → length ps ≤ capacity →
      Put base done ps → Cause (byte_at strip read) (length ps) capacity d.number why →
      Stopped capacity strip base (d ∷ ds) (length done) read (length ps) (not_inserted why d.number (undoing strip done (Ok tt) (read + 1) ps))
  stopped_here why d ds done read ps h w c =
      let e : read + 0 ≡ read = omega arith in
      let u : length ps + 0 ≡ length ps = omega arith in
      let n : length done + 0 ≡ length done = omega arith in
      record {
        at = 0;
        there = omega arith;
        quiet = quiet_none strip read (read + 0) (omega arith);
        room = omega arith;
        why = why;
        cause = rw (e, u) c;
        undo = rw (e, n) (⊎_elim (λ k. inl (back k)) (λ k. inr (left k)) (undo_runs strip done (Ok tt) (read + 1) ps));
      }
    where
      back :
          UndoClean strip done (Ok tt) (read + 1) ps (undoing strip done (Ok tt) (read + 1) ps) →
          TakenBack strip (read + 1) (read + 1 + length done) base why (not_inserted why d.number (undoing strip done (Ok tt) (read + 1) ps))
      back k =
          record {
            quiet = k.quiet;
            answers = ap (λ v. Err (why_not v why d.number)) k.verdict;
            leaves = k.leaves ∙ put_back base done ps w;
          }

      left :
          UndoFailed strip done (read + 1) (undoing strip done (Ok tt) (read + 1) ps) →
          LeftBehind strip (read + 1) (read + 1 + length done) d.number base (not_inserted why d.number (undoing strip done (Ok tt) (read + 1) ps))
      left k =
          record {
            noisy = record { place = read + 1 + k.at; after = omega arith; below = let t = k.there in omega arith; fault = k.fault };
            answers = ap (λ v. Err (why_not v why d.number)) k.verdict;
            keeps = λ p m. (undo_removes strip done (Ok tt) (read + 1) ps).kept p (put_other base done ps w p m).0 (put_other base done ps w p m).1;
          }

  pub prepare_runs :
      (ds done : List Numbered) (read : ℕ) (ps : List Posting) → Fresh ds ps → Put base done ps → length ps ≤ capacity →
      Runs ds done read ps (preparing capacity strip ds done read ps)
  prepare_runs [] done read ps f w h = inl (ready_none done read ps h)
  prepare_runs (d ∷ ds) done read ps f w h =
      go (byte_is (byte_at strip read)) (either (ltb (length ps) capacity)) (prepare_runs ds (d ∷ done) (read + 1) (inserted d.posting ps) f.1 (ps, refl, f.0, w))
    where
      go :
          (byte_at strip read ≡ 0) ⊎ (byte_at strip read ≡ 0 → ⊥) →
          (ltb (length ps) capacity ≡ true) ⊎ (ltb (length ps) capacity ≡ false) →
          (length (inserted d.posting ps) ≤ capacity → Runs ds (d ∷ done) (read + 1) (inserted d.posting ps) (preparing capacity strip ds (d ∷ done) (read + 1) (inserted d.posting ps))) →
          Runs (d ∷ ds) done read ps (preparing capacity strip (d ∷ ds) done read ps)
      go (inl b) (inl l) ih =
          let k = ltb-true (length ps) capacity l in
          let n = length_inserted d.posting ps f.0 in
          rw (preparing_clear strip d ds read ps capacity done b k)
          (⊎_elim (λ r. inl (ready_cons d ds done read ps _ b f.0 r)) (λ r. inr (stopped_cons d ds done read ps _ b f.0 r))
          (ih (omega arith)))
      go (inl b) (inr l) ih =
          let k = ltb-false (length ps) capacity l in
          rw (preparing_full strip d ds read ps capacity done b k)
          (inr (stopped_here (Failure.Full d.number) d ds done read ps h w (full b (omega arith))))
      go (inr b) l ih =
          rw (preparing_store strip d ds read ps capacity done b)
          (inr (stopped_here (Failure.Store d.number) d ds done read ps h w (store b)))

-- what holds after the next insertion, and after any undo, holds of prepare
prepare_step :
    (P : Stage → Type 0) (capacity : ℕ) (strip : List ℕ) (d : Numbered) (ds done : List Numbered) (read : ℕ) (ps : List Posting) →
    (length ps < capacity → P (preparing capacity strip ds (d ∷ done) (read + 1) (inserted d.posting ps))) →
    ((why : Failure) → P (not_inserted why d.number (undoing strip done (Ok tt) (read + 1) ps))) →
    P (preparing capacity strip (d ∷ ds) done read ps)
prepare_step P capacity strip d ds done read ps next back = go (byte_is (byte_at strip read)) (either (ltb (length ps) capacity))
  where
    go :
        (byte_at strip read ≡ 0) ⊎ (byte_at strip read ≡ 0 → ⊥) →
        (ltb (length ps) capacity ≡ true) ⊎ (ltb (length ps) capacity ≡ false) →
        P (preparing capacity strip (d ∷ ds) done read ps)
    go (inl b) (inl l) =
        let k = ltb-true (length ps) capacity l in
        rw (preparing_clear strip d ds read ps capacity done b k) (next k)
    go (inl b) (inr l) =
        rw (preparing_full strip d ds read ps capacity done b (ltb-false (length ps) capacity l)) (back (Failure.Full d.number))
    go (inr b) l = rw (preparing_store strip d ds read ps capacity done b) (back (Failure.Store d.number))

-- whatever the strip, nothing comes in but destinations
pub prepare_inside :
    (capacity : ℕ) (strip : List ℕ) (ds done : List Numbered) (read : ℕ) (ps : List Posting) (p : Posting) →
    present p (preparing capacity strip ds done read ps).postings ≡ true → (present p ps || present p (postings_of ds)) ≡ true
unfolding preparing present
prepare_inside capacity strip [] done read ps p h = rw h
prepare_inside capacity strip (d ∷ ds) done read ps p h =
    prepare_step (λ (s : Stage). present p s.postings ≡ true → (present p ps || (same p d.posting || present p (postings_of ds))) ≡ true) capacity strip d ds done read ps
    (λ l k.
    or_swap (present p ps) (same p d.posting) (present p (postings_of ds))
    ∙ (sym (or_assoc (same p d.posting) (present p ps) (present p (postings_of ds)))
    ∙ (ap (λ b. b || present p (postings_of ds)) (sym (present_inserted p d.posting ps))
    ∙ prepare_inside capacity strip ds (d ∷ done) (read + 1) (inserted d.posting ps) p k)))
    (λ why k. rw ((undo_removes strip done (Ok tt) (read + 1) ps).inside p k))
    h

-- and sound postings stay sound
pub prepare_sound :
    (n capacity : ℕ) (strip : List ℕ) (ds done : List Numbered) (read : ℕ) (ps : List Posting) →
    every (binding_below n) (postings_of ds) ≡ true → Sound n capacity ps →
    Sound n capacity (preparing capacity strip ds done read ps).postings
unfolding preparing every
prepare_sound n capacity strip [] done read ps h s = s
prepare_sound n capacity strip (d ∷ ds) done read ps h s =
    prepare_step (λ (t : Stage). Sound n capacity t.postings) capacity strip d ds done read ps
    (λ l.
    prepare_sound n capacity strip ds (d ∷ done) (read + 1) (inserted d.posting ps)
    (and_elim_right (binding_below n d.posting) (every (binding_below n) (postings_of ds)) h)
    (sound_inserted n capacity d.posting ps (and_elim_left (binding_below n d.posting) (every (binding_below n) (postings_of ds)) h) l s))
    (λ why. undo_sound n capacity strip done (Ok tt) (read + 1) ps s)
