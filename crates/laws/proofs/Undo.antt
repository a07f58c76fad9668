-- A run of undo removals: clean exactly where every byte that it reads is 0; else refused with the last change whose removal
-- failed. It goes through the whole list either way.
use Rattle.std.proofs.Common.{Result, Err}
use Prim.Native.Nat.{ℕ, suc, ◌+◌, ◌≤◌, ◌<◌}
use native.Mathlib.Omega.{arith}
use mathlib.Core.Path.{◌≡◌, refl}
use mathlib.Core.List.{List, [], ◌∷◌}
use mathlib.Core.Bool.{Bool, true, false, or-true}
use mathlib.Core.Logic.{◌⊎◌, inl, inr, ⊎_elim}
use lib.ListN.{length}
use lib.Dec.{eqb}
use borrow.Author.Tests.{eqb-true, eqb-false}
use Rattle.strips.specs.Strips.{byte_at}
use Rattle.strips.proofs.Walk.{stretch_one, stretch_join}
use Rattle.rules.specs.declared.Posting.{Posting}
use Rattle.rules.specs.declared.Failure.{Failure}
use Rattle.rules.specs.Postings.{same, present, inserted, removed}
use Rattle.rules.specs.Orders.{Numbered, postings_of}
use Rattle.rules.specs.Storage.{removal}
use Rattle.rules.specs.Publication.{Undone, undoing}
use Rattle.laws.specs.Words.{taken_away, number_at, Quiet, Noisy, RemovedOnly}
use Rattle.booleans.proofs.Tests.{neither}
use Rattle.laws.proofs.Lists.{removed_inserted, present_inserted, differs}
use Rattle.laws.proofs.Flat.{Sound}
use Rattle.laws.proofs.Steps.{undoing_clear, undoing_fails, removed_only_then, removed_only_same, sound_removal}

-- a byte is 0 or isn't
pub byte_is : (byte : ℕ) → (byte ≡ 0) ⊎ (byte ≡ 0 → ⊥)
byte_is byte = go (eqb byte 0) refl
  where
    go : (b : Bool) → eqb byte 0 ≡ b → (byte ≡ 0) ⊎ (byte ≡ 0 → ⊥)
    go true e = inl (eqb-true byte 0 e)
    go false e = inr (eqb-false byte 0 e)

-- one byte more in front
pub quiet_cons : (strip : List ℕ) (from to : ℕ) → byte_at strip from ≡ 0 → Quiet strip (from + 1) to → Quiet strip from to
quiet_cons strip from to h q =
    let P : ℕ → Type 0 = λ i. byte_at strip i ≡ 0 in stretch_join P from (from + 1) to (stretch_one P from h) q

-- two stretches, one behind the other
pub quiet_join : (strip : List ℕ) (from via to : ℕ) → Quiet strip from via → Quiet strip via to → Quiet strip from to
quiet_join strip = stretch_join (λ i. byte_at strip i ≡ 0)

pub quiet_none : (strip : List ℕ) (from to : ℕ) → to ≤ from → Quiet strip from to
quiet_none strip from to h i k l = absurd (omega arith)

-- a noisy stretch is not quiet
pub not_quiet : (strip : List ℕ) (from to : ℕ) → Noisy strip from to → Quiet strip from to → ⊥
not_quiet strip from to n q = n.fault (q n.place n.after n.below)

pub record UndoClean (strip : List ℕ) (items : List Numbered) (v : Result Unit Failure) (read : ℕ) (ps : List Posting) (u : Undone) : Type 0 where
  pub quiet : Quiet strip read (read + length items)
  pub verdict : u.verdict ≡ v
  pub leaves : u.postings ≡ taken_away items ps
  pub reads : u.read ≡ read + length items

-- the last removal to fail is the one at `at`
pub record UndoFailed (strip : List ℕ) (items : List Numbered) (read : ℕ) (u : Undone) : Type 0 where
  pub at : ℕ
  pub there : at < length items
  pub fault : byte_at strip (read + at) ≡ 0 → ⊥
  pub last : Quiet strip (read + at + 1) (read + length items)
  pub verdict : u.verdict ≡ Err (Failure.Undo (number_at items at))
  pub reads : u.read ≡ read + length items

module _ (strip : List ℕ) (d : Numbered) (ds : List Numbered) (read : ℕ) (u : Undone) where
  clean_cons :
      (v : Result Unit Failure) (ps : List Posting) → byte_at strip read ≡ 0 → UndoClean strip ds v (read + 1) (removed d.posting ps) u →
      UndoClean strip (d ∷ ds) v read ps u
  unfolding taken_away
  clean_cons v ps h c =
      record {
        quiet = quiet_cons strip read (read + suc (length ds)) h λ i k l. c.quiet i k (omega arith);
        verdict = c.verdict;
        leaves = c.leaves;
        reads = let r = c.reads in omega arith;
      }

  failed_cons : UndoFailed strip ds (read + 1) u → UndoFailed strip (d ∷ ds) read u
  failed_cons f =
      let e : read + 1 + f.at ≡ read + suc f.at = omega arith in
      record {
        at = suc f.at;
        there = let t = f.there in omega arith;
        fault = rw e at f.fault;
        last = λ i k l. f.last i (omega arith) (omega arith);
        verdict = f.verdict;
        reads = let r = f.reads in omega arith;
      }

  failed_here :
      (l : List Posting) → (byte_at strip read ≡ 0 → ⊥) →
      UndoClean strip ds (Err (Failure.Undo d.number)) (read + 1) l u → UndoFailed strip (d ∷ ds) read u
  failed_here l h c =
      let e : read + 0 ≡ read = omega arith in
      record {
        at = 0;
        there = omega arith;
        fault = rw e h;
        last = λ i k m. c.quiet i (omega arith) (omega arith);
        verdict = c.verdict;
        reads = let r = c.reads in omega arith;
      }

undo_none :
    (strip : List ℕ) (v : Result Unit Failure) (read : ℕ) (ps : List Posting) → UndoClean strip [] v read ps (undoing strip [] v read ps)
unfolding undoing taken_away
undo_none strip v read ps =
    record { quiet = quiet_none strip read (read + 0) (omega arith); verdict = refl; leaves = refl; reads = omega arith }

pub undo_runs :
    (strip : List ℕ) (items : List Numbered) (v : Result Unit Failure) (read : ℕ) (ps : List Posting) →
    UndoClean strip items v read ps (undoing strip items v read ps) ⊎ UndoFailed strip items read (undoing strip items v read ps)
undo_runs strip [] v read ps = inl (undo_none strip v read ps)
undo_runs strip (d ∷ ds) v read ps = go (byte_is (byte_at strip read)) (undo_runs strip ds)
  where
    Runs : List Numbered → Result Unit Failure → ℕ → List Posting → Undone → Type 0
    Runs items w r l u = UndoClean strip items w r l u ⊎ UndoFailed strip items r u

    go :
        (byte_at strip read ≡ 0) ⊎ (byte_at strip read ≡ 0 → ⊥) →
        ((w : Result Unit Failure) (r : ℕ) (l : List Posting) → Runs ds w r l (undoing strip ds w r l)) →
        Runs (d ∷ ds) v read ps (undoing strip (d ∷ ds) v read ps)
    go (inl h) ih =
        rw (undoing_clear strip d ds read ps v h)
        (⊎_elim (λ c. inl (clean_cons strip d ds read _ v ps h c)) (λ f. inr (failed_cons strip d ds read _ f))
        (ih v (read + 1) (removed d.posting ps)))
    go (inr h) ih =
        rw (undoing_fails strip d ds read ps v h)
        (⊎_elim (λ c. inr (failed_here strip d ds read _ _ h c)) (λ f. inr (failed_cons strip d ds read _ f))
        (ih (Err (Failure.Undo d.number)) (read + 1) (removal (byte_at strip read) d.posting ps).postings))

-- whatever the strip, it takes away nothing but its own postings, and sound postings stay sound
pub undo_removes :
    (strip : List ℕ) (items : List Numbered) (v : Result Unit Failure) (read : ℕ) (ps : List Posting) →
    RemovedOnly ps (undoing strip items v read ps).postings (postings_of items)
unfolding undoing
undo_removes strip [] v read ps = removed_only_same ps []
undo_removes strip (d ∷ ds) v read ps =
    removed_only_then (byte_at strip read) d.posting ps _ (postings_of ds)
    (undo_removes strip ds _ (read + 1) (removal (byte_at strip read) d.posting ps).postings)

pub undo_sound :
    (n size : ℕ) (strip : List ℕ) (items : List Numbered) (v : Result Unit Failure) (read : ℕ) (ps : List Posting) → Sound n size ps →
    Sound n size (undoing strip items v read ps).postings
unfolding undoing
undo_sound n size strip [] v read ps s = s
undo_sound n size strip (d ∷ ds) v read ps s =
    undo_sound n size strip ds _ (read + 1) (removal (byte_at strip read) d.posting ps).postings
    (sound_removal n size (byte_at strip read) d.posting ps s)

-- the postings `done`, the last one first, were put into the list `base` one by one, each where it was not yet
abbrev pub Put : List Posting → List Numbered → List Posting → Type 0
Put base [] ps = ps ≡ base
Put base (d ∷ ds) ps =
    (before : List Posting) × (ps ≡ inserted d.posting before) × (present d.posting before ≡ false) × Put base ds before

-- what was put in and is taken away again leaves the list as it was
pub put_back : (base : List Posting) (done : List Numbered) (ps : List Posting) → Put base done ps → taken_away done ps ≡ base
unfolding taken_away
put_back base [] ps e = e
put_back base (d ∷ ds) ps w =
    rw (w.1, removed_inserted d.posting w.0 w.2) (put_back base ds w.0 w.3)

-- what stood in the list at first was not put in
pub put_other :
    (base : List Posting) (done : List Numbered) (ps : List Posting) → Put base done ps → (p : Posting) → present p base ≡ true →
    (present p ps ≡ true) × (present p (postings_of done) ≡ false)
unfolding present
put_other base [] ps e p h = (rw e h, refl)
put_other base (d ∷ ds) ps w p h =
    let r = put_other base ds w.0 w.3 p h in (
      rw (w.1, present_inserted p d.posting w.0, r.0) (or-true (same p d.posting)),
      neither (same p d.posting) (present p (postings_of ds)) (differs p d.posting w.0 r.0 w.2) r.1,
    )
