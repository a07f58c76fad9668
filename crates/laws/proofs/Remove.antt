-- Source removal: clear exactly where every byte that it reads is 0; else it stops at the first other byte.
use Rattle.std.proofs.Common.{Result, Err, ℕ}
use Prim.Native.Nat.{ℕ, suc, ◌+◌, ◌<◌}
use native.Mathlib.Omega.{arith}
use mathlib.Core.Path.{◌≡◌, refl}
use mathlib.Core.List.{List, [], ◌∷◌}
use mathlib.Core.Logic.{◌⊎◌, inl, inr, ⊎_elim}
use lib.ListN.{length}
use Rattle.strips.specs.Strips.{byte_at}
use Rattle.rules.specs.declared.Posting.{Posting}
use Rattle.rules.specs.declared.Failure.{Failure}
use Rattle.rules.specs.Postings.{removed}
use Rattle.rules.specs.Orders.{Numbered, postings_of}
use Rattle.rules.specs.Storage.{removal}
use Rattle.rules.specs.Publication.{Stage, removing}
use Rattle.laws.specs.Words.{taken_away, number_at, Quiet, RemovedOnly}
use Rattle.booleans.proofs.Tests.{by_cases}
use Rattle.laws.proofs.Flat.{Sound}
use Rattle.laws.proofs.Steps.{removing_clear, removing_fails, removed_only_then, removed_only_same, sound_removal}
use Rattle.laws.proofs.Undo.{byte_is, quiet_cons, quiet_none}

pub record Cleared (strip : List ℕ) (clear : Result ℕ Failure) (items : List Numbered) (read : ℕ) (ps : List Posting) (s : Stage) : Type 0 where
  pub quiet : Quiet strip read (read + length items)
  pub answers : s.answer ≡ clear
  pub leaves : s.postings ≡ taken_away items ps

pub record Halted (strip : List ℕ) (items : List Numbered) (read : ℕ) (s : Stage) : Type 0 where
  pub at : ℕ
  pub there : at < length items
  pub quiet : Quiet strip read (read + at)
  pub fault : byte_at strip (read + at) ≡ 0 → ⊥
  pub answers : s.answer ≡ Err (Failure.Source (number_at items at))

module _ (strip : List ℕ) (clear : Result ℕ Failure) where
  cleared_none : (read : ℕ) (ps : List Posting) → Cleared strip clear [] read ps (removing strip clear [] read ps)
  unfolding removing taken_away
  cleared_none read ps = record { quiet = quiet_none strip read (read + 0) (omega arith); answers = refl; leaves = refl }

  cleared_cons :
      (d : Numbered) (ds : List Numbered) (read : ℕ) (ps : List Posting) (s : Stage) → byte_at strip read ≡ 0 →
      Cleared strip clear ds (read + 1) (removed d.posting ps) s → Cleared strip clear (d ∷ ds) read ps s
  unfolding taken_away
  cleared_cons d ds read ps s h c =
      record {
        quiet = quiet_cons strip read (read + suc (length ds)) h λ i k l. c.quiet i k (omega arith);
        answers = c.answers;
        leaves = c.leaves;
      }

  halted_cons :
      (d : Numbered) (ds : List Numbered) (read : ℕ) (s : Stage) → byte_at strip read ≡ 0 → Halted strip ds (read + 1) s →
      Halted strip (d ∷ ds) read s
  halted_cons d ds read s h c =
      let e : read + 1 + c.at ≡ read + suc c.at = omega arith in
      record {
        at = suc c.at;
        there = let t = c.there in omega arith;
        quiet = quiet_cons strip read (read + suc c.at) h λ i k l. c.quiet i k (omega arith);
        fault = rw e at c.fault;
        answers = c.answers;
      }

  halted_here :
      (d : Numbered) (ds : List Numbered) (read : ℕ) (l : List Posting) → (byte_at strip read ≡ 0 → ⊥) →
      Halted strip (d ∷ ds) read (record { answer = Err (Failure.Source d.number); postings = l; read = read + 1 })
  halted_here d ds read l h =
      let e : read + 0 ≡ read = omega arith in
      record { at = 0; there = omega arith; quiet = quiet_none strip read (read + 0) (omega arith); fault = rw e h; answers = refl }

  pub remove_runs :
      (items : List Numbered) (read : ℕ) (ps : List Posting) →
      Cleared strip clear items read ps (removing strip clear items read ps) ⊎ Halted strip items read (removing strip clear items read ps)
  remove_runs [] read ps = inl (cleared_none read ps)
  remove_runs (d ∷ ds) read ps = go (byte_is (byte_at strip read)) (remove_runs ds (read + 1) (removed d.posting ps))
    where
      go :
          (byte_at strip read ≡ 0) ⊎ (byte_at strip read ≡ 0 → ⊥) →
          Cleared strip clear ds (read + 1) (removed d.posting ps) (removing strip clear ds (read + 1) (removed d.posting ps)) ⊎ Halted strip ds (read + 1) (removing strip clear ds (read + 1) (removed d.posting ps)) →
          Cleared strip clear (d ∷ ds) read ps (removing strip clear (d ∷ ds) read ps) ⊎ Halted strip (d ∷ ds) read (removing strip clear (d ∷ ds) read ps)
      go (inl h) ih =
          rw (removing_clear strip d ds read ps clear h)
          (⊎_elim (λ c. inl (cleared_cons d ds read ps _ h c)) (λ c. inr (halted_cons d ds read _ h c)) ih)
      go (inr h) ih = rw (removing_fails strip d ds read ps clear h) (inr (halted_here d ds read _ h))

  -- whatever the strip, it takes away nothing but its own postings, and sound postings stay sound
  pub remove_removes :
      (items : List Numbered) (read : ℕ) (ps : List Posting) →
      RemovedOnly ps (removing strip clear items read ps).postings (postings_of items)
  unfolding removing
  remove_removes [] read ps = removed_only_same ps []
  remove_removes (d ∷ ds) read ps =
      by_cases (λ (s : Stage). RemovedOnly ps s.postings (postings_of (d ∷ ds))) (removal (byte_at strip read) d.posting ps).failed
      (λ e. removed_only_then (byte_at strip read) d.posting ps _ (postings_of ds) (removed_only_same _ (postings_of ds)))
      (λ e. removed_only_then (byte_at strip read) d.posting ps _ (postings_of ds)
      (remove_removes ds (read + 1) (removal (byte_at strip read) d.posting ps).postings))

  pub remove_sound :
      (n size : ℕ) (items : List Numbered) (read : ℕ) (ps : List Posting) → Sound n size ps →
      Sound n size (removing strip clear items read ps).postings
  unfolding removing
  remove_sound n size [] read ps s = s
  remove_sound n size (d ∷ ds) read ps s =
      by_cases (λ (t : Stage). Sound n size t.postings) (removal (byte_at strip read) d.posting ps).failed
      (λ e. sound_removal n size (byte_at strip read) d.posting ps s)
      (λ e. remove_sound n size ds (read + 1) (removal (byte_at strip read) d.posting ps).postings
      (sound_removal n size (byte_at strip read) d.posting ps s))
