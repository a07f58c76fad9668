-- How many bytes a source removal reads at most: one for each source.
use Rattle.std.proofs.Common.{Option, Some, None, Result, ℕ}
use Prim.Native.Nat.{ℕ, suc, ◌+◌, ◌≤◌}
use native.Mathlib.Omega.{arith}
use mathlib.Core.List.{List, [], ◌∷◌}
use lib.ListN.{length}
use Rattle.strips.specs.Strips.{byte_at}
use Rattle.booleans.proofs.Tests.{by_cases}
use Rattle.rules.specs.declared.Change.{Change}
use Rattle.rules.specs.declared.Failure.{Failure}
use Rattle.rules.specs.declared.Posting.{Posting}
use Rattle.rules.specs.Orders.{Numbered, named, source_of, sources_from, sources}
use Rattle.rules.specs.Storage.{Removal, removal}
use Rattle.rules.specs.Publication.{Stage, removing}

-- changes have no more sources than they are
sources_few : (i : ℕ) (cs : List Change) → length (sources_from i cs) ≤ length cs
unfolding sources_from
sources_few i [] = omega arith
sources_few i (c ∷ cs) = go (source_of c) (sources_few (i + 1) cs)
  where
    go :
        (k : Option ℕ) → length (sources_from (i + 1) cs) ≤ length cs →
        length (named i c k (sources_from (i + 1) cs)) ≤ suc (length cs)
    go None h = omega arith
    go (Some key) h = omega arith

module _ (strip : List ℕ) (clear : Result ℕ Failure) where
  pub removing_reads :
      (ss : List Numbered) (read : ℕ) (ps : List Posting) → (removing strip clear ss read ps).read ≤ read + length ss
  unfolding removing
  removing_reads [] read ps = omega arith
  removing_reads (s ∷ ss) read ps =
      let r : Removal = removal (byte_at strip read) s.posting ps in
      let more = removing_reads ss (read + 1) r.postings in
      by_cases (λ (t : Stage). t.read ≤ read + suc (length ss)) r.failed (λ e. omega arith) (λ e. omega arith)

  -- a removal of all sources reads no more bytes than there are changes
  pub removing_few :
      (cs : List Change) (read : ℕ) (ps : List Posting) → (removing strip clear (sources cs) read ps).read ≤ read + length cs
  removing_few cs read ps =
      let r = removing_reads (sources cs) read ps in
      let f = sources_few 0 cs in
      omega arith
