-- How many bytes a prepare reads at most: one for each insertion, and one for each removal of its undo.
use Rattle.std.proofs.Common.{Option, Some, None, Ok, ℕ}
use Prim.Native.Nat.{ℕ, suc, ◌+◌, ◌*◌, ◌≤◌}
use native.Mathlib.Omega.{arith}
use mathlib.Core.Path.{◌≡◌}
use mathlib.Core.List.{List, [], ◌∷◌}
use lib.ListN.{length}
use Rattle.strips.specs.Strips.{byte_at}
use Rattle.rules.specs.declared.Change.{Change}
use Rattle.rules.specs.declared.Fault.{Fault}
use Rattle.rules.specs.declared.Posting.{Posting}
use Rattle.rules.specs.Orders.{Numbered, destination_of, destinations_from, destinations}
use Rattle.rules.specs.Storage.{Insertion, insertion}
use Rattle.rules.specs.Publication.{Undone, Stage, undoing, by_fault, preparing}
use Rattle.steps_undo.proofs.Undos.{undoing_reads, named_few}

-- changes have no more destinations than they are
destinations_few : (i : ℕ) (cs : List Change) → length (destinations_from i cs) ≤ length cs
unfolding destinations_from
destinations_few i [] = omega arith
destinations_few i (c ∷ cs) =
    named_few i c (destination_of c) (destinations_from (i + 1) cs) (length cs) (destinations_few (i + 1) cs)

-- what holds of the undo, and of the next insertions, holds whatever the insertion met
fault_few :
    (fault : Option Fault) (change : ℕ) (back : Undone) (next : Stage) (most : ℕ) → back.read ≤ most → next.read ≤ most →
    (by_fault fault change back next).read ≤ most
fault_few None change back next most b n = n
fault_few (Some Fault.Store) change back next most b n = b
fault_few (Some Fault.Full) change back next most b n = b

pub preparing_reads :
    (capacity : ℕ) (strip : List ℕ) (ds done : List Numbered) (read : ℕ) (ps : List Posting) →
    (preparing capacity strip ds done read ps).read ≤ read + length done + 2 * length ds
unfolding preparing
preparing_reads capacity strip [] done read ps = omega arith
preparing_reads capacity strip (d ∷ ds) done read ps =
    let i : Insertion = insertion (byte_at strip read) capacity d.posting ps in
    let back : Undone = undoing strip done (Ok tt) (read + 1) i.postings in
    let next : Stage = preparing capacity strip ds (d ∷ done) (read + 1) i.postings in
    let b : back.read ≡ read + 1 + length done = undoing_reads strip done (Ok tt) (read + 1) i.postings in
    let n : next.read ≤ read + 1 + suc (length done) + 2 * length ds = preparing_reads capacity strip ds (d ∷ done) (read + 1) i.postings in
    fault_few i.fault d.number back next (read + length done + 2 * suc (length ds)) (omega arith) (omega arith)

-- a whole prepare reads no more bytes than twice the number of its changes, and one
pub preparing_few :
    (capacity : ℕ) (strip : List ℕ) (cs : List Change) (ps : List Posting) →
    (preparing capacity strip (destinations cs) [] 0 ps).read ≤ length cs * 2 + 1
preparing_few capacity strip cs ps =
    let r : (preparing capacity strip (destinations cs) [] 0 ps).read ≤ 0 + 0 + 2 * length (destinations_from 0 cs) =
    preparing_reads capacity strip (destinations cs) [] 0 ps in
    let f = destinations_few 0 cs in
    omega arith
