-- What a call reached in a lent table: few postings; and what it left of its strip, with how many bytes it read at most.
use Prim.Native.Nat.{ℕ, suc, ◌+◌, ◌*◌, ◌^◌, ◌<◌, ◌≤◌}
use native.Mathlib.Omega.{arith}
use mathlib.Core.Path.{◌≡◌}
use mathlib.Core.List.{List, [], ◌∷◌}
use mathlib.Core.Bool.{true, ◌&&◌}
use lib.ListN.{length, drop}
use lib.Seq.{drop-drop}
use lib.Dec.{eqb}
use Rattle.booleans.proofs.Tests.{by_cases}
use Rattle.rules.specs.declared.Head.{Head}
use Rattle.rules.specs.declared.Posting.{Posting}
use Rattle.rules.specs.Postings.{rows_under, counted}
use Rattle.rules.specs.Table.{well_formed}
use Rattle.rules.specs.declared.Change.{Change}
use Rattle.rules.specs.Orders.{destinations, sources}
use Rattle.rules.specs.Answers.{is_accepted}
use Rattle.rules.specs.Publication.{Stage, preparing, then_sources}
use Rattle.laws.proofs.Flat.{well_formed_parts}
use Rattle.table.specs.Holding.{Carries}
use Rattle.steps.proofs.Reading.{preparing_few}
use Rattle.steps_sources.proofs.Reading.{removing_few}

-- a table within its limit carries few postings
pub used_fits :
    (head : Head) (t₀ t : List ℕ) (used : ℕ) (ps : List Posting) → well_formed head t₀ ≡ true → length t ≡ length t₀ → Carries t used ps →
    used < 2 ^ 32
used_fits head t₀ t used ps w l h =
    let s = (well_formed_parts head t₀ w).size in
    let r = h.room in
    omega arith

-- what two parts of a call leave of a strip
pub left_after : (first second : ℕ) (strip : List ℕ) → drop second (drop first strip) ≡ drop (first + second) strip
left_after first second strip = drop-drop second first strip

-- a whole publish reads no more bytes than three times the number of its changes, and one
pub publish_few :
    (capacity : ℕ) (strip : List ℕ) (cs : List Change) (ps : List Posting) →
    (then_sources strip (sources cs) (preparing capacity strip (destinations cs) [] 0 ps)).read ≤ length cs * 3 + 1
publish_few capacity strip cs ps =
    let p : Stage = preparing capacity strip (destinations cs) [] 0 ps in
    let b : p.read ≤ length cs * 2 + 1 = preparing_few capacity strip cs ps in
    let r = removing_few strip p.answer cs p.read p.postings in
    by_cases (λ (s : Stage). s.read ≤ length cs * 3 + 1) (is_accepted p.answer) (λ e. omega arith) (λ e. omega arith)

-- a count is no more than the postings are
pub counted_most : (binding key : ℕ) (ps : List Posting) → counted binding key ps ≤ length ps
unfolding rows_under
counted_most binding key [] = omega arith
counted_most binding key (q ∷ qs) =
    let ih = counted_most binding key qs in
    by_cases (λ (l : List ℕ). length l ≤ suc (length qs)) (eqb binding q.binding && eqb key q.key) (λ e. omega arith)
    (λ e. omega arith)
