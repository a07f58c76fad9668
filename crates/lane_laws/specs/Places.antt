-- What each call answers, and where. The constructors of each shut each other out and cover every case: see Places in proofs.
use Rattle.std.specs.Prelude.{ℕ, ◌≤◌, ◌<◌, ◌≡◌, List, Result, Ok, Err}
use Rattle.strips.specs.Strips.{byte_at}
use Rattle.lane_rules.specs.declared.View.{View}
use Rattle.lane_rules.specs.declared.Failure.{Failure}
use Rattle.lane_laws.specs.Clauses.{NoneBelow, DetachEntry, RefreshedEntry}
use Rattle.lane_laws.specs.Ends.{detach_work, Clean, AllCleared, SomeNo, SomeError, lanes_tried, rounds_needed}

-- the cached pass
pub data CachedAnswers (v : View) (strip : List ℕ) : Result ℕ Failure → Type 0 where
  refused : {a : Failure} → DetachEntry v strip (Err a) → CachedAnswers v strip (Err a)
  yes :
      DetachEntry v strip (Ok tt) → AllCleared strip v.window v.attached 0 v.height →
      CachedAnswers v strip (Ok 1)
  no :
      DetachEntry v strip (Ok tt) → SomeNo strip v.window v.attached 0 v.height →
      CachedAnswers v strip (Ok 0)
  offset :
      DetachEntry v strip (Ok tt) → SomeError strip v.window v.attached 0 v.height →
      CachedAnswers v strip (Err (Failure.Offset 0))

-- the refreshed pass
pub data RefreshedAnswers (v : View) (strip : List ℕ) : Result ℕ Failure → Type 0 where
  refused : {a : Failure} → RefreshedEntry v strip (Err a) → RefreshedAnswers v strip (Err a)
  yes :
      RefreshedEntry v strip (Ok tt) → NoneBelow v.window v.height → RefreshedAnswers v strip (Ok 1)
  no :
      RefreshedEntry v strip (Ok tt) → 0 < lanes_tried v.window v.height →
      Clean strip 0 (lanes_tried v.window v.height) → RefreshedAnswers v strip (Ok 0)
  offset :
      RefreshedEntry v strip (Ok tt) →
      (i : ℕ) × (i < lanes_tried v.window v.height) × (1 < byte_at strip i) →
      RefreshedAnswers v strip (Err (Failure.Offset 0))

-- detach, with so many rounds lent: 0 and 24 tell the rounds that it needs, 25 those that were lent
pub data DetachAnswers (v : View) (strip : List ℕ) (lent : ℕ) : Result ℕ Failure → Type 0 where
  refused : {a : Failure} → DetachEntry v strip (Err a) → DetachAnswers v strip lent (Err a)
  accepted :
      {n : ℕ} → DetachEntry v strip (Ok tt) → Clean strip 0 (detach_work v strip lent).read → rounds_needed v strip ≤ lent →
      n ≡ rounds_needed v strip → DetachAnswers v strip lent (Ok n)
  offset :
      {n : ℕ} → DetachEntry v strip (Ok tt) →
      (i : ℕ) × (i < (detach_work v strip lent).read) × (1 < byte_at strip i) → n ≡ rounds_needed v strip →
      DetachAnswers v strip lent (Err (Failure.Offset n))
  budget :
      DetachEntry v strip (Ok tt) → lent < rounds_needed v strip → DetachAnswers v strip lent (Err (Failure.Budget lent))
