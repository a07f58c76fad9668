-- What is seen after a bucket call, and what the rules say is seen. The promise of each call is that the two are equal.
use Rattle.std.specs.Prelude.{ℕ, ◌≡◌, List, [], Bool}
use Rattle.bucket_rules.specs.declared.Told.{Told}
use Rattle.bucket_rules.specs.Answers.{Answer, told_of}
use Rattle.bucket_rules.specs.Calls.{Outcome, sort_of, bitmap_of}
use Rattle.bucket_rules.specs.Stamps.{precedes}

-- the numbers of the answer, and every number of the output and of the scratch
pub record Seen : Type 0 where
  pub told : Told
  pub output : List ℕ
  pub scratch : List ℕ

-- a result, with the lists that were lent for writing as they are on return
abbrev pub outcome_of : Answer → List ℕ → List ℕ → Outcome
outcome_of a output scratch = record { answer = a; output = output; scratch = scratch }

-- what is seen of an outcome
abbrev pub seen : Outcome → Seen
seen o = record { told = told_of o.answer; output = o.output; scratch = o.scratch }

-- the promises: at entry the input, the bucket count and what is lent for writing; on return the answer, and what was lent
abbrev pub SortPromise : List ℕ → ℕ → List ℕ → Answer → List ℕ → Type 0
SortPromise input count output a output_left = seen (outcome_of a output_left []) ≡ seen (sort_of input count output)

abbrev pub BitmapPromise : List ℕ → ℕ → List ℕ → List ℕ → Answer → List ℕ → List ℕ → Type 0
BitmapPromise input count output scratch a output_left scratch_left =
    seen (outcome_of a output_left scratch_left) ≡ seen (bitmap_of input count output scratch)

-- the stamp test
abbrev pub PrecedesPromise : ℕ → ℕ → Bool → Type 0
PrecedesPromise stamp snapshot r = r ≡ precedes stamp snapshot
