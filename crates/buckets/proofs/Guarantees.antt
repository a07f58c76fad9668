-- What holds of every result of a bucket call, by its promise alone: each answer exactly where its condition holds, upstream's
-- clauses, the membership bits, and that the two engines agree.
use Prim.Native.Nat.{ℕ, ◌<◌}
use mathlib.Core.Path.{◌≡◌, sym, ap, ◌∙◌, subst}
use mathlib.Core.List.{List, []}
use mathlib.Core.Bool.{Bool, true}
use mathlib.Core.Logic.{◌↔◌}
use Rattle.bucket_rules.specs.Answers.{Answer}
use Rattle.bucket_rules.specs.Calls.{Outcome, sort_of, bitmap_of}
use Rattle.bucket_laws.specs.Clauses.{OutputRoom, BitmapRoom, SortAnswers, BitmapAnswers, BucketClauses, ScratchClauses, Agree}
use Rattle.bucket_laws.proofs.Exactly as exactly
use Rattle.bucket_laws.proofs.Upstream as upstream
use Rattle.bucket_laws.proofs.Bits as bits
use Rattle.bucket_laws.proofs.Agreement as agreement
use Rattle.bucket_laws.proofs.Stamps as stamps
use Rattle.buckets.specs.Promises.{outcome_of, SortPromise, BitmapPromise, PrecedesPromise}
use Rattle.buckets.proofs.Outcomes.{seen_injective}

module _ (input : List ℕ) (count : ℕ) (output : List ℕ) (a : Answer) (o : List ℕ) (p : SortPromise input count output a o) where
  pub sort_is : outcome_of a o [] ≡ sort_of input count output
  sort_is = seen_injective (outcome_of a o []) (sort_of input count output) p

  -- each answer exactly where its condition holds
  pub sort_exactly : (b : Answer) → (a ≡ b) ↔ SortAnswers input count output b
  sort_exactly b =
      subst (λ (x : Outcome). (x.answer ≡ b) ↔ SortAnswers input count output b) (sym sort_is)
      (exactly.sort_exactly input count output b)

  -- upstream's clauses
  pub sort_result : BucketClauses input count output [] (outcome_of a o [])
  sort_result = subst (BucketClauses input count output []) (sym sort_is) (upstream.sort_clauses input count output)

module _
    (input : List ℕ) (count : ℕ) (output scratch : List ℕ) (a : Answer) (o s : List ℕ)
    (p : BitmapPromise input count output scratch a o s) where
  pub bitmap_is : outcome_of a o s ≡ bitmap_of input count output scratch
  bitmap_is = seen_injective (outcome_of a o s) (bitmap_of input count output scratch) p

  -- each answer exactly where its condition holds
  pub bitmap_exactly : (b : Answer) → (a ≡ b) ↔ BitmapAnswers input count output scratch b
  bitmap_exactly b =
      subst (λ (x : Outcome). (x.answer ≡ b) ↔ BitmapAnswers input count output scratch b) (sym bitmap_is)
      (exactly.bitmap_exactly input count output scratch b)

  -- upstream's clauses
  pub bitmap_result : BucketClauses input count output scratch (outcome_of a o s)
  bitmap_result =
      subst (BucketClauses input count output scratch) (sym bitmap_is) (upstream.bitmap_clauses input count output scratch)

  -- the membership bits
  pub bitmap_scratch : ScratchClauses input count scratch (outcome_of a o s)
  bitmap_scratch =
      subst (ScratchClauses input count scratch) (sym bitmap_is) (bits.scratch_clauses input count output scratch)

-- given room for both, the two engines agree in answer, in result and in what they wrote, whatever was lent for writing
pub engines_agree :
    (input : List ℕ) (count : ℕ) (output other scratch : List ℕ) (a b : Answer) (o q s : List ℕ) →
    SortPromise input count output a o → BitmapPromise input count other scratch b q s → OutputRoom input count output →
    BitmapRoom input count other scratch → Agree (outcome_of a o []) (outcome_of b q s)
engines_agree input count output other scratch a b o q s f g r t =
    subst (λ (x : Outcome). Agree x (outcome_of b q s)) (sym (sort_is input count output a o f))
    (subst (Agree (sort_of input count output)) (sym (bitmap_is input count other scratch b q s g))
    (agreement.rules_agree input count output other scratch r t))

-- and where the same output was lent, it holds the same afterwards
pub outputs_agree :
    (input : List ℕ) (count : ℕ) (output scratch : List ℕ) (a b : Answer) (o q s : List ℕ) →
    SortPromise input count output a o → BitmapPromise input count output scratch b q s →
    BitmapRoom input count output scratch → o ≡ q
outputs_agree input count output scratch a b o q s f g t =
    ap (λ (x : Outcome). x.output) (sort_is input count output a o f)
    ∙ (agreement.outputs_agree input count output scratch t
    ∙ sym (ap (λ (x : Outcome). x.output) (bitmap_is input count output scratch b q s g)))

-- a stamp precedes a snapshot exactly where it is less
pub precedes_exactly :
    (stamp snapshot : ℕ) (r : Bool) → PrecedesPromise stamp snapshot r → (r ≡ true) ↔ (stamp < snapshot)
precedes_exactly stamp snapshot r p =
    subst (λ (b : Bool). (b ≡ true) ↔ (stamp < snapshot)) (sym p) (stamps.precedes_exactly stamp snapshot)
