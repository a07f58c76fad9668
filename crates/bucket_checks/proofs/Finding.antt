-- The first element that is not below the count is what the check of the range names.
use Rattle.std.proofs.Common.{◌≡◌, ℕ, List, [], ◌∷◌, Bool, true, false, Option, Some, None, find, nat_le, Ok, Err, MatchOption, refl, ltb}
use borrow.Author.Tests.{ltb-true, ltb-false, le-leb, lt-leb}
use Rattle.std.proofs.lemmas.Option.{MatchOption-at_some, MatchOption-at_none}
use Rattle.bucket_rules.specs.declared.Failure.{Failure}
use Rattle.bucket_rules.specs.Calls.{range_check}

-- what is found says what the check says
abbrev Says : Option ℕ → ℕ → List ℕ → Type 0
Says found count input = MatchOption found (Ok tt ≡ range_check count input) (λ b. Err (Failure.Range b) ≡ range_check count input)

says : (count : ℕ) (input : List ℕ) → Says (find (λ b. nat_le count b) input) count input
unfolding range_check
says count [] = refl
says count (b ∷ rest) = go (ltb b count) refl (says count rest)
  where
    go :
        (t : Bool) → ltb b count ≡ t → Says (find (λ x. nat_le count x) rest) count rest →
        Says (find (λ x. nat_le count x) (b ∷ rest)) count (b ∷ rest)
    go true e later = rw (lt-leb count b (ltb-true b count e), e) later
    go false e later = rw (le-leb count b (ltb-false b count e), e) refl

-- an element that is not below the count
pub range_named :
    (count : ℕ) (input : List ℕ) (b : ℕ) → find (λ x. nat_le count x) input ≡ Some b → Err (Failure.Range b) ≡ range_check count input
range_named count input b e =
    MatchOption-at_some (Ok tt ≡ range_check count input) (λ x. Err (Failure.Range x) ≡ range_check count input) b e (says count input)

-- or none
pub range_passes :
    (count : ℕ) (input : List ℕ) → find (λ x. nat_le count x) input ≡ None → Ok tt ≡ range_check count input
range_passes count input e =
    MatchOption-at_none (Ok tt ≡ range_check count input) (λ x. Err (Failure.Range x) ≡ range_check count input) e (says count input)
