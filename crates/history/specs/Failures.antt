-- What a storage failure leaves: after a 12 and after a 13 exactly which postings stand in the table, told by the bytes of the
-- strip and, where an insertion finds no room, by capacity and used. No step of prepare, undo or source removal is named here.
use Rattle.std.specs.Prelude.{ℕ, ◌+◌, ◌-◌, ◌<◌, ◌≡◌, List, [], ◌∷◌, reverse, true, false, cond, not, ◌&&◌, ◌||◌, length, get_or, take, eqb, Result, Err}
use Rattle.strips.specs.Strips.{byte_at}
use Rattle.lent_lists.specs.Written.{written}
use Rattle.rules.specs.declared.Posting.{Posting}
use Rattle.rules.specs.declared.Head.{Head}
use Rattle.rules.specs.declared.Failure.{Failure}
use Rattle.rules.specs.Postings.{same, present}
use Rattle.rules.specs.Table.{capacity, laid_out}
use Rattle.rules.specs.Orders.{Numbered, destinations, sources, postings_of, change_numbers, recorded, Call, changes_of}
use Rattle.rules.specs.Calls.{Outcome, head_with}
use Rattle.laws.specs.Words.{postings_before, added, taken_away, nowhere, number_at, Quiet, Noisy}
use Rattle.history.specs.Acceptance.{Fails}
use Rattle.history.specs.Upstream.{postings_left}

-- all that is seen after a 12 or 13 that left these postings and this record list: the poison flag is set, the binding count and
-- the size are as before
abbrev pub poisoned_with : Head → List ℕ → List ℕ → Result ℕ Failure → List Posting → Outcome
poisoned_with head table list a ps =
    record { answer = a; head = head_with head (length ps) 1; table = laid_out (length table) ps; record_list = list }

-- how many sources are gone where the removal of the source at place j failed: those before it, and it too where its byte is 2
abbrev pub gone_at : ℕ → ℕ → ℕ
gone_at byte j = cond (eqb byte 2) (j + 1) j

-- 13: the removal of the source at a place failed, whose byte is the first that is not 0; all destinations are in, and of the
-- sources those before it are gone, and it too where its byte is 2
pub record SourceLeaves (head : Head) (table list strip : List ℕ) (ds ss : List Numbered) (o : Outcome) : Type 0 where
  pub at : ℕ
  pub there : at < length ss
  pub quiet : Quiet strip 0 (length ds + at)
  pub fault : byte_at strip (length ds + at) ≡ 0 → ⊥
  pub outcome :
      o ≡
      poisoned_with head table list (Err (Failure.Source (number_at ss at))) (taken_away (take (gone_at (byte_at strip (length ds + at)) at) ss) (added ds (postings_before head table)))
  pub set :
      (p : Posting) →
      present p (postings_left o) ≡
      ((present p (postings_before head table) || present p (postings_of ds)) && not (present p (postings_of (take (gone_at (byte_at strip (length ds + at)) at) ss))))

-- an undo goes from the last posting to the first, with its bytes from a place on; so the byte of each stands as far on as there
-- are postings behind it. Those whose byte is 1 stay
unfoldable pub stuck : List ℕ → ℕ → List Numbered → List Numbered
stuck strip from [] = []
stuck strip from (d ∷ ds) =
    cond (eqb (byte_at strip (from + length ds)) 1) (d ∷ stuck strip from ds) (stuck strip from ds)

-- and all others are gone
unfoldable pub freed : List ℕ → ℕ → List Numbered → List Numbered
freed strip from [] = []
freed strip from (d ∷ ds) =
    cond (eqb (byte_at strip (from + length ds)) 1) (freed strip from ds) (d ∷ freed strip from ds)

-- the destinations that a rollback's record means, in the record's order
abbrev pub recorded_in : Call → List Numbered
recorded_in c = recorded (changes_of c) c.record_list

module _ (head : Head) (table : List ℕ) (c : Call) where
  -- 13 of publish: the record is written
  abbrev pub PublishSourceLeaves : Outcome → Type 0
  PublishSourceLeaves o =
      SourceLeaves head table (written (change_numbers (destinations (changes_of c))) c.record_list) c.strip (destinations (changes_of c))
      (sources (changes_of c))
      o

  -- of source removal, as a publish that has no destination: the record list is as it was lent
  abbrev pub RemovalSourceLeaves : Outcome → Type 0
  RemovalSourceLeaves o = SourceLeaves head table c.record_list c.strip [] (sources (changes_of c)) o

  -- 12 of prepare and publish: insertion `at` is the first to fail, and of the destinations before it those whose undo byte is 1
  -- stay; the record list is as it was lent
  pub record UndoLeaves (o : Outcome) : Type 0 where
    pub at : ℕ
    pub fails : Fails (capacity table) head.used c.strip (destinations (changes_of c)) at
    pub noisy : Noisy c.strip (at + 1) (at + 1 + at)
    pub outcome :
        o ≡
        poisoned_with head table c.record_list (Err (Failure.Undo (number_at (destinations (changes_of c)) at))) (added (stuck c.strip (at + 1) (take at (destinations (changes_of c)))) (postings_before head table))
    pub set :
        (p : Posting) →
        present p (postings_left o) ≡
        (present p (postings_before head table) || present p (postings_of (stuck c.strip (at + 1) (take at (destinations (changes_of c))))))
    -- the destination at place i below `at` reads the byte at place at + 1 + (at - 1 - i)
    pub each :
        (i : ℕ) → i < at →
        present (get_or (destinations (changes_of c)) i nowhere).posting (postings_left o) ≡ eqb (byte_at c.strip (at + 1 + (at - (i + 1)))) 1

  -- 12 of rollback: removal `at` is the last to fail, in the order of the undo; a recorded destination is gone where its byte, or
  -- that of an equal one, is not 1, and where all of these are 1 it stays if it was there; the record list is as it was lent
  pub record RollbackLeaves (o : Outcome) : Type 0 where
    pub at : ℕ
    pub there : at < length (recorded_in c)
    pub fault : byte_at c.strip at ≡ 0 → ⊥
    pub last : Quiet c.strip (at + 1) (length (recorded_in c))
    pub outcome :
        o ≡
        poisoned_with head table c.record_list (Err (Failure.Undo (number_at (reverse (recorded_in c)) at))) (taken_away (freed c.strip 0 (recorded_in c)) (postings_before head table))
    pub set :
        (p : Posting) →
        present p (postings_left o) ≡ (present p (postings_before head table) && not (present p (postings_of (freed c.strip 0 (recorded_in c)))))
    -- the destination at place i of the record reads the byte at place n - 1 - i, where there are n
    pub gone :
        (i : ℕ) → i < length (recorded_in c) → (byte_at c.strip (length (recorded_in c) - (i + 1)) ≡ 1 → ⊥) →
        present (get_or (recorded_in c) i nowhere).posting (postings_left o) ≡ false
    pub stays :
        (p : Posting) → present p (postings_before head table) ≡ true →
        ((i : ℕ) → i < length (recorded_in c) → same p (get_or (recorded_in c) i nowhere).posting ≡ true → byte_at c.strip (length (recorded_in c) - (i + 1)) ≡ 1) →
        present p (postings_left o) ≡ true
