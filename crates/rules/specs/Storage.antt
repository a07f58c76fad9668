-- How storage behaves, by the next byte of the strip.
use Rattle.std.specs.Prelude.{ℕ, List, Bool, true, false, cond, length, eqb, ltb, Option, Some, None}
use Rattle.rules.specs.declared.Posting.{Posting}
use Rattle.rules.specs.declared.Fault.{Fault}
use Rattle.rules.specs.Postings.{inserted, removed}

-- what an insertion met, and the postings that it left
pub record Insertion : Type 0 where
  pub fault : Option Fault
  pub postings : List Posting

-- byte 0 inserts, or fails full if used = capacity, which it never exceeds; byte 1 or 2 fails unchanged
unfoldable pub insertion : ℕ → ℕ → Posting → List Posting → Insertion
insertion byte capacity p ps =
    cond (eqb byte 0)
    (cond (ltb (length ps) capacity)
    (record { fault = None; postings = inserted p ps })
    (record { fault = Some Fault.Full; postings = ps }))
    (record { fault = Some Fault.Store; postings = ps })

-- whether a removal failed, and the postings that it left
pub record Removal : Type 0 where
  pub failed : Bool
  pub postings : List Posting

-- byte 0 removes (an absent posting is no fault); byte 1 fails unchanged; byte 2 fails with the posting gone
unfoldable pub removal : ℕ → Posting → List Posting → Removal
removal byte p ps =
    cond (eqb byte 0)
    (record { failed = false; postings = removed p ps })
    (cond (eqb byte 1) (record { failed = true; postings = ps }) (record { failed = true; postings = removed p ps }))
