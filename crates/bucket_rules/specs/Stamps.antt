-- The stamp test.
use Rattle.std.specs.Prelude.{ℕ, Bool, ltb}

-- a stamp precedes a snapshot when it is less
unfoldable pub precedes : ℕ → ℕ → Bool
precedes stamp snapshot = ltb stamp snapshot
