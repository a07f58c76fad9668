-- The stamp test in plain arithmetic.
use Prim.Native.Nat.{ℕ, ◌<◌}
use mathlib.Core.Path.{◌≡◌}
use mathlib.Core.Bool.{true}
use mathlib.Core.Logic.{◌↔◌}
use borrow.Author.Tests.{ltb-true, lt-ltb}
use Rattle.bucket_rules.specs.Stamps.{precedes}

-- a stamp precedes a snapshot exactly where it is less
pub precedes_exactly : (stamp snapshot : ℕ) → (precedes stamp snapshot ≡ true) ↔ (stamp < snapshot)
unfolding precedes
precedes_exactly stamp snapshot = (ltb-true stamp snapshot, lt-ltb stamp snapshot)
