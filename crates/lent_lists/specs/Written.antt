-- Numbers written into a lent list.
use Rattle.std.specs.Prelude.{ℕ, List, ◌++◌, length, drop}

-- the numbers at its front; places past them stay
abbrev pub written : List ℕ → List ℕ → List ℕ
written ns list = ns ++ drop (length ns) list
