-- The limits of lent lists and numbers, each one number; a strip's is in `strips`. A list at its limit is accepted.
use Rattle.std.specs.Prelude.{ℕ}

-- numbers of a table, three to a posting
abbrev pub most_numbers : ℕ
most_numbers = 12288

-- bindings of a head
abbrev pub most_bindings : ℕ
most_bindings = 64

-- changes of a list
abbrev pub most_changes : ℕ
most_changes = 256

-- guards, two numbers to each
abbrev pub most_guards : ℕ
most_guards = 1024
