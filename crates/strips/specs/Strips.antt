-- A strip: its limit, its bytes, and the next byte that a step reads.
use Rattle.std.specs.Prelude.{ℕ, List, [], ◌∷◌, Bool, true, ◌&&◌, length, get_or, leb}

-- bytes of a strip, at most; a strip at its limit is accepted
abbrev pub most_bytes : ℕ
most_bytes = 1024

-- no byte above 2
unfoldable pub proper_bytes : List ℕ → Bool
proper_bytes [] = true
proper_bytes (byte ∷ bytes) = leb byte 2 && proper_bytes bytes

-- not over its limit, and no byte above 2
unfoldable pub proper_strip : List ℕ → Bool
proper_strip strip = leb (length strip) most_bytes && proper_bytes strip

-- the next byte where so many are read; past the end reads 0
abbrev pub byte_at : List ℕ → ℕ → ℕ
byte_at strip read = get_or strip read 0
