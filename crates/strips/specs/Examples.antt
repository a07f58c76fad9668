-- Strips by computation, up to their limit.
use Rattle.std.specs.Prelude.{◌≡◌, refl, [], ◌∷◌, true, false, replicate}
use Rattle.strips.specs.Strips.{proper_bytes, proper_strip, byte_at}

-- each byte in its place, and past the end 0, of the empty strip too
pub next_bytes :
    byte_at (1 ∷ 2 ∷ []) 0 ∷ byte_at (1 ∷ 2 ∷ []) 1 ∷ byte_at (1 ∷ 2 ∷ []) 2 ∷ byte_at (1 ∷ 2 ∷ []) 1024 ∷ byte_at [] 0 ∷ []
    ≡ 1 ∷ 2 ∷ 0 ∷ 0 ∷ 0 ∷ []
next_bytes = refl

-- a byte is 0, 1 or 2, and one above 2 spoils the strip wherever it stands
pub proper_bytes_lem :
    proper_strip [] ∷ proper_strip (0 ∷ 1 ∷ 2 ∷ []) ∷ proper_strip (3 ∷ []) ∷ proper_strip (0 ∷ 1 ∷ 3 ∷ []) ∷ proper_strip (255 ∷ 0 ∷ [])
    ∷ []
    ≡ true ∷ true ∷ false ∷ false ∷ false ∷ []
unfolding proper_bytes proper_strip
proper_bytes_lem = refl

-- 1,024 bytes are a strip, and one more is not
pub strip_limit :
    proper_strip (replicate 1024 0) ∷ proper_strip (replicate 1024 2) ∷ proper_strip (replicate 1025 0) ∷ []
    ≡ true ∷ true ∷ false ∷ []
unfolding proper_bytes proper_strip
strip_limit = refl
