-- Where a pass stands, and where it ends.
use Rattle.std.proofs.Common.{◌≡◌, ℕ, ◌+◌, List, Bool, Result, drop, refl, ap, arith}
use Rattle.std.proofs.lemmas.List.{get_or-drop, drop-drop}
use Rattle.strips.specs.Strips.{byte_at}
use Rattle.lane_rules.specs.declared.ErrorByte.{ErrorByte}
use Rattle.lane_rules.specs.declared.View.{View}
use Rattle.lane_rules.specs.Passes.{Pass}
use Rattle.lane_rules.specs.Calls.{view_with}

-- two views differ at most in the attached lanes
abbrev pub SameElse : View → View → Type 0
SameElse a b = b ≡ view_with a b.attached a.window a.retired

-- a pass ends with a word, this strip and this view
abbrev pub Ends : List ℕ → View → List ℕ → View → Result Bool ErrorByte → Pass → Type 0
Ends strip start rest now said p =
    (said ≡ p.said) × (now ≡ view_with start p.attached start.window start.retired) × (rest ≡ drop p.read strip)

-- of a strip so many bytes are read, and the view differs at most in the attached lanes
pub record Standing (strip : List ℕ) (start : View) (rest : List ℕ) (now : View) (read : ℕ) : Type 0 where
  pub left : rest ≡ drop read strip
  pub same : SameElse start now

pub standing_start : (strip : List ℕ) (start : View) → Standing strip start strip start 0
standing_start strip start = record { left = refl; same = refl }

module _ {strip : List ℕ} {start : View} {rest : List ℕ} {now : View} {read : ℕ}
    (z : Standing strip start rest now read) where
  -- the next byte
  pub next_at : (byte : ℕ) → byte ≡ byte_at rest 0 → byte ≡ byte_at strip read
  next_at byte e = let at : read + 0 ≡ read = omega arith in rw (e, z.left, get_or-drop read strip 0 0, at) refl

  -- once it is read, and the attached lanes are these
  pub standing_next :
      (next : List ℕ) (attached : ℕ) → next ≡ drop 1 rest →
      Standing strip start next (record now { attached = attached }) (read + 1)
  standing_next next attached e =
      record {
        left = rw (e, z.left) (drop-drop 1 read strip);
        same = ap (λ (v : View). record v { attached = attached }) z.same;
      }

  -- a pass that ends here
  pub ends :
      (said : Result Bool ErrorByte) (p : Pass) → p ≡ record { said = said; attached = now.attached; read = read } →
      Ends strip start rest now said p
  ends said p e = rw e (refl, z.same, z.left)
