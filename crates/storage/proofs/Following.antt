-- What is left where one part of a call follows another.
use Prim.Native.Nat.{ℕ, ◌+◌}
use mathlib.Core.Path.{refl, ap, ◌∙◌}
use mathlib.Core.List.{List}
use lib.ListN.{drop}
use lib.Seq.{drop-drop}
use Rattle.rules.specs.declared.Posting.{Posting}
use Rattle.storage.specs.declared.Storage.{Storage}
use Rattle.storage.specs.Leaving.{holding, Leaves}

pub leaves_all : (s : Storage) → Leaves s s (holding s) 0
leaves_all s = (refl, refl, refl, refl)

pub leaves_then :
    (a b c : Storage) (n m : ℕ) {ps qs : List Posting} → Leaves a b ps n → Leaves b c qs m → Leaves a c qs (n + m)
leaves_then a b c n m f g =
    (g.0 ∙ f.0, g.1 ∙ f.1, g.2, g.3 ∙ (ap (drop m) f.3 ∙ drop-drop m n a.strip.now))
