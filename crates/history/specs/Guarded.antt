-- What upstream requires of each insertion and removal, said of the postings that a call's steps go over: the destinations, the
-- sources, and what a record names.
use Rattle.std.specs.Prelude.{ℕ, ◌<◌, ◌≡◌, List, false, length, get_or}
use Rattle.rules.specs.declared.Posting.{Posting}
use Rattle.rules.specs.declared.Guard.{Guard}
use Rattle.rules.specs.declared.Head.{Head}
use Rattle.rules.specs.Orders.{guards, Numbered, Call}
use Rattle.rules.specs.Calls.{Outcome}
use Rattle.laws.specs.Words.{nowhere, is_refusal}
use Rattle.laws.specs.Names.{Holder}

-- its binding is below the count, and a guard of the list is its binding and key
pub record Guarded (bindings : ℕ) (gs : List Guard) (p : Posting) : Type 0 where
  pub below : p.binding < bindings
  pub holder : Holder p.binding p.key gs

-- each of these is
abbrev pub AllGuarded : ℕ → List Guard → List Numbered → Type 0
AllGuarded bindings gs ds = (k : ℕ) → k < length ds → Guarded bindings gs (get_or ds k nowhere).posting

-- a call that no check refused goes over these postings, and each is guarded by what was lent
abbrev pub WorksGuarded : Head → Call → List Numbered → Outcome → Type 0
WorksGuarded head c ds o = is_refusal o.answer ≡ false → AllGuarded head.bindings (guards c.guard_list) ds
