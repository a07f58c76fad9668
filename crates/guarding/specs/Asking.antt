-- The held guards as a list of guards, and what an order asks of them.
use Rattle.std.specs.Prelude.{ℕ, zero, suc, ◌*◌, ◌/◌, ◌%◌, List, [], ◌∷◌, Bool, true, cond, ◌&&◌, length, get_or, eqb, leb, Option, Some, None}
use Rattle.rules.specs.declared.Change.{Change}
use Rattle.rules.specs.declared.Guard.{Guard}
use Rattle.rules.specs.Limits.{most_changes, most_guards}
use Rattle.rules.specs.Orders.{changes, held, no_change}

-- the flat numbers of guards, two to each: binding, key
unfoldable pub flat : List Guard → List ℕ
flat [] = []
flat (g ∷ gs) = g.binding ∷ g.key ∷ flat gs

-- a guard is the pair (binding, key)
abbrev pub is_guard : ℕ → ℕ → Guard → Bool
is_guard binding key g = eqb binding g.binding && eqb key g.key

-- the guard that a change's key asks for, if it has one
abbrev pub wanted_of : ℕ → Option ℕ → Option Guard
wanted_of binding None = None
wanted_of binding (Some key) = Some (record { binding = binding; key = key })

-- the before of a change stands at an even place, its after at the next
abbrev pub wanted_at : List Change → ℕ → Option Guard
wanted_at cs place =
    let c = get_or cs (place / 2) no_change in
    wanted_of c.binding (cond (eqb (place % 2) 0) c.before c.after)

-- a guard that is asked for is held; none need not be
abbrev pub wanted_held : List Guard → Option Guard → Bool
wanted_held gs None = true
wanted_held gs (Some g) = held g.binding g.key gs

-- two places for each change; none where the poison flag is set, or beside lists that are over their limits
abbrev pub keys_asked : ℕ → ℕ → List ℕ → ℕ
keys_asked poisoned guards list =
    cond (eqb poisoned 0 && (leb (length (changes list)) most_changes && leb guards most_guards)) (length (changes list) * 2) 0

-- the first place, of so many from this one on, whose key is not held; past the last where there is none
unfoldable pub unheld_from : List Guard → List Change → ℕ → ℕ → ℕ
unheld_from gs cs place zero = place
unheld_from gs cs place (suc more) =
    cond (wanted_held gs (wanted_at cs place)) (unheld_from gs cs (suc place) more) place

-- the first place of an order whose key is not held, of those that are asked for
abbrev pub unheld_place : ℕ → List Guard → List ℕ → ℕ
unheld_place poisoned gs list = unheld_from gs (changes list) 0 (keys_asked poisoned (length gs) list)
