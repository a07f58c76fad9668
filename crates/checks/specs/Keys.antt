-- The numbers of a change, of a guard and of a record, as the walks over lent lists see them.
use Rattle.std.specs.Prelude.{ℕ, List, Bool, not, ◌&&◌, get_or, take, eqb}
use Rattle.lent_lists.specs.Among.{among}
use Rattle.rules.specs.declared.Change.{Change}
use Rattle.rules.specs.Orders.{proper_key}
use Rattle.rules.specs.Checks.{recordable}

-- both keys are as they must be, in the six numbers of a change
abbrev pub proper_keys : List ℕ → Bool
proper_keys l = proper_key (get_or l 2 0) (get_or l 3 0) && proper_key (get_or l 4 0) (get_or l 5 0)

-- the two numbers of a guard are this pair
abbrev pub is_pair : ℕ → ℕ → List ℕ → Bool
is_pair binding key l = eqb binding (get_or l 0 0) && eqb key (get_or l 1 0)

-- the number at a place of a record means a destination, and stands at no earlier place
abbrev pub is_new_at : List Change → List ℕ → ℕ → Bool
is_new_at cs ns place = recordable cs (get_or ns place 0) && not (among (get_or ns place 0) (take place ns))
