-- What a call lends: a change list, guards, a strip and a record list; and the destinations and sources that the changes name.
use Rattle.std.specs.Prelude.{ℕ, ◌+◌, ◌%◌, List, [], ◌∷◌, map, Bool, true, false, cond, ◌&&◌, ◌||◌, length, get_or, eqb, leb, Option, Some, None}
use Rattle.rules.specs.declared.Posting.{Posting}
use Rattle.rules.specs.declared.Change.{Change}
use Rattle.rules.specs.declared.Guard.{Guard}
use Rattle.rules.specs.Limits.{most_changes, most_guards}

-- a flag and a key: with flag 0 there is none
abbrev pub key_of : ℕ → ℕ → Option ℕ
key_of flag key = cond (eqb flag 0) None (Some key)

-- six numbers each: binding, row, before flag, before key, after flag, after key
unfoldable pub changes : List ℕ → List Change
changes [] = []
changes (binding ∷ []) = []
changes (binding ∷ row ∷ []) = []
changes (binding ∷ row ∷ before_flag ∷ []) = []
changes (binding ∷ row ∷ before_flag ∷ before_key ∷ []) = []
changes (binding ∷ row ∷ before_flag ∷ before_key ∷ after_flag ∷ []) = []
changes (binding ∷ row ∷ before_flag ∷ before_key ∷ after_flag ∷ after_key ∷ rest) =
    record { binding = binding; row = row; before = key_of before_flag before_key; after = key_of after_flag after_key } ∷ changes rest

-- a flag is 0 or 1; with flag 0 the key is 0
abbrev pub proper_key : ℕ → ℕ → Bool
proper_key flag key = cond (eqb flag 0) (eqb key 0) (eqb flag 1)

-- otherwise, or with a length no multiple of 6, the list is ill formed
unfoldable pub proper_changes : List ℕ → Bool
proper_changes [] = true
proper_changes (binding ∷ []) = false
proper_changes (binding ∷ row ∷ []) = false
proper_changes (binding ∷ row ∷ before_flag ∷ []) = false
proper_changes (binding ∷ row ∷ before_flag ∷ before_key ∷ []) = false
proper_changes (binding ∷ row ∷ before_flag ∷ before_key ∷ after_flag ∷ []) = false
proper_changes (binding ∷ row ∷ before_flag ∷ before_key ∷ after_flag ∷ after_key ∷ rest) =
    proper_key before_flag before_key && proper_key after_flag after_key && proper_changes rest

-- two numbers to a guard: binding, key
unfoldable pub guards : List ℕ → List Guard
guards [] = []
guards (binding ∷ []) = []
guards (binding ∷ key ∷ rest) = record { binding = binding; key = key } ∷ guards rest

-- whole pairs of guard numbers, not over their limit
unfoldable pub proper_guards : List ℕ → Bool
proper_guards guard_list = eqb (length guard_list % 2) 0 && leb (length (guards guard_list)) most_guards

-- a well-formed change list, not over its limit, beside guards that are such or not
unfoldable pub proper_lists : List ℕ → Bool → Bool
proper_lists change_list paired =
    proper_changes change_list && leb (length (changes change_list)) most_changes && paired

-- the pair (binding, key) is among the guards
unfoldable pub held : ℕ → ℕ → List Guard → Bool
held binding key [] = false
held binding key (g ∷ gs) = (eqb binding g.binding && eqb key g.key) || held binding key gs

-- where a change brings its row
abbrev pub destination_of : Change → Option ℕ
destination_of c = c.after

-- whence it takes it
abbrev pub source_of : Change → Option ℕ
source_of c = c.before

-- a posting with the number of the change that names it
pub record Numbered : Type 0 where
  pub number : ℕ
  pub posting : Posting

-- the change's posting under a key, in front of others; a change with no key is passed over
abbrev pub named : ℕ → Change → Option ℕ → List Numbered → List Numbered
named i c None others = others
named i c (Some key) others =
    record { number = i; posting = record { binding = c.binding; key = key; row = c.row } } ∷ others

-- the destinations of changes that are numbered from i on
unfoldable pub destinations_from : ℕ → List Change → List Numbered
destinations_from i [] = []
destinations_from i (c ∷ cs) = named i c (destination_of c) (destinations_from (i + 1) cs)

-- and their sources
unfoldable pub sources_from : ℕ → List Change → List Numbered
sources_from i [] = []
sources_from i (c ∷ cs) = named i c (source_of c) (sources_from (i + 1) cs)

-- the destinations of a list, whose first change is number 0
abbrev pub destinations : List Change → List Numbered
destinations cs = destinations_from 0 cs

-- and its sources
abbrev pub sources : List Change → List Numbered
sources cs = sources_from 0 cs

-- the postings without their numbers
abbrev pub postings_of : List Numbered → List Posting
postings_of ds = map (λ (d : Numbered). d.posting) ds

-- a record of destinations: their change numbers
abbrev pub change_numbers : List Numbered → List ℕ
change_numbers ds = map (λ (d : Numbered). d.number) ds

-- a change that is not there: it names nothing
abbrev pub no_change : Change
no_change = record { binding = 0; row = 0; before = None; after = None }

-- the destinations that a record's numbers mean, in the record's order
unfoldable pub recorded : List Change → List ℕ → List Numbered
recorded cs [] = []
recorded cs (n ∷ ns) = named n (get_or cs n no_change) (destination_of (get_or cs n no_change)) (recorded cs ns)

-- what a call lends beside table and head; the record list is written by prepare and publish and read by rollback
pub record Call : Type 0 where
  pub change_list : List ℕ
  pub guard_list : List ℕ
  pub strip : List ℕ
  pub record_list : List ℕ

-- a call that lends these lists
abbrev pub lending : List ℕ → List ℕ → List ℕ → List ℕ → Call
lending change_list guard_list strip record_list =
    record { change_list = change_list; guard_list = guard_list; strip = strip; record_list = record_list }

-- the changes that its change list means
abbrev pub changes_of : Call → List Change
changes_of c = changes c.change_list
