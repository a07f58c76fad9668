-- The checks 1 to 9 and 14, each over what it looks at and over its whole list; the groups that calls share; and the order in which
-- each call runs them. The first that applies is given.
use Rattle.std.specs.Prelude.{ℕ, ◌+◌, List, [], ◌∷◌, ◌++◌, Bool, true, false, not, ◌&&◌, length, get_or, eqb, ltb, leb, Option, Some, None, Result, Ok, Err}
use Rattle.strips.specs.Strips.{proper_strip}
use Rattle.lent_lists.specs.Among.{among}
use Rattle.rules.specs.declared.Posting.{Posting}
use Rattle.rules.specs.declared.Change.{Change}
use Rattle.rules.specs.declared.Guard.{Guard}
use Rattle.rules.specs.declared.Head.{Head}
use Rattle.rules.specs.declared.Failure.{Failure}
use Rattle.rules.specs.Postings.{same, present}
use Rattle.rules.specs.Table.{postings, well_formed}
use Rattle.rules.specs.Orders.{changes, guards, held, proper_guards, proper_lists, Call, changes_of, Numbered, destination_of, destinations, sources, postings_of, no_change}

-- a test that must hold, and the answer where it doesn't
abbrev pub must : Bool → Failure → Result Unit Failure
must true why = Ok tt
must false why = Err why

-- the first verdict, unless it passes; then the second
abbrev pub or_else : Result Unit Failure → Result Unit Failure → Result Unit Failure
or_else (Ok _) v = v
or_else (Err why) v = Err why

-- the first of the verdicts that refuses
unfoldable pub first_refusal : List (Result Unit Failure) → Result Unit Failure
first_refusal [] = Ok tt
first_refusal (v ∷ vs) = or_else v (first_refusal vs)

-- the first element of a list, numbered from i on, that fails its test
unfoldable pub first_failing : {A : Type 0} → (A → Bool) → (ℕ → A → Failure) → ℕ → List A → Result Unit Failure
first_failing test answer i [] = Ok tt
first_failing test answer i (x ∷ xs) = or_else (must (test x) (answer i x)) (first_failing test answer (i + 1) xs)

-- 1 TABLE
unfoldable pub table_check : Head → List ℕ → Result Unit Failure
table_check head table = must (well_formed head table) Failure.Table

-- 2 POISONED
unfoldable pub poison_check : Head → Result Unit Failure
poison_check head = must (eqb head.poisoned 0) Failure.Poisoned

-- 3 LIST: the change list, beside guards that are proper or not
unfoldable pub list_check : List ℕ → Bool → Result Unit Failure
list_check change_list paired = must (proper_lists change_list paired) Failure.List

-- 4 STRIP
unfoldable pub strip_check : List ℕ → Result Unit Failure
strip_check strip = must (proper_strip strip) Failure.Strip

-- 5 ROOM: the record list has a place for each change
unfoldable pub room_check : List Change → List ℕ → Result Unit Failure
room_check cs record_list = must (leb (length cs) (length record_list)) Failure.Room

-- a named key is held; none need not be
abbrev pub key_held : ℕ → Option ℕ → List Guard → Bool
key_held binding None gs = true
key_held binding (Some key) gs = held binding key gs

-- its binding is below the count, and a named before and after are held
unfoldable pub guarded : ℕ → List Guard → Change → Bool
guarded bindings gs c =
    ltb c.binding bindings && key_held c.binding c.before gs && key_held c.binding c.after gs

-- 6 GUARD: the first change that is not guarded
unfoldable pub guard_check : ℕ → List Guard → List Change → Result Unit Failure
guard_check bindings gs cs = first_failing (guarded bindings gs) (λ i change. Failure.Guard i) 0 cs

-- there is a key
abbrev pub is_named : Option ℕ → Bool
is_named None = false
is_named (Some key) = true

-- a number of a record means a destination: it is below the change count, and its after is not none
unfoldable pub recordable : List Change → ℕ → Bool
recordable cs n = ltb n (length cs) && is_named (destination_of (get_or cs n no_change))

-- the first place that means no destination, or whose number is already at an earlier place
unfoldable pub record_from : ℕ → List Change → List ℕ → List ℕ → Result Unit Failure
record_from place cs earlier [] = Ok tt
record_from place cs earlier (n ∷ ns) =
    or_else (must (recordable cs n && not (among n earlier)) (Failure.Record place)) (record_from (place + 1) cs (n ∷ earlier) ns)

-- 14 RECORD: the first bad place
unfoldable pub record_check : List Change → List ℕ → Result Unit Failure
record_check cs record_list = record_from 0 cs [] record_list

-- the first of the earlier destinations that equals d
unfoldable pub first_equal : Numbered → List Numbered → Result Unit Failure
first_equal d earlier =
    first_failing (λ (e : Numbered). not (same e.posting d.posting)) (λ i e. Failure.Twice e.number d.number) 0 earlier

-- each destination in turn (j) beside those before it, from the first on (i)
unfoldable pub twice_from : List Numbered → List Numbered → Result Unit Failure
twice_from earlier [] = Ok tt
twice_from earlier (d ∷ ds) = or_else (first_equal d earlier) (twice_from (earlier ++ d ∷ []) ds)

-- 7 TWICE: the first equal pair in order of j, then i
unfoldable pub twice_check : List Change → Result Unit Failure
twice_check cs = twice_from [] (destinations cs)

-- 8 PRESENT: the first destination that stands in the table
unfoldable pub present_check : List Posting → List Change → Result Unit Failure
present_check ps cs =
    first_failing (λ (d : Numbered). not (present d.posting ps)) (λ i d. Failure.Present d.number) 0 (destinations cs)

-- 9 OVERLAP: the first source that equals a destination of the list, its own change's or another's
unfoldable pub overlap_check : List Change → Result Unit Failure
overlap_check cs =
    first_failing (λ (s : Numbered). not (present s.posting (postings_of (destinations cs))))
    (λ i s. Failure.Overlap s.number)
    0
    (sources cs)

-- The checks in groups, each over what it looks at. A call is the first refusal of a list of groups.

-- 1, 2: the table and its head
unfoldable pub opening_checks : Head → List ℕ → Result Unit Failure
opening_checks head table = first_refusal (table_check head table ∷ poison_check head ∷ [])

-- 3, 4: what is lent for reading
unfoldable pub lent_checks : List ℕ → Bool → List ℕ → Result Unit Failure
lent_checks change_list paired strip = first_refusal (list_check change_list paired ∷ strip_check strip ∷ [])

-- 7, 8: the destinations, among themselves and beside the table
unfoldable pub arriving_checks : List Posting → List Change → Result Unit Failure
arriving_checks ps cs = first_refusal (twice_check cs ∷ present_check ps cs ∷ [])

-- 9: the sources
unfoldable pub leaving_checks : List Change → Result Unit Failure
leaving_checks cs = first_refusal (overlap_check cs ∷ [])

-- 1 to 5 of a publish
unfoldable pub order_checks : Head → List ℕ → List ℕ → Bool → List ℕ → List ℕ → Result Unit Failure
order_checks head table change_list paired strip record_list =
    first_refusal
    (opening_checks head table ∷ lent_checks change_list paired strip ∷ room_check (changes change_list) record_list ∷ [])

-- 1 to 9 of a publish, beside what was found of the guards: whether they are proper, and what 6 says
unfoldable pub publish_beside : Head → List ℕ → List ℕ → Bool → Result Unit Failure → List ℕ → List ℕ → Result Unit Failure
publish_beside head table change_list paired guarding strip record_list =
    first_refusal
    (order_checks head table change_list paired strip record_list
    ∷ guarding
    ∷ arriving_checks (postings head.used table) (changes change_list)
    ∷ leaving_checks (changes change_list)
    ∷ [])

-- 3, 4 of a call
abbrev pub lent_of : Call → Result Unit Failure
lent_of c = lent_checks c.change_list (proper_guards c.guard_list) c.strip

-- 6 of a call
abbrev pub guarding_of : Head → Call → Result Unit Failure
guarding_of head c = guard_check head.bindings (guards c.guard_list) (changes_of c)

module _ (head : Head) (table : List ℕ) (c : Call) where
  -- the checks of each call: prepare 1 to 8
  unfoldable pub prepare_checks : Result Unit Failure
  prepare_checks =
      first_refusal
      (opening_checks head table
      ∷ lent_of c
      ∷ room_check (changes_of c) c.record_list
      ∷ guarding_of head c
      ∷ arriving_checks (postings head.used table) (changes_of c)
      ∷ [])

  -- rollback 1 to 4, 6, 14
  unfoldable pub rollback_checks : Result Unit Failure
  rollback_checks =
      first_refusal
      (opening_checks head table ∷ lent_of c ∷ guarding_of head c ∷ record_check (changes_of c) c.record_list ∷ [])

  -- removal 1 to 4, 6
  unfoldable pub removal_checks : Result Unit Failure
  removal_checks = first_refusal (opening_checks head table ∷ lent_of c ∷ guarding_of head c ∷ [])

  -- publish 1 to 9
  unfoldable pub publish_checks : Result Unit Failure
  publish_checks =
      publish_beside head table c.change_list (proper_guards c.guard_list) (guarding_of head c) c.strip c.record_list

-- count 1, 2 and 6, which asks its binding alone and names 0
unfoldable pub count_checks : Head → List ℕ → ℕ → Result Unit Failure
count_checks head table binding =
    first_refusal (opening_checks head table ∷ must (ltb binding head.bindings) (Failure.Guard 0) ∷ [])
