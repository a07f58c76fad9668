-- Small cases that a careless reader would get wrong, by computation: theorems for the answers 1 to 14, and then for the order
-- of the checks, counts, record lists, heads and limits.
use Rattle.std.specs.Prelude.{ℕ, ◌≡◌, refl, List, [], ◌∷◌, ◌++◌, map, replicate}
use Rattle.rules.specs.declared.Head.{Head}
use Rattle.rules.specs.declared.Told.{Told}
use Rattle.rules.specs.Answers.{told_of}
use Rattle.rules.specs.Orders.{Call, lending}
use Rattle.rules.specs.Calls.{Outcome, prepare_of, rollback_of, removal_of, publish_of, count_of}
use Rattle.rules.specs.Letters.{Row, seen, row, short, whole}
use Rattle.rules.specs.Trial.{computing}

-- a case: what is computed of a call, and what it should be
infix 68 ◌gives◌
abbrev pub ◌gives◌ : {A : Type 0} → A → A → A × A
◌gives◌ given due = (given, due)

-- all cases are as they should be
abbrev pub Hold : {A : Type 0} → List (A × A) → Type 0
Hold {A} cases = map (λ (c : A × A). c.0) cases ≡ map (λ (c : A × A). c.1) cases

-- a posting's three numbers in a table, and a place not in use
abbrev pub cell : ℕ → ℕ → ℕ → List ℕ
cell binding key row = binding ∷ key ∷ row ∷ []

abbrev pub free : List ℕ
free = cell 0 0 0

-- changes: one that brings the posting of a binding, key and row, one that takes it, one that moves the row from key to key,
-- and one that names nothing
abbrev pub bring : ℕ → ℕ → ℕ → List ℕ
bring binding key row = binding ∷ row ∷ 0 ∷ 0 ∷ 1 ∷ key ∷ []

abbrev pub take : ℕ → ℕ → ℕ → List ℕ
take binding key row = binding ∷ row ∷ 1 ∷ key ∷ 0 ∷ 0 ∷ []

abbrev pub move : ℕ → ℕ → ℕ → ℕ → List ℕ
move binding before after row = binding ∷ row ∷ 1 ∷ before ∷ 1 ∷ after ∷ []

abbrev pub nothing : ℕ → ℕ → List ℕ
nothing binding row = binding ∷ row ∷ 0 ∷ 0 ∷ 0 ∷ 0 ∷ []

abbrev pub three : List ℕ
three = bring 1 9 7 ++ bring 1 9 8 ++ bring 1 9 9

-- a head by its numbers: binding count, used, poison flag
abbrev pub head : ℕ → ℕ → ℕ → Head
head bindings used poisoned = record { bindings = bindings; used = used; poisoned = poisoned }

-- guards (0,5), (0,6), (1,9)
abbrev pub keys : List ℕ
keys = 0 ∷ 5 ∷ 0 ∷ 6 ∷ 1 ∷ 9 ∷ []

-- a record list of four places that hold 77
abbrev pub blank : List ℕ
blank = 77 ∷ 77 ∷ 77 ∷ 77 ∷ []

-- what is seen of a call under those guards
abbrev pub try : (Head → List ℕ → Call → Outcome) → Head → List ℕ → List ℕ → List ℕ → List ℕ → Row
try call h table cs strip list = seen (call h table (lending cs keys strip list))

-- a publish with no change
abbrev pub idle : Head → List ℕ → Row
idle h table = try publish_of h table [] [] blank

-- calls on the table of the lettered orders: (0,5,1), (0,5,2) and two free places; binding count 2
abbrev pub publish : List ℕ → List ℕ → Row
publish cs strip = try publish_of (head 2 2 0) whole cs strip blank

-- under other guards
abbrev pub under : (Head → List ℕ → Call → Outcome) → List ℕ → List ℕ → Row
under call gs cs = seen (call (head 2 2 0) whole (lending cs gs [] blank))

abbrev pub publish_under : List ℕ → List ℕ → Row
publish_under gs cs = under publish_of gs cs

abbrev pub prepare : List ℕ → List ℕ → Row
prepare cs strip = try prepare_of (head 2 2 0) whole cs strip blank

abbrev pub remove : List ℕ → List ℕ → Row
remove cs strip = try removal_of (head 2 2 0) whole cs strip blank

-- all as before, and the answer with what it names
abbrev pub unchanged : ℕ → ℕ → Row
unchanged answer named = row answer named 2 0 whole blank

-- all as before, and answer 7 with its pair
abbrev pub pair : ℕ → ℕ → Row
pair i j =
    record {
      told = record { answer = 7; named = i; other = j };
      used = 2;
      poisoned = 0;
      table = whole;
      record_list = blank;
    }

-- a full table, and a rollback on it with a strip and a record
abbrev pub loaded : List ℕ
loaded = cell 0 5 1 ++ cell 1 9 7 ++ cell 1 9 8 ++ cell 1 9 9

abbrev pub rollback : List ℕ → List ℕ → List ℕ → Row
rollback cs strip list = try rollback_of (head 2 4 0) loaded cs strip list

pub answer_1_table :
    Hold
    -- used far above the capacity
    (idle (head 2 4294967295 0) whole gives row 1 0 4294967295 0 whole blank
    -- used one above the capacity
    ∷ idle (head 2 3 0) short gives row 1 0 3 0 short blank
    -- a poison flag that is neither 0 nor 1: 1, not 2, be it even or odd
    ∷ idle (head 2 2 2) whole gives row 1 0 2 2 whole blank
    ∷ idle (head 2 2 3) whole gives row 1 0 2 3 whole blank
    ∷ idle (head 2 2 4294967295) whole gives row 1 0 2 4294967295 whole blank
    -- not well formed and poisoned: 1, not 2
    ∷ idle (head 2 3 1) short gives row 1 0 3 1 short blank
    -- a length that is no multiple of 3: 7 and 8
    ∷ idle (head 2 2 0) (short ++ 0 ∷ []) gives row 1 0 2 0 (short ++ 0 ∷ []) blank
    ∷ idle (head 2 2 0) (short ++ 0 ∷ 0 ∷ []) gives row 1 0 2 0 (short ++ 0 ∷ 0 ∷ []) blank
    -- binding count 65; 64 is the most
    ∷ idle (head 65 2 0) whole gives row 1 0 2 0 whole blank
    ∷ idle (head 64 2 0) whole gives row 0 0 2 0 whole blank
    -- equal neighbours are not strictly ascending
    ∷ idle (head 2 2 0) (cell 0 5 1 ++ cell 0 5 1) gives row 1 0 2 0 (cell 0 5 1 ++ cell 0 5 1) blank
    -- the third posting comes after the first, but not after the second
    ∷ idle (head 2 3 0) (cell 0 5 1 ++ cell 0 5 3 ++ cell 0 5 2)
    gives row 1 0 3 0 (cell 0 5 1 ++ cell 0 5 3 ++ cell 0 5 2) blank
    -- the key comes before the row, the binding before the key
    ∷ idle (head 2 2 0) (cell 0 6 1 ++ cell 0 5 2) gives row 1 0 2 0 (cell 0 6 1 ++ cell 0 5 2) blank
    ∷ idle (head 2 2 0) (cell 0 6 2 ++ cell 1 5 1) gives row 0 0 2 0 (cell 0 6 2 ++ cell 1 5 1) blank
    -- a number past used that is not 0, be it a whole posting's or one alone: a row, a key, a binding
    ∷ idle (head 2 1 0) whole gives row 1 0 1 0 whole blank
    ∷ idle (head 2 1 0) (cell 0 5 1 ++ cell 0 0 1) gives row 1 0 1 0 (cell 0 5 1 ++ cell 0 0 1) blank
    ∷ idle (head 2 1 0) (cell 0 5 1 ++ cell 0 1 0) gives row 1 0 1 0 (cell 0 5 1 ++ cell 0 1 0) blank
    ∷ idle (head 2 1 0) (cell 0 5 1 ++ cell 1 0 0) gives row 1 0 1 0 (cell 0 5 1 ++ cell 1 0 0) blank
    -- a binding that is not below the count
    ∷ idle (head 1 2 0) (cell 0 5 1 ++ cell 1 9 7) gives row 1 0 2 0 (cell 0 5 1 ++ cell 1 9 7) blank
    -- three zeros are a posting where used covers them
    ∷ idle (head 1 1 0) (free ++ free) gives row 0 0 1 0 (free ++ free) blank
    -- capacity 0 and binding count 0 are well formed, and so are free places under binding count 0
    ∷ idle (head 0 0 0) [] gives row 0 0 0 0 [] blank
    ∷ idle (head 0 0 0) free gives row 0 0 0 0 free blank
    ∷ [])
unfolding computing seen row
answer_1_table = refl

pub answer_2_poisoned :
    Hold
    -- an order with no change is refused too
    (idle (head 2 2 1) whole gives row 2 0 2 1 whole blank
    -- 2 before 3 and 4: a bad change list and a bad strip
    ∷ try publish_of (head 2 2 1) whole (0 ∷ []) (3 ∷ []) blank gives row 2 0 2 1 whole blank
    -- 2 before 5 and 6: no room for the record, and a binding too high
    ∷ try publish_of (head 2 2 1) whole (nothing 2 1) [] [] gives row 2 0 2 1 whole []
    -- rollback and removal do not run on a poisoned table either
    ∷ try rollback_of (head 2 2 1) whole (bring 0 5 1) [] (0 ∷ []) gives row 2 0 2 1 whole (0 ∷ [])
    ∷ try removal_of (head 2 2 1) whole (take 0 5 1) [] [] gives row 2 0 2 1 whole []
    ∷ [])
unfolding computing seen row
answer_2_poisoned = refl

pub answer_3_list :
    Hold
    -- a flag of 2, before and after
    (publish (0 ∷ 1 ∷ 2 ∷ 5 ∷ 0 ∷ 0 ∷ []) [] gives unchanged 3 0
    ∷ publish (0 ∷ 1 ∷ 1 ∷ 5 ∷ 2 ∷ 6 ∷ []) [] gives unchanged 3 0
    -- an odd flag that is not 1 is no more taken for 1
    ∷ publish (0 ∷ 1 ∷ 3 ∷ 5 ∷ 0 ∷ 0 ∷ []) [] gives unchanged 3 0
    ∷ publish (0 ∷ 1 ∷ 1 ∷ 5 ∷ 3 ∷ 6 ∷ []) [] gives unchanged 3 0
    ∷ publish (0 ∷ 1 ∷ 4294967295 ∷ 5 ∷ 0 ∷ 0 ∷ []) [] gives unchanged 3 0
    ∷ publish (0 ∷ 1 ∷ 1 ∷ 5 ∷ 4294967295 ∷ 6 ∷ []) [] gives unchanged 3 0
    -- flag 0 with a key that is not 0, before and after
    ∷ publish (0 ∷ 1 ∷ 0 ∷ 5 ∷ 1 ∷ 6 ∷ []) [] gives unchanged 3 0
    ∷ publish (0 ∷ 1 ∷ 1 ∷ 5 ∷ 0 ∷ 6 ∷ []) [] gives unchanged 3 0
    -- a length of 7, and of less than 6
    ∷ publish (take 0 5 1 ++ 0 ∷ []) [] gives unchanged 3 0
    ∷ publish (0 ∷ 1 ∷ 1 ∷ 5 ∷ 0 ∷ []) [] gives unchanged 3 0
    ∷ publish (0 ∷ 1 ∷ 1 ∷ 5 ∷ []) [] gives unchanged 3 0
    ∷ publish (0 ∷ 1 ∷ 1 ∷ []) [] gives unchanged 3 0
    ∷ publish (0 ∷ 1 ∷ []) [] gives unchanged 3 0
    -- an odd number of guard numbers, even where no guard is needed
    ∷ publish_under (0 ∷ 5 ∷ 0 ∷ []) (take 0 5 1) gives unchanged 3 0
    ∷ publish_under (0 ∷ []) [] gives unchanged 3 0
    -- and so of prepare, rollback and removal
    ∷ under prepare_of (0 ∷ 5 ∷ 0 ∷ []) (take 0 5 1) gives unchanged 3 0
    ∷ under prepare_of (0 ∷ []) [] gives unchanged 3 0
    ∷ under rollback_of (0 ∷ 5 ∷ 0 ∷ []) (take 0 5 1) gives unchanged 3 0
    ∷ under rollback_of (0 ∷ []) [] gives unchanged 3 0
    ∷ under removal_of (0 ∷ 5 ∷ 0 ∷ []) (take 0 5 1) gives unchanged 3 0
    ∷ under removal_of (0 ∷ []) [] gives unchanged 3 0
    -- guards may have any binding and may be repeated
    ∷ publish_under (9 ∷ 9 ∷ 0 ∷ 5 ∷ 0 ∷ 5 ∷ []) (take 0 5 9) gives unchanged 0 0
    -- 3 before 4
    ∷ publish (0 ∷ []) (3 ∷ []) gives unchanged 3 0
    -- 3 before 5: no room for the record
    ∷ try publish_of (head 2 2 0) whole (0 ∷ 1 ∷ 0 ∷ 5 ∷ 1 ∷ 6 ∷ []) [] [] gives row 3 0 2 0 whole []
    -- 3 before 6: the first change is not held, the second ill formed
    ∷ publish (bring 0 7 3 ++ 0 ∷ 1 ∷ 0 ∷ 5 ∷ 1 ∷ 6 ∷ []) [] gives unchanged 3 0
    ∷ [])
unfolding computing seen row
answer_3_list = refl

pub answer_4_strip :
    Hold
    -- a byte of 3 that is never reached, with no change and after the bytes of a move
    (publish [] (0 ∷ 3 ∷ []) gives unchanged 4 0
    ∷ publish (move 0 5 6 1) (0 ∷ 0 ∷ 3 ∷ []) gives unchanged 4 0
    -- a byte of 2 that is never reached is no fault
    ∷ publish [] (2 ∷ []) gives unchanged 0 0
    -- 4 before 5: no room for the record
    ∷ try publish_of (head 2 2 0) whole (bring 0 6 3) (3 ∷ []) [] gives row 4 0 2 0 whole []
    -- 4 before 6: a binding too high
    ∷ publish (nothing 2 1) (3 ∷ []) gives unchanged 4 0
    ∷ [])
unfolding computing seen row
answer_4_strip = refl

pub answer_5_room :
    Hold
    -- two changes need two places, also where neither has an after
    (try publish_of (head 2 2 0) whole (take 0 5 1 ++ take 0 5 2) [] (77 ∷ []) gives row 5 0 2 0 whole (77 ∷ [])
    ∷ try prepare_of (head 2 2 0) whole (take 0 5 1 ++ take 0 5 2) [] (77 ∷ []) gives row 5 0 2 0 whole (77 ∷ [])
    -- a change that names nothing needs a place
    ∷ try publish_of (head 2 2 0) whole (nothing 0 1) [] [] gives row 5 0 2 0 whole []
    -- as many places as changes are enough
    ∷ try publish_of (head 2 1 0) (cell 0 5 1) (take 0 5 1) [] (77 ∷ []) gives row 0 0 0 0 free (77 ∷ [])
    -- no change needs no place
    ∷ try publish_of (head 2 2 0) whole [] [] [] gives row 0 0 2 0 whole []
    -- 5 before 6: a key that is not held
    ∷ try publish_of (head 2 2 0) whole (bring 0 7 3) [] [] gives row 5 0 2 0 whole []
    -- rollback and removal need no places
    ∷ try rollback_of (head 2 2 0) short (bring 0 6 3) [] [] gives row 0 0 2 0 short []
    ∷ try removal_of (head 2 2 0) short (take 0 5 1) [] [] gives row 0 0 1 0 (cell 0 5 2 ++ free) []
    ∷ [])
unfolding computing seen row
answer_5_room = refl

pub answer_6_guard :
    Hold
    -- a change that names nothing has a binding all the same
    (publish (bring 0 6 3 ++ nothing 2 1) [] gives unchanged 6 1
    -- 6 before 7, though its change comes after the equal pair
    ∷ publish (bring 0 6 3 ++ bring 0 6 3 ++ bring 0 7 4) [] gives unchanged 6 2
    -- 6 before 8, though its change comes after the one that is present
    ∷ publish (bring 0 5 1 ++ bring 0 7 4) [] gives unchanged 6 1
    -- the before is not held, the after is; and the other way round
    ∷ publish (move 0 7 6 1) [] gives unchanged 6 0
    ∷ publish (move 0 5 7 1) [] gives unchanged 6 0
    -- key 5 is held for binding 0 alone, key 9 for binding 1
    ∷ publish (bring 1 5 3) [] gives unchanged 6 0
    ∷ publish (bring 0 9 3) [] gives unchanged 6 0
    -- key 0 with flag 1 is a key, and must be held
    ∷ publish (bring 0 0 3) [] gives unchanged 6 0
    -- the first such change is named
    ∷ publish (bring 0 6 3 ++ bring 0 7 3 ++ bring 0 8 3) [] gives unchanged 6 1
    -- a guard does not make up for a binding that is too high
    ∷ publish_under (2 ∷ 5 ∷ []) (bring 2 5 1) gives unchanged 6 0
    ∷ try publish_of (head 1 2 0) whole (bring 1 9 7) [] blank gives row 6 0 2 0 whole blank
    -- prepare asks for the befores too, removal for the afters
    ∷ prepare (take 0 7 1) [] gives unchanged 6 0
    ∷ remove (take 0 5 1 ++ bring 0 7 3) [] gives unchanged 6 1
    ∷ remove (nothing 2 1) [] gives unchanged 6 0
    -- rollback asks for changes that are not recorded, and before 14
    ∷ rollback (three ++ take 0 7 3) [] (0 ∷ []) gives row 6 3 4 0 loaded (0 ∷ [])
    ∷ rollback (three ++ nothing 2 1) [] (9 ∷ []) gives row 6 3 4 0 loaded (9 ∷ [])
    ∷ [])
unfolding computing seen row
answer_6_guard = refl

pub answer_7_twice :
    Hold
    -- of the pairs (0,3) and (1,2) the one that ends first
    (publish (bring 0 6 3 ++ bring 0 6 4 ++ bring 0 6 4 ++ bring 0 6 3) [] gives pair 1 2
    ∷ prepare (bring 0 6 3 ++ bring 0 6 4 ++ bring 0 6 4 ++ bring 0 6 3) [] gives pair 1 2
    -- of three equal destinations the first two
    ∷ publish (bring 0 6 3 ++ bring 0 6 3 ++ bring 0 6 3) [] gives pair 0 1
    -- the two need not be neighbours
    ∷ publish (bring 0 6 3 ++ bring 0 6 4 ++ bring 0 6 3) [] gives pair 0 2
    -- the changes are counted, not the destinations
    ∷ publish (take 0 5 1 ++ bring 0 6 3 ++ take 0 5 2 ++ bring 0 6 3) [] gives pair 1 3
    -- 7 before 8, though change 0 brings what is present
    ∷ publish (bring 0 5 1 ++ bring 0 6 3 ++ bring 0 6 3) [] gives pair 1 2
    -- equal sources are no pair
    ∷ publish (take 0 5 1 ++ take 0 5 1) [] gives row 0 0 1 0 (cell 0 5 2 ++ free ++ free ++ free) blank
    -- one key and row under two bindings are no pair
    ∷ publish_under (0 ∷ 9 ∷ 1 ∷ 9 ∷ []) (bring 0 9 3 ++ bring 1 9 3)
    gives row 0 2 4 0 (cell 0 5 1 ++ cell 0 5 2 ++ cell 0 9 3 ++ cell 1 9 3) (0 ∷ 1 ∷ 77 ∷ 77 ∷ [])
    ∷ [])
unfolding computing seen row
answer_7_twice = refl

pub answer_8_present :
    Hold
    -- the first change, not the first posting of the table
    (publish (bring 0 6 3 ++ bring 0 5 2 ++ bring 0 5 1) [] gives unchanged 8 1
    ∷ prepare (bring 0 6 3 ++ bring 0 5 2 ++ bring 0 5 1) [] gives unchanged 8 1
    -- an unmoved row that is in the table
    ∷ publish (move 0 5 5 1) [] gives unchanged 8 0
    -- the table at entry counts: that the list takes the posting away does not help
    ∷ publish (take 0 5 1 ++ bring 0 5 1) [] gives unchanged 8 1
    -- free places show three zeros and are no posting
    ∷ publish_under (0 ∷ 0 ∷ []) (bring 0 0 0)
    gives row 0 1 3 0 (cell 0 0 0 ++ cell 0 5 1 ++ cell 0 5 2 ++ free) (0 ∷ 77 ∷ 77 ∷ 77 ∷ [])
    -- 8 before 9, though change 0 takes what it brings
    ∷ publish (move 0 6 6 3 ++ bring 0 5 1) [] gives unchanged 8 1
    ∷ [])
unfolding computing seen row
answer_8_present = refl

pub answer_9_overlap :
    Hold
    -- an unmoved row that is not in the table
    (publish (move 0 6 6 3) [] gives unchanged 9 0
    -- the source is the destination of an earlier change, of a later one
    ∷ publish (bring 0 6 3 ++ take 0 6 3) [] gives unchanged 9 1
    ∷ publish (take 0 6 3 ++ bring 0 6 3) [] gives unchanged 9 0
    -- also where the change has another destination of its own
    ∷ publish (move 0 6 5 3 ++ bring 0 6 3) [] gives unchanged 9 0
    -- the first source that is a destination, not the source of the first destination
    ∷ publish (bring 0 6 3 ++ bring 0 6 4 ++ take 0 6 4 ++ take 0 6 3) [] gives unchanged 9 2
    -- prepare alone accepts such a list
    ∷ prepare (bring 0 6 3 ++ take 0 6 3) []
    gives row 0 1 3 0 (cell 0 5 1 ++ cell 0 5 2 ++ cell 0 6 3 ++ free) (0 ∷ 77 ∷ 77 ∷ 77 ∷ [])
    -- and so does removal alone
    ∷ remove (move 0 5 5 1) [] gives row 0 0 1 0 (cell 0 5 2 ++ free ++ free ++ free) blank
    ∷ remove (bring 0 6 3 ++ take 0 6 3) [] gives unchanged 0 0
    ∷ [])
unfolding computing seen row
answer_9_overlap = refl

pub answer_10_store :
    Hold
    -- byte 2 inserts no more than byte 1 does
    (publish (bring 0 6 3) (1 ∷ []) gives unchanged 10 0
    ∷ publish (bring 0 6 3) (2 ∷ []) gives unchanged 10 0
    ∷ prepare (bring 0 6 3) (2 ∷ []) gives unchanged 10 0
    -- at a full table byte 1 or 2 is 10, not 11
    ∷ try publish_of (head 2 2 0) short (move 0 5 6 1) (1 ∷ []) blank gives row 10 0 2 0 short blank
    ∷ try publish_of (head 2 2 0) short (move 0 5 6 1) (2 ∷ []) blank gives row 10 0 2 0 short blank
    -- after the undo all is as before, also where a posting came in front
    ∷ publish (bring 0 5 0 ++ bring 0 6 3 ++ bring 1 9 7) (0 ∷ 0 ∷ 1 ∷ []) gives unchanged 10 2
    ∷ prepare (bring 0 5 0 ++ bring 0 6 3 ++ bring 1 9 7) (0 ∷ 0 ∷ 1 ∷ []) gives unchanged 10 2
    -- sources are not touched
    ∷ publish (move 0 5 6 1 ++ move 0 5 6 2) (0 ∷ 2 ∷ []) gives unchanged 10 1
    -- a change with no after reads no byte
    ∷ publish (take 0 5 1 ++ take 0 5 2 ++ bring 0 6 3) (1 ∷ []) gives unchanged 10 2
    ∷ [])
unfolding computing seen row
answer_10_store = refl

pub answer_11_full :
    Hold
    -- a full table refuses a move
    (try publish_of (head 2 2 0) short (move 0 5 6 1) [] blank gives row 11 0 2 0 short blank
    -- and a row in place of another: sources stay until every destination is in
    ∷ try publish_of (head 2 2 0) short (take 0 5 1 ++ bring 0 6 3) [] blank gives row 11 1 2 0 short blank
    -- a table with no place
    ∷ try publish_of (head 2 0 0) [] (bring 0 6 3) [] blank gives row 11 0 0 0 [] blank
    -- the last place is there to be used
    ∷ publish (bring 1 9 7 ++ bring 1 9 8) []
    gives row 0 2 4 0 (cell 0 5 1 ++ cell 0 5 2 ++ cell 1 9 7 ++ cell 1 9 8) (0 ∷ 1 ∷ 77 ∷ 77 ∷ [])
    -- three insertions and two undo removals read five bytes
    ∷ publish three (0 ∷ 0 ∷ 0 ∷ 0 ∷ 0 ∷ 1 ∷ []) gives unchanged 11 2
    ∷ prepare three [] gives unchanged 11 2
    -- the full insertion has read its byte: the undo of change 0 reads the fifth
    ∷ publish three (0 ∷ 0 ∷ 0 ∷ 0 ∷ 1 ∷ [])
    gives row 12 2 3 1 (cell 0 5 1 ++ cell 0 5 2 ++ cell 1 9 7 ++ free) blank
    ∷ [])
unfolding computing seen row
answer_11_full = refl

pub answer_12_prepare :
    Hold
    -- the change that was not inserted (2) is named, not the one that could not be undone (0)
    (prepare three (0 ∷ 0 ∷ 2 ∷ 0 ∷ 1 ∷ [])
    gives row 12 2 3 1 (cell 0 5 1 ++ cell 0 5 2 ++ cell 1 9 7 ++ free) blank
    -- the undo goes on after a failure, also where byte 2 took the posting
    ∷ publish three (0 ∷ 0 ∷ 1 ∷ 1 ∷ 0 ∷ [])
    gives row 12 2 3 1 (cell 0 5 1 ++ cell 0 5 2 ++ cell 1 9 8 ++ free) blank
    ∷ publish three (0 ∷ 0 ∷ 1 ∷ 2 ∷ 1 ∷ [])
    gives row 12 2 3 1 (cell 0 5 1 ++ cell 0 5 2 ++ cell 1 9 7 ++ free) blank
    -- the table is as at entry, yet it is poisoned
    ∷ publish three (0 ∷ 0 ∷ 0 ∷ 2 ∷ 2 ∷ []) gives row 12 2 2 1 whole blank
    -- no source is removed
    ∷ publish (move 0 5 6 1 ++ move 0 5 6 2) (0 ∷ 1 ∷ 1 ∷ [])
    gives row 12 1 3 1 (cell 0 5 1 ++ cell 0 5 2 ++ cell 0 6 1 ++ free) blank
    ∷ [])
unfolding computing seen row
answer_12_prepare = refl

pub answer_12_rollback :
    Hold
    -- from the end to the start: 2 and 1 fail, 0 is removed; the last to fail is 1
    (rollback three (1 ∷ 1 ∷ 0 ∷ []) (0 ∷ 1 ∷ 2 ∷ [])
    gives row 12 1 3 1 (cell 0 5 1 ++ cell 1 9 8 ++ cell 1 9 9 ++ free) (0 ∷ 1 ∷ 2 ∷ [])
    -- the last to fail has the lowest place, whatever its number
    ∷ rollback three (1 ∷ 1 ∷ 1 ∷ []) (0 ∷ 1 ∷ 2 ∷ []) gives row 12 0 4 1 loaded (0 ∷ 1 ∷ 2 ∷ [])
    ∷ rollback three (1 ∷ 1 ∷ 1 ∷ []) (2 ∷ 1 ∷ 0 ∷ []) gives row 12 2 4 1 loaded (2 ∷ 1 ∷ 0 ∷ [])
    -- byte 2 takes the posting and is a failure all the same
    ∷ rollback three (2 ∷ []) (0 ∷ 1 ∷ 2 ∷ []) gives row 12 2 1 1 (cell 0 5 1 ++ free ++ free ++ free) (0 ∷ 1 ∷ 2 ∷ [])
    -- an absent posting fails on bytes 1 and 2, and on byte 0 it is no fault
    ∷ rollback (bring 0 6 3) (1 ∷ []) (0 ∷ []) gives row 12 0 4 1 loaded (0 ∷ [])
    ∷ rollback (bring 0 6 3) (2 ∷ []) (0 ∷ []) gives row 12 0 4 1 loaded (0 ∷ [])
    ∷ rollback (bring 0 6 3) (0 ∷ []) (0 ∷ []) gives row 0 0 4 0 loaded (0 ∷ [])
    ∷ [])
unfolding computing seen row
answer_12_rollback = refl

pub answer_13_publish :
    Hold
    -- the strip is read on: the source's byte comes after the destination's, and the record stays written
    (publish (move 0 5 6 1) (0 ∷ 1 ∷ [])
    gives row 13 0 3 1 (cell 0 5 1 ++ cell 0 5 2 ++ cell 0 6 1 ++ free) (0 ∷ 77 ∷ 77 ∷ 77 ∷ [])
    -- the source is gone, yet its removal failed
    ∷ publish (move 0 5 6 1) (0 ∷ 2 ∷ [])
    gives row 13 0 2 1 (cell 0 5 2 ++ cell 0 6 1 ++ free ++ free) (0 ∷ 77 ∷ 77 ∷ 77 ∷ [])
    -- all destinations are in and the sources before the failure are gone
    ∷ publish (move 0 5 6 1 ++ move 0 5 6 2) (0 ∷ 0 ∷ 0 ∷ 1 ∷ [])
    gives row 13 1 3 1 (cell 0 5 2 ++ cell 0 6 1 ++ cell 0 6 2 ++ free) (0 ∷ 1 ∷ 77 ∷ 77 ∷ [])
    -- a change with no before reads no byte at removal, one with no after none at prepare
    ∷ publish (bring 0 6 3 ++ take 0 5 1) (0 ∷ 1 ∷ [])
    gives row 13 1 3 1 (cell 0 5 1 ++ cell 0 5 2 ++ cell 0 6 3 ++ free) (0 ∷ 77 ∷ 77 ∷ 77 ∷ [])
    ∷ publish (take 0 5 1 ++ bring 0 6 3) (0 ∷ 1 ∷ [])
    gives row 13 0 3 1 (cell 0 5 1 ++ cell 0 5 2 ++ cell 0 6 3 ++ free) (1 ∷ 77 ∷ 77 ∷ 77 ∷ [])
    -- an absent source fails on bytes 1 and 2, and on byte 0 it is no fault
    ∷ publish (take 0 6 3) (1 ∷ []) gives row 13 0 2 1 whole blank
    ∷ publish (take 0 6 3) (2 ∷ []) gives row 13 0 2 1 whole blank
    ∷ publish (take 0 6 3) (0 ∷ []) gives unchanged 0 0
    -- a source named twice reads two bytes
    ∷ publish (take 0 5 1 ++ take 0 5 1) (0 ∷ 1 ∷ []) gives row 13 1 1 1 (cell 0 5 2 ++ free ++ free ++ free) blank
    ∷ [])
unfolding computing seen row
answer_13_publish = refl

pub answer_13_removal :
    Hold
    -- removal alone stops at the first failure, whether or not it took the posting
    (remove (take 0 5 1 ++ take 0 5 2) (1 ∷ []) gives row 13 0 2 1 whole blank
    ∷ remove (take 0 5 1 ++ take 0 5 2) (2 ∷ []) gives row 13 0 1 1 (cell 0 5 2 ++ free ++ free ++ free) blank
    ∷ remove (take 0 5 1 ++ take 0 5 2) (0 ∷ 1 ∷ []) gives row 13 1 1 1 (cell 0 5 2 ++ free ++ free ++ free) blank
    -- removal alone inserts nothing, reads no byte for an after and leaves the record list
    ∷ remove (bring 0 6 3 ++ move 0 5 6 1) (0 ∷ 1 ∷ []) gives row 0 0 1 0 (cell 0 5 2 ++ free ++ free ++ free) blank
    ∷ [])
unfolding computing seen row
answer_13_removal = refl

pub answer_14_record :
    Hold
    -- of a repeated number the second place is bad; the place is named, not the number
    (rollback three [] (0 ∷ 1 ∷ 0 ∷ []) gives row 14 2 4 0 loaded (0 ∷ 1 ∷ 0 ∷ [])
    ∷ rollback three [] (2 ∷ 2 ∷ []) gives row 14 1 4 0 loaded (2 ∷ 2 ∷ [])
    -- a number that is not below the change count
    ∷ rollback three [] (0 ∷ 3 ∷ []) gives row 14 1 4 0 loaded (0 ∷ 3 ∷ [])
    ∷ rollback three [] (4294967295 ∷ []) gives row 14 0 4 0 loaded (4294967295 ∷ [])
    -- a change with no after
    ∷ rollback (three ++ take 0 5 1) [] (2 ∷ 3 ∷ []) gives row 14 1 4 0 loaded (2 ∷ 3 ∷ [])
    -- the whole list that is lent is the record: places past what prepare wrote are bad
    ∷ rollback three [] (0 ∷ 77 ∷ 77 ∷ []) gives row 14 1 4 0 loaded (0 ∷ 77 ∷ 77 ∷ [])
    -- the first bad place, of whatever kind
    ∷ rollback three [] (1 ∷ 1 ∷ 9 ∷ []) gives row 14 1 4 0 loaded (1 ∷ 1 ∷ 9 ∷ [])
    ∷ [])
unfolding computing seen row
answer_14_record = refl

pub records_accepted :
    Hold
    -- any order is accepted, and undone from its end: 1, 0, 2
    (rollback three [] (2 ∷ 0 ∷ 1 ∷ []) gives row 0 0 1 0 (cell 0 5 1 ++ free ++ free ++ free) (2 ∷ 0 ∷ 1 ∷ [])
    ∷ rollback three (0 ∷ 0 ∷ 1 ∷ []) (2 ∷ 0 ∷ 1 ∷ [])
    gives row 12 2 2 1 (cell 0 5 1 ++ cell 1 9 9 ++ free ++ free) (2 ∷ 0 ∷ 1 ∷ [])
    -- a part of the destinations
    ∷ rollback three [] (1 ∷ []) gives row 0 0 3 0 (cell 0 5 1 ++ cell 1 9 7 ++ cell 1 9 9 ++ free) (1 ∷ [])
    -- a destination that stood in the table before any prepare is removed too
    ∷ rollback (bring 0 5 1) [] (0 ∷ []) gives row 0 0 3 0 (cell 1 9 7 ++ cell 1 9 8 ++ cell 1 9 9 ++ free) (0 ∷ [])
    -- an empty record is accepted and reads no byte
    ∷ rollback three (1 ∷ []) [] gives row 0 0 4 0 loaded []
    ∷ [])
unfolding computing seen row
records_accepted = refl

-- the order of the checks: each call has two faults at least, and the first in the order 1 2 3 4 5 6 7 8 is given
pub order_of_prepare :
    Hold
    (try prepare_of (head 2 3 1) short (0 ∷ []) (3 ∷ []) [] gives row 1 0 3 1 short []
    ∷ try prepare_of (head 2 2 1) short (0 ∷ []) (3 ∷ []) [] gives row 2 0 2 1 short []
    ∷ try prepare_of (head 2 2 0) short (0 ∷ []) (3 ∷ []) [] gives row 3 0 2 0 short []
    ∷ try prepare_of (head 2 2 0) short (nothing 2 1) (3 ∷ []) [] gives row 4 0 2 0 short []
    ∷ try prepare_of (head 2 2 0) short (nothing 2 1) [] [] gives row 5 0 2 0 short []
    ∷ prepare (bring 0 5 1 ++ bring 0 5 1 ++ nothing 2 1) [] gives unchanged 6 2
    ∷ prepare (bring 0 5 1 ++ bring 0 6 3 ++ bring 0 6 3) [] gives pair 1 2
    ∷ prepare (bring 0 5 1) (1 ∷ []) gives unchanged 8 0
    ∷ [])
unfolding computing seen row
order_of_prepare = refl

-- 1 2 3 4 6 14
pub order_of_rollback :
    Hold
    (try rollback_of (head 2 3 1) short (0 ∷ []) (3 ∷ []) (9 ∷ []) gives row 1 0 3 1 short (9 ∷ [])
    ∷ try rollback_of (head 2 2 1) short (0 ∷ []) (3 ∷ []) (9 ∷ []) gives row 2 0 2 1 short (9 ∷ [])
    ∷ try rollback_of (head 2 2 0) short (0 ∷ []) (3 ∷ []) (9 ∷ []) gives row 3 0 2 0 short (9 ∷ [])
    ∷ try rollback_of (head 2 2 0) short (nothing 2 1) (3 ∷ []) (9 ∷ []) gives row 4 0 2 0 short (9 ∷ [])
    ∷ try rollback_of (head 2 2 0) short (nothing 2 1) [] (9 ∷ []) gives row 6 0 2 0 short (9 ∷ [])
    ∷ try rollback_of (head 2 2 0) short (bring 0 5 1) (1 ∷ []) (0 ∷ 9 ∷ []) gives row 14 1 2 0 short (0 ∷ 9 ∷ [])
    ∷ [])
unfolding computing seen row
order_of_rollback = refl

-- 1 2 3 4 6
pub order_of_removal :
    Hold
    (try removal_of (head 2 3 1) short (0 ∷ []) (3 ∷ []) [] gives row 1 0 3 1 short []
    ∷ try removal_of (head 2 2 1) short (0 ∷ []) (3 ∷ []) [] gives row 2 0 2 1 short []
    ∷ try removal_of (head 2 2 0) short (0 ∷ []) (3 ∷ []) [] gives row 3 0 2 0 short []
    ∷ try removal_of (head 2 2 0) short (nothing 2 1) (3 ∷ []) [] gives row 4 0 2 0 short []
    ∷ try removal_of (head 2 2 0) short (take 0 5 1 ++ nothing 2 1) (1 ∷ []) [] gives row 6 1 2 0 short []
    ∷ [])
unfolding computing seen row
order_of_removal = refl

-- a count's answer with what it names
abbrev pub count : Head → List ℕ → ℕ → ℕ → Told
count h table binding key = told_of (count_of h table binding key)

abbrev pub told : ℕ → ℕ → Told
told answer named = record { answer = answer; named = named; other = 0 }

pub counts :
    Hold
    -- all postings of a binding and key; no guard is asked
    (count (head 2 2 0) whole 0 5 gives told 0 2
    -- an absent key, also the key 0 that free places show
    ∷ count (head 2 2 0) whole 0 6 gives told 0 0
    ∷ count (head 2 2 0) whole 0 0 gives told 0 0
    -- postings of another binding or key do not count
    ∷ count (head 2 3 0) (cell 0 5 1 ++ cell 1 5 1 ++ cell 1 9 5) 0 5 gives told 0 1
    ∷ count (head 2 3 0) (cell 0 5 1 ++ cell 1 5 1 ++ cell 1 9 5) 1 5 gives told 0 1
    -- a posting of three zeros counts
    ∷ count (head 1 1 0) (free ++ free) 0 0 gives told 0 1
    -- a binding that is not below the count: 6, which names 0
    ∷ count (head 2 2 0) whole 2 5 gives told 6 0
    ∷ count (head 0 0 0) [] 0 5 gives told 6 0
    -- 2 before 6, and 1 before 2
    ∷ count (head 2 2 1) whole 2 5 gives told 2 0
    ∷ count (head 2 3 1) short 2 5 gives told 1 0
    -- a poison flag of 3 is no flag: 1
    ∷ count (head 2 2 3) whole 0 5 gives told 1 0
    ∷ [])
unfolding computing
counts = refl

-- four places that can be told apart
abbrev pub places : List ℕ
places = 90 ∷ 91 ∷ 92 ∷ 93 ∷ []

pub record_lists :
    Hold
    -- numbers of changes that have an after, ascending; how many is named; places past them stay
    (try publish_of (head 2 2 0) whole (bring 0 6 4 ++ take 0 5 1 ++ bring 0 6 3) [] places
    gives row 0 2 3 0 (cell 0 5 2 ++ cell 0 6 3 ++ cell 0 6 4 ++ free) (0 ∷ 2 ∷ 92 ∷ 93 ∷ [])
    ∷ try prepare_of (head 2 2 0) whole (bring 0 6 4 ++ take 0 5 1 ++ bring 0 6 3) [] places
    gives row 0 2 4 0 (cell 0 5 1 ++ cell 0 5 2 ++ cell 0 6 3 ++ cell 0 6 4) (0 ∷ 2 ∷ 92 ∷ 93 ∷ [])
    -- no after, no number
    ∷ try publish_of (head 2 2 0) short (take 0 5 1 ++ nothing 1 1) [] places gives row 0 0 1 0 (cell 0 5 2 ++ free) places
    -- a call that is refused after an insertion, clean or not, writes no number
    ∷ try publish_of (head 2 2 0) whole (bring 0 6 3 ++ bring 0 6 4) (0 ∷ 1 ∷ []) places gives row 10 1 2 0 whole places
    ∷ try publish_of (head 2 2 0) whole three [] places gives row 11 2 2 0 whole places
    ∷ try prepare_of (head 2 2 0) whole (bring 0 6 3 ++ bring 0 6 4) (0 ∷ 1 ∷ 2 ∷ []) places gives row 12 1 2 1 whole places
    -- 13 leaves the record written, and names the change
    ∷ try publish_of (head 2 2 0) whole (bring 0 6 3 ++ take 0 5 1) (0 ∷ 2 ∷ []) places
    gives row 13 1 2 1 (cell 0 5 2 ++ cell 0 6 3 ++ free ++ free) (0 ∷ 91 ∷ 92 ∷ 93 ∷ [])
    ∷ [])
unfolding computing seen row
record_lists = refl

-- the head that a call leaves, under binding count 3
abbrev pub head_of : (Head → List ℕ → Call → Outcome) → List ℕ → List ℕ → List ℕ → Head
head_of call cs strip list = (call (head 3 2 0) whole (lending cs keys strip list)).head

pub heads :
    Hold
    -- the binding count stays; an acceptance writes used, 12 and 13 used and the flag
    (head_of publish_of (bring 0 6 3) [] blank gives head 3 3 0
    ∷ head_of publish_of (move 0 5 6 1) (0 ∷ 1 ∷ []) blank gives head 3 3 1
    ∷ head_of prepare_of (bring 0 6 3) [] blank gives head 3 3 0
    ∷ head_of prepare_of (bring 0 6 3 ++ bring 0 6 4) (0 ∷ 1 ∷ 2 ∷ []) blank gives head 3 2 1
    ∷ head_of rollback_of (bring 0 5 1) [] (0 ∷ []) gives head 3 1 0
    ∷ head_of rollback_of (bring 0 5 1) (1 ∷ []) (0 ∷ []) gives head 3 2 1
    ∷ head_of removal_of (take 0 5 1) [] [] gives head 3 1 0
    ∷ head_of removal_of (take 0 5 1) (2 ∷ []) [] gives head 3 1 1
    -- 10 and 11 write nothing
    ∷ head_of publish_of (bring 0 6 3) (2 ∷ []) blank gives head 3 2 0
    ∷ head_of publish_of three [] blank gives head 3 2 0
    ∷ [])
unfolding computing
heads = refl

-- answer alone: a publish on the table of the lettered orders, and on a table of so many zeros
abbrev pub answer_to : List ℕ → List ℕ → List ℕ → List ℕ → Told
answer_to cs gs strip list = told_of (publish_of (head 2 2 0) whole (lending cs gs strip list)).answer

abbrev pub answer_on : ℕ → Told
answer_on size = told_of (publish_of (head 2 0 0) (replicate size 0) (lending [] [] [] [])).answer

-- and to a call that lends so many zeros for its guards, and nothing else
abbrev pub answer_under : (Head → List ℕ → Call → Outcome) → ℕ → Told
answer_under call size = told_of (call (head 2 2 0) whole (lending [] (replicate size 0) [] [])).answer

pub limits :
    Hold
    -- 1,024 bytes
    (answer_to [] [] (replicate 1024 0) [] gives told 0 0
    ∷ answer_to [] [] (replicate 1025 0) [] gives told 4 0
    -- 1,024 guards of two numbers each, in every call; 1,024 guards and one number are odd
    ∷ answer_under publish_of 2048 gives told 0 0
    ∷ answer_under publish_of 2049 gives told 3 0
    ∷ answer_under publish_of 2050 gives told 3 0
    ∷ answer_under prepare_of 2048 gives told 0 0
    ∷ answer_under prepare_of 2049 gives told 3 0
    ∷ answer_under prepare_of 2050 gives told 3 0
    ∷ answer_under rollback_of 2048 gives told 0 0
    ∷ answer_under rollback_of 2049 gives told 3 0
    ∷ answer_under rollback_of 2050 gives told 3 0
    ∷ answer_under removal_of 2048 gives told 0 0
    ∷ answer_under removal_of 2049 gives told 3 0
    ∷ answer_under removal_of 2050 gives told 3 0
    -- 256 changes of six numbers each
    ∷ answer_to (replicate 1536 0) [] [] (replicate 256 77) gives told 0 0
    ∷ answer_to (replicate 1542 0) [] [] (replicate 257 77) gives told 3 0
    -- 12,288 numbers of a table
    ∷ answer_on 12288 gives told 0 0
    ∷ answer_on 12291 gives told 1 0
    ∷ [])
unfolding computing
limits = refl
