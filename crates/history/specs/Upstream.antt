-- Upstream's contracts of the posting functions, clause by clause, said of the outcome of a call. What upstream requires is
-- checked here and refused; so it holds wherever no check refused, before the first insertion or removal.
use Rattle.std.specs.Prelude.{ℕ, ◌<◌, ◌≡◌, List, [], true, false, not, ◌&&◌, ◌||◌, length, get_or, take, Ok}
use Rattle.lent_lists.specs.Written.{written}
use Rattle.rules.specs.declared.Posting.{Posting}
use Rattle.rules.specs.declared.Head.{Head}
use Rattle.rules.specs.declared.Change.{Change}
use Rattle.rules.specs.Postings.{present}
use Rattle.rules.specs.Table.{postings}
use Rattle.rules.specs.Orders.{guards, destinations, sources, postings_of, change_numbers, no_change, recorded, Call, changes_of}
use Rattle.rules.specs.Answers.{is_accepted, poisons}
use Rattle.rules.specs.Checks.{guarded, recordable, record_from}
use Rattle.lent_lists.specs.Among.{among}
use Rattle.rules.specs.Calls.{Outcome, as_before}
use Rattle.laws.specs.Words.{postings_before, nowhere, RemovedOnly, Stable, rising, is_refusal}
use Rattle.laws.specs.Names.{Apart, Repeated}

-- the postings that a call leaves
abbrev pub postings_left : Outcome → List Posting
postings_left o = postings o.head.used o.table

module _ (head : Head) (table : List ℕ) (c : Call) where
  -- valid: every change is guarded
  abbrev pub Valid : Type 0
  Valid =
      (k : ℕ) → k < length (changes_of c) → guarded head.bindings (guards c.guard_list) (get_or (changes_of c) k no_change) ≡ true

  -- unique_destinations: no two are equal
  abbrev pub UniqueDestinations : Type 0
  UniqueDestinations = Apart (destinations (changes_of c)) (length (destinations (changes_of c)))

  -- postings.disjoint(destinations): none stands in the table
  abbrev pub Disjoint : Type 0
  Disjoint =
      (k : ℕ) → k < length (destinations (changes_of c)) →
      present (get_or (destinations (changes_of c)) k nowhere).posting (postings_before head table) ≡ false

  -- valid_indices: each number means a destination, none stands twice
  abbrev pub ValidIndices : Type 0
  ValidIndices =
      (i : ℕ) → i < length c.record_list →
      (recordable (changes_of c) (get_or c.record_list i 0) ≡ true) × (Repeated c.record_list i → ⊥)

  -- upstream's set destinations
  abbrev pub destination_set : List Posting
  destination_set = postings_of (destinations (changes_of c))

  -- its set sources
  abbrev pub source_set : List Posting
  source_set = postings_of (sources (changes_of c))

  -- its set recorded
  abbrev pub recorded_set : List Posting
  recorded_set = postings_of (recorded (changes_of c) c.record_list)

  -- an error: 12 and 13 poison, every other leaves all as before
  pub record Errors (o : Outcome) : Type 0 where
    pub poisoned : poisons o.answer ≡ true → o.head.poisoned ≡ 1
    pub others :
        is_accepted o.answer ≡ false → poisons o.answer ≡ false → o ≡ as_before head table c.record_list o.answer

  -- rollback_index_destinations
  pub record RollbackClauses (o : Outcome) : Type 0 where
    pub requires_valid : is_refusal o.answer ≡ false → Valid
    pub requires_indices : is_refusal o.answer ≡ false → ValidIndices
    pub stable : Stable head table o
    pub ok_flag : is_accepted o.answer ≡ true → o.head.poisoned ≡ head.poisoned
    pub ok_postings :
        is_accepted o.answer ≡ true → (p : Posting) →
        present p (postings_left o) ≡ (present p (postings_before head table) && not (present p recorded_set))
    pub errors : Errors o
    pub removed_only : RemovedOnly (postings_before head table) (postings_left o) recorded_set

  -- prepare_index_destinations
  pub record PrepareClauses (o : Outcome) : Type 0 where
    pub requires_valid : is_refusal o.answer ≡ false → Valid
    pub requires_unique : is_refusal o.answer ≡ false → UniqueDestinations
    pub requires_disjoint : is_refusal o.answer ≡ false → Disjoint
    pub stable : Stable head table o
    pub ok_flag : is_accepted o.answer ≡ true → o.head.poisoned ≡ head.poisoned
    pub ok_postings :
        is_accepted o.answer ≡ true → (p : Posting) →
        present p (postings_left o) ≡ (present p (postings_before head table) || present p destination_set)
    pub ok_record :
        is_accepted o.answer ≡ true → o.record_list ≡ written (change_numbers (destinations (changes_of c))) c.record_list
    pub ok_named : is_accepted o.answer ≡ true → o.answer ≡ Ok (length (change_numbers (destinations (changes_of c))))
    pub errors : Errors o
    pub keeps : (p : Posting) → present p (postings_before head table) ≡ true → present p (postings_left o) ≡ true
    pub inside :
        (p : Posting) → present p (postings_left o) ≡ true →
        (present p (postings_before head table) || present p destination_set) ≡ true

  -- remove_index_sources
  pub record RemovalClauses (o : Outcome) : Type 0 where
    pub requires_valid : is_refusal o.answer ≡ false → Valid
    pub stable : Stable head table o
    pub ok_flag : is_accepted o.answer ≡ true → o.head.poisoned ≡ head.poisoned
    pub ok_postings :
        is_accepted o.answer ≡ true → (p : Posting) →
        present p (postings_left o) ≡ (present p (postings_before head table) && not (present p source_set))
    pub errors : Errors o
    pub removed_only : RemovedOnly (postings_before head table) (postings_left o) source_set

-- prefix_record, of the record that an accepted prepare writes
pub record PrefixRecord (cs : List Change) (ns : List ℕ) : Type 0 where
  -- valid_indices and its bound: rollback takes it
  pub indices : record_from 0 cs [] ns ≡ Ok tt
  -- it ascends, so the order is fixed and nothing stands twice
  pub ascends : rising 0 ns ≡ true
  -- it holds exactly the changes that have an after
  pub contains : (j : ℕ) → among j ns ≡ recordable cs j
  -- and what it names are the destinations, in their order
  pub names : recorded cs ns ≡ destinations cs

-- the rollback call for a prepare: the same changes and guards, and the part of the record list that the prepare named
abbrev pub back_of : Call → Outcome → List ℕ → Call
back_of c o strip =
    record {
      change_list = c.change_list;
      guard_list = c.guard_list;
      strip = strip;
      record_list = take (length (destinations (changes_of c))) o.record_list;
    }
