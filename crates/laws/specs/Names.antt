-- What the checks name, told by places of their lists: the first change, destination, source, pair or place that is bad.
use Rattle.std.specs.Prelude.{ℕ, ◌+◌, ◌<◌, ◌≡◌, List, Bool, true, false, ◌⊎◌, length, get_or, Result, Ok, Err}
use Rattle.rules.specs.declared.Change.{Change}
use Rattle.rules.specs.declared.Guard.{Guard}
use Rattle.rules.specs.declared.Failure.{Failure}
use Rattle.rules.specs.Postings.{same}
use Rattle.rules.specs.Orders.{Numbered}
use Rattle.laws.specs.Words.{nowhere, number_at}
use Rattle.rules.specs.Checks.{recordable}

-- the element at place k fails its test, and none before it does
pub record FirstAt {A : Type 0} (test : A → Bool) (none : A) (xs : List A) (k : ℕ) : Type 0 where
  pub there : k < length xs
  pub fails : test (get_or xs k none) ≡ false
  pub before : (i : ℕ) → i < k → test (get_or xs i none) ≡ true

-- that element is the one named
pub record NamesFirst {A : Type 0} (none : A) (test : A → Bool) (answer : ℕ → A → Failure) (i : ℕ) (xs : List A) (a : Failure) : Type 0 where
  pub at : ℕ
  pub first : FirstAt test none xs at
  pub names : a ≡ answer (i + at) (get_or xs at none)

-- the destinations at two places are equal
abbrev pub twins : List Numbered → ℕ → ℕ → Bool
twins ds i j = same (get_or ds i nowhere).posting (get_or ds j nowhere).posting

-- all destinations before a place differ from each other
abbrev pub Apart : List Numbered → ℕ → Type 0
Apart ds n = (l m : ℕ) → l < m → m < n → twins ds l m ≡ false

-- the first equal pair in order of j, then i
pub record FirstPair (ds : List Numbered) (i j : ℕ) : Type 0 where
  pub order : i < j
  pub there : j < length ds
  pub equal : twins ds i j ≡ true
  pub nearest : (l : ℕ) → l < i → twins ds l j ≡ false
  pub before : (l m : ℕ) → l < m → m < j → twins ds l m ≡ false

-- that pair is the one named
pub record NamesPair (ds : List Numbered) (a : Failure) : Type 0 where
  pub i : ℕ
  pub j : ℕ
  pub first : FirstPair ds i j
  pub names : a ≡ Failure.Twice (number_at ds i) (number_at ds j)

-- the number at place k stands at an earlier place already
pub record Repeated (ns : List ℕ) (k : ℕ) : Type 0 where
  pub at : ℕ
  pub earlier : at < k
  pub equal : get_or ns at 0 ≡ get_or ns k 0

-- the first place of a record that means no destination, or is a repeat
pub record FirstBad (cs : List Change) (ns : List ℕ) (k : ℕ) : Type 0 where
  pub there : k < length ns
  pub bad : (recordable cs (get_or ns k 0) ≡ false) ⊎ Repeated ns k
  pub before : (i : ℕ) → i < k → (recordable cs (get_or ns i 0) ≡ true) × (Repeated ns i → ⊥)

-- that place is the one named
pub record NamesBad (cs : List Change) (ns : List ℕ) (a : Failure) : Type 0 where
  pub at : ℕ
  pub first : FirstBad cs ns at
  pub names : a ≡ Failure.Record at

-- no guard: what stands past the end of their list
abbrev pub no_guard : Guard
no_guard = record { binding = 0; key = 0 }

-- a guard of the list is the pair (binding, key)
pub record Holder (binding key : ℕ) (gs : List Guard) : Type 0 where
  pub at : ℕ
  pub there : at < length gs
  pub bindings : (get_or gs at no_guard).binding ≡ binding
  pub keys : (get_or gs at no_guard).key ≡ key

-- the first verdict that refuses
pub record RefusedAt (vs : List (Result Unit Failure)) (a : Failure) : Type 0 where
  pub at : ℕ
  pub there : at < length vs
  pub refuses : get_or vs at (Ok tt) ≡ Err a
  pub before : (i : ℕ) → i < at → get_or vs i (Ok tt) ≡ Ok tt
