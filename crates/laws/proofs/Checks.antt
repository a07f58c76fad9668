-- What the checks say where they pass, and that they refuse with nothing but 1 to 9 and 14.
use Rattle.std.proofs.Common.{Option, Some, None, Result, Ok, Err, ℕ}
use Prim.Native.Nat.{ℕ, ◌+◌, ◌≤◌}
use native.Mathlib.Omega.{arith}
use mathlib.Core.Path.{◌≡◌, refl, sym, ◌∙◌}
use mathlib.Core.List.{List, [], ◌∷◌, ◌++◌}
use mathlib.Core.Bool.{Bool, true, false, not, ◌&&◌, ◌||◌, or_assoc}
use mathlib.Mathlib.Data.Bool.Basic.{and_elim_left, and_elim_right, and_intro}
use lib.ListN.{length}
use lib.Dec.{eqb, ltb, leb}
use borrow.Author.Tests.{eq-eqb, ne_eqb, eqb-true, leb-true, le-leb, not-true}
use Rattle.strips.specs.Strips.{proper_strip}
use Rattle.rules.specs.declared.Posting.{Posting}
use Rattle.rules.specs.declared.Change.{Change}
use Rattle.rules.specs.declared.Guard.{Guard}
use Rattle.rules.specs.declared.Head.{Head}
use Rattle.rules.specs.declared.Failure.{Failure}
use Rattle.rules.specs.Limits.{most_changes}
use Rattle.rules.specs.Postings.{every, same, present, inserted, binding_below}
use Rattle.rules.specs.Table.{postings, well_formed}
use Rattle.rules.specs.Orders.{Numbered, named, destination_of, destinations_from, destinations, sources, postings_of, changes, proper_changes, proper_lists, Call, lending, changes_of}
use Rattle.rules.specs.Checks.{must, or_else, first_refusal, table_check, poison_check, list_check, strip_check, room_check, key_held, guarded, first_failing, guard_check, recordable, record_from, record_check, first_equal, twice_from, twice_check, present_check, overlap_check, opening_checks, lent_checks, arriving_checks, leaving_checks, order_checks, publish_beside, lent_of, guarding_of, prepare_checks, rollback_checks, removal_checks, publish_checks, count_checks}
use Rattle.lent_lists.specs.Among.{among}
use Rattle.laws.specs.Words.{is_refusal}
use Rattle.booleans.proofs.Tests.{impossible, neither, or_swap}
use Rattle.laws.proofs.Ranks.{same_turned}
use Rattle.laws.proofs.Lists.{present_inserted}
use Rattle.laws.proofs.Prepare.{Fresh}

-- verdicts
pub must_holds : (b : Bool) (a : Failure) → must b a ≡ Ok tt → b ≡ true
must_holds true a h = refl
must_holds false a h = impossible (cc)

pub else_first : (v w : Result Unit Failure) → or_else v w ≡ Ok tt → v ≡ Ok tt
else_first (Ok _) w h = refl
else_first (Err a) w h = h

pub else_second : (v w : Result Unit Failure) → or_else v w ≡ Ok tt → w ≡ Ok tt
else_second (Ok _) w h = h
else_second (Err a) w h = impossible (cc)

-- a property of each verdict of a list
abbrev pub Each : (Result Unit Failure → Type 0) → List (Result Unit Failure) → Type 0
Each P [] = Unit {0}
Each P (v ∷ vs) = P v × Each P vs

-- a list of verdicts passes exactly where each of them does
pub passed : (vs : List (Result Unit Failure)) → first_refusal vs ≡ Ok tt → Each (λ v. v ≡ Ok tt) vs
unfolding first_refusal
passed [] h = tt
passed (v ∷ vs) h = (else_first v (first_refusal vs) h, passed vs (else_second v (first_refusal vs) h))

pub all_pass : (vs : List (Result Unit Failure)) → Each (λ v. v ≡ Ok tt) vs → first_refusal vs ≡ Ok tt
unfolding first_refusal
all_pass [] h = refl
all_pass (v ∷ vs) h = rw (h.0, all_pass vs h.1)

-- a refusal that stands first is the whole list's
pub first_refuses : (v : Result Unit Failure) (vs : List (Result Unit Failure)) (a : Failure) → v ≡ Err a → first_refusal (v ∷ vs) ≡ Err a
unfolding first_refusal
first_refuses v vs a h = rw h

-- whatever the verdict refuses with has the property
abbrev pub Says : (Result ℕ Failure → Bool) → Result Unit Failure → Type 0
Says P v = (a : Failure) → v ≡ Err a → P (Err a) ≡ true

module _ (P : Result ℕ Failure → Bool) where
  says_must : (b : Bool) (a : Failure) → P (Err a) ≡ true → Says P (must b a)
  says_must true a h x e = impossible (cc)
  says_must false a h x e = let k : x ≡ a = cc in rw k h

  says_else : (v w : Result Unit Failure) → Says P v → Says P w → Says P (or_else v w)
  says_else (Ok _) w f g = g
  says_else (Err a) w f g = f

  says_first : (vs : List (Result Unit Failure)) → Each (Says P) vs → Says P (first_refusal vs)
  unfolding first_refusal
  says_first [] h = λ x e. impossible (cc)
  says_first (v ∷ vs) h = says_else v (first_refusal vs) h.0 (says_first vs h.1)

  says_failing :
      {A : Type 0} (test : A → Bool) (answer : ℕ → A → Failure) (i : ℕ) (xs : List A) → ((k : ℕ) (x : A) → P (Err (answer k x)) ≡ true) →
      Says P (first_failing test answer i xs)
  unfolding first_failing
  says_failing test answer i [] h = λ x e. impossible (cc)
  says_failing test answer i (x ∷ xs) h =
      says_else (must (test x) (answer i x)) (first_failing test answer (i + 1) xs) (says_must (test x) (answer i x) (h i x))
      (says_failing test answer (i + 1) xs h)

  record_from_says :
      (place : ℕ) (cs : List Change) (earlier ns : List ℕ) → ((i : ℕ) → P (Err (Failure.Record i)) ≡ true) →
      Says P (record_from place cs earlier ns)
  unfolding record_from
  record_from_says place cs earlier [] h = λ x e. impossible (cc)
  record_from_says place cs earlier (n ∷ ns) h =
      says_else (must (recordable cs n && not (among n earlier)) (Failure.Record place)) (record_from (place + 1) cs (n ∷ earlier) ns)
      (says_must (recordable cs n && not (among n earlier)) (Failure.Record place) (h place))
      (record_from_says (place + 1) cs (n ∷ earlier) ns h)

  equal_says : (d : Numbered) (es : List Numbered) → ((i j : ℕ) → P (Err (Failure.Twice i j)) ≡ true) → Says P (first_equal d es)
  unfolding first_equal
  equal_says d es h = says_failing _ _ 0 es λ k x. h _ _

  twice_from_says : (earlier ds : List Numbered) → ((i j : ℕ) → P (Err (Failure.Twice i j)) ≡ true) → Says P (twice_from earlier ds)
  unfolding twice_from
  twice_from_says earlier [] h = λ x e. impossible (cc)
  twice_from_says earlier (d ∷ ds) h =
      says_else (first_equal d earlier) (twice_from (earlier ++ d ∷ []) ds) (equal_says d earlier h) (twice_from_says (earlier ++ d ∷ []) ds h)

  -- each group says what its checks say
  pub opening_says :
      (head : Head) (table : List ℕ) → P (Err Failure.Table) ≡ true → P (Err Failure.Poisoned) ≡ true → Says P (opening_checks head table)
  unfolding opening_checks table_check poison_check
  opening_says head table h1 h2 =
      says_first _ (says_must (well_formed head table) _ h1, (says_must (eqb head.poisoned 0) _ h2, tt))

  pub lent_says :
      (cs : List ℕ) (paired : Bool) (strip : List ℕ) → P (Err Failure.List) ≡ true → P (Err Failure.Strip) ≡ true → Says P (lent_checks cs paired strip)
  unfolding lent_checks list_check strip_check
  lent_says cs paired strip h3 h4 =
      says_first _ (says_must (proper_lists cs paired) _ h3, (says_must (proper_strip strip) _ h4, tt))

  room_says : (cs : List Change) (list : List ℕ) → P (Err Failure.Room) ≡ true → Says P (room_check cs list)
  unfolding room_check
  room_says cs list h5 = says_must (leb (length cs) (length list)) _ h5

  guard_says :
      (bindings : ℕ) (gs : List Guard) (cs : List Change) → ((i : ℕ) → P (Err (Failure.Guard i)) ≡ true) → Says P (guard_check bindings gs cs)
  unfolding guard_check
  guard_says bindings gs cs h6 = says_failing _ _ 0 cs λ k x. h6 k

  arriving_says :
      (ps : List Posting) (cs : List Change) → ((i j : ℕ) → P (Err (Failure.Twice i j)) ≡ true) → ((i : ℕ) → P (Err (Failure.Present i)) ≡ true) →
      Says P (arriving_checks ps cs)
  unfolding arriving_checks twice_check present_check
  arriving_says ps cs h7 h8 =
      says_first _ (twice_from_says [] (destinations cs) h7, (says_failing _ _ 0 (destinations cs) (λ k x. h8 _), tt))

  leaving_says : (cs : List Change) → ((i : ℕ) → P (Err (Failure.Overlap i)) ≡ true) → Says P (leaving_checks cs)
  unfolding leaving_checks overlap_check
  leaving_says cs h9 = says_first _ (says_failing _ _ 0 (sources cs) (λ k x. h9 _), tt)

  record_says : (cs : List Change) (list : List ℕ) → ((i : ℕ) → P (Err (Failure.Record i)) ≡ true) → Says P (record_check cs list)
  unfolding record_check
  record_says cs list h14 = record_from_says 0 cs [] list h14

  order_says :
      (head : Head) (table cs : List ℕ) (paired : Bool) (strip list : List ℕ) → P (Err Failure.Table) ≡ true → P (Err Failure.Poisoned) ≡ true →
      P (Err Failure.List) ≡ true → P (Err Failure.Strip) ≡ true → P (Err Failure.Room) ≡ true → Says P (order_checks head table cs paired strip list)
  unfolding order_checks
  order_says head table cs paired strip list h1 h2 h3 h4 h5 =
      says_first _ (opening_says head table h1 h2, (lent_says cs paired strip h3 h4, (room_says (changes cs) list h5, tt)))

  -- and so does each call
  module _ (head : Head) (table : List ℕ) (c : Call) (h1 : P (Err Failure.Table) ≡ true) (h2 : P (Err Failure.Poisoned) ≡ true) (h3 : P (Err Failure.List) ≡ true) (h4 : P (Err Failure.Strip) ≡ true) where
    pub prepare_says :
        P (Err Failure.Room) ≡ true → ((i : ℕ) → P (Err (Failure.Guard i)) ≡ true) → ((i j : ℕ) → P (Err (Failure.Twice i j)) ≡ true) →
        ((i : ℕ) → P (Err (Failure.Present i)) ≡ true) → Says P (prepare_checks head table c)
    unfolding prepare_checks
    prepare_says h5 h6 h7 h8 =
        says_first _ (opening_says head table h1 h2, (lent_says _ _ _ h3 h4, (room_says _ _ h5, (guard_says _ _ _ h6, (arriving_says _ _ h7 h8, tt)))))

    pub rollback_says :
        ((i : ℕ) → P (Err (Failure.Guard i)) ≡ true) → ((i : ℕ) → P (Err (Failure.Record i)) ≡ true) → Says P (rollback_checks head table c)
    unfolding rollback_checks
    rollback_says h6 h14 =
        says_first _ (opening_says head table h1 h2, (lent_says _ _ _ h3 h4, (guard_says _ _ _ h6, (record_says _ _ h14, tt))))

    pub removal_says : ((i : ℕ) → P (Err (Failure.Guard i)) ≡ true) → Says P (removal_checks head table c)
    unfolding removal_checks
    removal_says h6 = says_first _ (opening_says head table h1 h2, (lent_says _ _ _ h3 h4, (guard_says _ _ _ h6, tt)))

    pub publish_says :
        P (Err Failure.Room) ≡ true → ((i : ℕ) → P (Err (Failure.Guard i)) ≡ true) → ((i j : ℕ) → P (Err (Failure.Twice i j)) ≡ true) →
        ((i : ℕ) → P (Err (Failure.Present i)) ≡ true) → ((i : ℕ) → P (Err (Failure.Overlap i)) ≡ true) → Says P (publish_checks head table c)
    unfolding publish_checks publish_beside
    publish_says h5 h6 h7 h8 h9 =
        says_first _ (order_says head table _ _ _ _ h1 h2 h3 h4 h5, (guard_says _ _ _ h6, (arriving_says _ _ h7 h8, (leaving_says _ h9, tt))))

  pub count_says :
      (head : Head) (table : List ℕ) (binding : ℕ) → P (Err Failure.Table) ≡ true → P (Err Failure.Poisoned) ≡ true → P (Err (Failure.Guard 0)) ≡ true →
      Says P (count_checks head table binding)
  unfolding count_checks
  count_says head table binding h1 h2 h6 =
      says_first _ (opening_says head table h1 h2, (says_must (ltb binding head.bindings) _ h6, tt))

-- the checks refuse with nothing but 1 to 9 and 14
module _ (head : Head) (table : List ℕ) (c : Call) where
  pub prepare_proper : Says is_refusal (prepare_checks head table c)
  prepare_proper = prepare_says is_refusal head table c refl refl refl refl refl (λ i. refl) (λ i j. refl) (λ i. refl)

  pub rollback_proper : Says is_refusal (rollback_checks head table c)
  rollback_proper = rollback_says is_refusal head table c refl refl refl refl (λ i. refl) (λ i. refl)

  pub removal_proper : Says is_refusal (removal_checks head table c)
  removal_proper = removal_says is_refusal head table c refl refl refl refl (λ i. refl)

  pub publish_proper : Says is_refusal (publish_checks head table c)
  publish_proper = publish_says is_refusal head table c refl refl refl refl refl (λ i. refl) (λ i j. refl) (λ i. refl) (λ i. refl)

-- where no element fails, the first passes and so do the rest
pub failing_first :
    {A : Type 0} (test : A → Bool) (answer : ℕ → A → Failure) (i : ℕ) (x : A) (xs : List A) →
    first_failing test answer i (x ∷ xs) ≡ Ok tt → test x ≡ true
unfolding first_failing
failing_first test answer i x xs h =
    must_holds (test x) (answer i x) (else_first (must (test x) (answer i x)) (first_failing test answer (i + 1) xs) h)

pub failing_rest :
    {A : Type 0} (test : A → Bool) (answer : ℕ → A → Failure) (i : ℕ) (x : A) (xs : List A) →
    first_failing test answer i (x ∷ xs) ≡ Ok tt → first_failing test answer (i + 1) xs ≡ Ok tt
unfolding first_failing
failing_rest test answer i x xs h = else_second (must (test x) (answer i x)) (first_failing test answer (i + 1) xs) h

-- a guarded change names destinations within the binding count
guarded_below :
    (n : ℕ) (gs : List Guard) (i : ℕ) (c : Change) (ds : List Numbered) → guarded n gs c ≡ true →
    every (binding_below n) (postings_of ds) ≡ true → every (binding_below n) (postings_of (named i c (destination_of c) ds)) ≡ true
unfolding guarded every binding_below
guarded_below n gs i c ds h k = go (destination_of c)
  where
    below : ltb c.binding n ≡ true
    below =
        and_elim_left (ltb c.binding n) (key_held c.binding c.before gs)
        (and_elim_left (ltb c.binding n && key_held c.binding c.before gs) (key_held c.binding c.after gs) h)

    go : (key : Option ℕ) → every (binding_below n) (postings_of (named i c key ds)) ≡ true
    go None = k
    go (Some key) = and_intro below k

destinations_below :
    (n : ℕ) (gs : List Guard) (answer : ℕ → Change → Failure) (i j : ℕ) (cs : List Change) →
    first_failing (guarded n gs) answer j cs ≡ Ok tt → every (binding_below n) (postings_of (destinations_from i cs)) ≡ true
unfolding destinations_from every
destinations_below n gs answer i j [] h = refl
destinations_below n gs answer i j (c ∷ cs) h =
    guarded_below n gs i c (destinations_from (i + 1) cs) (failing_first (guarded n gs) answer j c cs h)
    (destinations_below n gs answer (i + 1) (j + 1) cs (failing_rest (guarded n gs) answer j c cs h))

-- destinations that are neither in the table nor twice in the list are new, each when its turn comes
not_among :
    (d : Numbered) (answer : ℕ → Numbered → Failure) (i : ℕ) (es : List Numbered) →
    first_failing (λ (e : Numbered). not (same e.posting d.posting)) answer i es ≡ Ok tt →
    present d.posting (postings_of es) ≡ false
unfolding present
not_among d answer i [] h = refl
not_among d answer i (e ∷ es) h =
    neither (same d.posting e.posting) (present d.posting (postings_of es))
    (same_turned d.posting e.posting ∙ not-true (same e.posting d.posting) (failing_first _ answer i e es h))
    (not_among d answer (i + 1) es (failing_rest _ answer i e es h))

not_earlier : (d : Numbered) (es : List Numbered) → first_equal d es ≡ Ok tt → present d.posting (postings_of es) ≡ false
unfolding first_equal
not_earlier d es h = not_among d _ 0 es h

present_last :
    (p : Posting) (es : List Numbered) (d : Numbered) →
    present p (postings_of (es ++ d ∷ [])) ≡ (same p d.posting || present p (postings_of es))
unfolding present
present_last p [] d = refl
present_last p (e ∷ es) d = rw (present_last p es d) (or_swap (same p e.posting) (same p d.posting) (present p (postings_of es)))

fresh_from :
    (ps l : List Posting) (earlier ds : List Numbered) (answer : ℕ → Numbered → Failure) (i : ℕ) →
    ((p : Posting) → present p l ≡ (present p (postings_of earlier) || present p ps)) → twice_from earlier ds ≡ Ok tt →
    first_failing (λ (d : Numbered). not (present d.posting ps)) answer i ds ≡ Ok tt → Fresh ds l
unfolding twice_from
fresh_from ps l earlier [] answer i f h k = tt
fresh_from ps l earlier (d ∷ ds) answer i f h k = (
  rw (f d.posting, not_earlier d earlier (else_first (first_equal d earlier) (twice_from (earlier ++ d ∷ []) ds) h))
      (not-true (present d.posting ps) (failing_first _ answer i d ds k)),
  fresh_from ps (inserted d.posting l) (earlier ++ d ∷ []) ds answer (i + 1) next
      (else_second (first_equal d earlier) (twice_from (earlier ++ d ∷ []) ds) h)
      (failing_rest _ answer i d ds k),
)
  where
    next : (p : Posting) → present p (inserted d.posting l) ≡ (present p (postings_of (earlier ++ d ∷ [])) || present p ps)
    next p =
        rw (present_inserted p d.posting l, f p, present_last p earlier d)
        (sym (or_assoc (same p d.posting) (present p (postings_of earlier)) (present p ps)))

-- what the groups say where they pass
module _ (head : Head) (table : List ℕ) where
  pub opened : opening_checks head table ≡ Ok tt → (well_formed head table ≡ true) × (head.poisoned ≡ 0)
  unfolding opening_checks table_check poison_check
  opened h =
      let p = passed _ h in (
        must_holds (well_formed head table) Failure.Table p.0,
        eqb-true head.poisoned 0 (must_holds (eqb head.poisoned 0) Failure.Poisoned p.1.0),
      )

  pub open_passes : well_formed head table ≡ true → head.poisoned ≡ 0 → opening_checks head table ≡ Ok tt
  unfolding opening_checks table_check poison_check first_refusal
  open_passes f k = rw (f, eq-eqb head.poisoned 0 k)

  -- a table that is not well formed is refused with 1, whatever its flag is
  pub open_unformed : well_formed head table ≡ false → opening_checks head table ≡ Err Failure.Table
  unfolding opening_checks table_check first_refusal
  open_unformed f = rw f

  -- a poisoned table is refused with 2
  pub open_poisoned : well_formed head table ≡ true → head.poisoned ≡ 1 → opening_checks head table ≡ Err Failure.Poisoned
  unfolding opening_checks table_check poison_check first_refusal
  open_poisoned f k =
      let n : eqb head.poisoned 0 ≡ false = ne_eqb head.poisoned 0 (λ e. omega arith) in
      rw (f, n)

-- every call begins with 1 and 2: what these refuse, it refuses
module _ (head : Head) (table : List ℕ) (a : Failure) (h : opening_checks head table ≡ Err a) where
  pub prepare_opens : (c : Call) → prepare_checks head table c ≡ Err a
  unfolding prepare_checks
  prepare_opens c = first_refuses _ _ a h

  pub rollback_opens : (c : Call) → rollback_checks head table c ≡ Err a
  unfolding rollback_checks
  rollback_opens c = first_refuses _ _ a h

  pub removal_opens : (c : Call) → removal_checks head table c ≡ Err a
  unfolding removal_checks
  removal_opens c = first_refuses _ _ a h

  pub publish_opens : (c : Call) → publish_checks head table c ≡ Err a
  unfolding publish_checks publish_beside order_checks
  publish_opens c = first_refuses _ _ a (first_refuses _ _ a h)

  pub count_opens : (binding : ℕ) → count_checks head table binding ≡ Err a
  unfolding count_checks
  count_opens binding = first_refuses _ _ a h

module _ (cs : List ℕ) (paired : Bool) (strip : List ℕ) where
  pub lent_proper : lent_checks cs paired strip ≡ Ok tt → (proper_lists cs paired ≡ true) × (proper_strip strip ≡ true)
  unfolding lent_checks list_check strip_check
  lent_proper h =
      let p = passed _ h in
      (must_holds (proper_lists cs paired) Failure.List p.0, must_holds (proper_strip strip) Failure.Strip p.1.0)

  pub lent_passes : proper_lists cs paired ≡ true → proper_strip strip ≡ true → lent_checks cs paired strip ≡ Ok tt
  unfolding lent_checks list_check strip_check first_refusal
  lent_passes l k = rw (l, k)

-- lists that 3 takes are within the limit
pub proper_few : (cs : List ℕ) (paired : Bool) → proper_lists cs paired ≡ true → length (changes cs) ≤ most_changes
unfolding proper_lists
proper_few cs paired h =
    let p : Bool = proper_changes cs in
    let m : Bool = leb (length (changes cs)) most_changes in
    leb-true (length (changes cs)) most_changes (and_elim_right p m (and_elim_left (p && m) paired h))

module _ (cs : List Change) (list : List ℕ) where
  pub room_places : room_check cs list ≡ Ok tt → length cs ≤ length list
  unfolding room_check
  room_places h = leb-true (length cs) (length list) (must_holds (leb (length cs) (length list)) Failure.Room h)

  pub room_passes : length cs ≤ length list → room_check cs list ≡ Ok tt
  unfolding room_check
  room_passes h = rw (le-leb (length cs) (length list) h)

pub arriving_parts :
    (ps : List Posting) (cs : List Change) → arriving_checks ps cs ≡ Ok tt →
    (twice_check cs ≡ Ok tt) × (present_check ps cs ≡ Ok tt)
unfolding arriving_checks
arriving_parts ps cs h = let p = passed _ h in (p.0, p.1.0)

-- the groups of an order that passed
pub record Ordered (head : Head) (table cs : List ℕ) (paired : Bool) (strip list : List ℕ) : Type 0 where
  pub opening : opening_checks head table ≡ Ok tt
  pub lent : lent_checks cs paired strip ≡ Ok tt
  pub room : room_check (changes cs) list ≡ Ok tt

-- 1 to 5 pass with another strip that is proper and another record list that has room
module _ (head : Head) (table cs : List ℕ) (paired : Bool) (strip list : List ℕ) (h : order_checks head table cs paired strip list ≡ Ok tt) where
  pub order_passed : Ordered head table cs paired strip list
  unfolding order_checks
  order_passed = let p = passed _ h in record { opening = p.0; lent = p.1.0; room = p.1.1.0 }

  pub order_relent :
      (strip' list' : List ℕ) → proper_strip strip' ≡ true → length (changes cs) ≤ length list' →
      order_checks head table cs paired strip' list' ≡ Ok tt
  unfolding order_checks
  order_relent strip' list' s r =
      let o = order_passed in
      all_pass _ (o.opening, (lent_passes cs paired strip' (lent_proper cs paired strip o.lent).0 s, (room_passes (changes cs) list' r, tt)))

-- the groups of a call that passed, as far as prepare and publish have both
pub record Passed (head : Head) (table : List ℕ) (c : Call) : Type 0 where
  pub opening : opening_checks head table ≡ Ok tt
  pub lent : lent_of c ≡ Ok tt
  pub room : room_check (changes_of c) c.record_list ≡ Ok tt
  pub guarding : guarding_of head c ≡ Ok tt
  pub arriving : arriving_checks (postings head.used table) (changes_of c) ≡ Ok tt

module _ (head : Head) (table : List ℕ) (c : Call) where
  pub prepare_passed : prepare_checks head table c ≡ Ok tt → Passed head table c
  unfolding prepare_checks
  prepare_passed h =
      let p = passed _ h in
      record { opening = p.0; lent = p.1.0; room = p.1.1.0; guarding = p.1.1.1.0; arriving = p.1.1.1.1.0 }

  pub publish_passed : publish_checks head table c ≡ Ok tt → Passed head table c
  unfolding publish_checks publish_beside
  publish_passed h =
      let p = passed _ h in
      let o = order_passed _ _ _ _ _ _ p.0 in
      record { opening = o.opening; lent = o.lent; room = o.room; guarding = p.1.0; arriving = p.1.1.0 }

  -- a publish has the checks of its sources too
  pub publish_leaving : publish_checks head table c ≡ Ok tt → leaving_checks (changes_of c) ≡ Ok tt
  unfolding publish_checks publish_beside
  publish_leaving h = (passed _ h).1.1.1.0

  -- the same changes and guards pass with another strip that is proper and another record list that has room
  pub publish_relent :
      (strip list : List ℕ) → proper_strip strip ≡ true → length (changes_of c) ≤ length list →
      publish_checks head table c ≡ Ok tt →
      publish_checks head table (lending c.change_list c.guard_list strip list) ≡ Ok tt
  unfolding publish_checks publish_beside
  publish_relent strip list s r h =
      let p = passed _ h in
      all_pass _ (order_relent _ _ _ _ _ _ p.0 strip list s r, p.1)

  -- rollback and removal
  pub rollback_passed :
      rollback_checks head table c ≡ Ok tt →
      (opening_checks head table ≡ Ok tt) × (lent_of c ≡ Ok tt) × (guarding_of head c ≡ Ok tt) × (record_check (changes_of c) c.record_list ≡ Ok tt)
  unfolding rollback_checks
  rollback_passed h = let p = passed _ h in (p.0, p.1.0, p.1.1.0, p.1.1.1.0)

  pub rollback_passes :
      opening_checks head table ≡ Ok tt → lent_of c ≡ Ok tt → guarding_of head c ≡ Ok tt →
      record_check (changes_of c) c.record_list ≡ Ok tt → rollback_checks head table c ≡ Ok tt
  unfolding rollback_checks
  rollback_passes h l g r = all_pass _ (h, (l, (g, (r, tt))))

  pub removal_passed :
      removal_checks head table c ≡ Ok tt →
      (opening_checks head table ≡ Ok tt) × (lent_of c ≡ Ok tt) × (guarding_of head c ≡ Ok tt)
  unfolding removal_checks
  removal_passed h = let p = passed _ h in (p.0, p.1.0, p.1.1.0)

-- what the checks of prepare say together
pub record Clear (head : Head) (table : List ℕ) (c : Call) : Type 0 where
  pub formed : well_formed head table ≡ true
  pub healthy : head.poisoned ≡ 0
  pub places : length (changes_of c) ≤ length c.record_list
  pub bound : every (binding_below head.bindings) (postings_of (destinations (changes_of c))) ≡ true
  pub fresh : Fresh (destinations (changes_of c)) (postings head.used table)

module _ (head : Head) (table : List ℕ) (c : Call) where
  cleared : Passed head table c → Clear head table c
  unfolding guard_check twice_check present_check present
  cleared p =
      let f = opened head table p.opening in
      let a = arriving_parts _ _ p.arriving in
      record {
        formed = f.0;
        healthy = f.1;
        places = room_places (changes_of c) c.record_list p.room;
        bound = destinations_below head.bindings _ _ 0 0 (changes_of c) p.guarding;
        fresh =
            fresh_from (postings head.used table) (postings head.used table) [] (destinations (changes_of c)) _ 0 (λ p. refl)
            a.0
            a.1;
      }

  pub prepare_clear : prepare_checks head table c ≡ Ok tt → Clear head table c
  prepare_clear h = cleared (prepare_passed head table c h)

  pub publish_clear : publish_checks head table c ≡ Ok tt → Clear head table c
  publish_clear h = cleared (publish_passed head table c h)

  pub rollback_formed : rollback_checks head table c ≡ Ok tt → (well_formed head table ≡ true) × (head.poisoned ≡ 0)
  rollback_formed h = opened head table (rollback_passed head table c h).0

  pub removal_formed : removal_checks head table c ≡ Ok tt → (well_formed head table ≡ true) × (head.poisoned ≡ 0)
  removal_formed h = opened head table (removal_passed head table c h).0

pub count_formed : (head : Head) (table : List ℕ) (binding : ℕ) → count_checks head table binding ≡ Ok tt → well_formed head table ≡ true
unfolding count_checks
count_formed head table binding h = (opened head table (passed _ h).0).0
