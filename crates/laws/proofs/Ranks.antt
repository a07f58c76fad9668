-- The order of postings is strict and total: one law for two numbers, put one into the other for binding, key and row.
use Prim.Native.Nat.{ℕ, ◌<◌}
use native.Mathlib.Omega.{arith}
use mathlib.Core.Path.{◌≡◌, refl, sym, ap, ◌∙◌}
use mathlib.Core.Bool.{true, false, ◌&&◌}
use mathlib.Mathlib.Data.Bool.Basic.{and_elim_left, and_elim_right, and_intro}
use lib.Dec.{ltb, eqb}
use borrow.Author.Tests.{lt-ltb, le-ltb, eqb-true, eq-eqb, ne_eqb}
use Rattle.std.specs.Ordering.{nat_cmp, ordering_then}
use Rattle.rules.specs.declared.Posting.{Posting}
use Rattle.std.specs.declared.cmp.Ordering.{Ordering}
use Rattle.rules.specs.Postings.{ranked, compared, is_before, is_same, same}
use Rattle.booleans.proofs.Tests.{impossible, Tri, less, equal, more, tri, equal_tests}

pub ranked_less : (a b : ℕ) (next : Ordering) → a < b → ranked a b next ≡ Ordering.Less
unfolding ranked
ranked_less a b next h = rw (lt-ltb a b h)

pub ranked_equal : (a b : ℕ) (next : Ordering) → a ≡ b → ranked a b next ≡ next
unfolding ranked
ranked_equal a b next h =
    let p : ltb a b ≡ false = le-ltb a b (omega arith) in
    let q : ltb b a ≡ false = le-ltb b a (omega arith) in
    rw (p, q)

pub ranked_more : (a b : ℕ) (next : Ordering) → b < a → ranked a b next ≡ Ordering.Greater
unfolding ranked
ranked_more a b next h =
    let p : ltb a b ≡ false = le-ltb a b (omega arith) in
    rw (p, lt-ltb b a h)

-- the words of a derived order: the numbers compared, and then what comes next
pub ranked_then : (a b : ℕ) (next : Ordering) → ranked a b next ≡ ordering_then (nat_cmp a b) next
ranked_then a b next = go (tri a b)
  where
    go : Tri a b → ranked a b next ≡ ordering_then (nat_cmp a b) next
    go (less l) = rw (ranked_less a b next l, lt-ltb a b l)
    go (equal e) = rw (ranked_equal a b next e, le-ltb a b (omega arith), eq-eqb a b e)
    go (more m) = rw (ranked_more a b next m, le-ltb a b (omega arith), ne_eqb a b λ e. omega arith)

-- and where nothing comes next the numbers alone
ranked_last : (a b : ℕ) → ranked a b Ordering.Equal ≡ nat_cmp a b
ranked_last a b = go (tri a b)
  where
    go : Tri a b → ranked a b Ordering.Equal ≡ nat_cmp a b
    go (less l) = rw (ranked_less a b Ordering.Equal l, lt-ltb a b l)
    go (equal e) = rw (ranked_equal a b Ordering.Equal e, le-ltb a b (omega arith), eq-eqb a b e)
    go (more m) = rw (ranked_more a b Ordering.Equal m, le-ltb a b (omega arith), ne_eqb a b λ e. omega arith)

-- which of the three it is decides; the others are impossible
pub ranked_same : (a b : ℕ) (next : Ordering) → ranked a b next ≡ Ordering.Equal → (a ≡ b) × (next ≡ Ordering.Equal)
ranked_same a b next h = go (tri a b)
  where
    go : Tri a b → (a ≡ b) × (next ≡ Ordering.Equal)
    go (less l) = impossible (cc (ranked_less a b next l))
    go (equal e) = (e, sym (ranked_equal a b next e) ∙ h)
    go (more m) = impossible (cc (ranked_more a b next m))

pub turned : Ordering → Ordering
turned Ordering.Less = Ordering.Greater
turned Ordering.Equal = Ordering.Equal
turned Ordering.Greater = Ordering.Less

pub ranked_turned : (a b : ℕ) (next : Ordering) → ranked b a (turned next) ≡ turned (ranked a b next)
unfolding turned
ranked_turned a b next = go (tri a b)
  where
    go : Tri a b → ranked b a (turned next) ≡ turned (ranked a b next)
    go (less l) = rw (ranked_less a b next l, ranked_more b a (turned next) l)
    go (equal e) = rw (ranked_equal a b next e, ranked_equal b a (turned next) (sym e))
    go (more m) = rw (ranked_more a b next m, ranked_less b a (turned next) m)

pub ranked_before :
    (a b c : ℕ) (m n k : Ordering) → ranked a b m ≡ Ordering.Less → ranked b c n ≡ Ordering.Less →
    (m ≡ Ordering.Less → n ≡ Ordering.Less → k ≡ Ordering.Less) → ranked a c k ≡ Ordering.Less
ranked_before a b c m n k h j f = go (tri a b) (tri b c)
  where
    go : Tri a b → Tri b c → ranked a c k ≡ Ordering.Less
    go (less p) (less q) = ranked_less a c k (omega arith)
    go (less p) (equal q) = ranked_less a c k (omega arith)
    go (less p) (more q) = impossible (cc (ranked_more b c n q))
    go (equal p) (less q) = ranked_less a c k (omega arith)
    go (equal p) (equal q) =
        ranked_equal a c k (p ∙ q) ∙ f (sym (ranked_equal a b m p) ∙ h) (sym (ranked_equal b c n q) ∙ j)
    go (equal p) (more q) = impossible (cc (ranked_more b c n q))
    go (more p) t = impossible (cc (ranked_more a b m p))

pub compared_self : (p : Posting) → compared p p ≡ Ordering.Equal
unfolding compared
compared_self p =
    ranked_equal p.binding p.binding _ refl
    ∙ (ranked_equal p.key p.key _ refl ∙ ranked_equal p.row p.row Ordering.Equal refl)

pub compared_same : (p q : Posting) → compared p q ≡ Ordering.Equal → p ≡ q
unfolding compared
compared_same p q h =
    let b = ranked_same p.binding q.binding _ h in
    let k = ranked_same p.key q.key _ b.1 in
    let r = ranked_same p.row q.row _ k.1 in
    λ i. record { binding = b.0 i; key = k.0 i; row = r.0 i }

pub compared_turned : (p q : Posting) → compared q p ≡ turned (compared p q)
unfolding compared turned
compared_turned p q =
    ap (λ o. ranked q.binding p.binding (ranked q.key p.key o)) (ranked_turned p.row q.row Ordering.Equal)
    ∙ (ap (λ o. ranked q.binding p.binding o) (ranked_turned p.key q.key _) ∙ ranked_turned p.binding q.binding _)

pub after_before : (p q : Posting) → compared p q ≡ Ordering.Greater → compared q p ≡ Ordering.Less
unfolding turned
after_before p q h = compared_turned p q ∙ ap turned h

pub before_after : (p q : Posting) → compared p q ≡ Ordering.Less → compared q p ≡ Ordering.Greater
unfolding turned
before_after p q e = compared_turned p q ∙ ap turned e

pub before_before : (p q r : Posting) → compared p q ≡ Ordering.Less → compared q r ≡ Ordering.Less → compared p r ≡ Ordering.Less
unfolding compared
before_before p q r h k =
    ranked_before p.binding q.binding r.binding _ _ _ h k
    λ h' k'. ranked_before p.key q.key r.key _ _ _ h' k'
    λ h'' k''. ranked_before p.row q.row r.row _ _ _ h'' k'' λ x y. x

pub is_before_lem : (o : Ordering) → is_before o ≡ true → o ≡ Ordering.Less
is_before_lem Ordering.Less h = refl
is_before_lem Ordering.Equal h = impossible (cc)
is_before_lem Ordering.Greater h = impossible (cc)

is_same_lem : (o : Ordering) → is_same o ≡ true → o ≡ Ordering.Equal
is_same_lem Ordering.Less h = impossible (cc)
is_same_lem Ordering.Equal h = refl
is_same_lem Ordering.Greater h = impossible (cc)

pub same_equal : (p q : Posting) → same p q ≡ true → p ≡ q
unfolding same
same_equal p q h = compared_same p q (is_same_lem (compared p q) h)

pub same_self : (p : Posting) → same p p ≡ true
unfolding same
same_self p = ap is_same (compared_self p)

pub same_turned : (p q : Posting) → same p q ≡ same q p
same_turned p q =
    equal_tests (same p q) (same q p)
    (λ h. rw (same_equal p q h) (same_self q))
    (λ h. rw (same_equal q p h) (same_self p))

-- what a derived `cmp` answers, field after field
pub derived_order :
    (p q : Posting) →
    ordering_then (nat_cmp p.binding q.binding) (ordering_then (nat_cmp p.key q.key) (nat_cmp p.row q.row)) ≡ compared p q
unfolding compared
derived_order p q =
    sym
    (ranked_then p.binding q.binding _
    ∙ ap (ordering_then (nat_cmp p.binding q.binding))
    (ranked_then p.key q.key _ ∙ ap (ordering_then (nat_cmp p.key q.key)) (ranked_last p.row q.row)))

-- and a derived `==`: two postings are one exactly if their numbers are
pub derived_equality :
    (p q : Posting) → (eqb p.binding q.binding && (eqb p.key q.key && eqb p.row q.row)) ≡ same p q
derived_equality p q =
    equal_tests (eqb p.binding q.binding && (eqb p.key q.key && eqb p.row q.row)) (same p q) there back
  where
    there : (eqb p.binding q.binding && (eqb p.key q.key && eqb p.row q.row)) ≡ true → same p q ≡ true
    there h =
        let x = and_elim_right (eqb p.binding q.binding) (eqb p.key q.key && eqb p.row q.row) h in
        let b = eqb-true p.binding q.binding (and_elim_left (eqb p.binding q.binding) (eqb p.key q.key && eqb p.row q.row) h) in
        let k = eqb-true p.key q.key (and_elim_left (eqb p.key q.key) (eqb p.row q.row) x) in
        let r = eqb-true p.row q.row (and_elim_right (eqb p.key q.key) (eqb p.row q.row) x) in
        let e : p ≡ q = λ i. record { binding = b i; key = k i; row = r i } in
        rw e (same_self q)

    back : same p q ≡ true → (eqb p.binding q.binding && (eqb p.key q.key && eqb p.row q.row)) ≡ true
    back h =
        let e = same_equal p q h in
        and_intro (eq-eqb p.binding q.binding (ap (λ (x : Posting). x.binding) e))
        (and_intro (eq-eqb p.key q.key (ap (λ (x : Posting). x.key) e)) (eq-eqb p.row q.row (ap (λ (x : Posting). x.row) e)))
