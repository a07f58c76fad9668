-- Lists stay ascending, and an ascending list is told by what stands in it.
use mathlib.Core.Path.{◌≡◌, refl, sym, ap, ◌∙◌}
use mathlib.Core.List.{List, [], ◌∷◌}
use mathlib.Core.Bool.{Bool, true, false, ◌||◌}
use mathlib.Mathlib.Data.Bool.Basic.{and_elim_left, and_elim_right, and_intro}
use Rattle.rules.specs.declared.Posting.{Posting}
use Rattle.std.specs.declared.cmp.Ordering.{Ordering}
use Rattle.rules.specs.Postings.{every, compared, is_before, is_same, same, chain, ascending, present, placed, inserted, removed}
use Rattle.booleans.proofs.Tests.{clash, by_cases, neither}
use Rattle.laws.proofs.Ranks.{compared_same, is_before_lem, after_before, before_before, same_equal, same_self}

pub chain_before : (p q : Posting) (qs : List Posting) → chain p (q ∷ qs) ≡ true → compared p q ≡ Ordering.Less
unfolding chain
chain_before p q qs h = is_before_lem (compared p q) (and_elim_left (is_before (compared p q)) (chain q qs) h)

pub chain_rest : (p q : Posting) (qs : List Posting) → chain p (q ∷ qs) ≡ true → chain q qs ≡ true
unfolding chain
chain_rest p q qs h = and_elim_right (is_before (compared p q)) (chain q qs) h

pub chain_cons : (p q : Posting) (qs : List Posting) → compared p q ≡ Ordering.Less → chain q qs ≡ true → chain p (q ∷ qs) ≡ true
unfolding chain
chain_cons p q qs e h = and_intro (ap is_before e) h

pub chain_skip : (p q : Posting) (l : List Posting) → compared p q ≡ Ordering.Less → chain q l ≡ true → chain p l ≡ true
unfolding chain
chain_skip p q [] e h = refl
chain_skip p q (x ∷ xs) e h =
    chain_cons p x xs (before_before p q x e (chain_before q x xs h)) (chain_rest q x xs h)

pub ascending_rest : (p : Posting) (l : List Posting) → chain p l ≡ true → ascending l ≡ true
unfolding chain ascending
ascending_rest p [] h = refl
ascending_rest p (x ∷ xs) h = chain_rest p x xs h

chain_inserted :
    (q p : Posting) (l : List Posting) → compared q p ≡ Ordering.Less → chain q l ≡ true → chain q (inserted p l) ≡ true
unfolding inserted chain
chain_inserted q p [] e h = chain_cons q p [] e h
chain_inserted q p (x ∷ xs) e h = go (compared p x) refl (λ k. chain_inserted x p xs k (chain_rest q x xs h))
  where
    go :
        (o : Ordering) → compared p x ≡ o → (compared x p ≡ Ordering.Less → chain x (inserted p xs) ≡ true) →
        chain q (placed o p x xs (inserted p xs)) ≡ true
    go Ordering.Less k ih = chain_cons q p (x ∷ xs) e (chain_cons p x xs k (chain_rest q x xs h))
    go Ordering.Equal k ih = h
    go Ordering.Greater k ih = chain_cons q x (inserted p xs) (chain_before q x xs h) (ih (after_before p x k))

pub ascending_inserted : (p : Posting) (l : List Posting) → ascending l ≡ true → ascending (inserted p l) ≡ true
unfolding ascending inserted chain
ascending_inserted p [] h = refl
ascending_inserted p (x ∷ xs) h = go (compared p x) refl
  where
    go : (o : Ordering) → compared p x ≡ o → ascending (placed o p x xs (inserted p xs)) ≡ true
    go Ordering.Less k = chain_cons p x xs k h
    go Ordering.Equal k = h
    go Ordering.Greater k = chain_inserted x p xs (after_before p x k) h

chain_removed : (q p : Posting) (l : List Posting) → chain q l ≡ true → chain q (removed p l) ≡ true
unfolding removed
chain_removed q p [] h = h
chain_removed q p (x ∷ xs) h =
    by_cases (λ (k : List Posting). chain q k ≡ true) (same p x)
    (λ e. chain_removed q p xs (chain_skip q x xs (chain_before q x xs h) (chain_rest q x xs h)))
    (λ e. chain_cons q x (removed p xs) (chain_before q x xs h) (chain_removed x p xs (chain_rest q x xs h)))

pub ascending_removed : (p : Posting) (l : List Posting) → ascending l ≡ true → ascending (removed p l) ≡ true
unfolding ascending removed
ascending_removed p [] h = refl
ascending_removed p (x ∷ xs) h =
    by_cases (λ (k : List Posting). ascending k ≡ true) (same p x)
    (λ e. ascending_removed p xs (ascending_rest x xs h))
    (λ e. chain_removed x p xs h)

pub every_inserted :
    (f : Posting → Bool) (p : Posting) (l : List Posting) → f p ≡ true → every f l ≡ true → every f (inserted p l) ≡ true
unfolding every inserted
every_inserted f p [] e h = and_intro e refl
every_inserted f p (x ∷ xs) e h = go (compared p x) (every_inserted f p xs e (and_elim_right (f x) (every f xs) h))
  where
    go : (o : Ordering) → every f (inserted p xs) ≡ true → every f (placed o p x xs (inserted p xs)) ≡ true
    go Ordering.Less ih = and_intro e h
    go Ordering.Equal ih = h
    go Ordering.Greater ih = and_intro (and_elim_left (f x) (every f xs) h) ih

pub every_removed : (f : Posting → Bool) (p : Posting) (l : List Posting) → every f l ≡ true → every f (removed p l) ≡ true
unfolding every removed
every_removed f p [] h = refl
every_removed f p (x ∷ xs) h =
    by_cases (λ (k : List Posting). every f k ≡ true) (same p x)
    (λ e. every_removed f p xs (and_elim_right (f x) (every f xs) h))
    (λ e. and_intro (and_elim_left (f x) (every f xs) h) (every_removed f p xs (and_elim_right (f x) (every f xs) h)))

-- what is before an ascending list does not stand in it
pub absent_before : (p : Posting) (l : List Posting) → chain p l ≡ true → present p l ≡ false
unfolding present same
absent_before p [] h = refl
absent_before p (x ∷ xs) h =
    let e : compared p x ≡ Ordering.Less = chain_before p x xs h in
    neither (same p x) (present p xs) (ap is_same e) (absent_before p xs (chain_skip p x xs e (chain_rest p x xs h)))

here : (p : Posting) (l : List Posting) → present p (p ∷ l) ≡ true
unfolding present
here p l = rw (same_self p)

rest_same :
    (x : Posting) (xs ys : List Posting) → ((p : Posting) → present p (x ∷ xs) ≡ present p (x ∷ ys)) → chain x xs ≡ true →
    chain x ys ≡ true → (p : Posting) → present p xs ≡ present p ys
unfolding present
rest_same x xs ys f h k p = go (same p x) refl (f p)
  where
    go : (b : Bool) → same p x ≡ b → (b || present p xs) ≡ (b || present p ys) → present p xs ≡ present p ys
    go true e g = rw (same_equal p x e) (absent_before x xs h ∙ sym (absent_before x ys k))
    go false e g = g

-- two ascending lists in which the same postings stand are one list
pub ascending_same :
    (a b : List Posting) → ((p : Posting) → present p a ≡ present p b) → ascending a ≡ true → ascending b ≡ true → a ≡ b
unfolding present ascending
ascending_same [] [] f h k = refl
ascending_same [] (y ∷ ys) f h k = absurd (clash (present y (y ∷ ys)) (here y ys) (sym (f y)))
ascending_same (x ∷ xs) [] f h k = absurd (clash (present x (x ∷ xs)) (here x xs) (f x))
ascending_same (x ∷ xs) (y ∷ ys) f h k = go (compared x y) refl (ascending_same xs ys)
  where
    go :
        (o : Ordering) → compared x y ≡ o →
        (((p : Posting) → present p xs ≡ present p ys) → ascending xs ≡ true → ascending ys ≡ true → xs ≡ ys) → x ∷ xs ≡ y ∷ ys
    go Ordering.Less e ih =
        absurd (clash (present x (y ∷ ys)) (sym (f x) ∙ here x xs) (absent_before x (y ∷ ys) (chain_cons x y ys e k)))
    go Ordering.Equal e ih =
        let z : x ≡ y = compared_same x y e in
        let g : (p : Posting) → present p (x ∷ xs) ≡ present p (x ∷ ys) = rw (← z) at f in
        let k' : chain x ys ≡ true = rw (← z) at k in
        let t : xs ≡ ys = ih (rest_same x xs ys g h k') (ascending_rest x xs h) (ascending_rest x ys k') in
        rw (z, t)
    go Ordering.Greater e ih =
        absurd
        (clash (present y (x ∷ xs)) (f y ∙ here y ys)
        (absent_before y (x ∷ xs) (chain_cons y x xs (after_before x y e) h)))
