-- A list of guards and its flat numbers; the walks over guards and over the keys that an order asks for, from a place on; and
-- that the first place whose key is not held belongs to the first such change.
use Rattle.std.proofs.Common.{Option, Some, None, Ok, ℕ}
use Prim.Native.Nat.{ℕ, zero, suc, ◌+◌, ◌*◌, ◌/◌, ◌%◌, ◌-◌, ◌<◌, ◌≤◌}
use native.Mathlib.Omega.{arith}
use native.Mathlib.Numerals.{add-one}
use mathlib.Core.Path.{◌≡◌, refl, sym, ap, ◌∙◌}
use mathlib.Core.List.{List, [], ◌∷◌}
use mathlib.Core.Bool.{Bool, true, false, cond, ◌&&◌}
use mathlib.Mathlib.Data.Bool.Basic.{and_elim_left, and_elim_right, and_intro}
use lib.Dec.{leb}
use lib.ListN.{length, drop, get_or, drop_of_length-le}
use lib.Seq.{drop-cons}
use borrow.Author.Tests.{eq-eqb, ne_eqb}
use Rattle.std.specs.List.{list_any}
use Rattle.rules.specs.declared.Change.{Change}
use Rattle.rules.specs.declared.Guard.{Guard}
use Rattle.rules.specs.declared.Head.{Head}
use Rattle.rules.specs.Limits.{most_changes, most_guards}
use Rattle.rules.specs.Orders.{changes, guards, proper_changes, proper_guards, proper_lists, held, no_change}
use Rattle.rules.specs.Checks.{key_held, guard_check, order_checks}
use Rattle.checks.specs.Guarding.{first_unheld, bindings_from}
use Rattle.checks.proofs.Guarding.{unheld_known}
use Rattle.laws.proofs.Checks.{opened, order_passed}
use Rattle.publish_core.proofs.Publishing.{order_proper}
use Rattle.guarding.specs.Asking.{flat, is_guard, wanted_of, wanted_at, wanted_held, unheld_from, unheld_place}

-- the flat numbers mean the guards
pub flat_guards : (gs : List Guard) → guards (flat gs) ≡ gs
unfolding flat guards
flat_guards [] = refl
flat_guards (g ∷ gs) = ap (λ (l : List Guard). g ∷ l) (flat_guards gs)

flat_even : (gs : List Guard) → length (flat gs) % 2 ≡ 0
unfolding flat
flat_even [] = refl
flat_even (g ∷ gs) = let ih = flat_even gs in omega arith

pub pairs_known : (gs : List Guard) → leb (length gs) most_guards ≡ proper_guards (flat gs)
unfolding proper_guards
pairs_known gs = rw (eq-eqb (length (flat gs) % 2) 0 (flat_even gs), flat_guards gs)

-- a pair is among the guards where it is any of them
pub held_by_any : (binding key : ℕ) (gs : List Guard) → list_any (is_guard binding key) gs ≡ held binding key gs
unfolding held
held_by_any binding key [] = refl
held_by_any binding key (g ∷ gs) = rw (held_by_any binding key gs)

-- the key that is not held is looked for from a place on, n places in all
module _ (gs : List Guard) (cs : List Change) (place n : ℕ) where
  left : place < n → n - place ≡ suc (n - (place + 1))
  left l = omega arith

  pub unheld_left :
      place < n →
      unheld_from gs cs place (n - place) ≡
      cond (wanted_held gs (wanted_at cs place)) (unheld_from gs cs (place + 1) (n - (place + 1))) place
  unfolding unheld_from
  unheld_left l = rw (left l, add-one place)

  pub unheld_nowhere : n ≤ place → unheld_from gs cs place (n - place) ≡ place
  unfolding unheld_from
  unheld_nowhere l = ap (unheld_from gs cs place) none
    where
      none : n - place ≡ 0
      none = omega arith

wanted_held_lem : (gs : List Guard) (binding : ℕ) (key : Option ℕ) → wanted_held gs (wanted_of binding key) ≡ key_held binding key gs
wanted_held_lem gs binding None = refl
wanted_held_lem gs binding (Some key) = refl

-- the two places of change i
module _ (gs : List Guard) (cs : List Change) (i : ℕ) where
  abbrev c : Change
  c = get_or cs i no_change

  before_place : wanted_held gs (wanted_at cs (i * 2)) ≡ key_held c.binding c.before gs
  before_place =
      let h : i * 2 / 2 ≡ i = omega arith in
      rw (h, eq-eqb (i * 2 % 2) 0 (omega arith)) (wanted_held_lem gs c.binding c.before)

  after_place : wanted_held gs (wanted_at cs (suc (i * 2))) ≡ key_held c.binding c.after gs
  after_place =
      let h : suc (i * 2) / 2 ≡ i = omega arith in
      let o : suc (i * 2) % 2 ≡ 0 → ⊥ = λ e. omega arith in
      rw (h, ne_eqb (suc (i * 2) % 2) 0 o) (wanted_held_lem gs c.binding c.after)

-- from change i on, with m changes left: half of the first such place is the first such change
unheld_change :
    (gs : List Guard) (cs : List Change) (m i : ℕ) → length cs ≡ i + m →
    unheld_from gs cs (i * 2) (m * 2) / 2 ≡ first_unheld gs i (drop i cs)
unfolding unheld_from first_unheld
unheld_change gs cs zero i e =
    let h : i * 2 / 2 ≡ i = omega arith in
    let l : length cs ≤ i = omega arith in
    h ∙ sym (ap (first_unheld gs i) (drop_of_length-le cs l))
unheld_change gs cs (suc m) i e =
    let two : suc m * 2 ≡ suc (suc (m * 2)) = omega arith in
    let l : i < length cs = omega arith in
    let ih = unheld_change gs cs m (i + 1) (omega arith) in
    let next : (i + 1) * 2 ≡ suc (suc (i * 2)) = omega arith in
    rw (two, drop-cons cs i no_change l, before_place gs cs i, after_place gs cs i)
    (go (key_held (c gs cs i).binding (c gs cs i).before gs) (key_held (c gs cs i).binding (c gs cs i).after gs) (rw (next, add-one i) at ih))
  where
    go :
        (b a : Bool) → unheld_from gs cs (suc (suc (i * 2))) (m * 2) / 2 ≡ first_unheld gs (suc i) (drop (suc i) cs) →
        cond b (cond a (unheld_from gs cs (suc (suc (i * 2))) (m * 2)) (suc (i * 2))) (i * 2) / 2 ≡
        cond (b && a) (first_unheld gs (i + 1) (drop (suc i) cs)) i
    go true true h = h ∙ ap (λ (j : ℕ). first_unheld gs j (drop (suc i) cs)) (sym (add-one i))
    go true false h = omega arith
    go false a h = omega arith

-- where 1 to 5 pass, what was found of the guards is what 6 finds by their flat numbers
pub guards_found :
    (head : Head) (table list : List ℕ) (gs : List Guard) (strip record_list : List ℕ) →
    order_checks head table list (leb (length gs) most_guards) strip record_list ≡ Ok tt →
    bindings_from head.bindings (unheld_place head.poisoned gs list / 2) 0 (changes list) ≡ guard_check head.bindings (guards (flat gs)) (changes list)
unfolding proper_lists guard_check
guards_found head table list gs strip record_list h =
    let healthy = (opened head table (order_passed _ _ _ _ _ _ h).opening).1 in
    let p = order_proper head table list (leb (length gs) most_guards) strip record_list h in
    let few = and_elim_right (proper_changes list) (leb (length (changes list)) most_changes) (and_elim_left (proper_changes list && leb (length (changes list)) most_changes) (leb (length gs) most_guards) p) in
    let paired = and_elim_right (proper_changes list && leb (length (changes list)) most_changes) (leb (length gs) most_guards) p in
    rw (and_intro (eq-eqb head.poisoned 0 healthy) (and_intro few paired), flat_guards gs)
    (ap (λ (n : ℕ). bindings_from head.bindings n 0 (changes list))
    (unheld_change gs (changes list) (length (changes list)) 0 (omega arith))
    ∙ unheld_known head.bindings gs 0 (changes list))
