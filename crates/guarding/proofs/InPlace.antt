-- The head set in place is the head that publish leaves: a publish keeps the binding count, and sets the flag at 12 and 13 alone.
use Prim.Native.Nat.{ℕ}
use mathlib.Core.Path.{◌≡◌, refl, sym}
use mathlib.Core.List.{List}
use mathlib.Core.Bool.{Bool, true, false, not, cond}
use lib.Dec.{T, eqb}
use lib.ListN.{length}
use borrow.Author.Tests.{eq-eqb, eqb-true}
use Rattle.rules.specs.declared.Guard.{Guard}
use Rattle.rules.specs.declared.Head.{Head}
use Rattle.rules.specs.declared.Done.{Done}
use Rattle.rules.specs.Answers.{told_of, poisons}
use Rattle.rules.specs.Orders.{lending}
use Rattle.rules.specs.Calls.{Outcome, outcome_of, head_with, publish_of}
use Rattle.laws.specs.Words.{Stable}
use Rattle.laws.proofs.Calls.{publish_stable}
use Rattle.booleans.proofs.Tests.{clash}
use Rattle.publish_core.proofs.Publishing.{core_publishes}
use Rattle.publish.specs.Promises.{PublishPromise}
use Rattle.guarding.specs.declared.Published.{Published}
use Rattle.guarding.specs.Asking.{flat, unheld_place}
use Rattle.guarding.specs.InPlace.{poisoned_head, value_of, HandsBack, ByValuePromise, set_in_place}
use Rattle.guarding.proofs.Asking.{pairs_known, guards_found}

-- a result of the core, with its flag apart
pub hands_back :
    (head : Head) (o : Outcome) (r : Done) (t l : List ℕ) → outcome_of r t l ≡ o →
    HandsBack head o (record { answer = r.answer; head = head_with r.head r.head.used head.poisoned; poisons = eqb r.head.poisoned 1 }) t l
hands_back head o r t l e =
    rw (← e) (record { answer = refl; head = refl; flag = refl; table = refl; record_list = refl })

-- the flag is decided once, by the core: where it is 1 it is set, and else it is what was lent
flag_set : (head : Head) (table : List ℕ) (o : Outcome) → Stable head table o → cond (eqb o.head.poisoned 1) 1 head.poisoned ≡ o.head.poisoned
flag_set head table o s = go (eqb o.head.poisoned 1) refl (poisons o.answer) s.flag
  where
    go :
        (b : Bool) → eqb o.head.poisoned 1 ≡ b → (p : Bool) → o.head.poisoned ≡ cond p 1 head.poisoned →
        cond b 1 head.poisoned ≡ o.head.poisoned
    go true e p f = sym (eqb-true o.head.poisoned 1 e)
    go false e true f = absurd (clash (eqb o.head.poisoned 1) (eq-eqb o.head.poisoned 1 f) e)
    go false e false f = sym f

module _ (head : Head) (table cs : List ℕ) (gs : List Guard) (strip list : List ℕ) (r : Published) (t l : List ℕ)
    (e : ByValuePromise head table cs (length gs) (unheld_place head.poisoned gs cs) strip list r t l) where
  -- what the core leaves is what publish leaves
  abbrev left : Outcome
  left = value_of head table cs (length gs) (unheld_place head.poisoned gs cs) strip list

  publishes : left ≡ publish_of head table (lending cs (flat gs) strip list)
  publishes = core_publishes head table cs (flat gs) _ _ _ strip list refl (pairs_known gs) (guards_found head table cs gs strip list)

  stable : Stable head table left
  stable = rw publishes (publish_stable head table (lending cs (flat gs) strip list))

  set : set_in_place r ≡ left.head
  set =
      rw (e.head, e.flag)
      (λ i. record { bindings = left.head.bindings; used = left.head.used; poisoned = flag_set head table left stable i })

  in_place : PublishPromise head table (lending cs (flat gs) strip list) (record { head = set_in_place r; answer = r.answer }) t l
  in_place = rw (← publishes) (λ i. record { told = told_of (e.answer i); head = set i; table = e.table i; record_list = e.record_list i })

  -- the flag was set in place, or it was left
  pub poisoned_in_place :
      T r.poisons → PublishPromise head table (lending cs (flat gs) strip list) (record { head = poisoned_head r.head; answer = r.answer }) t l
  poisoned_in_place h = go r.poisons refl h
    where
      go :
          (b : Bool) → r.poisons ≡ b → T b →
          PublishPromise head table (lending cs (flat gs) strip list) (record { head = poisoned_head r.head; answer = r.answer }) t l
      go true k h = rw k at in_place
      go false k h = absurd h

  pub kept_in_place :
      T (not r.poisons) → PublishPromise head table (lending cs (flat gs) strip list) (record { head = r.head; answer = r.answer }) t l
  kept_in_place h = go r.poisons refl h
    where
      go :
          (b : Bool) → r.poisons ≡ b → T (not b) →
          PublishPromise head table (lending cs (flat gs) strip list) (record { head = r.head; answer = r.answer }) t l
      go true k h = absurd h
      go false k h = rw k at in_place
