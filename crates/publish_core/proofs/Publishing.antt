-- The core after 1 to 5 and after what was found of the guards is publish, whichever form has found it.
use Rattle.std.proofs.Common.{Result, Ok, Err, IfOk}
use Rattle.rules.specs.declared.Failure.{Failure}
use Prim.Native.Nat.{ℕ}
use mathlib.Core.Path.{◌≡◌, refl, sym, ap, ◌∙◌}
use mathlib.Core.List.{List, [], ◌∷◌}
use mathlib.Core.Bool.{Bool, true}
use Rattle.rules.specs.declared.Head.{Head}
use Rattle.rules.specs.Table.{postings}
use Rattle.rules.specs.Orders.{changes, guards, proper_guards, proper_lists, lending}
use Rattle.rules.specs.Checks.{or_else, first_refusal, guard_check, arriving_checks, leaving_checks, order_checks, publish_beside, publish_checks}
use Rattle.rules.specs.Calls.{as_before, publish_of}
use Rattle.laws.proofs.Checks.{passed, opened, lent_proper, proper_few, room_places, order_passed}
use Rattle.changes.specs.declared.Changes.{Changes}
use Rattle.refusals.specs.Admitting.{Admits}
use Rattle.refusals.proofs.Firsts.{joined}
use Rattle.publish_core.specs.Core.{Ready, verdict_of, numbers_of, core_of}

-- where 1 to 5 passed, the work is ready, and the lists are proper
module _ (head : Head) (table cs : List ℕ) (paired : Bool) (strip list : List ℕ) (h : order_checks head table cs paired strip list ≡ Ok tt) where
  pub order_proper : proper_lists cs paired ≡ true
  order_proper = (lent_proper _ _ _ (order_passed _ _ _ _ _ _ h).lent).0

  pub order_ready : Ready head table cs list
  order_ready =
      let o = order_passed _ _ _ _ _ _ h in
      record {
        formed = (opened _ _ o.opening).0;
        few = proper_few cs paired order_proper;
        places = room_places _ _ o.room;
      }

-- and so it is where 6 passed too
pub asked_ready :
    (head : Head) (table cs : List ℕ) (paired : Bool) (strip list : List ℕ) (guarding : Result Unit Failure) →
    first_refusal (order_checks head table cs paired strip list ∷ guarding ∷ []) ≡ Ok tt → Ready head table cs list
asked_ready head table cs paired strip list guarding h = order_ready _ _ _ _ _ _ (passed _ h).0

-- what they admitted is ready
pub admitted_ready :
    (head : Head) (table cs : List ℕ) (paired : Bool) (strip list : List ℕ) (guarding : Result Unit Failure) (admitted : Result Changes Failure) →
    Admits (first_refusal (order_checks head table cs paired strip list ∷ guarding ∷ [])) cs admitted →
    IfOk admitted (λ (l : Changes). Ready head table l.numbers.now list)
admitted_ready head table cs paired strip list guarding (Ok l) a = rw a.1 (asked_ready head table cs paired strip list guarding a.0)
admitted_ready head table cs paired strip list guarding (Err why) a = tt

-- behind a verdict that passes, another may be put in place of an equal one
behind :
    (u : Result Unit Failure) {v w : Result Unit Failure} (vs : List (Result Unit Failure)) → (u ≡ Ok tt → v ≡ w) →
    first_refusal (u ∷ v ∷ vs) ≡ first_refusal (u ∷ w ∷ vs)
unfolding first_refusal
behind (Ok _) vs f = ap (λ (v : Result Unit Failure). or_else v (first_refusal vs)) (f refl)
behind (Err a) vs f = refl

module _ (head : Head) (table cs gs : List ℕ) (paired : Bool) (guarding earlier : Result Unit Failure) (strip list : List ℕ) where
  -- what was found of the guards is true of them, and 1 to 5 and then 6 were asked
  checks_same :
      earlier ≡ first_refusal (order_checks head table cs paired strip list ∷ guarding ∷ []) → paired ≡ proper_guards gs →
      (order_checks head table cs paired strip list ≡ Ok tt → guarding ≡ guard_check head.bindings (guards gs) (changes cs)) →
      first_refusal (earlier ∷ arriving_checks (postings head.used table) (changes cs) ∷ leaving_checks (changes cs) ∷ []) ≡ publish_checks head table (lending cs gs strip list)
  unfolding publish_checks publish_beside
  checks_same e p f =
      joined (order_checks head table cs paired strip list ∷ guarding ∷ []) _ e refl
      ∙ (behind (order_checks head table cs paired strip list) _ f ∙ rw p)

  pub core_publishes :
      earlier ≡ first_refusal (order_checks head table cs paired strip list ∷ guarding ∷ []) → paired ≡ proper_guards gs →
      (order_checks head table cs paired strip list ≡ Ok tt → guarding ≡ guard_check head.bindings (guards gs) (changes cs)) →
      core_of head table cs earlier strip list ≡ publish_of head table (lending cs gs strip list)
  unfolding core_of publish_of
  core_publishes e p f = rw (checks_same e p f)

-- the core goes by the verdict that it is given
pub core_after :
    (head : Head) (table cs strip list : List ℕ) {v w : Result Unit Failure} → v ≡ w → core_of head table cs v strip list ≡ core_of head table cs w strip list
core_after head table cs strip list e = ap (λ (v : Result Unit Failure). core_of head table cs v strip list) e

-- and refuses with one that does
pub core_refuses :
    (head : Head) (table cs strip list : List ℕ) (why : Failure) → core_of head table cs (Err why) strip list ≡ as_before head table list (Err why)
unfolding core_of first_refusal
core_refuses head table cs strip list why = refl

-- so it goes by what checks admitted as by their own verdict of a list
pub core_admitted :
    (head : Head) (table cs strip list : List ℕ) (checks : Result Unit Failure) (admitted : Result Changes Failure) → Admits checks cs admitted →
    core_of head table (numbers_of admitted) (verdict_of admitted) strip list ≡ core_of head table cs checks strip list
core_admitted head table cs strip list checks (Ok l) a =
    ap (λ (ns : List ℕ). core_of head table ns (Ok tt) strip list) a.1 ∙ core_after head table cs strip list (sym a.0)
core_admitted head table cs strip list checks (Err why) a =
    core_refuses head table [] strip list why
    ∙ (sym (core_refuses head table cs strip list why) ∙ core_after head table cs strip list (sym a))

-- and where these are the checks of a publish beside some guards, what is left is what publish leaves
pub admitted_publishes :
    (head : Head) (table cs gs strip list : List ℕ) (admitted : Result Changes Failure) →
    Admits (first_refusal (order_checks head table cs (proper_guards gs) strip list ∷ guard_check head.bindings (guards gs) (changes cs) ∷ [])) cs admitted →
    core_of head table (numbers_of admitted) (verdict_of admitted) strip list ≡ publish_of head table (lending cs gs strip list)
admitted_publishes head table cs gs strip list admitted a =
    core_admitted head table cs strip list _ admitted a ∙ core_publishes head table cs gs _ _ _ strip list refl refl (λ _. refl)
