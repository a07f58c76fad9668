-- Checks asked one group after the other, each after the verdict of those before it: what that comes to.
use Rattle.std.proofs.Common.{Result, Ok, Err, ℕ}
use Prim.Native.Nat.{ℕ, ◌+◌, ◌≤◌}
use mathlib.Core.Path.{◌≡◌, refl, sym, ap, ◌∙◌}
use mathlib.Core.List.{List, [], ◌∷◌, ◌++◌}
use mathlib.Core.Bool.{Bool, true, ◌&&◌, not}
use mathlib.Mathlib.Data.Bool.Basic.{and_elim_left, and_intro}
use lib.ListN.{length, get_or}
use lib.Dec.{ltb}
use Rattle.rules.specs.declared.Failure.{Failure}
use Rattle.rules.specs.declared.Change.{Change}
use Rattle.rules.specs.declared.Head.{Head}
use Rattle.rules.specs.Limits.{most_changes}
use Rattle.rules.specs.Postings.{every}
use Rattle.rules.specs.Table.{well_formed}
use Rattle.rules.specs.Orders.{changes, destination_of, no_change, Call, changes_of}
use Rattle.rules.specs.Checks.{must, or_else, first_refusal, is_named, recordable, record_from, record_check, lent_checks, prepare_checks, rollback_checks, removal_checks}
use Rattle.lent_lists.specs.Among.{among}
use Rattle.laws.proofs.Checks.{must_holds, else_first, else_second, opened, lent_proper, proper_few, room_places, prepare_passed, rollback_passed, removal_passed}

else_assoc : (u v w : Result Unit Failure) → or_else (or_else u v) w ≡ or_else u (or_else v w)
else_assoc (Ok _) v w = refl
else_assoc (Err a) v w = refl

first_append : (us vs : List (Result Unit Failure)) → first_refusal (us ++ vs) ≡ or_else (first_refusal us) (first_refusal vs)
unfolding first_refusal
first_append [] vs = refl
first_append (u ∷ us) vs = ap (or_else u) (first_append us vs) ∙ sym (else_assoc u (first_refusal us) (first_refusal vs))

-- groups asked after those before them are one list of groups
pub joined : {x y : Result Unit Failure} (us vs : List (Result Unit Failure)) → x ≡ first_refusal us → y ≡ first_refusal (x ∷ vs) → y ≡ first_refusal (us ++ vs)
unfolding first_refusal
joined us vs e f = f ∙ (ap (λ (z : Result Unit Failure). or_else z (first_refusal vs)) e ∙ sym (first_append us vs))

-- lists that 3 takes are within the limit
pub lent_few : (cs : List ℕ) (paired : Bool) (strip : List ℕ) → lent_checks cs paired strip ≡ Ok tt → length (changes cs) ≤ most_changes
lent_few cs paired strip h = proper_few cs paired (lent_proper cs paired strip h).0

-- each number of a record that 14 takes is a change's
record_below :
    (place : ℕ) (cs : List Change) (earlier ns : List ℕ) → record_from place cs earlier ns ≡ Ok tt →
    every (λ n. ltb n (length cs)) ns ≡ true
unfolding record_from recordable every
record_below place cs earlier [] e = refl
record_below place cs earlier (n ∷ ns) e =
    let named : Bool = is_named (destination_of (get_or cs n no_change)) in
    let test : Bool = ltb n (length cs) && named && not (among n earlier) in
    let h : test ≡ true = must_holds test (Failure.Record place) (else_first (must test (Failure.Record place)) _ e) in
    and_intro
    (and_elim_left (ltb n (length cs)) named (and_elim_left (ltb n (length cs) && named) (not (among n earlier)) h))
    (record_below (place + 1) cs (n ∷ earlier) ns (else_second (must test (Failure.Record place)) _ e))

recorded_below : (cs : List Change) (list : List ℕ) → record_check cs list ≡ Ok tt → every (λ n. ltb n (length cs)) list ≡ true
unfolding record_check
recorded_below cs list h = record_below 0 cs [] list h

-- what the work of each call asks for, where its checks passed
module _ (head : Head) (table : List ℕ) (c : Call) where
  pub prepare_ready :
      prepare_checks head table c ≡ Ok tt →
      (well_formed head table ≡ true) × ((length (changes_of c) ≤ most_changes) × (length (changes_of c) ≤ length c.record_list))
  prepare_ready h =
      let p = prepare_passed head table c h in
      ((opened head table p.opening).0, (lent_few _ _ _ p.lent, room_places _ _ p.room))

  pub rollback_ready :
      rollback_checks head table c ≡ Ok tt →
      (well_formed head table ≡ true) × ((length (changes_of c) ≤ most_changes) × (every (λ n. ltb n (length (changes_of c))) c.record_list ≡ true))
  rollback_ready h =
      let p = rollback_passed head table c h in
      ((opened head table p.0).0, (lent_few _ _ _ p.1, recorded_below _ _ p.3))

  pub removal_ready : removal_checks head table c ≡ Ok tt → (well_formed head table ≡ true) × (length (changes_of c) ≤ most_changes)
  removal_ready h =
      let p = removal_passed head table c h in
      ((opened head table p.0).0, lent_few _ _ _ p.1)
