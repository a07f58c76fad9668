-- Right or withheld, of the calls themselves: what they answered and left is the history that the rules' theorem speaks of, since
-- each promise determines its outcome.
use Rattle.std.proofs.Common.{Result, Err, ℕ}
use Prim.Native.Nat.{ℕ}
use mathlib.Core.Path.{◌≡◌, refl, sym, ap, ◌∙◌}
use mathlib.Core.List.{List, [], ◌∷◌, ◌++◌, map}
use mathlib.Core.Bool.{Bool, true, false, cond, not, ◌&&◌}
use Rattle.rules.specs.declared.Failure.{Failure}
use Rattle.rules.specs.declared.Guard.{Guard}
use Rattle.rules.specs.declared.Head.{Head}
use Rattle.rules.specs.declared.Posting.{Posting}
use Rattle.rules.specs.Table.{well_formed}
use Rattle.rules.specs.Answers.{is_accepted, poisons}
use Rattle.rules.specs.Orders.{Call, lending}
use Rattle.rules.specs.declared.Done.{Done}
use Rattle.rules.specs.Calls.{Outcome, count_of}
use Rattle.laws.proofs.Answers.{told_injective}
use Rattle.history.specs.History as claim
use Rattle.history.specs.History.{Index, published, index_of, after, outcomes, unbroken, accepted, accepted_outcomes, relent_all, said, own_count, Holds}
use Rattle.history.proofs.History.{after_append, right_or_withheld, empty_holds}
use Rattle.publish.proofs.Outcomes.{seen_outcome}
use Rattle.publish.specs.Promises.{PublishPromise}
use Rattle.guarding.specs.Asking.{flat}
use Rattle.entry.specs.Promises.{EntryPromise}
use Rattle.guarantees.specs.Runs.{Made, outcome, left, Kept, Run, none, next, end, calls, seen_after, taken, sound, CallsRight, CallsWithheld, CallsRightOrWithheld}

-- a call that kept its promise is the rules' publish
kept_published : (x : Index) (m : Made) → Kept x m → published x m.call ≡ outcome m
kept_published x m k = sym (seen_outcome m.result m.table m.record_list (published x m.call) k)

-- calls that were made are the rules' calls, one by one
run_end : (x : Index) (ms : List Made) → Run x ms → after x (calls ms) ≡ end x ms
unfolding after end
run_end x [] none = refl
run_end x (m ∷ ms) (next k r) =
    ap (λ (o : Outcome). after (index_of o) (calls ms)) (kept_published x m k) ∙ run_end (left m) ms r

run_outcomes : (x : Index) (ms : List Made) → Run x ms → outcomes x (calls ms) ≡ seen_after ms
unfolding outcomes
run_outcomes x [] none = refl
run_outcomes x (m ∷ ms) (next k r) =
    ap (λ (o : Outcome). o ∷ outcomes (index_of o) (calls ms)) (kept_published x m k)
    ∙ ap (λ (os : List Outcome). outcome m ∷ os) (run_outcomes (left m) ms r)

run_sound : (x : Index) (ms : List Made) → Run x ms → unbroken x (calls ms) ≡ sound ms
unfolding unbroken sound
run_sound x [] none = refl
run_sound x (m ∷ ms) (next k r) =
    ap (λ (o : Outcome). not (poisons o.answer) && unbroken (index_of o) (calls ms)) (kept_published x m k)
    ∙ ap (λ (b : Bool). not (poisons m.result.answer) && b) (run_sound (left m) ms r)

map_cond :
    {A : Type 0} {B : Type 0} (f : A → B) (b : Bool) (x : A) (xs : List A) → map f (cond b (x ∷ xs) xs) ≡ cond b (f x ∷ map f xs) (map f xs)
map_cond f true x xs = refl
map_cond f false x xs = refl

run_accepted : (x : Index) (ms : List Made) → Run x ms → accepted x (calls ms) ≡ calls (taken ms)
unfolding accepted taken
run_accepted x [] none = refl
run_accepted x (m ∷ ms) (next k r) =
    ap
    (λ (o : Outcome). cond (is_accepted o.answer) (m.call ∷ accepted (index_of o) (calls ms))
    (accepted (index_of o) (calls ms)))
    (kept_published x m k)
    ∙ (ap (λ (cs : List Call). cond (is_accepted m.result.answer) (m.call ∷ cs) cs) (run_accepted (left m) ms r)
    ∙ sym (map_cond (λ (n : Made). n.call) (is_accepted m.result.answer) m (taken ms)))

run_accepted_outcomes : (x : Index) (ms : List Made) → Run x ms → accepted_outcomes x (calls ms) ≡ seen_after (taken ms)
unfolding accepted_outcomes taken
run_accepted_outcomes x [] none = refl
run_accepted_outcomes x (m ∷ ms) (next k r) =
    ap
    (λ (o : Outcome). cond (is_accepted o.answer) (o ∷ accepted_outcomes (index_of o) (calls ms))
    (accepted_outcomes (index_of o) (calls ms)))
    (kept_published x m k)
    ∙ (ap (λ (os : List Outcome). cond (is_accepted m.result.answer) (outcome m ∷ os) os) (run_accepted_outcomes (left m) ms r)
    ∙ sym (map_cond outcome (is_accepted m.result.answer) m (taken ms)))

module _ (x : Index) (start : List Posting) (h : Holds x start) (ms : List Made) (r : Run x ms) where
  whole : claim.RightOrWithheld x start (calls ms)
  whole = right_or_withheld x start h (calls ms)

  right_made : sound ms ≡ true → CallsRight x start ms
  right_made s =
      let w = whole.right (run_sound x ms r ∙ s) in
      let e : after x (calls ms) ≡ end x ms = run_end x ms r in
      let a : accepted x (calls ms) ≡ calls (taken ms) = run_accepted x ms r in
      record {
        table = sym e ∙ (w.table ∙ rw a refl);
        set = λ p. rw (← e, ← a) (w.set p);
        counts =
            λ binding key n k.
            let own : count_of (end x ms).head (end x ms).table binding key ≡ own_count x (said (calls (taken ms)) start) binding key =
            rw (← e, ← a) (w.counts binding key) in
            told_injective n (count_of (end x ms).head (end x ms).table binding key) k ∙ own;
        rows = λ binding key. rw (← a) (w.rows binding key);
        again =
            λ y more hy al ry same.
            sym (run_end y more ry) ∙ (w.again y (calls more) hy al (rw a same) ∙ e);
        again_records =
            λ y more hy al ry same.
            sym (run_outcomes y more ry)
            ∙ (w.again_records y (calls more) hy al (rw a same) ∙ ap (relent_all (calls more)) (run_accepted_outcomes x ms r));
        replay =
            λ y ns hy al ry same.
            sym (run_end y ns ry) ∙ (rw (same, ← a) (w.replay y hy al) ∙ e);
        records =
            λ y ns hy al ry same.
            sym (run_outcomes y ns ry) ∙ (rw (same, ← a) (w.records y hy al) ∙ run_accepted_outcomes x ms r);
      }

  withheld_made : sound ms ≡ false → CallsWithheld x ms
  withheld_made s =
      let w = whole.withheld (run_sound x ms r ∙ s) in
      let e : after x (calls ms) ≡ end x ms = run_end x ms r in
      record {
        publishes = λ m k. sym (kept_published (end x ms) m k) ∙ rw (← e) (w.publishes m.call);
        counts =
            λ binding key n k.
            let none : count_of (end x ms).head (end x ms).table binding key ≡ Err Failure.Poisoned =
            rw (← e) (w.counts binding key) in
            told_injective n (count_of (end x ms).head (end x ms).table binding key) k ∙ none;
        fixed =
            λ more q. sym (run_end (end x ms) more q) ∙ rw (← e)
            (sym (after_append x (calls ms) (calls more)) ∙ w.fixed (calls more));
      }

-- the first calls of a run are a run
run_before : {x : Index} (ms ns : List Made) → Run x (ms ++ ns) → Run x ms
run_before [] ns r = none
run_before (m ∷ ms) ns (next k r) = next k (run_before ms ns r)

module _ (x : Index) (start : List Posting) (h : Holds x start) where
  -- RIGHT OR WITHHELD: any calls of publish, under any lists, guards and strips
  pub calls_right_or_withheld : (ms : List Made) → Run x ms → CallsRightOrWithheld x start ms
  calls_right_or_withheld ms r =
      record {
        right = λ before later e s. right_made x start h before (run_before before later (rw e at r)) s;
        withheld = withheld_made x start h ms r;
      }

-- and from an empty table: well formed, unpoisoned, used 0
pub calls_right_or_withheld_from_empty :
    (x : Index) → well_formed x.head x.table ≡ true → x.head.poisoned ≡ 0 → x.head.used ≡ 0 → (ms : List Made) → Run x ms →
    CallsRightOrWithheld x [] ms
calls_right_or_withheld_from_empty x f p u = calls_right_or_withheld x [] (empty_holds x f p u)

-- what publish promises on return is what a run asks of each call
pub promise_kept :
    (head : Head) (table : List ℕ) (c : Call) (r : Done) (t l : List ℕ) → PublishPromise head table c r t l →
    Kept (record { head = head; table = table }) (record { call = c; result = r; table = t; record_list = l })
promise_kept head table c r t l k = k

-- so is what the lent form promises, at the flat numbers of its guards: runs may be of either form, call by call
pub lent_promise_kept :
    (head : Head) (table changes : List ℕ) (guards : List Guard) (strip list : List ℕ) (a : Result ℕ Failure) (head' : Head) (t l : List ℕ) →
    EntryPromise head table changes guards strip list a head' t l →
    Kept (record { head = head; table = table })
    (record {
      call = lending changes (flat guards) strip list;
      result = record { head = head'; answer = a };
      table = t;
      record_list = l;
    })
lent_promise_kept head table changes guards strip list a head' t l k = k

-- and any calls at all make a run: the claim is not empty
pub made_of : Index → List Call → List Made
made_of x [] = []
made_of x (c ∷ cs) =
    let o = published x c in
    record { call = c; result = record { head = o.head; answer = o.answer }; table = o.table; record_list = o.record_list }
    ∷ made_of (index_of o) cs

-- what the rules answer and leave at these calls, one by one, is a run
pub made_run : (x : Index) (cs : List Call) → Run x (made_of x cs)
unfolding made_of
made_run x [] = none
made_run x (c ∷ cs) = next refl (made_run (index_of (published x c)) cs)

-- and what that run was lent is just these calls, in order
pub made_calls : (x : Index) (cs : List Call) → calls (made_of x cs) ≡ cs
unfolding made_of
made_calls x [] = refl
made_calls x (c ∷ cs) = ap (λ (l : List Call). c ∷ l) (made_calls (index_of (published x c)) cs)
