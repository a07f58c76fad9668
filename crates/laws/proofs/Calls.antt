-- The calls as wholes: an answer of 1 to 11 or 14 leaves table, head and record as before, for any head and table; and a table
-- that is well formed stays so, whatever is answered.
use Rattle.std.proofs.Common.{Result, Ok, Err, ℕ}
use Prim.Native.Nat.{ℕ, ◌≤◌}
use native.Mathlib.Omega.{arith}
use mathlib.Core.Path.{◌≡◌, refl, sym, ap, ◌∙◌}
use mathlib.Core.List.{List, []}
use mathlib.Core.Bool.{true, false}
use mathlib.Core.Logic.{⊎_elim}
use lib.ListN.{length}
use Rattle.rules.specs.declared.Head.{Head}
use Rattle.rules.specs.declared.Failure.{Failure}
use Rattle.rules.specs.Table.{capacity, well_formed}
use Rattle.rules.specs.Answers.{is_accepted, poisons, settled}
use Rattle.rules.specs.Checks.{prepare_checks, rollback_checks, removal_checks, publish_checks}
use Rattle.rules.specs.Orders.{Call}
use Rattle.rules.specs.Publication.{Stage, rolled_back, then_sources}
use Rattle.rules.specs.Calls.{Outcome, as_before, unless_refused, head_after, shown, prepared, prepare_of, rollback_of, removal_of, publish_of, count_of}
use Rattle.laws.specs.Words.{postings_before, is_refusal, is_unchanged, Stable, AsBefore, StaysWellFormed, RefusesPoisoned, RefusesUnformed}
use Rattle.booleans.proofs.Tests.{by_cases, clash}
use Rattle.laws.proofs.Flat.{well_formed_parts, Sound, sound_postings, well_formed_laid_out, length_laid_out}
use Rattle.laws.proofs.Undo.{undo_sound}
use Rattle.laws.proofs.Prepare.{prepare_sound}
use Rattle.laws.proofs.Remove.{remove_sound}
use Rattle.laws.proofs.Checks.{Says, prepare_proper, rollback_proper, removal_proper, publish_proper, Clear, prepare_clear, publish_clear, rollback_formed, removal_formed, open_unformed, open_poisoned, prepare_opens, rollback_opens, removal_opens, publish_opens, count_opens}
use Rattle.laws.proofs.Answers.{refusal_unchanged, unchanged_poisons_not}
use Rattle.laws.proofs.Outcomes.{shown_same, IsStopped, cause_poisons_not, going, leaving, recorded_back, undid, removed_alone, Published, published, Prepares, prepares, RollsBack, rolls_back, Removes, removes}

-- an outcome as before has its own answer
own_answer :
    (head : Head) (table list : List ℕ) (o : Outcome) (a : Result ℕ Failure) → o ≡ as_before head table list a →
    o ≡ as_before head table list o.answer
own_answer head table list o a e = e ∙ ap (as_before head table list) (sym (ap (λ (x : Outcome). x.answer) e))

-- an answer that is none of these
not_unchanged : {A : Type 0} (a b : Result ℕ Failure) → is_unchanged a ≡ true → a ≡ b → is_unchanged b ≡ false → A
not_unchanged a b h e k = absurd (clash (is_unchanged b) (rw e at h) k)

module _ (head : Head) (table : List ℕ) (c : Call) where
  -- where prepare stopped with an answer of these, all was taken back
  stopped_same :
      Clear head table c → IsStopped head table c → is_unchanged (prepared head table c).answer ≡ true →
      shown head table c.record_list (prepared head table c) ≡ as_before head table c.record_list (prepared head table c).answer
  stopped_same k s h =
      ⊎_elim
      (λ b.
      own_answer head table c.record_list (shown head table c.record_list (prepared head table c)) (Err s.why)
      (shown_same head table c.record_list (prepared head table c) (Err s.why) k.formed b.answers (cause_poisons_not _ _ _ _ s.why s.cause) b.leaves))
      (λ b. not_unchanged (prepared head table c).answer _ h b.answers refl)
      s.undo

  pub publish_as_before : AsBefore head table c (publish_of head table c)
  publish_as_before h = go (publish_of head table c) (published head table c) h
    where
      go : (o : Outcome) → Published head table c o → AsBefore head table c o
      go o (Published.refused a e k) u = own_answer head table c.record_list o (Err a) k
      go o (Published.taken e r l k) u = not_unchanged o.answer _ u (ap (λ (x : Outcome). x.answer) k) refl
      go o (Published.halted e r l k) u = not_unchanged o.answer _ u (ap (λ (x : Outcome). x.answer) k ∙ l.answers) refl
      go o (Published.stopped e s k) u = rw k (stopped_same (publish_clear head table c e) s (rw k at u))

  pub prepare_as_before : AsBefore head table c (prepare_of head table c)
  prepare_as_before h = go (prepare_of head table c) (prepares head table c) h
    where
      go : (o : Outcome) → Prepares head table c o → AsBefore head table c o
      go o (Prepares.refused a e k) u = own_answer head table c.record_list o (Err a) k
      go o (Prepares.ready e r k) u = not_unchanged o.answer _ u (ap (λ (x : Outcome). x.answer) k ∙ r.answers) refl
      go o (Prepares.stopped e s k) u = rw k (stopped_same (prepare_clear head table c e) s (rw k at u))

  pub rollback_as_before : AsBefore head table c (rollback_of head table c)
  rollback_as_before h = go (rollback_of head table c) (rolls_back head table c) h
    where
      go : (o : Outcome) → RollsBack head table c o → AsBefore head table c o
      go o (RollsBack.refused a e k) u = own_answer head table c.record_list o (Err a) k
      go o (RollsBack.clean e r k) u =
          not_unchanged o.answer _ u (ap (λ (x : Outcome). x.answer) k ∙ ap (λ v. settled v (Ok 0)) r.verdict) refl
      go o (RollsBack.failed e r k) u =
          not_unchanged o.answer _ u (ap (λ (x : Outcome). x.answer) k ∙ ap (λ v. settled v (Ok 0)) r.verdict) refl

  pub removal_as_before : AsBefore head table c (removal_of head table c)
  removal_as_before h = go (removal_of head table c) (removes head table c) h
    where
      go : (o : Outcome) → Removes head table c o → AsBefore head table c o
      go o (Removes.refused a e k) u = own_answer head table c.record_list o (Err a) k
      go o (Removes.cleared e r k) u = not_unchanged o.answer _ u (ap (λ (x : Outcome). x.answer) k ∙ r.answers) refl
      go o (Removes.halted e r k) u = not_unchanged o.answer _ u (ap (λ (x : Outcome). x.answer) k ∙ r.answers) refl

  -- the postings that each call shows are sound
  start_sound : well_formed head table ≡ true → Sound head.bindings (capacity table) (postings_before head table)
  start_sound h = sound_postings head table (well_formed_parts head table h)

  prepared_sound : Clear head table c → Sound head.bindings (capacity table) (prepared head table c).postings
  prepared_sound k =
      prepare_sound head.bindings (capacity table) c.strip (going c) [] 0 (postings_before head table) k.bound (start_sound k.formed)

  prepare_shows :
      prepare_checks head table c ≡ Ok tt → Sound head.bindings (capacity table) (prepared head table c).postings
  prepare_shows e = prepared_sound (prepare_clear head table c e)

  rollback_shows :
      rollback_checks head table c ≡ Ok tt → Sound head.bindings (capacity table) (undid head table c).postings
  rollback_shows e =
      undo_sound head.bindings (capacity table) c.strip (recorded_back c) (Ok tt) 0 (postings_before head table)
      (start_sound (rollback_formed head table c e).0)

  removal_shows :
      removal_checks head table c ≡ Ok tt →
      Sound head.bindings (capacity table) (removed_alone head table c).postings
  removal_shows e =
      remove_sound c.strip (Ok 0) head.bindings (capacity table) (leaving c) 0 (postings_before head table)
      (start_sound (removal_formed head table c e).0)

  publish_shows :
      publish_checks head table c ≡ Ok tt →
      Sound head.bindings (capacity table) (then_sources c.strip (leaving c) (prepared head table c)).postings
  publish_shows e =
      let s = prepared_sound (publish_clear head table c e) in
      by_cases (λ (t : Stage). Sound head.bindings (capacity table) t.postings) (is_accepted (prepared head table c).answer)
      (λ a. remove_sound c.strip _ head.bindings (capacity table) (leaving c) _ _ s)
      (λ a. s)

  -- so a well-formed table stays well formed
  unless_well_formed :
      (v : Result Unit Failure) (list : List ℕ) (s : Stage) → (v ≡ Ok tt → Sound head.bindings (capacity table) s.postings) →
      StaysWellFormed head table (unless_refused v (as_before head table c.record_list) (shown head table list s))
  unless_well_formed (Err a) list s f h = h
  unless_well_formed (Ok _) list s f h =
      let w = well_formed_parts head table h in
      well_formed_laid_out head (head_after head s.answer s.postings) table s.postings w (f refl) refl refl
      (by_cases (λ (n : ℕ). n ≤ 1) (poisons s.answer) (λ e. omega arith) (λ e. w.flag))

  pub prepare_well_formed : StaysWellFormed head table (prepare_of head table c)
  unfolding prepare_of
  prepare_well_formed h = unless_well_formed (prepare_checks head table c) _ (prepared head table c) prepare_shows h

  pub rollback_well_formed : StaysWellFormed head table (rollback_of head table c)
  unfolding rollback_of
  rollback_well_formed h = unless_well_formed (rollback_checks head table c) _ (rolled_back (undid head table c)) rollback_shows h

  pub removal_well_formed : StaysWellFormed head table (removal_of head table c)
  unfolding removal_of
  removal_well_formed h = unless_well_formed (removal_checks head table c) _ (removed_alone head table c) removal_shows h

  pub publish_well_formed : StaysWellFormed head table (publish_of head table c)
  unfolding publish_of
  publish_well_formed h =
      unless_well_formed (publish_checks head table c) _ (then_sources c.strip (leaving c) (prepared head table c)) publish_shows h

  -- and binding count and size stay at every answer, and the poison flag at all but 12 and 13
  unless_stable :
      (v : Result Unit Failure) (list : List ℕ) (s : Stage) → Says is_refusal v →
      (v ≡ Ok tt → Sound head.bindings (capacity table) s.postings) →
      Stable head table (unless_refused v (as_before head table c.record_list) (shown head table list s))
  unless_stable (Err a) list s h f =
      record { bindings = refl; flag = rw (unchanged_poisons_not (Err a) (refusal_unchanged (Err a) (h a refl))); size = refl }
  unless_stable (Ok _) list s h f =
      record {
        bindings = refl;
        flag = refl;
        size = length_laid_out (length table) s.postings (let r = (f refl).room in omega arith);
      }

  pub prepare_stable : Stable head table (prepare_of head table c)
  unfolding prepare_of
  prepare_stable = unless_stable (prepare_checks head table c) _ (prepared head table c) (prepare_proper head table c) prepare_shows

  pub rollback_stable : Stable head table (rollback_of head table c)
  unfolding rollback_of
  rollback_stable =
      unless_stable (rollback_checks head table c) _ (rolled_back (undid head table c)) (rollback_proper head table c) rollback_shows

  pub removal_stable : Stable head table (removal_of head table c)
  unfolding removal_of
  removal_stable = unless_stable (removal_checks head table c) _ (removed_alone head table c) (removal_proper head table c) removal_shows

  pub publish_stable : Stable head table (publish_of head table c)
  unfolding publish_of
  publish_stable =
      unless_stable (publish_checks head table c) _ (then_sources c.strip (leaving c) (prepared head table c)) (publish_proper head table c) publish_shows

  -- a poisoned table is refused with 2 by every call, and nothing changes
  pub prepare_poisoned : RefusesPoisoned head table c (prepare_of head table c)
  unfolding prepare_of
  prepare_poisoned h k = rw (prepare_opens head table _ (open_poisoned head table h k) c)

  pub rollback_poisoned : RefusesPoisoned head table c (rollback_of head table c)
  unfolding rollback_of
  rollback_poisoned h k = rw (rollback_opens head table _ (open_poisoned head table h k) c)

  pub removal_poisoned : RefusesPoisoned head table c (removal_of head table c)
  unfolding removal_of
  removal_poisoned h k = rw (removal_opens head table _ (open_poisoned head table h k) c)

  pub publish_poisoned : RefusesPoisoned head table c (publish_of head table c)
  unfolding publish_of
  publish_poisoned h k = rw (publish_opens head table _ (open_poisoned head table h k) c)

  -- one that is not well formed is refused with 1, whatever its flag is
  pub prepare_unformed : RefusesUnformed head table c (prepare_of head table c)
  unfolding prepare_of
  prepare_unformed h = rw (prepare_opens head table _ (open_unformed head table h) c)

  pub rollback_unformed : RefusesUnformed head table c (rollback_of head table c)
  unfolding rollback_of
  rollback_unformed h = rw (rollback_opens head table _ (open_unformed head table h) c)

  pub removal_unformed : RefusesUnformed head table c (removal_of head table c)
  unfolding removal_of
  removal_unformed h = rw (removal_opens head table _ (open_unformed head table h) c)

  pub publish_unformed : RefusesUnformed head table c (publish_of head table c)
  unfolding publish_of
  publish_unformed h = rw (publish_opens head table _ (open_unformed head table h) c)

pub count_poisoned :
    (head : Head) (table : List ℕ) → well_formed head table ≡ true → head.poisoned ≡ 1 → (binding key : ℕ) →
    count_of head table binding key ≡ Err Failure.Poisoned
unfolding count_of
count_poisoned head table h k binding key = rw (count_opens head table _ (open_poisoned head table h k) binding)

pub count_unformed :
    (head : Head) (table : List ℕ) → well_formed head table ≡ false → (binding key : ℕ) →
    count_of head table binding key ≡ Err Failure.Table
unfolding count_of
count_unformed head table h binding key = rw (count_opens head table _ (open_unformed head table h) binding)
