-- How each call ends, seen on the lent table. Every law about whole calls goes by these cases.
use Rattle.std.proofs.Common.{Result, Ok, Err, ℕ}
use Prim.Native.Nat.{ℕ}
use native.Mathlib.Omega.{arith}
use mathlib.Core.Path.{◌≡◌, refl, ap, ◌∙◌}
use mathlib.Core.List.{List, [], reverse}
use mathlib.Core.Bool.{true, false, cond}
use mathlib.Core.Logic.{◌⊎◌, ⊎_elim}
use lib.ListN.{length}
use Rattle.lent_lists.specs.Written.{written}
use Rattle.rules.specs.declared.Head.{Head}
use Rattle.rules.specs.declared.Failure.{Failure}
use Rattle.rules.specs.Table.{capacity, postings, laid_out, well_formed}
use Rattle.rules.specs.Orders.{Numbered, destinations, sources, change_numbers, recorded, Call, changes_of}
use Rattle.rules.specs.Answers.{is_accepted, poisons}
use Rattle.rules.specs.Checks.{prepare_checks, rollback_checks, removal_checks, publish_checks}
use Rattle.rules.specs.Publication.{Undone, undoing, Stage, removing, rolled_back, then_sources}
use Rattle.rules.specs.Calls.{head_with, Outcome, as_before, unless_refused, shown, record_after, prepared, prepare_of, rollback_of, removal_of, publish_of}
use Rattle.laws.specs.Words.{postings_before, added, taken_away}
use Rattle.laws.proofs.Flat.{well_formed_parts, used_postings, laid_out_same}
use Rattle.laws.proofs.Undo.{UndoClean, UndoFailed, undo_runs}
use Rattle.laws.proofs.Prepare.{Ready, Cause, store, full, Stopped, prepare_runs}
use Rattle.laws.proofs.Remove.{Cleared, Halted, remove_runs}
use Rattle.laws.proofs.Checks.{Clear, publish_clear, prepare_clear}

-- a stage that leaves the postings as they were, and poisons not, leaves everything as before
pub shown_same :
    (head : Head) (table list : List ℕ) (s : Stage) (a : Result ℕ Failure) → well_formed head table ≡ true → s.answer ≡ a →
    poisons a ≡ false → s.postings ≡ postings head.used table → shown head table list s ≡ as_before head table list a
shown_same head table list s a h e n k =
    let w = well_formed_parts head table h in
    let u : length s.postings ≡ head.used = ap length k ∙ used_postings head table w in
    let t : laid_out (length table) s.postings ≡ table = ap (laid_out (length table)) k ∙ laid_out_same head table w in
    let p : cond (poisons s.answer) 1 head.poisoned ≡ head.poisoned = rw (e, n) in
    λ i. record { answer = e i; head = head_with head (u i) (p i); table = t i; record_list = list }

pub cause_poisons_not : (byte used size change : ℕ) (why : Failure) → Cause byte used size change why → poisons (Err why) ≡ false
cause_poisons_not byte used size change why (store h) = refl
cause_poisons_not byte used size change why (full h k) = refl

pub cause_accepts_not : (byte used size change : ℕ) (why : Failure) → Cause byte used size change why → is_accepted (Err why) ≡ false
cause_accepts_not byte used size change why (store h) = refl
cause_accepts_not byte used size change why (full h k) = refl

-- what the changes of a call bring, take and, by its record, take back
abbrev pub going : Call → List Numbered
going c = destinations (changes_of c)

abbrev pub leaving : Call → List Numbered
leaving c = sources (changes_of c)

-- from the end of the record to its start
abbrev pub recorded_back : Call → List Numbered
recorded_back c = reverse (recorded (changes_of c) c.record_list)

module _ (head : Head) (table : List ℕ) (c : Call) where
  -- prepare has inserted every destination, or has stopped at one
  abbrev pub IsReady : Type 0
  IsReady = Ready (capacity table) c.strip (going c) [] 0 (postings_before head table) (prepared head table c)

  abbrev pub IsStopped : Type 0
  IsStopped = Stopped (capacity table) c.strip (postings_before head table) (going c) 0 0 (length (postings_before head table)) (prepared head table c)

  -- what an accepted publish answers and leaves
  abbrev pub accepted : Outcome
  accepted =
      shown head table (written (change_numbers (going c)) c.record_list)
      (record { answer = Ok (length (going c)); postings = taken_away (leaving c) (added (going c) (postings_before head table)); read = 0 })

  -- its source removal
  abbrev pub sources_gone : Stage
  sources_gone = removing c.strip (Ok (length (going c))) (leaving c) (length (going c)) (added (going c) (postings_before head table))

  pub data Published (o : Outcome) : Type 0 where
    refused :
        (a : Failure) → publish_checks head table c ≡ Err a → o ≡ as_before head table c.record_list (Err a) → Published o
    taken :
        publish_checks head table c ≡ Ok tt → IsReady →
        Cleared c.strip (Ok (length (going c))) (leaving c) (length (going c)) (added (going c) (postings_before head table)) sources_gone →
        o ≡ accepted → Published o
    halted :
        publish_checks head table c ≡ Ok tt → IsReady → Halted c.strip (leaving c) (length (going c)) sources_gone →
        o ≡ shown head table (written (change_numbers (going c)) c.record_list) sources_gone → Published o
    stopped :
        publish_checks head table c ≡ Ok tt → IsStopped → o ≡ shown head table c.record_list (prepared head table c) →
        Published o

  -- prepare's part: what it comes to where its checks pass
  pub prepared_runs : Clear head table c → IsReady ⊎ IsStopped
  prepared_runs k =
      let w = well_formed_parts head table k.formed in
      let u = used_postings head table w in
      let r = w.room in
      prepare_runs (capacity table) c.strip (postings_before head table) (going c) [] 0 (postings_before head table) k.fresh refl (omega arith)

  pub stop_not_accepted : IsStopped → is_accepted (prepared head table c).answer ≡ false
  stop_not_accepted s =
      ⊎_elim (λ b. rw b.answers (cause_accepts_not _ _ _ _ s.why s.cause)) (λ b. rw b.answers) s.undo

  ready_sources : IsReady → then_sources c.strip (leaving c) (prepared head table c) ≡ sources_gone
  ready_sources r =
      let a : (prepared head table c).answer ≡ Ok (length (going c)) = r.answers ∙ ap Ok (omega arith) in
      let n : (prepared head table c).read ≡ length (going c) = let k = r.reads in omega arith in
      rw (a, r.leaves, n)

  ready_record : IsReady → record_after (prepared head table c) (going c) c.record_list ≡ written (change_numbers (going c)) c.record_list
  ready_record r = rw r.answers

  cleared_accepted :
      (list : List ℕ) →
      Cleared c.strip (Ok (length (going c))) (leaving c) (length (going c)) (added (going c) (postings_before head table)) sources_gone →
      shown head table list sources_gone ≡ shown head table list (record { answer = Ok (length (going c)); postings = taken_away (leaving c) (added (going c) (postings_before head table)); read = 0 })
  cleared_accepted list k = rw (k.answers, k.leaves)

  pub published : Published (publish_of head table c)
  unfolding publish_of
  published = go (publish_checks head table c) refl
    where
      go :
          (v : Result Unit Failure) → publish_checks head table c ≡ v →
          Published (unless_refused v (as_before head table c.record_list) (shown head table (record_after (prepared head table c) (going c) c.record_list) (then_sources c.strip (leaving c) (prepared head table c))))
      go (Err a) e = Published.refused a e refl
      go (Ok _) e = ⊎_elim ready stop (prepared_runs (publish_clear head table c e))
        where
          ready :
              IsReady →
              Published (shown head table (record_after (prepared head table c) (going c) c.record_list) (then_sources c.strip (leaving c) (prepared head table c)))
          ready r =
              rw (ready_sources r, ready_record r)
              (⊎_elim (λ k. Published.taken e r k (cleared_accepted (written (change_numbers (going c)) c.record_list) k)) (λ k. Published.halted e r k refl)
              (remove_runs c.strip (Ok (length (going c))) (leaving c) (length (going c)) (added (going c) (postings_before head table))))

          stop :
              IsStopped →
              Published (shown head table (record_after (prepared head table c) (going c) c.record_list) (then_sources c.strip (leaving c) (prepared head table c)))
          stop s = rw (stop_not_accepted s) (Published.stopped e s refl)

  pub data Prepares (o : Outcome) : Type 0 where
    refused :
        (a : Failure) → prepare_checks head table c ≡ Err a → o ≡ as_before head table c.record_list (Err a) → Prepares o
    ready :
        prepare_checks head table c ≡ Ok tt → IsReady →
        o ≡ shown head table (written (change_numbers (going c)) c.record_list) (prepared head table c) → Prepares o
    stopped :
        prepare_checks head table c ≡ Ok tt → IsStopped → o ≡ shown head table c.record_list (prepared head table c) →
        Prepares o

  pub prepares : Prepares (prepare_of head table c)
  unfolding prepare_of
  prepares = go (prepare_checks head table c) refl
    where
      go :
          (v : Result Unit Failure) → prepare_checks head table c ≡ v →
          Prepares (unless_refused v (as_before head table c.record_list) (shown head table (record_after (prepared head table c) (going c) c.record_list) (prepared head table c)))
      go (Err a) e = Prepares.refused a e refl
      go (Ok _) e =
          ⊎_elim (λ r. Prepares.ready e r (rw r.answers)) (λ s. Prepares.stopped e s (rw (stop_not_accepted s))) (prepared_runs (prepare_clear head table c e))

  -- rollback's run over its record
  abbrev pub undid : Undone
  undid = undoing c.strip (recorded_back c) (Ok tt) 0 (postings_before head table)

  pub data RollsBack (o : Outcome) : Type 0 where
    refused :
        (a : Failure) → rollback_checks head table c ≡ Err a → o ≡ as_before head table c.record_list (Err a) → RollsBack o
    clean :
        rollback_checks head table c ≡ Ok tt → UndoClean c.strip (recorded_back c) (Ok tt) 0 (postings_before head table) undid →
        o ≡ shown head table c.record_list (rolled_back undid) → RollsBack o
    failed :
        rollback_checks head table c ≡ Ok tt → UndoFailed c.strip (recorded_back c) 0 undid →
        o ≡ shown head table c.record_list (rolled_back undid) → RollsBack o

  pub rolls_back : RollsBack (rollback_of head table c)
  unfolding rollback_of
  rolls_back = go (rollback_checks head table c) refl
    where
      go :
          (v : Result Unit Failure) → rollback_checks head table c ≡ v →
          RollsBack (unless_refused v (as_before head table c.record_list) (shown head table c.record_list (rolled_back undid)))
      go (Err a) e = RollsBack.refused a e refl
      go (Ok _) e =
          ⊎_elim (λ k. RollsBack.clean e k refl) (λ k. RollsBack.failed e k refl) (undo_runs c.strip (recorded_back c) (Ok tt) 0 (postings_before head table))

  -- source removal alone
  abbrev pub removed_alone : Stage
  removed_alone = removing c.strip (Ok 0) (leaving c) 0 (postings_before head table)

  pub data Removes (o : Outcome) : Type 0 where
    refused :
        (a : Failure) → removal_checks head table c ≡ Err a → o ≡ as_before head table c.record_list (Err a) → Removes o
    cleared :
        removal_checks head table c ≡ Ok tt → Cleared c.strip (Ok 0) (leaving c) 0 (postings_before head table) removed_alone →
        o ≡ shown head table c.record_list removed_alone → Removes o
    halted :
        removal_checks head table c ≡ Ok tt → Halted c.strip (leaving c) 0 removed_alone →
        o ≡ shown head table c.record_list removed_alone → Removes o

  pub removes : Removes (removal_of head table c)
  unfolding removal_of
  removes = go (removal_checks head table c) refl
    where
      go :
          (v : Result Unit Failure) → removal_checks head table c ≡ v →
          Removes (unless_refused v (as_before head table c.record_list) (shown head table c.record_list removed_alone))
      go (Err a) e = Removes.refused a e refl
      go (Ok _) e =
          ⊎_elim (λ k. Removes.cleared e k refl) (λ k. Removes.halted e k refl) (remove_runs c.strip (Ok 0) (leaving c) 0 (postings_before head table))
