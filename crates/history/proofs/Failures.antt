-- After a 12 and after a 13 the table holds exactly the postings that the bytes of the strip and the room in the table say.
use Rattle.std.proofs.Common.{Result, Ok, Err, ℕ}
use Prim.Native.Nat.{ℕ, ◌+◌, ◌-◌, ◌≤◌, ◌<◌}
use native.Mathlib.Nat.{zero-add}
use native.Mathlib.Omega.{arith}
use mathlib.Core.Path.{◌≡◌, refl, ap, ◌∙◌}
use mathlib.Core.List.{List, []}
use mathlib.Core.Bool.{true, false, not, ◌&&◌, ◌||◌, and-false}
use mathlib.Core.Logic.{⊎_elim}
use mathlib.Mathlib.Data.Bool.Basic.{and_elim_right}
use lib.ListN.{length, get_or, take, length-reverse}
use lib.Seq.{length-take-le, get_or-take}
use lib.Dec.{eqb, leb}
use Rattle.strips.specs.Strips.{most_bytes, proper_bytes, proper_strip, byte_at}
use Rattle.strips.proofs.Walk.{byte_most}
use Rattle.lent_lists.specs.Written.{written}
use Rattle.rules.specs.declared.Posting.{Posting}
use Rattle.rules.specs.declared.Head.{Head}
use Rattle.rules.specs.declared.Failure.{Failure}
use Rattle.rules.specs.Postings.{present}
use Rattle.rules.specs.Table.{capacity}
use Rattle.rules.specs.Orders.{Numbered, postings_of, change_numbers, Call}
use Rattle.rules.specs.Answers.{told_of, refuses, poisons, settled}
use Rattle.rules.specs.Checks.{lent_of, publish_checks, removal_checks, prepare_checks, rollback_checks}
use Rattle.rules.specs.Publication.{Stage, rolled_back}
use Rattle.rules.specs.Calls.{Outcome, shown, prepared, prepare_of, rollback_of, removal_of, publish_of}
use Rattle.laws.specs.Words.{postings_before, added, taken_away, nowhere, number_at, Quiet, class_of_number, is_refusal}
use Rattle.booleans.proofs.Tests.{clash}
use Rattle.laws.proofs.Flat.{well_formed_parts, used_postings, postings_laid_out}
use Rattle.laws.proofs.Answers.{class_by_number}
use Rattle.laws.proofs.Checks.{Says, prepare_proper, rollback_proper, removal_proper, publish_proper, lent_proper, publish_passed, removal_passed, Clear, prepare_clear, publish_clear}
use Rattle.laws.proofs.Prepare.{Cause, TakenBack, LeftBehind}
use Rattle.laws.proofs.Sets.{present_added, present_taken_away, present_said}
use Rattle.laws.proofs.Outcomes.{IsStopped, going, leaving, sources_gone, undid, removed_alone, Published, published, Prepares, prepares, RollsBack, rolls_back, Removes, removes}
use Rattle.history.specs.Upstream.{postings_left}
use Rattle.history.specs.Failures.{poisoned_with, gone_at, stuck, freed, SourceLeaves, PublishSourceLeaves, RemovalSourceLeaves, UndoLeaves, recorded_in, RollbackLeaves}
use Rattle.history.proofs.Acceptance.{stopped_fails, ready_quiet}
use Rattle.history.proofs.Leftovers.{halts_leaves, undoing_leaves, prepare_stops, fresh_take, fresh_at, stuck_list, stuck_each, freed_each, freed_none}

-- no check refuses with a number that tells another class
not_refused :
    {A : Type 0} (v : Result Unit Failure) (a : Failure) (n : ℕ) → Says is_refusal v → v ≡ Err a → (told_of (Err a)).answer ≡ n →
    refuses (class_of_number n) ≡ false → A
not_refused v a n p e h k =
    absurd (clash (is_refusal (Err a)) (p a e) (ap refuses (class_by_number (Err a) ∙ ap class_of_number h) ∙ k))

-- an insertion that failed says 10 or 11
cause_below : (byte used size change : ℕ) (why : Failure) → Cause byte used size change why → (told_of (Err why)).answer < 12
cause_below byte used size change why (Cause.store h) = omega arith
cause_below byte used size change why (Cause.full h k) = omega arith

module _ (head : Head) (table : List ℕ) (c : Call) where
  -- a strip that its check passes has no byte above 2
  proper_bytes_lem : lent_of c ≡ Ok tt → (i : ℕ) → byte_at c.strip i ≤ 2
  unfolding proper_strip
  proper_bytes_lem h i =
      byte_most c.strip i (and_elim_right (leb (length c.strip) most_bytes) (proper_bytes c.strip) (lent_proper _ _ _ h).1)

  publish_bytes : publish_checks head table c ≡ Ok tt → (i : ℕ) → byte_at c.strip i ≤ 2
  publish_bytes h = proper_bytes_lem (publish_passed head table c h).lent

  removal_bytes : removal_checks head table c ≡ Ok tt → (i : ℕ) → byte_at c.strip i ≤ 2
  removal_bytes h = proper_bytes_lem (removal_passed head table c h).1

  -- a stage that poisons, as it is shown
  shown_poisoned :
      (list : List ℕ) (s : Stage) (a : Result ℕ Failure) (ps : List Posting) → s.answer ≡ a → poisons a ≡ true → s.postings ≡ ps →
      shown head table list s ≡ poisoned_with head table list a ps
  shown_poisoned list s a ps e p k = rw (e, p, k)

  -- the postings that are left there
  poisoned_left :
      (list : List ℕ) (a : Result ℕ Failure) (ps : List Posting) (o : Outcome) → o ≡ poisoned_with head table list a ps → postings_left o ≡ ps
  poisoned_left list a ps o e = rw e (postings_laid_out (length table) ps)

  -- an outcome that is the one told is what the failure leaves
  source_leaves :
      (list : List ℕ) (ds : List Numbered) (j : ℕ) (o : Outcome) → j < length (leaving c) → Quiet c.strip 0 (length ds + j) →
      (byte_at c.strip (length ds + j) ≡ 0 → ⊥) →
      o ≡ poisoned_with head table list (Err (Failure.Source (number_at (leaving c) j))) (taken_away (take (gone_at (byte_at c.strip (length ds + j)) j) (leaving c)) (added ds (postings_before head table))) →
      SourceLeaves head table list c.strip ds (leaving c) o
  source_leaves list ds j o l q f e =
      record {
        at = j;
        there = l;
        quiet = q;
        fault = f;
        outcome = e;
        set = λ p. ap (present p) (poisoned_left list _ _ o e) ∙ present_said p ds (take (gone_at (byte_at c.strip (length ds + j)) j) (leaving c)) (postings_before head table);
      }

  -- a prepare that stopped says 10, 11 or 12
  stopped_below : IsStopped head table c → (told_of (prepared head table c).answer).answer < 13
  stopped_below s =
      ⊎_elim (λ t. let l = cause_below _ _ _ _ s.why s.cause in rw t.answers (omega arith)) (λ b. rw b.answers (omega arith)) s.undo

  -- 13 of publish
  pub publish_source_leaves :
      (told_of (publish_of head table c).answer).answer ≡ 13 → PublishSourceLeaves head table c (publish_of head table c)
  publish_source_leaves h = go (publish_of head table c) h (published head table c)
    where
      go : (o : Outcome) → (told_of o.answer).answer ≡ 13 → Published head table c o → PublishSourceLeaves head table c o
      go o n (Published.refused a e k) =
          not_refused (publish_checks head table c) a 13 (publish_proper head table c) e (rw k at n) refl
      go o n (Published.taken e r l k) = let z : ◌≡◌ {A = ℕ} 0 13 = rw k at n in absurd (omega arith)
      go o n (Published.halted e r l k) =
          source_leaves (written (change_numbers (going c)) c.record_list) (going c) l.at o l.there (ready_quiet head table c l.at r l.quiet) l.fault
          (k
          ∙ shown_poisoned _ (sources_gone head table c) _ _ l.answers refl
          (halts_leaves c.strip _ (leaving c) (length (going c)) l.at _ l.there l.quiet l.fault (publish_bytes e _)))
      go o n (Published.stopped e s k) = let l = stopped_below s in let z = rw k at n in absurd (omega arith)

  -- 13 of source removal
  pub removal_source_leaves :
      (told_of (removal_of head table c).answer).answer ≡ 13 → RemovalSourceLeaves head table c (removal_of head table c)
  unfolding added
  removal_source_leaves h = go (removal_of head table c) h (removes head table c)
    where
      go : (o : Outcome) → (told_of o.answer).answer ≡ 13 → Removes head table c o → RemovalSourceLeaves head table c o
      go o n (Removes.refused a e k) =
          not_refused (removal_checks head table c) a 13 (removal_proper head table c) e (rw k at n) refl
      go o n (Removes.cleared e r k) = let z : ◌≡◌ {A = ℕ} 0 13 = rw (k, r.answers) at n in absurd (omega arith)
      go o n (Removes.halted e r k) =
          source_leaves c.record_list [] r.at o r.there r.quiet r.fault
          (k
          ∙ shown_poisoned _ (removed_alone head table c) _ _ r.answers refl
          (halts_leaves c.strip _ (leaving c) 0 r.at _ r.there r.quiet r.fault (removal_bytes e _)))

  -- the postings that a prepare which stopped leaves
  stopped_list :
      Clear head table c → (s : IsStopped head table c) →
      (prepared head table c).postings ≡ added (stuck c.strip (s.at + 1) (take s.at (going c))) (postings_before head table)
  stopped_list k s =
      let w = well_formed_parts head table k.formed in
      let f = stopped_fails head table c k s in
      let u = used_postings head table w in
      let r = f.room in
      let z : 0 + s.at ≡ s.at = zero-add s.at in
      prepare_stops (capacity table) c.strip (going c) [] 0 (postings_before head table) s.at k.fresh s.there s.quiet (omega arith) (rw (z, u) f.fault)
      ∙ (undoing_leaves c.strip (take s.at (going c)) (Ok tt) (0 + s.at + 1) (added (take s.at (going c)) (postings_before head table))
      ∙ rw z
      (stuck_list c.strip (s.at + 1) (take s.at (going c)) (postings_before head table) (fresh_take s.at (going c) (postings_before head table) k.fresh) w.sorted))

  -- the postings at entry, and of the destinations before the failed insertion those whose undo byte is 1
  undo_set :
      (j : ℕ) (a : Result ℕ Failure) (o : Outcome) →
      o ≡ poisoned_with head table c.record_list a (added (stuck c.strip (j + 1) (take j (going c))) (postings_before head table)) →
      (p : Posting) →
      present p (postings_left o) ≡ (present p (postings_before head table) || present p (postings_of (stuck c.strip (j + 1) (take j (going c)))))
  undo_set j a o e p =
      ap (present p) (poisoned_left c.record_list a _ o e)
      ∙ present_added p (stuck c.strip (j + 1) (take j (going c))) (postings_before head table)

  -- each of these destinations by its own byte
  undo_each :
      Clear head table c → (j : ℕ) (a : Result ℕ Failure) (o : Outcome) →
      o ≡ poisoned_with head table c.record_list a (added (stuck c.strip (j + 1) (take j (going c))) (postings_before head table)) →
      j < length (going c) → (i : ℕ) → i < j →
      present (get_or (going c) i nowhere).posting (postings_left o) ≡ eqb (byte_at c.strip (j + 1 + (j - (i + 1)))) 1
  undo_each k j a o e h i l =
      let n : length (take j (going c)) ≡ j = length-take-le j (going c) (omega arith) in
      let m : i < length (take j (going c)) = omega arith in
      let g : get_or (take j (going c)) i nowhere ≡ get_or (going c) i nowhere = get_or-take j (going c) i nowhere l in
      let f = fresh_take j (going c) (postings_before head table) k.fresh in
      undo_set j a o e (get_or (going c) i nowhere).posting
      ∙ rw (fresh_at (going c) (postings_before head table) k.fresh i (omega arith))
      (rw (n, g) at (stuck_each c.strip (j + 1) (take j (going c)) (postings_before head table) f i m))

  -- a stopped prepare that says 12, as prepare and publish show it
  undo_leaves :
      Clear head table c → (s : IsStopped head table c) → (o : Outcome) → o ≡ shown head table c.record_list (prepared head table c) →
      (told_of o.answer).answer ≡ 12 → UndoLeaves head table c o
  undo_leaves k s o e n = ⊎_elim back left s.undo
    where
      back : TakenBack c.strip (0 + s.at + 1) (0 + s.at + 1 + (0 + s.at)) (postings_before head table) s.why (prepared head table c) → UndoLeaves head table c o
      back t =
          let l = cause_below _ _ _ _ s.why s.cause in
          let z = rw (e, t.answers) at n in
          absurd (omega arith)

      left : LeftBehind c.strip (0 + s.at + 1) (0 + s.at + 1 + (0 + s.at)) (number_at (going c) s.at) (postings_before head table) (prepared head table c) → UndoLeaves head table c o
      left b =
          let is = e ∙ shown_poisoned c.record_list (prepared head table c) _ _ b.answers refl (stopped_list k s) in
          record {
            at = s.at;
            fails = stopped_fails head table c k s;
            noisy = rw (zero-add s.at) at b.noisy;
            outcome = is;
            set = undo_set s.at _ o is;
            each = undo_each k s.at _ o is s.there;
          }

  -- 12 of prepare
  pub prepare_undo_leaves : (told_of (prepare_of head table c).answer).answer ≡ 12 → UndoLeaves head table c (prepare_of head table c)
  prepare_undo_leaves h = go (prepare_of head table c) h (prepares head table c)
    where
      go : (o : Outcome) → (told_of o.answer).answer ≡ 12 → Prepares head table c o → UndoLeaves head table c o
      go o n (Prepares.refused a e k) =
          not_refused (prepare_checks head table c) a 12 (prepare_proper head table c) e (rw k at n) refl
      go o n (Prepares.ready e r k) = let z : ◌≡◌ {A = ℕ} 0 12 = rw (k, r.answers) at n in absurd (omega arith)
      go o n (Prepares.stopped e s k) = undo_leaves (prepare_clear head table c e) s o k n

  -- 12 of publish
  pub publish_undo_leaves : (told_of (publish_of head table c).answer).answer ≡ 12 → UndoLeaves head table c (publish_of head table c)
  publish_undo_leaves h = go (publish_of head table c) h (published head table c)
    where
      go : (o : Outcome) → (told_of o.answer).answer ≡ 12 → Published head table c o → UndoLeaves head table c o
      go o n (Published.refused a e k) =
          not_refused (publish_checks head table c) a 12 (publish_proper head table c) e (rw k at n) refl
      go o n (Published.taken e r l k) = let z : ◌≡◌ {A = ℕ} 0 12 = rw k at n in absurd (omega arith)
      go o n (Published.halted e r l k) = let z : ◌≡◌ {A = ℕ} 13 12 = rw (k, l.answers) at n in absurd (omega arith)
      go o n (Published.stopped e s k) = undo_leaves (publish_clear head table c e) s o k n

  -- the postings at entry without the recorded destinations whose byte is not 1
  rollback_set :
      (a : Result ℕ Failure) (o : Outcome) →
      o ≡ poisoned_with head table c.record_list a (taken_away (freed c.strip 0 (recorded_in c)) (postings_before head table)) →
      (p : Posting) →
      present p (postings_left o) ≡ (present p (postings_before head table) && not (present p (postings_of (freed c.strip 0 (recorded_in c)))))
  rollback_set a o e p =
      ap (present p) (poisoned_left c.record_list a _ o e)
      ∙ present_taken_away p (freed c.strip 0 (recorded_in c)) (postings_before head table)

  -- 12 of rollback
  pub rollback_undo_leaves :
      (told_of (rollback_of head table c).answer).answer ≡ 12 → RollbackLeaves head table c (rollback_of head table c)
  rollback_undo_leaves h = go (rollback_of head table c) h (rolls_back head table c)
    where
      go : (o : Outcome) → (told_of o.answer).answer ≡ 12 → RollsBack head table c o → RollbackLeaves head table c o
      go o n (RollsBack.refused a e k) =
          not_refused (rollback_checks head table c) a 12 (rollback_proper head table c) e (rw k at n) refl
      go o n (RollsBack.clean e r k) = let z : ◌≡◌ {A = ℕ} 0 12 = rw (k, r.verdict) at n in absurd (omega arith)
      go o n (RollsBack.failed e r k) =
          let t = r.there in
          let m = length-reverse (recorded_in c) in
          let is =
          k
          ∙ shown_poisoned c.record_list (rolled_back (undid head table c)) _ _ (ap (λ v. settled v (Ok 0)) r.verdict) refl
          (undoing_leaves c.strip (recorded_in c) (Ok tt) 0 (postings_before head table))
          in record {
            at = r.at;
            there = omega arith;
            fault = rw (zero-add r.at) at r.fault;
            last = λ i h l. r.last i (omega arith) (omega arith);
            outcome = is;
            set = rollback_set _ o is;
            gone =
                λ i l f.
                rollback_set _ o is (get_or (recorded_in c) i nowhere).posting
                ∙ rw (freed_each c.strip 0 (recorded_in c) i l (rw (zero-add (length (recorded_in c) - (i + 1))) f)) (and-false (present (get_or (recorded_in c) i nowhere).posting (postings_before head table)));
            stays = λ p l f. rollback_set _ o is p ∙ rw (l, freed_none c.strip 0 (recorded_in c) p (λ i m s. rw (zero-add (length (recorded_in c) - (i + 1))) (f i m s)));
          }
