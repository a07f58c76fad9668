-- Upstream's clauses hold of every outcome, and prepare and rollback undo each other exactly.
use Rattle.std.proofs.Common.{Result, Ok, Err, ℕ}
use Prim.Native.Nat.{ℕ}
use native.Mathlib.Nat.{zero-add}
use mathlib.Core.Path.{◌≡◌, refl, sym, ap, ◌∙◌}
use mathlib.Core.List.{List, []}
use mathlib.Core.Bool.{true, false, cond, not, ◌&&◌, ◌||◌}
use mathlib.Core.Logic.{⊎_elim}
use lib.ListN.{length, length-map}
use Rattle.lent_lists.specs.Written.{written}
use Rattle.rules.specs.declared.Posting.{Posting}
use Rattle.rules.specs.declared.Change.{Change}
use Rattle.rules.specs.declared.Head.{Head}
use Rattle.rules.specs.declared.Failure.{Failure}
use Rattle.rules.specs.Postings.{present}
use Rattle.rules.specs.Table.{capacity, postings, laid_out}
use Rattle.rules.specs.Orders.{Numbered, destinations, sources, postings_of, change_numbers, recorded, Call, changes_of}
use Rattle.rules.specs.Answers.{is_accepted, poisons}
use Rattle.rules.specs.Checks.{prepare_checks, rollback_checks, removal_checks}
use Rattle.rules.specs.Publication.{Stage, rolled_back}
use Rattle.rules.specs.Calls.{Outcome, as_before, unless_refused, shown, prepared, prepare_of, rollback_of, removal_of}
use Rattle.laws.specs.Words.{postings_before, is_refusal, added, taken_away, RemovedOnly, Stable, is_unchanged}
use Rattle.booleans.proofs.Tests.{clash}
use Rattle.laws.proofs.Flat.{postings_laid_out}
use Rattle.laws.proofs.Answers.{Kind, kind, refusal_unchanged, unchanged_accepts_not}
use Rattle.laws.proofs.Steps.{removed_only_same}
use Rattle.laws.proofs.Undo.{undo_removes}
use Rattle.laws.proofs.Prepare.{prepare_inside}
use Rattle.laws.proofs.Remove.{remove_removes}
use Rattle.laws.proofs.Checks.{Says, prepare_proper, rollback_proper, removal_proper, arriving_parts, prepare_passed, rollback_passed, removal_passed}
use Rattle.laws.proofs.Names.{guard_passes, twice_passes, present_passes, record_passes}
use Rattle.laws.proofs.Calls.{prepare_as_before, rollback_as_before, removal_as_before, prepare_stable, rollback_stable, removal_stable}
use Rattle.laws.proofs.Records.{recorded_numbers, rising_numbers, among_numbers, record_taken, present_reverse}
use Rattle.laws.proofs.Sets.{present_added, present_taken_away}
use Rattle.laws.proofs.Outcomes.{going, leaving, recorded_back, undid, removed_alone, stop_not_accepted, Prepares, prepares, RollsBack, rolls_back, Removes, removes}
use Rattle.history.specs.Upstream.{postings_left, Valid, UniqueDestinations, Disjoint, ValidIndices, Errors, RollbackClauses, PrepareClauses, RemovalClauses, PrefixRecord}

pub prefix_record : (cs : List Change) → PrefixRecord cs (change_numbers (destinations cs))
prefix_record cs =
    record {
      indices = record_taken cs;
      ascends = rising_numbers cs;
      contains = among_numbers cs;
      names = recorded_numbers cs;
    }

-- an answer that is neither accepted nor poisoning leaves all as before
other_unchanged : (a : Result ℕ Failure) → is_accepted a ≡ false → poisons a ≡ false → is_unchanged a ≡ true
other_unchanged a h k = go a h k (kind a)
  where
    go : (b : Result ℕ Failure) → is_accepted b ≡ false → poisons b ≡ false → Kind b → is_unchanged b ≡ true
    go b x y (Kind.taken n) = absurd (clash true refl x)
    go b x y (Kind.kept u n p) = u
    go b x y (Kind.broken u n p) = absurd (clash (poisons b) p y)

module _ (head : Head) (table : List ℕ) (c : Call) where
  errors_of :
      (o : Outcome) → Stable head table o →
      (is_unchanged o.answer ≡ true → o ≡ as_before head table c.record_list o.answer) → Errors head table c o
  errors_of o s f =
      record { poisoned = λ p. s.flag ∙ rw p; others = λ h k. f (other_unchanged o.answer h k) }

  accepted_flag : (o : Outcome) → Stable head table o → is_accepted o.answer ≡ true → o.head.poisoned ≡ head.poisoned
  accepted_flag o s h = s.flag ∙ go o.answer h (kind o.answer)
    where
      go : (a : Result ℕ Failure) → is_accepted a ≡ true → Kind a → cond (poisons a) 1 head.poisoned ≡ head.poisoned
      go a x (Kind.taken n) = refl
      go a x (Kind.kept u n p) = absurd (clash (is_accepted a) x n)
      go a x (Kind.broken u n p) = absurd (clash (is_accepted a) x n)

  -- the postings that a stage shows are the ones that are left
  shown_left :
      (P : List Posting → Type 0) (s : Stage) → P s.postings →
      P (postings (length s.postings) (laid_out (length table) s.postings))
  shown_left P s h = rw (postings_laid_out (length table) s.postings) h

  unless_left :
      (P : List Posting → Type 0) (v : Result Unit Failure) (list : List ℕ) (s : Stage) → P (postings_before head table) → P s.postings →
      P (postings_left (unless_refused v (as_before head table c.record_list) (shown head table list s)))
  unless_left P (Ok _) list s h k = shown_left P s k
  unless_left P (Err a) list s h k = h

  refused_not :
      {A : Type 0} (v : Result Unit Failure) (o : Outcome) (a : Failure) → Says is_refusal v → v ≡ Err a →
      o ≡ as_before head table c.record_list (Err a) → is_accepted o.answer ≡ true → A
  refused_not v o a p e k h =
      absurd (clash (is_accepted (Err a)) (rw k at h) (unchanged_accepts_not (Err a) (refusal_unchanged (Err a) (p a e))))

  -- a call that no check refused has passed them all
  pub unless_passes :
      (v : Result Unit Failure) (o : Outcome) → Says is_refusal v →
      is_refusal (unless_refused v (as_before head table c.record_list) o).answer ≡ false → v ≡ Ok tt
  unless_passes (Ok _) o p h = refl
  unless_passes (Err a) o p h = absurd (clash (is_refusal (Err a)) (p a refl) h)

  rollback_passes : is_refusal (rollback_of head table c).answer ≡ false → rollback_checks head table c ≡ Ok tt
  unfolding rollback_of
  rollback_passes h = unless_passes (rollback_checks head table c) _ (rollback_proper head table c) h

  prepare_passes : is_refusal (prepare_of head table c).answer ≡ false → prepare_checks head table c ≡ Ok tt
  unfolding prepare_of
  prepare_passes h = unless_passes (prepare_checks head table c) _ (prepare_proper head table c) h

  removal_passes : is_refusal (removal_of head table c).answer ≡ false → removal_checks head table c ≡ Ok tt
  unfolding removal_of
  removal_passes h = unless_passes (removal_checks head table c) _ (removal_proper head table c) h

  -- what a call that was accepted leaves
  rollback_accepted :
      is_accepted (rollback_of head table c).answer ≡ true →
      postings_left (rollback_of head table c) ≡ taken_away (recorded_back c) (postings_before head table)
  rollback_accepted h = go (rollback_of head table c) h (rolls_back head table c)
    where
      go :
          (o : Outcome) → is_accepted o.answer ≡ true → RollsBack head table c o →
          postings_left o ≡ taken_away (recorded_back c) (postings_before head table)
      go o u (RollsBack.refused a e k) = refused_not (rollback_checks head table c) o a (rollback_proper head table c) e k u
      go o u (RollsBack.clean e r k) =
          rw k (shown_left (λ l. l ≡ taken_away (recorded_back c) (postings_before head table)) (rolled_back (undid head table c)) r.leaves)
      go o u (RollsBack.failed e r k) = absurd (clash (is_accepted o.answer) u (rw (k, r.verdict)))

  removal_accepted :
      is_accepted (removal_of head table c).answer ≡ true →
      postings_left (removal_of head table c) ≡ taken_away (leaving c) (postings_before head table)
  removal_accepted h = go (removal_of head table c) h (removes head table c)
    where
      go :
          (o : Outcome) → is_accepted o.answer ≡ true → Removes head table c o →
          postings_left o ≡ taken_away (leaving c) (postings_before head table)
      go o u (Removes.refused a e k) = refused_not (removal_checks head table c) o a (removal_proper head table c) e k u
      go o u (Removes.cleared e r k) =
          rw k (shown_left (λ l. l ≡ taken_away (leaving c) (postings_before head table)) (removed_alone head table c) r.leaves)
      go o u (Removes.halted e r k) = absurd (clash (is_accepted o.answer) u (rw (k, r.answers)))

  pub record PreparedWell (o : Outcome) : Type 0 where
    pub passes : prepare_checks head table c ≡ Ok tt
    pub postings : postings_left o ≡ added (going c) (postings_before head table)
    pub named : o.answer ≡ Ok (length (going c))
    pub whole : o ≡ shown head table (written (change_numbers (going c)) c.record_list) (prepared head table c)
    pub leaves : (prepared head table c).postings ≡ added (going c) (postings_before head table)

  pub prepare_accepted : is_accepted (prepare_of head table c).answer ≡ true → PreparedWell (prepare_of head table c)
  prepare_accepted h = go (prepare_of head table c) h (prepares head table c)
    where
      go : (o : Outcome) → is_accepted o.answer ≡ true → Prepares head table c o → PreparedWell o
      go o u (Prepares.refused a e k) = refused_not (prepare_checks head table c) o a (prepare_proper head table c) e k u
      go o u (Prepares.ready e r k) =
          record {
            passes = e;
            postings = rw k (shown_left (λ l. l ≡ added (going c) (postings_before head table)) (prepared head table c) r.leaves);
            named = ap (λ (x : Outcome). x.answer) k ∙ (r.answers ∙ ap Ok (zero-add (length (going c))));
            whole = k;
            leaves = r.leaves;
          }
      go o u (Prepares.stopped e s k) = absurd (clash (is_accepted o.answer) u (rw k (stop_not_accepted head table c s)))

  -- rollback_index_destinations
  rollback_removes : RemovedOnly (postings_before head table) (postings_left (rollback_of head table c)) (postings_of (recorded (changes_of c) c.record_list))
  unfolding rollback_of
  rollback_removes =
      unless_left (λ l. RemovedOnly (postings_before head table) l (postings_of (recorded (changes_of c) c.record_list))) (rollback_checks head table c) c.record_list
      (rolled_back (undid head table c))
      (removed_only_same (postings_before head table) _)
      (turned (undo_removes c.strip (recorded_back c) (Ok tt) 0 (postings_before head table)))
    where
      turned :
          RemovedOnly (postings_before head table) (undid head table c).postings (postings_of (recorded_back c)) →
          RemovedOnly (postings_before head table) (undid head table c).postings (postings_of (recorded (changes_of c) c.record_list))
      turned r =
          record {
            inside = r.inside;
            kept = λ p h k. r.kept p h (present_reverse p (recorded (changes_of c) c.record_list) ∙ k);
          }

  rollback_valid : rollback_checks head table c ≡ Ok tt → Valid head table c × ValidIndices head table c
  rollback_valid h =
      let p = rollback_passed head table c h in
      (guard_passes _ _ _ p.2, record_passes _ _ p.3)

  pub rollback_clauses : RollbackClauses head table c (rollback_of head table c)
  rollback_clauses =
      record {
        requires_valid = λ h. (rollback_valid (rollback_passes h)).0;
        requires_indices = λ h. (rollback_valid (rollback_passes h)).1;
        stable = rollback_stable head table c;
        ok_flag = accepted_flag (rollback_of head table c) (rollback_stable head table c);
        ok_postings = λ h p.
            ap (present p) (rollback_accepted h)
            ∙ (present_taken_away p (recorded_back c) (postings_before head table)
            ∙ ap (λ b. present p (postings_before head table) && not b) (present_reverse p (recorded (changes_of c) c.record_list)));
        errors = errors_of (rollback_of head table c) (rollback_stable head table c) (rollback_as_before head table c);
        removed_only = rollback_removes;
      }

  -- prepare_index_destinations
  prepare_valid :
      prepare_checks head table c ≡ Ok tt → Valid head table c × UniqueDestinations head table c × Disjoint head table c
  prepare_valid h =
      let p = prepare_passed head table c h in
      let a = arriving_parts _ _ p.arriving in
      (guard_passes _ _ _ p.guarding, twice_passes _ a.0, present_passes _ _ a.1)

  prepare_keeps :
      (p : Posting) → present p (postings_before head table) ≡ true → present p (postings_left (prepare_of head table c)) ≡ true
  prepare_keeps p h = go (prepare_of head table c) (prepares head table c)
    where
      go : (o : Outcome) → Prepares head table c o → present p (postings_left o) ≡ true
      go o (Prepares.refused a e k) = rw k h
      go o (Prepares.ready e r k) =
          rw k
          (shown_left (λ l. present p l ≡ true) (prepared head table c)
          (rw (r.leaves, present_added p (going c) (postings_before head table), h)))
      go o (Prepares.stopped e s k) =
          rw k
          (shown_left (λ l. present p l ≡ true) (prepared head table c)
          (⊎_elim (λ t. rw t.leaves h) (λ l. l.keeps p h) s.undo))

  prepare_within :
      (p : Posting) → present p (postings_left (prepare_of head table c)) ≡ true →
      (present p (postings_before head table) || present p (postings_of (destinations (changes_of c)))) ≡ true
  unfolding prepare_of
  prepare_within p =
      unless_left (λ l. present p l ≡ true → (present p (postings_before head table) || present p (postings_of (destinations (changes_of c)))) ≡ true) (prepare_checks head table c) _
      (prepared head table c)
      (λ h. rw h)
      (λ h. prepare_inside (capacity table) c.strip (going c) [] 0 (postings_before head table) p h)

  pub prepare_clauses : PrepareClauses head table c (prepare_of head table c)
  prepare_clauses =
      record {
        requires_valid = λ h. (prepare_valid (prepare_passes h)).0;
        requires_unique = λ h. (prepare_valid (prepare_passes h)).1;
        requires_disjoint = λ h. (prepare_valid (prepare_passes h)).2;
        stable = prepare_stable head table c;
        ok_flag = accepted_flag (prepare_of head table c) (prepare_stable head table c);
        ok_postings = λ h p. ap (present p) (prepare_accepted h).postings ∙ present_added p (going c) (postings_before head table);
        ok_record = λ h. ap (λ (o : Outcome). o.record_list) (prepare_accepted h).whole;
        ok_named = λ h. (prepare_accepted h).named ∙ ap Ok (sym (length-map (going c) (λ (d : Numbered). d.number)));
        errors = errors_of (prepare_of head table c) (prepare_stable head table c) (prepare_as_before head table c);
        keeps = prepare_keeps;
        inside = prepare_within;
      }

  -- remove_index_sources
  removal_valid : removal_checks head table c ≡ Ok tt → Valid head table c
  removal_valid h = guard_passes _ _ _ (removal_passed head table c h).2

  removal_removes : RemovedOnly (postings_before head table) (postings_left (removal_of head table c)) (postings_of (sources (changes_of c)))
  unfolding removal_of
  removal_removes =
      unless_left (λ l. RemovedOnly (postings_before head table) l (postings_of (sources (changes_of c)))) (removal_checks head table c) c.record_list
      (removed_alone head table c)
      (removed_only_same (postings_before head table) _)
      (remove_removes c.strip (Ok 0) (leaving c) 0 (postings_before head table))

  pub removal_clauses : RemovalClauses head table c (removal_of head table c)
  removal_clauses =
      record {
        requires_valid = λ h. removal_valid (removal_passes h);
        stable = removal_stable head table c;
        ok_flag = accepted_flag (removal_of head table c) (removal_stable head table c);
        ok_postings = λ h p. ap (present p) (removal_accepted h) ∙ present_taken_away p (leaving c) (postings_before head table);
        errors = errors_of (removal_of head table c) (removal_stable head table c) (removal_as_before head table c);
        removed_only = removal_removes;
      }
