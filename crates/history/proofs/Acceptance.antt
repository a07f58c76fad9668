-- The acceptance law. The run of a publish shows how it ends; and how it ends is one thing only, so each answer is given exactly
-- where its condition holds.
use Rattle.std.proofs.Common.{Result, Ok, Err, ℕ}
use Prim.Native.Nat.{ℕ, ◌+◌, ◌≤◌, ◌<◌}
use native.Mathlib.Nat.{zero-add}
use native.Mathlib.Omega.{arith}
use mathlib.Core.Path.{◌≡◌, refl, ap, sym, ◌∙◌}
use mathlib.Core.List.{List, []}
use mathlib.Core.Bool.{true, false}
use mathlib.Core.Logic.{◌↔◌, ◌⊎◌, inl, inr, ⊎_elim}
use lib.ListN.{length}
use Rattle.strips.specs.Strips.{byte_at}
use Rattle.rules.specs.declared.Head.{Head}
use Rattle.rules.specs.declared.Failure.{Failure}
use Rattle.rules.specs.Postings.{counted, ascending}
use Rattle.rules.specs.Table.{postings, capacity, laid_out}
use Rattle.rules.specs.Orders.{Numbered, Call}
use Rattle.rules.specs.Answers.{settled, is_accepted}
use Rattle.rules.specs.Checks.{count_checks, prepare_checks, rollback_checks, removal_checks, publish_checks}
use Rattle.rules.specs.Calls.{count_of, Outcome, prepared, prepare_of, rollback_of, removal_of, publish_of}
use Rattle.laws.specs.Words.{postings_before, added, taken_away, number_at, Quiet, Noisy, is_refusal}
use Rattle.booleans.proofs.Tests.{impossible, clash}
use Rattle.laws.proofs.Flat.{well_formed_parts, used_postings, postings_laid_out}
use Rattle.laws.proofs.Answers.{refusal_unchanged, unchanged_accepts_not}
use Rattle.laws.proofs.Checks.{Says, publish_proper, Clear, prepare_clear, publish_clear}
use Rattle.laws.proofs.Undo.{quiet_join, not_quiet}
use Rattle.laws.proofs.Prepare.{Cause, TakenBack, LeftBehind}
use Rattle.laws.proofs.Outcomes.{IsReady, IsStopped, going, leaving, recorded_back, stop_not_accepted, Published, published, Prepares, prepares, RollsBack, rolls_back, Removes, removes}
use Rattle.laws.proofs.Outcomes as outcome
use Rattle.laws.proofs.Sets.{present_said, said_list}
use Rattle.history.specs.Acceptance.{Acceptable, Fails, Ends, RollbackEnds, RemovalEnds, Answered, PublishAnswers, PrepareAnswers, RollbackAnswers, RemovalAnswers, CountAnswers, Leaves}

module _ (capacity used : ℕ) (strip : List ℕ) (ds ss : List Numbered) where
  -- the first insertion to fail is one
  fails_before : (k l : ℕ) → Fails capacity used strip ds k → Fails capacity used strip ds l → k < l → ⊥
  fails_before k l f g h =
      ⊎_elim (λ b. b (g.quiet k (omega arith) h)) (λ e. let r = g.room in omega arith) f.fault

  fails_one : (k l : ℕ) → Fails capacity used strip ds k → Fails capacity used strip ds l → k ≡ l
  fails_one k l f g = let under = fails_before k l f g in let over = fails_before l k g f in omega arith

  -- and with room and quiet for all there is none
  fails_not : (n k : ℕ) → used + length ds ≤ capacity → Quiet strip 0 (length ds + n) → Fails capacity used strip ds k → ⊥
  fails_not n k r q f =
      let t = f.there in
      ⊎_elim (λ b. b (q k (omega arith) (omega arith))) (λ e. omega arith) f.fault

  halts_before : (i j : ℕ) → Quiet strip 0 (length ds + j) → (byte_at strip (length ds + i) ≡ 0 → ⊥) → i < j → ⊥
  halts_before i j q b h = b (q (length ds + i) (omega arith) (omega arith))

  halts_one :
      (i j : ℕ) → Quiet strip 0 (length ds + i) → (byte_at strip (length ds + i) ≡ 0 → ⊥) → Quiet strip 0 (length ds + j) →
      (byte_at strip (length ds + j) ≡ 0 → ⊥) → i ≡ j
  halts_one i j p b q e = let under = halts_before i j q b in let over = halts_before j i p e in omega arith

  abbrev End : Result ℕ Failure → Type 0
  End = Ends capacity used strip ds ss

  -- a quiet undo is not a noisy one
  undo_not : (k l : ℕ) → k ≡ l → Quiet strip (k + 1) (k + 1 + k) → Noisy strip (l + 1) (l + 1 + l) → ⊥
  undo_not k l e q n = not_quiet strip (l + 1) (l + 1 + l) n (rw e at q)

  byte_not : (k l : ℕ) → k ≡ l → (byte_at strip k ≡ 0 → ⊥) → byte_at strip l ≡ 0 → ⊥
  byte_not k l e b z = b (rw e z)

  pub ends_one : (a b : Result ℕ Failure) → End a → End b → a ≡ b
  ends_one a b (Ends.accepted r q) (Ends.accepted r' q') = refl
  ends_one a b (Ends.accepted r q) (Ends.store k f x u) = absurd (fails_not (length ss) k r q f)
  ends_one a b (Ends.accepted r q) (Ends.full k f x u) = absurd (fails_not (length ss) k r q f)
  ends_one a b (Ends.accepted r q) (Ends.undo k f u) = absurd (fails_not (length ss) k r q f)
  ends_one a b (Ends.accepted r q) (Ends.source j h r' q' x) = absurd (halts_before j (length ss) q x h)
  ends_one a b (Ends.store k f x u) (Ends.accepted r q) = absurd (fails_not (length ss) k r q f)
  ends_one a b (Ends.store k f x u) (Ends.store l g y v) = ap (λ i. Err (Failure.Store (number_at ds i))) (fails_one k l f g)
  ends_one a b (Ends.store k f x u) (Ends.full l g y v) = absurd (byte_not k l (fails_one k l f g) x y)
  ends_one a b (Ends.store k f x u) (Ends.undo l g v) = absurd (undo_not k l (fails_one k l f g) u v)
  ends_one a b (Ends.store k f x u) (Ends.source j h r q y) = absurd (fails_not j k r q f)
  ends_one a b (Ends.full k f x u) (Ends.accepted r q) = absurd (fails_not (length ss) k r q f)
  ends_one a b (Ends.full k f x u) (Ends.store l g y v) = absurd (byte_not l k (fails_one l k g f) y x)
  ends_one a b (Ends.full k f x u) (Ends.full l g y v) = ap (λ i. Err (Failure.Full (number_at ds i))) (fails_one k l f g)
  ends_one a b (Ends.full k f x u) (Ends.undo l g v) = absurd (undo_not k l (fails_one k l f g) u v)
  ends_one a b (Ends.full k f x u) (Ends.source j h r q y) = absurd (fails_not j k r q f)
  ends_one a b (Ends.undo k f u) (Ends.accepted r q) = absurd (fails_not (length ss) k r q f)
  ends_one a b (Ends.undo k f u) (Ends.store l g y v) = absurd (undo_not l k (fails_one l k g f) v u)
  ends_one a b (Ends.undo k f u) (Ends.full l g y v) = absurd (undo_not l k (fails_one l k g f) v u)
  ends_one a b (Ends.undo k f u) (Ends.undo l g v) = ap (λ i. Err (Failure.Undo (number_at ds i))) (fails_one k l f g)
  ends_one a b (Ends.undo k f u) (Ends.source j h r q y) = absurd (fails_not j k r q f)
  ends_one a b (Ends.source i h r q x) (Ends.accepted r' q') = absurd (halts_before i (length ss) q' x h)
  ends_one a b (Ends.source i h r q x) (Ends.store k f y u) = absurd (fails_not i k r q f)
  ends_one a b (Ends.source i h r q x) (Ends.full k f y u) = absurd (fails_not i k r q f)
  ends_one a b (Ends.source i h r q x) (Ends.undo k f u) = absurd (fails_not i k r q f)
  ends_one a b (Ends.source i h r q x) (Ends.source j k r' q' y) = ap (λ n. Err (Failure.Source (number_at ss n))) (halts_one i j q x q' y)

  -- none of them accepts but the first
  accepted_ends :
      (a : Result ℕ Failure) → is_accepted a ≡ true → End a → (used + length ds ≤ capacity) × Quiet strip 0 (length ds + length ss)
  accepted_ends a h (Ends.accepted r q) = (r, q)
  accepted_ends a h (Ends.store k f x u) = absurd (clash false h refl)
  accepted_ends a h (Ends.full k f x u) = absurd (clash false h refl)
  accepted_ends a h (Ends.undo k f u) = absurd (clash false h refl)
  accepted_ends a h (Ends.source j k r q x) = absurd (clash false h refl)

-- the last removal to fail is one, and so is the first
module _ (strip : List ℕ) (items : List Numbered) where
  pub rollback_ends_one : (a b : Result ℕ Failure) → RollbackEnds strip items a → RollbackEnds strip items b → a ≡ b
  rollback_ends_one a b (RollbackEnds.accepted q) (RollbackEnds.accepted r) = refl
  rollback_ends_one a b (RollbackEnds.accepted q) (RollbackEnds.undo k h x l) = absurd (x (q k (omega arith) h))
  rollback_ends_one a b (RollbackEnds.undo k h x l) (RollbackEnds.accepted q) = absurd (x (q k (omega arith) h))
  rollback_ends_one a b (RollbackEnds.undo k h x l) (RollbackEnds.undo k' h' x' l') =
      let under : k < k' → ⊥ = λ e. x' (l k' (omega arith) h') in
      let over : k' < k → ⊥ = λ e. x (l' k (omega arith) h) in
      ap (λ i. Err (Failure.Undo (number_at items i))) (omega arith)

  pub removal_ends_one : (a b : Result ℕ Failure) → RemovalEnds strip items a → RemovalEnds strip items b → a ≡ b
  removal_ends_one a b (RemovalEnds.accepted q) (RemovalEnds.accepted r) = refl
  removal_ends_one a b (RemovalEnds.accepted q) (RemovalEnds.source j h l x) = absurd (x (q j (omega arith) h))
  removal_ends_one a b (RemovalEnds.source j h l x) (RemovalEnds.accepted q) = absurd (x (q j (omega arith) h))
  removal_ends_one a b (RemovalEnds.source j h l x) (RemovalEnds.source j' h' l' x') =
      let under : j < j' → ⊥ = λ e. x (l' j (omega arith) e) in
      let over : j' < j → ⊥ = λ e. x' (l j' (omega arith) e) in
      ap (λ i. Err (Failure.Source (number_at items i))) (omega arith)

-- where the checks are of a kind and the ends exclude each other, each answer is given exactly where its condition holds
refused_one : (v : Result Unit Failure) (a b : Failure) → v ≡ Err a → v ≡ Err b → a ≡ b
refused_one v a b p q = cc

refused_not : {A : Type 0} (v : Result Unit Failure) (a : Failure) → v ≡ Err a → v ≡ Ok tt → A
refused_not v a p q = impossible (cc)

answered_one :
    (v : Result Unit Failure) (E : Result ℕ Failure → Type 0) → ((a b : Result ℕ Failure) → E a → E b → a ≡ b) → (a b : Result ℕ Failure) → Answered v E a →
    Answered v E b → a ≡ b
answered_one v E f a b (Answered.refused x p) (Answered.refused y q) = ap Err (refused_one v x y p q)
answered_one v E f a b (Answered.refused x p) (Answered.ended _ q e) = refused_not v x p q
answered_one v E f a b (Answered.ended _ p e) (Answered.refused y q) = refused_not v y q p
answered_one v E f a b (Answered.ended _ p d) (Answered.ended _ q e) = f a b d e

exactly :
    (v : Result Unit Failure) (E : Result ℕ Failure → Type 0) → ((a b : Result ℕ Failure) → E a → E b → a ≡ b) → (given : Result ℕ Failure) → Answered v E given →
    (a : Result ℕ Failure) → (given ≡ a) ↔ Answered v E a
exactly v E f given h a = ((λ e. rw e at h), (λ k. answered_one v E f given a h k))

-- an accepted answer is no check's
accepted_passes :
    (v : Result Unit Failure) (E : Result ℕ Failure → Type 0) → Says is_refusal v → (a : Result ℕ Failure) → is_accepted a ≡ true → Answered v E a →
    (v ≡ Ok tt) × E a
accepted_passes v E p a h (Answered.refused why e) =
    absurd (clash (is_accepted (Err why)) h (unchanged_accepts_not (Err why) (refusal_unchanged (Err why) (p why e))))
accepted_passes v E p a h (Answered.ended _ e k) = (e, k)

module _ (head : Head) (table : List ℕ) (c : Call) where
  used_start : Clear head table c → length (postings_before head table) ≡ head.used
  used_start k = used_postings head table (well_formed_parts head table k.formed)

  ready_room : Clear head table c → IsReady head table c → head.used + length (going c) ≤ capacity table
  ready_room k r = let u = used_start k in let l = r.room in omega arith

  -- the insertion that stopped prepare is the first to fail
  pub stopped_fails :
      Clear head table c → (s : IsStopped head table c) → Fails (capacity table) head.used c.strip (going c) s.at
  stopped_fails k s =
      record {
        there = s.there;
        quiet = λ i h l. s.quiet i h (omega arith);
        room = let u = used_start k in let r = s.room in omega arith;
        fault = go s.why s.cause;
      }
    where
      go :
          (why : Failure) →
          Cause (byte_at c.strip (0 + s.at)) (length (postings_before head table) + s.at) (capacity table) (number_at (going c) s.at) why →
          (byte_at c.strip s.at ≡ 0 → ⊥) ⊎ (head.used + s.at ≡ capacity table)
      go why (Cause.store b) = inl (rw (zero-add s.at) at b)
      go why (Cause.full b e) = let u = used_start k in inr (omega arith)

  -- and its undo is clean or not
  stopped_ends :
      (ss : List Numbered) → Clear head table c → IsStopped head table c →
      Ends (capacity table) head.used c.strip (going c) ss (prepared head table c).answer
  stopped_ends ss k s = go s.why s.cause s.undo
    where
      z : 0 + s.at ≡ s.at
      z = zero-add s.at

      f : Fails (capacity table) head.used c.strip (going c) s.at
      f = stopped_fails k s

      go :
          (why : Failure) →
          Cause (byte_at c.strip (0 + s.at)) (length (postings_before head table) + s.at) (capacity table) (number_at (going c) s.at) why →
          TakenBack c.strip (0 + s.at + 1) (0 + s.at + 1 + (0 + s.at)) (postings_before head table) why (prepared head table c) ⊎ LeftBehind c.strip (0 + s.at + 1) (0 + s.at + 1 + (0 + s.at)) (number_at (going c) s.at) (postings_before head table) (prepared head table c) →
          Ends (capacity table) head.used c.strip (going c) ss (prepared head table c).answer
      go why (Cause.store b) u =
          ⊎_elim (λ t. rw t.answers (Ends.store s.at f (rw z at b) (rw z at t.quiet))) (λ l. rw l.answers (Ends.undo s.at f (rw z at l.noisy))) u
      go why (Cause.full b e) u =
          ⊎_elim (λ t. rw t.answers (Ends.full s.at f (rw z at b) (rw z at t.quiet))) (λ l. rw l.answers (Ends.undo s.at f (rw z at l.noisy))) u

  -- the bytes of all insertions, and then those of source removals
  pub ready_quiet :
      (n : ℕ) → IsReady head table c → Quiet c.strip (length (going c)) (length (going c) + n) →
      Quiet c.strip 0 (length (going c) + n)
  ready_quiet n r q =
      quiet_join c.strip 0 (length (going c)) (length (going c) + n) (λ i h k. r.quiet i h (omega arith)) q

  -- every call is answered as told
  pub publish_answered : PublishAnswers head table c (publish_of head table c).answer
  publish_answered = go (publish_of head table c) (published head table c)
    where
      go : (o : Outcome) → Published head table c o → PublishAnswers head table c o.answer
      go o (Published.refused a e k) = rw k (Answered.refused _ e)
      go o (Published.taken e r l k) =
          rw k
          (Answered.ended _ e
          (Ends.accepted (ready_room (publish_clear head table c e) r) (ready_quiet (length (leaving c)) r l.quiet)))
      go o (Published.halted e r l k) =
          rw (k, l.answers)
          (Answered.ended _ e
          (Ends.source l.at l.there (ready_room (publish_clear head table c e) r) (ready_quiet l.at r l.quiet) l.fault))
      go o (Published.stopped e s k) = rw k (Answered.ended _ e (stopped_ends (leaving c) (publish_clear head table c e) s))

  pub prepare_answered : PrepareAnswers head table c (prepare_of head table c).answer
  prepare_answered = go (prepare_of head table c) (prepares head table c)
    where
      go : (o : Outcome) → Prepares head table c o → PrepareAnswers head table c o.answer
      go o (Prepares.refused a e k) = rw k (Answered.refused _ e)
      go o (Prepares.ready e r k) =
          let n : 0 + length (going c) ≡ length (going c) = zero-add (length (going c)) in
          rw (k, r.answers, n)
          (Answered.ended _ e
          (Ends.accepted (ready_room (prepare_clear head table c e) r) (ready_quiet 0 r λ i h l. absurd (omega arith))))
      go o (Prepares.stopped e s k) = rw k (Answered.ended _ e (stopped_ends [] (prepare_clear head table c e) s))

  pub rollback_answered : RollbackAnswers head table c (rollback_of head table c).answer
  rollback_answered = go (rollback_of head table c) (rolls_back head table c)
    where
      go : (o : Outcome) → RollsBack head table c o → RollbackAnswers head table c o.answer
      go o (RollsBack.refused a e k) = rw k (Answered.refused _ e)
      go o (RollsBack.clean e r k) =
          rw (k, r.verdict) (Answered.ended _ e (RollbackEnds.accepted λ i h l. r.quiet i h (omega arith)))
      go o (RollsBack.failed e r k) =
          let z : 0 + r.at ≡ r.at = zero-add r.at in
          rw (k, r.verdict)
          (Answered.ended _ e (RollbackEnds.undo r.at r.there (rw z at r.fault) λ i h l. r.last i (omega arith) (omega arith)))

  pub removal_answered : RemovalAnswers head table c (removal_of head table c).answer
  removal_answered = go (removal_of head table c) (removes head table c)
    where
      go : (o : Outcome) → Removes head table c o → RemovalAnswers head table c o.answer
      go o (Removes.refused a e k) = rw k (Answered.refused _ e)
      go o (Removes.cleared e r k) =
          rw (k, r.answers) (Answered.ended _ e (RemovalEnds.accepted λ i h l. r.quiet i h (omega arith)))
      go o (Removes.halted e r k) =
          let z : 0 + r.at ≡ r.at = zero-add r.at in
          rw (k, r.answers)
          (Answered.ended _ e (RemovalEnds.source r.at r.there (λ i h l. r.quiet i h (omega arith)) (rw z at r.fault)))

  -- THE ACCEPTANCE LAW: each answer of each call is given exactly where its condition holds
  pub publish_exactly : (a : Result ℕ Failure) → ((publish_of head table c).answer ≡ a) ↔ PublishAnswers head table c a
  publish_exactly =
      exactly (publish_checks head table c) _
      (ends_one (capacity table) head.used c.strip (going c) (leaving c))
      (publish_of head table c).answer
      publish_answered

  pub prepare_exactly : (a : Result ℕ Failure) → ((prepare_of head table c).answer ≡ a) ↔ PrepareAnswers head table c a
  prepare_exactly =
      exactly (prepare_checks head table c) _ (ends_one (capacity table) head.used c.strip (going c) [])
      (prepare_of head table c).answer
      prepare_answered

  pub rollback_exactly : (a : Result ℕ Failure) → ((rollback_of head table c).answer ≡ a) ↔ RollbackAnswers head table c a
  rollback_exactly =
      exactly (rollback_checks head table c) _ (rollback_ends_one c.strip (recorded_back c)) (rollback_of head table c).answer
      rollback_answered

  pub removal_exactly : (a : Result ℕ Failure) → ((removal_of head table c).answer ≡ a) ↔ RemovalAnswers head table c a
  removal_exactly =
      exactly (removal_checks head table c) _ (removal_ends_one c.strip (leaving c)) (removal_of head table c).answer
      removal_answered

  -- a publish is accepted exactly when no check applies, there is room, and every byte that it reads is 0
  pub accepted_exactly : (is_accepted (publish_of head table c).answer ≡ true) ↔ Acceptable head table c
  accepted_exactly = (
    (λ h.
        let k = accepted_passes _ _ (publish_proper head table c) _ h publish_answered in
        let r = accepted_ends (capacity table) head.used c.strip (going c) (leaving c) _ h k.1 in
        record { passes = k.0; room = r.0; quiet = r.1 }),
    (λ k. rw ((publish_exactly _).1 (Answered.ended _ k.passes (Ends.accepted k.room k.quiet)))),
  )

  -- and then its whole outcome is this
  pub acceptable_outcome : Acceptable head table c → publish_of head table c ≡ outcome.accepted head table c
  acceptable_outcome k = go (publish_of head table c) (accepted_exactly.1 k) (published head table c)
    where
      go : (o : Outcome) → is_accepted o.answer ≡ true → Published head table c o → o ≡ outcome.accepted head table c
      go o h (Published.refused a e l) = refused_not (publish_checks head table c) a e k.passes
      go o h (Published.taken e r l m) = m
      go o h (Published.halted e r l m) = absurd (clash (is_accepted o.answer) h (rw (m, l.answers)))
      go o h (Published.stopped e s m) =
          absurd (clash (is_accepted o.answer) h (rw m (stop_not_accepted head table c s)))

  -- (postings and destinations) less sources, as a set and as the one ascending list
  pub accepted_leaves : Acceptable head table c → Leaves head table c (publish_of head table c)
  accepted_leaves k =
      rw (acceptable_outcome k)
      (record {
        answer = refl;
        bindings = refl;
        poisoned = refl;
        record_list = refl;
        set = λ p. rw (postings_laid_out (length table) (taken_away (leaving c) (added (going c) (postings_before head table)))) (present_said p (going c) (leaving c) (postings_before head table));
        list = λ l h f. let e = said_list (going c) (leaving c) (postings_before head table) l sorted h f in (ap length e, ap (laid_out (length table)) e);
      })
    where
      sorted : ascending (postings_before head table) ≡ true
      sorted = (well_formed_parts head table (publish_clear head table c k.passes).formed).sorted

-- the answers of a count
pub count_answered :
    (head : Head) (table : List ℕ) (binding key : ℕ) → CountAnswers head table binding key (count_of head table binding key)
unfolding count_of
count_answered head table binding key = go (count_checks head table binding) refl
  where
    own : Result ℕ Failure
    own = Ok (counted binding key (postings head.used table))

    go : (v : Result Unit Failure) → count_checks head table binding ≡ v → CountAnswers head table binding key (settled v own)
    go (Ok _) e = Answered.ended _ e refl
    go (Err why) e = Answered.refused why e

pub count_exactly :
    (head : Head) (table : List ℕ) (binding key : ℕ) (a : Result ℕ Failure) →
    (count_of head table binding key ≡ a) ↔ CountAnswers head table binding key a
count_exactly head table binding key =
    exactly (count_checks head table binding) _ (λ a b p q. p ∙ sym q) (count_of head table binding key)
    (count_answered head table binding key)
