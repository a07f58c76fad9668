-- From what C and Rust call to the theorems: where the promise of an exported function holds of the numbers that came back, there
-- is an answer that tells these numbers, and of which the promise of the call behind holds. So what is guaranteed of results of
-- that call is guaranteed of what C and Rust get. Of runs, right or withheld is said here in the numbers that were told.
use Rattle.std.proofs.Common.{Result, Ok, Err, ℕ}
use Prim.Native.Nat.{ℕ, ◌<◌}
use mathlib.Core.Path.{◌≡◌, refl, sym, ap, ◌∙◌}
use mathlib.Core.List.{List, [], ◌∷◌, ◌++◌, map, append-nil}
use mathlib.Core.Bool.{Bool, true, false, cond, ◌||◌}
use lib.Dec.{eqb}
use Rattle.std.proofs.Common.{Result}
use borrow.Author.Tests.{lt-ltb, le-ltb}
use Rattle.rules.specs.declared.Failure.{Failure}
use Rattle.rules.specs.declared.Guard.{Guard}
use Rattle.rules.specs.declared.Head.{Head}
use Rattle.rules.specs.declared.Posting.{Posting}
use Rattle.rules.specs.declared.Told.{Told}
use Rattle.rules.specs.Table.{well_formed}
use Rattle.rules.specs.Answers.{told_of, is_accepted, poisons}
use Rattle.rules.specs.Orders.{held, Call, lending}
use Rattle.rules.specs.Postings.{present, counted}
use Rattle.rules.specs.Calls.{Outcome, as_before, prepare_of, rollback_of, removal_of, publish_of, count_of}
use Rattle.history.specs.History.{Index, published, counted_in, index_of, postings_in, said, said_of, own_count, holding, Again, AllAgain, relent, relent_all, Holds, Alike, CountSaid}
use Rattle.history.specs.Acceptance.{Acceptable}
use Rattle.history.proofs.History.{empty_holds}
use Rattle.laws.proofs.Checks.{lent_proper, publish_passed, publish_clear}
use Rattle.publish.specs.Promises as posting
use Rattle.guarding.specs.Asking.{flat}
use Rattle.entry.specs.Promises.{EntryPromise}
use Rattle.lane_rules.specs.declared.View.{View}
use Rattle.lane_rules.specs.declared.Failure as lane_failure
use Rattle.lane_rules.specs.declared.Done as lane_done
use Rattle.lane_rules.specs.Answers as lane_answers
use Rattle.lane_rules.specs.Calls.{cached_of, refreshed_of, detach_of}
use Rattle.lanes.specs.Promises as lane
use Rattle.bucket_rules.specs.Answers as bucket_answers
use Rattle.bucket_rules.specs.Calls as bucket_calls
use Rattle.bucket_rules.specs.Calls.{sort_of, bitmap_of}
use Rattle.bucket_rules.specs.Stamps.{precedes}
use Rattle.buckets.specs.Promises as bucket
use Rattle.exports_postings.specs.declared.Done.{Done}
use Rattle.exports_postings.specs.Promises.{posting_seen, PreparePromise, RollbackPromise, RemovalPromise, PublishPromise, CountPromise}
use Rattle.exports_lent.specs.Promises.{LentPublishPromise, HeldPromise}
use Rattle.exports_lanes.specs.declared.Detached.{Detached}
use Rattle.exports_lanes.specs.Promises.{lane_seen, CachedPromise, RefreshedPromise, DetachPromise}
use Rattle.exports_buckets.specs.Promises.{BucketSeen, bucket_seen, three_numbers, with_other, SortPromise, BitmapPromise, PrecedesPromise}
use Rattle.guarantees.specs.Runs.{Made, outcome, Kept, Run, end, calls, seen_after, taken, sound, CallsRight, CallsWithheld, CallsRightOrWithheld}
use Rattle.guarantees.specs.Exported.{Behind, GuardsLent, numbers_of, Crossed, lent_to, left_by, promised, KeptAcross, Called, RunAcross, end_across, taken_across, sound_across, taken_calls, publishes_of, Inner, AllInner, CountTold, RefusedAcross, MakesAgain, DidAgain, AllDidAgain, Replayed, AcrossRightOrWithheld}
use Rattle.guarantees.proofs.Acceptance.{accepted_exactly}
use Rattle.guarantees.proofs.History.{calls_right_or_withheld}

-- a posting call: the answer of the rules' outcome, with head, table and record list as they came back
posting_behind :
    (r : Done) (t l : List ℕ) (o : Outcome) → posting_seen r t l ≡ posting.seen_of o →
    Behind told_of r.told (λ (a : Result ℕ Failure). posting.seen (record { head = r.head; answer = a }) t l ≡ posting.seen_of o)
posting_behind r t l o e =
    record {
      answer = o.answer;
      numbers = sym (ap (λ (s : posting.Seen). s.told) e);
      promise =
          λ i.
          record {
            told = told_of o.answer;
            head = ap (λ (s : posting.Seen). s.head) e i;
            table = ap (λ (s : posting.Seen). s.table) e i;
            record_list = ap (λ (s : posting.Seen). s.record_list) e i;
          };
    }

module _ (head : Head) (table : List ℕ) (c : Call) (r : Done) (t l : List ℕ) where
  -- asdrifen_prepare_index_destinations
  pub exported_prepare :
      PreparePromise head table c r t l →
      Behind told_of r.told (λ (a : Result ℕ Failure). posting.PreparePromise head table c (record { head = r.head; answer = a }) t l)
  exported_prepare e = posting_behind r t l (prepare_of head table c) e

  -- asdrifen_rollback_index_destinations
  pub exported_rollback :
      RollbackPromise head table c r t l →
      Behind told_of r.told (λ (a : Result ℕ Failure). posting.RollbackPromise head table c (record { head = r.head; answer = a }) t l)
  exported_rollback e = posting_behind r t l (rollback_of head table c) e

  -- asdrifen_remove_index_sources
  pub exported_removal :
      RemovalPromise head table c r t l →
      Behind told_of r.told (λ (a : Result ℕ Failure). posting.RemovalPromise head table c (record { head = r.head; answer = a }) t l)
  exported_removal e = posting_behind r t l (removal_of head table c) e

  -- asdrifen_publish_by_value
  pub exported_publish_by_value :
      PublishPromise head table c r t l →
      Behind told_of r.told (λ (a : Result ℕ Failure). posting.PublishPromise head table c (record { head = r.head; answer = a }) t l)
  exported_publish_by_value e = posting_behind r t l (publish_of head table c) e

-- asdrifen_publish
pub exported_publish :
    (head : Head) (table changes : List ℕ) (guards : List Guard) (strip list : List ℕ) (r : Told) (head' : Head) (t l : List ℕ) →
    LentPublishPromise head table changes guards strip list r head' t l →
    Behind told_of r (λ (a : Result ℕ Failure). EntryPromise head table changes guards strip list a head' t l)
exported_publish head table changes guards strip list r head' t l e =
    posting_behind (record { head = head'; told = r }) t l (publish_of head table (lending changes (flat guards) strip list)) e

-- asdrifen_count
pub exported_count :
    (head : Head) (table : List ℕ) (binding key : ℕ) (r : Told) → CountPromise head table binding key r →
    Behind told_of r (λ (a : Result ℕ Failure). posting.CountPromise head table binding key a)
exported_count head table binding key r e =
    record { answer = count_of head table binding key; numbers = sym e; promise = refl }

-- asdrifen_held: 1 for yes, 0 for no
pub exported_held :
    (guards : List Guard) (binding key r : ℕ) → HeldPromise guards binding key r →
    Behind (λ (b : Bool). cond b 1 0) r (λ (b : Bool). b ≡ held binding key guards)
exported_held guards binding key r e = record { answer = held binding key guards; numbers = sym e; promise = refl }

-- a lane call
lane_behind :
    (r : Detached) (d : lane_done.Done) → lane_seen r ≡ lane.seen d →
    Behind lane_answers.told_of (record { answer = r.answer; value = r.value }) (λ (a : Result ℕ lane_failure.Failure). lane.seen (record { view = r.view; answer = a }) ≡ lane.seen d)
lane_behind r d e =
    record {
      answer = d.answer;
      numbers = sym (ap (λ (s : lane.Seen). s.told) e);
      promise = λ i. record { told = lane_answers.told_of d.answer; view = ap (λ (s : lane.Seen). s.view) e i };
    }

module _ (v : View) (strip : List ℕ) (r : Detached) where
  -- asdrifen_cached_detach
  pub exported_cached :
      CachedPromise v strip r →
      Behind lane_answers.told_of (record { answer = r.answer; value = r.value }) (λ (a : Result ℕ lane_failure.Failure). lane.CachedPromise v strip (record { view = r.view; answer = a }))
  exported_cached e = lane_behind r (cached_of v strip) e

  -- asdrifen_refreshed_detach
  pub exported_refreshed :
      RefreshedPromise v strip r →
      Behind lane_answers.told_of (record { answer = r.answer; value = r.value }) (λ (a : Result ℕ lane_failure.Failure). lane.RefreshedPromise v strip (record { view = r.view; answer = a }))
  exported_refreshed e = lane_behind r (refreshed_of v strip) e

  -- asdrifen_detach_before_retire
  pub exported_detach :
      (lent : ℕ) → DetachPromise v strip lent r →
      Behind lane_answers.told_of (record { answer = r.answer; value = r.value }) (λ (a : Result ℕ lane_failure.Failure). lane.DetachPromise v strip lent (record { view = r.view; answer = a }))
  exported_detach lent e = lane_behind r (detach_of v strip lent) e

-- a bucket call, whose two numbers cross as three
bucket_behind :
    (r : Told) (o s : List ℕ) (x : bucket_calls.Outcome) → bucket_seen r o s ≡ with_other (bucket.seen x) →
    Behind (λ (a : bucket_answers.Answer). three_numbers (bucket_answers.told_of a)) r (λ (a : bucket_answers.Answer). bucket.seen (bucket.outcome_of a o s) ≡ bucket.seen x)
bucket_behind r o s x e =
    record {
      answer = x.answer;
      numbers = sym (ap (λ (y : BucketSeen). y.told) e);
      promise =
          λ i.
          record {
            told = bucket_answers.told_of x.answer;
            output = ap (λ (y : BucketSeen). y.output) e i;
            scratch = ap (λ (y : BucketSeen). y.scratch) e i;
          };
    }

-- asdrifen_canonical_buckets_sort
pub exported_sort :
    (input : List ℕ) (count : ℕ) (output : List ℕ) (r : Told) (o : List ℕ) → SortPromise input count output r o →
    Behind (λ (a : bucket_answers.Answer). three_numbers (bucket_answers.told_of a)) r (λ (a : bucket_answers.Answer). bucket.SortPromise input count output a o)
exported_sort input count output r o e = bucket_behind r o [] (sort_of input count output) e

-- asdrifen_canonical_buckets_bitmap
pub exported_bitmap :
    (input : List ℕ) (count : ℕ) (output scratch : List ℕ) (r : Told) (o s : List ℕ) → BitmapPromise input count output scratch r o s →
    Behind (λ (a : bucket_answers.Answer). three_numbers (bucket_answers.told_of a)) r (λ (a : bucket_answers.Answer). bucket.BitmapPromise input count output scratch a o s)
exported_bitmap input count output scratch r o s e = bucket_behind r o s (bitmap_of input count output scratch) e

-- asdrifen_stamp_precedes_snapshot: 1 for yes, 0 for no
pub exported_precedes :
    (stamp snapshot r : ℕ) → PrecedesPromise stamp snapshot r →
    Behind (λ (b : Bool). cond b 1 0) r (λ (b : Bool). bucket.PrecedesPromise stamp snapshot b)
exported_precedes stamp snapshot r e = record { answer = precedes stamp snapshot; numbers = sym e; promise = refl }

-- a publish of either form
publish_behind :
    (x : Index) (m : Crossed) (g : GuardsLent) → promised g x m →
    Behind told_of m.told (λ (a : Result ℕ Failure). posting.PublishPromise x.head x.table (lending m.changes (numbers_of g) m.strip m.list) (record { head = m.head; answer = a }) m.table m.record_list)
publish_behind x m (GuardsLent.structs gs) k =
    exported_publish x.head x.table m.changes gs m.strip m.list m.told m.head m.table m.record_list k
publish_behind x m (GuardsLent.numbers ns) k =
    exported_publish_by_value x.head x.table (lending m.changes ns m.strip m.list) (record { head = m.head; told = m.told })
    m.table m.record_list k

-- the inner call behind a publish, where its answer is known
abbrev made_by : Crossed → Result ℕ Failure → Made
made_by m a =
    record { call = lent_to m; result = record { head = m.head; answer = a }; table = m.table; record_list = m.record_list }

-- the publishes of a run, of either form, are a run of inner calls that were lent, told and left the same: the promise of each form
-- is what a run asks of each call
pub exported_run : (x : Index) (ms : List Called) → RunAcross x ms → (ns : List Made) × Run x ns × AllInner ms ns
exported_run x [] RunAcross.none = ([], Run.none, AllInner.none)
exported_run x (Called.count binding key told ∷ ms) (RunAcross.count k r) =
    let e = exported_run x ms r in
    (e.0, e.1, AllInner.count e.2)
exported_run x (Called.publish m ∷ ms) (RunAcross.publish k r) =
    let b = publish_behind x m m.guards k in
    let e = exported_run (left_by m) ms r in (
      made_by m b.answer ∷ e.0,
      Run.next b.promise e.1,
      AllInner.publish (record { call = refl; told = b.numbers; head = refl; table = refl; record_list = refl }) e.2,
    )

-- so right or withheld holds of the calls behind them; exported-count leads there from a count
pub exported_right_or_withheld :
    (x : Index) (start : List Posting) → Holds x start → (ms : List Called) → RunAcross x ms →
    (ns : List Made) × AllInner ms ns × CallsRightOrWithheld x start ns
exported_right_or_withheld x start h ms r =
    let e = exported_run x ms r in
    (e.0, e.2, calls_right_or_withheld x start h e.0 e.1)

-- an answer accepts where it tells 0, and poisons where it tells 12 or 13
classes_told :
    (a : Result ℕ Failure) →
    (is_accepted a ≡ eqb (told_of a).answer 0) × (poisons a ≡ (eqb (told_of a).answer 12 || eqb (told_of a).answer 13))
classes_told (Ok n) = (refl, refl)
classes_told (Err Failure.Table) = (refl, refl)
classes_told (Err Failure.Poisoned) = (refl, refl)
classes_told (Err Failure.List) = (refl, refl)
classes_told (Err Failure.Strip) = (refl, refl)
classes_told (Err Failure.Room) = (refl, refl)
classes_told (Err (Failure.Guard i)) = (refl, refl)
classes_told (Err (Failure.Twice i j)) = (refl, refl)
classes_told (Err (Failure.Present i)) = (refl, refl)
classes_told (Err (Failure.Overlap i)) = (refl, refl)
classes_told (Err (Failure.Store i)) = (refl, refl)
classes_told (Err (Failure.Full i)) = (refl, refl)
classes_told (Err (Failure.Undo i)) = (refl, refl)
classes_told (Err (Failure.Source i)) = (refl, refl)
classes_told (Err (Failure.Record place)) = (refl, refl)

-- the numbers that the publishes told say of the inner calls whether one broke
inner_sound : {ms : List Called} {ns : List Made} → AllInner ms ns → sound ns ≡ sound_across ms
unfolding sound sound_across
inner_sound AllInner.none = refl
inner_sound (AllInner.count r) = inner_sound r
inner_sound (AllInner.publish {n = n} i r) = rw ((classes_told n.result.answer).1, i.told, inner_sound r)

-- and which were accepted: those behind the publishes that told 0
inner_accepted : {ms : List Called} {ns : List Made} → AllInner ms ns → AllInner (map Called.publish (taken_across ms)) (taken ns)
unfolding taken taken_across
inner_accepted AllInner.none = AllInner.none
inner_accepted (AllInner.count r) = inner_accepted r
inner_accepted (AllInner.publish {m = m} {n = n} {ms = ms} {ns = ns} i r) =
    rw ((classes_told n.result.answer).0, i.told) (go (eqb m.told.answer 0) (inner_accepted r))
  where
    go :
        (b : Bool) → AllInner (map Called.publish (taken_across ms)) (taken ns) →
        AllInner (map Called.publish (cond b (m ∷ taken_across ms) (taken_across ms))) (cond b (n ∷ taken ns) (taken ns))
    go true q = AllInner.publish i q
    go false q = q

-- behind counts there is none, so those of a run are behind its publishes, and were lent the same
inner_publishes : {ms : List Called} {ns : List Made} → AllInner ms ns → AllInner (map Called.publish (publishes_of ms)) ns
unfolding publishes_of
inner_publishes AllInner.none = AllInner.none
inner_publishes (AllInner.count r) = inner_publishes r
inner_publishes (AllInner.publish i r) = AllInner.publish i (inner_publishes r)

inner_calls : (ms : List Crossed) {ns : List Made} → AllInner (map Called.publish ms) ns → calls ns ≡ map lent_to ms
inner_calls [] AllInner.none = refl
inner_calls (m ∷ ms) (AllInner.publish i r) = λ k. i.call k ∷ inner_calls ms r k

inner_taken : {ms : List Called} {ns : List Made} → AllInner ms ns → calls (taken ns) ≡ taken_calls ms
inner_taken {ms} i = inner_calls (taken_across ms) (inner_accepted i)

inner_end : (x : Index) {ms : List Called} {ns : List Made} → AllInner ms ns → end x ns ≡ end_across x ms
unfolding end end_across
inner_end x AllInner.none = refl
inner_end x (AllInner.count r) = inner_end x r
inner_end x (AllInner.publish {m = m} {ns = ns} i r) =
    ap (λ (y : Index). end y ns) (λ j. record { head = i.head j; table = i.table j }) ∙ inner_end (left_by m) r

-- an inner call that answered and left what another did, with its record in the list that was lent now: so did the publishes
inner_did_again :
    {m n : Crossed} {a b : Made} → Inner m a → Inner n b → outcome b ≡ relent b.call (outcome a) → DidAgain m n
inner_did_again {m} {n} {a} {b} i j e =
    record {
      told = sym j.told ∙ (ap (λ (o : Outcome). told_of o.answer) e ∙ i.told);
      index =
          (λ k. record { head = sym j.head k; table = sym j.table k })
          ∙ (ap index_of e ∙ (λ k. record { head = i.head k; table = i.table k }));
      record_list =
          sym j.record_list ∙ (ap (λ (o : Outcome). o.record_list) e ∙ rw (i.told, i.record_list, j.call));
    }

-- one by one
all_did_again :
    (ms ns : List Crossed) {os ps : List Made} → AllAgain (map lent_to ms) (map lent_to ns) → AllInner (map Called.publish ms) os →
    AllInner (map Called.publish ns) ps → seen_after ps ≡ relent_all (calls ps) (seen_after os) → AllDidAgain ms ns
unfolding relent_all
all_did_again [] [] AllAgain.none i j e = AllDidAgain.none
all_did_again [] (n ∷ ns) {os = os} {ps = ps} more i j e = elim more [ ]
all_did_again (m ∷ ms) [] {os = os} {ps = ps} fewer i j e = elim fewer [ ]
all_did_again (m ∷ ms) (n ∷ ns) (AllAgain.next a q) (AllInner.publish i r) (AllInner.publish j t) e =
    AllDidAgain.next (inner_did_again i j (cc)) (all_did_again ms ns q r t (cc))

-- the first calls of a run are a run, and so are those after them
across_before : {x : Index} (ms ns : List Called) → RunAcross x (ms ++ ns) → RunAcross x ms
across_before [] ns r = RunAcross.none
across_before (Called.publish m ∷ ms) ns (RunAcross.publish k r) = RunAcross.publish k (across_before ms ns r)
across_before (Called.count binding key told ∷ ms) ns (RunAcross.count k r) = RunAcross.count k (across_before ms ns r)

across_after : {x : Index} (ms ns : List Called) → RunAcross x (ms ++ ns) → RunAcross (end_across x ms) ns
unfolding end_across
across_after [] ns r = r
across_after (Called.publish m ∷ ms) ns (RunAcross.publish k r) = across_after ms ns r
across_after (Called.count binding key told ∷ ms) ns (RunAcross.count k r) = across_after ms ns r

published_next : {x : Index} {m : Crossed} {ms : List Called} → RunAcross x (Called.publish m ∷ ms) → KeptAcross x m
published_next (RunAcross.publish k r) = k

counted_next :
    {x : Index} {binding key : ℕ} {told : Told} {ms : List Called} → RunAcross x (Called.count binding key told ∷ ms) →
    CountPromise x.head x.table binding key told
counted_next (RunAcross.count k r) = k

end_append : (x : Index) (ms ns : List Called) → end_across x (ms ++ ns) ≡ end_across (end_across x ms) ns
unfolding end_across
end_append x [] ns = refl
end_append x (Called.publish m ∷ ms) ns = end_append (left_by m) ms ns
end_append x (Called.count binding key told ∷ ms) ns = end_append x ms ns

-- the numbers of a table's own count
count_told :
    (x : Index) (start : List Posting) (cs : List Call) (binding key : ℕ) (told : Told) →
    told ≡ told_of (own_count x (said cs start) binding key) →
    CountSaid start cs binding key (counted binding key (said cs start)) → CountTold x start cs binding key told
count_told x start cs binding key told own rows =
    let number : binding < x.head.bindings → told ≡ record { answer = 0; named = counted binding key (said cs start); other = 0 } =
    λ below. rw (lt-ltb binding x.head.bindings below) at own in
    record {
      answered =
          λ below.
          number below ∙ ap (λ (t : Told). record { answer = 0; named = t.named; other = 0 }) (sym (number below));
      number = λ below. rw (ap (λ (t : Told). t.named) (number below)) rows;
      refused = λ above. rw (le-ltb binding x.head.bindings above) at own;
    }

-- after a run of calls: what is right, or withheld, of those that come next
module _ (x : Index) (start : List Posting) (h : Holds x start) (ms : List Called) (r : RunAcross x ms) where
  abbrev behind : (ns : List Made) × AllInner ms ns × CallsRightOrWithheld x start ns
  behind = exported_right_or_withheld x start h ms r

  right_behind : sound_across ms ≡ true → CallsRight x start behind.0
  right_behind s = behind.2.right behind.0 [] (sym (append-nil behind.0)) (inner_sound behind.1 ∙ s)

  withheld_behind : sound_across ms ≡ false → CallsWithheld x behind.0
  withheld_behind s = behind.2.withheld (inner_sound behind.1 ∙ s)

  table_right : sound_across ms ≡ true → end_across x ms ≡ holding x (said (taken_calls ms) start)
  table_right s =
      rw (← inner_end x behind.1, ← inner_taken behind.1) (right_behind s).table

  set_right :
      sound_across ms ≡ true → (p : Posting) → present p (postings_in (end_across x ms)) ≡ said_of (taken_calls ms) p (present p start)
  set_right s p = rw (← inner_end x behind.1, ← inner_taken behind.1) ((right_behind s).set p)

  count_right :
      sound_across ms ≡ true → (binding key : ℕ) (told : Told) →
      CountPromise (end_across x ms).head (end_across x ms).table binding key told →
      CountTold x start (taken_calls ms) binding key told
  count_right s binding key told k =
      let w = right_behind s in
      let e = inner_end x behind.1 in
      let own : count_of (end_across x ms).head (end_across x ms).table binding key ≡ own_count x (said (taken_calls ms) start) binding key =
      rw (← e, ← inner_taken behind.1)
      (w.counts binding key (count_of (end x behind.0).head (end x behind.0).table binding key) refl) in
      count_told x start (taken_calls ms) binding key told (k ∙ ap told_of own) (rw (← inner_taken behind.1) (w.rows binding key))

  replay_right :
      sound_across ms ≡ true → (y : Index) (ns : List Called) → Holds y start → Alike x y → RunAcross y ns → MakesAgain ms ns →
      Replayed x ms y ns
  replay_right s y ns hy al ry again =
      let w = right_behind s in
      let f = exported_run y ns ry in
      let same : AllAgain (calls (taken behind.0)) (calls f.0) =
      rw (inner_taken behind.1, inner_calls (publishes_of ns) (inner_publishes f.2)) again in
      record {
        index = sym (inner_end y f.2) ∙ (w.again y f.0 hy al f.1 same ∙ inner_end x behind.1);
        publishes =
            all_did_again (taken_across ms) (publishes_of ns) again (inner_accepted behind.1) (inner_publishes f.2)
            (w.again_records y f.0 hy al f.1 same);
      }

  count_withheld :
      sound_across ms ≡ false → (binding key : ℕ) (told : Told) →
      CountPromise (end_across x ms).head (end_across x ms).table binding key told →
      told ≡ record { answer = 2; named = 0; other = 0 }
  count_withheld s binding key told k =
      let none : count_of (end_across x ms).head (end_across x ms).table binding key ≡ Err Failure.Poisoned =
      rw (← inner_end x behind.1)
      ((withheld_behind s).counts binding key (count_of (end x behind.0).head (end x behind.0).table binding key) refl) in
      k ∙ ap told_of none

  publish_refused : sound_across ms ≡ false → (m : Crossed) → KeptAcross (end_across x ms) m → RefusedAcross (end_across x ms) m
  publish_refused s m k =
      let b = publish_behind (end_across x ms) m m.guards k in
      let kept :
      (n : Made) → Kept (end_across x ms) n →
      outcome n ≡ as_before (end_across x ms).head (end_across x ms).table n.call.record_list (Err Failure.Poisoned) =
      rw (← inner_end x behind.1) (withheld_behind s).publishes in
      let o = kept (made_by m b.answer) b.promise in
      record {
        told = sym b.numbers ∙ ap (λ (q : Outcome). told_of q.answer) o;
        index = ap index_of o;
        record_list = ap (λ (q : Outcome). q.record_list) o;
      }

  end_fixed : sound_across ms ≡ false → (more : List Called) → RunAcross (end_across x ms) more → end_across x (ms ++ more) ≡ end_across x ms
  end_fixed s more q =
      let e = exported_run (end_across x ms) more q in
      let same : (ns : List Made) → Run (end_across x ms) ns → end (end_across x ms) ns ≡ end_across x ms =
      rw (← inner_end x behind.1) (withheld_behind s).fixed in
      end_append x ms more ∙ (sym (inner_end (end_across x ms) e.2) ∙ same e.0 e.1)

module _ (x : Index) (start : List Posting) (h : Holds x start) where
  -- RIGHT OR WITHHELD, in the numbers that cross: any run of publishes of either form, with counts in between
  pub across_right_or_withheld : (ms : List Called) → RunAcross x ms → AcrossRightOrWithheld x start ms
  across_right_or_withheld ms r =
      record {
        table = λ before later e s. table_right x start h before (first before later e) s;
        set = λ before later e s. set_right x start h before (first before later e) s;
        counts =
            λ before later binding key told e s.
            let k = counted_next (rest before (Called.count binding key told ∷ later) e) in
            count_right x start h before (first before (Called.count binding key told ∷ later) e) s binding key told k;
        again = λ before later e s. replay_right x start h before (first before later e) s;
        withheld =
            λ before later binding key told e s.
            let k = counted_next (rest before (Called.count binding key told ∷ later) e) in
            count_withheld x start h before (first before (Called.count binding key told ∷ later) e) s binding key told k;
        refused =
            λ before later m e s.
            let k = published_next (rest before (Called.publish m ∷ later) e) in
            publish_refused x start h before (first before (Called.publish m ∷ later) e) s m k;
        fixed = λ before later e s. rw e (end_fixed x start h before (first before later e) s later (rest before later e));
      }
    where
      first : (before later : List Called) → ms ≡ before ++ later → RunAcross x before
      first before later e = across_before before later (rw e at r)

      rest : (before later : List Called) → ms ≡ before ++ later → RunAcross (end_across x before) later
      rest before later e = across_after before later (rw e at r)

-- and from an empty table: well formed, unpoisoned, used 0
pub across_right_or_withheld_from_empty :
    (x : Index) → well_formed x.head x.table ≡ true → x.head.poisoned ≡ 0 → x.head.used ≡ 0 → (ms : List Called) →
    RunAcross x ms → AcrossRightOrWithheld x [] ms
across_right_or_withheld_from_empty x f p u = across_right_or_withheld x [] (empty_holds x f p u)

-- REPLAY, in the numbers that cross, from one empty table to another of equal size and binding count
pub across_replayed_from_empty :
    (x : Index) → well_formed x.head x.table ≡ true → x.head.poisoned ≡ 0 → x.head.used ≡ 0 → (ms : List Called) →
    RunAcross x ms → sound_across ms ≡ true → (y : Index) → well_formed y.head y.table ≡ true → y.head.poisoned ≡ 0 →
    y.head.used ≡ 0 → Alike x y → (ns : List Called) → RunAcross y ns → MakesAgain ms ns → Replayed x ms y ns
across_replayed_from_empty x f p u ms r s y g q v al ns ry again =
    replay_right x [] (empty_holds x f p u) ms r s y ns (empty_holds y g q v) al ry again

-- the same calls, each with what the rules tell and leave there
pub told_by_rules : Index → List Called → List Called
told_by_rules x [] = []
told_by_rules x (Called.publish m ∷ ms) =
    let o = published x (lent_to m) in
    Called.publish
    (record {
      changes = m.changes;
      guards = m.guards;
      strip = m.strip;
      list = m.list;
      told = told_of o.answer;
      head = o.head;
      table = o.table;
      record_list = o.record_list;
    })
    ∷ told_by_rules (index_of o) ms
told_by_rules x (Called.count binding key told ∷ ms) =
    Called.count binding key (told_of (counted_in x binding key)) ∷ told_by_rules x ms

-- a publish of either form that tells and leaves what the rules say has kept its promise
promise_kept_across :
    (x : Index) (m : Crossed) (g : GuardsLent) →
    posting.seen_of (published x (lending m.changes (numbers_of g) m.strip m.list)) ≡
    record { told = m.told; head = m.head; table = m.table; record_list = m.record_list } → promised g x m
promise_kept_across x m (GuardsLent.structs gs) e = sym e
promise_kept_across x m (GuardsLent.numbers ns) e = sym e

-- they are a run, whatever they are lent: the claim is not empty
pub told_by_rules_run : (x : Index) (ms : List Called) → RunAcross x (told_by_rules x ms)
unfolding told_by_rules
told_by_rules_run x [] = RunAcross.none
told_by_rules_run x (Called.publish m ∷ ms) =
    RunAcross.publish (promise_kept_across x _ m.guards refl) (told_by_rules_run (index_of (published x (lent_to m))) ms)
told_by_rules_run x (Called.count binding key told ∷ ms) = RunAcross.count refl (told_by_rules_run x ms)

-- an acceptable call is one made again with no storage failure, just as it was: it had room, and every byte that it read was 0
acceptable_again : (head : Head) (table : List ℕ) (c : Call) → Acceptable head table c → Again c c
acceptable_again head table c k =
    record {
      change_list = refl;
      guard_list = refl;
      room = (publish_clear head table c k.passes).places;
      proper = (lent_proper _ _ _ (publish_passed head table c k.passes).lent).1;
      quiet = k.quiet;
    }

taken_again : (x : Index) (ms : List Called) → RunAcross x ms → AllAgain (taken_calls ms) (taken_calls ms)
unfolding taken_across
taken_again x [] RunAcross.none = AllAgain.none
taken_again x (Called.count binding key told ∷ ms) (RunAcross.count k r) = taken_again x ms r
taken_again x (Called.publish m ∷ ms) (RunAcross.publish k r) =
    go (eqb m.told.answer 0) refl (taken_again (left_by m) ms r)
  where
    told_0 : eqb m.told.answer 0 ≡ true → Acceptable x.head x.table (lent_to m)
    told_0 e =
        let b = publish_behind x m m.guards k in
        (accepted_exactly x.head x.table (lent_to m) (made_by m b.answer).result m.table m.record_list b.promise).0
        ((classes_told b.answer).0 ∙ rw b.numbers e)

    go :
        (b : Bool) → eqb m.told.answer 0 ≡ b → AllAgain (taken_calls ms) (taken_calls ms) →
        AllAgain (map lent_to (cond b (m ∷ taken_across ms) (taken_across ms))) (map lent_to (cond b (m ∷ taken_across ms) (taken_across ms)))
    go true e q = AllAgain.next (acceptable_again x.head x.table (lent_to m) (told_0 e)) q
    go false e q = q

lent_by_rules : (y : Index) (ms : List Crossed) → map lent_to (publishes_of (told_by_rules y (map Called.publish ms))) ≡ map lent_to ms
unfolding told_by_rules publishes_of
lent_by_rules y [] = refl
lent_by_rules y (m ∷ ms) = ap (λ l. lent_to m ∷ l) (lent_by_rules (index_of (published y (lent_to m))) ms)

-- nor is the claim of replays: the publishes of a run that told 0, made again just as they were, are such a run on any head and table
pub replay_by_rules :
    (x : Index) (ms : List Called) → RunAcross x ms → (y : Index) → MakesAgain ms (told_by_rules y (map Called.publish (taken_across ms)))
replay_by_rules x ms r y = rw (lent_by_rules y (taken_across ms)) (taken_again x ms r)
