-- The answers of the lane calls, each exactly where its condition holds.
use Prim.Native.Nat.{ℕ, zero, suc, ◌+◌, ◌-◌, ◌≤◌, ◌<◌}
use native.Mathlib.Omega.{arith}
use mathlib.Core.Path.{◌≡◌, refl, sym, ap}
use mathlib.Core.List.{List}
use mathlib.Core.Bool.{Bool, true, false, cond}
use mathlib.Core.Logic.{◌↔◌}
use lib.Dec.{eqb}
use Rattle.std.proofs.Common.{Result, Ok, Err, is_err}
use borrow.Author.Tests.{eqb-true, eqb-false}
use Rattle.strips.specs.Strips.{byte_at}
use Rattle.strips.proofs.Walk.{stretch_one, stretch_join}
use Rattle.booleans.proofs.Tests.{by_cases, clash}
use Rattle.masks.specs.Masks.{lane_in}
use Rattle.lane_rules.specs.declared.View.{View}
use Rattle.lane_rules.specs.declared.Done.{Done}
use Rattle.lane_rules.specs.declared.ErrorByte.{ErrorByte}
use Rattle.lane_rules.specs.declared.Failure.{Failure}
use Rattle.lane_rules.specs.Answers.{told_of, is_accepted}
use Rattle.lane_rules.specs.Steps.{compared, refreshed, error_met, Refreshed}
use Rattle.lane_rules.specs.Passes.{by_said, failed, cached_pass, try_lane, refreshed_from, refreshed_pass, Pass}
use Rattle.lane_rules.specs.Rounds.{round, rounds, detaching, Round, Ended}
use Rattle.lane_rules.specs.Calls.{entry_checks, refreshed_checks, unless_refused, passed, cached_of, refreshed_of, detach_of}
use Rattle.lane_laws.specs.Clauses.{AllBelow, Says, is_refusal, Entry}
use Rattle.lane_laws.specs.Ends.{cached_work, refreshed_work, detach_work, Clean, Fault, Heard, RefusedWith}
use Rattle.lane_laws.specs.Ends.{PassEnds, said_yes, said_no, said_error, Ends, yes, error, spent, MetNoError, Retired}
use Rattle.lane_laws.proofs.Cases.{by_said_lem, other_number}
use Rattle.lane_laws.proofs.Reading.{begun, try_reads, round_reads}
use Rattle.lane_laws.proofs.Entry.{detach_entry, detach_passes, refreshed_entry, refreshed_passes}
use Rattle.lane_laws.proofs.Frames.{below_inside, none_left, compare_leaves, cached_leaves, refreshed_leaves}
use Rattle.lane_laws.proofs.Frames.{refreshed_yes, round_leaves}

module _ (strip : List ℕ) where
  -- where no byte is read, none is an error
  clean_none : (read : ℕ) → Clean strip read read
  clean_none read i k l = absurd (omega arith)

  -- one byte that is no error
  clean_one : (read : ℕ) → byte_at strip read ≤ 1 → Clean strip read (read + 1)
  clean_one read h = stretch_one (λ i. byte_at strip i ≤ 1) read h

  -- one byte that is an error
  fault_one : (read : ℕ) → 1 < byte_at strip read → Fault strip read (read + 1)
  fault_one read h =
      let e : read + 1 - 1 ≡ read = omega arith in
      record { some = omega arith; before = λ i k l. absurd (omega arith); last = rw e h }

  -- two stretches with no error, one behind the other
  clean_then : (from via to : ℕ) → Clean strip from via → Clean strip via to → Clean strip from to
  clean_then = stretch_join (λ i. byte_at strip i ≤ 1)

  -- the second of them ends with an error
  fault_then : (from via to : ℕ) → from ≤ via → Clean strip from via → Fault strip via to → Fault strip from to
  fault_then from via to h p q =
      let k = q.some in
      record { some = omega arith; before = clean_then from via (to - 1) p q.before; last = q.last }

  -- the second of them ends with what is said
  heard_then :
      (from via to : ℕ) (s : Result Bool ErrorByte) → from ≤ via → Clean strip from via → Heard strip via to s →
      Heard strip from to s
  heard_then from via to (Ok true) h p q = clean_then from via to p q
  heard_then from via to (Ok false) h p q = clean_then from via to p q
  heard_then from via to (Err _) h p q = fault_then from via to h p q

  -- a pass that met no error has read none
  heard_clean :
      (from to : ℕ) (s : Result Bool ErrorByte) → by_said s false false true ≡ false →
      Heard strip from to s ↔ Clean strip from to
  heard_clean from to (Ok true) ok = (λ h. h, λ h. h)
  heard_clean from to (Ok false) ok = (λ h. h, λ h. h)
  heard_clean from to (Err _) ok = absurd (clash true refl ok)

  -- a compare says error exactly where its byte is one
  compare_heard : (lane attached read : ℕ) → Heard strip read (read + 1) (compared (byte_at strip read) lane attached).said
  compare_heard lane attached read =
      go (compared (byte_at strip read) lane attached).said (compare_leaves (byte_at strip read) lane attached).says
    where
      go : (s : Result Bool ErrorByte) → Says (byte_at strip read) lane attached s → Heard strip read (read + 1) s
      go s (Says.clears z i) = clean_one read (omega arith)
      go s (Says.absent z i) = clean_one read (omega arith)
      go s (Says.keeps o) = clean_one read (omega arith)
      go s (Says.fails h) = fault_one read h

  -- a refresh fails exactly there
  refresh_heard :
      (attached window read : ℕ) →
      let f = refreshed (byte_at strip read) attached window in
      Heard strip read (read + 1) (cond (is_err f.said) error_met (Ok false))
  unfolding refreshed
  refresh_heard attached window read =
      let P : Refreshed → Type 0 = λ f. Heard strip read (read + 1) (cond (is_err f.said) error_met (Ok false)) in
      let byte = byte_at strip read in
      by_cases P (eqb byte 0)
      (λ e. let z = eqb-true byte 0 e in clean_one read (omega arith))
      (λ e. by_cases P (eqb byte 1)
      (λ o. let z = eqb-true byte 1 o in clean_one read (omega arith))
      (λ o. let a = eqb-false byte 0 e in let b = eqb-false byte 1 o in fault_one read (omega arith)))

  -- a cached pass says error exactly where the last byte that it read is one
  pub cached_heard :
      (height window attached read : ℕ) →
      let p = cached_pass strip height window attached read in
      Heard strip read p.read p.said
  unfolding cached_pass
  cached_heard zero window attached read = clean_none read
  cached_heard (suc lane) window attached read =
      let P : Pass → Type 0 = λ p. Heard strip read p.read p.said in
      let c = compared (byte_at strip read) lane attached in
      let next = cached_pass strip lane window c.attached (read + 1) in
      let once = compare_heard lane attached read in
      let more = cached_heard lane window c.attached (read + 1) in
      by_cases P (lane_in window lane)
      (λ e. by_said_lem P c.said
      (λ s. heard_then read (read + 1) next.read next.said (omega arith) (rw s at once) more)
      (λ s. rw s at once)
      (λ s. rw s at once))
      (λ e. clean_none read)

  -- so does one lane of a refreshed pass
  try_heard :
      (lane window : ℕ) (p : Pass) → failed p ≡ false →
      let q = try_lane strip window lane p in
      Heard strip p.read q.read q.said
  unfolding try_lane
  try_heard lane window p ok =
      let c = compared (byte_at strip p.read) lane p.attached in
      let once = compare_heard lane p.attached p.read in
      by_cases (λ (q : Pass). Heard strip p.read q.read q.said) (lane_in window lane)
      (λ e. by_said_lem (Heard strip p.read (p.read + 1)) c.said (λ s. rw s at once) (λ s. rw s at once) (λ s. rw s at once))
      (λ e. (heard_clean p.read p.read p.said ok).1 (clean_none p.read))

  -- and so the whole of it
  pub refreshed_heard :
      (height window : ℕ) (p : Pass) → failed p ≡ false →
      let q = refreshed_from strip height window p in
      Heard strip p.read q.read q.said
  unfolding refreshed_from
  refreshed_heard zero window p ok = (heard_clean p.read p.read p.said ok).1 (clean_none p.read)
  refreshed_heard (suc lane) window p ok =
      let q = try_lane strip window lane p in
      let next = refreshed_from strip lane window q in
      let once = try_heard lane window p ok in
      let on = (try_reads strip window lane p).low in
      by_cases (λ (r : Pass). Heard strip p.read r.read r.said) (failed q)
      (λ e. once)
      (λ e. heard_then p.read q.read next.read next.said (omega arith)
      ((heard_clean p.read q.read q.said e).0 once)
      (refreshed_heard lane window q e))

  -- and so does a round
  pub round_heard :
      (height attached window read : ℕ) →
      let r = round strip height attached window read in
      Heard strip read r.read r.said
  unfolding round
  round_heard height attached window read =
      let f = refreshed (byte_at strip read) attached window in
      let p = refreshed_pass strip height f.window f.attached (read + 1) in
      let once = refresh_heard attached window read in
      let more = refreshed_heard height f.window (begun f.attached (read + 1)) refl in
      by_cases (λ (r : Round). Heard strip read r.read r.said) (is_err f.said)
      (λ e. rw e at once)
      (λ e. heard_then read (read + 1) p.read p.said (omega arith) (rw e at once) more)

  -- rounds behind a stretch with no error end as they do by themselves
  ends_then :
      (lent from via attached read : ℕ) (a : Result ℕ Failure) → from ≤ via → Clean strip from via →
      Ends strip lent via attached read a → Ends strip lent from attached read a
  ends_then lent from via attached read a h p (yes n k e c) = yes n k e (clean_then from via read p c)
  ends_then lent from via attached read a h p (error n k f) = error n k (fault_then from via read h p f)
  ends_then lent from via attached read a h p (spent c) = spent (clean_then from via read p c)

  -- how rounds end
  pub rounds_end :
      (height left made attached window read : ℕ) → AllBelow attached height →
      let e = rounds strip height left made attached window read in
      Ends strip (made + left) read e.attached e.read e.answer
  unfolding rounds
  rounds_end height zero made attached window read h =
      let k : made + zero ≡ made = omega arith in rw k (spent (clean_none read))
  rounds_end height (suc left) made attached window read h =
      let P : Ended → Type 0 = λ e. Ends strip (made + suc left) read e.attached e.read e.answer in
      let r = round strip height attached window read in
      let next = rounds strip height left (made + 1) r.attached r.window r.read in
      let heard = round_heard height attached window read in
      let leaves = round_leaves strip height attached window read in
      let on = (round_reads strip height attached window read).low in
      let k : made + suc left ≡ made + 1 + left = omega arith in
      by_said_lem P r.said
      (λ s. yes (made + 1) (omega arith) (leaves.yes h s) (rw s at heard))
      (λ s. rw k
      (ends_then (made + 1 + left) read r.read next.attached next.read next.answer (omega arith) (rw s at heard)
      (rounds_end height left (made + 1) r.attached r.window r.read
      (below_inside height attached r.attached leaves.inside h))))
      (λ s. error (made + 1) (omega arith) (rw s at heard))

  -- how the cached pass and the rounds behind it end
  pub detaching_ends :
      (height lent attached window : ℕ) → AllBelow attached height →
      let e = detaching strip height lent attached window in
      Ends strip lent 0 e.attached e.read e.answer
  unfolding detaching
  detaching_ends height lent attached window h =
      let P : Ended → Type 0 = λ e. Ends strip lent 0 e.attached e.read e.answer in
      let p = cached_pass strip height window attached 0 in
      let next = rounds strip height lent 0 p.attached window p.read in
      let heard = cached_heard height window attached 0 in
      let leaves = cached_leaves strip window height attached 0 in
      let inside = leaves.clears.inside in
      let k : 0 + lent ≡ lent = omega arith in
      by_said_lem P p.said
      (λ s. yes 0 (omega arith) (none_left height attached p.attached inside h (leaves.yes s)) (rw s at heard))
      (λ s. ends_then lent 0 p.read next.attached next.read next.answer (omega arith) (rw s at heard)
      (rw k at
      (rounds_end height lent 0 p.attached window p.read (below_inside height attached p.attached inside h))))
      (λ s. error 0 (omega arith) (rw s at heard))

-- a check refuses with an answer of 20 to 23, whose value is 0
refusal_tells :
    (v : View) (Asked : Type 0) (strip : List ℕ) (a : Failure) → Entry v Asked strip (Err a) →
    (is_refusal (Err a) ≡ true) × ((told_of (Err a)).value ≡ 0)
refusal_tells v Asked strip a (Entry.height h) = (refl, refl)
refusal_tells v Asked strip a (Entry.view h k) = (refl, refl)
refusal_tells v Asked strip a (Entry.window r n) = (refl, refl)
refusal_tells v Asked strip a (Entry.bytes r k s) = (refl, refl)

-- and the call changes nothing
refused_with :
    (v : View) (Asked : Type 0) (strip : List ℕ) (a : Failure) (c : Result Unit Failure) (work : Done) → c ≡ Err a →
    Entry v Asked strip (Err a) → RefusedWith a v (unless_refused c v work)
refused_with v Asked strip a c work h k =
    let tells = refusal_tells v Asked strip a k in record { number = tells.0; value = tells.1; same = rw h }

-- how a pass ends
pass_ends :
    (strip : List ℕ) (v : View) (p : Pass) → (p.said ≡ Ok true → p.attached ≡ 0) → Heard strip 0 p.read p.said →
    PassEnds strip p.attached p.read (passed v p).answer
pass_ends strip v p f heard =
    by_said_lem (λ (a : Result ℕ Failure). PassEnds strip p.attached p.read a) p.said
    (λ s. said_yes (f s) (rw s at heard))
    (λ s. said_no (rw s at heard))
    (λ s. said_error (rw s at heard))

module _ (v : View) (strip : List ℕ) where
  -- a refused cached pass tells its number and the value 0, and leaves all as before
  pub cached_refused : (a : Failure) → entry_checks v strip ≡ Err a → RefusedWith a v (cached_of v strip)
  unfolding cached_of
  cached_refused a h = refused_with v _ strip a _ _ h ((detach_entry v strip (Err a)).0 h)

  -- and so does a refused refreshed pass
  pub refreshed_refused : (a : Failure) → refreshed_checks v strip ≡ Err a → RefusedWith a v (refreshed_of v strip)
  unfolding refreshed_of
  refreshed_refused a h = refused_with v _ strip a _ _ h ((refreshed_entry v strip (Err a)).0 h)

  -- and a refused detach
  pub detach_refused :
      (lent : ℕ) (a : Failure) → entry_checks v strip ≡ Err a → RefusedWith a v (detach_of v strip lent)
  unfolding detach_of
  detach_refused lent a h = refused_with v _ strip a _ _ h ((detach_entry v strip (Err a)).0 h)

  -- a cached pass tells 1, with no lane attached, or 0, or is 24 at an error byte
  pub cached_ends :
      entry_checks v strip ≡ Ok tt →
      PassEnds strip (cached_of v strip).view.attached (cached_work v strip).read (cached_of v strip).answer
  unfolding cached_of
  cached_ends h =
      let valid = ((detach_passes v strip).0 h).0 in
      let leaves = cached_leaves strip v.window v.height v.attached 0 in
      rw h
      (pass_ends strip v (cached_work v strip)
      (λ y. none_left v.height v.attached _ leaves.clears.inside valid.below (leaves.yes y))
      (cached_heard strip v.height v.window v.attached 0))

  -- and so does a refreshed pass
  pub refreshed_ends :
      refreshed_checks v strip ≡ Ok tt →
      PassEnds strip (refreshed_of v strip).view.attached (refreshed_work v strip).read (refreshed_of v strip).answer
  unfolding refreshed_of
  refreshed_ends h =
      let valid = (refreshed_passes v strip).0 h in
      let p = begun v.attached 0 in
      let leaves = refreshed_leaves strip v.window v.height p in
      rw h
      (pass_ends strip v (refreshed_work v strip)
      (λ y. none_left v.height v.attached _ leaves.clears.inside valid.0.below
      (refreshed_yes v.height v.window p _ leaves valid.1 y))
      (refreshed_heard strip v.height v.window p refl))

module _ {strip : List ℕ} {lent from attached read : ℕ} where
  -- a yes leaves no lane attached
  pub accepted_detached :
      {a : Result ℕ Failure} → Ends strip lent from attached read a → is_accepted a ≡ true → attached ≡ 0
  accepted_detached (yes n k e c) t = e
  accepted_detached (error n k f) t = absurd (clash false t refl)
  accepted_detached (spent c) t = absurd (clash false t refl)

  -- no end is the answer of a check
  pub ends_unrefused : {a : Result ℕ Failure} → Ends strip lent from attached read a → is_refusal a ≡ false
  ends_unrefused (yes n k e c) = refl
  ends_unrefused (error n k f) = refl
  ends_unrefused (spent c) = refl

  -- 24 comes of an error
  fault_of :
      {a : Result ℕ Failure} → Ends strip lent from attached read a → (n : ℕ) → a ≡ Err (Failure.Offset n) →
      Fault strip from read
  fault_of (yes m k e c) n o = absurd (other_number o (omega arith))
  fault_of (error m k f) n o = f
  fault_of (spent c) n o = absurd (other_number o (omega arith))

  -- what is not 24 comes of none
  clean_of : {a : Result ℕ Failure} → Ends strip lent from attached read a → MetNoError a → Clean strip from read
  clean_of (yes m k e c) f = c
  clean_of (error m k g) f = absurd (f m refl)
  clean_of (spent c) f = c

  -- an error gives 24
  offset_of :
      {a : Result ℕ Failure} → Ends strip lent from attached read a → (i : ℕ) → from ≤ i → i < read → 1 < byte_at strip i →
      (n : ℕ) × (a ≡ Err (Failure.Offset n))
  offset_of (yes m k e c) i f l h = let low = c i f l in absurd (omega arith)
  offset_of (error m k g) i f l h = (m, refl)
  offset_of (spent c) i f l h = let low = c i f l in absurd (omega arith)

  -- 25 comes of all the rounds lent
  lent_of : {a : Result ℕ Failure} → Ends strip lent from attached read a → (n : ℕ) → a ≡ Err (Failure.Budget n) → n ≡ lent
  lent_of (yes m k e c) n o = absurd (other_number o (omega arith))
  lent_of (error m k g) n o = absurd (other_number o (omega arith))
  lent_of (spent c) n o = sym (ap (λ (a : Result ℕ Failure). (told_of a).value) o)

module _ (v : View) (strip : List ℕ) (lent : ℕ) (passes : entry_checks v strip ≡ Ok tt) where
  -- a detach is accepted, with no lane attached, or is 24 at an error byte, or 25 with the rounds lent, and no other answer
  pub detach_ends :
      Ends strip lent 0 (detach_of v strip lent).view.attached (detach_work v strip lent).read (detach_of v strip lent).answer
  unfolding detach_of
  detach_ends =
      let valid = ((detach_passes v strip).0 passes).0 in
      rw passes (detaching_ends strip v.height lent v.attached v.window valid.below)

  -- the flag that it leaves goes by its answer
  retired_flag : (detach_of v strip lent).view.retired ≡ cond (is_accepted (detach_of v strip lent).answer) 1 0
  unfolding detach_of
  retired_flag = rw (passes, ((detach_passes v strip).0 passes).0.unretired)

  -- accepted, it has retired the node, and no lane leads to it
  pub accepted_retired : is_accepted (detach_of v strip lent).answer ≡ true → Retired (detach_of v strip lent)
  accepted_retired t =
      record { accepted = t; retired = rw t at retired_flag; detached = accepted_detached detach_ends t }

  -- not accepted, it has left the node not retired, as it was
  pub else_not_retired : is_accepted (detach_of v strip lent).answer ≡ false → (detach_of v strip lent).view.retired ≡ 0
  else_not_retired t = rw t at retired_flag

  -- the node is retired exactly where the detach is accepted
  pub retired_exactly : ((detach_of v strip lent).view.retired ≡ 1) ↔ (is_accepted (detach_of v strip lent).answer ≡ true)
  retired_exactly = (λ r. go (is_accepted (detach_of v strip lent).answer) refl r, λ t. (accepted_retired t).retired)
    where
      go :
          (b : Bool) → is_accepted (detach_of v strip lent).answer ≡ b → (detach_of v strip lent).view.retired ≡ 1 → b ≡ true
      go true e r = refl
      go false e r = let none = else_not_retired e in absurd (omega arith)

  -- 24: the last byte read is an error, and no other
  pub offset_fault :
      (n : ℕ) → (detach_of v strip lent).answer ≡ Err (Failure.Offset n) → Fault strip 0 (detach_work v strip lent).read
  offset_fault n e = fault_of detach_ends n e

  -- any other answer: no byte read is an error
  pub else_clean :
      MetNoError (detach_of v strip lent).answer → (i : ℕ) → i < (detach_work v strip lent).read → byte_at strip i ≤ 1
  else_clean f i k = clean_of detach_ends f i (omega arith) k

  -- 24 exactly where an error byte was read
  pub offset_exactly :
      ((n : ℕ) × ((detach_of v strip lent).answer ≡ Err (Failure.Offset n)))
      ↔ ((i : ℕ) × (i < (detach_work v strip lent).read) × (1 < byte_at strip i))
  offset_exactly =
      (λ o. last_read (offset_fault o.0 o.1), λ i. offset_of detach_ends i.0 (omega arith) i.1 i.2)
    where
      last_read :
          Fault strip 0 (detach_work v strip lent).read → (i : ℕ) × (i < (detach_work v strip lent).read) × (1 < byte_at strip i)
      last_read f = let some = f.some in ((detach_work v strip lent).read - 1, omega arith, f.last)

  -- 25 tells the rounds lent
  pub budget_lent : (n : ℕ) → (detach_of v strip lent).answer ≡ Err (Failure.Budget n) → n ≡ lent
  budget_lent n e = lent_of detach_ends n e
