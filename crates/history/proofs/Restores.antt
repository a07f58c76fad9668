-- A clean rollback of an accepted prepare restores table and head exactly. The caller lends the part of its record list that
-- prepare named.
use Rattle.std.proofs.Common.{Ok}
use Prim.Native.Nat.{ℕ, ◌+◌}
use native.Mathlib.Omega.{arith}
use mathlib.Core.Path.{◌≡◌, ap, ◌∙◌}
use mathlib.Core.List.{List, reverse}
use mathlib.Core.Bool.{true, cond}
use lib.ListN.{length, take, drop, length-map, length-reverse}
use lib.Seq.{take_at}
use Rattle.strips.specs.Strips.{proper_strip}
use Rattle.rules.specs.declared.Head.{Head}
use Rattle.rules.specs.Table.{postings, laid_out}
use Rattle.rules.specs.Orders.{Numbered, destinations, change_numbers, recorded, Call, changes_of}
use Rattle.rules.specs.Answers.{is_accepted, poisons, settled}
use Rattle.rules.specs.Checks.{record_check, opening_checks, prepare_checks, rollback_checks}
use Rattle.rules.specs.Publication.{Stage, rolled_back}
use Rattle.rules.specs.Calls.{Outcome, as_before, shown, prepare_of, rollback_of}
use Rattle.laws.specs.Words.{postings_before, taken_away, Quiet}
use Rattle.booleans.proofs.Tests.{impossible}
use Rattle.laws.proofs.Flat.{well_formed_parts, used_postings, laid_out_same}
use Rattle.laws.proofs.Checks.{open_passes, lent_proper, lent_passes, prepare_passed, rollback_passes, Clear, prepare_clear}
use Rattle.laws.proofs.Calls.{prepare_well_formed, prepare_stable}
use Rattle.laws.proofs.Records.{recorded_numbers, record_taken, added_back}
use Rattle.laws.proofs.Outcomes.{RollsBack, rolls_back, undid, recorded_back}
use Rattle.history.specs.Upstream.{postings_left, back_of}
use Rattle.history.proofs.Upstream.{PreparedWell, prepare_accepted}

module _ (head : Head) (table : List ℕ) (c : Call) (strip : List ℕ) (ok : is_accepted (prepare_of head table c).answer ≡ true) where
  well : PreparedWell head table c (prepare_of head table c)
  well = prepare_accepted head table c ok

  clear : Clear head table c
  clear = prepare_clear head table c well.passes

  -- the part that is lent is the record itself
  part_record : (back_of c (prepare_of head table c) strip).record_list ≡ change_numbers (destinations (changes_of c))
  part_record =
      ap (λ (o : Outcome). take (length (destinations (changes_of c))) o.record_list) well.whole
      ∙ take_at (change_numbers (destinations (changes_of c))) (drop (length (change_numbers (destinations (changes_of c)))) c.record_list)
      (length (destinations (changes_of c)))
      (length-map (destinations (changes_of c)) (λ (d : Numbered). d.number))

  healthy : (prepare_of head table c).head.poisoned ≡ head.poisoned
  healthy = (prepare_stable head table c).flag ∙ rw well.named

  record_takes : record_check (changes_of c) (back_of c (prepare_of head table c) strip).record_list ≡ Ok tt
  unfolding record_check
  record_takes = rw part_record (record_taken (changes_of c))

  opens : opening_checks (prepare_of head table c).head (prepare_of head table c).table ≡ Ok tt
  opens = open_passes _ _ (prepare_well_formed head table c clear.formed) (healthy ∙ clear.healthy)

  -- the checks of the prepare that rollback has too passed then, and pass now
  checks_pass :
      proper_strip strip ≡ true → prepare_checks head table c ≡ Ok tt →
      rollback_checks (prepare_of head table c).head (prepare_of head table c).table (back_of c (prepare_of head table c) strip) ≡ Ok tt
  checks_pass s h =
      let p = prepare_passed head table c h in
      rollback_passes _ _ _ opens (lent_passes _ _ _ (lent_proper _ _ _ p.lent).0 s)
      (rw (prepare_stable head table c).bindings p.guarding)
      record_takes

  -- what the rollback undoes, and what that leaves
  undoes : recorded_back (back_of c (prepare_of head table c) strip) ≡ reverse (destinations (changes_of c))
  undoes = ap (λ l. reverse (recorded (changes_of c) l)) part_record ∙ ap reverse (recorded_numbers (changes_of c))

  taken_back : taken_away (reverse (destinations (changes_of c))) (postings_left (prepare_of head table c)) ≡ postings_before head table
  taken_back =
      ap (taken_away (reverse (destinations (changes_of c)))) well.postings
      ∙ added_back (destinations (changes_of c)) (postings_before head table) clear.fresh

  -- shown again, the postings before are the table before
  shown_before :
      (list : List ℕ) (s : Stage) → s.answer ≡ Ok 0 → s.postings ≡ postings_before head table →
      shown (prepare_of head table c).head (prepare_of head table c).table list s ≡ as_before head table list (Ok 0)
  shown_before list s a e =
      let w = well_formed_parts head table clear.formed in
      let k = prepare_stable head table c in
      let u : length s.postings ≡ head.used = ap length e ∙ used_postings head table w in
      let p : cond (poisons s.answer) 1 (prepare_of head table c).head.poisoned ≡ head.poisoned = rw a healthy in
      let t : laid_out (length (prepare_of head table c).table) s.postings ≡ table = rw (k.size, e) (laid_out_same head table w) in
      λ i.
      record {
        answer = a i;
        head = record { bindings = k.bindings i; used = u i; poisoned = p i };
        table = t i;
        record_list = list;
      }

  -- CLEAN UNDO: table and head are those from before the prepare, number for number
  pub rollback_restores :
      proper_strip strip ≡ true → Quiet strip 0 (length (destinations (changes_of c))) →
      rollback_of (prepare_of head table c).head (prepare_of head table c).table (back_of c (prepare_of head table c) strip) ≡ as_before head table (back_of c (prepare_of head table c) strip).record_list (Ok 0)
  rollback_restores s q = go (rollback_of ohead otable back) (rolls_back ohead otable back)
    where
      ohead : Head
      ohead = (prepare_of head table c).head

      otable : List ℕ
      otable = (prepare_of head table c).table

      back : Call
      back = back_of c (prepare_of head table c) strip

      as_many : length (recorded_back back) ≡ length (destinations (changes_of c))
      as_many = ap length undoes ∙ length-reverse (destinations (changes_of c))

      go : (o : Outcome) → RollsBack ohead otable back o → o ≡ as_before head table back.record_list (Ok 0)
      go o (RollsBack.refused a e k) =
          let p = checks_pass s well.passes in
          impossible (cc)
      go o (RollsBack.clean e r k) =
          k
          ∙ shown_before back.record_list (rolled_back (undid ohead otable back)) (ap (λ v. settled v (Ok 0)) r.verdict)
          (r.leaves ∙ (ap (λ l. taken_away l (postings ohead.used otable)) undoes ∙ taken_back))
      go o (RollsBack.failed e r k) =
          let t = r.there in
          let n = as_many in
          absurd (r.fault (q (0 + r.at) (omega arith) (omega arith)))
