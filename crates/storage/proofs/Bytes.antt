-- One insertion and one removal by the byte read, in a table that carries its postings.
use Rattle.std.proofs.Common.{Option, Some, None, Err, Ok}
use Prim.Native.Nat.{ℕ, ◌≤◌, ◌<◌}
use mathlib.Core.Path.{◌≡◌, refl, sym, ap, ◌∙◌}
use mathlib.Core.List.{List}
use mathlib.Core.Bool.{Bool, true, false, not, cond}
use lib.ListN.{length}
use lib.Dec.{eqb}
use borrow.Author.Tests.{ne_eqb}
use Rattle.rules.specs.declared.Posting.{Posting}
use Rattle.rules.specs.declared.Fault.{Fault}
use Rattle.rules.specs.Postings.{inserted, removed}
use Rattle.rules.specs.Table.{postings}
use Rattle.rules.specs.Storage.{Insertion, insertion, Removal, removal}
use Rattle.laws.proofs.Steps.{insertion_clear, insertion_full, insertion_store, removal_keeps}
use Rattle.table.specs.Holding.{Carries, Ordered}
use Rattle.table.proofs.Keeping.{carries_postings}
use Rattle.storage.specs.declared.Storage.{Storage}
use Rattle.storage.specs.Leaving.{told_fault, Leaves, InsertionIn, RemovalIn, CarriesInsertion, CarriesRemoval}

module _ (byte capacity used : ℕ) (p : Posting) (t : List ℕ) (h : Ordered t used) where
  -- where the byte is not 0, storage refuses the insertion, and the table is as it was
  pub insert_stored : (byte ≡ 0 → ⊥) → CarriesInsertion (insertion byte capacity p (postings used t)) (Some Fault.Store) t used
  insert_stored e = rw (insertion_store byte capacity p (postings used t) e) (record { fault = refl; carries = h })

  -- where it is 0 and there is no room, the insertion fails full, and the table is as it was
  pub insert_full :
      byte ≡ 0 → capacity ≤ used → CarriesInsertion (insertion byte capacity p (postings used t)) (Some Fault.Full) t used
  insert_full e k =
      let r : capacity ≤ length (postings used t) = rw (← h.count) k in
      rw (insertion_full byte capacity p (postings used t) e r) (record { fault = refl; carries = h })

  -- where it is 0 and there is room, the insertion leaves a table that carries the postings with p put in
  pub insert_clear :
      (t' : List ℕ) (more : ℕ) → byte ≡ 0 → used < capacity → Carries t' more (inserted p (postings used t)) →
      CarriesInsertion (insertion byte capacity p (postings used t)) None t' more
  insert_clear t' more e k o =
      let r : length (postings used t) < capacity = rw (← h.count) k in
      rw (insertion_clear byte capacity p (postings used t) e r) (record { fault = refl; carries = o })

  -- where the byte is 1, the removal fails, and the table is as it was
  pub remove_kept : byte ≡ 1 → CarriesRemoval (removal byte p (postings used t)) true t used
  remove_kept e = rw (e, removal_keeps p (postings used t)) (record { failed = refl; carries = h })

  -- where it is not 1, the removal leaves a table that carries the postings without p; it fails unless the byte is 0
  pub remove_gone :
      (t' : List ℕ) (left : ℕ) (b : Bool) → (byte ≡ 1 → ⊥) → b ≡ not (eqb byte 0) →
      Carries t' left (removed p (postings used t)) → CarriesRemoval (removal byte p (postings used t)) b t' left
  unfolding removal
  remove_gone t' left b e f o = go (eqb byte 0) refl
    where
      go : (z : Bool) → eqb byte 0 ≡ z → CarriesRemoval (removal byte p (postings used t)) b t' left
      go true k = rw k (record { failed = f ∙ ap not k; carries = o })
      go false k = rw (k, ne_eqb byte 1 e) (record { failed = f ∙ ap not k; carries = o })

-- such a step is what it tells and what the table shows
insertion_is :
    {i : Insertion} {met : Option Fault} {t : List ℕ} {used : ℕ} → CarriesInsertion i met t used →
    i ≡ record { fault = met; postings = postings used t }
insertion_is {i} {met} {t} {used} s =
    λ j. record { fault = sym s.fault j; postings = sym (carries_postings t used i.postings s.carries) j }

removal_is :
    {o : Removal} {fails : Bool} {t : List ℕ} {used : ℕ} → CarriesRemoval o fails t used →
    o ≡ record { failed = fails; postings = postings used t }
removal_is {o} {fails} {t} {used} s =
    λ j. record { failed = sym s.failed j; postings = sym (carries_postings t used o.postings s.carries) j }

-- so the proofs of the code find the five as equations
module _ (byte capacity used : ℕ) (p : Posting) (t : List ℕ) where
  pub stored_is :
      Ordered t used → (byte ≡ 0 → ⊥) →
      insertion byte capacity p (postings used t) ≡ record { fault = (Some Fault.Store); postings = postings used t }
  stored_is h e = insertion_is (insert_stored byte capacity used p t h e)

  pub full_is :
      Ordered t used → byte ≡ 0 → capacity ≤ used →
      insertion byte capacity p (postings used t) ≡ record { fault = (Some Fault.Full); postings = postings used t }
  full_is h e k = insertion_is (insert_full byte capacity used p t h e k)

  pub clear_is :
      (t' : List ℕ) (more : ℕ) → Ordered t used → byte ≡ 0 → used < capacity → Carries t' more (inserted p (postings used t)) →
      insertion byte capacity p (postings used t) ≡ record { fault = None; postings = postings more t' }
  clear_is t' more h e k o = insertion_is (insert_clear byte capacity used p t h t' more e k o)

  pub kept_is :
      Ordered t used → byte ≡ 1 → removal byte p (postings used t) ≡ record { failed = true; postings = postings used t }
  kept_is h e = removal_is (remove_kept byte 0 used p t h e)

  pub gone_is :
      (t' : List ℕ) (left : ℕ) → Ordered t used → (byte ≡ 1 → ⊥) → Carries t' left (removed p (postings used t)) →
      removal byte p (postings used t) ≡ record { failed = not (eqb byte 0); postings = postings left t' }
  gone_is t' left h e o = removal_is (remove_gone byte 0 used p t h t' left _ e refl o)

-- and a lent table with its strip, left with the postings of such a one and a byte less, is what the contracts of the code say
module _ (before after : Storage) (t : List ℕ) (used : ℕ) (l : Leaves before after (postings used t) 1) where
  pub insertion_in :
      (i : Insertion) (met : Option Fault) → CarriesInsertion i met t used → InsertionIn i (told_fault met) before after
  insertion_in i met s = (ap told_fault s.fault, rw (carries_postings t used i.postings s.carries) at l)

  pub removal_in :
      (o : Removal) (fails : Bool) → CarriesRemoval o fails t used →
      RemovalIn o (cond fails (Err Fault.Store) (Ok tt)) before after
  removal_in o fails s =
      (ap (λ b. cond b (Err Fault.Store) (Ok tt)) s.failed, rw (carries_postings t used o.postings s.carries) at l)
