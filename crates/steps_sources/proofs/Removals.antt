-- Source removal: the turns of its walk up the changes.
use Rattle.std.proofs.Common.{Option, Some, None, Result, Ok, Err}
use Prim.Native.Nat.{ℕ, ◌+◌, ◌<◌, ◌≤◌}
use native.Mathlib.Omega.{arith}
use mathlib.Core.Path.{◌≡◌, refl, sym, ap, ◌∙◌}
use mathlib.Core.List.{List, [], ◌∷◌}
use mathlib.Core.Bool.{Bool, true, false, cond}
use lib.ListN.{length, drop, get_or}
use lib.Seq.{get_or-drop}
use Rattle.strips.specs.Strips.{byte_at}
use Rattle.booleans.proofs.Tests.{impossible}
use Rattle.rules.specs.declared.Change.{Change}
use Rattle.rules.specs.declared.Fault.{Fault}
use Rattle.rules.specs.declared.Failure.{Failure}
use Rattle.rules.specs.declared.Posting.{Posting}
use Rattle.rules.specs.Orders.{Numbered, named, source_of, sources, sources_from, no_change}
use Rattle.rules.specs.Storage.{Removal, removal}
use Rattle.rules.specs.Publication.{Stage, removing}
use Rattle.changes.proofs.Walk.{sources_left, sources_none}
use Rattle.storage.specs.declared.Storage.{Storage}
use Rattle.storage.specs.Leaving.{holding, Leaves, RemovalIn}
use Rattle.storage.proofs.Following.{leaves_then}
use Rattle.steps.specs.Leaving.{StageIn}

-- a source removal that has come up to i
pub record Removing (cs : List Change) (clear : Result ℕ Failure) (before after : Storage) (i : ℕ) : Type 0 where
  pub read : ℕ
  pub leaves : Leaves before after (holding after) read
  pub is :
      removing before.strip.now clear (sources cs) 0 (holding before) ≡
      removing before.strip.now clear (sources_from i (drop i cs)) read (holding after)

-- what the answer of a removal says of it
failed_lem : (b : Bool) (x : Fault) → cond {A = Result Unit Fault} b (Err Fault.Store) (Ok tt) ≡ Err x → b ≡ true
failed_lem true x e = refl
failed_lem false x e = impossible (cc)

clear_lem : (b : Bool) (x : Unit) → cond {A = Result Unit Fault} b (Err Fault.Store) (Ok tt) ≡ Ok x → b ≡ false
clear_lem true x e = impossible (cc)
clear_lem false x e = refl

module _ {cs : List Change} {clear : Result ℕ Failure} {before after : Storage} {i : ℕ} (z : Removing cs clear before after i) where
  pub remove_end :
      length cs ≤ i → StageIn (removing before.strip.now clear (sources cs) 0 (holding before)) clear before after
  unfolding removing
  remove_end h =
      rw (z.is ∙ ap (λ ds. removing before.strip.now clear ds z.read (holding after)) (sources_none cs i h)) (refl, z.leaves)

  module _ (h : i < length cs) where
    abbrev c : Change
    c = get_or cs i no_change

    left :
        (k : Option ℕ) → source_of c ≡ k →
        removing before.strip.now clear (sources cs) 0 (holding before) ≡
        removing before.strip.now clear (named i c k (sources_from (i + 1) (drop (i + 1) cs))) z.read (holding after)
    left k e =
        z.is
        ∙ (ap (λ ds. removing before.strip.now clear ds z.read (holding after)) (sources_left cs i h)
        ∙ ap (λ (j : Option ℕ). removing before.strip.now clear (named i c j (sources_from (i + 1) (drop (i + 1) cs))) z.read (holding after)) e)

    pub remove_pass : source_of c ≡ None → Removing cs clear before after (i + 1)
    remove_pass e = record { read = z.read; leaves = z.leaves; is = left None e }

    module _ (key : ℕ) (ek : source_of c ≡ Some key) where
      abbrev p : Posting
      p = record { binding = c.binding; key = key; row = c.row }

      -- the byte that is read next
      here : byte_at after.strip.now 0 ≡ byte_at before.strip.now z.read
      here =
          let n : z.read + 0 ≡ z.read = omega arith in
          ap (λ l. byte_at l 0) z.leaves.3 ∙ (get_or-drop z.read before.strip.now 0 0 ∙ ap (byte_at before.strip.now) n)

      module _ (next : Storage) (r : Result Unit Fault)
          (o : RemovalIn (removal (byte_at after.strip.now 0) p (holding after)) r after next) where
        step_leaves : Leaves before next (holding next) (z.read + 1)
        step_leaves = let l = leaves_then before after next z.read 1 z.leaves o.1 in (l.0, l.1, refl, l.3)

        stepped :
            removing before.strip.now clear (sources cs) 0 (holding before) ≡
            cond (removal (byte_at after.strip.now 0) p (holding after)).failed
            (record { answer = Err (Failure.Source i); postings = holding next; read = z.read + 1 })
            (removing before.strip.now clear (sources_from (i + 1) (drop (i + 1) cs)) (z.read + 1) (holding next))
        unfolding removing
        stepped = left (Some key) ek ∙ rw (← here, o.1.2) refl

        pub remove_clear : (x : Unit) → r ≡ Ok x → Removing cs clear before next (i + 1)
        remove_clear x e =
            record {
              read = z.read + 1;
              leaves = step_leaves;
              is = stepped ∙ rw (clear_lem _ x (sym o.0 ∙ e)) refl;
            }

        pub remove_stop :
            (x : Fault) → r ≡ Err x →
            StageIn (removing before.strip.now clear (sources cs) 0 (holding before)) (Err (Failure.Source i)) before next
        remove_stop x e = rw (stepped, failed_lem _ x (sym o.0 ∙ e)) (refl, step_leaves)

-- a stage with more bytes read before it
abbrev pub later : ℕ → Stage → Stage
later start s = record { answer = s.answer; postings = s.postings; read = start + s.read }

either : (start : ℕ) (b : Bool) (stop stop' more more' : Stage) → stop ≡ later start stop' → more ≡ later start more' → cond b stop more ≡ later start (cond b stop' more')
either start true stop stop' more more' p q = p
either start false stop stop' more more' p q = q

-- removals that begin later in the strip are those on what is left of it, but for the count of bytes read
pub removing_later :
    (strip : List ℕ) (clear : Result ℕ Failure) (ss : List Numbered) (start read : ℕ) (ps : List Posting) →
    removing strip clear ss (start + read) ps ≡ later start (removing (drop start strip) clear ss read ps)
unfolding removing
removing_later strip clear [] start read ps = refl
removing_later strip clear (s ∷ ss) start read ps =
    let r : Removal = removal (byte_at strip (start + read)) s.posting ps in
    let n : start + read + 1 ≡ start + (read + 1) = omega arith in
    rw (get_or-drop start strip read 0)
    (either start r.failed _ _ _ _
    (λ i. record { answer = Err (Failure.Source s.number); postings = r.postings; read = n i })
    (ap (λ m. removing strip clear ss m r.postings) n ∙ removing_later strip clear ss start (read + 1) r.postings))

-- and so they are, counted from where they begin
pub removing_rest :
    (strip : List ℕ) (clear : Result ℕ Failure) (ss : List Numbered) (start : ℕ) (ps : List Posting) →
    removing strip clear ss start ps ≡ later start (removing (drop start strip) clear ss 0 ps)
removing_rest strip clear ss start ps =
    let n : start ≡ start + 0 = omega arith in
    ap (λ (m : ℕ). removing strip clear ss m ps) n ∙ removing_later strip clear ss start 0 ps
