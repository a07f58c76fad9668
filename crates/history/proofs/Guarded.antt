-- Every destination that is inserted or taken back and every source that is removed is guarded: upstream's requirements on its
-- two primitives.
use Rattle.std.proofs.Common.{Option, Some, None, Ok, ℕ}
use Prim.Native.Nat.{ℕ, zero, suc, ◌+◌, ◌<◌}
use native.Mathlib.Omega.{arith}
use mathlib.Core.Path.{◌≡◌}
use mathlib.Core.List.{List, [], ◌∷◌}
use mathlib.Core.Bool.{true, false, ◌&&◌}
use mathlib.Mathlib.Data.Bool.Basic.{and_elim_left, and_elim_right}
use lib.ListN.{length, get_or}
use lib.Dec.{ltb}
use borrow.Author.Tests.{ltb-true}
use Rattle.rules.specs.declared.Change.{Change}
use Rattle.rules.specs.declared.Guard.{Guard}
use Rattle.rules.specs.declared.Head.{Head}
use Rattle.rules.specs.Orders.{guards, Numbered, named, destination_of, source_of, destinations_from, sources_from, destinations, sources, no_change, recorded, Call, changes_of}
use Rattle.rules.specs.Checks.{key_held, guarded, publish_checks}
use Rattle.rules.specs.Calls.{prepare_of, rollback_of, removal_of, publish_of}
use Rattle.laws.specs.Words.{is_refusal}
use Rattle.laws.proofs.Checks.{publish_proper, publish_passed}
use Rattle.laws.proofs.Names.{guard_passes, held_at}
use Rattle.history.specs.Upstream.{Valid}
use Rattle.history.specs.Guarded.{AllGuarded, WorksGuarded}
use Rattle.history.proofs.Upstream.{unless_passes, prepare_clauses, rollback_clauses, removal_clauses}

module _ (bindings : ℕ) (gs : List Guard) where
  -- a posting with a held key of a change whose binding is below the count, in front of others that are guarded
  named_guarded :
      (i : ℕ) (c : Change) (key : Option ℕ) (ds : List Numbered) → c.binding < bindings → key_held c.binding key gs ≡ true →
      AllGuarded bindings gs ds → AllGuarded bindings gs (named i c key ds)
  named_guarded i c None ds b h f k l = f k l
  named_guarded i c (Some key) ds b h f zero l = record { below = b; holder = held_at c.binding key gs h }
  named_guarded i c (Some key) ds b h f (suc k) l = f k (omega arith)

  -- what guarded says of a change
  guarded_parts :
      (c : Change) → guarded bindings gs c ≡ true →
      (c.binding < bindings) × (key_held c.binding c.before gs ≡ true) × (key_held c.binding c.after gs ≡ true)
  unfolding guarded
  guarded_parts c h =
      let below = ltb c.binding bindings in
      let before = key_held c.binding c.before gs in
      let after = key_held c.binding c.after gs in
      let both = and_elim_left (below && before) after h in (
        ltb-true c.binding bindings (and_elim_left below before both),
        and_elim_right below before both,
        and_elim_right (below && before) after h,
      )

  -- so what it brings is guarded, and what it takes
  destination_guarded :
      (i : ℕ) (c : Change) (ds : List Numbered) → guarded bindings gs c ≡ true → AllGuarded bindings gs ds →
      AllGuarded bindings gs (named i c (destination_of c) ds)
  destination_guarded i c ds h = let p = guarded_parts c h in named_guarded i c (destination_of c) ds p.0 p.2

  source_guarded :
      (i : ℕ) (c : Change) (ds : List Numbered) → guarded bindings gs c ≡ true → AllGuarded bindings gs ds →
      AllGuarded bindings gs (named i c (source_of c) ds)
  source_guarded i c ds h = let p = guarded_parts c h in named_guarded i c (source_of c) ds p.0 p.1

  -- every change of a list is guarded
  abbrev AllValid : List Change → Type 0
  AllValid cs = (k : ℕ) → k < length cs → guarded bindings gs (get_or cs k no_change) ≡ true

  -- and so are those after the first
  rest_valid : (c : Change) (cs : List Change) → AllValid (c ∷ cs) → AllValid cs
  rest_valid c cs v k l = v (suc k) (omega arith)

  destinations_guarded : (i : ℕ) (cs : List Change) → AllValid cs → AllGuarded bindings gs (destinations_from i cs)
  unfolding destinations_from
  destinations_guarded i [] v = λ k l. absurd (omega arith)
  destinations_guarded i (c ∷ cs) v =
      destination_guarded i c (destinations_from (i + 1) cs) (v 0 (omega arith)) (destinations_guarded (i + 1) cs (rest_valid c cs v))

  sources_guarded : (i : ℕ) (cs : List Change) → AllValid cs → AllGuarded bindings gs (sources_from i cs)
  unfolding sources_from
  sources_guarded i [] v = λ k l. absurd (omega arith)
  sources_guarded i (c ∷ cs) v =
      source_guarded i c (sources_from (i + 1) cs) (v 0 (omega arith)) (sources_guarded (i + 1) cs (rest_valid c cs v))

  -- a number of a record means a guarded destination, or none
  recorded_guarded : (cs : List Change) (ns : List ℕ) → AllValid cs → AllGuarded bindings gs (recorded cs ns)
  unfolding recorded
  recorded_guarded cs [] v = λ k l. absurd (omega arith)
  recorded_guarded cs (n ∷ ns) v = go cs n v (recorded_guarded cs ns v)
    where
      go :
          (bs : List Change) (m : ℕ) → AllValid bs → AllGuarded bindings gs (recorded cs ns) →
          AllGuarded bindings gs (named n (get_or bs m no_change) (destination_of (get_or bs m no_change)) (recorded cs ns))
      go [] m w f = f
      go (b ∷ bs) zero w f = destination_guarded n b (recorded cs ns) (w 0 (omega arith)) f
      go (b ∷ bs) (suc m) w f = go bs m (rest_valid b bs w) f

module _ (head : Head) (table : List ℕ) (c : Call) where
  publish_valid : publish_checks head table c ≡ Ok tt → Valid head table c
  publish_valid h = guard_passes _ _ _ (publish_passed head table c h).guarding

  -- upstream's valid, of a publish
  pub publish_requires_valid : is_refusal (publish_of head table c).answer ≡ false → Valid head table c
  unfolding publish_of
  publish_requires_valid h =
      publish_valid (unless_passes head table c (publish_checks head table c) _ (publish_proper head table c) h)

  -- publish: what prepare's part inserts, and takes back where it must, and what source removal takes
  pub publish_inserts_guarded : WorksGuarded head c (destinations (changes_of c)) (publish_of head table c)
  publish_inserts_guarded h =
      destinations_guarded head.bindings (guards c.guard_list) 0 (changes_of c) (publish_requires_valid h)

  pub publish_removes_guarded : WorksGuarded head c (sources (changes_of c)) (publish_of head table c)
  publish_removes_guarded h =
      sources_guarded head.bindings (guards c.guard_list) 0 (changes_of c) (publish_requires_valid h)

  -- prepare, likewise
  pub prepare_inserts_guarded : WorksGuarded head c (destinations (changes_of c)) (prepare_of head table c)
  prepare_inserts_guarded h =
      destinations_guarded head.bindings (guards c.guard_list) 0 (changes_of c) ((prepare_clauses head table c).requires_valid h)

  -- rollback: what its record names
  pub rollback_removes_guarded : WorksGuarded head c (recorded (changes_of c) c.record_list) (rollback_of head table c)
  rollback_removes_guarded h =
      recorded_guarded head.bindings (guards c.guard_list) (changes_of c) c.record_list
      ((rollback_clauses head table c).requires_valid h)

  -- source removal
  pub removal_removes_guarded : WorksGuarded head c (sources (changes_of c)) (removal_of head table c)
  removal_removes_guarded h =
      sources_guarded head.bindings (guards c.guard_list) 0 (changes_of c) ((removal_clauses head table c).requires_valid h)
