-- What failed steps leave, by their bytes: source removal that stops at a place, undo that goes from the last posting to the first,
-- and prepare that stops and undoes.
use Rattle.std.proofs.Common.{Result, Ok, ℕ}
use Prim.Native.Nat.{ℕ, zero, suc, ◌+◌, ◌-◌, ◌≤◌, ◌<◌}
use native.Mathlib.Omega.{arith}
use mathlib.Core.Path.{◌≡◌, refl, sym, ap, ◌∙◌}
use mathlib.Core.List.{List, [], ◌∷◌, reverse_aux, reverse}
use mathlib.Core.Bool.{Bool, true, false, cond, not, ◌&&◌, ◌||◌, and-true}
use mathlib.Core.Logic.{◌⊎◌, inl, inr}
use mathlib.Mathlib.Data.Bool.Basic.{or_inr}
use lib.ListN.{length, get_or, take}
use lib.Dec.{eqb}
use borrow.Author.Tests.{ne_eqb, eqb-true, eqb-false}
use Rattle.strips.specs.Strips.{byte_at}
use Rattle.rules.specs.declared.Posting.{Posting}
use Rattle.rules.specs.declared.Failure.{Failure}
use Rattle.rules.specs.Postings.{same, ascending, present, inserted, removed}
use Rattle.rules.specs.Storage.{removal}
use Rattle.rules.specs.Orders.{Numbered, postings_of}
use Rattle.rules.specs.Publication.{undoing, preparing, removing}
use Rattle.laws.specs.Words.{added, taken_away, nowhere, Quiet}
use Rattle.booleans.proofs.Tests.{either, by_cases, or_left, or_right, neither}
use Rattle.laws.proofs.Ranks.{same_equal, same_self}
use Rattle.laws.proofs.Lists.{present_inserted, length_inserted, differs}
use Rattle.laws.proofs.Steps.{removing_clear, removing_fails, preparing_clear, preparing_full, preparing_store}
use Rattle.laws.proofs.Undo.{byte_is}
use Rattle.laws.proofs.Prepare.{Fresh}
use Rattle.laws.proofs.Sorted.{ascending_same}
use Rattle.laws.proofs.Sets.{present_added, ascending_added, ascending_taken_away, present_said}
use Rattle.history.specs.Failures.{gone_at, stuck, freed}

-- a byte of a removal that failed is 1 or 2
failed_byte : (byte : ℕ) → (byte ≡ 0 → ⊥) → byte ≤ 2 → (byte ≡ 1) ⊎ (byte ≡ 2)
failed_byte byte h k = go (either (eqb byte 2))
  where
    go : (eqb byte 2 ≡ true) ⊎ (eqb byte 2 ≡ false) → (byte ≡ 1) ⊎ (byte ≡ 2)
    go (inl e) = inr (eqb-true byte 2 e)
    go (inr e) = let n = eqb-false byte 2 e in inl (omega arith)

gone_next : (byte j : ℕ) → (byte ≡ 1) ⊎ (byte ≡ 2) → gone_at byte (suc j) ≡ suc (gone_at byte j)
gone_next byte j (inl e) = rw e (omega arith)
gone_next byte j (inr e) = rw e (omega arith)

-- source removal that fails at a place
module _ (strip : List ℕ) (clear : Result ℕ Failure) where
  halts_here :
      (d : Numbered) (ds : List Numbered) (byte : ℕ) (ps : List Posting) → (byte ≡ 1) ⊎ (byte ≡ 2) →
      (removal byte d.posting ps).postings ≡ taken_away (take (gone_at byte 0) (d ∷ ds)) ps
  unfolding removal taken_away
  halts_here d ds byte ps (inl e) = rw e
  halts_here d ds byte ps (inr e) = rw e

  -- a source removal that fails leaves the list without the sources before the failed one, and without it too where its byte is 2
  pub halts_leaves :
      (items : List Numbered) (read j : ℕ) (ps : List Posting) → j < length items → Quiet strip read (read + j) →
      (byte_at strip (read + j) ≡ 0 → ⊥) → byte_at strip (read + j) ≤ 2 →
      (removing strip clear items read ps).postings ≡ taken_away (take (gone_at (byte_at strip (read + j)) j) items) ps
  unfolding taken_away
  halts_leaves [] read j ps l q f m = absurd (omega arith)
  halts_leaves (d ∷ ds) read zero ps l q f m =
      let e : read + 0 ≡ read = omega arith in
      let b = failed_byte (byte_at strip (read + 0)) f m in
      rw (e, removing_fails strip d ds read ps clear (rw e at f)) (halts_here d ds (byte_at strip read) ps (rw e at b))
  halts_leaves (d ∷ ds) read (suc j) ps l q f m =
      let e : read + 1 + j ≡ read + suc j = omega arith in
      let b = failed_byte (byte_at strip (read + suc j)) f m in
      rw (removing_clear strip d ds read ps clear (q read (omega arith) (omega arith)), gone_next (byte_at strip (read + suc j)) j b)
      (rw e at (halts_leaves ds (read + 1) j (removed d.posting ps) (omega arith) (λ i h k. q i (omega arith) (omega arith)) (rw (sym e) at f) (rw (sym e) at m)))

-- two removals in either order
removed_swap : (p q : Posting) (l : List Posting) → removed p (removed q l) ≡ removed q (removed p l)
unfolding removed
removed_swap p q [] = refl
removed_swap p q (x ∷ xs) = go (same p x) refl (same q x) refl (removed_swap p q xs)
  where
    go :
        (a : Bool) → same p x ≡ a → (b : Bool) → same q x ≡ b → removed p (removed q xs) ≡ removed q (removed p xs) →
        removed p (cond b (removed q xs) (x ∷ removed q xs)) ≡ removed q (cond a (removed p xs) (x ∷ removed p xs))
    go true e true f ih = ih
    go true e false f ih = rw e ih
    go false e true f ih = rw f ih
    go false e false f ih = rw (e, f) (ap (λ l. x ∷ l) ih)

taken_away_removed :
    (ds : List Numbered) (p : Posting) (ps : List Posting) → taken_away ds (removed p ps) ≡ removed p (taken_away ds ps)
unfolding taken_away
taken_away_removed [] p ps = refl
taken_away_removed (d ∷ ds) p ps = rw (removed_swap d.posting p ps) (taken_away_removed ds p (removed d.posting ps))

-- byte 1 keeps the posting, any other takes it
removal_but_one : (byte : ℕ) (p : Posting) (l : List Posting) → (removal byte p l).postings ≡ cond (eqb byte 1) l (removed p l)
unfolding removal
removal_but_one byte p l = go (byte_is byte) (either (eqb byte 1))
  where
    go :
        (byte ≡ 0) ⊎ (byte ≡ 0 → ⊥) → (eqb byte 1 ≡ true) ⊎ (eqb byte 1 ≡ false) →
        (removal byte p l).postings ≡ cond (eqb byte 1) l (removed p l)
    go (inl h) k = rw h
    go (inr h) (inl k) = rw (ne_eqb byte 0 h, k)
    go (inr h) (inr k) = rw (ne_eqb byte 0 h, k)

module _ (strip : List ℕ) where
  -- what an undo leaves does not hang on the verdict that it began with
  undoing_verdict :
      (ds : List Numbered) (v w : Result Unit Failure) (read : ℕ) (ps : List Posting) →
      (undoing strip ds v read ps).postings ≡ (undoing strip ds w read ps).postings
  unfolding undoing
  undoing_verdict [] v w read ps = refl
  undoing_verdict (d ∷ ds) v w read ps = undoing_verdict ds _ _ (read + 1) (removal (byte_at strip read) d.posting ps).postings

  -- one undo removal more: byte 1 keeps the posting, any other takes it
  freed_next :
      (d : Numbered) (ds : List Numbered) (from : ℕ) (ps : List Posting) →
      (removal (byte_at strip (from + length ds)) d.posting (taken_away (freed strip from ds) ps)).postings ≡ taken_away (freed strip from (d ∷ ds)) ps
  unfolding freed taken_away
  freed_next d ds from ps =
      removal_but_one (byte_at strip (from + length ds)) d.posting (taken_away (freed strip from ds) ps) ∙ go (eqb (byte_at strip (from + length ds)) 1)
    where
      go :
          (b : Bool) →
          cond b (taken_away (freed strip from ds) ps) (removed d.posting (taken_away (freed strip from ds) ps)) ≡ taken_away (cond b (freed strip from ds) (d ∷ freed strip from ds)) ps
      go true = refl
      go false = sym (taken_away_removed (freed strip from ds) d.posting ps)

  -- from the last to the first, and on with what was there before
  undoing_back :
      (ds done : List Numbered) (v : Result Unit Failure) (read : ℕ) (ps : List Posting) →
      (undoing strip (reverse_aux ds done) v read ps).postings ≡ (undoing strip done (Ok tt) (read + length ds) (taken_away (freed strip read ds) ps)).postings
  unfolding undoing freed taken_away
  undoing_back [] done v read ps = let e : read + 0 ≡ read = omega arith in rw e (undoing_verdict done v (Ok tt) read ps)
  undoing_back (d ∷ ds) done v read ps =
      let e : read + length ds + 1 ≡ read + suc (length ds) = omega arith in
      undoing_back ds (d ∷ done) v read ps
      ∙ (undoing_verdict done _ (Ok tt) (read + length ds + 1) _
      ∙ (λ i. (undoing strip done (Ok tt) (e i) (freed_next d ds read ps i)).postings))

  -- an undo from the last posting to the first leaves the list without those whose byte is not 1
  pub undoing_leaves :
      (ds : List Numbered) (v : Result Unit Failure) (read : ℕ) (ps : List Posting) →
      (undoing strip (reverse ds) v read ps).postings ≡ taken_away (freed strip read ds) ps
  unfolding undoing
  undoing_leaves ds v read ps = undoing_back ds [] v read ps

-- prepare that stops at a place: all before it was put in, and is undone from the last to the first
pub prepare_stops :
    (capacity : ℕ) (strip : List ℕ) (ds done : List Numbered) (read : ℕ) (ps : List Posting) (k : ℕ) → Fresh ds ps → k < length ds →
    Quiet strip read (read + k) → length ps + k ≤ capacity →
    (byte_at strip (read + k) ≡ 0 → ⊥) ⊎ (length ps + k ≡ capacity) →
    (preparing capacity strip ds done read ps).postings ≡ (undoing strip (reverse_aux (take k ds) done) (Ok tt) (read + k + 1) (added (take k ds) ps)).postings
unfolding added
prepare_stops capacity strip [] done read ps k f l q m e = absurd (omega arith)
prepare_stops capacity strip (d ∷ ds) done read ps zero f l q m e =
    let z : read + 0 ≡ read = omega arith in
    rw z (go (byte_is (byte_at strip read)) (rw z at e))
  where
    go :
        (byte_at strip read ≡ 0) ⊎ (byte_at strip read ≡ 0 → ⊥) → (byte_at strip read ≡ 0 → ⊥) ⊎ (length ps + 0 ≡ capacity) →
        (preparing capacity strip (d ∷ ds) done read ps).postings ≡ (undoing strip done (Ok tt) (read + 1) ps).postings
    go (inr h) k = rw (preparing_store strip d ds read ps capacity done h)
    go (inl h) (inl n) = absurd (n h)
    go (inl h) (inr n) =
        let r : capacity ≤ length ps = omega arith in
        rw (preparing_full strip d ds read ps capacity done h r)
prepare_stops capacity strip (d ∷ ds) done read ps (suc k) f l q m e =
    let n = length_inserted d.posting ps f.0 in
    let z : read + suc k ≡ read + 1 + k = omega arith in
    let u : length ps + suc k ≡ length (inserted d.posting ps) + k = omega arith in
    rw (z, preparing_clear strip d ds read ps capacity done (q read (omega arith) (omega arith)) (omega arith))
    (prepare_stops capacity strip ds (d ∷ done) (read + 1) (inserted d.posting ps) k f.1 (omega arith) (λ i h j. q i (omega arith) (omega arith)) (omega arith) (rw (z, u) at e))

-- the first destinations are new too
pub fresh_take : (k : ℕ) (ds : List Numbered) (ps : List Posting) → Fresh ds ps → Fresh (take k ds) ps
fresh_take zero ds ps f = tt
fresh_take (suc k) [] ps f = tt
fresh_take (suc k) (d ∷ ds) ps f = (f.0, fresh_take k ds (inserted d.posting ps) f.1)

-- what stands in the list is no new destination
fresh_apart :
    (ds : List Numbered) (ps : List Posting) (p : Posting) → Fresh ds ps → present p ps ≡ true → present p (postings_of ds) ≡ false
unfolding present
fresh_apart [] ps p f h = refl
fresh_apart (d ∷ ds) ps p f h =
    neither (same p d.posting) (present p (postings_of ds)) (differs p d.posting ps h f.0)
    (fresh_apart ds (inserted d.posting ps) p f.1 (present_inserted p d.posting ps ∙ or_inr (same p d.posting) (present p ps) h))

-- nor is one of them the next again
fresh_self : (d : Numbered) (ds : List Numbered) (ps : List Posting) → Fresh (d ∷ ds) ps → present d.posting (postings_of ds) ≡ false
fresh_self d ds ps f =
    fresh_apart ds (inserted d.posting ps) d.posting f.1 (rw (present_inserted d.posting d.posting ps, same_self d.posting))

present_at : (ds : List Numbered) (i : ℕ) → i < length ds → present (get_or ds i nowhere).posting (postings_of ds) ≡ true
unfolding present
present_at [] i l = absurd (omega arith)
present_at (d ∷ ds) zero l = rw (same_self d.posting)
present_at (d ∷ ds) (suc i) l =
    or_inr (same (get_or ds i nowhere).posting d.posting) (present (get_or ds i nowhere).posting (postings_of ds)) (present_at ds i (omega arith))

-- one more posting beside those that were there, those put in, those freed and those that stay
one_stays :
    (s there put free stay : Bool) → (((s || there) || put) && not free) ≡ ((s || there) || stay) →
    ((there || (s || put)) && not free) ≡ (there || (s || stay))
one_stays true true put free stay h = h
one_stays true false put free stay h = h
one_stays false true put free stay h = h
one_stays false false put free stay h = h

one_goes :
    (s there put free stay : Bool) → (s ≡ true → there ≡ false) → (s ≡ true → stay ≡ false) →
    (((s || there) || put) && not free) ≡ ((s || there) || stay) →
    ((there || (s || put)) && not (s || free)) ≡ (there || stay)
one_goes true there put free stay f g h = rw (f refl, g refl)
one_goes false there put free stay f g h = h

-- no new destination stands in the list
pub fresh_at :
    (ds : List Numbered) (ps : List Posting) → Fresh ds ps → (i : ℕ) → i < length ds → present (get_or ds i nowhere).posting ps ≡ false
fresh_at [] ps f i l = absurd (omega arith)
fresh_at (d ∷ ds) ps f zero l = f.0
fresh_at (d ∷ ds) ps f (suc i) l =
    or_right (same (get_or ds i nowhere).posting d.posting) (present (get_or ds i nowhere).posting ps)
    (sym (present_inserted (get_or ds i nowhere).posting d.posting ps) ∙ fresh_at ds (inserted d.posting ps) f.1 i (omega arith))

module _ (strip : List ℕ) (from : ℕ) where
  -- only destinations stay behind
  stuck_none :
      (ds : List Numbered) (p : Posting) → present p (postings_of ds) ≡ false → present p (postings_of (stuck strip from ds)) ≡ false
  unfolding stuck present
  stuck_none [] p h = refl
  stuck_none (d ∷ ds) p h =
      let n = or_left (same p d.posting) (present p (postings_of ds)) h in
      let ih = stuck_none ds p (or_right (same p d.posting) (present p (postings_of ds)) h) in
      by_cases (λ (l : List Numbered). present p (postings_of l) ≡ false) (eqb (byte_at strip (from + length ds)) 1)
      (λ e. neither (same p d.posting) _ n ih)
      (λ e. ih)

  -- all that was put in, less what is freed, is what was there and what stays behind
  stuck_set :
      (ds : List Numbered) (ps : List Posting) (p : Posting) → Fresh ds ps →
      ((present p ps || present p (postings_of ds)) && not (present p (postings_of (freed strip from ds)))) ≡ (present p ps || present p (postings_of (stuck strip from ds)))
  unfolding stuck freed present
  stuck_set [] ps p f = and-true (present p ps || false)
  stuck_set (d ∷ ds) ps p f =
      go (eqb (byte_at strip (from + length ds)) 1) (rw (present_inserted p d.posting ps) at (stuck_set ds (inserted d.posting ps) p f.1))
    where
      new : same p d.posting ≡ true → present p ps ≡ false
      new e = rw (same_equal p d.posting e) f.0

      once : same p d.posting ≡ true → present p (postings_of (stuck strip from ds)) ≡ false
      once e =
          stuck_none ds p (fresh_apart ds (inserted d.posting ps) p f.1 (rw (present_inserted p d.posting ps, e)))

      go :
          (b : Bool) →
          (((same p d.posting || present p ps) || present p (postings_of ds)) && not (present p (postings_of (freed strip from ds)))) ≡ ((same p d.posting || present p ps) || present p (postings_of (stuck strip from ds))) →
          ((present p ps || (same p d.posting || present p (postings_of ds))) && not (present p (postings_of (cond b (freed strip from ds) (d ∷ freed strip from ds))))) ≡ (present p ps || present p (postings_of (cond b (d ∷ stuck strip from ds) (stuck strip from ds))))
      go true ih = one_stays (same p d.posting) (present p ps) (present p (postings_of ds)) (present p (postings_of (freed strip from ds))) (present p (postings_of (stuck strip from ds))) ih
      go false ih = one_goes (same p d.posting) (present p ps) (present p (postings_of ds)) (present p (postings_of (freed strip from ds))) (present p (postings_of (stuck strip from ds))) new once ih

  -- as the one ascending list
  pub stuck_list :
      (ds : List Numbered) (ps : List Posting) → Fresh ds ps → ascending ps ≡ true →
      taken_away (freed strip from ds) (added ds ps) ≡ added (stuck strip from ds) ps
  stuck_list ds ps f h =
      ascending_same (taken_away (freed strip from ds) (added ds ps)) (added (stuck strip from ds) ps)
      (λ p. present_said p ds (freed strip from ds) ps ∙ (stuck_set ds ps p f ∙ sym (present_added p (stuck strip from ds) ps)))
      (ascending_taken_away (freed strip from ds) (added ds ps) (ascending_added ds ps h))
      (ascending_added (stuck strip from ds) ps h)

  -- the destination at place i stays exactly if its byte is 1
  pub stuck_each :
      (ds : List Numbered) (ps : List Posting) → Fresh ds ps → (i : ℕ) → i < length ds →
      present (get_or ds i nowhere).posting (postings_of (stuck strip from ds)) ≡ eqb (byte_at strip (from + (length ds - (i + 1)))) 1
  unfolding stuck present
  stuck_each [] ps f i l = absurd (omega arith)
  stuck_each (d ∷ ds) ps f zero l =
      let e : suc (length ds) - 1 ≡ length ds = omega arith in
      rw e (go (eqb (byte_at strip (from + length ds)) 1))
    where
      go : (b : Bool) → present d.posting (postings_of (cond b (d ∷ stuck strip from ds) (stuck strip from ds))) ≡ b
      go true = rw (same_self d.posting)
      go false = stuck_none ds d.posting (fresh_self d ds ps f)
  stuck_each (d ∷ ds) ps f (suc i) l =
      let e : suc (length ds) - (suc i + 1) ≡ length ds - (i + 1) = omega arith in
      rw e (go (eqb (byte_at strip (from + length ds)) 1) (stuck_each ds (inserted d.posting ps) f.1 i (omega arith)))
    where
      other : same (get_or ds i nowhere).posting d.posting ≡ false
      other =
          differs (get_or ds i nowhere).posting d.posting (postings_of ds) (present_at ds i (omega arith)) (fresh_self d ds ps f)

      go :
          (b : Bool) →
          present (get_or ds i nowhere).posting (postings_of (stuck strip from ds)) ≡ eqb (byte_at strip (from + (length ds - (i + 1)))) 1 →
          present (get_or ds i nowhere).posting (postings_of (cond b (d ∷ stuck strip from ds) (stuck strip from ds))) ≡ eqb (byte_at strip (from + (length ds - (i + 1)))) 1
      go true ih = rw other ih
      go false ih = ih

  -- the posting at place i is freed if its byte is not 1
  pub freed_each :
      (ds : List Numbered) (i : ℕ) → i < length ds → (byte_at strip (from + (length ds - (i + 1))) ≡ 1 → ⊥) →
      present (get_or ds i nowhere).posting (postings_of (freed strip from ds)) ≡ true
  unfolding freed present
  freed_each [] i l h = absurd (omega arith)
  freed_each (d ∷ ds) zero l h =
      let e : suc (length ds) - 1 ≡ length ds = omega arith in
      rw (ne_eqb (byte_at strip (from + length ds)) 1 (rw e at h), same_self d.posting)
  freed_each (d ∷ ds) (suc i) l h =
      let e : suc (length ds) - (suc i + 1) ≡ length ds - (i + 1) = omega arith in
      let ih = freed_each ds i (omega arith) (rw e at h) in
      by_cases (λ (k : List Numbered). present (get_or ds i nowhere).posting (postings_of k) ≡ true) (eqb (byte_at strip (from + length ds)) 1)
      (λ b. ih)
      (λ b. or_inr (same (get_or ds i nowhere).posting d.posting) _ ih)

  -- and what equals none of these is not freed
  pub freed_none :
      (ds : List Numbered) (p : Posting) →
      ((i : ℕ) → i < length ds → same p (get_or ds i nowhere).posting ≡ true → byte_at strip (from + (length ds - (i + 1))) ≡ 1) →
      present p (postings_of (freed strip from ds)) ≡ false
  unfolding freed present
  freed_none [] p h = refl
  freed_none (d ∷ ds) p h =
      let rest = freed_none ds p further in
      by_cases (λ (k : List Numbered). present p (postings_of k) ≡ false) (eqb (byte_at strip (from + length ds)) 1)
      (λ b. rest)
      (λ b. neither (same p d.posting) _ (other (same p d.posting) refl b) rest)
    where
      further :
          (i : ℕ) → i < length ds → same p (get_or ds i nowhere).posting ≡ true → byte_at strip (from + (length ds - (i + 1))) ≡ 1
      further i l e =
          let z : suc (length ds) - (suc i + 1) ≡ length ds - (i + 1) = omega arith in
          rw z at (h (suc i) (omega arith) e)

      other : (s : Bool) → same p d.posting ≡ s → eqb (byte_at strip (from + length ds)) 1 ≡ false → s ≡ false
      other true e b =
          let z : suc (length ds) - 1 ≡ length ds = omega arith in
          absurd (eqb-false (byte_at strip (from + length ds)) 1 b (rw z at (h 0 (omega arith) e)))
      other false e b = refl
