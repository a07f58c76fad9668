-- Destinations added and sources taken away, as sets and as ascending lists.
use mathlib.Core.Path.{◌≡◌, refl, sym, ap, ◌∙◌}
use mathlib.Core.List.{List, [], ◌∷◌}
use mathlib.Core.Bool.{Bool, true, false, not, ◌&&◌, ◌||◌, or-false, or_assoc, and-true}
use Rattle.rules.specs.declared.Posting.{Posting}
use Rattle.rules.specs.Postings.{same, ascending, present, inserted, removed}
use Rattle.rules.specs.Orders.{Numbered, postings_of}
use Rattle.laws.specs.Words.{added, taken_away}
use Rattle.booleans.proofs.Tests.{or_swap}
use Rattle.laws.proofs.Lists.{present_inserted, present_removed}
use Rattle.laws.proofs.Sorted.{ascending_inserted, ascending_removed, ascending_same}

pub present_added :
    (p : Posting) (ds : List Numbered) (ps : List Posting) →
    present p (added ds ps) ≡ (present p ps || present p (postings_of ds))
unfolding added present
present_added p [] ps = sym (or-false (present p ps))
present_added p (d ∷ ds) ps =
    let here : Bool = same p d.posting in
    let later : Bool = present p (postings_of ds) in
    present_added p ds (inserted d.posting ps)
    ∙ rw (present_inserted p d.posting ps) (or_assoc here (present p ps) later ∙ or_swap here (present p ps) later)

and_both : (a b c : Bool) → ((a && not b) && not c) ≡ (a && not (b || c))
and_both true true c = refl
and_both true false c = refl
and_both false b c = refl

pub present_taken_away :
    (p : Posting) (ss : List Numbered) (ps : List Posting) →
    present p (taken_away ss ps) ≡ (present p ps && not (present p (postings_of ss)))
unfolding taken_away present
present_taken_away p [] ps = sym (and-true (present p ps))
present_taken_away p (s ∷ ss) ps =
    present_taken_away p ss (removed s.posting ps)
    ∙ rw (present_removed p s.posting ps) (and_both (present p ps) (same p s.posting) (present p (postings_of ss)))

pub ascending_added : (ds : List Numbered) (ps : List Posting) → ascending ps ≡ true → ascending (added ds ps) ≡ true
unfolding added
ascending_added [] ps h = h
ascending_added (d ∷ ds) ps h = ascending_added ds (inserted d.posting ps) (ascending_inserted d.posting ps h)

pub ascending_taken_away : (ss : List Numbered) (ps : List Posting) → ascending ps ≡ true → ascending (taken_away ss ps) ≡ true
unfolding taken_away
ascending_taken_away [] ps h = h
ascending_taken_away (s ∷ ss) ps h = ascending_taken_away ss (removed s.posting ps) (ascending_removed s.posting ps h)

-- (postings and destinations) less sources, as a set
pub present_said :
    (p : Posting) (ds ss : List Numbered) (ps : List Posting) →
    present p (taken_away ss (added ds ps)) ≡ ((present p ps || present p (postings_of ds)) && not (present p (postings_of ss)))
present_said p ds ss ps =
    present_taken_away p ss (added ds ps) ∙ ap (λ b. b && not (present p (postings_of ss))) (present_added p ds ps)

-- and as the one ascending list of those postings
pub said_list :
    (ds ss : List Numbered) (ps l : List Posting) → ascending ps ≡ true → ascending l ≡ true →
    ((p : Posting) → present p l ≡ ((present p ps || present p (postings_of ds)) && not (present p (postings_of ss)))) →
    taken_away ss (added ds ps) ≡ l
said_list ds ss ps l h k f =
    ascending_same (taken_away ss (added ds ps)) l (λ p. present_said p ds ss ps ∙ sym (f p))
    (ascending_taken_away ss (added ds ps) (ascending_added ds ps h))
    k
