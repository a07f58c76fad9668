-- Right or withheld. Each publish either leaves the index as it was, or is accepted and leaves what it says, or breaks it; by induction
-- over the calls that makes the history right until it is withheld.
use Rattle.std.proofs.Common.{Result, Ok, Err, ℕ}
use Prim.Native.Nat.{ℕ}
use mathlib.Core.Path.{◌≡◌, refl, sym, ap, ◌∙◌}
use mathlib.Core.List.{List, [], ◌∷◌, ◌++◌, map}
use mathlib.Core.Bool.{Bool, true, false, cond, not, ◌&&◌}
use mathlib.Mathlib.Data.Bool.Basic.{and_elim_left, and_elim_right}
use lib.ListN.{length, take, drop, length-map}
use lib.Seq.{take_at}
use lib.Dec.{ltb}
use borrow.Author.Tests.{not-true}
use Rattle.strips.specs.Strips.{proper_bytes, proper_strip}
use Rattle.lent_lists.specs.Written.{written}
use Rattle.rules.specs.declared.Posting.{Posting}
use Rattle.rules.specs.declared.Head.{Head}
use Rattle.rules.specs.declared.Failure.{Failure}
use Rattle.rules.specs.Postings.{ascending, present, rows_under, counted}
use Rattle.rules.specs.Table.{postings, well_formed}
use Rattle.rules.specs.Orders.{Numbered, destinations, sources, change_numbers, Call, lending, changes_of}
use Rattle.rules.specs.Answers.{is_accepted, poisons, settled}
use Rattle.rules.specs.Checks.{must, or_else, first_refusal, count_checks}
use Rattle.rules.specs.Calls.{Outcome, head_with, as_before, count_of}
use Rattle.laws.specs.Words.{added, taken_away}
use Rattle.booleans.proofs.Tests.{clash}
use Rattle.laws.proofs.Flat.{well_formed_parts, used_postings, laid_out_same, postings_laid_out}
use Rattle.laws.proofs.Answers.{Kind, kind}
use Rattle.laws.proofs.Checks.{open_passes, publish_clear, publish_relent}
use Rattle.laws.proofs.Sets.{present_said}
use Rattle.laws.proofs.Outcomes as outcome
use Rattle.laws.proofs.Rows.{rows_among, rows_rising}
use Rattle.laws.proofs.Calls.{publish_as_before, publish_well_formed, publish_stable, publish_poisoned, count_poisoned}
use Rattle.history.specs.Acceptance.{Acceptable}
use Rattle.history.specs.History.{Index, published, counted_in, postings_in, index_of, after, outcomes, unbroken, accepted, accepted_outcomes, said, said_of, own_count, holding, quiet, Again, AllAgain, none, next, relent, relent_all, Holds, Alike, Right, Withheld, RightOrWithheld}
use Rattle.history.proofs.Acceptance.{accepted_exactly, acceptable_outcome}

-- well formed and unpoisoned: what every call but 12 and 13 leaves
pub record Live (x : Index) : Type 0 where
  pub formed : well_formed x.head x.table ≡ true
  pub healthy : x.head.poisoned ≡ 0

-- well formed and poisoned
pub record Spoilt (x : Index) : Type 0 where
  pub formed : well_formed x.head x.table ≡ true
  pub flagged : x.head.poisoned ≡ 1

-- a live index is told by its postings
live_holding : (x : Index) → Live x → x ≡ holding x (postings_in x)
live_holding x l =
    let w = well_formed_parts x.head x.table l.formed in
    let u = sym (used_postings x.head x.table w) in
    let t = sym (laid_out_same x.head x.table w) in
    λ i. record { head = head_with x.head (u i) (l.healthy i); table = t i }

-- one publish: the index stays; or the call is accepted; or it answers 12 or 13
pub data Step (x : Index) (c : Call) : Type 0 where
  stays :
      index_of (published x c) ≡ x → is_accepted (published x c).answer ≡ false → poisons (published x c).answer ≡ false → Step x c
  takes :
      Acceptable x.head x.table c → is_accepted (published x c).answer ≡ true → poisons (published x c).answer ≡ false →
      Step x c
  breaks : is_accepted (published x c).answer ≡ false → poisons (published x c).answer ≡ true → Step x c

pub step : (x : Index) (c : Call) → Step x c
step x c = go (published x c).answer refl (kind (published x c).answer)
  where
    go : (a : Result ℕ Failure) → (published x c).answer ≡ a → Kind a → Step x c
    go a e (Kind.taken n) = takes ((accepted_exactly x.head x.table c).0 (rw e)) (rw e) (rw e)
    go a e (Kind.kept u n p) =
        let o = publish_as_before x.head x.table c (rw e u) in
        stays (ap index_of o) (rw e n) (rw e p)
    go a e (Kind.broken u n p) = breaks (rw e n) (rw e p)

-- an index that a publish did not break is live; one that it broke is spoilt
live_next : (x : Index) (c : Call) → Live x → poisons (published x c).answer ≡ false → Live (index_of (published x c))
live_next x c l h =
    record {
      formed = publish_well_formed x.head x.table c l.formed;
      healthy = (publish_stable x.head x.table c).flag ∙ rw h l.healthy;
    }

spoilt_next :
    (x : Index) (c : Call) → well_formed x.head x.table ≡ true → poisons (published x c).answer ≡ true →
    Spoilt (index_of (published x c))
spoilt_next x c f h =
    record {
      formed = publish_well_formed x.head x.table c f;
      flagged = (publish_stable x.head x.table c).flag ∙ rw h;
    }

-- size and binding count stay, so what holds postings here holds them there
holding_next : (x : Index) (c : Call) (ps : List Posting) → holding (index_of (published x c)) ps ≡ holding x ps
holding_next x c ps =
    let s = publish_stable x.head x.table c in
    rw (s.bindings, s.size)

-- an accepted call leaves the postings that it says
postings_next :
    (x : Index) (c : Call) → Acceptable x.head x.table c →
    postings_in (index_of (published x c)) ≡ taken_away (sources (changes_of c)) (added (destinations (changes_of c)) (postings_in x))
postings_next x c a =
    ap (λ (o : Outcome). postings o.head.used o.table) (acceptable_outcome x.head x.table c a)
    ∙ postings_laid_out (length x.table) (taken_away (sources (changes_of c)) (added (destinations (changes_of c)) (postings_in x)))

unbroken_first : (x : Index) (c : Call) (cs : List Call) → unbroken x (c ∷ cs) ≡ true → poisons (published x c).answer ≡ false
unfolding unbroken
unbroken_first x c cs h =
    not-true (poisons (published x c).answer) (and_elim_left (not (poisons (published x c).answer)) (unbroken (index_of (published x c)) cs) h)

unbroken_rest :
    (x : Index) (c : Call) (cs : List Call) → unbroken x (c ∷ cs) ≡ true → unbroken (index_of (published x c)) cs ≡ true
unfolding unbroken
unbroken_rest x c cs h =
    and_elim_right (not (poisons (published x c).answer)) (unbroken (index_of (published x c)) cs) h

-- from any live index: an unbroken history leaves it live, with what the accepted calls say
live_after : (x : Index) (cs : List Call) → Live x → unbroken x cs ≡ true → Live (after x cs)
unfolding after
live_after x [] l h = l
live_after x (c ∷ cs) l h =
    live_after (index_of (published x c)) cs (live_next x c l (unbroken_first x c cs h)) (unbroken_rest x c cs h)

bindings_after : (x : Index) (cs : List Call) → (after x cs).head.bindings ≡ x.head.bindings
unfolding after
bindings_after x [] = refl
bindings_after x (c ∷ cs) = bindings_after (index_of (published x c)) cs ∙ (publish_stable x.head x.table c).bindings

pub said_after :
    (x : Index) (cs : List Call) → Live x → unbroken x cs ≡ true → after x cs ≡ holding x (said (accepted x cs) (postings_in x))
unfolding after accepted said
said_after x [] l h = live_holding x l
said_after x (c ∷ cs) l h = go (step x c) (said_after (index_of (published x c)) cs (live_next x c l (unbroken_first x c cs h)) (unbroken_rest x c cs h))
  where
    go :
        Step x c →
        after (index_of (published x c)) cs ≡ holding (index_of (published x c)) (said (accepted (index_of (published x c)) cs) (postings_in (index_of (published x c)))) →
        after (index_of (published x c)) cs ≡ holding x (said (cond (is_accepted (published x c).answer) (c ∷ accepted (index_of (published x c)) cs) (accepted (index_of (published x c)) cs)) (postings_in x))
    go (stays e n p) ih = rw n (ih ∙ (holding_next x c _ ∙ ap (λ (y : Index). holding x (said (accepted (index_of (published x c)) cs) (postings_in y))) e))
    go (takes a n p) ih = rw n (ih ∙ (holding_next x c _ ∙ ap (λ l. holding x (said (accepted (index_of (published x c)) cs) l)) (postings_next x c a)))
    go (breaks n p) ih = absurd (clash (poisons (published x c).answer) p (unbroken_first x c cs h))

-- what calls say, posting by posting
said_set : (cs : List Call) (ps : List Posting) (p : Posting) → present p (said cs ps) ≡ said_of cs p (present p ps)
unfolding said said_of
said_set [] ps p = refl
said_set (c ∷ cs) ps p =
    said_set cs (taken_away (sources (changes_of c)) (added (destinations (changes_of c)) ps)) p
    ∙ ap (said_of cs p) (present_said p (destinations (changes_of c)) (sources (changes_of c)) ps)

-- a call made again, by the lists of the first
abbrev relending : Call → Call → Call
relending c d = lending c.change_list c.guard_list d.strip d.record_list

again_is : (c d : Call) → Again c d → d ≡ relending c d
again_is c d a i =
    record { change_list = a.change_list i; guard_list = a.guard_list i; strip = d.strip; record_list = d.record_list }

-- an acceptable call is so too when it is made again
again_acceptable :
    (head : Head) (table : List ℕ) (c d : Call) → Again c d → Acceptable head table c → Acceptable head table (relending c d)
again_acceptable head table c d a k =
    record {
      passes = publish_relent head table c d.strip d.record_list a.proper a.room k.passes;
      room = k.room;
      quiet = a.quiet;
    }

-- the record that an acceptable call writes stands at the front of its list
front_record :
    (c : Call) (list : List ℕ) →
    take (length (destinations (changes_of c))) (written (change_numbers (destinations (changes_of c))) list) ≡ change_numbers (destinations (changes_of c))
front_record c list =
    take_at (change_numbers (destinations (changes_of c))) (drop (length (change_numbers (destinations (changes_of c)))) list)
    (length (destinations (changes_of c)))
    (length-map (destinations (changes_of c)) (λ (d : Numbered). d.number))

-- so on the same index it answers and leaves the same when it is made again, with the same record in the list that was lent now
pub again_same : (x : Index) (c d : Call) → Again c d → Acceptable x.head x.table c → published x d ≡ relent d (published x c)
again_same x c d a k =
    let o = acceptable_outcome x.head x.table in
    ap (published x) (again_is c d a)
    ∙ (o (relending c d) (again_acceptable x.head x.table c d a k) ∙ (anew ∙ ap (relent d) (sym (o c k))))
  where
    anew : outcome.accepted x.head x.table (relending c d) ≡ relent d (outcome.accepted x.head x.table c)
    anew = rw (front_record c c.record_list)

-- lent its own list again, an acceptable call has the record there already
own_record : (x : Index) (c : Call) → Acceptable x.head x.table c → relent (quiet c) (published x c) ≡ published x c
own_record x c k = let o = acceptable_outcome x.head x.table c k in ap (relent (quiet c)) o ∙ (own ∙ sym o)
  where
    own : relent (quiet c) (outcome.accepted x.head x.table c) ≡ outcome.accepted x.head x.table c
    own = rw (front_record c c.record_list)

-- the empty strip will do, with the list that was lent the first time: an acceptable call had room
quiet_again : (head : Head) (table : List ℕ) (c : Call) → Acceptable head table c → Again c (quiet c)
unfolding proper_strip proper_bytes
quiet_again head table c k =
    record {
      change_list = refl;
      guard_list = refl;
      room = (publish_clear head table c k.passes).places;
      proper = refl;
      quiet = λ i h l. refl;
    }

-- so the accepted calls of an unbroken history, with empty strips, are those calls made again
all_quiet : (x : Index) (cs : List Call) → unbroken x cs ≡ true → AllAgain (accepted x cs) (map quiet (accepted x cs))
unfolding accepted
all_quiet x [] h = none
all_quiet x (c ∷ cs) h = go (step x c) (all_quiet (index_of (published x c)) cs (unbroken_rest x c cs h))
  where
    rest : List Call
    rest = accepted (index_of (published x c)) cs

    go : Step x c → AllAgain rest (map quiet rest) → AllAgain (cond (is_accepted (published x c).answer) (c ∷ rest) rest) (map quiet (cond (is_accepted (published x c).answer) (c ∷ rest) rest))
    go (stays e n p) ih = rw n ih
    go (takes a n p) ih = rw n (next (quiet_again x.head x.table c a) ih)
    go (breaks n p) ih = absurd (clash (poisons (published x c).answer) p (unbroken_first x c cs h))

-- and what they leave has their records already
own_records : (x : Index) (cs : List Call) → unbroken x cs ≡ true → relent_all (map quiet (accepted x cs)) (accepted_outcomes x cs) ≡ accepted_outcomes x cs
unfolding accepted accepted_outcomes relent_all
own_records x [] h = refl
own_records x (c ∷ cs) h = go (step x c) (own_records (index_of (published x c)) cs (unbroken_rest x c cs h))
  where
    rest : List Call
    rest = accepted (index_of (published x c)) cs

    left : List Outcome
    left = accepted_outcomes (index_of (published x c)) cs

    go :
        Step x c → relent_all (map quiet rest) left ≡ left →
        relent_all (map quiet (cond (is_accepted (published x c).answer) (c ∷ rest) rest)) (cond (is_accepted (published x c).answer) (published x c ∷ left) left) ≡ cond (is_accepted (published x c).answer) (published x c ∷ left) left
    go (stays e n p) ih = rw n ih
    go (takes a n p) ih = rw n (rw (own_record x c a, ih))
    go (breaks n p) ih = absurd (clash (poisons (published x c).answer) p (unbroken_first x c cs h))

-- the accepted calls of an unbroken history, made again from the same index on, leave the same table and head
pub again_after :
    (x : Index) (cs ds : List Call) → unbroken x cs ≡ true → AllAgain (accepted x cs) ds → after x ds ≡ after x cs
unfolding after accepted
again_after x [] ds h r = ends ds r
  where
    ends : (ds : List Call) → AllAgain [] ds → after x ds ≡ x
    ends [] none = refl
    ends (_ ∷ _) more = elim more [ ]
again_after x (c ∷ cs) ds h r = go (step x c) (λ es. again_after (index_of (published x c)) cs es (unbroken_rest x c cs h)) r
  where
    Again-on : Type 0
    Again-on = (es : List Call) → AllAgain (accepted (index_of (published x c)) cs) es → after (index_of (published x c)) es ≡ after (index_of (published x c)) cs

    taken :
        Acceptable x.head x.table c → Again-on → (es : List Call) → AllAgain (c ∷ accepted (index_of (published x c)) cs) es →
        after x es ≡ after (index_of (published x c)) cs
    taken k ih [] more = elim more [ ]
    taken k ih (d ∷ es) (next a q) = ap (λ (o : Outcome). after (index_of o) es) (again_same x c d a k) ∙ ih es q

    go :
        Step x c → Again-on →
        AllAgain (cond (is_accepted (published x c).answer) (c ∷ accepted (index_of (published x c)) cs) (accepted (index_of (published x c)) cs)) ds →
        after x ds ≡ after (index_of (published x c)) cs
    go (stays e n p) ih q = ap (λ (y : Index). after y ds) (sym e) ∙ ih ds (rw n at q)
    go (takes a n p) ih q = taken a ih ds (rw n at q)
    go (breaks n p) ih q = absurd (clash (poisons (published x c).answer) p (unbroken_first x c cs h))

-- and each of them answers and leaves what it did the first time, with its record in the list that was lent now
pub again_outcomes :
    (x : Index) (cs ds : List Call) → unbroken x cs ≡ true → AllAgain (accepted x cs) ds →
    outcomes x ds ≡ relent_all ds (accepted_outcomes x cs)
unfolding outcomes accepted accepted_outcomes relent_all
again_outcomes x [] ds h r = ends ds r
  where
    ends : (ds : List Call) → AllAgain [] ds → outcomes x ds ≡ relent_all ds []
    ends [] none = refl
    ends (_ ∷ _) more = elim more [ ]
again_outcomes x (c ∷ cs) ds h r = go (step x c) (λ es. again_outcomes (index_of (published x c)) cs es (unbroken_rest x c cs h)) r
  where
    left : List Outcome
    left = accepted_outcomes (index_of (published x c)) cs

    Again-on : Type 0
    Again-on = (es : List Call) → AllAgain (accepted (index_of (published x c)) cs) es → outcomes (index_of (published x c)) es ≡ relent_all es left

    taken :
        Acceptable x.head x.table c → Again-on → (es : List Call) → AllAgain (c ∷ accepted (index_of (published x c)) cs) es →
        outcomes x es ≡ relent_all es (published x c ∷ left)
    taken k ih [] more = elim more [ ]
    taken k ih (d ∷ es) (next a q) = rw (again_same x c d a k) (ap (λ l. relent d (published x c) ∷ l) (ih es q))

    go :
        Step x c → Again-on →
        AllAgain (cond (is_accepted (published x c).answer) (c ∷ accepted (index_of (published x c)) cs) (accepted (index_of (published x c)) cs)) ds →
        outcomes x ds ≡ relent_all ds (cond (is_accepted (published x c).answer) (published x c ∷ left) left)
    go (stays e n p) ih q = rw n (ap (λ (y : Index). outcomes y ds) (sym e) ∙ ih ds (rw n at q))
    go (takes a n p) ih q = rw n (taken a ih ds (rw n at q))
    go (breaks n p) ih q = absurd (clash (poisons (published x c).answer) p (unbroken_first x c cs h))

-- a count on a live index is its own number
pub live_count :
    (x : Index) → Live x → (binding key : ℕ) → counted_in x binding key ≡ own_count x (postings_in x) binding key
unfolding count_of count_checks first_refusal
live_count x l binding key =
    rw (open_passes x.head x.table l.formed l.healthy) (go (ltb binding x.head.bindings))
  where
    given : Result ℕ Failure
    given = Ok (counted binding key (postings_in x))

    go : (b : Bool) → settled (or_else (must b (Failure.Guard 0)) (Ok tt)) given ≡ cond b given (Err (Failure.Guard 0))
    go true = refl
    go false = refl

-- a spoilt index refuses everything with 2 and stays
spoilt_publish :
    (x : Index) → Spoilt x → (c : Call) → published x c ≡ as_before x.head x.table c.record_list (Err Failure.Poisoned)
spoilt_publish x s c = publish_poisoned x.head x.table c s.formed s.flagged

spoilt_count : (x : Index) → Spoilt x → (binding key : ℕ) → counted_in x binding key ≡ Err Failure.Poisoned
spoilt_count x s = count_poisoned x.head x.table s.formed s.flagged

pub spoilt_after : (x : Index) → Spoilt x → (cs : List Call) → after x cs ≡ x
unfolding after
spoilt_after x s [] = refl
spoilt_after x s (c ∷ cs) = ap (λ (o : Outcome). after (index_of o) cs) (spoilt_publish x s c) ∙ spoilt_after x s cs

pub after_append : (x : Index) (cs more : List Call) → after x (cs ++ more) ≡ after (after x cs) more
unfolding after
after_append x [] more = refl
after_append x (c ∷ cs) more = after_append (index_of (published x c)) cs more

-- a broken history has spoilt the index
pub broken_after :
    (x : Index) (cs : List Call) → well_formed x.head x.table ≡ true → unbroken x cs ≡ false → Spoilt (after x cs)
unfolding after unbroken
broken_after x [] f h = absurd (clash true refl h)
broken_after x (c ∷ cs) f h =
    go (poisons (published x c).answer) refl h (broken_after (index_of (published x c)) cs (publish_well_formed x.head x.table c f))
  where
    go :
        (b : Bool) → poisons (published x c).answer ≡ b → (not b && unbroken (index_of (published x c)) cs) ≡ false →
        (unbroken (index_of (published x c)) cs ≡ false → Spoilt (after (index_of (published x c)) cs)) →
        Spoilt (after (index_of (published x c)) cs)
    go true e k ih = let s = spoilt_next x c f e in rw (spoilt_after (index_of (published x c)) s cs) s
    go false e k ih = ih k

-- an index that holds just some postings is live, and told by them, its size and its binding count
holds_live : (x : Index) (start : List Posting) → Holds x start → Live x
holds_live x start e = record { formed = e.formed; healthy = e.healthy }

holds_one : (x y : Index) (start : List Posting) → Holds x start → Holds y start → Alike x y → y ≡ x
holds_one x y start ex ey a =
    let hx : x ≡ holding x start = live_holding x (holds_live x start ex) ∙ ap (holding x) ex.just in
    let hy : y ≡ holding y start = live_holding y (holds_live y start ey) ∙ ap (holding y) ey.just in
    let k : holding y start ≡ holding x start = rw (a.size, a.bindings) in
    hy ∙ (k ∙ sym hx)

-- nothing is accepted by a spoilt index
none_taken : (x : Index) → Spoilt x → (cs : List Call) → accepted x cs ≡ []
unfolding accepted
none_taken x s [] = refl
none_taken x s (c ∷ cs) = rw (spoilt_publish x s c) (none_taken x s cs)

-- a broken history is an unbroken one up to its first 12 or 13
record Cut (x : Index) (cs : List Call) : Type 0 where
  before : List Call
  call : Call
  later : List Call
  whole : cs ≡ before ++ call ∷ later
  fatal : poisons (published (after x before) call).answer ≡ true
  sound : unbroken x before ≡ true
  taken : accepted x cs ≡ accepted x before
  stands : after x cs ≡ index_of (published (after x before) call)

cut : (x : Index) (cs : List Call) → well_formed x.head x.table ≡ true → unbroken x cs ≡ false → Cut x cs
unfolding after unbroken accepted
cut x [] f h = absurd (clash true refl h)
cut x (c ∷ cs) f h = go (step x c) (cut (index_of (published x c)) cs (publish_well_formed x.head x.table c f))
  where
    here : is_accepted (published x c).answer ≡ false → poisons (published x c).answer ≡ true → Cut x (c ∷ cs)
    here n p =
        record {
          before = [];
          call = c;
          later = cs;
          whole = refl;
          fatal = p;
          sound = refl;
          taken = rw n (none_taken (index_of (published x c)) (spoilt_next x c f p) cs);
          stands = spoilt_after (index_of (published x c)) (spoilt_next x c f p) cs;
        }

    further : poisons (published x c).answer ≡ false → Cut (index_of (published x c)) cs → Cut x (c ∷ cs)
    further p k =
        record {
          before = c ∷ k.before;
          call = k.call;
          later = k.later;
          whole = ap (λ l. c ∷ l) k.whole;
          fatal = k.fatal;
          sound = rw (p, k.sound);
          taken = rw k.taken;
          stands = k.stands;
        }

    rest : poisons (published x c).answer ≡ false → unbroken (index_of (published x c)) cs ≡ false
    rest p = rw p at h

    go : Step x c → (unbroken (index_of (published x c)) cs ≡ false → Cut (index_of (published x c)) cs) → Cut x (c ∷ cs)
    go (stays e n p) ih = further p (ih (rest p))
    go (takes a n p) ih = further p (ih (rest p))
    go (breaks n p) ih = here n p

module _ (x : Index) (start : List Posting) (e : Holds x start) where
  now : (cs : List Call) → unbroken x cs ≡ true → after x cs ≡ holding x (said (accepted x cs) start)
  now cs h = said_after x cs (holds_live x start e) h ∙ ap (λ l. holding x (said (accepted x cs) l)) e.just

  held_now : (cs : List Call) → unbroken x cs ≡ true → postings_in (after x cs) ≡ said (accepted x cs) start
  held_now cs h = ap postings_in (now cs h) ∙ postings_laid_out (length x.table) (said (accepted x cs) start)

  sorted_now : (cs : List Call) → unbroken x cs ≡ true → ascending (said (accepted x cs) start) ≡ true
  sorted_now cs h =
      let l = live_after x cs (holds_live x start e) h in
      rw (held_now cs h) at (well_formed_parts (after x cs).head (after x cs).table l.formed).sorted

  -- made again on an index of equal size and binding count that holds the same start
  again_now :
      (cs : List Call) → unbroken x cs ≡ true → (y : Index) (ds : List Call) → Holds y start → Alike x y → AllAgain (accepted x cs) ds →
      after y ds ≡ after x cs
  again_now cs h y ds ey a r = rw (holds_one x y start e ey a) (again_after x cs ds h r)

  again_records_lem :
      (cs : List Call) → unbroken x cs ≡ true → (y : Index) (ds : List Call) → Holds y start → Alike x y → AllAgain (accepted x cs) ds →
      outcomes y ds ≡ relent_all ds (accepted_outcomes x cs)
  again_records_lem cs h y ds ey a r = rw (holds_one x y start e ey a) (again_outcomes x cs ds h r)

  right_until : (cs : List Call) → unbroken x cs ≡ true → Right x start cs
  right_until cs h =
      record {
        table = now cs h;
        set = λ p. ap (present p) (held_now cs h) ∙ said_set (accepted x cs) start p;
        counts = λ binding key.
            live_count (after x cs) (live_after x cs (holds_live x start e) h) binding key ∙ rw (bindings_after x cs, held_now cs h);
        rows = λ binding key.
            record {
              rows = rows_under binding key (said (accepted x cs) start);
              count = refl;
              ascends = rows_rising binding key (said (accepted x cs) start) (sorted_now cs h);
              said = λ row.
                  rows_among binding key row (said (accepted x cs) start)
                  ∙ said_set (accepted x cs) start (record { binding = binding; key = key; row = row });
            };
        again = again_now cs h;
        again_records = again_records_lem cs h;
        replay = λ y ey a. again_now cs h y (map quiet (accepted x cs)) ey a (all_quiet x cs h);
        records = λ y ey a. again_records_lem cs h y (map quiet (accepted x cs)) ey a (all_quiet x cs h) ∙ own_records x cs h;
      }

  withheld_after : (cs : List Call) → unbroken x cs ≡ false → Withheld x start cs
  withheld_after cs h =
      let s = broken_after x cs e.formed h in
      let k = cut x cs e.formed h in
      record {
        break =
            record {
              before = k.before;
              call = k.call;
              later = k.later;
              whole = k.whole;
              first = k.sound;
              fatal = k.fatal;
              until = right_until k.before k.sound;
              taken = k.taken;
              stands = k.stands;
            };
        publishes = spoilt_publish (after x cs) s;
        counts = spoilt_count (after x cs) s;
        fixed = λ more. after_append x cs more ∙ spoilt_after (after x cs) s more;
      }

  -- RIGHT OR WITHHELD: any list of publish calls, under any lists, guards and strips
  pub right_or_withheld : (cs : List Call) → RightOrWithheld x start cs
  right_or_withheld cs = record { right = right_until cs; withheld = withheld_after cs }

-- an empty index, that is well formed, unpoisoned, used 0, holds no posting
pub empty_holds :
    (x : Index) → well_formed x.head x.table ≡ true → x.head.poisoned ≡ 0 → x.head.used ≡ 0 → Holds x []
empty_holds x f p u = record { formed = f; healthy = p; just = rw u }
