-- A round by its refresh, and the rounds turn by turn: where this one comes next, the rounds from the start are the rounds from here.
use Rattle.std.proofs.Common.{◌≡◌, ℕ, suc, ◌+◌, ◌-◌, ◌*◌, ◌≤◌, ◌<◌, List, Bool, true, false, Result, Ok, Err, MatchResult, IsErrAnd, drop, refl, sym, ap, ◌∙◌, arith}
use Rattle.std.proofs.lemmas.List.{drop-drop}
use Rattle.strips.specs.Strips.{byte_at}
use Rattle.lane_rules.specs.declared.ErrorByte.{ErrorByte}
use Rattle.lane_rules.specs.declared.Failure.{Failure}
use Rattle.lane_rules.specs.declared.View.{View}
use Rattle.lane_rules.specs.Steps.{error_met, refreshed}
use Rattle.lane_rules.specs.Passes.{by_said}
use Rattle.lane_rules.specs.Rounds.{Round, Ended, round, rounds, detaching}
use Rattle.lane_rules.specs.Calls.{view_with}
use Rattle.lane_laws.specs.Clauses.{refreshed_by, round_from}
use Rattle.lane_laws.specs.Ends.{cached_work, refreshed_work, detach_work}
use Rattle.lane_laws.proofs.Reading.{begun, round_reads}
use Rattle.lane_rounds.proofs.Ahead.{round_ahead, refreshed_from_ahead, round_from_ahead, rounds_ahead}

-- a word that is told otherwise only where it is an error
pub was_ok :
    {A E F : Type 0} (s : Result A E) (r : Result A F) (P : E → F → Type 0) (x : A) →
    MatchResult s (λ y. r ≡ Ok y) (λ e. IsErrAnd r (P e)) → r ≡ Ok x → s ≡ Ok x
was_ok {A} {E} {F} (Ok y) r P x h e = let same : y ≡ x = cc (sym h ∙ e) in ap Ok same
was_ok (Err y) r P x h e = absurd (rw e at h)

-- a round ends with a word, this strip and this view
abbrev pub RoundEnds : List ℕ → View → List ℕ → View → Result Bool ErrorByte → Round → Type 0
RoundEnds strip start rest now said r =
    (said ≡ r.said) × (now ≡ view_with start r.attached r.window start.retired) × (rest ≡ drop r.read strip)

-- a round by its refresh
module _ (strip next : List ℕ) (v w : View) (byte : ℕ) (said : Result Unit ErrorByte) (b : byte ≡ byte_at strip 0)
    (d : next ≡ drop 1 strip) (e : said ≡ (refreshed byte v.attached v.window).said) (f : w ≡ refreshed_by v byte) where
  -- what the refresh says
  found : (refreshed (byte_at strip 0) v.attached v.window).said ≡ said
  found = let k : (refreshed byte v.attached v.window).said ≡ said = sym e in rw b at k

  -- one that failed, and one that did not
  pub round_failed : said ≡ error_met → RoundEnds strip v next w error_met (round_from v strip 0)
  unfolding round
  round_failed h = let failed = found ∙ h in rw (f, d, b, failed) (refl, refl, refl)

  pub round_passed :
      (x : Unit) (t : Result Bool ErrorByte) (u : View) (rest : List ℕ) → said ≡ Ok x →
      let p = refreshed_work w next in
      t ≡ p.said → u ≡ view_with w p.attached w.window w.retired → rest ≡ drop p.read next →
      RoundEnds strip v rest u t (round_from v strip 0)
  unfolding round
  round_passed x t u rest h c g m =
      let passed = found ∙ h in
      let a = refreshed (byte_at strip 0) v.attached v.window in
      let p = refreshed_work (refreshed_by v (byte_at strip 0)) (drop 1 strip) in
      rw (c, g, m, f, d, b, passed, refreshed_from_ahead strip 1 v.height a.window (begun a.attached 0))
      (refl, refl, drop-drop p.read 1 strip)

-- a detach ends with an answer, this strip and this view
abbrev pub Ends : List ℕ → View → List ℕ → View → Result ℕ Failure → Ended → Type 0
Ends strip start rest now answer e =
    (answer ≡ e.answer) × (now ≡ view_with start e.attached e.window start.retired) × (rest ≡ drop e.read strip)

-- all the rounds that are lent
abbrev pub rounds_of : List ℕ → ℕ → View → Ended
rounds_of strip lent v = rounds strip v.height lent 0 v.attached v.window 0

-- two views differ at most in the two masks
abbrev pub SameElse : View → View → Type 0
SameElse a b = b ≡ view_with a b.attached b.window a.retired

ends :
    (strip : List ℕ) (start : View) (rest : List ℕ) (now : View) (answer : Result ℕ Failure) (e : Ended) (read : ℕ) →
    SameElse start now → rest ≡ drop read strip →
    e ≡ record { answer = answer; attached = now.attached; window = now.window; read = read } →
    Ends strip start rest now answer e
ends strip start rest now answer e read v u h = rw h (refl, v, u)

-- a round more, with a byte for its refresh and at most one to a lane
one_more : (made height read more : ℕ) → read ≤ made * (height + 1) → more ≤ height + 1 → read + more ≤ (made + 1) * (height + 1)
one_more made height read more a b = omega arith

-- so many rounds are left; each round made has read at most a byte for its refresh and one to a lane
pub record Rounding (strip : List ℕ) (lent : ℕ) (start : View) (rest : List ℕ) (now : View) (left : ℕ) : Type 0 where
  pub low : left ≤ lent
  pub read : ℕ
  pub few : read ≤ (lent - left) * (start.height + 1)
  pub unread : rest ≡ drop read strip
  pub same : SameElse start now
  pub is : rounds_of strip lent start ≡ rounds strip start.height left (lent - left) now.attached now.window read

pub rounding_start : (strip : List ℕ) (lent : ℕ) (start : View) → Rounding strip lent start strip start lent
rounding_start strip lent start =
    let none : lent - lent ≡ 0 = omega arith in
    record {
      low = omega arith;
      read = 0;
      few = omega arith;
      unread = refl;
      same = refl;
      is = ap (λ (n : ℕ). rounds strip start.height lent n start.attached start.window 0) (sym none);
    }

module _ {strip : List ℕ} {lent : ℕ} {start : View} {rest : List ℕ} {now : View} {left : ℕ}
    (z : Rounding strip lent start rest now left) where
  -- the rounds lent are used up
  pub rounding_end : left ≡ 0 → Ends strip start rest now (Err (Failure.Budget lent)) (rounds_of strip lent start)
  unfolding rounds
  rounding_end e =
      let all : lent - left ≡ lent = omega arith in
      ends strip start rest now (Err (Failure.Budget lent)) _ z.read z.same z.unread (z.is ∙ rw (all, e))

  -- the round from here, as one behind all that was read
  here : round strip start.height now.attached now.window z.read ≡ round_ahead z.read (round_from now rest 0)
  here =
      let lanes : now.height ≡ start.height = ap (λ (v : View). v.height) z.same in
      let none : z.read + 0 ≡ z.read = omega arith in
      let k = round_from_ahead strip z.read start.height now.attached now.window 0 in
      rw (lanes, z.unread) (rw none at k)

  -- so many bytes are read behind it
  abbrev read : ℕ
  read = z.read + (round_from now rest 0).read

  -- with one round fewer left, so many are made
  abbrev made : ℕ
  made = lent - (left - 1)

  module _ (w : View) (m : List ℕ) (said : Result Bool ErrorByte) (h : 0 < left)
      (e : RoundEnds rest now m w said (round_from now rest 0)) where
    goes :
        rounds_of strip lent start ≡ by_said said
        (record { answer = Ok made; attached = w.attached; window = w.window; read = read })
        (rounds strip start.height (left - 1) made w.attached w.window read)
        (record { answer = Err (Failure.Offset made); attached = w.attached; window = w.window; read = read })
    unfolding rounds
    goes =
        let low = z.low in
        let one : left ≡ suc (left - 1) = omega arith in
        let next : lent - left + 1 ≡ lent - (left - 1) = omega arith in
        z.is
        ∙ (ap (λ (n : ℕ). rounds strip start.height n (lent - left) now.attached now.window z.read) one
        ∙ rw (next, here, e.0, e.1))

    -- nothing but the masks has changed
    same : SameElse start w
    same =
        let r = round_from now rest 0 in
        rw e.1 (ap (λ (v : View). view_with v r.attached r.window v.retired) z.same)

    -- and so many bytes of the strip are read
    unread : m ≡ drop read strip
    unread = rw (e.2, z.unread) (drop-drop (round_from now (drop z.read strip) 0).read z.read strip)

    -- at most as many as the rounds made can read
    few : read ≤ made * (start.height + 1)
    few =
        let low = z.low in
        let lanes : now.height ≡ start.height = ap (λ (v : View). v.height) z.same in
        let once = (round_reads rest now.height now.attached now.window 0).high in
        let most : (round_from now rest 0).read ≤ start.height + 1 = omega arith in
        let next : lent - (left - 1) ≡ lent - left + 1 = omega arith in
        rw next (one_more (lent - left) start.height z.read (round_from now rest 0).read z.few most)

    -- a round that says yes, one that fails, and one that says no
    pub rounding_yes : said ≡ Ok true → Ends strip start m w (Ok made) (rounds_of strip lent start)
    rounding_yes s = ends strip start m w (Ok made) _ read same unread (goes ∙ rw s)

    pub rounding_error : said ≡ error_met → Ends strip start m w (Err (Failure.Offset made)) (rounds_of strip lent start)
    rounding_error s = ends strip start m w (Err (Failure.Offset made)) _ read same unread (goes ∙ rw s)

    pub rounding_no : said ≡ Ok false → Rounding strip lent start m w (left - 1)
    rounding_no s =
        let low = z.low in
        record { low = omega arith; read = read; few = few; unread = unread; same = same; is = goes ∙ rw s }

-- what follows a cached pass: it ends with a yes or an error, and after a no come the rounds
module _ (strip : List ℕ) (lent : ℕ) (start w : View) (m : List ℕ) (said : Result Bool ErrorByte)
    (e : said ≡ (cached_work start strip).said)
    (f : w ≡ view_with start (cached_work start strip).attached start.window start.retired)
    (g : m ≡ drop (cached_work start strip).read strip) where
  pub detaching_yes : said ≡ Ok true → Ends strip start m w (Ok 0) (detach_work start strip lent)
  unfolding detaching
  detaching_yes s = rw (f, g, ← e, s) (refl, refl, refl)

  pub detaching_error : said ≡ error_met → Ends strip start m w (Err (Failure.Offset 0)) (detach_work start strip lent)
  unfolding detaching
  detaching_error s = rw (f, g, ← e, s) (refl, refl, refl)

  pub detaching_no :
      said ≡ Ok false → (t : Result ℕ Failure) (rest : List ℕ) (u : View) → Ends m w rest u t (rounds_of m lent w) →
      Ends strip start rest u t (detach_work start strip lent)
  unfolding detaching
  detaching_no s t rest u k =
      let p = cached_work start strip in
      let none : p.read + 0 ≡ p.read = omega arith in
      let ahead = rw none at (rounds_ahead strip p.read start.height lent 0 p.attached start.window 0) in
      rw (k.0, k.1, k.2, f, g, ← e, s, ahead)
      (refl, refl, drop-drop (rounds (drop p.read strip) start.height lent 0 p.attached start.window 0).read p.read strip)
