-- What is known of a run at whose end the connector was alive, with nothing left to start.
use Rattle.std.proofs.Common.{ℕ, suc, ◌≡◌, ◌≤◌, ◌+◌, inl, inr, arith, List, [], ◌∷◌, ◌++◌}
use Rattle.std.proofs.Common.{Bool, true, false, not, refl, sym, subst, ap, ◌∙◌}
use Rattle.std.proofs.Common.{cond}
use Rattle.std.proofs.lemmas.Bool.{false≢true}
use Rattle.ev_base.specs.Counts.{Counts}
use Rattle.ev_base.specs.End.{EndFacts}
use Rattle.ev_base.specs.Source.{SourceFacts}
use Rattle.ev_base.specs.Terms.{Terms}
use Rattle.ev_base.specs.declared.dial.Finish.{Finish}
use Rattle.ev_base.specs.declared.dial.Finish.TheVariants as finish
use Rattle.ev_base.specs.declared.end.PeerEnd.{Ghosts}
use Rattle.ev_base.specs.ev_types.specs.declared.upcall.Answer.{Answer}
use Rattle.ev_base.specs.ev_types.specs.declared.upcall.Answer.TheVariants.{Keep, Again, Close}
use Rattle.ev_base.specs.ev_types.specs.declared.upcall.Kind.TheVariants as kind
use Rattle.ev_base.specs.ev_types.specs.declared.upcall.Upcall.{Upcall}
use Rattle.ev_base.specs.ev_types.specs.declared.upcall.Upcall.TheVariants.{Input, Output, Except}
use Rattle.ev_base.specs.ev_types.specs.declared.upcall.Upcall.TheVariants.{Timeout, Notice}
use Rattle.ev_base.specs.ev_types.specs.declared.upcall.Why.{Why}
use Rattle.reactor_model.specs.Handling.{GoesOn, NoClose}
use Rattle.reactor_model.specs.reactor_journal.specs.Event.{Item}
use Rattle.reactor_model.specs.reactor_journal.specs.Past.{count}
use Rattle.laws_reports.specs.Laws.{rests}
use Rattle.forwarder.specs.connector.specs.Connecting.{Course, Progress, TurnsBy, answer_to, asked}
use Rattle.forwarder.specs.connector.specs.Connecting.{at_start, served}
use Rattle.forwarder.specs.connector.specs.declared.note.ConnectNote.{ConnectNote}
use Rattle.forwarder.specs.Forwarded.{LastIs, LeavesTurn, is_rest, rest_of, rests_in}
use Rattle.forwarder.specs.ForwardEnds.{peer_of}
use Rattle.forwarder.specs.Services.{state_of}
use Rattle.forwarder.specs.declared.forward_end.ForwardEnd.{ForwardEnd}
use Rattle.forwarder.specs.declared.note.ForwardNote.{ForwardNote}
use Rattle.cmd_forward.specs.Runs.{HasRested, HasWaited, MadeAtLeast}
use Rattle.cmd_forward.proofs.Closed.{last_is}
use Rattle.cmd_forward.proofs.Courses.{HasAsked, has_asked}
use Rattle.cmd_forward.proofs.LastTurns.{asks_last, asks_next, is_again}
use Rattle.cmd_forward.proofs.Runs.{Left}

abbrev Turn : Type 0
Turn = Item (ConnectNote ForwardNote)

-- ---- the last turn

-- the last of the service's turns rested
record RestsLast (live : List (Item ForwardNote)) : Type 0 where
  front : List (Item ForwardNote)
  item : Item ForwardNote
  is : live ≡ front ++ item ∷ []
  rests : rest_of item.upcall item.answer ≡ 1

-- if the connection is made and the last turn did not ask for the next, it rested
abbrev Rests : Progress ForwardNote → Bool → Type 0
Rests p asks = p.connected ≡ true → asks ≡ false → RestsLast p.live

-- an answer that does not ask for the next, nor closes
kept : (a : Answer) → GoesOn a → is_again a ≡ false → is_rest a ≡ 1
kept Keep goes none = refl
kept Again goes none = absurd (false≢true (sym none))
kept Close goes none = absurd goes

live_one : (p q : Progress ForwardNote) (item : Turn) (said : ForwardNote) → GoesOn item.answer
    → rest_of item.upcall item.answer ≡ is_rest item.answer
    → q ≡ record p { live = p.live ++ served item said ∷ [] } → Rests q (is_again item.answer)
live_one p q item said goes same leaves = λ made none. record {
  front = p.live;
  item = served item said;
  is = ap (λ (r : Progress ForwardNote). r.live) leaves;
  rests = same ∙ kept item.answer goes none;
}

not_made : {X : Type 0} → false ≡ true → X
not_made q = cc

rests_as : (p q : Progress ForwardNote) (b : Bool) → q ≡ p → Rests p b → Rests q b
rests_as p q b same rests = subst (λ (r : Progress ForwardNote). Rests r b) (sym same) rests

rests_turn : (made : Bool) (up : Upcall) (p q : Progress ForwardNote) (item : Turn) (b : Bool)
    → p.connected ≡ made → item.upcall ≡ up → TurnsBy made up p item q → GoesOn item.answer
    → Rests p b → Rests q (asks_next item b)
rests_turn true (Timeout timer) p q item b made is h goes rests =
    subst (λ (u : Upcall). Rests q (asks_next (record item { upcall = u }) b)) (sym is)
    (rests_as p q b h.leaves rests)
rests_turn true Input p q item b made is h goes rests =
    subst (λ (u : Upcall). Rests q (asks_next (record item { upcall = u }) b)) (sym is)
    (live_one p q item h.said goes
    (ap (λ (u : Upcall). rest_of u item.answer) is) h.leaves)
rests_turn true Output p q item b made is h goes rests =
    subst (λ (u : Upcall). Rests q (asks_next (record item { upcall = u }) b)) (sym is)
    (live_one p q item h.said goes
    (ap (λ (u : Upcall). rest_of u item.answer) is) h.leaves)
rests_turn true Except p q item b made is h goes rests =
    subst (λ (u : Upcall). Rests q (asks_next (record item { upcall = u }) b)) (sym is)
    (live_one p q item h.said goes
    (ap (λ (u : Upcall). rest_of u item.answer) is) h.leaves)
rests_turn true (Notice kind) p q item b made is h goes rests =
    subst (λ (u : Upcall). Rests q (asks_next (record item { upcall = u }) b)) (sym is)
    (live_one p q item h.said goes
    (ap (λ (u : Upcall). rest_of u item.answer) is) h.leaves)
rests_turn false Input p q item b made is h goes rests =
    λ now none. not_made (sym made ∙ (sym (ap (λ r. r.connected) h.leaves) ∙ now))
rests_turn false Except p q item b made is h goes rests =
    λ now none. not_made (sym made ∙ (sym (ap (λ r. r.connected) h.leaves) ∙ now))
rests_turn false (Notice kind) p q item b made is h goes rests =
    λ now none. not_made (sym made ∙ (sym (ap (λ r. r.connected) h.leaves) ∙ now))
rests_turn false (Timeout timer) p q item b made is h goes rests =
    absurd (subst GoesOn h.answers goes)
rests_turn false Output p q item b made is h goes rests =
    by h.came h.turn.answers h.turn.leaves
  where
    again : item.answer ≡ Again → asks_next item b ≡ true
    again answers =
        ap (λ (u : Upcall). asks_next (record item { upcall = u }) b) is ∙ ap is_again answers

    by : (came : Finish) → item.answer ≡ answer_to came → q ≡ asked came p
        → Rests q (asks_next item b)
    by finish.Done answers leaves =
        λ now none. absurd (false≢true (sym none ∙ again answers))
    by finish.Pause answers leaves =
        λ now none. not_made (sym (ap (λ (r : Progress ForwardNote). r.connected) leaves) ∙ now)
    by finish.Failed answers leaves = absurd (subst GoesOn answers goes)

rests_on : (start p : Progress ForwardNote) (had : List Turn) (b : Bool) → Course start had p
    → NoClose had → Rests start b → Rests p (asks_last had b)
rests_on start p [] b course open_ rests = rests_as start p b course rests
rests_on start p (item ∷ had) b course open_ rests =
    rests_on course.0 p had (asks_next item b) course.2 open_.1
    (rests_turn start.connected item.upcall start course.0 item b refl refl course.1 open_.0 rests)

-- ---- questions and writes

-- how many turns of output rested so far is how often it asked, and its service rested, at most
abbrev Counted : ℕ → Progress ForwardNote → Type 0
Counted many p = many ≤ p.tries + rests_in p.live

rests_more : (xs : List (Item ForwardNote)) (item : Item ForwardNote)
    → rests_in (xs ++ item ∷ []) ≡ rests_in xs + rest_of item.upcall item.answer
rests_more [] item = omega arith
rests_more (x ∷ xs) item = omega (arith, rests_more xs item)

abbrev one_if : Bool → ℕ
one_if true = 1
one_if false = 0

-- a turn rests that does not ask for the next
rest_is : (a : Answer) → GoesOn a → one_if (not (is_again a)) ≡ is_rest a
rest_is Keep goes = refl
rest_is Again goes = refl
rest_is Close goes = absurd goes

abbrev rests_one : Turn → ℕ
rests_one item = one_if (rests kind.Write item)

counted_live : (many : ℕ) (p q : Progress ForwardNote) (item : Turn) (said : ForwardNote)
    → rests_one item ≤ rest_of item.upcall item.answer
    → q ≡ record p { live = p.live ++ served item said ∷ [] } → Counted many p
    → Counted (rests_one item + many) q
counted_live many p q item said less leaves h =
    subst (λ (r : Progress ForwardNote). Counted (rests_one item + many) r) (sym leaves)
    (omega (arith, less, h, rests_more p.live (served item said)))

counted_same : (many : ℕ) (p q : Progress ForwardNote) (item : Turn) → rests_one item ≡ 0
    → q ≡ p → Counted many p → Counted (rests_one item + many) q
counted_same many p q item none same h =
    subst (λ (r : Progress ForwardNote). Counted (rests_one item + many) r) (sym same)
    (omega (arith, none, h))

counted_turn : (made : Bool) (up : Upcall) (p q : Progress ForwardNote) (item : Turn) (many : ℕ)
    → item.upcall ≡ up → TurnsBy made up p item q → GoesOn item.answer → Counted many p
    → Counted (rests_one item + many) q
counted_turn true (Timeout timer) p q item many is h goes c =
    counted_same many p q item (ap (λ (u : Upcall). rests_one (record item { upcall = u })) is)
    h.leaves c
counted_turn true Input p q item many is h goes c =
    counted_live many p q item h.said (none (ap (λ (u : Upcall).
    rests_one (record item { upcall = u })) is)) h.leaves c
  where
    none : rests_one item ≡ 0 → rests_one item ≤ rest_of item.upcall item.answer
    none q = omega (arith, q)
counted_turn true Except p q item many is h goes c =
    counted_live many p q item h.said (none (ap (λ (u : Upcall).
    rests_one (record item { upcall = u })) is)) h.leaves c
  where
    none : rests_one item ≡ 0 → rests_one item ≤ rest_of item.upcall item.answer
    none q = omega (arith, q)
counted_turn true (Notice kind) p q item many is h goes c =
    counted_live many p q item h.said (none (ap (λ (u : Upcall).
    rests_one (record item { upcall = u })) is)) h.leaves c
  where
    none : rests_one item ≡ 0 → rests_one item ≤ rest_of item.upcall item.answer
    none q = omega (arith, q)
counted_turn true Output p q item many is h goes c =
    counted_live many p q item h.said (same (ap (λ (u : Upcall).
    rests_one (record item { upcall = u })) is ∙ rest_is item.answer goes)
    (ap (λ (u : Upcall). rest_of u item.answer) is)) h.leaves c
  where
    same : rests_one item ≡ is_rest item.answer
        → rest_of item.upcall item.answer ≡ is_rest item.answer
        → rests_one item ≤ rest_of item.upcall item.answer
    same a b = omega (arith, a, b)
counted_turn false Input p q item many is h goes c =
    counted_same many p q item (ap (λ (u : Upcall). rests_one (record item { upcall = u })) is)
    h.leaves c
counted_turn false Except p q item many is h goes c =
    counted_same many p q item (ap (λ (u : Upcall). rests_one (record item { upcall = u })) is)
    h.leaves c
counted_turn false (Notice kind) p q item many is h goes c =
    counted_same many p q item (ap (λ (u : Upcall). rests_one (record item { upcall = u })) is)
    h.leaves c
counted_turn false (Timeout timer) p q item many is h goes c =
    absurd (subst GoesOn h.answers goes)
counted_turn false Output p q item many is h goes c =
    subst (λ (r : Progress ForwardNote). Counted (rests_one item + many) r) (sym h.turn.leaves)
    (omega (arith, c, most (not (is_again item.answer)), here))
  where
    most : (b : Bool) → one_if b ≤ 1
    most true = omega arith
    most false = omega arith

    here : rests_one item ≡ one_if (not (is_again item.answer))
    here = ap (λ (u : Upcall). rests_one (record item { upcall = u })) is

counted_on : (start p : Progress ForwardNote) (had : List Turn) (many : ℕ) → Course start had p
    → NoClose had → Counted many start → Counted (count (rests kind.Write) had + many) p
counted_on start p [] many course open_ c =
    subst (λ (r : Progress ForwardNote). Counted (0 + many) r) (sym course) (omega (arith, c))
counted_on start p (item ∷ had) many course open_ c =
    let one = counted_turn start.connected item.upcall start course.0 item many refl course.1
    open_.0 c in
    let more = counted_on course.0 p had (rests_one item + many) course.2 open_.1 one in
    omega (arith, more, counts (rests kind.Write item) (count (rests kind.Write) had))
  where
    counts : (b : Bool) (n : ℕ) → cond b (suc n) n ≡ n + one_if b
    counts true n = omega arith
    counts false n = omega arith

-- ---- the end

module _ {E S : Type 0} {G : Ghosts E} (tells : E → EndFacts) (keeps : Terms → E → Type 0)
    (source : S → SourceFacts) (i : SourceFacts) (end : ForwardEnd E S G) (turns : List Turn)
    (why : Why) (said : ConnectNote ForwardNote)
    (left : Left tells keeps source i end turns why said) (open_ : NoClose turns) where
  -- it has waited for its connection
  waiting : left.now.connected ≡ false → HasRested (tells (peer_of end))
  waiting none =
      inr ((left.dialled.unused none).writes, by (has_asked turns left.now left.course open_ none))
    where
      count_none : {many count : ℕ} → Counts count many → many ≡ 0 → count ≡ 0
      count_none is none = omega (arith, is, none)

      by : HasAsked left.now → HasWaited (tells (peer_of end))
      by (inl none) =
          inl (count_none left.dialled.finishes none.0, left.dialled.last_finish ∙ none.1)
      by (inr paused) = inr (left.dialled.last_finish ∙ paused)

  pub rests_so : asks_last turns false ≡ false → HasRested (tells (peer_of end))
  unfolding waiting
  rests_so none = by left.now.connected refl
    where
      by : (made : Bool) → left.now.connected ≡ made → HasRested (tells (peer_of end))
      by false made = waiting made
      by true made =
          let rests = rests_on at_start left.now turns false left.course open_
          (λ now none. not_made now) made none in
          let turned = left.has_served.turned in
          let last = last_is (LeavesTurn (state_of tells source left.service end)) rests.front
          rests.item (subst (λ (xs : List (Item ForwardNote)).
          LastIs (LeavesTurn (state_of tells source left.service end)) xs) rests.is turned.last) in
          inl (last.paused rests.rests)

  -- it asked and wrote as often as its turns of output rested
  pub made_enough : (many : ℕ) → many ≤ count (rests kind.Write) turns
      → MadeAtLeast many (tells (peer_of end))
  made_enough many few =
      let turned = left.has_served.turned in
      let c = counted_on at_start left.now turns 0 left.course open_ (omega arith) in
      record {
        questions = left.now.tries;
        writes = turned.writes;
        asked = left.dialled.finishes;
        wrote = turned.counted;
        enough = omega (arith, few, c, turned.rested);
      }
