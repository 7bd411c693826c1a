-- That a turn of the service adds to what its turns come to.
use Rattle.std.proofs.Common.{◌≡◌, ◌≤◌, ◌+◌, ◌||◌, ◌∙◌, ◌⊎◌, inl, inr, ℕ, suc}
use Rattle.std.proofs.Common.{Bool, true, false, List, [], ◌∷◌, ◌++◌, length}
use Rattle.std.proofs.Common.{Option, Some, None, refl, sym, ap, subst, arith}
use Rattle.std.specs.Prelude.{IsSome}
use Rattle.ev_base.specs.ev_types.specs.declared.upcall.Answer.{Answer}
use Rattle.ev_base.specs.ev_types.specs.declared.upcall.Answer.TheVariants.{Keep}
use Rattle.ev_base.specs.ev_types.specs.declared.upcall.Upcall.{Upcall}
use Rattle.ev_base.specs.ev_types.specs.declared.upcall.Upcall.TheVariants.{Input, Output, Except}
use Rattle.ev_base.specs.ev_types.specs.declared.upcall.Upcall.TheVariants.{Timeout, Notice}
use Rattle.ev_base.specs.Counts.{Counts, counted}
use Rattle.ev_base.specs.End.{EndFacts, Paused}
use Rattle.ev_base.specs.End.{IsFresh, WroteNothing}
use Rattle.cdr_record.specs.declared.grammar.First.TheVariants.{More}
use Rattle.cdr_record.specs.Decoding.{records_of}
use Rattle.cdr_record.specs.Decoding.{bad_of}
use Rattle.cdr_record.proofs.Cutting.{stops_at, first_nil}
use Rattle.cdr_record.proofs.Taking.{fresh_stands}
use Rattle.reactor_model.specs.reactor_journal.specs.Event.{Item}
use Rattle.reactor_model.specs.Handling.{NoClose, EndsInClose, GoesOn, IsClose}
use Rattle.forwarder.specs.Feeding.{sent_all}
use Rattle.forwarder.specs.Forwarding.{State, at_start, none_wait}
use Rattle.forwarder.specs.Forwarding.{ending_by, concluded}
use Rattle.forwarder.specs.Forwarding.{answer_of, Forwards, Serves, Turns, Course, note_of}
use Rattle.forwarder.specs.Forwarded.{IsWritten, HasStopped, EndedSo, IfSo}
use Rattle.forwarder.specs.Forwarded.{GoesOnFrom, HasForwarded, is_rest, rest_of}
use Rattle.forwarder.specs.Forwarded.{rests_in, LeavesTurn, LastIs, HasTurned}
use Rattle.forwarder.specs.declared.note.ForwardNote.{ForwardNote}
use Rattle.forwarder.specs.declared.note.ForwardEnding.{ForwardEnding}
use Rattle.forwarder.specs.declared.note.ForwardEnding.TheVariants as end
use Rattle.forwarder.specs.Asking.{asked_none}
use Rattle.forwarder.proofs.Moving.{LeavesRead, LeavesWrite, counts_one, none_there, unless}
use Rattle.forwarder.proofs.Moving.{going_of, some_none, reads_on, writes_on}

-- ---- the end of a turn

abbrev ending_with : State → Option ForwardEnding → State
ending_with w o = record w { ended = o }

ended_so : (how : ForwardEnding) (taken rest : List ℕ) (e : EndFacts) → rest ≡ []
    → HasStopped how taken e → EndedSo how taken rest e
ended_so end.End taken rest e none so = (none, so)
ended_so (end.BadRecord at) taken rest e none so = (none, so)
ended_so end.ReadFailed taken rest e none so = (none, so)
ended_so end.PeerFailed taken rest e none so = absurd so
ended_so end.NoMemory taken rest e none so = absurd so

concludes_by : (w : State) (o : Option ForwardEnding) (b : Bool) (k : Option ForwardEnding)
    → w.ended ≡ o → none_wait w ≡ b → w.stop ≡ k → HasForwarded w
    → HasForwarded (ending_with w (ending_by o b k))
concludes_by w (Some how) b k is wait stop h =
    subst (λ (x : Option ForwardEnding). HasForwarded (ending_with w x)) is h
concludes_by w None false k is wait stop h =
    subst (λ (x : Option ForwardEnding). HasForwarded (ending_with w x)) is h
concludes_by w None true None is wait stop h =
    subst (λ (x : Option ForwardEnding). HasForwarded (ending_with w x)) is h
concludes_by w None true (Some how) is wait stop h =
    let going = going_of w.ended (GoesOnFrom h.taken h.rest w) is h.going in
    record {
      taken = h.taken;
      given = h.given;
      gave = h.gave;
      sent = h.sent;
      written = h.written;
      bytes = h.bytes;
      rest = h.rest;
      whole = h.whole;
      going = unless (Some how) _ (record {
        stands = going.stands;
        waits = going.waits;
        records = going.records;
        sound = going.sound;
      });
      stop = h.stop;
      ended = ended_so how h.taken h.rest w.facts (going.waits ∙ none_there w.waiting wait)
          (subst (λ (x : Option ForwardEnding). IfSo x (λ how. HasStopped how h.taken w.facts))
          stop h.stop);
    }

concludes : (w : State) → HasForwarded w → HasForwarded (concluded w)
concludes w h = concludes_by w w.ended (none_wait w) w.stop refl refl refl h

goes_none : (o : Option ForwardEnding) (went : Bool) → GoesOn (answer_of o went) → o ≡ None
goes_none None went goes = refl
goes_none (Some how) went goes = absurd goes

closes_some : (o : Option ForwardEnding) (went : Bool) → IsClose (answer_of o went) → IsSome o
closes_some (Some how) went closes = refl
closes_some None true closes = absurd closes
closes_some None false closes = absurd closes

-- a turn is answered Keep only if it goes on and no bytes went
rest_when : (o : Option ForwardEnding) (went : Bool) → (is_rest (answer_of o went) ≡ 0)
    ⊎ ((is_rest (answer_of o went) ≡ 1) × (o ≡ None) × (went ≡ false))
rest_when (Some how) went = inl refl
rest_when None true = inl refl
rest_when None false = inr (refl, refl, refl)

neither : (a b : Bool) → (a || b) ≡ false → (a ≡ false) × (b ≡ false)
neither true b is = cc
neither false b is = (refl, is)

goes_by : (o : Option ForwardEnding) (b : Bool) (k : Option ForwardEnding)
    → ending_by o b k ≡ None → (o ≡ None) × (b ≡ true → k ≡ None)
goes_by (Some how) b k is = absurd (some_none how is)
goes_by None true k is = (refl, λ _. is)
goes_by None false k is = (refl, λ none_came. cc)

-- what a turn comes to, before which the end had made so many writes
record MakesTurn (n : ℕ) (answer : Answer) (after : State) : Type 0 where
  forwarded : HasForwarded after
  writes : ℕ
  counts : Counts after.facts.writes writes
  rested : n + is_rest answer ≤ writes
  paused : is_rest answer ≡ 1 → after.facts.last_write ≡ Some Paused
  goes_on : GoesOn answer → after.ended ≡ None
  closed : IsClose answer → IsSome after.ended

zero_one : ◌≡◌ {A = ℕ} 0 1 → ⊥
zero_one is = omega (arith, is)

abbrev its_answer : {s after : State} {answer : Answer} → Forwards s answer after → Answer
its_answer f = answer_of (concluded f.written).ended (f.gave || f.took)

forwards : (s after : State) (answer : Answer) (n : ℕ) → s.ended ≡ None → HasForwarded s
    → Counts s.facts.writes n → Forwards s answer after → MakesTurn n answer after
forwards s after answer n open_ h count f =
    subst (λ (x : State). MakesTurn n answer x) (sym f.leaves)
    (subst (λ (a : Answer). MakesTurn n a (concluded f.written)) (sym f.answers)
    (by (rest_when (concluded f.written).ended (f.gave || f.took)) wrote.writes))
  where
    read : LeavesRead s f.gave f.read
    read = reads_on s f.gave f.read open_ h f.reads

    wrote : LeavesWrite f.read f.took f.written
    wrote = writes_on f.read f.took f.written read.forwarded f.writes

    before : Counts f.read.facts.writes n
    before = read.writes ∙ count

    made : (m : ℕ) → Counts f.written.facts.writes m → n + is_rest (its_answer f) ≤ m
        → (is_rest (its_answer f) ≡ 1 → f.written.facts.last_write ≡ Some Paused)
        → MakesTurn n (its_answer f) (concluded f.written)
    made m counts rested paused = record {
      forwarded = concludes f.written wrote.forwarded;
      writes = m;
      counts = counts;
      rested = rested;
      paused = paused;
      goes_on = goes_none (concluded f.written).ended (f.gave || f.took);
      closed = closes_some (concluded f.written).ended (f.gave || f.took);
    }

    rests : (f.written.facts.last_write ≡ Some Paused)
        × (f.written.facts.writes ≡ counted f.read.facts.writes) → is_rest (its_answer f) ≡ 1
        → MakesTurn n (its_answer f) (concluded f.written)
    rests paused one = made (suc n) (paused.1 ∙ counts_one f.read.facts.writes n before)
        (omega (arith, one)) (λ _. paused.0)

    idle : f.gave ≡ false → (none_wait f.read ≡ true) × (f.written ≡ f.read)
        → (none_wait f.written ≡ true → f.written.stop ≡ None) → ⊥
    idle none_came same stop = read.stopped none_came same.0
        (sym (ap (λ (x : State). x.stop) same.1) ∙ stop (ap none_wait same.1 ∙ same.0))

    paused_by : f.gave ≡ false → (none_wait f.written ≡ true → f.written.stop ≡ None)
        → is_rest (its_answer f) ≡ 1
        → ((none_wait f.read ≡ true) × (f.written ≡ f.read))
        ⊎ ((f.written.facts.last_write ≡ Some Paused)
        × (f.written.facts.writes ≡ counted f.read.facts.writes))
        → MakesTurn n (its_answer f) (concluded f.written)
    paused_by none_came stop one (inl same) = absurd (idle none_came same stop)
    paused_by none_came stop one (inr paused) = rests paused one

    by : (is_rest (its_answer f) ≡ 0) ⊎ ((is_rest (its_answer f) ≡ 1)
        × ((concluded f.written).ended ≡ None) × ((f.gave || f.took) ≡ false))
        → (f.written.facts.writes ≡ f.read.facts.writes)
        ⊎ (f.written.facts.writes ≡ counted f.read.facts.writes)
        → MakesTurn n (its_answer f) (concluded f.written)
    by (inl none) (inl same) = made n (same ∙ before) (omega (arith, none))
        (λ one. absurd (zero_one (sym none ∙ one)))
    by (inl none) (inr one_more) = made (suc n)
        (one_more ∙ counts_one f.read.facts.writes n before) (omega (arith, none))
        (λ one. absurd (zero_one (sym none ∙ one)))
    by (inr (one, goes, none)) writes =
        let none_came = neither f.gave f.took none in
        let open_still = goes_by f.written.ended (none_wait f.written) f.written.stop goes in
        paused_by none_came.0 open_still.1 one (wrote.rests none_came.1 open_still.0)

-- ---- all turns

goes_last : (had : List (Item ForwardNote)) (item : Item ForwardNote) → NoClose (had ++ item ∷ [])
    → GoesOn item.answer
goes_last [] item h = h.0
goes_last (x ∷ had) item h = goes_last had item h.1

closes_last : (had : List (Item ForwardNote)) (item : Item ForwardNote)
    → EndsInClose (had ++ item ∷ []) → IsClose item.answer
closes_last [] item h = h
closes_last (x ∷ []) item h = h
closes_last (x ∷ y ∷ had) item h = closes_last (y ∷ had) item h

rests_more : (had : List (Item ForwardNote)) (item : Item ForwardNote)
    → rests_in (had ++ item ∷ []) ≡ rests_in had + rest_of item.upcall item.answer
rests_more [] item = omega arith
rests_more (x ∷ had) item = omega (arith, rests_more had item)

last_more : (had : List (Item ForwardNote)) (item : Item ForwardNote)
    (holds : Item ForwardNote → Type 0) → holds item → LastIs holds (had ++ item ∷ [])
last_more [] item holds h = h
last_more (x ∷ []) item holds h = h
last_more (x ∷ y ∷ had) item holds h = last_more (y ∷ had) item holds h

course_more : (start s after : State) (had : List (Item ForwardNote)) (item : Item ForwardNote)
    → Course start had s → Turns s item after → Course start (had ++ item ∷ []) after
course_more start s after [] item course turn = (
  course.0,
  after,
  course.1,
  subst (λ (x : State). Turns x item after) course.2 turn,
  (after.facts, asked_none after.facts, refl),
)
course_more start s after (x ∷ had) item course turn =
    (course.0, course.1, course.2, course.3, course_more course.1 s after had item course.4 turn)

adds : (had : List (Item ForwardNote)) (s after : State) (item : Item ForwardNote)
    → HasTurned had s → Turns s item after → HasForwarded after → (m : ℕ)
    → Counts after.facts.writes m → rests_in had + rest_of item.upcall item.answer ≤ m
    → (rest_of item.upcall item.answer ≡ 1 → after.facts.last_write ≡ Some Paused)
    → (GoesOn item.answer → after.ended ≡ None) → (IsClose item.answer → IsSome after.ended)
    → HasTurned (had ++ item ∷ []) after
adds had s after item h turn forwarded m counts rested paused goes closes = record {
  start = h.start;
  fresh = h.fresh;
  course = course_more (at_start h.start) s after had item h.course turn;
  forwarded = forwarded;
  last = last_more had item (LeavesTurn after) (record { notes = turn.notes; paused = paused });
  writes = m;
  counted = counts;
  rested = omega (arith, rested, rests_more had item);
  goes_on = λ all. goes (goes_last had item all);
  closed = λ all. closes (closes_last had item all);
}

-- a turn of this upcall that was no timeout
abbrev Rests : Upcall → Type 0
Rests up = (answer : Answer) → rest_of up answer ≡ is_rest answer

adds_forward : (had : List (Item ForwardNote)) (s after : State) (item : Item ForwardNote)
    → NoClose had → HasTurned had s → Turns s item after → Rests item.upcall
    → Forwards s item.answer after → HasTurned (had ++ item ∷ []) after
adds_forward had s after item open_ h turn rests f =
    let m = forwards s after item.answer h.writes (h.goes_on open_) h.forwarded h.counted f in
    let rest = rests item.answer in
    adds had s after item h turn m.forwarded m.writes m.counts
    (omega (arith, h.rested, m.rested, rest)) (λ one. m.paused (sym rest ∙ one)) m.goes_on m.closed

adds_nothing : (had : List (Item ForwardNote)) (s after : State) (item : Item ForwardNote)
    → NoClose had → HasTurned had s → Turns s item after → rest_of item.upcall item.answer ≡ 0
    → item.answer ≡ Keep → after ≡ s → HasTurned (had ++ item ∷ []) after
adds_nothing had s after item open_ h turn none keeps same =
    adds had s after item h turn (subst HasForwarded (sym same) h.forwarded) h.writes
    (ap (λ (x : State). x.facts.writes) same ∙ h.counted) (omega (arith, h.rested, none))
    (λ one. absurd (zero_one (sym none ∙ one)))
    (λ _. ap (λ (x : State). x.ended) same ∙ h.goes_on open_)
    (λ closes. absurd (subst IsClose keeps closes))

abbrev item_of : Upcall → ℕ → Answer → ForwardNote → Item ForwardNote
item_of up now answer note = record { upcall = up; moment = now; answer = answer; note = note }

pub turned_more : (had : List (Item ForwardNote)) (s after : State) (up : Upcall) (now : ℕ)
    (answer : Answer) (note : ForwardNote) → NoClose had → HasTurned had s
    → (s.ended ≡ None → Serves up s answer after) → note ≡ note_of after → HasTurned
    (had ++ record { upcall = up; moment = now; answer = answer; note = note } ∷ []) after
turned_more had s after up now answer note open_ h served notes =
    by up (served (h.goes_on open_))
  where
    by : (u : Upcall) → Serves u s answer after
        → HasTurned (had ++ item_of u now answer note ∷ []) after
    by (Timeout timer) f = adds_nothing had s after (item_of (Timeout timer) now answer note)
        open_ h
        (record { serves = f; notes = notes }) refl f.0 f.1
    by Input f = adds_forward had s after (item_of Input now answer note) open_ h
        (record { serves = f; notes = notes }) (λ a. refl) f
    by Output f = adds_forward had s after (item_of Output now answer note) open_ h
        (record { serves = f; notes = notes }) (λ a. refl) f
    by Except f = adds_forward had s after (item_of Except now answer note) open_ h
        (record { serves = f; notes = notes }) (λ a. refl) f
    by (Notice kind) f = adds_forward had s after (item_of (Notice kind) now answer note) open_ h
        (record { serves = f; notes = notes }) (λ a. refl) f

-- ---- before the first turn

none_read : records_of [] ≡ []
none_read = (stops_at [] More first_nil tt).records

none_bad : bad_of [] ≡ None
none_bad = sym fresh_stands.bad

pub turned_none : (start : EndFacts) → IsFresh start → HasTurned [] (at_start start)
turned_none start is = record {
  start = start;
  fresh = is;
  course = (start, asked_none start, refl);
  forwarded = record {
    taken = [];
    given = is.bytes;
    gave = is.gave;
    sent = [];
    written = unwritten start.written is.written;
    bytes = refl;
    rest = [];
    whole = ap sent_all none_read;
    going = record {
      stands = fresh_stands;
      waits = refl;
      records = let e = ap length none_read in omega (arith, e);
      sound = λ _. none_bad;
    };
    stop = tt;
    ended = tt;
  };
  last = tt;
  writes = 0;
  counted = is.writes;
  rested = omega arith;
  goes_on = λ _. refl;
  closed = λ none. absurd none;
}
  where
    unwritten : (t : Option (List ℕ)) → WroteNothing t → IsWritten t []
    unwritten None none = tt
    unwritten (Some text) none = none
