-- That what a connection did before, followed by one more turn, is what it did.
use Rattle.std.proofs.Common.{ℕ, ◌≡◌, ◌∙◌, ◌+◌, Bool, true, false, List, [], ◌∷◌, ◌++◌, length}
use Rattle.std.proofs.Common.{take, drop, refl, sym, ap, subst, Option, Some, None, arith}
use Rattle.std.proofs.lemmas.Bool.Decides.{nat_tests}
use Rattle.std.specs.Prelude.{IsSome}
use Rattle.std.specs.List.{sum_by}
use Rattle.std.proofs.lemmas.List.{append-nil, append_assoc, take-append-drop, length-append}
use Rattle.std.proofs.lemmas.List.{length-take}
use Rattle.std.proofs.lemmas.List.Sums.{sum_by-append}
use Rattle.reactor.specs.ev_types.specs.declared.upcall.Answer.{Answer}
use Rattle.reactor.specs.ev_types.specs.declared.upcall.Upcall.{Upcall}
use Rattle.reactor.specs.ev_types.specs.declared.upcall.Upcall.TheVariants.{Input, Output, Except}
use Rattle.reactor.specs.ev_types.specs.declared.upcall.Upcall.TheVariants.{Timeout, Notice}
use Rattle.reactor.specs.ev_base.specs.Bytes.{ReaderBytes, HasGiven, MovesOn}
use Rattle.reactor.specs.ev_base.specs.Sink.{GrowsBy}
use Rattle.reactor.specs.ev_base.specs.End.{EndFacts, IsFresh, WroteNothing, EndGives, EndTakes}
use Rattle.reactor.specs.ev_base.specs.End.{EndWrites}
use Rattle.reactor.specs.ev_base.specs.End.{EndReads}
use Rattle.reactor.specs.ev_base.specs.declared.source.Got.{Got}
use Rattle.reactor.specs.ev_base.specs.declared.source.Got.TheVariants as got
use Rattle.reactor.specs.ev_base.specs.declared.end.Sent.{Sent}
use Rattle.reactor.specs.ev_base.specs.declared.end.Sent.TheVariants as sent
use Rattle.reactor.specs.reactor_journal.specs.Event.{Item}
use Rattle.reactor.specs.reactor_model.specs.Handling.{NoClose, EndsInClose, GoesOn, IsClose}
use Rattle.echo_server.specs.declared.note.EchoNote.{EchoNote}
use Rattle.echo_server.specs.declared.note.EchoNote.TheVariants as note
use Rattle.echo_server.specs.declared.note.Ending.{Ending}
use Rattle.echo_server.specs.declared.note.Ending.TheVariants as end
use Rattle.echo_server.specs.Echo.{State, at_start, DoesNothing, ClosesAs, TakesBack, WritesOnce}
use Rattle.echo_server.specs.Echo.{TakesRead, ReadsOnce, Serves, ServesInput, ServesOutput}
use Rattle.echo_server.specs.Echo.{ServesTimeout, none_wait, read_in, written_in, IsWritten}
use Rattle.echo_server.specs.Echo.{WentBack, EndedSo, Echoes}

-- ---- bytes

-- the first of the bytes that were given and the others
abbrev Given : EndFacts → List ℕ → Type 0
Given e all = HasGiven e.bytes all

gives : (old new : Option ReaderBytes) (before more : List ℕ) → HasGiven old before
    → MovesOn old more new → HasGiven new (before ++ more)
gives None None before more given moves = tt
gives None (Some new) before more given moves = absurd moves
gives (Some old) None before more given moves = absurd moves
gives (Some old) (Some new) before more given moves =
    moves.1 ∙ ap (λ (xs : List ℕ). xs ++ more) given

-- what was written, after a write that took more
grows : (old new : Option (List ℕ)) (back more : List ℕ) → IsWritten old back → GrowsBy old more new
    → IsWritten new (back ++ more)
grows None None back more w g = tt
grows None (Some new) back more w g = absurd g
grows (Some old) None back more w g = absurd g
grows (Some old) (Some new) back more w g = g ∙ ap (λ (xs : List ℕ). xs ++ more) w

-- a call that moved no bytes
abbrev same_went : (waiting : List ℕ) (e f : EndFacts) → f.bytes ≡ e.bytes → f.gave ≡ e.gave
    → f.written ≡ e.written → WentBack waiting e → WentBack waiting f
same_went waiting e f bytes gave written w = record {
  back = w.back;
  given = subst (λ (b : Option ReaderBytes). HasGiven b (w.back ++ waiting)) (sym bytes) w.given;
  gave = gave ∙ w.gave;
  written = subst (λ (t : Option (List ℕ)). IsWritten t w.back) (sym written) w.written;
}

-- ---- one turn

-- what one turn leads to, from where so many bytes were read and such bytes written back
record Moves (gave : ℕ) (back : List ℕ) (answer : Answer) (read written : ℕ) (after : State) : Type
    0 where
  went : WentBack after.waiting after.facts
  reads : after.facts.gave ≡ gave + read
  writes : length went.back ≡ length back + written
  ended : EndedSo after.ended after.waiting after.facts
  goes_on : GoesOn answer → after.ended ≡ None
  closed : IsClose answer → IsSome after.ended

nothing : (before : State) (w : WentBack before.waiting before.facts) (answer : Answer)
    (read written : ℕ) (after : State) → before.ended ≡ None → before.facts.over ≡ false →
    DoesNothing before answer read written after
    → Moves before.facts.gave w.back answer read written after
nothing before w answer read written after none over d =
    subst (λ (s : State). Moves before.facts.gave w.back answer read written s) (sym d.leaves)
    (record {
      went = w;
      reads = omega (arith, d.reads);
      writes = omega (arith, d.writes);
      ended = subst (λ (k : Option Ending). EndedSo k before.waiting before.facts) (sym none) over;
      goes_on = λ _. none;
      closed = λ c. absurd (subst IsClose d.answers c);
    })

closes : (how : Ending) (before : State) (w : WentBack before.waiting before.facts)
    (answer : Answer) (read written : ℕ) (after : State)
    → EndedSo (Some how) before.waiting before.facts →
    ClosesAs how before answer read written after
    → Moves before.facts.gave w.back answer read written after
closes how before w answer read written after ended d =
    subst (λ (s : State). Moves before.facts.gave w.back answer read written s) (sym d.leaves)
    (record {
      went = w;
      reads = omega (arith, d.reads);
      writes = omega (arith, d.writes);
      ended = ended;
      goes_on = λ g. absurd (subst GoesOn d.answers g);
      closed = λ _. refl;
    })

-- a write took the first of the bytes that wait
abbrev takes : (waiting : List ℕ) (n : ℕ) (e f : EndFacts) (w : WentBack waiting e)
    → EndTakes e waiting n f → WentBack (drop n waiting) f
takes waiting n e f w t =
    let cut : (w.back ++ take n waiting) ++ drop n waiting ≡ w.back ++ waiting =
    append_assoc w.back (take n waiting) (drop n waiting)
    ∙ ap (λ (xs : List ℕ). w.back ++ xs) (take-append-drop n waiting) in
    record {
      back = w.back ++ take n waiting;
      given = subst (λ (b : Option ReaderBytes).
          HasGiven b ((w.back ++ take n waiting) ++ drop n waiting)) (sym t.counts.bytes)
          (subst (λ (xs : List ℕ). HasGiven e.bytes xs) (sym cut) w.given);
      gave = t.counts.gave ∙ (w.gave ∙ ap length (sym cut));
      written = grows e.written f.written w.back (take n waiting) w.written t.written;
    }

-- a write that follows a read of so many bytes, or none
writes : (before : State) (w : WentBack before.waiting before.facts) (answer : Answer) (written : ℕ)
    (after : State) → before.ended ≡ None → before.facts.over ≡ false →
    (wr : WritesOnce before answer written after)
    → Moves before.facts.gave w.back answer 0 written after
writes before w answer written after none over wr = by wr.took wr.facts wr.writes wr.leaves
  where
    by : (took : Sent) (f : EndFacts) → EndWrites before.facts before.waiting took f
        → TakesBack took f before answer written after
        → Moves before.facts.gave w.back answer 0 written after
    by (sent.Bytes n) f t l =
        subst (λ (s : State). Moves before.facts.gave w.back answer 0 written s) (sym l.2) (record {
          went = takes before.waiting n before.facts f w t;
          reads = omega (arith, t.counts.gave);
          writes = omega (
            arith,
            length-append w.back (take n before.waiting),
            length-take n before.waiting,
            t.within,
            l.1,
          );
          ended = subst (λ (k : Option Ending). EndedSo k (drop n before.waiting) f) (sym none)
              (t.counts.over ∙ over);
          goes_on = λ _. none;
          closed = λ c. absurd (subst IsClose l.0 c);
        })
    by sent.Pause f t l =
        subst (λ (s : State). Moves before.facts.gave w.back answer 0 written s) (sym l.2) (record {
          went = same_went before.waiting before.facts f t.counts.bytes t.counts.gave t.written w;
          reads = omega (arith, t.counts.gave);
          writes = omega (arith, l.1);
          ended = subst (λ (k : Option Ending). EndedSo k before.waiting f) (sym none)
              (t.counts.over ∙ over);
          goes_on = λ _. none;
          closed = λ c. absurd (subst IsClose l.0 c);
        })
    by sent.Failed f t l =
        subst (λ (s : State). Moves before.facts.gave w.back answer 0 written s) (sym l.2) (record {
          went = same_went before.waiting before.facts f t.counts.bytes t.counts.gave t.written w;
          reads = omega (arith, t.counts.gave);
          writes = omega (arith, l.1);
          ended = (t.counts.over ∙ over, omega (arith, t.rose));
          goes_on = λ g. absurd (subst GoesOn l.0 g);
          closed = λ _. refl;
        })

-- a read gave a piece, if none waited
abbrev read_gives : (n : ℕ) (buffer : List ℕ) (e f : EndFacts) (w : WentBack [] e)
    → EndGives e buffer n f → WentBack (take n buffer) f
read_gives n buffer e f w g =
    let all : w.back ++ [] ≡ w.back = append-nil w.back in
    record {
      back = w.back;
      given = subst (λ (xs : List ℕ). HasGiven f.bytes (xs ++ take n buffer)) all
          (gives e.bytes f.bytes (w.back ++ []) (take n buffer) w.given g.bytes);
      gave = omega (
        arith,
        g.gave,
        w.gave,
        ap length all,
        length-append w.back (take n buffer),
        length-take n buffer,
        g.within,
      );
      written = subst (λ (t : Option (List ℕ)). IsWritten t w.back) (sym g.counts.written)
          w.written;
    }

-- what went back if none wait
abbrev emptied : (waiting : List ℕ) (e : EndFacts) → waiting ≡ [] → WentBack waiting e
    → WentBack [] e
emptied waiting e none w = record {
  back = w.back;
  given = subst (λ (xs : List ℕ). HasGiven e.bytes (w.back ++ xs)) none w.given;
  gave = w.gave ∙ ap (λ (xs : List ℕ). length (w.back ++ xs)) none;
  written = w.written;
}

-- the same as `read_gives`, of a read that gave nothing
abbrev after_read : (before : State) (f : EndFacts) (w : WentBack before.waiting before.facts)
    → f.bytes ≡ before.facts.bytes → f.gave ≡ before.facts.gave → f.written ≡ before.facts.written →
    WentBack before.waiting f
after_read before f w bytes gave written =
    same_went before.waiting before.facts f bytes gave written w

reads : (before : State) (w : WentBack before.waiting before.facts) (answer : Answer)
    (read written : ℕ) (after : State) → before.ended ≡ None → before.facts.over ≡ false →
    before.waiting ≡ [] → ReadsOnce before answer read written after
    → Moves before.facts.gave w.back answer read written after
reads before w answer read written after none over empty r = by r.gave r.facts r.reads r.takes
  where
    moved : (f : EndFacts) (n : ℕ) (back : List ℕ) (r0 : ℕ) → f.gave ≡ before.facts.gave + n
        → read ≡ r0 + n → Moves f.gave back answer r0 written after
        → Moves before.facts.gave back answer read written after
    moved f n back r0 gave is m = record {
      went = m.went;
      reads = omega (arith, m.reads, gave, is);
      writes = m.writes;
      ended = m.ended;
      goes_on = m.goes_on;
      closed = m.closed;
    }

    by : (gave : Got) (f : EndFacts) → EndReads before.facts r.buffer gave f
        → TakesRead gave r.buffer f before answer read written after
        → Moves before.facts.gave w.back answer read written after
    by (got.Bytes n) f g l =
        moved f n w.back 0 g.gave (omega (arith, l.0))
        (writes (record {
          facts = f;
          waiting = take n r.buffer;
          moved = true;
          ended = before.ended;
        }) (read_gives n r.buffer before.facts f
        (emptied before.waiting before.facts empty w) g) answer written after none g.over l.1)
    by got.Pause f g l =
        moved f 0 w.back read (omega (arith, g.gave)) (omega arith)
        (nothing (record before { facts = f })
        (after_read before f w g.bytes g.gave g.counts.written) answer read written after none
        g.over l)
    by got.Over f g l =
        moved f 0 w.back read (omega (arith, g.gave)) (omega arith)
        (closes end.End (record before { facts = f })
        (after_read before f w g.bytes g.gave g.counts.written) answer read written after
        (g.over, empty) l)
    by got.Failed f g l =
        moved f 0 w.back read (omega (arith, g.gave)) (omega arith)
        (closes end.Failed (record before { facts = f })
        (after_read before f w g.bytes g.gave g.counts.written) answer read written after
        (g.over, omega (arith, g.rose)) l)

none_there : (waiting : List ℕ) → none_wait waiting ≡ true → waiting ≡ []
none_there [] none = refl
none_there (x ∷ xs) none = let empty : length (x ∷ xs) ≡ 0 = grind (arith, nat_tests) in
    absurd (omega (arith, empty))

serves : (before : State) (w : WentBack before.waiting before.facts) (up : Upcall) (answer : Answer)
    (read written : ℕ) (after : State) → before.ended ≡ None → before.facts.over ≡ false →
    Serves up before answer read written after
    → Moves before.facts.gave w.back answer read written after
serves before w Input answer read written after none over s = by (none_wait before.waiting) refl s
  where
    by : (b : Bool) → none_wait before.waiting ≡ b → ServesInput b before answer read written after
        → Moves before.facts.gave w.back answer read written after
    by true is s = reads before w answer read written after none over (none_there before.waiting is)
        s
    by false is s = nothing before w answer read written after none over s
serves before w Output answer read written after none over s = by (none_wait before.waiting) s
  where
    by : (b : Bool) → ServesOutput b before answer read written after
        → Moves before.facts.gave w.back answer read written after
    by true s = nothing before w answer read written after none over s
    by false s = subst (λ (n : ℕ). Moves before.facts.gave w.back answer n written after) (sym s.0)
        (writes before w answer written after none over s.1)
serves before w (Timeout timer) answer read written after none over s = by before.moved s
  where
    by : (b : Bool) → ServesTimeout b before answer read written after
        → Moves before.facts.gave w.back answer read written after
    by true s = nothing (record before { moved = false }) w answer read written after none over s
    by false s = closes end.Idle before w answer read written after over s
serves before w Except answer read written after none over s =
    nothing before w answer read written after none over s
serves before w (Notice kind) answer read written after none over s =
    nothing before w answer read written after none over s

-- ---- all turns

goes_last : (had : List (Item EchoNote)) (item : Item EchoNote) → NoClose (had ++ item ∷ [])
    → GoesOn item.answer
goes_last [] item h = h.0
goes_last (x ∷ had) item h = goes_last had item h.1

closes_last : (had : List (Item EchoNote)) (item : Item EchoNote) → EndsInClose (had ++ item ∷ [])
    → IsClose item.answer
closes_last [] item h = h
closes_last (x ∷ []) item h = h
closes_last (x ∷ y ∷ had) item h = closes_last (y ∷ had) item h

-- the notes of one turn more
noted : (f : Item EchoNote → ℕ) (had : List (Item EchoNote)) (item : Item EchoNote)
    (total now more : ℕ) → total ≡ sum_by f had → now ≡ total + more → f item ≡ more
    → now ≡ sum_by f (had ++ item ∷ [])
noted f had item total now more before grew is =
    omega (arith, before, grew, is, sum_by-append f had (item ∷ []))

abbrev turn_item : Upcall → ℕ → Answer → ℕ → ℕ → Item EchoNote
turn_item up now answer read written =
    record { upcall = up; moment = now; answer = answer; note = note.Moved read written }

still_open : (ended : Option Ending) (waiting : List ℕ) (e : EndFacts) → ended ≡ None
    → EndedSo ended waiting e → e.over ≡ false
still_open ended waiting e none h = subst (λ (k : Option Ending). EndedSo k waiting e) none h

pub echoes_more : (had : List (Item EchoNote)) (before after : State) (up : Upcall) (now : ℕ)
    (answer : Answer) (read written : ℕ) → NoClose had → Echoes had before
    → Serves up before answer read written after →
    Echoes (had ++ turn_item up now answer read written ∷ []) after
echoes_more had before after up now answer read written open_ h s =
    let none = h.goes_on open_ in
    let m = serves before h.went up answer read written after none
    (still_open before.ended before.waiting before.facts none h.ended) s in
    let item : Item EchoNote = turn_item up now answer read written in
    record {
      went = m.went;
      noted_read = noted read_in had item before.facts.gave after.facts.gave read h.noted_read
          m.reads refl;
      noted_written = noted written_in had item (length h.went.back) (length m.went.back) written
          h.noted_written m.writes refl;
      ended = m.ended;
      goes_on = λ all. m.goes_on (goes_last had item all);
      closed = λ all. m.closed (closes_last had item all);
    }

-- before the first turn
pub echoes_none : (start : EndFacts) → IsFresh start → Echoes [] (at_start start)
echoes_none start fresh = record {
  went = record {
    back = [];
    given = fresh.bytes;
    gave = fresh.gave;
    written = unwritten start.written fresh.written;
  };
  noted_read = fresh.gave;
  noted_written = refl;
  ended = fresh.over;
  goes_on = λ _. refl;
  closed = λ none. absurd none;
}
  where
    unwritten : (t : Option (List ℕ)) → WroteNothing t → IsWritten t []
    unwritten None none = tt
    unwritten (Some text) none = none
