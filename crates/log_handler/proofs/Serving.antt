-- Steps of a connection.
use Rattle.std.proofs.Common.{◌≡◌, ◌≤◌, ◌∙◌, ◌⊎◌, ◌-◌, inl, inr, ℕ, suc, arith, List, [], ◌∷◌, ◌++◌}
use Rattle.std.proofs.Common.{length, take, Bool, true, false, Option, Some, None, IsSome, refl}
use Rattle.std.proofs.Common.{sym, subst, ap}
use Rattle.std.specs.Prelude.{nat_le}
use Rattle.std.proofs.lemmas.List.{length-take, length-append}
use Rattle.std.proofs.lemmas.Bool.Decides.{nat_tests}
use Rattle.cdr_record.specs.ev_types.specs.declared.upcall.Answer.TheVariants.{Keep, Close}
use Rattle.cdr_record.specs.ev_types.specs.declared.upcall.Upcall.{Upcall}
use Rattle.cdr_record.specs.ev_types.specs.declared.upcall.Upcall.TheVariants.{Input, Output}
use Rattle.cdr_record.specs.ev_types.specs.declared.upcall.Upcall.TheVariants.{Except, Timeout}
use Rattle.cdr_record.specs.ev_types.specs.declared.upcall.Upcall.TheVariants.{Notice}
use Rattle.cdr_record.specs.ev_types.specs.declared.upcall.Why.{Why}
use Rattle.cdr_record.specs.ev_types.specs.declared.upcall.Why.TheVariants.{Own}
use Rattle.ev_base.specs.Counts.{Counts, Rose, counted}
use Rattle.ev_base.specs.Bytes.{ReaderBytes, HasGiven, MovesOn}
use Rattle.ev_base.specs.Story.{Part, OfParts, Telling, TellsNext}
use Rattle.ev_base.specs.Terms.{Terms}
use Rattle.ev_base.specs.KeepsStory.{KeepsStory, IsTelling}
use Rattle.ev_base.specs.End.{EndFacts, Try, Moved, Paused, WasOver, Faulted, CountsRead, EndGives}
use Rattle.ev_base.specs.End.{EndPauses, EndIsOver, EndFailsToRead, GaveNoPart, IsFresh}
use Rattle.ev_base.specs.declared.end.PeerEnd.{Ghosts}
use Rattle.ev_base.specs.declared.source.Got.{Got}
use Rattle.ev_base.specs.declared.source.Got.TheVariants as got
use Rattle.cdr_record.specs.Decoding.{Stop, Clean, Partial, Malformed, DecoderState, StandsFor}
use Rattle.cdr_record.specs.Decoding.{decode}
use Rattle.log_lines.specs.declared.end_kind.EndKind.{EndKind}
use Rattle.log_lines.specs.declared.end_kind.EndKind.TheVariants as end
use Rattle.line_sink.specs.reactor_journal.specs.Event.{Item, Origin}
use Rattle.line_sink.specs.reactor_model.specs.Handling.{NoClose, EndsInClose}
use Rattle.line_sink.specs.reactor_model.specs.Turns.{TakesTurn, MayAct}
use Rattle.line_sink.specs.reactor_model.specs.declared.handler.Turn.{Turn}
use Rattle.line_sink.specs.reactor_model.specs.declared.handler.Act.{Act}
use Rattle.log_handler.specs.declared.note.ServerNote.{ServerNote}
use Rattle.log_handler.specs.declared.note.ServerNote.TheVariants as note
use Rattle.log_handler.specs.declared.connection.LogConnection.{LogConnection}
use Rattle.log_handler.specs.Connection.{Progress, Course, DecodesPiece, LosesPiece, AnswersTimeout}
use Rattle.log_handler.specs.Connection.{ServesUpcall, after_read, at_start, end_of, is_idle}
use Rattle.log_handler.specs.Connection.{kept_at, piece_room}
use Rattle.log_handler.specs.Connections.{HasServed, HasFaults, IsAt, MayComeFrom, BeginsStory}
use Rattle.log_handler.specs.Connections.{ConnectionFits, ConnectionGone, IsClosing, connections}
use Rattle.log_handler.specs.Connections.{end_of_connection, found_end}
use Rattle.log_handler.specs.Steps.{IsTurn, IsSame, Serves, TellsPiece, Leads, item_of}
use Rattle.log_handler.proofs.Courses.{course-more, course-one, course-goes, course-closed}

-- ---- what an end tells after a read

counts-more : (n reads : ℕ) → Counts n reads → Counts (counted n) (suc reads)
counts-more n reads h = omega arith

given-more : (a b : Option ReaderBytes) (taken bytes : List ℕ) → HasGiven a taken
    → MovesOn a bytes b → HasGiven b (taken ++ bytes)
given-more None None taken bytes h m = tt
given-more None (Some b) taken bytes h m = absurd m
given-more (Some a) None taken bytes h m = absurd m
given-more (Some a) (Some b) taken bytes h m = m.1 ∙ ap (λ (xs : List ℕ). xs ++ bytes) h

tells-as : (a b c : Option Telling) (room : ℕ) (gave : Got) (bytes : List ℕ) → a ≡ b
    → room ≡ piece_room → TellsNext a room gave bytes c → TellsNext b piece_room gave bytes c
tells-as a b c room gave bytes e f h =
    subst (λ (x : Option Telling). TellsNext x piece_room gave bytes c) e
    (subst (λ (m : ℕ). TellsNext a m gave bytes c) f h)

no-faults : (p : Progress) (e : EndFacts) → p.kept ≡ None → HasServed p e → e.faults ≡ 0
no-faults p e none h = subst (λ (k : Option EndKind). HasFaults k e.faults) none h.faults

served-nothing : (p : Progress) (e f : EndFacts) (came_to : Try) (kept : Option EndKind)
    → HasServed p e → CountsRead e came_to f → f.gave ≡ e.gave → f.bytes ≡ e.bytes →
    f.over ≡ found_end (Some came_to) → HasFaults kept f.faults
    → HasServed (record (after_read came_to f.telling p) { kept = kept }) f
served-nothing p e f came_to kept h counts gave bytes over faults = record {
  no_listener = counts.listener ∙ h.no_listener;
  given = subst (λ (b : Option ReaderBytes). HasGiven b p.taken) (sym bytes) h.given;
  gave = gave ∙ h.gave;
  reads = subst (λ (n : ℕ). Counts n (suc p.reads)) (sym counts.reads)
      (counts-more e.reads p.reads h.reads);
  last_read = counts.last_read;
  over = over;
  telling = refl;
  faults = faults;
}

-- ---- turns whose read gave no bytes

at-nothing : {E : Type 0} {G : Ghosts E} (tells : E → EndFacts) (old new : LogConnection E G)
    (p : Progress) (came_to : Try) (kept : Option EndKind) → p.kept ≡ None → IsAt tells old p →
    CountsRead (tells (end_of_connection old)) came_to (tells (end_of_connection new))
    → (tells (end_of_connection new)).gave ≡ (tells (end_of_connection old)).gave
    → (tells (end_of_connection new)).bytes ≡ (tells (end_of_connection old)).bytes →
    (tells (end_of_connection new)).over ≡ found_end (Some came_to)
    → HasFaults kept (tells (end_of_connection new)).faults →
    new.last ≡ old.last → new.decoder ≡ old.decoder → new.kept ≡ kept →
    IsAt tells new (record (after_read came_to (tells (end_of_connection new)).telling p) {
      kept = kept;
    })
at-nothing tells old new p came_to kept goes h counts gave bytes over faults last decoder is =
    record {
      end = served-nothing p (tells (end_of_connection old)) (tells (end_of_connection new)) came_to
          kept h.end counts gave bytes over faults;
      last = last ∙ h.last;
      kept = is;
      decoder = λ none. subst (λ (d : DecoderState). StandsFor d p.taken × (d.bad ≡ None))
          (sym decoder)
          (h.decoder goes);
    }

module _ {E : Type 0} {G : Ghosts E} (tells : E → EndFacts) (now : ℕ) (old new : LogConnection E G)
    (turn : Turn (LogConnection E G) ServerNote E) (buffer : List ℕ) (before : Progress)
    (goes : before.kept ≡ None) (stood : IsAt tells old before) (whole : length buffer ≡ piece_room)
    (last : new.last ≡ old.last) (decoder : new.decoder ≡ old.decoder) where
  pub leads-pause : EndPauses (tells (end_of_connection old)) buffer (tells (end_of_connection new))
      → new.kept ≡ old.kept → IsTurn old.conn Keep 0 [] turn
      → Leads tells Input now old before new turn
  leads-pause reads kept turned = record {
    after = record (after_read Paused (tells (end_of_connection new)).telling before) {
      kept = None;
    };
    serves = record {
      gave = got.Pause;
      bytes = [];
      tells = tells-as _ before.telling _ (length buffer) got.Pause [] stood.end.telling whole
          reads.telling;
      serves = record { notes = turned.notes; answers = turned.answers; leaves = refl };
    };
    stands = at-nothing tells old new before Paused None goes stood reads.counts reads.gave
        reads.bytes reads.over (reads.faults ∙ no-faults before _ goes stood.end) last decoder
        (kept ∙ stood.kept ∙ goes);
  }

  over-faults : (s : Stop) (n : ℕ) → n ≡ 0 → HasFaults (Some (end_of s)) n
  over-faults Clean n h = h
  over-faults (Partial m) n h = h
  over-faults (Malformed at) n h = h

  pub leads-over : EndIsOver (tells (end_of_connection old)) buffer (tells (end_of_connection new))
      → new.kept ≡ Some (end_of (decode before.taken).stop) → IsTurn old.conn Close 0 [] turn →
      Leads tells Input now old before new turn
  leads-over reads kept turned = record {
    after = record (after_read WasOver (tells (end_of_connection new)).telling before) {
      kept = Some (end_of (decode before.taken).stop);
    };
    serves = record {
      gave = got.Over;
      bytes = [];
      tells = tells-as _ before.telling _ (length buffer) got.Over [] stood.end.telling whole
          reads.telling;
      serves = record { notes = turned.notes; answers = turned.answers; leaves = refl };
    };
    stands = at-nothing tells old new before WasOver (Some (end_of (decode before.taken).stop)) goes
        stood reads.counts reads.gave reads.bytes reads.over
        (over-faults (decode before.taken).stop _
        (reads.faults ∙ no-faults before _ goes stood.end)) last decoder kept;
  }

  failed-faults : (n m : ℕ) → n ≡ 0 → Rose n m → 1 ≤ m
  failed-faults n m none rose = omega arith

  pub leads-failed : EndFailsToRead (tells (end_of_connection old)) buffer
      (tells (end_of_connection new)) → new.kept ≡ Some end.Failed → IsTurn old.conn Close 0 [] turn
      →
      Leads tells Input now old before new turn
  leads-failed reads kept turned = record {
    after = record (after_read Faulted (tells (end_of_connection new)).telling before) {
      kept = Some end.Failed;
    };
    serves = record {
      gave = got.Failed;
      bytes = [];
      tells = tells-as _ before.telling _ (length buffer) got.Failed [] stood.end.telling whole
          reads.telling;
      serves = record { notes = turned.notes; answers = turned.answers; leaves = refl };
    };
    stands = at-nothing tells old new before Faulted (Some end.Failed) goes stood reads.counts
        reads.gave reads.bytes reads.over
        (failed-faults _ _ (no-faults before _ goes stood.end) reads.rose) last decoder kept;
  }

-- ---- turns whose read gave bytes

kept-faults : (s : Stop) (n : ℕ) → n ≡ 0 → HasFaults (kept_at s) n
kept-faults Clean n h = h
kept-faults (Partial m) n h = h
kept-faults (Malformed at) n h = h

told-faults : (conn : ℕ) (before : Progress) (bytes : List ℕ) (item : Item ServerNote)
    (kept : Option EndKind) (n : ℕ) → n ≡ 0 →
    DecodesPiece conn before bytes item kept ⊎ LosesPiece conn bytes item kept → HasFaults kept n
told-faults conn before bytes item kept n none (inl d) =
    subst (λ (k : Option EndKind). HasFaults k n) (sym d.ends) (kept-faults _ n none)
told-faults conn before bytes item kept n none (inr l) =
    subst (λ (k : Option EndKind). HasFaults k n) (sym l.ends) none

taken-length : (n : ℕ) (buffer : List ℕ) → n ≤ length buffer → n ≡ length (take n buffer)
taken-length n buffer h = omega (arith, length-take n buffer)

pub leads-piece : {E : Type 0} {G : Ghosts E} (tells : E → EndFacts) (now : ℕ)
    (old new : LogConnection E G) (turn : Turn (LogConnection E G) ServerNote E) (buffer : List ℕ)
    (n : ℕ) (before : Progress) →
    before.kept ≡ None → IsAt tells old before → length buffer ≡ piece_room
    → EndGives (tells (end_of_connection old)) buffer n (tells (end_of_connection new))
    → new.last ≡ now →
    TellsPiece old.conn before (take n buffer) (item_of Input now turn) new.kept new.decoder
    → Leads tells Input now old before new turn
leads-piece tells now old new turn buffer n before goes stood whole reads last told =
    let bytes = take n buffer in
    let count : n ≡ length bytes = taken-length n buffer reads.within in
    let e = tells (end_of_connection old) in
    let f = tells (end_of_connection new) in
    record {
      after = record (after_read (Moved (length bytes)) f.telling before) {
        taken = before.taken ++ bytes;
        last = now;
        kept = new.kept;
      };
      serves = record {
        gave = got.Bytes n;
        bytes = bytes;
        tells = tells-as e.telling before.telling f.telling (length buffer) (got.Bytes n) bytes
            stood.end.telling whole reads.telling;
        serves = (
          count,
          record {
            some = omega (arith, count, reads.some);
            within = omega (arith, count, reads.within, whole);
            leaves = refl;
            told = told.told;
          },
        );
      };
      stands = record {
        end = record {
          no_listener = reads.counts.listener ∙ stood.end.no_listener;
          given = given-more e.bytes f.bytes before.taken bytes stood.end.given reads.bytes;
          gave = omega (arith, reads.gave, stood.end.gave, count, length-append before.taken bytes);
          reads = subst (λ (m : ℕ). Counts m (suc before.reads)) (sym reads.counts.reads)
              (counts-more e.reads before.reads stood.end.reads);
          last_read = reads.counts.last_read ∙ ap (λ (m : ℕ). Some (Moved m)) count;
          over = reads.over;
          telling = refl;
          faults = told-faults old.conn before bytes (item_of Input now turn) new.kept f.faults
              (reads.faults ∙ no-faults before e goes stood.end) told.told;
        };
        last = last;
        kept = refl;
        decoder = told.stands;
      };
    }

-- ---- turns without a read

at-same : {E : Type 0} {G : Ghosts E} (tells : E → EndFacts) (old new : LogConnection E G)
    (p : Progress) (kept : Option EndKind) → p.kept ≡ None → IsAt tells old p →
    end_of_connection new ≡ end_of_connection old → new.last ≡ old.last → new.decoder ≡ old.decoder
    → new.kept ≡ kept → HasFaults kept 0 →
    IsAt tells new (record p { kept = kept })
at-same tells old new p kept goes h same last decoder is faults =
    let e = tells (end_of_connection old) in
    let served : HasServed (record p { kept = kept }) e = record {
      no_listener = h.end.no_listener;
      given = h.end.given;
      gave = h.end.gave;
      reads = h.end.reads;
      last_read = h.end.last_read;
      over = h.end.over;
      telling = h.end.telling;
      faults = subst (λ (n : ℕ). HasFaults kept n) (sym (no-faults p e goes h.end)) faults;
    } in
    record {
      end = subst (λ (f : EndFacts). HasServed (record p { kept = kept }) f) (sym (ap tells same))
          served;
      last = last ∙ h.last;
      kept = is;
      decoder = λ none. subst (λ (d : DecoderState). StandsFor d p.taken × (d.bad ≡ None))
          (sym decoder) (h.decoder goes);
    }

idle-long : (idle : Option ℕ) (time last now : ℕ) → idle ≡ Some time → time ≤ now - last
    → is_idle idle last now ≡ true
idle-long idle time last now is long =
    let test : nat_le time (now - last) ≡ true = grind (arith, nat_tests) in rw is test

pub leads-idle : {E : Type 0} {G : Ghosts E} (tells : E → EndFacts) (timer now : ℕ)
    (old new : LogConnection E G) (turn : Turn (LogConnection E G) ServerNote E) (before : Progress)
    (time : ℕ) →
    before.kept ≡ None → IsAt tells old before → old.idle ≡ Some time → time ≤ now - old.last
    → IsTurn old.conn Close 0 [] turn →
    end_of_connection new ≡ end_of_connection old → new.last ≡ old.last → new.decoder ≡ old.decoder
    → new.kept ≡ Some end.Idle →
    Leads tells (Timeout timer) now old before new turn
leads-idle tells timer now old new turn before time goes stood is long turned same last decoder
    kept =
    let quiet = idle-long old.idle time before.last now is
    (subst (λ (l : ℕ). time ≤ now - l) stood.last long) in
    record {
      after = record before { kept = Some end.Idle };
      serves = subst (λ (b : Bool). AnswersTimeout b old.conn before
          (item_of (Timeout timer) now turn) (record before { kept = Some end.Idle })) (sym quiet)
          (record { notes = turned.notes; answers = turned.answers; leaves = refl });
      stands = at-same tells old new before (Some end.Idle) goes stood same last decoder kept refl;
    }

-- an upcall other than input and a timeout
pub serves-other : {E : Type 0} {G : Ghosts E} (tells : E → EndFacts) (up : Upcall) (now : ℕ)
    (old : LogConnection E G) (turn : Turn (LogConnection E G) ServerNote E) →
    (up ≡ Input → ⊥) → ((timer : ℕ) → up ≡ Timeout timer → ⊥) → IsTurn old.conn Keep 0 [] turn
    → Serves tells up now old old turn
serves-other tells up now old turn no_input no_timeout turned before goes stood = record {
  after = record before { kept = None };
  serves = other up no_input no_timeout;
  stands = at-same tells old old before None goes stood refl refl refl (stood.kept ∙ goes) refl;
}
  where
    other : (u : Upcall) → (u ≡ Input → ⊥) → ((timer : ℕ) → u ≡ Timeout timer → ⊥)
        → ServesUpcall u old.conn old.idle before (item_of up now turn)
        (record before { kept = None })
    other Input no_input no_timeout = absurd (no_input refl)
    other (Timeout timer) no_input no_timeout = absurd (no_timeout timer refl)
    other Output no_input no_timeout =
        record { notes = turned.notes; answers = turned.answers; leaves = refl }
    other Except no_input no_timeout =
        record { notes = turned.notes; answers = turned.answers; leaves = refl }
    other (Notice kind) no_input no_timeout =
        record { notes = turned.notes; answers = turned.answers; leaves = refl }

-- ---- whole turns

-- more turns of a connection, which lead to where it is now
pub fits-next : {E : Type 0} {G : Ghosts E} (tells : E → EndFacts) (keeps : Terms → E → Type 0)
    (t : Terms) (origin : Option (Origin ServerNote)) (old new : LogConnection E G)
    (had items : List (Item ServerNote)) (next : Progress)
    → (h : ConnectionFits tells keeps t origin old had) → IsSame tells keeps old new →
    Course old.conn old.idle h.served.now items next → IsAt tells new next
    → ConnectionFits tells keeps t origin new (had ++ items)
fits-next tells keeps t origin old new had items next h same course stands =
    let s = h.served in record {
      served = record {
        moment = s.moment;
        telling = s.telling;
        now = next;
        course = subst (λ (c : ℕ). Course c new.idle (at_start s.moment s.telling) (had ++ items)
            next) (sym same.conn)
            (subst (λ (i : Option ℕ). Course old.conn i (at_start s.moment s.telling) (had ++ items)
            next) (sym same.idle)
            (course-more old.conn old.idle (at_start s.moment s.telling) had items s.now next
            s.course course));
        comes_from = subst (λ (c : ℕ). MayComeFrom t origin c new.idle s.moment
            (tells (end_of_connection new)).serial) (sym same.conn)
            (subst (λ (i : Option ℕ). MayComeFrom t origin old.conn i s.moment
            (tells (end_of_connection new)).serial) (sym same.idle)
            (subst (λ (n : Option ℕ). MayComeFrom t origin old.conn old.idle s.moment n)
            (sym same.serial) s.comes_from));
        story = subst (λ (c : ℕ). BeginsStory t c (tells (end_of_connection new)).serial s.telling)
            (sym same.conn)
            (subst (λ (n : Option ℕ). BeginsStory t old.conn n s.telling) (sym same.serial)
            s.story);
        end = stands.end;
      };
      last = stands.last;
      kept = stands.kept;
      decoder = stands.decoder;
      kept_end = same.kept t h.kept_end;
    }

pub at-now : {E : Type 0} {G : Ghosts E} (tells : E → EndFacts) (keeps : Terms → E → Type 0)
    (t : Terms) (origin : Option (Origin ServerNote)) (old : LogConnection E G)
    (had : List (Item ServerNote)) → (h : ConnectionFits tells keeps t origin old had)
    → IsAt tells old h.served.now
at-now tells keeps t origin old had h =
    record { end = h.served.end; last = h.last; kept = h.kept; decoder = h.decoder }

-- an upcall that is served is one more turn
pub takes-turn : {E : Type 0} {G : Ghosts E} (tells : E → EndFacts) (keeps : Terms → E → Type 0)
    (t : Terms) (origin : Option (Origin ServerNote)) (up : Upcall) (now : ℕ)
    (had : List (Item ServerNote)) (old new : LogConnection E G)
    (turn : Turn (LogConnection E G) ServerNote E) → NoClose had
    → ConnectionFits tells keeps t origin old had →
    IsSame tells keeps old new → Serves tells up now old new turn → turn.act ≡ None
    → TakesTurn (connections tells keeps) t origin up now had new turn
takes-turn tells keeps t origin up now had old new turn open_ h same serves quiet =
    let s = h.served in
    let goes = course-goes old.conn old.idle (at_start s.moment s.telling) s.now had refl s.course
    open_ in
    let leads = serves s.now goes (at-now tells keeps t origin old had h) in
    record {
      fits = fits-next tells keeps t origin old new had (item_of up now turn ∷ []) leads.after h
          same
          (course-one old.conn old.idle (item_of up now turn) s.now leads.after
          (record { goes_on = goes; serves = leads.serves })) leads.stands;
      act = subst (λ (a : Option (Act _ ServerNote _)).
          MayAct (connections tells keeps) t up (record { note = turn.note; moment = now }) a)
          (sym quiet) tt;
    }

-- its end was attached
pub fits-attached : {E : Type 0} {G : Ghosts E} (tells : E → EndFacts) (keeps : Terms → E → Type 0)
    (t : Terms) (origin : Option (Origin ServerNote)) (old new : LogConnection E G)
    (had : List (Item ServerNote)) → ConnectionFits tells keeps t origin old had
    → new.conn ≡ old.conn → new.idle ≡ old.idle → new.last ≡ old.last → new.kept ≡ old.kept
    → new.decoder ≡ old.decoder →
    tells (end_of_connection new) ≡ tells (end_of_connection old) → keeps t (end_of_connection new)
    → ConnectionFits tells keeps t origin new had
fits-attached tells keeps t origin old new had h conn idle last kept decoder told keeping =
    let s = h.served in record {
      served = record {
        moment = s.moment;
        telling = s.telling;
        now = s.now;
        course = subst (λ (c : ℕ). Course c new.idle (at_start s.moment s.telling) had s.now)
            (sym conn)
            (subst (λ (i : Option ℕ). Course old.conn i (at_start s.moment s.telling) had s.now)
            (sym idle) s.course);
        comes_from = subst (λ (c : ℕ). MayComeFrom t origin c new.idle s.moment
            (tells (end_of_connection new)).serial) (sym conn)
            (subst (λ (i : Option ℕ). MayComeFrom t origin old.conn i s.moment
            (tells (end_of_connection new)).serial) (sym idle)
            (subst (λ (e : EndFacts). MayComeFrom t origin old.conn old.idle s.moment e.serial)
            (sym told) s.comes_from));
        story = subst (λ (c : ℕ). BeginsStory t c (tells (end_of_connection new)).serial s.telling)
            (sym conn)
            (subst (λ (e : EndFacts). BeginsStory t old.conn e.serial s.telling) (sym told)
            s.story);
        end = subst (λ (e : EndFacts). HasServed s.now e) (sym told) s.end;
      };
      last = last ∙ h.last;
      kept = kept ∙ h.kept;
      decoder = λ none. subst (λ (d : DecoderState). StandsFor d s.now.taken × (d.bad ≡ None))
          (sym decoder) (h.decoder none);
      kept_end = keeping;
    }

-- what a connection leaves
pub leaves-gone : {E : Type 0} {G : Ghosts E} (tells : E → EndFacts) (keeps : Terms → E → Type 0)
    (t : Terms) (origin : Option (Origin ServerNote)) (old : LogConnection E G)
    (had : List (Item ServerNote)) (why : Why) (word : EndKind)
    → ConnectionFits tells keeps t origin old had → (why ≡ Own → EndsInClose had) →
    ((why ≡ Own → IsSome old.kept) → IsClosing why old.kept word) →
    ConnectionGone tells keeps t origin (end_of_connection old) had why
    (note.Finished old.conn word)
leaves-gone tells keeps t origin old had why word h own closes =
    let s = h.served in
    let closing = closes (λ is. subst (λ (k : Option EndKind). IsSome k) (sym h.kept)
    (course-closed old.conn old.idle (at_start s.moment s.telling) s.now had s.course (own is)))
    in
    record {
      conn = old.conn;
      idle = old.idle;
      served = s;
      word = word;
      closing = subst (λ (k : Option EndKind). IsClosing why k word) h.kept closing;
      notes = refl;
      kept_end = h.kept_end;
    }

-- ---- the start

abbrev telling-of : List Part → ℕ → List Part → Option Telling
telling-of given at left = Some (record { given = given; at = at; left = left })

-- the whole story was left at the start
begins : (t : Terms) (conn : ℕ) (e : EndFacts) → e.listener ≡ false → KeepsStory t e
    → GaveNoPart e.telling → BeginsStory t conn e.serial e.telling
begins t conn e reader keeps fresh parts story serial =
    left-all e.telling parts fresh (keeps.connection conn (OfParts parts) reader serial story)
  where
    left-all : (telling : Option Telling) (parts : List Part) → GaveNoPart telling
        → IsTelling telling parts → telling ≡ Some (record { given = []; at = 0; left = parts })
    left-all None parts fresh telling = absurd telling
    left-all (Some told) parts fresh telling =
        let left : told.left ≡ parts = subst (λ (given : List Part). given ++ told.left ≡ parts)
        fresh.0 telling in
        ap (λ (xs : List Part). telling-of xs told.at told.left) fresh.0
        ∙ ap (λ (n : ℕ). telling-of [] n told.left) fresh.1
        ∙ ap (λ (ys : List Part). telling-of [] 0 ys) left

pub fits-new : {E : Type 0} {G : Ghosts E} (tells : E → EndFacts) (keeps : Terms → E → Type 0)
    (t : Terms) (origin : Option (Origin ServerNote)) (new : LogConnection E G) →
    ((u : Terms) (end : E) → keeps u end → KeepsStory u (tells end))
    → (tells (end_of_connection new)).listener ≡ false → IsFresh (tells (end_of_connection new))
    →
    StandsFor new.decoder [] → new.decoder.bad ≡ None → new.kept ≡ None
    → keeps t (end_of_connection new) →
    MayComeFrom t origin new.conn new.idle new.last (tells (end_of_connection new)).serial
    → ConnectionFits tells keeps t origin new []
fits-new tells keeps t origin new stories reader fresh stands sound none keeping comes =
    let e = tells (end_of_connection new) in record {
      served = record {
        moment = new.last;
        telling = e.telling;
        now = at_start new.last e.telling;
        course = refl;
        comes_from = comes;
        story = begins t new.conn e reader (stories t (end_of_connection new) keeping)
            fresh.telling;
        end = record {
          no_listener = reader;
          given = fresh.bytes;
          gave = fresh.gave;
          reads = fresh.reads;
          last_read = fresh.last_read;
          over = fresh.over;
          telling = refl;
          faults = fresh.faults;
        };
      };
      last = refl;
      kept = none;
      decoder = λ _. (stands, sound);
      kept_end = keeping;
    }
