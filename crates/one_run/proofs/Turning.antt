-- One turn of a run of one connection: it reads on, or closes itself.
use Rattle.std.proofs.Common.{ℕ, ◌≡◌, ◌≤◌, ◌-◌, ◌^◌, Bool, true, false, not, List, [], ◌∷◌, ◌++◌}
use Rattle.std.proofs.Common.{length, refl, sym, ap, ◌∙◌, subst, arith, Option, Some, None, drop}
use Rattle.std.proofs.Common.{inl, inr}
use Rattle.std.specs.List.{slice_get}
use Rattle.std.specs.Prelude.{Result, Ok}
use Rattle.std.proofs.lemmas.List.{append-nil, length-append, length-reverse, drop-append-le}
use Rattle.std.proofs.lemmas.Bool.{and_parts, false≢true}
use Rattle.ev_base.specs.ev_types.specs.declared.upcall.Answer.{Answer}
use Rattle.ev_base.specs.ev_types.specs.declared.upcall.Answer.TheVariants.{Keep, Again, Close}
use Rattle.ev_base.specs.ev_types.specs.declared.upcall.Handle.{Handle}
use Rattle.ev_base.specs.ev_types.specs.declared.upcall.Upcall.{Upcall}
use Rattle.ev_base.specs.ev_types.specs.declared.upcall.Upcall.TheVariants.{Input}
use Rattle.ev_base.specs.Source.{SourceFacts}
use Rattle.ev_base.specs.Sink.{SinkFacts}
use Rattle.ev_base.specs.Terms.{Terms}
use Rattle.ev_base.specs.declared.end.PeerEnd.{Ghosts}
use Rattle.timer_queue.specs.Content.{Content}
use Rattle.reactor_model.specs.reactor_journal.specs.Event.{Origin}
use Rattle.reactor_model.specs.reactor_journal.specs.declared.entry.Entry.{Entry}
use Rattle.reactor_model.specs.reactor_journal.specs.declared.entry.Entry.TheVariants.{Started}
use Rattle.reactor_model.specs.reactor_journal.specs.declared.entry.Entry.TheVariants.{Returned}
use Rattle.reactor_model.specs.reactor_journal.specs.declared.entry.Entry.TheVariants.{Closed}
use Rattle.reactor_model.specs.reactor_journal.specs.Past as P
use Rattle.reactor_model.specs.reactor_journal.specs.Past.{past_of}
use Rattle.reactor_model.specs.reactor_journal.specs.Follow.{is_legal, may_follow}
use Rattle.reactor_model.specs.reactor_journal.proofs.Turning.{past_of-more}
use Rattle.reactor_core.specs.reactor_summary.specs.declared.parts.OpenEvent.{OpenEvent}
use Rattle.reactor_core.specs.reactor_summary.specs.Summary as S
use Rattle.reactor_core.specs.reactor_summary.specs.Summary.{summary, pick, step, is_alive}
use Rattle.reactor_core.specs.reactor_summary.specs.Summary.{open_event}
use Rattle.reactor_core.specs.reactor_summary.proofs.Told.{told}
use Rattle.reactor_core.specs.reactor_summary.proofs.Picks.{pick_is}
use Rattle.reactor_model.specs.Volumes.{VolumesFacts}
use Rattle.reactor_model.specs.Handling.{Handling}
use Rattle.reactor_model.specs.Turns.{MayAct}
use Rattle.reactor_model.specs.declared.handler.Act.{Act}
use Rattle.reactor_model.specs.declared.handler.Act.TheVariants.{Install, MaskMine, CancelMine}
use Rattle.reactor_model.specs.declared.handler.Act.TheVariants.{Stop}
use Rattle.reactor_core.specs.Stands.{Meaning, Stands}
use Rattle.reactor_core.specs.Upcalls.{JobFits, DoneFits, IsRunOf, StartGives}
use Rattle.reactor_core.specs.Settling.{IsClosing}
use Rattle.reactor_core.specs.Acting.{ActAppends, Settles}
use Rattle.reactor_core.specs.declared.reactor.Core.{Core}
use Rattle.reactor_core.specs.declared.job.Job.{Job}
use Rattle.reactor_core.specs.declared.job.Done.{Done}
use Rattle.reactor_core.specs.declared.acting.Settled.{Settled}
use Rattle.log_handler.specs.declared.note.ServerNote.{ServerNote}
use Rattle.log_handler.specs.declared.connection.LogConnection.{LogConnection}
use Rattle.log_handler.specs.LineSink.{LineSink}
use Rattle.log_handler.specs.Connections.{connections}
use Rattle.one_net.specs.declared.one_end.OneEnd.{OneEnd}
use Rattle.one_net.specs.declared.one_net.OneNet.{OneNet}
use Rattle.one_net.specs.OneEnd.{one_end_facts}
use Rattle.one_net.specs.OneKeeps.{OneEndKeeps}
use Rattle.one_run.specs.Phases.{one_handle, waiting_summary, out_summary, turns_in, IsRead, IsShut}
use Rattle.one_run.specs.Phases.{GrowsFrom}
use Rattle.one_run.specs.Running.{one_meaning, StandsIn, ReadsOneMore, TurnsOnce, IsShutAs, is_lost}
use Rattle.one_run.specs.Running.{last_entry, closes_lost}
use Rattle.one_run.proofs.Phases.{started_is, summary_started, reads_on, reads_on_more, shuts}
use Rattle.one_run.proofs.Phases.{shuts_note, past_two, same}
use Rattle.one_run.proofs.Growing.{grows-returned, grows-closed}
use Rattle.one_run.proofs.Reading.{never_keeps}

-- ---- the last entry

last_is : {A : Type 0} (xs : List A) (x : A) → slice_get (xs ++ x ∷ []) (length xs) ≡ Some x
last_is [] x = refl
last_is (y ∷ xs) x = last_is xs x

pub last_more : {N : Type 0} (F : ℕ) (h : List (Entry N)) (e : Entry N) → F ≤ length h
    → last_entry (drop F (h ++ e ∷ [])) ≡ Some e
last_more F h e within =
    ap last_entry (drop-append-le F h (e ∷ []) within)
    ∙ (ap (λ (n : ℕ). slice_get (drop F h ++ e ∷ []) n) count ∙ last_is (drop F h) e)
  where
    count : length (drop F h ++ e ∷ []) - 1 ≡ length (drop F h)
    count = omega (arith, length-append (drop F h) (e ∷ []))

pub lost_is : {A E : Type 0} (a b : A) → ◌≡◌ {A = Result (Option A) E} (Ok (Some a)) (Ok (Some b))
    → b ≡ a
lost_is a b q = cc

-- ---- the event

-- what was started is the event that waits
pub record IsStartedAs {H E : Type 0} (e : ℕ) (done : Done H ServerNote E) : Type 0 where
  pub event : done.event ≡ e
  pub handle : done.handle ≡ one_handle
  pub upcall : done.upcall ≡ Input
  pub moment : done.now ≡ 0

pub is_started : {H E : Type 0} (means : Handling H E ServerNote) (t : Terms)
    (h : List (Entry ServerNote)) (r : IsRead h) (job : Job H ServerNote E)
    (done : Done H ServerNote E)
    → JobFits means t (Started job.event ∷ past_of h) job → IsRunOf job done
    → IsStartedAs r.event done
is_started means t h r job done fits run =
    let found = started_is ServerNote r.event job.event
    (record { event = job.event; handle = job.handle; upcall = job.upcall; moment = job.now })
    (sym (ap (λ s. open_event (step {N = ServerNote} s (Started job.event)) job.event) r.sums)
    ∙ fits.event) in
    record {
      event = run.event ∙ found.0;
      handle = run.handle ∙ ap (λ (o : OpenEvent). o.handle) found.1;
      upcall = run.upcall ∙ ap (λ (o : OpenEvent). o.upcall) found.1;
      moment = run.now ∙ ap (λ (o : OpenEvent). o.moment) found.1;
    }

-- while its event waits there is one to be started
picks : (e : ℕ) → S.is_pick (waiting_summary e) e ≡ true
unfolding pick
picks e = same e

pub always_picks : (most : ℕ) (h : List (Entry ServerNote)) → is_legal most (past_of h) ≡ true
    → IsRead h → ((i : ℕ) → P.is_pick (past_of h) i ≡ false) → ⊥
always_picks most h legal r none =
    false≢true (sym (none r.event) ∙ (sym
    (pick_is most (past_of h) (summary (past_of h)) r.event legal (told most (past_of h) legal))
    ∙ (ap (λ s. S.is_pick s r.event) r.sums ∙ picks r.event)))

-- what `start` gave
pub gave_job : {H M Q W V N E : Type 0} (m : Meaning H M Q W V N E) (t : Terms) (F : ℕ)
    (h : List (Entry N)) (given : Option (Job H N E)) (job : Job H N E) (new : Core H M Q W V N E)
    → given ≡ Some job
    → StartGives m t F h given new → Stands m t new F (h ++ Started job.event ∷ [])
    × JobFits m.means t (Started job.event ∷ past_of h) job
gave_job m t F h given job new is gives = let g =
    subst (λ given. StartGives m t F h given new) is gives in (g.1, g.2)

pub gave_none : {H M Q W V N E : Type 0} (m : Meaning H M Q W V N E) (t : Terms) (F : ℕ)
    (h : List (Entry N)) (given : Option (Job H N E)) (new : Core H M Q W V N E) → given ≡ None
    → StartGives m t F h given new → (i : ℕ) → P.is_pick (past_of h) i ≡ false
gave_none m t F h given new is gives = (subst (λ given. StartGives m t F h given new) is gives).0

pub fits_behind : {H N E : Type 0} (means : Handling H E N) (t : Terms) (h : List (Entry N))
    (event : ℕ) (done : Done H N E) → DoneFits means t (Started event ∷ past_of h) done
    → DoneFits means t (past_of (h ++ Started event ∷ [])) done
fits_behind means t h event done fits =
    subst (λ past. DoneFits means t past done) (sym (past_of-more h (Started event))) fits

-- a connection's turn carries no act
no_act : {H E : Type 0} (means : Handling H E ServerNote) (t : Terms) (up : Upcall)
    (origin : Origin ServerNote) (act : Option (Act H ServerNote E))
    → ((deed : _) → means.may t up deed → ⊥) → MayAct means t up origin act → act ≡ None
no_act means t up origin None none may = refl
no_act means t up origin (Some (Install handler mask timer)) none may = absurd (none _ may.0)
no_act means t up origin (Some (MaskMine mask)) none may = absurd (none _ may)
no_act means t up origin (Some (CancelMine timer)) none may = absurd (none _ may)
no_act means t up origin (Some Stop) none may = absurd (none _ may)

acts_nothing : {H E : Type 0} (most : ℕ) (s : _) (x : Handle) (act : Option (Act H ServerNote E))
    (a b : ℕ) (acted : List (Entry ServerNote)) → act ≡ None → ActAppends most s x act a b acted
    → acted ≡ []
acts_nothing most s x act a b acted none appends =
    subst (λ act. ActAppends most s x act a b acted) none appends

-- ---- what is appended

alive_again : (e : ℕ) (note : ServerNote)
    → is_alive (step (out_summary e) (Returned e Again note)) 0 ≡ true
alive_again e note = refl

dead_close : (e : ℕ) (note : ServerNote)
    → is_alive (step (out_summary e) (Returned e Close note)) 0 ≡ false
dead_close e note = rw (same e) refl

closing_again : (h : List (Entry ServerNote)) (e : ℕ) (note : ServerNote)
    (closing : List (Entry ServerNote)) → summary (past_of h) ≡ waiting_summary e
    → IsClosing (not (is_alive (summary (Returned e Again note ∷ past_of (h ++ Started e ∷ []))) 0))
    one_handle closing → closing ≡ []
closing_again h e note closing sums is =
    subst (λ b. IsClosing (not b) one_handle closing)
    (ap (λ s. is_alive (step {N = ServerNote} s (Returned e Again note)) 0)
    (ap summary (past_of-more h (Started e))
    ∙ (ap (λ s. step {N = ServerNote} s (Started e)) sums ∙ summary_started ServerNote e))
    ∙ alive_again e note) is

closing_close : (h : List (Entry ServerNote)) (e : ℕ) (note : ServerNote)
    (closing : List (Entry ServerNote)) → summary (past_of h) ≡ waiting_summary e
    → IsClosing (not (is_alive (summary (Returned e Close note ∷ past_of (h ++ Started e ∷ []))) 0))
    one_handle closing → (said : ServerNote) × (closing ≡ Closed one_handle said ∷ [])
closing_close h e note closing sums is =
    subst (λ b. IsClosing (not b) one_handle closing)
    (ap (λ s. is_alive (step {N = ServerNote} s (Returned e Close note)) 0)
    (ap summary (past_of-more h (Started e))
    ∙ (ap (λ s. step {N = ServerNote} s (Started e)) sums ∙ summary_started ServerNote e))
    ∙ dead_close e note) is

-- ---- the turn

module _ {S K V : Type 0} (G : Ghosts (OneEnd S)) (source : S → SourceFacts) (sink : K → SinkFacts)
    (volumes : V → VolumesFacts ServerNote) (t : Terms) where
  abbrev the_core : Type 0
  the_core = Core (LogConnection (OneEnd S) G) (OneNet S) Content (LineSink K) V ServerNote
      (OneEnd S)

  -- the handler closed itself, which is the last entry, and was not handed over
  pub record ClosesAt (F : ℕ) (h : List (Entry ServerNote)) (core : the_core) : Type 0 where
    pub before : List (Entry ServerNote)
    pub note : ServerNote
    pub within : F ≤ length before
    pub stands : Stands (one_meaning {G = G} source sink volumes) t core F
        (before ++ Closed one_handle note ∷ [])
    pub shut : IsShut [] (before ++ Closed one_handle note ∷ [])
    pub noted : shut.closed.note ≡ note
    pub grows : GrowsFrom 1 h (before ++ Closed one_handle note ∷ [])

  abbrev pub TurnGives : Answer → ℕ → List (Entry ServerNote) → the_core → Type 0
  TurnGives Keep F h core = ⊥
  TurnGives Again F h core = StandsIn (one_meaning {G = G} source sink volumes) t
      (λ now. ReadsOneMore h now × GrowsFrom 1 h now) core
  TurnGives Close F h core = ClosesAt F h core

  module _ (F : ℕ) (h : List (Entry ServerNote)) (r : IsRead h)
      (job : Job (LogConnection (OneEnd S) G) ServerNote (OneEnd S))
      (done : Done (LogConnection (OneEnd S) G) ServerNote (OneEnd S)) (old new : the_core)
      (settled : Settled)
      (stands : Stands (one_meaning {G = G} source sink volumes) t old F
      (h ++ Started job.event ∷ []))
      (job_fits : JobFits (connections {G = G} (one_end_facts source) (OneEndKeeps source)) t
      (Started job.event ∷ past_of h) job)
      (done_fits : DoneFits (connections {G = G} (one_end_facts source) (OneEndKeeps source)) t
      (Started job.event ∷ past_of h) done)
      (run : IsRunOf job done) (settles : Settles (one_meaning {G = G} source sink volumes) t F
      (h ++ Started job.event ∷ []) done old new settled) where
    as_started : IsStartedAs r.event done
    as_started = is_started (connections {G = G} (one_end_facts source) (OneEndKeeps source)) t h r
        job done job_fits run

    of_job : job.event ≡ r.event
    of_job = sym run.event ∙ as_started.event

    acted : settles.acted ≡ []
    acted = acts_nothing t.most _ done.handle done.turn.act _ _ settles.acted
        (no_act (connections {G = G} (one_end_facts source) (OneEndKeeps source)) t done.upcall
        (record { note = done.turn.note; moment = done.now }) done.turn.act (λ deed may. may)
        done_fits.act) settles.is_acted

    legal_started : is_legal t.most (Started r.event ∷ past_of h) ≡ true
    legal_started = subst (λ (i : ℕ). is_legal t.most (Started i ∷ past_of h) ≡ true) of_job
        (subst (λ past. is_legal t.most past ≡ true) (past_of-more h (Started job.event))
        stands.tracks.legal)

    entries : (a : Answer) → done.turn.answer ≡ a
        → (h ++ Started job.event ∷ []) ++ Returned done.event done.turn.answer done.turn.note ∷ []
        ≡ (h ++ Started r.event ∷ []) ++ Returned r.event a done.turn.note ∷ []
    entries a is =
        ap (λ (j : ℕ). (h ++ Started j ∷ []) ++ Returned done.event done.turn.answer done.turn.note
        ∷ []) of_job
        ∙ (ap (λ (i : ℕ). (h ++ Started r.event ∷ []) ++ Returned i done.turn.answer done.turn.note
        ∷ []) as_started.event
        ∙ ap (λ (a : Answer). (h ++ Started r.event ∷ []) ++ Returned r.event a done.turn.note ∷ [])
        is)

    closing_as : (a : Answer) → done.turn.answer ≡ a
        → IsClosing (not (is_alive (summary
        (Returned r.event a done.turn.note ∷ past_of (h ++ Started r.event ∷ []))) 0))
        one_handle settles.closing
    closing_as a is =
        subst (λ (x : Handle). IsClosing (not
        (is_alive (summary (Returned r.event a done.turn.note
        ∷ past_of (h ++ Started r.event ∷ []))) x.0)) x settles.closing) as_started.handle
        (subst (λ (a : Answer). IsClosing (not
        (is_alive (summary (Returned r.event a done.turn.note
        ∷ past_of (h ++ Started r.event ∷ []))) done.handle.0)) done.handle settles.closing) is
        (subst (λ (i : ℕ). IsClosing (not (is_alive
        (summary (Returned i done.turn.answer done.turn.note
        ∷ past_of (h ++ Started r.event ∷ []))) done.handle.0)) done.handle settles.closing)
        as_started.event
        (subst (λ (j : ℕ). IsClosing (not (is_alive
        (summary (Returned done.event done.turn.answer done.turn.note
        ∷ past_of (h ++ Started j ∷ []))) done.handle.0)) done.handle settles.closing) of_job
        settles.is_closing)))

    pub turned : (a : Answer) → done.turn.answer ≡ a → TurnGives a F h new
    turned Keep is = never_keeps source t _ done.handler _ _ done_fits.fits as_started.upcall is
    turned Again is = (
      F,
      (h ++ Started r.event ∷ []) ++ Returned r.event Again done.turn.note ∷ [],
      subst (λ l. Stands (one_meaning {G = G} source sink volumes) t new F l) all settles.stands,
      (
        (
          reads_on t.most h r.event done.turn.note legal_started r refl,
          reads_on_more t.most h r.event done.turn.note legal_started r refl,
        ),
        grows-returned h r.event r.event Again done.turn.note,
      ),
    )
      where
        none : settles.closing ≡ []
        none = closing_again h r.event done.turn.note settles.closing r.sums (closing_as Again is)

        all : (((h ++ Started job.event ∷ []) ++ Returned done.event done.turn.answer done.turn.note
            ∷ []) ++ settles.closing) ++ settles.acted
            ≡ (h ++ Started r.event ∷ []) ++ Returned r.event Again done.turn.note ∷ []
        all =
            ap (λ l. (((h ++ Started job.event ∷ [])
            ++ Returned done.event done.turn.answer done.turn.note ∷ []) ++ settles.closing)
            ++ l) acted
            ∙ (append-nil _ ∙ (ap (λ l. ((h ++ Started job.event ∷ [])
            ++ Returned done.event done.turn.answer done.turn.note ∷ []) ++ l) none
            ∙ (append-nil _ ∙ entries Again is)))
    turned Close is = record {
      before = before;
      note = said.0;
      within = omega (
        arith,
        stands.tracks.journal.within,
        ap (λ (j : ℕ). length (h ++ Started j ∷ [])) of_job,
        length-append h (Started job.event ∷ []),
        length-append (h ++ Started r.event ∷ []) (Returned r.event Close done.turn.note ∷ []),
        length-append h (Started r.event ∷ []),
      );
      stands = stands_new;
      shut = shuts t.most h r.event done.turn.note said.0 legal_before r refl;
      noted = shuts_note t.most h r.event done.turn.note said.0 legal_before r refl;
      grows = grows-closed h r.event r.event Close done.turn.note said.0;
    }
      where
        before : List (Entry ServerNote)
        before = (h ++ Started r.event ∷ []) ++ Returned r.event Close done.turn.note ∷ []

        said : (said : ServerNote) × (settles.closing ≡ Closed one_handle said ∷ [])
        said = closing_close h r.event done.turn.note settles.closing r.sums (closing_as Close is)

        all : (((h ++ Started job.event ∷ []) ++ Returned done.event done.turn.answer done.turn.note
            ∷ []) ++ settles.closing) ++ settles.acted ≡ before ++ Closed one_handle said.0 ∷ []
        all =
            ap (λ l. (((h ++ Started job.event ∷ [])
            ++ Returned done.event done.turn.answer done.turn.note ∷ []) ++ settles.closing)
            ++ l) acted
            ∙ (append-nil _ ∙ (ap (λ l. ((h ++ Started job.event ∷ [])
            ++ Returned done.event done.turn.answer done.turn.note ∷ []) ++ l) said.1
            ∙ ap (λ l. l ++ Closed one_handle said.0 ∷ []) (entries Close is)))

        stands_new : Stands (one_meaning {G = G} source sink volumes) t new F
            (before ++ Closed one_handle said.0 ∷ [])
        stands_new = subst (λ l. Stands (one_meaning {G = G} source sink volumes) t new F l) all
            settles.stands

        legal_before : is_legal t.most (Returned r.event Close done.turn.note ∷ Started r.event
            ∷ past_of h) ≡ true
        legal_before = subst (λ past. is_legal t.most past ≡ true)
            (past_two h (Started r.event) (Returned r.event Close done.turn.note))
            (and_parts (may_follow t.most (past_of before) (Closed one_handle said.0)) _
            (subst (λ past. is_legal t.most past ≡ true)
            (past_of-more before (Closed one_handle said.0)) stands_new.tracks.legal)).1

  -- what holds of the history whatever was answered
  pub either : (a : Answer) (F : ℕ) (h : List (Entry ServerNote)) (core : the_core)
      → TurnGives a F h core → StandsIn (one_meaning {G = G} source sink volumes) t (TurnsOnce h)
      core
  either Keep F h core gives = absurd gives
  either Again F h core gives = (gives.0, gives.1, gives.2, (inl gives.3.0.0, gives.3.1))
  either Close F h core gives = (
    F,
    gives.before ++ Closed one_handle gives.note ∷ [],
    gives.stands,
    (inr gives.shut, gives.grows),
  )

  pub goes_on : (a : Answer) (F : ℕ) (h : List (Entry ServerNote)) (core : the_core)
      → (a ≡ Close → ⊥) → TurnGives a F h core
      → StandsIn (one_meaning {G = G} source sink volumes) t (ReadsOneMore h) core
  goes_on Keep F h core other gives = absurd gives
  goes_on Again F h core other gives = (gives.0, gives.1, gives.2, gives.3.0)
  goes_on Close F h core other gives = absurd (other refl)

  pub closes_as : (F : ℕ) (core : the_core) (lost : Bool)
      (entries : (h : List (Entry ServerNote))
      → Stands (one_meaning {G = G} source sink volumes) t core F h
      → lost ≡ closes_lost (last_entry (drop F h))) → (before : List (Entry ServerNote))
      → ClosesAt F before core
      → StandsIn (one_meaning {G = G} source sink volumes) t (IsShutAs [] lost) core
  closes_as F core lost entries before c = (
    F,
    c.before ++ Closed one_handle c.note ∷ [],
    c.stands,
    (
      c.shut,
      entries (c.before ++ Closed one_handle c.note ∷ []) c.stands
          ∙ (ap closes_lost (last_more F c.before (Closed one_handle c.note) c.within)
          ∙ ap is_lost (sym c.noted)),
    ),
  )

-- a journal has at most 2^62 entries, so there are fewer turns
pub too_many : {H M Q W V N E : Type 0} (m : Meaning H M Q W V N E) (t : Terms)
    (core : Core H M Q W V N E) (F : ℕ) (h : List (Entry N)) → Stands m t core F h → IsRead h
    → 2 ^ 62 ≤ length (turns_in h) → ⊥
too_many m t core F h stands r many =
    let count : (summary (past_of h)).entries ≡ length h =
    (told t.most (past_of h) stands.tracks.legal).entries ∙ length-reverse h in
    omega (arith, count, r.size, many, stands.room.numbers)
