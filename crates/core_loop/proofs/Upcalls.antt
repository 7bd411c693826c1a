-- What holds while the one upcall that was made is on its way, and after its settling.
use Rattle.std.proofs.Common.{ℕ, ◌≡◌, ◌≤◌, Bool, false, List, [], ◌∷◌, ◌++◌, length, refl, sym, ap}
use Rattle.std.proofs.Common.{◌∙◌, subst, Option, Some, None, arith, true, ⊎_elim}
use Rattle.std.proofs.lemmas.Bool.{false≢true}
use Rattle.std.specs.Prelude.{Result, Ok, Err, IfOk}
use Rattle.ev_base.specs.ev_types.specs.declared.upcall.Handle.{Handle}
use Rattle.ev_base.specs.ev_types.specs.declared.upcall.Mask.{Mask}
use Rattle.ev_base.specs.Terms.{Terms}
use Rattle.reactor_model.specs.reactor_journal.specs.declared.entry.Entry.{Entry}
use Rattle.reactor_model.specs.reactor_journal.specs.declared.entry.Entry.TheVariants.{Started}
use Rattle.reactor_model.specs.reactor_journal.specs.declared.entry.Entry.TheVariants.{Masked}
use Rattle.reactor_model.specs.reactor_journal.specs.declared.entry.Entry.TheVariants.{Cancelled}
use Rattle.reactor_model.specs.reactor_journal.specs.declared.entry.Entry.TheVariants.{Ended}
use Rattle.reactor_model.specs.reactor_journal.specs.Past.{past_of}
use Rattle.reactor_model.specs.reactor_journal.proofs.Turning.{past_of-more}
use Rattle.reactor_core.specs.reactor_summary.specs.declared.parts.WaitingEvent.{WaitingEvent}
use Rattle.reactor_core.specs.reactor_summary.specs.Summary.{Summary, waiting_event, opens_from}
use Rattle.reactor_model.specs.declared.handler.Act.{Act}
use Rattle.reactor_model.specs.declared.handler.Act.TheVariants.{Install, MaskMine, CancelMine}
use Rattle.reactor_model.specs.declared.handler.Act.TheVariants.{Stop}
use Rattle.reactor_core.specs.Stands.{Stands}
use Rattle.reactor_core.specs.Acting.{ActAppends, StopAppends, Settles, mask_mine, cancel_mine}
use Rattle.reactor_core.specs.Settling.{returned}
use Rattle.reactor_core.specs.Upcalls.{JobFits, DoneFits, StartGives, HasNoPick}
use Rattle.reactor_core.specs.declared.job.Done.{Done}
use Rattle.reactor_core.specs.declared.job.Job.{Job}
use Rattle.reactor_core.specs.declared.upcalls.StartRefused.{StartRefused}
use Rattle.reactor_core.proofs.Owed.{opens_returned}
use Rattle.core_loop.specs.Idle.{HasClosedOn, HasNoUpcall, IsIdle, IsIdleOn, IsOutOn}
use Rattle.core_loop.specs.Idle.{IsOutOrIdleOn}
use Rattle.reactor_core.specs.declared.reactor.Core.{Core}
use Rattle.reactor_core.specs.Stands.{Meaning}
use Rattle.core_loop.proofs.Idling.{idle_same}
use Rattle.core_loop.proofs.Keeping.{sum, sum_more, Keeps, keeps_nil, keeps_one, keeps_both}
use Rattle.core_loop.proofs.Keeping.{keeps_removals, keeps_closing, keeps_registered}

-- what `start` gave
abbrev pub StartGave : {H M Q W V N E : Type 0} → Meaning H M Q W V N E → Core H M Q W V N E
    → Result (Option (Job H N E)) StartRefused → Core H M Q W V N E → Type 0
StartGave {N = N} m old result new =
    IfOk result (λ job. (t : Terms) (F : ℕ) (h : List (Entry N)) → Stands m t old F h
    → StartGives m t F h job new)

pub gave_some : {H M Q W V N E : Type 0} (m : Meaning H M Q W V N E) (old new : Core H M Q W V N E)
    (result : Result (Option (Job H N E)) StartRefused) (job : Job H N E) (t : Terms) (F : ℕ)
    (h : List (Entry N)) → Stands m t old F h → result ≡ Ok (Some job)
    → StartGave m old result new → StartGives m t F h (Some job) new
gave_some {H = H} {N = N} {E = E} m old new (Ok (Some x)) job t F h st is gave =
    subst (λ (r : Result (Option (Job H N E)) StartRefused). StartGave m old r new) is gave t F h st
gave_some m old new (Ok None) job t F h st is gave = cc
gave_some m old new (Err x) job t F h st is gave = cc

pub gave_none : {H M Q W V N E : Type 0} (m : Meaning H M Q W V N E) (old new : Core H M Q W V N E)
    (result : Result (Option (Job H N E)) StartRefused) (t : Terms) (F : ℕ) (h : List (Entry N))
    → Stands m t old F h → result ≡ Ok None
    → StartGave m old result new → Stands m t new F h
gave_none m old new (Ok (Some x)) t F h st is gave = cc
gave_none m old new (Ok None) t F h st is gave = (gave t F h st).1
gave_none m old new (Err x) t F h st is gave = cc

pub no_pick : {H M Q W V N E : Type 0} (m : Meaning H M Q W V N E) (old new : Core H M Q W V N E)
    (result : Result (Option (Job H N E)) StartRefused) (t : Terms) (F : ℕ) (h : List (Entry N))
    → Stands m t old F h → result ≡ Ok None
    → StartGave m old result new → HasNoPick (past_of h)
no_pick m old new (Ok (Some x)) t F h st is gave = cc
no_pick m old new (Ok None) t F h st is gave = (gave t F h st).0
no_pick m old new (Err x) t F h st is gave = cc

-- if nothing was started there is no upcall to make
pub has_none : {H M Q W V N E : Type 0} (m : Meaning H M Q W V N E) (old new : Core H M Q W V N E)
    (result : Result (Option (Job H N E)) StartRefused) (i : IsIdle m old) → result ≡ Ok None
    → StartGave m old result new → HasNoUpcall m new
has_none m old new result i is gave = (
  record {
    terms = i.terms;
    limit = i.limit;
    first = i.first;
    history = i.history;
    stands = gave_none m old new result i.terms i.first i.history i.stands is gave;
    none_open = i.none_open;
  },
  no_pick m old new result i.terms i.first i.history i.stands is gave,
)

pub both_ways : (b : Bool) → b ≡ true → b ≡ false → ⊥
both_ways b is off = false≢true (sym off ∙ is)

-- if an upcall was started there was one to make
pub had_one : {H M Q W V N E : Type 0} (m : Meaning H M Q W V N E) (old new : Core H M Q W V N E)
    (result : Result (Option (Job H N E)) StartRefused) (job : Job H N E) → result ≡ Ok (Some job)
    → StartGave m old result new → HasNoUpcall m old → ⊥
had_one m old new result job is gave n =
    both_ways _ (gave_some m old new result job n.0.terms n.0.first n.0.history n.0.stands is
    gave).0
    (n.1 job.event)

pub fits_started : {H M Q W V N E : Type 0} (m : Meaning H M Q W V N E) (t : Terms)
    (h : List (Entry N)) (event : ℕ) (done : Done H N E)
    → DoneFits m.means t (Started event ∷ past_of h) done
    → DoneFits m.means t (past_of (h ++ Started event ∷ [])) done
fits_started m t h event done fits =
    subst (λ p. DoneFits m.means t p done) (sym (past_of-more h (Started event))) fits

pub one_open : (moment : ℕ) (w : Option WaitingEvent) → length (opens_from moment w) ≤ 1
one_open moment None = omega arith
one_open moment (Some w) = omega arith

-- if no upcall is on its way, one is after the start of one
pub one_started : {N : Type 0} → (h : List (Entry N)) (event : ℕ) → (sum h).opens ≡ []
    → length (sum (h ++ Started event ∷ [])).opens ≤ 1
one_started {N = N} h event none =
    let started : (sum (h ++ Started event ∷ [])).opens
    ≡ (sum h).opens ++ opens_from (sum h).moment (waiting_event (sum h) event) =
    ap (λ (s : Summary). s.opens) (sum_more h (Started event)) in
    omega (
      arith,
      one_open (sum h).moment (waiting_event (sum h) event),
      ap length started,
      ap (λ os. length (os ++ opens_from (sum h).moment (waiting_event (sum h) event))) none,
    )

-- after the start of an idle reactor one upcall is on its way
pub goes_out : {H M Q W V N E : Type 0} (m : Meaning H M Q W V N E) (old new : Core H M Q W V N E)
    (result : Result (Option (Job H N E)) StartRefused) (job : Job H N E) (done : Done H N E)
    {bound : Option (Option ℕ)} (i : IsIdleOn m bound old) → result ≡ Ok (Some job)
    → StartGave m old result new → ((t : Terms) (past : List (Entry N)) → JobFits m.means t past job
    → DoneFits m.means t past done) → IsOutOn m bound new done
goes_out {N = N} m old new result job done i is gave run =
    let gives : StartGives m i.terms i.first i.history (Some job) new =
    gave_some m old new result job i.terms i.first i.history i.stands is gave in
    record {
      terms = i.terms;
      limit = i.limit;
      first = i.first;
      history = i.history ++ Started job.event ∷ [];
      stands = gives.1;
      fits = fits_started m i.terms i.history job.event done (run i.terms _ gives.2);
      one_open = one_started i.history job.event i.none_open;
    }

-- what was started is out
pub out_some : {H M Q W V N E : Type 0} (m : Meaning H M Q W V N E) (bound : Option (Option ℕ))
    (core : Core H M Q W V N E) (found : Option (Done H N E)) (done : Done H N E)
    → found ≡ Some done → IsOutOrIdleOn m bound core found → IsOutOn m bound core done
out_some m bound core found done is out = subst (IsOutOrIdleOn m bound core) is out

pub stays_idle : {H M Q W V N E : Type 0} (m : Meaning H M Q W V N E) (old new : Core H M Q W V N E)
    (result : Result (Option (Job H N E)) StartRefused) {bound : Option (Option ℕ)}
    (i : IsIdleOn m bound old) → result ≡ Ok None
    → StartGave m old result new → IsIdleOn m bound new
stays_idle m old new result i is gave =
    idle_same old new i (gave_none m old new result i.terms i.first i.history i.stands is gave)

keeps_masked : {N : Type 0} → (h : List (Entry N)) (b : Bool) (handle : Handle) (mask : Mask)
    → Keeps h (mask_mine b handle mask)
keeps_masked h true handle mask = keeps_one h (Masked handle mask) refl (λ q. q)
keeps_masked h false handle mask = keeps_nil h

keeps_cancelled : {N : Type 0} → (h : List (Entry N)) (b : Bool) (timer : ℕ)
    → Keeps h (cancel_mine b timer)
keeps_cancelled h true timer = keeps_one h (Cancelled timer) refl (λ q. q)
keeps_cancelled h false timer = keeps_nil h

keeps_stopped : {N : Type 0} → (h : List (Entry N)) (s : Summary) (b : Bool) (es : List (Entry N))
    → StopAppends s b es → Keeps h es
keeps_stopped h s true es stop = subst (Keeps h) (sym stop) (keeps_nil h)
keeps_stopped h s false es stop = subst (Keeps h) (sym stop.2)
    (keeps_both h (Ended ∷ []) stop.0 (keeps_one h Ended refl (λ q. refl))
    (keeps_removals (h ++ Ended ∷ []) _ _ stop.0 stop.1))

-- what the act of a turn appends leaves the open events as they are
pub keeps_acted : {H N E : Type 0}
    → (h : List (Entry N)) (most : ℕ) (s : Summary) (handle : Handle) (act : Option (Act H N E))
    (before after : ℕ) (es : List (Entry N)) → ActAppends most s handle act before after es
    → Keeps h es
keeps_acted h most s handle None before after es acts = subst (Keeps h) (sym acts) (keeps_nil h)
keeps_acted h most s handle (Some (Install handler mask timer)) before after es acts =
    ⊎_elim
    (λ r. subst (Keeps h) (sym r.is) (keeps_registered h s r.handle mask timer))
    (λ r. subst (Keeps h) (sym r.is) (keeps_one h _ refl (λ q. q)))
    acts
keeps_acted h most s handle (Some (MaskMine mask)) before after es acts =
    subst (Keeps h) (sym acts) (keeps_masked h _ handle mask)
keeps_acted h most s handle (Some (CancelMine timer)) before after es acts =
    subst (Keeps h) (sym acts) (keeps_cancelled h _ timer)
keeps_acted h most s handle (Some Stop) before after es acts = keeps_stopped h s _ es acts

none_of : {A : Type 0} (xs : List A) → length xs ≤ 0 → xs ≡ []
none_of [] le = refl
none_of (x ∷ xs) le = absurd (omega (arith, le))

-- after the settling of the one upcall that was on its way, none is
pub none_left : {H M Q W V N E : Type 0} (m : Meaning H M Q W V N E) (old new : Core H M Q W V N E)
    (done : Done H N E) (settled : _) (t : Terms) (F : ℕ) (h : List (Entry N))
    (fits : DoneFits m.means t (past_of h) done) → length (sum h).opens ≤ 1
    → (st : Settles m t F h done old new settled)
    → (sum (((h ++ returned done ∷ []) ++ st.closing) ++ st.acted)).opens ≡ []
none_left {N = N} m old new done settled t F h fits one st =
    let fewer = opens_returned (sum h) done.event done.turn.answer done.turn.note _ fits.event in
    let back : (sum (h ++ returned done ∷ [])).opens ≡ [] =
    ap (λ (s : Summary). s.opens) (sum_more h (returned done))
    ∙ none_of _ (omega (arith, one, fewer)) in
    let k : Keeps (h ++ returned done ∷ []) st.closing =
    keeps_closing (h ++ returned done ∷ []) _ done.handle st.closing st.is_closing in
    let l : Keeps ((h ++ returned done ∷ []) ++ st.closing) st.acted =
    keeps_acted ((h ++ returned done ∷ []) ++ st.closing) _ _ _ done.turn.act _ _ st.acted
    st.is_acted in
    l.opens ∙ (k.opens ∙ back)

pub settles_closed : {H M Q W V N E : Type 0} (m : Meaning H M Q W V N E)
    (old new : Core H M Q W V N E) (done : Done H N E) (settled : _) {bound : Option (Option ℕ)}
    (i : IsOutOn m bound old done)
    → Settles m i.terms i.first i.history done old new settled
    → HasClosedOn m bound settled.closed new
settles_closed m old new done settled i st = (
  record {
    terms = i.terms;
    limit = i.limit;
    first = i.first;
    history = ((i.history ++ returned done ∷ []) ++ st.closing) ++ st.acted;
    stands = st.stands;
    none_open =
        none_left m old new done settled i.terms i.first i.history i.fits i.one_open st;
  },
  st.closed,
)
