-- What a turn that is settled leaves, by its act.
use Rattle.std.proofs.Common.{ℕ, ◌≡◌, ◌+◌, Bool, true, false, not, List, [], ◌∷◌, ◌++◌, refl, sym}
use Rattle.std.proofs.Common.{ap, ◌∙◌, subst, Option, Some, None, append-nil, append_assoc}
use Rattle.std.proofs.lemmas.List.{length-reverse}
use Rattle.reactor_summary.specs.ev_types.specs.declared.upcall.Handle.{Handle}
use Rattle.reactor_summary.specs.ev_types.specs.declared.upcall.Mask.{Mask}
use Rattle.reactor_summary.specs.ev_types.specs.declared.upcall.Upcall.{Upcall}
use Rattle.ev_base.specs.Terms.{Terms}
use Rattle.reactor_model.specs.reactor_journal.specs.Event.{Origin}
use Rattle.reactor_model.specs.reactor_journal.specs.declared.entry.Entry.{Entry}
use Rattle.reactor_model.specs.reactor_journal.specs.declared.entry.Entry.TheVariants.{Closed}
use Rattle.reactor_model.specs.reactor_journal.specs.declared.entry.Entry.TheVariants.{Ended}
use Rattle.reactor_model.specs.reactor_journal.specs.Past.{past_of, offered_here, started_at}
use Rattle.reactor_model.specs.reactor_journal.specs.Follow.{is_legal}
use Rattle.reactor_model.specs.reactor_journal.proofs.Turning.{past_of-more}
use Rattle.reactor_summary.specs.declared.parts.OpenEvent.{OpenEvent}
use Rattle.reactor_summary.specs.Summary.{Summary, summary, is_alive}
use Rattle.reactor_summary.proofs.Told.{told}
use Rattle.reactor_model.specs.Handling.{Handling}
use Rattle.reactor_model.specs.Turns.{MayAct, HasTimer}
use Rattle.reactor_model.specs.declared.handler.Act.{Act}
use Rattle.reactor_model.specs.declared.handler.Act.TheVariants.{Install, MaskMine, CancelMine}
use Rattle.reactor_model.specs.declared.handler.Act.TheVariants.{Stop}
use Rattle.reactor_core.specs.Stands.{Meaning, Stands}
use Rattle.reactor_core.specs.Removing.{StopsOnce}
use Rattle.reactor_core.specs.Refusals.{AttachesStand}
use Rattle.reactor_core.specs.Settling.{IsClosing, IsSettling, returned}
use Rattle.reactor_core.specs.Settles.{SettlesEvent}
use Rattle.reactor_core.specs.Upcalls.{DoneFits}
use Rattle.reactor_core.specs.Acting.{FitsAct, Acts, ActAppends, Installs, StopAppends, Settles}
use Rattle.reactor_core.specs.Acting.{mask_mine, cancel_mine, is_mine}
use Rattle.reactor_core.specs.declared.acting.Settled.{Settled}
use Rattle.reactor_core.specs.declared.job.Done.{Done}
use Rattle.reactor_core.specs.declared.reactor.Core.{Core}
use Rattle.reactor_core.proofs.Moves.{IsOpenAs, found_open}

-- ---- the act

module _ {H M Q W V N E : Type 0} (m : Meaning H M Q W V N E) (t : Terms)
    (old new : Core H M Q W V N E) (F : ℕ) (h : List (Entry N)) (handle : Handle)
    (act : Option (Act H N E)) where
  pub acts_none : act ≡ None → AttachesStand m old new → Stands m t new F h
      → Acts m t F h handle act old new
  acts_none q same st = subst (λ a. Acts m t F h handle a old new) (sym q)
      (record {
        entries = [];
        appends = refl;
        faults = λ q. same;
        stands = subst (λ hs. Stands m t new F hs) (sym (append-nil h)) st;
      })

  pub acts_install : (handler : H) (mask : Mask) (timer : Option (ℕ × ℕ))
      → act ≡ Some (Install handler mask timer) → Installs m t F h mask timer old new
      → Acts m t F h handle act old new
  acts_install handler mask timer q i =
      subst (λ a. Acts m t F h handle a old new) (sym q)
      (record { entries = i.entries; appends = i.appends; faults = i.faults; stands = i.stands })

  pub acts_mask : (mask : Mask) → act ≡ Some (MaskMine mask) → AttachesStand m old new
      → Stands m t new F (h ++ mask_mine (is_alive (summary (past_of h)) handle.0) handle mask)
      → Acts m t F h handle act old new
  acts_mask mask q same st = subst (λ a. Acts m t F h handle a old new) (sym q)
      (record {
        entries = mask_mine (is_alive (summary (past_of h)) handle.0) handle mask;
        appends = refl;
        faults = λ q. same;
        stands = st;
      })

  pub acts_cancel : (timer : ℕ) → act ≡ Some (CancelMine timer) → AttachesStand m old new
      → Stands m t new F (h ++ cancel_mine (is_mine (summary (past_of h)) handle.0 timer) timer)
      → Acts m t F h handle act old new
  acts_cancel timer q same st = subst (λ a. Acts m t F h handle a old new) (sym q)
      (record {
        entries = cancel_mine (is_mine (summary (past_of h)) handle.0 timer) timer;
        appends = refl;
        faults = λ q. same;
        stands = st;
      })

  stopped : AttachesStand m old new → (ended : Bool) → (summary (past_of h)).ended ≡ ended
      → StopsOnce m t F h new ended → Acts m t F h handle (Some Stop) old new
  stopped same true e st = record {
    entries = [];
    faults = λ q. same;
    appends = subst (λ (b : Bool). StopAppends {N = N} (summary (past_of h)) b []) (sym e) refl;
    stands = subst (λ hs. Stands m t new F hs) (sym (append-nil h)) st;
  }
  stopped same false e st = record {
    entries = Ended ∷ st.entries;
    faults = λ q. same;
    appends = subst (λ (b : Bool). StopAppends (summary (past_of h)) b (Ended ∷ st.entries)) (sym e)
        (st.entries, st.removals, refl);
    stands = subst (λ hs. Stands m t new F hs) (append_assoc h (Ended ∷ []) st.entries) st.stands;
  }

  pub acts_stop : act ≡ Some Stop → AttachesStand m old new
      → StopsOnce m t F h new (summary (past_of h)).ended → Acts m t F h handle act old new
  acts_stop q same st = subst (λ a. Acts m t F h handle a old new) (sym q)
      (stopped same (summary (past_of h)).ended refl st)

-- ---- the act of a turn that was settled

fits_act : {H E N : Type 0} (means : Handling H E N) (t : Terms) (past : List (Entry N))
    (up : Upcall) (origin : Origin N) (act : Option (Act H N E)) → offered_here past ≡ Some origin
    → MayAct means t up origin act → HasTimer act → FitsAct means t past act
fits_act means t past up origin None here may timer = tt
fits_act means t past up origin (Some (Install handler mask delay)) here may timer =
    (subst (λ (o : Option (Origin _)). means.fits t o handler []) (sym here) may.1, timer)
fits_act means t past up origin (Some (MaskMine mask)) here may timer = tt
fits_act means t past up origin (Some (CancelMine which)) here may timer = tt
fits_act means t past up origin (Some Stop) here may timer = tt

-- the event of an upcall that was made
abbrev pub event_of : {H N E : Type 0} → Done H N E → OpenEvent
event_of done = record {
  event = done.event;
  handle = done.handle;
  upcall = done.upcall;
  moment = done.now;
}

pub settling_of : {H E N : Type 0} (means : Handling H E N) (t : Terms) (past : List (Entry N))
    (done : Done H N E) → DoneFits means t past done
    → IsSettling means t past (event_of done) done.turn.answer done.turn.note done.handler
settling_of means t past done d = record { event = d.event; fits = d.fits }

-- after the turn, and the close of its handler, a handler is offered by the turn
at_moment : {N : Type 0} (note : N) (k n : ℕ) → k ≡ n
    → ◌≡◌ {A = Option (Origin N)} (Some (record { note = note; moment = k }))
    (Some (record { note = note; moment = n }))
at_moment {N} note k n q = ap {B = Option (Origin N)}
    (λ (i : ℕ). Some (record { note = note; moment = i })) q

turn_here : {H E N : Type 0} (h : List (Entry N)) (done : Done H N E)
    → started_at (past_of h) done.event ≡ done.now → (b : Bool) (entries : List (Entry N))
    → IsClosing b done.handle entries
    → ◌≡◌ {A = Option (Origin N)} (offered_here (past_of ((h ++ returned done ∷ []) ++ entries)))
    (Some (record { note = done.turn.note; moment = done.now }))
turn_here h done moment true entries c =
    ap (λ es. offered_here (past_of ((h ++ returned done ∷ []) ++ es))) c.1
    ∙ (ap offered_here (past_of-more (h ++ returned done ∷ []) (Closed done.handle c.0)
    ∙ ap (λ ps. Closed done.handle c.0 ∷ ps) (past_of-more h (returned done)))
    ∙ at_moment done.turn.note (started_at (past_of h) done.event) done.now moment)
turn_here h done moment false entries c =
    ap (λ es. offered_here (past_of ((h ++ returned done ∷ []) ++ es))) c
    ∙ (ap (λ hs. offered_here (past_of hs)) (append-nil (h ++ returned done ∷ []))
    ∙ (ap offered_here (past_of-more h (returned done))
    ∙ at_moment done.turn.note (started_at (past_of h) done.event) done.now moment))

pub act_fits : {H M Q W V N E : Type 0} (m : Meaning H M Q W V N E) (t : Terms) (F : ℕ)
    (h : List (Entry N)) (done : Done H N E) (mid : Core H M Q W V N E)
    → is_legal t.most (past_of h) ≡ true → DoneFits m.means t (past_of h) done
    → (e : SettlesEvent m t F h (event_of done) done.turn.answer done.turn.note mid)
    → FitsAct m.means t (past_of ((h ++ returned done ∷ []) ++ e.entries)) done.turn.act
act_fits m t F h done mid legal d e =
    let f : IsOpenAs (past_of h) (event_of done) × (done.event ≡ done.event) =
    found_open t.most (past_of h) done.event (event_of done) legal d.event in
    fits_act m.means t (past_of ((h ++ returned done ∷ []) ++ e.entries)) done.upcall
    (record { note = done.turn.note; moment = done.now }) done.turn.act
    (turn_here h done f.0.moment (not (is_alive (summary (returned done ∷ past_of h))
    done.handle.0)) e.entries e.closing) d.act d.promises.timer

-- ---- the whole

-- what the numbers of the answer tell of the summary
pub record Numbers (s : Summary) (settled : Settled) : Type 0 where
  pub entries : settled.entries ≡ s.entries
  pub closed : settled.closed ≡ s.closed + s.refused
  pub ended : settled.ended ≡ s.ended

pub settles : {H M Q W V N E : Type 0} (m : Meaning H M Q W V N E) (t : Terms) (F : ℕ)
    (h : List (Entry N)) (done : Done H N E) (old mid new : Core H M Q W V N E) (settled : Settled)
    → (e : SettlesEvent m t F h (event_of done) done.turn.answer done.turn.note mid)
    → (m.facts mid.net).failed_attaches ≡ (m.facts old.net).failed_attaches
    → (a : Acts m t F ((h ++ returned done ∷ []) ++ e.entries) done.handle done.turn.act mid new)
    → Numbers (summary (past_of (((h ++ returned done ∷ []) ++ e.entries) ++ a.entries)))
    settled → Settles m t F h done old new settled
settles m t F h done old mid new settled e same a n =
    let whole : List (Entry _) = ((h ++ returned done ∷ []) ++ e.entries) ++ a.entries in
    record {
      closing = e.entries;
      is_closing = e.closing;
      acted = a.entries;
      faults = λ q. a.faults q ∙ same;
      is_acted = subst (λ (k : ℕ). ActAppends t.most
          (summary (past_of ((h ++ returned done ∷ []) ++ e.entries))) done.handle done.turn.act k
          (m.facts new.net).failed_attaches a.entries) same a.appends;
      stands = a.stands;
      entries = n.entries ∙ ((told t.most (past_of whole) a.stands.tracks.legal).entries
          ∙ length-reverse whole);
      closed = n.closed;
      ended = n.ended;
    }
