-- What holds while the one upcall that was made is on its way, and after its settling.
use Rattle.std.proofs.Common.{ℕ, ◌≡◌, ◌≤◌, List, [], ◌∷◌, ◌++◌, length, refl, sym, ap, ◌∙◌, subst}
use Rattle.std.proofs.Common.{Some, true}
use Rattle.std.proofs.lemmas.List.{append_assoc}
use Rattle.std.specs.List.{find}
use Rattle.std.specs.Prelude.{Result, Ok, Err, OnOk, OnErr, ◌==◌}
use Rattle.ev_base.specs.ev_types.specs.declared.upcall.Handle.{Handle}
use Rattle.ev_base.specs.Net.{NetFacts}
use Rattle.ev_base.specs.Terms.{Terms}
use Rattle.demux.specs.declared.play_end.PlayEnd.{PlayEnd}
use Rattle.reactor_model.specs.reactor_journal.specs.declared.entry.Entry.{Entry}
use Rattle.reactor_model.specs.reactor_journal.specs.declared.entry.Entry.TheVariants.{Removed}
use Rattle.reactor_model.specs.reactor_journal.specs.declared.entry.Entry.TheVariants.{Cancelled}
use Rattle.reactor_model.specs.reactor_journal.specs.Past.{past_of, is_open}
use Rattle.reactor_core.specs.reactor_summary.specs.declared.parts.OpenEvent.{OpenEvent}
use Rattle.reactor_core.specs.reactor_summary.specs.Summary.{open_event}
use Rattle.reactor_model.specs.Volumes.{VolumesFacts}
use Rattle.reactor_core.specs.Stands.{Stands, StandsAsBefore}
use Rattle.reactor_core.specs.Requests.{GoesOnBy}
use Rattle.reactor_core.specs.Removing.{Removes}
use Rattle.reactor_core.specs.Acting.{Settles}
use Rattle.reactor_core.specs.Laws.{IsSettledLater}
use Rattle.reactor_core.specs.declared.job.Done.{Done}
use Rattle.reactor_core.proofs.Moves.{found_open}
use Rattle.test_nets.specs.declared.handler.Steady.{Steady}
use Rattle.core_loop.specs.Idle.{IsIdle, IsOut}
use Rattle.test_nets.specs.Idle.{RowsOf, rows}
use Rattle.test_nets.proofs.Idling.{MeaningOf}
use Rattle.core_loop.proofs.Upcalls.{settles_closed}
use Rattle.core_loop.proofs.Keeping.{sum, Keeps, keeps_one, keeps_both, keeps_removed}
use Rattle.core_loop.proofs.Keeping.{keeps_closing}

-- ---- meanwhile

pub out_same : {M V : Type 0} {m : MeaningOf M V} (old new : RowsOf M V)
    (done : Done Steady ℕ PlayEnd) (i : IsOut m old done) → Stands m i.terms new i.first i.history
    → IsOut m new done
out_same old new done i st = record {
  terms = i.terms;
  limit = i.limit;
  first = i.first;
  history = i.history;
  stands = st;
  fits = i.fits;
  one_open = i.one_open;
}

-- entries that leave the open events as they are
pub out_keeps : {M V : Type 0} {m : MeaningOf M V} (old new : RowsOf M V)
    (done : Done Steady ℕ PlayEnd) (i : IsOut m old done) → IsSettledLater m.means
    → (es : List (Entry ℕ)) → Keeps i.history es → Stands m i.terms new i.first (i.history ++ es)
    → IsOut m new done
out_keeps {m = m} old new done i later es k st =
    let o : OpenEvent = record {
      event = done.event;
      handle = done.handle;
      upcall = done.upcall;
      moment = done.now;
    } in
    let still : open_event (sum (i.history ++ es)) done.event ≡ Some o =
    ap (λ os. find (λ (a : OpenEvent). a.event == done.event) os) k.opens ∙ i.fits.event in
    let stays : is_open (past_of (i.history ++ es)) done.event ≡ true =
    (found_open i.terms.most (past_of (i.history ++ es)) done.event o st.tracks.legal
    still).0.is_open in
    record {
      terms = i.terms;
      limit = i.limit;
      first = i.first;
      history = i.history ++ es;
      stands = st;
      fits = later i.terms i.history es done st.tracks.legal i.fits stays;
      one_open = subst (λ (os : List OpenEvent). length os ≤ 1) (sym k.opens) i.one_open;
    }

pub out_removes : {E M V : Type 0} {m : MeaningOf M V} (old new : RowsOf M V)
    (done : Done Steady ℕ PlayEnd) (handle : Handle) (result : Result (Unit {0}) E)
    (i : IsOut m old done) → IsSettledLater m.means
    → OnOk result ((t : Terms) (F : ℕ) (h : List (Entry ℕ)) → Stands m t old F h
    → Removes m t F h handle new) → OnErr result (new ≡ old) → IsOut m new done
out_removes {m = m} old new done handle (Ok x) i later ok err =
    let r : Removes m i.terms i.first i.history handle new =
    ok i.terms i.first i.history i.stands in
    let k : Keeps i.history (Removed handle ∷ r.entries) =
    keeps_both i.history (Removed handle ∷ []) r.entries (keeps_removed i.history handle)
    (keeps_closing (i.history ++ Removed handle ∷ []) _ handle r.entries r.closing) in
    out_keeps old new done i later (Removed handle ∷ r.entries) k
    (subst (λ h. Stands m i.terms new i.first h)
    (append_assoc i.history (Removed handle ∷ []) r.entries) r.stands)
out_removes {m = m} old new done handle (Err x) i later ok err =
    subst (λ (c : RowsOf _ _). IsOut m c done) (sym err) i

pub out_cancels : {E M V : Type 0} {m : MeaningOf M V} (old new : RowsOf M V)
    (done : Done Steady ℕ PlayEnd) (timer : ℕ) (result : Result (Unit {0}) E) (i : IsOut m old done)
    → IsSettledLater m.means
    → OnOk result (GoesOnBy m old (λ s. Cancelled timer) new)
    → OnErr result (StandsAsBefore m old new) → IsOut m new done
out_cancels old new done timer (Ok x) i later ok err =
    out_keeps old new done i later (Cancelled timer ∷ [])
    (keeps_one i.history (Cancelled timer) refl (λ q. q))
    (ok i.terms i.first i.history i.stands)
out_cancels old new done timer (Err x) i later ok err =
    out_same old new done i (err i.terms i.first i.history i.stands)

-- ---- the settling

pub settles : {M V : Type 0} (facts : M → NetFacts PlayEnd) (keeps : Terms → M → Type 0)
    (volumes : V → VolumesFacts ℕ) (old new : RowsOf M V) (done : Done Steady ℕ PlayEnd)
    (settled : _) (i : IsOut (rows facts keeps volumes) old done)
    → Settles (rows facts keeps volumes) i.terms i.first i.history done old new settled
    → IsIdle (rows facts keeps volumes) new
settles facts keeps volumes old new done settled i st =
    (settles_closed (rows facts keeps volumes) old new done settled i st).0
