-- What holds while two upcalls are on their way, and after the settling of one of them.
use Rattle.std.proofs.Common.{ℕ, ◌≡◌, ◌≢◌, ◌≤◌, ◌==◌, not, cond, Bool, true, false, List, [], ◌∷◌}
use Rattle.std.proofs.Common.{◌++◌, filter, length, sym, ap, ◌∙◌, subst, Option, Some, None, arith}
use Rattle.std.proofs.Common.{◌⊎◌, ⊎_elim}
use Rattle.std.proofs.lemmas.Bool.{and_parts, and_from, or_right, not-true, both_ways, cases_Bool}
use Rattle.std.proofs.lemmas.Bool.{eqb-true}
use Rattle.std.proofs.lemmas.List.{append_assoc, length-append}
use Rattle.std.specs.List.{find}
use Rattle.std.specs.Prelude.{Result, Ok}
use Rattle.ev_base.specs.Net.{NetFacts}
use Rattle.ev_base.specs.Terms.{Terms}
use Rattle.demux.specs.declared.play_end.PlayEnd.{PlayEnd}
use Rattle.reactor_model.specs.reactor_journal.specs.declared.entry.Entry.{Entry}
use Rattle.reactor_model.specs.reactor_journal.specs.declared.entry.Entry.TheVariants.{Started}
use Rattle.reactor_model.specs.reactor_journal.specs.Past.{past_of, is_open, is_able, is_waiting}
use Rattle.reactor_model.specs.reactor_journal.specs.Past.{is_pick, was_started, was_returned}
use Rattle.reactor_model.specs.reactor_journal.specs.Past.{starts}
use Rattle.reactor_model.specs.reactor_journal.specs.Follow.{Legal}
use Rattle.reactor_model.specs.reactor_journal.proofs.Picking.{pick_parts}
use Rattle.reactor_model.specs.reactor_journal.proofs.Turning.{past_of-more}
use Rattle.reactor_core.specs.reactor_summary.specs.declared.parts.OpenEvent.{OpenEvent}
use Rattle.reactor_core.specs.reactor_summary.specs.Summary.{Summary, waiting_event, opens_from}
use Rattle.reactor_core.specs.reactor_summary.specs.Summary.{open_event}
use Rattle.reactor_model.specs.Volumes.{VolumesFacts}
use Rattle.reactor_core.specs.Stands.{Stands}
use Rattle.reactor_core.specs.Acting.{Settles}
use Rattle.reactor_core.specs.Settling.{returned}
use Rattle.reactor_core.specs.Laws.{IsSettledLater}
use Rattle.reactor_core.specs.Upcalls.{JobFits, DoneFits, IsRunOf, StartGives}
use Rattle.reactor_core.specs.declared.job.Done.{Done}
use Rattle.reactor_core.specs.declared.job.Job.{Job}
use Rattle.reactor_core.specs.declared.upcalls.StartRefused.{StartRefused}
use Rattle.reactor_core.proofs.Moves.{found_open}
use Rattle.reactor_core.proofs.Owed.{opens_returned}
use Rattle.test_nets.specs.declared.handler.Steady.{Steady}
use Rattle.core_loop.specs.Idle.{IsOut}
use Rattle.test_nets.specs.Idle.{RowsOf, rows, AreOut}
use Rattle.test_nets.proofs.Idling.{MeaningOf}
use Rattle.core_loop.proofs.Keeping.{sum, sum_more, Keeps, keeps_closing}
use Rattle.core_loop.proofs.Upcalls.{StartGave, gave_some, gave_none, fits_started, one_open}
use Rattle.core_loop.proofs.Upcalls.{keeps_acted}
use Rattle.test_nets.proofs.Upcalls.{out_same}

-- ---- the start of the second

-- the event that is started next is not open
pick_waits : (past : List (Entry ℕ)) (i : ℕ) → is_able past i ≡ true → is_waiting past i ≡ true
unfolding is_able
pick_waits past i able = (and_parts _ _ able).0

not_open : (past : List (Entry ℕ)) (i : ℕ) → is_pick past i ≡ true → is_open past i ≡ true → ⊥
not_open past i pick opened =
    both_ways (was_started past i) (not-true _
    (and_parts _ _ (and_parts _ _ (pick_waits past i (pick_parts past i pick).0)).1).0)
    (and_parts _ _ opened).0

-- an event that is open stays open after the start of another
open_behind : (past : List (Entry ℕ)) (event i : ℕ) → is_open past i ≡ true
    → is_open (Started event ∷ past) i ≡ true
open_behind past event i opened =
    let parts : (was_started past i ≡ true) × (not (was_returned past i) ≡ true) =
    and_parts (was_started past i) (not (was_returned past i)) opened in
    and_from (was_started (Started event ∷ past) i) (not (was_returned past i))
    (or_right (starts {N = ℕ} i (Started event)) (was_started past i) parts.0) parts.1

-- the event of an upcall that is out is open in the journal
event_open : {M V : Type 0} (m : MeaningOf M V) (core : RowsOf M V) (done : Done Steady ℕ PlayEnd)
    (i : IsOut m core done) → is_open (past_of i.history) done.event ≡ true
event_open m core done i = (found_open i.terms.most (past_of i.history) done.event _
    i.stands.tracks.legal i.fits.event).0.is_open

pub goes_out_again : {M V : Type 0} (m : MeaningOf M V) (old new : RowsOf M V)
    (result : Result (Option (Job Steady ℕ PlayEnd)) StartRefused) (job : Job Steady ℕ PlayEnd)
    (done other : Done Steady ℕ PlayEnd) (i : IsOut m old done)
    → IsSettledLater m.means → result ≡ Ok (Some job) → StartGave m old result new
    → ((t : Terms) (past : List (Entry ℕ)) → JobFits m.means t past job
    → DoneFits m.means t past other) → IsRunOf job other → AreOut m new done other
goes_out_again m old new result job done other i later is gave run same =
    let gives : StartGives m i.terms i.first i.history (Some job) new =
    gave_some m old new result job i.terms i.first i.history i.stands is gave in
    let h : List (Entry ℕ) = i.history ++ Started job.event ∷ [] in
    let started : (sum h).opens ≡ (sum i.history).opens
    ++ opens_from (sum i.history).moment (waiting_event (sum i.history) job.event) =
    ap (λ (s : Summary). s.opens) (sum_more i.history (Started job.event)) in
    let still : is_open (past_of h) done.event ≡ true =
    ap (λ past. is_open past done.event) (past_of-more i.history (Started job.event))
    ∙ open_behind (past_of i.history) job.event done.event (event_open m old done i) in
    record {
      terms = i.terms;
      limit = i.limit;
      first = i.first;
      history = h;
      stands = gives.1;
      fits = later i.terms i.history (Started job.event ∷ []) done gives.1.tracks.legal i.fits
          still;
      other_fits = fits_started m i.terms i.history job.event other (run i.terms _ gives.2);
      differ = λ q. not_open (past_of i.history) job.event gives.0
          (subst (λ event. is_open (past_of i.history) event ≡ true) (q ∙ same.event)
          (event_open m old done i));
      two_open =
          omega (
            arith,
            one_open (sum i.history).moment (waiting_event (sum i.history) job.event),
            ap length started,
            length-append (sum i.history).opens
                (opens_from (sum i.history).moment (waiting_event (sum i.history) job.event)),
            i.one_open,
          );
    }

pub stays_out : {M V : Type 0} (m : MeaningOf M V) (old new : RowsOf M V)
    (result : Result (Option (Job Steady ℕ PlayEnd)) StartRefused) (done : Done Steady ℕ PlayEnd)
    (i : IsOut m old done) → result ≡ Ok None → StartGave m old result new → IsOut m new done
stays_out m old new result done i is gave =
    out_same old new done i (gave_none m old new result i.terms i.first i.history i.stands is gave)

-- ---- the settling of one

-- an open event is found still when another is taken away
find_kept : (gone kept : ℕ) (opens : List OpenEvent) (o : OpenEvent) → gone ≢ kept
    → find (λ (a : OpenEvent). a.event == kept) opens ≡ Some o
    → find (λ (a : OpenEvent). a.event == kept)
    (filter (λ (a : OpenEvent). not (gone == a.event)) opens) ≡ Some o
find_kept gone kept [] o differ h = h
find_kept gone kept (a ∷ opens) o differ h =
    ⊎_elim (λ t. hit t (cases_Bool (gone == a.event)))
    (λ f. miss f (λ rest. find_kept gone kept opens o differ rest)
    (cases_Bool (gone == a.event))) (cases_Bool (a.event == kept))
  where
    is_kept : OpenEvent → Bool
    is_kept b = b.event == kept

    left : List OpenEvent
    left = filter (λ (b : OpenEvent). not (gone == b.event)) opens

    hit : (a.event == kept) ≡ true → ((gone == a.event) ≡ true) ⊎ ((gone == a.event) ≡ false)
        → find is_kept (cond (not (gone == a.event)) (a ∷ left) left) ≡ Some o
    hit t cases =
        ⊎_elim
        (λ (g : (gone == a.event) ≡ true).
        absurd (differ (eqb-true gone a.event g ∙ eqb-true a.event kept t)))
        (λ (g : (gone == a.event) ≡ false).
        ap (λ b. find is_kept (cond (not b) (a ∷ left) left)) g
        ∙ (ap (λ b. cond b (Some a) (find is_kept left)) t
        ∙ (sym (ap (λ b. cond b (Some a) (find is_kept opens)) t) ∙ h)))
        cases

    miss : (a.event == kept) ≡ false → (find is_kept opens ≡ Some o → find is_kept left ≡ Some o)
        → ((gone == a.event) ≡ true) ⊎ ((gone == a.event) ≡ false)
        → find is_kept (cond (not (gone == a.event)) (a ∷ left) left) ≡ Some o
    miss f rec cases =
        let rest : find is_kept left ≡ Some o =
        rec (sym (ap (λ b. cond b (Some a) (find is_kept opens)) f) ∙ h) in
        ⊎_elim
        (λ (g : (gone == a.event) ≡ true). ap (λ b. find is_kept (cond (not b) (a ∷ left) left)) g
        ∙ rest)
        (λ (g : (gone == a.event) ≡ false). ap (λ b. find is_kept (cond (not b) (a ∷ left) left)) g
        ∙ (ap (λ b. cond b (Some a) (find is_kept left)) f ∙ rest))
        cases

pub settles_one : {M V : Type 0} (facts : M → NetFacts PlayEnd) (keeps : Terms → M → Type 0)
    (volumes : V → VolumesFacts ℕ) (old new : RowsOf M V) (done other : Done Steady ℕ PlayEnd)
    (settled : _) (i : AreOut (rows facts keeps volumes) old done other)
    → IsSettledLater (rows facts keeps volumes).means
    → Settles (rows facts keeps volumes) i.terms i.first i.history done old new settled
    → IsOut (rows facts keeps volumes) new other
settles_one facts keeps volumes old new done other settled i later st =
    let h : List (Entry ℕ) = i.history in
    let all : List (Entry ℕ) = ((h ++ returned done ∷ []) ++ st.closing) ++ st.acted in
    let more : List (Entry ℕ) = returned done ∷ (st.closing ++ st.acted) in
    let whole : all ≡ h ++ more = append_assoc (h ++ returned done ∷ []) st.closing st.acted
    ∙ append_assoc h (returned done ∷ []) (st.closing ++ st.acted) in
    let k : Keeps (h ++ returned done ∷ []) st.closing =
    keeps_closing (h ++ returned done ∷ []) _ done.handle st.closing st.is_closing in
    let l : Keeps ((h ++ returned done ∷ []) ++ st.closing) st.acted =
    keeps_acted ((h ++ returned done ∷ []) ++ st.closing) _ _ _ done.turn.act _ _ st.acted
    st.is_acted in
    let left : (sum all).opens ≡ filter (λ (a : OpenEvent). not (done.event == a.event))
    (sum h).opens = l.opens ∙ (k.opens
    ∙ ap (λ (s : Summary). s.opens) (sum_more h (returned done))) in
    let o : OpenEvent = record {
      event = other.event;
      handle = other.handle;
      upcall = other.upcall;
      moment = other.now;
    } in
    let still : open_event (sum all) other.event ≡ Some o =
    ap (λ os. find (λ (a : OpenEvent). a.event == other.event) os) left
    ∙ find_kept done.event other.event (sum h).opens o i.differ i.other_fits.event in
    let opened : is_open (past_of all) other.event ≡ true =
    (found_open i.terms.most (past_of all) other.event o st.stands.tracks.legal still).0.is_open
    in
    let fewer = opens_returned (sum h) done.event done.turn.answer done.turn.note _ i.fits.event in
    record {
      terms = i.terms;
      limit = i.limit;
      first = i.first;
      history = h ++ more;
      stands = subst (λ g. Stands (rows facts keeps volumes) i.terms new i.first g) whole st.stands;
      fits = later i.terms h more other (subst (λ (g : List (Entry ℕ)). Legal g i.terms.most) whole
          st.stands.tracks.legal) i.other_fits
          (subst (λ g. is_open (past_of g) other.event ≡ true) whole opened);
      one_open = subst (λ (g : List (Entry ℕ)). length (sum g).opens ≤ 1) whole
          (omega (arith, ap length left, fewer, i.two_open));
    }
