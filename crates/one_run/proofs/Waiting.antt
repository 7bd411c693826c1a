-- The waits of a run of one connection: the first reports it, and none after its close.
use Rattle.std.proofs.Common.{ℕ, ◌≡◌, ◌==◌, Bool, true, false, ◌&&◌, ◌||◌, List, [], ◌∷◌, ◌++◌, map}
use Rattle.std.proofs.Common.{length, refl, sym, ap, ◌∙◌, subst, arith, Option, Some, None, ◌⊎◌}
use Rattle.std.proofs.Common.{inl, inr, ⊎_elim}
use Rattle.std.specs.List.{filter, list_all}
use Rattle.std.proofs.lemmas.Bool.{false≢true, eqb-true}
use Rattle.ev_base.specs.ev_types.specs.declared.upcall.Mask.{Mask}
use Rattle.ev_base.specs.ev_types.specs.declared.upcall.Kind.{Kind}
use Rattle.ev_base.specs.ev_types.specs.declared.upcall.Kind.TheVariants.{Read, Write, Except}
use Rattle.ev_base.specs.Source.{SourceFacts}
use Rattle.ev_base.specs.Sink.{SinkFacts}
use Rattle.ev_base.specs.Terms.{Terms}
use Rattle.ev_base.specs.Net.{NetFacts, Call, Waits, NetWaits, AnswersWait, AreWanted, is_wanted}
use Rattle.ev_base.specs.Net.{mask_has, with_one}
use Rattle.ev_base.specs.declared.end.PeerEnd.{Ghosts}
use Rattle.ev_base.specs.declared.net.Report.{Report}
use Rattle.ev_base.specs.declared.net.Waited.{Waited}
use Rattle.ev_base.specs.declared.net.Waited.TheVariants as waited
use Rattle.timer_queue.specs.Content.{Content}
use Rattle.reactor_model.specs.reactor_journal.specs.declared.entry.Entry.{Entry}
use Rattle.reactor_model.specs.reactor_journal.specs.declared.entry.Entry.TheVariants.{Polled}
use Rattle.reactor_model.specs.reactor_journal.specs.Past.{past_of}
use Rattle.reactor_core.specs.reactor_summary.specs.Summary.{summary}
use Rattle.reactor_model.specs.Volumes.{VolumesFacts}
use Rattle.reactor_core.specs.reactor_state.specs.State.{after}
use Rattle.reactor_core.specs.Calls.{is_taken, least_limit, time_left}
use Rattle.reactor_model.specs.Entries.{IsAnsweredAt}
use Rattle.reactor_core.specs.Ends.{live_masks}
use Rattle.reactor_core.specs.Polling.{AreDue, due_of, ready_of, name_of, WaitsOnce, Polls}
use Rattle.reactor_core.specs.Stands.{Stands}
use Rattle.reactor_core.specs.declared.reactor.Core.{Core}
use Rattle.reactor_core.specs.declared.polling.Polled.{Polled as Found}
use Rattle.log_handler.specs.declared.note.ServerNote.{ServerNote}
use Rattle.log_handler.specs.declared.connection.LogConnection.{LogConnection}
use Rattle.log_handler.specs.LineSink.{LineSink}
use Rattle.one_net.specs.declared.one_end.OneEnd.{OneEnd}
use Rattle.one_net.specs.declared.one_net.OneNet.{OneNet}
use Rattle.one_net.specs.OneNet.{one_net_facts, last_answer, masks_of}
use Rattle.one_net.specs.Watched.{first_report, answer_of}
use Rattle.one_run.specs.Phases.{one_handle, read_mask, IsOpened, IsRead, IsShut, CanEnd, GrowsFrom}
use Rattle.one_run.specs.Running.{one_meaning, StandsIn, IsShutAs, HasEnded, is_lost}
use Rattle.one_run.proofs.Growing.{grows-waited}
use Rattle.one_run.proofs.Ends.{waits_first, waits_last}

-- what a wait that did not fail did
answered : {E : Type 0} (net new : NetFacts E) (asked : Option ℕ) (answer : Waited) (polled : Found)
    → name_of answer ≡ Some polled → NetWaits net asked answer new
    → (now : ℕ) × AnswersWait net asked answer now new
answered net new asked (waited.Reports now count) polled named waits = (now, waits.0)
answered net new asked (waited.Quiet now) polled named waits = (now, waits.0)
answered net new asked (waited.Over now) polled named waits = (now, waits.0)
answered net new asked waited.Failed polled named waits = cc

some_same : {A : Type 0} (a b : A) → ◌≡◌ {A = Option A} (Some a) (Some b) → a ≡ b
some_same a b q = cc

unpack : (b c : Bool) → ((b && c) || false) && true ≡ true → (b ≡ true) × (c ≡ true)
unpack true true q = (refl, refl)
unpack true false q = absurd (false≢true q)
unpack false c q = absurd (false≢true q)

-- one report that the mask of the one handle wants is that it can be read
one_wanted : (reports : List Report) → length reports ≡ 1
    → list_all (is_wanted ((0, read_mask) ∷ [])) reports ≡ true
    → reports ≡ record { handle = one_handle; kind = Read } ∷ []
one_wanted [] one wanted = absurd (omega (arith, one))
one_wanted (a ∷ b ∷ reports) one wanted = absurd (omega (arith, one))
one_wanted (r ∷ []) one wanted =
    let parts : ((0 == r.handle.0) ≡ true) × (mask_has read_mask r.kind ≡ true) =
    unpack (0 == r.handle.0) (mask_has read_mask r.kind) wanted in
    by r.kind refl (eqb-true 0 r.handle.0 parts.0) parts.1
  where
    by : (kind : Kind) → r.kind ≡ kind → 0 ≡ r.handle.0 → mask_has read_mask r.kind ≡ true
        → r ∷ [] ≡ record { handle = one_handle; kind = Read } ∷ []
    by Read is none wants = ap (λ (kind : Kind). record { handle = r.handle; kind = kind } ∷ []) is
        ∙ ap (λ (n : ℕ). record { handle = record { 0 = n }; kind = Read } ∷ []) (sym none)
    by Write is none wants = absurd (false≢true
        (subst (λ kind. mask_has read_mask kind ≡ true) is wants))
    by Except is none wants = absurd (false≢true
        (subst (λ kind. mask_has read_mask kind ≡ true) is wants))

module _ {S K V : Type 0} (G : Ghosts (OneEnd S)) (source : S → SourceFacts) (sink : K → SinkFacts)
    (volumes : V → VolumesFacts ServerNote) (t : Terms) where
  abbrev the_core : Type 0
  the_core = Core (LogConnection (OneEnd S) G) (OneNet S) Content (LineSink K) V ServerNote
      (OneEnd S)

  pub last_wait : (old new : the_core) (F : ℕ) (h : List (Entry ServerNote)) (polled : Found)
      → Polls (one_meaning source sink volumes) t F h None polled old new
      → StandsIn (one_meaning source sink volumes) t
      (λ now. (lost : Bool) → IsShutAs [] lost h → HasEnded None lost now) new
  last_wait old new F h polled p =
      let w = p.waits in (
        F,
        h ++ Polled w.now ∷ (map due_of w.timers
            ++ map ready_of (filter (is_taken (summary (past_of h)))
            (one_net_facts new.net).reports)),
        w.stands,
        λ lost shut. let after = waits_last h w.now w.timers (one_net_facts new.net).reports shut.0
            w.due in (w.now, (after.0, shut.1 ∙ ap is_lost (sym after.1))),
      )

  pub first_wait : (old new : the_core) (F : ℕ) (h : List (Entry ServerNote)) (polled : Found)
      → IsOpened h → Stands (one_meaning source sink volumes) t old F h
      → Polls (one_meaning source sink volumes) t F h None polled old new
      → StandsIn (one_meaning source sink volumes) t (λ now. IsRead now × GrowsFrom 0 h now) new
  first_wait old new F h polled opened stands p = (
    F,
    h ++ Polled w.now ∷ (map due_of w.timers
        ++ map ready_of (filter (is_taken (summary (past_of h)))
        (one_net_facts new.net).reports)),
    w.stands,
    (
      read,
      grows-waited h w.now w.timers
          (filter (is_taken (summary (past_of h))) (one_net_facts new.net).reports),
    ),
  )
    where
      w : WaitsOnce (one_meaning {G = G} source sink volumes) t F h
          (least_limit None (time_left (summary (past_of h)))) polled p.net new
      w = p.waits

      a : (now : ℕ) × AnswersWait p.net (least_limit None (time_left (summary (past_of h))))
          w.answer now (one_net_facts new.net)
      a = answered p.net (one_net_facts new.net)
          (least_limit None (time_left (summary (past_of h)))) w.answer polled w.named w.waits

      masks_old : ◌≡◌ {A = List (ℕ × Mask)} (masks_of old.net) ((0, read_mask) ∷ [])
      masks_old = stands.tracks.net.masks ∙ ap (λ h. live_masks (summary (past_of h))) opened

      masks_same : ◌≡◌ {A = Option (List (ℕ × Mask))} (Some (masks_of new.net))
          (Some (masks_of old.net))
      masks_same = a.1.masks ∙ p.reserves.masks

      masks_new : ◌≡◌ {A = List (ℕ × Mask)} (masks_of new.net) ((0, read_mask) ∷ [])
      masks_new = some_same _ _ masks_same ∙ masks_old

      calls : ◌≡◌ {A = Option (List Call)} (Some new.net.calls)
          (Some (Waits (least_limit None (time_left (summary (past_of h)))) w.answer
          (one_net_facts new.net).reports ∷ old.net.calls))
      calls = a.1.calls ∙ ap (λ calls. with_one calls
          (Waits (least_limit None (time_left (summary (past_of h)))) w.answer
          (one_net_facts new.net).reports)) p.reserves.calls

      answer : w.answer ≡ waited.Reports 0 1
      answer = w.stands.tracks.keeps.answered w.answer (ap last_answer (some_same _ _ calls))
          ∙ ap (λ masks. answer_of (first_report masks)) masks_new

      reports : (one_net_facts new.net).reports ≡ record { handle = one_handle; kind = Read } ∷ []
      reports = one_wanted (one_net_facts new.net).reports
          (subst (λ answer. NetWaits p.net (least_limit None (time_left (summary (past_of h))))
          answer (one_net_facts new.net)) answer w.waits).1
          (subst (λ masks. AreWanted masks (one_net_facts new.net).reports)
          (p.reserves.masks ∙ ap Some masks_old) a.1.wanted)

      now : w.now ≡ 0
      now = sym (subst (λ answer. IsAnsweredAt w.now answer) answer w.moment)

      read : IsRead (h ++ Polled w.now ∷ (map due_of w.timers
          ++ map ready_of (filter (is_taken (summary (past_of h)))
          (one_net_facts new.net).reports)))
      read = subst (λ (n : ℕ). IsRead (h ++ Polled n
          ∷ (map due_of w.timers ++ map ready_of
          (filter (is_taken (summary (past_of h))) (one_net_facts new.net).reports)))) (sym now)
          (subst (λ (rs : List Report). IsRead
          (h ++ Polled 0 ∷ (map due_of w.timers
          ++ map ready_of (filter (is_taken (summary (past_of h))) rs)))) (sym reports)
          (waits_first h w.timers opened (subst
          (λ (n : ℕ). AreDue (after (summary (past_of h)) (Polled n)) w.timers) now w.due)))

  -- what holds of the history after either of the two waits
  pub either_wait : (old new : the_core) (F : ℕ) (h : List (Entry ServerNote)) (polled : Found)
      → IsOpened h ⊎ IsShut [] h → Stands (one_meaning source sink volumes) t old F h
      → Polls (one_meaning source sink volumes) t F h None polled old new
      → StandsIn (one_meaning source sink volumes) t (λ now. CanEnd now × GrowsFrom 0 h now) new
  either_wait old new F h polled may stands p =
      ⊎_elim (λ opened. let w = first_wait old new F h polled opened stands p in
      (w.0, w.1, w.2, (inr (inl w.3.0), w.3.1)))
      (λ shut. let w = p.waits in (
        F,
        h ++ Polled w.now ∷ (map due_of w.timers
            ++ map ready_of (filter (is_taken (summary (past_of h)))
            (one_net_facts new.net).reports)),
        w.stands,
        (
          inr (inr (
            w.now ∷ [],
            omega arith,
            (waits_last h w.now w.timers (one_net_facts new.net).reports shut w.due).0,
          )),
          grows-waited h w.now w.timers (filter (is_taken (summary (past_of h)))
              (one_net_facts new.net).reports),
        ),
      )) may
