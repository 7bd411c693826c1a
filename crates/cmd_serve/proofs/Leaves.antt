-- From what a run of the server leaves to what one over a host does.
use Rattle.std.proofs.Common.{◌≡◌, ◌≤◌, inl, inr, arith, ℕ, Bool, true, false}
use Rattle.std.proofs.Common.{List, []}
use Rattle.std.proofs.Common.{◌++◌, length, drop, Option, Some, None, refl, sym, ap, ◌∙◌}
use Rattle.std.proofs.Common.{subst, append-nil}
use Rattle.std.specs.Prelude.{option_map}
use Rattle.ev_base.specs.Counts.{Rose, counted}
use Rattle.ev_base.specs.Net.{HasNone, IsNew, NetFacts}
use Rattle.ev_base.specs.Sink.{SinkFacts, GrowsBy}
use Rattle.ev_base.specs.Terms.{Terms}
use Rattle.server_run.specs.sink_buffer.specs.Written.{TookAll, TookFront}
use Rattle.server_run.specs.timer_queue.specs.declared.timer.Timer.{Timer}
use Rattle.server_run.specs.reactor_journal.specs.declared.entry.Entry.{Entry}
use Rattle.server_run.specs.reactor_model.specs.Volumes.{VolumesFacts}
use Rattle.server_run.specs.reactor_core.specs.Calls.{AreCalls}
use Rattle.server_run.specs.reactor_core.specs.Ends.{WhereTold}
use Rattle.server_run.specs.reactor_core.specs.Stands.{HasTaken, Meaning, NetStands}
use Rattle.server_run.specs.log_handler.specs.LineSink.{LineSink, PutsLines, is_broken, sink_of}
use Rattle.server_run.specs.log_handler.specs.Notes.{journal_lines}
use Rattle.server_run.specs.log_handler.specs.declared.note.ServerNote.{ServerNote}
use Rattle.cmd_line.specs.declared.options.Options.{Options}
use Rattle.server_run.specs.reactor_desk.specs.Desks.{FillsVolume}
use Rattle.server_run.specs.Journals.{IsRun}
use Rattle.server_run.specs.Served.{CameSo, FaultRose, HasCauses, LeavesRun}
use Rattle.server_run.specs.declared.asked.Asked.{Asked}
use Rattle.server_run.specs.declared.ending.Ending.{Ending}
use Rattle.server_run.specs.declared.ending.Ending.TheVariants as ending
use Rattle.server_run.specs.declared.ending.Served.{Served}
use Rattle.server_run.proofs.Came.{came_as, ended_alone}
use Rattle.cmd_serve.specs.declared.ending.HostEnd.{HostEnd}
use Rattle.cmd_serve.specs.declared.ending.HostEnd.TheVariants as end
use Rattle.cmd_serve.specs.declared.ending.HostServed.{HostServed}
use Rattle.cmd_serve.specs.Leaving.{IsJournal, IsUnserved, LeavesHost, MayEnd, MayLackNet}
use Rattle.cmd_serve.specs.Leaving.{NetFailedSo, OutputTook, RunsOverNet, RunsWhereGiven, end_of}
use Rattle.cmd_serve.specs.Leaving.{left_by}
use Rattle.cmd_serve.specs.Starting.{asked_by, terms_of}

-- ---- the lines

pub grown : (start now : Option (List ℕ)) (bytes opening : List ℕ) → start ≡ Some opening
    → GrowsBy start bytes now → now ≡ Some (opening ++ bytes)
grown start now bytes opening is grows =
    by-now now (subst (λ (s : Option (List ℕ)). GrowsBy s bytes now) is grows)
  where
    by-now : (now : Option (List ℕ)) → GrowsBy (Some opening) bytes now
        → now ≡ Some (opening ++ bytes)
    by-now None grows = absurd grows
    by-now (Some text) grows = ap Some grows

module _ {K : Type 0} (facts : K → SinkFacts) (options : Options) (o : SinkFacts)
    (v : VolumesFacts ServerNote) (sink : LineSink K) (h : List (Entry ServerNote))
    (p : PutsLines facts (terms_of options o v) sink h) where
  start-faults : p.start.faults ≡ o.faults
  start-faults = p.faults o.faults refl

  whole : is_broken sink ≡ false → TookAll o (journal_lines h) (facts (sink_of sink))
  whole sound =
      let all = p.put.whole sound in
      record {
        text = λ opening told. grown p.start.text (facts (sink_of sink)).text (journal_lines h)
            opening (p.opening opening told) all.text;
        faults = all.faults ∙ start-faults;
      }

  front : is_broken sink ≡ true → TookFront o (journal_lines h) (facts (sink_of sink))
  front broken =
      let off = p.put.front broken in
      record {
        front = off.front;
        is_front = off.is_front;
        text = λ opening told. grown p.start.text (facts (sink_of sink)).text off.front opening
            (p.opening opening told) off.text;
        one_failed = off.rose ∙ ap counted start-faults;
      }

  by-watch : (b : Bool) → is_broken sink ≡ b → (how : Ending)
      → OutputTook (end_of b how) o (journal_lines h) (facts (sink_of sink))
  by-watch true is how = front is
  by-watch false is ending.Broken = whole is
  by-watch false is ending.Over = whole is
  by-watch false is ending.Notified = whole is
  by-watch false is ending.NotAttached = whole is
  by-watch false is ending.NetFault = whole is
  by-watch false is ending.NoMemory = whole is
  by-watch false is ending.VolumeFault = whole is

  pub wrote : (how : Ending)
      → OutputTook (end_of (is_broken sink) how) o (journal_lines h) (facts (sink_of sink))
  wrote how = by-watch (is_broken sink) refl how

-- nothing was written
wrote-nothing : (o : SinkFacts) → TookAll o [] o
wrote-nothing o = record {
  text = λ opening told. told
      ∙ ap Some (sym (append-nil opening));
  faults = refl;
}

pub untouched-lines : {M K V : Type 0} (sink : K → SinkFacts) (output : K) (volumes : V)
    (served : HostServed M K V) → IsUnserved output volumes served
    → TookAll (sink output) [] (sink served.output)
untouched-lines sink output volumes served u =
    subst (λ (k : _). TookAll (sink output) [] (sink k)) (sym u.same_output)
    (wrote-nothing (sink output))

-- ---- how it ends

may-end : (broken : Bool) (how : Ending) → MayEnd (end_of broken how) how
may-end true how = inl refl
may-end false how = inr refl

-- ---- the net

rose-from : (before now : ℕ) → before ≡ 0 → Rose before now → Rose 0 now
rose-from before now none rose = subst (λ (n : ℕ). Rose n now) none rose

module _ {H M Q W V E : Type 0} (m : Meaning H M Q W V ServerNote E) (t : Terms) (until : Option ℕ)
  where
    net-failed : {led : Type 0} (broken : Bool) (how : Ending) (old net : NetFacts E)
        (v w : VolumesFacts ServerNote)
        (journal : List (Entry ServerNote)) → IsNew old → FaultRose how old net v w
        → CameSo how journal (IsRun m.means t until net how journal) led
        → NetFailedSo (end_of broken how) net journal
    net-failed true how old net v w journal new rose came = tt
    net-failed false ending.NotAttached old net v w journal new rose came =
        inr (
          rose-from old.failed_attaches net.failed_attaches new.failed_attaches rose,
          ended_alone m.means t until net journal came,
        )
    net-failed false ending.NetFault old net v w journal new rose came =
        inl (rose-from old.failed_waits net.failed_waits new.failed_waits rose)
    net-failed false ending.Broken old net v w journal new rose came = tt
    net-failed false ending.NoMemory old net v w journal new rose came = tt
    net-failed false ending.VolumeFault old net v w journal new rose came = tt
    net-failed false ending.Notified old net v w journal new rose came = tt
    net-failed false ending.Over old net v w journal new rose came = tt

    told-none : {A : Type 0} (P : List A → Type 0) (told : Option (List A)) → P [] → HasNone told
        → WhereTold P told
    told-none P None p none = tt
    told-none P (Some list) p none = subst P (sym none) p

    -- a new net stands for no entry
    new-stands : t.steady ≡ None → (net : NetFacts E) → IsNew net
        → NetStands {N = ServerNote} m.means t [] [] net
    new-stands steady net new = record {
      retired = ([], refl, told-none (λ ends. ends ≡ []) net.retired refl new.retired);
      turned_away = ([], refl, told-none (λ ends. ends ≡ []) net.turned_away refl new.turned_away);
      attached = new.attached;
      masks = told-none (λ masks. masks ≡ []) net.masks refl new.masks;
      faults = omega arith;
      steady = λ asked. absurd (let q = sym steady ∙ asked in cc);
      calls = told-none (AreCalls {N = ServerNote} m.means t [] []) net.calls refl new.calls;
      moment = omega arith;
    }

-- ---- the volumes

pub same-count : (a n : ℕ) → ◌≡◌ {A = Option ℕ} (Some a) (Some n) → a ≡ n
same-count a n q = cc

pub taken-are : {N : Type 0} (told : Option (List (Entry N)))
    → WhereTold (λ entries. (n : ℕ) → option_map length told ≡ Some n → length entries ≡ n) told
taken-are None = tt
taken-are (Some entries) = λ n q. same-count (length entries) n q

taken-nothing : (options : Options) (o : SinkFacts) (v : VolumesFacts ServerNote)
    (told : Option (List (Entry ServerNote))) → v.taken ≡ told
    → WhereTold (HasTaken (terms_of options o v) 0 []) told
taken-nothing options o v None is = tt
taken-nothing options o v (Some entries) is = (
  entries,
  sym (append-nil entries),
  λ n q. same-count (length entries) n (ap (option_map length) (sym is) ∙ q),
)

-- ---- what is left

module _ {H M Q V E K : Type 0} (m : Meaning H M Q (LineSink K) V ServerNote E)
    (sink : K → SinkFacts) (options : Options) (output : K) (volumes : V) where
  abbrev terms : Terms
  terms = terms_of options (sink output) (m.volumes volumes)

  -- no run was begun
  untouched-is : (served : HostServed M K V) → IsUnserved output volumes served
      → IsJournal terms (m.volumes served.volumes).taken served.first served.journal.entries []
  untouched-is served u = record {
    within = omega (arith, u.none_taken);
    held = u.no_journal ∙ sym (ap (λ (n : ℕ). drop n []) u.none_taken);
    taken = subst (λ (w : V). WhereTold (HasTaken terms served.first []) (m.volumes w).taken)
        (sym u.same_volumes)
        (subst (λ (n : ℕ). WhereTold (HasTaken terms n []) (m.volumes volumes).taken)
        (sym u.none_taken) (taken-nothing options (sink output) (m.volumes volumes)
        (m.volumes volumes).taken refl));
  }

  untouched-filled : (served : HostServed M K V) → IsUnserved output volumes served
      → (asked : Asked) → FillsVolume asked.volume served.first
  untouched-filled served u asked = λ some. absurd (omega (arith, some, u.none_taken))

  untouched-net : (net : M) → IsNew (m.facts net) → m.keeps terms net → (asked : Asked)
      → RunsOverNet m terms asked (sink output) net end.NoMemory []
  untouched-net net new keeps asked = record {
    ending = ending.NoMemory;
    named = inr refl;
    came = inl (record { named = inr refl; none = refl });
    stands = new-stands m terms asked.until refl (m.facts net) new;
    keeps = keeps;
    failed = tt;
  }

  module _ (asked : Asked) (served : HostServed M K V) (u : IsUnserved output volumes served)
    where
      -- there was no memory for the timers
      pub leaves-net : (t : Terms) (net : M) → t ≡ terms → served.end ≡ end.NoMemory
          → served.net ≡ Some net → IsNew (m.facts net) → m.keeps t net
          → LeavesHost m sink terms asked (sink output) served
      leaves-net t net is memory given new keeps = record {
        journal = [];
        is = untouched-is served u;
        filled = untouched-filled served u asked;
        run = subst (λ (how : HostEnd).
            RunsWhereGiven m terms asked (sink output) served.net how []) (sym memory)
            (subst (λ (n : Option M). RunsWhereGiven m terms asked (sink output) n end.NoMemory [])
            (sym given)
            (untouched-net net new (subst (λ (t : Terms). m.keeps t net) is keeps) asked));
        lines = subst (λ (how : HostEnd). OutputTook how (sink output) [] (sink served.output))
            (sym memory) (untouched-lines sink output volumes served u);
      }

      -- the host gave no net
      pub leaves-none : (how : HostEnd) → served.end ≡ how → served.net ≡ None → MayLackNet how
          → OutputTook how (sink output) [] (sink served.output)
          → LeavesHost m sink terms asked (sink output) served
      leaves-none how is none may lines = record {
        journal = [];
        is = untouched-is served u;
        filled = untouched-filled served u asked;
        run = subst (λ (n : Option M).
            RunsWhereGiven m terms asked (sink output) n served.end []) (sym none)
            (subst MayLackNet (sym is) may, refl);
        lines = subst (λ (how : HostEnd). OutputTook how (sink output) [] (sink served.output))
            (sym is) lines;
      }

  module _ (armed : Q → List Timer) (asked : Asked) (net : M) (served : Served M Q (LineSink K) V)
      (l : LeavesRun m armed terms asked served) where
    journal-is : IsJournal terms (m.volumes served.parts.volumes).taken served.parts.first
        served.parts.journal.entries l.journal
    journal-is = record {
      within = subst (λ (n : ℕ). n ≤ length l.journal) (sym l.stand.first) l.stand.within;
      held = l.stand.journal ∙ ap (λ (n : ℕ). drop n l.journal) (sym l.stand.first);
      taken = subst (λ (n : ℕ). WhereTold (HasTaken terms n l.journal)
          (m.volumes served.parts.volumes).taken) (sym l.stand.first) l.stand.volumes;
    }

    runs-over : IsNew (m.facts net) → HasCauses m net volumes served
        → RunsOverNet m terms asked (sink output) served.parts.net
        (end_of (is_broken served.parts.watch) served.ending) l.journal
    runs-over new c = record {
      ending = served.ending;
      named = may-end (is_broken served.parts.watch) served.ending;
      came = came_as served.ending l.journal (λ run. run) inl l.came;
      stands = l.stand.net;
      keeps = l.stand.net_keeps;
      failed = net-failed m terms asked.until (is_broken served.parts.watch) served.ending
          (m.facts net) (m.facts served.parts.net) (m.volumes volumes)
          (m.volumes served.parts.volumes) l.journal new c.rose l.came;
    }

    pub leaves-host : (result : HostServed M K V) → result ≡ left_by served → IsNew (m.facts net)
        → HasCauses m net volumes served → PutsLines sink terms served.parts.watch l.journal
        → LeavesHost m sink terms asked (sink output) result
    leaves-host result is new c watch =
        subst (λ (r : HostServed M K V). LeavesHost m sink terms asked (sink output) r)
        (sym is) (record {
          journal = l.journal;
          is = journal-is;
          filled = subst (λ (n : ℕ). FillsVolume asked.volume n) (sym l.stand.first) l.filled;
          run = runs-over new c;
          lines = wrote sink options (sink output) (m.volumes volumes) served.parts.watch l.journal
              watch served.ending;
        })

-- what is left under one terms is left under the same
pub under : {H M Q W V E : Type 0} {m : Meaning H M Q W V ServerNote E} {armed : Q → List Timer}
    {asked : Asked} {served : Served M Q W V} (t u : Terms) → t ≡ u
    → LeavesRun m armed t asked served → LeavesRun m armed u asked served
under {m = m} {armed = armed} {asked = asked} {served = served} t u is l =
    subst (λ (t : Terms). LeavesRun m armed t asked served) is l

-- what is left by volumes of one size is left by those of the same
pub sized : {H M Q W V E K : Type 0} {m : Meaning H M Q W V ServerNote E} {sink : K → SinkFacts}
    {t : Terms} {o : SinkFacts} {served : HostServed M K V} (options : Options) (a b : ℕ) → a ≡ b
    → LeavesHost m sink t (asked_by options a) o served
    → LeavesHost m sink t (asked_by options b) o served
sized {m = m} {sink = sink} {t = t} {o = o} {served = served} options a b is l =
    subst (λ (n : ℕ). LeavesHost m sink t (asked_by options n) o served) is l
