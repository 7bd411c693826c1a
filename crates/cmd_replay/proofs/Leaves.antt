-- From what a run of the server leaves to what one over a script does.
use Rattle.std.proofs.Common.{◌≡◌, ◌≤◌, ◌+◌, ◌*◌, ◌/◌, ◌==◌, ◌⊎◌, inl, inr, ⊎_elim, arith, ℕ, suc}
use Rattle.std.proofs.Common.{Bool, true, false, not, List, [], ◌∷◌, length, drop, Option, None}
use Rattle.std.proofs.Common.{refl, sym, ap, ◌∙◌, subst, length-append}
use Rattle.std.specs.List.{list_all, list_any}
use Rattle.std.proofs.lemmas.Bool.{and_from, and_parts, eqb-true, false≢true}
use Rattle.std.proofs.lemmas.List.Folds.{list_all-append}
use Rattle.ev_base.specs.Counts.{Rose}
use Rattle.ev_base.specs.Terms.{Terms}
use Rattle.ev_base.specs.declared.end.PeerEnd.{Ghosts}
use Rattle.server_run.specs.reactor_journal.specs.declared.entry.Entry.{Entry}
use Rattle.server_run.specs.reactor_journal.specs.Past.{past_of}
use Rattle.server_run.specs.reactor_journal.specs.Follow.{follows_ready}
use Rattle.server_run.specs.reactor_summary.specs.Summary.{Summary, summary}
use Rattle.server_run.specs.reactor_summary.specs.declared.parts.LiveHandle.{LiveHandle}
use Rattle.server_run.specs.reactor_model.specs.Volumes.{VolumesFacts}
use Rattle.server_run.specs.reactor_core.specs.Acting.{StopAppends}
use Rattle.server_run.specs.reactor_core.specs.Removing.{AreRemovals, alive_handles}
use Rattle.server_run.specs.reactor_core.specs.Settling.{IsClosing}
use Rattle.server_run.specs.reactor_core.specs.Stands.{Meaning, meaning, HasTaken}
use Rattle.server_run.specs.reactor_state.specs.declared.state.ReactorState.{ReactorState}
use Rattle.server_run.specs.reactor_state.specs.declared.places.Places.{Places}
use Rattle.server_run.specs.reactor_state.specs.declared.places.Pick.{Pick}
use Rattle.server_run.specs.timer_queue.specs.declared.timer.Timer.{Timer}
use Rattle.server_run.specs.reactor_core.specs.Ends.{WhereTold}
use Rattle.ev_base.specs.Terms.{Group}
use Rattle.script_net.specs.Hosts.{new_net}
use Rattle.grouped_lines.specs.laws_script_runs.specs.Runs.{IsWhole}
use Rattle.laws_journal_length.specs.laws_script_serial.specs.Serial.{Serial}
use Rattle.server_run.specs.reactor_desk.specs.Desks.{FillsVolume}
use Rattle.server_run.specs.tp_reactor.specs.Alone.{RunsTo}
use Rattle.server_run.specs.tp_reactor.specs.declared.working.Ran.{Ran}
use Rattle.server_run.specs.log_handler.specs.declared.note.ServerNote.{ServerNote}
use Rattle.server_run.specs.acceptor.specs.Servers.{servers}
use Rattle.server_run.specs.acceptor.specs.declared.server.ServerHandler.{ServerHandler}
use Rattle.script_net.specs.event_script.specs.Script.{ScriptGroup, steps_of, groups_told}
use Rattle.script_net.specs.NetContent.{NetContent, script_net_facts, script_net_keeps, is_steady}
use Rattle.script_net.specs.ScriptEnd.{script_end_facts, ScriptEndKeeps}
use Rattle.script_net.specs.declared.end.ScriptEnd.{ScriptEnd}
use Rattle.grouped_lines.specs.laws_script_runs.specs.Runs as runs
use Rattle.server_run.specs.reactor_model.specs.Entries.{is_notice}
use Rattle.laws_script_served.specs.Served.{ServesScript, FollowsScript, IsServedToOver}
use Rattle.laws_script_served.proofs.Following.{follows-script, ends-over, runs-over}
use Rattle.laws_script_served.proofs.Scripts.{text-steps}
use Rattle.server_run.specs.laws_script_taken.specs.Laws.{RunsSomehow}
use Rattle.server_run.specs.laws_script_taken.proofs.Connections.{connections_taken}
use Rattle.laws_journal_length.specs.laws_one_worker.specs.Alone.{RunsAlone}
use Rattle.laws_journal_length.specs.laws_one_worker.proofs.Whole.{serial}
use Rattle.laws_journal_length.specs.Few.{all_bytes, quiet_groups}
use Rattle.laws_journal_length.proofs.Short.{short}
use Rattle.server_run.specs.tp_reactor.specs.declared.working.Ran.TheVariants as ran
use Rattle.server_run.specs.Journals.{IsRun, EndsAtNetOver, EndsSo, HasNotices, WindsUp, BeginsSo}
use Rattle.server_run.specs.Journals.{first_entry}
use Rattle.server_run.specs.Served.{CameSo, FaultRose, HasLed, IsUnled, LeavesRun, IsBrokenOr}
use Rattle.server_run.specs.Served.{ending_of}
use Rattle.server_run.specs.declared.asked.Asked.{Asked}
use Rattle.server_run.specs.declared.ending.Ending.{Ending}
use Rattle.server_run.specs.declared.ending.Ending.TheVariants as ending
use Rattle.server_run.specs.declared.ending.Served.{Served}
use Rattle.server_run.proofs.Came.{came_as, made_at, unled_goes_on, unmade_goes_on}
use Rattle.cmd_replay.specs.Runs.{ForScript, IsScriptRun, IsOfOneWorker, LeavesScript, EndsScript}
use Rattle.cmd_replay.specs.Runs.{FailsNet}
use Rattle.cmd_replay.proofs.All.{all-of}

-- ---- removals

-- removals remove and close
closed : {N : Type 0} (b : Bool) (h : LiveHandle) (es : List (Entry N)) → IsClosing b h.handle es
    → (list_all runs.is_closing es ≡ true) × (length es ≤ 1)
closed true h es is = (
  ap (list_all runs.is_closing) is.1,
  subst (λ (k : List (Entry _)). length k ≤ 1) (sym is.1) (omega arith),
)
closed false h es is = (
  ap (list_all runs.is_closing) is,
  subst (λ (k : List (Entry _)). length k ≤ 1) (sym is) (omega arith),
)

removals-close : {N : Type 0} (busy : ℕ → Bool) (hs : List LiveHandle) (es : List (Entry N))
    → AreRemovals busy hs es → (list_all runs.is_closing es ≡ true) × (length es ≤ 2 * length hs)
removals-close busy [] es r = (
  ap (list_all runs.is_closing) r,
  subst (λ (k : List (Entry _)). length k ≤ 2 * 0) (sym r) (omega arith),
)
removals-close busy (h ∷ hs) es r =
    let c = closed (not (busy h.handle.0)) h r.0 r.2 in
    let rest = removals-close busy hs r.1 r.3 in
    let many : length es ≡ suc (length r.0 + length r.1) =
    ap length r.4 ∙ ap suc (length-append r.0 r.1) in (
      ap (list_all runs.is_closing) r.4 ∙ list_all-append runs.is_closing r.0 r.1
          ∙ and_from _ _ c.0 rest.0,
      (let one = c.1 in let others = rest.1 in
          omega (arith, many, one, others)),
    )

-- ---- endings

is-over : Ending → Bool
is-over ending.Over = true
is-over ending.Broken = false
is-over ending.NotAttached = false
is-over ending.NetFault = false
is-over ending.NoMemory = false
is-over ending.VolumeFault = false
is-over ending.Notified = false

answer-over : (answer : Ran) → ending_of answer ≡ ending.Over → answer ≡ ran.Over
unfolding is-over
answer-over ran.Over is = refl
answer-over ran.Broken is = absurd (false≢true (ap is-over is))
answer-over ran.NetFault is = absurd (false≢true (ap is-over is))
answer-over ran.NoMemory is = absurd (false≢true (ap is-over is))
answer-over ran.VolumeFault is = absurd (false≢true (ap is-over is))
answer-over ran.Stopped is = absurd (false≢true (ap is-over is))

led-over : (how : Ending) (answer : Ran) → IsBrokenOr how (ending_of answer) → how ≡ ending.Over
    → answer ≡ ran.Over
unfolding is-over
led-over how answer named over = ⊎_elim
    (λ (b : how ≡ ending.Broken). absurd (false≢true (ap is-over (sym b ∙ over))))
    (λ (n : how ≡ ending_of answer). answer-over answer (sym n ∙ over)) named

-- a net that plays a script and is steady failed in no call
failed-none : (net : NetContent) → is_steady net ≡ true → (net.failed_waits ≡ 0)
    × (net.failed_attaches ≡ 0)
failed-none net steady =
    let all = and_parts _ (net.failed_attaches == 0) steady in
    let waits = and_parts _ (net.failed_waits == 0) all.0 in
    (eqb-true net.failed_waits 0 waits.1, eqb-true net.failed_attaches 0 all.1)

none-rose : (now : ℕ) → now ≡ 0 → Rose 0 now → ⊥
none-rose now none rose = omega (arith, none, rose)

pub no-net-fault : (net : NetContent) (v w : VolumesFacts ServerNote) (groups : List Group)
    (how : Ending) → is_steady net ≡ true
    → FaultRose how (script_net_facts (new_net groups)) (script_net_facts net) v w → FailsNet how
    → ⊥
no-net-fault net v w groups ending.NotAttached steady rose is =
    none-rose net.failed_attaches (failed-none net steady).1 rose
no-net-fault net v w groups ending.NetFault steady rose is =
    none-rose net.failed_waits (failed-none net steady).0 rose
no-net-fault net v w groups ending.Broken steady rose is = absurd is
no-net-fault net v w groups ending.NoMemory steady rose is = absurd is
no-net-fault net v w groups ending.VolumeFault steady rose is = absurd is
no-net-fault net v w groups ending.Notified steady rose is = absurd is
no-net-fault net v w groups ending.Over steady rose is = absurd is

-- a journal that no worker led is short
few-wound : (list journal : List (Entry ServerNote)) (alive : List LiveHandle)
    → alive_handles (summary (past_of list)) ≡ alive → (summary (past_of list)).ended ≡ false
    → length list + length alive ≤ 2
    → WindsUp list journal → length journal ≤ 200
few-wound list journal alive are running small w =
    let stops = subst (λ (b : Bool). StopAppends (summary (past_of list)) b w.more) running w.stops
    in
    let gone = (removals-close _ _ stops.0 stops.1).1 in
    let many : length journal ≡ length list + suc (length stops.0) =
    ap length w.is ∙ length-append list w.more
    ∙ ap (λ (es : List (Entry ServerNote)). length list + length es) stops.2 in
    let alive_many : length (alive_handles (summary (past_of list))) ≡ length alive =
    ap length are in
    omega (arith, gone, many, alive_many, small)

few-unled : (journal : List (Entry ServerNote)) → WindsUp [] journal
    ⊎ WindsUp (first_entry ∷ []) journal → length journal ≤ 200
few-unled journal winds = ⊎_elim
    (λ (w : WindsUp [] journal). few-wound [] journal [] refl refl (omega arith) w)
    (λ (w : WindsUp (first_entry ∷ []) journal).
    few-wound (first_entry ∷ []) journal _ refl refl (omega arith) w)
    winds

module _ {G : Ghosts ScriptEnd} {W V Q : Type 0} (shows : ReactorState Q → Summary → Type 0)
    (places : Places → ReactorState Q → Type 0) (placed : ReactorState Q → Pick → Type 0)
    (watched : Terms → W → List (Entry ServerNote) → Type 0) (faults : W → ℕ) (broken : W → Bool)
    (seen : W → ℕ) (volumes : V → VolumesFacts ServerNote) where
  abbrev pub script_meaning : Meaning (ServerHandler ScriptEnd G) NetContent Q W V ServerNote
      ScriptEnd
  script_meaning = meaning (servers script_end_facts ScriptEndKeeps) script_net_facts
      script_net_keeps shows places placed watched faults broken seen volumes

  module _ (armed : Q → List Timer) (t : Terms) (asked : Asked) (groups : List ScriptGroup)
      (served : Served NetContent Q W V)
      (f : ForScript asked groups t) (unlimited : asked.limit ≡ None)
      (l : LeavesRun script_meaning armed t asked served)
      (rose : (how : Ending) → served.ending ≡ how → FailsNet how → ⊥) where
    abbrev net : NetContent
    net = served.parts.net

    fails : (net.failed_waits ≡ 0) × (net.failed_attaches ≡ 0)
    fails = failed-none net (l.stand.net.steady f.steady)

    serves : IsWhole t.most l.journal → ServesScript G t groups asked.idle l.journal net
    serves whole = record {
      text = f.text;
      is_text = f.is_text;
      have = f.have;
      whole = whole;
      stands = l.stand.net;
      keeps = l.stand.net_keeps;
      attaches = fails.1;
    }

    module _ (r : IsRun {H = ServerHandler ScriptEnd G}
        (servers {G = G} script_end_facts ScriptEndKeeps) t asked.until (script_net_facts net)
        served.ending l.journal) where
      follows : FollowsScript groups asked.idle l.journal
      follows = follows-script G t groups asked.idle l.journal net (serves r.whole)

      begins-with : (behind : follows_ready (past_of r.run) ≡ true) → BeginsSo r.run
          → (rest : List (Entry ServerNote)) × (r.run ≡ first_entry ∷ rest)
      begins-with behind begins = ⊎_elim
          (λ (none : r.run ≡ []). absurd (false≢true
          (ap (λ (l : List (Entry ServerNote)). follows_ready (past_of l)) (sym none) ∙ behind)))
          (λ b. b) begins

      ended-over : EndsAtNetOver (script_net_facts net) r.run r.closing
          → IsServedToOver G t l.journal net
      ended-over e = record {
        run = r.run;
        closing = r.closing;
        is = r.is;
        begins = begins-with e.behind r.begins;
        turned = r.turned;
        behind = e.behind;
        rests = e.idle;
        over = e.over;
        closes = (removals-close _ _ r.closing e.closes).0;
      }

      ends-so : (how : Ending) → served.ending ≡ how
          → EndsSo asked.until (script_net_facts net) how r.run r.closing
          → EndsScript asked groups how l.journal r.run
      ends-so ending.Over is e = ends-over G t groups asked.idle l.journal net (serves r.whole)
          (ended-over e)
      ends-so ending.Notified is e = e
      ends-so ending.NotAttached is e = rose ending.NotAttached is tt
      ends-so ending.NetFault is e = rose ending.NetFault is tt
      ends-so ending.Broken is e = tt
      ends-so ending.NoMemory is e = tt
      ends-so ending.VolumeFault is e = tt

      no-notice : asked.until ≡ None → list_any is_notice l.journal ≡ false
      no-notice none = subst (λ (until : Option ℕ). HasNotices until l.journal) none r.notices

      runs-somehow : RunsSomehow {H = ServerHandler ScriptEnd G}
          (servers {G = G} script_end_facts ScriptEndKeeps) t asked.idle groups l.journal
      runs-somehow = record {
        script = text-steps f.text groups f.is_text;
        whole = r.whole;
        run = r.run;
        closing = r.closing;
        is = r.is;
        begins = r.begins;
        acts = record { asks = λ up deed may. may; installs = λ said. refl };
        turned = r.turned;
        offers = r.offers;
        turns = follows.turns;
      }

      pub is-run : IsScriptRun G t asked groups served.ending l.journal
      is-run = record {
        whole = subst (λ (n : ℕ). IsWhole n l.journal) f.most r.whole;
        run = r.run;
        closing = r.closing;
        is = r.is;
        begins = r.begins;
        turned = r.turned;
        offers = r.offers;
        notices = r.notices;
        follows = follows;
        taken = connections_taken (servers {G = G} script_end_facts ScriptEndKeeps) t asked.idle
            groups l.journal runs-somehow;
        ends = ends-so served.ending refl r.ends;
        over = λ over none. runs-over G t groups asked.idle l.journal net (serves r.whole)
            (ended-over (subst (λ (how : Ending).
            EndsSo asked.until (script_net_facts net) how r.run r.closing) over r.ends))
            (no-notice none);
      }

      alone : asked.workers ≡ 1 → asked.until ≡ None
          → (d : HasLed script_meaning t asked served.ending l.journal)
          → RunsAlone script_meaning d.terms d.answer asked.idle groups l.journal
      alone workers none d = record {
        acts = record { asks = λ up deed may. may; installs = λ said. refl };
        names = λ origin. refl;
        by_turn = ap (λ (t : Terms). t.by_turn) d.run_terms ∙ f.terms.by_turn;
        idle_is = ap (λ (t : Terms). t.idle) d.run_terms ∙ f.terms.idle;
        limit = ap (λ (t : Terms). t.limit) d.run_terms ∙ f.have.limit;
        offers_are = ap (λ (t : Terms). t.offers) d.run_terms ∙ f.have.stories_are.of_listener;
        plays = λ other keeps. (keeps (groups_told groups)
            (ap (λ (t : Terms). t.groups) d.run_terms ∙ f.have.groups_are)).1;
        run = d.list;
        alone = subst (λ (limit : Option ℕ).
            RunsTo script_meaning d.terms limit (first_entry ∷ []) d.answer d.list) unlimited
            (d.alone workers);
        closing = d.winds.more;
        stops = d.winds.stops;
        is = d.winds.is;
        whole = subst (λ (n : ℕ). IsWhole n l.journal)
            (sym (ap (λ (t : Terms). t.most) d.run_terms)) r.whole;
        no_notice = no-notice none;
        no_fault = follows.none_failed;
        follows = follows.follows;
        turns = follows.turns;
      }

      of-one : asked.workers ≡ 1 → asked.until ≡ None → (IsUnled served.ending l.journal)
          ⊎ (HasLed script_meaning t asked served.ending l.journal)
          → IsOfOneWorker asked groups served.ending l.journal
      of-one workers none led = ⊎_elim
          (λ (u : IsUnled served.ending l.journal).
          record {
            serial = λ over. absurd (unled_goes_on served.ending l.journal u over);
            few = λ idle. short-of (few-unled l.journal u.winds);
          })
          (λ (d : HasLed script_meaning t asked served.ending l.journal). record {
            serial = λ over.
                let answer = led-over served.ending d.answer d.named over in
                subst (λ (n : ℕ). Serial n asked.idle groups l.journal)
                (ap (λ (t : Terms). t.most) d.run_terms ∙ f.most)
                (serial script_meaning d.terms asked.idle groups l.journal
                (subst (λ (a : Ran). RunsAlone script_meaning d.terms a asked.idle groups
                l.journal) answer (alone workers none d)));
            few = λ idle. short script_meaning d.terms d.answer groups l.journal
                (subst (λ (i : Option ℕ). RunsAlone script_meaning d.terms d.answer i groups
                l.journal) idle (alone workers none d));
          })
          led
        where
          short-of : length l.journal ≤ 200 → length l.journal
              ≤ 16 * length (steps_of groups) + all_bytes (steps_of groups) / 1024
              + quiet_groups groups + 200
          short-of few = omega (arith, few)

    abbrev Run : Type 0
    Run = IsRun {H = ServerHandler ScriptEnd G} (servers {G = G} script_end_facts ScriptEndKeeps) t
        asked.until (script_net_facts net) served.ending l.journal

    abbrev Led : Type 0
    Led = HasLed script_meaning t asked served.ending l.journal

    one-so : asked.workers ≡ 1 → asked.until ≡ None → CameSo served.ending l.journal Run Led
        → IsOfOneWorker asked groups served.ending l.journal
    one-so workers none (inr came) = of-one came.0 workers none came.1
    one-so workers none (inl unmade) = record {
      serial = λ over. absurd (unmade_goes_on served.ending l.journal unmade over);
      few = λ idle. none-long (ap length unmade.none);
    }
      where
        none-long : length l.journal ≡ 0 → length l.journal
            ≤ 16 * length (steps_of groups) + all_bytes (steps_of groups) / 1024
            + quiet_groups groups + 200
        none-long none = omega (arith, none)

    pub leaves-script : LeavesScript G script_meaning t asked groups served
    leaves-script = record {
      journal = l.journal;
      is = record {
        within = subst (λ (n : ℕ). n ≤ length l.journal) (sym l.stand.first) l.stand.within;
        held = l.stand.journal ∙ ap (λ (n : ℕ). drop n l.journal) (sym l.stand.first);
        taken_is = subst (λ (n : ℕ). WhereTold (HasTaken t n l.journal)
            (volumes served.parts.volumes).taken) (sym l.stand.first) l.stand.volumes;
        filled = subst (λ (n : ℕ). FillsVolume asked.volume n) (sym l.stand.first) l.filled;
      };
      watch = l.stand.watch;
      ran = record {
        bound = l.bound;
        came = came_as served.ending l.journal (λ r. is-run r) (λ led. led) l.came;
        all = λ over none. all-of G t asked groups l.journal f.most served.ending
            (is-run (made_at served.ending l.journal (inl over) l.came)) over none;
        one = λ workers none. one-so workers none l.came;
      };
    }
