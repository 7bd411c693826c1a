-- What a run leaves, by how far it came.
use Rattle.std.proofs.Common.{ℕ, ◌≡◌, ◌≤◌, ◌⊎◌, inl, inr, ⊎_elim, Bool, true, false, List, [], ◌∷◌}
use Rattle.std.proofs.Common.{length, map, refl, sym, ap, ◌∙◌, subst, arith, Option, Some, None}
use Rattle.std.proofs.Common.{length-append, lit≤}
use Rattle.std.proofs.lemmas.Bool.{false≢true}
use Rattle.std.proofs.lemmas.List.{append-nil}
use Rattle.std.specs.List.{list_all}
use Rattle.ev_base.specs.Counts.{Rose}
use Rattle.ev_base.specs.Net.{HasNone, IsNew, NetFacts}
use Rattle.ev_base.specs.Terms.{Terms}
use Rattle.tp_reactor.specs.timer_queue.specs.declared.timer.Timer.{Timer}
use Rattle.log_handler.specs.reactor_journal.specs.declared.entry.Entry.{Entry}
use Rattle.log_handler.specs.reactor_journal.proofs.Turning.{count-past}
use Rattle.tp_reactor.specs.reactor_summary.specs.Summary.{is_busy}
use Rattle.log_handler.specs.reactor_model.specs.Handling.{Handling}
use Rattle.tp_reactor.specs.laws_by_turns.specs.ByTurns.{DispatchedByTurns}
use Rattle.log_handler.specs.declared.note.ServerNote.{ServerNote}
use Rattle.tp_reactor.specs.reactor_core.specs.Beginning.{CanBegin}
use Rattle.tp_reactor.specs.reactor_core.specs.Calls.{AreCalls}
use Rattle.tp_reactor.specs.reactor_core.specs.Ends.{WhereTold}
use Rattle.laws_script_taken.specs.reactor_model.specs.Entries.{is_fault}
use Rattle.tp_reactor.specs.reactor_core.specs.Removing.{AreRemovals, alive_handles}
use Rattle.tp_reactor.specs.reactor_core.specs.Stands.{HasTaken, Meaning, NetStands}
use Rattle.tp_reactor.specs.reactor_core.specs.declared.reactor.Core.{Core}
use Rattle.tp_reactor.specs.reactor_state.specs.Tables.{armed_of}
use Rattle.tp_reactor.specs.reactor_desk.specs.Desks.{FillsVolume}
use Rattle.server_run.specs.Finishing.{Finishes, named}
use Rattle.server_run.specs.Journals.{BeginsSo, EndsSo, WindsUp, first_entry}
use Rattle.server_run.specs.Served.{HasLed, IsUnled, LeavesRun, IsBrokenOr}
use Rattle.server_run.specs.declared.asked.Asked.{Asked}
use Rattle.server_run.specs.declared.ending.Ending.{Ending}
use Rattle.server_run.specs.declared.ending.Ending.TheVariants as ending
use Rattle.server_run.specs.declared.ending.Served.{Served}
use Rattle.server_run.proofs.Cuts.{Cut, begins_cut, cut, is_right, notices_of, offers_cut}
use Rattle.server_run.proofs.Cuts.{right_cut, turned_cut}
use Rattle.server_run.proofs.Winding.{Breaks, sum, whole_of_over}

-- ---- a watch that failed

pub broken_told : (how now : Ending) (b : Bool) → now ≡ named how b → b ≡ true → now ≡ ending.Broken
broken_told how now true is q = is
broken_told how now false is q = absurd (false≢true q)

-- an ending that is told names what ended the run
pub names : (how now : Ending) (b : Bool) → now ≡ named how b → IsBrokenOr now how
names how now true is = inl is
names how now false is = inr is

pub broken_why : (P : Type 0) (how now : Ending) (b : Bool) → now ≡ named how b
    → now ≡ ending.Broken → (b ≡ true → P) → (how ≡ ending.Broken → P) → P
broken_why P how now true is broken told caused = told refl
broken_why P how now false is broken told caused = caused (sym is ∙ broken)

ends_named : {N E : Type 0} (until : Option ℕ) (net : NetFacts E) (how now : Ending) (b : Bool)
    (run closing : List (Entry N)) → now ≡ named how b → EndsSo until net how run closing
    → EndsSo until net now run closing
ends_named until net how now true run closing is ends =
    subst (λ (x : Ending). EndsSo until net x run closing) (sym is) tt
ends_named until net how now false run closing is ends =
    subst (λ (x : Ending). EndsSo until net x run closing) (sym is) ends

-- ---- a reactor that was stopped

-- if nothing was handed over
pub none_handed_over : (volume : ℕ) → FillsVolume volume 0
none_handed_over volume some = absurd (omega (arith, some))

begins_of : {N : Type 0} (list journal : List (Entry N)) (c : Cut list journal) → BeginsSo list
    → BeginsSo c.run
begins_of list journal c (inl none) = ⊎_elim
    (λ first. inl (first.0 ∙ none))
    (λ second. absurd (false≢true (sym (ap (λ k. (sum k).ended) none) ∙ second.1)))
    c.how
begins_of list journal c (inr some) = inr (begins_cut list journal some.0 c some.1)

module _ {H M Q W V E : Type 0} (m : Meaning H M Q W V ServerNote E) (armed : Q → List Timer)
    (t : Terms) (asked : Asked) (how : Ending) (served : Served M Q W V)
    (is : served.ending ≡ named how (m.is_broken served.parts.watch)) where
  broken_rose : ((before : ℕ) → m.is_broken served.parts.watch ≡ true
      → t.output_faults ≡ Some before → Rose before (m.faults served.parts.watch))
      → ((before : ℕ) → how ≡ ending.Broken → t.output_faults ≡ Some before
      → Rose before (m.faults served.parts.watch))
      → (before : ℕ) → served.ending ≡ ending.Broken → t.output_faults ≡ Some before
      → Rose before (m.faults served.parts.watch)
  broken_rose failed caused before broken told =
      broken_why (Rose before (m.faults served.parts.watch)) how served.ending
      (m.is_broken served.parts.watch) is broken (λ b. failed before b told)
      (λ b. caused before b told)

  pub leaves : (first : ℕ) (list : List (Entry ServerNote)) (core : Core H M Q W V ServerNote E)
      (fin : Finishes m armed t first list core served.parts) → FillsVolume asked.volume first
      → BeginsSo list
      → DispatchedByTurns m.means t 1 list → list_all (is_right asked.until) list ≡ true
      → ((c : Cut list fin.journal) → EndsSo asked.until (m.facts served.parts.net) how c.run
      c.closing) → (IsUnled served.ending fin.journal ⊎ HasLed m t asked served.ending fin.journal)
      → ((before : ℕ) → how ≡ ending.Broken → t.output_faults ≡ Some before
      → Rose before (m.faults served.parts.watch)) → LeavesRun m armed t asked served
  leaves first list core fin filled begins turned right ends led caused =
      let c : Cut list fin.journal = cut list fin.journal fin.winds in
      record {
        first = first;
        journal = fin.journal;
        stand = fin.stand;
        bound = fin.bound;
        filled = filled;
        came = inr (
          record {
            whole = whole_of_over t.most fin.journal fin.legal fin.over;
            run = c.run;
            closing = c.closing;
            is = c.is;
            begins = begins_of list fin.journal c begins;
            turned = turned_cut m.means t 1 list fin.journal c turned;
            offers = offers_cut m.means t list fin.journal c turned;
            faults = omega (arith, fin.stand.net.faults, count-past is_fault fin.journal);
            notices = notices_of asked.until fin.journal
                (right_cut asked.until list fin.journal c right);
            ends = ends_named asked.until (m.facts served.parts.net) how served.ending
                (m.is_broken served.parts.watch) c.run c.closing is (ends c);
          },
          led,
        );
        broken = broken_rose fin.broken caused;
      }

  -- ---- no reactor was made

  told_none : {A : Type 0} (P : List A → Type 0) (told : Option (List A)) → P [] → HasNone told
      → WhereTold P told
  told_none P None p h = tt
  told_none P (Some xs) p h = subst P (sym h) p

  new_net : (net : NetFacts E) → IsNew net → (t.steady ≡ Some true → net.steady ≡ true)
      → NetStands {N = ServerNote} m.means t [] [] net
  new_net net n steady = record {
    retired = ([], refl, told_none (λ b. b ≡ []) net.retired refl n.retired);
    turned_away = ([], refl, told_none (λ b. b ≡ []) net.turned_away refl n.turned_away);
    attached = n.attached;
    masks = told_none (λ masks. masks ≡ []) net.masks refl n.masks;
    faults = omega arith;
    steady = steady;
    calls = told_none (AreCalls {N = ServerNote} m.means t [] []) net.calls refl n.calls;
    moment = omega arith;
  }

  taken_at_first : (told : Option (List (Entry ServerNote)))
      → WhereTold (λ entries. (n : ℕ) → t.volumes_taken ≡ Some n → length entries ≡ n) told
      → WhereTold (HasTaken t 0 []) told
  taken_at_first None h = tt
  taken_at_first (Some taken) h = (taken, sym (append-nil taken), h)

  for_cause : (cause : Ending) → how ≡ cause → IsBrokenOr served.ending cause
  for_cause cause same =
      subst (IsBrokenOr served.ending) same
      (names how served.ending (m.is_broken served.parts.watch) is)

  pub leaves_unmade : (most : ℕ) (net : M) (timers : Q) (watch : W) (volumes : V) → Breaks m
      → how ≡ ending.NoMemory → CanBegin (m.facts net) (m.keeps t net) (armed timers)
      (m.watched t watch []) (m.volumes volumes) t most
      → served.parts.journal.entries ≡ [] → served.parts.first ≡ 0 → served.parts.net ≡ net
      → served.parts.timers ≡ timers → served.parts.watch ≡ watch
      → served.parts.volumes ≡ volumes → LeavesRun m armed t asked served
  leaves_unmade most net timers watch volumes broke memory begins entries first same_net same_timers
      same_watch same_volumes = record {
        first = 0;
        journal = [];
        stand = record {
          first = first;
          within = omega arith;
          journal = entries;
          net = subst (λ (n : M). NetStands m.means t [] [] (m.facts n)) (sym same_net)
              (new_net (m.facts net) begins.fresh begins.steady);
          net_keeps = subst (m.keeps t) (sym same_net) begins.keeps;
          timers = ap (λ q. map armed_of (armed q)) same_timers
              ∙ ap (map armed_of) begins.no_timers;
          watch = seen;
          volumes = subst (λ (v : V). WhereTold (HasTaken t 0 []) (m.volumes v).taken)
              (sym same_volumes) (taken_at_first (m.volumes volumes).taken begins.taken);
        };
        bound = lit≤ tt;
        filled = none_handed_over asked.volume;
        came = inl (record { named = for_cause ending.NoMemory memory; none = refl });
        broken = broken_rose (λ before b told. broke t served.parts.watch [] before seen b told)
            (λ before b. absurd (let not : ending.NoMemory ≡ ending.Broken = sym memory ∙ b in cc));
      }
    where
      seen : m.watched t served.parts.watch []
      seen = subst (λ (w : W). m.watched t w []) (sym same_watch) begins.seen

  -- ---- no worker led

  none_turned : {N : Type 0} (means : Handling H E N) (list : List (Entry N)) → length list ≤ 1
      → DispatchedByTurns means t 1 list
  none_turned means list short before e behind is low =
      absurd (omega (arith, short, low, ap length is, length-append before (e ∷ behind)))

  nothing_closed : (list journal : List (Entry ServerNote)) (c : Cut list journal) → list ≡ []
      → (c.run ≡ []) × (c.closing ≡ [])
  nothing_closed list journal c none = ⊎_elim
      (λ first. (
        first.0 ∙ none,
        subst (λ (k : List (Entry ServerNote)).
            AreRemovals (is_busy (sum k)) (alive_handles (sum k)) c.closing) none first.2,
      ))
      (λ second. absurd (false≢true (sym (ap (λ k. (sum k).ended) none) ∙ second.1)))
      c.how

  ends_unled : (list journal : List (Entry ServerNote)) (c : Cut list journal) (net : NetFacts E)
      → (how ≡ ending.NotAttached) ⊎ (how ≡ ending.NoMemory)
      → (how ≡ ending.NotAttached → list ≡ []) → EndsSo asked.until net how c.run c.closing
  ends_unled list journal c net (inl apart) none =
      subst (λ (x : Ending). EndsSo asked.until net x c.run c.closing) (sym apart)
      (nothing_closed list journal c (none apart))
  ends_unled list journal c net (inr memory) none =
      subst (λ (x : Ending). EndsSo asked.until net x c.run c.closing) (sym memory) tt

  not_broken : (how ≡ ending.NotAttached) ⊎ (how ≡ ending.NoMemory) → how ≡ ending.Broken → ⊥
  not_broken (inl apart) broken = let both = sym apart ∙ broken in cc
  not_broken (inr memory) broken = let both = sym memory ∙ broken in cc

  -- the reactor was stopped at once, with no handler or with the acceptor alone
  pub leaves_unled : (first : ℕ) (list : List (Entry ServerNote))
      (core : Core H M Q W V ServerNote E) → Finishes m armed t first list core served.parts
      → FillsVolume asked.volume first → (list ≡ []) ⊎ (list ≡ first_entry ∷ [])
      → (how ≡ ending.NotAttached) ⊎ (how ≡ ending.NoMemory)
      → (how ≡ ending.NotAttached → list ≡ []) → LeavesRun m armed t asked served
  leaves_unled first list core fin filled so why none =
      leaves first list core fin filled
      (⊎_elim inl (λ one. inr ([], one)) so)
      (none_turned m.means list (⊎_elim (λ none. omega (arith, ap length none))
      (λ one. omega (arith, ap length one)) so))
      (⊎_elim (λ none. ap (list_all (is_right asked.until)) none)
      (λ one. ap (list_all (is_right asked.until)) one ∙ right_first asked.until) so)
      (λ c. ends_unled list fin.journal c (m.facts served.parts.net) why none)
      (inl (record {
        named = ⊎_elim (λ apart. inl (for_cause ending.NotAttached apart))
            (λ memory. inr (for_cause ending.NoMemory memory)) why;
        winds = ⊎_elim
            (λ none. inl (subst (λ (k : List (Entry ServerNote)). WindsUp k fin.journal) none
            fin.winds))
            (λ one. inr (subst (λ (k : List (Entry ServerNote)). WindsUp k fin.journal) one
            fin.winds)) so;
      }))
      (λ before b. absurd (not_broken why b))
    where
      right_first : (until : Option ℕ) → list_all (is_right {N = ServerNote} until)
          (first_entry ∷ []) ≡ true
      right_first None = refl
      right_first (Some n) = refl
