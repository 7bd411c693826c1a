-- From the parts that stand for a run over a script to what its journal follows.
use Rattle.std.proofs.Common.{◌≡◌, ◌≤◌, arith, ℕ, suc, Bool, true, false, if◌then◌else◌, ◌||◌, List}
use Rattle.std.proofs.Common.{[], ◌∷◌, ◌++◌, length, Option, refl, sym, ap, ◌∙◌, subst}
use Rattle.std.specs.List.{list_any}
use Rattle.ev_base.specs.Terms.{Terms}
use Rattle.ev_base.specs.declared.end.PeerEnd.{Ghosts}
use Rattle.laws_script_calls.specs.reactor_journal.specs.declared.entry.Entry.{Entry}
use Rattle.laws_script_calls.specs.reactor_journal.specs.declared.entry.Entry.TheVariants.{Ended}
use Rattle.laws_script_calls.specs.reactor_journal.specs.Past.{past_of, count}
use Rattle.laws_script_calls.specs.reactor_model.specs.Entries.{is_fault, is_notice}
use Rattle.laws_script_calls.specs.log_handler.specs.declared.note.ServerNote.{ServerNote}
use Rattle.laws_script_calls.specs.acceptor.specs.Servers.{servers}
use Rattle.laws_script_calls.specs.acceptor.specs.declared.server.ServerHandler.{ServerHandler}
use Rattle.script_net.specs.event_script.specs.Script.{ScriptGroup, steps_of, groups_told}
use Rattle.script_net.specs.event_script.specs.Stories.{offers}
use Rattle.script_net.specs.NetContent.{NetContent}
use Rattle.script_net.specs.ScriptEnd.{script_end_facts, ScriptEndKeeps}
use Rattle.script_net.specs.declared.end.ScriptEnd.{ScriptEnd}
use Rattle.laws_script_calls.proofs.Following.{plays_on}
use Rattle.laws_script_calls.proofs.Leaving.{ends_tell}
use Rattle.laws_script_calls.specs.laws_script_runs.specs.Laws.{RunsOver}
use Rattle.laws_script_calls.specs.laws_script_runs.specs.Runs as runs
use Rattle.laws_script_calls.specs.laws_script_runs.proofs.Winding.{any_reverse}
use Rattle.std.proofs.lemmas.List.{reverse-reverse}
use Rattle.laws_script_served.specs.Served.{ServesScript, FollowsScript, IsServedToOver}
use Rattle.laws_script_served.proofs.Scripts.{text-steps}
use Rattle.laws_script_calls.specs.laws_script_told.specs.Told.{last_wait, is_over}
use Rattle.laws_script_calls.specs.reactor_core.specs.Marks.{answers, is_polled}
use Rattle.laws_script_served.proofs.Waits.{answers-tell, over-last, last_of, closings-wait}
use Rattle.laws_script_served.proofs.Waits.{past-behind}
use mathlib.Core.List.{reverse_aux}

-- an entry that none of a list is, by its count
none-counted : {A : Type 0} (p : A → Bool) (l : List A) → count p l ≡ 0 → list_any p l ≡ false
none-counted p [] none = refl
none-counted p (x ∷ l) none = by-test (p x) (none-counted p l) none where
  by-test : (b : Bool) → (count p l ≡ 0 → list_any p l ≡ false)
      → (if b then suc (count p l) else count p l) ≡ 0 → (b || list_any p l) ≡ false
  by-test true rest none = absurd (zero-one (count p l) none) where
    zero-one : (n : ℕ) → suc n ≡ 0 → ⊥
    zero-one n none = omega (arith, none)
  by-test false rest none = rest none

no-faults : (journal : List (Entry ServerNote)) (many : ℕ) → count is_fault (past_of journal) ≤ many
    → many ≡ 0 → list_any is_fault journal ≡ false
no-faults journal many few none =
    subst (λ l. list_any is_fault l ≡ false) (reverse-reverse journal)
    (any_reverse is_fault (past_of journal)
    (none-counted is_fault (past_of journal) (omega (arith, few, none))))

module _ (G : Ghosts ScriptEnd) (t : Terms) (groups : List ScriptGroup) (idle : Option ℕ)
    (journal : List (Entry ServerNote)) (net : NetContent)
    (s : ServesScript G t groups idle journal net) where
  pub follows-script : FollowsScript groups idle journal
  follows-script = record {
    follows = (plays_on {H = ServerHandler ScriptEnd G} (servers script_end_facts ScriptEndKeeps) t
        (offers (steps_of groups)) (groups_told groups) t.most s.have.limit
        s.have.stories_are.of_listener (λ origin. refl)
        (past_of journal) [] net.calls s.whole.legal s.stands.calls
        (s.keeps (groups_told groups) s.have.groups_are).1).follows;
    turns = ends_tell {H = ServerHandler ScriptEnd G} (servers script_end_facts ScriptEndKeeps)
        script_end_facts ScriptEndKeeps t (steps_of groups) idle s.have.stories_are
        (λ origin end had reason said gone. gone)
        t.most journal s.stands.retired.0 s.stands.turned_away.0 s.whole s.stands.retired.1
        s.stands.turned_away.1;
    none_failed = no-faults journal net.failed_attaches s.stands.faults s.attaches;
  }

  over-here : (e : IsServedToOver G t journal net)
      → is_over (last_wait (groups_told groups) (past_of e.run)) ≡ true
  over-here e =
      let told = answers-tell {H = ServerHandler ScriptEnd G}
      (servers script_end_facts ScriptEndKeeps) t (offers (steps_of groups))
      (groups_told groups) t.most s.have.limit s.have.stories_are.of_listener (λ origin. refl)
      (past_of journal) [] net.calls s.whole.legal s.stands.calls
      (s.keeps (groups_told groups) s.have.groups_are).1 in
      let behind : past_of journal ≡ reverse_aux e.closing (Ended ∷ past_of e.run) =
      ap past_of e.is ∙ past-behind e.run (Ended ∷ e.closing) [] in
      let same = closings-wait (groups_told groups) e.closing (Ended ∷ past_of e.run) e.closes in
      let last : last_wait (groups_told groups) (past_of e.run) ≡ last_of (answers net.calls) =
      sym same.0 ∙ ap (last_wait (groups_told groups)) (sym behind) ∙ told.last in
      let many : count is_polled (past_of e.run) ≡ length (answers net.calls) =
      sym same.1 ∙ ap (count is_polled) (sym behind) ∙ told.many in
      ap is_over last ∙ over-last (count is_polled (past_of e.run)) (answers net.calls) many e.over

  pub ends-over : IsServedToOver G t journal net → runs.EndsAtOver (groups_told groups) journal
  ends-over e = record {
    run = e.run;
    closing = e.closing;
    is = e.is;
    at_over = record { behind = e.behind; over = over-here e; idle = e.rests };
    closes = e.closes;
  }

  pub runs-over : IsServedToOver G t journal net → list_any is_notice journal ≡ false
      → RunsOver {H = ServerHandler ScriptEnd G} (servers script_end_facts ScriptEndKeeps) t idle
      groups journal
  unfolding ends-over
  runs-over e no_notice = record {
    script = text-steps s.text groups s.is_text;
    whole = s.whole;
    begins = (e.begins.0 ++ Ended ∷ e.closing, e.is ∙ ap (λ l. l ++ Ended ∷ e.closing) e.begins.1);
    ends = ends-over e;
    acts = record { asks = λ up deed may. may; installs = λ said. refl };
    turned = e.turned;
    idle_is = s.have.stories_are.idle_is;
    no_notice = no_notice;
    follows = follows-script.follows;
    turns = follows-script.turns;
  }
