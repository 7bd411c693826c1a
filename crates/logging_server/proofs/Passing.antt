-- From what a replay wrote to what its audit finds.
use Rattle.std.proofs.Common.{◌≡◌, ◌∙◌, ◌≤◌, ◌+◌, arith, ℕ, List, [], ◌∷◌, ◌++◌, length, Option}
use Rattle.std.proofs.Common.{Some, None, refl, sym, ap, subst}
use Rattle.std.specs.Prelude.{IfSome}
use Rattle.std.specs.List.{AllByRecursion}
use Rattle.std.proofs.lemmas.List.{append_cancel_left, length-drop}
use Rattle.ev_base.specs.Sink.{SinkFacts}
use Rattle.ev_base.specs.Source.{SourceFacts}
use Rattle.ev_base.specs.Terms.{Terms}
use Rattle.ev_base.specs.declared.end.PeerEnd.{Ghosts}
use Rattle.cmd_audit.specs.Audits.{Audits}
use Rattle.cmd_audit.specs.Laws.{Passes}
use Rattle.cmd_audit.specs.declared.auditing.AuditEnd.{AuditEnd}
use Rattle.cmd_audit.proofs.Passing.{passes}
use Rattle.cmd_line.specs.Ranges.{IsWithin}
use Rattle.cmd_line.specs.declared.options.Form.{Form}
use Rattle.cmd_line.specs.declared.options.Form.TheVariants.{Journal}
use Rattle.cmd_line.specs.declared.options.Options.{Options}
use Rattle.cmd_gen.specs.cmd_replay.specs.acceptor.specs.Servers.{servers}
use Rattle.cmd_gen.specs.cmd_replay.specs.acceptor.specs.declared.server.ServerHandler.{
  ServerHandler,
}
use Rattle.cmd_gen.specs.cmd_replay.specs.Outputs.{WritesText, text_in}
use Rattle.cmd_gen.specs.cmd_replay.specs.Replaying.{Replays, ReplaysWhole, ServesText}
use Rattle.cmd_gen.specs.cmd_replay.specs.Replays.{EndsReplay, RunsScript, asked_by, terms_in}
use Rattle.cmd_gen.specs.cmd_replay.specs.Runs.{IsScriptRun}
use Rattle.cmd_gen.specs.cmd_replay.proofs.All.{run-of}
use Rattle.cmd_gen.specs.cmd_replay.specs.declared.ends.Played.{Played}
use Rattle.cmd_gen.specs.cmd_replay.specs.declared.ends.ReplayEnd.{ReplayEnd}
use Rattle.cmd_gen.specs.cmd_replay.specs.declared.ends.ReplayEnd.TheVariants.{Done}
use Rattle.cmd_gen.specs.cmd_replay.specs.laws_script_served.proofs.Scripts.{text-steps}
use Rattle.cmd_gen.specs.cmd_replay.specs.server_run.specs.Journals.{HasNotices}
use Rattle.cmd_gen.specs.cmd_replay.specs.server_run.specs.declared.asked.Asked.{Asked}
use Rattle.laws_journal_limits.proofs.Entries.{journal_within}
use Rattle.laws_journal_limits.proofs.Scripts.{text_within}
use Rattle.log_handler.specs.declared.note.ServerNote.{ServerNote}
use Rattle.reactor_model.specs.Volumes.{VolumesFacts}
use Rattle.reactor_model.specs.reactor_journal.specs.declared.entry.Entry.{Entry}
use Rattle.reactor_model.specs.reactor_journal.specs.declared.entry.Entry.TheVariants.{Ended}
use Rattle.script_net.specs.ScriptEnd.{script_end_facts, ScriptEndKeeps}
use Rattle.script_net.specs.declared.end.ScriptEnd.{ScriptEnd}
use Rattle.script_net.specs.event_script.specs.Grammar.{last_moment}
use Rattle.logging_server.specs.Laws.{ReplaysToText}
use Rattle.cmd_audit.specs.journal_reader.specs.Journals.{IsJournalText}
use Rattle.cmd_audit.specs.journal_reader.specs.Limits.{EntryIsWithin}

same_text : (a b : List ℕ) → ◌≡◌ {A = Option (List ℕ)} (Some a) (Some b) → a ≡ b
same_text a b q = cc

-- an idle time is that of the words
idle_few : (idle : Option ℕ) → IfSome idle (IsWithin 1 4294967295) → (time : ℕ)
    → idle ≡ Some time → time ≤ last_moment
idle_few None within time told = absurd (let q = told in cc)
idle_few (Some milliseconds) within time told =
    let high = within.1 in
    let same = same_count milliseconds time told in
    omega (arith, high, same)
  where
    same_count : (a n : ℕ) → ◌≡◌ {A = Option ℕ} (Some a) (Some n) → a ≡ n
    same_count a n q = cc

-- the text of a journal that has an entry
spelt_so : (most : ℕ) (text : List ℕ) (journal run closing : List (Entry ServerNote))
    → journal ≡ run ++ Ended ∷ closing → 1 ≤ most → most ≤ 4097
    → AllByRecursion EntryIsWithin journal → text ≡ text_in Journal most journal
    → IsJournalText text most journal
spelt_so most text [] run closing is low high within are = absurd (none run is)
  where
    none : (run : List (Entry ServerNote)) → [] ≡ run ++ Ended ∷ closing → ⊥
    none [] q = cc
    none (e ∷ rest) q = cc
spelt_so most text (e ∷ rest) run closing is low high within are =
    record { spelt = are; most_within = (low, high); within = within }

module _ {K V : Type 0} (G : Ghosts ScriptEnd) (sink : K → SinkFacts)
    (facts : V → VolumesFacts ServerNote) (options : Options) (limit : ℕ) (i j : SourceFacts)
    (output : K) (volumes : V) (played : Played K V) (text : List ℕ)
    (r : ReplaysToText G sink facts options limit i output volumes j played text) where
  abbrev asked : Asked
  asked = asked_by options (facts volumes).size

  -- the input was read whole, and its script was run over
  whole : ReplaysWhole G sink facts options limit i output volumes j played Done
  whole = subst (λ (e : ReplayEnd). Replays G sink facts options limit i output volumes j played e)
      r.done r.replays

  served : ServesText G sink facts options whole.text output volumes played
  served = whole.replays

  runs : RunsScript G sink facts Journal asked served.groups (sink output) (facts volumes) played
  runs = subst (λ (f : Form). RunsScript G sink facts f asked served.groups (sink output)
      (facts volumes) played) r.form served.runs

  abbrev terms : Terms
  terms = terms_in Journal asked served.groups (sink output) (facts volumes)

  run : IsScriptRun G terms asked served.groups runs.how runs.journal
  run =
      let ends = subst (λ (e : ReplayEnd). EndsReplay e runs.how (facts volumes).faults
      (facts played.volumes).faults) r.done runs.ends in
      run-of terms asked served.groups runs.journal runs.how ends runs.ran.came

  -- the text is that of its journal
  wrote : text ≡ text_in Journal (options.most + 1) runs.journal
  wrote =
      let written = subst (λ (e : ReplayEnd). WritesText Journal e (sink output)
      (text_in Journal (options.most + 1) runs.journal) (sink played.output)) r.done runs.written in
      append_cancel_left r.start text _
      (same_text _ _ (sym r.grown ∙ written.text r.start r.told))

  within : AllByRecursion EntryIsWithin runs.journal
  within =
      let bound = runs.ran.bound in
      let taken = whole.whole.takes.within in
      let few = r.short in
      journal_within {H = ServerHandler ScriptEnd G}
      (servers {G = G} script_end_facts ScriptEndKeeps) terms options.idle served.groups
      runs.journal
      (record {
        script = text-steps whole.text served.groups served.is_text;
        whole = run.whole;
        run = run.run;
        closing = run.closing;
        is = run.is;
        begins = run.begins;
        acts = record { asks = λ up deed may. may; installs = λ said. refl };
        turned = run.turned;
        offers = run.offers;
        turns = run.follows.turns;
      }) run.follows.follows
      (subst (λ (until : Option ℕ). HasNotices until runs.journal) r.unnoticed run.notices) refl
      (idle_few options.idle r.ranges.idle)
      (text_within whole.text served.groups served.is_text (omega (arith, taken, few)))
      (omega (arith, bound))

  spelt : IsJournalText text (options.most + 1) runs.journal
  spelt =
      let high = r.ranges.most.1 in
      spelt_so (options.most + 1) text runs.journal run.run run.closing run.is (omega arith)
      (omega (arith, high)) within wrote

  -- those that were handed over and those that are held
  many : length runs.journal ≡ played.first + length played.journal.entries
  many =
      let held = ap length runs.is.held in
      let rest = length-drop played.first runs.journal in
      let low = runs.is.within in
      omega (arith, held, rest, low)

  pub replayed_pass : (most : ℕ) (given : List ℕ) (k l : SourceFacts) (o p : SinkFacts)
      (how : AuditEnd) → k.bytes ≡ Some (record { given = given; left = text })
      → Audits most k o l p how
      → Passes most (length text) (played.first + length played.journal.entries) k o l p how
  replayed_pass most given k l o p how told audits =
      subst (λ (n : ℕ). Passes most (length text) n k o l p how) many
      (passes most (options.most + 1) given text runs.journal k l o p told spelt
      run.whole.legal how audits)
