-- From what a run over a script leaves to what one over a generated script does.
use Rattle.std.proofs.Common.{◌≡◌, ◌≤◌, ℕ, List, inr, Option, Some, None, refl, subst, arith}
use Rattle.std.proofs.Common.{lit≤}
use Rattle.ev_base.specs.Counts.{Rose}
use Rattle.ev_base.specs.declared.end.PeerEnd.{Ghosts}
use Rattle.script_net.specs.event_script.specs.Script.{ScriptGroup}
use Rattle.cmd_replay.specs.log_handler.specs.declared.note.ServerNote.{ServerNote}
use Rattle.cmd_replay.specs.reactor_journal.specs.declared.entry.Entry.{Entry}
use Rattle.cmd_replay.specs.reactor_model.specs.Volumes.{VolumesFacts}
use Rattle.script_generator.specs.Scripts.{generated}
use Rattle.script_generator.specs.Texts.{generated_text}
use Rattle.script_generator.proofs.Whole.{is_script_text}
use Rattle.script_net.specs.Hosts.{ScriptContent}
use Rattle.script_net.specs.NetContent.{NetContent}
use Rattle.script_net.specs.declared.end.ScriptEnd.{ScriptEnd}
use Rattle.chosen_timers.specs.declared.ChosenTimers.{ChosenTimers}
use Rattle.cmd_replay.specs.reactor_model.specs.declared.watch.NoWatch.{NoWatch}
use Rattle.cmd_replay.specs.Leading.{unwatched}
use Rattle.cmd_replay.specs.Playing.{terms_of_content}
use Rattle.cmd_replay.specs.Replays.{IsOfText, unseen}
use Rattle.cmd_replay.specs.Runs.{EndsScript, ForScript, LeavesScript}
use Rattle.cmd_replay.proofs.All.{run-of}
use Rattle.cmd_replay.proofs.RunsScript.{leaves-so}
use Rattle.cmd_replay.specs.laws_script_served.specs.Terms.{terms_of_script}
use Rattle.script_text.specs.Parsing.{HasGroups}
use Rattle.cmd_replay.specs.server_run.specs.Journals.{EndsByNotice}
use Rattle.cmd_replay.specs.server_run.specs.Starting.{IsFine}
use Rattle.cmd_replay.specs.server_run.specs.declared.asked.Asked.{Asked}
use Rattle.cmd_replay.specs.server_run.specs.declared.ending.Ending.{Ending}
use Rattle.cmd_replay.specs.server_run.specs.declared.ending.Ending.TheVariants as ending
use Rattle.cmd_replay.specs.server_run.specs.declared.ending.Served.{Served}
use Rattle.cmd_gen.specs.Asking.{asked_for, terms_for}
use Rattle.cmd_gen.specs.Generating.{Generates, RunsGenerated}
use Rattle.cmd_gen.specs.Summing.{EndsSummary}
use Rattle.cmd_gen.specs.declared.ends.Generated.{Generated}
use Rattle.cmd_gen.specs.declared.ends.GenerateEnd.{GenerateEnd}
use Rattle.cmd_gen.specs.declared.ends.GenerateEnd.TheVariants as end

never-idle : (idle : ℕ) → ◌≡◌ {A = Option ℕ} None (Some idle) → ⊥
never-idle idle is = cc

-- a run can be asked for so
pub fine : (n : ℕ) → 1 ≤ n → n ≤ 1000 → IsFine (asked_for n)
fine n least many = record {
  workers = omega arith;
  few_workers = omega arith;
  connections = least;
  few_connections = omega (arith, many);
  idle = λ idle is. absurd (never-idle idle is);
  volume = lit≤ tt;
}

of-text : (n seed : ℕ) (script : ScriptContent) → 1 ≤ n → n ≤ 1000
    → HasGroups script 0 (generated n seed) → IsOfText script (generated n seed)
of-text n seed script least many has =
    record { text = generated_text n seed; is_text = is_script_text n seed least many; has = has }

-- what a run over the generated script leaves
pub leaves-generated : {V : Type 0} {G : Ghosts ScriptEnd} (facts : V → VolumesFacts ServerNote)
    (n seed : ℕ) (asked : Asked) (script : ScriptContent) (v : VolumesFacts ServerNote)
    (served : Served NetContent ChosenTimers NoWatch V)
    → 1 ≤ n → n ≤ 1000 → HasGroups script 0 (generated n seed) → asked ≡ asked_for n
    → asked.limit ≡ None
    → ((groups : List ScriptGroup) → ForScript asked groups
    (terms_of_content asked.connections asked.idle script unseen v)
    → LeavesScript G (unwatched G facts) (terms_of_content asked.connections asked.idle script
    unseen v) asked groups served)
    → LeavesScript G (unwatched G facts) (terms_for n seed v) (asked_for n) (generated n seed)
    served
leaves-generated {V} {G} facts n seed asked script v served least many has is unlimited leaves =
    subst (λ (a : Asked). LeavesScript G (unwatched G facts)
    (terms_of_script a.connections a.idle (generated n seed) unseen v) a (generated n seed)
    served) is
    (leaves-so (unwatched G facts) asked script (generated n seed) unseen unseen v served refl
    (of-text n seed script least many has) unlimited leaves)

module _ {V : Type 0} {G : Ghosts ScriptEnd} (facts : V → VolumesFacts ServerNote) (n seed : ℕ)
    (v : VolumesFacts ServerNote) (served : Served NetContent ChosenTimers NoWatch V)
    (l : LeavesScript G (unwatched G facts) (terms_for n seed v) (asked_for n) (generated n seed)
    served) where
  noticed : {run : List (Entry ServerNote)} → EndsByNotice None run → ⊥
  noticed e = let never : ◌≡◌ {A = Option ℕ} None (Some e.wanted) = e.asked in cc

  -- no notice was asked for
  pub not-noticed : served.ending ≡ ending.Notified → ⊥
  not-noticed is =
      let r = run-of (terms_for n seed v) (asked_for n) (generated n seed) l.journal served.ending
      (inr is) l.ran.came in
      noticed (subst (λ (how : Ending). EndsScript (asked_for n) (generated n seed) how l.journal
      r.run) is r.ends)

  pub runs-generated : {K : Type 0} (ended : GenerateEnd) (output : K)
      → EndsSummary ended served.ending served.parts.first
      → (served.ending ≡ ending.VolumeFault → Rose v.faults (facts served.parts.volumes).faults)
      → RunsGenerated G facts n seed v (record {
        end = ended;
        journal = served.parts.journal;
        first = served.parts.first;
        output = output;
        volumes = served.parts.volumes;
      }) ended
  runs-generated {K} ended output ends rose = record {
    how = served.ending;
    journal = l.journal;
    is = l.is;
    ran = l.ran;
    ends = ends;
    rose = λ is. rose (subst (λ (e : GenerateEnd). EndsSummary e served.ending served.parts.first)
        is
        ends);
  }

-- what was served is one of the things that may have been done
pub generates : {K V : Type 0} {G : Ghosts ScriptEnd} (facts : V → VolumesFacts ServerNote)
    (n seed : ℕ) (output : K) (volumes : V) (left : Generated K V) (ended : GenerateEnd)
    → RunsGenerated G facts n seed (facts volumes) left ended
    → Generates G facts n seed output volumes left ended
generates facts n seed output volumes left end.Done runs = runs
generates facts n seed output volumes left end.WriteFault runs = runs
generates facts n seed output volumes left end.NoMemory runs = inr runs
generates facts n seed output volumes left end.VolumeFault runs = runs
