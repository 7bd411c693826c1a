-- What is left if nothing was served, and if a text was.
use Rattle.std.proofs.Common.{◌≡◌, ◌∙◌, ◌≤◌, ◌+◌, arith, inl, inr, ℕ, List, [], length, drop}
use Rattle.std.proofs.Common.{Option, Some, None, refl, sym, ap, subst, lit≤}
use Rattle.std.specs.Prelude.{option_map}
use Rattle.std.proofs.lemmas.List.{append-nil}
use Rattle.ev_base.specs.Sink.{SinkFacts}
use Rattle.ev_base.specs.Terms.{Terms}
use Rattle.ev_base.specs.declared.end.PeerEnd.{Ghosts}
use Rattle.server_run.specs.reactor_journal.specs.declared.entry.Entry.{Entry}
use Rattle.server_run.specs.reactor_core.specs.Ends.{WhereTold}
use Rattle.server_run.specs.reactor_core.specs.Stands.{HasTaken, Meaning}
use Rattle.server_run.specs.reactor_model.specs.Volumes.{VolumesFacts}
use Rattle.server_run.specs.log_handler.specs.declared.note.ServerNote.{ServerNote}
use Rattle.cmd_line.specs.declared.options.Form.{Form}
use Rattle.cmd_line.specs.declared.options.Form.TheVariants.{Plain, Grouped, Journal}
use Rattle.cmd_line.specs.declared.options.Options.{Options}
use Rattle.script_net.specs.event_script.specs.Script.{ScriptGroup}
use Rattle.script_net.specs.declared.end.ScriptEnd.{ScriptEnd}
use Rattle.server_run.specs.reactor_desk.specs.Desks.{FillsVolume}
use Rattle.server_run.specs.declared.asked.Asked.{Asked}
use Rattle.server_run.specs.declared.ending.Ending.{Ending}
use Rattle.server_run.specs.declared.ending.Ending.TheVariants as ending
use Rattle.server_run.specs.sink_buffer.specs.Written.{TookAll}
use Rattle.cmd_replay.specs.Leading.{unwatched, with_lines, with_text}
use Rattle.cmd_replay.specs.Outputs.{WritesText, text_in}
use Rattle.cmd_replay.specs.Replays.{EndsReplay, RanIn, RunsScript, terms_in}
use Rattle.cmd_replay.specs.Runs.{RanSo}
use Rattle.cmd_replay.specs.Replaying.{IsUnplayed, ReplaysText, ServesText}
use Rattle.cmd_replay.specs.declared.ends.Played.{Played}
use Rattle.cmd_replay.specs.declared.ends.ReplayEnd.{ReplayEnd}
use Rattle.cmd_replay.specs.declared.ends.ReplayEnd.TheVariants as end
use Rattle.cmd_replay.proofs.RunsScript.{number_is}

took-none : (o : SinkFacts) → TookAll o [] o
took-none o = record { text = λ start told. told ∙ ap Some (sym (append-nil start)); faults = refl }

wrote-none : (form : Form) (most : ℕ) (o : SinkFacts)
    → WritesText form end.NoMemory o
    (text_in form most []) o
wrote-none Plain most o = took-none o
wrote-none Grouped most o = refl
wrote-none Journal most o = took-none o

told-taken : (form : Form) (asked : Asked) (groups : List ScriptGroup) (o : SinkFacts)
    (v : VolumesFacts ServerNote) → (terms_in form asked groups o v).volumes_taken
    ≡ option_map length v.taken
told-taken Plain asked groups o v = refl
told-taken Grouped asked groups o v = refl
told-taken Journal asked groups o v = refl

took-nothing : (t : Terms) (taken : Option (List (Entry ServerNote)))
    → t.volumes_taken ≡ option_map length taken → WhereTold (HasTaken t 0 []) taken
took-nothing t None same = tt
took-nothing t (Some entries) same =
    (entries, sym (append-nil entries), λ n told. number_is (length entries) n (sym same ∙ told))

not-over : ending.NoMemory ≡ ending.Over → ⊥
not-over is = cc

not-failed : ending.NoMemory ≡ ending.VolumeFault → ⊥
not-failed is = cc

-- no reactor was made
unmade : {H M Q W V E : Type 0} {G : Ghosts ScriptEnd} (m : Meaning H M Q W V ServerNote E)
    (t : Terms) (asked : Asked) (groups : List ScriptGroup)
    → RanSo G m t asked groups ending.NoMemory []
unmade m t asked groups = record {
  bound = lit≤ tt;
  came = inl (record { named = inr refl; none = refl });
  all = λ over until. absurd (not-over over);
  one = λ workers until. record {
    serial = λ over. absurd (not-over over);
    few = λ idle. omega arith;
  };
}

unmade-in : {K V : Type 0} (G : Ghosts ScriptEnd) (sink : K → SinkFacts)
    (facts : V → VolumesFacts ServerNote) (form : Form) (t : Terms) (asked : Asked)
    (groups : List ScriptGroup) → RanIn G sink facts form t asked groups ending.NoMemory []
unmade-in G sink facts Plain t asked groups = unmade (with_lines G sink facts) t asked groups
unmade-in G sink facts Grouped t asked groups = unmade (unwatched G facts) t asked groups
unmade-in G sink facts Journal t asked groups = unmade (with_text G sink facts) t asked groups

-- if there was no memory for a run, nothing was written, and the journal is empty
pub runs-none : {K V : Type 0} {G : Ghosts ScriptEnd} (sink : K → SinkFacts)
    (facts : V → VolumesFacts ServerNote) (form : Form) (asked : Asked) (groups : List ScriptGroup)
    (output : K) (volumes : V) (played : Played K V)
    → played.end ≡ end.NoMemory → IsUnplayed output volumes played
    → RunsScript G sink facts form asked groups (sink output) (facts volumes) played
runs-none {K} {V} {G} sink facts form asked groups output volumes played is u =
    let o = sink output in
    let v = facts volumes in
    let t = terms_in form asked groups o v in
    record {
      how = ending.NoMemory;
      journal = [];
      is = record {
        within = subst (λ (n : ℕ). n ≤ 0) (sym u.first) (omega arith);
        held = u.journal ∙ sym (ap (λ (n : ℕ). drop n []) u.first);
        taken_is = subst (λ (n : ℕ). WhereTold (HasTaken t n []) (facts played.volumes).taken)
            (sym u.first)
            (subst (λ (w : V). WhereTold (HasTaken t 0 []) (facts w).taken) (sym u.volumes_are)
            (took-nothing t v.taken (told-taken form asked groups o v)));
        filled = subst (λ (n : ℕ). FillsVolume asked.volume n) (sym u.first)
            (λ some. absurd (omega (arith, some)));
      };
      ran = unmade-in G sink facts form t asked groups;
      ends = subst (λ (e : ReplayEnd). EndsReplay e ending.NoMemory v.faults
          (facts played.volumes).faults) (sym is) not-failed;
      written = subst (λ (e : ReplayEnd).
          WritesText form e o (text_in form (asked.connections + 1) []) (sink played.output))
          (sym is)
          (subst (λ (k : K). WritesText form end.NoMemory o
          (text_in form (asked.connections + 1) [])
          (sink k)) (sym u.output_is) (wrote-none form (asked.connections + 1) o));
    }

-- a run over a script ends as one of those that were served
pub served-so : {K V : Type 0} {G : Ghosts ScriptEnd} (sink : K → SinkFacts)
    (facts : V → VolumesFacts ServerNote) (options : Options) (text : List ℕ) (output : K)
    (volumes : V) (played : Played K V) (ended : ReplayEnd) (how : Ending) (before now : ℕ)
    → EndsReplay ended how before now → ServesText G sink facts options text output volumes played
    → ReplaysText G sink facts options text output volumes played ended
served-so sink facts options text output volumes played end.Done how before now ends served = served
served-so sink facts options text output volumes played end.WriteFault how before now ends served =
    served
served-so sink facts options text output volumes played end.NoMemory how before now ends served =
    inr served
served-so sink facts options text output volumes played end.VolumeFault how before now ends served =
    served
served-so sink facts options text output volumes played (end.BadText line) how before now ends
    served = absurd ends
served-so sink facts options text output volumes played end.ReadFault how before now ends served =
    absurd ends
served-so sink facts options text output volumes played end.TooLong how before now ends served =
    absurd ends
