-- How a run over a script begins.
use Rattle.std.specs.Prelude.{◌≡◌, ◌+◌, ℕ, true, List, [], length, map, Option, Some, None}
use Rattle.std.specs.Prelude.{option_map}
use Rattle.ev_base.specs.Sink.{SinkFacts}
use Rattle.ev_base.specs.Story.{OfParts}
use Rattle.ev_base.specs.Terms.{Terms}
use Rattle.chosen_timers.specs.Chosen.{timers_of}
use Rattle.chosen_timers.specs.declared.ChosenTimers.{ChosenTimers}
use Rattle.server_run.specs.reactor_journal.specs.declared.entry.Entry.{Entry}
use Rattle.server_run.specs.reactor_model.specs.Volumes.{VolumesFacts}
use Rattle.server_run.specs.reactor_core.specs.Ends.{WhereTold}
use Rattle.server_run.specs.log_handler.specs.declared.note.ServerNote.{ServerNote}
use Rattle.script_net.specs.Content.{ConnectionContent}
use Rattle.script_net.specs.Hosts.{ScriptContent, LaysDown}
use Rattle.server_run.specs.Starting.{AreTermsOf}
use Rattle.server_run.specs.declared.asked.Asked.{Asked}

-- Under these terms the run may begin: they are those of what is asked for, and lay down the
-- script; there is no timer, the watch has seen nothing, and the volumes have taken as many entries
-- as the terms say.
pub record CanPlay {W V : Type 0} (watched : Terms → W → List (Entry ServerNote) → Type 0)
    (facts : V → VolumesFacts ServerNote) (asked : Asked)
    (script : ScriptContent) (timers : ChosenTimers) (watch : W) (volumes : V) (t : Terms) : Type 0
  where
    pub terms : AreTermsOf asked t
    pub most : t.most ≡ asked.connections + 1
    pub laid : LaysDown t script
    pub no_timers : timers_of timers ≡ []
    pub seen : watched t watch []
    pub taken : WhereTold (λ entries. (n : ℕ) → t.volumes_taken ≡ Some n → length entries ≡ n)
        (facts volumes).taken

-- The terms that say all that a script, an output and volumes tell. One place more than there are
-- connections at once is the acceptor's.
abbrev pub terms_of_content : ℕ → Option ℕ → ScriptContent → SinkFacts → VolumesFacts ServerNote
    → Terms
terms_of_content connections idle script o v = record {
  most = connections + 1;
  limit = Some None;
  offers = Some script.offers;
  stories = Some (map (λ (c : ConnectionContent). OfParts c.parts) script.connections);
  groups = Some script.groups;
  opening = o.text;
  input_gave = None;
  input_faults = None;
  output_faults = Some o.faults;
  steady = Some true;
  by_turn = Some 1;
  idle = Some idle;
  volumes_taken = option_map length v.taken;
  volumes_faults = Some v.faults;
}
