-- The terms of a run of the server over a script.
use Rattle.std.specs.Prelude.{◌≡◌, ℕ, ◌+◌, true, List, length, Option, Some, None, option_map}
use Rattle.ev_base.specs.Sink.{SinkFacts}
use Rattle.ev_base.specs.Terms.{Terms}
use Rattle.laws_script_calls.specs.reactor_model.specs.Volumes.{VolumesFacts}
use Rattle.laws_script_calls.specs.log_handler.specs.declared.note.ServerNote.{ServerNote}
use Rattle.script_net.specs.event_script.specs.Script.{ScriptGroup, steps_of, groups_told}
use Rattle.script_net.specs.event_script.specs.Stories.{stories, offers}
use Rattle.laws_script_calls.specs.Leaving.{HaveStories}

-- The terms that say all that is told: of the script, of the output and of the volumes. One place
-- more than there are connections at once is the acceptor's.
abbrev pub terms_of_script : ℕ → Option ℕ → List ScriptGroup → SinkFacts → VolumesFacts ServerNote
    → Terms
terms_of_script connections idle groups o v = record {
  most = connections + 1;
  limit = Some None;
  offers = Some (offers (steps_of groups));
  stories = Some (stories (steps_of groups));
  groups = Some (groups_told groups);
  opening = o.text;
  input_gave = None;
  input_faults = None;
  output_faults = Some o.faults;
  steady = Some true;
  by_turn = Some 1;
  idle = Some idle;
  volumes_taken = option_map length v.taken;
  volumes_faults = Some v.faults;
}

-- the terms have the script, no limit of waits, and this idle time
pub record HaveScript (t : Terms) (groups : List ScriptGroup) (idle : Option ℕ) : Type 0 where
  pub groups_are : t.groups ≡ Some (groups_told groups)
  pub stories_are : HaveStories t (steps_of groups) idle
  pub limit : t.limit ≡ Some None
