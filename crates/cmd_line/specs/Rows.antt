-- Lines of words, and the commands that they call.
use Rattle.std.specs.Prelude.{◌≡◌, ◌==◌, ℕ, List, [], Option, Some, None, codes}
use Rattle.std.specs.List.{slice_split}
use Rattle.cmd_line.specs.Lines.{command_of}
use Rattle.cmd_line.specs.declared.command.Command.{Command}
use Rattle.cmd_line.specs.declared.command.Command.TheVariants.{One, Replay, Serve, Display, Audit}
use Rattle.cmd_line.specs.declared.command.Command.TheVariants.{Generate}
use Rattle.cmd_line.specs.declared.options.Form.TheVariants.{Plain, Grouped, Journal}
use Rattle.cmd_line.specs.declared.options.Options.{Options}
use Rattle.cmd_line.specs.declared.options.Timers.TheVariants as timers

-- the command that the words of a line call; between two words stands one space
abbrev pub called : List ℕ → Option Command
called line = command_of (slice_split (λ b. b == 32) line)

-- the options if none is given
abbrev pub defaults : Options
defaults = record {
  workers = 1;
  most = 1000;
  idle = None;
  until = None;
  form = Plain;
  timers = timers.List;
}

pub record AreFirstWords : Type 0 where
  pub none : command_of [] ≡ None
  pub one : called (codes "one") ≡ Some One
  pub one_more : called (codes "one x") ≡ None
  pub one_dashes : called (codes "one --") ≡ None
  pub display : called (codes "display") ≡ Some Display
  pub display_more : called (codes "display --grouped") ≡ None
  pub audit : called (codes "audit") ≡ Some Audit
  pub audit_more : called (codes "audit 1") ≡ None
  pub unknown : called (codes "play") ≡ None
  pub in_capitals : called (codes "One") ≡ None
  pub empty : called [] ≡ None
  pub dashes : called (codes "-- one") ≡ None
  pub help : called (codes "--help") ≡ None
  pub version : called (codes "--version") ≡ None

pub record AreReplays : Type 0 where
  pub bare : called (codes "replay") ≡ Some (Replay defaults)
  pub workers : called (codes "replay --workers=2")
      ≡ Some (Replay (record defaults { workers = 2 }))
  pub least_workers : called (codes "replay --workers 1") ≡ Some (Replay defaults)
  pub most_workers : called (codes "replay --workers 64")
      ≡ Some (Replay (record defaults { workers = 64 }))
  pub too_many_workers : called (codes "replay --workers 65") ≡ None
  pub no_workers : called (codes "replay --workers 0") ≡ None
  pub leading_zero : called (codes "replay --workers 01") ≡ None
  pub sign : called (codes "replay --workers=+2") ≡ None
  pub minus : called (codes "replay --workers -2") ≡ None
  pub no_digit : called (codes "replay --workers 2x") ≡ None
  pub no_text : called (codes "replay --workers=") ≡ None
  pub no_value : called (codes "replay --workers") ≡ None
  pub two_values : called (codes "replay --workers 2 2") ≡ None
  pub given_twice : called (codes "replay --workers 2 --workers 2") ≡ None
  pub option_for_value : called (codes "replay --workers --most 5") ≡ None
  pub most : called (codes "replay --journal --most 5")
      ≡ Some (Replay (record defaults { most = 5; form = Journal }))
  pub most_most : called (codes "replay --most 4096 --grouped")
      ≡ Some (Replay (record defaults { most = 4096; form = Grouped }))
  pub too_many : called (codes "replay --most 4097") ≡ None
  pub none_at_once : called (codes "replay --most 0") ≡ None
  pub idle : called (codes "replay --idle 1 --until 4294967295")
      ≡ Some (Replay (record defaults { idle = Some 1; until = Some 4294967295 }))
  pub no_idle_time : called (codes "replay --idle 0") ≡ None
  pub idle_too_long : called (codes "replay --idle 4294967296") ≡ None
  pub until_none : called (codes "replay --until 0") ≡ None
  pub until_too_many : called (codes "replay --until 4294967296") ≡ None
  pub list : called (codes "replay --timers list") ≡ Some (Replay defaults)
  pub heap : called (codes "replay --timers=heap")
      ≡ Some (Replay (record defaults { timers = timers.Heap }))
  pub wheel : called (codes "replay --timers wheel --workers 8")
      ≡ Some (Replay (record defaults { workers = 8; timers = timers.Wheel }))
  pub tree : called (codes "replay --timers tree") ≡ None
  pub both_forms : called (codes "replay --grouped --journal") ≡ None
  pub grouped_twice : called (codes "replay --grouped --grouped") ≡ None
  pub flag_with_value : called (codes "replay --grouped=true") ≡ None
  pub flag_and_word : called (codes "replay --grouped true") ≡ None
  pub port : called (codes "replay --port 7000") ≡ None
  pub dashes : called (codes "replay --") ≡ None
  pub dashes_for_value : called (codes "replay --workers --") ≡ None
  pub part_of_a_name : called (codes "replay --work 2") ≡ None
  pub one_dash : called (codes "replay -workers 2") ≡ None
  pub stray : called (codes "replay 2") ≡ None
  pub help : called (codes "replay --help") ≡ None
  pub short_help : called (codes "replay -h") ≡ None

pub record AreServes : Type 0 where
  pub bare : called (codes "serve") ≡ None
  pub port : called (codes "serve --port 7000") ≡ Some (Serve 7000 defaults)
  pub least_port : called (codes "serve --port=1") ≡ Some (Serve 1 defaults)
  pub most_port : called (codes "serve --port 65535") ≡ Some (Serve 65535 defaults)
  pub no_port : called (codes "serve --port 0") ≡ None
  pub beyond_ports : called (codes "serve --port 65536") ≡ None
  pub options : called (codes "serve --port 7000 --until 1 --timers wheel")
      ≡ Some (Serve 7000 (record defaults { until = Some 1; timers = timers.Wheel }))
  pub in_any_order : called (codes "serve --idle 250 --port=80 --workers 4 --most 9")
      ≡ Some (Serve 80 (record defaults { workers = 4; most = 9; idle = Some 250 }))
  pub without_port : called (codes "serve --workers 4") ≡ None
  pub grouped : called (codes "serve --port 7000 --grouped") ≡ None
  pub journal : called (codes "serve --port 7000 --journal") ≡ None

pub record AreGenerations : Type 0 where
  pub numbers : called (codes "gen 40 7") ≡ Some (Generate 40 7)
  pub least : called (codes "gen 1 0") ≡ Some (Generate 1 0)
  pub most : called (codes "gen 1000 4294967295") ≡ Some (Generate 1000 4294967295)
  pub no_connections : called (codes "gen 0 1") ≡ None
  pub too_many : called (codes "gen 1001 0") ≡ None
  pub seed_too_large : called (codes "gen 1 4294967296") ≡ None
  pub no_seed : called (codes "gen 40") ≡ None
  pub no_numbers : called (codes "gen") ≡ None
  pub three_numbers : called (codes "gen 40 7 7") ≡ None
  pub leading_zero : called (codes "gen 40 07") ≡ None
  pub option : called (codes "gen --5 1") ≡ None
  pub dashes : called (codes "gen -- 1 2") ≡ None
