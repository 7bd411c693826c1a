use Rattle.std.proofs.Common.{refl}
use Rattle.std.specs.Fmt.{digits}
use Rattle.cmd_line.specs.Numbers.{number_in}
use Rattle.cmd_line.specs.Given.{given_behind}
use Rattle.cmd_line.specs.Lines.{command_of, replay_of, serve_of}
use Rattle.cmd_line.proofs.rows.lines_call_commands.Goals as goal

pub returns-clause-first_words : goal.returns-clause-first_words
unfolding digits number_in given_behind replay_of serve_of command_of
returns-clause-first_words c = record {
  none = refl;
  one = refl;
  one_more = refl;
  one_dashes = refl;
  display = refl;
  display_more = refl;
  audit = refl;
  audit_more = refl;
  unknown = refl;
  in_capitals = refl;
  empty = refl;
  dashes = refl;
  help = refl;
  version = refl;
}

pub returns-clause-replays : goal.returns-clause-replays
unfolding digits number_in given_behind replay_of serve_of command_of
returns-clause-replays c = record {
  bare = refl;
  workers = refl;
  least_workers = refl;
  most_workers = refl;
  too_many_workers = refl;
  no_workers = refl;
  leading_zero = refl;
  sign = refl;
  minus = refl;
  no_digit = refl;
  no_text = refl;
  no_value = refl;
  two_values = refl;
  given_twice = refl;
  option_for_value = refl;
  most = refl;
  most_most = refl;
  too_many = refl;
  none_at_once = refl;
  idle = refl;
  no_idle_time = refl;
  idle_too_long = refl;
  until_none = refl;
  until_too_many = refl;
  list = refl;
  heap = refl;
  wheel = refl;
  tree = refl;
  both_forms = refl;
  grouped_twice = refl;
  flag_with_value = refl;
  flag_and_word = refl;
  port = refl;
  dashes = refl;
  dashes_for_value = refl;
  part_of_a_name = refl;
  one_dash = refl;
  stray = refl;
  help = refl;
  short_help = refl;
}

pub returns-clause-serves : goal.returns-clause-serves
unfolding digits number_in given_behind replay_of serve_of command_of
returns-clause-serves c = record {
  bare = refl;
  port = refl;
  least_port = refl;
  most_port = refl;
  no_port = refl;
  beyond_ports = refl;
  options = refl;
  in_any_order = refl;
  without_port = refl;
  grouped = refl;
  journal = refl;
}

pub returns-clause-generations : goal.returns-clause-generations
unfolding digits number_in given_behind replay_of serve_of command_of
returns-clause-generations c = record {
  numbers = refl;
  least = refl;
  most = refl;
  no_connections = refl;
  too_many = refl;
  seed_too_large = refl;
  no_seed = refl;
  no_numbers = refl;
  three_numbers = refl;
  leading_zero = refl;
  option = refl;
  dashes = refl;
}
