-- What the options of `replay` and `serve` say.
use Rattle.std.specs.Prelude.{Bool, true, false, if◌then◌else◌, Option, Some, None, option_map}
use Rattle.std.specs.Prelude.{option_and_then, codes}
use Rattle.std.specs.Str.{bytes_eq}
use Rattle.cmd_line.specs.Numbers.{number_in}
use Rattle.cmd_line.specs.Given.{Text}
use Rattle.cmd_line.specs.declared.options.Form.{Form}
use Rattle.cmd_line.specs.declared.options.Form.TheVariants.{Plain, Grouped, Journal}
use Rattle.cmd_line.specs.declared.options.Options.{Options}
use Rattle.cmd_line.specs.declared.options.Timers.{Timers}
use Rattle.cmd_line.specs.declared.options.Timers.TheVariants as queue

-- the second step, if the first gave a value
infixl 10 ◌>>=◌
abbrev pub ◌>>=◌ : {A B : Type 0} → Option A → (A → Option B) → Option B
o >>= f = option_and_then f o

-- what the option's text says, and this if the option was not given
abbrev pub value_or : {X : Type 0} → X → (Text → Option X) → Option Text → Option X
value_or default read None = Some default
value_or default read (Some text) = read text

-- what the option's text says, if the option was given
abbrev pub value_if : {X : Type 0} → (Text → Option X) → Option Text → Option (Option X)
value_if read None = Some None
value_if read (Some text) = option_map (λ x. Some x) (read text)

-- the three queues by their names
abbrev pub timers_named : Text → Option Timers
timers_named text =
    if bytes_eq text (codes "list") then Some queue.List
    else if bytes_eq text (codes "heap") then Some queue.Heap
    else if bytes_eq text (codes "wheel") then Some queue.Wheel
    else None

-- the form of the output, if at most one is asked for
abbrev pub form_of : (grouped journal : Bool) → Option Form
form_of false false = Some Plain
form_of true false = Some Grouped
form_of false true = Some Journal
form_of true true = None

-- the options by their texts: the ranges, and what stands if one was not given
abbrev pub options_of : (workers most idle until timers : Option Text) → Form → Option Options
options_of workers most idle until timers form = do
  workers ← value_or 1 (number_in 1 64) workers
  most ← value_or 1000 (number_in 1 4096) most
  idle ← value_if (number_in 1 4294967295) idle
  until ← value_if (number_in 1 4294967295) until
  timers ← value_or queue.List timers_named timers
  Some (record {
    workers = workers;
    most = most;
    idle = idle;
    until = until;
    form = form;
    timers = timers;
  })
