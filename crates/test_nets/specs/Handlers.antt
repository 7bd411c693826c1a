-- What a handler whose turns are all the same means by them: it may ask for anything, and nothing
-- hangs on its turns.
use Rattle.std.specs.Prelude.{ℕ, false, None}
use Rattle.demux.specs.declared.play_end.PlayEnd.{PlayEnd}
use Rattle.ev_base.specs.ev_types.specs.declared.upcall.Answer.{Answer}
use Rattle.ev_base.specs.ev_types.specs.declared.upcall.Answer.TheVariants.{Keep}
use Rattle.reactor_model.specs.Handling.{Handling}
use Rattle.test_nets.specs.declared.handler.InputTurn.{InputTurn}
use Rattle.test_nets.specs.declared.handler.InputTurn.TheVariants.{Answers, Offers, Masks, Stops}
use Rattle.test_nets.specs.declared.handler.Steady.{Steady}

-- the answer of the turn of an input
abbrev pub answer_of : InputTurn → Answer
answer_of (Answers answer) = answer
answer_of (Offers timed) = Keep
answer_of (Masks mask) = Keep
answer_of Stops = Keep

-- what a handler answers to an input
abbrev pub input_answer : Steady → Answer
input_answer handler = answer_of handler.at_input

abbrev pub steady : Handling Steady PlayEnd ℕ
steady = record {
  fits = λ t origin handler had. Unit {0};
  gone = λ t origin end had why note. Unit {0};
  may = λ t up deed. Unit {0};
  installs = λ note. false;
  serial = λ t origin. None;
}
