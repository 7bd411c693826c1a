-- What putting one record more leaves.
use Rattle.std.proofs.Common.{Result, OnOk, OnErr, List, ◌++◌}
use Rattle.std.specs.declared.result.Result.TheVariants.{Ok, Err}
use Rattle.ev_base.specs.Source.{SourceFacts}
use Rattle.ev_base.specs.Sink.{SinkFacts}
use Rattle.message_block.specs.Messages.{MessageState}
use Rattle.module_stream.specs.declared.active.ActiveTask.{ActiveTask}
use Rattle.module_stream.specs.Progress.{Gives, Begins}
use Rattle.module_stream.specs.Active.{Runs}
use Rattle.cmd_display.specs.declared.second.Second.{Second}
use Rattle.cmd_display.specs.declared.pipeline.Pipeline.{Pipeline}
use Rattle.cmd_display.specs.declared.window.Window.{Window}
use Rattle.cmd_display.specs.declared.showing.Cut.{Cut}
use Rattle.cmd_display.specs.declared.showing.Cut.TheVariants as cut
use Rattle.cmd_display.specs.Pipelines.{Prints, Shows, ShowsFront}
use Rattle.cmd_display.specs.Windows.{rest_of}
use Rattle.cmd_display.specs.Shown.{HasCut, Cuts, Stops}
use Rattle.cmd_display.proofs.Lists.{begins-all, begins-behind}

-- ---- one message more

pub shows-on : {F G K T E : Type 0} (gives : F → Gives) (gives' : G → Gives) (facts : K → SinkFacts)
    (first second : Gives) (o : SinkFacts) (put texts : List MessageState) (task : ActiveTask F)
    (next : Second G K) (r : Result T E)
    → Runs gives first put texts task → OnOk r (Prints gives' facts second o texts next)
    → OnOk r (Shows gives gives' facts first second o put
    (record { first = task; second = next }))
shows-on gives gives' facts first second o put texts task next (Ok x) runs writes =
    record { texts = texts; runs = runs; writes = writes }
shows-on gives gives' facts first second o put texts task next (Err e) runs writes = tt

pub front-on : {F G K T E : Type 0} (gives : F → Gives) (gives' : G → Gives) (facts : K → SinkFacts)
    (first second : Gives) (o : SinkFacts) (put texts more : List MessageState)
    (task : ActiveTask F) (next : Second G K) (r : Result T E)
    → Runs gives first put (texts ++ more) task
    → OnErr r ((front : List MessageState) × Begins front more
    × Prints gives' facts second o (texts ++ front) next)
    → OnErr r (ShowsFront gives gives' facts first second o put
    (record { first = task; second = next }))
front-on gives gives' facts first second o put texts more task next (Ok x) runs writes = tt
front-on gives gives' facts first second o put texts more task next (Err e) runs w = record {
  front = put;
  begins = begins-all put;
  texts = texts ++ more;
  fed = texts ++ w.0;
  runs = runs;
  follows = begins-behind texts w.0 more w.1;
  writes = w.2;
}

-- if all were put, a front was
pub front-of : {F G K : Type 0} (gives : F → Gives) (gives' : G → Gives) (facts : K → SinkFacts)
    (first second : Gives) (o : SinkFacts) (put : List MessageState) (pipeline : Pipeline F G K)
    → Shows gives gives' facts first second o put pipeline
    → ShowsFront gives gives' facts first second o put pipeline
front-of gives gives' facts first second o put pipeline h = record {
  front = put;
  begins = begins-all put;
  texts = h.texts;
  fed = h.texts;
  runs = h.runs;
  follows = begins-all h.texts;
  writes = h.writes;
}

-- ---- records that are cut off

pub cuts-of : {S F G K : Type 0} (sources : S → SourceFacts) (gives : F → Gives)
    (gives' : G → Gives) (facts : K → SinkFacts) (i : SourceFacts) (first second : Gives)
    (o : SinkFacts)
    (window : Window S) (pipeline : Pipeline F G K) (put : List MessageState) (why : Cut)
    → HasCut sources i put window → Shows gives gives' facts first second o put pipeline
    → Stops why window
    → Cuts sources gives gives' facts i first second o why window pipeline
cuts-of sources gives gives' facts i first second o window pipeline put cut.More h shows stops = (
  record { cut = h.cut; put = put; is_cut = h.is_cut; windows = h.windows; shows = shows },
  stops,
)
cuts-of sources gives gives' facts i first second o window pipeline put cut.Bad h shows stops =
    record {
      cut = h.cut;
      put = put;
      is_cut = h.is_cut;
      stops = (h.windows, stops);
      are_put = shows;
    }
cuts-of sources gives gives' facts i first second o window pipeline put cut.NoMemory h shows stops =
    record {
      cut = h.cut;
      put = put;
      is_cut = h.is_cut;
      stops = (rest_of window, h.windows.gave.takes);
      are_put = front-of gives gives' facts first second o put pipeline shows;
    }
