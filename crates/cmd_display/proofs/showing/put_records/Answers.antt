use Rattle.std.proofs.Common.{◌++◌, List, IfSome, ◌∙◌, subst}
use Rattle.message_block.specs.Messages.{MessageState}
use Rattle.cmd_display.specs.Windows.{rest_of}
use Rattle.cmd_display.specs.Pipelines.{Shows, ShowsFront}
use Rattle.cmd_display.specs.Shown.{Stops}
use Rattle.cmd_display.proofs.Putting.{cuts-of}
use Rattle.cmd_display.proofs.showing.put_records.Goals as goal

pub returns-in-Err-clause-cuts : goal.returns-in-Err-clause-cuts
returns-in-Err-clause-cuts g c = λ i first second o h.
    let s = c.loop-cut.invariant.0 i first second o h in
    let made = c.cut_records-messages in
    let has = made.ensures.cut i s.put
    (record { cut = s.cut; is_cut = s.is_cut; windows = s.windows }) in record {
      cut = has.cut;
      put = s.put ++ made.result.0.items;
      is_cut = has.is_cut;
      stops = (rest_of made.new.window, has.windows.gave.takes);
      are_put = subst (λ (l : List MessageState).
          ShowsFront g.F.Task.gives g.G.Task.gives g.K.Sink.facts first second o (s.put ++ l)
          c.put_all.new.self) c.new.ensures
          (c.in-Err.ensures.front first second o s.put
          (made.ensures.shows first second o s.put s.shows));
    }

pub returns-in-Some-clause-cuts : goal.returns-in-Some-clause-cuts
returns-in-Some-clause-cuts g c = λ i first second o h.
    let s = c.loop-cut.invariant.0 i first second o h in
    let made = c.cut_records-messages in
    cuts-of g.S.Source.facts g.F.Task.gives g.G.Task.gives g.K.Sink.facts i first second o
    made.new.window c.put_all.new.self (s.put ++ made.result.0.items) c.in-Some.cut
    (made.ensures.cut i s.put (record { cut = s.cut; is_cut = s.is_cut; windows = s.windows }))
    (subst (λ (l : List MessageState).
    Shows g.F.Task.gives g.G.Task.gives g.K.Sink.facts first second o (s.put ++ l)
    c.put_all.new.self) c.new.ensures
    (c.in-Ok.ensures.put first second o s.put (made.ensures.shows first second o s.put s.shows)))
    (subst (λ r. IfSome r (λ why. Stops why made.new.window)) c.in-Some.is made.ensures.stops)

pub loop-cut-preserved : goal.loop-cut-preserved
loop-cut-preserved g c = (
  λ i first second o h.
      let s = c.loop-cut.invariant.0 i first second o h in
      let made = c.cut_records-messages in
      let has = made.ensures.cut i s.put
      (record { cut = s.cut; is_cut = s.is_cut; windows = s.windows }) in record {
        cut = has.cut;
        put = s.put ++ made.result.0.items;
        is_cut = has.is_cut;
        windows = has.windows;
        shows = subst (λ (l : List MessageState).
            Shows g.F.Task.gives g.G.Task.gives g.K.Sink.facts first second o (s.put ++ l)
            c.put_all.new.self) c.new.ensures
            (c.in-Ok.ensures.put first second o s.put
            (made.ensures.shows first second o s.put s.shows));
      },
  c.cut_records-messages.ensures.input ∙ c.loop-cut.invariant.1,
)
