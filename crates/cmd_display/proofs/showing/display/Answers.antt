use Rattle.std.proofs.Common.{ℕ, subst, []}
use Rattle.cmd_display.specs.Displays.{Displays}
use Rattle.cmd_display.proofs.Records.{cut-none}
use Rattle.cmd_display.proofs.showing.display.Goals as goal

pub returns-in-Ok : goal.returns-in-Ok
returns-in-Ok g c =
    subst (λ (limit : ℕ). Displays limit (g.S.Source.facts c.args.input)
    (g.K.Sink.facts c.args.output) (g.S.Source.facts c.run.result.input)
    (g.K.Sink.facts c.run.result.output) c.run.result.end) c.new-window.ensures.limit
    (c.run.ensures (g.S.Source.facts c.args.input) (g.K.Sink.facts c.args.output) (record {
      cut = [];
      put = [];
      is_cut = cut-none;
      windows = c.new-window.ensures.none;
      shows = c.in-Ok.ensures.begins;
    }))
