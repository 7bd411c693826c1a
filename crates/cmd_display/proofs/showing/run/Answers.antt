use Rattle.std.proofs.Common.{rules, sym, ap, ◌∙◌}
use Rattle.sink_buffer.specs.Gathers.{is_broken}
use Rattle.cmd_display.specs.Windows.{rest_of}
use Rattle.cmd_display.specs.Endings.{format_gives, separate_gives}
use Rattle.cmd_display.proofs.Endings.{displays, empty-or-not}
use Rattle.cmd_display.proofs.showing.run.Goals as goal

pub returns : goal.returns
returns g c = λ i o h.
    let l = c.show-stop.ensures.leaves i format_gives separate_gives o h in
    let ended = c.end-lines.ensures.ends format_gives separate_gives o l.put l.are_put in
    let left = empty-or-not c.rest.result.now (rest_of c.show-stop.new.window) c.is_empty.result
    c.is_empty.ensures c.rest.ensures in
    let shown = displays g.S.Source.facts g.K.Sink.facts i o c.show-stop.new.window
    c.end-lines.result.0 l.cut l.put c.show-stop.result.0 c.end-lines.result.1
    c.is_broken.result c.place.result c.is_empty.result
    c.formats_what_spells_a_record.ensures.records c.decode_cuts.ensures l.is_cut l.stops ended
    (sym c.is_broken.ensures)
    (λ e. let b = c.show-stop.ensures.broken e in ap is_broken (c.end-lines.ensures.broken b) ∙ b)
    c.place.ensures (search rules) left.0 left.1 in
    rw (
      c.into_input.ensures,
      c.into_output.ensures,
      c.ending-end.ensures,
      ← c.show-stop.ensures.limit,
    ) shown
