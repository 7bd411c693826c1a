use Rattle.std.proofs.Common.{◌∙◌, List, length, sym, ap}
use Rattle.script_net.specs.declared.seats.Place.{Place}
use Rattle.script_net.specs.Scripts.{end_view, step_at}
use Rattle.script_net.specs.Seating.{SeatsContent, found_to}
use Rattle.ev_base.specs.Playing.{report_at}
use Rattle.script_net.proofs.SeatingLemmas.{reports}
use Rattle.script_net.proofs.seats.Seats.report.Goals as goal

pub returns : goal.returns
returns c =
    c.find_report.ensures ∙ ap (λ (ps : List Place). found_to ps (end_view c.args.end) (length ps))
    c.deref.ensures.value
    ∙ sym (reports c.self.inside.places.items (end_view c.args.end)
    (length c.self.inside.places.items))
    ∙ ap (λ (s : SeatsContent). report_at s.seats (step_at c.args.end)) c.self.view_is
