use Rattle.std.proofs.Common.{ap, ◌∙◌}
use Rattle.ev_base.specs.Net.{with_one}
use Rattle.test_parts.proofs.one_connection.the_end_is_reported_until_it_is_retired.Goals as goal

pub into_retired-requires : goal.into_retired-requires
into_retired-requires g c =
    let retired =
    ap (λ f. f.retired) c.wait.ensures.reports_exactly
    ∙ c.retire.ensures.retires.retired
    ∙ ap (λ ends. with_one ends (0, c.attach.new.end))
    (ap (λ f. f.retired) c.wait-waited.ensures.reports_exactly
    ∙ c.in-Ok.ensures.attaches.retired
    ∙ c.reserve.ensures.same.retired
    ∙ ap (λ f. f.retired) c.new-net.ensures.facts) in
    let turned_away =
    ap (λ f. f.turned_away) c.wait.ensures.reports_exactly
    ∙ c.retire.ensures.retires.turned_away
    ∙ ap (λ f. f.turned_away) c.wait-waited.ensures.reports_exactly
    ∙ c.in-Ok.ensures.attaches.turned_away
    ∙ c.reserve.ensures.same.turned_away
    ∙ ap (λ f. f.turned_away) c.new-net.ensures.facts in
    (0, c.attach.new.end, retired, turned_away)
