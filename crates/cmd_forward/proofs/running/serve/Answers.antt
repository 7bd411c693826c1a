use Rattle.std.proofs.Common.{None, Some, sym, subst, ap, ◌∙◌, refl}
use Rattle.core_loop.proofs.Idling.{any_limit, same_limit}
use Rattle.reactor_core.specs.Ends.{WhereTold}
use Rattle.connector_run.specs.Running.{HasCause}
use Rattle.connector_run.specs.Waits.{AskedUntil}
use Rattle.connector_run.proofs.Waits.{lives_or_closed}
use Rattle.forwarder.specs.ForwardNets.{net_within}
use Rattle.forwarder.specs.one_net.specs.OneEnd.{failed_of, input_of}
use Rattle.cmd_forward.specs.Answers.{most_input}
use Rattle.cmd_forward.specs.Endings.{HasEnded, MayEnd}
use Rattle.cmd_forward.specs.Statuses.{RunEnds}
use Rattle.cmd_forward.specs.Starting.{terms_bound, terms_of}
use Rattle.cmd_forward.proofs.Serving.{ends_so, left_so, may_end, one_of, took_one}
use Rattle.cmd_forward.proofs.running.serve.Goals as goal

pub run-ended-requires : goal.run-ended-requires
run-ended-requires g c =
    let r = c.requires in
    record {
      terms = terms_bound None r.0;
      limit = refl;
      first = 0;
      wait = r.1;
      stands = r.2.stands None;
    }

pub finish-journal-requires : goal.finish-journal-requires
finish-journal-requires g c =
    let r = c.requires in
    let t = terms_bound None r.0 in
    let on = c.run-ended.ensures.leads t 0 r.1 (r.2.stands None) (any_limit t None refl) in
    record {
      terms = t;
      limit = refl;
      first = on.first;
      history = on.history;
      stands = on.stands;
      none_open = on.none_open;
    }

pub into_retired-net-requires : goal.into_retired-net-requires
into_retired-net-requires g c =
    let r = c.requires in
    let t = terms_of r.0 in
    let on = c.run-ended.ensures.leads t 0 r.1 (r.2.stands (Some None)) (same_limit t None refl) in
    let left = left_so r.2 g.E.PeerEnd.tells g.E.PeerEnd.keeps g.S.Source.facts g.M.Net.facts
    g.M.Net.keeps (λ origin end turns why said gone. gone) (λ net. refl) (λ net kept. kept) _
    c.finish-journal.result on.first on.history c.run-ended.result _ on.so
    (λ closed. c.finish-journal.ensures.closed t on.first on.history r.1 on.stands on.none_open
    closed) (λ alive. c.finish-journal.ensures.alive t on.first on.history r.1 on.stands
    on.none_open alive) (λ over some. c.finish-journal.ensures.over t on.first on.history on.stands
    on.none_open over some) in
    took_one r.2 g.E.PeerEnd.tells g.E.PeerEnd.keeps g.S.Source.facts g.M.Net.facts
    g.M.Net.keeps (λ origin end turns why said gone. gone) (λ net. refl) (λ net kept. kept) _
    c.finish-journal.result on.first on.history
    (one_of r.2 g.E.PeerEnd.tells g.E.PeerEnd.keeps g.S.Source.facts g.M.Net.facts
    g.M.Net.keeps (λ origin end turns why said gone. gone) (λ net. refl) (λ net kept. kept) _
    c.finish-journal.result on.first on.history c.run-ended.result left)

pub of-requires : goal.of-requires
of-requires g c =
    let r = c.requires in
    let t = terms_of r.0 in
    let on = c.run-ended.ensures.leads t 0 r.1 (r.2.stands (Some None)) (same_limit t None refl) in
    let left = left_so r.2 g.E.PeerEnd.tells g.E.PeerEnd.keeps g.S.Source.facts g.M.Net.facts
    g.M.Net.keeps (λ origin end turns why said gone. gone) (λ net. refl) (λ net kept. kept) _
    c.finish-journal.result on.first on.history c.run-ended.result _ on.so
    (λ closed. c.finish-journal.ensures.closed t on.first on.history r.1 on.stands on.none_open
    closed) (λ alive. c.finish-journal.ensures.alive t on.first on.history r.1 on.stands
    on.none_open alive) (λ over some. c.finish-journal.ensures.over t on.first on.history on.stands
    on.none_open over some) in
    subst (λ entries. MayEnd c.run-ended.result entries) (sym c.as_slice.ensures)
    (may_end r.2 g.E.PeerEnd.tells g.E.PeerEnd.keeps g.S.Source.facts g.M.Net.facts
    g.M.Net.keeps (λ origin end turns why said gone. gone) (λ net. refl) (λ net kept. kept) _
    c.finish-journal.result on.first on.history t.most on.stands.tracks.legal
    c.totals_are_exact.ensures c.run-ended.result left)

pub returns-clause-asked : goal.returns-clause-asked
returns-clause-asked g c i wait start =
    let t = terms_of i in
    let on = c.run-ended.ensures.leads t 0 wait (start.stands (Some None)) (same_limit t None refl)
    in
    subst (λ net. WhereTold (AskedUntil wait) (g.M.Net.facts net).calls)
    (sym c.into_retired-net.ensures.net)
    (c.finish-journal.ensures.asked t on.first on.history wait refl on.stands on.none_open
    (lives_or_closed wait _ c.run-ended.result on))

pub returns-clause-ends : goal.returns-clause-ends
returns-clause-ends g c i wait start =
    let t = terms_of i in
    let tells = g.E.PeerEnd.tells in
    let source = g.S.Source.facts in
    let facts = g.M.Net.facts in
    let on = c.run-ended.ensures.leads t 0 wait (start.stands (Some None)) (same_limit t None refl)
    in
    let left = left_so start tells g.E.PeerEnd.keeps source facts g.M.Net.keeps
    (λ origin end turns why said gone. gone) (λ net. refl) (λ net kept. kept) _
    c.finish-journal.result on.first on.history c.run-ended.result _ on.so
    (λ closed. c.finish-journal.ensures.closed t on.first on.history wait on.stands on.none_open
    closed) (λ alive. c.finish-journal.ensures.alive t on.first on.history wait on.stands
    on.none_open alive) (λ over some. c.finish-journal.ensures.over t on.first on.history on.stands
    on.none_open over some) in
    let one = one_of start tells g.E.PeerEnd.keeps source facts g.M.Net.keeps
    (λ origin end turns why said gone. gone) (λ net. refl) (λ net kept. kept) _
    c.finish-journal.result on.first on.history c.run-ended.result left in
    let end = c.into_retired-net.ensures.input t (took_one start tells g.E.PeerEnd.keeps source
    facts g.M.Net.keeps (λ origin end turns why said gone. gone) (λ net. refl) (λ net kept. kept) _
    c.finish-journal.result on.first on.history one) one.kept in
    let ends = ends_so start tells g.E.PeerEnd.keeps source facts g.M.Net.keeps
    (λ origin end turns why said gone. gone) (λ net. refl) (λ net kept. kept) _
    c.finish-journal.result on.first on.history t.most on.stands.tracks.legal
    c.totals_are_exact.ensures c.run-ended.result left c.has_failed.result c.of.result _
    on.none_open
    (subst (λ entries. HasEnded c.run-ended.result entries c.has_failed.result c.of.result)
    c.as_slice.ensures c.of.ensures)
    (c.has_failed.ensures ∙ ap failed_of end)
    (subst (λ n. HasCause c.run-ended.result
    (facts (net_within c.args.core.net)).failed_waits n) (sym c.finish-journal.ensures.waits)
    c.run-ended.ensures.cause) in
    subst (λ net. RunEnds tells most_input wait i (source c.into_input.result) (facts net)
    c.of.result) (sym c.into_retired-net.ensures.net)
    (subst (λ input. RunEnds tells most_input wait i (source input)
    (facts (net_within c.finish-journal.result.net)) c.of.result)
    (sym (c.into_input.ensures ∙ ap input_of end)) ends)
