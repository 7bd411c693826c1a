use Rattle.std.proofs.Common.{◌∙◌, ap, refl}
use Rattle.reactor_core.specs.declared.marks.WaitMarks.{WaitMarks}
use Rattle.reactor_core.proofs.WaitNumbers.{marks_over}
use Rattle.core_loop.proofs.Idling.{over_stopped, stopped as stopped_idle}
use Rattle.core_loop.proofs.Leading.{stopped}
use Rattle.aio_lines.specs.Watch.{is_broken}
use Rattle.cmd_aio.specs.Finishing.{named}
use Rattle.cmd_aio.proofs.Connections.{says_of_ends}
use Rattle.cmd_aio.proofs.Lines.{same_sink, took_lines}
use Rattle.cmd_aio.proofs.Runs.{marked, whole_of_over}
use Rattle.cmd_aio.proofs.ending.finish.Goals as goal

pub into_parts-journal-requires : goal.into_parts-journal-requires
into_parts-journal-requires g c =
    let i = c.requires in
    record {
      stands = over_stopped _ (stopped_idle _ _ i _ refl
          (c.stop.ensures.stands i.terms i.first i.history i.stands));
    }

pub returns : goal.returns
returns g c = λ t F h stands none.
    let s = stopped _ t F h _ none (c.stop.ensures.stands t F h stands) in
    let p = c.into_parts-journal.ensures.stands t F _ s.stands in
    let rest = c.stop.ensures.rest in
    let net = c.into_parts-journal.ensures.net in
    let facts = g.M.Net.facts in
    let mark = ap (λ (m : WaitMarks). m.over) rest.marks in
    record {
      more = s.entries;
      stops = s.stops;
      whole = whole_of_over t.most _ s.stands.tracks.legal s.over;
      within = p.within;
      held = p.journal;
      net = c.into_parts-journal.result.net;
      is_net = refl;
      stands = p.net;
      keeps = p.net_keeps;
      says = says_of_ends _ g.E.PeerEnd.tells g.E.PeerEnd.keeps t _ _ p.net;
      waits = ap (λ n. (facts n).failed_waits) net ∙ rest.wait_faults;
      attaches = ap (λ n. (facts n).failed_attaches) net ∙ rest.attach_faults;
      over = marked facts _ _ _ _ net mark
          (λ some. marks_over _ _ _ some s.stands.tracks.marks);
      broken = is_broken c.into_parts-journal.result.watch;
      stays = λ was. ap is_broken c.into_parts-journal.ensures.watch ∙ rest.watch.stays was;
      told = c.named.ensures ∙ ap (λ b. named b c.args.end) c.broken.ensures;
      lines = λ o opens faults. same_sink g.K.Sink.facts _ _ _ _ _ c.into_output.ensures
          (took_lines g.K.Sink.facts t c.into_parts-journal.result.watch _ p.watch o opens faults _
          refl);
    }
