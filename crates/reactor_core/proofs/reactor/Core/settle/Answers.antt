use Rattle.reactor_model.specs.reactor_journal.specs.Past.{past_of}
use Rattle.reactor_core.proofs.ActsOf.{settling_of, act_fits, settles}
use Rattle.reactor_core.proofs.Frames.{attaching_of, attaching_goes_on}
use Rattle.reactor_core.proofs.reactor.Core.settle.Goals as goal

pub act-requires : goal.act-requires
act-requires g c =
    let o = c.requires.stands in
    let e = c.settle_event.ensures.settles o.0 o.1 o.2 o.3
    (settling_of g.H.EventHandler.means o.0 (past_of o.2) c.args.done o.4) in
    record {
      stands = (
        o.0,
        o.1,
        _,
        e.stands,
        act_fits _ o.0 o.1 o.2 c.args.done _ o.3.tracks.legal o.4 e,
      );
    }

pub returns-clause-stands : goal.returns-clause-stands
returns-clause-stands g c t F h st d =
    let e = c.settle_event.ensures.settles t F h st
    (settling_of g.H.EventHandler.means t (past_of h) c.args.done d) in
    let a = c.act.ensures.stands t F _ e.stands (act_fits _ t F h c.args.done _ st.tracks.legal d e)
    in
    settles _ t F h c.args.done c.args.self.now c.settle_event.new.self _ _ e
    c.settle_event.ensures.rest.attach_faults a
    (record {
      entries = c.entries.ensures _ a.stands.tracks.state;
      closed = c.finished.ensures _ a.stands.tracks.state;
      ended = c.is_ended.ensures _ a.stands.tracks.state;
    })

pub returns-clause-rest : goal.returns-clause-rest
returns-clause-rest g c = attaching_goes_on (attaching_of c.settle_event.ensures.rest)
    c.act.ensures.rest
