use Rattle.reactor_model.specs.reactor_journal.specs.Past.{past_of}
use Rattle.reactor_summary.specs.Summary.{summary}
use Rattle.reactor_core.proofs.Stopped.{next_is, next_is_none, alive_first, removes_first}
use Rattle.reactor_core.proofs.reactor.Core.remove_first.Goals as goal

pub returns-in_default-clause-none : goal.returns-in_default-clause-none
returns-in_default-clause-none g c q t F h st =
    next_is_none (summary (past_of h)) c.next_alive.result
    (c.next_alive.ensures (summary (past_of h)) st.tracks.state) c.in_default.is

pub remove_alive-requires : goal.remove_alive-requires
remove_alive-requires g c =
    let o = c.requires.stands in
    let n = next_is (summary (past_of o.2)) c.next_alive.result
    (c.next_alive.ensures (summary (past_of o.2)) o.3.tracks.state) c.in-Some.handle
    c.in-Some.is in
    record {
      stands = (
        o.0,
        o.1,
        o.2,
        o.3,
        alive_first (summary (past_of o.2)) n.0 n.1 c.in-Some.handle n.2 n.3,
      );
    }

pub returns-clause-some : goal.returns-clause-some
returns-clause-some g c q t F h st =
    let n = next_is (summary (past_of h)) c.next_alive.result
    (c.next_alive.ensures (summary (past_of h)) st.tracks.state) c.in-Some.handle c.in-Some.is
    in
    removes_first _ t c.args.self.now _ F h c.in-Some.handle n.0 n.1 n.2 n.3 st
    (c.remove_alive.ensures.stands t F h st
    (alive_first (summary (past_of h)) n.0 n.1 c.in-Some.handle n.2 n.3))
