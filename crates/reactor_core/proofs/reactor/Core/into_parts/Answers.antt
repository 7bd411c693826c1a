use Rattle.reactor_model.specs.reactor_journal.specs.Past.{past_of}
use Rattle.reactor_summary.specs.Summary.{summary}
use Rattle.reactor_core.proofs.Begun.{over_no_seat}
use Rattle.reactor_core.proofs.reactor.Core.into_parts.Goals as goal

pub close-requires : goal.close-requires
close-requires g c =
    let o = c.requires.stands in
    over_no_seat _ o.0 c.args.self o.1 o.2 o.3 o.4

pub returns-clause-stands : goal.returns-clause-stands
returns-clause-stands g c t F h st = record {
  first = st.tracks.journal.first;
  within = st.tracks.journal.within;
  journal = st.tracks.journal.entries;
  net = st.tracks.net;
  net_keeps = st.tracks.keeps;
  timers = c.into_timers.ensures (summary (past_of h)) st.tracks.state;
  watch = st.tracks.watch;
  volumes = st.tracks.volumes.taken;
}
