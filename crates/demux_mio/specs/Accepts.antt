-- What an accept comes to.
use Rattle.std.specs.Prelude.{◌≡◌}
use Rattle.mio.specs.declared.net.stream.TcpStream.{TcpStream}
use Rattle.ev_base.specs.declared.end.Taken.{Taken}
use Rattle.ev_base.specs.declared.end.Taken.TheVariants as taken
use Rattle.demux_mio.specs.declared.socket.Accepted.{Accepted}
use Rattle.demux_mio.specs.declared.socket.Accepted.TheVariants as accepted
use Rattle.demux_mio.specs.declared.socket.Opened.TheVariants as opened
use Rattle.demux_mio.specs.declared.end.MioEnd.{MioEnd}
use Rattle.demux_mio.specs.Ends.{mio_end_facts}

-- the end has this connection as its socket, and tells what it told before
pub record IsOpened (stream : TcpStream) (before after : MioEnd) : Type 0 where
  pub socket : after.state.value.socket.opened ≡ opened.Stream stream
  pub tells : mio_end_facts after ≡ mio_end_facts before

-- The system gave a connection, which the end that was made for it has; or there was none, which is
-- a pause; or the accept failed.
abbrev pub TakenOf : Accepted → MioEnd → Taken MioEnd → Type 0
TakenOf (accepted.One stream) made (taken.One end) = IsOpened stream made end
TakenOf (accepted.One stream) made taken.Pause = ⊥
TakenOf (accepted.One stream) made taken.Failed = ⊥
TakenOf accepted.None made (taken.One end) = ⊥
TakenOf accepted.None made taken.Pause = Unit {0}
TakenOf accepted.None made taken.Failed = ⊥
TakenOf accepted.Failed made (taken.One end) = ⊥
TakenOf accepted.Failed made taken.Pause = ⊥
TakenOf accepted.Failed made taken.Failed = Unit {0}
