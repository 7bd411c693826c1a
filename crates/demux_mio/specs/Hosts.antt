-- What a host of sockets and a dialler tell.
use Rattle.std.specs.Prelude.{ℕ, List}
use Rattle.ev_base.specs.Terms.{Terms}
use Rattle.demux_mio.specs.Ends.{NoOffers}
use Rattle.demux_mio.specs.declared.host.MioHost.{MioHost}
use Rattle.demux_mio.specs.declared.dialer.MioDialer.{MioDialer}

-- how often a listen failed
abbrev pub mio_host_faults : {R : Type 0} → MioHost R → ℕ
mio_host_faults host = host.faults

-- the ports on which it was asked to listen
abbrev pub mio_host_ports : {R : Type 0} → MioHost R → List ℕ
mio_host_ports host = host.ports

-- it keeps what its nets and ends keep
abbrev pub mio_host_keeps : {R : Type 0} → Terms → MioHost R → Type 0
mio_host_keeps t host = NoOffers t

-- how often a dial failed
abbrev pub mio_dialer_faults : {R : Type 0} → MioDialer R → ℕ
mio_dialer_faults dialer = dialer.faults

-- the ports that it was asked for, the first first
abbrev pub mio_dialer_ports : {R : Type 0} → MioDialer R → List ℕ
mio_dialer_ports dialer = dialer.ports

-- it keeps what its nets and ends keep
abbrev pub mio_dialer_keeps : {R : Type 0} → Terms → MioDialer R → Type 0
mio_dialer_keeps t dialer = NoOffers t
