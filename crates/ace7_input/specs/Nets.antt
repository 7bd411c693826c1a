-- The nets and hosts of clients that use ACE 7 as it stands.
use Rattle.std.specs.Prelude.{◌≡◌, map, Some, None}
use Rattle.ev_base.specs.Terms.{Terms}
use Rattle.ev_base.specs.Net.{NetFacts}
use Rattle.ev_base.specs.declared.end.PeerEnd.{Ghosts}
use Rattle.ace7_input.specs.declared.end.Ace7End.{Ace7End}
use Rattle.ace7_input.specs.declared.net.Ace7Net.{Ace7Net}
use Rattle.ace7_input.specs.declared.host.Ace7Host.{Ace7Host}

-- the net within
abbrev pub net_within : {M E : Type 0} {G : Ghosts E} → Ace7Net M E G → M
net_within net = net.net

-- it tells what the net within tells, and always the ends that it took back, the latest first
abbrev pub ace7_net_facts : {M E : Type 0} {G : Ghosts E} → (M → NetFacts E)
    → Ace7Net M E G → NetFacts (Ace7End E G)
ace7_net_facts facts net = record {
  failed_waits = (facts net.net).failed_waits;
  failed_attaches = (facts net.net).failed_attaches;
  steady = (facts net.net).steady;
  attached = (facts net.net).attached;
  spare = (facts net.net).spare;
  now = (facts net.net).now;
  reports = (facts net.net).reports;
  calls = (facts net.net).calls;
  masks = (facts net.net).masks;
  retired = Some net.retired;
  turned_away = Some (map (λ e. e.1) net.turned_away);
}

abbrev pub ace7_net_keeps : {M E : Type 0} {G : Ghosts E}
    → (Terms → M → Type 0) → Terms → Ace7Net M E G → Type 0
ace7_net_keeps keeps t net = keeps t net.net

-- the host within
abbrev pub host_within : {H : Type 0} → Ace7Host H → H
host_within host = host.inner

-- it keeps what the host within keeps, under terms that leave the stories of connections open
abbrev pub ace7_host_keeps : {H : Type 0} → (Terms → H → Type 0) → Terms → Ace7Host H → Type 0
ace7_host_keeps keeps t host = keeps t host.inner × (t.stories ≡ None)
