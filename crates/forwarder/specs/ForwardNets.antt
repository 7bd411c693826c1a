-- The net of the forwarding daemon: that of the dialled end, which also keeps the sources of the
-- ends that it took back.
use Rattle.std.specs.Prelude.{◌≡◌, ℕ, List, [], ◌∷◌, map, Some}
use Rattle.ev_base.specs.Terms.{Terms}
use Rattle.ev_base.specs.Net.{NetFacts}
use Rattle.ev_base.specs.declared.end.PeerEnd.{Ghosts}
use Rattle.ev_base.specs.declared.net.Net.{Ghosts as NetGhosts}
use Rattle.one_net.specs.declared.one_end.OneEnd.{OneEnd}
use Rattle.forwarder.specs.ForwardEnds.{peer_of, input_end}
use Rattle.forwarder.specs.declared.forward_end.ForwardEnd.{ForwardEnd}
use Rattle.forwarder.specs.declared.forward_net.ForwardNet.{ForwardNet}

-- the net within
abbrev pub net_within : {M S E : Type 0} {N : NetGhosts M E} {G : Ghosts E} → ForwardNet M S E N G
    → M
net_within net = net.net

-- It tells what the net within tells, and always the ends that it took back, the latest first.
abbrev pub forward_net_facts : {M S E : Type 0} {N : NetGhosts M E} {G : Ghosts E}
    → (M → NetFacts E) → ForwardNet M S E N G → NetFacts (ForwardEnd E S G)
forward_net_facts facts net = record {
  failed_waits = (facts net.net).failed_waits;
  failed_attaches = (facts net.net).failed_attaches;
  steady = (facts net.net).steady;
  attached = (facts net.net).attached;
  spare = net.spare;
  now = (facts net.net).now;
  reports = (facts net.net).reports;
  calls = (facts net.net).calls;
  masks = (facts net.net).masks;
  retired = Some net.retired;
  turned_away = Some (map (λ e. e.1) net.turned_away);
}

-- It keeps what the net within keeps. If that tells the ends that it took back, they are those
-- that this one tells; and the sources that it keeps are those of these ends.
pub record ForwardNetKeeps {M S E : Type 0} {N : NetGhosts M E} {G : Ghosts E}
    (facts : M → NetFacts E) (keeps : Terms → M → Type 0) (t : Terms)
    (net : ForwardNet M S E N G) : Type 0 where
  pub within : keeps t (net_within net)
  pub retired : (ends : List (ℕ × E)) → (facts (net_within net)).retired ≡ Some ends
      → ends ≡ map (λ e. (e.0, peer_of e.1)) net.retired
  pub turned_away : (ends : List E) → (facts (net_within net)).turned_away ≡ Some ends
      → ends ≡ map (λ e. peer_of e.1) net.turned_away
  pub inputs : net.inputs.items ≡ map (λ e. input_end e.1) net.retired
  pub refused : net.refused.items ≡ map (λ e. input_end e.1) net.turned_away

-- it took one end back for good, which was retired
pub record TookOne {M S E : Type 0} {N : NetGhosts M E} {G : Ghosts E} (facts : M → NetFacts E)
    (net : ForwardNet M S E N G) : Type 0 where
  pub handle : ℕ
  pub end : ForwardEnd E S G
  pub retired : (forward_net_facts facts net).retired ≡ Some ((handle, end) ∷ [])
  pub turned_away : (forward_net_facts facts net).turned_away ≡ Some []

-- this is the source's end of the one that it took back
abbrev pub IsSourceOf : {M S E : Type 0} {N : NetGhosts M E} {G : Ghosts E} → (M → NetFacts E)
    → (Terms → M → Type 0) → ForwardNet M S E N G → OneEnd S → Type 0
IsSourceOf facts keeps net source = (t : Terms) (took : TookOne facts net)
    → ForwardNetKeeps facts keeps t net → source ≡ input_end took.end
