-- The end that the forwarding daemon works on: a source that is read, and the end of a connection
-- that is dialled and written.
use Rattle.std.specs.Prelude.{◌≡◌, ◌≤◌, ◌+◌, ◌-◌, ◌^◌, ℕ, min, false, Some, None}
use Rattle.ev_base.specs.Source.{SourceFacts}
use Rattle.ev_base.specs.Terms.{Terms}
use Rattle.ev_base.specs.End.{EndFacts, Faulted}
use Rattle.ev_base.specs.declared.dial.Finish.TheVariants as finish
use Rattle.ev_base.specs.declared.end.PeerEnd.{Ghosts}
use Rattle.one_net.specs.declared.one_end.OneEnd.{OneEnd}
use Rattle.one_net.specs.OneEnd.{one_end_facts}
use Rattle.one_net.specs.OneKeeps.{OneEndKeeps}
use Rattle.forwarder.specs.declared.forward_end.ForwardEnd.{ForwardEnd}

-- the end that is dialled, and the source as an end that is read
abbrev pub peer_of : {E S : Type 0} {G : Ghosts E} → ForwardEnd E S G → E
peer_of end = end.peer.end

abbrev pub input_end : {E S : Type 0} {G : Ghosts E} → ForwardEnd E S G → OneEnd S
input_end end = end.input

-- two counts as one, which stands still at the end of its 64 bits
abbrev pub both : ℕ → ℕ → ℕ
both a b = min (a + b) (2 ^ 64 - 1)

-- What it tells: of its reads what the source's end tells, of all else what the dialled end tells.
-- A fault of either counts. It has no story.
abbrev pub joined : EndFacts → EndFacts → EndFacts
joined input peer = record {
  listener = peer.listener;
  reads = input.reads;
  last_read = input.last_read;
  writes = peer.writes;
  last_write = peer.last_write;
  finishes = peer.finishes;
  last_finish = peer.last_finish;
  faults = both input.faults peer.faults;
  gave = input.gave;
  over = input.over;
  bytes = input.bytes;
  written = peer.written;
  serial = peer.serial;
  telling = None;
  offering = None;
}

abbrev pub forward_facts : {E S : Type 0} {G : Ghosts E} → (E → EndFacts) → (S → SourceFacts)
    → ForwardEnd E S G → EndFacts
forward_facts tells source end = joined (one_end_facts source (input_end end)) (tells (peer_of end))

-- It keeps what its parts keep. The dialled end is no listener and has no serial number. A last
-- read that failed is a fault of the source's end; a last write or question that failed is one of
-- the dialled end.
pub record ForwardKeeps {E S : Type 0} {G : Ghosts E} (tells : E → EndFacts)
    (keeps : Terms → E → Type 0) (source : S → SourceFacts) (t : Terms)
    (end : ForwardEnd E S G) : Type 0 where
  pub peer : keeps t (peer_of end)
  pub input : OneEndKeeps source t (input_end end)
  pub no_listener : (tells (peer_of end)).listener ≡ false
  pub unnumbered : (tells (peer_of end)).serial ≡ None
  pub read_fault : (one_end_facts source (input_end end)).last_read ≡ Some Faulted
      → 1 ≤ (one_end_facts source (input_end end)).faults
  pub write_fault : (tells (peer_of end)).last_write ≡ Some Faulted
      → 1 ≤ (tells (peer_of end)).faults
  pub finish_fault : (tells (peer_of end)).last_finish ≡ Some finish.Failed
      → 1 ≤ (tells (peer_of end)).faults
