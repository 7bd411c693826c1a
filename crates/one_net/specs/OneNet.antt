-- The demultiplexer of the command `logd one`, whose one connection can be read at any time (POSA2,
-- Reactor: Synchronous Event Demultiplexer; a source in place of a socket is this project's own).
use Rattle.std.specs.Prelude.{◌≡◌, ℕ, true, List, [], ◌∷◌, map, Option, Some, None}
use Rattle.ev_base.specs.ev_types.specs.declared.upcall.Mask.{Mask}
use Rattle.ev_base.specs.Terms.{Terms}
use Rattle.ev_base.specs.Net.{NetFacts, Call, Waits}
use Rattle.ev_base.specs.declared.net.Waited.{Waited}
use Rattle.one_net.specs.Watched.{report_list, first_report, answer_of}
use Rattle.one_net.specs.declared.one_end.OneEnd.{OneEnd}
use Rattle.one_net.specs.declared.one_net.OneNet.{OneNet}

-- the masks by handle of the ends that are attached, the latest first
abbrev pub masks_of : {S : Type 0} → OneNet S → List (ℕ × Mask)
masks_of net = net.watched.items

-- It never fails, and tells all. Its lists have the latest first.
abbrev pub one_net_facts : {S : Type 0} → OneNet S → NetFacts (OneEnd S)
one_net_facts net = record {
  failed_waits = 0;
  failed_attaches = 0;
  steady = true;
  attached = map (λ entry. entry.0) net.watched.items;
  spare = net.spare;
  now = 0;
  reports = report_list net.given;
  calls = Some net.calls;
  masks = Some net.watched.items;
  retired = Some net.retired.items;
  turned_away = Some net.turned_away.items;
}

-- what a net tells that has made no call
abbrev pub new_net_facts : {S : Type 0} → NetFacts (OneEnd S)
new_net_facts = record {
  failed_waits = 0;
  failed_attaches = 0;
  steady = true;
  attached = [];
  spare = 0;
  now = 0;
  reports = [];
  calls = Some [];
  masks = Some [];
  retired = Some [];
  turned_away = Some [];
}

-- the answer of the last call, if that was a wait
abbrev pub last_answer : List Call → Option Waited
last_answer (Waits most answer reports ∷ calls) = Some answer
last_answer _ = None

-- It follows no script: such a run has terms that lay down no groups. If its last call was a
-- wait, that was answered by what is attached.
pub record OneNetKeeps {S : Type 0} (t : Terms) (net : OneNet S) : Type 0 where
  pub no_script : t.groups ≡ None
  pub answered : (answer : Waited) → last_answer net.calls ≡ Some answer
      → answer ≡ answer_of (first_report (masks_of net))

abbrev pub one_net_keeps : {S : Type 0} → Terms → OneNet S → Type 0
one_net_keeps t net = OneNetKeeps t net
