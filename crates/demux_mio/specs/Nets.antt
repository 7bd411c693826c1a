-- What a net of sockets tells: which handles are attached, its reports, and counts of faults.
use Rattle.std.specs.Prelude.{false, Option, None, List, All}
use Rattle.ev_base.specs.Terms.{Terms}
use Rattle.ev_base.specs.Net.{NetFacts, Call}
use Rattle.ev_base.specs.declared.net.Report.{Report}
use Rattle.ev_base.specs.declared.net.Waited.{Waited}
use Rattle.ev_base.specs.declared.net.Waited.TheVariants.{Reports, Quiet, Over, Failed}
use Rattle.demux_mio.specs.Asked.{attached_in, IsWanted}
use Rattle.demux_mio.specs.Ends.{NoOffers}
use Rattle.demux_mio.specs.declared.control.Control.{Control}
use Rattle.demux_mio.specs.declared.end.MioEnd.{MioEnd}
use Rattle.demux_mio.specs.declared.net.MioNet.{MioNet}

-- the attaches, masks and retires that it was asked for, the latest first
abbrev pub asked_of : {R : Type 0} → MioNet R → List Call
asked_of n = n.watching

abbrev pub mio_net_facts : {R : Type 0} → MioNet R → NetFacts MioEnd
mio_net_facts n = record {
  failed_waits = n.failed_waits;
  failed_attaches = n.failed_attaches;
  steady = false;
  attached = attached_in (asked_of n);
  spare = n.spare;
  now = n.last;
  reports = n.reports.items;
  calls = None;
  masks = None;
  retired = None;
  turned_away = None;
}

-- it keeps what its ends keep
abbrev pub mio_net_keeps : {R : Type 0} → Terms → MioNet R → Type 0
mio_net_keeps t n = NoOffers t

-- standard input as its control, if it has one
abbrev pub control_of : {R : Type 0} → MioNet R → Option Control
control_of n = n.control

-- Each report of a wait is of a handle that is attached, with its kind in the mask, and none is of
-- exceptional data.
abbrev pub GivesWanted : Waited → List Call → List Report → Type 0
GivesWanted (Reports now count) asked reports = All (IsWanted asked) reports
GivesWanted (Quiet now) asked reports = Unit {0}
GivesWanted (Over now) asked reports = Unit {0}
GivesWanted Failed asked reports = Unit {0}
