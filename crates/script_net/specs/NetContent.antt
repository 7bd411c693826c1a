-- What contracts see of a net that plays a script, and what it tells.
use Rattle.std.specs.Prelude.{◌≡◌, ℕ, ◌-◌, Bool, true, false, ◌&&◌, ◌==◌, List, [], ◌∷◌}
use Rattle.std.specs.Prelude.{if◌then◌else◌}
use Rattle.std.specs.Prelude.{Option, Some, None}
use Rattle.ev_base.specs.ev_types.specs.declared.upcall.Mask.{Mask}
use Rattle.ev_base.specs.Counts.{counted}
use Rattle.ev_base.specs.Terms.{Terms, Group}
use Rattle.ev_base.specs.Playing.{Playing, Seat, played, Plays, waited}
use Rattle.ev_base.specs.Net.{NetFacts, Call, Attaches, SetsMask, Retires, TurnsAway, Waits}
use Rattle.ev_base.specs.declared.net.Report.{Report}
use Rattle.script_net.specs.declared.end.ScriptEnd.{ScriptEnd}
use Rattle.script_net.specs.ScriptEnd.{script_end_facts}
use Rattle.script_net.specs.Seating.{handles_of}

-- The groups of its script and the calls that it made say how far the script was played. Its lists
-- of ends and calls have the latest first. It counts all waits and attaches and those that failed,
-- and has the numbers of those that are to fail.
pub record NetContent : Type 0 where
  pub groups : List Group
  pub calls : List Call
  pub reports : List Report
  pub retired : List (ℕ × ScriptEnd)
  pub turned_away : List ScriptEnd
  pub spare : ℕ
  pub waits : ℕ
  pub attaches : ℕ
  pub fail_waits : List ℕ
  pub fail_attaches : List ℕ
  pub failed_waits : ℕ
  pub failed_attaches : ℕ

-- how far its script was played
abbrev pub playing_of : NetContent → Playing
playing_of n = played n.groups n.calls

abbrev pub masks_of : List Seat → List (ℕ × Mask)
masks_of [] = []
masks_of (seat ∷ seats) = (seat.handle, seat.mask) ∷ masks_of seats

abbrev pub names_none : List ℕ → Bool
names_none [] = true
names_none (number ∷ numbers) = false

-- no call is to fail, and none failed
abbrev pub is_steady : NetContent → Bool
is_steady n = names_none n.fail_waits && names_none n.fail_attaches && n.failed_waits == 0
    && n.failed_attaches == 0

-- it tells all
abbrev pub script_net_facts : NetContent → NetFacts ScriptEnd
script_net_facts n = record {
  failed_waits = n.failed_waits;
  failed_attaches = n.failed_attaches;
  steady = is_steady n;
  attached = handles_of (playing_of n).seats;
  spare = n.spare;
  now = (playing_of n).moment;
  reports = n.reports;
  calls = Some n.calls;
  masks = Some (masks_of (playing_of n).seats);
  retired = Some n.retired;
  turned_away = Some n.turned_away;
}

-- If the terms lay down groups, these are the groups of its script, and its waits had the
-- answers and reports of the rules.
abbrev pub script_net_keeps : Terms → NetContent → Type 0
script_net_keeps t n = (groups : List Group) → t.groups ≡ Some groups → (groups ≡ n.groups)
    × Plays groups n.calls

-- the net after a wait that failed, and after one that was answered
abbrev pub after_failed_wait : NetContent → NetContent
after_failed_wait n = record n { waits = counted n.waits; failed_waits = counted n.failed_waits }

abbrev pub after_wait : Option ℕ → NetContent → NetContent
after_wait most n =
    let a = waited most (playing_of n) in
    record n {
      waits = counted n.waits;
      reports = a.reports;
      calls = Waits most a.answer a.reports ∷ n.calls;
    }

-- the net after an attach that failed, and after one that was met
abbrev pub after_failed_attach : NetContent → NetContent
after_failed_attach n = record n {
  attaches = counted n.attaches;
  failed_attaches = counted n.failed_attaches;
}

abbrev pub attached_by : ℕ → Mask → Option ℕ → NetContent → NetContent
attached_by handle mask serial n = record n {
  attaches = counted n.attaches;
  spare = n.spare - 1;
  calls = Attaches handle mask serial ∷ n.calls;
}

-- after a mask was set, an end retired, and an end turned away
abbrev pub mask_set_by : ℕ → Mask → NetContent → NetContent
mask_set_by handle mask n = record n { calls = SetsMask handle mask ∷ n.calls }

abbrev pub retired_by : ℕ → ScriptEnd → NetContent → NetContent
retired_by handle end n = record n {
  retired = (handle, end) ∷ n.retired;
  calls = Retires handle ∷ n.calls;
}

abbrev pub turned_away_by : ScriptEnd → NetContent → NetContent
turned_away_by end n = record n {
  turned_away = end ∷ n.turned_away;
  spare = n.spare - 1;
  calls = TurnsAway (script_end_facts end).serial ∷ n.calls;
}

-- the end that was retired last of those of a handle
abbrev pub retired_of : ℕ → List (ℕ × ScriptEnd) → Option ScriptEnd
retired_of handle [] = None
retired_of handle (entry ∷ retired) =
    if entry.0 == handle then Some entry.1 else retired_of handle retired
