-- The net in memory that reports ends as writable at moments that were laid down.
use Rattle.std.specs.Prelude.{◌≡◌, ◌==◌, ◌&&◌, ℕ, Bool, true, if◌then◌else◌, List, length, map}
use Rattle.std.specs.Prelude.{drop, replicate, [], Option, Some, None}
use Rattle.ev_base.specs.ev_types.specs.declared.upcall.Mask.{Mask}
use Rattle.ev_base.specs.ev_types.specs.declared.upcall.Kind.TheVariants.{Write}
use Rattle.ev_base.specs.Terms.{Terms}
use Rattle.ev_base.specs.Net.{NetFacts}
use Rattle.ev_base.specs.declared.net.Report.{Report}
use Rattle.dial_memory.specs.declared.moments.Came.{Came}
use Rattle.dial_memory.specs.Moments.{came_of, first_writer}
use Rattle.dial_memory.specs.declared.mem_dial_end.MemDialEnd.{MemDialEnd}
use Rattle.dial_memory.specs.declared.mem_dial_net.MemDialNet.{MemDialNet}

-- an entry with this mask if it has this handle
abbrev pub masked : ℕ → Mask → ℕ × Mask → ℕ × Mask
masked handle mask entry = if entry.0 == handle then (handle, mask) else entry

-- the report that the end of a handle may be written
abbrev pub report_to : ℕ → Report
report_to handle = record { handle = record { 0 = handle }; kind = Write }

-- the masks by handle of the ends that are attached, the latest first
abbrev pub masks_of : MemDialNet → List (ℕ × Mask)
masks_of net = net.watched.items

-- the moments that are still to come, and those that were laid down
abbrev pub moments_left : MemDialNet → List ℕ
moments_left net = drop net.next net.moments.items

abbrev pub moments_of : MemDialNet → List ℕ
moments_of net = net.moments.items

-- how many moments came, how many reports are held back, and whether an end was taken back for good
abbrev pub came_so_far : MemDialNet → ℕ
came_so_far net = net.next

abbrev pub held_back : MemDialNet → ℕ
held_back net = net.held

abbrev pub is_gone : MemDialNet → Bool
is_gone net = net.gone

-- what a wait comes to now, with its limit
abbrev pub came_now : MemDialNet → Option ℕ → Came
came_now net most = came_of net.moments.items net.next net.now net.held net.gone
    (first_writer net.watched.items) most

-- that many reports to the end of a handle, and none if there is none
abbrev pub reports_to : Option ℕ → ℕ → List Report
reports_to None many = []
reports_to (Some handle) many = replicate many (report_to handle)

-- It never fails, and tells all. Its lists have the latest first.
abbrev pub mem_dial_net_facts : MemDialNet → NetFacts MemDialEnd
mem_dial_net_facts net = record {
  failed_waits = 0;
  failed_attaches = 0;
  steady = true;
  attached = map (λ entry. entry.0) net.watched.items;
  spare = net.spare;
  now = net.now;
  reports = replicate net.given (report_to net.to);
  calls = Some net.calls;
  masks = Some net.watched.items;
  retired = Some net.retired.items;
  turned_away = Some net.turned_away.items;
}

-- it follows no script of the terms
abbrev pub mem_dial_net_keeps : Terms → MemDialNet → Type 0
mem_dial_net_keeps t net = t.groups ≡ None

-- the ends that were retired, by handle, the latest first
abbrev pub ends_retired : MemDialNet → List (ℕ × MemDialEnd)
ends_retired net = net.retired.items

-- it made no call, and has nothing attached, retired or turned away
abbrev pub is_new_net : MemDialNet → Bool
is_new_net net = net.now == 0 && (length net.calls == 0
    && (length net.watched.items == 0 && (length net.retired.items == 0
    && length net.turned_away.items == 0)))
