-- The statuses of the commands' endings, and the codes and numbers that these have by the table of
-- all statuses (this project's own).
use Rattle.std.specs.Prelude.{ℕ}
use Rattle.exit_status.specs.Statuses.{code_of, number_of}
use Rattle.exit_status.specs.declared.status.Status.{Status}
use Rattle.exit_status.specs.declared.status.Status.TheVariants as status
use Rattle.cmd_display.specs.declared.showing.DisplayEnd.{DisplayEnd}
use Rattle.cmd_display.specs.declared.showing.DisplayEnd.TheVariants as shown
use Rattle.cmd_audit.specs.declared.auditing.AuditEnd.{AuditEnd}
use Rattle.cmd_audit.specs.declared.auditing.AuditEnd.TheVariants as audited
use Rattle.cmd_gen.specs.cmd_replay.specs.declared.ends.ReplayEnd.{ReplayEnd}
use Rattle.cmd_gen.specs.cmd_replay.specs.declared.ends.ReplayEnd.TheVariants as replayed
use Rattle.cmd_serve.specs.declared.ending.HostEnd.{HostEnd}
use Rattle.cmd_serve.specs.declared.ending.HostEnd.TheVariants as served
use Rattle.cmd_gen.specs.declared.ends.GenerateEnd.{GenerateEnd}
use Rattle.cmd_gen.specs.declared.ends.GenerateEnd.TheVariants as generated

-- the limits of the inputs in bytes: 2^40 of records, and 2^28 of the text of a script or a journal
abbrev pub display_limit : ℕ
display_limit = 1099511627776

abbrev pub text_limit : ℕ
text_limit = 268435456

-- the status of each ending of `display`; the program ends with its code, and tells its number
abbrev pub display_status : DisplayEnd → Status
display_status shown.Done = status.Done
display_status shown.ReadFault = status.ReadFault
display_status shown.WriteFault = status.WriteFault
display_status shown.NoMemory = status.NoMemory
display_status (shown.BadRecord at) = status.BadRecord at
display_status shown.TooLong = status.TooLong display_limit

abbrev pub display_code : DisplayEnd → ℕ
display_code end = code_of (display_status end)

abbrev pub display_number : DisplayEnd → ℕ
display_number end = number_of (display_status end)

-- of `audit`
abbrev pub audit_status : AuditEnd → Status
audit_status audited.Legal = status.Done
audit_status (audited.BadText line) = status.BadText line
audit_status audited.ReadFault = status.ReadFault
audit_status audited.WriteFault = status.WriteFault
audit_status audited.NoMemory = status.NoMemory
audit_status (audited.Illegal at) = status.Illegal at
audit_status audited.TooLong = status.TooLong text_limit

abbrev pub audit_code : AuditEnd → ℕ
audit_code end = code_of (audit_status end)

abbrev pub audit_number : AuditEnd → ℕ
audit_number end = number_of (audit_status end)

-- of `replay`
abbrev pub replay_status : ReplayEnd → Status
replay_status replayed.Done = status.Done
replay_status (replayed.BadText line) = status.BadText line
replay_status replayed.ReadFault = status.ReadFault
replay_status replayed.WriteFault = status.WriteFault
replay_status replayed.NoMemory = status.NoMemory
replay_status replayed.TooLong = status.TooLong text_limit
replay_status replayed.VolumeFault = status.VolumeFault

abbrev pub replay_code : ReplayEnd → ℕ
replay_code end = code_of (replay_status end)

abbrev pub replay_number : ReplayEnd → ℕ
replay_number end = number_of (replay_status end)

-- of `serve` and of `gen`, which have no number
abbrev pub serve_status : HostEnd → Status
serve_status served.Done = status.Done
serve_status served.WriteFault = status.WriteFault
serve_status served.NetFault = status.NetFault
serve_status served.NoMemory = status.NoMemory
serve_status served.ListenFault = status.ListenFault
serve_status served.VolumeFault = status.VolumeFault

abbrev pub serve_code : HostEnd → ℕ
serve_code end = code_of (serve_status end)

abbrev pub generate_status : GenerateEnd → Status
generate_status generated.Done = status.Done
generate_status generated.WriteFault = status.WriteFault
generate_status generated.NoMemory = status.NoMemory
generate_status generated.VolumeFault = status.VolumeFault

abbrev pub generate_code : GenerateEnd → ℕ
generate_code end = code_of (generate_status end)
