-- Each status is told whole by its code and its number.
use Rattle.std.proofs.Common.{refl}
use Rattle.exit_status.specs.Laws.{StatusesHaveCodes}
use Rattle.exit_status.specs.declared.status.Status.TheVariants as status

pub statuses_have_codes : StatusesHaveCodes
statuses_have_codes status.Done = refl
statuses_have_codes status.Usage = refl
statuses_have_codes (status.BadText line) = refl
statuses_have_codes status.ReadFault = refl
statuses_have_codes status.WriteFault = refl
statuses_have_codes status.NetFault = refl
statuses_have_codes status.NoMemory = refl
statuses_have_codes status.ListenFault = refl
statuses_have_codes (status.BadRecord at) = refl
statuses_have_codes (status.Illegal at) = refl
statuses_have_codes (status.TooLong limit) = refl
statuses_have_codes status.VolumeFault = refl
statuses_have_codes status.PeerFault = refl
statuses_have_codes (status.TimedOut at) = refl
statuses_have_codes status.Unfinished = refl
