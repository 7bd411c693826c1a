use Rattle.std.proofs.Common.{rules, ◌≡◌, refl}
use Rattle.std.proofs.lemmas.Int.{to_z-of_z}
use Rattle.std.specs.Int.{w32, w64, cast_unsigned}
use Rattle.std.specs.Int.RustNames.{FitsSigned}
use Rattle.cdr_record.specs.Borrowed.{owned}
use Rattle.forwarder.proofs.Bounds.{fits_by}
use Rattle.forwarder.proofs.Spelled.{version_1}
use Rattle.forwarder.proofs.spelling.push_version_1.Goals as goal

pub short_seconds-requires : goal.short_seconds-requires
short_seconds-requires c =
    let fits : FitsSigned w64 c.args.entry.sec = search rules in
    rw to_z-of_z ((fits_by c.args.entry.sec).0 c.requires.seconds)

pub returns-clause-ok : goal.returns-clause-ok
returns-clause-ok c =
    let kind_fits : FitsSigned w32 c.args.entry.kind = search rules in
    let pid_fits : FitsSigned w32 c.args.entry.pid = search rules in
    let usec_fits : FitsSigned w32 c.args.entry.usec = search rules in
    let kind : c.cast_unsigned.result ≡ cast_unsigned w32 c.args.entry.kind =
    rw (c.cast_unsigned.ensures, to_z-of_z) refl in
    let pid : c.cast_unsigned-2.result ≡ cast_unsigned w32 c.args.entry.pid =
    rw (c.cast_unsigned-2.ensures, to_z-of_z) refl in
    let sec_fits : FitsSigned w64 c.args.entry.sec = search rules in
    let sec : c.short_seconds.result ≡ cast_unsigned w32 c.args.entry.sec =
    rw (c.short_seconds.ensures, to_z-of_z) refl in
    let usec : c.cast_unsigned-3.result ≡ cast_unsigned w32 c.args.entry.usec =
    rw (c.cast_unsigned-3.ensures, to_z-of_z) refl in
    version_1 (owned c.args.entry) _ _ _ _ _ _ _ kind pid sec usec c.in_ok-push_words.ensures.ok
    c.in_ok-extend_from_slice.ensures.items
