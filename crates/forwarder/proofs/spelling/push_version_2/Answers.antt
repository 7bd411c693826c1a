use Rattle.std.proofs.Common.{rules, ◌≡◌, refl}
use Rattle.std.proofs.lemmas.Int.{to_z-of_z}
use Rattle.std.specs.Int.{w32, w64, cast_unsigned}
use Rattle.std.specs.Int.RustNames.{FitsSigned}
use Rattle.cdr_record.specs.Borrowed.{owned}
use Rattle.forwarder.proofs.Spelled.{on_err, stands_first, version_2}
use Rattle.forwarder.proofs.spelling.push_version_2.Goals as goal

pub returns-clause-ok : goal.returns-clause-ok
returns-clause-ok c =
    let kind_fits : FitsSigned w32 c.args.entry.kind = search rules in
    let pid_fits : FitsSigned w32 c.args.entry.pid = search rules in
    let sec_fits : FitsSigned w64 c.args.entry.sec = search rules in
    let usec_fits : FitsSigned w32 c.args.entry.usec = search rules in
    let kind : c.cast_unsigned.result ≡ cast_unsigned w32 c.args.entry.kind =
    rw (c.cast_unsigned.ensures, to_z-of_z) refl in
    let pid : c.cast_unsigned-2.result ≡ cast_unsigned w32 c.args.entry.pid =
    rw (c.cast_unsigned-2.ensures, to_z-of_z) refl in
    let sec : c.cast_unsigned-3.result ≡ cast_unsigned w64 c.args.entry.sec =
    rw (c.cast_unsigned-3.ensures, to_z-of_z) refl in
    let usec : c.cast_unsigned-4.result ≡ cast_unsigned w32 c.args.entry.usec =
    rw (c.cast_unsigned-4.ensures, to_z-of_z) refl in
    version_2 (owned c.args.entry) _ _ _ _ _ _ _ _ _ _ kind pid sec usec
    c.in_ok-push_words.ensures.ok c.write_u64.ensures c.in_ok-extend_from_slice.ensures.items
    c.in_ok-push_words-2.ensures.ok c.in_ok-extend_from_slice-2.ensures.items

pub returns-in_err-extend_from_slice-2-clause-err :
    goal.returns-in_err-extend_from_slice-2-clause-err
returns-in_err-extend_from_slice-2-clause-err c = on_err _ _
    (stands_first _ _ _ _ _ _ _ _ c.in_ok-push_words.ensures.ok
    c.in_ok-extend_from_slice.ensures.items c.in_ok-push_words-2.ensures.ok
    c.in_err-extend_from_slice-2.ensures.items)
