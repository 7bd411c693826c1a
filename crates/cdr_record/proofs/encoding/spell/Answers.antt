use Rattle.std.proofs.Common.{rules, ◌≡◌, ◌++◌, refl}
use Rattle.std.proofs.lemmas.Int.{to_z-of_z}
use Rattle.std.specs.Int.{w32, w64, cast_unsigned}
use Rattle.std.specs.Int.RustNames.{FitsSigned}
use Rattle.cdr_record.specs.Spelling.{seconds_bytes}
use Rattle.cdr_record.proofs.encoding.spell.Goals as goal
use Rattle.cdr_record.proofs.Writing.{spelled}

pub returns : goal.returns
returns c =
    let kind_fits : FitsSigned w32 c.args.r.now.kind = search rules in
    let pid_fits : FitsSigned w32 c.args.r.now.pid = search rules in
    let sec_fits : FitsSigned w64 c.args.r.now.sec = search rules in
    let usec_fits : FitsSigned w32 c.args.r.now.usec = search rules in
    let kind : c.cast_unsigned.result ≡ cast_unsigned w32 c.args.r.now.kind =
    rw (c.cast_unsigned.ensures, to_z-of_z) refl in
    let pid : c.cast_unsigned-2.result ≡ cast_unsigned w32 c.args.r.now.pid =
    rw (c.cast_unsigned-2.ensures, to_z-of_z) refl in
    let usec : c.cast_unsigned-3.result ≡ cast_unsigned w32 c.args.r.now.usec =
    rw (c.cast_unsigned-3.ensures, to_z-of_z) refl in
    let sec : c.push_seconds.new.out.items
    ≡ c.push_word-3.new.out.items ++ seconds_bytes c.args.octet c.args.r.now.sec =
    rw (c.in_ok-push_seconds.ensures, to_z-of_z) refl in
    spelled _ _ _ _ _ _ _ _ _ _ _ _ _ _ _ _ _ c.order_of-order.ensures c.seconds_size.ensures.size
    c.as_slice-message.ensures
    kind pid usec
    c.in_ok-out.ensures.items c.in_ok-extend_from_slice.ensures.items c.in_ok-push_word.ensures
    c.in_ok-push_word-2.ensures c.in_ok-push_word-3.ensures sec
    c.in_ok-push_word-4.ensures c.in_ok-push_word-5.ensures
    c.in_ok-extend_from_slice-2.ensures.items
