use Rattle.std.proofs.Common.{rules}
use Rattle.std.specs.Int.{w32, w64}
use Rattle.std.specs.Int.RustNames.{FitsSigned}
use Rattle.cdr_record.proofs.grammar.record_in.Goals as goal
use Rattle.cdr_record.proofs.Reading.{made_record}

pub returns : goal.returns
returns c =
    let kind : FitsSigned w32 c.signed_at.result = search rules in
    let pid : FitsSigned w32 c.signed_at-2.result = search rules in
    let sec : FitsSigned w64 c.seconds_in.result = search rules in
    let usec : FitsSigned w32 c.signed_at-3.result = search rules in
    made_record _ _ _ _ _ _ _ kind pid sec usec c.signed_at.ensures c.signed_at-2.ensures
    c.seconds_in.ensures
    c.seconds_size.ensures.size c.signed_at-3.ensures c.message_in.ensures
