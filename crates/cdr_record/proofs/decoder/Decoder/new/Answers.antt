use Rattle.cdr_record.proofs.Cutting.{first_nil}
use Rattle.cdr_record.proofs.Taking.{fresh_stands}
use Rattle.std.proofs.Common.{ap, ◌∙◌}
use Rattle.cdr_record.specs.Grammar.{first_of}
use Rattle.cdr_record.proofs.decoder.Decoder.new.Goals as goal

pub invariant_of-result : goal.invariant_of-result
invariant_of-result c = ap first_of c.new.ensures.items ∙ first_nil

pub returns-clause-stands : goal.returns-clause-stands
returns-clause-stands c = rw c.new.ensures.items fresh_stands
