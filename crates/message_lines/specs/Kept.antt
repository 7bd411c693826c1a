-- That what keeps what came goes on keeping it.
use Rattle.std.specs.Prelude.{refl}
use Rattle.std.proofs.Common.{◌∙◌}
use Rattle.message_lines.specs.declared.lines.Lines.{Lines}
use Rattle.message_lines.specs.Caller.{Keeps}

pub keeps_same : (side : Lines) → Keeps side side
keeps_same side = record {
  came = λ answered h. h;
  lost = refl;
  sent = refl;
  same = (refl, refl);
}

pub keeps_then : (first then last : Lines) → Keeps first then → Keeps then last → Keeps first last
keeps_then first then last a b = record {
  came = λ answered h. b.came answered (a.came answered h);
  lost = b.lost ∙ a.lost;
  sent = b.sent ∙ a.sent;
  same = (b.same.0 ∙ a.same.0, b.same.1 ∙ a.same.1);
}
