-- What an exchange comes to.
use Rattle.std.proofs.Common.{◌≡◌, ◌∙◌}
use Rattle.std.proofs.Common.{Result, Ok, Err, OnOk, IfErr}
use Rattle.message_lines.specs.declared.line.Item.{Item}
use Rattle.message_lines.specs.declared.lines.Lines.{Lines}
use Rattle.message_lines.specs.Exchanges.{PutsAfter}
use Rattle.message_lines.specs.Caller.{KeepsWhatCame, AreSame, Keeps, HasPut}

-- what an exchange of lines comes to, whatever it answered
pub exchanged : (old new : Lines) (item : Item) (result : Result Unit Item)
    → OnOk result (PutsAfter Keeps HasPut old item new)
    → IfErr result (λ back. (back ≡ item) × Keeps old new)
    → KeepsWhatCame old new × (new.inbox.lost ≡ old.inbox.lost) × AreSame old new
exchanged old new item (Ok done) put refused =
    let k = put.1 in
    let p = put.2 in (
      λ answered h. p.came answered (k.came answered h),
      p.lost ∙ k.lost,
      (p.same.0 ∙ k.same.0, p.same.1 ∙ k.same.1),
    )
exchanged old new item (Err back) put refused =
    let k = refused.1 in (k.came, k.lost, k.same)
