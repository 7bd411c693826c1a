use Rattle.std.proofs.Common.{refl, ◌∷◌, []}
use Rattle.message_lines.proofs.Boxes.{in_dropped, in_lost, in_kept}
use Rattle.message_lines.proofs.inbox.Inbox.keep.Goals as goal

pub returns-then-self-clause-accepted : goal.returns-then-self-clause-accepted
returns-then-self-clause-accepted c =
    λ got base h. in_dropped got base c.args.self.now (c.args.message ∷ []) c.requires
    c.if-self.true h

pub returns-clause-accepted : goal.returns-clause-accepted
returns-clause-accepted c = λ got base h.
    in_lost got base c.args.self.now _ (c.args.message ∷ []) c.requires c.if-self.false refl
    c.in-Err.ensures.items refl h

pub returns-in-Ok-clause-accepted : goal.returns-in-Ok-clause-accepted
returns-in-Ok-clause-accepted c = λ got base h.
    in_kept got base c.args.self.now _ (c.args.message ∷ []) c.requires c.if-self.false
    c.if-self.false c.in-Ok.ensures.items refl h
