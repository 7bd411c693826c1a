use Rattle.std.proofs.Common.{◌≡◌, ◌==◌, List, [], ◌∷◌, ◌++◌, ap, ◌∙◌}
use Rattle.std.specs.List.{list_any}
use Rattle.reactor_summary.specs.declared.parts.OpenEvent.{OpenEvent}
use Rattle.journal_check.proofs.Keyed.{filter_all, none_left, on_ok}
use Rattle.journal_check.proofs.opens.Opens.push.Goals as goal

pub add-requires-clause-event : goal.add-requires-clause-event
add-requires-clause-event c = c.settle_of.ensures.others c.args.o.event
    (ap (list_any (λ (b : OpenEvent). c.args.o.event == b.event)) c.settle.ensures
    ∙ none_left (λ (b : OpenEvent). c.args.o.event == b.event) c.args.self.now)

pub returns : goal.returns
returns c closed idle =
    let first : c.settle.new.self ≡ c.args.self.now =
    c.settle.ensures ∙ filter_all (λ (b : OpenEvent). c.args.o.event == b.event) c.args.self.now
    closed in
    let second : c.settle_of.new.self ≡ c.settle.new.self =
    c.settle_of.ensures.same (ap (list_any (λ (b : OpenEvent). b.handle.0 == c.args.o.handle.0))
    first ∙ idle) in
    on_ok c.add.result c.add.ensures (λ new. new
    ∙ ap (λ (xs : List OpenEvent). xs ++ c.args.o ∷ []) (second ∙ first))
