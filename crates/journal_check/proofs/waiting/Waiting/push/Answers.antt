use Rattle.std.proofs.Common.{◌≡◌, ◌<◌, ◌==◌, ◌++◌, ◌∷◌, [], List, sym, ap, ◌∙◌, subst}
use Rattle.std.specs.List.{list_any}
use Rattle.reactor_summary.specs.Tells.{Each}
use Rattle.reactor_summary.specs.declared.parts.WaitingEvent.{WaitingEvent}
use Rattle.journal_check.proofs.Keyed.{filter_all, none_left, on_ok}
use Rattle.journal_check.proofs.Queue.{below_absent}
use Rattle.journal_check.proofs.waiting.Waiting.push.Goals as goal

pub put-requires : goal.put-requires
put-requires c = ap (list_any (λ (v : WaitingEvent). c.args.w.event == v.event)) c.take.ensures
    ∙ none_left (λ (v : WaitingEvent). c.args.w.event == v.event) c.args.self.now

pub returns : goal.returns
returns c below =
    let same : c.take.new.self ≡ c.args.self.now =
    c.take.ensures ∙ filter_all (λ (v : WaitingEvent). c.args.w.event == v.event)
    c.args.self.now (below_absent c.args.w.event c.args.self.now below) in
    on_ok c.put.result (c.put.ensures (subst (Each (λ (v : WaitingEvent). v.event < c.args.w.event))
    (sym same) below)) (λ new. new ∙ ap (λ (xs : List WaitingEvent). xs ++ c.args.w ∷ []) same)
