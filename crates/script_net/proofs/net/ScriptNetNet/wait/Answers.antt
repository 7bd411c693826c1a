use Rattle.std.proofs.Common.{◌≡◌, ◌∙◌, ◌∷◌, List, ap}
use Rattle.ev_base.specs.Net.{Waits}
use Rattle.ev_base.specs.Playing.{played, waited}
use Rattle.ev_base.specs.declared.net.Report.{Report}
use Rattle.ev_base.specs.declared.net.Waited.{Waited}
use Rattle.script_net.specs.Scripts.{group_views}
use Rattle.script_net.specs.contracts.net.ScriptNet.{the_view}
use Rattle.script_net.proofs.NetLemmas.{after_is, waits_as}
use Rattle.script_net.proofs.net.ScriptNetNet.wait.Goals as goal

pub returns-clause-waits : goal.returns-clause-waits
returns-clause-waits c =
    let i = c.self.inside in
    let most = c.args.most_ms in
    let s = c.self.invariant.stands in
    let w = c.wait-answer.ensures.waits (played (group_views i.player.groups.items) i.calls) s in
    let reports : c.deref-2.result.now
    ≡ (waited most (played (group_views i.player.groups.items) i.calls)).reports =
    c.deref-2.ensures.value ∙ w.reports in
    let calls = c.add.ensures ∙ ap (λ (rs : List Report). Waits most c.wait-answer.result rs
    ∷ i.calls) reports
    ∙ ap (λ (a : Waited). Waits most a
    (waited most (played (group_views i.player.groups.items) i.calls)).reports ∷ i.calls)
    w.answers in
    waits_as (the_view i) c.args.self.now
    (the_view (record i {
      player = c.wait-answer.new.self;
      waits = c.saturating_add-self-inside.result;
      calls = c.add.new.self;
    })) most c.wait-answer.result
    c.self.view_is
    s.order s.last w.answers
    (after_is (the_view i) most (group_views c.wait-answer.new.self.groups.items) c.add.new.self
    c.wait-answer.new.self.reports.items c.saturating_add-self-inside.result
    (ap (λ gs. group_views gs.items) c.wait-answer.ensures.rest.0) calls w.reports
    c.saturating_add-self-inside.ensures)
