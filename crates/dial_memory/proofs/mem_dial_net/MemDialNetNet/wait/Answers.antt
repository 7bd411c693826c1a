use Rattle.std.proofs.Common.{◌≡◌, ◌≤◌, ◌∙◌, ℕ, List, ◌∷◌, ap, sym, subst, refl, arith, length}
use Rattle.std.proofs.Common.{Option, Some}
use Rattle.std.specs.Option.{unwrap_or}
use Rattle.std.proofs.lemmas.List.{take-replicate}
use Rattle.ev_base.specs.Net.{Waits}
use Rattle.ev_base.specs.declared.net.Report.{Report}
use Rattle.dial_memory.specs.declared.moments.Came.{Came}
use Rattle.dial_memory.specs.Moments.{came_of, first_writer}
use Rattle.dial_memory.specs.DialNets.{mem_dial_net_facts, report_to}
use Rattle.dial_memory.proofs.Waiting.{ComesWell, comes_well, waits_by, wanted}
use Rattle.dial_memory.proofs.mem_dial_net.MemDialNetNet.wait.Goals as goal

well : (c : goal.After-add) → ComesWell c.args.self.now.moments.items c.args.self.now.next
    c.args.self.now.now c.args.self.now.held c.first_writer-writer.result c.come-came.result
well c =
    let s = c.args.self.now in
    let within : s.next ≤ length s.moments.items = omega arith in
    subst (λ (came : Came). ComesWell s.moments.items s.next s.now s.held
    c.first_writer-writer.result came)
    (sym (c.come-came.ensures ∙ ap (λ ms.
    came_of ms s.next s.now s.held s.gone c.first_writer-writer.result c.args.most_ms)
    c.deref-2.ensures.value))
    (comes_well s.moments.items s.next s.now s.held s.gone c.first_writer-writer.result s.rising
    s.bounded s.moment within s.few_held c.args.most_ms)

pub invariant_of-self-clause-rising : goal.invariant_of-self-clause-rising
invariant_of-self-clause-rising c = (well c).rising

pub invariant_of-self-clause-moment : goal.invariant_of-self-clause-moment
invariant_of-self-clause-moment c = (well c).bounded

pub invariant_of-self-clause-within : goal.invariant_of-self-clause-within
invariant_of-self-clause-within c = let w = (well c).within in omega (arith, w)

pub invariant_of-self-clause-few_held : goal.invariant_of-self-clause-few_held
invariant_of-self-clause-few_held c = (well c).few_held

pub invariant_of-self-clause-few : goal.invariant_of-self-clause-few
invariant_of-self-clause-few c = (well c).few

writer_is : (c : goal.After-add) → c.first_writer-writer.result
    ≡ first_writer c.args.self.now.watched.items
writer_is c = c.first_writer-writer.ensures ∙ ap first_writer c.deref.ensures.value

to_is : (c : goal.After-add) (h : ℕ) → first_writer c.args.self.now.watched.items ≡ Some h
    → c.unwrap_or-self.result ≡ h
to_is c h is =
    let w : c.first_writer-writer.result ≡ Some h = writer_is c ∙ is in
    c.unwrap_or-self.ensures ∙ ap (λ (o : Option ℕ). unwrap_or o 0) w

pub returns-clause-waits : goal.returns-clause-waits
returns-clause-waits c =
    let s = c.args.self.now in
    let came = c.come-came.result in
    let w = well c.before in
    waits_by (mem_dial_net_facts s) c.args.most_ms s.watched.items s.moments.items s.next s.held
    c.unwrap_or-self.result c.first_writer-writer.result came (Some c.add.new.self) refl w
    (ap Some (c.add.ensures ∙ ap (λ (rs : List Report). Waits c.args.most_ms came.answer rs
    ∷ s.calls) (take-replicate came.given 256 (report_to c.unwrap_or-self.result) w.few)))
    (wanted s.watched.items c.unwrap_or-self.result came.given
    (λ many. ((w.some many).0, sym (writer_is c.before) ∙ (w.some many).1)) (to_is c.before))
