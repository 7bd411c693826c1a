use Rattle.std.proofs.Common.{◌≡◌, ◌∙◌, sym, ap, refl, Some}
use Rattle.std.specs.Prelude.{slice_get}
use Rattle.reactor_state.specs.declared.places.Pick.{Pick}
use Rattle.reactor_state.specs.Tables.{Queues, queues, queue_of, is_free}
use Rattle.reactor_state.proofs.Picked.{free_in, picked, placed_in, if_some, none_in}
use Rattle.reactor_state.proofs.waiting.Waiting.find_pick.Goals.{then-not-is_empty+in_default}
use Rattle.reactor_state.proofs.waiting.Waiting.find_pick.Goals.{else-not-is_empty}
use Rattle.reactor_state.proofs.waiting.Waiting.find_pick.Goals.{
  then-not-is_empty-2+in_default-first_free,
}
use Rattle.reactor_state.proofs.waiting.Waiting.find_pick.Goals.{else-not-is_empty-2}
use Rattle.reactor_state.proofs.waiting.Waiting.find_pick.Goals.{
  then-not-is_empty-3+in_default-first_free-2,
}
use Rattle.reactor_state.proofs.waiting.Waiting.find_pick.Goals.{else-not-is_empty-3}
use Rattle.reactor_state.proofs.waiting.Waiting.find_pick.Goals.{
  then-not-is_empty-4+in_default-first_free-3,
}
use Rattle.reactor_state.proofs.waiting.Waiting.find_pick.Goals.{else-not-is_empty-4}
use Rattle.reactor_state.proofs.waiting.Waiting.find_pick.Goals as goal

pub returns-in-Some-clause-first : goal.returns-in-Some-clause-first
returns-in-Some-clause-first c s hi r eh eo eq =
    picked s _ _ _ _ _
    (sym (c.in-Some.ensures.first hi r
    ∙ free_in s c.args.handles.now c.args.opens.now 0 _ eh eo
    (ap (λ (q : Queues). q.timeouts) eq)))
    refl
    refl
    refl
    refl

pub returns-in-Some-clause-placed : goal.returns-in-Some-clause-placed
returns-in-Some-clause-placed c s eq =
    placed_in 0 (queues c.args.self.now) s.waiting c.in-Some.p.place c.in-Some.p.event
    (ap (λ (q : Queues). q.timeouts) eq) c.in-Some.ensures.placed

pub returns-in-Some-first_free-clause-first : goal.returns-in-Some-first_free-clause-first
returns-in-Some-first_free-clause-first c s hi r eh eo eq =
    picked s _ _ _ _ _
    (sym ((elim c.if-not-is_empty.branch [
      | then-not-is_empty+in_default w ↦ w.in_default.ensures.first hi r
      | else-not-is_empty w ↦
          none_in (λ w. is_free c.args.handles.now c.args.opens.now w.handle.0)
          (queues c.args.self.now).timeouts _ c.is_empty.ensures w.if-not-is_empty.false
    ])
    ∙ free_in s c.args.handles.now c.args.opens.now 0 _ eh eo
    (ap (λ (q : Queues). q.timeouts) eq)))
    (sym (c.in-Some-first_free.ensures.first hi r
    ∙ free_in s c.args.handles.now c.args.opens.now 1 _ eh eo
    (ap (λ (q : Queues). q.notices) eq)))
    refl
    refl
    refl

pub returns-in-Some-first_free-clause-placed : goal.returns-in-Some-first_free-clause-placed
returns-in-Some-first_free-clause-placed c s eq =
    placed_in 1 (queues c.args.self.now) s.waiting c.in-Some-first_free.p.place
    c.in-Some-first_free.p.event (ap (λ (q : Queues). q.notices) eq)
    c.in-Some-first_free.ensures.placed

pub returns-in-Some-first_free-2-clause-first : goal.returns-in-Some-first_free-2-clause-first
returns-in-Some-first_free-2-clause-first c s hi r eh eo eq =
    picked s _ _ _ _ _
    (sym ((elim c.if-not-is_empty.branch [
      | then-not-is_empty+in_default w ↦ w.in_default.ensures.first hi r
      | else-not-is_empty w ↦
          none_in (λ w. is_free c.args.handles.now c.args.opens.now w.handle.0)
          (queues c.args.self.now).timeouts _ c.is_empty.ensures w.if-not-is_empty.false
    ])
    ∙ free_in s c.args.handles.now c.args.opens.now 0 _ eh eo
    (ap (λ (q : Queues). q.timeouts) eq)))
    (sym ((elim c.if-not-is_empty-2.branch [
      | then-not-is_empty-2+in_default-first_free w ↦ w.in_default-first_free.ensures.first hi r
      | else-not-is_empty-2 w ↦ none_in (λ w.
          is_free c.args.handles.now c.args.opens.now w.handle.0) (queues c.args.self.now).notices _
          c.is_empty-2.ensures w.if-not-is_empty-2.false
    ])
    ∙ free_in s c.args.handles.now c.args.opens.now 1 _ eh eo
    (ap (λ (q : Queues). q.notices) eq)))
    (sym (c.in-Some-first_free-2.ensures.first hi r
    ∙ free_in s c.args.handles.now c.args.opens.now 2 _ eh eo
    (ap (λ (q : Queues). q.outputs) eq)))
    refl
    refl

pub returns-in-Some-first_free-2-clause-placed : goal.returns-in-Some-first_free-2-clause-placed
returns-in-Some-first_free-2-clause-placed c s eq =
    placed_in 2 (queues c.args.self.now) s.waiting c.in-Some-first_free-2.p.place
    c.in-Some-first_free-2.p.event (ap (λ (q : Queues). q.outputs) eq)
    c.in-Some-first_free-2.ensures.placed

pub returns-in-Some-first_free-3-clause-first : goal.returns-in-Some-first_free-3-clause-first
returns-in-Some-first_free-3-clause-first c s hi r eh eo eq =
    picked s _ _ _ _ _
    (sym ((elim c.if-not-is_empty.branch [
      | then-not-is_empty+in_default w ↦ w.in_default.ensures.first hi r
      | else-not-is_empty w ↦
          none_in (λ w. is_free c.args.handles.now c.args.opens.now w.handle.0)
          (queues c.args.self.now).timeouts _ c.is_empty.ensures w.if-not-is_empty.false
    ])
    ∙ free_in s c.args.handles.now c.args.opens.now 0 _ eh eo
    (ap (λ (q : Queues). q.timeouts) eq)))
    (sym ((elim c.if-not-is_empty-2.branch [
      | then-not-is_empty-2+in_default-first_free w ↦ w.in_default-first_free.ensures.first hi r
      | else-not-is_empty-2 w ↦ none_in (λ w.
          is_free c.args.handles.now c.args.opens.now w.handle.0) (queues c.args.self.now).notices _
          c.is_empty-2.ensures w.if-not-is_empty-2.false
    ])
    ∙ free_in s c.args.handles.now c.args.opens.now 1 _ eh eo
    (ap (λ (q : Queues). q.notices) eq)))
    (sym ((elim c.if-not-is_empty-3.branch [
      | then-not-is_empty-3+in_default-first_free-2 w ↦ w.in_default-first_free-2.ensures.first hi
          r
      | else-not-is_empty-3 w ↦ none_in
          (λ w. is_free c.args.handles.now c.args.opens.now w.handle.0)
          (queues c.args.self.now).outputs _ c.is_empty-3.ensures w.if-not-is_empty-3.false
    ])
    ∙ free_in s c.args.handles.now c.args.opens.now 2 _ eh eo
    (ap (λ (q : Queues). q.outputs) eq)))
    (sym (c.in-Some-first_free-3.ensures.first hi r
    ∙ free_in s c.args.handles.now c.args.opens.now 3 _ eh eo
    (ap (λ (q : Queues). q.excepts) eq)))
    refl

pub returns-in-Some-first_free-3-clause-placed : goal.returns-in-Some-first_free-3-clause-placed
returns-in-Some-first_free-3-clause-placed c s eq =
    placed_in 3 (queues c.args.self.now) s.waiting c.in-Some-first_free-3.p.place
    c.in-Some-first_free-3.p.event (ap (λ (q : Queues). q.excepts) eq)
    c.in-Some-first_free-3.ensures.placed

pub returns-clause-first : goal.returns-clause-first
returns-clause-first c s hi r eh eo eq =
    picked s _ _ _ _ _
    (sym ((elim c.if-not-is_empty.branch [
      | then-not-is_empty+in_default w ↦ w.in_default.ensures.first hi r
      | else-not-is_empty w ↦
          none_in (λ w. is_free c.args.handles.now c.args.opens.now w.handle.0)
          (queues c.args.self.now).timeouts _ c.is_empty.ensures w.if-not-is_empty.false
    ])
    ∙ free_in s c.args.handles.now c.args.opens.now 0 _ eh eo
    (ap (λ (q : Queues). q.timeouts) eq)))
    (sym ((elim c.if-not-is_empty-2.branch [
      | then-not-is_empty-2+in_default-first_free w ↦ w.in_default-first_free.ensures.first hi r
      | else-not-is_empty-2 w ↦ none_in (λ w.
          is_free c.args.handles.now c.args.opens.now w.handle.0) (queues c.args.self.now).notices _
          c.is_empty-2.ensures w.if-not-is_empty-2.false
    ])
    ∙ free_in s c.args.handles.now c.args.opens.now 1 _ eh eo
    (ap (λ (q : Queues). q.notices) eq)))
    (sym ((elim c.if-not-is_empty-3.branch [
      | then-not-is_empty-3+in_default-first_free-2 w ↦ w.in_default-first_free-2.ensures.first hi
          r
      | else-not-is_empty-3 w ↦ none_in
          (λ w. is_free c.args.handles.now c.args.opens.now w.handle.0)
          (queues c.args.self.now).outputs _ c.is_empty-3.ensures w.if-not-is_empty-3.false
    ])
    ∙ free_in s c.args.handles.now c.args.opens.now 2 _ eh eo
    (ap (λ (q : Queues). q.outputs) eq)))
    (sym ((elim c.if-not-is_empty-4.branch [
      | then-not-is_empty-4+in_default-first_free-3 w ↦ w.in_default-first_free-3.ensures.first hi
          r
      | else-not-is_empty-4 w ↦ none_in
          (λ w. is_free c.args.handles.now c.args.opens.now w.handle.0)
          (queues c.args.self.now).excepts _ c.is_empty-4.ensures w.if-not-is_empty-4.false
    ])
    ∙ free_in s c.args.handles.now c.args.opens.now 3 _ eh eo
    (ap (λ (q : Queues). q.excepts) eq)))
    (sym (c.first_free-2.ensures.first hi r
    ∙ free_in s c.args.handles.now c.args.opens.now 4 _ eh eo
    (ap (λ (q : Queues). q.inputs) eq)))

pub returns-clause-placed : goal.returns-clause-placed
returns-clause-placed c s eq =
    if_some c.first_free-2.result (λ (p : Pick). slice_get (queues c.args.self.now).inputs p.place
    ≡ Some p.event) (λ (p : Pick). slice_get (queue_of p.event.upcall (queues c.args.self.now))
    p.place ≡ Some p.event)
    (λ p here. placed_in 4 (queues c.args.self.now) s.waiting p.place p.event
    (ap (λ (q : Queues). q.inputs) eq) here) c.first_free-2.ensures.placed
