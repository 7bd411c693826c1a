use Rattle.std.proofs.Common.{◌≡◌, ◌==◌, ℕ, List, [], ◌∷◌, ◌++◌, Bool, true, false, None, sym, ap}
use Rattle.std.proofs.Common.{◌∙◌, subst}
use Rattle.reactor_summary.specs.declared.parts.LiveHandle.{LiveHandle}
use Rattle.reactor_summary.specs.declared.parts.WaitingEvent.{WaitingEvent}
use Rattle.reactor_summary.specs.Summary as S
use Rattle.reactor_summary.specs.Summary.{Summary}
use Rattle.reactor_state.specs.State.{Numbers}
use Rattle.reactor_state.specs.Tables.{queues}
use Rattle.std.proofs.Common.{◌&&◌, cond}
use Rattle.std.proofs.lemmas.List.{append-nil}
use Rattle.std.specs.List.{list_any}
use Rattle.reactor_state.specs.Sound.{handle_number}
use Rattle.reactor_state.specs.Rises.{RisesIn}
use Rattle.reactor_state.specs.Tables.{by_class}
use Rattle.reactor_state.proofs.Stepped.{event_pushed}
use Rattle.reactor_state.proofs.state.ReactorState.again.Goals as goal

alive_is : (hi x : ℕ) (hs gs ds : List LiveHandle) (b : Bool) → ds ≡ gs → gs ≡ hs
    → RisesIn handle_number 0 hi hs → ((hi : ℕ) → RisesIn handle_number 0 hi ds
    → b ≡ list_any (λ (h : LiveHandle). h.handle.0 == x && h.alive) ds)
    → list_any (λ (h : LiveHandle). h.handle.0 == x && h.alive) hs ≡ b
alive_is hi x hs gs ds b lent same rising says =
    sym (says hi (subst (RisesIn handle_number 0 hi) (sym (lent ∙ same)) rising)
    ∙ ap (list_any (λ (h : LiveHandle). h.handle.0 == x && h.alive)) (lent ∙ same))

pub returns-then-is_alive-clause-tables : goal.returns-then-is_alive-clause-tables
returns-then-is_alive-clause-tables g c s hi tables rising =
    let made : WaitingEvent = record {
      event = s.entries;
      handle = c.args.event.handle;
      upcall = c.args.event.upcall;
      due = None;
    } in
    let alive : S.is_alive s c.args.event.handle.0 ≡ true =
    alive_is hi c.args.event.handle.0 s.handles c.args.self.now.handles.items c.deref.result.now
    c.is_alive.result c.deref.ensures.value tables.handles rising c.is_alive.ensures
    ∙ c.if-is_alive.true in
    record {
      numbers = tables.numbers;
      handles = tables.handles;
      opens = tables.opens;
      waiting = event_pushed (record {
        event = c.args.self.now.entries;
        handle = c.args.event.handle;
        upcall = c.args.event.upcall;
        due = None;
      }) made
          (queues c.args.self.now.waiting) (queues c.push.new.self) s.waiting c.push.ensures.queues
          tables.waiting
          (ap (λ (n : Numbers). record {
            event = n.entries;
            handle = c.args.event.handle;
            upcall = c.args.event.upcall;
            due = None;
          }) tables.numbers)
          ∙ ap (λ (b : Bool). by_class (s.waiting ++ cond b (made ∷ []) [])) (sym alive);
      armed = tables.armed;
    }

pub returns-else-is_alive-clause-tables : goal.returns-else-is_alive-clause-tables
returns-else-is_alive-clause-tables g c s hi tables rising =
    let made : WaitingEvent = record {
      event = s.entries;
      handle = c.args.event.handle;
      upcall = c.args.event.upcall;
      due = None;
    } in
    let alive : S.is_alive s c.args.event.handle.0 ≡ false =
    alive_is hi c.args.event.handle.0 s.handles c.args.self.now.handles.items c.deref.result.now
    c.is_alive.result c.deref.ensures.value tables.handles rising c.is_alive.ensures
    ∙ c.if-is_alive.false in
    record {
      numbers = tables.numbers;
      handles = tables.handles;
      opens = tables.opens;
      waiting = tables.waiting ∙ ap by_class (sym (append-nil s.waiting))
          ∙ ap (λ (b : Bool). by_class (s.waiting ++ cond b (made ∷ []) [])) (sym alive);
      armed = tables.armed;
    }
