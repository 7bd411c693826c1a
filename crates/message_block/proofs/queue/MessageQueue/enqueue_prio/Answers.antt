use Rattle.std.proofs.Common.{◌≡◌, ◌≤◌, ◌+◌, ℕ, true, false, length, drop, ap, ◌∙◌, sym, subst}
use Rattle.std.proofs.Common.{arith}
use Rattle.std.proofs.lemmas.Grind.{common_steps}
use Rattle.std.specs.List.{list_all}
use Rattle.message_block.specs.Messages.{bytes_of, held_in, is_below, put_by_priority}
use Rattle.message_block.proofs.Held.{held_in-insert}
use Rattle.message_block.proofs.Priority.{put-insert}
use Rattle.message_block.proofs.queue.MessageQueue.enqueue_prio.Goals as goal

-- the bytes of the message are added
pub invariant_of-self : goal.invariant_of-self
invariant_of-self c =
    let more : held_in c.insert.new.self.items
    ≡ held_in c.self.inside.messages.items + length (bytes_of c.args.m) =
    ap held_in c.in-Ok.ensures.items ∙ held_in-insert c.self.inside.messages.items
    c.place_by_priority-place.result c.args.m in
    grind (arith, common_steps)

-- the place is that of its priority
pub returns-in-Ok-clause-queued : goal.returns-in-Ok-clause-queued
returns-in-Ok-clause-queued c =
    let within : c.place_by_priority-place.result ≤ length c.self.inside.messages.items =
    grind (arith, common_steps) in
    let lower : list_all (is_below c.args.m.priority)
    (drop c.place_by_priority-place.result c.self.inside.messages.items) ≡ true =
    subst (λ (n : ℕ). list_all (is_below n)
    (drop c.place_by_priority-place.result c.self.inside.messages.items) ≡ true)
    c.priority.ensures
    c.place_by_priority-place.ensures.lower in
    let placed : c.insert.new.self.items ≡ put_by_priority c.args.m c.self.inside.messages.items =
    c.in-Ok.ensures.items
    ∙ sym (put-insert c.args.m c.self.inside.messages.items c.place_by_priority-place.result within
    lower
    (λ before e. subst (λ (n : ℕ). list_all (is_below n) (drop before c.self.inside.messages.items)
    ≡ false) c.priority.ensures
    (c.place_by_priority-place.ensures.least before e))) in
    grind (arith, common_steps)
