use Rattle.std.proofs.Common.{arith, rules, ◌≡◌, ◌<◌, length, sym, ap}
use Rattle.ev_base.specs.MemoryForms.{HasByteAt, given_of, left_of}
use Rattle.ev_base.proofs.Pieces.{left_of-beyond, within-piece, gives-bytes}
use Rattle.ev_base.proofs.memory.MemSourceSource.read.Goals as goal

pub invariant_of-self-then-next-len : goal.invariant_of-self-then-next-len
invariant_of-self-then-next-len c =
    record {
      spent = λ _. left_of-beyond c.args.self.now.pieces.items c.past_spent-next.result.0
          c.past_spent-next.result.1 (omega arith);
    }

pub copy_from-count-requires : goal.copy_from-count-requires
copy_from-count-requires c =
    let has : HasByteAt c.args.self.now.pieces.items c.past_spent-next.result.0
    c.past_spent-next.result.1 = rw c.deref-2.ensures.value at c.past_spent-next.ensures.some in
    let below = within-piece c.args.self.now.pieces.items c.index.result.now
    c.past_spent-next.result.0 c.past_spent-next.result.1 (omega arith) (sym c.index.ensures)
    has in
    omega (arith, ap length c.as_slice-bytes.ensures.value)

pub returns-clause-reads : goal.returns-clause-reads
returns-clause-reads c =
    let items = c.args.self.now.pieces.items in
    let next = c.past_spent-next.result.0 in
    let at = c.past_spent-next.result.1 in
    let has : HasByteAt items next at =
    rw c.deref-2.ensures.value at c.past_spent-next.ensures.some in
    let given : given_of next at items ≡ given_of c.args.self.now.next c.args.self.now.at items =
    rw c.deref-2.ensures.value at c.past_spent-next.ensures.given in
    let left : left_of next at items ≡ left_of c.args.self.now.next c.args.self.now.at items =
    rw c.deref-2.ensures.value at c.past_spent-next.ensures.left in
    let within : next < length items = omega arith in
    let below = within-piece items c.index.result.now next at within (sym c.index.ensures) has in
    gives-bytes c.args.self.now.faults c.args.self.now.over items c.index.result.now
    c.as_slice-bytes.result.now c.copy_from-count.new.buf
    c.args.self.now.next c.args.self.now.at next at c.copy_from-count.result
    (search rules) given left (omega (arith, ap length c.as_slice-bytes.ensures.value)) within
    c.index.ensures c.as_slice-bytes.ensures.value
    (search (rules, c.copy_from-count.ensures.count)) (omega arith) c.copy_from-count.ensures.copied
