use Rattle.std.proofs.Common.{arith, sym, ap, ◌∙◌, ◌+◌, ◌≡◌, ◌++◌, List, ℕ, drop, append-nil, refl}
use Rattle.std.proofs.lemmas.List.{take_rest}
use Rattle.cdr_record.specs.Grammar.{record_in}
use Rattle.cdr_record.specs.Decoding.{records_of, taken_of, told}
use Rattle.cdr_record.proofs.Taking.{one_fields, one_message, in_parts, completed, ends_bad}
use Rattle.cdr_record.proofs.Taking.{ends_whole, ends_more, joined_records}
use Rattle.cdr_record.proofs.decoder.take_piece.Goals as goal

pub record_in-requires-clause-fields : goal.record_in-requires-clause-fields
record_in-requires-clause-fields g c =
    rw c.deref.ensures.value (one_fields _ _ (sym c.in_ok-moved.ensures.first ∙ c.in-One.is))

pub record_in-requires-clause-message : goal.record_in-requires-clause-message
record_in-requires-clause-message g c =
    rw c.deref.ensures.value (one_message _ _ (sym c.in_ok-moved.ensures.first ∙ c.in-One.is))

pub returns-in_ok-step-in-One-clause-taken : goal.returns-in_ok-step-in-One-clause-taken
returns-in_ok-step-in-One-clause-taken g c =
    let whole = in_parts c.args.rest.now.items c.args.piece.now c.complete.new.rest.items _
    c.in_ok-moved.ensures.moved in
    let done = completed c.complete.new.rest.items (drop c.in_ok-moved.moved c.args.piece.now)
    c.in-One.size
    (sym c.in_ok-moved.ensures.first ∙ c.in-One.is)
    (c.in_ok-moved.ensures.one c.in-One.size c.in-One.is) in
    let taken : taken_of (c.args.rest.now.items ++ c.args.piece.now)
    ≡ c.in-One.size + taken_of (drop c.in_ok-moved.moved c.args.piece.now) =
    ap (λ (t : List ℕ). taken_of t) whole ∙ done.taken in
    let behind : c.in_ok-step-in-One.step.taken
    ≡ told (taken_of (drop c.in_ok-moved.moved c.args.piece.now)) =
    rw take_rest at c.in_ok-step-in-One.ensures.taken in
    omega (arith, c.saturating_add.ensures, taken, behind)

pub returns-in_ok-step-in-One-clause-first : goal.returns-in_ok-step-in-One-clause-first
returns-in_ok-step-in-One-clause-first g c =
    let whole = in_parts c.args.rest.now.items c.args.piece.now c.complete.new.rest.items _
    c.in_ok-moved.ensures.moved in
    let done = completed c.complete.new.rest.items (drop c.in_ok-moved.moved c.args.piece.now)
    c.in-One.size
    (sym c.in_ok-moved.ensures.first ∙ c.in-One.is)
    (c.in_ok-moved.ensures.one c.in-One.size c.in-One.is) in
    rw (whole, done.left) (rw take_rest at c.in_ok-step-in-One.ensures.first)

pub returns-in_ok-step-in-One-clause-records : goal.returns-in_ok-step-in-One-clause-records
returns-in_ok-step-in-One-clause-records g c =
    let whole = in_parts c.args.rest.now.items c.args.piece.now c.complete.new.rest.items _
    c.in_ok-moved.ensures.moved in
    let done = completed c.complete.new.rest.items (drop c.in_ok-moved.moved c.args.piece.now)
    c.in-One.size
    (sym c.in_ok-moved.ensures.first ∙ c.in-One.is)
    (c.in_ok-moved.ensures.one c.in-One.size c.in-One.is) in
    let read = c.record_in.ensures ∙ ap record_in c.deref.ensures.value in
    rw (whole, done.records, ← read)
    (joined_records (g.L.RecordList.records c.args.list.now)
    (g.L.RecordList.records c.append.new.self)
    (g.L.RecordList.records c.take_whole-in-One.new.list)
    (records_of (drop c.in_ok-moved.moved c.args.piece.now)) _ c.in_ok-append-in-One.ensures.ok
    (rw take_rest at c.in_ok-step-in-One.ensures.records))

pub returns-in_ok-step-in-One-clause-rest : goal.returns-in_ok-step-in-One-clause-rest
returns-in_ok-step-in-One-clause-rest g c =
    let whole = in_parts c.args.rest.now.items c.args.piece.now c.complete.new.rest.items _
    c.in_ok-moved.ensures.moved in
    let done = completed c.complete.new.rest.items (drop c.in_ok-moved.moved c.args.piece.now)
    c.in-One.size
    (sym c.in_ok-moved.ensures.first ∙ c.in-One.is)
    (c.in_ok-moved.ensures.one c.in-One.size c.in-One.is) in
    rw (whole, done.left) (rw take_rest at c.in_ok-step-in-One.ensures.rest)

pub returns-in-Bad-clause-taken : goal.returns-in-Bad-clause-taken
returns-in-Bad-clause-taken g c =
    let end = ends_bad c.args.rest.now.items c.args.piece.now c.complete.new.rest.items _ _
    c.in_ok-moved.ensures.moved
    (sym c.in_ok-moved.ensures.first ∙ c.in-Bad.is) in
    omega (arith, end.taken)

pub returns-in-Bad-clause-first : goal.returns-in-Bad-clause-first
returns-in-Bad-clause-first g c =
    let end = ends_bad c.args.rest.now.items c.args.piece.now c.complete.new.rest.items _ _
    c.in_ok-moved.ensures.moved
    (sym c.in_ok-moved.ensures.first ∙ c.in-Bad.is) in
    c.in-Bad.is ∙ sym end.first

pub returns-in-Bad-clause-records : goal.returns-in-Bad-clause-records
returns-in-Bad-clause-records g c =
    let end = ends_bad c.args.rest.now.items c.args.piece.now c.complete.new.rest.items _ _
    c.in_ok-moved.ensures.moved
    (sym c.in_ok-moved.ensures.first ∙ c.in-Bad.is) in
    rw end.records (sym (append-nil _))

pub returns-in-Bad-clause-rest : goal.returns-in-Bad-clause-rest
returns-in-Bad-clause-rest g c =
    let end = ends_bad c.args.rest.now.items c.args.piece.now c.complete.new.rest.items _ _
    c.in_ok-moved.ensures.moved
    (sym c.in_ok-moved.ensures.first ∙ c.in-Bad.is) in
    rw (end.first, c.clear.ensures.items) refl

pub returns-in-More-clause-taken : goal.returns-in-More-clause-taken
returns-in-More-clause-taken g c =
    let end = ends_more c.args.rest.now.items c.args.piece.now c.complete.new.rest.items _
    c.in_ok-moved.ensures.moved
    (c.in_ok-moved.ensures.all c.in-More.is) (sym c.in_ok-moved.ensures.first ∙ c.in-More.is) in
    omega (arith, end.taken)

pub returns-in-More-clause-first : goal.returns-in-More-clause-first
returns-in-More-clause-first g c =
    let end = ends_more c.args.rest.now.items c.args.piece.now c.complete.new.rest.items _
    c.in_ok-moved.ensures.moved
    (c.in_ok-moved.ensures.all c.in-More.is) (sym c.in_ok-moved.ensures.first ∙ c.in-More.is) in
    c.in-More.is ∙ sym end.first

pub returns-in-More-clause-records : goal.returns-in-More-clause-records
returns-in-More-clause-records g c =
    let end = ends_more c.args.rest.now.items c.args.piece.now c.complete.new.rest.items _
    c.in_ok-moved.ensures.moved
    (c.in_ok-moved.ensures.all c.in-More.is) (sym c.in_ok-moved.ensures.first ∙ c.in-More.is) in
    rw end.records (sym (append-nil _))

pub returns-in-More-clause-rest : goal.returns-in-More-clause-rest
returns-in-More-clause-rest g c =
    let end = ends_more c.args.rest.now.items c.args.piece.now c.complete.new.rest.items _
    c.in_ok-moved.ensures.moved
    (c.in_ok-moved.ensures.all c.in-More.is) (sym c.in_ok-moved.ensures.first ∙ c.in-More.is) in
    rw (end.first, end.left) (ends_whole c.args.rest.now.items c.args.piece.now
    c.complete.new.rest.items _ c.in_ok-moved.ensures.moved
    (c.in_ok-moved.ensures.all c.in-More.is))
