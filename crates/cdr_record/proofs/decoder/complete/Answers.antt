use Rattle.std.proofs.Common.{arith, rules, sym, ap, ◌∙◌, length, ◌≤◌, ◌≡◌, ◌+◌, ◌-◌, min, drop}
use Rattle.std.proofs.lemmas.List.{take_rest}
use Rattle.cdr_record.specs.Grammar.{first_of, payload_length}
use Rattle.cdr_record.proofs.Taking.{moved_twice, short_is_none, header_is_none, body_all, body_one}
use Rattle.cdr_record.proofs.decoder.complete.Goals as goal

pub returns-then-len-lt-HEADER-clause-one : goal.returns-then-len-lt-HEADER-clause-one
returns-then-len-lt-HEADER-clause-one c = λ n e.
    short_is_none c.fill.new.rest.items n
    (ap first_of (sym c.deref.ensures.value) ∙ sym c.first_in.ensures ∙ e) (search rules)

pub returns-in_ok-body-in-More-clause-moved : goal.returns-in_ok-body-in-More-clause-moved
returns-in_ok-body-in-More-clause-moved c =
    moved_twice _ _ _ _ _ _ c.in_ok-header.ensures.ok
    (rw take_rest at c.in_ok-body-in-More.ensures.ok)

pub returns-in_ok-body-in-More-clause-all : goal.returns-in_ok-body-in-More-clause-all
returns-in_ok-body-in-More-clause-all c = λ e.
    let header : 8 ≤ length c.fill.new.rest.items = search rules in
    let within : c.in_ok-header.header ≤ length c.args.piece.now = search rules in
    let payload = c.payload_length-whole.ensures.length
    ∙ ap (λ f. payload_length f) c.deref-in-More.ensures.value in
    let count : c.in_ok-body-in-More.body
    ≡ min (8 + payload_length c.fill.new.rest.items - length c.fill.new.rest.items)
    (length (drop c.in_ok-header.header c.args.piece.now)) =
    rw (take_rest, payload) at c.in_ok-body-in-More.ensures.count in
    body_all c.fill.new.rest.items c.args.piece.now c.fill-in-More.new.rest.items _ _ within header
    (ap first_of (sym c.deref-2.ensures.value) ∙ sym c.in-More.ensures) count
    (rw take_rest at c.in_ok-body-in-More.ensures.ok)
    (ap first_of (sym c.deref-in-More-2.ensures.value) ∙ sym c.first_in-in-More.ensures ∙ e)

pub returns-in_ok-body-in-More-clause-one : goal.returns-in_ok-body-in-More-clause-one
returns-in_ok-body-in-More-clause-one c = λ n e.
    let header : 8 ≤ length c.fill.new.rest.items = search rules in
    let payload = c.payload_length-whole.ensures.length
    ∙ ap (λ f. payload_length f) c.deref-in-More.ensures.value in
    let count : c.in_ok-body-in-More.body
    ≡ min (8 + payload_length c.fill.new.rest.items - length c.fill.new.rest.items)
    (length (drop c.in_ok-header.header c.args.piece.now)) =
    rw (take_rest, payload) at c.in_ok-body-in-More.ensures.count in
    body_one c.fill.new.rest.items c.args.piece.now c.fill-in-More.new.rest.items _ _ n header
    (ap first_of (sym c.deref-2.ensures.value) ∙ sym c.in-More.ensures) count
    (rw take_rest at c.in_ok-body-in-More.ensures.ok)
    (ap first_of (sym c.deref-in-More-2.ensures.value) ∙ sym c.first_in-in-More.ensures ∙ e)

pub returns-in_default : goal.returns-in_default
returns-in_default c =
    let first = c.first_in-2.ensures ∙ ap first_of c.deref-2.ensures.value in
    record {
      within = omega (arith, c.in_ok-header.ensures.count);
      moved = c.in_ok-header.ensures.ok;
      first = first;
      all = λ e. absurd (c.in_default.not-More e);
      one = λ n e. header_is_none c.args.rest.now.items c.args.piece.now c.fill.new.rest.items _ n
          c.requires c.in_ok-header.ensures.count
          c.in_ok-header.ensures.ok (sym first ∙ e);
      err = tt;
    }
