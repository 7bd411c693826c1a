use Rattle.std.proofs.Common.{◌<◌, ◌==◌, List, [], ◌∷◌, ◌++◌, Some, sym, ap, ◌∙◌, subst, arith}
use Rattle.std.proofs.lemmas.Bool.{cond-false}
use Rattle.std.proofs.lemmas.Map.Lookups.{exact_unsigned}
use Rattle.std.specs.BTreeMap.{is_at}
use Rattle.std.specs.List.{list_any}
use Rattle.std.specs.Map.{values_of, lookup}
use Rattle.std.specs.Ordering.{nat_cmp}
use Rattle.reactor_summary.specs.Tells.{Each}
use Rattle.reactor_summary.specs.declared.parts.OpenEvent.{OpenEvent}
use Rattle.number_map.specs.Content.{found}
use Rattle.journal_check.specs.Opened.{IsStartedAt}
use Rattle.journal_check.proofs.Keyed.{each_inserted}
use Rattle.journal_check.proofs.Timed.{num_other}
use Rattle.journal_check.proofs.Opened.{IsLedAs, kept_opens, led_now, led_only, opened_last}
use Rattle.journal_check.proofs.Opened.{past_opens}
use Rattle.journal_check.proofs.opens.Opens.add.Goals as goal

pub invariant_of-self-in_err-insert-2 : goal.invariant_of-self-in_err-insert-2
invariant_of-self-in_err-insert-2 c =
    let later : c.self.inside.next < c.in-Some.next = omega arith in
    let leads : IsLedAs (found c.self.inside.starts) (found c.insert.new.self) c.self.inside.next =
    led_now (found c.self.inside.starts) (found c.insert.new.self) c.self.inside.next c.args.o.event
    (λ q n. c.in_ok-insert.ensures.updates.0 q
    ∙ cond-false _ (Some c.self.inside.next) _ (num_other c.args.o.event q n))
    c.in_ok-insert.ensures.updates.1
    in
    record {
      ordered = c.self.invariant.ordered;
      each = kept_opens (found c.self.inside.starts) (found c.insert.new.self)
          (found c.self.inside.events) (found c.insert-2.new.self) c.self.inside.next c.in-Some.next
          c.args.o.event c.args.o.handle.0 c.self.inside.started.entries
          (λ q n. c.in_ok-insert.ensures.updates.0 q
          ∙ cond-false _ (Some c.self.inside.next) _ (num_other c.args.o.event q n)) leads
          (λ q n. ap (lookup (is_at (nat_cmp q))) c.in_err-insert-2.ensures.err)
          (omega arith) (ap (list_any (λ (b : OpenEvent). c.args.o.event == b.event)) c.self.view_is
          ∙ c.requires.event) (ap (list_any (λ (b : OpenEvent). b.handle.0
          == c.args.o.handle.0)) c.self.view_is ∙ c.requires.handle) c.self.invariant.each;
      past = past_opens (found c.self.inside.starts) (found c.insert.new.self) c.self.inside.next
          c.in-Some.next leads later c.self.invariant.past;
    }

pub invariant_of-self-in_err-insert-3 : goal.invariant_of-self-in_err-insert-3
invariant_of-self-in_err-insert-3 c =
    let later : c.self.inside.next < c.in-Some.next = omega arith in
    let leads : IsLedAs (found c.self.inside.starts) (found c.insert.new.self) c.self.inside.next =
    led_now (found c.self.inside.starts) (found c.insert.new.self) c.self.inside.next c.args.o.event
    (λ q n. c.in_ok-insert.ensures.updates.0 q
    ∙ cond-false _ (Some c.self.inside.next) _ (num_other c.args.o.event q n))
    c.in_ok-insert.ensures.updates.1
    in
    record {
      ordered = c.insert-3.ensures.ordered;
      each = subst (Each (IsStartedAt (found c.insert.new.self) (found c.insert-2.new.self)
          c.in-Some.next)) (sym c.in_err-insert-3.ensures.err)
          (kept_opens (found c.self.inside.starts) (found c.insert.new.self)
          (found c.self.inside.events) (found c.insert-2.new.self) c.self.inside.next
          c.in-Some.next c.args.o.event c.args.o.handle.0 c.self.inside.started.entries
          (λ q n. c.in_ok-insert.ensures.updates.0 q
          ∙ cond-false _ (Some c.self.inside.next) _ (num_other c.args.o.event q n)) leads
          (λ q n. c.in_ok-insert-2.ensures.updates.0 q
          ∙ cond-false _ (Some c.args.o.event) _ (num_other c.args.o.handle.0 q n))
          (omega arith) (ap (list_any (λ (b : OpenEvent). c.args.o.event == b.event)) c.self.view_is
          ∙ c.requires.event) (ap (list_any (λ (b : OpenEvent). b.handle.0
          == c.args.o.handle.0)) c.self.view_is ∙ c.requires.handle) c.self.invariant.each);
      past = past_opens (found c.self.inside.starts) (found c.insert.new.self) c.self.inside.next
          c.in-Some.next leads later c.self.invariant.past;
    }

pub invariant_of-self-2 : goal.invariant_of-self-2
invariant_of-self-2 c =
    let later : c.self.inside.next < c.in-Some.next = omega arith in
    let leads : IsLedAs (found c.self.inside.starts) (found c.insert.new.self) c.self.inside.next =
    led_now (found c.self.inside.starts) (found c.insert.new.self) c.self.inside.next c.args.o.event
    (λ q n. c.in_ok-insert.ensures.updates.0 q
    ∙ cond-false _ (Some c.self.inside.next) _ (num_other c.args.o.event q n))
    c.in_ok-insert.ensures.updates.1
    in
    record {
      ordered = c.in_ok-insert-3.ensures.ordered;
      each = subst (Each (IsStartedAt (found c.insert.new.self) (found c.insert-2.new.self)
          c.in-Some.next)) (sym c.in_ok-insert-3.ensures.entries)
          (each_inserted (IsStartedAt (found c.insert.new.self) (found c.insert-2.new.self)
          c.in-Some.next) nat_cmp c.self.inside.started.entries c.self.inside.next c.args.o
          (exact_unsigned c.self.inside.next)
          (kept_opens (found c.self.inside.starts) (found c.insert.new.self)
          (found c.self.inside.events) (found c.insert-2.new.self) c.self.inside.next
          c.in-Some.next c.args.o.event c.args.o.handle.0 c.self.inside.started.entries
          (λ q n. c.in_ok-insert.ensures.updates.0 q
          ∙ cond-false _ (Some c.self.inside.next) _ (num_other c.args.o.event q n)) leads
          (λ q n. c.in_ok-insert-2.ensures.updates.0 q
          ∙ cond-false _ (Some c.args.o.event) _ (num_other c.args.o.handle.0 q n))
          (omega arith) (ap (list_any (λ (b : OpenEvent). c.args.o.event == b.event)) c.self.view_is
          ∙ c.requires.event) (ap (list_any (λ (b : OpenEvent). b.handle.0
          == c.args.o.handle.0)) c.self.view_is ∙ c.requires.handle) c.self.invariant.each)
          (record {
            led = c.in_ok-insert.ensures.updates.1;
            only =
                led_only (found c.self.inside.starts) (found c.insert.new.self) c.self.inside.next
                c.args.o.event (λ q n. c.in_ok-insert.ensures.updates.0 q
                ∙ cond-false _ (Some c.self.inside.next) _ (num_other c.args.o.event q n))
                c.self.invariant.past;
            held = c.in_ok-insert-2.ensures.updates.1;
            below = later;
          }));
      past = past_opens (found c.self.inside.starts) (found c.insert.new.self) c.self.inside.next
          c.in-Some.next leads later c.self.invariant.past;
    }

pub returns : goal.returns
returns c =
    ap values_of c.in_ok-insert-3.ensures.entries
    ∙ (opened_last (found c.self.inside.starts) (found c.self.inside.events) c.self.inside.next
    c.args.o c.self.inside.started.entries c.self.invariant.each
    ∙ ap (λ (xs : List OpenEvent). xs ++ c.args.o ∷ []) c.self.view_is)
