use Rattle.std.proofs.Common.{◌≡◌, ◌≤◌, ◌∙◌, sym, ap, subst, length, take, arith, List, ℕ}
use Rattle.std.proofs.lemmas.List.{length-take-le, length-drop}
use Rattle.cmd_display.specs.Windows.{rest_of}
use Rattle.cmd_display.specs.Shown.{message_of}
use Rattle.cmd_display.proofs.Records.{stands-first, cut-one}
use Rattle.cmd_display.proofs.showing.cut_record.Goals as goal

pub slice_bounds-message_of-end : goal.slice_bounds-message_of-end
slice_bounds-message_of-end g c =
    let s = stands-first c.one_is_a_record.ensures (rest_of c.args.window.now) c.args.count
    c.requires in
    sym (length-take-le c.args.count c.rest.result.now
    (subst (λ (bytes : List ℕ). c.args.count ≤ length bytes) (sym c.rest.ensures) s.within))

pub message_of-requires : goal.message_of-requires
message_of-requires g c =
    let s = stands-first c.one_is_a_record.ensures (rest_of c.args.window.now) c.args.count
    c.requires in
    let long : length (take c.args.count c.rest.result.now) ≡ c.args.count =
    length-take-le c.args.count c.rest.result.now
    (subst (λ (bytes : List ℕ). c.args.count ≤ length bytes) (sym c.rest.ensures) s.within) in
    omega (arith, long, s.most)

pub skip-requires : goal.skip-requires
skip-requires g c = (stands-first c.one_is_a_record.ensures (rest_of c.args.window.now) c.args.count
    c.requires).within

pub returns-clause-cut : goal.returns-clause-cut
returns-clause-cut g c = λ i put h.
    let rest = rest_of c.args.window.now in
    let s = stands-first c.one_is_a_record.ensures rest c.args.count c.requires in record {
      cut = _;
      is_cut = cut-one h.cut put (take c.args.count rest) s.entry c.in_ok-message.message h.is_cut
          s.spells (c.in_ok-message.ensures ∙ ap
          (λ (bytes : List ℕ). message_of (take c.args.count bytes)) c.rest.ensures);
      windows = c.skip.ensures.windows i h.cut h.windows;
    }

pub returns-clause-shorter : goal.returns-clause-shorter
returns-clause-shorter g c =
    let rest = rest_of c.args.window.now in
    let s = stands-first c.one_is_a_record.ensures rest c.args.count c.requires in
    omega (arith, ap length c.skip.ensures.rest, length-drop c.args.count rest, s.within, s.some)
