use Rattle.std.proofs.Common.{◌≡◌, ◌-◌, arith, subst, ap, ◌∙◌, sym, length, List, [], ◌∷◌}
use Rattle.std.proofs.Common.{length-append}
use Rattle.notify_ring.specs.declared.posting.Posting.{Posting}
use Rattle.notify_ring.specs.Postings.{code, CountsByPoster}
use Rattle.notify_ring.specs.Steps.{cleared_view, released_view}
use Rattle.notify_ring.proofs.Drains.{counts_more}
use Rattle.notify_ring.proofs.Codes.{kind_low}
use Rattle.notify_ring.proofs.parts.Ring.next.Goals as goal

pub invariant_of-drainer-2 : goal.invariant_of-drainer-2
invariant_of-drainer-2 c =
    let v = c.args.drainer.now.seat.me.0 in
    let r = c.load_gate-gate.result in
    let t = c.load_gate-gate.ensures.told.1 c.if-gate-eq0.false in
    let x = t.0 in
    let final = c.release.ensures.told
    ∙ ap (λ m. (released_view m.0, []))
    (c.clear_gate.ensures.told ∙ ap (λ m. (cleared_view m.0, []))
    (c.load_handle-handle.ensures.told.0 ∙ t.3)) in
    let is-code : r ≡ code x = t.1 in
    let from : c.from_gate-kind.result.1 ≡ x.from =
    omega (arith, c.from_gate-kind.ensures.from, is-code, kind_low x.kind) in
    record {
      rests = (
        ap (λ m. m.0.stage) final,
        ap (λ m. m.1) final,
        ap (λ m. m.0.drains) final
            ∙ c.args.drainer.now.rests.2,
      );
      apart = (
        ap (λ m. m.0.posts) final ∙ c.args.drainer.now.apart.0,
        ap (λ m. m.0.root) final
            ∙ c.args.drainer.now.apart.1,
        ap (λ m. m.0.flight) final ∙ c.args.drainer.now.apart.2,
      );
      taken_is = omega (
        arith,
        c.args.drainer.now.taken_is,
        ap (λ m. length m.0.got) final,
        length-append v.got (x ∷ []),
      );
      counts_are = subst (λ (g : List Posting). CountsByPoster c.count-seq.new.counts.items g)
          (sym (ap (λ m. m.0.got) final)) (counts_more c.args.drainer.now.counts.items v.got x
          c.count-seq.new.counts.items c.from_gate-kind.result.1 c.args.drainer.now.counts_are
          t.2.from from
          c.count-seq.ensures.more);
    }
