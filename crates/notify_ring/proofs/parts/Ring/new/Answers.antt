use Rattle.std.proofs.Common.{rules, ap, ◌∙◌, sym, length, []}
use Rattle.notify_ring.specs.Steps.{drainer_part}
use Rattle.notify_ring.proofs.Kin.{begins, zeros, halves}
use Rattle.notify_ring.proofs.Drains.{counts_none}
use Rattle.notify_ring.proofs.parts.Ring.new.Goals as goal

pub of_words-requires : goal.of_words-requires
unfolding zeros
of_words-requires c = begins

pub split_seat-other-requires : goal.split_seat-other-requires
split_seat-other-requires c = (search rules, search rules, halves _ _)

pub invariant_of-drainer : goal.invariant_of-drainer
invariant_of-drainer c =
    let e = c.split_seat-other.ensures in
    let is = e.4 ∙ ap (λ m. (drainer_part m.0, [])) c.in_ok-table.ensures.4 in
    record {
      rests = (ap (λ m. m.0.stage) is, ap (λ m. m.1) is, ap (λ m. m.0.drains) is);
      apart = (ap (λ m. m.0.posts) is, ap (λ m. m.0.root) is, ap (λ m. m.0.flight) is);
      taken_is = sym (ap (λ m. length m.0.got) is);
      counts_are = counts_none c.in_ok-counts.counts.items c.split_seat-other.result.me.0.got
          c.in_ok-counts.ensures (ap (λ m. m.0.got) is);
    }
