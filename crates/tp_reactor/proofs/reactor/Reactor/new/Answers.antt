use Rattle.std.proofs.Common.{◌∙◌, sym, ap, arith}
use Rattle.leader_token.specs.Words.{id_of, token_of, view_of}
use Rattle.notify_ring.specs.Words.{drainer_ring}
use Rattle.reactor_core.specs.Views.{volume_of}
use Rattle.tp_reactor.proofs.Lives.{over_none, over_desk, over_entries}
use Rattle.tp_reactor.proofs.Sharing.{shared, marks_shared}
use Rattle.tp_reactor.proofs.reactor.Reactor.new.Goals as goal

pub new-requires-3 : goal.new-requires-3
new-requires-3 g c κs outlive =
    let may = c.requires.1.1.1.1.1.1.1.1 in (
      over_desk _ _ _ _ _ _ _ _ outlive.0 outlive.1.0 outlive.1.1.0 outlive.1.1.1.0
          outlive.1.1.1.1.0 outlive.1.1.1.1.1.0 outlive.1.1.1.1.1.1.0,
      (
        over_entries _ _ outlive.1.1.1.1.1.1.1,
        (
          over_none,
          (
            (
              may.first,
              shared _ _ _ _ _ _ may c.new-2.ensures.parts.0 c.new-2.ensures.parts.1
                  c.in-Ok.ensures.drainer.1 c.new-2.ensures.stands,
            ),
            may.closed,
          ),
        ),
      ),
    )

pub returns-in-Ok-new-clause-of : goal.returns-in-Ok-new-clause-of
returns-in-Ok-new-clause-of g c =
    let view = ap view_of (sym c.in-Ok-new.pass-is) ∙ c.in-Ok-new.ensures.root.1 in
    let poster = c.in-Ok.ensures.poster.1 in
    record {
      token = ap token_of (sym c.in-Ok-new.pass-is)
          ∙ (c.in-Ok-new.ensures.root.0 ∙ ap id_of c.in-Ok-new.token-is);
      ring = c.in-Ok.ensures.poster.0;
      terms = ap (λ v. v.terms.ring) view
          ∙ (ap drainer_ring c.new-2.ensures.parts.1 ∙ c.in-Ok.ensures.drainer.0);
      root = ap (λ v. v.root) view ∙ sym (ap (λ v. v.root) poster);
      children = ap (λ v. v.children) view ∙ sym (ap (λ v. v.children) poster);
      made = λ is_root. omega (arith, ap (λ v. v.children) poster, ap (λ v. v.posters) poster);
    }

pub returns-in-Ok-new-clause-root : goal.returns-in-Ok-new-clause-root
returns-in-Ok-new-clause-root g c =
    let view = ap view_of (sym c.in-Ok-new.pass-is) ∙ c.in-Ok-new.ensures.root.1 in
    record {
      seen = ap (λ v. v.seen) view;
      marks_are = marks_shared _ _ _ _ c.requires.1.1.1.1.1.1.1.1 c.new-2.result _
          (ap (λ v. v.marks) view) c.new-2.ensures.parts.0;
      run = ap (λ v. v.terms.run) view;
      found = ap (λ v. v.terms.found) view;
      root = ap (λ v. v.root) view;
      children = ap (λ v. v.children) view;
      base = ap (λ v. v.base) view;
      mine = ap (λ v. v.mine) view;
    }

pub returns-in-Ok-new-clause-volume : goal.returns-in-Ok-new-clause-volume
returns-in-Ok-new-clause-volume g c =
    ap (λ v. v.terms.volume) (ap view_of (sym c.in-Ok-new.pass-is) ∙ c.in-Ok-new.ensures.root.1)
    ∙ ap volume_of c.new-2.ensures.parts.0
