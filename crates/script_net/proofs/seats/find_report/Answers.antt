use Rattle.std.proofs.Common.{◌≡◌, ◌∙◌, ◌≤◌, suc, true, Option, sym, ap, subst, arith}
use Rattle.ev_base.specs.declared.net.Report.{Report}
use Rattle.script_net.specs.Scripts.{end_view}
use Rattle.script_net.specs.Seating.{found_to, or_else, is_place_of}
use Rattle.script_net.proofs.SeatingLemmas.{is_last, none_found, its_report, place_behind}
use Rattle.script_net.proofs.SeatingLemmas.{behind_bound}
use Rattle.script_net.proofs.seats.find_report.Goals as goal

pub place_at-place-requires : goal.place_at-place-requires
place_at-place-requires c =
    let i = c.loop-at.invariant in
    let last = is_last c.args.places.now (end_view c.args.end) i.0 c.in-Some.number
    (sym i.2 ∙ c.in-Some.is) in
    omega (arith, last.below, i.1)

pub returns-in-Some-own_report : goal.returns-in-Some-own_report
returns-in-Some-own_report c =
    let i = c.loop-at.invariant in
    let ps = c.args.places.now in
    let e = end_view c.args.end in
    let last = is_last ps e i.0 c.in-Some.number (sym i.2 ∙ c.in-Some.is) in
    let own = its_report _ c.place_at-place.result e c.place_at-place.ensures last.its
    ∙ sym c.own_report.ensures ∙ c.in-Some-own_report.is in
    sym (i.3 ∙ last.same ∙ ap (λ (r : Option Report). or_else r (found_to ps e c.in-Some.number))
    own)

pub loop-at-preserved : goal.loop-at-preserved
loop-at-preserved c =
    let i = c.loop-at.invariant in
    let ps = c.args.places.now in
    let e = end_view c.args.end in
    let last = is_last ps e i.0 c.in-Some.number (sym i.2 ∙ c.in-Some.is) in
    let own = its_report _ c.place_at-place.result e c.place_at-place.ensures last.its
    ∙ sym c.own_report.ensures ∙ c.in_default-own_report.is in (
      c.in-Some.number,
      omega (arith, last.below, i.1),
      c.requires.chained c.in-Some.number c.place_at-place.result c.place_at-place.ensures
          (subst (λ o. is_place_of o e ≡ true) c.place_at-place.ensures last.its),
      i.3 ∙ last.same ∙ ap (λ (r : Option Report). or_else r (found_to ps e c.in-Some.number)) own,
    )

pub loop-at-smaller : goal.loop-at-smaller
loop-at-smaller c =
    let i = c.loop-at.invariant in
    let ps = c.args.places.now in
    let e = end_view c.args.end in
    let last = is_last ps e i.0 c.in-Some.number (sym i.2 ∙ c.in-Some.is) in
    let earlier = c.requires.chained c.in-Some.number c.place_at-place.result
    c.place_at-place.ensures (subst (λ o. is_place_of o e ≡ true) c.place_at-place.ensures
    last.its) in
    let bound = behind_bound ps e c.in-Some.number in
    let was : place_behind c.loop-at.at ≡ suc c.in-Some.number = ap place_behind c.in-Some.is in
    let now : place_behind c.place_at-place.result.earlier ≤ c.in-Some.number =
    subst (λ (o : Option _). place_behind o ≤ c.in-Some.number) (sym earlier) bound in
    omega (arith, was, now)

pub returns : goal.returns
returns c =
    let i = c.loop-at.invariant in
    sym (i.3 ∙ none_found c.args.places.now (end_view c.args.end) i.0 (sym i.2 ∙ c.in_default.is))
