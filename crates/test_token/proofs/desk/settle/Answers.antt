use Rattle.std.proofs.Common.{◌++◌, ap, ◌∙◌, arith, None, [], ◌∷◌}
use Rattle.leader_token.specs.Lists.{is_event}
use Rattle.leader_token.specs.Words.{view_of}
use Rattle.test_token.specs.declared.desk.Desk.{Desk}
use Rattle.test_token.specs.declared.desk.Note.TheVariants.{Ended}
use Rattle.test_token.proofs.Opens.{ended, may_put, after, stands_ended, stands_same, events_same}
use Rattle.test_token.proofs.desk.settle.Goals as goal

pub put-requires-clause-may : goal.put-requires-clause-may
put-requires-clause-may g c =
    let y = c.push-ended.ensures.yes c.if-ended.true in
    let same = c.value.ensures.value in
    let got = c.get-held.ensures.got in
    let e = c.args.event in
    let open-there = got.own e c.requires.own.1 in
    may_put _ _ _ _ got (Ended e ∷ []) None
    (stands_ended _ _ got.list e got.stood open-there
    (y.0 ∙ ap (λ (d : Desk). d.notes.items ++ Ended e ∷ []) same))
    (omega (arith, y.1, ap (λ (d : Desk). d.faults) same))
    (λ x. omega (
      arith,
      ended got.list e x (omega (arith, open-there)),
      ap (is_event x) c.requires.own.1,
    ))

pub returns-then-ended-clause-yes : goal.returns-then-ended-clause-yes
returns-then-ended-clause-yes g c _ =
    let y = c.push-ended.ensures.yes c.if-ended.true in
    let same = c.value.ensures.value in
    let got = c.get-held.ensures.got in
    let e = c.args.event in
    let open-there = got.own e c.requires.own.1 in
    let a = after _ _ _ _ c.push-ended.new.desk got (Ended e ∷ []) None
    (stands_ended _ _ got.list e got.stood open-there
    (y.0 ∙ ap (λ (d : Desk). d.notes.items ++ Ended e ∷ []) same))
    (omega (arith, y.1, ap (λ (d : Desk). d.faults) same))
    (λ x. omega (
      arith,
      ended got.list e x (omega (arith, open-there)),
      ap (is_event x) c.requires.own.1,
    )) c.put.ensures.put in
    (a.0.0, a.0.2)

pub put-requires-else-ended-clause-may : goal.put-requires-else-ended-clause-may
put-requires-else-ended-clause-may g c =
    let n = c.push-ended.ensures.no c.if-ended.false in
    let same = c.value.ensures.value in
    let got = c.get-held.ensures.got in
    may_put _ _ _ _ got [] (view_of c.args.pass.now).mine
    (stands_same c.get-held.result.value.value c.push-ended.new.desk got.list got.stood
    (n.0 ∙ ap (λ (d : Desk). d.notes.items) same))
    (omega (arith, n.1, ap (λ (d : Desk). d.faults) same))
    (events_same (view_of c.args.pass.now) got.list)

pub returns-else-ended-clause-no : goal.returns-else-ended-clause-no
returns-else-ended-clause-no g c _ =
    let n = c.push-ended.ensures.no c.if-ended.false in
    let same = c.value.ensures.value in
    let got = c.get-held.ensures.got in
    let a = after _ _ _ _ c.push-ended.new.desk got [] (view_of c.args.pass.now).mine
    (stands_same c.get-held.result.value.value c.push-ended.new.desk got.list got.stood
    (n.0 ∙ ap (λ (d : Desk). d.notes.items) same))
    (omega (arith, n.1, ap (λ (d : Desk). d.faults) same))
    (events_same (view_of c.args.pass.now) got.list) c.put-else-ended.ensures.put in
    a.0.0 ∙ c.requires.own.1
