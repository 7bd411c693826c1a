use Rattle.std.proofs.Common.{◌≡◌, length, ap, ◌∙◌, arith, Some, [], ◌∷◌, ◌++◌, length-append}
use Rattle.leader_token.specs.Lists.{is_event}
use Rattle.leader_token.specs.Words.{view_of}
use Rattle.test_token.specs.declared.desk.Desk.{Desk}
use Rattle.test_token.specs.declared.desk.Note.TheVariants.{Begun}
use Rattle.test_token.proofs.Opens.{begun, may_put, after, stands_begun, stands_same, events_same}
use Rattle.test_token.proofs.desk.begin.Goals as goal

pub put-requires-clause-may : goal.put-requires-clause-may
put-requires-clause-may g c =
    let y = c.push-begun.ensures.yes c.if-begun.true in
    let same = c.value-2.ensures.value ∙ c.value.ensures.value in
    let got = c.get-held.ensures.got in
    let e = length c.as_slice.result.now in
    let number : e ≡ length got.list =
    ap length c.as_slice.ensures.value
    ∙ ap (λ (d : Desk). length d.notes.items) c.value.ensures.value
    ∙ ap length got.stood.notes in
    may_put _ _ _ _ got (Begun e ∷ []) (Some e)
    (stands_begun _ _ got.list e got.stood number
    (y.0 ∙ ap (λ (d : Desk). d.notes.items ++ Begun e ∷ []) same))
    (omega (arith, y.1, ap (λ (d : Desk). d.faults) same))
    (λ x. omega (arith, begun got.list e x, ap (is_event x) c.requires.free.1))

pub returns-then-begun-clause-mine : goal.returns-then-begun-clause-mine
returns-then-begun-clause-mine g c =
    let y = c.push-begun.ensures.yes c.if-begun.true in
    let same = c.value-2.ensures.value ∙ c.value.ensures.value in
    let got = c.get-held.ensures.got in
    let e = length c.as_slice.result.now in
    let number : e ≡ length got.list =
    ap length c.as_slice.ensures.value
    ∙ ap (λ (d : Desk). length d.notes.items) c.value.ensures.value
    ∙ ap length got.stood.notes in
    let a = after _ _ _ _ c.push-begun.new.desk got (Begun e ∷ []) (Some e)
    (stands_begun _ _ got.list e got.stood number
    (y.0 ∙ ap (λ (d : Desk). d.notes.items ++ Begun e ∷ []) same))
    (omega (arith, y.1, ap (λ (d : Desk). d.faults) same))
    (λ x. omega (arith, begun got.list e x, ap (is_event x) c.requires.free.1)) c.put.ensures.put in
    a.0.0

pub returns-then-begun-clause-begun : goal.returns-then-begun-clause-begun
returns-then-begun-clause-begun g c =
    let y = c.push-begun.ensures.yes c.if-begun.true in
    let same = c.value-2.ensures.value ∙ c.value.ensures.value in
    let got = c.get-held.ensures.got in
    let e = length c.as_slice.result.now in
    let number : e ≡ length got.list =
    ap length c.as_slice.ensures.value
    ∙ ap (λ (d : Desk). length d.notes.items) c.value.ensures.value
    ∙ ap length got.stood.notes in
    let a = after _ _ _ _ c.push-begun.new.desk got (Begun e ∷ []) (Some e)
    (stands_begun _ _ got.list e got.stood number
    (y.0 ∙ ap (λ (d : Desk). d.notes.items ++ Begun e ∷ []) same))
    (omega (arith, y.1, ap (λ (d : Desk). d.faults) same))
    (λ x. omega (arith, begun got.list e x, ap (is_event x) c.requires.free.1)) c.put.ensures.put in
    (a.0.2, omega (arith, ap length a.1, length-append got.list (Begun e ∷ []), number))

pub returns-else-begun-clause-mine : goal.returns-else-begun-clause-mine
returns-else-begun-clause-mine g c =
    let n = c.push-begun.ensures.no c.if-begun.false in
    let same = c.value-2.ensures.value ∙ c.value.ensures.value in
    let got = c.get-held.ensures.got in
    let a = after _ _ _ _ c.push-begun.new.desk got [] (view_of c.args.pass.now).mine
    (stands_same c.get-held.result.value.value c.push-begun.new.desk got.list got.stood
    (n.0 ∙ ap (λ (d : Desk). d.notes.items) same))
    (omega (arith, n.1, ap (λ (d : Desk). d.faults) same))
    (events_same (view_of c.args.pass.now) got.list) c.put-else-begun.ensures.put in
    a.0.0 ∙ c.requires.free.1
