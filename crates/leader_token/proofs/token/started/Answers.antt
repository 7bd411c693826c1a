use Rattle.std.proofs.Common.{ap, ◌∙◌, Some, [], ◌∷◌, ◌++◌}
use Rattle.leader_token.specs.Boxed.{boxed, boxed_marks}
use Rattle.leader_token.proofs.Boxes.{once_boxed, many_boxed, start_box}
use Rattle.leader_token.proofs.Keeps.{begins_with}
use Rattle.leader_token.proofs.token.started.Goals as goal

pub new-requires-2 : goal.new-requires-2
new-requires-2 g c =
    let kept = g.T.Kept in
    let items = c.push_reserved.ensures.items
    ∙ ap (λ l. l ++ Some c.in-Ok.value ∷ []) c.in-Ok-with_capacity.ensures.items in
    begins_with (boxed kept.stands) kept.opens (boxed_marks kept.marks)
    (once_boxed kept.stands kept.opens kept.marks kept.once)
    (many_boxed kept.stands kept.opens kept.marks kept.equally_many) kept.blank
    g.B.FirstView.views c.in-Ok.value (start_box kept.stands kept.opens kept.marks _ _ _
    c.in-Ok.ensures.ok c.requires) _ items _ c.key.ensures
