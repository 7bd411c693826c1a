use Rattle.std.proofs.Common.{sym, ◌∙◌}
use Rattle.test_nets.proofs.Idling.{posts_in_room}
use Rattle.test_nets.proofs.rows.post_in_room.Goals as goal

pub returns-in-Ok : goal.returns-in-Ok
returns-in-Ok g c =
    let i = c.requires in
    posts_in_room c.args.core.now c.reserve_post.new.self c.post_reserved.new.self c.args.handle
    c.args.kind c.args.from c.args.seq i
    (sym (c.is_ended.ensures i.terms i.first i.history i.stands) ∙ c.if-is_ended.false)
    c.reserve_post.ensures.stands c.in-Ok.ensures.room c.post_reserved.ensures.stands
