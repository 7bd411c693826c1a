use Rattle.std.proofs.Common.{◌∙◌, ◌+◌, ◌∷◌, [], List, take, drop, length, sym, ap, subst, arith}
use Rattle.ev_base.specs.Story as story
use Rattle.ev_base.specs.Story.{Telling, read_answer, read_bytes, told_after}
use Rattle.script_net.specs.Scripts.{part_view, part_views}
use Rattle.script_net.specs.Ends.{told_part, IsInside}
use Rattle.script_net.proofs.Opened.{opened, closed}
use Rattle.script_net.proofs.peer.tell.Goals as goal

inside : (at : _) (part : story.Part) (left : List story.Part) → IsInside at (part ∷ left)
    → IsInside at (part ∷ [])
inside at (story.Piece bytes) left h = h
inside at story.Pausing left h = h
inside at story.Ending left h = h
inside at story.Failing left h = h

pub tell_part-got-requires : goal.tell_part-got-requires
tell_part-got-requires c =
    let first = opened part_view c.args.parts.now c.args.next c.index-parts-next.result
    (omega arith) c.index-parts-next.is in
    inside c.args.at (part_view c.index-parts-next.result)
    (drop (c.args.next + 1) (part_views c.args.parts.now))
    (subst (IsInside c.args.at) first c.requires)

pub returns-then-whole-clause-answer : goal.returns-then-whole-clause-answer
returns-then-whole-clause-answer c =
    let first = opened part_view c.args.parts.now c.args.next c.index-parts-next.result
    (omega arith) c.index-parts-next.is in
    c.tell_part-got.ensures.answer (drop (c.args.next + 1) (part_views c.args.parts.now))
    ∙ ap (read_answer (length c.args.buf.now) c.args.at) (sym first)

pub returns-then-whole-clause-bytes : goal.returns-then-whole-clause-bytes
returns-then-whole-clause-bytes c =
    let first = opened part_view c.args.parts.now c.args.next c.index-parts-next.result
    (omega arith) c.index-parts-next.is in
    c.tell_part-got.ensures.bytes (drop (c.args.next + 1) (part_views c.args.parts.now))
    ∙ ap (read_bytes (length c.args.buf.now) c.args.at) (sym first)

pub returns-else-whole-clause-answer : goal.returns-else-whole-clause-answer
returns-else-whole-clause-answer c =
    let first = opened part_view c.args.parts.now c.args.next c.index-parts-next.result
    (omega arith) c.index-parts-next.is in
    c.tell_part-got.ensures.answer (drop (c.args.next + 1) (part_views c.args.parts.now))
    ∙ ap (read_answer (length c.args.buf.now) c.args.at) (sym first)

pub returns-else-whole-clause-bytes : goal.returns-else-whole-clause-bytes
returns-else-whole-clause-bytes c =
    let first = opened part_view c.args.parts.now c.args.next c.index-parts-next.result
    (omega arith) c.index-parts-next.is in
    c.tell_part-got.ensures.bytes (drop (c.args.next + 1) (part_views c.args.parts.now))
    ∙ ap (read_bytes (length c.args.buf.now) c.args.at) (sym first)

pub returns-then-whole-clause-told : goal.returns-then-whole-clause-told
returns-then-whole-clause-told c =
    let parts = part_views c.args.parts.now in
    let part = part_view c.index-parts-next.result in
    let given = take c.args.next parts in
    let left = drop (c.args.next + 1) parts in
    let first = opened part_view c.args.parts.now c.args.next c.index-parts-next.result
    (omega arith) c.index-parts-next.is in
    let last = closed part_view c.args.parts.now c.args.next c.index-parts-next.result (omega arith)
    c.index-parts-next.is in
    ap (λ (ps : List story.Part). record { given = ps; at = 0; left = left }) last
    ∙ ap (λ b. told_part part given left b c.tell_part-got.result.2) (sym c.if-whole.true)
    ∙ c.tell_part-got.ensures.told given left
    ∙ ap (told_after (length c.args.buf.now) given c.args.at) (sym first)

pub returns-else-whole-clause-told : goal.returns-else-whole-clause-told
returns-else-whole-clause-told c =
    let parts = part_views c.args.parts.now in
    let part = part_view c.index-parts-next.result in
    let given = take c.args.next parts in
    let left = drop (c.args.next + 1) parts in
    let first = opened part_view c.args.parts.now c.args.next c.index-parts-next.result
    (omega arith) c.index-parts-next.is in
    ap (λ (ps : List story.Part). record {
      given = given;
      at = c.tell_part-got.result.2;
      left = ps;
    }) first
    ∙ ap (λ b. told_part part given left b c.tell_part-got.result.2) (sym c.if-whole.false)
    ∙ c.tell_part-got.ensures.told given left
    ∙ ap (told_after (length c.args.buf.now) given c.args.at) (sym first)
