use Rattle.std.proofs.Common.{arith, ◌≡◌, ◌≤◌, ◌∙◌, ℕ, List, ◌++◌, ◌-◌, length, take, drop, ap}
use Rattle.std.proofs.Common.{subst, append_assoc}
use Rattle.std.proofs.lemmas.List.{length-take-le}
use Rattle.sink_buffer.specs.Gathers.{HasPut}
use Rattle.sink_buffer.proofs.Texts.{take-next, length-part}
use Rattle.sink_buffer.proofs.Gathering.{stands-none, stands-more}
use Rattle.sink_buffer.proofs.buffer.SinkBuffer.put_long.Goals as goal

pub loop-at-init : goal.loop-at-init
loop-at-init g c = (omega arith, stands-none g.K.Sink.facts c.args.self.now)

pub loop-at-preserved : goal.loop-at-preserved
loop-at-preserved g c =
    let bytes = c.args.bytes.now in
    let at = c.loop-at.at in
    let n = c.fill-at.result in
    let rest = take (length bytes - at) (drop at bytes) in
    let here : length rest ≡ length bytes - at = length-part bytes at in
    let room = c.make_room.ensures.room in
    let count = c.fill-at.ensures.count in
    let within : n ≤ length rest = omega (arith, count) in
    let copied : length (take n rest) ≡ n = length-take-le n rest within in (
      omega (arith, count, here),
      λ since text h.
          subst (λ (whole : List ℕ). HasPut g.K.Sink.facts since c.fill-at.new.self whole)
          (append_assoc text (take at bytes) (take n rest)
          ∙ ap (λ xs. text ++ xs) (take-next bytes at n))
          (stands-more g.K.Sink.facts c.loop-at.self c.make_room.new.self c.fill-at.new.self
          (text ++ take at bytes) (take n rest) since
          (omega (arith, copied, count, here, room)) c.make_room.ensures.text
          c.make_room.ensures.held c.make_room.ensures.output
          c.fill-at.ensures.held c.fill-at.ensures.output c.fill-at.ensures.broken
          (c.loop-at.invariant.1 since text h)),
    )
