use Rattle.std.proofs.Common.{arith, ◌≤◌, ◌∙◌, ℕ, List, ◌-◌, length, take, drop, subst}
use Rattle.ev_base.specs.Sink.{GrowsBy}
use Rattle.sink_buffer.proofs.Texts.{grows-twice, take-next, length-part, prefix-take}
use Rattle.sink_buffer.proofs.buffer.write_all.Goals as goal

pub loop-at-preserved : goal.loop-at-preserved
loop-at-preserved g c =
    let bytes = c.args.bytes.now in
    let at = c.loop-at.at in
    let n = c.in-Bytes.count in
    let start = (g.K.Sink.facts c.args.output.now).text in
    let now = (g.K.Sink.facts c.write.new.self).text in
    let both = grows-twice start (g.K.Sink.facts c.loop-at.output).text now (take at bytes)
    (take n (take (length bytes - at) (drop at bytes))) c.loop-at.invariant.1
    c.in-Bytes.ensures.text in
    let within : n ≤ length (take (length bytes - at) (drop at bytes)) =
    c.in-Bytes.ensures.within in (
      omega (arith, within, length-part bytes at),
      subst (λ (front : List ℕ). GrowsBy start front now) (take-next bytes at n) both,
      c.in-Bytes.ensures.faults ∙ c.loop-at.invariant.2,
      λ empty. absurd (omega (arith, empty, c.loop-at-test.true)),
    )

pub returns-in-Failed-clause-writes : goal.returns-in-Failed-clause-writes
returns-in-Failed-clause-writes g c = record {
  front = take c.loop-at.at c.args.bytes.now;
  is_front = prefix-take c.args.bytes.now c.loop-at.at;
  text = rw c.in-Failed.ensures.text c.loop-at.invariant.1;
  rose = rw (← c.loop-at.invariant.2) c.in-Failed.ensures.rose;
}

pub returns-in-Failed-clause-idle : goal.returns-in-Failed-clause-idle
returns-in-Failed-clause-idle g c = λ empty. absurd (omega (arith, empty, c.loop-at-test.true))
