use Rattle.std.proofs.Common.{◌≡◌, ◌≤◌, ◌+◌, ◌*◌, ℕ, Bool, List, length, cond, ap, ◌∙◌, arith}
use Rattle.reactor_summary.specs.declared.parts.LiveHandle.{LiveHandle}
use Rattle.reactor_summary.specs.declared.parts.OpenEvent.{OpenEvent}
use Rattle.reactor_state.specs.Tables.{alive_count}
use Rattle.reactor_state.specs.State.{Numbers}
use Rattle.reactor_state.proofs.Lists.{count_le}
use Rattle.reactor_state.proofs.state.ReactorState.owed.Goals as goal

pub returns : goal.returns
returns g c s shows =
    let state = c.args.self.now in
    let opens : c.deref.result.now ≡ s.opens = c.deref.ensures.value ∙ shows.tables.opens in
    let handles : c.deref-2.result.now ≡ s.handles =
    c.deref-2.ensures.value ∙ shows.tables.handles in
    let alive : state.alive ≡ alive_count s.handles =
    ap (λ (n : Numbers). n.alive) shows.tables.numbers in
    let ended : state.ended ≡ s.ended = ap (λ (n : Numbers). n.ended) shows.tables.numbers in
    let few : state.alive ≤ length c.deref-2.result.now =
    omega (arith, count_le (λ (h : LiveHandle). h.alive) s.handles, ap length handles) in
    c.owed_of.ensures few
    ∙ ap (λ (os : List OpenEvent). 5 * length os + (state.alive + length c.deref-2.result.now)
    + cond state.ended 0 1) opens
    ∙ ap (λ (hs : List LiveHandle). 5 * length s.opens + (state.alive + length hs)
    + cond state.ended 0 1) handles
    ∙ ap (λ (n : ℕ). 5 * length s.opens + (n + length s.handles) + cond state.ended 0 1) alive
    ∙ ap (λ (b : Bool). 5 * length s.opens + (alive_count s.handles + length s.handles)
    + cond b 0 1) ended
