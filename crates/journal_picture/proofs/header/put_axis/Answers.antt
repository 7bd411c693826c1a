use Rattle.std.proofs.Common.{◌≡◌, ◌∙◌, ◌*◌, ◌++◌, ℕ, sym, ap, subst, add-one}
use Rattle.sink_buffer.specs.Texts.{Puts}
use Rattle.journal_picture.specs.Layouts.{told}
use Rattle.journal_picture.specs.Headers.{ticks, tick, ticks_apart}
use Rattle.journal_picture.proofs.Chains.{next}
use Rattle.journal_picture.proofs.header.put_axis.Goals as goal

pub loop-tick-preserved : goal.loop-tick-preserved
loop-tick-preserved g c =
    let s = g.T.TextOut.stands in
    let layout = c.args.layout in
    let k = c.loop-tick.tick in
    let number : c.saturating_mul.result ≡ told (k * ticks_apart layout.step) =
    c.saturating_mul.ensures ∙ ap (λ (n : ℕ). told (k * n)) c.ticks_apart-apart.ensures in
    let put = next s c.loop-tick.invariant c.put_tick.ensures in
    subst (λ (n : ℕ). Puts s c.args.out.now (ticks layout n) c.put_tick.new.out) (sym (add-one k))
    (subst (λ (n : ℕ). Puts s c.args.out.now (ticks layout k ++ tick layout n) c.put_tick.new.out)
    number put)
