-- What the sink below has of what came out of the queue.
use Rattle.std.proofs.Common.{◌≡◌, ◌<◌, arith, ℕ, zero, suc, List, ◌++◌, Bool, true, false, Option}
use Rattle.std.proofs.Common.{Some, None, refl, sym, ◌∙◌, ap, true≢false}
use Rattle.std.specs.Prelude.{IfSome}
use Rattle.ev_base.specs.Sink.{SinkFacts}
use Rattle.sink_buffer.specs.Written.{WritesAll}
use Rattle.sink_buffer.proofs.Texts.{grows-twice, prefix-behind}
use Rattle.write_behind.specs.Writers.{WriterState}
use Rattle.write_behind.specs.Modes.{HasFailed}

-- more came out and was written, all of it or a front of it
pub written_more : (o old new : SinkFacts) (put more : List ℕ) (whole : Bool)
    → WritesAll o put true old → WritesAll old more whole new
    → WritesAll o (put ++ more) whole new
written_more o old new put more true h w = record {
  text = grows-twice o.text old.text new.text put more h.text w.text;
  faults = w.faults ∙ h.faults;
}
written_more o old new put more false h w = record {
  front = put ++ w.front;
  is_front = prefix-behind put w.front more w.is_front;
  text = grows-twice o.text old.text new.text put w.front h.text w.text;
  rose = rw (← h.faults) w.rose;
}

-- if no write has failed none was refused
pub none_refused : {K : Type 0} (writer : Option (WriterState K)) (last : WriterState K) (n : ℕ)
    → (0 < n → HasFailed writer) → IfSome writer (λ mine. last ≡ mine) → last.whole ≡ true
    → n ≡ 0
none_refused writer last zero failed same whole = refl
none_refused None last (suc n) failed same whole = absurd (failed (omega arith))
none_refused (Some mine) last (suc n) failed same whole =
    let is_whole = ap (λ (w : WriterState _). w.whole) same in
    absurd (true≢false (sym whole ∙ is_whole ∙ failed (omega arith)))

-- what is so afterwards was so before
pub true_before : (a b : Bool) → (a ≡ false → b ≡ false) → b ≡ true → a ≡ true
true_before true b stays is = refl
true_before false b stays is = absurd (true≢false (sym is ∙ stays refl))
