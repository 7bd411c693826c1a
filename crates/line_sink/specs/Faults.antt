-- What the count of faults of a sink of lines says.
use Rattle.std.specs.Prelude.{◌≡◌, ◌≤◌, ◌+◌, ◌-◌, ◌^◌, ℕ, true, List, Some}
use Rattle.std.proofs.Common.{subst, sym}
use Rattle.std.proofs.Math.Nat.{le-min, le_refl, min-le_right}
use Rattle.ev_base.specs.Counts.{Rose, counted}
use Rattle.ev_base.specs.Terms.{Terms}
use Rattle.ev_base.specs.Sink.{SinkFacts}
use Rattle.reactor_model.specs.reactor_journal.specs.declared.entry.Entry.{Entry}
use Rattle.line_sink.specs.declared.sink.LineSink.{LineSink}
use Rattle.line_sink.specs.LineSink.{PutsLines, line_sink_faults, is_broken, sink_of}

-- If a write failed, the count is above that of the terms, if they have it.
pub breaks_above : {N K P : Type 0} (lines : Entry N → List ℕ) (facts : K → SinkFacts) (t : Terms)
    (sink : LineSink K P) (h : List (Entry N)) (before : ℕ) → PutsLines lines facts t sink h →
    is_broken sink ≡ true → t.output_faults ≡ Some before
    → Rose before (line_sink_faults facts sink)
breaks_above lines facts t sink h before stands broken started =
    le-min (subst (λ (n : ℕ). Rose n (facts (sink_of sink)).faults) (stands.faults before started)
    (subst (λ (now : ℕ). counted stands.start.faults ≤ now) (sym (stands.put.front broken).rose)
    (le_refl (counted stands.start.faults)))) (min-le_right (before + 1) (2 ^ 64 - 1))
