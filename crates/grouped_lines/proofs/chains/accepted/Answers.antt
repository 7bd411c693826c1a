use Rattle.std.proofs.Common.{arith, ◌≡◌, ◌≤◌, ◌+◌, ℕ, List, [], ◌∷◌, ◌++◌, take, get_or, refl}
use Rattle.std.proofs.Common.{true, false, Bool, ap, ◌∙◌, sym, if◌then◌else◌, suc, Some, slice_get}
use Rattle.std.proofs.lemmas.Option.{slice_get_read}
use Rattle.reactor_journal.proofs.Turning.{count-append}
use Rattle.reactor_journal.specs.declared.entry.Entry.{Entry}
use Rattle.log_handler.specs.declared.note.ServerNote.{ServerNote}
use Rattle.laws_script_runs.specs.Connections.{accepts, accepted}
use Rattle.grouped_lines.proofs.Places.{take-one}
use Rattle.grouped_lines.proofs.chains.accepted.Goals.{then-accepts, else-accepts}
use Rattle.grouped_lines.proofs.chains.accepted.Goals as goal

one-more : (es : List (Entry ServerNote)) (i n m : ℕ) (e : Entry ServerNote) (b : Bool)
    → slice_get es i ≡ Some e → accepts e ≡ b → n ≡ accepted (take i es)
    → m ≡ n + (if b then 1 else 0) → n ≤ i
    → (m ≡ accepted (take (i + 1) es)) × (m ≤ i + 1)
one-more es i n m e b here is so more few = (
  more ∙ ap (λ k. k + (if b then 1 else 0)) so
      ∙ ap (λ t. accepted (take i es) + (if t then 1 else 0)) (sym is)
      ∙ sym (count-append accepts (take i es) (e ∷ []))
      ∙ ap accepted (sym (take-one es i e here))
      ∙ ap (λ k. accepted (take k es)) {x = suc i} {y = i + 1} (omega arith),
  at-most b more,
) where
  at-most : (b : Bool) → m ≡ n + (if b then 1 else 0) → m ≤ i + 1
  at-most true more = omega (arith, few, more)
  at-most false more = omega (arith, few, more)

pub loop-entry-preserved : goal.loop-entry-preserved
loop-entry-preserved c =
    let here = slice_get_read c.args.entries.now _ c.loop-entry.entry-index c.entry-item.result refl
    c.loop-entry-test.true c.entry-item.is in
    elim c.if-accepts.branch [
      | then-accepts w ↦ one-more c.args.entries.now c.loop-entry.entry-index c.loop-entry.accepted
          _ c.entry-item.result true here (sym c.accepts.ensures ∙ w.if-accepts.true)
          c.loop-entry.invariant.0 w.accepted-is c.loop-entry.invariant.1
      | else-accepts w ↦ one-more c.args.entries.now c.loop-entry.entry-index c.loop-entry.accepted
          _ c.entry-item.result false here (sym c.accepts.ensures ∙ w.if-accepts.false)
          c.loop-entry.invariant.0 (omega (arith, w.accepted-is)) c.loop-entry.invariant.1
    ]
