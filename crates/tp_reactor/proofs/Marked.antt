-- What a lead tells by the marks of its caller.
use Rattle.std.proofs.Common.{ℕ, ◌≡◌, ◌≤◌, List, Option, sym, ap, ◌∙◌, subst, arith}
use Rattle.ev_base.specs.Counts.{Rose}
use Rattle.leader_token.specs.declared.kept.View.{View}
use Rattle.reactor_model.specs.reactor_journal.specs.declared.entry.Entry.{Entry}
use Rattle.reactor_model.specs.reactor_journal.specs.Past.{past_of}
use Rattle.reactor_core.specs.reactor_summary.specs.Summary.{summary}
use Rattle.reactor_core.specs.Stands.{Meaning}
use Rattle.reactor_desk.specs.Desks.{capped}
use Rattle.reactor_desk.specs.declared.terms.DeskTerms.{DeskTerms}
use Rattle.reactor_desk.specs.declared.leading.Led.{Led}
use Rattle.reactor_desk.specs.declared.leading.Led.TheVariants as led
use Rattle.tp_reactor.specs.Led.{IsLed, MarksTell}

rose_above : (had found left : ℕ) → had ≤ capped found → Rose found left → Rose had (capped left)
rose_above had found left above rose = omega (arith, above, rose)

module _ {H M Q W V N E : Type 0} (m : Meaning H M Q W V N E) (v : View (Entry N) DeskTerms)
    (most : Option ℕ) (w : View (Entry N) DeskTerms) where
  by_view : (l : Led H N E) (k : View (Entry N) DeskTerms) → w ≡ k → MarksTell v l k
      → MarksTell v l w
  by_view l k is tells = subst (MarksTell v l) (sym is) tells

  pub marks_tell : (l : Led H N E) → IsLed m v most l w → MarksTell v l w
  marks_tell (led.Job job) d = tt
  marks_tell led.Quiet d = tt
  marks_tell led.Over d = by_view led.Over _ d.leaves.view
      (d.tells v.terms d.leaves.first _ d.leaves.stands)
  marks_tell led.Stopped d = by_view led.Stopped _ d.leaves.view
      (ap (λ (h : List (Entry N)). (summary (past_of h)).ended) d.gives.2 ∙ d.gives.0)
  marks_tell led.Broken d = by_view led.Broken _ d.leaves.view
      (d.tells v.terms d.leaves.first _ d.leaves.stands)
  marks_tell led.VolumeFault d = by_view led.VolumeFault _ d.leaves.view
      (rose_above _ _ _ (d.finds.above 3) d.tells)
  marks_tell led.NetFault d = by_view led.NetFault _ d.leaves.view
      (rose_above _ _ _ (d.finds.above 1) d.tells)
  marks_tell led.NoMemory d = tt
