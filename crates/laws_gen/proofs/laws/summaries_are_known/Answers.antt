use Rattle.laws_gen.proofs.Totals.{sums_up, sums_up_with_room}
use Rattle.laws_gen.proofs.laws.summaries_are_known.Goals as goal

pub returns : goal.returns
returns g c = record {
  unrefused = λ t n seed journal summary least many runs none memory summarizes.
      sums_up g.H.EventHandler.means t n seed journal least many runs none memory summary
      summarizes;
  with_room = sums_up_with_room g.H.EventHandler.means;
}
