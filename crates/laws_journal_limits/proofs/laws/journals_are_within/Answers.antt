use Rattle.std.proofs.Common.{refl}
use Rattle.laws_journal_limits.proofs.Entries.{journal_within}
use Rattle.laws_journal_limits.proofs.laws.journals_are_within.Goals as goal

pub returns : goal.returns
returns g c t idle groups journal runs follows quiet idle_is idle_few script most short = record {
  spelt = refl;
  most_within = most;
  within = journal_within g.H.EventHandler.means t idle groups journal runs follows quiet idle_is
      idle_few script short;
}
