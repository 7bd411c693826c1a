use Rattle.std.proofs.Common.{refl}
use Rattle.reactor_model.specs.reactor_journal.specs.declared.entry.Entry.TheVariants.{Cancelled}
use Rattle.test_nets.proofs.Idling.{goes_on}
use Rattle.test_nets.proofs.rows.cancel.Goals as goal

pub returns : goal.returns
returns g c =
    goes_on c.args.core.now c.cancel.new.self c.cancel.result (λ s. Cancelled c.args.timer)
    (λ s. refl) (λ s q. q) c.cancel.ensures.ok c.cancel.ensures.err c.requires
