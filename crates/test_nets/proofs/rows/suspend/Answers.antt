use Rattle.std.proofs.Common.{refl}
use Rattle.reactor_model.specs.reactor_journal.specs.declared.entry.Entry.TheVariants.{Suspended}
use Rattle.test_nets.proofs.Idling.{goes_on}
use Rattle.test_nets.proofs.rows.suspend.Goals as goal

pub returns : goal.returns
returns g c =
    goes_on c.args.core.now c.suspend.new.self c.suspend.result (λ s. Suspended c.args.handle)
    (λ s. refl) (λ s q. q) c.suspend.ensures.ok c.suspend.ensures.err c.requires
