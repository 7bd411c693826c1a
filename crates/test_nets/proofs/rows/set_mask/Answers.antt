use Rattle.std.proofs.Common.{refl}
use Rattle.reactor_model.specs.reactor_journal.specs.declared.entry.Entry.TheVariants.{Masked}
use Rattle.test_nets.proofs.Idling.{goes_on}
use Rattle.test_nets.proofs.rows.set_mask.Goals as goal

pub returns : goal.returns
returns g c =
    goes_on c.args.core.now c.set_mask.new.self c.set_mask.result
    (λ s. Masked c.args.handle c.args.mask) (λ s. refl) (λ s q. q) c.set_mask.ensures.ok
    c.set_mask.ensures.err c.requires
