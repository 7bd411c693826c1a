use Rattle.std.proofs.Common.{refl}
use Rattle.reactor_model.specs.reactor_journal.specs.declared.entry.Entry.TheVariants.{Resumed}
use Rattle.test_nets.proofs.Idling.{goes_on}
use Rattle.test_nets.proofs.rows.resume.Goals as goal

pub returns : goal.returns
returns g c =
    goes_on c.args.core.now c.resume.new.self c.resume.result (λ s. Resumed c.args.handle)
    (λ s. refl) (λ s q. q) c.resume.ensures.ok c.resume.ensures.err c.requires
