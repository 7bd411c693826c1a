use Rattle.std.proofs.Common.{ℕ, ◌∙◌, sym, ap, Some}
use Rattle.ev_base.specs.ev_types.specs.declared.upcall.Kind.TheVariants.{Read}
use Rattle.ev_base.specs.declared.net.Report.{Report}
use Rattle.test_nets.proofs.InTurn.{report_in_turn}
use Rattle.test_nets.proofs.round_robin.RoundRobinNetNet.report.Goals as goal

abbrev report_of : ℕ → Report
report_of handle = record { handle = record { 0 = handle }; kind = Read }

pub returns : goal.returns
returns c =
    report_in_turn c.args.self.now.handles c.args.self.now.first c.args.self.now.count c.args.at
    c.requires ∙ ap (λ handle. Some (report_of handle)) (sym c.handle_at.ensures)
