use Rattle.std.proofs.Common.{sym, subst}
use Rattle.proactor.specs.declared.asynch_end.Step.{Step}
use Rattle.proactor.specs.Parts.{DoesPart}
use Rattle.proactor.specs.Turns.{TriesBoth}
use Rattle.proactor.proofs.Parting.{read_and_write}
use Rattle.proactor.proofs.asynch_end.AsynchEnd.try_both.Goals as goal

pub returns : goal.returns
returns g c = subst (λ (s : Step). DoesPart g.E.PeerEnd.tells g.E.PeerEnd.keeps
    g.C.CompletionHandler.follows TriesBoth c.args.self.now c.try_write.new.self s)
    (sym c.and.ensures)
    (read_and_write g.E.PeerEnd.tells g.E.PeerEnd.keeps g.C.CompletionHandler.follows
    c.args.self.now c.try_read-read.new.self c.try_write.new.self c.try_read-read.result
    c.try_write.result c.if-read.false c.try_read-read.ensures c.try_write.ensures)
