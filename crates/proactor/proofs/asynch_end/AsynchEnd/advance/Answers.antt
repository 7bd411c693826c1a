use Rattle.std.proofs.Common.{Bool, true, false, refl, sym, subst}
use Rattle.proactor.specs.declared.sums.Sums.{Sums}
use Rattle.proactor.specs.Parts.{DoesPart, takes_bytes}
use Rattle.proactor.specs.Standing.{AdvancesTo}
use Rattle.proactor.proofs.Parting.{advanced, wrote_all}
use Rattle.proactor.proofs.asynch_end.AsynchEnd.advance.Goals as goal

pub returns-then-advance : goal.returns-then-advance
returns-then-advance g c =
    subst (λ (s : Sums). DoesPart g.E.PeerEnd.tells g.E.PeerEnd.keeps
    g.C.CompletionHandler.follows (takes_bytes c.args.count) c.args.self.now
    (record c.args.self.now { sums = s; standing = c.advance.new.self })
    (record { moved = true; over = false; starved = false })) (sym c.give.ensures)
    (advanced g.E.PeerEnd.tells g.E.PeerEnd.keeps g.C.CompletionHandler.follows c.args.count
    c.args.self.now c.advance.new.self c.requires.left
    (subst (λ (b : Bool). AdvancesTo c.args.count c.args.self.now.standing b c.advance.new.self)
    c.if-advance.true c.advance.ensures))

pub returns : goal.returns
returns g c =
    let to = subst (λ (b : Bool).
    AdvancesTo c.args.count c.args.self.now.standing b c.advance.new.self) c.if-advance.false
    c.advance.ensures in
    wrote_all g.E.PeerEnd.tells g.E.PeerEnd.keeps g.C.CompletionHandler.follows c.args.count
    c.args.self.now _ c.complete_write-step.new.self c.complete_write-step.result c.requires.left
    to.0 to.1 c.give.ensures refl refl refl c.complete_write-step.ensures
