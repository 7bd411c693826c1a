use Rattle.std.proofs.Common.{refl}
use Rattle.core_loop.proofs.Idling.{hands_over, idle_same}
use Rattle.core_loop.proofs.Leading.{goes_same, handed_over}
use Rattle.core_loop.proofs.turns.hand_over.Goals as goal

pub hand_over-requires : goal.hand_over-requires
hand_over-requires g c = let i = c.requires in
    record { stands = (i.terms, i.first, i.history, i.stands) }

pub returns-in-Ok-clause-stays : goal.returns-in-Ok-clause-stays
returns-in-Ok-clause-stays g c = λ bound i.
    hands_over c.args.core.now c.hand_over.new.self _ i
    (c.in-Ok.ensures.ok i.terms i.first i.history i.stands)

pub returns-in-Ok-clause-net : goal.returns-in-Ok-clause-net
returns-in-Ok-clause-net g c = let i = c.requires in
    (c.in-Ok.ensures.ok i.terms i.first i.history i.stands).others.net

pub returns-in-Ok-clause-ok : goal.returns-in-Ok-clause-ok
returns-in-Ok-clause-ok g c = let i = c.requires in
    (c.in-Ok.ensures.ok i.terms i.first i.history i.stands).faults

pub returns-in-Err-Failed-clause-stays : goal.returns-in-Err-Failed-clause-stays
returns-in-Err-Failed-clause-stays g c = λ bound i.
    idle_same c.args.core.now c.hand_over.new.self i
    (c.in-Err-Failed.ensures.err i.terms i.first i.history i.stands)

pub returns-in-Err-NoMemory-clause-stays : goal.returns-in-Err-NoMemory-clause-stays
returns-in-Err-NoMemory-clause-stays g c = λ bound i.
    idle_same c.args.core.now c.hand_over.new.self i
    (c.in-Err-NoMemory.ensures.err i.terms i.first i.history i.stands)

pub returns-in-Ok-clause-leads : goal.returns-in-Ok-clause-leads
returns-in-Ok-clause-leads g c = λ t F h stands none.
    handed_over _ t F h _ c.args.core.now c.hand_over.new.self none stands
    (c.in-Ok.ensures.ok t F h stands)

pub returns-in-Err-Failed-clause-leads : goal.returns-in-Err-Failed-clause-leads
returns-in-Err-Failed-clause-leads g c = λ t F h stands none.
    goes_same _ t h _ F c.hand_over.new.self (c.in-Err-Failed.ensures.err t F h stands) none refl

pub returns-in-Err-NoMemory-clause-leads : goal.returns-in-Err-NoMemory-clause-leads
returns-in-Err-NoMemory-clause-leads g c = λ t F h stands none.
    goes_same _ t h _ F c.hand_over.new.self (c.in-Err-NoMemory.ensures.err t F h stands) none refl
