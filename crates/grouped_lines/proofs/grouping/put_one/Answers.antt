use Rattle.std.proofs.Common.{arith, ◌≡◌, ◌<◌, ◌∙◌, refl, subst, ℕ, suc, ◌-◌}
use Rattle.std.proofs.lemmas.Option.{slice_get_read}
use Rattle.laws_script_runs.specs.Connections.{accepted}
use Rattle.grouped_lines.proofs.Putting.{begins-at, goes-on, rises}
use Rattle.grouped_lines.proofs.grouping.put_one.Goals as goal

pub loop-at-init : goal.loop-at-init
loop-at-init g c =
    let few = subst (λ n. c.args.conn < n) c.requires.chains.connections c.requires.conn in
    begins-at g.T.TextOut.stands c.args.conn c.args.entries.now c.first-at.result c.args.out.now
    (c.first-at.ensures ∙ c.requires.chains.begins c.args.conn few)

pub loop-at-preserved : goal.loop-at-preserved
loop-at-preserved g c =
    let es = c.args.entries.now in
    let few = subst (λ n. c.args.conn < n) c.requires.chains.connections c.requires.conn in
    let here = slice_get_read es _ c.loop-at.at c.index-entries-at.result refl c.loop-at-test.true
    c.index-entries-at.is in
    let next = c.behind-at.ensures ∙ c.requires.chains.linked c.loop-at.at c.args.conn
    c.index-entries-at.result (omega arith) few here
    (c.loop-at.invariant.2 c.index-entries-at.result here) in
    goes-on g.T.TextOut.stands c.args.conn es c.loop-at.at c.behind-at.result
    c.index-entries-at.result c.args.out.now c.loop-at.out c.put_lines.new.out here
    c.loop-at-test.true c.loop-at.invariant c.put_lines.ensures next

pub loop-at-smaller : goal.loop-at-smaller
loop-at-smaller g c =
    let es = c.args.entries.now in
    let few = subst (λ n. c.args.conn < n) c.requires.chains.connections c.requires.conn in
    let here = slice_get_read es _ c.loop-at.at c.index-entries-at.result refl c.loop-at-test.true
    c.index-entries-at.is in
    let next = c.behind-at.ensures ∙ c.requires.chains.linked c.loop-at.at c.args.conn
    c.index-entries-at.result (omega arith) few here
    (c.loop-at.invariant.2 c.index-entries-at.result here) in
    let more = rises g.T.TextOut.stands c.args.conn es c.loop-at.at c.behind-at.result
    c.loop-at-test.true next in
    omega (arith, more, c.loop-at-test.true)
