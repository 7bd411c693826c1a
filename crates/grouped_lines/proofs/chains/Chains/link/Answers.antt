use Rattle.std.proofs.Common.{arith, ◌≡◌, ◌<◌, ◌+◌, ℕ, suc, subst, refl, ◌∙◌}
use Rattle.std.proofs.lemmas.Option.{slice_get_read}
use Rattle.laws_script_runs.specs.Connections.{accepted}
use Rattle.grouped_lines.specs.Chains.{AreChains, IsOfNone}
use Rattle.grouped_lines.proofs.Places.{skips, links-to}
use Rattle.grouped_lines.proofs.chains.Chains.link.Goals as goal

pub returns-in-Some : goal.returns-in-Some
returns-in-Some c =
    let es = c.args.entries.now in
    let h = subst (λ (n : ℕ). AreChains es n c.args.self.now.first.items
    c.args.self.now.behind.items) {x = c.args.at + 1} {y = suc c.args.at} (omega arith)
    c.requires.chains in
    links-to es c.args.at c.in-Some.conn c.index.result.now c.args.self.now.first.items
    c.args.self.now.behind.items c.index-entries-at.result h
    (slice_get_read es _ c.args.at c.index-entries-at.result refl c.requires.at
    c.index-entries-at.is) c.in-Some.ensures.0 (let known = h.connections in let many =
    c.in-Some.ensures.1 in omega (arith, known, c.connections.ensures, many)) c.index.ensures

pub returns-in-None : goal.returns-in-None
returns-in-None c =
    let es = c.args.entries.now in
    let h = subst (λ (n : ℕ). AreChains es n c.args.self.now.first.items
    c.args.self.now.behind.items) {x = c.args.at + 1} {y = suc c.args.at} (omega arith)
    c.requires.chains in
    skips es c.args.at c.args.self.now.first.items c.args.self.now.behind.items
    c.index-entries-at.result h (slice_get_read es _ c.args.at c.index-entries-at.result refl
    c.requires.at c.index-entries-at.is)
    (subst (λ (n : ℕ). IsOfNone n c.index-entries-at.result)
    (c.connections.ensures ∙ h.connections) c.in-None.ensures)
