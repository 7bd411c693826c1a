use Rattle.std.proofs.Common.{length, ap, ◌∙◌}
use Rattle.std.proofs.lemmas.List.{length-replicate, get_or-replicate}
use Rattle.laws_script_runs.specs.Connections.{accepted}
use Rattle.std.specs.Prelude.{slice_index}
use Rattle.grouped_lines.proofs.Places.{none-linked}
use Rattle.grouped_lines.proofs.chains.Chains.empty.Goals as goal

pub returns : goal.returns
returns c =
    let end = length c.args.entries.now in
    let many = accepted c.args.entries.now in
    none-linked c.args.entries.now c.in_ok-first.first.items c.in_ok-behind.behind.items
    (ap length c.in_ok-first.ensures ∙ length-replicate _ end ∙ c.accepted.ensures)
    (ap length c.in_ok-behind.ensures ∙ length-replicate end end)
    (λ i l. ap (λ xs. slice_index xs i) c.in_ok-first.ensures
    ∙ get_or-replicate _ i end 0 (rw c.accepted.ensures l))
