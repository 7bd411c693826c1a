use Rattle.script_generator.proofs.Growing.{whole_text}
use Rattle.script_generator.proofs.generator.gen_script.Goals as goal

pub returns : goal.returns
returns c = whole_text c.args.n c.args.seed _ _ _ _ _ _ c.rounds.ensures.rounds
    c.new-out.ensures.items c.in_ok-push_openings.ensures c.in_ok-push_rounds.ensures
    c.in_ok-push_shuttings.ensures c.new.ensures
