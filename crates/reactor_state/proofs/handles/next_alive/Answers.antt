use Rattle.std.proofs.Common.{◌≡◌, ◌<◌, ◌≤◌, ◌&&◌, length, take, drop, length-drop, ◌-◌, arith}
use Rattle.std.proofs.Common.{get_or, ap, sym, ◌∙◌}
use Rattle.std.specs.Prelude.{nat_le}
use Rattle.std.proofs.lemmas.Bool.{le-leb, lt-leb}
use Rattle.std.proofs.lemmas.List.{take_all}
use Rattle.std.specs.List.{find}
use Rattle.std.specs.Option.{option_map}
use Rattle.reactor_summary.specs.declared.parts.LiveHandle.{LiveHandle}
use Rattle.reactor_state.proofs.Lists.{find_from}
use Rattle.reactor_state.proofs.Rising.{rises}
use Rattle.reactor_state.specs.Sound.{handle_number}
use Rattle.reactor_state.proofs.handles.next_alive.Goals as goal

pub returns : goal.returns
returns c hi rising =
    let all : take (length c.args.handles.now - c.first_from-place.result)
    (drop c.first_from-place.result c.args.handles.now)
    ≡ drop c.first_from-place.result c.args.handles.now =
    take_all _ _ (omega (arith, length-drop c.first_from-place.result c.args.handles.now)) in
    c.first_alive.ensures
    ∙ ap (λ hs. option_map (λ (h : LiveHandle). h.handle) (find (λ (h : LiveHandle). h.alive) hs))
    all
    ∙ ap (option_map (λ (h : LiveHandle). h.handle))
    (sym (find_from (λ (h : LiveHandle). nat_le c.args.from.0 h.handle.0 && h.alive)
    (λ (h : LiveHandle). h.alive) c.args.handles.now c.first_from-place.result
    c.first_from-place.ensures.bound
    (λ k d l m. let less : (get_or c.args.handles.now k d).handle.0 < c.args.from.0 =
    c.first_from-place.ensures.below (rises handle_number hi c.args.handles.now rising) k d l m
    in ap (λ b. b && (get_or c.args.handles.now k d).alive) (lt-leb _ _ less))
    (λ k d l m. let most : c.args.from.0 ≤ (get_or c.args.handles.now k d).handle.0 =
    c.first_from-place.ensures.above (rises handle_number hi c.args.handles.now rising) k d l m
    in ap (λ b. b && (get_or c.args.handles.now k d).alive) (le-leb _ _ most))))
