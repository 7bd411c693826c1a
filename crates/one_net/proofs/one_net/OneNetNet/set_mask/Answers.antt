use Rattle.std.proofs.Common.{arith, refl, ap, ◌∙◌, ◌≡◌, Some}
use Rattle.std.proofs.lemmas.List.{take_at}
use Rattle.ev_base.specs.Net.{changed_mask}
use Rattle.one_net.proofs.Nets.{handles-changed, handles_of}
use Rattle.one_net.proofs.one_net.OneNetNet.set_mask.Goals as goal

pub returns-clause-sets : goal.returns-clause-sets
returns-clause-sets g c =
    let set : c.set_mask_in.new.watched
    ≡ changed_mask c.args.handle.0 c.args.mask c.args.self.now.watched.items =
    c.set_mask_in.ensures ∙ ap (changed_mask c.args.handle.0 c.args.mask) c.deref_mut.ensures.value
    in
    let items = take_at c.set_mask_in.new.watched _ c.args.self.now.watched.len
    (omega (arith, c.set_mask_in.auto.watched, c.deref_mut.ensures.len)) ∙ set in
    record {
      masks = ap Some items;
      calls = ap Some c.add.ensures;
      attached = ap handles_of items ∙ handles-changed c.args.handle.0 c.args.mask
          c.args.self.now.watched.items;
      spare = omega arith;
      failed_waits = refl;
      failed_attaches = refl;
      now = refl;
      reports = refl;
      steady = refl;
      retired = refl;
      turned_away = refl;
    }
