use Rattle.std.proofs.Common.{[], ◌∷◌, ◌++◌, true, refl, sym, ap, ◌∙◌}
use Rattle.std.proofs.lemmas.List.{map-append}
use Rattle.crossbeam_queue.specs.Passes.{view}
use Rattle.message_lines.specs.declared.line.Item.TheVariants.{One, Many, Stop}
use Rattle.message_lines.specs.Lines.{log}
use Rattle.message_lines.specs.Boxes.{ones}
use Rattle.message_lines.proofs.Boxes.{ones_more, singly_more}
use Rattle.module_stream.proofs.Giving.{given_all}
use Rattle.module_stream.proofs.Passes.{same_twice, same_as}
use Rattle.module_stream.proofs.Steps.{no_progress}
use Rattle.module_stream.proofs.work.work.Goals as goal

pub loop-init : goal.loop-init
loop-init g c =
    let none = ap (λ m. m.items) c.new-2.ensures ∙ c.new.ensures.items in (
      [],
      [],
      [],
      c.args.side.took_none,
      refl,
      record {
        given = record { items = []; puts = c.args.side.gave_none; all = ap ones none };
        progress = no_progress (g.T.Task.gives c.args.task);
      },
      none,
      (refl, refl, refl),
      (refl, refl, refl),
    )

pub loop-preserved-in-One : goal.loop-preserved-in-One
loop-preserved-in-One g c =
    let i = c.loop.invariant in
    let m = c.in-One.message in
    let gave = c.put_one.ensures.gave (g.T.Task.gives c.args.task) i.0 i.1
    (record {
      given = record {
        items = i.5.given.items;
        puts = i.5.given.puts;
        all = i.5.given.all;
      };
      progress = i.5.progress;
    }) in (
      i.0 ++ m ∷ [],
      gave.0,
      i.2 ++ One m ∷ [],
      ap view c.put_one.ensures.takes ∙ c.in-One.ensures.got
          ∙ ap (λ v. log v.puts true v.sent (v.got ++ One m ∷ [])) i.3,
      singly_more i.2 (One m) ∙ ap (λ l. l ++ One m ∷ []) i.4 ∙ ones_more i.0 m,
      gave.1,
      c.put_one.ensures.none,
      same_as c.args.side.takes c.receive.new.end c.put_one.new.self.takes
          (same_twice c.args.side.takes c.loop.worker.takes c.receive.new.end i.7
          c.receive.ensures.same) c.put_one.ensures.takes,
      same_twice c.args.side.puts c.loop.worker.puts c.put_one.new.self.puts i.8
          c.put_one.ensures.same,
    )

pub loop-preserved : goal.loop-preserved
loop-preserved g c =
    let i = c.loop.invariant in
    let b = c.in-Many.batch in
    let gave = c.put_all.ensures.gave (g.T.Task.gives c.args.task) i.0 i.1
    (record {
      given = record {
        items = i.5.given.items;
        puts = i.5.given.puts;
        all = i.5.given.all;
      };
      progress = i.5.progress;
    }) in (
      i.0 ++ b.messages.items,
      gave.0,
      i.2 ++ Many b ∷ [],
      ap view c.put_all.ensures.takes ∙ c.in-Many.ensures.got
          ∙ ap (λ v. log v.puts true v.sent (v.got ++ Many b ∷ [])) i.3,
      singly_more i.2 (Many b) ∙ ap (λ l. l ++ ones b.messages.items) i.4
          ∙ sym (map-append One i.0 b.messages.items),
      gave.1,
      c.put_all.ensures.none,
      same_as c.args.side.takes c.receive.new.end c.put_all.new.self.takes
          (same_twice c.args.side.takes c.loop.worker.takes c.receive.new.end i.7
          c.receive.ensures.same) c.put_all.ensures.takes,
      same_twice c.args.side.puts c.loop.worker.puts c.put_all.new.self.puts i.8
          c.put_all.ensures.same,
    )

pub returns-in-Stop : goal.returns-in-Stop
returns-in-Stop g c =
    let i = c.loop.invariant in record {
      taken = i.0;
      sent = i.1;
      same_takes = same_twice c.args.side.takes c.loop.worker.takes c.receive.new.end i.7
          c.receive.ensures.same;
      same_puts = same_twice c.args.side.puts c.loop.worker.puts c.send.new.end i.8
          c.send.ensures.same;
      got = i.2 ++ Stop ∷ [];
      took = c.in-Stop.ensures.got ∙ ap (λ v. log v.puts true v.sent (v.got ++ Stop ∷ [])) i.3;
      took_all = singly_more i.2 Stop ∙ ap (λ l. l ++ Stop ∷ []) i.4;
      items = i.5.given.items ++ Stop ∷ [];
      gave = c.send.ensures.sent ∙ ap (λ v. log true v.takes (v.sent ++ Stop ∷ []) v.got)
          i.5.given.puts;
      gave_all = singly_more i.5.given.items Stop
          ∙ ap (λ l. l ++ Stop ∷ []) (given_all i.1 c.loop.worker i.5.given i.6);
      progress = i.5.progress;
    }
