use Rattle.std.proofs.Common.{rules, refl, ◌++◌}
use Rattle.cmd_display.proofs.Lists.{begins-all, begins-behind}
use Rattle.cmd_display.proofs.second.Second.put_last.Goals as goal

pub returns-in-Ok-clause-puts : goal.returns-in-Ok-clause-puts
returns-in-Ok-clause-puts g c = λ second o fed h. record {
  put = fed ++ c.args.messages;
  follows = begins-all (fed ++ c.args.messages);
  stays = search rules;
  writes = c.in-Ok.ensures.put second o fed h;
  all = λ e. (search rules, refl);
}

pub returns-in-Err-clause-puts : goal.returns-in-Err-clause-puts
returns-in-Err-clause-puts g c = λ second o fed h.
    let f = c.in-Err.ensures.front second o fed h in record {
      put = fed ++ f.0;
      follows = begins-behind fed f.0 c.args.messages f.1;
      stays = search rules;
      writes = f.2;
      all = λ e. absurd (cc e);
    }
