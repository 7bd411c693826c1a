use Rattle.std.proofs.Common.{rules, ◌≡◌, [], ◌∷◌, take, get_or, refl, subst}
use Rattle.ev_base.specs.Bytes.{MovesOn}
use Rattle.one_net.specs.OneEnd.{extra_of}
use Rattle.one_net.specs.OneKeeps.{bytes_at_start}
use Rattle.one_net.proofs.Ends.{faults_rose, keeps_bytes, keeps_count, only_byte}
use Rattle.one_net.proofs.one_end.OneEnd.look_behind.Goals as goal

pub returns-in-Failed-clause-kept : goal.returns-in-Failed-clause-kept
returns-in-Failed-clause-kept g c t kept = record {
  limit = search rules;
  within = search rules;
  moved = search rules;
  never_pauses = search rules;
  too_long = search rules;
  sound = search rules;
  cause = search rules;
  took = search rules;
  source_faults = λ f told. faults_rose c.args.self.now.failed f _ _ (kept.source_faults f told)
      c.in-Failed.ensures.rose;
  bytes = search rules;
  counts = search rules;
  at_end = search rules;
  story = search rules;
}

pub returns-in-Bytes-clause-kept : goal.returns-in-Bytes-clause-kept
returns-in-Bytes-clause-kept g c t kept =
    let only : take c.in-Bytes.field-0 c.read.new.buf ≡ get_or c.read.new.buf 0 0 ∷ [] =
    only_byte c.read.new.buf c.in-Bytes.field-0 c.read.auto.buf c.in-Bytes.ensures.some
    c.in-Bytes.ensures.within in
    let before = (g.S.Source.facts c.args.self.now.input).bytes in
    let after = (g.S.Source.facts c.read.new.self).bytes in
    let moves : MovesOn before (get_or c.read.new.buf 0 0 ∷ []) after =
    subst (λ bytes. MovesOn before bytes after) only c.in-Bytes.ensures.bytes in
    record {
      limit = search rules;
      within = search rules;
      moved = search rules;
      never_pauses = search rules;
      too_long = search rules;
      sound = search rules;
      cause = search rules;
      took = search rules;
      source_faults = search rules;
      bytes = keeps_bytes c.args.self.now.given (extra_of c.args.self.now)
          (get_or c.read.new.buf 0 0 ∷ []) (bytes_at_start t) before after c.requires.none refl
          kept.bytes moves;
      counts = keeps_count c.args.self.now.given (extra_of c.args.self.now)
          (get_or c.read.new.buf 0 0 ∷ []) before after c.requires.none refl moves kept.counts;
      at_end = search rules;
      story = search rules;
    }
