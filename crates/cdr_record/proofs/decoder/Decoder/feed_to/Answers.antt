use Rattle.std.proofs.Common.{[], ap, ◌∙◌, sym, refl, append-nil}
use Rattle.cdr_record.specs.Grammar.{first_of}
use Rattle.cdr_record.specs.Decoding.{records_of}
use Rattle.cdr_record.specs.declared.decoder.Fed.{Fed}
use Rattle.cdr_record.proofs.Taking.{feeds_piece, feeds_bad, kept_more, no_bad}
use Rattle.cdr_record.proofs.decoder.Decoder.feed_to.Goals as goal

pub returns-then-is_some-clause-ok : goal.returns-then-is_some-clause-ok
returns-then-is_some-clause-ok g c =
    let fed : Fed = record { records = []; bad = c.self.inside.bad } in (
      fed,
      refl,
      sym (append-nil _),
      rw (← c.self.view_is)
          (feeds_bad _ _ fed c.if-is_some.ensures refl refl),
    )

pub invariant_of-self : goal.invariant_of-self
invariant_of-self g c = ap first_of c.in-Ok.ensures.rest ∙ kept_more _

pub returns-in-Ok-clause-ok : goal.returns-in-Ok-clause-ok
returns-in-Ok-clause-ok g c =
    let fed : Fed = record { records = records_of _; bad = c.bad_at-self-inside.result } in (
      fed,
      refl,
      c.in-Ok.ensures.records,
      rw (← c.self.view_is) (feeds_piece _ _ _ fed c.in-Ok.step.taken c.in-Ok.step.first
          (no_bad c.self.inside.bad c.if-is_some.ensures) c.in-Ok.ensures.taken
          c.in-Ok.ensures.first
          refl c.in-Ok.ensures.rest
          c.saturating_add-self-inside.ensures c.bad_at-self-inside.ensures refl),
    )
