use Rattle.std.proofs.Common.{◌∙◌, ap, sym, ◌++◌, List, refl}
use Rattle.cdr_record.specs.declared.record.LogRecord.{LogRecord}
use Rattle.cdr_record.proofs.Taking.{feeds_bad, fed_these}
use Rattle.cdr_record.proofs.decoder.Decoder.feed.Goals as goal

pub returns-then-is_some-clause-ok : goal.returns-then-is_some-clause-ok
returns-then-is_some-clause-ok c =
    rw (← c.self.view_is) (feeds_bad _ _ _ c.if-is_some.ensures
    (c.new-then-is_some.ensures ∙ c.new.ensures.items) refl)

pub returns-clause-ok : goal.returns-clause-ok
returns-clause-ok c =
    let told = c.in_ok-bad.ensures.ok in
    fed_these _ _ _ told.0 _ (told.2 ∙ ap (λ (rs : List LogRecord). rs ++ told.0.records)
    (c.new-records.ensures ∙ c.in_ok-items.ensures.items)) (sym told.1) told.3
