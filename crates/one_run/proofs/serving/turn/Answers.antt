use Rattle.std.specs.Prelude.{Result, Ok, Err}
use Rattle.std.proofs.Common.{arith, sym, ap, refl, ◌≡◌, ◌∙◌, ◌∷◌, ◌++◌, [], inl, Some, None}
use Rattle.std.proofs.Common.{Option}
use Rattle.ev_base.specs.ev_types.specs.declared.upcall.Answer.TheVariants.{Close}
use Rattle.reactor_model.specs.reactor_journal.specs.declared.entry.Entry.TheVariants.{Started}
use Rattle.reactor_model.specs.reactor_journal.specs.Past.{past_of}
use Rattle.one_run.specs.Running.{closes_lost, last_entry}
use Rattle.one_run.proofs.Turning.{turned, either, goes_on, closes_as, always_picks, gave_job}
use Rattle.one_run.proofs.Turning.{gave_none, fits_behind, lost_is}
use Rattle.log_handler.specs.LineSink.{whole_of}
use Rattle.one_run.proofs.Growing.{grows-none}
use Rattle.one_run.proofs.serving.turn.Goals as goal

pub start-requires : goal.start-requires
start-requires g c =
    let q = c.requires.served in
    let over = c.in-Ok.ensures.stands q.0 q.1 q.2 q.3 in
    record { stands = (q.0, over.0, q.2, over.1) }

pub returns-in-Err-clause-err : goal.returns-in-Err-clause-err
returns-in-Err-clause-err g c t F h stands terms r =
    let over = c.hand_over.ensures.stands t F h stands in
    (over.0, h, over.1, (inl r, grows-none 1 h))

pub unreachable-requires : goal.unreachable-requires
unreachable-requires g c =
    let q = c.requires.served in
    let over = c.in-Ok.ensures.stands q.0 q.1 q.2 q.3 in
    always_picks q.0.most q.2 over.1.tracks.legal q.4.1
    (gave_none _ q.0 over.0 q.2 _ _ c.in-Ok-None.field-0-is
    (c.in-Ok-None.ensures.ok q.0 over.0 q.2 over.1))

pub returns-in-Err-start-clause-err : goal.returns-in-Err-start-clause-err
returns-in-Err-start-clause-err g c t F h stands terms r =
    let over = c.in-Ok.ensures.stands t F h stands in
    (over.0, h, c.in-Err-start.ensures.err t over.0 h over.1, (inl r, grows-none 1 h))

pub settle-requires : goal.settle-requires
settle-requires g c =
    let q = c.requires.served in
    let over = c.in-Ok.ensures.stands q.0 q.1 q.2 q.3 in
    let gives = gave_job _ q.0 over.0 q.2 _ _ _ c.in-Ok-Some.field-0-is
    (c.in-Ok-Some.ensures.ok q.0 over.0 q.2 over.1) in
    let fits = c.run-done.ensures.fits q.0 (Started c.in-Ok-Some.job.event ∷ past_of q.2) gives.1 in
    record {
      stands = (
        q.0,
        over.0,
        q.2 ++ Started c.in-Ok-Some.job.event ∷ [],
        gives.0,
        fits_behind _ q.0 q.2 c.in-Ok-Some.job.event _ fits,
      );
    }

pub returns-then-is_broken-clause-err : goal.returns-then-is_broken-clause-err
returns-then-is_broken-clause-err g c t F h stands terms r =
    let over = c.in-Ok.ensures.stands t F h stands in
    let gives = gave_job _ t over.0 h _ _ _ c.in-Ok-Some.field-0-is
    (c.in-Ok-Some.ensures.ok t over.0 h over.1) in
    let fits = c.run-done.ensures.fits t (Started c.in-Ok-Some.job.event ∷ past_of h) gives.1 in
    let settles = c.settle.ensures.stands t over.0 (h ++ Started c.in-Ok-Some.job.event ∷ [])
    gives.0 (fits_behind _ t h c.in-Ok-Some.job.event _ fits) in
    either _ _ _ _ t _ over.0 h _ (turned _ _ _ _ t over.0 h r c.in-Ok-Some.job c.run-done.result _
    _ _ gives.0 gives.1 fits c.run-done.ensures.same settles c.run-done.result.turn.answer refl)

pub returns-in-Close-clause-closes : goal.returns-in-Close-clause-closes
returns-in-Close-clause-closes g c lost told t F h stands terms r =
    let over = c.in-Ok.ensures.stands t F h stands in
    let gives = gave_job _ t over.0 h _ _ _ c.in-Ok-Some.field-0-is
    (c.in-Ok-Some.ensures.ok t over.0 h over.1) in
    let fits = c.run-done.ensures.fits t (Started c.in-Ok-Some.job.event ∷ past_of h) gives.1 in
    let settles = c.settle.ensures.stands t over.0 (h ++ Started c.in-Ok-Some.job.event ∷ [])
    gives.0 (fits_behind _ t h c.in-Ok-Some.job.event _ fits) in
    closes_as _ _ _ _ t over.0 _ lost (λ now stands. lost_is _ _ told
    ∙ (c.closes_lost.ensures ∙ ap (λ entries. closes_lost (last_entry entries))
    (c.journal.ensures t over.0 now stands))) h
    (turned _ _ _ _ t over.0 h r c.in-Ok-Some.job c.run-done.result _ _ _ gives.0 gives.1 fits
    c.run-done.ensures.same settles Close (sym c.answer-answer.ensures ∙ c.in-Close.is))

pub returns-in_default : goal.returns-in_default
returns-in_default g c = record {
  goes = λ told t F h stands terms r.
      let over = c.in-Ok.ensures.stands t F h stands in
      let gives = gave_job _ t over.0 h _ _ _ c.in-Ok-Some.field-0-is
      (c.in-Ok-Some.ensures.ok t over.0 h over.1) in
      let fits = c.run-done.ensures.fits t (Started c.in-Ok-Some.job.event ∷ past_of h) gives.1 in
      let settles = c.settle.ensures.stands t over.0 (h ++ Started c.in-Ok-Some.job.event ∷ [])
      gives.0 (fits_behind _ t h c.in-Ok-Some.job.event _ fits) in
      goes_on _ _ _ _ t _ over.0 h _ (λ close.
      c.in_default.not-Close (c.answer-answer.ensures ∙ close))
      (turned _ _ _ _ t over.0 h r c.in-Ok-Some.job c.run-done.result _ _ _ gives.0 gives.1 fits
      c.run-done.ensures.same settles c.run-done.result.turn.answer refl);
  closes = λ lost told. not_some told;
  err = tt;
  volumes = ap (λ v. (g.V.Volumes.facts v).faults)
      (c.settle.ensures.rest.volumes ∙ c.in-Ok-Some.ensures.rest.volumes) ∙ c.in-Ok.ensures.volumes;
  broken = λ told. not_err told;
  whole = sym c.is_broken.ensures.told ∙ c.if-is_broken.false;
  later = omega (
    arith,
    ap whole_of c.in-Ok.ensures.watch,
    c.in-Ok-Some.ensures.rest.watch.whole_later,
    c.settle.ensures.rest.watch.whole_later,
  );
}
  where
    not_some : {A E P : Type 0} {a : A} → ◌≡◌ {A = Result (Option A) E} (Ok None) (Ok (Some a)) → P
    not_some q = cc

    not_err : {A E P : Type 0} {e : E} → ◌≡◌ {A = Result (Option A) E} (Ok None) (Err e) → P
    not_err q = cc
