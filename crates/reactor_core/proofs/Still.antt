-- An upcall on its way while the reactor goes on. A past is a journal read backwards, with more
-- entries before it.
use Rattle.std.proofs.Common.{ℕ, ◌≡◌, ◌==◌, true, false, List, [], ◌∷◌, ◌++◌, refl, sym, ap, ◌∙◌}
use Rattle.std.proofs.Common.{subst, Option, Some, option_map, ⊎_elim}
use Rattle.std.proofs.lemmas.Bool.{false≢true, and_parts, or_right, both_ways, cases_Bool, eqb-true}
use Rattle.std.proofs.lemmas.Bool.{eq-eqb}
use Rattle.ev_base.specs.Terms.{Terms}
use Rattle.reactor_model.specs.reactor_journal.specs.Event.{Event}
use Rattle.reactor_model.specs.reactor_journal.specs.declared.entry.Entry.{Entry}
use Rattle.reactor_model.specs.reactor_journal.specs.declared.entry.Entry.TheVariants.{Opened}
use Rattle.reactor_model.specs.reactor_journal.specs.Past as P
use Rattle.reactor_model.specs.reactor_journal.specs.Past.{had, origin_of, offered_here, event_at}
use Rattle.reactor_model.specs.reactor_journal.specs.Past.{started_at, belongs_to}
use Rattle.reactor_model.specs.reactor_journal.specs.Follow.{is_legal, may_follow}
use Rattle.reactor_model.specs.reactor_journal.proofs.Basics.{may_fits, belongs_is_event}
use Rattle.reactor_model.specs.reactor_journal.proofs.HadLaw.{same_had, event_still, started_still}
use Rattle.reactor_summary.specs.declared.parts.OpenEvent.{OpenEvent}
use Rattle.reactor_summary.specs.Summary as S
use Rattle.reactor_summary.specs.Summary.{summary}
use Rattle.reactor_summary.specs.Tells as T
use Rattle.reactor_summary.proofs.Opened.{next_is_bare, open_opened}
use Rattle.reactor_summary.proofs.Told.{told}
use Rattle.reactor_model.specs.Handling.{Handling}
use Rattle.reactor_core.specs.Upcalls.{DoneFits}
use Rattle.reactor_core.specs.declared.job.Done.{Done}
use Rattle.reactor_core.proofs.Moves.{IsOpenAs, found_open}
use Rattle.reactor_model.specs.reactor_journal.proofs.OneOpen.{started_is_able}
use Rattle.reactor_model.specs.reactor_journal.proofs.Fates.{able_not_started}
use Rattle.reactor_model.specs.reactor_journal.proofs.Steps.{open_parts}
use Rattle.reactor_summary.proofs.Lists.{some_is}
use Rattle.reactor_summary.proofs.Opens.{Found, open_found}

-- an event that was started is not started again, so its moment stays
moment_step : {N : Type 0} (past : List (Entry N)) (e : Entry N) (i : ℕ) → P.starts i e ≡ false
    → started_at (e ∷ past) i ≡ started_at past i
moment_step past e i q = rw (q, P.started_at) refl

moment_still : {N : Type 0} (most : ℕ) (later past : List (Entry N)) (i : ℕ)
    → is_legal most (later ++ past) ≡ true → P.was_started past i ≡ true
    → started_at (later ++ past) i ≡ started_at past i
moment_still most [] past i legal started = refl
moment_still most (e ∷ later) past i legal started =
    let parts : (may_follow most (later ++ past) e ≡ true)
    × (is_legal most (later ++ past) ≡ true) = and_parts _ _ legal in
    let not_now : P.starts i e ≡ false =
    ⊎_elim
    (λ (s : P.starts i e ≡ true). absurd
    (both_ways (P.was_started (later ++ past) i)
    (able_not_started (later ++ past) i (started_is_able most (later ++ past) e i parts.0 s))
    (started_still later past i started)))
    (λ (s : P.starts i e ≡ false). s)
    (cases_Bool (P.starts i e))
    in
    moment_step (later ++ past) e i not_now ∙ moment_still most later past i parts.1 started

-- a handle that was opened is not opened again, so the origin of its handler stays
next_opened : {N : Type 0} (most : ℕ) (past : List (Entry N)) (e : Entry N) (x : ℕ)
    → may_follow most past e ≡ true → P.opens x e ≡ true → P.opened past ≡ x
next_opened most past (Opened handle mask) x may o =
    sym (eqb-true handle.0 (P.opened past)
    (and_parts (handle.0 == P.opened past) _ (may_fits most past (Opened handle mask) may)).0)
    ∙ eqb-true handle.0 x o
next_opened most past _ x may o = absurd (false≢true o)

opened_still : {N : Type 0} (later past : List (Entry N)) (x : ℕ) → P.was_opened past x ≡ true
    → P.was_opened (later ++ past) x ≡ true
opened_still [] past x o = o
opened_still (e ∷ later) past x o =
    or_right (P.opens x e) (P.was_opened (later ++ past) x) (opened_still later past x o)

origin_step : {N : Type 0} (past : List (Entry N)) (e : Entry N) (x : ℕ) → P.opens x e ≡ false
    → origin_of (e ∷ past) x ≡ origin_of past x
origin_step past e x q = rw (q, origin_of) refl

origin_still : {N : Type 0} (most : ℕ) (later past : List (Entry N)) (x : ℕ)
    → is_legal most (later ++ past) ≡ true → P.was_opened past x ≡ true
    → origin_of (later ++ past) x ≡ origin_of past x
origin_still most [] past x legal o = refl
origin_still most (e ∷ later) past x legal o =
    let parts : (may_follow most (later ++ past) e ≡ true)
    × (is_legal most (later ++ past) ≡ true) = and_parts _ _ legal in
    let not_now : P.opens x e ≡ false =
    ⊎_elim
    (λ (s : P.opens x e ≡ true). absurd
    (both_ways (P.was_opened (later ++ past) x)
    (next_is_bare most (later ++ past) x parts.1
    (next_opened most (later ++ past) e x parts.0 s)).opened (opened_still later past x o)))
    (λ (s : P.opens x e ≡ false). s)
    (cases_Bool (P.opens x e))
    in
    origin_step (later ++ past) e x not_now ∙ origin_still most later past x parts.1 o

legal_before : {N : Type 0} (most : ℕ) (later past : List (Entry N))
    → is_legal most (later ++ past) ≡ true → is_legal most past ≡ true
legal_before most [] past legal = legal
legal_before most (e ∷ later) past legal =
    legal_before most later past (and_parts (may_follow most (later ++ past) e)
    (is_legal most (later ++ past)) legal).1

-- an open event that is open still is open as it was
open_as_before : {N : Type 0} (most : ℕ) (later past : List (Entry N)) (o : OpenEvent)
    → is_legal most (later ++ past) ≡ true → S.open_event (summary past) o.event ≡ Some o
    → P.is_open (later ++ past) o.event ≡ true
    → S.open_event (summary (later ++ past)) o.event ≡ Some o
open_as_before {N} most later past o legal found still =
    let now : List (Entry N) = later ++ past in
    let was : IsOpenAs past o × (o.event ≡ o.event) =
    found_open most past o.event o (legal_before most later past legal) found in
    let mine : belongs_to o.handle.0 (event_at past o.event) ≡ true =
    ap (belongs_to o.handle.0) was.0.event ∙ eq-eqb o.handle.0 o.handle.0 refl in
    let at : ◌≡◌ {A = Option Event} (event_at now o.event)
    (Some (record { handle = o.handle.0; upcall = o.upcall })) =
    event_still later past o.event (belongs_is_event past o.event o.handle.0 mine)
    ∙ was.0.event in
    let moment : started_at now o.event ≡ o.moment =
    moment_still most later past o.event legal (open_parts past o.event was.0.is_open).0
    ∙ was.0.moment in
    let f : Found now (summary now) o.event =
    open_found now (summary now) o.event (told most now legal) still in
    let is : f.item ≡ T.as_open now o.event (record { handle = o.handle.0; upcall = o.upcall }) =
    some_is _ _ (sym f.is ∙ ap (option_map (T.as_open now o.event)) at) in
    f.found ∙ ap (λ (a : OpenEvent). Some a) is
    ∙ ap (λ (k : ℕ). Some (record {
      event = o.event;
      handle = o.handle;
      upcall = o.upcall;
      moment = k;
    })) moment

-- so an upcall that fitted the journal fits it still
pub fits_still : {H E N : Type 0} (means : Handling H E N) (t : Terms) (later past : List (Entry N))
    (done : Done H N E) → is_legal t.most (later ++ past) ≡ true → DoneFits means t past done
    → P.is_open (later ++ past) done.event ≡ true
    → DoneFits means t (later ++ past) done
fits_still means t later past done legal d still =
    let o : OpenEvent = record {
      event = done.event;
      handle = done.handle;
      upcall = done.upcall;
      moment = done.now;
    } in
    let before : is_legal t.most past ≡ true = legal_before t.most later past legal in
    let was : IsOpenAs past o × (done.event ≡ done.event) =
    found_open t.most past done.event o before d.event in
    let mine : belongs_to done.handle.0 (event_at past done.event) ≡ true =
    ap (belongs_to done.handle.0) was.0.event ∙ eq-eqb done.handle.0 done.handle.0 refl in
    let opened : P.was_opened past done.handle.0 ≡ true =
    open_opened t.most past done.event done.handle.0 before was.0.is_open mine in
    record {
      event = open_as_before t.most later past o legal d.event still;
      fits = subst (λ origin. means.fits t origin done.handler
          (had (later ++ past) done.handle.0
          ++ record {
            upcall = done.upcall;
            moment = done.now;
            answer = done.turn.answer;
            note = done.turn.note;
          } ∷ [])) (sym (origin_still t.most later past done.handle.0 legal opened))
          (subst (λ items. means.fits t (origin_of past done.handle.0) done.handler
          (items ++ record {
            upcall = done.upcall;
            moment = done.now;
            answer = done.turn.answer;
            note = done.turn.note;
          } ∷ []))
          (sym (same_had t.most later past done.event done.handle.0 legal was.0.is_open mine
          still)) d.fits);
      act = d.act;
      promises = d.promises;
    }
