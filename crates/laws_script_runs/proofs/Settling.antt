-- The turn that an entry settles, among all the turns of its handler.
use Rattle.std.proofs.Common.{ℕ, ◌≡◌, ◌≢◌, ◌<◌, Bool, true, false, cond, ◌||◌, List, [], ◌∷◌, ◌++◌}
use Rattle.std.proofs.Common.{refl, sym, ap, ◌∙◌, subst, arith, Option, Some, None, is_some, ⊎_elim}
use Rattle.std.proofs.lemmas.Bool.{false≢true, and_parts, cases_Bool, eqb-true, eq-eqb, ne_eqb}
use Rattle.reactor_model.specs.ev_types.specs.declared.upcall.Handle.{Handle}
use Rattle.reactor_model.specs.ev_types.specs.declared.upcall.Answer.{Answer}
use Rattle.reactor_model.specs.reactor_journal.specs.Event.{Event, Item, Origin}
use Rattle.reactor_model.specs.reactor_journal.specs.declared.entry.Entry.{Entry}
use Rattle.reactor_model.specs.reactor_journal.specs.declared.entry.Entry.TheVariants.{Opened}
use Rattle.reactor_model.specs.reactor_journal.specs.declared.entry.Entry.TheVariants.{Returned}
use Rattle.reactor_model.specs.reactor_journal.specs.declared.entry.Entry.TheVariants.{Closed}
use Rattle.reactor_model.specs.reactor_journal.specs.Past.{had, items_made, item_of, origin_of}
use Rattle.reactor_model.specs.reactor_journal.specs.Past.{offered_here, opens, was_opened}
use Rattle.reactor_model.specs.reactor_journal.specs.Past.{event_at, belongs_to, is_open, opened}
use Rattle.reactor_model.specs.reactor_journal.specs.Past.{started_at}
use Rattle.reactor_model.specs.reactor_journal.specs.Follow.{may_follow, is_legal}
use Rattle.reactor_model.specs.reactor_journal.proofs.Basics.{may_fits}
use Rattle.reactor_model.specs.reactor_journal.proofs.Alive.{opened_below}
use Rattle.reactor_model.specs.reactor_journal.proofs.Closing.{closing}
use Rattle.reactor_model.specs.reactor_journal.proofs.HadLaw.{returned_is_open}
use Rattle.reactor_model.specs.reactor_journal.proofs.Steps.{open_is_event}
use Rattle.reactor_model.specs.reactor_journal.proofs.Turning.{is_legal-front}
use Rattle.laws_turns.specs.reactor_summary.proofs.Opened.{open_opened}
use Rattle.laws_script_told.specs.log_handler.specs.declared.note.ServerNote.{ServerNote}
use Rattle.laws_script_runs.specs.Runs.{note_settled}
use Rattle.laws_script_runs.specs.Steps.{EachStep}
use Rattle.laws_script_runs.proofs.Handles.{had_grows}

pub each_front : (P : List (Entry ServerNote) → Entry ServerNote → Type 0)
    (later past : List (Entry ServerNote)) → EachStep P (later ++ past) → EachStep P past
each_front P [] past h = h
each_front P (e ∷ later) past h = each_front P later past h.1

pub opened_later : (later past : List (Entry ServerNote)) (x : ℕ) → was_opened past x ≡ true
    → was_opened (later ++ past) x ≡ true
opened_later [] past x o = o
opened_later (e ∷ later) past x o =
    or_right (opens x e) (was_opened (later ++ past) x) (opened_later later past x o)
  where
    or_right : (b c : Bool) → c ≡ true → (b || c) ≡ true
    or_right true c h = refl
    or_right false c h = h

opened_number : (most : ℕ) (e : Entry ServerNote) (past : List (Entry ServerNote)) (x : ℕ)
    → may_follow most past e ≡ true → opens x e ≡ true → x ≡ opened past
opened_number most (Opened handle mask) past x may o =
    sym (eqb-true handle.0 x o) ∙ eqb-true _ _
    (and_parts _ _ (may_fits most past (Opened handle mask) may)).0
opened_number most _ past x may o = absurd (false≢true o)

-- an origin stays what it is
pub origin_still : (most : ℕ) (later past : List (Entry ServerNote)) (x : ℕ)
    → is_legal most (later ++ past) ≡ true → was_opened past x ≡ true
    → origin_of (later ++ past) x ≡ origin_of past x
origin_still most [] past x legal o = refl
origin_still most (e ∷ later) past x legal o =
    let parts = and_parts (may_follow most (later ++ past) e) (is_legal most (later ++ past)) legal
    in
    let other : opens x e ≡ false = ⊎_elim
    (λ (t : opens x e ≡ true). absurd (not_itself
    (opened_below most (later ++ past) x parts.1 (opened_later later past x o))
    (opened_number most e (later ++ past) x parts.0 t)))
    (λ (f : opens x e ≡ false). f) (cases_Bool (opens x e)) in
    step e (later ++ past) other ∙ origin_still most later past x parts.1 o
  where
    not_itself : x < opened (later ++ past) → x ≡ opened (later ++ past) → ⊥
    not_itself l e = omega arith

    step : (e : Entry ServerNote) (past : List (Entry ServerNote)) → opens x e ≡ false
        → origin_of (e ∷ past) x ≡ origin_of past x
    step e past o = rw (o, origin_of) refl

-- what a turn notes that offers a handler
pub offered_note : (past : List (Entry ServerNote)) (o : Origin ServerNote)
    → offered_here past ≡ Some o → note_settled past ≡ Some o.note
offered_note [] o h = absurd (none h)
  where
    none : ◌≡◌ {A = Option (Origin ServerNote)} None (Some o) → ⊥
    none q = cc
offered_note (Returned event answer said ∷ past) o h = same h
  where
    same : Some (record { note = said; moment = started_at past event }) ≡ Some o
        → Some said ≡ Some o.note
    same q = ap (λ (x : Option (Origin ServerNote)).
        elim x [ None ↦ Some said | Some y ↦ Some y.note ]) q
offered_note (Closed handle other ∷ (Returned event answer said ∷ past)) o h = same h
  where
    same : Some (record { note = said; moment = started_at past event }) ≡ Some o
        → Some said ≡ Some o.note
    same q = ap (λ (x : Option (Origin ServerNote)).
        elim x [ None ↦ Some said | Some y ↦ Some y.note ]) q
offered_note (Closed handle other ∷ []) o h = absurd (none h)
  where
    none : ◌≡◌ {A = Option (Origin ServerNote)} None (Some o) → ⊥
    none q = cc
offered_note (Closed handle other ∷ (_ ∷ past)) o h = absurd (none h)
  where
    none : ◌≡◌ {A = Option (Origin ServerNote)} None (Some o) → ⊥
    none q = cc
offered_note (_ ∷ past) o h = absurd (none h)
  where
    none : ◌≡◌ {A = Option (Origin ServerNote)} None (Some o) → ⊥
    none q = cc

-- a handler that was closed was opened before
pub opened_before_closed : (most : ℕ) (later past : List (Entry ServerNote)) (handle : Handle)
    (said : ServerNote) (x : ℕ) → is_legal most (later ++ Closed handle said ∷ past) ≡ true
    → handle.0 ≡ x → was_opened past x ≡ true
opened_before_closed most later past handle said x legal mine =
    let here = is_legal-front most later (Closed handle said ∷ past) legal in
    let w = closing past handle.0 (may_fits most past (Closed handle said)
    (and_parts (may_follow most past (Closed handle said)) (is_legal most past) here).0) in
    subst (λ (y : ℕ). was_opened past y ≡ true) mine w.0

module _ (most : ℕ) (all : List (Entry ServerNote)) (legal : is_legal most all ≡ true) where
  -- the turn that an entry settles, among all turns of its handler
  pub record Turn (event : ℕ) (answer : Answer) (said : ServerNote) (past : List (Entry ServerNote))
      (x : ℕ) : Type 0 where
    pub item : Item ServerNote
    pub of : event_at past event ≡ Some (record { handle = x; upcall = item.upcall })
    pub began : item.moment ≡ started_at past event
    pub answers : item.answer ≡ answer
    pub notes : item.note ≡ said
    pub made : items_made past x (Returned event answer said) ≡ item ∷ []
    pub opened_now : was_opened past x ≡ true
    pub more : List (Item ServerNote)
    pub among : had all x ≡ (had past x ++ item ∷ []) ++ more
    pub others : (y : ℕ) → y ≢ x → items_made past y (Returned event answer said) ≡ []

  pub record TurnOf (event : ℕ) (answer : Answer) (said : ServerNote)
      (past : List (Entry ServerNote)) : Type 0 where
    pub x : ℕ
    pub turn : Turn event answer said past x

  pub turn_of : (later past : List (Entry ServerNote)) (event : ℕ) (answer : Answer)
      (said : ServerNote) → all ≡ later ++ Returned event answer said ∷ past
      → TurnOf event answer said past
  turn_of later past event answer said is =
      by_event (event_at past event) refl (open_is_event most past event before is_open_now)
    where
      e : Entry ServerNote
      e = Returned event answer said

      here : is_legal most (Returned event answer said ∷ past) ≡ true
      here = is_legal-front most later (Returned event answer said ∷ past)
          (sym (ap (is_legal most) is) ∙ legal)

      before : is_legal most past ≡ true
      before = (and_parts (may_follow most past (Returned event answer said)) (is_legal most past)
          here).1

      is_open_now : is_open past event ≡ true
      is_open_now = returned_is_open most past (Returned event answer said) event
          (and_parts (may_follow most past (Returned event answer said)) (is_legal most past)
          here).0 (eq-eqb event event refl)

      by_event : (ev : Option Event) → event_at past event ≡ ev
          → is_some (event_at past event) ≡ true → TurnOf event answer said past
      by_event None at some = absurd (false≢true (sym (ap is_some at) ∙ some))
      by_event (Some ev) at some =
          let mine : items_made past ev.handle (Returned event answer said)
          ≡ record {
            upcall = ev.upcall;
            moment = started_at past event;
            answer = answer;
            note = said;
          } ∷ [] =
          ap (λ (o : Option Event). item_of ev.handle o (started_at past event) answer said) at
          ∙ ap (λ (b : Bool). cond b (record {
            upcall = ev.upcall;
            moment = started_at past event;
            answer = answer;
            note = said;
          } ∷ []) [])
          (eq-eqb ev.handle ev.handle refl) in
          let grows = had_grows later (Returned event answer said ∷ past) ev.handle in
          record {
            x = ev.handle;
            turn = record {
              item = record {
                upcall = ev.upcall;
                moment = started_at past event;
                answer = answer;
                note = said;
              };
              of = at;
              began = refl;
              answers = refl;
              notes = refl;
              made = mine;
              opened_now = open_opened most past event ev.handle before is_open_now
                  (ap (belongs_to ev.handle) at ∙ eq-eqb ev.handle ev.handle refl);
              more = grows.more;
              among = ap (λ (p : List (Entry ServerNote)). had p ev.handle) is ∙ grows.is
                  ∙ ap (λ (items : List (Item ServerNote)). (had past ev.handle ++ items)
                  ++ grows.more) mine;
              others = λ y ne. ap (λ (o : Option Event).
                  item_of y o (started_at past event) answer said) at
                  ∙ ap (λ (b : Bool). cond b (record {
                    upcall = ev.upcall;
                    moment = started_at past event;
                    answer = answer;
                    note = said;
                  } ∷ []) [])
                  (ne_eqb ev.handle y (λ q. ne (sym q)));
            };
          }
