-- The moment at which a connection was last heard, by its turns and by the journal.
use Rattle.std.proofs.Common.{ℕ, ◌≡◌, ◌∙◌, ◌≤◌, ◌&&◌, Bool, true, false, cond, nat_lt, List, []}
use Rattle.std.proofs.Common.{◌∷◌, ◌++◌, length, refl, sym, ap, subst, Option, Some, None, ⊎_elim}
use Rattle.std.proofs.Common.{inl, inr, append-nil, append_assoc}
use Rattle.std.proofs.lemmas.Bool.{false≢true, cases_Bool, eq-eqb, lt-ltb}
use Rattle.laws_script_complete.specs.ev_types.specs.declared.upcall.Answer.{Answer}
use Rattle.laws_script_complete.specs.ev_types.specs.declared.upcall.Upcall.{Upcall}
use Rattle.laws_script_complete.specs.ev_types.specs.declared.upcall.Upcall.TheVariants.{Input}
use Rattle.laws_script_complete.specs.ev_types.specs.declared.upcall.Upcall.TheVariants.{Output}
use Rattle.laws_script_complete.specs.ev_types.specs.declared.upcall.Upcall.TheVariants.{Except}
use Rattle.laws_script_complete.specs.ev_types.specs.declared.upcall.Upcall.TheVariants.{Timeout}
use Rattle.laws_script_complete.specs.ev_types.specs.declared.upcall.Upcall.TheVariants.{Notice}
use Rattle.laws_script_complete.specs.ev_base.specs.Story.{Telling}
use Rattle.laws_script_complete.specs.ev_base.specs.declared.source.Got.{Got}
use Rattle.laws_script_complete.specs.ev_base.specs.declared.source.Got.TheVariants
    as got
use Rattle.laws_script_complete.specs.reactor_journal.specs.Event.{Item}
use Rattle.laws_script_complete.specs.reactor_journal.specs.declared.entry.Entry.{Entry}
use Rattle.laws_script_complete.specs.reactor_journal.specs.declared.entry.Entry.TheVariants.{
  Returned,
}
use Rattle.laws_script_complete.specs.reactor_journal.specs.Past.{was_opened}
use Rattle.laws_script_complete.specs.reactor_journal.specs.Past.{was_closed}
use Rattle.laws_script_complete.specs.reactor_journal.specs.Past.{started_at}
use Rattle.laws_script_complete.specs.reactor_journal.specs.Follow.{is_legal}
use Rattle.laws_script_complete.specs.log_handler.specs.declared.note.ServerNote.{ServerNote}
use Rattle.laws_script_complete.specs.log_handler.specs.declared.note.ServerNote.TheVariants
    as note
use Rattle.laws_script_complete.specs.log_handler.specs.Connection.{Progress}
use Rattle.laws_script_complete.specs.log_handler.specs.Connection.{Course}
use Rattle.laws_script_complete.specs.log_handler.specs.Connection.{ServesUpcall}
use Rattle.laws_script_complete.specs.log_handler.specs.Connection.{ServesRead}
use Rattle.laws_script_complete.specs.log_handler.specs.Connection.{AnswersTimeout}
use Rattle.laws_script_complete.specs.log_handler.specs.Connection.{TakesPiece}
use Rattle.laws_script_complete.specs.log_handler.specs.Connection.{is_idle}
use Rattle.laws_script_complete.specs.log_handler.specs.Laws.{took_in}
use Rattle.laws_script_complete.specs.log_handler.specs.Laws.{took_of}
use Rattle.laws_script_complete.specs.event_script.specs.Script.{ScriptStep}
use Rattle.laws_script_complete.specs.laws_script_runs.specs.Connections.{AreLeft, is_note_of}
use Rattle.laws_script_complete.specs.laws_script_runs.specs.Steps.{EachStep}
use Rattle.laws_script_complete.specs.laws_script_runs.proofs.Handles.{IsBegun}
use Rattle.laws_script_taken.specs.Taken.{accepts_connection, heard_after, last_heard}
use Rattle.laws_script_taken.proofs.Notes as noting
use Rattle.laws_script_taken.proofs.Notes.{Owns, had_of, had_more, made_of}
use Rattle.laws_script_taken.proofs.Offers as offering
use Rattle.laws_script_taken.proofs.Offers.{accept_turn}

-- ---- by its turns

abbrev pub heard_by : Item ServerNote → ℕ → ℕ
heard_by item before = cond (nat_lt 0 (took_in item)) item.moment before

abbrev pub heard : ℕ → List (Item ServerNote) → ℕ
heard before [] = before
heard before (item ∷ items) = heard (heard_by item before) items

pub heard_last : (before : ℕ) (items : List (Item ServerNote)) (item : Item ServerNote)
    → heard before (items ++ item ∷ []) ≡ heard_by item (heard before items)
heard_last before [] item = refl
heard_last before (first ∷ items) item = heard_last (heard_by first before) items item

took_some : (item : Item ServerNote) (before n : ℕ) → took_in item ≡ n → 1 ≤ n
    → heard_by item before ≡ item.moment
took_some item before n e h = ap (λ (b : Bool). cond b item.moment before)
    (ap (λ (k : ℕ). nat_lt 0 k) e ∙ lt-ltb 0 n h)

took_none : (item : Item ServerNote) (conn before : ℕ) → item.note ≡ note.Piece conn 0 []
    → heard_by item before ≡ before
took_none item conn before e = ap (λ (s : ServerNote).
    cond (nat_lt 0 (took_of s)) item.moment before) e

piece_note : (conn : ℕ) (before : Progress) (bytes : List ℕ) (telling : Option Telling)
    (item : Item ServerNote) (after : Progress) → TakesPiece conn before bytes telling item after
    → took_in item ≡ length bytes
piece_note conn before bytes telling item after h =
    elim h.told [ inl d ↦ ap took_of d.notes | inr l ↦ ap took_of l.notes ]

heard_read : (conn : ℕ) (gave : Got) (bytes : List ℕ) (telling : Option Telling)
    (before after : Progress) (item : Item ServerNote)
    → ServesRead conn before gave bytes telling item after → after.last ≡ heard_by item before.last
heard_read conn (got.Bytes n) bytes telling before after item h =
    ap (λ (p : Progress). p.last) h.1.leaves
    ∙ sym (took_some item before.last (length bytes)
    (piece_note conn before bytes telling item after h.1) h.1.some)
heard_read conn got.Pause bytes telling before after item h =
    ap (λ (p : Progress). p.last) h.leaves ∙ sym (took_none item conn before.last h.notes)
heard_read conn got.Over bytes telling before after item h =
    ap (λ (p : Progress). p.last) h.leaves ∙ sym (took_none item conn before.last h.notes)
heard_read conn got.Failed bytes telling before after item h =
    ap (λ (p : Progress). p.last) h.leaves ∙ sym (took_none item conn before.last h.notes)

heard_timeout : (b : Bool) (conn : ℕ) (before after : Progress) (item : Item ServerNote)
    → AnswersTimeout b conn before item after → after.last ≡ heard_by item before.last
heard_timeout true conn before after item h =
    ap (λ (p : Progress). p.last) h.leaves ∙ sym (took_none item conn before.last h.notes)
heard_timeout false conn before after item h =
    ap (λ (p : Progress). p.last) h.leaves ∙ sym (took_none item conn before.last h.notes)

heard_upcall : (up : Upcall) (conn : ℕ) (idle : Option ℕ) (before after : Progress)
    (item : Item ServerNote) → ServesUpcall up conn idle before item after
    → after.last ≡ heard_by item before.last
heard_upcall Input conn idle before after item h =
    heard_read conn h.gave h.bytes after.telling before after item h.serves
heard_upcall (Timeout timer) conn idle before after item h =
    heard_timeout (is_idle idle before.last item.moment) conn before after item h
heard_upcall Output conn idle before after item h =
    ap (λ (p : Progress). p.last) h.leaves ∙ sym (took_none item conn before.last h.notes)
heard_upcall Except conn idle before after item h =
    ap (λ (p : Progress). p.last) h.leaves ∙ sym (took_none item conn before.last h.notes)
heard_upcall (Notice kind) conn idle before after item h =
    ap (λ (p : Progress). p.last) h.leaves ∙ sym (took_none item conn before.last h.notes)

pub course_heard : (conn : ℕ) (idle : Option ℕ) (start p : Progress) (had : List (Item ServerNote))
    → Course conn idle start had p → p.last ≡ heard start.last had
course_heard conn idle start p [] course = ap (λ (q : Progress). q.last) course
course_heard conn idle start p (item ∷ had) course =
    course_heard conn idle course.0 p had course.2
    ∙ ap (λ (n : ℕ). heard n had) (heard_upcall item.upcall conn idle start course.0 item
    course.1.serves)

-- ---- by the journal

own_note : (c : ℕ) (said : ServerNote) (moment before : ℕ) → is_note_of c said ≡ true
    → heard_after c said moment before ≡ cond (nat_lt 0 (took_of said)) moment before
own_note c (note.Piece conn took records) moment before h =
    ap (λ (b : Bool). cond (b && nat_lt 0 took) moment before) h
own_note c (note.Finished conn end) moment before h = refl
own_note c (note.Accepted conn) moment before h = absurd (false≢true h)
own_note c note.NoneWaiting moment before h = absurd (false≢true h)
own_note c note.ListenerFailed moment before h = absurd (false≢true h)
own_note c note.ListenerShut moment before h = absurd (false≢true h)

other_note : (c event : ℕ) (answer : Answer) (said : ServerNote) (moment before : ℕ)
    → is_note_of c said ≡ false → accepts_connection c (Returned event answer said) ≡ false
    → heard_after c said moment before ≡ before
other_note c event answer (note.Piece conn took records) moment before h a =
    ap (λ (b : Bool). cond (b && nat_lt 0 took) moment before) h
other_note c event answer (note.Finished conn end) moment before h a = refl
other_note c event answer (note.Accepted conn) moment before h a =
    ap (λ (b : Bool). cond b moment before) a
other_note c event answer note.NoneWaiting moment before h a = refl
other_note c event answer note.ListenerFailed moment before h a = refl
other_note c event answer note.ListenerShut moment before h a = refl

-- an entry that is no turn adds none, and is not heard
by_kind : {R : Type 0} (c : ℕ) (o : Option ℕ) (e : Entry ServerNote) (p : List (Entry ServerNote))
    → ((event : ℕ) (answer : Answer) (said : ServerNote) → e ≡ Returned event answer said → R)
    → ((last_heard c (e ∷ p) ≡ last_heard c p) × (made_of o p e ≡ []) → R) → R
by_kind c None (Returned event answer said) p turn plain = turn event answer said refl
by_kind c None _ p turn plain = plain (refl, refl)
by_kind c (Some x) (Returned event answer said) p turn plain = turn event answer said refl
by_kind c (Some x) _ p turn plain = plain (refl, refl)

module _ (most : ℕ) (steps : List ScriptStep) (idle : Option ℕ) (all : List (Entry ServerNote))
    (legal : is_legal most all ≡ true) (begun : EachStep IsBegun all)
    (left : AreLeft steps idle all)
    (closed : (x : ℕ) → was_opened all x ≡ true → was_closed all x ≡ true)
    (first_opened : was_opened all 0 ≡ true) (c : ℕ) (owner : Option ℕ)
    (owns : Owns most steps idle all legal begun left closed first_opened c owner)
    (event : ℕ) (answer : Answer) (past : List (Entry ServerNote))
    (none : had_of owner (Returned event answer (note.Accepted c) ∷ past) ≡ []) where
  abbrev turn : Entry ServerNote
  turn = Returned event answer (note.Accepted c)

  abbrev Hears : List (Entry ServerNote) → Type 0
  Hears p = last_heard c p ≡ heard (started_at past event) (had_of owner p)

  plain : (e : Entry ServerNote) (p : List (Entry ServerNote))
      → last_heard c (e ∷ p) ≡ last_heard c p → made_of owner p e ≡ [] → Hears p → Hears (e ∷ p)
  plain e p same made h = same ∙ h ∙ ap (heard (started_at past event))
      (sym (had_more owner e p ∙ ap (λ (l : List (Item ServerNote)). had_of owner p ++ l) made
      ∙ append-nil (had_of owner p)))

  returned : (later p : List (Entry ServerNote)) (event' : ℕ) (answer' : Answer) (said : ServerNote)
      → all ≡ later ++ Returned event' answer' said ∷ p
      → accepts_connection c (Returned event' answer' said) ≡ false → Hears p
      → Hears (Returned event' answer' said ∷ p)
  returned later p event' answer' said is other h =
      by (noting.made_by most steps idle all legal begun left closed first_opened c owner owns later
      p event' answer' said is)
    where
      by : noting.Made most steps idle all legal begun left closed first_opened c owner owns event'
          answer' said p → Hears (Returned event' answer' said ∷ p)
      by (noting.of_another made not_of) =
          plain (Returned event' answer' said) p
          (other_note c event' answer' said (started_at p event') (last_heard c p) not_of other)
          made h
      by (noting.its_own item made notes began mine) =
          own_note c said (started_at p event') (last_heard c p) mine
          ∙ ap (cond (nat_lt 0 (took_of said)) (started_at p event')) h
          ∙ ap (λ (m : ℕ). cond (nat_lt 0 (took_of said)) m
          (heard (started_at past event) (had_of owner p))) (sym began)
          ∙ ap (λ (s : ServerNote). cond (nat_lt 0 (took_of s)) item.moment
          (heard (started_at past event) (had_of owner p))) (sym notes)
          ∙ sym (heard_last (started_at past event) (had_of owner p) item)
          ∙ ap (heard (started_at past event))
          (sym (had_more owner (Returned event' answer' said) p
          ∙ ap (λ (l : List (Item ServerNote)). had_of owner p ++ l) made))

  one_entry : (later : List (Entry ServerNote)) (e : Entry ServerNote) (p : List (Entry ServerNote))
      → all ≡ later ++ e ∷ p → accepts_connection c e ≡ false → Hears p → Hears (e ∷ p)
  one_entry later e p is other h = by_kind c owner e p
      (λ event' answer' said same. subst (λ (f : Entry ServerNote). Hears (f ∷ p)) (sym same)
      (returned later p event' answer' said
      (is ∙ ap (λ (f : Entry ServerNote). later ++ f ∷ p) same)
      (sym (ap (accepts_connection c) same) ∙ other) h))
      (λ q. plain e p q.0 q.1 h)

  none_accepts : (later k : List (Entry ServerNote)) (e : Entry ServerNote)
      → all ≡ later ++ e ∷ (k ++ turn ∷ past) → accepts_connection c e ≡ false
  none_accepts later k e is = ⊎_elim
      (λ (y : accepts_connection c e ≡ true).
      let t = accept_turn c e y in
      absurd (offering.not_again most steps idle all legal begun left closed first_opened c e turn
      (k ++ turn ∷ past) past k
      (record { event = t.event; answer = t.answer; later = later; it = t.is; is = is })
      (record {
        event = event;
        answer = answer;
        later = later ++ e ∷ k;
        it = refl;
        is = is ∙ sym (append_assoc later (e ∷ k) (turn ∷ past));
      }) refl))
      (λ (n : accepts_connection c e ≡ false). n) (cases_Bool (accepts_connection c e))

  -- after its acceptance both say the same
  pub hears : (later k : List (Entry ServerNote)) → all ≡ later ++ (k ++ turn ∷ past)
      → Hears (k ++ turn ∷ past)
  hears later [] is = ap (λ (b : Bool). cond b (started_at past event) (last_heard c past))
      (eq-eqb c c refl) ∙ ap (heard (started_at past event)) (sym none)
  hears later (e ∷ k) is =
      one_entry later e (k ++ turn ∷ past) is (none_accepts later k e is)
      (hears (later ++ e ∷ []) k (is ∙ sym (append_assoc later (e ∷ []) (k ++ turn ∷ past))))
