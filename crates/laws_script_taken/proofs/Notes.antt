-- The notes of the turns of a connection in a journal.
use Rattle.std.proofs.Common.{ℕ, zero, suc, ◌≡◌, ◌≢◌, ◌==◌, ◌∙◌, ◌+◌, ◌≤◌, Bool, true, false, cond}
use Rattle.std.proofs.Common.{◌||◌, List, [], ◌∷◌, ◌++◌, length, map, reverse, refl, sym, ap, subst}
use Rattle.std.proofs.Common.{arith, Option, Some, None, ⊎_elim, append-nil, append_assoc}
use Rattle.std.proofs.Common.{length-append}
use Rattle.std.specs.Prelude.{flat_map}
use Rattle.std.specs.List.{sum_by, list_any}
use Rattle.std.proofs.lemmas.Bool.{false≢true, cases_Bool, eqb-true, eq-eqb}
use Rattle.std.proofs.lemmas.Grind.{flat_map-append}
use Rattle.std.proofs.lemmas.List.{reverse-append, reverse-reverse}
use Rattle.std.proofs.lemmas.List.Sums.{sum_by-cons, sum_by-append}
use Rattle.laws_script_complete.specs.ev_types.specs.declared.upcall.Answer.{Answer}
use Rattle.laws_script_complete.specs.reactor_journal.specs.Event.{Item}
use Rattle.laws_script_complete.specs.reactor_journal.specs.declared.entry.Entry.{Entry}
use Rattle.laws_script_complete.specs.reactor_journal.specs.declared.entry.Entry.TheVariants.{
  Returned,
}
use Rattle.laws_script_complete.specs.reactor_journal.specs.Past.{had}
use Rattle.laws_script_complete.specs.reactor_journal.specs.Past.{items_made}
use Rattle.laws_script_complete.specs.reactor_journal.specs.Past.{was_opened}
use Rattle.laws_script_complete.specs.reactor_journal.specs.Past.{was_closed}
use Rattle.laws_script_complete.specs.reactor_journal.specs.Past.{started_at}
use Rattle.laws_script_complete.specs.reactor_journal.specs.Follow.{is_legal}
use Rattle.laws_script_complete.specs.cdr_record.specs.declared.record.LogRecord.{LogRecord}
use Rattle.laws_script_complete.specs.log_handler.specs.declared.note.ServerNote.{ServerNote}
use Rattle.laws_script_complete.specs.log_handler.specs.Laws.{took_of}
use Rattle.laws_script_complete.specs.log_handler.specs.Laws.{took_in}
use Rattle.laws_script_complete.specs.log_handler.specs.Laws.{records_of_note}
use Rattle.laws_script_complete.specs.log_handler.specs.Laws.{records_in}
use Rattle.laws_script_complete.specs.event_script.specs.Script.{ScriptStep}
use Rattle.laws_script_complete.specs.Complete.{took_for}
use Rattle.laws_script_complete.specs.laws_script_runs.specs.Connections.{AreLeft, is_note_of}
use Rattle.laws_script_complete.specs.laws_script_runs.specs.Steps.{EachStep}
use Rattle.laws_script_complete.specs.laws_script_runs.proofs.Handles.{IsBegun, had_grows}
use Rattle.laws_script_complete.specs.laws_script_runs.proofs.Notes.{course_listens, is_listening}
use Rattle.laws_script_complete.specs.laws_script_runs.proofs.Notes.{of_none}
use Rattle.laws_script_complete.specs.laws_script_runs.proofs.Settling as settling
use Rattle.laws_script_complete.specs.laws_script_runs.proofs.Turns as turns
use Rattle.laws_script_taken.specs.Taken.{is_turn_of, took, noted, records_for}
use Rattle.laws_script_taken.proofs.Places.{same_rest}

-- ---- the notes of a connection, in order

abbrev pub notes_in : ℕ → Entry ServerNote → List ServerNote
notes_in c (Returned event answer said) = cond (is_note_of c said) (said ∷ []) []
notes_in c _ = []

abbrev pub notes : ℕ → List (Entry ServerNote) → List ServerNote
notes c entries = flat_map (notes_in c) entries

-- read backwards
abbrev pub back : ℕ → List (Entry ServerNote) → List ServerNote
back c [] = []
back c (e ∷ past) = back c past ++ notes_in c e

notes_reverse : (c : ℕ) (past : List (Entry ServerNote)) → notes c (reverse past) ≡ back c past
notes_reverse c [] = refl
notes_reverse c (e ∷ past) =
    ap (notes c) (reverse-append (e ∷ []) past)
    ∙ flat_map-append (notes_in c) (reverse past) (e ∷ [])
    ∙ ap (λ (l : List ServerNote). notes c (reverse past) ++ l) (append-nil (notes_in c e))
    ∙ ap (λ (l : List ServerNote). l ++ notes_in c e) (notes_reverse c past)

pub notes_back : (c : ℕ) (entries : List (Entry ServerNote))
    → notes c entries ≡ back c (reverse entries)
notes_back c entries = ap (notes c) (sym (reverse-reverse entries))
    ∙ notes_reverse c (reverse entries)

-- ---- sums

took_one : (c : ℕ) (e : Entry ServerNote) → took_for c e ≡ sum_by took_of (notes_in c e)
took_one c (Returned event answer said) = by (is_note_of c said)
  where
    plus_none : (n : ℕ) → n ≡ n + 0
    plus_none n = omega arith

    by : (b : Bool) → cond b (took_of said) 0 ≡ sum_by took_of (cond b (said ∷ []) [])
    by true = plus_none (took_of said) ∙ sym (sum_by-cons took_of said [])
    by false = refl
took_one c _ = refl

pub took_notes : (c : ℕ) (entries : List (Entry ServerNote))
    → took c entries ≡ sum_by took_of (notes c entries)
took_notes c [] = refl
took_notes c (e ∷ entries) =
    let one = took_one c e in
    let rest : sum_by (took_for c) entries ≡ sum_by took_of (notes c entries) =
    took_notes c entries in
    let sum : sum_by (took_for c) (e ∷ entries) ≡ took_for c e + sum_by (took_for c) entries =
    sum_by-cons (took_for c) e entries in
    let parts : sum_by took_of (notes_in c e ++ notes c entries)
    ≡ sum_by took_of (notes_in c e) + sum_by took_of (notes c entries) =
    sum_by-append took_of (notes_in c e) (notes c entries) in
    omega (arith, one, rest, sum, parts)

records_one : (c : ℕ) (e : Entry ServerNote)
    → records_for c e ≡ flat_map records_of_note (notes_in c e)
records_one c (Returned event answer said) = by (is_note_of c said)
  where
    by : (b : Bool) → cond b (records_of_note said) []
        ≡ flat_map records_of_note (cond b (said ∷ []) [])
    by true = sym (append-nil (records_of_note said))
    by false = refl
records_one c _ = refl

pub noted_notes : (c : ℕ) (entries : List (Entry ServerNote))
    → noted c entries ≡ flat_map records_of_note (notes c entries)
noted_notes c [] = refl
noted_notes c (e ∷ entries) =
    ap (λ (l : List LogRecord). l ++ noted c entries) (records_one c e)
    ∙ ap (λ (l : List LogRecord). flat_map records_of_note (notes_in c e) ++ l)
    (noted_notes c entries)
    ∙ sym (flat_map-append records_of_note (notes_in c e) (notes c entries))

abbrev pub notes_of : List (Item ServerNote) → List ServerNote
notes_of items = map (λ item. item.note) items

pub took_items : (items : List (Item ServerNote))
    → sum_by took_of (notes_of items) ≡ sum_by took_in items
took_items [] = refl
took_items (item ∷ items) = sum_by-cons took_of item.note (notes_of items)
    ∙ ap (λ (n : ℕ). took_of item.note + n) (took_items items)
    ∙ sym (sum_by-cons took_in item items)

pub noted_items : (items : List (Item ServerNote))
    → flat_map records_of_note (notes_of items) ≡ flat_map records_in items
noted_items [] = refl
noted_items (item ∷ items) = ap (λ (l : List LogRecord). records_of_note item.note ++ l)
    (noted_items items)

-- ---- turns

some_one : (c : ℕ) (e : Entry ServerNote) → is_turn_of c e ≡ true → 1 ≤ length (notes_in c e)
some_one c (Returned event answer said) h =
    subst (λ (b : Bool). 1 ≤ length (cond b (said ∷ []) [])) (sym h) (omega arith)
some_one c _ h = absurd (false≢true h)

pub some_notes : (c : ℕ) (entries : List (Entry ServerNote))
    → list_any (is_turn_of c) entries ≡ true → 1 ≤ length (notes c entries)
some_notes c [] h = absurd (false≢true h)
some_notes c (e ∷ entries) h = ⊎_elim
    (λ (t : is_turn_of c e ≡ true). let one = some_one c e t in let parts =
    length-append (notes_in c e) (notes c entries) in omega (arith, one, parts))
    (λ (f : is_turn_of c e ≡ false). let more =
    some_notes c entries (sym (ap (λ (b : Bool). b || list_any (is_turn_of c) entries) f) ∙ h)
    in let parts = length-append (notes_in c e) (notes c entries) in omega (arith, more, parts))
    (cases_Bool (is_turn_of c e))

-- the last of them
pub record LastNote (c : ℕ) (past : List (Entry ServerNote)) (before_it : List ServerNote)
    (said : ServerNote) : Type 0 where
  pub later : List (Entry ServerNote)
  pub event : ℕ
  pub answer : Answer
  pub before : List (Entry ServerNote)
  pub is : past ≡ later ++ Returned event answer said ∷ before
  pub none : list_any (is_turn_of c) later ≡ false
  pub mine : is_note_of c said ≡ true
  pub rest : back c before ≡ before_it

none_one : (c : ℕ) (e : Entry ServerNote) → is_turn_of c e ≡ false → notes_in c e ≡ []
none_one c (Returned event answer said) h = ap (λ (b : Bool). cond b (said ∷ []) []) h
none_one c _ h = refl

turn_here : (c : ℕ) (e : Entry ServerNote) (past : List (Entry ServerNote)) (ns : List ServerNote)
    (said : ServerNote) → is_turn_of c e ≡ true → back c (e ∷ past) ≡ ns ++ said ∷ []
    → LastNote c (e ∷ past) ns said
turn_here c (Returned event answer other) past ns said h is =
    let cut = same_rest (back c past) other ns said []
    (sym (ap (λ (b : Bool). back c past ++ cond b (other ∷ []) []) h) ∙ is) in
    record {
      later = [];
      event = event;
      answer = answer;
      before = past;
      is = ap (λ (s : ServerNote). Returned event answer s ∷ past) cut.here;
      none = refl;
      mine = ap (is_note_of c) (sym cut.here) ∙ h;
      rest = cut.before;
    }
turn_here c _ past ns said h is = absurd (false≢true h)

pub last_note : (c : ℕ) (past : List (Entry ServerNote)) (ns : List ServerNote) (said : ServerNote)
    → back c past ≡ ns ++ said ∷ [] → LastNote c past ns said
last_note c [] ns said is = absurd (none ns is)
  where
    none : (ns : List ServerNote) → [] ≡ ns ++ said ∷ [] → ⊥
    none [] q = cc
    none (n ∷ ns) q = cc
last_note c (e ∷ past) ns said is = ⊎_elim
    (λ (t : is_turn_of c e ≡ true). turn_here c e past ns said t is)
    (λ (f : is_turn_of c e ≡ false). more f
    (last_note c past ns said (sym (ap (λ (l : List ServerNote). back c past ++ l)
    (none_one c e f) ∙ append-nil (back c past)) ∙ is)))
    (cases_Bool (is_turn_of c e))
  where
    more : is_turn_of c e ≡ false → LastNote c past ns said → LastNote c (e ∷ past) ns said
    more f r = record {
      later = e ∷ r.later;
      event = r.event;
      answer = r.answer;
      before = r.before;
      is = ap (λ (l : List (Entry ServerNote)). e ∷ l) r.is;
      none = ap (λ (b : Bool). b || list_any (is_turn_of c) r.later) f ∙ r.none;
      mine = r.mine;
      rest = r.rest;
    }

-- ---- the turns of its handler

-- what a handler has had, and nothing if there is none
abbrev pub had_of : Option ℕ → List (Entry ServerNote) → List (Item ServerNote)
had_of None past = []
had_of (Some x) past = had past x

abbrev pub made_of : Option ℕ → List (Entry ServerNote) → Entry ServerNote → List (Item ServerNote)
made_of None past e = []
made_of (Some x) past e = items_made past x e

pub had_more : (owner : Option ℕ) (e : Entry ServerNote) (past : List (Entry ServerNote))
    → had_of owner (e ∷ past) ≡ had_of owner past ++ made_of owner past e
had_more None e past = refl
had_more (Some x) e past = refl

notes_append : (a b : List (Item ServerNote)) → notes_of (a ++ b) ≡ notes_of a ++ notes_of b
notes_append [] b = refl
notes_append (item ∷ a) b = ap (λ (l : List ServerNote). item.note ∷ l) (notes_append a b)

pub record MoreHad (owner : Option ℕ) (later past : List (Entry ServerNote)) : Type 0 where
  pub more : List (Item ServerNote)
  pub is : had_of owner (later ++ past) ≡ had_of owner past ++ more

pub more_had : (owner : Option ℕ) (later past : List (Entry ServerNote)) → MoreHad owner later past
more_had None later past = record { more = []; is = refl }
more_had (Some x) later past = let g = had_grows later past x in record { more = g.more; is = g.is }

module _ (most : ℕ) (steps : List ScriptStep) (idle : Option ℕ) (all : List (Entry ServerNote))
    (legal : is_legal most all ≡ true) (begun : EachStep IsBegun all)
    (left : AreLeft steps idle all)
    (closed : (x : ℕ) → was_opened all x ≡ true → was_closed all x ≡ true)
    (first_opened : was_opened all 0 ≡ true) where
  -- this handler, if there is one, is the only one of connection c
  pub record Owns (c : ℕ) (owner : Option ℕ) : Type 0 where
    pub not_first : owner ≢ Some 0
    pub its : (d : ℕ) (o : was_opened all (suc d) ≡ true) → owner ≡ Some (suc d)
        → (turns.connection most steps idle all legal begun left closed d o).number ≡ c
    pub alone : (d : ℕ) (o : was_opened all (suc d) ≡ true)
        → (turns.connection most steps idle all legal begun left closed d o).number ≡ c
        → owner ≡ Some (suc d)

  module _ (c : ℕ) (owner : Option ℕ) (owns : Owns c owner) where
    -- what a turn adds
    pub data Made (event : ℕ) (answer : Answer) (said : ServerNote)
        (past : List (Entry ServerNote)) : Type 0 where
      its_own : (item : Item ServerNote)
          → made_of owner past (Returned event answer said) ≡ item ∷ [] → item.note ≡ said
          → item.moment ≡ started_at past event → is_note_of c said ≡ true
          → Made event answer said past
      of_another : made_of owner past (Returned event answer said) ≡ [] → is_note_of c said ≡ false
          → Made event answer said past

    pub made_by : (later past : List (Entry ServerNote)) (event : ℕ) (answer : Answer)
        (said : ServerNote) → all ≡ later ++ Returned event answer said ∷ past
        → Made event answer said past
    made_by later past event answer said is = by_handle t.x t.turn
      where
        t : settling.TurnOf most all legal event answer said past
        t = settling.turn_of most all legal later past event answer said is

        not_made : (y : ℕ) (turn : settling.Turn most all legal event answer said past y)
            (o : Option ℕ) → o ≢ Some y → made_of o past (Returned event answer said) ≡ []
        not_made y turn None ne = refl
        not_made y turn (Some x) ne = turn.others x (λ q. ne (ap Some q))

        made : (y : ℕ) (turn : settling.Turn most all legal event answer said past y) (o : Option ℕ)
            → o ≡ Some y → made_of o past (Returned event answer said) ≡ turn.item ∷ []
        made y turn o same = ap (λ (w : Option ℕ). made_of w past (Returned event answer said)) same
            ∙ turn.made

        by_handle : (y : ℕ) → settling.Turn most all legal event answer said past y
            → Made event answer said past
        by_handle zero turn =
            let listens = turns.acceptor most steps idle all legal begun left closed first_opened in
            let heard = turns.listen_in most steps idle all legal begun left closed (had past 0)
            turn.item turn.more (had all 0) turn.among
            (course_listens _ listens.now (had all 0) listens.course) in
            of_another (not_made 0 turn owner owns.not_first)
            (of_none c said (sym (ap is_listening turn.notes) ∙ heard))
        by_handle (suc d) turn =
            let o = turns.opened_all most steps idle all legal begun left closed later past
            (Returned event answer said) (suc d) is turn.opened_now in
            let piece = turns.conn_note most steps idle all legal begun left closed d event answer
            said later past is turn o in
            let k = (turns.connection most steps idle all legal begun left closed d o).number in
            let mine : is_note_of c said ≡ (k == c) =
            ap (is_note_of c) (sym turn.notes ∙ piece.2) in
            ⊎_elim
            (λ (t : (k == c) ≡ true). its_own turn.item
            (made (suc d) turn owner (owns.alone d o (eqb-true k c t))) turn.notes turn.began
            (mine ∙ t))
            (λ (f : (k == c) ≡ false). of_another
            (not_made (suc d) turn owner (λ q.
            false≢true (sym f ∙ eq-eqb k c (owns.its d o q)))) (mine ∙ f))
            (cases_Bool (k == c))

    one_turn : (later past : List (Entry ServerNote)) (event : ℕ) (answer : Answer)
        (said : ServerNote) → all ≡ later ++ Returned event answer said ∷ past
        → notes_in c (Returned event answer said)
        ≡ notes_of (made_of owner past (Returned event answer said))
    one_turn later past event answer said is = by (made_by later past event answer said is)
      where
        by : Made event answer said past → notes_in c (Returned event answer said)
            ≡ notes_of (made_of owner past (Returned event answer said))
        by (its_own item made notes began mine) =
            ap (λ (b : Bool). cond b (said ∷ []) []) mine
            ∙ ap (λ (n : ServerNote). n ∷ []) (sym notes) ∙ sym (ap notes_of made)
        by (of_another made other) = ap (λ (b : Bool). cond b (said ∷ []) []) other
            ∙ sym (ap notes_of made)

    one_entry : (later past : List (Entry ServerNote)) (e : Entry ServerNote)
        → all ≡ later ++ e ∷ past → notes_in c e ≡ notes_of (made_of owner past e)
    one_entry later past e is = by_owner owner e
        (λ event answer said same. subst (λ (f : Entry ServerNote). notes_in c f
        ≡ notes_of (made_of owner past f)) (sym same)
        (one_turn later past event answer said
        (is ∙ ap (λ (f : Entry ServerNote). later ++ f ∷ past) same)))
      where
        by_owner : (o : Option ℕ) (e : Entry ServerNote)
            → ((event : ℕ) (answer : Answer) (said : ServerNote) → e ≡ Returned event answer said
            → notes_in c e ≡ notes_of (made_of o past e))
            → notes_in c e ≡ notes_of (made_of o past e)
        by_owner None (Returned event answer said) turn = turn event answer said refl
        by_owner None _ turn = refl
        by_owner (Some x) (Returned event answer said) turn = turn event answer said refl
        by_owner (Some x) _ turn = refl

    -- the notes of a connection are those of its handler's turns
    pub notes_had : (later past : List (Entry ServerNote)) → all ≡ later ++ past
        → back c past ≡ notes_of (had_of owner past)
    notes_had later [] is = none owner
      where
        none : (o : Option ℕ) → [] ≡ notes_of (had_of o [])
        none None = refl
        none (Some x) = refl
    notes_had later (e ∷ past) is =
        ap (λ (l : List ServerNote). l ++ notes_in c e)
        (notes_had (later ++ e ∷ []) past (is ∙ sym (append_assoc later (e ∷ []) past)))
        ∙ ap (λ (l : List ServerNote). notes_of (had_of owner past) ++ l)
        (one_entry later past e is)
        ∙ sym (notes_append (had_of owner past) (made_of owner past e))
        ∙ sym (ap notes_of (had_more owner e past))
