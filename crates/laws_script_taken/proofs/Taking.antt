-- What a connection took and noted in a run over a script, and what led to the word with which it
-- was closed.
use Rattle.std.proofs.Common.{ℕ, suc, ◌≡◌, ◌≢◌, ◌∙◌, ◌+◌, ◌-◌, ◌≤◌, ◌<◌, ◌||◌, Bool, true, false}
use Rattle.std.proofs.Common.{List, [], ◌∷◌, ◌++◌, length, take, reverse, refl, sym, ap, subst}
use Rattle.std.proofs.Common.{arith, Option, Some, None, ⊎_elim, append-nil, append_assoc}
use Rattle.std.proofs.Common.{length-append}
use Rattle.std.specs.Prelude.{flat_map}
use Rattle.std.specs.List.{sum_by, list_any}
use Rattle.std.proofs.lemmas.Bool.{false≢true, both_ways, cases_Bool, eq-eqb, leb-true}
use Rattle.std.proofs.lemmas.Grind.{flat_map-append}
use Rattle.std.proofs.lemmas.List.{length-reverse, reverse-append, reverse-reverse}
use Rattle.std.proofs.lemmas.List.Sums.{sum_by-cons, sum_by-append}
use Rattle.laws_script_complete.specs.ev_base.specs.Terms.{Terms}
use Rattle.laws_script_complete.specs.cdr_record.specs.declared.record.LogRecord.{LogRecord}
use Rattle.laws_script_complete.specs.cdr_record.specs.Decoding.{Clean}
use Rattle.laws_script_complete.specs.cdr_record.specs.Decoding.{Partial}
use Rattle.laws_script_complete.specs.cdr_record.specs.Decoding.{Malformed}
use Rattle.laws_script_complete.specs.cdr_record.specs.Decoding.{decode}
use Rattle.laws_script_complete.specs.reactor_journal.specs.Event.{Item}
use Rattle.laws_script_complete.specs.reactor_journal.specs.declared.entry.Entry.{Entry}
use Rattle.laws_script_complete.specs.reactor_journal.specs.declared.entry.Entry.TheVariants.{
  Returned,
}
use Rattle.laws_script_complete.specs.reactor_journal.specs.Past.{past_of}
use Rattle.laws_script_complete.specs.reactor_journal.specs.Past.{had, ended}
use Rattle.laws_script_complete.specs.reactor_journal.specs.Past.{started_at}
use Rattle.laws_script_complete.specs.reactor_journal.specs.Past.{was_opened}
use Rattle.laws_script_complete.specs.reactor_journal.specs.Past.{was_closed}
use Rattle.laws_script_complete.specs.reactor_journal.proofs.Turning.{past_split}
use Rattle.laws_script_complete.specs.reactor_model.specs.Handling.{Handling}
use Rattle.laws_script_complete.specs.acceptor.proofs.Accounts
    as acceptor_accounts
use Rattle.laws_script_complete.specs.log_lines.specs.declared.end_kind.EndKind.{EndKind}
use Rattle.laws_script_complete.specs.log_lines.specs.declared.end_kind.EndKind.TheVariants
    as end
use Rattle.laws_script_complete.specs.log_handler.specs.declared.note.ServerNote.{ServerNote}
use Rattle.laws_script_complete.specs.log_handler.specs.declared.note.ServerNote.TheVariants
    as note
use Rattle.laws_script_complete.specs.log_handler.specs.Connection
    as connection
use Rattle.laws_script_complete.specs.log_handler.specs.Connection.{is_idle}
use Rattle.laws_script_complete.specs.log_handler.specs.Laws.{EndedSo}
use Rattle.laws_script_complete.specs.log_handler.specs.Laws.{HasRecords}
use Rattle.laws_script_complete.specs.log_handler.specs.Laws.{took_in}
use Rattle.laws_script_complete.specs.log_handler.specs.Laws.{took_of}
use Rattle.laws_script_complete.specs.log_handler.specs.Laws.{took_last}
use Rattle.laws_script_complete.specs.log_handler.specs.Laws.{records_in}
use Rattle.laws_script_complete.specs.log_handler.specs.Laws.{records_of_note}
use Rattle.laws_script_complete.specs.log_handler.specs.Laws.{last_turn}
use Rattle.laws_script_complete.specs.log_handler.proofs.Accounts.{accounts}
use Rattle.laws_script_complete.specs.event_script.specs.Script.{ScriptStep}
use Rattle.laws_script_complete.specs.event_script.specs.Script.{ScriptGroup}
use Rattle.laws_script_complete.specs.event_script.specs.Script.{steps_of}
use Rattle.laws_script_complete.specs.event_script.specs.Script.{opened}
use Rattle.laws_script_complete.specs.event_script.specs.Stories.{story}
use Rattle.laws_script_complete.specs.event_script.specs.Stories.{bytes_of}
use Rattle.laws_script_complete.specs.laws_script_turns.specs.Laws.{untold}
use Rattle.laws_script_complete.specs.laws_script_turns.specs.Laws.{pauses_had}
use Rattle.laws_script_complete.specs.laws_script_turns.proofs.Reading.{HasRead}
use Rattle.laws_script_complete.specs.ev_base.specs.Story.{Ending, Failing}
use Rattle.laws_script_complete.specs.reactor_journal.specs.Follow.{is_legal}
use Rattle.laws_script_complete.specs.laws_script_runs.specs.Connections.{AreLeft, accepted}
use Rattle.laws_script_complete.specs.laws_script_runs.specs.Connections.{is_note_of}
use Rattle.laws_script_complete.specs.laws_script_runs.specs.Steps.{EachStep}
use Rattle.laws_script_complete.specs.laws_script_runs.proofs.Handles.{IsBegun}
use Rattle.laws_script_complete.specs.laws_script_runs.proofs.Scripts.{orderly}
use Rattle.laws_script_complete.specs.laws_script_runs.proofs.Taking.{length_numbers, few_taken}
use Rattle.laws_script_complete.specs.laws_script_runs.proofs.Turns as turns
use Rattle.laws_script_complete.specs.laws_script_runs.proofs.Winding as winding
use Rattle.laws_script_taken.specs.Taken.{accepts_connection, is_turn_of, is_closing_of, last_heard}
use Rattle.laws_script_taken.specs.Taken.{took, noted, taken, records_taken, stop_taken, GoesOn}
use Rattle.laws_script_taken.specs.Taken.{ReachedEnd, CameToFail, LostItsLast, WasQuiet, IsClosedAs}
use Rattle.laws_script_taken.specs.Taken.{IsTaken}
use Rattle.laws_script_taken.proofs.Places.{any_round, found, Cuts, same_cut, first_cut, second_cut}
use Rattle.laws_script_taken.proofs.Places.{cuts, same_rest, turned_round}
use Rattle.laws_script_complete.specs.laws_script_turns.proofs.Reading.{has_read}
use Rattle.laws_script_complete.specs.laws_script_turns.proofs.Stories.{shut_there}
use Rattle.laws_script_complete.specs.laws_script_turns.proofs.Stories.{failed_there}
use Rattle.laws_script_taken.proofs.Fronts.{course_takes, took_all}
use Rattle.laws_script_taken.proofs.Hearing.{heard, course_heard, hears}
use Rattle.laws_script_taken.proofs.Notes as noting
use Rattle.laws_script_taken.proofs.Notes.{notes, back, notes_back, took_notes, noted_notes}
use Rattle.laws_script_taken.proofs.Notes.{notes_of, took_items, noted_items, some_notes, LastNote}
use Rattle.laws_script_taken.proofs.Notes.{last_note, had_of, more_had, notes_had}
use Rattle.laws_script_taken.proofs.Offers as offering
use Rattle.laws_script_taken.proofs.Offers.{accept_turn}
use Rattle.laws_script_taken.proofs.Words.{Lasts, LostTurn, QuietTurn, earlier, lasts, lost_turn}
use Rattle.laws_script_taken.proofs.Words.{quiet_turn}
use Rattle.laws_script_taken.proofs.Closing as ending
use Rattle.laws_script_taken.proofs.Closing.{Because, by_itself, lacking, removed, refused}
use Rattle.laws_script_taken.proofs.Whole as whole
use Rattle.laws_script_taken.proofs.Whole.{BegunRun}

-- ---- small facts

all_records : (records : List LogRecord) (count : ℕ) (bytes : List ℕ) (kept : Option EndKind)
    → kept ≢ Some end.NoMemory → HasRecords records count bytes kept
    → records ≡ (decode bytes).records
all_records records count bytes None ne h = h
all_records records count bytes (Some end.End) ne h = h
all_records records count bytes (Some (end.Partial n)) ne h = h
all_records records count bytes (Some (end.Malformed at)) ne h = h
all_records records count bytes (Some end.Failed) ne h = h
all_records records count bytes (Some end.NoMemory) ne h = absurd (ne refl)
all_records records count bytes (Some end.Idle) ne h = h
all_records records count bytes (Some end.Stopped) ne h = h
all_records records count bytes (Some end.Refused) ne h = h

length_notes : (items : List (Item ServerNote)) → length (notes_of items) ≡ length items
length_notes [] = refl
length_notes (item ∷ items) = ap suc (length_notes items)

has_idle : (idle : Option ℕ) (last moment : ℕ) → is_idle idle last moment ≡ true → (time : ℕ)
    × (idle ≡ Some time) × (time ≤ moment - last)
has_idle None last moment h = absurd (false≢true h)
has_idle (Some time) last moment h = (time, refl, leb-true time (moment - last) h)

-- with such a word it ended itself
ended_itself : (kept : Option EndKind) (word : EndKind) (items : List (Item ServerNote))
    (past : List (Entry ServerNote)) → Because kept word items past → word ≢ end.Stopped
    → word ≢ end.Refused → kept ≡ Some word
ended_itself kept word items past (by_itself k) s r = k
ended_itself kept word items past (lacking e k) s r = k ∙ ap Some (sym e)
ended_itself kept word items past (removed e k g) s r = absurd (s e)
ended_itself kept word items past (refused e k i) s r = absurd (r e)

-- if the word is another than that for want of memory, there was memory
had_memory : (kept : Option EndKind) (word : EndKind) (items : List (Item ServerNote))
    (past : List (Entry ServerNote)) → Because kept word items past → word ≢ end.NoMemory
    → kept ≢ Some end.NoMemory
had_memory kept word items past (by_itself k) ne = λ q. ne (same (sym k ∙ q))
  where
    same : Some word ≡ Some end.NoMemory → word ≡ end.NoMemory
    same z = cc
had_memory kept word items past (lacking e k) ne = λ q. ne e
had_memory kept word items past (removed e k g) ne = k
had_memory kept word items past (refused e k i) ne = λ q. none (sym k ∙ q)
  where
    none : ◌≡◌ {A = Option EndKind} None (Some end.NoMemory) → ⊥
    none z = cc

module _ {H E : Type 0} (means : Handling H E ServerNote) (t : Terms) (idle : Option ℕ)
    (groups : List ScriptGroup) (journal : List (Entry ServerNote))
    (r : BegunRun means t idle groups journal) (c : ℕ)
    (e : ending.Ends means t idle groups journal r c) where
  abbrev steps : List ScriptStep
  steps = steps_of groups

  abbrev all : List (Entry ServerNote)
  all = past_of journal

  abbrev legal : is_legal t.most all ≡ true
  legal = whole.legal means t idle groups journal r

  abbrev begun : EachStep IsBegun all
  begun = whole.begun means t idle groups journal r

  abbrev left : AreLeft steps idle all
  left = whole.left means t idle groups journal r

  abbrev closed : (x : ℕ) → was_opened all x ≡ true → was_closed all x ≡ true
  closed = whole.closed means t idle groups journal r

  abbrev first_opened : was_opened all 0 ≡ true
  first_opened = whole.first_opened means t idle groups journal r

  abbrev had_by : List (Entry ServerNote) → List (Item ServerNote)
  had_by entries = had_of e.owner (past_of entries)

  abbrev start : connection.Progress
  start = connection.at_start e.moment (Some (untold (story c steps)))

  -- ---- a front of the journal

  module _ (front rest : List (Entry ServerNote)) (is : journal ≡ front ++ rest) where
    cut : all ≡ past_of rest ++ past_of front
    cut = ap past_of is ∙ reverse-append front rest

    notes_are : notes c front ≡ notes_of (had_by front)
    notes_are = notes_back c front ∙ notes_had t.most steps idle all legal begun left closed
        first_opened c e.owner e.owns (past_of rest) (past_of front) cut

    noted_is : noted c front ≡ flat_map records_in (had_by front)
    noted_is = noted_notes c front ∙ ap (flat_map records_of_note) notes_are
        ∙ noted_items (had_by front)

    took_is : took c front ≡ sum_by took_in (had_by front)
    took_is = took_notes c front ∙ ap (sum_by took_of) notes_are ∙ took_items (had_by front)

    module _ (p : connection.Progress) (course : connection.Course c idle start (had_by front) p)
      where
        took_length : took c front ≡ length p.taken
        took_length = took_is ∙ sym (accounts c idle e.moment _ (had_by front) p course).took

        taken_is : taken c steps front ≡ p.taken
        taken_is = ap (λ (n : ℕ). take n (bytes_of c steps)) took_length
            ∙ (course_takes c idle steps e.moment (had_by front) p course).is

        within_bytes : took c front ≤ length (bytes_of c steps)
        within_bytes = subst (λ (n : ℕ). n ≤ length (bytes_of c steps)) (sym took_length)
            (course_takes c idle steps e.moment (had_by front) p course).within

        stop_is : stop_taken c steps front ≡ (decode p.taken).stop
        stop_is = ap (λ (bytes : List ℕ). (decode bytes).stop) taken_is

        records_are : p.kept ≢ Some end.NoMemory → noted c front ≡ records_taken c steps front
        records_are ne =
            noted_is ∙ all_records _ (took_last (last_turn (had_by front))) p.taken p.kept ne
            (accounts c idle e.moment _ (had_by front) p course).records
            ∙ sym (ap (λ (bytes : List ℕ). (decode bytes).records) taken_is)

        went_on : p.kept ≡ None → GoesOn c steps front
        went_on none = record {
          records = records_are (λ q. some (sym none ∙ q));
          sound = λ at q. subst (EndedSo idle (last_turn (had_by front)) p) none
              (accounts c idle e.moment _ (had_by front) p course).ended at (sym stop_is ∙ q);
        }
          where
            some : ◌≡◌ {A = Option EndKind} None (Some end.NoMemory) → ⊥
            some z = cc

  -- ---- before each turn

  all_had : (front rest : List (Entry ServerNote)) (is : journal ≡ front ++ rest)
      (more : List (Item ServerNote)) → had_of e.owner all ≡ had_by front ++ more
      → list_any (is_turn_of c) rest ≡ true → 1 ≤ length more
  all_had front rest is more had some =
      let one = some_notes c rest some in
      let whole_notes : length (notes c journal) ≡ length (had_of e.owner all) =
      ap length (notes_are journal [] (sym (append-nil journal)))
      ∙ length_notes (had_of e.owner all) in
      let front_notes : length (notes c front) ≡ length (had_by front) =
      ap length (notes_are front rest is) ∙ length_notes (had_by front) in
      let parts : length (notes c journal) ≡ length (notes c front) + length (notes c rest) =
      ap (λ (l : List (Entry ServerNote)). length (notes c l)) is
      ∙ ap length (flat_map-append _ front rest)
      ∙ length-append (notes c front) (notes c rest) in
      let items : length (had_of e.owner all) ≡ length (had_by front) + length more =
      ap length had ∙ length-append (had_by front) more in
      omega (arith, one, whole_notes, front_notes, parts, items)

  pub goes_on : (front rest : List (Entry ServerNote)) → journal ≡ front ++ rest
      → list_any (is_turn_of c) rest ≡ true → GoesOn c steps front
  goes_on front rest is some =
      let m = more_had e.owner (past_of rest) (past_of front) in
      let had : had_of e.owner all ≡ had_by front ++ m.more =
      ap (had_of e.owner) (cut front rest is) ∙ m.is in
      by_more m.more had (all_had front rest is m.more had some)
    where
      by_more : (items : List (Item ServerNote)) → had_of e.owner all ≡ had_by front ++ items
          → 1 ≤ length items → GoesOn c steps front
      by_more [] had long = absurd (omega (arith, long))
      by_more (item ∷ items) had long =
          let before = earlier c idle start e.now (had_by front) item items
          (subst (λ (h : List (Item ServerNote)). connection.Course c idle start h e.now) had
          e.course) in
          went_on front rest is before.then before.course before.goes_on

  -- ---- the whole

  nothing_behind : journal ≡ journal ++ []
  nothing_behind = sym (append-nil journal)

  stop : stop_taken c steps journal ≡ (decode e.now.taken).stop
  stop = stop_is journal [] nothing_behind e.now e.course

  read : HasRead (story c steps) (0 + pauses_had (had_of e.owner all)) e.now e.now.kept
  read = has_read (story c steps) c idle e.moment (had_of e.owner all) e.now e.course

  ended_so : EndedSo idle (last_turn (had_of e.owner all)) e.now e.now.kept
  ended_so = (accounts c idle e.moment _ (had_of e.owner all) e.now e.course).ended

  all_bytes : e.now.taken ≡ bytes_of c steps → took c journal ≡ length (bytes_of c steps)
  all_bytes same = took_length journal [] nothing_behind e.now e.course ∙ ap length same

  -- ---- the words

  came_to_end : e.now.kept ≡ Some end.End → ReachedEnd c steps journal Clean
  came_to_end kept =
      let stops = subst (HasRead (story c steps) (0 + pauses_had (had_of e.owner all)) e.now) kept
      read in
      let so = subst (EndedSo idle (last_turn (had_of e.owner all)) e.now) kept ended_so in
      record {
        all = all_bytes (took_all Ending c steps e.now (orderly c steps r.script) refl
            stops);
        shut = shut_there c steps e.now stops;
        stops = stop ∙ so.1;
      }

  came_to_part : (n : ℕ) → e.now.kept ≡ Some (end.Partial n)
      → ReachedEnd c steps journal (Partial n)
  came_to_part n kept =
      let stops = subst (HasRead (story c steps) (0 + pauses_had (had_of e.owner all)) e.now) kept
      read in
      let so = subst (EndedSo idle (last_turn (had_of e.owner all)) e.now) kept ended_so in
      record {
        all = all_bytes (took_all Ending c steps e.now (orderly c steps r.script) refl
            stops);
        shut = shut_there c steps e.now stops;
        stops = stop ∙ so.1;
      }

  came_to_bad : (at : ℕ) → e.now.kept ≡ Some (end.Malformed at)
      → stop_taken c steps journal ≡ Malformed at
  came_to_bad at kept = stop ∙ subst (EndedSo idle (last_turn (had_of e.owner all)) e.now) kept
      ended_so

  came_to_fail : e.now.kept ≡ Some end.Failed → CameToFail c steps journal
  came_to_fail kept =
      let stops = subst (HasRead (story c steps) (0 + pauses_had (had_of e.owner all)) e.now) kept
      read in
      record {
        all = all_bytes (took_all Failing c steps e.now (orderly c steps r.script) refl
            stops.0);
        failed = failed_there c steps e.now stops.0;
        sound = λ at q. stops.1 at (sym stop ∙ q);
      }

  -- the last turn in the journal
  last_split : (l : Lasts c idle start e.now (had_of e.owner all)) (said : ServerNote)
      → l.item.note ≡ said → LastNote c all (notes_of l.before) said
  last_split l said is = last_note c all (notes_of l.before) said
      (sym (notes_back c journal) ∙ notes_are journal [] nothing_behind ∙ ap notes_of l.is
      ∙ append_notes l.before ∙ ap (λ (s : ServerNote). notes_of l.before ++ s ∷ []) is)
    where
      append_notes : (items : List (Item ServerNote))
          → notes_of (items ++ l.item ∷ []) ≡ notes_of items ++ l.item.note ∷ []
      append_notes [] = refl
      append_notes (item ∷ items) = ap (λ (s : List ServerNote). item.note ∷ s) (append_notes items)

  -- it stands after the acceptance, and at its moment
  record Timed (l : Lasts c idle start e.now (had_of e.owner all)) (event : ℕ)
      (before : List (Entry ServerNote)) : Type 0 where
    moment : l.item.moment ≡ started_at before event
    heard_last_ : l.then.last ≡ last_heard c before

  module _ (l : Lasts c idle start e.now (had_of e.owner all)) (said : ServerNote)
      (n : LastNote c all (notes_of l.before) said) where
    abbrev entry : Entry ServerNote
    entry = Returned n.event n.answer said

    before_is : notes_of (had_of e.owner n.before) ≡ notes_of l.before
    before_is = sym (noting.notes_had t.most steps idle all legal begun left closed first_opened c
        e.owner e.owns (n.later ++ entry ∷ []) n.before
        (n.is ∙ sym (append_assoc n.later (entry ∷ []) n.before))) ∙ n.rest

    -- the entry's turn is the last
    record SameTurn (item : Item ServerNote) : Type 0 where
      before : had_of e.owner n.before ≡ l.before
      it : item ≡ l.item

    same_turn : (item : Item ServerNote) → noting.made_of e.owner n.before entry ≡ item ∷ []
        → SameTurn item
    same_turn item made = by m.more refl
      where
        m : noting.MoreHad e.owner n.later (entry ∷ n.before)
        m = more_had e.owner n.later (entry ∷ n.before)

        items : l.before ++ l.item ∷ [] ≡ (had_of e.owner n.before ++ item ∷ []) ++ m.more
        items = sym l.is ∙ ap (had_of e.owner) n.is ∙ m.is
            ∙ ap (λ (h : List (Item ServerNote)). h ++ m.more)
            (noting.had_more e.owner entry n.before
            ∙ ap (λ (h : List (Item ServerNote)). had_of e.owner n.before ++ h) made)

        by : (more : List (Item ServerNote)) → m.more ≡ more → SameTurn item
        by [] is =
            let cut = same_rest (had_of e.owner n.before) item l.before l.item []
            (sym (append-nil (had_of e.owner n.before ++ item ∷ []))
            ∙ sym (ap (λ (h : List (Item ServerNote)). (had_of e.owner n.before ++ item ∷ [])
            ++ h) is) ∙ sym items) in
            record { before = cut.before; it = cut.here }
        by (other ∷ more) is =
            let long : length (l.before ++ l.item ∷ [])
            ≡ length ((had_of e.owner n.before ++ item ∷ []) ++ m.more) = ap length items in
            let one : length (l.before ++ l.item ∷ []) ≡ length l.before + 1 =
            length-append l.before (l.item ∷ []) in
            let two : length ((had_of e.owner n.before ++ item ∷ []) ++ m.more)
            ≡ length (had_of e.owner n.before ++ item ∷ []) + length m.more =
            length-append (had_of e.owner n.before ++ item ∷ []) m.more in
            let three : length (had_of e.owner n.before ++ item ∷ [])
            ≡ length (had_of e.owner n.before) + 1 =
            length-append (had_of e.owner n.before) (item ∷ []) in
            let same : length (had_of e.owner n.before) ≡ length l.before =
            sym (length_notes (had_of e.owner n.before)) ∙ ap length before_is
            ∙ length_notes l.before in
            let some : length m.more ≡ suc (length more) = ap length is in
            absurd (omega (arith, long, one, two, three, same, some))

    -- the acceptance stands before it
    record Since : Type 0 where
      between : List (Entry ServerNote)
      is : n.before ≡ between ++ Returned e.event e.answer (note.Accepted c) ∷ e.earlier

    since : (item : Item ServerNote) → noting.made_of e.owner n.before entry ≡ item ∷ [] → Since
    since item made = by (cuts n.later entry n.before e.since
        (Returned e.event e.answer (note.Accepted c)) e.earlier (sym n.is ∙ e.accepted_at))
      where
        by : Cuts n.later entry n.before e.since (Returned e.event e.answer (note.Accepted c))
            e.earlier → Since
        by (same_cut i j k) = absurd (false≢true (ap (is_note_of c) (sym (notes_same j)) ∙ n.mine))
          where
            notes_same : ◌≡◌ {A = Entry ServerNote} entry
                (Returned e.event e.answer (note.Accepted c)) → said ≡ note.Accepted c
            notes_same q = cc
        by (first_cut m i k) = record { between = m; is = k }
        by (second_cut m i k) =
            let up = more_had e.owner (Returned e.event e.answer (note.Accepted c) ∷ m)
            (entry ∷ n.before) in
            let none : [] ≡ (had_of e.owner n.before ++ item ∷ []) ++ up.more =
            sym e.none_had ∙ ap (λ (p : List (Entry ServerNote)).
            had_of e.owner (Returned e.event e.answer (note.Accepted c) ∷ p)) k ∙ up.is
            ∙ ap (λ (h : List (Item ServerNote)). h ++ up.more)
            (noting.had_more e.owner entry n.before
            ∙ ap (λ (h : List (Item ServerNote)). had_of e.owner n.before ++ h) made) in
            let long : 0 ≡ length ((had_of e.owner n.before ++ item ∷ []) ++ up.more) =
            ap length none in
            let two : length ((had_of e.owner n.before ++ item ∷ []) ++ up.more)
            ≡ length (had_of e.owner n.before ++ item ∷ []) + length up.more =
            length-append (had_of e.owner n.before ++ item ∷ []) up.more in
            let three : length (had_of e.owner n.before ++ item ∷ [])
            ≡ length (had_of e.owner n.before) + 1 =
            length-append (had_of e.owner n.before) (item ∷ []) in
            absurd (omega (arith, long, two, three))

    timed : Timed l n.event n.before
    timed = by (noting.made_by t.most steps idle all legal begun left closed first_opened c e.owner
        e.owns n.later n.before n.event n.answer said n.is)
      where
        by : noting.Made t.most steps idle all legal begun left closed first_opened c e.owner e.owns
            n.event n.answer said n.before → Timed l n.event n.before
        by (noting.of_another made other) = absurd (both_ways (is_note_of c said) other n.mine)
        by (noting.its_own item made notes began mine) =
            let s = same_turn item made in
            let a = since item made in
            let heard_ = hears t.most steps idle all legal begun left closed first_opened c e.owner
            e.owns e.event e.answer e.earlier e.none_had (n.later ++ entry ∷ []) a.between
            (n.is ∙ sym (append_assoc n.later (entry ∷ []) n.before)
            ∙ ap (λ (p : List (Entry ServerNote)). (n.later ++ entry ∷ []) ++ p) a.is) in
            record {
              moment = sym (ap (λ (i : Item ServerNote). i.moment) s.it) ∙ began;
              heard_last_ = course_heard c idle start l.then l.before l.course
                  ∙ ap (λ (m : ℕ). heard m l.before) e.began
                  ∙ ap (heard (started_at e.earlier e.event))
                  (sym s.before ∙ ap (had_of e.owner) a.is)
                  ∙ sym heard_ ∙ ap (last_heard c) (sym a.is);
            }

  was_quiet : e.now.kept ≡ Some end.Idle → WasQuiet c steps idle journal
  was_quiet kept = record {
    time = limit.0;
    limit = limit.1;
    before = reverse n.before;
    event = n.event;
    answer = n.answer;
    after = reverse n.later;
    is = turned_round journal n.later (Returned n.event n.answer (note.Piece c 0 [])) n.before n.is;
    last = winding.any_reverse (is_turn_of c) n.later n.none;
    quiet = subst (λ (p : List (Entry ServerNote)). limit.0 ≤ started_at p n.event - last_heard c p)
        (sym (reverse-reverse n.before))
        (subst (λ (m : ℕ). limit.0 ≤ m - last_heard c n.before) at.moment
        (subst (λ (m : ℕ). limit.0 ≤ l.item.moment - m) at.heard_last_ limit.2));
    sound = λ bad s. subst (EndedSo idle (last_turn l.before) l.then) l.turn.goes_on
        (accounts c idle e.moment _ l.before l.then l.course).ended bad
        (sym (stop ∙ ap (λ (bytes : List ℕ). (decode bytes).stop) q.taken) ∙ s);
  }
    where
      l : Lasts c idle start e.now (had_of e.owner all)
      l = lasts c idle start e.now (had_of e.owner all) end.Idle refl e.course kept

      q : QuietTurn c idle l.then e.now l.item
      q = quiet_turn c idle l.then e.now l.item kept l.turn

      limit : (time : ℕ) × (idle ≡ Some time) × (time ≤ l.item.moment - l.then.last)
      limit = has_idle idle l.then.last l.item.moment q.quiet

      n : LastNote c all (notes_of l.before) (note.Piece c 0 [])
      n = last_split l (note.Piece c 0 []) q.notes

      at : Timed l n.event n.before
      at = timed l (note.Piece c 0 []) n

  lost_last : e.now.kept ≡ Some end.NoMemory → LostItsLast c steps journal
  lost_last kept = record {
    before = reverse n.before;
    event = n.event;
    answer = n.answer;
    bytes = lost.bytes;
    after = reverse n.later;
    is = split;
    last = winding.any_reverse (is_turn_of c) n.later n.none;
    some = lost.some;
    within = lost.within;
    sum = took_more;
    records = same_noted ∙ (goes_on (reverse n.before)
        (Returned n.event n.answer (note.Piece c lost.bytes []) ∷ reverse n.later) split
        turn_there).records;
  }
    where
      l : Lasts c idle start e.now (had_of e.owner all)
      l = lasts c idle start e.now (had_of e.owner all) end.NoMemory refl e.course kept

      lost : LostTurn c l.item
      lost = lost_turn c idle l.then e.now l.item kept l.turn

      n : LastNote c all (notes_of l.before) (note.Piece c lost.bytes [])
      n = last_split l (note.Piece c lost.bytes []) lost.notes

      split : journal ≡ reverse n.before ++ Returned n.event n.answer (note.Piece c lost.bytes [])
          ∷ reverse n.later
      split = turned_round journal n.later (Returned n.event n.answer (note.Piece c lost.bytes []))
          n.before n.is

      turn_there : list_any (is_turn_of c)
          (Returned n.event n.answer (note.Piece c lost.bytes []) ∷ reverse n.later) ≡ true
      turn_there = ap (λ (b : Bool). b || list_any (is_turn_of c) (reverse n.later))
          (eq-eqb c c refl)

      notes_before : notes c (reverse n.before) ≡ notes_of l.before
      notes_before = notes_back c (reverse n.before) ∙ ap (back c) (reverse-reverse n.before)
          ∙ n.rest

      took_more : took c journal ≡ took c (reverse n.before) + lost.bytes
      took_more =
          let whole_sum : took c journal ≡ sum_by took_in (l.before ++ l.item ∷ []) =
          took_is journal [] nothing_behind ∙ ap (sum_by took_in) l.is in
          let parts : sum_by took_in (l.before ++ l.item ∷ [])
          ≡ sum_by took_in l.before + sum_by took_in (l.item ∷ []) =
          sum_by-append took_in l.before (l.item ∷ []) in
          let one : sum_by took_in (l.item ∷ []) ≡ took_in l.item + 0 =
          sum_by-cons took_in l.item [] in
          let its : took_in l.item ≡ lost.bytes = ap took_of lost.notes in
          let first_part : took c (reverse n.before) ≡ sum_by took_in l.before =
          took_notes c (reverse n.before) ∙ ap (sum_by took_of) notes_before
          ∙ took_items l.before in
          omega (arith, whole_sum, parts, one, its, first_part)

      same_noted : noted c journal ≡ noted c (reverse n.before)
      same_noted =
          noted_is journal [] nothing_behind ∙ ap (flat_map records_in) l.is
          ∙ flat_map-append records_in l.before (l.item ∷ [])
          ∙ ap (λ (s : ServerNote). flat_map records_in l.before ++ (records_of_note s ++ []))
          lost.notes ∙ append-nil (flat_map records_in l.before) ∙ sym (noted_items l.before)
          ∙ ap (flat_map records_of_note) (sym notes_before)
          ∙ sym (noted_notes c (reverse n.before))

  by_itself_with : (word : EndKind) → Because e.now.kept word (had_of e.owner all) e.past
      → word ≢ end.Stopped → word ≢ end.Refused → e.now.kept ≡ Some word
  by_itself_with word because s f = ended_itself e.now.kept word (had_of e.owner all) e.past because
      s f

  was_stopped : Because e.now.kept end.Stopped (had_of e.owner all) e.past
      → ended (past_of (reverse e.past)) ≡ true
  was_stopped (by_itself kept) = absurd
      (subst (EndedSo idle (last_turn (had_of e.owner all)) e.now) kept ended_so)
  was_stopped (lacking q kept) = absurd (other q)
    where
      other : end.Stopped ≡ end.NoMemory → ⊥
      other z = cc
  was_stopped (removed q kept behind) = ap ended (reverse-reverse e.past) ∙ behind
  was_stopped (refused q kept none) = absurd (other q)
    where
      other : end.Stopped ≡ end.Refused → ⊥
      other z = cc

  was_refused : Because e.now.kept end.Refused (had_of e.owner all) e.past → took c journal ≡ 0
  was_refused (by_itself kept) = absurd
      (subst (EndedSo idle (last_turn (had_of e.owner all)) e.now) kept ended_so)
  was_refused (lacking q kept) = absurd (other q)
    where
      other : end.Refused ≡ end.NoMemory → ⊥
      other z = cc
  was_refused (removed q kept behind) = absurd (other q)
    where
      other : end.Refused ≡ end.Stopped → ⊥
      other z = cc
  was_refused (refused q kept none) = took_is journal [] nothing_behind ∙ ap (sum_by took_in) none

  by_word : (word : EndKind) → Because e.now.kept word (had_of e.owner all) e.past
      → IsClosedAs word c steps idle journal (reverse e.past)
  by_word end.End because = came_to_end
      (by_itself_with end.End because (λ q. stopped q) (λ q. not_in q))
    where
      stopped : end.End ≡ end.Stopped → ⊥
      stopped z = cc

      not_in : end.End ≡ end.Refused → ⊥
      not_in z = cc
  by_word (end.Partial n) because = came_to_part n
      (by_itself_with (end.Partial n) because (λ q. stopped q) (λ q. not_in q))
    where
      stopped : end.Partial n ≡ end.Stopped → ⊥
      stopped z = cc

      not_in : end.Partial n ≡ end.Refused → ⊥
      not_in z = cc
  by_word (end.Malformed at) because =
      came_to_bad at (by_itself_with (end.Malformed at) because (λ q. stopped q) (λ q. not_in q))
    where
      stopped : end.Malformed at ≡ end.Stopped → ⊥
      stopped z = cc

      not_in : end.Malformed at ≡ end.Refused → ⊥
      not_in z = cc
  by_word end.Failed because = came_to_fail
      (by_itself_with end.Failed because (λ q. stopped q) (λ q. not_in q))
    where
      stopped : end.Failed ≡ end.Stopped → ⊥
      stopped z = cc

      not_in : end.Failed ≡ end.Refused → ⊥
      not_in z = cc
  by_word end.NoMemory because = lost_last
      (by_itself_with end.NoMemory because (λ q. stopped q) (λ q. not_in q))
    where
      stopped : end.NoMemory ≡ end.Stopped → ⊥
      stopped z = cc

      not_in : end.NoMemory ≡ end.Refused → ⊥
      not_in z = cc
  by_word end.Idle because = was_quiet
      (by_itself_with end.Idle because (λ q. stopped q) (λ q. not_in q))
    where
      stopped : end.Idle ≡ end.Stopped → ⊥
      stopped z = cc

      not_in : end.Idle ≡ end.Refused → ⊥
      not_in z = cc
  by_word end.Stopped because = was_stopped because
  by_word end.Refused because = was_refused because

  -- ---- it came in the script

  came : list_any (accepts_connection c) journal ≡ true → c < opened steps
  came h =
      let f = found (accepts_connection c) all (any_round (accepts_connection c) journal h) in
      let turn = accept_turn c f.it f.holds in
      let is : all ≡ f.before ++ Returned turn.event turn.answer (note.Accepted c) ∷ f.after =
      f.is ∙ ap (λ (x : Entry ServerNote). f.before ++ x ∷ f.after) turn.is in
      let number : c ≡ accepted f.after =
      offering.numbered t.most steps idle all legal begun left closed first_opened f.before
      f.after turn.event turn.answer c is in
      let more : accepted f.after + 1 ≤ accepted
      (f.before ++ Returned turn.event turn.answer (note.Accepted c) ∷ f.after) =
      offering.more_accepted f.before turn.event turn.answer c f.after in
      let same : accepted (f.before ++ Returned turn.event turn.answer (note.Accepted c) ∷ f.after)
      ≡ accepted all = ap accepted (sym is) in
      let listens = turns.acceptor t.most steps idle all legal begun left closed first_opened in
      let account = acceptor_accounts.accounts _ (had all 0) listens.now listens.course in
      let total : accepted all ≡ listens.now.taken =
      turns.counts t.most steps idle all (whole.legal means t idle groups journal r)
      (whole.begun means t idle groups journal r) (whole.left means t idle groups journal r)
      (whole.closed means t idle groups journal r) [] all refl ∙ ap length account.notes
      ∙ length_numbers 0 listens.now.taken in
      let most_taken : listens.now.taken ≤ opened steps =
      few_taken steps listens.now.offering listens.now.taken account.offers in
      omega (arith, number, more, same, total, most_taken)

  -- ---- it was closed once

  closing : journal ≡ reverse e.past ++ e.entry ∷ reverse e.later
  closing = turned_round journal e.later e.entry e.past e.is

  -- two closings stand at one place
  same_place : (before : List (Entry ServerNote)) (it : Entry ServerNote)
      (after : List (Entry ServerNote)) → journal ≡ before ++ it ∷ after → is_closing_of c it ≡ true
      → past_of before ≡ e.past
  same_place before it after is ends =
      let at : all ≡ past_of after ++ it ∷ past_of before =
      ap past_of is ∙ past_split before after it in
      offering.one_closing t.most steps idle all legal begun left closed first_opened
      c (past_of after) e.later (past_of before) e.past it e.entry at e.is
      (offering.closing_at t.most steps idle all legal begun left closed first_opened c
      (past_of after) it (past_of before) at ends)
      (offering.closing_at t.most steps idle all legal begun left closed first_opened c e.later
      e.entry e.past e.is e.ends_it)

  none_else : (l : List (Entry ServerNote)) → (list_any (is_closing_of c) l ≡ true → ⊥)
      → list_any (is_closing_of c) l ≡ false
  none_else l h = ⊎_elim (λ (y : list_any (is_closing_of c) l ≡ true). absurd (h y))
      (λ (n : list_any (is_closing_of c) l ≡ false). n) (cases_Bool (list_any (is_closing_of c) l))

  none_before : list_any (is_closing_of c) (reverse e.past) ≡ false
  none_before = none_else (reverse e.past) (λ h.
      let f = found (is_closing_of c) (reverse e.past) h in
      let is : journal ≡ f.before ++ f.it ∷ (f.after ++ e.entry ∷ reverse e.later) =
      closing ∙ ap (λ (l : List (Entry ServerNote)). l ++ e.entry ∷ reverse e.later) f.is
      ∙ append_assoc f.before (f.it ∷ f.after) (e.entry ∷ reverse e.later) in
      let place : past_of f.before ≡ e.past =
      same_place f.before f.it (f.after ++ e.entry ∷ reverse e.later) is f.holds in
      let long : length (past_of f.before) ≡ length e.past = ap length place in
      let here : length (past_of f.before) ≡ length f.before = length-reverse f.before in
      let there : length (reverse e.past) ≡ length e.past = length-reverse e.past in
      let cut : length (reverse e.past) ≡ length (f.before ++ f.it ∷ f.after) = ap length f.is in
      let parts : length (f.before ++ f.it ∷ f.after) ≡ length f.before + suc (length f.after) =
      length-append f.before (f.it ∷ f.after) in
      omega (arith, long, here, there, cut, parts))

  none_after : list_any (is_closing_of c) (reverse e.later) ≡ false
  none_after = none_else (reverse e.later) (λ h.
      let f = found (is_closing_of c) (reverse e.later) h in
      let is : journal ≡ (reverse e.past ++ e.entry ∷ f.before) ++ f.it ∷ f.after =
      closing ∙ ap (λ (l : List (Entry ServerNote)). reverse e.past ++ e.entry ∷ l) f.is
      ∙ sym (append_assoc (reverse e.past) (e.entry ∷ f.before) (f.it ∷ f.after)) in
      let place : past_of (reverse e.past ++ e.entry ∷ f.before) ≡ e.past =
      same_place (reverse e.past ++ e.entry ∷ f.before) f.it f.after is f.holds in
      let long : length (past_of (reverse e.past ++ e.entry ∷ f.before)) ≡ length e.past =
      ap length place in
      let here : length (past_of (reverse e.past ++ e.entry ∷ f.before))
      ≡ length (reverse e.past ++ e.entry ∷ f.before) =
      length-reverse (reverse e.past ++ e.entry ∷ f.before) in
      let parts : length (reverse e.past ++ e.entry ∷ f.before)
      ≡ length (reverse e.past) + suc (length f.before) =
      length-append (reverse e.past) (e.entry ∷ f.before) in
      let there : length (reverse e.past) ≡ length e.past = length-reverse e.past in
      omega (arith, long, here, there, parts))

  pub is_taken : list_any (accepts_connection c) journal ≡ true → IsTaken steps idle journal c
  is_taken h = record {
    came = came h;
    within = within_bytes journal [] nothing_behind e.now e.course;
    before = reverse e.past;
    word = e.word;
    once = record {
      closing = e.entry;
      after = reverse e.later;
      is = closing;
      closes = e.closes;
      accepted = any_round (accepts_connection c) e.past e.accepted;
      none_before = none_before;
      none_after = none_after;
    };
    cause = by_word e.word e.because;
    records = λ ne. records_are journal [] nothing_behind e.now e.course
        (had_memory e.now.kept e.word (had_of e.owner all) e.past e.because ne);
    each = goes_on;
  }
