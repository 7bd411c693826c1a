-- The notes of a run over a script.
use Rattle.std.proofs.Common.{ℕ, ◌≡◌, ◌≢◌, ◌≤◌, ◌<◌, ◌^◌, ◌∙◌, ◌==◌, Bool, true, false, cond, ◌||◌}
use Rattle.std.proofs.Common.{List, [], ◌∷◌, ◌++◌, length, sym, ap, subst, arith, refl, Option}
use Rattle.std.proofs.Common.{Some, None, flat_map}
use Rattle.std.proofs.Common.{length-append}
use Rattle.std.specs.List.{AllByRecursion, list_any, sum_by}
use Rattle.std.proofs.lemmas.Bool.{false≢true, both_ways, eq-eqb}
use Rattle.std.proofs.lemmas.List.{length-take}
use Rattle.std.proofs.lemmas.List.Sums.{sum_by-cons, sum_by-append}
use Rattle.laws_script_taken.specs.ev_types.specs.declared.upcall.Answer.{Answer}
use Rattle.laws_script_taken.specs.ev_types.specs.declared.upcall.Handle.{Handle}
use Rattle.laws_script_taken.specs.ev_base.specs.Terms.{Terms}
use Rattle.laws_script_taken.specs.reactor_journal.specs.declared.entry.Entry.{Entry}
use Rattle.laws_script_taken.specs.reactor_journal.specs.declared.entry.Entry.TheVariants.{Returned}
use Rattle.laws_script_taken.specs.reactor_journal.specs.declared.entry.Entry.TheVariants.{Refused}
use Rattle.laws_script_taken.specs.reactor_journal.specs.declared.entry.Entry.TheVariants.{Closed}
use Rattle.laws_script_taken.specs.reactor_model.specs.Handling.{Handling}
use Rattle.laws_script_taken.specs.cdr_record.specs.declared.record.LogRecord.{LogRecord}
use Rattle.laws_script_taken.specs.cdr_record.specs.Decoding.{decode}
use Rattle.laws_script_taken.specs.log_lines.specs.declared.end_kind.EndKind.{EndKind}
use Rattle.laws_script_taken.specs.log_lines.specs.declared.end_kind.EndKind.TheVariants
    as end
use Rattle.laws_script_taken.specs.log_handler.specs.declared.note.ServerNote.{ServerNote}
use Rattle.laws_script_taken.specs.log_handler.specs.declared.note.ServerNote.TheVariants
    as note
use Rattle.laws_script_taken.specs.event_script.specs.Script.{ScriptGroup}
use Rattle.laws_script_taken.specs.event_script.specs.Script.{ScriptStep}
use Rattle.laws_script_taken.specs.event_script.specs.Script.{steps_of}
use Rattle.laws_script_taken.specs.event_script.specs.Stories.{bytes_of}
use Rattle.laws_script_taken.specs.ev_types.specs.declared.upcall.Why.{Why}
use Rattle.laws_script_taken.specs.reactor_journal.specs.Event.{Item, Origin}
use Rattle.laws_script_taken.specs.reactor_journal.specs.Past.{past_of}
use Rattle.laws_script_taken.specs.reactor_journal.proofs.Turning.{past_split}
use Rattle.laws_script_taken.specs.laws_script_runs.specs.Connections.{is_entry_of, is_note_of}
use Rattle.laws_script_taken.specs.laws_script_runs.specs.Connections.{IsLeft, SaysLast}
use Rattle.laws_script_taken.specs.laws_script_runs.specs.Connections.{LeavesOffered}
use Rattle.laws_script_taken.specs.laws_script_runs.specs.Steps.{EachStep}
use Rattle.laws_script_taken.specs.laws_script_complete.specs.Complete.{took_for}
use Rattle.laws_script_taken.specs.Laws.{RunsSomehow}
use Rattle.laws_script_taken.specs.Taken.{accepts_connection, IsTaken, IsClosedAs, ClosesAs, took}
use Rattle.laws_script_taken.specs.Taken.{noted, records_for, taken, is_closing_of, finishes}
use Rattle.laws_script_taken.proofs.Accepted.{accepted_before}
use Rattle.laws_script_taken.proofs.Connections.{connections_taken}
use Rattle.laws_script_taken.proofs.Places.{holds_at, cuts, Cuts, same_cut, first_cut, second_cut}
use Rattle.laws_journal_limits.specs.Laws.{ScriptIsWithin}
use Rattle.journal_reader.specs.Limits.{EndIsWithin, NoteIsWithin, RecordIsWithin, IsNumber}
use Rattle.laws_journal_limits.proofs.Records.{records_within, few_records, bytes_take}
use Rattle.laws_journal_limits.proofs.Records.{partial_within, malformed_within}

-- ---- parts of lists

any_before : {A : Type 0} (p : A → Bool) (xs ys : List A) → list_any p xs ≡ true
    → list_any p (xs ++ ys) ≡ true
any_before p [] ys h = absurd (false≢true h)
any_before p (x ∷ xs) ys h = by (p x) h (any_before p xs ys)
  where
    by : (b : Bool) → (b || list_any p xs) ≡ true
        → (list_any p xs ≡ true → list_any p (xs ++ ys) ≡ true)
        → (b || list_any p (xs ++ ys)) ≡ true
    by true h more = refl
    by false h more = more h

part_of_sum : {A : Type 0} (f : A → ℕ) (before : List A) (x : A) (after : List A)
    → f x ≤ sum_by f (before ++ x ∷ after)
part_of_sum f before x after =
    let all = sum_by-append f before (x ∷ after) in
    let rest = sum_by-cons f x after in
    omega (arith, all, rest)

part_of_all : {A B : Type 0} (P : B → Type 0) (f : A → List B) (before : List A) (x : A)
    (after : List A) → AllByRecursion P (flat_map f (before ++ x ∷ after))
    → AllByRecursion P (f x) × (length (f x) ≤ length (flat_map f (before ++ x ∷ after)))
part_of_all {A} {B} P f [] x after h =
    (front (f x) (flat_map f after) h, fewer (f x) (flat_map f after))
  where
    front : (xs ys : List B) → AllByRecursion P (xs ++ ys) → AllByRecursion P xs
    front [] ys h = tt
    front (x ∷ xs) ys h = (h.0, front xs ys h.1)

    fewer : (xs ys : List B) → length xs ≤ length (xs ++ ys)
    fewer xs ys = let both = length-append xs ys in omega (arith, both)
part_of_all {A} {B} P f (y ∷ before) x after h =
    let rest = part_of_all P f before x after
    (behind (f y) (flat_map f (before ++ x ∷ after)) h) in
    (rest.0, more (f y) (flat_map f (before ++ x ∷ after)) rest.1)
  where
    behind : (xs ys : List B) → AllByRecursion P (xs ++ ys) → AllByRecursion P ys
    behind [] ys h = h
    behind (x ∷ xs) ys h = behind xs ys h.1

    more : (xs ys : List B) → length (f x) ≤ length ys → length (f x) ≤ length (xs ++ ys)
    more xs ys le = let both = length-append xs ys in omega (arith, le, both)

-- a test that holds at one place alone
only_there : {A : Type 0} (p : A → Bool) (xs : List A) (a : A) (ys us : List A) (b : A)
    (vs : List A) → xs ++ a ∷ ys ≡ us ++ b ∷ vs → p a ≡ true → list_any p us ≡ false
    → list_any p vs ≡ false → a ≡ b
only_there p xs a ys us b vs same holds none_before none_after = by (cuts xs a ys us b vs same)
  where
    by : Cuts xs a ys us b vs → a ≡ b
    by (same_cut i j k) = j
    by (first_cut m i k) = absurd (both_ways _ none_before
        (ap (list_any p) i ∙ holds_at p xs a m holds))
    by (second_cut m i k) = absurd (both_ways _ none_after
        (ap (list_any p) k ∙ holds_at p m a ys holds))

-- ---- the notes

module _ {H E : Type 0} (means : Handling H E ServerNote) (t : Terms) (idle : Option ℕ)
    (groups : List ScriptGroup) (journal : List (Entry ServerNote))
    (r : RunsSomehow means t idle groups journal) (script : ScriptIsWithin groups) where
  abbrev steps : List ScriptStep
  steps = steps_of groups

  module _ (c : ℕ) (accepted : list_any (accepts_connection c) journal ≡ true) where
    its : IsTaken steps idle journal c
    its = connections_taken means t idle groups journal r c accepted

    number_within : IsNumber c
    number_within = let came = its.came in let few = script.connections in omega (arith, came, few)

    took_within : IsNumber (took c journal)
    took_within = let all = its.within in let few = script.lengths c in omega (arith, all, few)

    bytes_taken : (entries : List (Entry ServerNote)) → length (taken c steps entries) < 2 ^ 64
    bytes_taken entries =
        let few = script.lengths c in
        let least = length-take (took c entries) (bytes_of c steps) in
        omega (arith, few, least)

    of_taken : (entries : List (Entry ServerNote)) (records : List LogRecord)
        → records ≡ (decode (taken c steps entries)).records
        → AllByRecursion RecordIsWithin records × IsNumber (length records)
    of_taken entries records is = (
      subst (λ (l : List LogRecord). AllByRecursion RecordIsWithin l) (sym is)
          (records_within (taken c steps entries)
          (bytes_take (took c entries) (bytes_of c steps) (script.bytes c))),
      subst (λ (l : List LogRecord). IsNumber (length l)) (sym is)
          (fewer (few_records (taken c steps entries)) (bytes_taken entries)),
    )
      where
        fewer : {n m : ℕ} → n ≤ m → m < 2 ^ 64 → n < 2 ^ 64
        fewer le lt = omega (arith, le, lt)

    noted_within : AllByRecursion RecordIsWithin (noted c journal)
        × IsNumber (length (noted c journal))
    noted_within = by its.word its.cause its.records
      where
        by : (word : EndKind) → IsClosedAs word c steps idle journal its.before
            → (word ≢ end.NoMemory → noted c journal ≡ (decode (taken c steps journal)).records)
            → AllByRecursion RecordIsWithin (noted c journal) × IsNumber (length (noted c journal))
        by end.NoMemory lost records = of_taken lost.before (noted c journal) lost.records
        by end.End cause records = of_taken journal (noted c journal) (records (λ q. cc))
        by (end.Partial n) cause records = of_taken journal (noted c journal) (records (λ q. cc))
        by (end.Malformed n) cause records = of_taken journal (noted c journal) (records (λ q. cc))
        by end.Failed cause records = of_taken journal (noted c journal) (records (λ q. cc))
        by end.Idle cause records = of_taken journal (noted c journal) (records (λ q. cc))
        by end.Stopped cause records = of_taken journal (noted c journal) (records (λ q. cc))
        by end.Refused cause records = of_taken journal (noted c journal) (records (λ q. cc))

    end_within : (word : EndKind) (before : List (Entry ServerNote))
        → IsClosedAs word c steps idle journal before → EndIsWithin word
    end_within end.End before cause = tt
    end_within (end.Partial n) before cause =
        let le = partial_within (taken c steps journal) n cause.stops in
        let few = bytes_taken journal in omega (arith, le, few)
    end_within (end.Malformed at) before cause = malformed_within (taken c steps journal) at cause
    end_within end.Failed before cause = tt
    end_within end.NoMemory before cause = tt
    end_within end.Idle before cause = tt
    end_within end.Stopped before cause = tt
    end_within end.Refused before cause = tt

  -- ---- a note at its place

  module _ (before : List (Entry ServerNote)) (e : Entry ServerNote)
      (after : List (Entry ServerNote)) (is : journal ≡ before ++ e ∷ after) where
    was_accepted : (c : ℕ) → is_entry_of c e ≡ true
        → list_any (accepts_connection c) journal ≡ true
    was_accepted c mine = ap (list_any (accepts_connection c)) is
        ∙ any_before (accepts_connection c) before (e ∷ after)
        (accepted_before means t idle groups journal r c before e after is mine)

    took_here : (c : ℕ) → took_for c e ≤ took c journal
    took_here c = subst (λ (l : List (Entry ServerNote)). took_for c e ≤ took c l) (sym is)
        (part_of_sum (took_for c) before e after)

    noted_here : (c : ℕ) → list_any (accepts_connection c) journal ≡ true
        → AllByRecursion RecordIsWithin (records_for c e) × IsNumber (length (records_for c e))
    noted_here c accepted =
        let all = noted_within c accepted in
        let here = part_of_all RecordIsWithin (records_for c) before e after
        (subst (λ (l : List (Entry ServerNote)). AllByRecursion RecordIsWithin (noted c l)) is
        all.0)
        in
        let fewer : length (records_for c e) ≤ length (noted c journal) =
        subst (λ (l : List (Entry ServerNote)). length (records_for c e) ≤ length (noted c l))
        (sym is) here.1 in
        (here.0, least fewer all.1)
      where
        least : {n m : ℕ} → n ≤ m → m < 2 ^ 64 → n < 2 ^ 64
        least le lt = omega (arith, le, lt)

    finished_here : (c : ℕ) (word : EndKind) → list_any (accepts_connection c) journal ≡ true
        → is_closing_of c e ≡ true
        → ((word' : EndKind) → ClosesAs c word' e → word' ≡ word) → EndIsWithin word
    finished_here c word accepted closes named =
        let taken = its c accepted in
        let same : e ≡ taken.once.closing = only_there (is_closing_of c) before e after taken.before
        taken.once.closing taken.once.after (sym is ∙ taken.once.is) closes taken.once.none_before
        taken.once.none_after in
        subst EndIsWithin
        (named taken.word (subst (ClosesAs c taken.word) (sym same) taken.once.closes))
        (end_within c accepted taken.word taken.before taken.cause)

  same_number : (c : ℕ) → (c == c) ≡ true
  same_number c = eq-eqb c c refl

  pub returned_within : (before : List (Entry ServerNote)) (event : ℕ) (answer : Answer)
      (said : ServerNote) (after : List (Entry ServerNote))
      → journal ≡ before ++ Returned event answer said ∷ after → NoteIsWithin said
  returned_within before event answer (note.Accepted conn) after is =
      number_within conn (ap (list_any (accepts_connection conn)) is
      ∙ holds_at (accepts_connection conn) before (Returned event answer (note.Accepted conn)) after
      (same_number conn))
  returned_within before event answer note.NoneWaiting after is = tt
  returned_within before event answer note.ListenerFailed after is = tt
  returned_within before event answer note.ListenerShut after is = tt
  returned_within before event answer (note.Piece conn bytes records) after is =
      let e = Returned event answer (note.Piece conn bytes records) in
      let accepted = was_accepted before e after is conn (same_number conn) in
      let here = noted_here before e after is conn accepted in
      let kept : records_for conn e ≡ records =
      ap (λ (b : Bool). cond b records []) (same_number conn)
      in
      let took_this : bytes ≤ took conn journal =
      subst (λ (n : ℕ). n ≤ took conn journal)
      (ap (λ (b : Bool). cond b bytes 0) (same_number conn))
      (took_here before e after is conn) in (
        number_within conn accepted,
        least took_this (took_within conn accepted),
        subst (λ (l : List LogRecord). IsNumber (length l)) kept here.1,
        subst (λ (l : List LogRecord). AllByRecursion RecordIsWithin l) kept here.0,
      )
    where
      least : {n m : ℕ} → n ≤ m → m < 2 ^ 64 → n < 2 ^ 64
      least le lt = omega (arith, le, lt)
  returned_within before event answer (note.Finished conn word) after is =
      let e = Returned event answer (note.Finished conn word) in
      let accepted = was_accepted before e after is conn (same_number conn) in (
        number_within conn accepted,
        finished_here before e after is conn word accepted (same_number conn) (λ w h. absurd h),
      )

  -- ---- what a handler leaves

  each_at : {N : Type 0} (P : List (Entry N) → Entry N → Type 0) (later past : List (Entry N))
      (e : Entry N) → EachStep P (later ++ e ∷ past) → P past e
  each_at P [] past e h = h.0
  each_at P (x ∷ later) past e h = each_at P later past e h.1

  module _ (before : List (Entry ServerNote)) (e : Entry ServerNote)
      (after : List (Entry ServerNote)) (is : journal ≡ before ++ e ∷ after) (said : ServerNote)
      (of_note : (c : ℕ) → is_note_of c said ≡ true → is_entry_of c e ≡ true)
      (of_end : (c : ℕ) → finishes c said ≡ true → is_closing_of c e ≡ true)
      (says : (c : ℕ) (word : EndKind) → ClosesAs c word e → said ≡ note.Finished c word)
    where
      finished_within : (c : ℕ) (word : EndKind) → said ≡ note.Finished c word → NoteIsWithin said
      finished_within c word q =
          let mine : is_note_of c said ≡ true = ap (is_note_of c) q ∙ same_number c in
          let ends : finishes c said ≡ true = ap (finishes c) q ∙ same_number c in
          let accepted = was_accepted before e after is c (of_note c mine) in
          subst NoteIsWithin (sym q) (
            number_within c accepted,
            finished_here before e after is c word accepted (of_end c ends)
                (λ w h. same_word (sym (says c w h) ∙ q)),
          )
        where
          same_word : {w v : EndKind} → note.Finished c w ≡ note.Finished c v → w ≡ v
          same_word q = cc

      pub left_within : (origin : Option (Origin ServerNote)) (had : List (Item ServerNote))
          (reason : Why) → SaysLast steps idle origin had reason said → NoteIsWithin said
      left_within None had reason leaves = subst NoteIsWithin (sym leaves.notes) tt
      left_within (Some o) had reason leaves = by o.note leaves
        where
          by : (n : ServerNote) → LeavesOffered steps idle n o.moment had reason said
              → NoteIsWithin said
          by (note.Accepted c) h = finished_within c h.word h.notes
          by note.NoneWaiting h = absurd h
          by note.ListenerFailed h = absurd h
          by note.ListenerShut h = absurd h
          by (note.Piece conn bytes records) h = absurd h
          by (note.Finished conn word) h = absurd h

  pub closed_within : (before : List (Entry ServerNote)) (handle : Handle) (said : ServerNote)
      (after : List (Entry ServerNote)) → journal ≡ before ++ Closed handle said ∷ after
      → NoteIsWithin said
  closed_within before handle said after is =
      left_within before (Closed handle said) after is said (λ c h. h) (λ c h. h) (λ c w h. h.0) _ _
      _
      (each_at (IsLeft steps idle) (past_of after) (past_of before) (Closed handle said)
      (subst (EachStep (IsLeft steps idle)) (ap past_of is
      ∙ past_split before after (Closed handle said)) r.turns))

  pub refused_within : (before : List (Entry ServerNote)) (live : ℕ) (fault : Bool)
      (said : ServerNote) (after : List (Entry ServerNote))
      → journal ≡ before ++ Refused live fault said ∷ after → NoteIsWithin said
  refused_within before live fault said after is =
      left_within before (Refused live fault said) after is said (λ c h. h) (λ c h. h)
      (λ c w h. h.0) _ _ _
      (each_at (IsLeft steps idle) (past_of after) (past_of before) (Refused live fault said)
      (subst (EachStep (IsLeft steps idle)) (ap past_of is
      ∙ past_split before after (Refused live fault said)) r.turns))
