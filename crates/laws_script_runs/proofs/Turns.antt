-- The turns of each handler of a whole journal over a script.
use Rattle.std.proofs.Common.{ℕ, zero, suc, ◌≡◌, ◌≢◌, ◌==◌, ◌+◌, ◌⊎◌, inl, inr, Bool, true, false}
use Rattle.std.proofs.Common.{cond, ◌||◌, List, [], ◌∷◌, ◌++◌, length, refl, sym, ap, ◌∙◌, subst}
use Rattle.std.proofs.Common.{arith, Option, Some, None, ⊎_elim, append-nil, append_assoc}
use Rattle.std.proofs.Common.{length-append}
use Rattle.std.specs.Prelude.{flat_map}
use Rattle.std.specs.List.{AllByRecursion}
use Rattle.std.proofs.lemmas.Grind.{flat_map-append}
use Rattle.std.proofs.lemmas.Bool.{false≢true, and_parts, both_ways, cases_Bool, eqb-true, eq-eqb}
use Rattle.std.proofs.lemmas.Bool.{ne_eqb}
use Rattle.reactor_model.specs.ev_types.specs.declared.upcall.Handle.{Handle}
use Rattle.reactor_model.specs.ev_types.specs.declared.upcall.Answer.{Answer}
use Rattle.reactor_model.specs.ev_types.specs.declared.upcall.Mask.{Mask}
use Rattle.reactor_model.specs.reactor_journal.specs.Event.{Event, Item, Origin}
use Rattle.reactor_model.specs.reactor_journal.specs.declared.entry.Entry.{Entry}
use Rattle.reactor_model.specs.reactor_journal.specs.declared.entry.Entry.TheVariants.{Opened}
use Rattle.reactor_model.specs.reactor_journal.specs.declared.entry.Entry.TheVariants.{Scheduled}
use Rattle.reactor_model.specs.reactor_journal.specs.declared.entry.Entry.TheVariants.{Cancelled}
use Rattle.reactor_model.specs.reactor_journal.specs.declared.entry.Entry.TheVariants.{Polled, Due}
use Rattle.reactor_model.specs.reactor_journal.specs.declared.entry.Entry.TheVariants.{Ready}
use Rattle.reactor_model.specs.reactor_journal.specs.declared.entry.Entry.TheVariants.{Posted}
use Rattle.reactor_model.specs.reactor_journal.specs.declared.entry.Entry.TheVariants.{Stale}
use Rattle.reactor_model.specs.reactor_journal.specs.declared.entry.Entry.TheVariants.{Started}
use Rattle.reactor_model.specs.reactor_journal.specs.declared.entry.Entry.TheVariants.{Returned}
use Rattle.reactor_model.specs.reactor_journal.specs.declared.entry.Entry.TheVariants.{Masked}
use Rattle.reactor_model.specs.reactor_journal.specs.declared.entry.Entry.TheVariants.{Suspended}
use Rattle.reactor_model.specs.reactor_journal.specs.declared.entry.Entry.TheVariants.{Resumed}
use Rattle.reactor_model.specs.reactor_journal.specs.declared.entry.Entry.TheVariants.{Refused}
use Rattle.reactor_model.specs.reactor_journal.specs.declared.entry.Entry.TheVariants.{Removed}
use Rattle.reactor_model.specs.reactor_journal.specs.declared.entry.Entry.TheVariants.{Closed}
use Rattle.reactor_model.specs.reactor_journal.specs.declared.entry.Entry.TheVariants.{Ended}
use Rattle.reactor_model.specs.reactor_journal.specs.Past.{had, items_made, item_of, origin_of}
use Rattle.reactor_model.specs.reactor_journal.specs.Past.{reason_of, offered_here, opens}
use Rattle.reactor_model.specs.reactor_journal.specs.Past.{was_opened, was_closed, event_at}
use Rattle.reactor_model.specs.reactor_journal.specs.Past.{belongs_to, started_at}
use Rattle.reactor_model.specs.reactor_journal.specs.Follow.{may_follow, is_legal}
use Rattle.reactor_model.specs.reactor_journal.proofs.Basics.{may_fits}
use Rattle.reactor_model.specs.reactor_journal.proofs.Closing.{closing}
use Rattle.reactor_model.specs.reactor_journal.proofs.HadLaw.{returned_is_open}
use Rattle.reactor_model.specs.reactor_journal.proofs.Turning.{is_legal-front}
use Rattle.laws_script_turns.specs.acceptor.specs.Laws.{number_in, number_accepted}
use Rattle.laws_script_turns.specs.acceptor.proofs.Accounts as acceptor_accounts
use Rattle.laws_script_told.specs.log_handler.specs.declared.note.ServerNote.{ServerNote}
use Rattle.laws_script_told.specs.log_handler.specs.declared.note.ServerNote.TheVariants as note
use Rattle.laws_script_told.specs.log_handler.specs.Laws.{IsPieceOf}
use Rattle.laws_script_told.specs.log_handler.proofs.Accounts.{accounts}
use Rattle.laws_script_turns.specs.event_script.specs.Script.{ScriptStep}
use Rattle.laws_script_told.specs.log_handler.specs.log_lines.specs.Texts.{record_lines}
use Rattle.laws_script_told.specs.log_handler.specs.Notes.{note_lines}
use Rattle.laws_script_told.specs.log_handler.specs.Laws.{records_of_note}
use Rattle.reactor_model.specs.reactor_journal.proofs.Closing.{Gone, closed_gone}
use Rattle.laws_script_runs.specs.Connections.{lines_in, SaysLast, LeavesOffered, ListensThrough}
use Rattle.laws_script_runs.specs.Connections.{TalksThrough, IsLeft, AreLeft, accepted}
use Rattle.std.specs.List.{list_any}
use Rattle.laws_script_runs.specs.Runs.{note_settled, is_accepted, is_refusal}
use Rattle.laws_script_runs.specs.Steps.{EachStep}
use Rattle.laws_script_runs.proofs.Handles.{Found, found, had_found, had_closed, IsBegun}
use Rattle.laws_script_runs.proofs.Handles.{origin_first, offered}
use Rattle.laws_script_runs.proofs.Notes.{Listens, is_listening, course_listens, all_last}
use Rattle.laws_script_runs.proofs.Notes.{number_next, of_none}
use Rattle.laws_script_runs.proofs.Numbering.{IsNumbered, NumberedNote}
use Rattle.laws_script_runs.proofs.OwnLines.{Lines, recorded, recorded_more, going}
use Rattle.laws_script_runs.proofs.OwnLines.{ended_by, lines_same, piece_lines, own_lines}
use Rattle.laws_script_runs.proofs.OwnLines.{finished_lines, own_closing}
use Rattle.laws_script_runs.proofs.Offering.{RefusedOffers}
use Rattle.laws_script_runs.proofs.Settling as settling
use Rattle.laws_script_runs.proofs.Settling.{each_front, opened_later, origin_still, offered_note}

module _ (most : ℕ) (steps : List ScriptStep) (idle : Option ℕ) (all : List (Entry ServerNote))
    (legal : is_legal most all ≡ true) (begun : EachStep IsBegun all)
    (left : AreLeft steps idle all)
    (closed : (x : ℕ) → was_opened all x ≡ true → was_closed all x ≡ true) where
  -- what the handler of x leaves, by its origin and all its turns
  pub record Left (x : ℕ) : Type 0 where
    pub f : Found (IsLeft steps idle) all x
    pub opened_before : was_opened f.before x ≡ true
    pub leaves : SaysLast steps idle (origin_of all x) (had all x) (reason_of f.before x) f.said

  pub left_by : (x : ℕ) → was_opened all x ≡ true → Left x
  left_by x o =
      let f = found (IsLeft steps idle) all x (closed x o) left in
      let here : is_legal most (Closed f.handle f.said ∷ f.before) ≡ true =
      is_legal-front most f.later _ (sym (ap (is_legal most) f.is) ∙ legal) in
      let w = closing f.before f.handle.0
      (may_fits most f.before (Closed f.handle f.said) (and_parts _ _ here).0) in
      let opened_here : was_opened f.before x ≡ true =
      subst (λ (y : ℕ). was_opened f.before y ≡ true) f.mine w.0 in
      let later : List (Entry ServerNote) = f.later ++ Closed f.handle f.said ∷ [] in
      let whole : all ≡ later ++ f.before =
      f.is ∙ sym (append_assoc f.later (Closed f.handle f.said ∷ []) f.before) in
      let origin : origin_of all x ≡ origin_of f.before x =
      ap (λ (p : List (Entry ServerNote)). origin_of p x) whole
      ∙ origin_still most later f.before x (sym (ap (is_legal most) whole) ∙ legal) opened_here
      in
      record {
        f = f;
        opened_before = opened_here;
        leaves = subst (λ (o : Option (Origin ServerNote)).
            SaysLast steps idle o (had all x) (reason_of f.before x) f.said) (sym origin)
            (subst (λ (h : List (Item ServerNote)).
            SaysLast steps idle (origin_of f.before x) h (reason_of f.before x) f.said)
            (sym (had_found most (IsLeft steps idle) all x legal f))
            (subst (λ (y : ℕ). SaysLast steps idle (origin_of f.before y) (had f.before y)
            (reason_of f.before y) f.said) f.mine f.left));
      }

  -- the acceptor
  pub acceptor : (o : was_opened all 0 ≡ true)
      → ListensThrough steps (had all 0) (left_by 0 o).f.said
  acceptor o = let l = left_by 0 o in
      subst (λ (origin : Option (Origin ServerNote)).
      SaysLast steps idle origin (had all 0) (reason_of l.f.before 0) l.f.said)
      (origin_first most all legal begun) l.leaves

  -- a connection
  pub record Talks (c : ℕ) (before : List (Entry ServerNote)) (said : ServerNote) : Type 0 where
    pub number : ℕ
    pub moment : ℕ
    pub origin : origin_of all (suc c)
        ≡ Some (record { note = note.Accepted number; moment = moment })
    pub talks : TalksThrough steps idle number moment (had all (suc c)) (reason_of before (suc c))
        said

  talks_by : (c : ℕ) (before : List (Entry ServerNote)) (said : ServerNote)
      (said_first : ServerNote) (moment : ℕ)
      → origin_of all (suc c) ≡ Some (record { note = said_first; moment = moment })
      → LeavesOffered steps idle said_first moment (had all (suc c)) (reason_of before (suc c)) said
      → Talks c before said
  talks_by c before said (note.Accepted k) moment o h =
      record { number = k; moment = moment; origin = o; talks = h }
  talks_by c before said note.NoneWaiting moment o h = absurd h
  talks_by c before said note.ListenerFailed moment o h = absurd h
  talks_by c before said note.ListenerShut moment o h = absurd h
  talks_by c before said (note.Piece conn took records) moment o h = absurd h
  talks_by c before said (note.Finished conn end) moment o h = absurd h

  pub connection : (c : ℕ) (o : was_opened all (suc c) ≡ true)
      → Talks c (left_by (suc c) o).f.before (left_by (suc c) o).f.said
  connection c o =
      let l = left_by (suc c) o in
      let by = offered all c begun o in
      talks_by c l.f.before l.f.said by.origin.note by.origin.moment by.of_it
      (subst (λ (origin : Option (Origin ServerNote)).
      SaysLast steps idle origin (had all (suc c)) (reason_of l.f.before (suc c)) l.f.said)
      by.of_it l.leaves)

  -- a turn of a connection notes a piece
  record IsPiece (said : ServerNote) : Type 0 where
    conn : ℕ
    took : ℕ
    records : List _
    is : said ≡ note.Piece conn took records

  piece_in : (k : ℕ) (xs : List (Item ServerNote)) (item : Item ServerNote)
      (ys whole : List (Item ServerNote)) → whole ≡ (xs ++ item ∷ []) ++ ys
      → AllByRecursion (IsPieceOf k) whole → IsPieceOf k item
  piece_in k xs item ys whole is h =
      all_last (IsPieceOf k) xs item ys (subst (AllByRecursion (IsPieceOf k)) is h)

  pub listen_in : (xs : List (Item ServerNote)) (item : Item ServerNote)
      (ys whole : List (Item ServerNote)) → whole ≡ (xs ++ item ∷ []) ++ ys
      → AllByRecursion Listens whole → Listens item
  listen_in xs item ys whole is h = all_last Listens xs item ys
      (subst (AllByRecursion Listens) is h)

  pub conn_note : (c : ℕ) (event : ℕ) (answer : Answer) (said : ServerNote)
      (later past : List (Entry ServerNote)) → all ≡ later ++ Returned event answer said ∷ past
      → (t : settling.Turn most all legal event answer said past (suc c))
      → (o : was_opened all (suc c) ≡ true) → IsPieceOf (connection c o).number t.item
  conn_note c event answer said later past is t o =
      let talks = connection c o in
      piece_in talks.number (had past (suc c)) t.item t.more (had all (suc c)) t.among
      (accounts talks.number idle talks.moment _ (had all (suc c)) talks.talks.now
      talks.talks.course).notes

  pub opened_all : (later past : List (Entry ServerNote)) (e : Entry ServerNote) (x : ℕ)
      → all ≡ later ++ e ∷ past → was_opened past x ≡ true → was_opened all x ≡ true
  opened_all later past e x is o = ap (λ (p : List (Entry ServerNote)). was_opened p x) is
      ∙ opened_later later (e ∷ past) x (or_right (opens x e) (was_opened past x) o)
    where
      or_right : (b c : Bool) → c ≡ true → (b || c) ≡ true
      or_right true c h = refl
      or_right false c h = h

  -- a turn of another handler than the first accepts no connection
  not_accepting : (x : ℕ) (event : ℕ) (answer : Answer) (said : ServerNote)
      (later past : List (Entry ServerNote)) → x ≢ 0
      → all ≡ later ++ Returned event answer said ∷ past
      → settling.Turn most all legal event answer said past x → IsPiece said
  not_accepting zero event answer said later past ne is t = absurd (ne refl)
  not_accepting (suc c) event answer said later past ne is t =
      let piece = conn_note c event answer said later past is t
      (opened_all later past (Returned event answer said) (suc c) is t.opened_now) in
      record { conn = _; took = piece.0; records = piece.1; is = sym t.notes ∙ piece.2 }

  -- ---- how many connections were accepted

  accepts_one : (event : ℕ) (answer : Answer) (said : ServerNote) (past : List (Entry ServerNote))
      (n : ℕ) → accepted past ≡ n → accepted (Returned event answer said ∷ past)
      ≡ n + length (number_accepted said ++ [])
  accepts_one event answer (note.Accepted k) past n h = omega (arith, h)
  accepts_one event answer note.NoneWaiting past n h = omega (arith, h)
  accepts_one event answer note.ListenerFailed past n h = omega (arith, h)
  accepts_one event answer note.ListenerShut past n h = omega (arith, h)
  accepts_one event answer (note.Piece conn took records) past n h = omega (arith, h)
  accepts_one event answer (note.Finished conn end) past n h = omega (arith, h)

  abbrev Counts : List (Entry ServerNote) → Type 0
  Counts past = accepted past ≡ length (flat_map number_in (had past 0))

  counts_same : (e : Entry ServerNote) (past : List (Entry ServerNote))
      → accepted (e ∷ past) ≡ accepted past → items_made past 0 e ≡ [] → Counts past
      → Counts (e ∷ past)
  counts_same e past a i h = a ∙ h ∙ ap
      (λ (items : List (Item ServerNote)). length (flat_map number_in items))
      (sym (ap (λ (items : List (Item ServerNote)). had past 0 ++ items) i
      ∙ append-nil (had past 0)))

  counts_turn : (later past : List (Entry ServerNote)) (event : ℕ) (answer : Answer)
      (said : ServerNote) → all ≡ later ++ Returned event answer said ∷ past → Counts past
      → Counts (Returned event answer said ∷ past)
  counts_turn later past event answer said is h = by_handle t.x refl
    where
      t : settling.TurnOf most all legal event answer said past
      t = settling.turn_of most all legal later past event answer said is

      first : t.x ≡ 0 → Counts (Returned event answer said ∷ past)
      first e =
          let made : items_made past 0 (Returned event answer said) ≡ t.turn.item ∷ [] =
          sym (ap (λ (y : ℕ). items_made past y (Returned event answer said)) e)
          ∙ t.turn.made in
          accepts_one event answer said past _ h
          ∙ sym (ap (λ (items : List (Item ServerNote)).
          length (flat_map number_in (had past 0 ++ items))) made
          ∙ ap length (flat_map-append number_in (had past 0) (t.turn.item ∷ []))
          ∙ length-append (flat_map number_in (had past 0)) (flat_map number_in (t.turn.item ∷ []))
          ∙ ap (λ (n : ServerNote). length (flat_map number_in (had past 0))
          + length (number_accepted n ++ [])) t.turn.notes)

      other : t.x ≢ 0 → Counts (Returned event answer said ∷ past)
      other ne =
          let piece = not_accepting t.x event answer said later past ne is t.turn in
          counts_same (Returned event answer said) past
          (ap (λ (s : ServerNote). accepted (Returned event answer s ∷ past)) piece.is)
          (t.turn.others 0 (λ q. ne (sym q))) h

      by_handle : (x : ℕ) → t.x ≡ x → Counts (Returned event answer said ∷ past)
      by_handle zero e = first e
      by_handle (suc c) e = other (λ q. not_zero (sym e ∙ q))
        where
          not_zero : suc c ≡ 0 → ⊥
          not_zero q = omega arith

  shifted : (later : List (Entry ServerNote)) (e : Entry ServerNote)
      (past : List (Entry ServerNote)) → all ≡ later ++ e ∷ past → all ≡ (later ++ e ∷ []) ++ past
  shifted later e past is = is ∙ sym (append_assoc later (e ∷ []) past)

  pub counts : (later past : List (Entry ServerNote)) → all ≡ later ++ past → Counts past
  counts later [] is = refl
  counts later (Returned event answer said ∷ past) is =
      counts_turn later past event answer said is
      (counts (later ++ Returned event answer said ∷ []) past
      (shifted later (Returned event answer said) past is))
  counts later (Opened handle mask ∷ past) is =
      counts_same (Opened handle mask) past refl refl
      (counts (later ++ Opened handle mask ∷ []) past (shifted later (Opened handle mask) past is))
  counts later (Scheduled timer handle first every ∷ past) is =
      counts_same (Scheduled timer handle first every) past refl refl
      (counts (later ++ Scheduled timer handle first every ∷ []) past
      (shifted later (Scheduled timer handle first every) past is))
  counts later (Cancelled timer ∷ past) is =
      counts_same (Cancelled timer) past refl refl
      (counts (later ++ Cancelled timer ∷ []) past (shifted later (Cancelled timer) past is))
  counts later (Polled moment ∷ past) is =
      counts_same (Polled moment) past refl refl
      (counts (later ++ Polled moment ∷ []) past (shifted later (Polled moment) past is))
  counts later (Due timer ∷ past) is =
      counts_same (Due timer) past refl refl
      (counts (later ++ Due timer ∷ []) past (shifted later (Due timer) past is))
  counts later (Ready handle kind ∷ past) is =
      counts_same (Ready handle kind) past refl refl
      (counts (later ++ Ready handle kind ∷ []) past (shifted later (Ready handle kind) past is))
  counts later (Posted handle kind from seq ∷ past) is =
      counts_same (Posted handle kind from seq) past refl refl
      (counts (later ++ Posted handle kind from seq ∷ []) past
      (shifted later (Posted handle kind from seq) past is))
  counts later (Stale handle from seq ∷ past) is =
      counts_same (Stale handle from seq) past refl refl
      (counts (later ++ Stale handle from seq ∷ []) past
      (shifted later (Stale handle from seq) past is))
  counts later (Started event ∷ past) is =
      counts_same (Started event) past refl refl
      (counts (later ++ Started event ∷ []) past (shifted later (Started event) past is))
  counts later (Masked handle mask ∷ past) is =
      counts_same (Masked handle mask) past refl refl
      (counts (later ++ Masked handle mask ∷ []) past (shifted later (Masked handle mask) past is))
  counts later (Suspended handle ∷ past) is =
      counts_same (Suspended handle) past refl refl
      (counts (later ++ Suspended handle ∷ []) past (shifted later (Suspended handle) past is))
  counts later (Resumed handle ∷ past) is =
      counts_same (Resumed handle) past refl refl
      (counts (later ++ Resumed handle ∷ []) past (shifted later (Resumed handle) past is))
  counts later (Refused live fault said ∷ past) is =
      counts_same (Refused live fault said) past refl refl
      (counts (later ++ Refused live fault said ∷ []) past
      (shifted later (Refused live fault said) past is))
  counts later (Removed handle ∷ past) is =
      counts_same (Removed handle) past refl refl
      (counts (later ++ Removed handle ∷ []) past (shifted later (Removed handle) past is))
  counts later (Closed handle other ∷ past) is =
      counts_same (Closed handle other) past refl refl
      (counts (later ++ Closed handle other ∷ []) past
      (shifted later (Closed handle other) past is))
  counts later (Ended ∷ past) is = counts_same Ended past refl refl
      (counts (later ++ Ended ∷ []) past (shifted later Ended past is))

  -- ---- numbers

  registered : (later past : List (Entry ServerNote)) (d : Entry ServerNote) (handle : Handle)
      (mask : Mask) → all ≡ later ++ Opened handle mask ∷ (d ∷ past)
      → IsNumbered (d ∷ past) (Opened handle mask)
  registered later past d handle mask is = (by_handle handle.0 refl, b.0.1)
    where
      b : IsBegun (d ∷ past) (Opened handle mask) × EachStep IsBegun (d ∷ past)
      b = each_front IsBegun later (Opened handle mask ∷ (d ∷ past))
          (subst (EachStep IsBegun) is begun)

      here : is_legal most (Opened handle mask ∷ (d ∷ past)) ≡ true
      here = is_legal-front most later (Opened handle mask ∷ (d ∷ past))
          (sym (ap (is_legal most) is) ∙ legal)

      self : (handle.0 == handle.0) ≡ true
      self = eq-eqb handle.0 handle.0 refl

      opened_here : was_opened (Opened handle mask ∷ (d ∷ past)) handle.0 ≡ true
      opened_here = ap (λ (t : Bool). t || was_opened (d ∷ past) handle.0) self

      opened_now : was_opened all handle.0 ≡ true
      opened_now = ap (λ (p : List (Entry ServerNote)). was_opened p handle.0) is
          ∙ opened_later later (Opened handle mask ∷ (d ∷ past)) handle.0 opened_here

      new : (e : Entry ServerNote) (past : List (Entry ServerNote)) (x : ℕ) → opens x e ≡ true
          → origin_of (e ∷ past) x ≡ offered_here past
      new e past x o = rw (o, origin_of) refl

      origin : origin_of all handle.0 ≡ Some b.0.0.0
      origin = ap (λ (p : List (Entry ServerNote)). origin_of p handle.0) is
          ∙ origin_still most later (Opened handle mask ∷ (d ∷ past)) handle.0
          (sym (ap (is_legal most) is) ∙ legal) opened_here
          ∙ new (Opened handle mask) (d ∷ past) handle.0 self ∙ b.0.0.1

      by_handle : (x : ℕ) → handle.0 ≡ x → is_accepted (note_settled (d ∷ past)) ≡ true
      by_handle zero e = absurd (none (sym (origin_first most all legal begun)
          ∙ ap (origin_of all) (sym e) ∙ origin))
        where
          none : ◌≡◌ {A = Option (Origin ServerNote)} None (Some b.0.0.0) → ⊥
          none q = cc
      by_handle (suc c) e =
          let talks = connection c (subst (λ (x : ℕ). was_opened all x ≡ true) e opened_now) in
          let same = sym (ap (origin_of all) e ∙ talks.origin) ∙ origin in
          ap is_accepted (offered_note (d ∷ past) b.0.0.0 b.0.0.1
          ∙ ap (λ (o : Option (Origin ServerNote)).
          elim o [ None ↦ None | Some y ↦ Some y.note ]) (sym same))

  settled : (later past : List (Entry ServerNote)) (d : Entry ServerNote) (event : ℕ)
      (answer : Answer) (said : ServerNote) → all ≡ later ++ Returned event answer said ∷ (d ∷ past)
      → was_opened all 0 ≡ true
      → NumberedNote said (d ∷ past)
  settled later past d event answer (note.Accepted k) is first = by_handle t.x refl
    where
      t : settling.TurnOf most all legal event answer (note.Accepted k) (d ∷ past)
      t = settling.turn_of most all legal later (d ∷ past) event answer (note.Accepted k) is

      listens : ListensThrough steps (had all 0) (left_by 0 first).f.said
      listens = acceptor first

      by_handle : (x : ℕ) → t.x ≡ x → k ≡ accepted (d ∷ past)
      by_handle zero e =
          let turn : settling.Turn most all legal event answer (note.Accepted k) (d ∷ past) 0 =
          subst (settling.Turn most all legal event answer (note.Accepted k) (d ∷ past)) e
          t.turn in
          let account = acceptor_accounts.accounts _ (had all 0) listens.now listens.course in
          let numbers = sym (ap (flat_map number_in) turn.among) ∙ account.notes in
          number_next 0 listens.now.taken (had (d ∷ past) 0) turn.item turn.more k numbers
          turn.notes ∙ zero_more (length (flat_map number_in (had (d ∷ past) 0)))
          ∙ sym (counts (later ++ Returned event answer (note.Accepted k) ∷ []) (d ∷ past)
          (shifted later (Returned event answer (note.Accepted k)) (d ∷ past) is))
        where
          zero_more : (n : ℕ) → 0 + n ≡ n
          zero_more n = omega arith
      by_handle (suc c) e =
          let piece = not_accepting t.x event answer (note.Accepted k) later (d ∷ past)
          (λ q. not_zero (sym e ∙ q)) is t.turn in
          absurd (other piece.is)
        where
          not_zero : suc c ≡ 0 → ⊥
          not_zero q = omega arith

          other : {conn took : ℕ} {records : List _}
              → note.Accepted k ≡ note.Piece conn took records → ⊥
          other q = cc
  settled later past d event answer note.NoneWaiting is first = tt
  settled later past d event answer note.ListenerFailed is first = tt
  settled later past d event answer note.ListenerShut is first = tt
  settled later past d event answer (note.Piece conn took records) is first = tt
  settled later past d event answer (note.Finished conn end) is first = tt

  first_numbered : (e : Entry ServerNote) → IsBegun [] e → IsNumbered [] e
  first_numbered e h = subst (IsNumbered []) (sym h) refl

  one_numbered : (later past : List (Entry ServerNote)) (e d : Entry ServerNote)
      → all ≡ later ++ e ∷ (d ∷ past) → was_opened all 0 ≡ true → RefusedOffers (d ∷ past) e
      → IsNumbered (d ∷ past) e
  one_numbered later past (Opened handle mask) d is first offers =
      registered later past d handle mask is
  one_numbered later past (Returned event answer said) d is first offers =
      settled later past d event answer said is first
  one_numbered later past (Refused live fault said) d is first offers = offers
  one_numbered later past _ d is first offers = tt

  -- each connection has its number
  pub numbered : (later past : List (Entry ServerNote)) → all ≡ later ++ past
      → was_opened all 0 ≡ true → EachStep RefusedOffers past → EachStep IsNumbered past
  numbered later [] is first offers = tt
  numbered later (e ∷ []) is first offers = (
    first_numbered e (each_front IsBegun later (e ∷ []) (subst (EachStep IsBegun) is begun)).0,
    tt,
  )
  numbered later (e ∷ (d ∷ past)) is first offers = (
    one_numbered later past e d is first offers.0,
    numbered (later ++ e ∷ []) (d ∷ past) (shifted later e (d ∷ past) is) first offers.1,
  )

  -- ---- the lines of a connection

  pub left_front : (later past : List (Entry ServerNote)) → AreLeft steps idle (later ++ past)
      → AreLeft steps idle past
  left_front [] past h = h
  left_front (e ∷ later) past h = left_front later past h.1

  -- each connection has the number of its handle
  abbrev pub AreNumbered : Type 0
  AreNumbered = (c : ℕ) (o : was_opened all (suc c) ≡ true) → (connection c o).number ≡ c

  lines_returned : (numbers : AreNumbered) (c : ℕ) (later past : List (Entry ServerNote))
      (event : ℕ) (answer : Answer) (said : ServerNote)
      → all ≡ later ++ Returned event answer said ∷ past → was_opened all 0 ≡ true
      → Lines c past → Lines c (Returned event answer said ∷ past)
  lines_returned numbers c later past event answer said is first so =
      by_handle t.x t.turn (is_same t.x (suc c))
    where
      t : settling.TurnOf most all legal event answer said past
      t = settling.turn_of most all legal later past event answer said is

      is_same : (a b : ℕ) → (a ≡ b) ⊎ (a ≢ b)
      is_same a b = ⊎_elim (λ (h : (a == b) ≡ true). inl (eqb-true a b h))
          (λ (h : (a == b) ≡ false). inr (λ q. both_ways _ h (eq-eqb a b q))) (cases_Bool (a == b))

      here : is_legal most (Returned event answer said ∷ past) ≡ true
      here = is_legal-front most later (Returned event answer said ∷ past)
          (sym (ap (is_legal most) is) ∙ legal)

      mine : (turn : settling.Turn most all legal event answer said past (suc c)) → Lines c past
          → Lines c (Returned event answer said ∷ past)
      mine turn (ended_by l h s b i m shut lines) =
          absurd (not_open (belongs_made (event_at past event) turn.made))
        where
          gone : Gone past (suc c)
          gone = closed_gone most past (suc c)
              (and_parts (may_follow most past (Returned event answer said)) (is_legal most past)
              here).1 shut

          not_open : belongs_to (suc c) (event_at past event) ≡ true → ⊥
          not_open h = gone.idle event (returned_is_open most past (Returned event answer said)
              event (and_parts (may_follow most past (Returned event answer said))
              (is_legal most past) here).0 (eq-eqb event event refl)) h

          belongs_made : (ev : Option Event)
              → item_of (suc c) ev (started_at past event) answer said ≡ turn.item ∷ []
              → belongs_to (suc c) ev ≡ true
          belongs_made None h = absurd (none h)
            where
              none : ◌≡◌ {A = List (Item ServerNote)} [] (turn.item ∷ []) → ⊥
              none q = cc
          belongs_made (Some ev) h = by_test (ev.handle == suc c) h
            where
              by_test : (b : Bool) → cond b (record {
                upcall = ev.upcall;
                moment = started_at past event;
                answer = answer;
                note = said;
              } ∷ []) [] ≡ turn.item ∷ []
                  → b ≡ true
              by_test true h = refl
              by_test false h = absurd (none h)
                where
                  none : ◌≡◌ {A = List (Item ServerNote)} [] (turn.item ∷ []) → ⊥
                  none q = cc
      mine turn (going open_ lines) =
          let o = opened_all later past (Returned event answer said) (suc c) is turn.opened_now in
          let piece = conn_note c event answer said later past is turn o in
          going open_
          (ap (λ (l : List ℕ). l ++ lines_in c (Returned event answer said)) lines
          ∙ ap (λ (l : List ℕ). recorded c (had past (suc c)) ++ l)
          (own_lines c (connection c o).number event answer said piece.0 piece.1
          (sym turn.notes ∙ piece.2) (numbers c o)
          ∙ ap (λ (s : ServerNote). record_lines c (records_of_note s)) (sym turn.notes))
          ∙ sym (recorded_more c (had past (suc c)) turn.item)
          ∙ ap (λ (i : List (Item ServerNote)). recorded c (had past (suc c) ++ i))
          (sym turn.made))

      other : (x : ℕ) (turn : settling.Turn most all legal event answer said past x) → x ≢ suc c
          → lines_in c (Returned event answer said) ≡ []
      other zero turn ne =
          let listens = acceptor first in
          let l : Listens turn.item = listen_in (had past 0) turn.item turn.more (had all 0)
          turn.among (course_listens _ listens.now (had all 0) listens.course) in
          ap (λ (b : Bool). cond b (note_lines said) [])
          (of_none c said (ap is_listening (sym turn.notes) ∙ l))
      other (suc d) turn ne =
          let o = opened_all later past (Returned event answer said) (suc d) is turn.opened_now in
          let piece = conn_note d event answer said later past is turn o in
          piece_lines c (connection d o).number event answer said piece.0 piece.1
          (sym turn.notes ∙ piece.2) (ne_eqb (connection d o).number c
          (λ q. ne (ap suc (sym (numbers d o) ∙ q))))

      by_handle : (x : ℕ) (turn : settling.Turn most all legal event answer said past x)
          → (x ≡ suc c) ⊎ (x ≢ suc c) → Lines c (Returned event answer said ∷ past)
      by_handle x turn (inl same) = mine
          (subst (settling.Turn most all legal event answer said past) same turn) so
      by_handle x turn (inr ne) = lines_same c (Returned event answer said) past refl
          (turn.others (suc c) (λ q. ne (sym q))) (other x turn ne) so

  not_suc : (c : ℕ) → 0 ≡ suc c → ⊥
  not_suc c q = omega arith

  -- what a `Closed` notes
  abbrev ClosedNote : ℕ → ServerNote → Type 0
  ClosedNote zero said = said ≡ note.ListenerShut
  ClosedNote (suc d) said = (word : _) × (said ≡ note.Finished d word)

  closed_note : (numbers : AreNumbered) (later past : List (Entry ServerNote)) (handle : Handle)
      (said : ServerNote) → all ≡ later ++ Closed handle said ∷ past → ClosedNote handle.0 said
  closed_note numbers later past handle said is = by_handle handle.0 refl
    where
      whole : all ≡ (later ++ Closed handle said ∷ []) ++ past
      whole = shifted later (Closed handle said) past is

      here : is_legal most (Closed handle said ∷ past) ≡ true
      here = is_legal-front most later (Closed handle said ∷ past)
          (sym (ap (is_legal most) is) ∙ legal)

      was : was_opened past handle.0 ≡ true
      was = (closing past handle.0 (may_fits most past (Closed handle said)
          (and_parts _ _ here).0)).0

      leaves : SaysLast steps idle (origin_of past handle.0) (had past handle.0)
          (reason_of past handle.0) said
      leaves = (left_front later (Closed handle said ∷ past) (subst (AreLeft steps idle) is left)).0

      origin : origin_of past handle.0 ≡ origin_of all handle.0
      origin = sym (ap (λ (p : List (Entry ServerNote)). origin_of p handle.0) whole
          ∙ origin_still most (later ++ Closed handle said ∷ []) past handle.0
          (sym (ap (is_legal most) whole) ∙ legal) was)

      now_all : was_opened all handle.0 ≡ true
      now_all = opened_all later past (Closed handle said) handle.0 is was

      by_origin : (o : Option (Origin ServerNote)) → origin_of all handle.0 ≡ o
          → SaysLast steps idle o (had past handle.0) (reason_of past handle.0) said
      by_origin o e = subst (λ (x : Option (Origin ServerNote)).
          SaysLast steps idle x (had past handle.0) (reason_of past handle.0) said) (origin ∙ e)
          leaves

      by_handle : (x : ℕ) → handle.0 ≡ x → ClosedNote x said
      by_handle zero e = (by_origin None
          (ap (origin_of all) e ∙ origin_first most all legal begun)).notes
      by_handle (suc d) e =
          let talks = connection d (subst (λ (x : ℕ). was_opened all x ≡ true) e now_all) in
          let through = by_origin _ (ap (origin_of all) e ∙ talks.origin) in (
            through.word,
            through.notes ∙ ap (λ (n : ℕ). note.Finished n through.word)
                (numbers d (subst (λ (x : ℕ). was_opened all x ≡ true) e now_all)),
          )

  lines_closed : (numbers : AreNumbered) (c : ℕ) (later past : List (Entry ServerNote))
      (handle : Handle) (said : ServerNote) → all ≡ later ++ Closed handle said ∷ past
      → Lines c past → Lines c (Closed handle said ∷ past)
  lines_closed numbers c later past handle said is so =
      by_handle handle.0 refl (closed_note numbers later past handle said is)
    where
      here : is_legal most (Closed handle said ∷ past) ≡ true
      here = is_legal-front most later (Closed handle said ∷ past)
          (sym (ap (is_legal most) is) ∙ legal)

      was_not : was_closed past handle.0 ≡ false
      was_not = (closing past handle.0 (may_fits most past (Closed handle said)
          (and_parts _ _ here).0)).3

      mine : handle.0 ≡ suc c → (word : _) → said ≡ note.Finished c word → Lines c past
          → Lines c (Closed handle said ∷ past)
      mine e word is_word (ended_by l h s b i m shut lines) =
          absurd (both_ways _ (subst (λ (x : ℕ). was_closed past x ≡ false) e was_not) shut)
      mine e word is_word (going open_ lines) =
          ended_by [] handle said past refl e
          (ap (λ (b : Bool). b || was_closed past (suc c)) (eq-eqb handle.0 (suc c) e))
          (ap (λ (l : List ℕ). l ++ lines_in c (Closed handle said)) lines
          ∙ ap (λ (l : List ℕ). recorded c (had past (suc c)) ++ l)
          (own_closing c handle said word is_word)
          ∙ ap (λ (l : List ℕ). l ++ note_lines said)
          (sym (ap (recorded c) (append-nil (had past (suc c))))))

      other : (x : ℕ) → handle.0 ≡ x → (x == suc c) ≡ false → lines_in c (Closed handle said) ≡ []
          → Lines c (Closed handle said ∷ past)
      other x e ne quiet = lines_same c (Closed handle said) past
          (ap (λ (y : ℕ). y == suc c) e ∙ ne) refl quiet so

      by_handle : (x : ℕ) → handle.0 ≡ x → ClosedNote x said → Lines c (Closed handle said ∷ past)
      by_handle zero e n = other zero e (ne_eqb 0 (suc c) (λ q. not_suc c q))
          (ap (λ (s : ServerNote). lines_in c (Closed handle s)) n)
      by_handle (suc d) e n = ⊎_elim
          (λ (t : (d == c) ≡ true). mine (e ∙ ap suc (eqb-true d c t)) n.0
          (n.1 ∙ ap (λ (k : ℕ). note.Finished k n.0) (eqb-true d c t)) so)
          (λ (f : (d == c) ≡ false). other (suc d) e
          (ne_eqb (suc d) (suc c) (λ q. both_ways _ f (eq-eqb d c (less q))))
          (finished_lines c d handle said n.0 n.1 f))
          (cases_Bool (d == c))
        where
          less : suc d ≡ suc c → d ≡ c
          less q = omega arith

  pub lines_all : (numbers : AreNumbered) (first : was_opened all 0 ≡ true) (c : ℕ)
      (later past : List (Entry ServerNote)) → list_any is_refusal past ≡ false
      → all ≡ later ++ past → Lines c past
  lines_all numbers first c later [] none is = going refl refl
  lines_all numbers first c later (Returned event answer said ∷ past) none is =
      lines_returned numbers c later past event answer said is first
      (lines_all numbers first c (later ++ Returned event answer said ∷ []) past none
      (shifted later (Returned event answer said) past is))
  lines_all numbers first c later (Closed handle said ∷ past) none is =
      lines_closed numbers c later past handle said is
      (lines_all numbers first c (later ++ Closed handle said ∷ []) past none
      (shifted later (Closed handle said) past is))
  lines_all numbers first c later (Refused live fault said ∷ past) none is =
      absurd (false≢true (sym none))
  lines_all numbers first c later (Opened handle mask ∷ past) none is =
      lines_same c (Opened handle mask) past refl refl refl
      (lines_all numbers first c (later ++ Opened handle mask ∷ []) past none
      (shifted later (Opened handle mask) past is))
  lines_all numbers first c later (Scheduled timer handle first' every ∷ past) none is =
      lines_same c (Scheduled timer handle first' every) past refl refl refl
      (lines_all numbers first c (later ++ Scheduled timer handle first' every ∷ []) past none
      (shifted later (Scheduled timer handle first' every) past is))
  lines_all numbers first c later (Cancelled timer ∷ past) none is =
      lines_same c (Cancelled timer) past refl refl refl
      (lines_all numbers first c (later ++ Cancelled timer ∷ []) past none
      (shifted later (Cancelled timer) past is))
  lines_all numbers first c later (Polled moment ∷ past) none is =
      lines_same c (Polled moment) past refl refl refl
      (lines_all numbers first c (later ++ Polled moment ∷ []) past none
      (shifted later (Polled moment) past is))
  lines_all numbers first c later (Due timer ∷ past) none is =
      lines_same c (Due timer) past refl refl refl
      (lines_all numbers first c (later ++ Due timer ∷ []) past none
      (shifted later (Due timer) past is))
  lines_all numbers first c later (Ready handle kind ∷ past) none is =
      lines_same c (Ready handle kind) past refl refl refl
      (lines_all numbers first c (later ++ Ready handle kind ∷ []) past none
      (shifted later (Ready handle kind) past is))
  lines_all numbers first c later (Posted handle kind from seq ∷ past) none is =
      lines_same c (Posted handle kind from seq) past refl refl refl
      (lines_all numbers first c (later ++ Posted handle kind from seq ∷ []) past none
      (shifted later (Posted handle kind from seq) past is))
  lines_all numbers first c later (Stale handle from seq ∷ past) none is =
      lines_same c (Stale handle from seq) past refl refl refl
      (lines_all numbers first c (later ++ Stale handle from seq ∷ []) past none
      (shifted later (Stale handle from seq) past is))
  lines_all numbers first c later (Started event ∷ past) none is =
      lines_same c (Started event) past refl refl refl
      (lines_all numbers first c (later ++ Started event ∷ []) past none
      (shifted later (Started event) past is))
  lines_all numbers first c later (Masked handle mask ∷ past) none is =
      lines_same c (Masked handle mask) past refl refl refl
      (lines_all numbers first c (later ++ Masked handle mask ∷ []) past none
      (shifted later (Masked handle mask) past is))
  lines_all numbers first c later (Suspended handle ∷ past) none is =
      lines_same c (Suspended handle) past refl refl refl
      (lines_all numbers first c (later ++ Suspended handle ∷ []) past none
      (shifted later (Suspended handle) past is))
  lines_all numbers first c later (Resumed handle ∷ past) none is =
      lines_same c (Resumed handle) past refl refl refl
      (lines_all numbers first c (later ++ Resumed handle ∷ []) past none
      (shifted later (Resumed handle) past is))
  lines_all numbers first c later (Removed handle ∷ past) none is =
      lines_same c (Removed handle) past refl refl refl
      (lines_all numbers first c (later ++ Removed handle ∷ []) past none
      (shifted later (Removed handle) past is))
  lines_all numbers first c later (Ended ∷ past) none is =
      lines_same c Ended past refl refl refl
      (lines_all numbers first c (later ++ Ended ∷ []) past none (shifted later Ended past is))

  -- what a connection leaves at its `Closed`
  pub talks_at : (numbers : AreNumbered) (c : ℕ) (later : List (Entry ServerNote)) (handle : Handle)
      (said : ServerNote) (before : List (Entry ServerNote))
      → all ≡ later ++ Closed handle said ∷ before → handle.0 ≡ suc c
      → (moment : ℕ) × (was_opened before (suc c) ≡ true)
      × TalksThrough steps idle c moment (had all (suc c)) (reason_of before (suc c)) said
  talks_at numbers c later handle said before is mine =
      let talks = connection c now_all in
      let leaves_ = subst (λ (x : Option (Origin ServerNote)).
      SaysLast steps idle x (had all (suc c)) (reason_of before (suc c)) said)
      (sym origin_is ∙ talks.origin) here_leaves in (
        talks.moment,
        was,
        subst (λ (n : ℕ).
            TalksThrough steps idle n talks.moment (had all (suc c)) (reason_of before (suc c))
            said)
            (numbers c now_all) leaves_,
      )
    where
      whole : all ≡ (later ++ Closed handle said ∷ []) ++ before
      whole = shifted later (Closed handle said) before is

      here : is_legal most (Closed handle said ∷ before) ≡ true
      here = is_legal-front most later (Closed handle said ∷ before)
          (sym (ap (is_legal most) is) ∙ legal)

      was : was_opened before (suc c) ≡ true
      was = subst (λ (x : ℕ). was_opened before x ≡ true) mine
          (closing before handle.0 (may_fits most before (Closed handle said)
          (and_parts _ _ here).0)).0

      now_all : was_opened all (suc c) ≡ true
      now_all = opened_all later before (Closed handle said) (suc c) is was

      origin_is : origin_of all (suc c) ≡ origin_of before (suc c)
      origin_is = ap (λ (p : List (Entry ServerNote)). origin_of p (suc c)) whole
          ∙ origin_still most (later ++ Closed handle said ∷ []) before (suc c)
          (sym (ap (is_legal most) whole) ∙ legal) was

      had_is : had all (suc c) ≡ had before (suc c)
      had_is = ap (λ (p : List (Entry ServerNote)). had p (suc c)) is
          ∙ had_closed most later (Closed handle said ∷ before) (suc c)
          (sym (ap (is_legal most) is) ∙ legal)
          (ap (λ (b : Bool). b || was_closed before (suc c)) (eq-eqb handle.0 (suc c) mine))
          ∙ append-nil (had before (suc c))

      at_handle : SaysLast steps idle (origin_of before handle.0) (had before handle.0)
          (reason_of before handle.0) said
      at_handle = (left_front later (Closed handle said ∷ before)
          (subst (AreLeft steps idle) is left)).0

      here_leaves : SaysLast steps idle (origin_of before (suc c)) (had all (suc c))
          (reason_of before (suc c)) said
      here_leaves = subst (λ (h : List (Item ServerNote)).
          SaysLast steps idle (origin_of before (suc c)) h (reason_of before (suc c)) said)
          (sym had_is)
          (subst (λ (x : ℕ). SaysLast steps idle (origin_of before x) (had before x)
          (reason_of before x) said) mine at_handle)
