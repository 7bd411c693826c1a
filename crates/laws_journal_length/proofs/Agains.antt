-- How many turns of a run ask for one more: one for each connection that is accepted, and one for
-- each read that gives bytes.
use Rattle.std.proofs.Common.{ℕ, zero, suc, ◌≡◌, ◌∙◌, ◌+◌, ◌≤◌, ◌==◌, ◌⊎◌, inl, inr, ⊎_elim, cond}
use Rattle.std.proofs.Common.{Bool, true, false, List, [], ◌∷◌, ◌++◌, length, Option, Some, None}
use Rattle.std.proofs.Common.{refl, sym, ap, subst, arith, append_assoc}
use Rattle.std.specs.Prelude.{flat_map}
use Rattle.std.specs.List.{AllByRecursion}
use Rattle.std.proofs.lemmas.Bool.{false≢true, cases_Bool, eqb-true}
use Rattle.laws_one_worker.specs.ev_types.specs.declared.upcall.Answer.{Answer}
use Rattle.laws_one_worker.specs.ev_types.specs.declared.upcall.Answer.TheVariants.{Keep}
use Rattle.laws_one_worker.specs.ev_types.specs.declared.upcall.Answer.TheVariants.{Again}
use Rattle.laws_one_worker.specs.ev_types.specs.declared.upcall.Answer.TheVariants.{Close}
use Rattle.laws_one_worker.specs.ev_types.specs.declared.upcall.Upcall.{Upcall}
use Rattle.laws_one_worker.specs.ev_types.specs.declared.upcall.Upcall.TheVariants.{Input}
use Rattle.laws_one_worker.specs.ev_types.specs.declared.upcall.Upcall.TheVariants.{Output}
use Rattle.laws_one_worker.specs.ev_types.specs.declared.upcall.Upcall.TheVariants.{Except}
use Rattle.laws_one_worker.specs.ev_types.specs.declared.upcall.Upcall.TheVariants.{Timeout}
use Rattle.laws_one_worker.specs.ev_types.specs.declared.upcall.Upcall.TheVariants.{Notice}
use Rattle.laws_one_worker.specs.reactor_journal.specs.Event.{Item, Origin}
use Rattle.laws_one_worker.specs.reactor_journal.specs.declared.entry.Entry.{Entry}
use Rattle.laws_one_worker.specs.reactor_journal.specs.declared.entry.Entry.TheVariants.{Opened}
use Rattle.laws_one_worker.specs.reactor_journal.specs.declared.entry.Entry.TheVariants.{Returned}
use Rattle.laws_one_worker.specs.reactor_journal.specs.declared.entry.Entry.TheVariants.{Ended}
use Rattle.laws_one_worker.specs.reactor_journal.specs.Past.{past_of, count, had}
use Rattle.laws_one_worker.specs.reactor_journal.specs.Past.{items_made}
use Rattle.laws_one_worker.specs.reactor_journal.specs.Past.{origin_of}
use Rattle.laws_one_worker.specs.reactor_journal.specs.Past.{was_opened}
use Rattle.laws_one_worker.specs.reactor_journal.specs.Follow.{is_legal}
use Rattle.laws_one_worker.specs.reactor_journal.proofs.Turning.{count-append}
use Rattle.laws_one_worker.specs.reactor_core.specs.Stands.{Meaning}
use Rattle.laws_one_worker.specs.reactor_desk.specs.declared.terms.DeskTerms.{DeskTerms}
use Rattle.laws_one_worker.specs.tp_reactor.specs.declared.working.Ran.{Ran}
use Rattle.laws_one_worker.specs.acceptor.specs.Accepting as accepting
use Rattle.laws_one_worker.specs.acceptor.specs.Laws.{number_in}
use Rattle.laws_one_worker.specs.acceptor.specs.Servers.{is_accepted as says_accepted}
use Rattle.laws_one_worker.specs.acceptor.proofs.Accounts as acceptor_accounts
use Rattle.laws_one_worker.specs.event_script.specs.Script.{ScriptStep, ScriptGroup, steps_of}
use Rattle.laws_one_worker.specs.event_script.specs.Script.{opened as opened_in}
use Rattle.laws_one_worker.specs.event_script.specs.Stories.{offers}
use Rattle.laws_one_worker.specs.log_handler.specs.declared.note.ServerNote.{ServerNote}
use Rattle.laws_one_worker.specs.log_handler.specs.declared.note.ServerNote.TheVariants as note
use Rattle.laws_one_worker.specs.laws_script_turns.specs.Laws.{unoffered}
use Rattle.laws_one_worker.specs.laws_script_runs.specs.Connections.{accepts, accepted}
use Rattle.laws_one_worker.specs.laws_script_runs.proofs.Handles.{offered}
use Rattle.laws_one_worker.specs.laws_script_runs.proofs.Notes.{all_last}
use Rattle.laws_one_worker.specs.laws_script_runs.proofs.Settling as settling
use Rattle.laws_one_worker.specs.laws_script_runs.proofs.Settling.{origin_still}
use Rattle.laws_one_worker.specs.laws_script_runs.proofs.Standing.{OpenedFor, opened_for_later}
use Rattle.laws_one_worker.specs.laws_script_runs.proofs.Standing.{end_of_origin, stands_at}
use Rattle.laws_one_worker.specs.laws_script_runs.proofs.Standing.{one_handler}
use Rattle.laws_one_worker.specs.laws_script_runs.proofs.Taking.{length_numbers, few_taken}
use Rattle.laws_one_worker.specs.laws_script_runs.proofs.Turns as turns
use Rattle.laws_one_worker.specs.laws_script_runs.proofs.Winding.{opened_back}
use Rattle.laws_one_worker.specs.Alone.{RunsAlone}
use Rattle.laws_one_worker.proofs.Ends as ends
use Rattle.laws_journal_length.proofs.EntryKinds.{is_again}
use Rattle.laws_journal_length.proofs.Reading.{asks_more, is_more, asks_few, reads_on, all_reads}
use Rattle.laws_journal_length.proofs.Reading.{reads_all, sum_below, sum_less, sum_both, one_below}

-- ---- entries

-- a turn that noted a piece, of some connection or of this, and asks for one more
abbrev pub reads_more : Entry ServerNote → Bool
reads_more (Returned event Again (note.Piece conn took records)) = true
reads_more _ = false

abbrev pub reads_more_on : ℕ → Entry ServerNote → Bool
reads_more_on c (Returned event Again (note.Piece conn took records)) = conn == c
reads_more_on c _ = false

-- a number above those of all connections that did
abbrev above_in : Entry ServerNote → ℕ
above_in (Returned event Again (note.Piece conn took records)) = suc conn
above_in _ = 0

abbrev above : List (Entry ServerNote) → ℕ
above [] = 0
above (e ∷ past) = above_in e + above past

by_connection : (n : ℕ) (past : List (Entry ServerNote)) → above past ≤ n
    → count reads_more past ≤ sum_below n (λ c. count (reads_more_on c) past)
by_connection n [] l = omega arith
by_connection n (Returned event Again (note.Piece conn took records) ∷ past) l =
    let rest = by_connection n past (omega (arith, l)) in
    let one = one_below n conn 1 (omega (arith, l)) in
    let both = sum_both n (λ c. cond (conn == c) 1 0) (λ c. count (reads_more_on c) past) in
    let more = sum_less n (λ c. cond (conn == c) 1 0 + count (reads_more_on c) past)
    (λ c. count (reads_more_on c) (Returned event Again (note.Piece conn took records) ∷ past))
    (λ c. counted (conn == c) (count (reads_more_on c) past)) in
    omega (arith, rest, one, both, more)
  where
    counted : (b : Bool) (k : ℕ) → cond b 1 0 + k ≤ cond b (suc k) k
    counted true k = omega arith
    counted false k = omega arith
by_connection n (_ ∷ past) l = by_connection n past (omega (arith, l))

-- ---- the acceptor asks again only after a connection that it accepts

abbrev AcceptsMore : Item ServerNote → Type 0
AcceptsMore item = is_more item.answer ≡ true → says_accepted item.note ≡ true

keeps_so : (item : Item ServerNote) → item.answer ≡ Keep → AcceptsMore item
keeps_so item is = λ h. absurd (false≢true (sym (ap is_more is) ∙ h))

more_by : (gave : accepting.Gives) (before after : accepting.Progress) (item : Item ServerNote)
    → accepting.ServesAccept gave before item after → AcceptsMore item
more_by (accepting.OneEnd serial) before after item h = λ a. ap says_accepted h.notes
more_by accepting.NoEnd before after item h = keeps_so item h.answers
more_by accepting.Failure before after item h = keeps_so item h.answers

more_input : (b : Bool) (before after : accepting.Progress) (item : Item ServerNote)
    → accepting.ServesInput b before item after → AcceptsMore item
more_input true before after item h = more_by h.gave before after item h.serves
more_input false before after item h = keeps_so item h.answers

more_turn : (up : Upcall) (before after : accepting.Progress) (item : Item ServerNote)
    → accepting.ServesUpcall up before item after → AcceptsMore item
more_turn Input before after item h = more_input _ before after item h
more_turn Output before after item h = keeps_so item h.answers
more_turn Except before after item h = keeps_so item h.answers
more_turn (Timeout timer) before after item h = keeps_so item h.answers
more_turn (Notice kind) before after item h = keeps_so item h.answers

course_more : (start p : accepting.Progress) (had : List (Item ServerNote))
    → accepting.Course start had p → AllByRecursion AcceptsMore had
course_more start p [] course = tt
course_more start p (item ∷ had) course =
    (more_turn item.upcall start course.0 item course.1, course_more course.0 p had course.2)

-- the notes of such turns
abbrev tells_more : ServerNote → Bool
tells_more (note.Accepted conn) = true
tells_more (note.Piece conn took records) = true
tells_more _ = false

accepted_tells : (said : ServerNote) → says_accepted said ≡ true → tells_more said ≡ true
accepted_tells (note.Accepted conn) h = refl
accepted_tells (note.Piece conn took records) h = refl
accepted_tells note.NoneWaiting h = h
accepted_tells note.ListenerFailed h = h
accepted_tells note.ListenerShut h = h
accepted_tells (note.Finished conn end) h = h

module _ {H M Q W V E : Type 0} (m : Meaning H M Q W V ServerNote E) (q : DeskTerms) (ran : Ran)
    (idle : Option ℕ) (groups : List ScriptGroup) (journal : List (Entry ServerNote))
    (r : RunsAlone m q ran idle groups journal) where
  abbrev all : List (Entry ServerNote)
  all = ends.all m q ran idle groups journal r

  abbrev run : List (Entry ServerNote)
  run = past_of r.run

  abbrev most : ℕ
  most = q.run.most

  abbrev steps : List ScriptStep
  steps = steps_of groups

  legal : is_legal most all ≡ true
  legal = ends.legal m q ran idle groups journal r

  abbrev Turn : ℕ → Answer → ServerNote → List (Entry ServerNote) → ℕ → Type 0
  Turn event answer said past x = settling.Turn most all legal event answer said past x

  turn_of : (later past : List (Entry ServerNote)) (event : ℕ) (answer : Answer) (said : ServerNote)
      → all ≡ later ++ Returned event answer said ∷ past
      → settling.TurnOf most all legal event answer said past
  turn_of later past event answer said is =
      settling.turn_of most all legal later past event answer said is

  opened_all : (later past : List (Entry ServerNote)) (e : Entry ServerNote) (x : ℕ)
      → all ≡ later ++ e ∷ past → was_opened past x ≡ true → was_opened all x ≡ true
  opened_all later past e x is o =
      turns.opened_all most steps idle all legal (ends.begun m q ran idle groups journal r)
      (ends.left m q ran idle groups journal r) (ends.closed m q ran idle groups journal r)
      later past e x is o

  abbrev Talks : (c : ℕ) → was_opened all (suc c) ≡ true → Type 0
  Talks c o =
      let l = turns.left_by most steps idle all legal (ends.begun m q ran idle groups journal r)
      (ends.left m q ran idle groups journal r) (ends.closed m q ran idle groups journal r)
      (suc c) o in
      turns.Talks most steps idle all legal (ends.begun m q ran idle groups journal r)
      (ends.left m q ran idle groups journal r) (ends.closed m q ran idle groups journal r) c
      l.f.before l.f.said

  abbrev talks : (c : ℕ) (o : was_opened all (suc c) ≡ true) → Talks c o
  talks c o = turns.connection most steps idle all legal (ends.begun m q ran idle groups journal r)
      (ends.left m q ran idle groups journal r) (ends.closed m q ran idle groups journal r) c o

  -- the number of the connection of a handler
  abbrev number : (c : ℕ) → was_opened all (suc c) ≡ true → ℕ
  number c o = (turns.connection most steps idle all legal
      (ends.begun m q ran idle groups journal r) (ends.left m q ran idle groups journal r)
      (ends.closed m q ran idle groups journal r) c o).number

  piece : (c : ℕ) (event : ℕ) (answer : Answer) (said : ServerNote)
      (later past : List (Entry ServerNote)) → all ≡ later ++ Returned event answer said ∷ past
      → (t : Turn event answer said past (suc c)) (o : was_opened all (suc c) ≡ true)
      → (took : ℕ) × (records : List _) × (said ≡ note.Piece (number c o) took records)
  piece c event answer said later past is t o =
      let p = turns.conn_note most steps idle all legal (ends.begun m q ran idle groups journal r)
      (ends.left m q ran idle groups journal r) (ends.closed m q ran idle groups journal r) c
      event answer said later past is t o in
      (p.0, p.1, sym t.notes ∙ p.2)

  listens : (had_first : accepting.Progress)
      × accepting.Course (accepting.at_start (Some (unoffered (offers steps)))) (had all 0)
      had_first
  listens =
      let l = turns.acceptor most steps idle all legal (ends.begun m q ran idle groups journal r)
      (ends.left m q ran idle groups journal r) (ends.closed m q ran idle groups journal r)
      (ends.first m q ran idle groups journal r) in
      (l.now, l.course)

  -- ---- a turn that asks for one more accepted a connection or noted a piece

  more_tells : (later past : List (Entry ServerNote)) (event : ℕ) (said : ServerNote)
      → all ≡ later ++ Returned event Again said ∷ past → tells_more said ≡ true
  more_tells later past event said is = by_handle t.x refl
    where
      t : settling.TurnOf most all legal event Again said past
      t = turn_of later past event Again said is

      at_first : Turn event Again said past 0 → tells_more said ≡ true
      at_first u =
          accepted_tells said (sym (ap says_accepted u.notes)
          ∙ all_last AcceptsMore (had past 0) u.item u.more
          (subst (AllByRecursion AcceptsMore) u.among
          (course_more _ listens.0 (had all 0) listens.1)) (ap is_more u.answers))

      at_other : (c : ℕ) → Turn event Again said past (suc c) → tells_more said ≡ true
      at_other c u = ap tells_more (piece c event Again said later past is u
          (opened_all later past (Returned event Again said) (suc c) is u.opened_now)).2

      by_handle : (x : ℕ) → t.x ≡ x → tells_more said ≡ true
      by_handle zero e = at_first (subst (Turn event Again said past) e t.turn)
      by_handle (suc c) e = at_other c (subst (Turn event Again said past) e t.turn)

  shift : (later : List (Entry ServerNote)) (e : Entry ServerNote) (past : List (Entry ServerNote))
      → all ≡ later ++ e ∷ past → all ≡ (later ++ e ∷ []) ++ past
  shift later e past is = is ∙ sym (append_assoc later (e ∷ []) past)

  more_parts : (later past : List (Entry ServerNote)) → all ≡ later ++ past
      → count is_again past ≤ count accepts past + count reads_more past
  more_parts later [] is = omega arith
  more_parts later (Returned event Again said ∷ past) is =
      by_note said is (more_tells later past event said is)
      (more_parts (later ++ Returned event Again said ∷ []) past
      (shift later (Returned event Again said) past is))
    where
      by_note : (said : ServerNote) → all ≡ later ++ Returned event Again said ∷ past
          → tells_more said ≡ true → count is_again past
          ≤ count accepts past + count reads_more past
          → count is_again (Returned event Again said ∷ past)
          ≤ count accepts (Returned event Again said ∷ past)
          + count reads_more (Returned event Again said ∷ past)
      by_note (note.Accepted conn) is h rest = omega (arith, rest)
      by_note (note.Piece conn took records) is h rest = omega (arith, rest)
      by_note note.NoneWaiting is h rest = absurd (false≢true h)
      by_note note.ListenerFailed is h rest = absurd (false≢true h)
      by_note note.ListenerShut is h rest = absurd (false≢true h)
      by_note (note.Finished conn end) is h rest = absurd (false≢true h)
  more_parts later (Returned event Keep said ∷ past) is =
      keep said (more_parts (later ++ Returned event Keep said ∷ []) past
      (shift later (Returned event Keep said) past is))
    where
      keep : (said : ServerNote) → count is_again past ≤ count accepts past + count reads_more past
          → count is_again past ≤ count accepts (Returned event Keep said ∷ past)
          + count reads_more past
      keep (note.Accepted conn) rest = omega (arith, rest)
      keep _ rest = rest
  more_parts later (Returned event Close said ∷ past) is =
      close said (more_parts (later ++ Returned event Close said ∷ []) past
      (shift later (Returned event Close said) past is))
    where
      close : (said : ServerNote) → count is_again past ≤ count accepts past + count reads_more past
          → count is_again past ≤ count accepts (Returned event Close said ∷ past)
          + count reads_more past
      close (note.Accepted conn) rest = omega (arith, rest)
      close _ rest = rest
  more_parts later (e ∷ past) is = more_parts (later ++ e ∷ []) past (shift later e past is)

  -- ---- no two handlers are of one connection

  opened_run : (x : ℕ) → was_opened all x ≡ true → was_opened run x ≡ true
  opened_run x o = sym (opened_back most (ends.wound m q ran idle groups journal r) (Ended ∷ run) x
      legal refl) ∙ o

  opened_for : (c : ℕ) (o : was_opened all (suc c) ≡ true) → OpenedFor run (number c o) (suc c)
  opened_for c o =
      let by = offered run c (ends.begun_run m q ran idle groups journal r) (opened_run (suc c) o)
      in
      let there = ends.whole_run m q ran idle groups journal r in
      let origin : origin_of all (suc c) ≡ origin_of run (suc c) =
      ap (λ (p : List (Entry ServerNote)). origin_of p (suc c)) there
      ∙ origin_still most (ends.wound m q ran idle groups journal r ++ Ended ∷ []) run (suc c)
      (sym (ap (is_legal most) there) ∙ legal) (opened_run (suc c) o) in
      let says : by.origin.note ≡ note.Accepted (number c o) =
      ap (λ (x : Option (Origin ServerNote)).
      elim x [ None ↦ by.origin.note | Some y ↦ y.note ])
      (sym by.of_it ∙ sym origin ∙ (talks c o).origin) in
      subst (λ (p : List (Entry ServerNote)). OpenedFor p (number c o) (suc c)) (sym by.is)
      (opened_for_later by.later (Opened by.handle by.mask ∷ (by.first ∷ by.before)) (number c o)
      (suc c) (inl (
        by.mine,
        end_of_origin (by.first ∷ by.before) by.origin (number c o) by.here
            says,
      )))

  -- a handler of connection k
  record IsOf (k c : ℕ) : Type 0 where
    o : was_opened all (suc c) ≡ true
    is : number c o ≡ k

  same_handler : (k c d : ℕ) → IsOf k c → IsOf k d → c ≡ d
  same_handler k c d x y =
      let one : OpenedFor run k (suc c) =
      subst (λ (n : ℕ). OpenedFor run n (suc c)) x.is (opened_for c x.o) in
      let other : OpenedFor run k (suc d) =
      subst (λ (n : ℕ). OpenedFor run n (suc d)) y.is (opened_for d y.o) in
      pred (one_handler run k (suc d) (suc c)
      (stands_at run k (suc d) most (ends.legal_run m q ran idle groups journal r)
      (ends.numbered m q ran idle groups journal r) other) one)
    where
      pred : suc c ≡ suc d → c ≡ d
      pred e = omega (arith, e)

  -- ---- the turns of one connection that ask for one more

  record Counted (k : ℕ) (past : List (Entry ServerNote)) : Type 0 where
    c : ℕ
    of : IsOf k c
    few : count (reads_more_on k) past ≤ count asks_more (had past (suc c))

  abbrev Reads : ℕ → List (Entry ServerNote) → Type 0
  Reads k past = (count (reads_more_on k) past ≡ 0) ⊎ Counted k past

  -- another entry
  other : (k : ℕ) (e : Entry ServerNote) (past : List (Entry ServerNote))
      → reads_more_on k e ≡ false → Reads k past → Reads k (e ∷ past)
  other k e past none (inl zero_yet) = inl (same none ∙ zero_yet)
    where
      same : reads_more_on k e ≡ false → count (reads_more_on k) (e ∷ past)
          ≡ count (reads_more_on k) past
      same h = ap (λ (b : Bool). cond b (suc (count (reads_more_on k) past))
          (count (reads_more_on k) past)) h
  other k e past none (inr some) =
      let same : count (reads_more_on k) (e ∷ past) ≡ count (reads_more_on k) past =
      ap (λ (b : Bool). cond b (suc (count (reads_more_on k) past))
      (count (reads_more_on k) past)) none in
      let more = count-append asks_more (had past (suc some.c)) (items_made past (suc some.c) e) in
      let before = some.few in
      inr (record { c = some.c; of = some.of; few = omega (arith, same, more, before) })

  piece_number : (said : ServerNote) (k took : ℕ) (records : List _)
      → said ≡ note.Piece k took records → (conn : ℕ) (took' : ℕ) (records' : List _)
      → said ≡ note.Piece conn took' records' → k ≡ conn
  piece_number said k took records h conn took' records' i =
      ap (λ (s : ServerNote). elim s [
        | note.Piece n t l ↦ n
        | note.Accepted n ↦ k
        | note.NoneWaiting
            ↦ k
        | note.ListenerFailed ↦ k
        | note.ListenerShut ↦ k
        | note.Finished n e ↦ k
      ]) (sym h ∙ i)

  one_more : (later past : List (Entry ServerNote)) (event k : ℕ) (said : ServerNote)
      (conn took : ℕ) (records : List _) → said ≡ note.Piece conn took records → conn ≡ k
      → all ≡ later ++ Returned event Again said ∷ past
      → count (reads_more_on k) (Returned event Again said ∷ past)
      ≡ suc (count (reads_more_on k) past) → Reads k past
      → Reads k (Returned event Again said ∷ past)
  one_more later past event k said conn took records notes of is one before = by_handle t.x refl
    where
      e : Entry ServerNote
      e = Returned event Again said

      t : settling.TurnOf most all legal event Again said past
      t = turn_of later past event Again said is

      not_first : Turn event Again said past 0 → ⊥
      not_first u =
          false≢true (sym (ap says_accepted notes) ∙ sym (ap says_accepted u.notes)
          ∙ all_last AcceptsMore (had past 0) u.item u.more
          (subst (AllByRecursion AcceptsMore) u.among
          (course_more _ listens.0 (had all 0) listens.1)) (ap is_more u.answers))

      at_other : (c : ℕ) → Turn event Again said past (suc c)
          → Reads k (Returned event Again said ∷ past)
      at_other c u =
          let o = opened_all later past (Returned event Again said) (suc c) is u.opened_now in
          let p = piece c event Again said later past is u o in
          let mine : IsOf k c = record {
            o = o;
            is = piece_number said (number c o) p.0 p.1 p.2 conn took records notes ∙ of;
          } in
          let more : count asks_more (had past (suc c)
          ++ items_made past (suc c) (Returned event Again said))
          ≡ count asks_more (had past (suc c))
          + count asks_more (items_made past (suc c) (Returned event Again said)) =
          count-append asks_more (had past (suc c))
          (items_made past (suc c) (Returned event Again said)) in
          let made : count asks_more (items_made past (suc c) (Returned event Again said))
          ≡ count asks_more (u.item ∷ []) = ap (count asks_more) u.made in
          let asked : count asks_more (u.item ∷ []) ≡ 1 =
          ap (λ (a : Answer). cond {A = ℕ} (is_more a) 1 0) u.answers in
          inr (record {
            c = c;
            of = mine;
            few =
                ⊎_elim (λ (z : count (reads_more_on k) past ≡ 0). from_none c z more (made ∙ asked))
                (λ (s : Counted k past). from_some c s (same_handler k s.c c s.of mine) more
                (made ∙ asked)) before;
          })
        where
          from_none : (c : ℕ) → count (reads_more_on k) past ≡ 0
              → count asks_more (had past (suc c)
              ++ items_made past (suc c) (Returned event Again said))
              ≡ count asks_more (had past (suc c))
              + count asks_more (items_made past (suc c) (Returned event Again said))
              → count asks_more (items_made past (suc c) (Returned event Again said)) ≡ 1
              → count (reads_more_on k) (Returned event Again said ∷ past)
              ≤ count asks_more (had (Returned event Again said ∷ past) (suc c))
          from_none c z more asked = omega (arith, one, z, more, asked)

          from_some : (c : ℕ) (s : Counted k past) → s.c ≡ c
              → count asks_more (had past (suc c)
              ++ items_made past (suc c) (Returned event Again said))
              ≡ count asks_more (had past (suc c))
              + count asks_more (items_made past (suc c) (Returned event Again said))
              → count asks_more (items_made past (suc c) (Returned event Again said)) ≡ 1
              → count (reads_more_on k) (Returned event Again said ∷ past)
              ≤ count asks_more (had (Returned event Again said ∷ past) (suc c))
          from_some c s same more asked =
              let few : count (reads_more_on k) past ≤ count asks_more (had past (suc c)) =
              subst (λ (d : ℕ). count (reads_more_on k) past
              ≤ count asks_more (had past (suc d))) same s.few in
              omega (arith, one, few, more, asked)

      by_handle : (x : ℕ) → t.x ≡ x → Reads k (Returned event Again said ∷ past)
      by_handle zero e = absurd (not_first (subst (Turn event Again said past) e t.turn))
      by_handle (suc c) e = at_other c (subst (Turn event Again said past) e t.turn)

  connection_reads : (k : ℕ) (later past : List (Entry ServerNote)) → all ≡ later ++ past
      → Reads k past
  connection_reads k later [] is = inl refl
  connection_reads k later (Returned event Again (note.Piece conn took records) ∷ past) is =
      ⊎_elim
      (λ (t : (conn == k) ≡ true).
      one_more later past event k (note.Piece conn took records) conn took records refl
      (eqb-true conn k t) is (ap (λ (b : Bool).
      cond b (suc (count (reads_more_on k) past)) (count (reads_more_on k) past)) t)
      (connection_reads k (later ++ Returned event Again (note.Piece conn took records) ∷ []) past
      (shift later (Returned event Again (note.Piece conn took records)) past is)))
      (λ (f : (conn == k) ≡ false).
      other k (Returned event Again (note.Piece conn took records)) past f
      (connection_reads k (later ++ Returned event Again (note.Piece conn took records) ∷ [])
      past (shift later (Returned event Again (note.Piece conn took records)) past is)))
      (cases_Bool (conn == k))
  connection_reads k later (e ∷ past) is =
      other k e past refl (connection_reads k (later ++ e ∷ []) past (shift later e past is))

  connection_few : (k : ℕ) → count (reads_more_on k) all ≤ reads_on k steps
  connection_few k = by_reads (connection_reads k [] all refl)
    where
      by_reads : Reads k all → count (reads_more_on k) all ≤ reads_on k steps
      by_reads (inl none) = omega (arith, none)
      by_reads (inr some) =
          let t = talks some.c some.of.o in
          let asked = asks_few (number some.c some.of.o) idle t.moment steps t.talks.now
          (had all (suc some.c)) t.talks.course in
          let there : count asks_more (had all (suc some.c)) ≤ reads_on k steps =
          subst (λ (n : ℕ). count asks_more (had all (suc some.c)) ≤ reads_on n steps)
          some.of.is asked in
          let few = some.few in
          omega (arith, few, there)

  -- ---- all of them

  pub accepted_few : count accepts all ≤ opened_in steps
  accepted_few =
      let counts : accepted all ≡ length (flat_map number_in (had all 0)) =
      turns.counts most steps idle all legal (ends.begun m q ran idle groups journal r)
      (ends.left m q ran idle groups journal r) (ends.closed m q ran idle groups journal r) []
      all refl in
      let acc = acceptor_accounts.accounts (Some (unoffered (offers steps))) (had all 0) listens.0
      listens.1 in
      let numbers : length (flat_map number_in (had all 0)) ≡ listens.0.taken =
      ap length acc.notes ∙ length_numbers 0 listens.0.taken in
      let few = few_taken steps listens.0.offering listens.0.taken acc.offers in
      omega (arith, counts, numbers, few)

  pub agains_few : count is_again all ≤ opened_in steps + all_reads steps
  agains_few =
      let parts = more_parts [] all refl in
      let took = accepted_few in
      let each = by_connection (above all) all (omega arith) in
      let less = sum_less (above all) (λ c. count (reads_more_on c) all) (λ c. reads_on c steps)
      connection_few in
      let sum = reads_all (above all) steps in
      omega (arith, parts, took, each, less, sum)
