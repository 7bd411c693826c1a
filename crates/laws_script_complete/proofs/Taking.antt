-- What was accepted and taken in a run over a script.
use Rattle.std.proofs.Common.{ℕ, zero, suc, ◌≡◌, ◌≢◌, ◌∙◌, ◌+◌, ◌⊎◌, inl, inr, Bool, true, cond}
use Rattle.std.proofs.Common.{List, [], ◌∷◌, ◌++◌, reverse, refl, sym, ap, subst, arith, Option}
use Rattle.std.proofs.Common.{append_assoc}
use Rattle.std.specs.List.{sum_by}
use Rattle.std.proofs.lemmas.Bool.{cases_eq, eq-eqb, ne_eqb}
use Rattle.std.proofs.lemmas.List.{reverse-append}
use Rattle.std.proofs.lemmas.List.Sums.{sum_by-cons, sum_by-append}
use Rattle.laws_script_runs.specs.ev_types.specs.declared.upcall.Answer.{Answer}
use Rattle.laws_script_runs.specs.ev_base.specs.Terms.{Terms}
use Rattle.laws_script_runs.specs.reactor_journal.specs.Event.{Item}
use Rattle.laws_script_runs.specs.reactor_journal.specs.declared.entry.Entry.{Entry}
use Rattle.laws_script_runs.specs.reactor_journal.specs.declared.entry.Entry.TheVariants.{Returned}
use Rattle.laws_script_runs.specs.reactor_journal.specs.declared.entry.Entry.TheVariants.{Ended}
use Rattle.laws_script_runs.specs.reactor_journal.specs.Past.{had, items_made, was_opened}
use Rattle.laws_script_runs.specs.reactor_journal.specs.Past.{was_closed}
use Rattle.laws_script_runs.specs.reactor_journal.specs.Follow.{is_legal}
use Rattle.laws_script_runs.specs.reactor_model.specs.Handling.{Handling}
use Rattle.laws_script_runs.specs.log_handler.specs.declared.note.ServerNote.{ServerNote}
use Rattle.laws_script_runs.specs.log_handler.specs.declared.note.ServerNote.TheVariants as note
use Rattle.laws_script_runs.specs.log_handler.specs.Laws.{took_in, took_of}
use Rattle.laws_script_runs.specs.event_script.specs.Script.{ScriptGroup, steps_of}
use Rattle.laws_script_runs.specs.event_script.specs.Script as script
use Rattle.laws_script_runs.specs.Connections.{AreLeft, accepted}
use Rattle.laws_script_runs.specs.Laws.{RunsOver}
use Rattle.laws_script_runs.proofs.Glue as glue
use Rattle.laws_script_runs.proofs.Living as living
use Rattle.laws_script_runs.proofs.Scripts.{few}
use Rattle.laws_script_runs.proofs.Whole as whole
use Rattle.laws_script_runs.proofs.Winding as winding
use Rattle.laws_script_runs.proofs.Turns as turns
use Rattle.laws_script_runs.proofs.Settling as settling
use Rattle.laws_script_runs.proofs.Handles.{IsBegun}
use Rattle.laws_script_runs.proofs.Notes.{course_listens, is_listening, of_none}
use Rattle.laws_script_runs.proofs.Numbering.{IsNumbered}
use Rattle.laws_script_runs.proofs.Standing.{OpenedFor, stands_at, one_handler, conn_number}
use Rattle.laws_script_runs.specs.Steps.{EachStep}
use Rattle.laws_script_runs.specs.laws_script_told.specs.Laws.{StandsOnlyAt}
use Rattle.laws_script_runs.specs.ev_base.specs.Terms.{AtConnection}
use Rattle.laws_script_runs.specs.ev_types.specs.declared.upcall.Answer.TheVariants.{Keep}
use Rattle.laws_script_complete.specs.Complete.{took_for}

module _ {H E : Type 0} (means : Handling H E ServerNote) (t : Terms) (idle : Option ℕ)
    (groups : List ScriptGroup) (journal : List (Entry ServerNote))
    (r : RunsOver means t idle groups journal) where
  -- the acceptor, alive when the run was over, has taken all
  pub all_accepted : accepted journal ≡ script.opened (steps_of groups)
  all_accepted =
      living.accepted_journal means t idle groups journal r
      ∙ living.accepted_all means t idle groups journal r
      ∙ glue.takes_all t groups t.most (whole.run means t idle groups journal r)
      (whole.legal_run means t idle groups journal r) (whole.free means t idle groups journal r)
      r.ends.at_over.idle.no_pick r.ends.at_over.idle.none_open
      (whole.numbered means t idle groups journal r)
      (whole.follows_run means t idle groups journal r)
      r.ends.at_over.behind r.ends.at_over.over (living.listens means t idle groups journal r).1.now
      (few (steps_of groups) r.script)
      (living.alive_first means t idle groups journal r)
      (living.listener_course means t idle groups journal r)

  -- ---- the run, and what the laws of turns ask of it

  abbrev all : List (Entry ServerNote)
  all = whole.all means t idle groups journal r

  abbrev run : List (Entry ServerNote)
  run = whole.run means t idle groups journal r

  legal : is_legal t.most all ≡ true
  legal = whole.legal means t idle groups journal r

  begun : EachStep IsBegun all
  begun = whole.begun means t idle groups journal r

  left : AreLeft (steps_of groups) idle all
  left = whole.left means t idle groups journal r

  closed : (x : ℕ) → was_opened all x ≡ true → was_closed all x ≡ true
  closed = whole.closed means t idle groups journal r

  numbered : EachStep IsNumbered run
  numbered = whole.numbered means t idle groups journal r

  -- the number of its connection, and that it was registered for it
  record IsFor (x k : ℕ) : Type 0 where
    opened_for : OpenedFor run k x

  opened_in_run : (x : ℕ) → was_opened all x ≡ true → was_opened run x ≡ true
  opened_in_run x o = sym (winding.opened_back t.most (whole.wound means t idle groups journal r)
      (Ended ∷ run) x legal refl) ∙ o

  for_conn : (d : ℕ) (o : was_opened all (suc d) ≡ true)
      → OpenedFor run (turns.connection t.most (steps_of groups) idle all legal begun left closed d
      o).number (suc d)
  for_conn d o =
      let talks = turns.connection t.most (steps_of groups) idle all legal begun left closed d o in
      whole.opened_for means t idle groups journal r d talks.number talks.moment
      (opened_in_run (suc d) o) talks.origin

  -- ---- how much a connection took

  module _ (c x : ℕ) (mine : OpenedFor run c x) (not_first : x ≢ 0) where
    stands : StandsOnlyAt x (AtConnection c) run
    stands = stands_at run c x t.most (whole.legal_run means t idle groups journal r) numbered mine

    -- the number of another handler's connection is another
    other_number : (d : ℕ) (o : was_opened all (suc d) ≡ true) → suc d ≢ x
        → (turns.connection t.most (steps_of groups) idle all legal begun left closed d o).number
        ≢ c
    other_number d o ne same = ne (one_handler run c x (suc d) stands
        (subst (λ (k : ℕ). OpenedFor run k (suc d)) same (for_conn d o)))

    own_number : (d : ℕ) (o : was_opened all (suc d) ≡ true) → suc d ≡ x
        → (turns.connection t.most (steps_of groups) idle all legal begun left closed d o).number
        ≡ c
    own_number d o same =
        let theirs = for_conn d o in
        let k = (turns.connection t.most (steps_of groups) idle all legal begun left closed d
        o).number in
        conn_number run k c x (subst (λ (y : ℕ). OpenedFor run k y) same theirs) stands

    piece_of : (d took : ℕ) (records : List _) (said : ServerNote)
        → said ≡ note.Piece d took records → d ≡ c
        → took_for c (Returned 0 Keep said) ≡ took_of said
    piece_of d took records said is same =
        ap (λ (s : ServerNote). took_for c (Returned 0 Keep s)) is
        ∙ ap (λ (b : Bool). cond b took 0) (eq-eqb d c same) ∙ sym (ap took_of is)

    no_piece_of : (d took : ℕ) (records : List _) (said : ServerNote)
        → said ≡ note.Piece d took records → d ≢ c → took_for c (Returned 0 Keep said) ≡ 0
    no_piece_of d took records said is other =
        ap (λ (s : ServerNote). took_for c (Returned 0 Keep s)) is
        ∙ ap (λ (b : Bool). cond b took 0) (ne_eqb d c other)

    one_turn : (later past : List (Entry ServerNote)) (event : ℕ) (answer : Answer)
        (said : ServerNote) → all ≡ later ++ Returned event answer said ∷ past
        → took_for c (Returned event answer said)
        ≡ sum_by took_in (items_made past x (Returned event answer said))
    one_turn later past event answer said is = by_handler t_of.x t_of.turn (cases_eq t_of.x x)
      where
        t_of : settling.TurnOf t.most all legal event answer said past
        t_of = settling.turn_of t.most all legal later past event answer said is

        opened_now : (y : ℕ) → settling.Turn t.most all legal event answer said past y
            → was_opened all y ≡ true
        opened_now y turn = turns.opened_all t.most (steps_of groups) idle all legal begun left
            closed later past (Returned event answer said) y is turn.opened_now

        one_item : (item : Item ServerNote) → sum_by took_in (item ∷ []) ≡ took_in item
        one_item item = sum_by-cons took_in item [] ∙ plus_none (took_in item)
          where
            plus_none : (n : ℕ) → n + 0 ≡ n
            plus_none n = omega arith

        made_none : (y : ℕ) → settling.Turn t.most all legal event answer said past y → y ≢ x
            → sum_by took_in (items_made past x (Returned event answer said)) ≡ 0
        made_none y turn ne = ap (sum_by took_in) (turn.others x (λ q. ne (sym q)))

        made_one : (turn : settling.Turn t.most all legal event answer said past x)
            → sum_by took_in (items_made past x (Returned event answer said)) ≡ took_of said
        made_one turn = ap (sum_by took_in) turn.made ∙ one_item turn.item ∙ ap took_of turn.notes

        of_listener : settling.Turn t.most all legal event answer said past 0
            → took_for c (Returned event answer said) ≡ 0
        of_listener turn =
            let listens = living.listens means t idle groups journal r in
            let heard = turns.listen_in t.most (steps_of groups) idle all legal begun left closed
            (had past 0) turn.item turn.more (had all 0) turn.among
            (course_listens _ listens.1.now (had all 0) listens.1.course) in
            ap (λ (b : Bool). cond b (took_of said) 0)
            (of_none c said (sym (ap is_listening turn.notes) ∙ heard))

        of_conn : (d : ℕ) → settling.Turn t.most all legal event answer said past (suc d)
            → (suc d ≡ x) ⊎ (suc d ≡ x → ⊥) → took_for c (Returned event answer said)
            ≡ sum_by took_in (items_made past x (Returned event answer said))
        of_conn d turn (inl same) =
            let o = opened_now (suc d) turn in
            let piece = turns.conn_note t.most (steps_of groups) idle all legal begun left closed d
            event answer said later past is turn o in
            piece_of _ piece.0 piece.1 said (sym turn.notes ∙ piece.2) (own_number d o same)
            ∙ sym (made_one (subst (settling.Turn t.most all legal event answer said past) same
            turn))
        of_conn d turn (inr other) =
            let o = opened_now (suc d) turn in
            let piece = turns.conn_note t.most (steps_of groups) idle all legal begun left closed d
            event answer said later past is turn o in
            no_piece_of _ piece.0 piece.1 said (sym turn.notes ∙ piece.2) (other_number d o other)
            ∙ sym (made_none (suc d) turn other)

        by_handler : (y : ℕ) → settling.Turn t.most all legal event answer said past y → (y ≡ x)
            ⊎ (y ≡ x → ⊥) → took_for c (Returned event answer said)
            ≡ sum_by took_in (items_made past x (Returned event answer said))
        by_handler zero turn same = of_listener turn
            ∙ sym (made_none 0 turn (λ q. not_first (sym q)))
        by_handler (suc d) turn same = of_conn d turn same

    shifted : (later : List (Entry ServerNote)) (e : Entry ServerNote)
        (past : List (Entry ServerNote)) → all ≡ later ++ e ∷ past → all ≡ (later ++ e ∷ []) ++ past
    shifted later e past is = is ∙ sym (append_assoc later (e ∷ []) past)

    one_entry : (later past : List (Entry ServerNote)) (e : Entry ServerNote)
        → all ≡ later ++ e ∷ past → took_for c e ≡ sum_by took_in (items_made past x e)
    one_entry later past (Returned event answer said) is = one_turn later past event answer said is
    one_entry later past _ is = refl

    took_so_far : (later past : List (Entry ServerNote)) → all ≡ later ++ past
        → sum_by (took_for c) past ≡ sum_by took_in (had past x)
    took_so_far later [] is = refl
    took_so_far later (e ∷ past) is =
        let rest : sum_by (took_for c) past ≡ sum_by took_in (had past x) =
        took_so_far (later ++ e ∷ []) past (shifted later e past is) in
        let one : took_for c e ≡ sum_by took_in (items_made past x e) = one_entry later past e is in
        let whole_sum : sum_by (took_for c) (e ∷ past) ≡ took_for c e + sum_by (took_for c) past =
        sum_by-cons (took_for c) e past in
        let parts : sum_by took_in (had past x ++ items_made past x e)
        ≡ sum_by took_in (had past x) + sum_by took_in (items_made past x e) =
        sum_by-append took_in (had past x) (items_made past x e) in
        omega (arith, rest, one, whole_sum, parts)

    sum_reverse : (l : List (Entry ServerNote))
        → sum_by (took_for c) (reverse l) ≡ sum_by (took_for c) l
    sum_reverse [] = refl
    sum_reverse (e ∷ l) =
        let split : sum_by (took_for c) (reverse (e ∷ l))
        ≡ sum_by (took_for c) (reverse l) + sum_by (took_for c) (e ∷ []) =
        ap (sum_by (took_for c)) (reverse-append (e ∷ []) l)
        ∙ sum_by-append (took_for c) (reverse l) (e ∷ []) in
        let one : sum_by (took_for c) (e ∷ []) ≡ took_for c e + sum_by (took_for c) [] =
        sum_by-cons (took_for c) e [] in
        let none : sum_by (took_for c) [] ≡ 0 = refl in
        let rest = sum_reverse l in
        let whole_sum : sum_by (took_for c) (e ∷ l) ≡ took_for c e + sum_by (took_for c) l =
        sum_by-cons (took_for c) e l in
        omega (arith, split, one, none, rest, whole_sum)

    pub took_all_in_all : sum_by (took_for c) journal ≡ sum_by took_in (had all x)
    took_all_in_all = sym (sum_reverse journal)
        ∙ ap (sum_by (took_for c)) (whole.all_is means t idle groups journal r)
        ∙ took_so_far [] all refl
