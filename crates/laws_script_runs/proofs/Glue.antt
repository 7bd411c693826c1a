-- How the laws of turns, of reports and of numbers come together: the grouped text.
use Rattle.std.proofs.Common.{ℕ, zero, suc, ◌≡◌, ◌≢◌, ◌+◌, ◌<◌, Bool, true, false, not, cond, ◌&&◌}
use Rattle.std.proofs.Common.{List, [], ◌∷◌, ◌++◌, map, reverse, refl, sym, ap, ◌∙◌, arith, Some}
use Rattle.std.proofs.Common.{None, ⊎_elim, ◌⊎◌, inl, inr}
use Rattle.std.specs.Prelude.{flat_map}
use Rattle.std.specs.List.{list_any, list_all}
use Rattle.std.proofs.lemmas.Bool.{false≢true, and_parts}
use Rattle.reactor_model.specs.ev_types.specs.declared.upcall.Answer.{Answer}
use Rattle.reactor_model.specs.ev_types.specs.declared.upcall.Answer.TheVariants.{Keep, Again}
use Rattle.reactor_model.specs.ev_types.specs.declared.upcall.Answer.TheVariants.{Close}
use Rattle.reactor_model.specs.ev_types.specs.declared.upcall.Kind.TheVariants.{Read}
use Rattle.reactor_model.specs.ev_types.specs.declared.upcall.Why.{Why}
use Rattle.reactor_model.specs.ev_types.specs.declared.upcall.Why.TheVariants.{Own}
use Rattle.reactor_model.specs.ev_types.specs.declared.upcall.Why.TheVariants.{Removed as ByRemoval}
use Rattle.reactor_model.specs.ev_types.specs.declared.upcall.Why.TheVariants.{Refused as ByRefusal}
use Rattle.reactor_model.specs.ev_base.specs.Terms.{Terms, AtListener, AtConnection, Step}
use Rattle.reactor_model.specs.ev_types.specs.declared.upcall.Upcall.{Upcall}
use Rattle.reactor_model.specs.ev_types.specs.declared.upcall.Upcall.TheVariants.{Input, Output}
use Rattle.reactor_model.specs.ev_types.specs.declared.upcall.Upcall.TheVariants.{Except, Timeout}
use Rattle.reactor_model.specs.ev_types.specs.declared.upcall.Upcall.TheVariants.{Notice}
use Rattle.reactor_model.specs.reactor_journal.specs.Event.{Item}
use Rattle.reactor_model.specs.reactor_journal.specs.declared.entry.Entry.{Entry}
use Rattle.reactor_model.specs.reactor_journal.specs.Past.{count, had, is_alive, is_pick, is_open}
use Rattle.reactor_model.specs.reactor_journal.specs.Follow.{is_legal, follows_ready}
use Rattle.laws_turns.specs.Laws.{stays}
use Rattle.laws_turns.proofs.Turns.{had_stays}
use Rattle.reactor_model.specs.Handling.{NoClose, GoesOn}
use Rattle.laws_script_told.specs.laws_reports.specs.Laws.{rests, reports_input, holds_back}
use Rattle.laws_script_told.specs.laws_reports.specs.Laws.{is_again}
use Rattle.laws_script_told.specs.laws_reports.proofs.Turns.{answered}
use Rattle.laws_script_told.specs.log_handler.specs.log_lines.specs.declared.end_kind.EndKind.{EndKind}
use Rattle.laws_script_told.specs.log_handler.specs.log_lines.specs.declared.end_kind.EndKind.TheVariants as end
use Rattle.laws_script_told.specs.log_handler.specs.log_lines.specs.Texts.{record_lines}
use Rattle.laws_script_told.specs.log_handler.specs.log_lines.specs.Texts.{closing_line}
use Rattle.laws_script_told.specs.log_handler.specs.declared.note.ServerNote.{ServerNote}
use Rattle.laws_script_told.specs.log_handler.specs.Connection as connection
use Rattle.laws_script_told.specs.log_handler.specs.Connections.{IsClosing}
use Rattle.laws_script_told.specs.log_handler.specs.Laws.{records_in}
use Rattle.laws_script_told.specs.log_handler.proofs.Courses.{course-goes}
use Rattle.laws_script_turns.specs.acceptor.specs.Accepting as accepting
use Rattle.laws_script_turns.specs.event_script.specs.Script.{ScriptStep, Opens, Brings, Shuts}
use Rattle.laws_script_turns.specs.event_script.specs.Script.{Fails, ListenerFails, ScriptGroup}
use Rattle.laws_script_turns.specs.event_script.specs.Script.{groups_told, report_step, steps_of}
use Rattle.laws_script_turns.specs.event_script.specs.Script.{opened, is_of, are_steps}
use Rattle.laws_script_turns.specs.event_script.specs.Stories.{story, offers}
use Rattle.laws_script_turns.specs.Laws.{pauses_had, finds_nothing, steps_on, is_orderly}
use Rattle.laws_script_turns.specs.Laws.{steps_on_listener, is_listening, untold, unoffered}
use Rattle.laws_script_turns.specs.Grouped.{grouped, grouped_lines, each_below}
use Rattle.laws_script_turns.proofs.Saying.{says_everything}
use Rattle.laws_script_turns.proofs.Listening.{takes_everything}
use Rattle.laws_script_told.specs.Laws.{steps_at, all_steps, is_step_at}
use Rattle.laws_script_told.specs.Told.{FollowsBefore, last_wait, is_over}
use Rattle.laws_script_told.proofs.Following.{reported}
use Rattle.laws_script_runs.specs.Connections.{lines_of, lines_by_connection, accepted}
use Rattle.laws_script_runs.specs.Steps.{EachStep}
use Rattle.laws_script_runs.proofs.Numbering.{IsNumbered}
use Rattle.laws_script_runs.proofs.Standing.{OpenedFor, stands_at, stands_first}
use Rattle.laws_script_runs.proofs.Scripts.{orderly}

-- ---- the steps of an end

conn_step : (c : ℕ) (step : ScriptStep)
    → is_step_at (AtConnection c) (report_step step) ≡ is_of c step
conn_step c (Opens conn) = refl
conn_step c (Brings conn bytes) = refl
conn_step c (Shuts conn) = refl
conn_step c (Fails conn) = refl
conn_step c ListenerFails = refl

listener_step : (step : ScriptStep) → is_step_at AtListener (report_step step) ≡ is_listening step
listener_step (Opens conn) = refl
listener_step (Brings conn bytes) = refl
listener_step (Shuts conn) = refl
listener_step (Fails conn) = refl
listener_step ListenerFails = refl

one_step : (b c : Bool) (n k : ℕ) → b ≡ c → n ≡ k → cond b (suc n) n ≡ cond c 1 0 + k
one_step true true n k e f = omega arith
one_step false false n k e f = omega arith
one_step true false n k e f = absurd (cc e)
one_step false true n k e f = absurd (cc e)

pub conn_steps : (c : ℕ) (steps : List ScriptStep)
    → steps_at (AtConnection c) (map report_step steps) ≡ steps_on c steps
conn_steps c [] = refl
conn_steps c (step ∷ steps) = one_step _ _ _ _ (conn_step c step) (conn_steps c steps)

listener_steps : (steps : List ScriptStep)
    → steps_at AtListener (map report_step steps) ≡ steps_on_listener steps
listener_steps [] = refl
listener_steps (step ∷ steps) = one_step _ _ _ _ (listener_step step) (listener_steps steps)

pub told_steps : (groups : List ScriptGroup)
    → all_steps (groups_told groups) ≡ map report_step (steps_of groups)
told_steps [] = refl
told_steps (g ∷ groups) = ap (λ (s : List Step). map report_step g.steps ++ s) (told_steps groups)
    ∙ map_both g.steps (steps_of groups)
  where
    map_both : (a b : List ScriptStep)
        → map report_step a ++ map report_step b ≡ map report_step (a ++ b)
    map_both [] b = refl
    map_both (x ∷ a) b = ap (λ (l : List Step). report_step x ∷ l) (map_both a b)

-- ---- turns that found nothing

kept_turn : (item : Item ServerNote) → stays item.answer ≡ true
    → finds_nothing item ≡ rests Read item
kept_turn item h = by_both item.upcall item.answer h
  where
    by_answer : (a : Answer) → stays a ≡ true
        → Rattle.laws_script_turns.specs.Laws.is_keep a ≡ not (is_again a)
    by_answer Keep h = refl
    by_answer Again h = refl
    by_answer Close h = absurd (false≢true h)

    by_both : (u : Upcall) (a : Answer) → stays a ≡ true
        → (Rattle.laws_script_told.specs.log_handler.specs.Laws.is_input u
        && Rattle.laws_script_turns.specs.Laws.is_keep a)
        ≡ (Rattle.laws_script_told.specs.laws_reports.specs.Laws.is_input u && not (is_again a))
    by_both Input a h = by_answer a h
    by_both Output a h = refl
    by_both Except a h = refl
    by_both (Timeout timer) a h = refl
    by_both (Notice kind) a h = refl

pauses_are : (items : List (Item ServerNote)) → list_all (λ item. stays item.answer) items ≡ true
    → pauses_had items ≡ count (rests Read) items
pauses_are [] h = refl
pauses_are (item ∷ items) h = sym (one_step (rests Read item) (finds_nothing item)
    (count (rests Read) items)
    (pauses_had items) (sym (kept_turn item (and_parts _ _ h).0))
    (sym (pauses_are items (and_parts (stays item.answer)
    (list_all (λ item. stays item.answer) items) h).1)))

pub no_close : (items : List (Item ServerNote)) → list_all (λ item. stays item.answer) items ≡ true
    → NoClose items
no_close [] h = tt
no_close (item ∷ items) h = (
  goes item.answer (and_parts _ _ h).0,
  no_close items (and_parts (stays item.answer) (list_all (λ item. stays item.answer) items) h).1,
)
  where
    goes : (a : Answer) → stays a ≡ true → GoesOn a
    goes Keep h = tt
    goes Again h = tt
    goes Close h = absurd (false≢true h)

-- ---- a handler that is alive when the script is over

module _ (t : Terms) (groups : List ScriptGroup) (most : ℕ) (past : List (Entry ServerNote))
    (legal : is_legal most past ≡ true) (free : list_any holds_back past ≡ false)
    (no_pick : (i : ℕ) → is_pick past i ≡ false) (none_open : (i : ℕ) → is_open past i ≡ false)
    (numbered : EachStep IsNumbered past)
    (follows : FollowsBefore (groups_told groups) past []) (behind : follows_ready past ≡ true)
    (over : is_over (last_wait (groups_told groups) past) ≡ true) where
  -- as many of its turns found nothing as there are steps at its end
  pub conn_quiet : (c x : ℕ) → OpenedFor past c x → is_alive past x ≡ true
      → pauses_had (had past x) ≡ steps_on c (steps_of groups)
  conn_quiet c x opened_for alive =
      pauses_are (had past x) (had_stays most past x legal alive)
      ∙ answered Read most past x legal free alive no_pick none_open
      ∙ reported groups most x (AtConnection c) past legal free alive
      (stands_at past c x most legal numbered opened_for) follows behind over
      ∙ ap (steps_at (AtConnection c)) (told_steps groups) ∙ conn_steps c (steps_of groups)

  pub listener_quiet : is_alive past 0 ≡ true
      → pauses_had (had past 0) ≡ steps_on_listener (steps_of groups)
  listener_quiet alive =
      pauses_are (had past 0) (had_stays most past 0 legal alive)
      ∙ answered Read most past 0 legal free alive no_pick none_open
      ∙ reported groups most 0 AtListener past legal free alive
      (stands_first past most legal numbered) follows behind over
      ∙ ap (steps_at AtListener) (told_steps groups) ∙ listener_steps (steps_of groups)

  -- the acceptor took all connections
  pub takes_all : (p : accepting.Progress) → opened (steps_of groups) < accepting.most_connections
      → is_alive past 0 ≡ true
      → accepting.Course (accepting.at_start (Some (unoffered (offers (steps_of groups)))))
      (had past 0) p → p.taken ≡ opened (steps_of groups)
  takes_all p few alive course = takes_everything (steps_of groups) (had past 0) p few course
      (listener_quiet alive)

  -- What a connection leaves: its turns over its story, and its lines. If it was not closed by
  -- itself, it was alive here, and has had no turn since.
  pub record Ends (c : ℕ) (all : List (Item ServerNote)) (lines : List ℕ) : Type 0 where
    pub moment : ℕ
    pub now : connection.Progress
    pub reason : Why
    pub word : EndKind
    pub course : connection.Course c None
        (connection.at_start moment (Some (untold (story c (steps_of groups))))) all now
    pub closing : IsClosing reason now.kept word
    pub opened_for : OpenedFor past c (suc c)
    pub by_others : reason ≢ Own → (is_alive past (suc c) ≡ true) × (all ≡ had past (suc c))
    pub by_itself : reason ≡ Own → now.kept ≢ None
    pub memory : word ≢ end.NoMemory
    pub taken_in : word ≢ end.Refused
    pub says : lines ≡ record_lines c (flat_map records_in all) ++ closing_line c word

  own_or_not : (reason : Why) → (reason ≡ Own → ⊥) ⊎ (reason ≡ Own)
  own_or_not Own = inr refl
  own_or_not ByRemoval = inl (λ e. other e)
    where
      other : ◌≡◌ {A = Why} ByRemoval Own → ⊥
      other e = cc
  own_or_not ByRefusal = inl (λ e. other e)
    where
      other : ◌≡◌ {A = Why} ByRefusal Own → ⊥
      other e = cc

  -- the lines of each connection are those of all its bytes
  says_grouped : (c : ℕ) (all : List (Item ServerNote)) (lines : List ℕ)
      → are_steps (reverse (steps_of groups)) ≡ true → Ends c all lines
      → lines ≡ grouped_lines c (steps_of groups)
  says_grouped c all lines script e =
      e.says ∙ says_everything c (steps_of groups) e.moment all e.now e.reason e.word
      (orderly c (steps_of groups) script) e.course quiet others e.closing e.memory e.taken_in
    where
      others : e.reason ≢ Own → e.now.kept ≡ None
      others other =
          let alive = e.by_others other in
          let stay = had_stays most past (suc c) legal alive.0 in
          course-goes c None _ e.now all refl e.course
          (no_close all (ap (list_all (λ item. stays item.answer)) alive.1 ∙ stay))

      quiet : e.now.kept ≡ None → pauses_had all ≡ steps_on c (steps_of groups)
      quiet none = ⊎_elim
          (λ (other : e.reason ≡ Own → ⊥). let alive = e.by_others other in
          ap pauses_had alive.1 ∙ conn_quiet c (suc c) e.opened_for alive.0)
          (λ (own : e.reason ≡ Own). absurd (e.by_itself own none))
          (own_or_not e.reason)

  same_each : (n : ℕ) (f g : ℕ → List ℕ) → ((c : ℕ) → c < n → f c ≡ g c)
      → each_below n f ≡ each_below n g
  same_each zero f g h = refl
  same_each (suc n) f g h = ap (λ (l : List ℕ). l ++ f n)
      (same_each n f g (λ c l. h c (omega arith)))
      ∙ ap (λ (l : List ℕ). each_below n g ++ l) (h n (omega arith))

  -- the second law, of a journal with these connections
  pub groups_lines : (journal : List (Entry ServerNote)) (all : ℕ → List (Item ServerNote))
      (p : accepting.Progress) → are_steps (reverse (steps_of groups)) ≡ true
      → opened (steps_of groups) < accepting.most_connections → is_alive past 0 ≡ true
      → accepting.Course (accepting.at_start (Some (unoffered (offers (steps_of groups)))))
      (had past 0) p → accepted journal ≡ p.taken
      → ((c : ℕ) → c < accepted journal → Ends c (all c) (lines_of c journal))
      → lines_by_connection journal ≡ grouped (steps_of groups)
  groups_lines journal all p script few alive course count_ ends =
      same_each (accepted journal) (λ c. lines_of c journal)
      (λ c. grouped_lines c (steps_of groups))
      (λ c l. says_grouped c (all c) (lines_of c journal) script (ends c l))
      ∙ ap (λ (n : ℕ). each_below n (λ c. grouped_lines c (steps_of groups)))
      (count_ ∙ takes_all p few alive course)
