-- What the turns and waits of a run leave of its one handler.
use Rattle.std.proofs.Common.{ℕ, ◌≡◌, ◌≤◌, ◌<◌, ◌==◌, ◌&&◌, ◌||◌, ◌⊎◌, ⊎_elim, inl, inr, Bool}
use Rattle.std.proofs.Common.{true}
use Rattle.std.proofs.Common.{false, not, List, [], ◌∷◌, ◌++◌, length, refl, sym, ap, ◌∙◌, subst}
use Rattle.std.proofs.Common.{arith, map, Option, Some, None, cond}
use Rattle.std.proofs.lemmas.Bool.{cases_Bool, false≢true, and_from, and_parts, eqb-true}
use Rattle.std.proofs.lemmas.List.{append-nil, append_assoc}
use Rattle.std.proofs.lemmas.List.Folds.{list_all-append}
use Rattle.std.specs.List.{list_all, list_any, filter}
use Rattle.ev_base.specs.Terms.{Terms}
use Rattle.ev_base.specs.declared.net.Report.{Report}
use Rattle.ev_base.specs.ev_types.specs.declared.upcall.Answer.{Answer}
use Rattle.ev_base.specs.ev_types.specs.declared.upcall.Answer.TheVariants as answers
use Rattle.ev_base.specs.ev_types.specs.declared.upcall.Handle.{Handle}
use Rattle.ev_base.specs.ev_types.specs.declared.upcall.Upcall.{Upcall}
use Rattle.reactor_model.specs.Handling.{Handling}
use Rattle.reactor_model.specs.Turns.{MayAct}
use Rattle.reactor_model.specs.declared.handler.Act.{Act}
use Rattle.reactor_model.specs.declared.handler.Act.TheVariants.{Install, MaskMine, CancelMine}
use Rattle.reactor_model.specs.declared.handler.Act.TheVariants.{Stop}
use Rattle.reactor_model.specs.reactor_journal.specs.Event.{Event, Origin}
use Rattle.reactor_model.specs.reactor_journal.specs.declared.entry.Entry.{Entry}
use Rattle.reactor_model.specs.reactor_journal.specs.declared.entry.Entry.TheVariants as entry
use Rattle.reactor_model.specs.reactor_journal.specs.Past.{past_of, belongs_to}
use Rattle.reactor_model.specs.reactor_journal.specs.Follow.{Legal, is_legal}
use Rattle.reactor_model.specs.reactor_journal.proofs.Turning.{past_of-more, Legal-front}
use Rattle.reactor_core.specs.reactor_summary.specs.Summary.{Summary, summary, step, is_alive}
use Rattle.reactor_core.specs.reactor_summary.specs.Summary.{closed_after, refused_after, with_end}
use Rattle.reactor_core.specs.reactor_summary.specs.Summary.{event_open, open_event}
use Rattle.reactor_core.specs.reactor_summary.specs.declared.parts.LiveHandle.{LiveHandle}
use Rattle.reactor_core.specs.Acting.{ActAppends}
use Rattle.reactor_core.specs.Polling.{due_of, ready_of}
use Rattle.reactor_core.specs.Settling.{IsClosing, returned}
use Rattle.reactor_core.specs.Handlers.{is_live}
use Rattle.reactor_core.proofs.Dispatch.{open_is_live}
use Rattle.core_loop.specs.Leading.{IsWait, IsTurn, NoneDue, Reaches, closed_of}
use Rattle.core_loop.proofs.Keeping.{sum, sum_more}
use Rattle.connector_run.specs.Phases.{BeginInTime, IsAlive, ClosedItself, first_entries, is_served}
use Rattle.connector_run.specs.Phases.{one_handle, write_alone}

-- ---- counts of closings and refusals

closed_step : {N : Type 0} (e : Entry N) (n : ℕ) → n ≤ closed_after e n
closed_step (entry.Closed handle note) n = omega arith
closed_step _ n = omega arith

refused_step : {N : Type 0} (e : Entry N) (n : ℕ) → n ≤ refused_after e n
refused_step (entry.Refused live fault note) n = omega arith
refused_step _ n = omega arith

closed_one : {N : Type 0} (h : List (Entry N)) (e : Entry N)
    → closed_of h ≤ closed_of (h ++ e ∷ [])
closed_one h e = omega (
  arith,
  ap (λ (s : Summary). s.closed) (sum_more h e),
  ap (λ (s : Summary). s.refused) (sum_more h e),
  closed_step e (sum h).closed,
  refused_step e (sum h).refused,
)

-- no entry takes one back
closed_grows : {N : Type 0} (h es : List (Entry N)) → closed_of h ≤ closed_of (h ++ es)
closed_grows h [] = omega (arith, ap closed_of (append-nil h))
closed_grows h (e ∷ es) = omega (
  arith,
  closed_one h e,
  closed_grows (h ++ e ∷ []) es,
  ap closed_of (append_assoc h (e ∷ []) es),
)

-- ---- the handler goes on

-- the handlers and the end are as they were
record Same {N : Type 0} (h g : List (Entry N)) : Type 0 where
  handles : (sum g).handles ≡ (sum h).handles
  ended : (sum g).ended ≡ (sum h).ended

same_one : {N : Type 0} (h : List (Entry N)) (e : Entry N)
    → (step (sum h) e).handles ≡ (sum h).handles → (step (sum h) e).ended ≡ (sum h).ended
    → Same h (h ++ e ∷ [])
same_one h e handles ended = record {
  handles = ap (λ (s : Summary). s.handles) (sum_more h e) ∙ handles;
  ended = ap (λ (s : Summary). s.ended) (sum_more h e) ∙ ended;
}

same_then : {N : Type 0} (h : List (Entry N)) (e : Entry N) (es : List (Entry N))
    → Same h (h ++ e ∷ []) → Same (h ++ e ∷ []) ((h ++ e ∷ []) ++ es) → Same h (h ++ e ∷ es)
same_then h e es one more = record {
  handles = ap (λ k. (sum k).handles) (sym (append_assoc h (e ∷ []) es))
      ∙ (more.handles ∙ one.handles);
  ended = ap (λ k. (sum k).ended) (sym (append_assoc h (e ∷ []) es)) ∙ (more.ended ∙ one.ended);
}

same_readies : {N : Type 0} (h : List (Entry N)) (reports : List Report)
    → Same h (h ++ map ready_of reports)
same_readies h [] = record {
  handles = ap (λ k. (sum k).handles) (append-nil h);
  ended = ap (λ k. (sum k).ended) (append-nil h);
}
same_readies h (r ∷ reports) = same_then h (ready_of r) (map ready_of reports)
    (same_one h (ready_of r) refl refl) (same_readies (h ++ ready_of r ∷ []) reports)

same_dues : {N : Type 0} (h : List (Entry N)) (timers : List ℕ) (reports : List Report)
    → Same h (h ++ (map due_of timers ++ map ready_of reports))
same_dues h [] reports = same_readies h reports
same_dues h (timer ∷ timers) reports =
    same_then h (entry.Due timer) (map due_of timers ++ map ready_of reports)
    (same_one h (entry.Due timer) refl refl)
    (same_dues (h ++ entry.Due timer ∷ []) timers reports)

kinds_readies : (N : Type 0) (reports : List Report)
    → list_all (is_served {N = N}) (map ready_of reports) ≡ true
kinds_readies N [] = refl
kinds_readies N (r ∷ reports) = kinds_readies N reports

kinds_dues : (N : Type 0) (timers : List ℕ) (reports : List Report)
    → list_all (is_served {N = N}) (map due_of timers ++ map ready_of reports) ≡ true
kinds_dues N [] reports = kinds_readies N reports
kinds_dues N (timer ∷ timers) reports = kinds_dues N timers reports

-- ---- waits that were begun in time

abbrev is_later : {N : Type 0} → Entry N → Bool
is_later (entry.Polled moment) = false
is_later _ = true

-- entries without a wait
in_time_one : {N : Type 0} (h : List (Entry N)) (e : Entry N) → is_later e ≡ true
    → BeginInTime (past_of h) → BeginInTime (past_of (h ++ e ∷ []))
in_time_one {N} h e later begun =
    subst (λ (past : List (Entry N)). BeginInTime past) (sym (past_of-more h e)) (by e later)
  where
    by : (e : Entry N) → is_later e ≡ true → BeginInTime (e ∷ past_of h)
    by (entry.Polled moment) later = absurd (false≢true later)
    by _ later = begun

in_time_on : {N : Type 0} (h es : List (Entry N)) → list_all is_later es ≡ true
    → BeginInTime (past_of h) → BeginInTime (past_of (h ++ es))
in_time_on {N} h [] later begun =
    subst (λ (k : List (Entry N)). BeginInTime (past_of k)) (sym (append-nil h)) begun
in_time_on {N} h (e ∷ es) later begun =
    let parts = and_parts (is_later e) (list_all is_later es) later in
    subst (λ (k : List (Entry N)). BeginInTime (past_of k)) (append_assoc h (e ∷ []) es)
    (in_time_on (h ++ e ∷ []) es parts.1 (in_time_one h e parts.0 begun))

later_readies : (N : Type 0) (reports : List Report)
    → list_all (is_later {N = N}) (map ready_of reports) ≡ true
later_readies N [] = refl
later_readies N (r ∷ reports) = later_readies N reports

later_dues : (N : Type 0) (timers : List ℕ) (reports : List Report)
    → list_all (is_later {N = N}) (map due_of timers ++ map ready_of reports) ≡ true
later_dues N [] reports = later_readies N reports
later_dues N (timer ∷ timers) reports = later_dues N timers reports

-- a wait that is begun while no deadline is reached
in_time_wait : {N : Type 0} (h : List (Entry N)) (moment : ℕ) (timers : List ℕ)
    (reports : List Report) → NoneDue h → BeginInTime (past_of h)
    → BeginInTime (past_of (h ++ entry.Polled moment
    ∷ (map due_of timers ++ map ready_of reports)))
in_time_wait {N} h moment timers reports none begun =
    subst (λ (k : List (Entry N)). BeginInTime (past_of k)) (append_assoc h
    (entry.Polled moment ∷ []) (map due_of timers ++ map ready_of reports))
    (in_time_on (h ++ entry.Polled moment ∷ []) (map due_of timers ++ map ready_of reports)
    (later_dues N timers reports)
    (subst (λ (past : List (Entry N)). BeginInTime past)
    (sym (past_of-more h (entry.Polled moment))) (none, begun)))

more_served : {N : Type 0} (wait : ℕ) (h es : List (Entry N)) (a : IsAlive wait h)
    → list_all is_served es ≡ true → (handler : LiveHandle)
    → (sum (h ++ es)).handles ≡ handler ∷ [] → handler.handle ≡ one_handle
    → handler.alive ≡ true → closed_of (h ++ es) ≤ 0 → BeginInTime (past_of (h ++ es))
    → (sum (h ++ es)).ended ≡ false → IsAlive wait (h ++ es)
more_served wait h es a kinds handler handles handle alive few in_time going = record {
  served = a.served ++ es;
  is = ap (λ k. k ++ es) a.is ∙ append_assoc (first_entries wait) a.served es;
  kinds = list_all-append is_served a.served es ∙ and_from _ _ a.kinds kinds;
  handler = handler;
  handles = handles;
  handle = handle;
  alive = alive;
  none_closed = omega (arith, few);
  in_time = in_time;
  going = going;
}

alive_waits : {N : Type 0} (wait : ℕ) (h entries : List (Entry N)) → IsAlive wait h → NoneDue h
    → IsWait entries → closed_of (h ++ entries) ≤ 0 → IsAlive wait (h ++ entries)
alive_waits {N} wait h entries a none w few =
    subst (λ es. IsAlive wait (h ++ es)) (sym w.is)
    (let es : List (Entry N) = entry.Polled w.now ∷ (map due_of w.timers ++ map ready_of w.reports)
    in
    let s : Same h (h ++ es) = same_then h (entry.Polled w.now)
    (map due_of w.timers ++ map ready_of w.reports) (same_one h (entry.Polled w.now) refl refl)
    (same_dues (h ++ entry.Polled w.now ∷ []) w.timers w.reports) in
    more_served wait h es a (kinds_dues N w.timers w.reports) a.handler (s.handles ∙ a.handles)
    a.handle a.alive (omega (arith, few, ap (λ es. closed_of (h ++ es)) w.is))
    (in_time_wait h w.now w.timers w.reports none a.in_time) (s.ended ∙ a.going))

-- ---- a turn

no_act : {H E N : Type 0} (means : Handling H E N) (t : Terms) (up : Upcall) (origin : Origin N)
    (act : Option (Act H N E)) → ((deed : _) → means.may t up deed → ⊥)
    → MayAct means t up origin act → act ≡ None
no_act means t up origin None none may = refl
no_act means t up origin (Some (Install handler mask timer)) none may = absurd (none _ may.0)
no_act means t up origin (Some (MaskMine mask)) none may = absurd (none _ may)
no_act means t up origin (Some (CancelMine timer)) none may = absurd (none _ may)
no_act means t up origin (Some Stop) none may = absurd (none _ may)

-- ---- the handler's state after a turn

cond_handle : (b : Bool) (g h : LiveHandle) → g.handle ≡ h.handle → (cond b g h).handle ≡ h.handle
cond_handle true g h q = q
cond_handle false g h q = refl

ended_handle : (event : Option Event) (h : LiveHandle) → (with_end event h).handle ≡ h.handle
ended_handle event h = cond_handle (belongs_to h.handle.0 event) (record h { alive = false }) h refl

-- the one handler after a return
record Left (answer : Answer) (handler : LiveHandle)
    (handles : List LiveHandle) : Type 0 where
  now : LiveHandle
  is : handles ≡ now ∷ []
  handle : now.handle ≡ handler.handle
  alive : (answer ≡ answers.Close) ⊎ (now.alive ≡ handler.alive)

left_returned : {N : Type 0} (s : Summary) (event : ℕ) (answer : Answer) (note : N)
    (handler : LiveHandle) → s.handles ≡ handler ∷ []
    → Left answer handler (step s (entry.Returned event answer note)).handles
left_returned s event answers.Keep note handler is =
    record { now = handler; is = is; handle = refl; alive = inr refl }
left_returned s event answers.Again note handler is =
    record { now = handler; is = is; handle = refl; alive = inr refl }
left_returned s event answers.Close note handler is = record {
  now = with_end (event_open s event) handler;
  is = ap (map (with_end (event_open s event))) is;
  handle = ended_handle (event_open s event) handler;
  alive = inl refl;
}

any_alive : (a b : Bool) → (a && b || false) ≡ true → b ≡ true
any_alive true true q = refl
any_alive true false q = absurd (false≢true q)
any_alive false b q = absurd (false≢true q)

lives : (hs : List LiveHandle) (now : LiveHandle) (x : ℕ) → hs ≡ now ∷ []
    → list_any (λ h. h.handle.0 == x && h.alive) hs ≡ true → now.alive ≡ true
lives hs now x is q = any_alive (now.handle.0 == x) now.alive
    (ap (list_any (λ h. h.handle.0 == x && h.alive)) (sym is) ∙ q)

any_one : (a : Bool) → (a || false) ≡ true → a ≡ true
any_one true q = refl
any_one false q = q

any_here : (a b : Bool) → a ≡ true → b ≡ true → (a && b || false) ≡ true
any_here true true p q = refl
any_here true false p q = absurd (false≢true q)
any_here false b p q = absurd (false≢true p)

-- ---- what a turn appends whose act is none

pub record Turned {N : Type 0} (h entries : List (Entry N)) : Type 0 where
  pub event : ℕ
  pub returned : ℕ
  pub answer : Answer
  pub note : N
  pub handle : Handle
  pub upcall : Upcall
  pub moment : ℕ
  pub made : open_event (sum (h ++ entry.Started event ∷ [])) returned
      ≡ Some (record {
        event = returned;
        handle = handle;
        upcall = upcall;
        moment = moment;
      })
  pub live : (most : ℕ) → is_legal most (past_of (h ++ entry.Started event ∷ [])) ≡ true
      → is_live (sum (h ++ entry.Started event ∷ [])) handle.0 ≡ true
  pub closing : List (Entry N)
  pub is_closing : IsClosing (not (is_alive (sum ((h ++ entry.Started event ∷ [])
      ++ entry.Returned returned answer note ∷ [])) handle.0)) handle closing
  pub is : entries ≡ entry.Started event ∷ entry.Returned returned answer note ∷ closing

pub turned : {H E N : Type 0} (means : Handling H E N) (t : Terms) (h entries : List (Entry N))
    → ((up : Upcall) (deed : _) → means.may t up deed → ⊥) → IsTurn means t h entries
    → Turned h entries
turned {N = N} means t h entries none turn =
    let d = turn.done in
    let act = no_act means t d.upcall _ d.turn.act (none d.upcall) turn.fits.act in
    let g : List (Entry N) = h ++ entry.Started turn.event ∷ [] in
    let acted : turn.acted ≡ [] = subst (λ act. ActAppends t.most (summary
    (past_of ((g ++ returned d ∷ []) ++ turn.closing))) d.handle act turn.before turn.after
    turn.acted) act turn.is_acted in
    record {
      event = turn.event;
      returned = d.event;
      answer = d.turn.answer;
      note = d.turn.note;
      handle = d.handle;
      upcall = d.upcall;
      moment = d.now;
      made = turn.fits.event;
      live = λ most legal. (open_is_live most (past_of g) d.event _ legal turn.fits.event).0;
      closing = turn.closing;
      is_closing = subst (λ past. IsClosing (not (is_alive (summary past) d.handle.0)) d.handle
          turn.closing) (sym (past_of-more g (returned d))) turn.is_closing;
      is = turn.is ∙ ap (λ es. entry.Started turn.event ∷ returned d ∷ es)
          (ap (λ es. turn.closing ++ es) acted ∙ append-nil turn.closing);
    }

module _ {N : Type 0} (wait : ℕ) (h entries : List (Entry N)) (a : IsAlive wait h)
    (u : Turned h entries) where
  started : List (Entry N)
  started = h ++ entry.Started u.event ∷ []

  back : List (Entry N)
  back = started ++ entry.Returned u.returned u.answer u.note ∷ []

  behind : h ++ entries ≡ back ++ u.closing
  unfolding started back
  behind = ap (λ es. h ++ es) u.is ∙ sym (append_assoc started
      (entry.Returned u.returned u.answer u.note ∷ []) u.closing
      ∙ append_assoc h (entry.Started u.event ∷ []) _)

  left : Left u.answer a.handler (sum back).handles
  unfolding started back
  left =
      let one : (sum started).handles ≡ a.handler ∷ [] =
      ap (λ (s : Summary). s.handles) (sum_more h (entry.Started u.event)) ∙ a.handles in
      subst (λ (hs : List LiveHandle). Left u.answer a.handler hs)
      (sym (ap (λ (s : Summary). s.handles)
      (sum_more started (entry.Returned u.returned u.answer u.note))))
      (left_returned (sum started) u.returned u.answer u.note a.handler one)

  going : (sum back).ended ≡ false
  unfolding started back
  going = ap (λ (s : Summary). s.ended)
      (sum_more started (entry.Returned u.returned u.answer u.note))
      ∙ (ap (λ (s : Summary). s.ended) (sum_more h (entry.Started u.event)) ∙ a.going)

  -- the handle of the turn is the one
  pub mine : (most : ℕ) → Legal (h ++ entries) most → u.handle ≡ one_handle
  unfolding started
  mine most legal =
      let all : h ++ entries
      ≡ started ++ (entry.Returned u.returned u.answer u.note ∷ u.closing) =
      ap (λ es. h ++ es) u.is ∙ sym (append_assoc h (entry.Started u.event ∷ []) _) in
      let front : Legal started most =
      Legal-front started (entry.Returned u.returned u.answer u.note ∷ u.closing) most
      (subst (λ (k : List (Entry N)). Legal k most) all legal) in
      let one : (sum started).handles ≡ a.handler ∷ [] =
      ap (λ (s : Summary). s.handles) (sum_more h (entry.Started u.event)) ∙ a.handles in
      let here : (a.handler.handle.0 == u.handle.0) ≡ true =
      any_one _ (ap (list_any (λ h. h.handle.0 == u.handle.0)) (sym one) ∙ u.live most front) in
      let same : a.handler.handle.0 ≡ u.handle.0 = eqb-true _ _ here in
      ap (λ (n : ℕ). record { 0 = n }) (sym same ∙ ap (λ (x : Handle). x.0) a.handle)

  -- its handler is alive, and nothing was closed
  stays : (b : Bool) → is_alive (sum back) u.handle.0 ≡ b → b ≡ true
      → IsClosing (not (is_alive (sum back) u.handle.0)) u.handle u.closing
      → closed_of (h ++ entries) ≤ 0 → IsAlive wait (h ++ entries)
  unfolding started back behind left going
  stays b is lives_on closing few =
      let none : u.closing ≡ [] =
      subst (λ (b : Bool). IsClosing (not b) u.handle u.closing) (is ∙ lives_on) closing in
      let all : h ++ entries ≡ back = behind ∙ (ap (λ es. back ++ es) none ∙ append-nil back) in
      let entries_are : entries ≡ entry.Started u.event
      ∷ entry.Returned u.returned u.answer u.note ∷ [] =
      u.is ∙ ap (λ es. entry.Started u.event
      ∷ entry.Returned u.returned u.answer u.note ∷ es) none in
      let kinds : list_all is_served entries ≡ true = ap (list_all is_served) entries_are in
      more_served wait h entries a kinds left.now
      (ap (λ k. (sum k).handles) all ∙ left.is) (left.handle ∙ a.handle)
      (lives (sum back).handles left.now u.handle.0 left.is (is ∙ lives_on)) few
      (in_time_on h entries (ap (list_all is_later) entries_are) a.in_time)
      (ap (λ k. (sum k).ended) all ∙ going)

  -- a closing is counted
  counts : (said : N) → u.closing ≡ entry.Closed u.handle said ∷ []
      → closed_of h < closed_of (h ++ entries)
  unfolding started back behind
  counts said is =
      let last = entry.Closed u.handle said in
      let all : h ++ entries ≡ back ++ last ∷ [] = behind ∙ ap (λ es. back ++ es) is in
      omega (
        arith,
        closed_grows h (entry.Started u.event ∷ []),
        closed_grows started (entry.Returned u.returned u.answer u.note ∷ []),
        ap closed_of all,
        ap (λ (s : Summary). s.closed) (sum_more back last),
        ap (λ (s : Summary). s.refused) (sum_more back last),
      )

  -- a turn that leaves the count leaves the handler alive
  pub alive_turns : closed_of (h ++ entries) ≤ 0 → IsAlive wait (h ++ entries)
  unfolding started back stays counts
  alive_turns few =
      ⊎_elim (λ lives_on. stays true lives_on refl u.is_closing few)
      (λ (dead : is_alive (sum back) u.handle.0 ≡ false).
      let c : IsClosing true u.handle u.closing =
      subst (λ (b : Bool). IsClosing (not b) u.handle u.closing) dead u.is_closing in
      absurd (omega (arith, few, counts c.0 c.1)))
      (cases_Bool (is_alive (sum back) u.handle.0))

  -- and one that raises it is that in which it closed itself
  closed_at : (said : N) (first : ℕ) → u.handle ≡ one_handle
      → u.closing ≡ entry.Closed u.handle said ∷ [] → is_alive (sum back) u.handle.0 ≡ false
      → first ≤ length h → ClosedItself wait first (h ++ entries)
  unfolding started back behind left going
  closed_at said first mine is dead held =
      let last = entry.Closed one_handle said in
      let closing : u.closing ≡ last ∷ [] =
      is ∙ ap (λ (x : Handle). entry.Closed x said ∷ []) mine in
      let all : h ++ entries ≡ back ++ last ∷ [] = behind ∙ ap (λ es. back ++ es) closing in
      let same : left.now.handle ≡ one_handle = left.handle ∙ a.handle in
      let here : (left.now.handle.0 == u.handle.0) ≡ true =
      ap (λ (x : Handle). x.0 == u.handle.0) same ∙ ap (λ (x : Handle). 0 == x.0) mine in
      let gone : left.now.alive ≡ true → ⊥ =
      (λ lives_on. false≢true (sym dead ∙ (ap (list_any (λ h. h.handle.0 == u.handle.0 &&
      h.alive)) left.is
      ∙ any_here (left.now.handle.0 == u.handle.0) left.now.alive here lives_on))) in
      let close : u.answer ≡ answers.Close =
      ⊎_elim (λ c. c) (λ q. absurd (gone (q ∙ a.alive))) left.alive in
      record {
        before = h;
        alive = a;
        event = u.event;
        returned = u.returned;
        upcall = u.upcall;
        moment = u.moment;
        made = subst (λ (x : Handle). open_event (sum started) u.returned ≡ Some (record {
          event = u.returned;
          handle = x;
          upcall = u.upcall;
          moment = u.moment;
        })) mine u.made;
        note = u.note;
        said = said;
        is = ap (λ es. h ++ es) (u.is ∙ (ap (λ es. entry.Started u.event
            ∷ entry.Returned u.returned u.answer u.note ∷ es) closing
            ∙ ap (λ (x : Answer). entry.Started u.event ∷ entry.Returned u.returned x u.note
            ∷ last ∷ []) close));
        held = held;
        none_live = ap (λ k. (sum k).handles) all
            ∙ (ap (λ (s : Summary). s.handles) (sum_more back last)
            ∙ (ap (λ hs. filter (λ (h : LiveHandle). not (0 == h.handle.0)) hs) left.is
            ∙ ap (λ (x : Handle). cond (not (0 == x.0)) (left.now ∷ []) []) same));
        going = ap (λ k. (sum k).ended) all
            ∙ (ap (λ (s : Summary). s.ended) (sum_more back last) ∙ going);
      }

  pub closes_turning : (first : ℕ) → u.handle ≡ one_handle → closed_of h ≤ 0
      → 1 ≤ closed_of (h ++ entries) → first ≤ length h → ClosedItself wait first (h ++ entries)
  unfolding started back behind closed_at
  closes_turning first mine few many held =
      ⊎_elim (λ (lives_on : is_alive (sum back) u.handle.0 ≡ true).
      let none : u.closing ≡ [] =
      subst (λ (b : Bool). IsClosing (not b) u.handle u.closing) lives_on u.is_closing in
      let all : h ++ entries ≡ back = behind ∙ (ap (λ es. back ++ es) none ∙ append-nil back) in
      absurd (omega (
        arith,
        few,
        many,
        ap closed_of all,
        ap (λ (s : Summary). s.closed)
            (sum_more started (entry.Returned u.returned u.answer u.note)),
        ap (λ (s : Summary). s.refused)
            (sum_more started (entry.Returned u.returned u.answer u.note)),
        ap (λ (s : Summary). s.closed) (sum_more h (entry.Started u.event)),
        ap (λ (s : Summary). s.refused) (sum_more h (entry.Started u.event)),
      )))
      (λ dead. let c : IsClosing true u.handle u.closing =
      subst (λ (b : Bool). IsClosing (not b) u.handle u.closing) dead u.is_closing in
      closed_at c.0 first mine c.1 dead held)
      (cases_Bool (is_alive (sum back) u.handle.0))

-- ---- all steps

module _ {H E N : Type 0} (means : Handling H E N) (t : Terms)
    (none : (up : Upcall) (deed : _) → means.may t up deed → ⊥) where
  -- after each step no deadline is reached
  none_due_at : (before : List (Entry N)) (steps : List (List (Entry N))) (h : List (Entry N))
      → NoneDue before → Reaches means t before steps h → NoneDue h
  none_due_at before [] h none is = subst (λ (k : List (Entry N)). NoneDue k) (sym is) none
  none_due_at before (entries ∷ earlier) h none r = r.4

  -- while no handler was closed, the one is alive
  pub alive_steps : (wait : ℕ) (before : List (Entry N)) (steps : List (List (Entry N)))
      (h : List (Entry N)) → IsAlive wait before → NoneDue before → Reaches means t before steps h
      → closed_of h ≤ 0 → IsAlive wait h
  alive_steps wait before [] h a none_due is few = subst (IsAlive wait) (sym is) a
  alive_steps wait before (entries ∷ earlier) h a none_due r few =
      let between = r.0 in
      let same : closed_of h ≡ closed_of (between ++ entries) = ap closed_of r.3 in
      let b = alive_steps wait before earlier between a none_due r.1
      (omega (arith, few, same, closed_grows between entries)) in
      subst (IsAlive wait) (sym r.3)
      (⊎_elim (λ w. alive_waits wait between entries b
      (none_due_at before earlier between none_due r.1) w (omega (arith, few, same)))
      (λ turn. alive_turns wait between entries b (turned means t between entries none turn)
      (omega (arith, few, same))) r.2)

-- ---- where the run begins

pub alive_first : {N : Type 0} (wait : ℕ) → IsAlive {N = N} wait (first_entries wait)
alive_first wait = record {
  served = [];
  is = refl;
  kinds = refl;
  handler = record { handle = one_handle; mask = write_alone; suspended = false; alive = true };
  handles = refl;
  handle = refl;
  alive = refl;
  none_closed = refl;
  in_time = tt;
  going = refl;
}
