-- Where each connection was accepted, offered and closed in a whole journal over a script: at one
-- place each.
use Rattle.std.proofs.Common.{ℕ, zero, suc, ◌≡◌, ◌∙◌, ◌+◌, ◌≤◌, Bool, true, false, cond, ◌||◌, List}
use Rattle.std.proofs.Common.{[], ◌∷◌, ◌++◌, length, refl, sym, ap, subst, arith, Option, Some}
use Rattle.std.proofs.Common.{None, ⊎_elim, append_assoc}
use Rattle.std.specs.Prelude.{flat_map}
use Rattle.std.proofs.lemmas.Bool.{false≢true, and_parts, both_ways, cases_Bool, eqb-true, eq-eqb}
use Rattle.laws_script_complete.specs.ev_types.specs.declared.upcall.Answer.{Answer}
use Rattle.laws_script_complete.specs.ev_types.specs.declared.upcall.Handle.{Handle}
use Rattle.laws_script_complete.specs.ev_types.specs.declared.upcall.Mask.{Mask}
use Rattle.laws_script_complete.specs.ev_types.specs.declared.upcall.Why.{Why}
use Rattle.laws_script_complete.specs.ev_types.specs.declared.upcall.Why.TheVariants.{
  Refused as ByRefusal,
}
use Rattle.laws_script_complete.specs.reactor_journal.specs.Event.{Item}
use Rattle.laws_script_complete.specs.reactor_journal.specs.Event.{Origin}
use Rattle.laws_script_complete.specs.reactor_journal.specs.declared.entry.Entry.{Entry}
use Rattle.laws_script_complete.specs.reactor_journal.specs.declared.entry.Entry.TheVariants.{
  Opened,
}
use Rattle.laws_script_complete.specs.reactor_journal.specs.declared.entry.Entry.TheVariants.{
  Returned,
}
use Rattle.laws_script_complete.specs.reactor_journal.specs.declared.entry.Entry.TheVariants.{
  Refused,
}
use Rattle.laws_script_complete.specs.reactor_journal.specs.declared.entry.Entry.TheVariants.{
  Closed,
}
use Rattle.laws_script_complete.specs.reactor_journal.specs.Past.{had}
use Rattle.laws_script_complete.specs.reactor_journal.specs.Past.{origin_of}
use Rattle.laws_script_complete.specs.reactor_journal.specs.Past.{reason_of}
use Rattle.laws_script_complete.specs.reactor_journal.specs.Past.{offered_here}
use Rattle.laws_script_complete.specs.reactor_journal.specs.Past.{opens}
use Rattle.laws_script_complete.specs.reactor_journal.specs.Past.{was_opened}
use Rattle.laws_script_complete.specs.reactor_journal.specs.Past.{was_closed}
use Rattle.laws_script_complete.specs.reactor_journal.specs.Past.{is_closed}
use Rattle.laws_script_complete.specs.reactor_journal.specs.Past.{started_at}
use Rattle.laws_script_complete.specs.reactor_journal.specs.Follow.{may_follow}
use Rattle.laws_script_complete.specs.reactor_journal.specs.Follow.{is_legal}
use Rattle.laws_script_complete.specs.reactor_journal.proofs.Basics.{may_fits}
use Rattle.laws_script_complete.specs.reactor_journal.proofs.Closing.{closing}
use Rattle.laws_script_complete.specs.reactor_journal.proofs.Turning.{is_legal-front}
use Rattle.laws_script_complete.specs.acceptor.specs.Laws.{number_in}
use Rattle.laws_script_complete.specs.acceptor.proofs.Accounts
    as acceptor_accounts
use Rattle.laws_script_complete.specs.log_handler.specs.declared.note.ServerNote.{ServerNote}
use Rattle.laws_script_complete.specs.log_handler.specs.declared.note.ServerNote.TheVariants
    as note
use Rattle.laws_script_complete.specs.event_script.specs.Script.{ScriptStep}
use Rattle.laws_script_complete.specs.laws_script_runs.specs.Connections.{AreLeft, IsLeft, SaysLast}
use Rattle.laws_script_complete.specs.laws_script_runs.specs.Connections.{LeavesOffered}
use Rattle.laws_script_complete.specs.laws_script_runs.specs.Connections.{TalksThrough}
use Rattle.laws_script_complete.specs.laws_script_runs.specs.Connections.{accepts, accepted}
use Rattle.laws_script_complete.specs.laws_script_runs.specs.Steps.{EachStep}
use Rattle.laws_script_complete.specs.laws_script_runs.proofs.Handles.{IsBegun}
use Rattle.laws_script_complete.specs.laws_script_runs.proofs.Notes.{course_listens, is_listening}
use Rattle.laws_script_complete.specs.laws_script_runs.proofs.Notes.{number_next}
use Rattle.laws_script_complete.specs.laws_script_runs.proofs.Settling as settling
use Rattle.laws_script_complete.specs.laws_script_runs.proofs.Settling.{each_front, origin_still}
use Rattle.laws_script_complete.specs.laws_script_runs.proofs.Settling.{opened_before_closed}
use Rattle.laws_script_complete.specs.laws_script_runs.proofs.Turns as turns
use Rattle.laws_script_taken.specs.Taken.{accepts_connection, finishes, is_closing_of}
use Rattle.laws_script_taken.proofs.Places.{Cuts, same_cut, first_cut, second_cut, cuts, same_rest}

-- ---- counts

pub more_accepted : (later : List (Entry ServerNote)) (event : ℕ) (answer : Answer) (k : ℕ)
    (past : List (Entry ServerNote)) → accepted past + 1
    ≤ accepted (later ++ Returned event answer (note.Accepted k) ∷ past)
more_accepted [] event answer k past = omega arith
more_accepted (e ∷ later) event answer k past =
    one (accepts e) (more_accepted later event answer k past)
  where
    one : (b : Bool) → accepted past + 1
        ≤ accepted (later ++ Returned event answer (note.Accepted k) ∷ past)
        → accepted past + 1 ≤ cond b (suc (accepted
        (later ++ Returned event answer (note.Accepted k) ∷ past)))
        (accepted (later ++ Returned event answer (note.Accepted k) ∷ past))
    one true h = omega (arith, h)
    one false h = h

pub closed_in : (k past : List (Entry ServerNote)) (handle : Handle) (said : ServerNote)
    → was_closed (k ++ Closed handle said ∷ past) handle.0 ≡ true
closed_in [] past handle said = ap (λ (b : Bool). b || was_closed past handle.0)
    (eq-eqb handle.0 handle.0 refl)
closed_in (e ∷ k) past handle said =
    or_right _ (was_closed (k ++ Closed handle said ∷ past) handle.0) (closed_in k past handle said)
  where
    or_right : (b c : Bool) → c ≡ true → (b || c) ≡ true
    or_right true c h = refl
    or_right false c h = h

-- the turn that accepted connection c
pub record AcceptTurn (c : ℕ) (e : Entry ServerNote) : Type 0 where
  pub event : ℕ
  pub answer : Answer
  pub is : e ≡ Returned event answer (note.Accepted c)

pub accept_turn : (c : ℕ) (e : Entry ServerNote) → accepts_connection c e ≡ true → AcceptTurn c e
accept_turn c (Returned event answer (note.Accepted k)) h =
    record {
      event = event;
      answer = answer;
      is = ap (λ (i : ℕ). Returned event answer (note.Accepted i)) (eqb-true k c h);
    }
accept_turn c _ h = absurd (false≢true h)

-- ---- offers

-- directly after an entry, or after the `Closed` directly after it
pub data Behind (a : Entry ServerNote) (p s : List (Entry ServerNote)) : Type 0 where
  directly : s ≡ a ∷ p → Behind a p s
  closed_between : (handle : Handle) (said : ServerNote) → s ≡ Closed handle said ∷ (a ∷ p)
      → Behind a p s

-- the registration of a handler
pub record OpenedAt (past : List (Entry ServerNote)) (x : ℕ) (o : Origin ServerNote) : Type 0 where
  pub later : List (Entry ServerNote)
  pub handle : Handle
  pub mask : Mask
  pub before : List (Entry ServerNote)
  pub is : past ≡ later ++ Opened handle mask ∷ before
  pub mine : handle.0 ≡ x
  pub here : offered_here before ≡ Some o

origin_step : (e : Entry ServerNote) (past : List (Entry ServerNote)) (x : ℕ) → opens x e ≡ false
    → origin_of (e ∷ past) x ≡ origin_of past x
origin_step e past x o = rw (o, origin_of) refl

pub origin_new : (e : Entry ServerNote) (past : List (Entry ServerNote)) (x : ℕ) → opens x e ≡ true
    → origin_of (e ∷ past) x ≡ offered_here past
origin_new e past x o = rw (o, origin_of) refl

opened_now : (e : Entry ServerNote) (past : List (Entry ServerNote)) (x : ℕ) (o : Origin ServerNote)
    → opens x e ≡ true → offered_here past ≡ Some o → OpenedAt (e ∷ past) x o
opened_now (Opened handle mask) past x o h here =
    record {
      later = [];
      handle = handle;
      mask = mask;
      before = past;
      is = refl;
      mine = eqb-true handle.0 x h;
      here = here;
    }
opened_now _ past x o h here = absurd (false≢true h)

pub origin_found : (past : List (Entry ServerNote)) (x : ℕ) (o : Origin ServerNote)
    → origin_of past x ≡ Some o → OpenedAt past x o
origin_found [] x o h = absurd (none h)
  where
    none : ◌≡◌ {A = Option (Origin ServerNote)} None (Some o) → ⊥
    none q = cc
origin_found (e ∷ past) x o h = ⊎_elim
    (λ (t : opens x e ≡ true). opened_now e past x o t (sym (origin_new e past x t) ∙ h))
    (λ (f : opens x e ≡ false). more (origin_found past x o (sym (origin_step e past x f) ∙ h)))
    (cases_Bool (opens x e))
  where
    more : OpenedAt past x o → OpenedAt (e ∷ past) x o
    more r = record {
      later = e ∷ r.later;
      handle = r.handle;
      mask = r.mask;
      before = r.before;
      is = ap (λ (l : List (Entry ServerNote)). e ∷ l) r.is;
      mine = r.mine;
      here = r.here;
    }

-- the turn that accepted the connection which is offered here
pub record AcceptedHere (s : List (Entry ServerNote)) (o : Origin ServerNote) (c : ℕ) : Type 0 where
  pub event : ℕ
  pub answer : Answer
  pub past : List (Entry ServerNote)
  pub began : o.moment ≡ started_at past event
  pub behind : Behind (Returned event answer (note.Accepted c)) past s

accepted_turn : (event : ℕ) (answer : Answer) (said : ServerNote) (past s : List (Entry ServerNote))
    (o : Origin ServerNote) (c : ℕ) → Some (record { note = said; moment = started_at past event })
    ≡ Some o → o.note ≡ note.Accepted c
    → Behind (Returned event answer said) past s → AcceptedHere s o c
accepted_turn event answer said past s o c h is b = record {
  event = event;
  answer = answer;
  past = past;
  began = ap (λ (x : Option (Origin ServerNote)). elim x [ None ↦ o.moment | Some y ↦ y.moment ])
      (sym h);
  behind = subst (λ (n : ServerNote). Behind (Returned event answer n) past s)
      (ap (λ (x : Option (Origin ServerNote)). elim x [ None ↦ said | Some y ↦ y.note ]) h ∙ is) b;
}

pub accepted_here : (s : List (Entry ServerNote)) (o : Origin ServerNote) (c : ℕ)
    → offered_here s ≡ Some o → o.note ≡ note.Accepted c → AcceptedHere s o c
accepted_here [] o c h is = absurd (none h)
  where
    none : ◌≡◌ {A = Option (Origin ServerNote)} None (Some o) → ⊥
    none q = cc
accepted_here (Returned event answer said ∷ past) o c h is =
    accepted_turn event answer said past (Returned event answer said ∷ past) o c h is
    (directly refl)
accepted_here (Closed handle other ∷ (Returned event answer said ∷ past)) o c h is =
    accepted_turn event answer said past (Closed handle other ∷ (Returned event answer said ∷ past))
    o c h is (closed_between handle other refl)
accepted_here (Closed handle other ∷ []) o c h is = absurd (none h)
  where
    none : ◌≡◌ {A = Option (Origin ServerNote)} None (Some o) → ⊥
    none q = cc
accepted_here (Closed handle other ∷ (_ ∷ past)) o c h is = absurd (none h)
  where
    none : ◌≡◌ {A = Option (Origin ServerNote)} None (Some o) → ⊥
    none q = cc
accepted_here (_ ∷ past) o c h is = absurd (none h)
  where
    none : ◌≡◌ {A = Option (Origin ServerNote)} None (Some o) → ⊥
    none q = cc

-- ---- what a note of a connection's end says

-- a connection that leaves such a note has this number
pub record LeavesIt (steps : List ScriptStep) (idle : Option ℕ) (c : ℕ)
    (origin : Option (Origin ServerNote)) (had : List (Item ServerNote)) (reason : Why)
    (said : ServerNote) : Type 0 where
  pub from : Origin ServerNote
  pub is : origin ≡ Some from
  pub of_it : from.note ≡ note.Accepted c
  pub talks : TalksThrough steps idle c from.moment had reason said

module _ (steps : List ScriptStep) (idle : Option ℕ) (c : ℕ) (had : List (Item ServerNote))
    (reason : Why) (said : ServerNote) (ends : finishes c said ≡ true) where
  by_note : (o : Origin ServerNote) (n : ServerNote) → o.note ≡ n
      → LeavesOffered steps idle n o.moment had reason said
      → LeavesIt steps idle c (Some o) had reason said
  by_note o (note.Accepted k) says h =
      let same : k ≡ c = eqb-true k c (sym (ap (finishes c) h.notes) ∙ ends) in
      record {
        from = o;
        is = refl;
        of_it = says ∙ ap (λ (i : ℕ). note.Accepted i) same;
        talks = subst (λ (i : ℕ). TalksThrough steps idle i o.moment had reason said) same h;
      }
  by_note o note.NoneWaiting says h = absurd h
  by_note o note.ListenerFailed says h = absurd h
  by_note o note.ListenerShut says h = absurd h
  by_note o (note.Piece conn took records) says h = absurd h
  by_note o (note.Finished conn end) says h = absurd h

  pub leaves_it : (origin : Option (Origin ServerNote)) → SaysLast steps idle origin had reason said
      → LeavesIt steps idle c origin had reason said
  leaves_it None h = absurd (false≢true (sym (ap (finishes c) h.notes) ∙ ends))
  leaves_it (Some o) h = by_note o o.note refl h

listening_ends_none : (c : ℕ) (said : ServerNote) → is_listening said ≡ true
    → finishes c said ≡ false
listening_ends_none c (note.Accepted conn) h = refl
listening_ends_none c note.NoneWaiting h = refl
listening_ends_none c note.ListenerFailed h = refl
listening_ends_none c note.ListenerShut h = refl
listening_ends_none c (note.Piece conn took records) h = refl
listening_ends_none c (note.Finished conn end) h = absurd (false≢true h)

-- ---- a whole journal

module _ (most : ℕ) (steps : List ScriptStep) (idle : Option ℕ) (all : List (Entry ServerNote))
    (legal : is_legal most all ≡ true) (begun : EachStep IsBegun all)
    (left : AreLeft steps idle all)
    (closed : (x : ℕ) → was_opened all x ≡ true → was_closed all x ≡ true)
    (first_opened : was_opened all 0 ≡ true) where
  shifted : (later : List (Entry ServerNote)) (e : Entry ServerNote)
      (past : List (Entry ServerNote)) → all ≡ later ++ e ∷ past → all ≡ (later ++ e ∷ []) ++ past
  shifted later e past is = is ∙ sym (append_assoc later (e ∷ []) past)

  pub left_at : (later : List (Entry ServerNote)) (e : Entry ServerNote)
      (past : List (Entry ServerNote)) → all ≡ later ++ e ∷ past → IsLeft steps idle past e
  left_at later e past is = (each_front (IsLeft steps idle) later (e ∷ past)
      (subst (EachStep (IsLeft steps idle)) is left)).0

  pub legal_at : (later : List (Entry ServerNote)) (e : Entry ServerNote)
      (past : List (Entry ServerNote)) → all ≡ later ++ e ∷ past → may_follow most past e ≡ true
  legal_at later e past is = (and_parts (may_follow most past e) (is_legal most past)
      (is_legal-front most later (e ∷ past) (sym (ap (is_legal most) is) ∙ legal))).0

  -- a connection is accepted with the number of those before
  pub numbered : (later past : List (Entry ServerNote)) (event : ℕ) (answer : Answer) (k : ℕ)
      → all ≡ later ++ Returned event answer (note.Accepted k) ∷ past → k ≡ accepted past
  numbered later past event answer k is = by_handle t.x t.turn
    where
      t : settling.TurnOf most all legal event answer (note.Accepted k) past
      t = settling.turn_of most all legal later past event answer (note.Accepted k) is

      zero_more : (n : ℕ) → 0 + n ≡ n
      zero_more n = omega arith

      other : (conn took : ℕ) (records : List _) → note.Accepted k ≡ note.Piece conn took records
          → ⊥
      other conn took records q = cc

      by_handle : (x : ℕ) → settling.Turn most all legal event answer (note.Accepted k) past x
          → k ≡ accepted past
      by_handle zero turn =
          let listens = turns.acceptor most steps idle all legal begun left closed first_opened in
          let account = acceptor_accounts.accounts _ (had all 0) listens.now listens.course in
          number_next 0 listens.now.taken (had past 0) turn.item turn.more k
          (sym (ap (flat_map number_in) turn.among) ∙ account.notes) turn.notes
          ∙ zero_more (length (flat_map number_in (had past 0)))
          ∙ sym (turns.counts most steps idle all legal begun left closed
          (later ++ Returned event answer (note.Accepted k) ∷ []) past
          (shifted later (Returned event answer (note.Accepted k)) past is))
      by_handle (suc d) turn =
          let o = turns.opened_all most steps idle all legal begun left closed later past
          (Returned event answer (note.Accepted k)) (suc d) is turn.opened_now in
          let piece = turns.conn_note most steps idle all legal begun left closed d event answer
          (note.Accepted k) later past is turn o in
          absurd (other _ piece.0 piece.1 (sym turn.notes ∙ piece.2))

  -- ---- the one place where a connection is accepted

  pub record Accepts (c : ℕ) (a : Entry ServerNote) (past : List (Entry ServerNote)) : Type 0 where
    pub event : ℕ
    pub answer : Answer
    pub later : List (Entry ServerNote)
    pub it : a ≡ Returned event answer (note.Accepted c)
    pub is : all ≡ later ++ a ∷ past

  accept_number : (c : ℕ) (a : Entry ServerNote) (past : List (Entry ServerNote)) → Accepts c a past
      → c ≡ accepted past
  accept_number c a past h = numbered h.later past h.event h.answer c
      (h.is ∙ ap (λ (e : Entry ServerNote). h.later ++ e ∷ past) h.it)

  pub not_again : (c : ℕ) (a b : Entry ServerNote) (p q between : List (Entry ServerNote))
      → Accepts c a p → Accepts c b q → p ≡ between ++ b ∷ q → ⊥
  not_again c a b p q between h k is =
      let one = accept_number c a p h in
      let two = accept_number c b q k in
      let more : accepted q + 1 ≤ accepted
      (between ++ Returned k.event k.answer (note.Accepted c) ∷ q) =
      more_accepted between k.event k.answer c q in
      let same_ : accepted p ≡ accepted (between ++ Returned k.event k.answer (note.Accepted c)
      ∷ q) = ap accepted is ∙ ap (λ (e : Entry ServerNote). accepted (between ++ e ∷ q)) k.it in
      omega (arith, one, two, more, same_)

  one_place : (c : ℕ) (a b : Entry ServerNote) (p q : List (Entry ServerNote)) → Accepts c a p
      → Accepts c b q → a ∷ p ≡ b ∷ q
  one_place c a b p q h k = by (cuts h.later a p k.later b q (sym h.is ∙ k.is))
    where
      by : Cuts h.later a p k.later b q → a ∷ p ≡ b ∷ q
      by (same_cut i j l) = ap (λ (e : Entry ServerNote). e ∷ p) j
          ∙ ap (λ (t : List (Entry ServerNote)). b ∷ t) l
      by (first_cut m i l) = absurd (not_again c a b p q m h k l)
      by (second_cut m i l) = absurd (not_again c b a q p m k h l)

  -- ---- the one place where it is offered

  pub record OfferAt (c : ℕ) (offer : Entry ServerNote) (s : List (Entry ServerNote)) : Type 0 where
    pub later : List (Entry ServerNote)
    pub is : all ≡ later ++ offer ∷ s
    pub event : ℕ
    pub answer : Answer
    pub past : List (Entry ServerNote)
    pub behind : Behind (Returned event answer (note.Accepted c)) past s
    pub no_close : is_closed offer ≡ false

  pub place_of : (c : ℕ) (offer : Entry ServerNote) (s : List (Entry ServerNote))
      → (o : OfferAt c offer s) → Accepts c (Returned o.event o.answer (note.Accepted c)) o.past
  place_of c offer s o = by o.behind
    where
      a : Entry ServerNote
      a = Returned o.event o.answer (note.Accepted c)

      by : Behind a o.past s → Accepts c a o.past
      by (directly i) = record {
        event = o.event;
        answer = o.answer;
        later = o.later ++ offer ∷ [];
        it = refl;
        is =
            shifted o.later offer s o.is ∙ ap (λ (t : List (Entry ServerNote)).
            (o.later ++ offer ∷ []) ++ t) i;
      }
      by (closed_between handle said i) =
          let up : all ≡ (o.later ++ offer ∷ []) ++ Closed handle said ∷ (a ∷ o.past) =
          shifted o.later offer s o.is ∙ ap (λ (t : List (Entry ServerNote)).
          (o.later ++ offer ∷ []) ++ t) i in
          record {
            event = o.event;
            answer = o.answer;
            later = (o.later ++ offer ∷ []) ++ Closed handle said ∷ [];
            it = refl;
            is = shifted (o.later ++ offer ∷ []) (Closed handle said) (a ∷ o.past) up;
          }

  pub record SameOffer (e f : Entry ServerNote) (s u : List (Entry ServerNote)) : Type 0 where
    pub offer : e ≡ f
    pub place : s ≡ u

  pub one_offer : (c : ℕ) (e f : Entry ServerNote) (s u : List (Entry ServerNote)) → OfferAt c e s
      → OfferAt c f u → SameOffer e f s u
  one_offer c e f s u o w = by o.behind w.behind
    where
      a : Entry ServerNote
      a = Returned o.event o.answer (note.Accepted c)

      b : Entry ServerNote
      b = Returned w.event w.answer (note.Accepted c)

      turn : a ∷ o.past ≡ b ∷ w.past
      turn = one_place c a b o.past w.past (place_of c e s o) (place_of c f u w)

      here : all ≡ (o.later ++ e ∷ []) ++ s
      here = shifted o.later e s o.is

      there : all ≡ (w.later ++ f ∷ []) ++ u
      there = shifted w.later f u w.is

      at_one : s ≡ u → SameOffer e f s u
      at_one same_ = record {
        offer = (same_rest o.later e w.later f u
            (sym (ap (λ (t : List (Entry ServerNote)). o.later ++ e ∷ t) same_) ∙ sym o.is
            ∙ w.is)).here;
        place = same_;
      }

      by : Behind a o.past s → Behind b w.past u → SameOffer e f s u
      by (directly i) (directly j) = at_one (i ∙ turn ∙ sym j)
      by (directly i) (closed_between handle said j) =
          let up : all ≡ (w.later ++ f ∷ []) ++ Closed handle said ∷ s =
          there ∙ ap (λ (t : List (Entry ServerNote)). (w.later ++ f ∷ []) ++ t)
          (j ∙ ap (λ (t : List (Entry ServerNote)). Closed handle said ∷ t) (sym turn ∙ sym i))
          in
          let same_ = (same_rest o.later e (w.later ++ f ∷ []) (Closed handle said) s
          (sym o.is ∙ up)).here in
          absurd (both_ways (is_closed e) o.no_close (ap is_closed same_))
      by (closed_between handle said i) (directly j) =
          let up : all ≡ (o.later ++ e ∷ []) ++ Closed handle said ∷ u =
          here ∙ ap (λ (t : List (Entry ServerNote)). (o.later ++ e ∷ []) ++ t)
          (i ∙ ap (λ (t : List (Entry ServerNote)). Closed handle said ∷ t) (turn ∙ sym j)) in
          let same_ = (same_rest w.later f (o.later ++ e ∷ []) (Closed handle said) u
          (sym w.is ∙ up)).here in
          absurd (both_ways (is_closed f) w.no_close (ap is_closed same_))
      by (closed_between handle said i) (closed_between handle' said' j) =
          let up : (o.later ++ e ∷ []) ++ Closed handle said ∷ (b ∷ w.past)
          ≡ (w.later ++ f ∷ []) ++ Closed handle' said' ∷ (b ∷ w.past) =
          sym (here ∙ ap (λ (t : List (Entry ServerNote)). (o.later ++ e ∷ []) ++ t)
          (i ∙ ap (λ (t : List (Entry ServerNote)). Closed handle said ∷ t) turn)) ∙ there
          ∙ ap (λ (t : List (Entry ServerNote)). (w.later ++ f ∷ []) ++ t) j in
          let same_ = (same_rest (o.later ++ e ∷ []) (Closed handle said) (w.later ++ f ∷ [])
          (Closed handle' said') (b ∷ w.past) up).here in
          at_one (i ∙ ap (λ (t : List (Entry ServerNote)). Closed handle said ∷ t) turn
          ∙ ap (λ (x : Entry ServerNote). x ∷ (b ∷ w.past)) same_ ∙ sym j)

  -- the handler of x was offered for the connection that its origin names
  pub record OpenedFor (c x : ℕ) : Type 0 where
    pub handle : Handle
    pub mask : Mask
    pub before : List (Entry ServerNote)
    pub mine : handle.0 ≡ x
    pub offer : OfferAt c (Opened handle mask) before

  pub opened_for : (c x : ℕ) (o : Origin ServerNote) → origin_of all x ≡ Some o
      → o.note ≡ note.Accepted c → OpenedFor c x
  opened_for c x o is says =
      let at = origin_found all x o is in
      let turn = accepted_here at.before o c at.here says in
      record {
        handle = at.handle;
        mask = at.mask;
        before = at.before;
        mine = at.mine;
        offer = record {
          later = at.later;
          is = at.is;
          event = turn.event;
          answer = turn.answer;
          past = turn.past;
          behind = turn.behind;
          no_close = refl;
        };
      }

  -- a connection has one handler
  pub one_handler : (c x y : ℕ) → OpenedFor c x → OpenedFor c y → x ≡ y
  one_handler c x y o w =
      let same_ = (one_offer c _ _ _ _ o.offer w.offer).offer in
      sym o.mine ∙ ap (λ (h : Handle). h.0) (handles same_) ∙ w.mine
    where
      handles : {h k : Handle} {m n : Mask} → ◌≡◌ {A = Entry ServerNote} (Opened h m) (Opened k n)
          → h ≡ k
      handles q = cc

  -- and no handler if it was refused
  pub not_both : (c x live : ℕ) (fault : Bool) (said : ServerNote) (s : List (Entry ServerNote))
      → OpenedFor c x → OfferAt c (Refused live fault said) s → ⊥
  not_both c x live fault said s o w = other (one_offer c _ _ _ _ o.offer w).offer
    where
      other : {h : Handle} {m : Mask} → ◌≡◌ {A = Entry ServerNote} (Opened h m)
          (Refused live fault said) → ⊥
      other q = cc

  -- ---- the one place where it is closed

  -- its handler is closed here, or it is refused here
  pub data ClosingAt (c : ℕ) (e : Entry ServerNote) (past : List (Entry ServerNote)) : Type 0 where
    by_close : (handle : Handle) (said : ServerNote) → e ≡ Closed handle said → OpenedFor c handle.0
        → ClosingAt c e past
    by_refusal : (live : ℕ) (fault : Bool) (said : ServerNote) → e ≡ Refused live fault said
        → OfferAt c e past → ClosingAt c e past

  pub closed_before : (later past : List (Entry ServerNote)) (handle : Handle) (said : ServerNote)
      → all ≡ later ++ Closed handle said ∷ past → origin_of all handle.0 ≡ origin_of past handle.0
  closed_before later past handle said is =
      let whole = shifted later (Closed handle said) past is in
      ap (λ (p : List (Entry ServerNote)). origin_of p handle.0) whole
      ∙ origin_still most (later ++ Closed handle said ∷ []) past handle.0
      (sym (ap (is_legal most) whole) ∙ legal)
      (opened_before_closed most later past handle said handle.0
      (sym (ap (is_legal most) is) ∙ legal) refl)

  -- a connection that was closed here had these turns
  pub closed_talks : (c : ℕ) (later past : List (Entry ServerNote)) (handle : Handle)
      (said : ServerNote) → all ≡ later ++ Closed handle said ∷ past → finishes c said ≡ true
      → LeavesIt steps idle c (origin_of past handle.0) (had past handle.0)
      (reason_of past handle.0) said
  closed_talks c later past handle said is ends =
      leaves_it steps idle c (had past handle.0) (reason_of past handle.0) said ends
      (origin_of past handle.0) (left_at later (Closed handle said) past is)

  pub refused_talks : (c : ℕ) (later past : List (Entry ServerNote)) (live : ℕ) (fault : Bool)
      (said : ServerNote) → all ≡ later ++ Refused live fault said ∷ past → finishes c said ≡ true
      → LeavesIt steps idle c (offered_here past) [] ByRefusal said
  refused_talks c later past live fault said is ends =
      leaves_it steps idle c [] ByRefusal said ends (offered_here past)
      (left_at later (Refused live fault said) past is)

  -- no turn notes that a connection finished
  turn_ends_none : (c : ℕ) (later past : List (Entry ServerNote)) (event : ℕ) (answer : Answer)
      (said : ServerNote) → all ≡ later ++ Returned event answer said ∷ past
      → finishes c said ≡ false
  turn_ends_none c later past event answer said is = by_handle t.x t.turn
    where
      t : settling.TurnOf most all legal event answer said past
      t = settling.turn_of most all legal later past event answer said is

      by_handle : (x : ℕ) → settling.Turn most all legal event answer said past x
          → finishes c said ≡ false
      by_handle zero turn =
          let listens = turns.acceptor most steps idle all legal begun left closed first_opened in
          let heard = turns.listen_in most steps idle all legal begun left closed (had past 0)
          turn.item turn.more (had all 0) turn.among
          (course_listens _ listens.now (had all 0) listens.course) in
          listening_ends_none c said (sym (ap is_listening turn.notes) ∙ heard)
      by_handle (suc d) turn =
          let o = turns.opened_all most steps idle all legal begun left closed later past
          (Returned event answer said) (suc d) is turn.opened_now in
          let piece = turns.conn_note most steps idle all legal begun left closed d event answer
          said later past is turn o in
          ap (finishes c) (sym turn.notes ∙ piece.2)

  pub closing_at : (c : ℕ) (later : List (Entry ServerNote)) (e : Entry ServerNote)
      (past : List (Entry ServerNote)) → all ≡ later ++ e ∷ past → is_closing_of c e ≡ true
      → ClosingAt c e past
  closing_at c later (Returned event answer said) past is ends =
      absurd (both_ways (finishes c said) (turn_ends_none c later past event answer said is) ends)
  closing_at c later (Closed handle said) past is ends =
      let talks = closed_talks c later past handle said is ends in
      by_close handle said refl (opened_for c handle.0 talks.from
      (closed_before later past handle said is ∙ talks.is) talks.of_it)
  closing_at c later (Refused live fault said) past is ends =
      let talks = refused_talks c later past live fault said is ends in
      let turn = accepted_here past talks.from c talks.is talks.of_it in
      by_refusal live fault said refl (record {
        later = later;
        is = is;
        event = turn.event;
        answer = turn.answer;
        past = turn.past;
        behind = turn.behind;
        no_close = refl;
      })
  closing_at c later _ past is ends = absurd (false≢true ends)

  -- a handle is closed once
  closed_once : (later past between : List (Entry ServerNote)) (handle other : Handle)
      (said word : ServerNote) (q : List (Entry ServerNote))
      → all ≡ later ++ Closed handle said ∷ past → past ≡ between ++ Closed other word ∷ q
      → other.0 ≡ handle.0 → ⊥
  closed_once later past between handle other said word q is at same_ =
      let never = (closing past handle.0
      (may_fits most past (Closed handle said) (legal_at later (Closed handle said) past is))).3
      in
      let ever : was_closed past other.0 ≡ true =
      ap (λ (p : List (Entry ServerNote)). was_closed p other.0) at
      ∙ closed_in between q other word in
      both_ways _ never (subst (λ (x : ℕ). was_closed past x ≡ true) same_ ever)

  closed_place : (h k l m p q : List (Entry ServerNote)) (handle other : Handle)
      (said word : ServerNote) → all ≡ h ++ Closed handle said ∷ p
      → all ≡ k ++ Closed other word ∷ q → handle.0 ≡ other.0 → p ≡ q
  closed_place h k l m p q handle other said word is at same_ =
      by (cuts h (Closed handle said) p k (Closed other word) q (sym is ∙ at))
    where
      by : Cuts h (Closed handle said) p k (Closed other word) q → p ≡ q
      by (same_cut i j z) = z
      by (first_cut between i z) = absurd
          (closed_once h p between handle other said word q is z (sym same_))
      by (second_cut between i z) = absurd
          (closed_once k q between other handle word said p at z same_)

  pub one_closing : (c : ℕ) (h k p q : List (Entry ServerNote)) (e f : Entry ServerNote)
      → all ≡ h ++ e ∷ p → all ≡ k ++ f ∷ q → ClosingAt c e p → ClosingAt c f q → p ≡ q
  one_closing c h k p q e f is at (by_close handle said i o) (by_close other word j w) =
      closed_place h k [] [] p q handle other said word
      (is ∙ ap (λ (x : Entry ServerNote). h ++ x ∷ p) i)
      (at ∙ ap (λ (x : Entry ServerNote). k ++ x ∷ q) j) (one_handler c handle.0 other.0 o w)
  one_closing c h k p q e f is at (by_close handle said i o) (by_refusal live fault word j w) =
      absurd (not_both c handle.0 live fault word q o
      (subst (λ (x : Entry ServerNote). OfferAt c x q) j w))
  one_closing c h k p q e f is at (by_refusal live fault word j w) (by_close handle said i o) =
      absurd (not_both c handle.0 live fault word p o
      (subst (λ (x : Entry ServerNote). OfferAt c x p) j w))
  one_closing c h k p q e f is at (by_refusal live fault word j w)
      (by_refusal live' fault' word' j' w') = (one_offer c e f p q w w').place
