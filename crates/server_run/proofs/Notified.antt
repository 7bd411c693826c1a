-- A run that ends by its notice ends directly after the turn that was notified: no closing stands
-- between.
use Rattle.std.proofs.Common.{ℕ, ◌≡◌, ◌==◌, ⊎_elim, Bool, true, false, ◌||◌, List, [], ◌∷◌, ◌++◌}
use Rattle.std.proofs.Common.{refl, sym, ap, ◌∙◌, subst, arith, Option, Some, None}
use Rattle.std.proofs.lemmas.Bool.{and_parts, both_ways, cond-true, eq-eqb, false_from_ne_true}
use Rattle.std.proofs.lemmas.Bool.{false≢true, not-true, or_parts, or_right, true≢false}
use Rattle.std.proofs.lemmas.List.{append_assoc, reverse-reverse}
use Rattle.std.proofs.lemmas.List.Folds.{list_any-append}
use Rattle.std.specs.List.{list_any}
use Rattle.ev_base.specs.ev_types.specs.declared.upcall.Answer.{Answer}
use Rattle.ev_base.specs.ev_types.specs.declared.upcall.Answer.TheVariants.{Keep, Close}
use Rattle.ev_base.specs.ev_types.specs.declared.upcall.Handle.{Handle}
use Rattle.ev_base.specs.ev_types.specs.declared.upcall.Kind.{Kind}
use Rattle.ev_base.specs.ev_types.specs.declared.upcall.Upcall.TheVariants.{Notice}
use Rattle.ev_base.specs.ev_types.specs.declared.upcall.Why.{Why}
use Rattle.ev_base.specs.Terms.{Terms}
use Rattle.log_handler.specs.reactor_journal.specs.Event.{Event, Item, Origin}
use Rattle.log_handler.specs.reactor_journal.specs.Follow.{Legal, is_legal}
use Rattle.log_handler.specs.reactor_journal.specs.Follow.{may_follow}
use Rattle.log_handler.specs.reactor_journal.specs.Past.{past_of, belongs_to}
use Rattle.log_handler.specs.reactor_journal.specs.Past.{ended, ends}
use Rattle.log_handler.specs.reactor_journal.specs.Past.{is_ended, event_at}
use Rattle.log_handler.specs.reactor_journal.specs.Past.{had, is_alive}
use Rattle.log_handler.specs.reactor_journal.specs.Past.{is_event, is_open}
use Rattle.log_handler.specs.reactor_journal.specs.Past.{item_of, origin_of}
use Rattle.log_handler.specs.reactor_journal.specs.Past.{reason_of, returns}
use Rattle.log_handler.specs.reactor_journal.specs.Past.{started_at, starts}
use Rattle.log_handler.specs.reactor_journal.specs.Past.{is_able}
use Rattle.log_handler.specs.reactor_journal.specs.declared.entry.Entry.{Entry}
use Rattle.log_handler.specs.reactor_journal.specs.declared.entry.Entry.TheVariants
    as entry
use Rattle.log_handler.specs.reactor_journal.specs.declared.entry.Entry.TheVariants.{Closed}
use Rattle.log_handler.specs.reactor_journal.specs.declared.entry.Entry.TheVariants.{Ended}
use Rattle.log_handler.specs.reactor_journal.specs.declared.entry.Entry.TheVariants.{Removed}
use Rattle.log_handler.specs.reactor_journal.specs.declared.entry.Entry.TheVariants.{Returned}
use Rattle.log_handler.specs.reactor_journal.proofs.Alive.{alive_after}
use Rattle.log_handler.specs.reactor_journal.proofs.Basics.{event_at-before}
use Rattle.log_handler.specs.reactor_journal.proofs.Basics.{may_fits}
use Rattle.log_handler.specs.reactor_journal.proofs.Closing.{closing}
use Rattle.log_handler.specs.reactor_journal.proofs.Closing.{waiting_alive}
use Rattle.log_handler.specs.reactor_journal.proofs.HadLaw.{event_still}
use Rattle.log_handler.specs.reactor_journal.proofs.HadLaw.{returned_is_open}
use Rattle.log_handler.specs.reactor_journal.proofs.OneOpen.{able_is_event}
use Rattle.log_handler.specs.reactor_journal.proofs.OneOpen.{one_open}
use Rattle.log_handler.specs.reactor_journal.proofs.OneOpen.{open_cases}
use Rattle.log_handler.specs.reactor_journal.proofs.OneOpen.{started_is_able}
use Rattle.log_handler.specs.reactor_journal.proofs.OneOpen.{started_is_event}
use Rattle.log_handler.specs.reactor_journal.proofs.Turning.{Legal-front}
use Rattle.log_handler.specs.reactor_journal.proofs.Turning.{Legal-last}
use Rattle.log_handler.specs.reactor_journal.proofs.Turning.{past_of-append}
use Rattle.log_handler.specs.reactor_journal.proofs.Turning.{past_split}
use Rattle.log_handler.specs.reactor_model.specs.Handling.{Handling, Stopping}
use Rattle.tp_reactor.specs.laws_by_turns.specs.ByTurns.{ClosesOwn, DispatchedByTurns, GoesByTurn}
use Rattle.tp_reactor.specs.laws_by_turns.specs.ByTurns.{MayHere, event_returned, returned_here}
use Rattle.server_run.specs.Journals.{first_entry}
use Rattle.tp_reactor.specs.reactor_core.specs.Ends.{AreRetired, closing as closing_of, RetiredBy}

-- ---- a test of some entry

pub any_past : {N : Type 0} (test : Entry N → Bool) (run : List (Entry N))
    → list_any test (past_of run) ≡ true → list_any test run ≡ true
any_past test [] q = q
any_past test (e ∷ es) q = first_or (list_any test (past_of es)) (test e) (list_any test es)
    (any_past test es) (sym (list_any-append test (past_of es) (e ∷ []))
    ∙ (ap (list_any test) (sym (past_of-append (e ∷ []) es)) ∙ q))
  where
    first_or : (later first rest : Bool) → (later ≡ true → rest ≡ true)
        → (later || (first || false)) ≡ true → (first || rest) ≡ true
    first_or true first rest before q = or_right first rest (before refl)
    first_or false true rest before q = refl
    first_or false false rest before q = absurd (false≢true q)

-- ---- the life of a handle

-- the removal of a handle that was asked for
abbrev pub is_removed : {N : Type 0} → Entry N → Bool
is_removed (Removed handle) = true
is_removed _ = false

able_is_alive : {N : Type 0} (most : ℕ) (past : List (Entry N)) (i x : ℕ)
    → is_legal most past ≡ true → is_able past i ≡ true → belongs_to x (event_at past i) ≡ true
    → is_alive past x ≡ true
unfolding is_able
able_is_alive most past i x legal h b = waiting_alive most past i x legal (and_parts _ _ h).0 b

no_return : {N : Type 0} (e : Entry N) (i j : ℕ) → starts i e ≡ true → returns j e ≡ true → ⊥
no_return (entry.Started event) i j s r = false≢true r
no_return _ i j s r = false≢true s

-- an entry that ends the life of a handle with no removal is the return of one of its events
ends_by : {N : Type 0} (e : Entry N) (past : List (Entry N)) (x : ℕ) → is_removed e ≡ false
    → ends x (event_at past) e ≡ true → (i : ℕ) × (returns i e ≡ true)
    × (belongs_to x (event_at past i) ≡ true)
ends_by (Removed handle) past x none q = absurd (true≢false none)
ends_by (Returned event Close note) past x none q = (event, eq-eqb event event refl, q)
ends_by _ past x none q = absurd (false≢true q)

-- If no handle was removed, that of an open event is alive.
open_alive : {N : Type 0} (most : ℕ) (past : List (Entry N)) → is_legal most past ≡ true
    → list_any is_removed past ≡ false → (i x : ℕ) → is_open past i ≡ true
    → belongs_to x (event_at past i) ≡ true → is_alive past x ≡ true
open_alive most [] legal none i x open_ mine = absurd (false≢true open_)
open_alive most (e ∷ past) legal none i x open_ mine =
    let parts : (may_follow most past e ≡ true) × (is_legal most past ≡ true) =
    and_parts _ _ legal in
    let no : (is_removed e ≡ false) × (list_any is_removed past ≡ false) = or_parts _ _ none in
    let old : is_event past i ≡ true → belongs_to x (event_at past i) ≡ true =
    λ event. sym (ap (belongs_to x) (event_at-before e past i event)) ∙ mine in
    let other : is_event past i ≡ true
    → ((j : ℕ) → returns j e ≡ true → belongs_to x (event_at past j) ≡ true → ⊥)
    → is_alive past x ≡ true → is_alive (e ∷ past) x ≡ true =
    λ event clash alive. alive_after e past x alive
    (false_from_ne_true _ (λ q. let by = ends_by e past x no.0 q in clash by.0 by.1 by.2)) in
    ⊎_elim
    (λ (started : starts i e ≡ true).
    let able : is_able past i ≡ true = started_is_able most past e i parts.0 started in
    let event : is_event past i ≡ true = able_is_event past i able in
    other event (λ j r b. no_return e i j started r)
    (able_is_alive most past i x parts.1 able (old event)))
    (λ (was : is_open past i ≡ true).
    let event : is_event past i ≡ true =
    started_is_event most past parts.1 i (and_parts _ _ was).0 in
    let not_returned : returns i e ≡ false =
    (or_parts _ _ (not-true _ (and_parts _ _ open_).1)).0 in
    other event
    (λ j r b. both_ways (returns j e) (subst (λ (k : ℕ). returns k e ≡ false)
    (one_open most past parts.1 i j x was (returned_is_open most past e j parts.0 r) (old event)
    b) not_returned) r)
    (open_alive most past parts.1 no.1 i x was (old event)))
    (open_cases e past i open_)

-- ---- the turn of a notice

-- what is said of the turns of handlers: one of a notice, the last before the handler was closed,
-- was answered Keep
abbrev pub KeepsNotices : {H E N : Type 0} → Handling H E N → Type 0
KeepsNotices {E = E} {N = N} means =
    (t : Terms) (origin : Option (Origin N)) (end : E) (before : List (Item N)) (item : Item N)
    (why : Why) (note : N) (kind : Kind)
    → means.gone t origin end (before ++ item ∷ []) why note → item.upcall ≡ Notice kind
    → item.answer ≡ Keep

retired_rest : {H E N : Type 0} (means : Handling H E N) (t : Terms) (c : Option (ℕ × N))
    (e : Entry N) (past : List (Entry N)) (ends : List (ℕ × E)) → closing_of e ≡ c
    → RetiredBy means t c past ends (λ rest. AreRetired means t past rest) → (rest : List (ℕ × E))
    × AreRetired means t past rest
retired_rest means t None e past ends is r = (ends, r)
retired_rest means t (Some c) e past [] is r = absurd r
retired_rest means t (Some c) e past (end ∷ ends) is r = (ends, r.1)

retired_before : {H E N : Type 0} (means : Handling H E N) (t : Terms) (later past : List (Entry N))
    (ends : List (ℕ × E)) → AreRetired means t (later ++ past) ends → (rest : List (ℕ × E))
    × AreRetired means t past rest
retired_before means t [] past ends r = (ends, r)
retired_before means t (e ∷ later) past ends r =
    let behind = retired_rest means t (closing_of e) e (later ++ past) ends refl r in
    retired_before means t later past behind.0 behind.1

gone_there : {H E N : Type 0} (means : Handling H E N) (t : Terms) (handle : Handle) (note : N)
    (past : List (Entry N)) (ends : List (ℕ × E))
    → AreRetired means t (Closed handle note ∷ past) ends → (end : E)
    × means.gone t (origin_of past handle.0) end (had past handle.0) (reason_of past handle.0) note
gone_there means t handle note past [] r = absurd r
gone_there means t handle note past (end ∷ ends) r = (end.1, r.0.1)

-- the turn that a `Returned` records, of a handle whose event it is
item_there : {N : Type 0} (rest : List (Entry N)) (n x : ℕ) (event : Event) (answer : Answer)
    (note : N) → event_at rest n ≡ Some event → event.handle ≡ x
    → had (Returned n answer note ∷ rest) x
    ≡ had rest x ++ record {
      upcall = event.upcall;
      moment = started_at rest n;
      answer = answer;
      note = note;
    } ∷ []
item_there rest n x event answer note is mine =
    ap (λ found. had rest x ++ item_of x found (started_at rest n) answer note) is
    ∙ ap (λ (items : List (Item _)). had rest x ++ items)
    (cond-true (event.handle == x) _ [] (eq-eqb event.handle x mine))

-- No closing stands directly after the turn of a notice.
no_closing : {H E N : Type 0} (means : Handling H E N) (t : Terms) (most : ℕ) (handle : Handle)
    (said : N) (n : ℕ) (answer : Answer) (note : N) (rest : List (Entry N)) (event : Event)
    (kind : Kind) (given : List (ℕ × E)) → KeepsNotices means
    → is_legal most (Closed handle said ∷ Returned n answer note ∷ rest) ≡ true
    → list_any is_removed rest ≡ false
    → event_at (Closed handle said ∷ Returned n answer note ∷ rest) n ≡ Some event
    → handle.0 ≡ event.handle → event.upcall ≡ Notice kind
    → AreRetired means t (Closed handle said ∷ Returned n answer note ∷ rest) given → ⊥
no_closing {N = N} means t most handle said n answer note rest event kind given keeps legal none is
    mine notice retired =
    let closed = and_parts (may_follow most (Returned n answer note ∷ rest) (Closed handle said))
    (is_legal most (Returned n answer note ∷ rest)) legal in
    let back = and_parts (may_follow most rest (Returned n answer note)) (is_legal most rest)
    closed.1 in
    let waits = closing (Returned n answer note ∷ rest) handle.0
    (may_fits most (Returned n answer note ∷ rest) (Closed handle said) closed.0) in
    let open_ : is_open rest n ≡ true =
    returned_is_open most rest (Returned n answer note) n back.0 (eq-eqb n n refl) in
    let found : is_event rest n ≡ true =
    started_is_event most rest back.1 n (and_parts _ _ open_).0 in
    let here : event_at rest n ≡ Some event =
    sym (event_still (Closed handle said ∷ Returned n answer note ∷ []) rest n found) ∙ is in
    let belongs : belongs_to handle.0 (event_at rest n) ≡ true =
    ap (belongs_to handle.0) here ∙ eq-eqb event.handle handle.0 (sym mine) in
    let alive : is_alive rest handle.0 ≡ true =
    open_alive most rest back.1 none n handle.0 open_ belongs in
    let gone = gone_there means t handle said (Returned n answer note ∷ rest) given retired in
    let kept : answer ≡ Keep = keeps t _ gone.0 (had rest handle.0)
    (record { upcall = event.upcall; moment = started_at rest n; answer = answer; note = note })
    _ said kind
    (subst (λ (items : List (Item N)).
    means.gone t (origin_of (Returned n answer note ∷ rest) handle.0) gone.0 items
    (reason_of (Returned n answer note ∷ rest) handle.0) said)
    (item_there rest n handle.0 event answer note here (sym mine)) gone.1) notice in
    both_ways (is_alive (Returned n answer note ∷ rest) handle.0) waits.1
    (alive_after (Returned n answer note) rest handle.0 alive
    (subst (λ (a : Answer). ends handle.0 (event_at rest) (Returned n a note) ≡ false)
    (sym kept) refl))

-- ---- the end of a run

-- a run that ends directly after the turn of a notice
pub record EndsBehind {N : Type 0} (run : List (Entry N)) (kind : Kind) : Type 0 where
  pub before : List (Entry N)
  pub number : ℕ
  pub answer : Answer
  pub note : N
  pub directly : run ≡ before ++ Returned number answer note ∷ []
  pub event : Event
  pub is : event_at (past_of before) number ≡ Some event
  pub notice : event.upcall ≡ Notice kind

number_is : (n number : ℕ) → Some n ≡ Some number → n ≡ number
number_is n number q = cc

behind_returned : {N : Type 0} (most : ℕ) (run rest : List (Entry N)) (n : ℕ) (answer : Answer)
    (note : N) (number : ℕ) (event : Event) (kind : Kind) → is_legal most (past_of run) ≡ true
    → past_of run ≡ Returned n answer note ∷ rest → Some n ≡ Some number
    → event_at (past_of run) number ≡ Some event → event.upcall ≡ Notice kind → EndsBehind run kind
behind_returned {N = N} most run rest n answer note number event kind legal past same is notice =
    let parts = and_parts (may_follow most rest (Returned n answer note)) (is_legal most rest)
    (subst (λ (p : List (Entry N)). is_legal most p ≡ true) past legal) in
    let open_ : is_open rest n ≡ true =
    returned_is_open most rest (Returned n answer note) n parts.0 (eq-eqb n n refl) in
    let found : is_event rest n ≡ true =
    started_is_event most rest parts.1 n (and_parts _ _ open_).0 in
    let here : event_at rest n ≡ Some event =
    sym (event_still (Returned n answer note ∷ []) rest n found)
    ∙ (ap (λ p. event_at p n) (sym past)
    ∙ (ap (event_at (past_of run)) (number_is n number same) ∙ is)) in
    record {
      before = past_of rest;
      number = n;
      answer = answer;
      note = note;
      directly = sym (reverse-reverse run)
          ∙ (ap past_of past ∙ past_of-append (Returned n answer note ∷ []) rest);
      event = event;
      is = ap (λ p. event_at p n) (reverse-reverse rest) ∙ here;
      notice = notice;
    }

module _ {H E N : Type 0} (means : Handling H E N) (t : Terms) (most : ℕ) (run : List (Entry N))
    (given : List (ℕ × E)) (number : ℕ) (event : Event) (kind : Kind) (keeps : KeepsNotices means)
    (legal : is_legal most (past_of run) ≡ true) (none : list_any is_removed (past_of run) ≡ false)
    (retired : AreRetired means t (past_of run) given)
    (is : event_at (past_of run) number ≡ Some event) (notice : event.upcall ≡ Notice kind)
  where
    none_returned : {P : Type 0} → ◌≡◌ {A = Option ℕ} None (Some number) → P
    none_returned q = absurd cc

    behind_closed : (handle : Handle) (said : N) (rest : List (Entry N))
        → past_of run ≡ Closed handle said ∷ rest → event_returned rest ≡ Some number
        → handle.0 ≡ event.handle → EndsBehind run kind
    behind_closed handle said (Returned n answer note ∷ rest) past same own =
        absurd (no_closing means t most handle said n answer note rest event kind given keeps
        (subst (λ (p : List (Entry N)). is_legal most p ≡ true) past legal)
        (subst (λ (p : List (Entry N)). list_any is_removed p ≡ false) past none)
        (ap (λ p. event_at p n) (sym past)
        ∙ (ap (event_at (past_of run)) (number_is n number same) ∙ is)) own notice
        (subst (λ (p : List (Entry N)). AreRetired means t p given) past retired))
    behind_closed handle said [] past same own = none_returned same
    behind_closed handle said (_ ∷ rest) past same own = none_returned same

    behind_last : (list : List (Entry N)) → past_of run ≡ list → returned_here list ≡ Some number
        → ClosesOwn event.handle list → EndsBehind run kind
    behind_last [] past same own = none_returned same
    behind_last (Returned n answer note ∷ rest) past same own =
        behind_returned most run rest n answer note number event kind legal past same is notice
    behind_last (Closed handle said ∷ rest) past same own =
        behind_closed handle said rest past same own
    behind_last (_ ∷ rest) past same own = none_returned same

-- ---- a run from its beginning on

record Cut {A : Type 0} (test : A → Bool) (xs : List A) : Type 0 where
  pub before : List A
  pub x : A
  pub behind : List A
  pub is : xs ≡ before ++ x ∷ behind
  pub passes : test x ≡ true

cut_more : {A : Type 0} (test : A → Bool) (y : A) (ys : List A) → Cut test ys → Cut test (y ∷ ys)
cut_more test y ys c = record {
  before = y ∷ c.before;
  x = c.x;
  behind = c.behind;
  is = ap (λ zs. y ∷ zs) c.is;
  passes = c.passes;
}

cut_first : {A : Type 0} (test : A → Bool) (y : A) (ys : List A) (b : Bool) → test y ≡ b
    → (list_any test ys ≡ true → Cut test ys) → (b || list_any test ys) ≡ true → Cut test (y ∷ ys)
cut_first test y ys true is rest q =
    record { before = []; x = y; behind = ys; is = refl; passes = is }
cut_first test y ys false is rest q = cut_more test y ys (rest q)

cut_any : {A : Type 0} (test : A → Bool) (xs : List A) → list_any test xs ≡ true → Cut test xs
cut_any test [] q = absurd (false≢true q)
cut_any test (y ∷ ys) q = cut_first test y ys (test y) refl (cut_any test ys) q

removed_ended : {H E N : Type 0} (means : Handling H E N) (t : Terms) (past : List (Entry N))
    (e : Entry N) (behind : List (Entry N)) → is_removed e ≡ true
    → GoesByTurn means t 1 past e behind → ended past ≡ true
removed_ended means t past (Removed handle) behind is goes = goes
removed_ended means t past _ behind is goes = absurd (false≢true is)

not_first : {N : Type 0} (e : Entry N) (rest behind : List (Entry N))
    → first_entry ∷ rest ≡ e ∷ behind → is_removed e ≡ true → ⊥
not_first e rest behind q is = false≢true (ap is_removed (heads first_entry e rest behind q) ∙ is)
  where
    heads : {A : Type 0} (x y : A) (xs ys : List A) → x ∷ xs ≡ y ∷ ys → x ≡ y
    heads x y xs ys q = cc

none_removed : {H E N : Type 0} (means : Handling H E N) (t : Terms) (run rest : List (Entry N))
    → DispatchedByTurns means t 1 run → run ≡ first_entry ∷ rest → ended (past_of run) ≡ false
    → list_any is_removed (past_of run) ≡ false
none_removed {N = N} means t run rest turned first running =
    false_from_ne_true _ (λ q. by (cut_any is_removed run (any_past is_removed run q)))
  where
    by_before : (before : List (Entry N)) (e : Entry N) (behind : List (Entry N))
        → run ≡ before ++ e ∷ behind → is_removed e ≡ true → ⊥
    by_before [] e behind is removed = not_first e rest behind (sym first ∙ is) removed
    by_before (b ∷ before) e behind is removed =
        let stopped : ended (past_of (b ∷ before)) ≡ true =
        removed_ended means t (past_of (b ∷ before)) e behind removed
        (turned (b ∷ before) e behind is (omega arith)) in
        let all : ended (past_of run) ≡ true =
        ap ended (ap past_of is ∙ past_split (b ∷ before) behind e)
        ∙ (list_any-append is_ended (past_of behind) (e ∷ past_of (b ∷ before))
        ∙ or_right (list_any is_ended (past_of behind)) _
        (or_right (is_ended e) (ended (past_of (b ∷ before))) stopped)) in
        true≢false (sym all ∙ running)

    by : Cut is_removed run → ⊥
    by c = by_before c.before c.x c.behind c.is c.passes

running_before : {N : Type 0} (most : ℕ) (past : List (Entry N)) → may_follow most past Ended ≡ true
    → ended past ≡ false
unfolding may_follow
running_before most past may = not-true _ (and_parts _ _ may).0

-- A run that ended after a turn of a notice was settled, with the closing of its own handler or
-- none, ends directly after that turn.
pub behind_notice : {H E N : Type 0} (means : Handling H E N) (t : Terms) (most : ℕ)
    (journal run closing rest : List (Entry N)) (given : List (ℕ × E))
    (here : MayHere means t (past_of run) Stopping) (kind : Kind) → KeepsNotices means
    → Legal journal most → journal ≡ run ++ Ended ∷ closing
    → run ≡ first_entry ∷ rest → DispatchedByTurns means t 1 run
    → AreRetired means t (past_of journal) given → here.event.upcall ≡ Notice kind
    → EndsBehind run kind
behind_notice {N = N} means t most journal run closing rest given here kind keeps legal is first
    turned retired notice =
    let all : Legal (run ++ Ended ∷ closing) most =
    subst (λ (j : List (Entry N)). Legal j most) is legal in
    let stop = Legal-last run Ended most
    (Legal-front (run ++ Ended ∷ []) closing most
    (subst (λ (j : List (Entry N)). Legal j most) (sym (append_assoc run (Ended ∷ []) closing))
    all)) in
    let behind = retired_before means t (past_of (Ended ∷ closing)) (past_of run) given
    (subst (λ (p : List (Entry N)). AreRetired means t p given)
    (ap past_of is ∙ past_of-append run (Ended ∷ closing)) retired) in
    behind_last means t most run behind.0 here.number here.event kind keeps stop.1
    (none_removed means t run rest turned first (running_before most (past_of run) stop.0))
    behind.1 here.is notice (past_of run) refl here.returned here.closes_own
