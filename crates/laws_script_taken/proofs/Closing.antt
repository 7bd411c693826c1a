-- The handler of a connection that was accepted, or none if it was refused, with all its turns,
-- and the entry that closes it.
use Rattle.std.proofs.Common.{ℕ, suc, ◌≡◌, ◌≢◌, ◌<◌, ◌∙◌, arith, Bool, true, false, cond, ◌||◌}
use Rattle.std.proofs.Common.{List, [], ◌∷◌, ◌++◌, refl, sym, ap, subst, Option, Some, None, ⊎_elim}
use Rattle.std.proofs.Common.{append_assoc}
use Rattle.std.specs.List.{list_any}
use Rattle.std.proofs.lemmas.Bool.{and_parts, cases_Bool, eq-eqb}
use Rattle.laws_script_complete.specs.ev_types.specs.declared.upcall.Answer.{Answer}
use Rattle.laws_script_complete.specs.ev_types.specs.declared.upcall.Handle.{Handle}
use Rattle.laws_script_complete.specs.ev_types.specs.declared.upcall.Mask.{Mask}
use Rattle.laws_script_complete.specs.ev_types.specs.declared.upcall.Why.{Why}
use Rattle.laws_script_complete.specs.ev_types.specs.declared.upcall.Why.TheVariants.{Own}
use Rattle.laws_script_complete.specs.ev_types.specs.declared.upcall.Why.TheVariants.{
  Removed as ByRemoval,
}
use Rattle.laws_script_complete.specs.ev_types.specs.declared.upcall.Why.TheVariants.{
  Refused as ByRefusal,
}
use Rattle.laws_script_complete.specs.ev_base.specs.Terms.{Terms}
use Rattle.laws_script_complete.specs.reactor_journal.specs.Event.{Item}
use Rattle.laws_script_complete.specs.reactor_journal.specs.Event.{Origin}
use Rattle.laws_script_complete.specs.reactor_journal.specs.declared.entry.Entry.{Entry}
use Rattle.laws_script_complete.specs.reactor_journal.specs.declared.entry.Entry.TheVariants.{
  Opened,
}
use Rattle.laws_script_complete.specs.reactor_journal.specs.declared.entry.Entry.TheVariants.{
  Returned,
}
use Rattle.laws_script_complete.specs.reactor_journal.specs.declared.entry.Entry.TheVariants.{
  Refused,
}
use Rattle.laws_script_complete.specs.reactor_journal.specs.declared.entry.Entry.TheVariants.{
  Closed,
}
use Rattle.laws_script_complete.specs.reactor_journal.specs.Past.{past_of}
use Rattle.laws_script_complete.specs.reactor_journal.specs.Past.{had}
use Rattle.laws_script_complete.specs.reactor_journal.specs.Past.{origin_of}
use Rattle.laws_script_complete.specs.reactor_journal.specs.Past.{reason_of}
use Rattle.laws_script_complete.specs.reactor_journal.specs.Past.{ended_itself}
use Rattle.laws_script_complete.specs.reactor_journal.specs.Past.{offered_here}
use Rattle.laws_script_complete.specs.reactor_journal.specs.Past.{ended}
use Rattle.laws_script_complete.specs.reactor_journal.specs.Past.{opens}
use Rattle.laws_script_complete.specs.reactor_journal.specs.Past.{opened}
use Rattle.laws_script_complete.specs.reactor_journal.specs.Past.{was_opened}
use Rattle.laws_script_complete.specs.reactor_journal.specs.Past.{was_closed}
use Rattle.laws_script_complete.specs.reactor_journal.specs.Past.{started_at}
use Rattle.laws_script_complete.specs.reactor_journal.proofs.Alive.{opened_below}
use Rattle.laws_script_complete.specs.reactor_journal.proofs.Turning.{past_split}
use Rattle.laws_script_complete.specs.reactor_journal.proofs.Turning.{is_legal-front}
use Rattle.laws_script_complete.specs.laws_turns.proofs.Turns.{had_none}
use Rattle.laws_script_complete.specs.reactor_journal.specs.Follow.{may_follow}
use Rattle.laws_script_complete.specs.reactor_journal.specs.Follow.{is_legal}
use Rattle.laws_script_complete.specs.reactor_model.specs.Handling.{Handling}
use Rattle.laws_script_complete.specs.laws_by_turns.specs.ByTurns.{OffersBehind}
use Rattle.laws_script_complete.specs.laws_by_turns.specs.ByTurns.{IsOfferBehind}
use Rattle.laws_script_complete.specs.log_lines.specs.declared.end_kind.EndKind.{EndKind}
use Rattle.laws_script_complete.specs.log_lines.specs.declared.end_kind.EndKind.TheVariants
    as end
use Rattle.laws_script_complete.specs.log_handler.specs.declared.note.ServerNote.{ServerNote}
use Rattle.laws_script_complete.specs.log_handler.specs.declared.note.ServerNote.TheVariants
    as note
use Rattle.laws_script_complete.specs.log_handler.specs.Connection
    as connection
use Rattle.laws_script_complete.specs.log_handler.specs.Connections.{IsClosing}
use Rattle.laws_script_complete.specs.log_handler.specs.Laws.{EndedSo}
use Rattle.laws_script_complete.specs.log_handler.specs.Laws.{last_turn}
use Rattle.laws_script_complete.specs.log_handler.proofs.Accounts.{accounts}
use Rattle.laws_script_complete.specs.event_script.specs.Script.{ScriptStep}
use Rattle.laws_script_complete.specs.event_script.specs.Script.{ScriptGroup}
use Rattle.laws_script_complete.specs.event_script.specs.Script.{steps_of}
use Rattle.laws_script_complete.specs.event_script.specs.Stories.{story}
use Rattle.laws_script_complete.specs.laws_script_turns.specs.Laws.{untold}
use Rattle.laws_script_complete.specs.laws_script_runs.specs.Connections.{AreLeft, IsLeft, SaysLast}
use Rattle.laws_script_complete.specs.laws_script_runs.specs.Connections.{TalksThrough}
use Rattle.laws_script_complete.specs.laws_script_runs.specs.Steps.{EachStep}
use Rattle.laws_script_complete.specs.laws_script_runs.proofs.Handles as handles
use Rattle.laws_script_complete.specs.laws_script_runs.proofs.Handles.{IsBegun, had_found}
use Rattle.laws_script_complete.specs.laws_script_runs.proofs.Handles.{origin_first}
use Rattle.laws_script_complete.specs.laws_script_runs.proofs.Settling.{origin_still}
use Rattle.laws_script_complete.specs.laws_script_runs.proofs.Standing.{opened_is}
use Rattle.laws_script_complete.specs.laws_script_runs.proofs.Turns as turns
use Rattle.laws_script_taken.specs.Taken as taken
use Rattle.laws_script_taken.specs.Taken.{accepts_connection, is_closing_of, finishes}
use Rattle.laws_script_taken.proofs.Places.{found, holds_at}
use Rattle.laws_script_taken.proofs.Offers as offering
use Rattle.laws_script_taken.proofs.Offers.{accept_turn, Behind, directly, closed_between}
use Rattle.laws_script_taken.proofs.Offers.{origin_new, origin_found, accepted_here}
use Rattle.laws_script_taken.proofs.Notes as noting
use Rattle.laws_script_taken.proofs.Notes.{had_of}
use Rattle.laws_script_taken.proofs.Whole as whole
use Rattle.laws_script_taken.proofs.Whole.{BegunRun}

-- why it was closed with this word: by its own end; removed after the end of the run; or refused
pub data Because (kept : Option EndKind) (word : EndKind) (items : List (Item ServerNote))
    (past : List (Entry ServerNote)) : Type 0 where
  by_itself : kept ≡ Some word → Because kept word items past
  lacking : word ≡ end.NoMemory → kept ≡ Some end.NoMemory → Because kept word items past
  removed : word ≡ end.Stopped → (kept ≡ Some end.NoMemory → ⊥) → ended past ≡ true
      → Because kept word items past
  refused : word ≡ end.Refused → kept ≡ None → items ≡ [] → Because kept word items past

-- what stands directly after it
data OfferOf (behind : List (Entry ServerNote)) : Type 0 where
  opened_here : (handle : Handle) (mask : _) (rest : List (Entry ServerNote))
      → behind ≡ Opened handle mask ∷ rest → OfferOf behind
  refused_here : (live : ℕ) (fault : Bool) (said : ServerNote) (rest : List (Entry ServerNote))
      → behind ≡ Refused live fault said ∷ rest → OfferOf behind
  behind_close : (closed : Handle) (word : ServerNote) (more : List (Entry ServerNote))
      → behind ≡ Closed closed word ∷ more → IsOfferBehind more → OfferOf behind

offer_of : (behind : List (Entry ServerNote)) → OffersBehind behind → OfferOf behind
offer_of [] h = absurd h
offer_of (Opened handle mask ∷ rest) h = opened_here handle mask rest refl
offer_of (Refused live fault said ∷ rest) h = refused_here live fault said rest refl
offer_of (Closed handle word ∷ more) h = behind_close handle word more refl h
offer_of (_ ∷ rest) h = absurd h

data OfferNext (behind : List (Entry ServerNote)) : Type 0 where
  opened_next : (handle : Handle) (mask : _) (rest : List (Entry ServerNote))
      → behind ≡ Opened handle mask ∷ rest → OfferNext behind
  refused_next : (live : ℕ) (fault : Bool) (said : ServerNote) (rest : List (Entry ServerNote))
      → behind ≡ Refused live fault said ∷ rest → OfferNext behind

offer_next : (behind : List (Entry ServerNote)) → IsOfferBehind behind → OfferNext behind
offer_next [] h = absurd h
offer_next (Opened handle mask ∷ rest) h = opened_next handle mask rest refl
offer_next (Refused live fault said ∷ rest) h = refused_next live fault said rest refl
offer_next (_ ∷ rest) h = absurd h

pub accepts_in : (c event : ℕ) (answer : Answer) (p s : List (Entry ServerNote))
    → Behind (Returned event answer (note.Accepted c)) p s
    → list_any (accepts_connection c) s ≡ true
accepts_in c event answer p s (directly i) =
    ap (list_any (accepts_connection c)) i
    ∙ ap (λ (b : Bool). b || list_any (accepts_connection c) p) (eq-eqb c c refl)
accepts_in c event answer p s (closed_between handle said i) =
    ap (list_any (accepts_connection c)) i
    ∙ ap (λ (b : Bool). b || list_any (accepts_connection c) p) (eq-eqb c c refl)

pub more_accepts : (c : ℕ) (later : List (Entry ServerNote)) (e : Entry ServerNote)
    (s : List (Entry ServerNote)) → list_any (accepts_connection c) s ≡ true
    → list_any (accepts_connection c) (later ++ e ∷ s) ≡ true
more_accepts c [] e s h = or_right (accepts_connection c e) (list_any (accepts_connection c) s) h
  where
    or_right : (b c : Bool) → c ≡ true → (b || c) ≡ true
    or_right true c k = refl
    or_right false c k = k
more_accepts c (d ∷ later) e s h =
    or_right (accepts_connection c d) (list_any (accepts_connection c) (later ++ e ∷ s))
    (more_accepts c later e s h)
  where
    or_right : (b c : Bool) → c ≡ true → (b || c) ≡ true
    or_right true c k = refl
    or_right false c k = k

module _ {H E : Type 0} (means : Handling H E ServerNote) (t : Terms) (idle : Option ℕ)
    (groups : List ScriptGroup) (journal : List (Entry ServerNote))
    (r : BegunRun means t idle groups journal) (c : ℕ) where
  abbrev steps : List ScriptStep
  steps = steps_of groups

  abbrev most : ℕ
  most = t.most

  abbrev all : List (Entry ServerNote)
  all = past_of journal

  abbrev legal : is_legal most all ≡ true
  legal = whole.legal means t idle groups journal r

  abbrev begun : EachStep IsBegun all
  begun = whole.begun means t idle groups journal r

  abbrev left : AreLeft steps idle all
  left = whole.left means t idle groups journal r

  abbrev closed : (x : ℕ) → was_opened all x ≡ true → was_closed all x ≡ true
  closed = whole.closed means t idle groups journal r

  abbrev first : was_opened all 0 ≡ true
  first = whole.first_opened means t idle groups journal r

  -- the connection, all its turns, and the entry that closes it
  pub record Ends : Type 0 where
    pub owner : Option ℕ
    pub owns : noting.Owns most steps idle all legal begun left closed first c owner
    pub moment : ℕ
    pub now : connection.Progress
    pub course : connection.Course c idle
        (connection.at_start moment (Some (untold (story c steps)))) (had_of owner all) now
    pub later : List (Entry ServerNote)
    pub entry : Entry ServerNote
    pub past : List (Entry ServerNote)
    pub is : all ≡ later ++ entry ∷ past
    pub word : EndKind
    pub closes : taken.ClosesAs c word entry
    pub ends_it : is_closing_of c entry ≡ true
    pub accepted : list_any (accepts_connection c) past ≡ true
    pub because : Because now.kept word (had_of owner all) past
    -- the turn that accepted it, before which its handler has had none
    pub event : ℕ
    pub answer : Answer
    pub earlier : List (Entry ServerNote)
    pub since : List (Entry ServerNote)
    pub accepted_at : all ≡ since ++ Returned event answer (note.Accepted c) ∷ earlier
    pub began : moment ≡ started_at earlier event
    pub none_had : had_of owner (Returned event answer (note.Accepted c) ∷ earlier) ≡ []

  -- ---- it was refused

  module _ (live : ℕ) (fault : Bool) (said : ServerNote) (s : List (Entry ServerNote))
      (o : offering.OfferAt most steps idle all legal begun left closed first c
      (Refused live fault said) s) where
    refused_ends : (moment : ℕ) → moment ≡ started_at o.past o.event
        → offered_here s ≡ Some (record { note = note.Accepted c; moment = moment }) → Ends
    refused_ends moment began here = record {
      owner = None;
      owns = record {
        not_first = λ q. none_some 0 q;
        its = λ d opened q. absurd (none_some (suc d) q);
        alone = λ d opened number.
            let talks = turns.connection most steps idle all legal begun left closed d opened in
            absurd (offering.not_both most steps idle all legal begun left closed first c (suc d)
            live fault said s
            (offering.opened_for most steps idle all legal begun left closed first c (suc d)
            (record { note = note.Accepted talks.number; moment = talks.moment }) talks.origin
            (ap (λ (i : ℕ). note.Accepted i) number)) o);
      };
      moment = moment;
      now = through.now;
      course = through.course;
      later = o.later;
      entry = Refused live fault said;
      past = s;
      is = o.is;
      word = through.word;
      closes = (through.notes, through.closing);
      ends_it = ap (finishes c) through.notes ∙ eq-eqb c c refl;
      accepted = accepts_in c o.event o.answer o.past s o.behind;
      because = refused through.closing (ap (λ (p : connection.Progress). p.kept) through.course)
          refl;
      event = o.event;
      answer = o.answer;
      earlier = o.past;
      since = (offering.place_of most steps idle all legal begun left closed first c
          (Refused live fault said) s o).later;
      accepted_at = (offering.place_of most steps idle all legal begun left closed first c
          (Refused live fault said) s o).is;
      began = began;
      none_had = refl;
    }
      where
        none_some : (x : ℕ) → ◌≡◌ {A = Option ℕ} None (Some x) → ⊥
        none_some x q = cc

        through : TalksThrough steps idle c moment [] ByRefusal said
        through = subst (λ (origin : Option (Origin ServerNote)).
            SaysLast steps idle origin [] ByRefusal said) here
            (offering.left_at most steps idle all legal begun left closed first o.later
            (Refused live fault said) s o.is)

  -- ---- its handler was registered

  why : (own : Bool) (kept : Option EndKind) (word : EndKind) (items : List (Item ServerNote))
      (past : List (Entry ServerNote)) → (own ≡ false → ended past ≡ true)
      → IsClosing (cond own Own ByRemoval) kept word → Because kept word items past
  why true kept word items past behind h = by_itself h
  why false None word items past behind h = removed h (λ q. none q) (behind refl)
    where
      none : ◌≡◌ {A = Option EndKind} None (Some end.NoMemory) → ⊥
      none q = cc
  why false (Some end.NoMemory) word items past behind h = lacking h refl
  why false (Some end.End) word items past behind h = removed h (λ q. none q) (behind refl)
    where
      none : Some end.End ≡ Some end.NoMemory → ⊥
      none q = cc
  why false (Some (end.Partial n)) word items past behind h = removed h (λ q. none q) (behind refl)
    where
      none : Some (end.Partial n) ≡ Some end.NoMemory → ⊥
      none q = cc
  why false (Some (end.Malformed at)) word items past behind h =
      removed h (λ q. none q) (behind refl)
    where
      none : Some (end.Malformed at) ≡ Some end.NoMemory → ⊥
      none q = cc
  why false (Some end.Failed) word items past behind h = removed h (λ q. none q) (behind refl)
    where
      none : Some end.Failed ≡ Some end.NoMemory → ⊥
      none q = cc
  why false (Some end.Idle) word items past behind h = removed h (λ q. none q) (behind refl)
    where
      none : Some end.Idle ≡ Some end.NoMemory → ⊥
      none q = cc
  why false (Some end.Stopped) word items past behind h = removed h (λ q. none q) (behind refl)
    where
      none : Some end.Stopped ≡ Some end.NoMemory → ⊥
      none q = cc
  why false (Some end.Refused) word items past behind h = removed h (λ q. none q) (behind refl)
    where
      none : Some end.Refused ≡ Some end.NoMemory → ⊥
      none q = cc

  not_refused : (own : Bool) (kept : Option EndKind) (word : EndKind)
      (items : List (Item ServerNote)) (past : List (Entry ServerNote)) → (kept ≢ Some end.Refused)
      → Because kept word items past → IsClosing (cond own Own ByRemoval) kept word
      → word ≢ end.Refused
  not_refused true kept word items past none because h = λ q. none (h ∙ ap Some q)
  not_refused false kept word items past none because h = by kept h
    where
      stopped : word ≡ end.Stopped → word ≢ end.Refused
      stopped e q = other (sym e ∙ q)
        where
          other : end.Stopped ≡ end.Refused → ⊥
          other z = cc

      by : (k : Option EndKind) → IsClosing ByRemoval k word → word ≢ end.Refused
      by (Some end.NoMemory) e = λ q. other (sym e ∙ q)
        where
          other : end.NoMemory ≡ end.Refused → ⊥
          other z = cc
      by None e = stopped e
      by (Some _) e = stopped e

  module _ (handle : Handle) (mask : Mask) (s : List (Entry ServerNote))
      (o : offering.OfferAt most steps idle all legal begun left closed first c (Opened handle mask)
      s)
      (moment : ℕ) (began : moment ≡ started_at o.past o.event)
      (here : offered_here s ≡ Some (record { note = note.Accepted c; moment = moment })) where
    abbrev origin : Origin ServerNote
    origin = record { note = note.Accepted c; moment = moment }

    abbrev offer : Entry ServerNote
    offer = Opened handle mask

    opens_it : opens handle.0 offer ≡ true
    opens_it = eq-eqb handle.0 handle.0 refl

    opened_here_too : was_opened (Opened handle mask ∷ s) handle.0 ≡ true
    opened_here_too = ap (λ (b : Bool). b || was_opened s handle.0) opens_it

    opened_all : was_opened all handle.0 ≡ true
    opened_all = ap (λ (p : List (Entry ServerNote)). was_opened p handle.0) o.is
        ∙ holds_at (opens handle.0) o.later (Opened handle mask) s opens_it

    origin_is : origin_of all handle.0 ≡ Some origin
    origin_is =
        ap (λ (p : List (Entry ServerNote)). origin_of p handle.0) o.is
        ∙ origin_still most o.later (Opened handle mask ∷ s) handle.0
        (sym (ap (is_legal most) o.is) ∙ legal) opened_here_too
        ∙ origin_new (Opened handle mask) s handle.0 opens_it ∙ here

    f : handles.Found (IsLeft steps idle) all handle.0
    f = handles.found (IsLeft steps idle) all handle.0 (closed handle.0 opened_all) left

    origin_before : origin_of f.before f.handle.0 ≡ Some origin
    origin_before = sym (offering.closed_before most steps idle all legal begun left closed first
        f.later f.before f.handle f.said f.is) ∙ ap (origin_of all) f.mine ∙ origin_is

    through : TalksThrough steps idle c moment (had f.before f.handle.0)
        (reason_of f.before f.handle.0) f.said
    through = subst (λ (from : Option (Origin ServerNote)).
        SaysLast steps idle from (had f.before f.handle.0) (reason_of f.before f.handle.0) f.said)
        origin_before f.left

    had_is : had f.before f.handle.0 ≡ had all handle.0
    had_is = ap (had f.before) f.mine ∙ sym
        (had_found most (IsLeft steps idle) all handle.0 legal f)

    mine : offering.OpenedFor most steps idle all legal begun left closed first c handle.0
    mine = record { handle = handle; mask = mask; before = s; mine = refl; offer = o }

    not_first : ◌≡◌ {A = Option ℕ} (Some handle.0) (Some 0) → ⊥
    not_first q = none (sym origin_is ∙ ap (origin_of all) (same q)
        ∙ origin_first most all legal begun)
      where
        same : ◌≡◌ {A = Option ℕ} (Some handle.0) (Some 0) → handle.0 ≡ 0
        same z = cc

        none : ◌≡◌ {A = Option (Origin ServerNote)} (Some origin) None → ⊥
        none z = cc

    accepted_before : list_any (accepts_connection c) f.before ≡ true
    accepted_before =
        let at = origin_found f.before f.handle.0 origin origin_before in
        let turn = accepted_here at.before origin c at.here refl in
        ap (list_any (accepts_connection c)) at.is
        ∙ more_accepts c at.later (Opened at.handle at.mask) at.before
        (accepts_in c turn.event turn.answer turn.past at.before turn.behind)

    because : Because through.now.kept through.word (had f.before f.handle.0) f.before
    because = why (ended_itself f.before f.handle.0) through.now.kept through.word
        (had f.before f.handle.0) f.before
        (λ e. whole.closed_behind means t idle groups journal r f.later f.before f.handle f.said
        f.is (λ own. other (sym (ap (λ (b : Bool). cond b Own ByRemoval) e) ∙ own)))
        through.closing
      where
        other : ◌≡◌ {A = Why} ByRemoval Own → ⊥
        other q = cc

    never_refused : through.now.kept ≢ Some end.Refused
    never_refused e = subst (EndedSo idle (last_turn (had f.before f.handle.0)) through.now) e
        (accounts c idle moment _ (had f.before f.handle.0) through.now through.course).ended

    -- before it was registered it has had no turn
    accept : offering.Accepts most steps idle all legal begun left closed first c
        (Returned o.event o.answer (note.Accepted c)) o.past
    accept = offering.place_of most steps idle all legal begun left closed first c
        (Opened handle mask) s o

    legal_here : is_legal most (Opened handle mask ∷ s) ≡ true
    legal_here = is_legal-front most o.later (Opened handle mask ∷ s)
        (sym (ap (is_legal most) o.is) ∙ legal)

    not_opened : was_opened s handle.0 ≡ false
    not_opened = ⊎_elim
        (λ (y : was_opened s handle.0 ≡ true).
        let below : handle.0 < opened s = opened_below most s handle.0
        (and_parts (may_follow most s (Opened handle mask)) (is_legal most s) legal_here).1 y in
        let is : handle.0 ≡ opened s = opened_is most s handle mask legal_here in
        absurd (omega (arith, below, is)))
        (λ (n : was_opened s handle.0 ≡ false). n) (cases_Bool (was_opened s handle.0))

    not_opened_there : was_opened (Returned o.event o.answer (note.Accepted c) ∷ o.past) handle.0
        ≡ false
    not_opened_there = by o.behind
      where
        by : Behind (Returned o.event o.answer (note.Accepted c)) o.past s
            → was_opened (Returned o.event o.answer (note.Accepted c) ∷ o.past) handle.0 ≡ false
        by (directly i) = sym (ap (λ (p : List (Entry ServerNote)). was_opened p handle.0) i)
            ∙ not_opened
        by (closed_between other word i) =
            sym (ap (λ (p : List (Entry ServerNote)). was_opened p handle.0) i) ∙ not_opened

    none_had : had (Returned o.event o.answer (note.Accepted c) ∷ o.past) handle.0 ≡ []
    none_had = had_none most (Returned o.event o.answer (note.Accepted c) ∷ o.past) handle.0
        (is_legal-front most accept.later (Returned o.event o.answer (note.Accepted c) ∷ o.past)
        (sym (ap (is_legal most) accept.is) ∙ legal)) not_opened_there

    registered_ends : Ends
    registered_ends = record {
      owner = Some handle.0;
      owns = record {
        not_first = not_first;
        its = λ d opened q.
            let talks = turns.connection most steps idle all legal begun left closed d opened in
            number_is talks.number talks.moment
            (sym talks.origin ∙ ap (origin_of all) (sym (same q)) ∙ origin_is);
        alone = λ d opened number.
            let talks = turns.connection most steps idle all legal begun left closed d opened in
            ap Some (offering.one_handler most steps idle all legal begun left closed first c
            handle.0 (suc d) mine
            (offering.opened_for most steps idle all legal begun left closed first c (suc d)
            (record { note = note.Accepted talks.number; moment = talks.moment }) talks.origin
            (ap (λ (i : ℕ). note.Accepted i) number)));
      };
      moment = moment;
      now = through.now;
      course = subst (λ (h : List (Item ServerNote)).
          connection.Course c idle (connection.at_start moment (Some (untold (story c steps)))) h
          through.now) had_is through.course;
      later = f.later;
      entry = Closed f.handle f.said;
      past = f.before;
      is = f.is;
      word = through.word;
      closes = (
        through.notes,
        not_refused (ended_itself f.before f.handle.0) through.now.kept
            through.word (had f.before f.handle.0) f.before never_refused because through.closing,
      );
      ends_it = ap (finishes c) through.notes ∙ eq-eqb c c refl;
      accepted = accepted_before;
      because = subst (λ (h : List (Item ServerNote)).
          Because through.now.kept through.word h f.before) had_is because;
      event = o.event;
      answer = o.answer;
      earlier = o.past;
      since = accept.later;
      accepted_at = accept.is;
      began = began;
      none_had = none_had;
    }
      where
        same : {a b : ℕ} → ◌≡◌ {A = Option ℕ} (Some a) (Some b) → a ≡ b
        same z = cc

        number_is : (k m : ℕ) → ◌≡◌ {A = Option (Origin ServerNote)}
            (Some (record { note = note.Accepted k; moment = m })) (Some origin) → k ≡ c
        number_is k m z = notes_same (ap (λ (w : Option (Origin ServerNote)).
            elim w [ None ↦ note.Accepted k | Some y ↦ y.note ]) z)
          where
            notes_same : note.Accepted k ≡ note.Accepted c → k ≡ c
            notes_same q = cc

  -- ---- a connection that was accepted

  module _ (before : List (Entry ServerNote)) (event : ℕ) (answer : Answer)
      (behind : List (Entry ServerNote))
      (is : journal ≡ before ++ Returned event answer (note.Accepted c) ∷ behind) where
    abbrev turn : Entry ServerNote
    turn = Returned event answer (note.Accepted c)

    abbrev base : List (Entry ServerNote)
    base = turn ∷ past_of before

    base_is : past_of (before ++ turn ∷ []) ≡ base
    base_is = past_split before [] turn

    -- directly after the turn
    at_base : (e : Entry ServerNote) (rest : List (Entry ServerNote)) → behind ≡ e ∷ rest
        → all ≡ past_of rest ++ e ∷ base
    at_base e rest b =
        ap past_of (is ∙ ap (λ (l : List (Entry ServerNote)). before ++ turn ∷ l) b
        ∙ sym (append_assoc before (turn ∷ []) (e ∷ rest)))
        ∙ past_split (before ++ turn ∷ []) rest e
        ∙ ap (λ (p : List (Entry ServerNote)). past_of rest ++ e ∷ p) base_is

    -- after a closing between
    at_close : (handle : Handle) (word : ServerNote) (e : Entry ServerNote)
        (rest : List (Entry ServerNote)) → behind ≡ Closed handle word ∷ (e ∷ rest)
        → all ≡ past_of rest ++ e ∷ (Closed handle word ∷ base)
    at_close handle word e rest b =
        at_base (Closed handle word) (e ∷ rest) b
        ∙ ap (λ (p : List (Entry ServerNote)). p ++ Closed handle word ∷ base)
        (past_split [] rest e) ∙ append_assoc (past_of rest) (e ∷ [])
        (Closed handle word ∷ base)

    by_next : (handle : Handle) (word : ServerNote) (more : List (Entry ServerNote))
        → behind ≡ Closed handle word ∷ more → OfferNext more → Ends
    by_next handle word more b (opened_next opened mask rest m) =
        registered_ends opened mask (Closed handle word ∷ base)
        (record {
          later = past_of rest;
          is =
              at_close handle word (Opened opened mask) rest
              (b ∙ ap (λ (l : List (Entry ServerNote)). Closed handle word ∷ l) m);
          event = event;
          answer = answer;
          past = past_of before;
          behind = closed_between handle word refl;
          no_close = refl;
        })
        (started_at (past_of before) event) refl refl
    by_next handle word more b (refused_next live fault said rest m) =
        refused_ends live fault said (Closed handle word ∷ base)
        (record {
          later = past_of rest;
          is =
              at_close handle word (Refused live fault said) rest
              (b ∙ ap (λ (l : List (Entry ServerNote)). Closed handle word ∷ l) m);
          event = event;
          answer = answer;
          past = past_of before;
          behind = closed_between handle word refl;
          no_close = refl;
        })
        (started_at (past_of before) event) refl refl

    by_offer : OfferOf behind → Ends
    by_offer (opened_here handle mask rest b) =
        registered_ends handle mask base (record {
          later = past_of rest;
          is = at_base (Opened handle mask) rest b;
          event = event;
          answer = answer;
          past = past_of before;
          behind = directly refl;
          no_close = refl;
        })
        (started_at (past_of before) event) refl refl
    by_offer (refused_here live fault said rest b) =
        refused_ends live fault said base (record {
          later = past_of rest;
          is = at_base (Refused live fault said) rest b;
          event = event;
          answer = answer;
          past = past_of before;
          behind = directly refl;
          no_close = refl;
        })
        (started_at (past_of before) event) refl refl
    by_offer (behind_close handle word more b h) = by_next handle word more b (offer_next more h)

    pub turn_ends : Ends
    turn_ends = by_offer (offer_of behind
        (whole.offers means t idle groups journal r before event answer (note.Accepted c) behind is
        refl))

  pub accepted_ends : list_any (accepts_connection c) journal ≡ true → Ends
  accepted_ends h =
      let f = found (accepts_connection c) journal h in
      let turn = accept_turn c f.it f.holds in
      turn_ends f.before turn.event turn.answer f.after
      (f.is ∙ ap (λ (e : Entry ServerNote). f.before ++ e ∷ f.after) turn.is)
