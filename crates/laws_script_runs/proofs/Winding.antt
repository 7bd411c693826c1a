-- The end of a run: what was open, who was alive, and what stands after `Ended`.
use Rattle.std.proofs.Common.{ℕ, ◌≡◌, ◌==◌, ◌<◌, Bool, true, false, not, ◌||◌, List, [], ◌∷◌, ◌++◌}
use Rattle.std.proofs.Common.{reverse, refl, sym, ap, ◌∙◌, arith, Option, Some, None, ⊎_elim}
use Rattle.std.proofs.Common.{append-nil}
use Rattle.std.specs.List.{list_any}
use Rattle.std.proofs.lemmas.Bool.{false≢true, and_parts, or_parts, not-true, both_ways, cases_Bool}
use Rattle.std.proofs.lemmas.Bool.{eqb-true, eq-eqb}
use Rattle.std.proofs.lemmas.List.{reverse-append}
use Rattle.reactor_model.specs.ev_types.specs.declared.upcall.Answer.TheVariants.{Close}
use Rattle.reactor_model.specs.ev_types.specs.declared.upcall.Mask.{Mask}
use Rattle.reactor_model.specs.ev_types.specs.declared.upcall.Upcall.{Upcall}
use Rattle.reactor_model.specs.ev_types.specs.declared.upcall.Upcall.TheVariants.{Input, Output}
use Rattle.reactor_model.specs.ev_types.specs.declared.upcall.Upcall.TheVariants.{Except, Timeout}
use Rattle.reactor_model.specs.ev_types.specs.declared.upcall.Upcall.TheVariants.{Notice}
use Rattle.reactor_model.specs.ev_base.specs.Terms.{Terms}
use Rattle.reactor_model.specs.reactor_journal.specs.Event.{Event, Item, Origin}
use Rattle.reactor_model.specs.reactor_journal.specs.declared.entry.Entry.{Entry}
use Rattle.reactor_model.specs.reactor_journal.specs.declared.entry.Entry.TheVariants.{Opened}
use Rattle.reactor_model.specs.reactor_journal.specs.declared.entry.Entry.TheVariants.{Scheduled}
use Rattle.reactor_model.specs.reactor_journal.specs.declared.entry.Entry.TheVariants.{Cancelled}
use Rattle.reactor_model.specs.reactor_journal.specs.declared.entry.Entry.TheVariants.{Polled, Due}
use Rattle.reactor_model.specs.reactor_journal.specs.declared.entry.Entry.TheVariants.{Ready}
use Rattle.reactor_model.specs.reactor_journal.specs.declared.entry.Entry.TheVariants.{Posted}
use Rattle.reactor_model.specs.reactor_journal.specs.declared.entry.Entry.TheVariants.{Stale}
use Rattle.reactor_model.specs.reactor_journal.specs.declared.entry.Entry.TheVariants.{Started}
use Rattle.reactor_model.specs.reactor_journal.specs.declared.entry.Entry.TheVariants.{Returned}
use Rattle.reactor_model.specs.reactor_journal.specs.declared.entry.Entry.TheVariants.{Masked}
use Rattle.reactor_model.specs.reactor_journal.specs.declared.entry.Entry.TheVariants.{Suspended}
use Rattle.reactor_model.specs.reactor_journal.specs.declared.entry.Entry.TheVariants.{Resumed}
use Rattle.reactor_model.specs.reactor_journal.specs.declared.entry.Entry.TheVariants.{Refused}
use Rattle.reactor_model.specs.reactor_journal.specs.declared.entry.Entry.TheVariants.{Removed}
use Rattle.reactor_model.specs.reactor_journal.specs.declared.entry.Entry.TheVariants.{Closed}
use Rattle.reactor_model.specs.reactor_journal.specs.declared.entry.Entry.TheVariants.{Ended}
use Rattle.reactor_model.specs.reactor_journal.specs.Past.{had, items_made, offered_here, opens}
use Rattle.reactor_model.specs.reactor_journal.specs.Past.{starts, ended, ends, closes_itself}
use Rattle.reactor_model.specs.reactor_journal.specs.Past.{ended_itself, was_opened, was_removed}
use Rattle.reactor_model.specs.reactor_journal.specs.Past.{event_at, is_open, opened}
use Rattle.reactor_model.specs.reactor_journal.specs.Follow.{may_follow, is_legal, winds_up}
use Rattle.reactor_model.specs.reactor_journal.proofs.Basics.{may_fits}
use Rattle.reactor_model.specs.reactor_journal.proofs.OneOpen.{open_cases}
use Rattle.reactor_model.specs.reactor_journal.proofs.HadLaw.{quiet, returned_is_open}
use Rattle.reactor_model.specs.Handling.{Installing, Masking, Cancelling}
use Rattle.laws_script_told.specs.laws_reports.specs.Laws.{holds_back}
use Rattle.laws_script_turns.specs.acceptor.specs.Servers.{ServerMay, read_alone}
use Rattle.laws_script_turns.specs.acceptor.specs.Servers.{is_accepted as says_accepted}
use Rattle.laws_script_told.specs.log_handler.specs.declared.note.ServerNote.{ServerNote}
use Rattle.laws_by_turns.specs.ByTurns.{returned_here}
use Rattle.laws_script_runs.proofs.ByTurns.{TurnsBefore, IsByTurn}
use Rattle.laws_script_runs.specs.Steps.{EachStep}
use Rattle.laws_script_runs.specs.Runs.{first_handle}
use Rattle.reactor_model.specs.ev_base.specs.Terms.{Group}
use Rattle.reactor_model.specs.reactor_journal.specs.Follow.{follows_ready}
use Rattle.laws_script_told.specs.Told.{FollowsBefore}
use Rattle.laws_script_runs.proofs.Handles.{IsBegun}

-- ---- a run goes by turns

-- the past begins with the registration of the acceptor
pub record Begins (past : List (Entry ServerNote)) : Type 0 where
  pub later : List (Entry ServerNote)
  pub is : past ≡ later ++ Opened first_handle read_alone ∷ []

pub begins_tail : (e d : Entry ServerNote) (past : List (Entry ServerNote))
    → Begins (e ∷ (d ∷ past)) → Begins (d ∷ past)
begins_tail e d past b = by_later b.later b.is
  where
    by_later : (later : List (Entry ServerNote))
        → e ∷ (d ∷ past) ≡ later ++ Opened first_handle read_alone ∷ [] → Begins (d ∷ past)
    by_later [] h = absurd (none h)
      where
        none : e ∷ (d ∷ past) ≡ Opened first_handle read_alone ∷ [] → ⊥
        none q = cc
    by_later (x ∷ later) h = record { later = later; is = tail h }
      where
        tail : e ∷ (d ∷ past) ≡ x ∷ (later ++ Opened first_handle read_alone ∷ [])
            → d ∷ past ≡ later ++ Opened first_handle read_alone ∷ []
        tail q = cc

pub begins_one : (e : Entry ServerNote) → Begins (e ∷ []) → e ≡ Opened first_handle read_alone
begins_one e b = by_later b.later b.is
  where
    by_later : (later : List (Entry ServerNote))
        → e ∷ [] ≡ later ++ Opened first_handle read_alone ∷ [] → e ≡ Opened first_handle read_alone
    by_later [] h = head h
      where
        head : e ∷ [] ≡ Opened first_handle read_alone ∷ [] → e ≡ Opened first_handle read_alone
        head q = cc
    by_later (x ∷ []) h = absurd (none h)
      where
        none : e ∷ [] ≡ x ∷ Opened first_handle read_alone ∷ [] → ⊥
        none q = cc
    by_later (x ∷ (y ∷ later)) h = absurd (none h)
      where
        none : e ∷ [] ≡ x ∷ (y ∷ (later ++ Opened first_handle read_alone ∷ [])) → ⊥
        none q = cc

-- a turn that was settled offers its handlers
pub settled_offers : (past : List (Entry ServerNote)) (i : ℕ) → returned_here past ≡ Some i
    → (o : Origin ServerNote) × (offered_here past ≡ Some o)
settled_offers [] i h = absurd (none h)
  where
    none : ◌≡◌ {A = Option ℕ} None (Some i) → ⊥
    none q = cc
settled_offers (Returned event answer said ∷ past) i h = (_, refl)
settled_offers (Closed handle other ∷ (Returned event answer said ∷ past)) i h = (_, refl)
settled_offers (Closed handle other ∷ []) i h = absurd (none h)
  where
    none : ◌≡◌ {A = Option ℕ} None (Some i) → ⊥
    none q = cc
settled_offers (Closed handle other ∷ (_ ∷ past)) i h = absurd (none h)
  where
    none : ◌≡◌ {A = Option ℕ} None (Some i) → ⊥
    none q = cc
settled_offers (_ ∷ past) i h = absurd (none h)
  where
    none : ◌≡◌ {A = Option ℕ} None (Some i) → ⊥
    none q = cc

may_mask : (t : Terms) (u : Upcall) (mask : Mask) (timer : Option (ℕ × ℕ))
    → ServerMay t u (Installing mask timer) → mask ≡ read_alone
may_mask t Input mask timer h = h.0
may_mask t Output mask timer h = absurd h
may_mask t Except mask timer h = absurd h
may_mask t (Timeout timer') mask timer h = absurd h
may_mask t (Notice kind) mask timer h = absurd h

pub no_masking : (t : Terms) (u : Upcall) → ServerMay t u Masking → ⊥
no_masking t Input h = h
no_masking t Output h = h
no_masking t Except h = h
no_masking t (Timeout timer) h = h
no_masking t (Notice kind) h = h

pub no_cancelling : (t : Terms) (u : Upcall) → ServerMay t u Cancelling → ⊥
no_cancelling t Input h = h
no_cancelling t Output h = h
no_cancelling t Except h = h
no_cancelling t (Timeout timer) h = h
no_cancelling t (Notice kind) h = h

module _ (t : Terms) where
  one_begun : (e d : Entry ServerNote) (past : List (Entry ServerNote))
      → IsByTurn (ServerMay t) (d ∷ past) e → IsBegun (d ∷ past) e
  one_begun (Opened handle mask) d past h = (
    settled_offers (d ∷ past) h.1.number h.1.settled,
    may_mask t h.1.event.upcall mask h.0 h.1.allowed,
  )
  one_begun _ d past h = tt

  pub run_begun : (past : List (Entry ServerNote)) (next : Option (Entry ServerNote)) → Begins past
      → TurnsBefore (ServerMay t) says_accepted 1 past next → EachStep IsBegun past
  run_begun [] next b turns = tt
  run_begun (e ∷ []) next b turns = (begins_one e b, tt)
  run_begun (e ∷ (d ∷ past)) next b turns = (
    one_begun e d past (turns.1 (omega arith)),
    run_begun (d ∷ past) (Some e) (begins_tail e d past b) turns.2,
  )

  one_free : (e d : Entry ServerNote) (past : List (Entry ServerNote))
      → IsByTurn (ServerMay t) (d ∷ past) e → holds_back e ≡ false
  one_free (Masked handle mask) d past h = absurd (no_masking t h.event.upcall h.allowed)
  one_free (Cancelled timer) d past h = absurd (no_cancelling t h.event.upcall h.allowed)
  one_free (Suspended handle) d past h = absurd h
  one_free _ d past h = refl

  pub run_free : (past : List (Entry ServerNote)) (next : Option (Entry ServerNote)) → Begins past
      → TurnsBefore (ServerMay t) says_accepted 1 past next → list_any holds_back past ≡ false
  run_free [] next b turns = refl
  run_free (e ∷ []) next b turns = ap (λ (f : Entry ServerNote). holds_back f || false)
      (begins_one e b)
  run_free (e ∷ (d ∷ past)) next b turns =
      ap (λ (x : Bool). x || list_any holds_back (d ∷ past))
      (one_free e d past (turns.1 (omega arith)))
      ∙ run_free (d ∷ past) (Some e) (begins_tail e d past b) turns.2

-- ---- lives

abbrev pub removes : Entry ServerNote → Bool
removes (Removed handle) = true
removes _ = false

ended_by : (e : Entry ServerNote) (events : ℕ → Option Event) (x : ℕ) → removes e ≡ false
    → ends x events e ≡ true → closes_itself x events e ≡ true
ended_by (Removed handle) events x r h = absurd (false≢true (sym r))
ended_by (Returned event Close said) events x r h = h
ended_by _ events x r h = absurd (false≢true h)

itself_new : (e : Entry ServerNote) (past : List (Entry ServerNote)) (x : ℕ)
    → was_removed past x ≡ false → ended_itself (e ∷ past) x ≡ closes_itself x (event_at past) e
itself_new e past x h = rw (h, ended_itself) refl

itself_old : (e : Entry ServerNote) (past : List (Entry ServerNote)) (x : ℕ)
    → was_removed past x ≡ true → ended_itself (e ∷ past) x ≡ ended_itself past x
itself_old e past x h = rw (h, ended_itself) refl

-- if nobody removed a handler, one that is not alive any more ended its own life
pub removed_itself : (past : List (Entry ServerNote)) (x : ℕ) → list_any removes past ≡ false
    → was_removed past x ≡ true → ended_itself past x ≡ true
removed_itself [] x r h = absurd (false≢true h)
removed_itself (e ∷ past) x r h = ⊎_elim
    (λ (t : was_removed past x ≡ true). itself_old e past x t
    ∙ removed_itself past x (or_parts (removes e) (list_any removes past) r).1 t)
    (λ (f : was_removed past x ≡ false). itself_new e past x f
    ∙ ended_by e (event_at past) x (or_parts (removes e) (list_any removes past) r).0
    (here f h))
    (cases_Bool (was_removed past x))
  where
    here : was_removed past x ≡ false → (ends x (event_at past) e || was_removed past x) ≡ true
        → ends x (event_at past) e ≡ true
    here f h = or_false (ends x (event_at past) e)
        (sym (ap (λ (b : Bool). ends x (event_at past) e || b) f) ∙ h)
      where
        or_false : (b : Bool) → (b || false) ≡ true → b ≡ true
        or_false true q = refl
        or_false false q = q

removed_later : (later past : List (Entry ServerNote)) (x : ℕ) → was_removed past x ≡ true
    → was_removed (later ++ past) x ≡ true
removed_later [] past x h = h
removed_later (e ∷ later) past x h =
    or_right (ends x (event_at (later ++ past)) e) (was_removed (later ++ past) x)
    (removed_later later past x h)
  where
    or_right : (b c : Bool) → c ≡ true → (b || c) ≡ true
    or_right true c q = refl
    or_right false c q = q

pub itself_still : (later past : List (Entry ServerNote)) (x : ℕ) → was_removed past x ≡ true
    → ended_itself (later ++ past) x ≡ ended_itself past x
itself_still [] past x h = refl
itself_still (e ∷ later) past x h =
    itself_old e (later ++ past) x (removed_later later past x h) ∙ itself_still later past x h

-- ---- after the end

ended_later : (later past : List (Entry ServerNote)) → ended past ≡ true
    → ended (later ++ past) ≡ true
ended_later [] past h = h
ended_later (e ∷ later) past h = or_right _ (ended (later ++ past)) (ended_later later past h)
  where
    or_right : (b c : Bool) → c ≡ true → (b || c) ≡ true
    or_right true c q = refl
    or_right false c q = q

-- what is not ended was not before
pub none_behind : (later past : List (Entry ServerNote)) → ended (later ++ past) ≡ false
    → ended past ≡ false
none_behind later past h = ⊎_elim (λ (t : ended past ≡ true).
    absurd (both_ways _ h (ended_later later past t))) (λ (f : ended past ≡ false). f)
    (cases_Bool (ended past))

winds : (most : ℕ) (e : Entry ServerNote) (past : List (Entry ServerNote))
    → may_follow most past e ≡ true → ended past ≡ true → winds_up e ≡ true
unfolding may_follow
winds most e past may end = or_false (winds_up e)
    (sym (ap (λ (b : Bool). winds_up e || not b) end)
    ∙ (and_parts (winds_up e || not (ended past)) _ may).0)
  where
    or_false : (b : Bool) → (b || false) ≡ true → b ≡ true
    or_false true q = refl
    or_false false q = q

no_start : (e : Entry ServerNote) (i : ℕ) → winds_up e ≡ true → starts i e ≡ false
no_start (Started event) i h = absurd (false≢true h)
no_start (Returned event answer said) i h = refl
no_start (Removed handle) i h = refl
no_start (Closed handle said) i h = refl
no_start (Refused live fault said) i h = refl
no_start (Opened handle mask) i h = absurd (false≢true h)
no_start (Scheduled timer handle first every) i h = absurd (false≢true h)
no_start (Cancelled timer) i h = absurd (false≢true h)
no_start (Polled moment) i h = absurd (false≢true h)
no_start (Due timer) i h = absurd (false≢true h)
no_start (Ready handle kind) i h = absurd (false≢true h)
no_start (Posted handle kind from seq) i h = absurd (false≢true h)
no_start (Stale handle from seq) i h = absurd (false≢true h)
no_start (Masked handle mask) i h = absurd (false≢true h)
no_start (Suspended handle) i h = absurd (false≢true h)
no_start (Resumed handle) i h = absurd (false≢true h)
no_start Ended i h = absurd (false≢true h)

-- the entries after the end
pub record WoundUp (most : ℕ) (past : List (Entry ServerNote))
    (later : List (Entry ServerNote)) : Type 0 where
  pub none_open : (i : ℕ) → is_open (later ++ past) i ≡ false
  pub had_is : (x : ℕ) → had (later ++ past) x ≡ had past x

pub closed_open : (e : Entry ServerNote) (past : List (Entry ServerNote)) (i : ℕ)
    → starts i e ≡ false → is_open past i ≡ false → is_open (e ∷ past) i ≡ false
closed_open e past i s o = ⊎_elim
    (λ (t : is_open (e ∷ past) i ≡ true).
    absurd (⊎_elim (λ (h : starts i e ≡ true). both_ways _ s h)
    (λ (h : is_open past i ≡ true). both_ways _ o h) (open_cases e past i t)))
    (λ (f : is_open (e ∷ past) i ≡ false). f) (cases_Bool (is_open (e ∷ past) i))

none_made : (most : ℕ) (e : Entry ServerNote) (past : List (Entry ServerNote)) (x : ℕ)
    → may_follow most past e ≡ true → ((i : ℕ) → is_open past i ≡ false) → items_made past x e ≡ []
none_made most e past x may none =
    quiet past x e (λ j r. absurd (both_ways _ (none j) (returned_is_open most past e j may r)))

pub wound_up : (most : ℕ) (past later : List (Entry ServerNote))
    → is_legal most (later ++ past) ≡ true → ended past ≡ true → ((i : ℕ) → is_open past i ≡ false)
    → WoundUp most past later
wound_up most past [] legal end none = record { none_open = none; had_is = λ x. refl }
wound_up most past (e ∷ later) legal end none =
    let parts = and_parts (may_follow most (later ++ past) e) (is_legal most (later ++ past)) legal
    in
    let rest = wound_up most past later parts.1 end none in
    let up = winds most e (later ++ past) parts.0 (ended_later later past end) in
    record {
      none_open = λ i. closed_open e (later ++ past) i (no_start e i up) (rest.none_open i);
      had_is = λ x. ap (λ (items : List (Item ServerNote)). had (later ++ past) x ++ items)
          (none_made most e (later ++ past) x parts.0 rest.none_open)
          ∙ append-nil (had (later ++ past) x) ∙ rest.had_is x;
    }

-- after the end no handler is registered
one_begun_up : (e d : Entry ServerNote) (past : List (Entry ServerNote)) → winds_up e ≡ true
    → IsBegun (d ∷ past) e
one_begun_up (Opened handle mask) d past h = absurd (false≢true h)
one_begun_up _ d past h = tt

pub begun_up : (most : ℕ) (later : List (Entry ServerNote)) (d : Entry ServerNote)
    (past : List (Entry ServerNote)) → is_legal most (later ++ d ∷ past) ≡ true
    → ended (d ∷ past) ≡ true
    → EachStep IsBegun (d ∷ past) → EachStep IsBegun (later ++ d ∷ past)
begun_up most [] d past legal end b = b
begun_up most (e ∷ []) d past legal end b =
    let parts = and_parts (may_follow most (d ∷ past) e) (is_legal most (d ∷ past)) legal in
    (one_begun_up e d past (winds most e (d ∷ past) parts.0 end), b)
begun_up most (e ∷ (f ∷ later)) d past legal end b =
    let parts = and_parts (may_follow most (f ∷ (later ++ d ∷ past)) e)
    (is_legal most (f ∷ (later ++ d ∷ past))) legal in (
      one_begun_up e f (later ++ d ∷ past)
          (winds most e (f ∷ (later ++ d ∷ past)) parts.0 (ended_later (f ∷ later) (d ∷ past) end)),
      begun_up most (f ∷ later) d past parts.1 end b,
    )

-- a run that is not ended removes none
run_removes : (t : Terms) (past : List (Entry ServerNote)) (next : Option (Entry ServerNote))
    → Begins past → TurnsBefore (ServerMay t) says_accepted 1 past next → ended past ≡ false
    → list_any removes past ≡ false
run_removes t [] next b turns end = refl
run_removes t (e ∷ []) next b turns end =
    ap (λ (f : Entry ServerNote). removes f || false) (begins_one e b)
run_removes t (e ∷ (d ∷ past)) next b turns end =
    ap (λ (x : Bool). x || list_any removes (d ∷ past)) (one e (turns.1 (omega arith)))
    ∙ run_removes t (d ∷ past) (Some e) (begins_tail e d past b) turns.2 before
  where
    before : ended (d ∷ past) ≡ false
    before = (or_parts _ (ended (d ∷ past)) end).1

    one : (e : Entry ServerNote) → IsByTurn (ServerMay t) (d ∷ past) e → removes e ≡ false
    one (Removed handle) h = absurd (both_ways _ before h)
    one _ h = refl

pub run_keeps : (t : Terms) (past : List (Entry ServerNote)) → Begins past
    → TurnsBefore (ServerMay t) says_accepted 1 past None → ended past ≡ false
    → list_any removes past ≡ false
run_keeps t past b turns end = run_removes t past None b turns end

-- ---- what stands after the end registers nobody and follows no wait

no_open : (e : Entry ServerNote) (x : ℕ) → winds_up e ≡ true → opens x e ≡ false
no_open (Opened handle mask) x h = absurd (false≢true h)
no_open _ x h = refl

pub opened_back : (most : ℕ) (later past : List (Entry ServerNote)) (x : ℕ)
    → is_legal most (later ++ past) ≡ true → ended past ≡ true
    → was_opened (later ++ past) x ≡ was_opened past x
opened_back most [] past x legal end = refl
opened_back most (e ∷ later) past x legal end =
    let parts = and_parts (may_follow most (later ++ past) e) (is_legal most (later ++ past)) legal
    in
    ap (λ (b : Bool). b || was_opened (later ++ past) x)
    (no_open e x (winds most e (later ++ past) parts.0 (ended_later later past end)))
    ∙ opened_back most later past x parts.1 end

step_back : (groups : List Group) (e : Entry ServerNote) (past : List (Entry ServerNote))
    → winds_up e ≡ true → FollowsBefore groups (e ∷ past) [] → FollowsBefore groups past []
step_back groups (Returned event answer said) past h f = f.1
step_back groups (Removed handle) past h f = f.1
step_back groups (Closed handle said) past h f = f.1
step_back groups (Refused live fault said) past h f = f.1
step_back groups (Opened handle mask) past h f = absurd (false≢true h)
step_back groups (Scheduled timer handle first every) past h f = absurd (false≢true h)
step_back groups (Cancelled timer) past h f = absurd (false≢true h)
step_back groups (Polled moment) past h f = absurd (false≢true h)
step_back groups (Due timer) past h f = absurd (false≢true h)
step_back groups (Ready handle kind) past h f = absurd (false≢true h)
step_back groups (Posted handle kind from seq) past h f = absurd (false≢true h)
step_back groups (Stale handle from seq) past h f = absurd (false≢true h)
step_back groups (Started event) past h f = absurd (false≢true h)
step_back groups (Masked handle mask) past h f = absurd (false≢true h)
step_back groups (Suspended handle) past h f = absurd (false≢true h)
step_back groups (Resumed handle) past h f = absurd (false≢true h)
step_back groups Ended past h f = absurd (false≢true h)

pub follows_back : (groups : List Group) (most : ℕ) (later past : List (Entry ServerNote))
    → is_legal most (later ++ past) ≡ true → ended past ≡ true
    → FollowsBefore groups (later ++ past) [] → FollowsBefore groups past []
follows_back groups most [] past legal end f = f
follows_back groups most (e ∷ later) past legal end f =
    let parts = and_parts (may_follow most (later ++ past) e) (is_legal most (later ++ past)) legal
    in
    follows_back groups most later past parts.1 end
    (step_back groups e (later ++ past)
    (winds most e (later ++ past) parts.0 (ended_later later past end)) f)

-- the end itself
pub not_ended : (most : ℕ) (past : List (Entry ServerNote)) → may_follow most past Ended ≡ true
    → ended past ≡ false
unfolding may_follow
not_ended most past may = not-true _ (and_parts (not (ended past)) _ may).0

pub ended_begun : (past : List (Entry ServerNote)) → follows_ready past ≡ true → IsBegun past Ended
ended_begun [] h = absurd (false≢true h)
ended_begun (d ∷ past) h = tt

pub turns_front : (t : Terms) (later past : List (Entry ServerNote))
    (next : Option (Entry ServerNote))
    → TurnsBefore (ServerMay t) says_accepted 1 (later ++ past) next
    → (n : Option (Entry ServerNote)) × TurnsBefore (ServerMay t) says_accepted 1 past n
turns_front t [] past next h = (next, h)
turns_front t (e ∷ later) past next h = turns_front t later past (Some e) h.2

-- where the journal begins
pub begins_run : (run closing rest : List (Entry ServerNote))
    → Opened first_handle read_alone ∷ rest ≡ run ++ Ended ∷ closing → Begins (reverse run)
begins_run [] closing rest h = absurd (none h)
  where
    none : Opened first_handle read_alone ∷ rest ≡ Ended ∷ closing → ⊥
    none q = cc
begins_run (e ∷ run) closing rest h =
    record {
      later = reverse run;
      is =
          reverse-append (e ∷ []) run ∙ ap (λ (x : Entry ServerNote). reverse run ++ x ∷ [])
          (sym (head h));
    }
  where
    head : Opened first_handle read_alone ∷ rest ≡ e ∷ (run ++ Ended ∷ closing)
        → Opened first_handle read_alone ≡ e
    head q = cc

-- ---- tests of a list, read from either end

pub any_append : (p : Entry ServerNote → Bool) (a b : List (Entry ServerNote))
    → list_any p a ≡ false → list_any p b ≡ false → list_any p (a ++ b) ≡ false
any_append p [] b h k = k
any_append p (e ∷ a) b h k = ap (λ (t : Bool). t || list_any p (a ++ b))
    (or_parts (p e) (list_any p a) h).0 ∙ any_append p a b (or_parts (p e) (list_any p a) h).1 k

pub any_reverse : (p : Entry ServerNote → Bool) (l : List (Entry ServerNote)) → list_any p l ≡ false
    → list_any p (reverse l) ≡ false
any_reverse p [] h = refl
any_reverse p (e ∷ l) h = ap (list_any p) (reverse-append (e ∷ []) l)
    ∙ any_append p (reverse l) (e ∷ []) (any_reverse p l (or_parts (p e) (list_any p l) h).1)
    (ap (λ (b : Bool). b || false) (or_parts (p e) (list_any p l) h).0)

pub none_at : (p : Entry ServerNote → Bool) (a : List (Entry ServerNote)) (e : Entry ServerNote)
    (b : List (Entry ServerNote)) → list_any p (a ++ e ∷ b) ≡ false → p e ≡ false
none_at p [] e b h = (or_parts (p e) (list_any p b) h).0
none_at p (x ∷ a) e b h = none_at p a e b (or_parts (p x) (list_any p (a ++ e ∷ b)) h).1

pub any_right : (p : Entry ServerNote → Bool) (a b : List (Entry ServerNote))
    → list_any p (a ++ b) ≡ false → list_any p b ≡ false
any_right p [] b h = h
any_right p (x ∷ a) b h = any_right p a b (or_parts (p x) (list_any p (a ++ b)) h).1

-- a handle below the number of those opened was opened
pub below_opened : (most : ℕ) (past : List (Entry ServerNote)) (x : ℕ) → is_legal most past ≡ true
    → x < opened past → was_opened past x ≡ true
below_opened most [] x legal l = absurd (omega arith)
below_opened most (Opened handle mask ∷ past) x legal l = ⊎_elim
    (λ (t : (handle.0 == x) ≡ true). ap (λ (b : Bool). b || was_opened past x) t)
    (λ (f : (handle.0 == x) ≡ false). or_right (handle.0 == x) (was_opened past x)
    (below_opened most past x (and_parts _ _ legal).1 (less f)))
    (cases_Bool (handle.0 == x))
  where
    is : handle.0 ≡ opened past
    is = eqb-true _ _ (and_parts _ _ (may_fits most past (Opened handle mask)
        (and_parts (may_follow most past (Opened handle mask)) (is_legal most past) legal).0)).0

    other : (handle.0 == x) ≡ false → x ≡ handle.0 → ⊥
    other f q = both_ways _ f (eq-eqb handle.0 x (sym q))

    less : (handle.0 == x) ≡ false → x < opened past
    less f = omega (arith, is, other f, l)

    or_right : (b c : Bool) → c ≡ true → (b || c) ≡ true
    or_right true c q = refl
    or_right false c q = q
below_opened most (Scheduled timer handle first every ∷ past) x legal l =
    below_opened most past x (and_parts _ _ legal).1 l
below_opened most (Cancelled timer ∷ past) x legal l =
    below_opened most past x (and_parts _ _ legal).1 l
below_opened most (Polled moment ∷ past) x legal l =
    below_opened most past x (and_parts _ _ legal).1 l
below_opened most (Due timer ∷ past) x legal l = below_opened most past x (and_parts _ _ legal).1 l
below_opened most (Ready handle kind ∷ past) x legal l =
    below_opened most past x (and_parts _ _ legal).1 l
below_opened most (Posted handle kind from seq ∷ past) x legal l =
    below_opened most past x (and_parts _ _ legal).1 l
below_opened most (Stale handle from seq ∷ past) x legal l =
    below_opened most past x (and_parts _ _ legal).1 l
below_opened most (Started event ∷ past) x legal l =
    below_opened most past x (and_parts _ _ legal).1 l
below_opened most (Returned event answer said ∷ past) x legal l =
    below_opened most past x (and_parts _ _ legal).1 l
below_opened most (Masked handle mask ∷ past) x legal l =
    below_opened most past x (and_parts _ _ legal).1 l
below_opened most (Suspended handle ∷ past) x legal l =
    below_opened most past x (and_parts _ _ legal).1 l
below_opened most (Resumed handle ∷ past) x legal l =
    below_opened most past x (and_parts _ _ legal).1 l
below_opened most (Refused live fault said ∷ past) x legal l =
    below_opened most past x (and_parts _ _ legal).1 l
below_opened most (Removed handle ∷ past) x legal l =
    below_opened most past x (and_parts _ _ legal).1 l
below_opened most (Closed handle other ∷ past) x legal l =
    below_opened most past x (and_parts _ _ legal).1 l
below_opened most (Ended ∷ past) x legal l = below_opened most past x (and_parts _ _ legal).1 l
