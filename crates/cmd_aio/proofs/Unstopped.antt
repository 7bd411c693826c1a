-- That a reactor of the command is never stopped before its end: nobody posts to its acceptor. And
-- it sets no timer.
use Rattle.std.proofs.Common.{ℕ, suc, ◌≡◌, ◌+◌, ◌==◌, ◌&&◌, ⊎_elim, Bool, true, false, not, List}
use Rattle.std.proofs.Common.{[], ◌∷◌, ◌++◌, length, map, refl, sym, ap, ◌∙◌, subst, arith}
use Rattle.std.proofs.Common.{Option, Some, None}
use Rattle.std.specs.Prelude.{option_map, if◌then◌else◌}
use Rattle.std.specs.List.{list_any}
use Rattle.std.proofs.lemmas.Bool.{false≢true}
use Rattle.std.proofs.lemmas.List.{append_assoc}
use Rattle.ev_base.specs.ev_types.specs.declared.upcall.Answer.TheVariants.{Keep, Again, Close}
use Rattle.ev_base.specs.ev_types.specs.declared.upcall.Handle.{Handle}
use Rattle.ev_base.specs.ev_types.specs.declared.upcall.Kind.{Kind}
use Rattle.ev_base.specs.ev_types.specs.declared.upcall.Kind.TheVariants.{Read, Write, Except}
use Rattle.ev_base.specs.ev_types.specs.declared.upcall.Mask.{Mask}
use Rattle.ev_base.specs.ev_types.specs.declared.upcall.Upcall.{Upcall}
use Rattle.ev_base.specs.ev_types.specs.declared.upcall.Upcall.TheVariants.{Notice}
use Rattle.ev_base.specs.Terms.{Terms}
use Rattle.ev_base.specs.declared.net.Report.{Report}
use Rattle.reactor_model.specs.Handling.{Handling, Installing, Stopping}
use Rattle.reactor_model.specs.Turns.{MayAct}
use Rattle.reactor_model.specs.declared.handler.Act.{Act}
use Rattle.reactor_model.specs.declared.handler.Act.TheVariants.{Install, MaskMine, CancelMine}
use Rattle.reactor_model.specs.declared.handler.Act.TheVariants.{Stop}
use Rattle.reactor_model.specs.reactor_journal.specs.Event.{Event, Timer, Origin}
use Rattle.reactor_model.specs.reactor_journal.specs.Follow.{Legal}
use Rattle.reactor_model.specs.reactor_journal.specs.Past.{count, event_at, event_made, is_ended}
use Rattle.reactor_model.specs.reactor_journal.specs.Past.{only_if_alive, past_of, timeout_of}
use Rattle.reactor_model.specs.reactor_journal.specs.Past.{timer_of, upcall_of, was_opened}
use Rattle.reactor_model.specs.reactor_journal.specs.Past.{was_removed}
use Rattle.reactor_model.specs.reactor_journal.specs.declared.entry.Entry.{Entry}
use Rattle.reactor_model.specs.reactor_journal.specs.declared.entry.Entry.TheVariants as entry
use Rattle.reactor_model.specs.reactor_journal.proofs.Turning.{Legal-front, count-append}
use Rattle.reactor_model.specs.reactor_journal.proofs.Turning.{count-past}
use Rattle.reactor_core.specs.Acting.{ActAppends, InstallAppends, cancel_mine, mask_mine}
use Rattle.reactor_core.specs.Polling.{due_of, ready_of}
use Rattle.reactor_core.specs.Registering.{registered}
use Rattle.reactor_core.specs.Settling.{IsClosing, returned}
use Rattle.reactor_core.specs.reactor_summary.specs.Summary.{Summary, is_alive}
use Rattle.reactor_core.specs.reactor_summary.proofs.Told.{told}
use Rattle.reactor_core.proofs.Moves.{found_open}
use Rattle.core_loop.specs.Leading.{IsTurn, IsWait, Reaches}
use Rattle.core_loop.proofs.Keeping.{sum}
use Rattle.proactor.specs.declared.service.AioNote.{AioNote}
use Rattle.cmd_aio.specs.Starting.{first_entry}

-- ---- entries that neither post, nor end, nor set a timer

abbrev pub is_odd : {N : Type 0} → Entry N → Bool
is_odd (entry.Posted handle kind from seq) = true
is_odd (entry.Scheduled timer handle first every) = true
is_odd entry.Ended = true
is_odd _ = false

abbrev pub IsPlain : {N : Type 0} → List (Entry N) → Type 0
IsPlain h = count is_odd h ≡ 0

plain_both : {N : Type 0} (xs ys : List (Entry N)) → IsPlain xs → IsPlain ys → IsPlain (xs ++ ys)
plain_both xs ys first second = count-append is_odd xs ys
    ∙ (ap (λ (n : ℕ). n + count is_odd ys) first ∙ ap (λ (n : ℕ). 0 + n) second)

pub none_left : (b : Bool) (n : ℕ) → (if b then suc n else n) ≡ 0 → (b ≡ false) × (n ≡ 0)
none_left true n q = absurd (omega (arith, q))
none_left false n q = (refl, q)

pub plain_last : {N : Type 0} (e : Entry N) (past : List (Entry N)) → IsPlain (e ∷ past)
    → (is_odd e ≡ false) × IsPlain past
plain_last e past q = none_left (is_odd e) (count is_odd past) q

none_ended : {N : Type 0} (past : List (Entry N)) → IsPlain past → list_any is_ended past ≡ false
none_ended [] q = refl
none_ended (entry.Ended ∷ past) q = absurd (omega (arith, q))
none_ended (entry.Posted handle kind from seq ∷ past) q = absurd (omega (arith, q))
none_ended (entry.Scheduled timer handle first every ∷ past) q = absurd (omega (arith, q))
none_ended (_ ∷ past) q = none_ended past q

pub unended : {N : Type 0} (most : ℕ) (h : List (Entry N)) → Legal h most → IsPlain h
    → (sum h).ended ≡ false
unended most h legal plain =
    (told most (past_of h) legal).ended
    ∙ none_ended (past_of h) (count-past is_odd h ∙ plain)

-- ---- no upcall is a notice

abbrev pub IsNotice : Upcall → Type 0
IsNotice (Notice kind) = Unit {0}
IsNotice _ = ⊥

abbrev NoNotice : Option Event → Type 0
NoNotice None = Unit {0}
NoNotice (Some event) = IsNotice event.upcall → ⊥

timed : (timer : ℕ) (set : Option Timer) → NoNotice (option_map (timeout_of timer) set)
timed timer None = tt
timed timer (Some set) = λ q. q

reported : (kind : Kind) → IsNotice (upcall_of kind) → ⊥
reported Read = λ q. q
reported Write = λ q. q
reported Except = λ q. q

alive_still : (alive : ℕ → Bool) (event : Option Event) → NoNotice event
    → NoNotice (only_if_alive alive event)
alive_still alive None never = tt
alive_still alive (Some event) never = by (alive event.handle)
  where
    by : (b : Bool) → NoNotice (if b then Some event else None)
    by true = never
    by false = tt

made_so : {N : Type 0} (e : Entry N) (timers : ℕ → Option Timer) (events : ℕ → Option Event)
    (alive : ℕ → Bool) → is_odd e ≡ false → ((i : ℕ) → NoNotice (events i))
    → NoNotice (event_made e timers events alive)
made_so (entry.Due timer) timers events alive q never = timed timer (timers timer)
made_so (entry.Ready handle kind) timers events alive q never = reported kind
made_so (entry.Posted handle kind from seq) timers events alive q never =
    absurd (false≢true (sym q))
made_so (entry.Returned event Again note) timers events alive q never =
    alive_still alive (events event) (never event)
made_so (entry.Returned event Keep note) timers events alive q never = tt
made_so (entry.Returned event Close note) timers events alive q never = tt
made_so _ timers events alive q never = tt

no_notice : {N : Type 0} (past : List (Entry N)) → IsPlain past → (i : ℕ)
    → NoNotice (event_at past i)
no_notice [] q i = tt
no_notice {N} (e ∷ past) q i =
    let parts : (is_odd e ≡ false) × IsPlain past = plain_last e past q in
    by parts.0 (no_notice past parts.1) (i == length past)
  where
    by : is_odd e ≡ false → ((k : ℕ) → NoNotice (event_at past k)) → (b : Bool)
        → NoNotice (elim b [
          | true ↦ event_made e (timer_of past) (event_at past)
              (λ x. was_opened past x && not (was_removed past x))
          | false ↦ event_at past i
        ])
    by plain never true = made_so e (timer_of past) (event_at past) _ plain never
    by plain never false = never i

-- ---- one step

plain_dues : (N : Type 0) (timers : List ℕ) → IsPlain (map (due_of {N = N}) timers)
plain_dues N [] = refl
plain_dues N (timer ∷ timers) = plain_dues N timers

plain_readies : (N : Type 0) (reports : List Report) → IsPlain (map (ready_of {N = N}) reports)
plain_readies N [] = refl
plain_readies N (report ∷ reports) = plain_readies N reports

plain_wait : {N : Type 0} (entries : List (Entry N)) → IsWait entries → IsPlain entries
plain_wait {N} entries w = subst IsPlain (sym w.is)
    (plain_both (map due_of w.timers) (map ready_of w.reports) (plain_dues N w.timers)
    (plain_readies N w.reports))

plain_closing : {N : Type 0} (b : Bool) (handle : Handle) (es : List (Entry N))
    → IsClosing b handle es → IsPlain es
plain_closing true handle es c = subst IsPlain (sym c.1) refl
plain_closing false handle es c = subst IsPlain (sym c) refl

plain_install : {N : Type 0} (most : ℕ) (s : Summary) (mask : Mask) (timer : Option (ℕ × ℕ))
    (before after : ℕ) (es : List (Entry N)) → timer ≡ None
    → InstallAppends most s mask timer before after es → IsPlain es
plain_install {N} most s mask timer before after es untimed a =
    ⊎_elim (λ r. subst IsPlain (sym r.is) (by timer r.handle untimed))
    (λ r. subst IsPlain (sym r.is) refl) a
  where
    by : (timer : Option (ℕ × ℕ)) (handle : Handle) → timer ≡ None
        → IsPlain (registered {N = N} s handle mask timer)
    by None handle untimed = refl
    by (Some t) handle untimed = absurd cc

plain_mask : (N : Type 0) (b : Bool) (handle : Handle) (mask : Mask)
    → IsPlain (mask_mine {N = N} b handle mask)
plain_mask N true handle mask = refl
plain_mask N false handle mask = refl

plain_cancel : (N : Type 0) (b : Bool) (timer : ℕ) → IsPlain (cancel_mine {N = N} b timer)
plain_cancel N true timer = refl
plain_cancel N false timer = refl

plain_act : {H N E : Type 0} (means : Handling H E N) (t : Terms) (up : Upcall)
    (origin : Origin N) (s : Summary) (handle : Handle) (act : Option (Act H N E))
    (before after : ℕ) (es : List (Entry N)) → (means.may t up Stopping → ⊥)
    → ((mask : Mask) (timer : Option (ℕ × ℕ)) → means.may t up (Installing mask timer)
    → timer ≡ None)
    → MayAct means t up origin act → ActAppends t.most s handle act before after es → IsPlain es
plain_act means t up origin s handle None before after es never untimed may a =
    subst IsPlain (sym a) refl
plain_act means t up origin s handle (Some (Install h mask timer)) before after es never untimed may
    a = plain_install t.most s mask timer before after es (untimed mask timer may.0) a
plain_act means t up origin s handle (Some (MaskMine mask)) before after es never untimed may a =
    subst IsPlain (sym a) (plain_mask _ (is_alive s handle.0) handle mask)
plain_act means t up origin s handle (Some (CancelMine timer)) before after es never untimed may a =
    subst IsPlain (sym a) (plain_cancel _ _ timer)
plain_act means t up origin s handle (Some Stop) before after es never untimed may a =
    absurd (never may)

module _ {H E : Type 0} (means : Handling H E AioNote) (t : Terms)
    (notice : (up : Upcall) → means.may t up Stopping → IsNotice up)
    (untimed : (up : Upcall) (mask : Mask) (timer : Option (ℕ × ℕ))
    → means.may t up (Installing mask timer) → timer ≡ None) where
  plain_turn : (h entries : List (Entry AioNote)) → Legal (h ++ entries) t.most → IsPlain h
      → IsTurn means t h entries → IsPlain entries
  plain_turn h entries legal plain u =
      let g : List (Entry AioNote) = h ++ entry.Started u.event ∷ [] in
      let rest : List (Entry AioNote) = returned u.done ∷ (u.closing ++ u.acted) in
      let all : Legal (g ++ rest) t.most =
      subst (λ (k : List (Entry AioNote)). Legal k t.most)
      (ap (λ (es : List (Entry AioNote)). h ++ es) u.is
      ∙ sym (append_assoc h (entry.Started u.event ∷ []) rest)) legal in
      let open_ = (found_open t.most (past_of g) u.done.event _ (Legal-front g rest t.most all)
      u.fits.event).0 in
      let plain_g : IsPlain (past_of g) = count-past is_odd g
      ∙ plain_both h (entry.Started u.event ∷ []) plain refl in
      let never : IsNotice u.done.upcall → ⊥ =
      subst NoNotice open_.event (no_notice (past_of g) plain_g u.done.event) in
      subst IsPlain (sym u.is) (plain_both u.closing u.acted
      (plain_closing _ u.done.handle u.closing u.is_closing)
      (plain_act means t u.done.upcall _ _ u.done.handle u.done.turn.act u.before u.after u.acted
      (λ may. never (notice u.done.upcall may)) (untimed u.done.upcall) u.fits.act u.is_acted))

  pub unstopped : (steps : List (List (Entry AioNote))) (h : List (Entry AioNote))
      → Reaches means t (first_entry ∷ []) steps h → Legal h t.most → IsPlain h
  unstopped [] h r legal = subst IsPlain (sym r) refl
  unstopped (entries ∷ earlier) h r legal =
      let between : List (Entry AioNote) = r.0 in
      let all : Legal (between ++ entries) t.most =
      subst (λ (k : List (Entry AioNote)). Legal k t.most) r.3 legal in
      let plain : IsPlain between = unstopped earlier between r.1
      (Legal-front between entries t.most all) in
      subst IsPlain (sym r.3) (plain_both between entries plain
      (⊎_elim (plain_wait entries) (plain_turn between entries all plain) r.2))
