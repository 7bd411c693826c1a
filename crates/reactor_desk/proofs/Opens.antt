-- Which entries leave the open events as they are, and what the return of one does.
use Rattle.std.proofs.Common.{ℕ, ◌≡◌, ⊎_elim, Bool, true, false, ◌&&◌, List, []}
use Rattle.std.proofs.Common.{◌∷◌, ◌++◌, map, filter, refl, sym, ap, ◌∙◌, append-nil}
use Rattle.std.proofs.Common.{Option}
use Rattle.std.proofs.lemmas.Bool.{false≢true, and_parts}
use Rattle.std.proofs.lemmas.List.{append_assoc}
use Rattle.std.specs.List.{list_all}
use Rattle.ev_base.specs.Net.{NetFacts, Reserves}
use Rattle.ev_base.specs.declared.net.Report.{Report}
use Rattle.reactor_model.specs.reactor_journal.specs.declared.entry.Entry.{Entry}
use Rattle.reactor_model.specs.reactor_journal.specs.declared.entry.Entry.TheVariants.{Opened}
use Rattle.reactor_model.specs.reactor_journal.specs.declared.entry.Entry.TheVariants.{Scheduled}
use Rattle.reactor_model.specs.reactor_journal.specs.declared.entry.Entry.TheVariants.{Cancelled}
use Rattle.reactor_model.specs.reactor_journal.specs.declared.entry.Entry.TheVariants.{Polled, Due}
use Rattle.reactor_model.specs.reactor_journal.specs.declared.entry.Entry.TheVariants.{Ready}
use Rattle.reactor_model.specs.reactor_journal.specs.declared.entry.Entry.TheVariants.{Posted}
use Rattle.reactor_model.specs.reactor_journal.specs.declared.entry.Entry.TheVariants.{Stale}
use Rattle.reactor_model.specs.reactor_journal.specs.declared.entry.Entry.TheVariants.{Started}
use Rattle.reactor_model.specs.reactor_journal.specs.declared.entry.Entry.TheVariants.{Returned}
use Rattle.reactor_model.specs.reactor_journal.specs.declared.entry.Entry.TheVariants.{Masked}
use Rattle.reactor_model.specs.reactor_journal.specs.declared.entry.Entry.TheVariants.{Suspended}
use Rattle.reactor_model.specs.reactor_journal.specs.declared.entry.Entry.TheVariants.{Resumed}
use Rattle.reactor_model.specs.reactor_journal.specs.declared.entry.Entry.TheVariants.{Refused}
use Rattle.reactor_model.specs.reactor_journal.specs.declared.entry.Entry.TheVariants.{Removed}
use Rattle.reactor_model.specs.reactor_journal.specs.declared.entry.Entry.TheVariants.{Closed}
use Rattle.reactor_model.specs.reactor_journal.specs.declared.entry.Entry.TheVariants.{Ended}
use Rattle.reactor_model.specs.reactor_journal.specs.Past.{past_of}
use Rattle.reactor_model.specs.reactor_journal.proofs.Turning.{past_of-more}
use Rattle.reactor_core.specs.reactor_summary.specs.Summary.{summary}
use Rattle.reactor_core.specs.laws_turns.specs.Opens.{opens_after, open_events, opens_of}
use Rattle.reactor_core.specs.Calls.{is_taken}
use Rattle.reactor_core.specs.Polling.{due_of, ready_of}
use Rattle.reactor_core.specs.declared.polling.Polled.{Polled as PolledName}
use Rattle.reactor_model.specs.Entries.{is_notice}
use Rattle.reactor_desk.specs.Leading.{MayHaveWaited, WaitedFor}

pub opens_more : {N : Type 0} (h : List (Entry N)) (e : Entry N)
    → opens_of (h ++ e ∷ []) ≡ opens_after e (opens_of h)
opens_more h e = ap open_events (past_of-more h e)

-- whether an entry neither starts nor settles an event
abbrev pub is_still : {N : Type 0} → Entry N → Bool
is_still (Started event) = false
is_still (Returned event answer note) = false
is_still _ = true

still_after : {N : Type 0} (e : Entry N) (os : List ℕ) → is_still e ≡ true → opens_after e os ≡ os
still_after (Opened handle mask) os s = refl
still_after (Scheduled timer handle first every) os s = refl
still_after (Cancelled timer) os s = refl
still_after (Polled moment) os s = refl
still_after (Due timer) os s = refl
still_after (Ready handle kind) os s = refl
still_after (Posted handle kind from seq) os s = refl
still_after (Stale handle from seq) os s = refl
still_after (Started event) os s = absurd (false≢true s)
still_after (Returned event answer note) os s = absurd (false≢true s)
still_after (Masked handle mask) os s = refl
still_after (Suspended handle) os s = refl
still_after (Resumed handle) os s = refl
still_after (Refused live fault note) os s = refl
still_after (Removed handle) os s = refl
still_after (Closed handle note) os s = refl
still_after Ended os s = refl

pub opens_still : {N : Type 0} (h es : List (Entry N)) → list_all is_still es ≡ true
    → opens_of (h ++ es) ≡ opens_of h
opens_still h [] s = ap opens_of (append-nil h)
opens_still h (e ∷ es) s =
    let p : (is_still e ≡ true) × (list_all is_still es ≡ true) = and_parts _ _ s in
    ap opens_of (sym (append_assoc h (e ∷ []) es))
    ∙ (opens_still (h ++ e ∷ []) es p.1 ∙ (opens_more h e ∙ still_after e (opens_of h) p.0))

notice_still : {N : Type 0} (e : Entry N) → is_notice e ≡ true → is_still e ≡ true
notice_still (Opened handle mask) s = absurd (false≢true s)
notice_still (Scheduled timer handle first every) s = absurd (false≢true s)
notice_still (Cancelled timer) s = absurd (false≢true s)
notice_still (Polled moment) s = absurd (false≢true s)
notice_still (Due timer) s = absurd (false≢true s)
notice_still (Ready handle kind) s = absurd (false≢true s)
notice_still (Posted handle kind from seq) s = refl
notice_still (Stale handle from seq) s = refl
notice_still (Started event) s = absurd (false≢true s)
notice_still (Returned event answer note) s = absurd (false≢true s)
notice_still (Masked handle mask) s = absurd (false≢true s)
notice_still (Suspended handle) s = absurd (false≢true s)
notice_still (Resumed handle) s = absurd (false≢true s)
notice_still (Refused live fault note) s = absurd (false≢true s)
notice_still (Removed handle) s = absurd (false≢true s)
notice_still (Closed handle note) s = absurd (false≢true s)
notice_still Ended s = absurd (false≢true s)

pub notices_still : {N : Type 0} (es : List (Entry N)) → list_all is_notice es ≡ true
    → list_all is_still es ≡ true
notices_still [] s = refl
notices_still (e ∷ es) s =
    let p : (is_notice e ≡ true) × (list_all is_notice es ≡ true) = and_parts _ _ s in
    ap (λ b. b && list_all is_still es) (notice_still e p.0) ∙ notices_still es p.1

dues_still : (N : Type 0) (timers : List ℕ) (es : List (Entry N)) → list_all is_still es ≡ true
    → list_all is_still (map due_of timers ++ es) ≡ true
dues_still N [] es s = s
dues_still N (t ∷ timers) es s = dues_still N timers es s

readies_still : (N : Type 0) (reports : List Report)
    → list_all {X = Entry N} is_still (map ready_of reports) ≡ true
readies_still N [] = refl
readies_still N (r ∷ reports) = readies_still N reports

pub waited_still : {E N : Type 0} (most : Option ℕ) (h : List (Entry N)) (before : NetFacts E)
    (es : List (Entry N)) (left : NetFacts E) (P : PolledName → Type 0)
    → WaitedFor most h before es left P → list_all is_still es ≡ true
waited_still {N = N} most h before es left P w =
    ap (list_all is_still) w.waits.are
    ∙ dues_still N w.waits.timers (map ready_of
    (filter (is_taken (summary (past_of h))) w.now.reports))
    (readies_still N (filter (is_taken (summary (past_of h))) w.now.reports))

pub may_still : {E N : Type 0} (most : Option ℕ) (h : List (Entry N)) (before : NetFacts E)
    (es : List (Entry N)) (left : NetFacts E) → MayHaveWaited most h before es left
    → list_all is_still es ≡ true
may_still {E} {N} most h before es left may =
    ⊎_elim (λ (n : (es ≡ []) × Reserves before left). ap (list_all is_still) n.0)
    (λ w. waited_still most h before es left (λ p. Unit {0}) w) may
