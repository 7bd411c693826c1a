-- That no upcall is on its way after each call.
use Rattle.std.proofs.Common.{◌+◌, ℕ, ◌≡◌, Bool, true, false, List, [], ◌∷◌, ◌++◌, length, refl}
use Rattle.std.proofs.Common.{sym, ap, ◌∙◌, subst}
use Rattle.std.specs.Prelude.{Result, Ok, Err, OnOk, OnErr, IfOk, if◌then◌else◌}
use Rattle.ev_base.specs.ev_types.specs.declared.upcall.Handle.{Handle}
use Rattle.ev_base.specs.ev_types.specs.declared.upcall.Kind.{Kind}
use Rattle.ev_base.specs.Terms.{Terms}
use Rattle.demux.specs.declared.play_end.PlayEnd.{PlayEnd}
use Rattle.timer_queue.specs.Content.{Content}
use Rattle.reactor_model.specs.reactor_journal.specs.declared.entry.Entry.{Entry}
use Rattle.reactor_model.specs.reactor_journal.specs.declared.entry.Entry.TheVariants.{Scheduled}
use Rattle.reactor_model.specs.reactor_journal.specs.declared.entry.Entry.TheVariants.{Posted}
use Rattle.reactor_model.specs.reactor_journal.specs.declared.entry.Entry.TheVariants.{Stale}
use Rattle.reactor_model.specs.reactor_journal.specs.declared.entry.Entry.TheVariants.{Removed}
use Rattle.reactor_core.specs.reactor_summary.specs.Summary.{Summary, step, is_alive}
use Rattle.reactor_model.specs.declared.watch.NoWatch.{NoWatch}
use Rattle.reactor_core.specs.Stands.{Meaning, Stands, StandsAsBefore, HasRoom}
use Rattle.reactor_core.specs.Requests.{GoesOnBy, WhereStanding}
use Rattle.reactor_core.specs.Postings.{posting, post_places}
use Rattle.reactor_core.specs.HandingOver.{HandsDue, HandsOver}
use Rattle.reactor_core.specs.Removing.{Removes}
use Rattle.test_nets.specs.declared.handler.Steady.{Steady}
use Rattle.core_loop.specs.Idle.{IsIdle}
use Rattle.test_nets.specs.Idle.{RowsOf}
use Rattle.core_loop.proofs.Idling.{idle_keeps, idle_same}
use Rattle.core_loop.proofs.Keeping.{sum, Keeps, keeps_one, keeps_removed, keeps_closing}

-- what the parts of a reactor of steady handlers mean
abbrev pub MeaningOf : Type 0 → Type 0 → Type 1
MeaningOf M V = Meaning Steady M Content NoWatch V ℕ PlayEnd

-- a call that appends one entry
pub goes_on : {M V : Type 0} {m : MeaningOf M V} {A E : Type 0} (old new : RowsOf M V)
    (result : Result A E) (e : Summary → Entry ℕ) → ((s : Summary) → (step s (e s)).opens ≡ s.opens)
    → ((s : Summary) → s.ended ≡ true → (step s (e s)).ended ≡ true)
    → OnOk result (GoesOnBy m old e new) → OnErr result (StandsAsBefore m old new) → IsIdle m old
    → IsIdle m new
goes_on old new (Ok x) e opens ended ok err i =
    idle_keeps old new i (e (sum i.history) ∷ [])
    (keeps_one i.history (e (sum i.history)) (opens (sum i.history)) (ended (sum i.history)))
    (ok i.terms i.first i.history i.stands)
goes_on old new (Err x) e opens ended ok err i =
    idle_same old new i (err i.terms i.first i.history i.stands)

pub posting_opens : (s : Summary) (handle : Handle) (kind : Kind) (from seq : ℕ)
    → (step {N = ℕ} s (posting s handle kind from seq)).opens ≡ s.opens
posting_opens s handle kind from seq = by_cases (is_alive s handle.0)
  where
    by_cases : (b : Bool) → (step {N = ℕ} s
        (if b then Posted handle kind from seq else Stale handle from seq)).opens ≡ s.opens
    by_cases true = refl
    by_cases false = refl

pub posting_ended : (s : Summary) (handle : Handle) (kind : Kind) (from seq : ℕ) → s.ended ≡ true
    → (step {N = ℕ} s (posting s handle kind from seq)).ended ≡ true
posting_ended s handle kind from seq = by_cases (is_alive s handle.0)
  where
    by_cases : (b : Bool) → s.ended ≡ true
        → (step {N = ℕ} s (if b then Posted handle kind from seq else Stale handle from seq)).ended
        ≡ true
    by_cases true q = q
    by_cases false q = q

pub removes : {M V : Type 0} {m : MeaningOf M V} (old new : RowsOf M V) (handle : Handle)
    (i : IsIdle m old) → Removes m i.terms i.first i.history handle new → IsIdle m new
removes old new handle i r =
    let k : Keeps i.history (Removed handle ∷ []) = keeps_removed i.history handle in
    let l : Keeps (i.history ++ Removed handle ∷ []) r.entries =
    keeps_closing (i.history ++ Removed handle ∷ []) _ handle r.entries r.closing in
    record {
      terms = i.terms;
      limit = i.limit;
      first = i.first;
      history = (i.history ++ Removed handle ∷ []) ++ r.entries;
      stands = r.stands;
      none_open = l.opens ∙ (k.opens ∙ i.none_open);
    }

pub removes_or : {M V : Type 0} {m : MeaningOf M V} {E : Type 0} (old new : RowsOf M V)
    (handle : Handle) (result : Result (Unit {0}) E) → IsIdle m old
    → OnOk result ((t : Terms) (F : ℕ) (h : List (Entry ℕ)) → Stands m t old F h
    → Removes m t F h handle new) → OnErr result (new ≡ old) → IsIdle m new
removes_or old new handle (Ok x) i ok err =
    removes old new handle i (ok i.terms i.first i.history i.stands)
removes_or {m = m} old new handle (Err x) i ok err = subst (IsIdle m) (sym err) i

pub posts : {M V : Type 0} {m : MeaningOf M V} {E : Type 0} (old new : RowsOf M V) (handle : Handle)
    (kind : Kind) (from seq : ℕ) (result : Result (Unit {0}) E)
    → OnOk result (GoesOnBy m old (λ s. posting s handle kind from seq) new)
    → OnErr result (StandsAsBefore m old new) → IsIdle m old → IsIdle m new
posts old new handle kind from seq result ok err i =
    goes_on old new result (λ s. posting s handle kind from seq)
    (λ s. posting_opens s handle kind from seq) (λ s. posting_ended s handle kind from seq) ok
    err i

pub schedules : {M V : Type 0} {m : MeaningOf M V} {E : Type 0} (old new : RowsOf M V)
    (handle : Handle) (delay every : ℕ) (result : Result ℕ E)
    → IfOk result (λ timer. GoesOnBy m old (λ s. Scheduled timer handle (s.moment + delay) every)
    new) → OnErr result (StandsAsBefore m old new) → IsIdle m old → IsIdle m new
schedules old new handle delay every (Ok timer) ok err i =
    goes_on {E = Unit {0}} old new (Ok timer) (λ s. Scheduled timer handle (s.moment + delay) every)
    (λ s. refl) (λ s q. q) ok tt i
schedules old new handle delay every (Err x) ok err i =
    idle_same old new i (err i.terms i.first i.history i.stands)

hands_due : {M V : Type 0} {m : MeaningOf M V} (old new : RowsOf M V) (i : IsIdle m old) (n : ℕ)
    (b : Bool) → HandsDue b m i.terms i.first i.history n old new → IsIdle m new
hands_due old new i n true handed =
    record {
      terms = i.terms;
      limit = i.limit;
      first = length i.history;
      history = i.history;
      stands = handed.1;
      none_open = i.none_open;
    }
hands_due {m = m} old new i n false handed = subst (IsIdle m) (sym handed.1) i

pub hands_over : {M V : Type 0} {m : MeaningOf M V} {E : Type 0} (old new : RowsOf M V)
    (result : Result ℕ E) → IfOk result
    (λ n. (t : Terms) (F : ℕ) (h : List (Entry ℕ)) → Stands m t old F h
    → HandsOver m t F h n old new)
    → OnErr result (StandsAsBefore m old new) → IsIdle m old → IsIdle m new
hands_over old new (Ok n) ok err i =
    hands_due old new i n _ (ok i.terms i.first i.history i.stands).handed
hands_over old new (Err x) ok err i = idle_same old new i (err i.terms i.first i.history i.stands)

-- a notification was posted for which there was room
pub posts_in_room : {M V : Type 0} {m : MeaningOf M V} (old between new : RowsOf M V)
    (handle : Handle) (kind : Kind) (from seq : ℕ) (i : IsIdle m old)
    → (sum i.history).ended ≡ false
    → StandsAsBefore m old between → WhereStanding m old (λ s. HasRoom m 1 post_places between s)
    → ((t : Terms) (F : ℕ) (h : List (Entry ℕ)) → Stands m t between F h
    → HasRoom m 1 post_places between (sum h) → (sum h).ended ≡ false
    → Stands m t new F (h ++ posting (sum h) handle kind from seq ∷ [])) → IsIdle m new
posts_in_room old between new handle kind from seq i going same room posted =
    let s : Summary = sum i.history in
    idle_keeps old new i (posting s handle kind from seq ∷ [])
    (keeps_one i.history (posting s handle kind from seq) (posting_opens s handle kind from seq)
    (posting_ended s handle kind from seq))
    (posted i.terms i.first i.history (same i.terms i.first i.history i.stands)
    (room i.terms i.first i.history i.stands) going)
