-- An entry may follow a past exactly if its summary says so.
use Rattle.std.proofs.Common.{ℕ, ◌≡◌, ◌-◌, ◌==◌, true, not, ◌&&◌, ◌||◌, List, ap, ◌∙◌}
use Rattle.std.specs.Prelude.{nat_lt, nat_le}
use Rattle.reactor_journal.specs.declared.entry.Entry.{Entry}
use Rattle.reactor_journal.specs.declared.entry.Entry.TheVariants.{Opened, Scheduled, Cancelled}
use Rattle.reactor_journal.specs.declared.entry.Entry.TheVariants.{Polled, Due, Ready, Posted}
use Rattle.reactor_journal.specs.declared.entry.Entry.TheVariants.{Stale, Started, Returned, Masked}
use Rattle.reactor_journal.specs.declared.entry.Entry.TheVariants.{Suspended, Resumed, Refused}
use Rattle.reactor_journal.specs.declared.entry.Entry.TheVariants.{Removed, Closed, Ended}
use Rattle.reactor_journal.specs.Past as P
use Rattle.reactor_journal.specs.Follow as F
use Rattle.reactor_journal.specs.Follow.{is_legal}
use Rattle.reactor_summary.specs.Summary as S
use Rattle.reactor_summary.specs.Summary.{Summary}
use Rattle.reactor_summary.specs.Tells.{Tells}
use Rattle.reactor_summary.specs.Rules as R
use Rattle.reactor_summary.proofs.Reading.{alive_is, suspended_is, resumed_is, wanted_is, open_is}
use Rattle.reactor_summary.proofs.Reading.{waits_is, some_wait_is, armed_is, first_due_is}
use Rattle.reactor_summary.proofs.Reading.{overdue_is, timeout_waits_is}
use Rattle.reactor_summary.proofs.Picks.{pick_is}

live_is : {N : Type 0} (past : List (Entry N)) (s : Summary) → Tells past s → R.live s ≡ P.live past
live_is past s t = ap (λ n. n - s.closed) t.opened ∙ ap (λ n. P.opened past - n) t.closed

pub fits_is : {N : Type 0} (most : ℕ) (past : List (Entry N)) (s : Summary) (e : Entry N)
    → is_legal most past ≡ true → Tells past s
    → R.fits most (F.follows_due past) (F.follows_ready past) s e ≡ F.fits most past e
fits_is most past s (Opened handle mask) legal t =
    ap (λ n. handle.0 == n && (nat_lt (R.live s) most && nat_lt n F.most_handles)) t.opened
    ∙ ap (λ n. handle.0 == P.opened past
    && (nat_lt n most && nat_lt (P.opened past) F.most_handles)) (live_is past s t)
fits_is most past s (Scheduled timer handle first every) legal t =
    ap (λ n. timer == n && (S.is_alive s handle.0 && nat_lt s.moment first)) t.scheduled
    ∙ (ap (λ b. timer == P.scheduled past && (b && nat_lt s.moment first))
    (alive_is most past s handle.0 legal t)
    ∙ ap (λ n. timer == P.scheduled past && (P.is_alive past handle.0 && nat_lt n first)) t.moment)
fits_is most past s (Cancelled timer) legal t =
    ap (λ b. b || S.timeout_waits s timer) (armed_is past s timer t)
    ∙ ap (λ b. P.is_armed past timer || b) (timeout_waits_is past s timer t)
fits_is most past s (Polled moment) legal t =
    ap (λ n. nat_le n moment && not (S.some_wait s)) t.moment
    ∙ ap (λ b. nat_le (P.now past) moment && not b) (some_wait_is most past s legal t)
fits_is most past s (Due timer) legal t =
    ap (λ b. F.follows_due past && b) (first_due_is past s timer t)
fits_is most past s (Ready handle kind) legal t =
    ap (λ b. F.follows_ready past && (not b && S.is_wanted s handle.0 kind))
    (overdue_is most past s legal t)
    ∙ ap (λ b. F.follows_ready past && (not (P.is_overdue past) && b))
    (wanted_is most past s handle.0 kind legal t)
fits_is most past s (Posted handle kind from seq) legal t = alive_is most past s handle.0 legal t
fits_is most past s (Stale handle from seq) legal t = ap not (alive_is most past s handle.0 legal t)
fits_is most past s (Started event) legal t =
    ap (λ b. b && (not (S.is_overdue s) && not (S.some_wait s))) (pick_is most past s event legal t)
    ∙ (ap (λ b. P.is_pick past event && (not b && not (S.some_wait s)))
    (overdue_is most past s legal t)
    ∙ ap (λ b. P.is_pick past event && (not (P.is_overdue past) && not b))
    (some_wait_is most past s legal t))
fits_is most past s (Returned event answer note) legal t = open_is past s event t
fits_is most past s (Masked handle mask) legal t = alive_is most past s handle.0 legal t
fits_is most past s (Suspended handle) legal t = resumed_is most past s handle.0 legal t
fits_is most past s (Resumed handle) legal t = suspended_is most past s handle.0 legal t
fits_is most past s (Refused number fault note) legal t =
    ap (λ n. number == n && (n == most || (s.opened == F.most_handles || (fault || s.ended))))
    (live_is past s t)
    ∙ (ap (λ n. number == P.live past && (P.live past == most
    || (n == F.most_handles || (fault || s.ended)))) t.opened
    ∙ ap (λ b. number == P.live past && (P.live past == most
    || (P.opened past == F.most_handles || (fault || b)))) t.ended)
fits_is most past s (Removed handle) legal t = alive_is most past s handle.0 legal t
fits_is most past s (Closed handle note) legal t = waits_is most past s handle.0 legal t
fits_is most past s Ended legal t = ap not (some_wait_is most past s legal t)

pub may_follow_is : {N : Type 0} (most : ℕ) (past : List (Entry N)) (s : Summary) (e : Entry N)
    → is_legal most past ≡ true → Tells past s
    → R.may_follow most (F.follows_due past) (F.follows_ready past) s e ≡ F.may_follow most past e
unfolding F.may_follow
may_follow_is most past s e legal t =
    ap (λ b. (F.winds_up e || not b) && R.fits most (F.follows_due past) (F.follows_ready past) s e)
    t.ended
    ∙ ap (λ b. (F.winds_up e || not (P.ended past)) && b) (fits_is most past s e legal t)
