-- Entries that waits, notifications and starts bring go by turns wherever they stand; and what
-- stands after an entry that goes by turns may grow.
use Rattle.std.proofs.Common.{ℕ, ◌≡◌, true, List, [], ◌∷◌, ◌++◌, Option}
use Rattle.std.proofs.lemmas.Bool.{false≢true}
use Rattle.std.specs.List.{list_all}
use Rattle.reactor_model.specs.ev_base.specs.Terms.{Terms}
use Rattle.reactor_model.specs.reactor_journal.specs.declared.entry.Entry.{Entry}
use Rattle.reactor_model.specs.reactor_journal.specs.declared.entry.Entry.TheVariants.{Opened}
use Rattle.reactor_model.specs.reactor_journal.specs.declared.entry.Entry.TheVariants.{Scheduled}
use Rattle.reactor_model.specs.reactor_journal.specs.declared.entry.Entry.TheVariants.{Cancelled}
use Rattle.reactor_model.specs.reactor_journal.specs.declared.entry.Entry.TheVariants.{Polled, Due}
use Rattle.reactor_model.specs.reactor_journal.specs.declared.entry.Entry.TheVariants.{Ready}
use Rattle.reactor_model.specs.reactor_journal.specs.declared.entry.Entry.TheVariants.{Posted}
use Rattle.reactor_model.specs.reactor_journal.specs.declared.entry.Entry.TheVariants.{Stale}
use Rattle.reactor_model.specs.reactor_journal.specs.declared.entry.Entry.TheVariants.{Started}
use Rattle.reactor_model.specs.reactor_journal.specs.declared.entry.Entry.TheVariants.{Returned}
use Rattle.reactor_model.specs.reactor_journal.specs.declared.entry.Entry.TheVariants.{Masked}
use Rattle.reactor_model.specs.reactor_journal.specs.declared.entry.Entry.TheVariants.{Suspended}
use Rattle.reactor_model.specs.reactor_journal.specs.declared.entry.Entry.TheVariants.{Resumed}
use Rattle.reactor_model.specs.reactor_journal.specs.declared.entry.Entry.TheVariants.{Refused}
use Rattle.reactor_model.specs.reactor_journal.specs.declared.entry.Entry.TheVariants.{Removed}
use Rattle.reactor_model.specs.reactor_journal.specs.declared.entry.Entry.TheVariants.{Closed}
use Rattle.reactor_model.specs.reactor_journal.specs.declared.entry.Entry.TheVariants.{Ended}
use Rattle.reactor_model.specs.Handling.{Handling}
use Rattle.laws_by_turns.specs.ByTurns.{GoesByTurn, TimerBehind, OffersBehind, IsOfferBehind}
use Rattle.laws_by_turns.specs.ByTurns.{BeginsWithNoTimer, is_dispatching}

pub dispatching_goes : {H E N : Type 0} (means : Handling H E N) (t : Terms) (b : ℕ)
    (past : List (Entry N)) (e : Entry N) (behind : List (Entry N)) → is_dispatching e ≡ true
    → GoesByTurn means t b past e behind
dispatching_goes means t b past (Opened handle mask) behind p = absurd (false≢true p)
dispatching_goes means t b past (Scheduled timer handle first every) behind p =
    absurd (false≢true p)
dispatching_goes means t b past (Cancelled timer) behind p = absurd (false≢true p)
dispatching_goes means t b past (Polled moment) behind p = tt
dispatching_goes means t b past (Due timer) behind p = tt
dispatching_goes means t b past (Ready handle kind) behind p = tt
dispatching_goes means t b past (Posted handle kind from seq) behind p = tt
dispatching_goes means t b past (Stale handle from seq) behind p = tt
dispatching_goes means t b past (Started event) behind p = tt
dispatching_goes means t b past (Returned event answer note) behind p = absurd (false≢true p)
dispatching_goes means t b past (Masked handle mask) behind p = absurd (false≢true p)
dispatching_goes means t b past (Suspended handle) behind p = absurd (false≢true p)
dispatching_goes means t b past (Resumed handle) behind p = absurd (false≢true p)
dispatching_goes means t b past (Refused live fault note) behind p = absurd (false≢true p)
dispatching_goes means t b past (Removed handle) behind p = absurd (false≢true p)
dispatching_goes means t b past (Closed handle note) behind p = absurd (false≢true p)
dispatching_goes means t b past Ended behind p = absurd (false≢true p)

pub dispatching_first : {N : Type 0} (es : List (Entry N)) → list_all is_dispatching es ≡ true
    → BeginsWithNoTimer es
dispatching_first [] p = tt
dispatching_first (Opened handle mask ∷ es) p = tt
dispatching_first (Scheduled timer handle first every ∷ es) p = absurd (false≢true p)
dispatching_first (Cancelled timer ∷ es) p = tt
dispatching_first (Polled moment ∷ es) p = tt
dispatching_first (Due timer ∷ es) p = tt
dispatching_first (Ready handle kind ∷ es) p = tt
dispatching_first (Posted handle kind from seq ∷ es) p = tt
dispatching_first (Stale handle from seq ∷ es) p = tt
dispatching_first (Started event ∷ es) p = tt
dispatching_first (Returned event answer note ∷ es) p = tt
dispatching_first (Masked handle mask ∷ es) p = tt
dispatching_first (Suspended handle ∷ es) p = tt
dispatching_first (Resumed handle ∷ es) p = tt
dispatching_first (Refused live fault note ∷ es) p = tt
dispatching_first (Removed handle ∷ es) p = tt
dispatching_first (Closed handle note ∷ es) p = tt
dispatching_first (Ended ∷ es) p = tt

timer_still : {N : Type 0} (moment : ℕ) (behind es : List (Entry N)) (asked : Option (ℕ × ℕ))
    → BeginsWithNoTimer es → TimerBehind moment behind asked
    → TimerBehind moment (behind ++ es) asked
timer_still moment [] [] asked n h = h
timer_still moment [] (Opened handle mask ∷ es) asked n h = h
timer_still moment [] (Scheduled timer handle first every ∷ es) asked n h = absurd n
timer_still moment [] (Cancelled timer ∷ es) asked n h = h
timer_still moment [] (Polled now ∷ es) asked n h = h
timer_still moment [] (Due timer ∷ es) asked n h = h
timer_still moment [] (Ready handle kind ∷ es) asked n h = h
timer_still moment [] (Posted handle kind from seq ∷ es) asked n h = h
timer_still moment [] (Stale handle from seq ∷ es) asked n h = h
timer_still moment [] (Started event ∷ es) asked n h = h
timer_still moment [] (Returned event answer note ∷ es) asked n h = h
timer_still moment [] (Masked handle mask ∷ es) asked n h = h
timer_still moment [] (Suspended handle ∷ es) asked n h = h
timer_still moment [] (Resumed handle ∷ es) asked n h = h
timer_still moment [] (Refused live fault note ∷ es) asked n h = h
timer_still moment [] (Removed handle ∷ es) asked n h = h
timer_still moment [] (Closed handle note ∷ es) asked n h = h
timer_still moment [] (Ended ∷ es) asked n h = h
timer_still moment (Opened handle mask ∷ behind) es asked n h = h
timer_still moment (Scheduled timer handle first every ∷ behind) es asked n h = h
timer_still moment (Cancelled timer ∷ behind) es asked n h = h
timer_still moment (Polled now ∷ behind) es asked n h = h
timer_still moment (Due timer ∷ behind) es asked n h = h
timer_still moment (Ready handle kind ∷ behind) es asked n h = h
timer_still moment (Posted handle kind from seq ∷ behind) es asked n h = h
timer_still moment (Stale handle from seq ∷ behind) es asked n h = h
timer_still moment (Started event ∷ behind) es asked n h = h
timer_still moment (Returned event answer note ∷ behind) es asked n h = h
timer_still moment (Masked handle mask ∷ behind) es asked n h = h
timer_still moment (Suspended handle ∷ behind) es asked n h = h
timer_still moment (Resumed handle ∷ behind) es asked n h = h
timer_still moment (Refused live fault note ∷ behind) es asked n h = h
timer_still moment (Removed handle ∷ behind) es asked n h = h
timer_still moment (Closed handle note ∷ behind) es asked n h = h
timer_still moment (Ended ∷ behind) es asked n h = h

offer_still : {N : Type 0} (behind es : List (Entry N)) → IsOfferBehind behind
    → IsOfferBehind (behind ++ es)
offer_still [] es h = absurd h
offer_still (Opened handle mask ∷ behind) es h = h
offer_still (Scheduled timer handle first every ∷ behind) es h = h
offer_still (Cancelled timer ∷ behind) es h = h
offer_still (Polled moment ∷ behind) es h = h
offer_still (Due timer ∷ behind) es h = h
offer_still (Ready handle kind ∷ behind) es h = h
offer_still (Posted handle kind from seq ∷ behind) es h = h
offer_still (Stale handle from seq ∷ behind) es h = h
offer_still (Started event ∷ behind) es h = h
offer_still (Returned event answer note ∷ behind) es h = h
offer_still (Masked handle mask ∷ behind) es h = h
offer_still (Suspended handle ∷ behind) es h = h
offer_still (Resumed handle ∷ behind) es h = h
offer_still (Refused live fault note ∷ behind) es h = h
offer_still (Removed handle ∷ behind) es h = h
offer_still (Closed handle note ∷ behind) es h = h
offer_still (Ended ∷ behind) es h = h

offers_still : {N : Type 0} (behind es : List (Entry N)) → OffersBehind behind
    → OffersBehind (behind ++ es)
offers_still [] es h = absurd h
offers_still (Opened handle mask ∷ behind) es h = h
offers_still (Scheduled timer handle first every ∷ behind) es h = h
offers_still (Cancelled timer ∷ behind) es h = h
offers_still (Polled moment ∷ behind) es h = h
offers_still (Due timer ∷ behind) es h = h
offers_still (Ready handle kind ∷ behind) es h = h
offers_still (Posted handle kind from seq ∷ behind) es h = h
offers_still (Stale handle from seq ∷ behind) es h = h
offers_still (Started event ∷ behind) es h = h
offers_still (Returned event answer note ∷ behind) es h = h
offers_still (Masked handle mask ∷ behind) es h = h
offers_still (Suspended handle ∷ behind) es h = h
offers_still (Resumed handle ∷ behind) es h = h
offers_still (Refused live fault note ∷ behind) es h = h
offers_still (Removed handle ∷ behind) es h = h
offers_still (Closed handle note ∷ behind) es h = offer_still behind es h
offers_still (Ended ∷ behind) es h = h

pub goes_still : {H E N : Type 0} (means : Handling H E N) (t : Terms) (b : ℕ)
    (past : List (Entry N)) (e : Entry N) (behind es : List (Entry N)) → BeginsWithNoTimer es
    → GoesByTurn means t b past e behind → GoesByTurn means t b past e (behind ++ es)
goes_still means t b past (Opened handle mask) behind es n h =
    (h.0, timer_still _ behind es h.0 n h.1, h.2)
goes_still means t b past (Scheduled timer handle first every) behind es n h = h
goes_still means t b past (Cancelled timer) behind es n h = h
goes_still means t b past (Polled moment) behind es n h = h
goes_still means t b past (Due timer) behind es n h = h
goes_still means t b past (Ready handle kind) behind es n h = h
goes_still means t b past (Posted handle kind from seq) behind es n h = h
goes_still means t b past (Stale handle from seq) behind es n h = h
goes_still means t b past (Started event) behind es n h = h
goes_still means t b past (Returned event answer note) behind es n h =
    λ q. offers_still behind es (h q)
goes_still means t b past (Masked handle mask) behind es n h = h
goes_still means t b past (Suspended handle) behind es n h = h
goes_still means t b past (Resumed handle) behind es n h = h
goes_still means t b past (Refused live fault note) behind es n h = h
goes_still means t b past (Removed handle) behind es n h = h
goes_still means t b past (Closed handle note) behind es n h = h
goes_still means t b past Ended behind es n h = h
