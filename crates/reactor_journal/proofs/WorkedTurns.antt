-- What handlers have had, where they come from and why they are closed, in worked journals.
use Rattle.std.proofs.Common.{ℕ, ◌≡◌, ◌∷◌, [], Option, Some, None, List, true, false, refl}
use Rattle.std.specs.Prelude.{reverse}
use Rattle.ev_types.specs.declared.upcall.Handle.{Handle}
use Rattle.ev_types.specs.declared.upcall.Mask.{Mask}
use Rattle.ev_types.specs.declared.upcall.Kind.TheVariants.{Read}
use Rattle.ev_types.specs.declared.upcall.Answer.TheVariants.{Keep, Again, Close}
use Rattle.ev_types.specs.declared.upcall.Upcall.TheVariants.{Input, Timeout}
use Rattle.ev_types.specs.declared.upcall.Why.TheVariants.{Own, Removed as RemovedBy}
use Rattle.reactor_journal.specs.declared.entry.Entry.{Entry}
use Rattle.reactor_journal.specs.declared.entry.Entry.TheVariants.{Opened, Scheduled, Polled, Due}
use Rattle.reactor_journal.specs.declared.entry.Entry.TheVariants.{Ready, Started, Returned}
use Rattle.reactor_journal.specs.declared.entry.Entry.TheVariants.{Refused, Removed, Closed, Ended}
use Rattle.reactor_journal.specs.Event.{Origin}
use Rattle.reactor_journal.specs.Past.{had, origin_of, refused_origins, reason_of}

abbrev handle : ℕ → Handle
handle n = record { 0 = n }

abbrev reads : Mask
reads = record { read = true; write = false; except = false }

-- one connection with a timer, at moment 100: its notes are numbered
abbrev timed : List (Entry ℕ)
timed = Opened (handle 0) reads ∷ Polled 7 ∷ Ready (handle 0) Read ∷ Started 2 ∷ Returned 2 Again 11
    ∷ Opened (handle 1) reads ∷ Scheduled 0 (handle 1) 100 100 ∷ Started 4 ∷ Returned 4 Keep 12
    ∷ Polled 100 ∷ Due 0 ∷ Ready (handle 1) Read ∷ Started 10 ∷ Returned 10 Close 13
    ∷ Closed (handle 1) 14 ∷ Polled 100 ∷ Ended ∷ Removed (handle 0) ∷ Closed (handle 0) 15 ∷ []

turns_of_the_listener : had (reverse timed) 0
    ≡ record { upcall = Input; moment = 7; answer = Again; note = 11 }
    ∷ record { upcall = Input; moment = 7; answer = Keep; note = 12 } ∷ []
turns_of_the_listener = refl

turns_of_the_connection : had (reverse timed) 1
    ≡ record { upcall = Timeout 0; moment = 100; answer = Close; note = 13 } ∷ []
turns_of_the_connection = refl

no_origin : ◌≡◌ {A = Option (Origin ℕ)} (origin_of (reverse timed) 0) None
no_origin = refl

accepted_origin : ◌≡◌ {A = Option (Origin ℕ)} (origin_of (reverse timed) 1)
    (Some (record { note = 11; moment = 7 }))
accepted_origin = refl

closed_itself : reason_of (reverse timed) 1 ≡ Own
closed_itself = refl

removed_at_the_end : reason_of (reverse timed) 0 ≡ RemovedBy
removed_at_the_end = refl

-- a handler that is removed during its upcall is closed for that reason, whatever the upcall
-- answers
abbrev removed_while_out : List (Entry ℕ)
removed_while_out = Opened (handle 0) reads ∷ Polled 0 ∷ Ready (handle 0) Read ∷ Started 2
    ∷ Removed (handle 0) ∷ Returned 2 Close 1 ∷ Closed (handle 0) 2 ∷ []

removed_first : reason_of (reverse removed_while_out) 0 ≡ RemovedBy
removed_first = refl

-- an offer after the close of the handler that made it, and one that is refused
abbrev offers : List (Entry ℕ)
offers = Opened (handle 0) reads ∷ Polled 3 ∷ Ready (handle 0) Read ∷ Started 2
    ∷ Returned 2 Close 21 ∷ Closed (handle 0) 22 ∷ Opened (handle 1) reads ∷ Ready (handle 1) Read
    ∷ Started 7 ∷ Polled 4 ∷ Returned 7 Keep 23 ∷ Refused 1 true 24 ∷ Refused 1 true 25 ∷ []

origin_behind_a_close : ◌≡◌ {A = Option (Origin ℕ)} (origin_of (reverse offers) 1)
    (Some (record { note = 21; moment = 3 }))
origin_behind_a_close = refl

origins_of_the_refused : ◌≡◌ {A = List (Option (Origin ℕ))} (refused_origins (reverse offers))
    (Some (record { note = 23; moment = 3 }) ∷ None ∷ [])
origins_of_the_refused = refl
