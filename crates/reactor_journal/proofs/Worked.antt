-- The worked journals are legal, and each with one entry changed is not: the definitions compute.
use Rattle.std.proofs.Common.{ℕ, ◌≡◌, Bool, true, false, [], ◌∷◌, refl}
use Rattle.std.specs.Prelude.{reverse}
use Rattle.ev_types.specs.declared.upcall.Handle.{Handle}
use Rattle.ev_types.specs.declared.upcall.Mask.{Mask}
use Rattle.ev_types.specs.declared.upcall.Kind.TheVariants.{Read, Write, Except}
use Rattle.ev_types.specs.declared.upcall.Answer.TheVariants.{Keep, Again, Close}
use Rattle.reactor_journal.specs.declared.entry.Entry.TheVariants.{Opened, Scheduled, Cancelled}
use Rattle.reactor_journal.specs.declared.entry.Entry.TheVariants.{Polled, Due, Ready, Posted}
use Rattle.reactor_journal.specs.declared.entry.Entry.TheVariants.{Stale, Started, Returned, Masked}
use Rattle.reactor_journal.specs.declared.entry.Entry.TheVariants.{Suspended, Resumed, Refused}
use Rattle.reactor_journal.specs.declared.entry.Entry.TheVariants.{Removed, Closed, Ended}
use Rattle.ev_types.specs.declared.upcall.Upcall.TheVariants.{Input}
use Rattle.reactor_journal.specs.Past.{armed, had, is_busy, is_able, is_pick, waits_for_closed}
use Rattle.reactor_journal.specs.Past.{some_wait}
use Rattle.reactor_journal.specs.Follow.{timeout_waits, may_follow, is_legal}

abbrev handle : ℕ → Handle
handle n = record { 0 = n }

abbrev mask : Bool → Bool → Bool → Mask
mask r w e = record { read = r; write = w; except = e }

is_legal_a : is_legal {N = ℕ} 1 (reverse
    (Opened (handle 0) (mask true false false) ∷ Polled 0 ∷ Ready (handle 0) Read ∷ Started 2
    ∷ Returned 2 Again 0 ∷ Started 4 ∷ Returned 4 Close 0 ∷ Closed (handle 0) 0 ∷ Polled 0 ∷ Ended
    ∷ [])) ≡ true
unfolding is_busy is_able is_pick waits_for_closed some_wait timeout_waits may_follow
is_legal_a = refl

is_legal_b : is_legal {N = ℕ} 1001
    (reverse (Opened (handle 0) (mask true false false) ∷ Polled 0 ∷ Ready (handle 0) Read
    ∷ Started 2 ∷ Returned 2 Again 0 ∷ Opened (handle 1) (mask true false false) ∷ Started 4
    ∷ Returned 4 Keep 0 ∷ Polled 0 ∷ Ready (handle 1) Read ∷ Ready (handle 1) Read ∷ Started 9
    ∷ Returned 9 Again 0 ∷ Started 10 ∷ Returned 10 Keep 0 ∷ Started 12 ∷ Returned 12 Close 0
    ∷ Closed (handle 1) 0 ∷ Polled 0 ∷ Ended ∷ Removed (handle 0) ∷ Closed (handle 0) 0 ∷ []))
    ≡ true
unfolding is_busy is_able is_pick waits_for_closed some_wait timeout_waits may_follow
is_legal_b = refl

is_legal_c : is_legal {N = ℕ} 2 (reverse
    (Opened (handle 0) (mask true false false) ∷ Polled 0 ∷ Ready (handle 0) Read
    ∷ Ready (handle 0) Read ∷ Started 2 ∷ Returned 2 Again 0
    ∷ Opened (handle 1) (mask true false false) ∷ Started 3 ∷ Returned 3 Keep 0 ∷ Started 5
    ∷ Returned 5 Again 0 ∷ Refused 2 false 0 ∷ Started 10 ∷ Returned 10 Keep 0 ∷ Polled 0
    ∷ Ready (handle 1) Read ∷ Started 15 ∷ Returned 15 Close 0 ∷ Closed (handle 1) 0 ∷ Polled 0
    ∷ Ended ∷ Removed (handle 0) ∷ Closed (handle 0) 0 ∷ [])) ≡ true
unfolding is_busy is_able is_pick waits_for_closed some_wait timeout_waits may_follow
is_legal_c = refl

is_legal_d : is_legal {N = ℕ} 1001
    (reverse (Opened (handle 0) (mask true false false) ∷ Polled 0 ∷ Ready (handle 0) Read
    ∷ Started 2 ∷ Returned 2 Again 0 ∷ Opened (handle 1) (mask true false false) ∷ Started 4
    ∷ Returned 4 Keep 0 ∷ Polled 0 ∷ Ready (handle 1) Read ∷ Started 9 ∷ Returned 9 Close 0
    ∷ Closed (handle 1) 0 ∷ Posted (handle 0) Except 0 0 ∷ Started 13 ∷ Returned 13 Keep 0 ∷ Ended
    ∷ Removed (handle 0) ∷ Closed (handle 0) 0 ∷ [])) ≡ true
unfolding is_busy is_able is_pick waits_for_closed some_wait timeout_waits may_follow
is_legal_d = refl

is_legal_e : is_legal {N = ℕ} 1001
    (reverse (Opened (handle 0) (mask true false false) ∷ Polled 0 ∷ Ready (handle 0) Read
    ∷ Started 2 ∷ Returned 2 Again 0 ∷ Opened (handle 1) (mask true false false)
    ∷ Scheduled 0 (handle 1) 100 100 ∷ Started 4 ∷ Returned 4 Keep 0 ∷ Polled 100 ∷ Due 0
    ∷ Ready (handle 1) Read ∷ Started 10 ∷ Returned 10 Close 0 ∷ Closed (handle 1) 0 ∷ Polled 100
    ∷ Ended ∷ Removed (handle 0) ∷ Closed (handle 0) 0 ∷ [])) ≡ true
unfolding is_busy is_able is_pick waits_for_closed some_wait timeout_waits may_follow
is_legal_e = refl

is_illegal_a_0_0 : is_legal {N = ℕ} 1 (reverse (Opened (handle 1) (mask true false false) ∷ []))
    ≡ false
unfolding is_busy is_able is_pick waits_for_closed some_wait timeout_waits may_follow
is_illegal_a_0_0 = refl

is_illegal_a_2_1 : is_legal {N = ℕ} 1
    (reverse (Opened (handle 0) (mask true false false) ∷ Polled 0 ∷ Ready (handle 0) Write ∷ []))
    ≡ false
unfolding is_busy is_able is_pick waits_for_closed some_wait timeout_waits may_follow
is_illegal_a_2_1 = refl

is_illegal_a_3_2 : is_legal {N = ℕ} 1
    (reverse (Opened (handle 0) (mask true false false) ∷ Polled 0 ∷ Ready (handle 0) Read
    ∷ Started 1 ∷ [])) ≡ false
unfolding is_busy is_able is_pick waits_for_closed some_wait timeout_waits may_follow
is_illegal_a_3_2 = refl

is_illegal_a_4_3 : is_legal {N = ℕ} 1
    (reverse (Opened (handle 0) (mask true false false) ∷ Polled 0 ∷ Ready (handle 0) Read
    ∷ Started 2 ∷ Returned 3 Again 0 ∷ [])) ≡ false
unfolding is_busy is_able is_pick waits_for_closed some_wait timeout_waits may_follow
is_illegal_a_4_3 = refl

is_illegal_a_4_4 : is_legal {N = ℕ} 1
    (reverse (Opened (handle 0) (mask true false false) ∷ Polled 0 ∷ Ready (handle 0) Read
    ∷ Started 2 ∷ Returned 2 Keep 0 ∷ Started 4 ∷ [])) ≡ false
unfolding is_busy is_able is_pick waits_for_closed some_wait timeout_waits may_follow
is_illegal_a_4_4 = refl

is_illegal_a_6_5 : is_legal {N = ℕ} 1
    (reverse (Opened (handle 0) (mask true false false) ∷ Polled 0 ∷ Ready (handle 0) Read
    ∷ Started 2 ∷ Returned 2 Again 0 ∷ Started 4 ∷ Returned 4 Again 0 ∷ Closed (handle 0) 0 ∷ []))
    ≡ false
unfolding is_busy is_able is_pick waits_for_closed some_wait timeout_waits may_follow
is_illegal_a_6_5 = refl

is_illegal_a_7_6 : is_legal {N = ℕ} 1
    (reverse (Opened (handle 0) (mask true false false) ∷ Polled 0 ∷ Ready (handle 0) Read
    ∷ Started 2 ∷ Returned 2 Again 0 ∷ Started 4 ∷ Returned 4 Close 0 ∷ Ended ∷ [])) ≡ false
unfolding is_busy is_able is_pick waits_for_closed some_wait timeout_waits may_follow
is_illegal_a_7_6 = refl

is_illegal_a_8_7 : is_legal {N = ℕ} 1
    (reverse (Opened (handle 0) (mask true false false) ∷ Polled 0 ∷ Ready (handle 0) Read
    ∷ Started 2 ∷ Returned 2 Again 0 ∷ Started 4 ∷ Returned 4 Close 0 ∷ Closed (handle 0) 0
    ∷ Stale (handle 1) 0 0 ∷ Polled 0 ∷ Opened (handle 0) (mask true false false) ∷ [])) ≡ false
unfolding is_busy is_able is_pick waits_for_closed some_wait timeout_waits may_follow
is_illegal_a_8_7 = refl

is_illegal_c_11_8 : is_legal {N = ℕ} 2
    (reverse (Opened (handle 0) (mask true false false) ∷ Polled 0 ∷ Ready (handle 0) Read
    ∷ Ready (handle 0) Read ∷ Started 2 ∷ Returned 2 Again 0
    ∷ Opened (handle 1) (mask true false false) ∷ Started 3 ∷ Returned 3 Keep 0 ∷ Started 5
    ∷ Returned 5 Again 0 ∷ Refused 1 false 0 ∷ [])) ≡ false
unfolding is_busy is_able is_pick waits_for_closed some_wait timeout_waits may_follow
is_illegal_c_11_8 = refl

is_illegal_c_11_9 : is_legal {N = ℕ} 2
    (reverse (Opened (handle 0) (mask true false false) ∷ Polled 0 ∷ Ready (handle 0) Read
    ∷ Ready (handle 0) Read ∷ Started 2 ∷ Returned 2 Again 0
    ∷ Opened (handle 1) (mask true false false) ∷ Started 3 ∷ Returned 3 Keep 0 ∷ Started 5
    ∷ Returned 5 Again 0 ∷ Opened (handle 2) (mask true false false) ∷ [])) ≡ false
unfolding is_busy is_able is_pick waits_for_closed some_wait timeout_waits may_follow
is_illegal_c_11_9 = refl

is_illegal_b_15_10 : is_legal {N = ℕ} 1001
    (reverse (Opened (handle 0) (mask true false false) ∷ Polled 0 ∷ Ready (handle 0) Read
    ∷ Started 2 ∷ Returned 2 Again 0 ∷ Opened (handle 1) (mask true false false) ∷ Started 4
    ∷ Returned 4 Keep 0 ∷ Polled 0 ∷ Ready (handle 1) Read ∷ Ready (handle 1) Read ∷ Started 9
    ∷ Returned 9 Again 0 ∷ Started 10 ∷ Returned 10 Keep 0 ∷ Started 10 ∷ [])) ≡ false
unfolding is_busy is_able is_pick waits_for_closed some_wait timeout_waits may_follow
is_illegal_b_15_10 = refl

is_illegal_b_13_11 : is_legal {N = ℕ} 1001
    (reverse (Opened (handle 0) (mask true false false) ∷ Polled 0 ∷ Ready (handle 0) Read
    ∷ Started 2 ∷ Returned 2 Again 0 ∷ Opened (handle 1) (mask true false false) ∷ Started 4
    ∷ Returned 4 Keep 0 ∷ Polled 0 ∷ Ready (handle 1) Read ∷ Ready (handle 1) Read ∷ Started 9
    ∷ Returned 9 Again 0 ∷ Started 12 ∷ [])) ≡ false
unfolding is_busy is_able is_pick waits_for_closed some_wait timeout_waits may_follow
is_illegal_b_13_11 = refl

is_illegal_e_10_12 : is_legal {N = ℕ} 1001
    (reverse (Opened (handle 0) (mask true false false) ∷ Polled 0 ∷ Ready (handle 0) Read
    ∷ Started 2 ∷ Returned 2 Again 0 ∷ Opened (handle 1) (mask true false false)
    ∷ Scheduled 0 (handle 1) 100 100 ∷ Started 4 ∷ Returned 4 Keep 0 ∷ Polled 100
    ∷ Ready (handle 1) Read ∷ [])) ≡ false
unfolding is_busy is_able is_pick waits_for_closed some_wait timeout_waits may_follow
is_illegal_e_10_12 = refl

is_illegal_e_11_13 : is_legal {N = ℕ} 1001
    (reverse (Opened (handle 0) (mask true false false) ∷ Polled 0 ∷ Ready (handle 0) Read
    ∷ Started 2 ∷ Returned 2 Again 0 ∷ Opened (handle 1) (mask true false false)
    ∷ Scheduled 0 (handle 1) 100 100 ∷ Started 4 ∷ Returned 4 Keep 0 ∷ Polled 100 ∷ Due 0 ∷ Due 0
    ∷ [])) ≡ false
unfolding is_busy is_able is_pick waits_for_closed some_wait timeout_waits may_follow
is_illegal_e_11_13 = refl

is_illegal_e_6_14 : is_legal {N = ℕ} 1001
    (reverse (Opened (handle 0) (mask true false false) ∷ Polled 0 ∷ Ready (handle 0) Read
    ∷ Started 2 ∷ Returned 2 Again 0 ∷ Opened (handle 1) (mask true false false)
    ∷ Scheduled 0 (handle 1) 0 100 ∷ [])) ≡ false
unfolding is_busy is_able is_pick waits_for_closed some_wait timeout_waits may_follow
is_illegal_e_6_14 = refl

is_illegal_e_14_15 : is_legal {N = ℕ} 1001
    (reverse (Opened (handle 0) (mask true false false) ∷ Polled 0 ∷ Ready (handle 0) Read
    ∷ Started 2 ∷ Returned 2 Again 0 ∷ Opened (handle 1) (mask true false false)
    ∷ Scheduled 0 (handle 1) 100 100 ∷ Started 4 ∷ Returned 4 Keep 0 ∷ Polled 100 ∷ Due 0
    ∷ Ready (handle 1) Read ∷ Started 10 ∷ Returned 10 Close 0 ∷ Polled 100 ∷ [])) ≡ false
unfolding is_busy is_able is_pick waits_for_closed some_wait timeout_waits may_follow
is_illegal_e_14_15 = refl

is_illegal_d_13_16 : is_legal {N = ℕ} 1001
    (reverse (Opened (handle 0) (mask true false false) ∷ Polled 0 ∷ Ready (handle 0) Read
    ∷ Started 2 ∷ Returned 2 Again 0 ∷ Opened (handle 1) (mask true false false) ∷ Started 4
    ∷ Returned 4 Keep 0 ∷ Polled 0 ∷ Ready (handle 1) Read ∷ Started 9 ∷ Returned 9 Close 0
    ∷ Closed (handle 1) 0 ∷ Posted (handle 1) Except 0 0 ∷ [])) ≡ false
unfolding is_busy is_able is_pick waits_for_closed some_wait timeout_waits may_follow
is_illegal_d_13_16 = refl

is_legal_periodic : is_legal {N = ℕ} 1
    (reverse (Opened (handle 0) (mask true false false) ∷ Scheduled 0 (handle 0) 10 5 ∷ Polled 23
    ∷ Due 0 ∷ Started 3 ∷ Returned 3 Keep 0 ∷ Polled 25 ∷ Due 0 ∷ Started 7 ∷ Cancelled 0
    ∷ Returned 7 Keep 0 ∷ Polled 40 ∷ [])) ≡ true
unfolding is_busy is_able is_pick waits_for_closed some_wait timeout_waits may_follow
is_legal_periodic = refl

is_illegal_periodic_due_again : is_legal {N = ℕ} 1
    (reverse (Opened (handle 0) (mask true false false) ∷ Scheduled 0 (handle 0) 10 5 ∷ Polled 23
    ∷ Due 0 ∷ Started 3 ∷ Returned 3 Keep 0 ∷ Polled 25 ∷ Due 0 ∷ Started 7 ∷ Cancelled 0
    ∷ Returned 7 Keep 0 ∷ Polled 40 ∷ Due 0 ∷ [])) ≡ false
unfolding is_busy is_able is_pick waits_for_closed some_wait timeout_waits may_follow
is_illegal_periodic_due_again = refl

is_illegal_periodic_early : is_legal {N = ℕ} 1
    (reverse (Opened (handle 0) (mask true false false) ∷ Scheduled 0 (handle 0) 10 5 ∷ Polled 23
    ∷ Due 0 ∷ Started 3 ∷ Returned 3 Keep 0 ∷ Polled 24 ∷ Due 0 ∷ [])) ≡ false
unfolding is_busy is_able is_pick waits_for_closed some_wait timeout_waits may_follow
is_illegal_periodic_early = refl

is_legal_poll_overdue : is_legal {N = ℕ} 1
    (reverse (Opened (handle 0) (mask true false false) ∷ Scheduled 0 (handle 0) 10 5 ∷ Polled 23
    ∷ Polled 24 ∷ [])) ≡ true
unfolding is_busy is_able is_pick waits_for_closed some_wait timeout_waits may_follow
is_legal_poll_overdue = refl

is_illegal_ready_overdue : is_legal {N = ℕ} 1
    (reverse (Opened (handle 0) (mask true false false) ∷ Scheduled 0 (handle 0) 10 5 ∷ Polled 23
    ∷ Ready (handle 0) Read ∷ [])) ≡ false
unfolding is_busy is_able is_pick waits_for_closed some_wait timeout_waits may_follow
is_illegal_ready_overdue = refl

is_legal_cancel_waiting : is_legal {N = ℕ} 1
    (reverse (Opened (handle 0) (mask true false false) ∷ Scheduled 0 (handle 0) 10 0 ∷ Polled 10
    ∷ Due 0 ∷ Cancelled 0 ∷ [])) ≡ true
unfolding is_busy is_able is_pick waits_for_closed some_wait timeout_waits may_follow
is_legal_cancel_waiting = refl

is_illegal_started_cancelled : is_legal {N = ℕ} 1
    (reverse (Opened (handle 0) (mask true false false) ∷ Scheduled 0 (handle 0) 10 0 ∷ Polled 10
    ∷ Due 0 ∷ Cancelled 0 ∷ Started 3 ∷ [])) ≡ false
unfolding is_busy is_able is_pick waits_for_closed some_wait timeout_waits may_follow
is_illegal_started_cancelled = refl

is_illegal_cancelled_twice : is_legal {N = ℕ} 1
    (reverse (Opened (handle 0) (mask true false false) ∷ Scheduled 0 (handle 0) 10 0 ∷ Polled 10
    ∷ Due 0 ∷ Cancelled 0 ∷ Cancelled 0 ∷ [])) ≡ false
unfolding is_busy is_able is_pick waits_for_closed some_wait timeout_waits may_follow
is_illegal_cancelled_twice = refl

is_legal_masked : is_legal {N = ℕ} 1
    (reverse (Opened (handle 0) (mask true true false) ∷ Polled 0 ∷ Ready (handle 0) Read
    ∷ Ready (handle 0) Write ∷ Masked (handle 0) (mask true false false) ∷ Started 2
    ∷ Returned 2 Keep 0 ∷ [])) ≡ true
unfolding is_busy is_able is_pick waits_for_closed some_wait timeout_waits may_follow
is_legal_masked = refl

is_illegal_started_masked : is_legal {N = ℕ} 1
    (reverse (Opened (handle 0) (mask true true false) ∷ Polled 0 ∷ Ready (handle 0) Read
    ∷ Ready (handle 0) Write ∷ Masked (handle 0) (mask true false false) ∷ Started 2
    ∷ Returned 2 Keep 0 ∷ Started 3 ∷ [])) ≡ false
unfolding is_busy is_able is_pick waits_for_closed some_wait timeout_waits may_follow
is_illegal_started_masked = refl

is_illegal_class_order : is_legal {N = ℕ} 1
    (reverse (Opened (handle 0) (mask true true false) ∷ Polled 0 ∷ Ready (handle 0) Read
    ∷ Ready (handle 0) Write ∷ Started 2 ∷ [])) ≡ false
unfolding is_busy is_able is_pick waits_for_closed some_wait timeout_waits may_follow
is_illegal_class_order = refl

is_legal_class_order : is_legal {N = ℕ} 1
    (reverse (Opened (handle 0) (mask true true false) ∷ Polled 0 ∷ Ready (handle 0) Read
    ∷ Ready (handle 0) Write ∷ Started 3 ∷ [])) ≡ true
unfolding is_busy is_able is_pick waits_for_closed some_wait timeout_waits may_follow
is_legal_class_order = refl

is_illegal_started_suspended : is_legal {N = ℕ} 1
    (reverse (Opened (handle 0) (mask true false false) ∷ Suspended (handle 0) ∷ Polled 0
    ∷ Ready (handle 0) Read ∷ Started 3 ∷ [])) ≡ false
unfolding is_busy is_able is_pick waits_for_closed some_wait timeout_waits may_follow
is_illegal_started_suspended = refl

is_legal_started_resumed : is_legal {N = ℕ} 1
    (reverse (Opened (handle 0) (mask true false false) ∷ Suspended (handle 0) ∷ Polled 0
    ∷ Ready (handle 0) Read ∷ Resumed (handle 0) ∷ Started 3 ∷ [])) ≡ true
unfolding is_busy is_able is_pick waits_for_closed some_wait timeout_waits may_follow
is_legal_started_resumed = refl

is_illegal_suspended_twice : is_legal {N = ℕ} 1
    (reverse (Opened (handle 0) (mask true false false) ∷ Suspended (handle 0) ∷ Polled 0
    ∷ Ready (handle 0) Read ∷ Suspended (handle 0) ∷ [])) ≡ false
unfolding is_busy is_able is_pick waits_for_closed some_wait timeout_waits may_follow
is_illegal_suspended_twice = refl

is_illegal_started_removed : is_legal {N = ℕ} 1
    (reverse (Opened (handle 0) (mask true false false) ∷ Suspended (handle 0) ∷ Polled 0
    ∷ Ready (handle 0) Read ∷ Removed (handle 0) ∷ Started 3 ∷ [])) ≡ false
unfolding is_busy is_able is_pick waits_for_closed some_wait timeout_waits may_follow
is_illegal_started_removed = refl

is_illegal_poll_unclosed : is_legal {N = ℕ} 1
    (reverse (Opened (handle 0) (mask true false false) ∷ Suspended (handle 0) ∷ Polled 0
    ∷ Ready (handle 0) Read ∷ Removed (handle 0) ∷ Polled 0 ∷ [])) ≡ false
unfolding is_busy is_able is_pick waits_for_closed some_wait timeout_waits may_follow
is_illegal_poll_unclosed = refl

is_legal_stale : is_legal {N = ℕ} 1
    (reverse (Opened (handle 0) (mask true false false) ∷ Suspended (handle 0) ∷ Polled 0
    ∷ Ready (handle 0) Read ∷ Removed (handle 0) ∷ Closed (handle 0) 0 ∷ Stale (handle 0) 0 0
    ∷ Opened (handle 1) (mask true false false) ∷ [])) ≡ true
unfolding is_busy is_able is_pick waits_for_closed some_wait timeout_waits may_follow
is_legal_stale = refl

is_illegal_posted_dead : is_legal {N = ℕ} 1
    (reverse (Opened (handle 0) (mask true false false) ∷ Suspended (handle 0) ∷ Polled 0
    ∷ Ready (handle 0) Read ∷ Removed (handle 0) ∷ Closed (handle 0) 0 ∷ Posted (handle 0) Read 0 0
    ∷ [])) ≡ false
unfolding is_busy is_able is_pick waits_for_closed some_wait timeout_waits may_follow
is_illegal_posted_dead = refl

armed_periodic : armed {N = ℕ} (reverse
    (Opened (handle 0) (mask true false false) ∷ Scheduled 0 (handle 0) 10 5 ∷ Polled 23 ∷ Due 0
    ∷ Started 3 ∷ [])) ≡ (25, 0) ∷ []
armed_periodic = refl

had_a : had {N = ℕ} (reverse (Opened (handle 0) (mask true false false) ∷ Polled 0
    ∷ Ready (handle 0) Read ∷ Started 2 ∷ Returned 2 Again 0 ∷ Started 4 ∷ Returned 4 Close 0
    ∷ Closed (handle 0) 0 ∷ Polled 0 ∷ Ended ∷ [])) 0
    ≡ record { upcall = Input; moment = 0; answer = Again; note = 0 }
    ∷ record { upcall = Input; moment = 0; answer = Close; note = 0 } ∷ []
had_a = refl
