-- What the act of a turn leaves.
use Rattle.std.proofs.Common.{ℕ, ◌≡◌, Bool, true, false, List, [], ◌∷◌, ◌++◌, length, refl, sym}
use Rattle.std.proofs.Common.{◌∙◌, subst, arith, Option, Some, None, is_some, option_map}
use Rattle.std.proofs.Common.{append-nil, ⊎_elim}
use Rattle.std.proofs.lemmas.Bool.{false≢true, or_left, or_right, or_cases}
use Rattle.std.specs.List.{find}
use Rattle.reactor_summary.specs.ev_types.specs.declared.upcall.Handle.{Handle}
use Rattle.reactor_summary.specs.ev_types.specs.declared.upcall.Mask.{Mask}
use Rattle.ev_base.specs.Terms.{Terms}
use Rattle.reactor_model.specs.reactor_journal.specs.declared.entry.Entry.{Entry}
use Rattle.reactor_model.specs.reactor_journal.specs.declared.entry.Entry.TheVariants.{Masked}
use Rattle.reactor_model.specs.reactor_journal.specs.declared.entry.Entry.TheVariants.{Cancelled}
use Rattle.reactor_model.specs.reactor_journal.specs.Past as P
use Rattle.reactor_model.specs.reactor_journal.specs.Past.{past_of}
use Rattle.reactor_summary.specs.declared.parts.ArmedTimer.{ArmedTimer}
use Rattle.reactor_summary.specs.declared.parts.WaitingEvent.{WaitingEvent}
use Rattle.reactor_summary.specs.Summary.{Summary, armed_timer, is_armed, timeout_waits}
use Rattle.reactor_state.specs.State.{no_places}
use Rattle.reactor_core.specs.Stands.{Meaning, HasRoom, Stands, places_for}
use Rattle.reactor_core.specs.Settling.{act_places}
use Rattle.reactor_core.specs.Acting.{mask_mine, cancel_mine, is_of, is_mine}
use Rattle.reactor_core.specs.Timers.{is_pending}
use Rattle.reactor_core.specs.declared.reactor.Core.{Core}
use Rattle.reactor_core.proofs.Cancelling.{armed_found, timeout_found}
use Rattle.reactor_core.proofs.SettleEvent.{Weakens}

-- the room for an act has room for one entry
pub room_for_one : {H M Q W V N E : Type 0} (m : Meaning H M Q W V N E) (weak : Weakens m)
    (core : Core H M Q W V N E) (s : Summary) → HasRoom m 4 act_places core s
    → HasRoom m 1 no_places core s
room_for_one m weak core s r = record {
  journal = omega (arith, r.journal);
  numbers = omega (arith, r.numbers);
  state = weak core.state (places_for (length s.opens) no_places)
      (places_for (length s.opens) act_places)
      (record {
        handles = omega arith;
        timers = omega arith;
        timeouts = omega arith;
        events = omega arith;
        opens = omega arith;
      }) r.state;
  repository = omega (arith, r.repository);
  net = omega (arith, r.net);
}

module _ {H M Q W V N E : Type 0} (m : Meaning H M Q W V N E) (t : Terms)
    (core : Core H M Q W V N E) (F : ℕ) (h : List (Entry N)) (handle : Handle) (mask : Mask) where
  pub masked_not : (alive : Bool) → alive ≡ false → Stands m t core F h
      → Stands m t core F (h ++ mask_mine alive handle mask)
  masked_not alive q st = subst (λ b. Stands m t core F (h ++ mask_mine b handle mask)) (sym q)
      (subst (λ hs. Stands m t core F hs) (sym (append-nil h)) st)

  pub masked_so : (alive : Bool) → alive ≡ true → Stands m t core F (h ++ Masked handle mask ∷ [])
      → Stands m t core F (h ++ mask_mine alive handle mask)
  masked_so alive q st = subst (λ b. Stands m t core F (h ++ mask_mine b handle mask)) (sym q) st

module _ {H M Q W V N E : Type 0} (m : Meaning H M Q W V N E) (t : Terms)
    (core : Core H M Q W V N E) (F : ℕ) (h : List (Entry N)) (timer : ℕ) where
  pub cancelled_not : (mine : Bool) → mine ≡ false → Stands m t core F h
      → Stands m t core F (h ++ cancel_mine mine timer)
  cancelled_not mine q st = subst (λ b. Stands m t core F (h ++ cancel_mine b timer)) (sym q)
      (subst (λ hs. Stands m t core F hs) (sym (append-nil h)) st)

  pub cancelled_so : (mine : Bool) → mine ≡ true → Stands m t core F (h ++ Cancelled timer ∷ [])
      → Stands m t core F (h ++ cancel_mine mine timer)
  cancelled_so mine q st = subst (λ b. Stands m t core F (h ++ cancel_mine b timer)) (sym q) st

-- a timer that is one of the handle is there
owner_found : (x : ℕ) (owner : Option Handle) → is_of x owner ≡ true → is_some owner ≡ true
owner_found x None q = absurd (false≢true q)
owner_found x (Some handle) q = refl

pub mine_pending : (s : Summary) (x timer : ℕ) → is_mine s x timer ≡ true
    → is_pending s timer ≡ true
mine_pending s x timer q =
    let armed : Option Handle = option_map (λ (a : ArmedTimer). a.handle) (armed_timer s timer) in
    let waits : Option Handle = option_map (λ (w : WaitingEvent). w.handle)
    (find (λ (w : WaitingEvent). P.is_timeout_of timer w.upcall) s.waiting) in
    ⊎_elim
    (λ (k : is_of x armed ≡ true). or_left (is_armed s timer) (timeout_waits s timer)
    (sym (armed_found s timer armed refl) ∙ owner_found x armed k))
    (λ (k : is_of x waits ≡ true). or_right (is_armed s timer) (timeout_waits s timer)
    (sym (timeout_found s timer waits refl) ∙ owner_found x waits k))
    (or_cases (is_of x armed) (is_of x waits) q)
