-- A run that goes by turns, read backwards: each entry of it beside those before it and the one
-- after it.
use Rattle.std.proofs.Common.{ℕ, ◌≡◌, ◌∙◌, ◌≤◌, Bool, true, false, List, [], ◌∷◌, ◌++◌, length}
use Rattle.std.proofs.Common.{reverse, refl, sym, ap, subst, Option, Some, None, append-nil}
use Rattle.std.proofs.Common.{append_assoc}
use Rattle.std.proofs.lemmas.List.{length-reverse, reverse-append, reverse-reverse}
use Rattle.reactor_model.specs.ev_types.specs.declared.upcall.Mask.{Mask}
use Rattle.reactor_model.specs.ev_types.specs.declared.upcall.Upcall.{Upcall}
use Rattle.reactor_model.specs.ev_base.specs.Terms.{Terms}
use Rattle.reactor_model.specs.reactor_journal.specs.Event.{Event}
use Rattle.reactor_model.specs.reactor_journal.specs.declared.entry.Entry.{Entry}
use Rattle.reactor_model.specs.reactor_journal.specs.declared.entry.Entry.TheVariants.{Opened}
use Rattle.reactor_model.specs.reactor_journal.specs.declared.entry.Entry.TheVariants.{Cancelled}
use Rattle.reactor_model.specs.reactor_journal.specs.declared.entry.Entry.TheVariants.{Returned}
use Rattle.reactor_model.specs.reactor_journal.specs.declared.entry.Entry.TheVariants.{Masked}
use Rattle.reactor_model.specs.reactor_journal.specs.declared.entry.Entry.TheVariants.{Suspended}
use Rattle.reactor_model.specs.reactor_journal.specs.declared.entry.Entry.TheVariants.{Resumed}
use Rattle.reactor_model.specs.reactor_journal.specs.declared.entry.Entry.TheVariants.{Refused}
use Rattle.reactor_model.specs.reactor_journal.specs.declared.entry.Entry.TheVariants.{Removed}
use Rattle.reactor_model.specs.reactor_journal.specs.declared.entry.Entry.TheVariants.{Closed}
use Rattle.reactor_model.specs.reactor_journal.specs.declared.entry.Entry.TheVariants.{Ended}
use Rattle.reactor_model.specs.reactor_journal.specs.Past.{past_of, event_at, ended}
use Rattle.reactor_model.specs.Handling.{Handling, Deed, Installing, Masking, Cancelling, Stopping}
use Rattle.laws_by_turns.specs.ByTurns.{DispatchedByTurns, GoesByTurn, MayHere, OffersBehind}
use Rattle.laws_by_turns.specs.ByTurns.{IsOfferBehind, returned_here}

-- a turn was just settled whose upcall may carry the act
pub record ActsBehind {N : Type 0} (may : Upcall → Deed → Type 0) (past : List (Entry N))
    (deed : Deed) : Type 0 where
  pub number : ℕ
  pub event : Event
  pub settled : returned_here past ≡ Some number
  pub is : event_at past number ≡ Some event
  pub allowed : may event.upcall deed

abbrev pub IsByTurn : {N : Type 0} → (Upcall → Deed → Type 0) → List (Entry N) → Entry N → Type 0
IsByTurn may past (Suspended handle) = ⊥
IsByTurn may past (Resumed handle) = ⊥
IsByTurn may past (Removed handle) = ended past ≡ true
IsByTurn may past (Opened handle mask) =
    (timer : Option (ℕ × ℕ)) × ActsBehind may past (Installing mask timer)
IsByTurn may past (Refused live fault said) =
    (mask : Mask) × (timer : Option (ℕ × ℕ)) × ActsBehind may past (Installing mask timer)
IsByTurn may past (Masked handle mask) = ActsBehind may past Masking
IsByTurn may past (Cancelled timer) = ActsBehind may past Cancelling
IsByTurn may past Ended = ActsBehind may past Stopping
IsByTurn may past _ = Unit {0}

-- after a turn whose note says that it installs a handler stands `Opened` or `Refused`; one
-- `Closed` may stand between
abbrev pub is_install : {N : Type 0} → Option (Entry N) → Bool
is_install (Some (Opened handle mask)) = true
is_install (Some (Refused live fault said)) = true
is_install _ = false

abbrev pub is_install_or_close : {N : Type 0} → Option (Entry N) → Bool
is_install_or_close (Some (Closed handle said)) = true
is_install_or_close next = is_install next

abbrev pub Installs : {N : Type 0} → (N → Bool) → ℕ → List (Entry N) → Option (Entry N) → Type 0
Installs says b (Returned event answer said ∷ past) next =
    b ≤ length past → says said ≡ true → is_install_or_close next ≡ true
Installs says b (Closed handle other ∷ Returned event answer said ∷ past) next =
    b ≤ length past → says said ≡ true → is_install next ≡ true
Installs says b _ next = Unit {0}

-- from number b on each entry of the past goes by turns, if this stands after it
abbrev pub TurnsBefore : {N : Type 0} → (Upcall → Deed → Type 0) → (N → Bool) → ℕ → List (Entry N)
    → Option (Entry N) → Type 0
TurnsBefore may says b [] next = Unit {0}
TurnsBefore may says b (e ∷ past) next =
    Installs says b (e ∷ past) next × (b ≤ length past → IsByTurn may past e)
    × TurnsBefore may says b past (Some e)

-- the first entry, if there is one
abbrev first_of : {N : Type 0} → List (Entry N) → Option (Entry N)
first_of [] = None
first_of (e ∷ later) = Some e

module _ {H E N : Type 0} (means : Handling H E N) (t : Terms) (b : ℕ) where
  acts : (past : List (Entry N)) (deed : Deed) → MayHere means t past deed
      → ActsBehind (means.may t) past deed
  acts past deed m = record {
    number = m.number;
    event = m.event;
    settled = m.returned;
    is = m.is;
    allowed = m.may;
  }

  by_turn : (e : Entry N) (past later : List (Entry N)) → GoesByTurn means t b past e later
      → IsByTurn (means.may t) past e
  by_turn (Suspended handle) past later g = g
  by_turn (Resumed handle) past later g = g
  by_turn (Removed handle) past later g = g
  by_turn (Opened handle mask) past later g = (g.0, acts past (Installing mask g.0) g.2)
  by_turn (Refused live fault said) past later g = (g.0, g.1, acts past (Installing g.0 g.1) g.2)
  by_turn (Masked handle mask) past later g = acts past Masking g
  by_turn (Cancelled timer) past later g = acts past Cancelling g
  by_turn Ended past later g = acts past Stopping g
  by_turn _ past later g = tt

  installed : (later : List (Entry N)) → IsOfferBehind later → is_install (first_of later) ≡ true
  installed [] h = absurd h
  installed (Opened handle mask ∷ later) h = refl
  installed (Refused live fault said ∷ later) h = refl
  installed (_ ∷ later) h = absurd h

  offered_or_closed : (later : List (Entry N)) → OffersBehind later
      → is_install_or_close (first_of later) ≡ true
  offered_or_closed [] h = absurd h
  offered_or_closed (Closed handle said ∷ later) h = refl
  offered_or_closed (Opened handle mask ∷ later) h = refl
  offered_or_closed (Refused live fault said ∷ later) h = refl
  offered_or_closed (_ ∷ later) h = absurd h

  -- what stands after a `Returned`, or after the `Closed` after one
  behind_returned : (later : List (Entry N)) (said : N)
      → (means.installs said ≡ true → OffersBehind later) → means.installs said ≡ true
      → is_install_or_close (first_of later) ≡ true
  behind_returned later said h s = offered_or_closed later (h s)

  module _ (h : List (Entry N)) (turned : DispatchedByTurns means t b h) where
    here : (past : List (Entry N)) (e : Entry N) (later : List (Entry N))
        → h ≡ reverse past ++ e ∷ later → b ≤ length past → GoesByTurn means t b past e later
    here past e later is long =
        subst (λ (p : List (Entry N)). GoesByTurn means t b p e later) (reverse-reverse past)
        (turned (reverse past) e later is (subst (λ (n : ℕ). b ≤ n) (sym (length-reverse past))
        long))

    moved : (e : Entry N) (past later : List (Entry N)) → h ≡ reverse (e ∷ past) ++ later
        → h ≡ reverse past ++ e ∷ later
    moved e past later is = is ∙ ap (λ (l : List (Entry N)). l ++ later)
        (reverse-append (e ∷ []) past) ∙ append_assoc (reverse past) (e ∷ []) later

    installs_behind : (past later : List (Entry N)) → h ≡ reverse past ++ later
        → Installs means.installs b past (first_of later)
    installs_behind [] later is = tt
    installs_behind (Returned event answer said ∷ past) later is = λ long.
        behind_returned later said (here past (Returned event answer said) later
        (moved (Returned event answer said) past later is) long)
    installs_behind (Closed handle other ∷ (Returned event answer said ∷ past)) later is = λ long s.
        installed later (here past (Returned event answer said) (Closed handle other ∷ later)
        (moved (Returned event answer said) past (Closed handle other ∷ later)
        (moved (Closed handle other) (Returned event answer said ∷ past) later is)) long s)
    installs_behind (Closed handle other ∷ []) later is = tt
    installs_behind (Closed handle other ∷ (_ ∷ past)) later is = tt
    installs_behind (_ ∷ past) later is = tt

    before_all : (past later : List (Entry N)) → h ≡ reverse past ++ later
        → TurnsBefore (means.may t) means.installs b past (first_of later)
    before_all [] later is = tt
    before_all (e ∷ past) later is = (
      installs_behind (e ∷ past) later is,
      λ long. by_turn e past later (here past e later (moved e past later is) long),
      before_all past (e ∷ later) (moved e past later is),
    )

    -- the whole, read backwards
    pub read_backwards : TurnsBefore (means.may t) means.installs b (past_of h) None
    read_backwards = before_all (reverse h) []
        (sym (reverse-reverse h) ∙ sym (append-nil (reverse (reverse h))))

-- ---- a run of handlers that ask for no more, and whose notes install as others

module _ {N : Type 0} (may may' : Upcall → Deed → Type 0) (says says' : N → Bool) (b : ℕ)
    (asks : (up : Upcall) (deed : Deed) → may up deed → may' up deed)
    (same : (said : N) → says said ≡ says' said) where
  acts_so : (past : List (Entry N)) (deed : Deed) → ActsBehind may past deed
      → ActsBehind may' past deed
  acts_so past deed a = record {
    number = a.number;
    event = a.event;
    settled = a.settled;
    is = a.is;
    allowed = asks a.event.upcall deed a.allowed;
  }

  by_turn_so : (past : List (Entry N)) (e : Entry N) → IsByTurn may past e → IsByTurn may' past e
  by_turn_so past (Suspended handle) h = h
  by_turn_so past (Resumed handle) h = h
  by_turn_so past (Removed handle) h = h
  by_turn_so past (Opened handle mask) h = (h.0, acts_so past (Installing mask h.0) h.1)
  by_turn_so past (Refused live fault said) h = (h.0, h.1, acts_so past (Installing h.0 h.1) h.2)
  by_turn_so past (Masked handle mask) h = acts_so past Masking h
  by_turn_so past (Cancelled timer) h = acts_so past Cancelling h
  by_turn_so past Ended h = acts_so past Stopping h
  by_turn_so past _ h = tt

  installs_so : (past : List (Entry N)) (next : Option (Entry N)) → Installs says b past next
      → Installs says' b past next
  installs_so [] next h = tt
  installs_so (Returned event answer said ∷ past) next h = λ long s. h long (same said ∙ s)
  installs_so (Closed handle other ∷ (Returned event answer said ∷ past)) next h =
      λ long s. h long (same said ∙ s)
  installs_so (Closed handle other ∷ []) next h = tt
  installs_so (Closed handle other ∷ (_ ∷ past)) next h = tt
  installs_so (_ ∷ past) next h = tt

  pub turns_so : (past : List (Entry N)) (next : Option (Entry N))
      → TurnsBefore may says b past next → TurnsBefore may' says' b past next
  turns_so [] next h = tt
  turns_so (e ∷ past) next h = (
    installs_so (e ∷ past) next h.0,
    λ long. by_turn_so past e (h.1 long),
    turns_so past (Some e) h.2,
  )
