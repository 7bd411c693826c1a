-- What a net's ends have to do with the journal (POSA2, Reactor: Synchronous Event Demultiplexer).
use Rattle.std.specs.Prelude.{ℕ, ◌≡◌, Bool, false, List, [], ◌∷◌, map, reverse, Option, Some, None}
use Rattle.reactor_summary.specs.ev_types.specs.declared.upcall.Mask.{Mask}
use Rattle.reactor_summary.specs.ev_types.specs.declared.upcall.Why.TheVariants.{
  Refused as ByRefusal,
}
use Rattle.ev_base.specs.Terms.{Terms}
use Rattle.reactor_model.specs.reactor_journal.specs.declared.entry.Entry.{Entry}
use Rattle.reactor_model.specs.reactor_journal.specs.declared.entry.Entry.TheVariants.{Closed}
use Rattle.reactor_model.specs.reactor_journal.specs.declared.entry.Entry.TheVariants.{Refused}
use Rattle.reactor_model.specs.reactor_journal.specs.Past.{had, origin_of, reason_of, offered_here}
use Rattle.reactor_summary.specs.Summary.{Summary}
use Rattle.reactor_summary.specs.declared.parts.LiveHandle.{LiveHandle}
use Rattle.reactor_model.specs.Handling.{Handling}

-- if a list is told, it has P
abbrev pub WhereTold : {A : Type 0} → (A → Type 0) → Option A → Type 0
WhereTold P None = Unit {0}
WhereTold P (Some told) = P told

-- there is something with P; and if it is told, it is this
abbrev pub ThereIs : {A : Type 0} → (A → Type 0) → Option A → Type 0
ThereIs {A} P told = (a : A) × P a × WhereTold (λ b. b ≡ a) told

-- the live handles, the latest opened first, and their masks
abbrev pub number_of : LiveHandle → ℕ
number_of h = h.handle.0

abbrev pub mask_entry : LiveHandle → ℕ × Mask
mask_entry h = (h.handle.0, h.mask)

abbrev pub live_numbers : Summary → List ℕ
live_numbers s = map number_of (reverse s.handles)

abbrev pub live_masks : Summary → List (ℕ × Mask)
live_masks s = map mask_entry (reverse s.handles)

-- the handle and the note of a `Closed`; the note of a `Refused`
abbrev pub closing : {N : Type 0} → Entry N → Option (ℕ × N)
closing (Closed handle note) = Some (handle.0, note)
closing _ = None

abbrev pub refusing : {N : Type 0} → Entry N → Option N
refusing (Refused live fault note) = Some note
refusing _ = None

-- One end was retired for each `Closed`, the latest first: what the handler leaves that had what it
-- had, closed for the reason and with the note that the journal has. From its `Closed` on a handler
-- has no turn more, so this is all it had.
abbrev pub RetiredBy : {H E N : Type 0} → Handling H E N → Terms → Option (ℕ × N) → List (Entry N)
    → List (ℕ × E) → (List (ℕ × E) → Type 0) → Type 0
RetiredBy means t None past ends rest = rest ends
RetiredBy means t (Some c) past [] rest = ⊥
RetiredBy means t (Some c) past (r ∷ ends) rest =
    ((r.0 ≡ c.0) × means.gone t (origin_of past c.0) r.1 (had past c.0) (reason_of past c.0) c.1)
    × rest ends

abbrev pub AreRetired : {H E N : Type 0} → Handling H E N → Terms → List (Entry N) → List (ℕ × E)
    → Type 0
AreRetired means t [] ends = ends ≡ []
AreRetired means t (e ∷ past) ends =
    RetiredBy means t (closing e) past ends (λ rest. AreRetired means t past rest)

-- One end was turned away for each `Refused`, the latest first: what a handler leaves that had
-- nothing.
abbrev pub TurnedAwayBy : {H E N : Type 0} → Handling H E N → Terms → Option N → List (Entry N)
    → List E → (List E → Type 0) → Type 0
TurnedAwayBy means t None past ends rest = rest ends
TurnedAwayBy means t (Some note) past [] rest = ⊥
TurnedAwayBy means t (Some note) past (end ∷ ends) rest =
    means.gone t (offered_here past) end [] ByRefusal note × rest ends

abbrev pub AreTurnedAway : {H E N : Type 0} → Handling H E N → Terms → List (Entry N) → List E
    → Type 0
AreTurnedAway means t [] ends = ends ≡ []
AreTurnedAway means t (e ∷ past) ends =
    TurnedAwayBy means t (refusing e) past ends (λ rest. AreTurnedAway means t past rest)
