-- Each connection that was accepted was registered or refused.
use Rattle.std.proofs.Common.{ℕ, suc, ◌≡◌, ◌∙◌, ◌+◌, ◌<◌, ◌⊎◌, inl, inr, Bool, true, List, [], ◌∷◌}
use Rattle.std.proofs.Common.{refl, ap, arith, Option, Some, ⊎_elim}
use Rattle.std.proofs.lemmas.Bool.{cases_eq}
use Rattle.laws_script_runs.specs.ev_types.specs.declared.upcall.Upcall.{Upcall}
use Rattle.laws_script_runs.specs.ev_base.specs.Terms.{AtConnection}
use Rattle.laws_script_runs.specs.reactor_journal.specs.declared.entry.Entry.{Entry}
use Rattle.laws_script_runs.specs.reactor_journal.specs.declared.entry.Entry.TheVariants.{Opened}
use Rattle.laws_script_runs.specs.reactor_journal.specs.declared.entry.Entry.TheVariants.{Scheduled}
use Rattle.laws_script_runs.specs.reactor_journal.specs.declared.entry.Entry.TheVariants.{Cancelled}
use Rattle.laws_script_runs.specs.reactor_journal.specs.declared.entry.Entry.TheVariants.{Polled}
use Rattle.laws_script_runs.specs.reactor_journal.specs.declared.entry.Entry.TheVariants.{Due}
use Rattle.laws_script_runs.specs.reactor_journal.specs.declared.entry.Entry.TheVariants.{Ready}
use Rattle.laws_script_runs.specs.reactor_journal.specs.declared.entry.Entry.TheVariants.{Posted}
use Rattle.laws_script_runs.specs.reactor_journal.specs.declared.entry.Entry.TheVariants.{Stale}
use Rattle.laws_script_runs.specs.reactor_journal.specs.declared.entry.Entry.TheVariants.{Started}
use Rattle.laws_script_runs.specs.reactor_journal.specs.declared.entry.Entry.TheVariants.{Returned}
use Rattle.laws_script_runs.specs.reactor_journal.specs.declared.entry.Entry.TheVariants.{Masked}
use Rattle.laws_script_runs.specs.reactor_journal.specs.declared.entry.Entry.TheVariants.{Suspended}
use Rattle.laws_script_runs.specs.reactor_journal.specs.declared.entry.Entry.TheVariants.{Resumed}
use Rattle.laws_script_runs.specs.reactor_journal.specs.declared.entry.Entry.TheVariants.{Refused}
use Rattle.laws_script_runs.specs.reactor_journal.specs.declared.entry.Entry.TheVariants.{Removed}
use Rattle.laws_script_runs.specs.reactor_journal.specs.declared.entry.Entry.TheVariants.{Closed}
use Rattle.laws_script_runs.specs.reactor_journal.specs.declared.entry.Entry.TheVariants.{Ended}
use Rattle.laws_script_runs.specs.reactor_model.specs.Handling.{Deed}
use Rattle.laws_script_runs.specs.acceptor.specs.Servers.{is_accepted as says_accepted}
use Rattle.laws_script_runs.specs.log_handler.specs.declared.note.ServerNote.{ServerNote}
use Rattle.laws_script_runs.specs.log_handler.specs.declared.note.ServerNote.TheVariants as note
use Rattle.laws_script_runs.specs.laws_script_told.specs.Told.{end_offered}
use Rattle.laws_script_runs.specs.Connections.{accepted}
use Rattle.laws_script_runs.specs.Runs.{is_accepted, note_settled}
use Rattle.laws_script_runs.specs.Steps.{EachStep}
use Rattle.laws_script_runs.proofs.ByTurns.{TurnsBefore}
use Rattle.laws_script_runs.proofs.Numbering.{IsNumbered, TurnNext, owed, not_owed, closed_owed}
use Rattle.laws_script_runs.proofs.Standing.{OpenedFor, accepts_last, accepted_total}
use Rattle.laws_script_complete.proofs.Playing.{RefusedFor}

-- it was registered, or refused, or it is the last and is owed
abbrev pub Came : List (Entry ServerNote) → ℕ → Type 0
Came past c = ((x : ℕ) × OpenedFor past c x)
    ⊎ (RefusedFor past (AtConnection c) ⊎ ((owed past ≡ 1) × (accepted past ≡ c + 1)))

pub no_debt : (past : List (Entry ServerNote)) → owed past ≡ 0 → owed past ≡ 1 → ⊥
no_debt past h k = omega (arith, h, k)

-- an entry that registers, refuses and accepts none
plain : (e : Entry ServerNote) (past : List (Entry ServerNote)) (c : ℕ)
    → ((x : ℕ) → OpenedFor past c x → OpenedFor (e ∷ past) c x)
    → (RefusedFor past (AtConnection c) → RefusedFor (e ∷ past) (AtConnection c))
    → owed past ≡ 0 → Came past c → Came (e ∷ past) c
plain e past c o r none (inl h) = inl (h.0, o h.0 h.1)
plain e past c o r none (inr (inl h)) = inr (inl (r h))
plain e past c o r none (inr (inr h)) = absurd (no_debt past none h.0)

first_accepts : (e : Entry ServerNote) → IsNumbered [] e → accepted (e ∷ []) ≡ 0
first_accepts (Opened handle mask) h = refl
first_accepts _ h = absurd h

module _ (may : Upcall → Deed → Type 0) where
  came_turn : (event : _) (answer : _) (said : ServerNote) (d : Entry ServerNote)
      (past : List (Entry ServerNote)) (c : ℕ) → EachStep IsNumbered (d ∷ past)
      → TurnNext (d ∷ past) (Returned event answer said)
      → (c < accepted (d ∷ past) → Came (d ∷ past) c)
      → c < accepted (Returned event answer said ∷ (d ∷ past))
      → Came (Returned event answer said ∷ (d ∷ past)) c
  came_turn event answer (note.Accepted k) d past c n turn rest l = ⊎_elim
      (λ (is : c ≡ accepted (d ∷ past)). inr (inr (refl, one_more is)))
      (λ (ne : c ≡ accepted (d ∷ past) → ⊥).
      plain (Returned event answer (note.Accepted k)) (d ∷ past) c (λ x o. o) (λ r. r)
      (not_owed (d ∷ past) (Returned event answer (note.Accepted k)) n turn refl)
      (rest (below ne l)))
      (cases_eq c (accepted (d ∷ past)))
    where
      one_more : c ≡ accepted (d ∷ past) → suc (accepted (d ∷ past)) ≡ c + 1
      one_more is = omega (arith, is)

      below : (c ≡ accepted (d ∷ past) → ⊥) → c < suc (accepted (d ∷ past))
          → c < accepted (d ∷ past)
      below ne l = omega (arith, ne, l)
  came_turn event answer note.NoneWaiting d past c n turn rest l =
      plain (Returned event answer note.NoneWaiting) (d ∷ past) c (λ x o. o) (λ r. r)
      (not_owed (d ∷ past) (Returned event answer note.NoneWaiting) n turn refl) (rest l)
  came_turn event answer note.ListenerFailed d past c n turn rest l =
      plain (Returned event answer note.ListenerFailed) (d ∷ past) c (λ x o. o) (λ r. r)
      (not_owed (d ∷ past) (Returned event answer note.ListenerFailed) n turn refl) (rest l)
  came_turn event answer note.ListenerShut d past c n turn rest l =
      plain (Returned event answer note.ListenerShut) (d ∷ past) c (λ x o. o) (λ r. r)
      (not_owed (d ∷ past) (Returned event answer note.ListenerShut) n turn refl) (rest l)
  came_turn event answer (note.Piece conn took records) d past c n turn rest l =
      plain (Returned event answer (note.Piece conn took records)) (d ∷ past) c (λ x o. o) (λ r. r)
      (not_owed (d ∷ past) (Returned event answer (note.Piece conn took records)) n turn refl)
      (rest l)
  came_turn event answer (note.Finished conn end) d past c n turn rest l =
      plain (Returned event answer (note.Finished conn end)) (d ∷ past) c (λ x o. o) (λ r. r)
      (not_owed (d ∷ past) (Returned event answer (note.Finished conn end)) n turn refl) (rest l)

  -- the connection that is owed is offered here
  offered_one : (past : List (Entry ServerNote)) (c : ℕ) → EachStep IsNumbered past
      → is_accepted (note_settled past) ≡ true → accepted past ≡ c + 1
      → end_offered past ≡ AtConnection c
  offered_one past c n h last =
      let a = accepts_last past n h in
      let total : accepted past ≡ a.k + 1 = accepted_total past a.k n a.offers h in
      let same : a.k ≡ c = omega (arith, total, last) in
      a.offers ∙ ap AtConnection same

  came_opened : (handle : _) (mask : _) (past : List (Entry ServerNote)) (c : ℕ)
      → EachStep IsNumbered past → is_accepted (note_settled past) ≡ true → Came past c
      → Came (Opened handle mask ∷ past) c
  came_opened handle mask past c n h (inl o) = inl (o.0, inr o.1)
  came_opened handle mask past c n h (inr (inl r)) = inr (inl r)
  came_opened handle mask past c n h (inr (inr w)) =
      inl (handle.0, inl (refl, offered_one past c n h w.1))

  came_refused : (live : _) (fault : Bool) (said : ServerNote) (past : List (Entry ServerNote))
      (c : ℕ) → EachStep IsNumbered past → is_accepted (note_settled past) ≡ true → Came past c
      → Came (Refused live fault said ∷ past) c
  came_refused live fault said past c n h (inl o) = inl o
  came_refused live fault said past c n h (inr (inl r)) = inr (inl (inr r))
  came_refused live fault said past c n h (inr (inr w)) =
      inr (inl (inl (offered_one past c n h w.1)))

  came_closed : (handle : _) (other : ServerNote) (past : List (Entry ServerNote)) (c : ℕ)
      → EachStep IsNumbered past → TurnNext past (Closed handle other) → Came past c
      → Came (Closed handle other ∷ past) c
  came_closed handle other past c n turn (inl o) = inl o
  came_closed handle other past c n turn (inr (inl r)) = inr (inl r)
  came_closed handle other past c n turn (inr (inr w)) =
      inr (inr (closed_owed past handle other n turn ∙ w.0, w.1))

  pub came : (past : List (Entry ServerNote)) (next : Option (Entry ServerNote))
      → EachStep IsNumbered past → TurnsBefore may says_accepted 1 past next → (c : ℕ)
      → c < accepted past → Came past c
  came [] next n turns c l = absurd (omega (arith, l))
  came (e ∷ []) next n turns c l = let none = first_accepts e n.0 in
      absurd (below c (accepted (e ∷ [])) none l)
    where
      below : (a b : ℕ) → b ≡ 0 → a < b → ⊥
      below a b h k = omega (arith, h, k)
  came (Returned event answer said ∷ (d ∷ past)) next n turns c l =
      came_turn event answer said d past c n.1 turns.2.0
      (λ h. came (d ∷ past) (Some (Returned event answer said)) n.1 turns.2 c h) l
  came (Opened handle mask ∷ (d ∷ past)) next n turns c l =
      came_opened handle mask (d ∷ past) c n.1 n.0.0
      (came (d ∷ past) (Some (Opened handle mask)) n.1 turns.2 c l)
  came (Refused live fault said ∷ (d ∷ past)) next n turns c l =
      came_refused live fault said (d ∷ past) c n.1 n.0
      (came (d ∷ past) (Some (Refused live fault said)) n.1 turns.2 c l)
  came (Closed handle other ∷ (d ∷ past)) next n turns c l =
      came_closed handle other (d ∷ past) c n.1 turns.2.0
      (came (d ∷ past) (Some (Closed handle other)) n.1 turns.2 c l)
  came (Scheduled timer handle first every ∷ (d ∷ past)) next n turns c l =
      plain (Scheduled timer handle first every) (d ∷ past) c (λ x o. o) (λ r. r)
      (not_owed (d ∷ past) (Scheduled timer handle first every) n.1 turns.2.0 refl)
      (came (d ∷ past) (Some (Scheduled timer handle first every)) n.1 turns.2 c l)
  came (Cancelled timer ∷ (d ∷ past)) next n turns c l =
      plain (Cancelled timer) (d ∷ past) c (λ x o. o) (λ r. r)
      (not_owed (d ∷ past) (Cancelled timer) n.1 turns.2.0 refl)
      (came (d ∷ past) (Some (Cancelled timer)) n.1 turns.2 c l)
  came (Polled moment ∷ (d ∷ past)) next n turns c l =
      plain (Polled moment) (d ∷ past) c (λ x o. o) (λ r. r)
      (not_owed (d ∷ past) (Polled moment) n.1 turns.2.0 refl)
      (came (d ∷ past) (Some (Polled moment)) n.1 turns.2 c l)
  came (Due timer ∷ (d ∷ past)) next n turns c l =
      plain (Due timer) (d ∷ past) c (λ x o. o) (λ r. r)
      (not_owed (d ∷ past) (Due timer) n.1 turns.2.0 refl)
      (came (d ∷ past) (Some (Due timer)) n.1 turns.2 c l)
  came (Ready handle kind ∷ (d ∷ past)) next n turns c l =
      plain (Ready handle kind) (d ∷ past) c (λ x o. o) (λ r. r)
      (not_owed (d ∷ past) (Ready handle kind) n.1 turns.2.0 refl)
      (came (d ∷ past) (Some (Ready handle kind)) n.1 turns.2 c l)
  came (Posted handle kind from seq ∷ (d ∷ past)) next n turns c l =
      plain (Posted handle kind from seq) (d ∷ past) c (λ x o. o) (λ r. r)
      (not_owed (d ∷ past) (Posted handle kind from seq) n.1 turns.2.0 refl)
      (came (d ∷ past) (Some (Posted handle kind from seq)) n.1 turns.2 c l)
  came (Stale handle from seq ∷ (d ∷ past)) next n turns c l =
      plain (Stale handle from seq) (d ∷ past) c (λ x o. o) (λ r. r)
      (not_owed (d ∷ past) (Stale handle from seq) n.1 turns.2.0 refl)
      (came (d ∷ past) (Some (Stale handle from seq)) n.1 turns.2 c l)
  came (Started event ∷ (d ∷ past)) next n turns c l =
      plain (Started event) (d ∷ past) c (λ x o. o) (λ r. r)
      (not_owed (d ∷ past) (Started event) n.1 turns.2.0 refl)
      (came (d ∷ past) (Some (Started event)) n.1 turns.2 c l)
  came (Masked handle mask ∷ (d ∷ past)) next n turns c l =
      plain (Masked handle mask) (d ∷ past) c (λ x o. o) (λ r. r)
      (not_owed (d ∷ past) (Masked handle mask) n.1 turns.2.0 refl)
      (came (d ∷ past) (Some (Masked handle mask)) n.1 turns.2 c l)
  came (Suspended handle ∷ (d ∷ past)) next n turns c l =
      plain (Suspended handle) (d ∷ past) c (λ x o. o) (λ r. r)
      (not_owed (d ∷ past) (Suspended handle) n.1 turns.2.0 refl)
      (came (d ∷ past) (Some (Suspended handle)) n.1 turns.2 c l)
  came (Resumed handle ∷ (d ∷ past)) next n turns c l =
      plain (Resumed handle) (d ∷ past) c (λ x o. o) (λ r. r)
      (not_owed (d ∷ past) (Resumed handle) n.1 turns.2.0 refl)
      (came (d ∷ past) (Some (Resumed handle)) n.1 turns.2 c l)
  came (Removed handle ∷ (d ∷ past)) next n turns c l =
      plain (Removed handle) (d ∷ past) c (λ x o. o) (λ r. r)
      (not_owed (d ∷ past) (Removed handle) n.1 turns.2.0 refl)
      (came (d ∷ past) (Some (Removed handle)) n.1 turns.2 c l)
  came (Ended ∷ (d ∷ past)) next n turns c l =
      plain Ended (d ∷ past) c (λ x o. o) (λ r. r) (not_owed (d ∷ past) Ended n.1 turns.2.0 refl)
      (came (d ∷ past) (Some Ended) n.1 turns.2 c l)
