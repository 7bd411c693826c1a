-- Two serial journals of one script: after the same entries stands the same entry, and one ends
-- where the other does.
use Rattle.std.proofs.Common.{◌≡◌, ◌∙◌, ℕ, Bool, true, List, [], ◌∷◌, ◌++◌, Option, Some, None}
use Rattle.std.proofs.Common.{refl, sym, subst, ap, append_assoc, append-nil, reverse}
use Rattle.std.proofs.lemmas.Bool.{false≢true, and_parts, both_ways, eqb-true, eq-eqb}
use Rattle.std.proofs.lemmas.List.{reverse-append, reverse-reverse}
use Rattle.laws_script_runs.specs.ev_types.specs.declared.upcall.Answer.{Answer}
use Rattle.laws_script_runs.specs.ev_types.specs.declared.upcall.Answer.TheVariants.{Keep, Again}
use Rattle.laws_script_runs.specs.ev_types.specs.declared.upcall.Answer.TheVariants.{Close}
use Rattle.laws_script_runs.specs.ev_types.specs.declared.upcall.Handle.{Handle}
use Rattle.laws_script_runs.specs.ev_types.specs.declared.upcall.Mask.{Mask}
use Rattle.laws_script_runs.specs.ev_types.specs.declared.upcall.Upcall.{Upcall}
use Rattle.laws_script_runs.specs.reactor_journal.specs.Event.{Event}
use Rattle.laws_script_runs.specs.reactor_journal.specs.declared.entry.Entry.{Entry}
use Rattle.laws_script_runs.specs.reactor_journal.specs.declared.entry.Entry.TheVariants.{Opened}
use Rattle.laws_script_runs.specs.reactor_journal.specs.declared.entry.Entry.TheVariants.{Scheduled}
use Rattle.laws_script_runs.specs.reactor_journal.specs.declared.entry.Entry.TheVariants.{Started}
use Rattle.laws_script_runs.specs.reactor_journal.specs.declared.entry.Entry.TheVariants.{Returned}
use Rattle.laws_script_runs.specs.reactor_journal.specs.declared.entry.Entry.TheVariants.{Refused}
use Rattle.laws_script_runs.specs.reactor_journal.specs.declared.entry.Entry.TheVariants.{Removed}
use Rattle.laws_script_runs.specs.reactor_journal.specs.declared.entry.Entry.TheVariants.{Closed}
use Rattle.laws_script_runs.specs.reactor_journal.specs.Past.{past_of, had, origin_of, offered_here}
use Rattle.laws_script_runs.specs.reactor_journal.specs.Past.{opened, scheduled, live, ended}
use Rattle.laws_script_runs.specs.reactor_journal.specs.Past.{ended_itself, event_at, was_opened}
use Rattle.laws_script_runs.specs.reactor_journal.specs.Past.{was_closed}
use Rattle.laws_script_runs.specs.reactor_journal.proofs.Alive.{alive_was_opened, opened_below}
use Rattle.laws_script_runs.specs.reactor_journal.proofs.Picking.{all_below-at}
use Rattle.laws_script_runs.specs.reactor_journal.proofs.Turning.{past_split}
use Rattle.laws_script_runs.specs.reactor_journal.proofs.Basics.{may_fits}
use Rattle.laws_script_runs.specs.reactor_journal.proofs.Closing.{closing, closed_gone, dead}
use Rattle.laws_script_runs.specs.event_script.specs.Script.{ScriptGroup, steps_of}
use Rattle.laws_script_runs.specs.log_handler.specs.declared.note.ServerNote.{ServerNote}
use Rattle.laws_script_runs.specs.log_handler.specs.declared.note.ServerNote.TheVariants as note
use Rattle.laws_script_runs.specs.Connections.{HadMemory}
use Rattle.laws_script_runs.specs.Runs.{is_closing}
use Rattle.laws_script_runs.proofs.Settling as settling
use Rattle.laws_script_serial.specs.Serial.{Serial, IsInstalled, IsTimedBy, OnlyClosesUp, has_room}
use Rattle.laws_script_serial.proofs.Entering.{Entrance, enters, has_all}
use Rattle.laws_script_serial.proofs.Leaving.{one_turn, same_closing, same_refusal}
use Rattle.laws_script_serial.proofs.Moves.{same_free}
use Rattle.laws_script_serial.proofs.Quiet.{same_handle}

same_number : (a b : Handle) → a.0 ≡ b.0 → a ≡ b
same_number a b h = ap (λ (n : ℕ). record { 0 = n }) h

of_one : (a : Option Event) (x y : ℕ) (u v : Upcall) → a ≡ Some (record { handle = x; upcall = u })
    → a ≡ Some (record { handle = y; upcall = v }) → (x ≡ y) × (u ≡ v)
of_one a x y u v h k = by_some (sym h ∙ k)
  where
    by_some : ◌≡◌ {A = Option Event} (Some (record { handle = x; upcall = u }))
        (Some (record { handle = y; upcall = v })) → (x ≡ y) × (u ≡ v)
    by_some q = (
      ap (λ (o : Option Event). elim o [ None ↦ x | Some e ↦ e.handle ]) q,
      ap (λ (o : Option Event). elim o [ None ↦ u | Some e ↦ e.upcall ]) q,
    )

module _ (most : ℕ) (idle : Option ℕ) (groups : List ScriptGroup) where
  abbrev Enters : List (Entry ServerNote) → Entry ServerNote → List (Entry ServerNote) → Type 0
  Enters later e past = Entrance most idle groups later e past

  -- ---- a turn

  same_turn : (later other : List (Entry ServerNote)) (past : List (Entry ServerNote)) (event : ℕ)
      (a b : Answer) (s r : ServerNote)
      → Enters later (Returned event a s) past → Enters other (Returned event b r) past
      → Returned event a s ≡ Returned event b r
  same_turn later other past event a b s r n m =
      let x = settling.turn_of most (later ++ Returned event a s ∷ past) n.legal later past event a
      s refl in
      let y = settling.turn_of most (other ++ Returned event b r ∷ past) m.legal other past event b
      r refl in
      let one = of_one (event_at past event) x.x y.x x.turn.item.upcall y.turn.item.upcall x.turn.of
      y.turn.of in
      let there : had (other ++ Returned event b r ∷ past) x.x
      ≡ (had past x.x ++ y.turn.item ∷ []) ++ y.turn.more =
      subst (λ (z : ℕ). had (other ++ Returned event b r ∷ past) z
      ≡ (had past z ++ y.turn.item ∷ []) ++ y.turn.more) (sym one.0) y.turn.among in
      let same = one_turn (steps_of groups) idle (origin_of past x.x) (had past x.x) _ _ x.turn.item
      y.turn.item x.turn.more y.turn.more x.turn.among there one.1
      (x.turn.began ∙ sym y.turn.began)
      (has_all most idle groups later (Returned event a s) past n x.x x.turn.opened_now)
      (has_all most idle groups other (Returned event b r) past m x.x x.turn.opened_now) in
      ap (λ (answer : Answer). Returned event answer s)
      (sym x.turn.answers ∙ same.0 ∙ y.turn.answers)
      ∙ ap (λ (said : ServerNote). Returned event b said)
      (sym x.turn.notes ∙ same.1 ∙ y.turn.notes)

  behind_start : (later other : List (Entry ServerNote)) (past : List (Entry ServerNote))
      (event : ℕ) (e f : Entry ServerNote)
      → Enters later e (Started event ∷ past) → Enters other f (Started event ∷ past) → e ≡ f
  behind_start later other past event (Returned i a s) (Returned j b r) n m =
      by_number i j (n.settles) (m.settles) n m
    where
      by_number : (i j : ℕ) → i ≡ event → j ≡ event
          → Enters later (Returned i a s) (Started event ∷ past)
          → Enters other (Returned j b r) (Started event ∷ past) → Returned i a s ≡ Returned j b r
      by_number i j p q n m =
          let same : i ≡ j = p ∙ sym q in
          same_turn later other (Started event ∷ past) i a b s r n
          (subst (λ (k : ℕ). Enters other (Returned k b r) (Started event ∷ past)) (sym same) m)
          ∙ ap (λ (k : ℕ). Returned k b r) same
  behind_start later other past event (Returned i a s) _ n m = absurd m.settles
  behind_start later other past event _ f n m = absurd n.settles

  -- ---- a closing

  same_closed : (later other : List (Entry ServerNote)) (past : List (Entry ServerNote))
      (x y : Handle) (s r : ServerNote) → x.0 ≡ y.0
      → Enters later (Closed x s) past → Enters other (Closed y r) past → Closed x s ≡ Closed y r
  same_closed later other past x y s r same n m =
      let q = subst (λ (h : Handle). Enters other (Closed h r) past) (sym (same_number x y same)) m
      in
      ap (λ (said : ServerNote). Closed x said)
      (same_closing (steps_of groups) idle (origin_of past x.0) (had past x.0)
      (ended_itself past x.0) s r n.memory q.memory n.left q.left)
      ∙ ap (λ (h : Handle). Closed h r) (same_number x y same)

  behind_close : (later other : List (Entry ServerNote)) (past : List (Entry ServerNote))
      (event : ℕ) (said : ServerNote) (e f : Entry ServerNote)
      → Enters later e (Returned event Close said ∷ past)
      → Enters other f (Returned event Close said ∷ past) → e ≡ f
  behind_close later other past event said (Closed x s) (Closed y r) n m =
      same_closed later other (Returned event Close said ∷ past) x y s r
      (same_handle x.0 y.0 (event_at past event) n.settles m.settles) n m
  behind_close later other past event said (Closed x s) _ n m = absurd m.settles
  behind_close later other past event said _ f n m = absurd n.settles

  behind_removal : (later other : List (Entry ServerNote)) (past : List (Entry ServerNote))
      (handle : Handle) (e f : Entry ServerNote)
      → Enters later e (Removed handle ∷ past) → Enters other f (Removed handle ∷ past) → e ≡ f
  behind_removal later other past handle (Closed x s) (Closed y r) n m =
      same_closed later other (Removed handle ∷ past) x y s r
      (ap (λ (h : Handle). h.0) (sym n.closes ∙ m.closes)) n m
  behind_removal later other past handle (Closed x s) _ n m = absurd m.closes
  behind_removal later other past handle _ f n m = absurd n.closes

  -- ---- a registration

  number_opened : (later : List (Entry ServerNote)) (past : List (Entry ServerNote))
      (handle : Handle) (mask : Mask) → Enters later (Opened handle mask) past
      → handle.0 ≡ opened past
  number_opened later past handle mask n =
      eqb-true handle.0 (opened past) (and_parts _ _
      (may_fits most past (Opened handle mask) n.may)).0

  installed : (later other : List (Entry ServerNote)) (past : List (Entry ServerNote))
      (e f : Entry ServerNote) → Enters later e past → Enters other f past → IsInstalled most past e
      → IsInstalled most past f → e ≡ f
  installed later other past (Opened x mask) (Opened y other_mask) n m i j =
      ap (λ (h : Handle). Opened h mask)
      (same_number x y (number_opened later past x mask n
      ∙ sym (number_opened other past y other_mask m)))
      ∙ ap (λ (k : Mask). Opened y k) (i.1 ∙ sym j.1)
  installed later other past (Opened x mask) (Refused number fault said) n m i j =
      absurd (both_ways (has_room most past) j.0 i.0)
  installed later other past (Refused number fault said) (Opened y mask) n m i j =
      absurd (both_ways (has_room most past) i.0 j.0)
  installed later other past (Refused number fault said) (Refused number' fault' said') n m i j =
      let a : number ≡ live past = eqb-true number (live past)
      (and_parts _ _ (may_fits most past (Refused number fault said) n.may)).0 in
      let b : number' ≡ live past = eqb-true number' (live past)
      (and_parts _ _ (may_fits most past (Refused number' fault' said') m.may)).0 in
      ap (λ (k : ℕ). Refused k fault said) (a ∙ sym b)
      ∙ ap (λ (k : Bool). Refused number' k said) (i.1 ∙ sym j.1)
      ∙ ap (λ (k : ServerNote). Refused number' fault' k)
      (same_refusal (steps_of groups) idle (offered_here past) said said' n.left m.left)
  installed later other past (Opened x mask) _ n m i j = absurd j
  installed later other past (Refused number fault said) _ n m i j = absurd j
  installed later other past _ f n m i j = absurd i

  -- ---- a timer

  timed : (time : ℕ) (x : ℕ) (later other : List (Entry ServerNote))
      (past older : List (Entry ServerNote)) (e f : Entry ServerNote) → Enters later e past
      → Enters other f past
      → IsTimedBy (Some time) x older e → IsTimedBy (Some time) x older f → e ≡ f
  timed time x later other past older (Scheduled t handle first every)
      (Scheduled t' handle' first' every') n m i j =
      let a : t ≡ scheduled past = eqb-true t (scheduled past)
      (and_parts _ _ (may_fits most past (Scheduled t handle first every) n.may)).0 in
      let b : t' ≡ scheduled past = eqb-true t' (scheduled past)
      (and_parts _ _ (may_fits most past (Scheduled t' handle' first' every') m.may)).0 in
      ap (λ (k : ℕ). Scheduled k handle first every) (a ∙ sym b)
      ∙ ap (λ (h : Handle). Scheduled t' h first every)
      (same_number handle handle' (i.0 ∙ sym j.0))
      ∙ ap (λ (k : ℕ). Scheduled t' handle' k every) (i.1 ∙ sym j.1)
      ∙ ap (λ (k : ℕ). Scheduled t' handle' first' k) (i.2 ∙ sym j.2)
  timed time x later other past older (Scheduled t handle first every) _ n m i j = absurd j
  timed time x later other past older _ f n m i j = absurd i

  behind_opened : (later other : List (Entry ServerNote)) (handle : Handle) (mask : Mask)
      (d : Entry ServerNote) (past : List (Entry ServerNote)) (e f : Entry ServerNote)
      (time : Option ℕ)
      → Enters later e (Opened handle mask ∷ (d ∷ past))
      → Enters other f (Opened handle mask ∷ (d ∷ past)) → IsTimedBy time handle.0 (d ∷ past) e
      → IsTimedBy time handle.0 (d ∷ past) f → e ≡ f
  behind_opened later other handle mask d past e f None n m i j =
      same_free most idle groups later other e f (Opened handle mask ∷ (d ∷ past))
      (record { none_starts = λ k h. h; none_ends = λ k h. h }) n m i j
  behind_opened later other handle mask d past e f (Some time) n m i j =
      timed time handle.0 later other (Opened handle mask ∷ (d ∷ past)) (d ∷ past) e f n m i j

  -- ---- any entry

  behind_turn : (later other : List (Entry ServerNote)) (past : List (Entry ServerNote)) (event : ℕ)
      (answer : Answer) (said : ServerNote) (e f : Entry ServerNote)
      → Enters later e (Returned event answer said ∷ past)
      → Enters other f (Returned event answer said ∷ past) → e ≡ f
  behind_turn later other past event Close said e f n m =
      behind_close later other past event said e f n m
  behind_turn later other past event Keep said e f n m = by_note said n m
    where
      by_note : (said : ServerNote) → Enters later e (Returned event Keep said ∷ past)
          → Enters other f (Returned event Keep said ∷ past) → e ≡ f
      by_note (note.Accepted c) n m = installed later other
          (Returned event Keep (note.Accepted c) ∷ past) e f n m n.installs m.installs
      by_note note.NoneWaiting n m = same_free most idle groups later other e f _
          (record { none_starts = λ k h. h; none_ends = λ k h. h }) n m n.installs m.installs
      by_note note.ListenerFailed n m = same_free most idle groups later other e f _
          (record { none_starts = λ k h. h; none_ends = λ k h. h }) n m n.installs m.installs
      by_note note.ListenerShut n m = same_free most idle groups later other e f _
          (record { none_starts = λ k h. h; none_ends = λ k h. h }) n m n.installs m.installs
      by_note (note.Piece conn took records) n m =
          same_free most idle groups later other e f _
          (record { none_starts = λ k h. h; none_ends = λ k h. h }) n m n.installs m.installs
      by_note (note.Finished conn end) n m =
          same_free most idle groups later other e f _
          (record { none_starts = λ k h. h; none_ends = λ k h. h }) n m n.installs m.installs
  behind_turn later other past event Again said e f n m = by_note said n m
    where
      by_note : (said : ServerNote) → Enters later e (Returned event Again said ∷ past)
          → Enters other f (Returned event Again said ∷ past) → e ≡ f
      by_note (note.Accepted c) n m = installed later other
          (Returned event Again (note.Accepted c) ∷ past) e f n m n.installs m.installs
      by_note note.NoneWaiting n m = same_free most idle groups later other e f _
          (record { none_starts = λ k h. h; none_ends = λ k h. h }) n m n.installs m.installs
      by_note note.ListenerFailed n m = same_free most idle groups later other e f _
          (record { none_starts = λ k h. h; none_ends = λ k h. h }) n m n.installs m.installs
      by_note note.ListenerShut n m = same_free most idle groups later other e f _
          (record { none_starts = λ k h. h; none_ends = λ k h. h }) n m n.installs m.installs
      by_note (note.Piece conn took records) n m =
          same_free most idle groups later other e f _
          (record { none_starts = λ k h. h; none_ends = λ k h. h }) n m n.installs m.installs
      by_note (note.Finished conn end) n m =
          same_free most idle groups later other e f _
          (record { none_starts = λ k h. h; none_ends = λ k h. h }) n m n.installs m.installs

  pub one_next : (later other : List (Entry ServerNote)) (past : List (Entry ServerNote))
      (e f : Entry ServerNote) → Enters later e past → Enters other f past → e ≡ f
  one_next later other [] e f n m = n.installs ∙ sym m.installs
  one_next later other (Started event ∷ past) e f n m = behind_start later other past event e f n m
  one_next later other (Returned event answer said ∷ past) e f n m =
      behind_turn later other past event answer said e f n m
  one_next later other (Removed handle ∷ past) e f n m =
      behind_removal later other past handle e f n m
  one_next later other (Opened handle mask ∷ []) e f n m =
      same_free most idle groups later other e f _
      (record { none_starts = λ k h. h; none_ends = λ k h. h }) n m n.installs m.installs
  one_next later other (Opened handle mask ∷ (d ∷ past)) e f n m =
      behind_opened later other handle mask d past e f idle n m n.installs m.installs
  one_next later other (_ ∷ past) e f n m =
      same_free most idle groups later other e f _
      (record { none_starts = λ k h. h; none_ends = λ k h. h }) n m n.installs m.installs

  -- ---- the end

  -- if all handlers were closed and the reactor was stopped, nothing follows
  none_more : (later : List (Entry ServerNote)) (e : Entry ServerNote)
      (past : List (Entry ServerNote)) → Enters later e past → ended past ≡ true
      → ((x : ℕ) → was_opened past x ≡ true → was_closed past x ≡ true) → ⊥
  none_more later e past n stopped all_closed =
      by_kind e n (closes_something past e n.closes stopped)
    where
      closes_something : (past : List (Entry ServerNote)) (e : Entry ServerNote)
          → OnlyClosesUp past e → ended past ≡ true → is_closing e ≡ true
      closes_something (Removed handle ∷ past) (Closed other said) h stopped = refl
      closes_something (Removed handle ∷ past) _ h stopped = absurd h
      closes_something [] e h stopped = h stopped
      closes_something (_ ∷ past) e h stopped = h stopped

      by_kind : (e : Entry ServerNote) → Enters later e past → is_closing e ≡ true → ⊥
      by_kind (Removed handle) n h =
          let alive = may_fits most past (Removed handle) n.may in
          dead most past handle.0 handle.0 (closed_gone most past handle.0 n.before
          (all_closed handle.0 (alive_was_opened past handle.0 alive)))
          (eq-eqb handle.0 handle.0 refl) alive
      by_kind (Closed handle said) n h =
          let w = closing past handle.0 (may_fits most past (Closed handle said) n.may) in
          both_ways (was_closed past handle.0) w.3 (all_closed handle.0 w.0)
      by_kind _ n h = false≢true h

  -- ---- the whole

  module _ (journal other : List (Entry ServerNote)) (s : Serial most idle groups journal)
      (r : Serial most idle groups other) (memory : HadMemory journal) (memory' : HadMemory other)
    where
      backwards : (past rest : List (Entry ServerNote)) (e : Entry ServerNote)
          → past_of (reverse past ++ e ∷ rest) ≡ past_of rest ++ e ∷ past
      backwards past rest e = past_split (reverse past) rest e
          ∙ ap (λ (p : List (Entry ServerNote)). past_of rest ++ e ∷ p) (reverse-reverse past)

      -- the one ends here, and the other does not
      ends_here : (past rest : List (Entry ServerNote)) (e : Entry ServerNote)
          (a b : List (Entry ServerNote)) → Serial most idle groups a → Serial most idle groups b
          → HadMemory b → a ≡ reverse past ++ [] → b ≡ reverse past ++ e ∷ rest → ⊥
      ends_here past rest e a b x y had is more =
          let here : past_of a ≡ past = ap past_of (is ∙ append-nil (reverse past))
          ∙ reverse-reverse past in
          none_more (past_of rest) e past (enters most idle groups b y had (past_of rest) e past
          (ap past_of more ∙ backwards past rest e)) (sym (ap ended here) ∙ x.stopped)
          (λ h o. subst (λ (p : List (Entry ServerNote)). was_closed p h ≡ true) here
          (all_below-at (opened (past_of a)) (was_closed (past_of a)) h
          (opened_below most (past_of a) h x.legal
          (ap (λ (p : List (Entry ServerNote)). was_opened p h) here ∙ o)) x.closed))

      same_rest : (past a b : List (Entry ServerNote)) → journal ≡ reverse past ++ a
          → other ≡ reverse past ++ b → a ≡ b
      same_rest past [] [] is is' = refl
      same_rest past [] (f ∷ b) is is' =
          absurd (ends_here past b f journal other s r memory' is is')
      same_rest past (e ∷ a) [] is is' = absurd (ends_here past a e other journal r s memory is' is)
      same_rest past (e ∷ a) (f ∷ b) is is' =
          let one : e ≡ f = one_next (past_of a) (past_of b) past e f
          (enters most idle groups journal s memory (past_of a) e past
          (ap past_of is ∙ backwards past a e))
          (enters most idle groups other r memory' (past_of b) f past
          (ap past_of is' ∙ backwards past b f)) in
          let there : other ≡ reverse past ++ e ∷ b =
          is' ∙ ap (λ (g : Entry ServerNote). reverse past ++ g ∷ b) (sym one) in
          ap (λ (l : List (Entry ServerNote)). e ∷ l)
          (same_rest (e ∷ past) a b (is ∙ moved e past a) (there ∙ moved e past b))
          ∙ ap (λ (g : Entry ServerNote). g ∷ b) one
        where
          moved : (e : Entry ServerNote) (past l : List (Entry ServerNote))
              → reverse past ++ e ∷ l ≡ reverse (e ∷ past) ++ l
          moved e past l = sym (append_assoc (reverse past) (e ∷ []) l)
              ∙ sym (ap (λ (p : List (Entry ServerNote)). p ++ l) (reverse-append (e ∷ []) past))

      pub same_journal : journal ≡ other
      same_journal = same_rest [] journal other refl refl
