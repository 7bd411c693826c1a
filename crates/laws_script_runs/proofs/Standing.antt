-- Which handle stands at which end: that of a connection is the one that was registered after its
-- acceptance, and no other.
use Rattle.std.proofs.Common.{ℕ, ◌≡◌, ◌≢◌, ◌∙◌, ◌+◌, ◌≤◌, ◌<◌, ◌⊎◌, inl, inr, true, false, List, []}
use Rattle.std.proofs.Common.{◌∷◌, ◌++◌, refl, sym, ap, arith, Option, Some, None}
use Rattle.std.proofs.lemmas.Bool.{false≢true, and_parts, eqb-true, eq-eqb, ne_eqb}
use Rattle.reactor_model.specs.ev_types.specs.declared.upcall.Handle.{Handle}
use Rattle.reactor_model.specs.ev_types.specs.declared.upcall.Mask.{Mask}
use Rattle.reactor_model.specs.ev_base.specs.Playing.{is_end, end_of_serial}
use Rattle.reactor_model.specs.ev_base.specs.Terms.{StepEnd, AtListener, AtConnection}
use Rattle.reactor_model.specs.reactor_journal.specs.Event.{Origin}
use Rattle.reactor_model.specs.reactor_journal.specs.declared.entry.Entry.{Entry}
use Rattle.reactor_model.specs.reactor_journal.specs.declared.entry.Entry.TheVariants.{Opened}
use Rattle.reactor_model.specs.reactor_journal.specs.declared.entry.Entry.TheVariants.{Scheduled}
use Rattle.reactor_model.specs.reactor_journal.specs.declared.entry.Entry.TheVariants.{Cancelled}
use Rattle.reactor_model.specs.reactor_journal.specs.declared.entry.Entry.TheVariants.{Polled, Due}
use Rattle.reactor_model.specs.reactor_journal.specs.declared.entry.Entry.TheVariants.{Ready}
use Rattle.reactor_model.specs.reactor_journal.specs.declared.entry.Entry.TheVariants.{Posted}
use Rattle.reactor_model.specs.reactor_journal.specs.declared.entry.Entry.TheVariants.{Stale}
use Rattle.reactor_model.specs.reactor_journal.specs.declared.entry.Entry.TheVariants.{Started}
use Rattle.reactor_model.specs.reactor_journal.specs.declared.entry.Entry.TheVariants.{Returned}
use Rattle.reactor_model.specs.reactor_journal.specs.declared.entry.Entry.TheVariants.{Masked}
use Rattle.reactor_model.specs.reactor_journal.specs.declared.entry.Entry.TheVariants.{Suspended}
use Rattle.reactor_model.specs.reactor_journal.specs.declared.entry.Entry.TheVariants.{Resumed}
use Rattle.reactor_model.specs.reactor_journal.specs.declared.entry.Entry.TheVariants.{Refused}
use Rattle.reactor_model.specs.reactor_journal.specs.declared.entry.Entry.TheVariants.{Removed}
use Rattle.reactor_model.specs.reactor_journal.specs.declared.entry.Entry.TheVariants.{Closed}
use Rattle.reactor_model.specs.reactor_journal.specs.declared.entry.Entry.TheVariants.{Ended}
use Rattle.reactor_model.specs.reactor_journal.specs.Past.{opened, offered_here}
use Rattle.reactor_model.specs.reactor_journal.specs.Follow.{may_follow, is_legal}
use Rattle.reactor_model.specs.reactor_journal.proofs.Basics.{may_fits}
use Rattle.laws_script_turns.specs.acceptor.specs.Servers.{read_alone}
use Rattle.laws_script_told.specs.log_handler.specs.declared.note.ServerNote.{ServerNote}
use Rattle.laws_script_told.specs.log_handler.specs.declared.note.ServerNote.TheVariants as note
use Rattle.laws_script_told.specs.log_handler.specs.Connections.{accepted_in}
use Rattle.laws_script_told.specs.Laws.{StandsOnlyAt}
use Rattle.laws_script_told.specs.Told.{end_offered, number_accepted}
use Rattle.laws_script_runs.specs.Connections.{accepted}
use Rattle.laws_script_runs.specs.Runs.{note_settled, is_accepted}
use Rattle.laws_script_runs.specs.Steps.{EachStep}
use Rattle.laws_script_runs.proofs.Numbering.{IsNumbered, NumberOf, settled_number, offered_end}

-- the handler was registered after the acceptance of the connection
abbrev pub OpenedFor : List (Entry ServerNote) → ℕ → ℕ → Type 0
OpenedFor [] c x = ⊥
OpenedFor (Opened handle mask ∷ past) c x =
    ((handle.0 ≡ x) × (end_offered past ≡ AtConnection c)) ⊎ OpenedFor past c x
OpenedFor (e ∷ past) c x = OpenedFor past c x

pub opened_for_later : (later past : List (Entry ServerNote)) (c x : ℕ) → OpenedFor past c x
    → OpenedFor (later ++ past) c x
opened_for_later [] past c x o = o
opened_for_later (Opened handle mask ∷ later) past c x o = inr (opened_for_later later past c x o)
opened_for_later (Scheduled timer handle first every ∷ later) past c x o =
    opened_for_later later past c x o
opened_for_later (Cancelled timer ∷ later) past c x o = opened_for_later later past c x o
opened_for_later (Polled moment ∷ later) past c x o = opened_for_later later past c x o
opened_for_later (Due timer ∷ later) past c x o = opened_for_later later past c x o
opened_for_later (Ready handle kind ∷ later) past c x o = opened_for_later later past c x o
opened_for_later (Posted handle kind from seq ∷ later) past c x o =
    opened_for_later later past c x o
opened_for_later (Stale handle from seq ∷ later) past c x o = opened_for_later later past c x o
opened_for_later (Started event ∷ later) past c x o = opened_for_later later past c x o
opened_for_later (Returned event answer said ∷ later) past c x o = opened_for_later later past c x o
opened_for_later (Masked handle mask ∷ later) past c x o = opened_for_later later past c x o
opened_for_later (Suspended handle ∷ later) past c x o = opened_for_later later past c x o
opened_for_later (Resumed handle ∷ later) past c x o = opened_for_later later past c x o
opened_for_later (Refused live fault said ∷ later) past c x o = opened_for_later later past c x o
opened_for_later (Removed handle ∷ later) past c x o = opened_for_later later past c x o
opened_for_later (Closed handle other ∷ later) past c x o = opened_for_later later past c x o
opened_for_later (Ended ∷ later) past c x o = opened_for_later later past c x o

-- the end that a turn offers whose note accepts a connection
pub end_of_origin : (past : List (Entry ServerNote)) (o : Origin ServerNote) (c : ℕ)
    → offered_here past ≡ Some o → o.note ≡ note.Accepted c → end_offered past ≡ AtConnection c
end_of_origin past o c h is = ap (λ (x : Option (Origin ServerNote)).
    end_of_serial (number_accepted x)) h ∙ ap (λ (n : ServerNote). end_of_serial (accepted_in n)) is

-- ---- what stands before an acceptance

-- the turn that accepted a connection stands last, or before a `Closed` that does
pub record Accepts (past : List (Entry ServerNote)) : Type 0 where
  pub k : ℕ
  pub offers : end_offered past ≡ AtConnection k
  pub before : List (Entry ServerNote)
  pub all_before : accepted before ≡ k
  pub legal_before : (most : ℕ) → is_legal most past ≡ true → is_legal most before ≡ true
  pub numbered : EachStep IsNumbered before
  pub same_opened : opened past ≡ opened before
  pub stands : (x : ℕ) (end : StepEnd) → StandsOnlyAt x end before → StandsOnlyAt x end past
  pub opened_for : (c x : ℕ) → OpenedFor past c x → OpenedFor before c x

pub accepts_last : (past : List (Entry ServerNote)) → EachStep IsNumbered past
    → is_accepted (note_settled past) ≡ true → Accepts past
accepts_last [] n h = absurd (false≢true h)
accepts_last (Returned event answer (note.Accepted k) ∷ []) n h = absurd n.0
accepts_last (Returned event answer (note.Accepted k) ∷ (d ∷ past)) n h = record {
  k = k;
  offers = refl;
  before = d ∷ past;
  all_before = sym n.0;
  legal_before = λ most l. (and_parts
      (may_follow most (d ∷ past) (Returned event answer (note.Accepted k)))
      (is_legal most (d ∷ past)) l).1;
  numbered = n.1;
  same_opened = refl;
  stands = λ x end s. (tt, s);
  opened_for = λ c x o. o;
}
accepts_last (Returned event answer note.NoneWaiting ∷ past) n h = absurd (false≢true h)
accepts_last (Returned event answer note.ListenerFailed ∷ past) n h = absurd (false≢true h)
accepts_last (Returned event answer note.ListenerShut ∷ past) n h = absurd (false≢true h)
accepts_last (Returned event answer (note.Piece conn took records) ∷ past) n h =
    absurd (false≢true h)
accepts_last (Returned event answer (note.Finished conn end) ∷ past) n h = absurd (false≢true h)
accepts_last (Closed handle other ∷ []) n h = absurd (false≢true h)
accepts_last (Closed handle other ∷ (Returned event answer said ∷ past)) n h =
    let a = accepts_last (Returned event answer said ∷ past) n.1 h in
    record {
      k = a.k;
      offers = a.offers;
      before = a.before;
      all_before = a.all_before;
      legal_before = λ most l. a.legal_before most
          (and_parts (may_follow most (Returned event answer said ∷ past) (Closed handle other))
          (is_legal most (Returned event answer said ∷ past)) l).1;
      numbered = a.numbered;
      same_opened = a.same_opened;
      stands = λ x end s. (tt, a.stands x end s);
      opened_for = a.opened_for;
    }
accepts_last (Closed handle other ∷ (_ ∷ past)) n h = absurd (false≢true h)
accepts_last (_ ∷ past) n h = absurd (false≢true h)

-- ---- tests

pub opened_is : (most : ℕ) (past : List (Entry ServerNote)) (handle : Handle) (mask : Mask)
    → is_legal most (Opened handle mask ∷ past) ≡ true → handle.0 ≡ opened past
opened_is most past handle mask legal =
    eqb-true _ _ (and_parts _ _ (may_fits most past (Opened handle mask) (and_parts _ _ legal).0)).0

other_end : (end : StepEnd) (k c : ℕ) → end ≡ AtConnection k → k ≢ c
    → is_end end (AtConnection c) ≡ false
other_end end k c is ne = ap (λ (e : StepEnd). is_end e (AtConnection c)) is ∙ ne_eqb k c ne

same_end : (end : StepEnd) (c : ℕ) → end ≡ AtConnection c → is_end end (AtConnection c) ≡ true
same_end end c is = ap (λ (e : StepEnd). is_end e (AtConnection c)) is ∙ eq-eqb c c refl

never : {A : Type 0} (x y : ℕ) → x ≢ y → x ≡ y → A
never x y ne e = absurd (ne e)

reads_too : (mask : Mask) → mask ≡ read_alone → mask.read ≡ true
reads_too mask h = ap (λ (m : Mask). m.read) h

-- ---- connections

-- a turn that accepts connection k is the last of k + 1 that accept one
pub accepted_total : (p : List (Entry ServerNote)) (k : ℕ) → EachStep IsNumbered p
    → end_offered p ≡ AtConnection k → is_accepted (note_settled p) ≡ true → accepted p ≡ k + 1
accepted_total p k m e h = by_note (note_settled p) refl h (settled_number p m)
  where
    by_note : (said : Option ServerNote) → note_settled p ≡ said → is_accepted said ≡ true
        → NumberOf said p → accepted p ≡ k + 1
    by_note None is h q = absurd (false≢true h)
    by_note (Some (note.Accepted j)) is h q = let same : j ≡ k =
        two (sym (offered_end p j is) ∙ e) in omega (arith, same, q)
      where
        two : AtConnection j ≡ AtConnection k → j ≡ k
        two q = cc
    by_note (Some note.NoneWaiting) is h q = absurd (false≢true h)
    by_note (Some note.ListenerFailed) is h q = absurd (false≢true h)
    by_note (Some note.ListenerShut) is h q = absurd (false≢true h)
    by_note (Some (note.Piece conn took records)) is h q = absurd (false≢true h)
    by_note (Some (note.Finished conn end)) is h q = absurd (false≢true h)

-- whoever was registered for it was so after its acceptance
pub for_accepted : (past : List (Entry ServerNote)) (c x : ℕ) → EachStep IsNumbered past
    → OpenedFor past c x → c < accepted past
for_accepted [] c x n o = absurd o
for_accepted (Opened handle mask ∷ []) c x n (inl o) = absurd (none o.1)
  where
    none : AtListener ≡ AtConnection c → ⊥
    none q = cc
for_accepted (Opened handle mask ∷ []) c x n (inr o) = absurd o
for_accepted (Opened handle mask ∷ (d ∷ past)) c x n (inl o) =
    let a = accepts_last (d ∷ past) n.1 n.0.0 in
    let same : a.k ≡ c = number (sym a.offers ∙ o.1) in
    let before : accepted a.before ≡ a.k = a.all_before in
    let more : accepted (d ∷ past) ≡ a.k + 1 = accepted_total (d ∷ past) a.k n.1 a.offers n.0.0 in
    omega (arith, same, before, more)
  where
    number : {k : ℕ} → AtConnection k ≡ AtConnection c → k ≡ c
    number q = cc
for_accepted (Opened handle mask ∷ (d ∷ past)) c x n (inr o) = for_accepted (d ∷ past) c x n.1 o
for_accepted (Scheduled timer handle first every ∷ past) c x n o = for_accepted past c x n.1 o
for_accepted (Cancelled timer ∷ past) c x n o = for_accepted past c x n.1 o
for_accepted (Polled moment ∷ past) c x n o = for_accepted past c x n.1 o
for_accepted (Due timer ∷ past) c x n o = for_accepted past c x n.1 o
for_accepted (Ready handle kind ∷ past) c x n o = for_accepted past c x n.1 o
for_accepted (Posted handle kind from seq ∷ past) c x n o = for_accepted past c x n.1 o
for_accepted (Stale handle from seq ∷ past) c x n o = for_accepted past c x n.1 o
for_accepted (Started event ∷ past) c x n o = for_accepted past c x n.1 o
for_accepted (Returned event answer said ∷ past) c x n o = let l : c < accepted past =
    for_accepted past c x n.1 o in more said l
  where
    more : (said : ServerNote) → c < accepted past
        → c < accepted (Returned event answer said ∷ past)
    more (note.Accepted k) l = omega (arith, l)
    more note.NoneWaiting l = l
    more note.ListenerFailed l = l
    more note.ListenerShut l = l
    more (note.Piece conn took records) l = l
    more (note.Finished conn end) l = l
for_accepted (Masked handle mask ∷ past) c x n o = for_accepted past c x n.1 o
for_accepted (Suspended handle ∷ past) c x n o = for_accepted past c x n.1 o
for_accepted (Resumed handle ∷ past) c x n o = for_accepted past c x n.1 o
for_accepted (Refused live fault said ∷ past) c x n o = for_accepted past c x n.1 o
for_accepted (Removed handle ∷ past) c x n o = for_accepted past c x n.1 o
for_accepted (Closed handle other ∷ past) c x n o = for_accepted past c x n.1 o
for_accepted (Ended ∷ past) c x n o = for_accepted past c x n.1 o

pub opened_before : (past : List (Entry ServerNote)) (c x most : ℕ) → is_legal most past ≡ true
    → OpenedFor past c x → x < opened past
opened_before [] c x most legal o = absurd o
opened_before (Opened handle mask ∷ past) c x most legal (inl o) = let is =
    opened_is most past handle mask legal in let same = o.0 in omega (arith, is, same)
opened_before (Opened handle mask ∷ past) c x most legal (inr o) = let l =
    opened_before past c x most (and_parts _ _ legal).1 o in omega (arith, l)
opened_before (Scheduled timer handle first every ∷ past) c x most legal o =
    opened_before past c x most (and_parts _ _ legal).1 o
opened_before (Cancelled timer ∷ past) c x most legal o =
    opened_before past c x most (and_parts _ _ legal).1 o
opened_before (Polled moment ∷ past) c x most legal o =
    opened_before past c x most (and_parts _ _ legal).1 o
opened_before (Due timer ∷ past) c x most legal o =
    opened_before past c x most (and_parts _ _ legal).1 o
opened_before (Ready handle kind ∷ past) c x most legal o =
    opened_before past c x most (and_parts _ _ legal).1 o
opened_before (Posted handle kind from seq ∷ past) c x most legal o =
    opened_before past c x most (and_parts _ _ legal).1 o
opened_before (Stale handle from seq ∷ past) c x most legal o =
    opened_before past c x most (and_parts _ _ legal).1 o
opened_before (Started event ∷ past) c x most legal o =
    opened_before past c x most (and_parts _ _ legal).1 o
opened_before (Returned event answer said ∷ past) c x most legal o =
    opened_before past c x most (and_parts _ _ legal).1 o
opened_before (Masked handle mask ∷ past) c x most legal o =
    opened_before past c x most (and_parts _ _ legal).1 o
opened_before (Suspended handle ∷ past) c x most legal o =
    opened_before past c x most (and_parts _ _ legal).1 o
opened_before (Resumed handle ∷ past) c x most legal o =
    opened_before past c x most (and_parts _ _ legal).1 o
opened_before (Removed handle ∷ past) c x most legal o =
    opened_before past c x most (and_parts _ _ legal).1 o
opened_before (Closed handle other ∷ past) c x most legal o =
    opened_before past c x most (and_parts _ _ legal).1 o
opened_before (Ended ∷ past) c x most legal o =
    opened_before past c x most (and_parts _ _ legal).1 o
opened_before (Refused live fault said ∷ past) c x most legal o =
    opened_before past c x most (and_parts _ _ legal).1 o

-- before so many were accepted and registered, none was registered or refused for it
none_yet : (past : List (Entry ServerNote)) (c x most : ℕ) → is_legal most past ≡ true
    → EachStep IsNumbered past → accepted past ≤ c → opened past ≤ x
    → StandsOnlyAt x (AtConnection c) past
none_yet [] c x most legal n a o = tt
none_yet (Opened handle mask ∷ []) c x most legal n a o =
    let is : handle.0 ≡ 0 = opened_is most [] handle mask legal in
    let other : handle.0 ≢ x = (λ e. omega (arith, is, e, o)) in
    ((ne_eqb handle.0 x other, λ e. never handle.0 x other e), tt)
none_yet (Opened handle mask ∷ (d ∷ past)) c x most legal n a o =
    let is : handle.0 ≡ opened (d ∷ past) = opened_is most (d ∷ past) handle mask legal in
    let other : handle.0 ≢ x = (λ e. omega (arith, is, e, o)) in
    let last = accepts_last (d ∷ past) n.1 n.0.0 in
    let total : accepted (d ∷ past) ≡ last.k + 1 =
    accepted_total (d ∷ past) last.k n.1 last.offers n.0.0 in
    let ne : last.k ≢ c = (λ e. omega (arith, total, e, a)) in (
      (
        ne_eqb handle.0 x other ∙ sym (other_end (end_offered (d ∷ past)) last.k c last.offers ne),
        λ e. never handle.0 x other e,
      ),
      none_yet (d ∷ past) c x most (and_parts _ _ legal).1 n.1 a (omega (arith, o)),
    )
none_yet (Refused live fault said ∷ []) c x most legal n a o = absurd n.0
none_yet (Refused live fault said ∷ (d ∷ past)) c x most legal n a o =
    let last = accepts_last (d ∷ past) n.1 n.0 in
    let total : accepted (d ∷ past) ≡ last.k + 1 =
    accepted_total (d ∷ past) last.k n.1 last.offers n.0 in
    let ne : last.k ≢ c = (λ e. omega (arith, total, e, a)) in (
      other_end (end_offered (d ∷ past)) last.k c last.offers ne,
      none_yet (d ∷ past) c x most (and_parts _ _ legal).1 n.1 a o,
    )
none_yet (Returned event answer said ∷ past) c x most legal n a o =
    (tt, none_yet past c x most (and_parts _ _ legal).1 n.1 (fewer said a) o)
  where
    fewer : (said : ServerNote) → accepted (Returned event answer said ∷ past) ≤ c
        → accepted past ≤ c
    fewer (note.Accepted k) l = omega (arith, l)
    fewer note.NoneWaiting l = l
    fewer note.ListenerFailed l = l
    fewer note.ListenerShut l = l
    fewer (note.Piece conn took records) l = l
    fewer (note.Finished conn end) l = l
none_yet (Scheduled timer handle first every ∷ past) c x most legal n a o =
    (tt, none_yet past c x most (and_parts _ _ legal).1 n.1 a o)
none_yet (Cancelled timer ∷ past) c x most legal n a o =
    (tt, none_yet past c x most (and_parts _ _ legal).1 n.1 a o)
none_yet (Polled moment ∷ past) c x most legal n a o =
    (tt, none_yet past c x most (and_parts _ _ legal).1 n.1 a o)
none_yet (Due timer ∷ past) c x most legal n a o =
    (tt, none_yet past c x most (and_parts _ _ legal).1 n.1 a o)
none_yet (Ready handle kind ∷ past) c x most legal n a o =
    (tt, none_yet past c x most (and_parts _ _ legal).1 n.1 a o)
none_yet (Posted handle kind from seq ∷ past) c x most legal n a o =
    (tt, none_yet past c x most (and_parts _ _ legal).1 n.1 a o)
none_yet (Stale handle from seq ∷ past) c x most legal n a o =
    (tt, none_yet past c x most (and_parts _ _ legal).1 n.1 a o)
none_yet (Started event ∷ past) c x most legal n a o =
    (tt, none_yet past c x most (and_parts _ _ legal).1 n.1 a o)
none_yet (Masked handle mask ∷ past) c x most legal n a o =
    (tt, none_yet past c x most (and_parts _ _ legal).1 n.1 a o)
none_yet (Suspended handle ∷ past) c x most legal n a o =
    (tt, none_yet past c x most (and_parts _ _ legal).1 n.1 a o)
none_yet (Resumed handle ∷ past) c x most legal n a o =
    (tt, none_yet past c x most (and_parts _ _ legal).1 n.1 a o)
none_yet (Removed handle ∷ past) c x most legal n a o =
    (tt, none_yet past c x most (and_parts _ _ legal).1 n.1 a o)
none_yet (Closed handle other ∷ past) c x most legal n a o =
    (tt, none_yet past c x most (and_parts _ _ legal).1 n.1 a o)
none_yet (Ended ∷ past) c x most legal n a o =
    (tt, none_yet past c x most (and_parts _ _ legal).1 n.1 a o)

pub stands_at : (past : List (Entry ServerNote)) (c x most : ℕ) → is_legal most past ≡ true
    → EachStep IsNumbered past → OpenedFor past c x → StandsOnlyAt x (AtConnection c) past
stands_at [] c x most legal n o = absurd o
stands_at (Opened handle mask ∷ []) c x most legal n (inl o) = absurd (none o.1)
  where
    none : AtListener ≡ AtConnection c → ⊥
    none q = cc
stands_at (Opened handle mask ∷ []) c x most legal n (inr o) = absurd o
stands_at (Opened handle mask ∷ (d ∷ past)) c x most legal n (inl o) =
    let last = accepts_last (d ∷ past) n.1 n.0.0 in
    let same : last.k ≡ c = number (sym last.offers ∙ o.1) in
    let all = last.all_before in
    let is : handle.0 ≡ opened (d ∷ past) = opened_is most (d ∷ past) handle mask legal in
    let equal = last.same_opened in
    let mine = o.0 in
    let before = none_yet last.before c x most (last.legal_before most (and_parts _ _ legal).1)
    last.numbered (omega (arith, all, same)) (omega (arith, is, equal, mine)) in (
      (
        eq-eqb handle.0 x o.0 ∙ sym (same_end (end_offered (d ∷ past)) c o.1),
        λ e. reads_too mask n.0.1,
      ),
      last.stands x (AtConnection c) before,
    )
  where
    number : {k : ℕ} → AtConnection k ≡ AtConnection c → k ≡ c
    number q = cc
stands_at (Opened handle mask ∷ (d ∷ past)) c x most legal n (inr o) =
    let last = accepts_last (d ∷ past) n.1 n.0.0 in
    let is : handle.0 ≡ opened (d ∷ past) = opened_is most (d ∷ past) handle mask legal in
    let below : x < opened (d ∷ past) =
    opened_before (d ∷ past) c x most (and_parts _ _ legal).1 o in
    let early : c < accepted last.before =
    for_accepted last.before c x last.numbered (last.opened_for c x o) in
    let all = last.all_before in
    let other : handle.0 ≢ x = (λ e. omega (arith, is, e, below)) in
    let ne : last.k ≢ c = (λ e. omega (arith, all, e, early)) in (
      (
        ne_eqb handle.0 x other ∙ sym (other_end (end_offered (d ∷ past)) last.k c last.offers ne),
        λ e. never handle.0 x other e,
      ),
      stands_at (d ∷ past) c x most (and_parts _ _ legal).1 n.1 o,
    )
stands_at (Refused live fault said ∷ []) c x most legal n o = absurd n.0
stands_at (Refused live fault said ∷ (d ∷ past)) c x most legal n o =
    let last = accepts_last (d ∷ past) n.1 n.0 in
    let early : c < accepted last.before =
    for_accepted last.before c x last.numbered (last.opened_for c x o) in
    let all = last.all_before in
    let ne : last.k ≢ c = (λ e. omega (arith, all, e, early)) in (
      other_end (end_offered (d ∷ past)) last.k c last.offers ne,
      stands_at (d ∷ past) c x most (and_parts _ _ legal).1 n.1 o,
    )
stands_at (Scheduled timer handle first every ∷ past) c x most legal n o =
    (tt, stands_at past c x most (and_parts _ _ legal).1 n.1 o)
stands_at (Cancelled timer ∷ past) c x most legal n o =
    (tt, stands_at past c x most (and_parts _ _ legal).1 n.1 o)
stands_at (Polled moment ∷ past) c x most legal n o =
    (tt, stands_at past c x most (and_parts _ _ legal).1 n.1 o)
stands_at (Due timer ∷ past) c x most legal n o =
    (tt, stands_at past c x most (and_parts _ _ legal).1 n.1 o)
stands_at (Ready handle kind ∷ past) c x most legal n o =
    (tt, stands_at past c x most (and_parts _ _ legal).1 n.1 o)
stands_at (Posted handle kind from seq ∷ past) c x most legal n o =
    (tt, stands_at past c x most (and_parts _ _ legal).1 n.1 o)
stands_at (Stale handle from seq ∷ past) c x most legal n o =
    (tt, stands_at past c x most (and_parts _ _ legal).1 n.1 o)
stands_at (Started event ∷ past) c x most legal n o =
    (tt, stands_at past c x most (and_parts _ _ legal).1 n.1 o)
stands_at (Returned event answer said ∷ past) c x most legal n o =
    (tt, stands_at past c x most (and_parts _ _ legal).1 n.1 o)
stands_at (Masked handle mask ∷ past) c x most legal n o =
    (tt, stands_at past c x most (and_parts _ _ legal).1 n.1 o)
stands_at (Suspended handle ∷ past) c x most legal n o =
    (tt, stands_at past c x most (and_parts _ _ legal).1 n.1 o)
stands_at (Resumed handle ∷ past) c x most legal n o =
    (tt, stands_at past c x most (and_parts _ _ legal).1 n.1 o)
stands_at (Removed handle ∷ past) c x most legal n o =
    (tt, stands_at past c x most (and_parts _ _ legal).1 n.1 o)
stands_at (Closed handle other ∷ past) c x most legal n o =
    (tt, stands_at past c x most (and_parts _ _ legal).1 n.1 o)
stands_at (Ended ∷ past) c x most legal n o =
    (tt, stands_at past c x most (and_parts _ _ legal).1 n.1 o)

-- ---- the listener

some_opened : (d : Entry ServerNote) (past : List (Entry ServerNote))
    → EachStep IsNumbered (d ∷ past) → 1 ≤ opened (d ∷ past)
some_opened d [] n = first d n.0
  where
    first : (e : Entry ServerNote) → IsNumbered [] e → 1 ≤ opened (e ∷ [])
    first (Opened handle mask) h = omega arith
    first _ h = absurd h
some_opened d (e ∷ past) n = more d (some_opened e past n.1)
  where
    more : (d : Entry ServerNote) → 1 ≤ opened (e ∷ past) → 1 ≤ opened (d ∷ (e ∷ past))
    more (Opened handle mask) h = omega (arith, h)
    more _ h = h

no_listener : (end : StepEnd) (k : ℕ) → end ≡ AtConnection k → is_end end AtListener ≡ false
no_listener end k is = ap (λ (e : StepEnd). is_end e AtListener) is

pub stands_first : (past : List (Entry ServerNote)) (most : ℕ) → is_legal most past ≡ true
    → EachStep IsNumbered past → StandsOnlyAt 0 AtListener past
stands_first [] most legal n = tt
stands_first (Opened handle mask ∷ []) most legal n =
    ((eq-eqb handle.0 0 (opened_is most [] handle mask legal), λ e. reads_too mask n.0), tt)
stands_first (Opened handle mask ∷ (d ∷ past)) most legal n =
    let last = accepts_last (d ∷ past) n.1 n.0.0 in
    let is : handle.0 ≡ opened (d ∷ past) = opened_is most (d ∷ past) handle mask legal in
    let some : 1 ≤ opened (d ∷ past) = some_opened d past n.1 in
    let other : handle.0 ≢ 0 = (λ e. omega (arith, is, e, some)) in (
      (
        ne_eqb handle.0 0 other ∙ sym (no_listener (end_offered (d ∷ past)) last.k last.offers),
        λ e. never handle.0 0 other e,
      ),
      stands_first (d ∷ past) most (and_parts _ _ legal).1 n.1,
    )
stands_first (Refused live fault said ∷ []) most legal n = absurd n.0
stands_first (Refused live fault said ∷ (d ∷ past)) most legal n =
    let last = accepts_last (d ∷ past) n.1 n.0 in (
      no_listener (end_offered (d ∷ past)) last.k last.offers,
      stands_first (d ∷ past) most (and_parts _ _ legal).1 n.1,
    )
stands_first (Scheduled timer handle first every ∷ past) most legal n =
    (tt, stands_first past most (and_parts _ _ legal).1 n.1)
stands_first (Cancelled timer ∷ past) most legal n =
    (tt, stands_first past most (and_parts _ _ legal).1 n.1)
stands_first (Polled moment ∷ past) most legal n =
    (tt, stands_first past most (and_parts _ _ legal).1 n.1)
stands_first (Due timer ∷ past) most legal n =
    (tt, stands_first past most (and_parts _ _ legal).1 n.1)
stands_first (Ready handle kind ∷ past) most legal n =
    (tt, stands_first past most (and_parts _ _ legal).1 n.1)
stands_first (Posted handle kind from seq ∷ past) most legal n =
    (tt, stands_first past most (and_parts _ _ legal).1 n.1)
stands_first (Stale handle from seq ∷ past) most legal n =
    (tt, stands_first past most (and_parts _ _ legal).1 n.1)
stands_first (Started event ∷ past) most legal n =
    (tt, stands_first past most (and_parts _ _ legal).1 n.1)
stands_first (Returned event answer said ∷ past) most legal n =
    (tt, stands_first past most (and_parts _ _ legal).1 n.1)
stands_first (Masked handle mask ∷ past) most legal n =
    (tt, stands_first past most (and_parts _ _ legal).1 n.1)
stands_first (Suspended handle ∷ past) most legal n =
    (tt, stands_first past most (and_parts _ _ legal).1 n.1)
stands_first (Resumed handle ∷ past) most legal n =
    (tt, stands_first past most (and_parts _ _ legal).1 n.1)
stands_first (Removed handle ∷ past) most legal n =
    (tt, stands_first past most (and_parts _ _ legal).1 n.1)
stands_first (Closed handle other ∷ past) most legal n =
    (tt, stands_first past most (and_parts _ _ legal).1 n.1)
stands_first (Ended ∷ past) most legal n = (tt, stands_first past most (and_parts _ _ legal).1 n.1)

-- ---- no two handlers are of one connection

pub one_handler : (past : List (Entry ServerNote)) (c x y : ℕ)
    → StandsOnlyAt x (AtConnection c) past → OpenedFor past c y → y ≡ x
one_handler [] c x y s o = absurd o
one_handler (Opened handle mask ∷ past) c x y s (inl o) =
    sym o.0 ∙ eqb-true handle.0 x (s.0.0 ∙ same_end (end_offered past) c o.1)
one_handler (Opened handle mask ∷ past) c x y s (inr o) = one_handler past c x y s.1 o
one_handler (Scheduled timer handle first every ∷ past) c x y s o = one_handler past c x y s.1 o
one_handler (Cancelled timer ∷ past) c x y s o = one_handler past c x y s.1 o
one_handler (Polled moment ∷ past) c x y s o = one_handler past c x y s.1 o
one_handler (Due timer ∷ past) c x y s o = one_handler past c x y s.1 o
one_handler (Ready handle kind ∷ past) c x y s o = one_handler past c x y s.1 o
one_handler (Posted handle kind from seq ∷ past) c x y s o = one_handler past c x y s.1 o
one_handler (Stale handle from seq ∷ past) c x y s o = one_handler past c x y s.1 o
one_handler (Started event ∷ past) c x y s o = one_handler past c x y s.1 o
one_handler (Returned event answer said ∷ past) c x y s o = one_handler past c x y s.1 o
one_handler (Masked handle mask ∷ past) c x y s o = one_handler past c x y s.1 o
one_handler (Suspended handle ∷ past) c x y s o = one_handler past c x y s.1 o
one_handler (Resumed handle ∷ past) c x y s o = one_handler past c x y s.1 o
one_handler (Refused live fault said ∷ past) c x y s o = one_handler past c x y s.1 o
one_handler (Removed handle ∷ past) c x y s o = one_handler past c x y s.1 o
one_handler (Closed handle other ∷ past) c x y s o = one_handler past c x y s.1 o
one_handler (Ended ∷ past) c x y s o = one_handler past c x y s.1 o

-- a handler is of one connection
pub conn_number : (past : List (Entry ServerNote)) (k c x : ℕ) → OpenedFor past k x
    → StandsOnlyAt x (AtConnection c) past → k ≡ c
conn_number [] k c x o s = absurd o
conn_number (Opened handle mask ∷ past) k c x (inl o) s =
    eqb-true k c (sym (ap (λ (e : StepEnd). is_end e (AtConnection c)) o.1) ∙ sym s.0.0
    ∙ eq-eqb handle.0 x o.0)
conn_number (Opened handle mask ∷ past) k c x (inr o) s = conn_number past k c x o s.1
conn_number (Scheduled timer handle first every ∷ past) k c x o s = conn_number past k c x o s.1
conn_number (Cancelled timer ∷ past) k c x o s = conn_number past k c x o s.1
conn_number (Polled moment ∷ past) k c x o s = conn_number past k c x o s.1
conn_number (Due timer ∷ past) k c x o s = conn_number past k c x o s.1
conn_number (Ready handle kind ∷ past) k c x o s = conn_number past k c x o s.1
conn_number (Posted handle kind from seq ∷ past) k c x o s = conn_number past k c x o s.1
conn_number (Stale handle from seq ∷ past) k c x o s = conn_number past k c x o s.1
conn_number (Started event ∷ past) k c x o s = conn_number past k c x o s.1
conn_number (Returned event answer said ∷ past) k c x o s = conn_number past k c x o s.1
conn_number (Masked handle mask ∷ past) k c x o s = conn_number past k c x o s.1
conn_number (Suspended handle ∷ past) k c x o s = conn_number past k c x o s.1
conn_number (Resumed handle ∷ past) k c x o s = conn_number past k c x o s.1
conn_number (Refused live fault said ∷ past) k c x o s = conn_number past k c x o s.1
conn_number (Removed handle ∷ past) k c x o s = conn_number past k c x o s.1
conn_number (Closed handle other ∷ past) k c x o s = conn_number past k c x o s.1
conn_number (Ended ∷ past) k c x o s = conn_number past k c x o s.1
