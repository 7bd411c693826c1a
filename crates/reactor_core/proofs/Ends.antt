-- What one more entry does to what the net has to do with the journal.
use Rattle.std.proofs.Common.{ℕ, ◌≡◌, ◌≤◌, ◌==◌, Bool, true, false, not, List, [], ◌∷◌, ◌++◌, map}
use Rattle.std.proofs.Common.{reverse, refl, sym, ap, ◌∙◌, subst, arith, cond, Option, Some, None}
use Rattle.std.proofs.Common.{option_map}
use Rattle.std.proofs.lemmas.Bool.{cond-true, cond-false, eqb-true, eq-eqb}
use Rattle.std.proofs.lemmas.List.{append-nil, reverse-append, map-append}
use Rattle.std.proofs.lemmas.List.Elements.{filter-append}
use mathlib.Core.List.{reverse-cons}
use Rattle.std.specs.List.{filter}
use Rattle.reactor_summary.specs.ev_types.specs.declared.upcall.Mask.{Mask}
use Rattle.reactor_summary.specs.ev_types.specs.declared.upcall.Kind.{Kind}
use Rattle.reactor_summary.specs.ev_types.specs.declared.upcall.Handle.{Handle}
use Rattle.reactor_summary.specs.ev_types.specs.declared.upcall.Answer.TheVariants.{Close}
use Rattle.reactor_summary.specs.ev_types.specs.declared.upcall.Why.TheVariants.{
  Refused as ByRefusal,
}
use Rattle.ev_base.specs.Terms.{Terms}
use Rattle.ev_base.specs.Net.{NetFacts, Call, Waits, Attaches, SetsMask, Retires, TurnsAway}
use Rattle.ev_base.specs.Net.{with_one, without, changed_mask, without_mask, AnswersWait, FailsCall}
use Rattle.ev_base.specs.Net.{AttachesEnd, SetsMaskOf, RetiresEnd, TurnsAwayEnd}
use Rattle.ev_base.specs.declared.net.Report.{Report}
use Rattle.ev_base.specs.declared.net.Waited.{Waited}
use Rattle.reactor_model.specs.reactor_journal.specs.Event.{Event}
use Rattle.reactor_model.specs.reactor_journal.specs.declared.entry.Entry.{Entry}
use Rattle.reactor_model.specs.reactor_journal.specs.declared.entry.Entry.TheVariants.{Opened}
use Rattle.reactor_model.specs.reactor_journal.specs.declared.entry.Entry.TheVariants.{Polled}
use Rattle.reactor_model.specs.reactor_journal.specs.declared.entry.Entry.TheVariants.{Ready}
use Rattle.reactor_model.specs.reactor_journal.specs.declared.entry.Entry.TheVariants.{Returned}
use Rattle.reactor_model.specs.reactor_journal.specs.declared.entry.Entry.TheVariants.{Masked}
use Rattle.reactor_model.specs.reactor_journal.specs.declared.entry.Entry.TheVariants.{Suspended}
use Rattle.reactor_model.specs.reactor_journal.specs.declared.entry.Entry.TheVariants.{Resumed}
use Rattle.reactor_model.specs.reactor_journal.specs.declared.entry.Entry.TheVariants.{Refused}
use Rattle.reactor_model.specs.reactor_journal.specs.declared.entry.Entry.TheVariants.{Removed}
use Rattle.reactor_model.specs.reactor_journal.specs.declared.entry.Entry.TheVariants.{Closed}
use Rattle.reactor_model.specs.reactor_journal.specs.Past.{had, origin_of, offered_here, reason_of}
use Rattle.reactor_model.specs.reactor_journal.specs.Past.{count}
use Rattle.reactor_summary.specs.declared.parts.LiveHandle.{LiveHandle}
use Rattle.reactor_summary.specs.Summary as S
use Rattle.reactor_summary.specs.Summary.{Summary, summary, step, with_mask, with_suspended}
use Rattle.reactor_summary.specs.Summary.{with_end, of_handle}
use Rattle.reactor_model.specs.Handling.{Handling, Names}
use Rattle.reactor_core.specs.Ends.{WhereTold, ThereIs, number_of, mask_entry, live_numbers}
use Rattle.reactor_core.specs.Ends.{live_masks, AreRetired, AreTurnedAway}
use Rattle.reactor_model.specs.Entries.{is_fault, IsAnsweredAt}
use Rattle.reactor_core.specs.Calls.{AreCalls, IsAskedFor, is_taken}
use Rattle.reactor_core.specs.Stands.{NetStands}
use Rattle.reactor_model.specs.reactor_journal.proofs.Steps.{same_tests}
use Rattle.reactor_core.proofs.Seats.{mask_number, suspended_number, end_number}

-- ---- lists that are told

pub told_same : {A : Type 0} (P Q : A → Type 0) (old new : Option A) → new ≡ old
    → ((a : A) → P a → Q a) → WhereTold P old → WhereTold Q new
told_same P Q None new q f h = subst (WhereTold Q) (sym q) tt
told_same P Q (Some a) new q f h = subst (WhereTold Q) (sym q) (f a h)

pub told_one : {A : Type 0} (P Q : List A → Type 0) (old new : Option (List A)) (x : A)
    → new ≡ with_one old x → ((told : List A) → P told → Q (x ∷ told)) → WhereTold P old
    → WhereTold Q new
told_one P Q None new x q f h = subst (WhereTold Q) (sym q) tt
told_one P Q (Some told) new x q f h = subst (WhereTold Q) (sym q) (f told h)

pub told_map : {A : Type 0} (P Q : A → Type 0) (g : A → A) (old new : Option A)
    → new ≡ option_map g old → ((a : A) → P a → Q (g a)) → WhereTold P old → WhereTold Q new
told_map P Q g None new q f h = subst (WhereTold Q) (sym q) tt
told_map P Q g (Some a) new q f h = subst (WhereTold Q) (sym q) (f a h)

pub such_same : {A : Type 0} (P Q : A → Type 0) (old new : Option A) → new ≡ old
    → ((a : A) → P a → Q a) → ThereIs P old → ThereIs Q new
such_same P Q old new q f h = (h.0, f h.0 h.1, subst (WhereTold (λ b. b ≡ h.0)) (sym q) h.2)

pub such_one : {A : Type 0} (P Q : List A → Type 0) (old new : Option (List A)) (x : A)
    → new ≡ with_one old x → ((told : List A) → P told → Q (x ∷ told)) → ThereIs P old
    → ThereIs Q new
such_one P Q old new x q f h = (
  x ∷ h.0,
  f h.0 h.1,
  told_one (λ b. b ≡ h.0) (λ b. b ≡ x ∷ h.0) old new x q (λ told r. ap (λ xs. x ∷ xs) r) h.2,
)

pub such_told : {A : Type 0} (P : A → Type 0) (told : Option A) → ThereIs P told → WhereTold P told
such_told P None h = tt
such_told P (Some a) h = subst P (sym h.2) h.1

-- ---- reversed lists

pub reverse_map : {A B : Type 0} (f : A → B) (xs : List A) → reverse (map f xs) ≡ map f (reverse xs)
reverse_map f [] = refl
reverse_map f (x ∷ xs) =
    reverse-cons (f x) (map f xs)
    ∙ (ap (λ ys. ys ++ f x ∷ []) (reverse_map f xs)
    ∙ (sym (map-append f (reverse xs) (x ∷ [])) ∙ ap (map f) (sym (reverse-cons x xs))))

pub map_map_same : {A B : Type 0} (g : A → B) (f : A → A) (xs : List A) → ((a : A) → g (f a) ≡ g a)
    → map g (map f xs) ≡ map g xs
map_map_same g f [] h = refl
map_map_same g f (x ∷ xs) h = ap (λ b. b ∷ map g (map f xs)) (h x)
    ∙ ap (λ bs. g x ∷ bs) (map_map_same g f xs h)

pub reverse_filter : {A : Type 0} (p : A → Bool) (xs : List A)
    → reverse (filter p xs) ≡ filter p (reverse xs)
reverse_filter p [] = refl
reverse_filter {A} p (x ∷ xs) = by_cases (p x) refl (reverse_filter p xs)
  where
    last : filter p (reverse (x ∷ xs)) ≡ filter p (reverse xs) ++ filter p (x ∷ [])
    last = ap (filter p) (reverse-cons x xs) ∙ filter-append p (reverse xs) (x ∷ [])

    by_cases : (b : Bool) → p x ≡ b → reverse (filter p xs) ≡ filter p (reverse xs)
        → reverse (cond b (x ∷ filter p xs) (filter p xs)) ≡ filter p (reverse (x ∷ xs))
    by_cases true q rec =
        reverse-cons x (filter p xs)
        ∙ (ap (λ ys. ys ++ x ∷ []) rec
        ∙ sym (last ∙ ap (λ ys. filter p (reverse xs) ++ ys) (cond-true (p x) (x ∷ []) [] q)))
    by_cases false q rec =
        rec ∙ sym (last ∙ (ap (λ ys. filter p (reverse xs) ++ ys) (cond-false (p x) (x ∷ []) [] q)
        ∙ append-nil (filter p (reverse xs))))

-- ---- the numbers and masks of the live handles

numbers_same : (f : LiveHandle → LiveHandle) (hs : List LiveHandle)
    → ((h : LiveHandle) → (f h).handle.0 ≡ h.handle.0)
    → map number_of (reverse (map f hs)) ≡ map number_of (reverse hs)
numbers_same f hs same = ap (map number_of) (reverse_map f hs)
    ∙ map_map_same number_of f (reverse hs) same

masks_same : (f : LiveHandle → LiveHandle) (hs : List LiveHandle)
    → ((h : LiveHandle) → mask_entry (f h) ≡ mask_entry h)
    → map mask_entry (reverse (map f hs)) ≡ map mask_entry (reverse hs)
masks_same f hs same = ap (map mask_entry) (reverse_map f hs)
    ∙ map_map_same mask_entry f (reverse hs) same

cond_entry : (b : Bool) (g h : LiveHandle) → mask_entry g ≡ mask_entry h
    → mask_entry (cond b g h) ≡ mask_entry h
cond_entry true g h q = q
cond_entry false g h q = refl

suspended_entry : (y : ℕ) (b : Bool) (h : LiveHandle)
    → mask_entry (with_suspended y b h) ≡ mask_entry h
suspended_entry y b h = cond_entry (y == h.handle.0) (record h { suspended = b }) h refl

end_entry : (event : Option Event) (h : LiveHandle) → mask_entry (with_end event h) ≡ mask_entry h
end_entry event h = cond_entry (belongs event) (record h { alive = false }) h refl
  where
    belongs : Option Event → Bool
    belongs None = false
    belongs (Some ev) = ev.handle == h.handle.0

-- the entry tells of no call, of no report and of no end
abbrev pub keeps_net : {N : Type 0} → Entry N → Bool
keeps_net (Opened handle mask) = false
keeps_net (Polled moment) = false
keeps_net (Ready handle kind) = false
keeps_net (Masked handle mask) = false
keeps_net (Refused live fault note) = false
keeps_net (Closed handle note) = false
keeps_net _ = true

numbers_quiet : {N : Type 0} (e : Entry N) (s : Summary) → keeps_net e ≡ true
    → live_numbers (step s e) ≡ live_numbers s
numbers_quiet (Opened handle mask) s q = cc
numbers_quiet (Polled moment) s q = cc
numbers_quiet (Ready handle kind) s q = cc
numbers_quiet (Masked handle mask) s q = cc
numbers_quiet (Refused live fault note) s q = cc
numbers_quiet (Closed handle note) s q = cc
numbers_quiet (Suspended handle) s q =
    numbers_same (with_suspended handle.0 true) s.handles (suspended_number handle.0 true)
numbers_quiet (Resumed handle) s q =
    numbers_same (with_suspended handle.0 false) s.handles (suspended_number handle.0 false)
numbers_quiet (Removed handle) s q =
    numbers_same (with_end (of_handle handle)) s.handles (end_number (of_handle handle))
numbers_quiet (Returned event Close note) s q =
    numbers_same (with_end (S.event_open s event)) s.handles (end_number (S.event_open s event))
numbers_quiet _ s q = refl

masks_quiet : {N : Type 0} (e : Entry N) (s : Summary) → keeps_net e ≡ true
    → live_masks (step s e) ≡ live_masks s
masks_quiet (Opened handle mask) s q = cc
masks_quiet (Polled moment) s q = cc
masks_quiet (Ready handle kind) s q = cc
masks_quiet (Masked handle mask) s q = cc
masks_quiet (Refused live fault note) s q = cc
masks_quiet (Closed handle note) s q = cc
masks_quiet (Suspended handle) s q =
    masks_same (with_suspended handle.0 true) s.handles (suspended_entry handle.0 true)
masks_quiet (Resumed handle) s q =
    masks_same (with_suspended handle.0 false) s.handles (suspended_entry handle.0 false)
masks_quiet (Removed handle) s q =
    masks_same (with_end (of_handle handle)) s.handles (end_entry (of_handle handle))
masks_quiet (Returned event Close note) s q =
    masks_same (with_end (S.event_open s event)) s.handles (end_entry (S.event_open s event))
masks_quiet _ s q = refl

moment_quiet : {N : Type 0} (e : Entry N) (s : Summary) → keeps_net e ≡ true
    → (step s e).moment ≡ s.moment
moment_quiet (Opened handle mask) s q = cc
moment_quiet (Polled moment) s q = cc
moment_quiet (Ready handle kind) s q = cc
moment_quiet (Masked handle mask) s q = cc
moment_quiet (Refused live fault note) s q = cc
moment_quiet (Closed handle note) s q = cc
moment_quiet _ s q = refl

faults_quiet : {N : Type 0} (e : Entry N) (past : List (Entry N)) → keeps_net e ≡ true
    → count is_fault (e ∷ past) ≡ count is_fault past
faults_quiet (Opened handle mask) past q = cc
faults_quiet (Polled moment) past q = cc
faults_quiet (Ready handle kind) past q = cc
faults_quiet (Masked handle mask) past q = cc
faults_quiet (Refused live fault note) past q = cc
faults_quiet (Closed handle note) past q = cc
faults_quiet _ past q = refl

module _ {H E N : Type 0} (means : Handling H E N) (t : Terms) where
  retired_quiet : (e : Entry N) (past : List (Entry N)) (ends : List (ℕ × E)) → keeps_net e ≡ true
      → AreRetired means t past ends → AreRetired means t (e ∷ past) ends
  retired_quiet (Opened handle mask) past ends q h = cc
  retired_quiet (Polled moment) past ends q h = cc
  retired_quiet (Ready handle kind) past ends q h = cc
  retired_quiet (Masked handle mask) past ends q h = cc
  retired_quiet (Refused live fault note) past ends q h = cc
  retired_quiet (Closed handle note) past ends q h = cc
  retired_quiet _ past ends q h = h

  turned_quiet : (e : Entry N) (past : List (Entry N)) (ends : List E) → keeps_net e ≡ true
      → AreTurnedAway means t past ends → AreTurnedAway means t (e ∷ past) ends
  turned_quiet (Opened handle mask) past ends q h = cc
  turned_quiet (Polled moment) past ends q h = cc
  turned_quiet (Ready handle kind) past ends q h = cc
  turned_quiet (Masked handle mask) past ends q h = cc
  turned_quiet (Refused live fault note) past ends q h = cc
  turned_quiet (Closed handle note) past ends q h = cc
  turned_quiet _ past ends q h = h

  calls_quiet : (e : Entry N) (past : List (Entry N)) (pending : List Report) (calls : List Call)
      → keeps_net e ≡ true → AreCalls means t past pending calls
      → AreCalls means t (e ∷ past) pending calls
  calls_quiet (Opened handle mask) past pending calls q h = cc
  calls_quiet (Polled moment) past pending calls q h = cc
  calls_quiet (Ready handle kind) past pending calls q h = cc
  calls_quiet (Masked handle mask) past pending calls q h = cc
  calls_quiet (Refused live fault note) past pending calls q h = cc
  calls_quiet (Closed handle note) past pending calls q h = cc
  calls_quiet _ past pending calls q h = h

  -- an entry that the net has nothing to do with
  pub net_quiet : (e : Entry N) (past : List (Entry N)) (pending : List Report) (net : NetFacts E)
      → keeps_net e ≡ true → NetStands means t past pending net
      → NetStands means t (e ∷ past) pending net
  net_quiet e past pending net q n = record {
    retired = such_same (AreRetired means t past) (AreRetired means t (e ∷ past)) net.retired
        net.retired refl (λ ends h. retired_quiet e past ends q h) n.retired;
    turned_away = such_same (AreTurnedAway means t past) (AreTurnedAway means t (e ∷ past))
        net.turned_away net.turned_away refl (λ ends h. turned_quiet e past ends q h) n.turned_away;
    attached = n.attached ∙ sym (numbers_quiet e (summary past) q);
    masks = told_same (λ masks. masks ≡ live_masks (summary past))
        (λ masks. masks ≡ live_masks (summary (e ∷ past))) net.masks net.masks refl
        (λ masks h. h ∙ sym (masks_quiet e (summary past) q)) n.masks;
    faults = subst (λ (k : ℕ). k ≤ net.failed_attaches) (sym (faults_quiet e past q)) n.faults;
    steady = n.steady;
    calls = told_same (AreCalls means t past pending) (AreCalls means t (e ∷ past) pending)
        net.calls net.calls refl (λ calls h. calls_quiet e past pending calls q h) n.calls;
    moment = subst (λ (k : ℕ). k ≤ net.now) (sym (moment_quiet e (summary past) q)) n.moment;
  }

  -- the net has more places, or a count of faults that rose, and is else as it was
  pub net_kept : (past : List (Entry N)) (pending : List Report) (old new : NetFacts E)
      → old.failed_attaches ≤ new.failed_attaches → FailsCall old new
      → NetStands means t past pending old → NetStands means t past pending new
  net_kept past pending old new le f n = record {
    retired = such_same (AreRetired means t past) (AreRetired means t past) old.retired new.retired
        f.retired (λ ends h. h) n.retired;
    turned_away = such_same (AreTurnedAway means t past) (AreTurnedAway means t past)
        old.turned_away new.turned_away f.turned_away (λ ends h. h) n.turned_away;
    attached = f.attached ∙ n.attached;
    masks = told_same (λ masks. masks ≡ live_masks (summary past))
        (λ masks. masks ≡ live_masks (summary past)) old.masks new.masks f.masks (λ masks h. h)
        n.masks;
    faults = omega (arith, n.faults, le);
    steady = λ q. f.steady ∙ n.steady q;
    calls = told_same (AreCalls means t past pending) (AreCalls means t past pending) old.calls
        new.calls f.calls (λ calls h. h) n.calls;
    moment = subst (λ (k : ℕ). (summary past).moment ≤ k) (sym f.now) n.moment;
  }

  -- the net could not attach an end
  pub net_failed : (past : List (Entry N)) (pending : List Report) (old new : NetFacts E)
      → count is_fault past ≤ new.failed_attaches → FailsCall old new
      → NetStands means t past pending old → NetStands means t past pending new
  net_failed past pending old new le f n = record {
    retired = such_same (AreRetired means t past) (AreRetired means t past) old.retired new.retired
        f.retired (λ ends h. h) n.retired;
    turned_away = such_same (AreTurnedAway means t past) (AreTurnedAway means t past)
        old.turned_away new.turned_away f.turned_away (λ ends h. h) n.turned_away;
    attached = f.attached ∙ n.attached;
    masks = told_same (λ masks. masks ≡ live_masks (summary past))
        (λ masks. masks ≡ live_masks (summary past)) old.masks new.masks f.masks (λ masks h. h)
        n.masks;
    faults = le;
    steady = λ q. f.steady ∙ n.steady q;
    calls = told_same (AreCalls means t past pending) (AreCalls means t past pending) old.calls
        new.calls f.calls (λ calls h. h) n.calls;
    moment = subst (λ (k : ℕ). (summary past).moment ≤ k) (sym f.now) n.moment;
  }

  -- a report is taken
  pub net_ready : (past : List (Entry N)) (handle : Handle) (kind : Kind) (pending : List Report)
      (net : NetFacts E)
      → NetStands means t past (record { handle = handle; kind = kind } ∷ pending) net
      → NetStands means t (Ready handle kind ∷ past) pending net
  net_ready past handle kind pending net n = record {
    retired = n.retired;
    turned_away = n.turned_away;
    attached = n.attached;
    masks = n.masks;
    faults = n.faults;
    steady = n.steady;
    calls = n.calls;
    moment = n.moment;
  }

  -- a wait was answered
  pub net_polled : (past : List (Entry N)) (most : Option ℕ) (answer : Waited) (moment : ℕ)
      (old new : NetFacts E) → AnswersWait old most answer moment new → IsAnsweredAt moment answer
      → IsAskedFor t.limit (summary past) most
      → NetStands means t past [] old → NetStands means t (Polled moment ∷ past)
      (filter (is_taken (summary past)) new.reports) new
  net_polled past most answer moment old new a at asked n = record {
    retired = such_same (AreRetired means t past) (AreRetired means t (Polled moment ∷ past))
        old.retired new.retired a.retired (λ ends h. h) n.retired;
    turned_away = such_same (AreTurnedAway means t past)
        (AreTurnedAway means t (Polled moment ∷ past)) old.turned_away new.turned_away a.turned_away
        (λ ends h. h) n.turned_away;
    attached = a.attached ∙ n.attached;
    masks = told_same (λ masks. masks ≡ live_masks (summary past))
        (λ masks. masks ≡ live_masks (summary past)) old.masks new.masks a.masks (λ masks h. h)
        n.masks;
    faults = subst (λ (k : ℕ). count is_fault past ≤ k) (sym a.failed_attaches) n.faults;
    steady = λ q. a.steady ∙ n.steady q;
    calls = told_one (AreCalls means t past [])
        (AreCalls means t (Polled moment ∷ past) (filter (is_taken (summary past)) new.reports))
        old.calls new.calls (Waits most answer new.reports) a.calls
        (λ calls h. (record { moment = at; asked = asked; are_taken = refl }, h)) n.calls;
    moment = omega (arith, a.now);
  }

  -- a handler was registered
  pub net_opened : (past : List (Entry N)) (handle : Handle) (mask : Mask) (serial : Option ℕ)
      (old new : NetFacts E) → AttachesEnd old handle.0 mask serial new
      → Names (means.serial t (offered_here past)) serial
      → NetStands means t past [] old → NetStands means t (Opened handle mask ∷ past) [] new
  net_opened past handle mask serial old new a named n = record {
    retired = such_same (AreRetired means t past) (AreRetired means t (Opened handle mask ∷ past))
        old.retired new.retired a.retired (λ ends h. h) n.retired;
    turned_away = such_same (AreTurnedAway means t past)
        (AreTurnedAway means t (Opened handle mask ∷ past)) old.turned_away new.turned_away
        a.turned_away (λ ends h. h) n.turned_away;
    attached = a.attached ∙ (ap (λ xs. handle.0 ∷ xs) n.attached ∙ ap (map number_of) (sym last));
    masks = told_one (λ masks. masks ≡ live_masks (summary past))
        (λ masks. masks ≡ live_masks (summary (Opened handle mask ∷ past))) old.masks new.masks
        (handle.0, mask) a.masks
        (λ masks h. ap (λ ms. (handle.0, mask) ∷ ms) h ∙ ap (map mask_entry) (sym last)) n.masks;
    faults = subst (λ (k : ℕ). count is_fault past ≤ k) (sym a.failed_attaches) n.faults;
    steady = λ q. a.steady ∙ n.steady q;
    calls = told_one (AreCalls means t past []) (AreCalls means t (Opened handle mask ∷ past) [])
        old.calls new.calls (Attaches handle.0 mask serial) a.calls
        (λ calls h. (record { handle = refl; mask = refl; names = named }, h)) n.calls;
    moment = subst (λ (k : ℕ). (summary past).moment ≤ k) (sym a.now) n.moment;
  }
    where
      last : reverse ((summary past).handles
          ++ record { handle = handle; mask = mask; suspended = false; alive = true } ∷ [])
          ≡ record { handle = handle; mask = mask; suspended = false; alive = true }
          ∷ reverse (summary past).handles
      last = reverse-append (summary past).handles
          (record { handle = handle; mask = mask; suspended = false; alive = true } ∷ [])

-- ---- ends that are given back, and masks that are set

pub eqb_turned : (a b : ℕ) → (a == b) ≡ (b == a)
eqb_turned a b = same_tests (a == b) (b == a) (λ q. eq-eqb b a (sym (eqb-true a b q)))
    (λ q. eq-eqb a b (sym (eqb-true b a q)))

-- what is left of a list of one projection is that projection of what is left
filter_image : {A B : Type 0} (g : A → B) (p : A → Bool) (q : B → Bool) (xs : List A)
    → ((a : A) → q (g a) ≡ p a) → filter q (map g xs) ≡ map g (filter p xs)
filter_image g p q [] h = refl
filter_image {A} {B} g p q (x ∷ xs) h =
    ap (λ b. cond b (g x ∷ filter q (map g xs)) (filter q (map g xs))) (h x)
    ∙ by_cases (p x) (filter_image g p q xs h)
  where
    by_cases : (b : Bool) → filter q (map g xs) ≡ map g (filter p xs)
        → cond b (g x ∷ filter q (map g xs)) (filter q (map g xs))
        ≡ map g (cond b (x ∷ filter p xs) (filter p xs))
    by_cases true rec = ap (λ ys. g x ∷ ys) rec
    by_cases false rec = rec

changed_entries : (x : ℕ) (mask : Mask) (hs : List LiveHandle)
    → changed_mask x mask (map mask_entry hs) ≡ map mask_entry (map (with_mask x mask) hs)
changed_entries x mask [] = refl
changed_entries x mask (h ∷ hs) =
    ap (λ e. e ∷ changed_mask x mask (map mask_entry hs)) (first (x == h.handle.0) refl)
    ∙ ap (λ es. mask_entry (with_mask x mask h) ∷ es) (changed_entries x mask hs)
  where
    first : (b : Bool) → (x == h.handle.0) ≡ b
        → cond (h.handle.0 == x) (x, mask) (mask_entry h)
        ≡ mask_entry (cond b (record h { mask = mask }) h)
    first true q = cond-true (h.handle.0 == x) (x, mask) (mask_entry h)
        (eqb_turned h.handle.0 x ∙ q) ∙ ap (λ (k : ℕ). (k, mask)) (eqb-true x h.handle.0 q)
    first false q = cond-false (h.handle.0 == x) (x, mask) (mask_entry h)
        (eqb_turned h.handle.0 x ∙ q)

module _ {H E N : Type 0} (means : Handling H E N) (t : Terms) where
  -- a handler was closed, and its end retired
  pub net_closed : (past : List (Entry N)) (handle : Handle) (note : N) (end : E)
      (old new : NetFacts E) → RetiresEnd old handle.0 end new
      → means.gone t (origin_of past handle.0) end (had past handle.0) (reason_of past handle.0)
      note
      → NetStands means t past [] old → NetStands means t (Closed handle note ∷ past) [] new
  net_closed past handle note end old new r gone n = record {
    retired = such_one (AreRetired means t past) (AreRetired means t (Closed handle note ∷ past))
        old.retired new.retired (handle.0, end) r.retired (λ ends h. ((refl, gone), h)) n.retired;
    turned_away = such_same (AreTurnedAway means t past)
        (AreTurnedAway means t (Closed handle note ∷ past)) old.turned_away new.turned_away
        r.turned_away (λ ends h. h) n.turned_away;
    attached = r.attached ∙ (ap (without handle.0) n.attached
        ∙ (filter_image number_of (λ (h : LiveHandle). not (handle.0 == h.handle.0))
        (λ (k : ℕ). not (k == handle.0)) (reverse hs)
        (λ h. ap not (eqb_turned h.handle.0 handle.0))
        ∙ ap (map number_of) (sym (reverse_filter
        (λ (h : LiveHandle). not (handle.0 == h.handle.0)) hs))));
    masks = told_map (λ masks. masks ≡ live_masks (summary past))
        (λ masks. masks ≡ live_masks (summary (Closed handle note ∷ past))) (without_mask handle.0)
        old.masks new.masks r.masks
        (λ masks h. ap (without_mask handle.0) h
        ∙ (filter_image mask_entry (λ (h : LiveHandle). not (handle.0 == h.handle.0))
        (λ (e : ℕ × Mask). not (e.0 == handle.0)) (reverse hs)
        (λ h. ap not (eqb_turned h.handle.0 handle.0))
        ∙ ap (map mask_entry) (sym (reverse_filter
        (λ (h : LiveHandle). not (handle.0 == h.handle.0)) hs)))) n.masks;
    faults = subst (λ (k : ℕ). count is_fault past ≤ k) (sym r.failed_attaches) n.faults;
    steady = λ q. r.steady ∙ n.steady q;
    calls = told_one (AreCalls means t past []) (AreCalls means t (Closed handle note ∷ past) [])
        old.calls new.calls (Retires handle.0) r.calls (λ calls h. (refl, h)) n.calls;
    moment = subst (λ (k : ℕ). (summary past).moment ≤ k) (sym r.now) n.moment;
  }
    where
      hs : List LiveHandle
      hs = (summary past).handles

  -- a handler was not registered, and its end turned away
  pub net_refused : (past : List (Entry N)) (live : ℕ) (fault : Bool) (note : N) (serial : Option ℕ)
      (end : E) (old new : NetFacts E) → TurnsAwayEnd old serial end new
      → means.gone t (offered_here past) end [] ByRefusal note
      → Names (means.serial t (offered_here past)) serial
      → count is_fault (Refused live fault note ∷ past) ≤ old.failed_attaches
      → NetStands means t past [] old → NetStands means t (Refused live fault note ∷ past) [] new
  net_refused past live fault note serial end old new r gone named enough n = record {
    retired = such_same (AreRetired means t past)
        (AreRetired means t (Refused live fault note ∷ past)) old.retired new.retired r.retired
        (λ ends h. h) n.retired;
    turned_away = such_one (AreTurnedAway means t past)
        (AreTurnedAway means t (Refused live fault note ∷ past)) old.turned_away new.turned_away end
        r.turned_away (λ ends h. (gone, h)) n.turned_away;
    attached = r.attached ∙ n.attached;
    masks = told_same (λ masks. masks ≡ live_masks (summary past))
        (λ masks. masks ≡ live_masks (summary past)) old.masks new.masks r.masks (λ masks h. h)
        n.masks;
    faults = subst (λ (k : ℕ). count is_fault (Refused live fault note ∷ past) ≤ k)
        (sym r.failed_attaches) enough;
    steady = λ q. r.steady ∙ n.steady q;
    calls = told_one (AreCalls means t past [])
        (AreCalls means t (Refused live fault note ∷ past) []) old.calls new.calls
        (TurnsAway serial) r.calls (λ calls h. (named, h)) n.calls;
    moment = subst (λ (k : ℕ). (summary past).moment ≤ k) (sym r.now) n.moment;
  }

  -- a mask was set
  pub net_masked : (past : List (Entry N)) (handle : Handle) (mask : Mask) (old new : NetFacts E)
      → SetsMaskOf old handle.0 mask new
      → NetStands means t past [] old → NetStands means t (Masked handle mask ∷ past) [] new
  net_masked past handle mask old new s n = record {
    retired = such_same (AreRetired means t past) (AreRetired means t (Masked handle mask ∷ past))
        old.retired new.retired s.retired (λ ends h. h) n.retired;
    turned_away = such_same (AreTurnedAway means t past)
        (AreTurnedAway means t (Masked handle mask ∷ past)) old.turned_away new.turned_away
        s.turned_away (λ ends h. h) n.turned_away;
    attached = s.attached ∙ (n.attached
        ∙ sym (numbers_same (with_mask handle.0 mask) (summary past).handles
        (mask_number handle.0 mask)));
    masks = told_map (λ masks. masks ≡ live_masks (summary past))
        (λ masks. masks ≡ live_masks (summary (Masked handle mask ∷ past)))
        (changed_mask handle.0 mask) old.masks new.masks s.masks
        (λ masks h. ap (changed_mask handle.0 mask) h
        ∙ (changed_entries handle.0 mask (reverse (summary past).handles)
        ∙ ap (map mask_entry) (sym (reverse_map (with_mask handle.0 mask)
        (summary past).handles)))) n.masks;
    faults = subst (λ (k : ℕ). count is_fault past ≤ k) (sym s.failed_attaches) n.faults;
    steady = λ q. s.steady ∙ n.steady q;
    calls = told_one (AreCalls means t past []) (AreCalls means t (Masked handle mask ∷ past) [])
        old.calls new.calls (SetsMask handle.0 mask) s.calls (λ calls h. ((refl, refl), h)) n.calls;
    moment = subst (λ (k : ℕ). (summary past).moment ≤ k) (sym s.now) n.moment;
  }
