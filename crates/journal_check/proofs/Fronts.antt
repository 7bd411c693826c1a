-- What an entry leaves as it was of the handles that it is not about.
use Rattle.std.proofs.Common.{ℕ, ◌≡◌, ◌==◌, Bool, true, false, not, ◌&&◌, ◌||◌, List, [], ◌∷◌, ◌++◌}
use Rattle.std.proofs.Common.{map, refl, sym, ap, ◌∙◌, subst, cond, Option, Some, None, option_map}
use Rattle.std.proofs.Common.{⊎_elim}
use Rattle.std.proofs.lemmas.Bool.{false≢true, both_ways, and_parts, and_left, and_right}
use Rattle.std.proofs.lemmas.Bool.{cases_Bool, eq-eqb, ne_eqb, eqb-true, cond-true, cond-false}
use Rattle.std.proofs.lemmas.List.Elements.{filter-append}
use Rattle.std.proofs.lemmas.List.Folds.{list_any-append}
use Rattle.std.specs.List.{filter, find, list_any}
use Rattle.ev_types.specs.declared.upcall.Handle.{Handle}
use Rattle.ev_types.specs.declared.upcall.Mask.{Mask}
use Rattle.ev_types.specs.declared.upcall.Answer.TheVariants.{Again, Close}
use Rattle.reactor_journal.specs.Event.{Event}
use Rattle.ev_types.specs.declared.upcall.Upcall.TheVariants.{Timeout}
use Rattle.reactor_journal.specs.Past.{class_of, is_timeout_of, is_without, belongs_to}
use Rattle.reactor_journal.specs.declared.entry.Entry.{Entry}
use Rattle.reactor_journal.specs.declared.entry.Entry.TheVariants.{Opened, Cancelled, Due, Ready}
use Rattle.reactor_journal.specs.declared.entry.Entry.TheVariants.{Posted, Started, Returned}
use Rattle.reactor_journal.specs.declared.entry.Entry.TheVariants.{Masked, Suspended, Resumed}
use Rattle.reactor_journal.specs.declared.entry.Entry.TheVariants.{Removed, Closed}
use Rattle.reactor_summary.specs.declared.parts.ArmedTimer.{ArmedTimer}
use Rattle.reactor_summary.specs.declared.parts.LiveHandle.{LiveHandle}
use Rattle.reactor_summary.specs.declared.parts.OpenEvent.{OpenEvent}
use Rattle.reactor_summary.specs.declared.parts.WaitingEvent.{WaitingEvent}
use Rattle.reactor_summary.specs.Summary as S
use Rattle.reactor_summary.specs.Summary.{Summary, else_}
use Rattle.reactor_summary.specs.Tells.{Each}
use Rattle.reactor_summary.proofs.Lists.{some_is, each_same}
use Rattle.journal_check.specs.Fronts.{front, front_in, key_of, front_key, IsAbout, timer_handle}
use Rattle.journal_check.specs.Fronts.{open_handle, waiting_handle}
use Rattle.journal_check.specs.Sound.{IsSound}
use Rattle.journal_check.specs.Queue.{IsOne, IsOwned}
use Rattle.journal_check.proofs.Keyed.{any_member, each_member, each_none, find_some}
use Rattle.journal_check.proofs.Best.{each_listed}

-- the handle is another
abbrev pub Apart : ℕ → Option Handle → Type 0
Apart y o = (h : Handle) → o ≡ Some h → y ≡ h.0 → ⊥

-- ---- handles

any_mapped : (p : LiveHandle → Bool) (g : LiveHandle → LiveHandle) (hs : List LiveHandle)
    → ((h : LiveHandle) → p (g h) ≡ p h) → list_any p (map g hs) ≡ list_any p hs
any_mapped p g [] same = refl
any_mapped p g (h ∷ hs) same = ap (λ b. b || list_any p (map g hs)) (same h)
    ∙ ap (λ b. p h || b) (any_mapped p g hs same)

any_filtered_same : {A : Type 0} (p q : A → Bool) (xs : List A)
    → Each (λ a. q a ≡ false → p a ≡ false) xs → list_any p (filter q xs) ≡ list_any p xs
any_filtered_same p q [] h = refl
any_filtered_same p q (x ∷ xs) h =
    ⊎_elim
    (λ (t : q x ≡ true). ap (list_any p) (cond-true (q x) (x ∷ filter q xs) (filter q xs) t)
    ∙ ap (λ b. p x || b) (any_filtered_same p q xs h.1))
    (λ (f : q x ≡ false). ap (list_any p) (cond-false (q x) (x ∷ filter q xs) (filter q xs) f)
    ∙ (any_filtered_same p q xs h.1 ∙ sym (ap (λ b. b || list_any p xs) (h.0 f))))
    (cases_Bool (q x))

-- a test of a handle that does not read its mask
abbrev NoMask : (LiveHandle → Bool) → Type 0
NoMask q = (h : LiveHandle) (mask : Mask) → q (record h { mask = mask }) ≡ q h

abbrev of_number : ℕ → (LiveHandle → Bool) → LiveHandle → Bool
of_number y q h = h.handle.0 == y && q h

not_of : (y x : ℕ) (q : LiveHandle → Bool) (h : LiveHandle) → (y ≡ x → ⊥) → x ≡ h.handle.0
    → of_number y q h ≡ false
not_of y x q h n e = and_left (h.handle.0 == y) (q h) (ne_eqb h.handle.0 y (λ d. n (sym d ∙ sym e)))

changed_same : (y x : ℕ) (q : LiveHandle → Bool) (c : LiveHandle → LiveHandle) → (y ≡ x → ⊥)
    → ((h : LiveHandle) → (c h).handle.0 ≡ h.handle.0) → (b : Bool) (h : LiveHandle)
    → (b ≡ true → x ≡ h.handle.0) → of_number y q (cond b (c h) h) ≡ of_number y q h
changed_same y x q c n keeps true h e =
    not_of y x q (c h) n (e refl ∙ sym (keeps h)) ∙ sym (not_of y x q h n (e refl))
changed_same y x q c n keeps false h e = refl

masked_same : (y : ℕ) (q : LiveHandle → Bool) (mask : Mask) → NoMask q → (b : Bool) (h : LiveHandle)
    → of_number y q (cond b (record h { mask = mask }) h) ≡ of_number y q h
masked_same y q mask k true h = ap (λ b. h.handle.0 == y && b) (k h mask)
masked_same y q mask k false h = refl

ended_same : (y : ℕ) (q : LiveHandle → Bool) (hs : List LiveHandle) (event : Option Event)
    → ((e : Event) → event ≡ Some e → y ≡ e.handle → ⊥)
    → list_any (of_number y q) (map (S.with_end event) hs) ≡ list_any (of_number y q) hs
ended_same y q hs None n = any_mapped (of_number y q) (S.with_end None) hs (λ h. refl)
ended_same y q hs (Some e) n =
    any_mapped (of_number y q) (S.with_end (Some e)) hs
    (λ h. changed_same y e.handle q (λ (g : LiveHandle). record g { alive = false }) (n e refl)
    (λ g. refl) (e.handle == h.handle.0) h (λ t. eqb-true e.handle h.handle.0 t))

some_handle : (a b : Handle) → ◌≡◌ {A = Option Handle} (Some a) (Some b) → a ≡ b
some_handle a b q = cc

-- an open event's handle is the one that the entry is about
event_apart : (s : Summary) (y i : ℕ) (o : Option Handle)
    → o ≡ option_map open_handle (S.open_event s i) → Apart y o → (e : Event)
    → S.event_open s i ≡ Some e → y ≡ e.handle → ⊥
event_apart s y i o about apart e q same = by_cases (S.open_event s i) refl
  where
    by_cases : (found : Option OpenEvent) → S.open_event s i ≡ found → ⊥
    by_cases None f = absurd (none (ap (option_map S.event_of) (sym f) ∙ q))
      where
        none : ◌≡◌ {A = Option Event} None (Some e) → ⊥
        none h = cc
    by_cases (Some a) f =
        let is : S.event_of a ≡ e = some (ap (option_map S.event_of) (sym f) ∙ q) in
        apart a.handle (about ∙ ap (option_map open_handle) f)
        (same ∙ sym (ap (λ (v : Event). v.handle) is))
      where
        some : ◌≡◌ {A = Option Event} (Some (S.event_of a)) (Some e) → S.event_of a ≡ e
        some h = cc

pub handles_same : {N : Type 0} (e : Entry N) (s : Summary) (y : ℕ) (o : Option Handle)
    (q : LiveHandle → Bool) → NoMask q → IsAbout s e o → Apart y o
    → list_any (of_number y q) (S.handles_after s e) ≡ list_any (of_number y q) s.handles
handles_same (Opened handle mask) s y o q k about apart =
    list_any-append (of_number y q) s.handles
    (record { handle = handle; mask = mask; suspended = false; alive = true } ∷ [])
    ∙ (ap (λ b. list_any (of_number y q) s.handles || (b || false))
    (not_of y handle.0 q (record {
      handle = handle;
      mask = mask;
      suspended = false;
      alive = true;
    }) (apart handle about) refl)
    ∙ or_false (list_any (of_number y q) s.handles))
  where
    or_false : (b : Bool) → (b || false) ≡ b
    or_false true = refl
    or_false false = refl
handles_same (Masked handle mask) s y o q k about apart =
    any_mapped (of_number y q) (S.with_mask handle.0 mask) s.handles
    (λ h. masked_same y q mask k (handle.0 == h.handle.0) h)
handles_same (Suspended handle) s y o q k about apart =
    any_mapped (of_number y q) (S.with_suspended handle.0 true) s.handles
    (λ h. changed_same y handle.0 q (λ (g : LiveHandle). record g { suspended = true })
    (apart handle about) (λ g. refl) (handle.0 == h.handle.0) h
    (λ t. eqb-true handle.0 h.handle.0 t))
handles_same (Resumed handle) s y o q k about apart =
    any_mapped (of_number y q) (S.with_suspended handle.0 false) s.handles
    (λ h. changed_same y handle.0 q (λ (g : LiveHandle). record g { suspended = false })
    (apart handle about) (λ g. refl) (handle.0 == h.handle.0) h
    (λ t. eqb-true handle.0 h.handle.0 t))
handles_same (Removed handle) s y o q k about apart =
    ended_same y q s.handles (S.of_handle handle)
    (λ e is same. apart handle about (same ∙ ap (λ (v : Event). v.handle) (sym (some _ e is))))
  where
    some : (a b : Event) → ◌≡◌ {A = Option Event} (Some a) (Some b) → a ≡ b
    some a b h = cc
handles_same (Returned event Close note) s y o q k about apart =
    ended_same y q s.handles (S.event_open s event) (event_apart s y event o about apart)
handles_same (Closed handle note) s y o q k about apart =
    any_filtered_same (of_number y q) (λ (h : LiveHandle). not (handle.0 == h.handle.0)) s.handles
    (each_member (λ (h : LiveHandle). not (handle.0 == h.handle.0) ≡ false
    → of_number y q h ≡ false) s.handles
    (λ h member f. not_of y handle.0 q h (apart handle about)
    (eqb-true handle.0 h.handle.0 (back (handle.0 == h.handle.0) f))))
  where
    back : (b : Bool) → not b ≡ false → b ≡ true
    back true f = refl
    back false f = absurd (false≢true (sym f))
handles_same _ s y o q k about apart = refl

-- ---- events by their numbers

pub found_each : {A : Type 0} (P : A → Type 0) (p : A → Bool) (xs : List A) (b : A) → Each P xs
    → find p xs ≡ Some b → P b × (p b ≡ true)
found_each {A} P p [] b e is = absurd (none is)
  where
    none : ◌≡◌ {A = Option A} None (Some b) → ⊥
    none h = cc
found_each {A} P p (x ∷ xs) b e is =
    ⊎_elim
    (λ (t : p x ≡ true).
    let same : x ≡ b = some_is x b (sym (cond-true (p x) (Some x) (find p xs) t) ∙ is) in
    (subst P same e.0, ap p (sym same) ∙ t))
    (λ (f : p x ≡ false). found_each P p xs b e.1
    (sym (cond-false (p x) (Some x) (find p xs) f) ∙ is))
    (cases_Bool (p x))

pub unfound_each : {A : Type 0} (p : A → Bool) (xs : List A) → find p xs ≡ None
    → Each (λ a. p a ≡ false) xs
unfound_each p [] is = tt
unfound_each {A} p (x ∷ xs) is =
    ⊎_elim
    (λ (t : p x ≡ true). absurd (some (sym (cond-true (p x) (Some x) (find p xs) t) ∙ is)))
    (λ (f : p x ≡ false). (
      f,
      unfound_each p xs
          (sym (cond-false (p x) (Some x) (find p xs) f) ∙ is),
    ))
    (cases_Bool (p x))
  where
    some : ◌≡◌ {A = Option A} (Some x) None → ⊥
    some h = cc

numbered_each : {A : Type 0} (num hand : A → ℕ) (f : ℕ → Option A) (i y : ℕ) (xs : List A)
    → Each (λ a. f (num a) ≡ Some a) xs
    → ((b : A) → find (λ a. num a == i) xs ≡ Some b → y ≡ hand b → ⊥)
    → Each (λ a. num a ≡ i → y ≡ hand a → ⊥) xs
numbered_each {A} num hand f i y xs e apart = by_find (find (λ a. num a == i) xs) refl
  where
    by_find : (o : Option A) → find (λ a. num a == i) xs ≡ o
        → Each (λ a. num a ≡ i → y ≡ hand a → ⊥) xs
    by_find None is = each_same (λ (a : A). (num a == i) ≡ false)
        (λ (a : A). num a ≡ i → y ≡ hand a → ⊥) xs
        (λ a n q same. both_ways _ n (eq-eqb (num a) i q))
        (unfound_each (λ (a : A). num a == i) xs is)
    by_find (Some b) is =
        let r : (f (num b) ≡ Some b) × ((num b == i) ≡ true) =
        found_each (λ (a : A). f (num a) ≡ Some a) (λ (a : A). num a == i) xs b e is in
        each_same (λ (a : A). f (num a) ≡ Some a) (λ (a : A). num a ≡ i → y ≡ hand a → ⊥) xs
        (λ a mine q same. apart b is (same
        ∙ ap hand (some_is a b (sym mine ∙ (ap f (q ∙ sym (eqb-true (num b) i r.1)) ∙ r.0))))) e

not_back : (b : Bool) → not b ≡ false → b ≡ true
not_back true f = refl
not_back false f = absurd (false≢true (sym f))

-- ---- open events

open_apart : (s : Summary) (i y : ℕ) (o : Option Handle)
    → o ≡ option_map open_handle (S.open_event s i) → Apart y o → (b : OpenEvent)
    → S.open_event s i ≡ Some b → y ≡ b.handle.0 → ⊥
open_apart s i y o about apart b is same =
    apart b.handle (about ∙ ap (option_map open_handle) is) same

wait_apart : (s : Summary) (i y : ℕ) (o : Option Handle)
    → o ≡ option_map waiting_handle (S.waiting_event s i) → Apart y o → (w : WaitingEvent)
    → S.waiting_event s i ≡ Some w → y ≡ w.handle.0 → ⊥
wait_apart s i y o about apart w is same =
    apart w.handle (about ∙ ap (option_map waiting_handle) is) same

opens_appended : (y moment : ℕ) (xs : List OpenEvent) (o : Option WaitingEvent)
    → ((w : WaitingEvent) → o ≡ Some w → y ≡ w.handle.0 → ⊥)
    → list_any (λ (a : OpenEvent). a.handle.0 == y) (xs ++ S.opens_from moment o)
    ≡ list_any (λ (a : OpenEvent). a.handle.0 == y) xs
opens_appended y moment xs None n =
    list_any-append (λ (a : OpenEvent). a.handle.0 == y) xs []
    ∙ or_false (list_any (λ (a : OpenEvent). a.handle.0 == y) xs)
  where
    or_false : (b : Bool) → (b || false) ≡ b
    or_false true = refl
    or_false false = refl
opens_appended y moment xs (Some w) n =
    list_any-append (λ (a : OpenEvent). a.handle.0 == y) xs (S.opens_from moment (Some w))
    ∙ (ap (λ b. list_any (λ (a : OpenEvent). a.handle.0 == y) xs || (b || false))
    (ne_eqb w.handle.0 y (λ q. n w refl (sym q)))
    ∙ or_false (list_any (λ (a : OpenEvent). a.handle.0 == y) xs))
  where
    or_false : (b : Bool) → (b || false) ≡ b
    or_false true = refl
    or_false false = refl

pub busy_same : {N : Type 0} (e : Entry N) (s : Summary) (y : ℕ) (o : Option Handle) → IsSound s
    → IsAbout s e o → Apart y o → list_any (λ (a : OpenEvent). a.handle.0 == y) (S.opens_after s e)
    ≡ S.is_busy s y
busy_same (Started event) s y o sound about apart =
    opens_appended y s.moment s.opens (S.waiting_event s event) (wait_apart s event y o about apart)
busy_same (Returned event answer note) s y o sound about apart =
    any_filtered_same (λ (a : OpenEvent). a.handle.0 == y)
    (λ (a : OpenEvent). not (event == a.event)) s.opens
    (each_same (λ (a : OpenEvent). a.event ≡ event → y ≡ a.handle.0 → ⊥)
    (λ (a : OpenEvent). not (event == a.event) ≡ false → (a.handle.0 == y) ≡ false) s.opens
    (λ a n f. ne_eqb a.handle.0 y (λ q.
    n (sym (eqb-true event a.event (not_back (event == a.event) f))) (sym q)))
    (numbered_each (λ (a : OpenEvent). a.event) (λ (a : OpenEvent). a.handle.0) sound.opened event y
    s.opens sound.opens (open_apart s event y o about apart)))
busy_same _ s y o sound about apart = refl

-- ---- waiting events

abbrev own_of : ℕ → List WaitingEvent → List WaitingEvent
own_of y ws = filter (λ w. y == w.handle.0) ws

own_filtered : (y : ℕ) (q : WaitingEvent → Bool) (xs : List WaitingEvent)
    → Each (λ w. q w ≡ false → (y == w.handle.0) ≡ false) xs → own_of y (filter q xs) ≡ own_of y xs
own_filtered y q [] h = refl
own_filtered y q (x ∷ xs) h =
    ⊎_elim
    (λ (t : q x ≡ true). ap (own_of y) (cond-true (q x) (x ∷ filter q xs) (filter q xs) t)
    ∙ ap (λ ys. cond (y == x.handle.0) (x ∷ ys) ys) (own_filtered y q xs h.1))
    (λ (f : q x ≡ false). ap (own_of y) (cond-false (q x) (x ∷ filter q xs) (filter q xs) f)
    ∙ (own_filtered y q xs h.1 ∙ sym (cond-false (y == x.handle.0) (x ∷ own_of y xs)
    (own_of y xs) (h.0 f))))
    (cases_Bool (q x))

pub append_none : {A : Type 0} (xs : List A) → xs ++ [] ≡ xs
append_none [] = refl
append_none (x ∷ xs) = ap (λ ys. x ∷ ys) (append_none xs)

own_appended : (y : ℕ) (xs : List WaitingEvent) (w : WaitingEvent) → (y ≡ w.handle.0 → ⊥)
    → own_of y (xs ++ w ∷ []) ≡ own_of y xs
own_appended y xs w n =
    filter-append (λ (v : WaitingEvent). y == v.handle.0) xs (w ∷ [])
    ∙ (ap (λ ys. own_of y xs ++ ys) (cond-false (y == w.handle.0) (w ∷ []) []
    (ne_eqb y w.handle.0 n))
    ∙ append_none (own_of y xs))

due_appended : (y i : ℕ) (xs : List WaitingEvent) (a : Option ArmedTimer)
    → ((b : ArmedTimer) → a ≡ Some b → y ≡ b.handle.0 → ⊥)
    → own_of y (xs ++ S.waiting_due i a) ≡ own_of y xs
due_appended y i xs None n = ap (own_of y) (append_none xs)
due_appended y i xs (Some b) n = own_appended y xs
    (record { event = i; handle = b.handle; upcall = Timeout b.timer; due = Some (S.due_of b) })
    (n b refl)

again_appended : (s : Summary) (y : ℕ) (xs : List WaitingEvent) (o : Option OpenEvent)
    → ((b : OpenEvent) → o ≡ Some b → y ≡ b.handle.0 → ⊥)
    → own_of y (xs ++ S.waiting_again s o) ≡ own_of y xs
again_appended s y xs None n = ap (own_of y) (append_none xs)
again_appended s y xs (Some b) n = by_cases (S.is_alive s b.handle.0)
  where
    by_cases : (c : Bool) → own_of y (xs
        ++ cond c (record { event = s.entries; handle = b.handle; upcall = b.upcall; due = None }
        ∷ []) []) ≡ own_of y xs
    by_cases true = own_appended y xs (record {
      event = s.entries;
      handle = b.handle;
      upcall = b.upcall;
      due = None;
    }) (n b refl)
    by_cases false = ap (own_of y) (append_none xs)

own_closed : (y : ℕ) (xs : List WaitingEvent) (event : Option Event)
    → ((e : Event) → event ≡ Some e → y ≡ e.handle → ⊥)
    → own_of y (S.without_events_of event xs) ≡ own_of y xs
own_closed y xs None n = own_filtered y (λ (w : WaitingEvent). not (belongs_to w.handle.0 None)) xs
    (each_member (λ (w : WaitingEvent). not false ≡ false → (y == w.handle.0) ≡ false) xs
    (λ w member f. absurd (false≢true (sym f))))
own_closed y xs (Some e) n =
    own_filtered y (λ (w : WaitingEvent). not (belongs_to w.handle.0 (Some e))) xs
    (each_member (λ (w : WaitingEvent). not (e.handle == w.handle.0) ≡ false
    → (y == w.handle.0) ≡ false) xs
    (λ w member f. ne_eqb y w.handle.0
    (λ q. n e refl (q ∙ sym (eqb-true e.handle w.handle.0
    (not_back (e.handle == w.handle.0) f))))))

pub listed_own : (s : Summary) (sound : IsSound s)
    → Each (λ (w : WaitingEvent). sound.event w.event ≡ Some w) s.waiting
listed_own s sound =
    subst (Each (λ (w : WaitingEvent). sound.event w.event ≡ Some w)) (sym sound.listed)
    (each_listed (λ (w : WaitingEvent). sound.event w.event ≡ Some w) sound.event sound.bound
    (λ k w lt is. ap sound.event (sound.own k w is) ∙ is))

pub own_same : {N : Type 0} (e : Entry N) (s : Summary) (y : ℕ) (o : Option Handle) → IsSound s
    → IsAbout s e o → Apart y o → own_of y (S.waiting_after s e) ≡ own_of y s.waiting
own_same (Due timer) s y o sound about apart =
    due_appended y s.entries s.waiting (S.armed_timer s timer)
    (λ b is same. apart b.handle (about ∙ ap (option_map timer_handle) is) same)
own_same (Ready handle kind) s y o sound about apart =
    own_appended y s.waiting _ (apart handle about)
own_same (Posted handle kind from seq) s y o sound about apart =
    own_appended y s.waiting _ (apart handle about)
own_same (Returned event Again note) s y o sound about apart =
    again_appended s y s.waiting (S.open_event s event) (open_apart s event y o about apart)
own_same (Returned event Close note) s y o sound about apart =
    own_closed y s.waiting (S.event_open s event) (event_apart s y event o about apart)
own_same (Removed handle) s y o sound about apart =
    own_closed y s.waiting (S.of_handle handle)
    (λ e is same. apart handle about (same ∙ ap (λ (v : Event). v.handle) (sym (some _ e is))))
  where
    some : (a b : Event) → ◌≡◌ {A = Option Event} (Some a) (Some b) → a ≡ b
    some a b h = cc
own_same (Masked handle mask) s y o sound about apart =
    own_filtered y (λ (w : WaitingEvent). not (handle.0 == w.handle.0 && is_without mask w.upcall))
    s.waiting
    (each_member (λ (w : WaitingEvent). not (handle.0 == w.handle.0 && is_without mask w.upcall)
    ≡ false → (y == w.handle.0) ≡ false) s.waiting
    (λ w member f. ne_eqb y w.handle.0
    (λ q. apart handle about (q ∙ sym (eqb-true handle.0 w.handle.0
    (and_parts (handle.0 == w.handle.0) (is_without mask w.upcall)
    (not_back (handle.0 == w.handle.0 && is_without mask w.upcall) f)).0)))))
own_same (Cancelled timer) s y o sound about apart =
    own_filtered y (λ (w : WaitingEvent). not (is_timeout_of timer w.upcall)) s.waiting
    (each_same (λ (w : WaitingEvent). is_timeout_of timer w.upcall ≡ true → o ≡ Some w.handle)
    (λ (w : WaitingEvent). not (is_timeout_of timer w.upcall) ≡ false
    → (y == w.handle.0) ≡ false) s.waiting
    (λ w mine f. ne_eqb y w.handle.0 (λ q.
    apart w.handle (mine (not_back (is_timeout_of timer w.upcall) f)) q)) about)
own_same (Started event) s y o sound about apart =
    own_filtered y (λ (w : WaitingEvent). not (event == w.event)) s.waiting
    (each_same (λ (w : WaitingEvent). w.event ≡ event → y ≡ w.handle.0 → ⊥)
    (λ (w : WaitingEvent). not (event == w.event) ≡ false → (y == w.handle.0) ≡ false) s.waiting
    (λ w n f. ne_eqb y w.handle.0 (λ q.
    n (sym (eqb-true event w.event (not_back (event == w.event) f))) q))
    (numbered_each (λ (w : WaitingEvent). w.event) (λ (w : WaitingEvent). w.handle.0) sound.event
    event y s.waiting (listed_own s sound) (wait_apart s event y o about apart)))
own_same _ s y o sound about apart = refl

-- ---- what is kept of another handle

front_own : (y c : ℕ) (ws : List WaitingEvent)
    → front_in ws y c ≡ find (λ w. class_of w.upcall == c) (own_of y ws)
front_own y c [] = refl
front_own y c (w ∷ ws) =
    ⊎_elim
    (λ (t : (y == w.handle.0) ≡ true).
    ap (λ b. cond (class_of w.upcall == c && b) (Some w) (front_in ws y c)) t
    ∙ (ap (λ b. cond b (Some w) (front_in ws y c)) (and_true (class_of w.upcall == c))
    ∙ (ap (λ o. cond (class_of w.upcall == c) (Some w) o) (front_own y c ws)
    ∙ sym (ap (find (λ v. class_of v.upcall == c))
    (cond-true (y == w.handle.0) (w ∷ own_of y ws) (own_of y ws) t)))))
    (λ (f : (y == w.handle.0) ≡ false).
    cond-false (class_of w.upcall == c && y == w.handle.0) (Some w) (front_in ws y c)
    (and_right (class_of w.upcall == c) (y == w.handle.0) f)
    ∙ (front_own y c ws ∙ sym (ap (find (λ v. class_of v.upcall == c))
    (cond-false (y == w.handle.0) (w ∷ own_of y ws) (own_of y ws) f))))
    (cases_Bool (y == w.handle.0))
  where
    and_true : (b : Bool) → (b && true) ≡ b
    and_true true = refl
    and_true false = refl

front_same : (y : ℕ) (ws vs : List WaitingEvent) → own_of y vs ≡ own_of y ws
    → front vs y ≡ front ws y
front_same y ws vs q =
    let one : (c : ℕ) → front_in vs y c ≡ front_in ws y c =
    λ c. front_own y c vs ∙ (ap (find (λ w. class_of w.upcall == c)) q ∙ sym (front_own y c ws))
    in
    ap (λ o. else_ o (else_ (front_in vs y 1)
    (else_ (front_in vs y 2) (else_ (front_in vs y 3) (front_in vs y 4))))) (one 0)
    ∙ (ap (λ o. else_ (front_in ws y 0)
    (else_ o (else_ (front_in vs y 2) (else_ (front_in vs y 3) (front_in vs y 4))))) (one 1)
    ∙ (ap (λ o. else_ (front_in ws y 0)
    (else_ (front_in ws y 1) (else_ o (else_ (front_in vs y 3) (front_in vs y 4))))) (one 2)
    ∙ (ap (λ o. else_ (front_in ws y 0)
    (else_ (front_in ws y 1) (else_ (front_in ws y 2) (else_ o (front_in vs y 4))))) (one 3)
    ∙ ap (λ o. else_ (front_in ws y 0)
    (else_ (front_in ws y 1) (else_ (front_in ws y 2) (else_ (front_in ws y 3) o)))) (one 4))))

pub key_same : {N : Type 0} (e : Entry N) (s : Summary) (y : ℕ) (o : Option Handle) → IsSound s
    → IsAbout s e o → Apart y o → front_key (S.step s e) y ≡ front_key s y
key_same e s y o sound about apart =
    ap (λ b. cond (b && not (S.is_busy (S.step s e) y))
    (option_map key_of (front (S.waiting_after s e) y)) None)
    (handles_same e s y o (λ (h : LiveHandle). h.alive && not h.suspended) (λ h mask. refl)
    about apart)
    ∙ (ap (λ b. cond (S.is_resumed s y && not b) (option_map key_of (front (S.waiting_after s e) y))
    None) (busy_same e s y o sound about apart)
    ∙ ap (λ f. cond (S.is_free s y) (option_map key_of f) None)
    (front_same y s.waiting (S.waiting_after s e) (own_same e s y o sound about apart)))

pub waits_same : {N : Type 0} (e : Entry N) (s : Summary) (y : ℕ) (o : Option Handle) → IsSound s
    → IsAbout s e o → Apart y o → S.waits_for_closed (S.step s e) y ≡ S.waits_for_closed s y
waits_same e s y o sound about apart =
    ap (λ b. b && not (S.is_busy (S.step s e) y))
    (handles_same e s y o (λ (h : LiveHandle). not h.alive) (λ h mask. refl) about apart)
    ∙ ap (λ b. list_any (of_number y (λ (h : LiveHandle). not h.alive)) s.handles && not b)
    (busy_same e s y o sound about apart)

-- ---- the handle of a timeout

abbrev handle_some : ℕ → Option Handle
handle_some n = Some (record { 0 = n })

pub owned_handle : (t i : ℕ) (xs : List WaitingEvent)
    → IsOne (λ (w : WaitingEvent). is_timeout_of t w.upcall) i xs → IsOwned t xs
    → Each (λ w. is_timeout_of t w.upcall ≡ true
    → option_map waiting_handle (find (λ v. v.event == i) xs) ≡ Some w.handle) xs
owned_handle t i xs one owned =
    let there : list_any (λ (w : WaitingEvent). w.event == i) xs ≡ true = any_turned xs one.waits in
    let r : (a : WaitingEvent) × (find (λ (w : WaitingEvent). w.event == i) xs ≡ Some a) =
    find_some (λ (w : WaitingEvent). w.event == i) xs there in
    let passed : (r.0.event ≡ i → is_timeout_of t r.0.upcall ≡ true) × ((r.0.event == i) ≡ true) =
    found_each (λ (w : WaitingEvent). w.event ≡ i → is_timeout_of t w.upcall ≡ true)
    (λ (w : WaitingEvent). w.event == i) xs r.0 one.passes r.1 in
    let mine : (is_timeout_of t r.0.upcall ≡ true → r.0.handle.0 ≡ owned.owner)
    × ((r.0.event == i) ≡ true) = found_each
    (λ (w : WaitingEvent). is_timeout_of t w.upcall ≡ true → w.handle.0 ≡ owned.owner)
    (λ (w : WaitingEvent). w.event == i) xs r.0 owned.mine r.1 in
    let number : r.0.handle.0 ≡ owned.owner = mine.0 (passed.0 (eqb-true r.0.event i passed.1)) in
    each_same (λ (w : WaitingEvent). is_timeout_of t w.upcall ≡ true → w.handle.0 ≡ owned.owner)
    (λ (w : WaitingEvent). is_timeout_of t w.upcall ≡ true
    → option_map waiting_handle (find (λ v. v.event == i) xs) ≡ Some w.handle) xs
    (λ w h q. ap (option_map waiting_handle) r.1
    ∙ ap (λ (n : ℕ). handle_some n) (number ∙ sym (h q))) owned.mine
  where
    any_turned : (ys : List WaitingEvent) → list_any (λ (w : WaitingEvent). i == w.event) ys ≡ true
        → list_any (λ (w : WaitingEvent). w.event == i) ys ≡ true
    any_turned ys h =
        let m : (w : WaitingEvent) × ((i == w.event) ≡ true)
        × ((p : WaitingEvent → Bool) → p w ≡ true → list_any p ys ≡ true) =
        any_member (λ (w : WaitingEvent). i == w.event) ys h in
        m.2 (λ w. w.event == i) (eq-eqb m.0.event i (sym (eqb-true i m.0.event m.1)))

pub owned_none : (t : ℕ) (o : Option Handle) (xs : List WaitingEvent)
    → list_any (λ (w : WaitingEvent). is_timeout_of t w.upcall) xs ≡ false
    → Each (λ w. is_timeout_of t w.upcall ≡ true → o ≡ Some w.handle) xs
owned_none t o xs h = each_same (λ (w : WaitingEvent). is_timeout_of t w.upcall ≡ false)
    (λ (w : WaitingEvent). is_timeout_of t w.upcall ≡ true → o ≡ Some w.handle) xs
    (λ w f q. absurd (both_ways _ f q))
    (each_none (λ (w : WaitingEvent). is_timeout_of t w.upcall) xs h)
