-- The event that is started, and the numbers of an entry that may follow.
use Rattle.std.proofs.Common.{subst, ℕ, ◌≡◌, ◌<◌, ◌==◌, true, false, not, List, [], ◌∷◌, ◌++◌, refl}
use Rattle.std.proofs.Common.{sym, ap, ◌∙◌, arith, Option, Some, None}
use Rattle.std.proofs.lemmas.Bool.{false≢true, not-true, and_parts, eqb-true, eq-eqb, ne_eqb}
use Rattle.std.proofs.lemmas.Bool.{both_ways, or_from}
use Rattle.std.specs.List.{filter, list_any}
use Rattle.reactor_journal.specs.declared.entry.Entry.{Entry}
use Rattle.reactor_journal.specs.declared.entry.Entry.TheVariants.{Polled, Started, Ended}
use Rattle.reactor_summary.specs.declared.parts.LiveHandle.{LiveHandle}
use Rattle.reactor_summary.specs.declared.parts.OpenEvent.{OpenEvent}
use Rattle.reactor_summary.specs.declared.parts.WaitingEvent.{WaitingEvent}
use Rattle.reactor_summary.specs.Summary as S
use Rattle.reactor_summary.specs.Summary.{Summary}
use Rattle.reactor_summary.specs.Tells.{Each}
use Rattle.journal_check.specs.Index.{is_idle}
use Rattle.journal_check.specs.Next.{IsNext, IsNew}
use Rattle.journal_check.specs.Sound.{IsSound, after, started, is_alone}
use Rattle.journal_check.proofs.Keyed.{filter_all}
use Rattle.journal_check.proofs.Fronts.{found_each, unfound_each, append_none, listed_own}
use Rattle.journal_check.proofs.Best.{First, Picks, summary_picks}
use Rattle.reactor_summary.proofs.Lists.{some_is}

-- the timer of a timeout that is found is not armed
pub found_idle : (s : Summary) (sound : IsSound s) (i : ℕ) (w : WaitingEvent)
    → S.waiting_event s i ≡ Some w → is_idle w.due s.armed ≡ true
found_idle s sound i w is = (found_each (λ (v : WaitingEvent). is_idle v.due s.armed ≡ true)
    (λ (v : WaitingEvent). v.event == i) s.waiting w sound.idle is).0

-- it is not open, and its handle is not busy if it is the one to be started next
pub found_closed : (s : Summary) (sound : IsSound s) (i : ℕ) (w : WaitingEvent)
    → S.waiting_event s i ≡ Some w → list_any (λ (o : OpenEvent). w.event == o.event) s.opens
    ≡ false
found_closed s sound i w is = (found_each
    (λ (v : WaitingEvent). list_any (λ (o : OpenEvent). v.event == o.event) s.opens ≡ false)
    (λ (v : WaitingEvent). v.event == i) s.waiting w sound.settled is).0

pub found_free : (s : Summary) (sound : IsSound s) (i : ℕ) (w : WaitingEvent)
    → S.waiting_event s i ≡ Some w → S.is_pick s i ≡ true → S.is_busy s w.handle.0 ≡ false
found_free s sound i w is picks = by_pick (S.pick s) refl
    (summary_picks s sound.event sound.bound sound.listed sound.own) picks
  where
    number : w.event ≡ i
    number = eqb-true w.event i (found_each (λ (v : WaitingEvent). sound.event v.event ≡ Some v)
        (λ (v : WaitingEvent). v.event == i) s.waiting w (listed_own s sound) is).1

    at : sound.event w.event ≡ Some w
    at = (found_each (λ (v : WaitingEvent). sound.event v.event ≡ Some v)
        (λ (v : WaitingEvent). v.event == i) s.waiting w (listed_own s sound) is).0

    by_pick : (o : Option WaitingEvent) → S.pick s ≡ o
        → Picks sound.event sound.bound (λ v. S.is_free s v.handle.0) 0 (S.pick s)
        → S.is_number i (S.pick s) ≡ true → S.is_busy s w.handle.0 ≡ false
    by_pick None q p h = absurd (false≢true (sym (ap (S.is_number i) q) ∙ h))
    by_pick (Some a) q p h =
        let first : First sound.event sound.bound (λ v. S.is_free s v.handle.0) 0 a =
        subst (Picks sound.event sound.bound (λ v. S.is_free s v.handle.0) 0) q p in
        let that : a.event ≡ i = eqb-true a.event i (sym (ap (S.is_number i) q) ∙ h) in
        let same : a ≡ w = some_is a w (sym first.is ∙ (ap sound.event (that ∙ sym number) ∙ at)) in
        not-true _ (and_parts (S.is_resumed s w.handle.0) (not (S.is_busy s w.handle.0))
        (ap (λ (v : WaitingEvent). S.is_free s v.handle.0) (sym same) ∙ first.passes)).1

-- to start it is what the entry says
pub found_started : (s : Summary) (i : ℕ) (w : WaitingEvent) → S.waiting_event s i ≡ Some w
    → started s w ≡ after {N = ℕ} s (Started i)
found_started s i w is =
    let number : w.event ≡ i = eqb-true w.event i
    (found_each (λ (v : WaitingEvent). Unit {0}) (λ (v : WaitingEvent). v.event == i) s.waiting
    w (each_unit s.waiting) is).1 in
    ap (λ (o : Option WaitingEvent). record s {
      waiting = filter (λ v. not (w.event == v.event)) s.waiting;
      opens = s.opens ++ S.opens_from s.moment o;
      armed = S.with_started s.moment o s.armed;
    }) (sym is)
    ∙ ap (λ (m : ℕ). record (after {N = ℕ} s (Started i)) {
      waiting = filter (λ v. not (m == v.event)) s.waiting;
    }) number
  where
    each_unit : (xs : List WaitingEvent) → Each (λ (v : WaitingEvent). Unit {0}) xs
    each_unit [] = tt
    each_unit (x ∷ xs) = (tt, each_unit xs)

-- if it is not found the entry changes nothing
pub unfound_started : (s : Summary) (i : ℕ) → S.waiting_event s i ≡ None
    → s ≡ after {N = ℕ} s (Started i)
unfound_started s i is =
    let none : list_any (λ (v : WaitingEvent). i == v.event) s.waiting ≡ false =
    absent s.waiting (unfound_each (λ (v : WaitingEvent). v.event == i) s.waiting is) in
    ap (λ (ws : List WaitingEvent). record s { waiting = ws })
    (sym (filter_all (λ (v : WaitingEvent). i == v.event) s.waiting none))
    ∙ (ap (λ (os : List OpenEvent). record s {
      waiting = filter (λ v. not (i == v.event)) s.waiting;
      opens = os;
    }) (sym (append_none s.opens))
    ∙ ap (λ (o : Option WaitingEvent).
    record s {
      waiting = filter (λ v. not (i == v.event)) s.waiting;
      opens = s.opens ++ S.opens_from s.moment o;
      armed = S.with_started s.moment o s.armed;
    }) (sym is))
  where
    absent : (xs : List WaitingEvent) → Each (λ (v : WaitingEvent). (v.event == i) ≡ false) xs
        → list_any (λ (v : WaitingEvent). i == v.event) xs ≡ false
    absent [] e = refl
    absent (x ∷ xs) e = or_from (i == x.event) _
        (ne_eqb i x.event (λ q. both_ways _ e.0 (eq-eqb x.event i (sym q)))) (absent xs e.1)

pub next_new : {N : Type 0} (s : Summary) (e : Entry N) → IsSound s → IsNext s e → IsNew s e
next_new s e sound next =
    record {
      events = sound.past;
      timer = λ timer handle first every is. let number : timer ≡ s.scheduled =
          next.scheduled timer handle first every is in sound.fresh timer (omega arith);
      handle = λ handle mask is. subst (λ (n : ℕ).
          Each (λ (h : LiveHandle). h.handle.0 < n) s.handles) (sym (next.opened handle mask is))
          sound.numbered;
    }

pub alone_from : {N : Type 0} (e : Entry N) → ((i : ℕ) → e ≡ Started i → ⊥)
    → ((moment : ℕ) → e ≡ Polled moment → ⊥) → (e ≡ Ended → ⊥) → is_alone e ≡ true
alone_from (Started event) h k l = absurd (h event refl)
alone_from (Polled moment) h k l = absurd (k moment refl)
alone_from Ended h k l = absurd (l refl)
alone_from _ h k l = refl
