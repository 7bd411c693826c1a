-- What a summary tells of an open event.
use Rattle.std.proofs.Common.{ℕ, ◌≡◌, ◌==◌, true, List, sym, ap, ◌∙◌, subst, Option, Some, None}
use Rattle.std.proofs.Common.{option_map}
use Rattle.std.proofs.lemmas.Bool.{eqb-true, cond-true}
use Rattle.std.specs.List.{find}
use Rattle.reactor_journal.specs.Event.{Event}
use Rattle.reactor_journal.specs.declared.entry.Entry.{Entry}
use Rattle.reactor_journal.specs.Past as P
use Rattle.reactor_summary.specs.declared.parts.OpenEvent.{OpenEvent}
use Rattle.reactor_summary.specs.Summary as S
use Rattle.reactor_summary.specs.Summary.{Summary}
use Rattle.reactor_summary.specs.Tells as T
use Rattle.reactor_summary.specs.Tells.{Tells}
use Rattle.reactor_summary.proofs.Lists.{each_find, some_is, none_some}

-- an event that is open is found
pub record Found {N : Type 0} (past : List (Entry N)) (s : Summary) (i : ℕ) : Type 0 where
  pub item : OpenEvent
  pub found : S.open_event s i ≡ Some item
  pub is : option_map (T.as_open past i) (P.event_at past i) ≡ Some item
  pub event : item.event ≡ i

pub open_found : {N : Type 0} (past : List (Entry N)) (s : Summary) (i : ℕ) → Tells past s
    → P.is_open past i ≡ true → Found past s i
open_found past s i t o =
    let r : (a : OpenEvent) × (find (λ o. o.event == i) s.opens ≡ Some a)
    × (T.open_event past a.event ≡ Some a) × ((a.event == i) ≡ true) =
    each_find (λ a. T.open_event past a.event ≡ Some a) (λ o. o.event == i) s.opens t.opens
    (t.all_opens i o)
    in
    let same : r.0.event ≡ i = eqb-true r.0.event i r.3 in
    let at : T.open_event past i ≡ Some r.0 =
    subst (λ (k : ℕ). T.open_event past k ≡ Some r.0) same r.2 in
    record { item = r.0; found = r.1; is = sym (cond-true _ _ _ o) ∙ at; event = same }

-- its handle and upcall are those of the event
pub found_event : {N : Type 0} (past : List (Entry N)) (i : ℕ) (event : Option Event)
    (o : OpenEvent) → option_map (T.as_open past i) event ≡ Some o
    → ◌≡◌ {A = Option Event} (Some (S.event_of o)) event
found_event past i None o h = none_some o h
found_event past i (Some event) o h =
    ap (λ (a : OpenEvent). Some (S.event_of a)) (sym (some_is _ o h))

pub event_open_is : {N : Type 0} (past : List (Entry N)) (s : Summary) (i : ℕ) → Tells past s
    → P.is_open past i ≡ true → S.event_open s i ≡ P.event_at past i
event_open_is past s i t o =
    let f : Found past s i = open_found past s i t o in
    ap (option_map S.event_of) f.found ∙ found_event past i (P.event_at past i) f.item f.is
