-- What the calls of a net that plays a script do to what it tells.
use Rattle.std.proofs.Common.{◌≡◌, ◌∙◌, ℕ, zero, suc, ◌+◌, ◌<◌, ◌≤◌, Bool, true, false, not, cond}
use Rattle.std.proofs.Common.{◌==◌, ◌&&◌, ◌||◌, List, [], ◌∷◌, length, map, Option, Some, None}
use Rattle.std.proofs.Common.{refl, sym, ap, subst, arith}
use Rattle.std.specs.List.{filter, Contains, list_all}
use Rattle.std.proofs.lemmas.Bool.{eqb-true, eq-eqb}
use Rattle.std.proofs.lemmas.Bool.Decides.{nat_tests}
use Rattle.ev_base.specs.ev_types.specs.declared.upcall.Mask.{Mask}
use Rattle.ev_base.specs.Counts.{counted}
use Rattle.ev_base.specs.Terms.{Step, Group}
use Rattle.ev_base.specs.Net.{Call, Waits, AnswersWait, NetWaits, AreWanted, is_wanted, mask_has}
use Rattle.ev_base.specs.Net.{changed_mask, without_mask, SetsMaskOf, RetiresEnd, with_one}
use Rattle.ev_base.specs.Net.{NetFacts, SetsMask, Retires}
use Rattle.ev_base.specs.Net as net
use Rattle.ev_base.specs.Playing.{Seat, Playing, Answered, is_end, report_at, gives, given, without}
use Rattle.ev_base.specs.Playing.{waited, by_held, of_groups, of_group, of_time, answer_at, is_late}
use Rattle.ev_base.specs.Playing.{time_up, most_reports, masked, has_handle}
use Rattle.ev_base.specs.declared.net.Report.{Report}
use Rattle.ev_base.specs.declared.net.Waited.{Waited}
use Rattle.ev_base.specs.declared.net.Waited.TheVariants.{Quiet, Over}
use Rattle.event_script.specs.Grammar.{last_moment}
use Rattle.script_net.specs.Playable.{AreInOrder}
use Rattle.script_net.specs.declared.end.ScriptEnd.{ScriptEnd}
use Rattle.script_net.specs.Seating.{handles_of}
use Rattle.script_net.specs.NetContent.{NetContent, script_net_facts, playing_of, masks_of}
use Rattle.script_net.specs.NetContent.{after_wait}

-- ---- what the rules give

-- no more than there is room for
few_gives : (r : Option Report) (room : ℕ) (more : ℕ → List Report)
    → ((n : ℕ) → length (more n) ≤ n) → length (gives r room more) ≤ room
few_gives None room more few = few room
few_gives (Some r) zero more few = omega arith
few_gives (Some r) (suc room) more few = omega (arith, few room)

few_given : (seats : List Seat) (steps : List Step) (room : ℕ)
    → length (given seats room steps) ≤ room
few_given seats [] room = omega arith
few_given seats (step ∷ steps) room =
    few_gives (report_at seats step) room (λ n. given seats n steps) (few_given seats steps)

-- a report is wanted by the masks
or_right : (a b : Bool) → b ≡ true → a || b ≡ true
or_right true b e = refl
or_right false b e = e

and_right : (a b : Bool) → a && b ≡ true → b ≡ true
and_right true b e = e
and_right false b e = absurd cc

-- if there is a report, it is wanted
abbrev IsWantedBy : List Seat → Option Report → Type 0
IsWantedBy seats None = Unit {0}
IsWantedBy seats (Some report) = is_wanted (masks_of seats) report ≡ true

more_wanted : (seat : Seat) (seats : List Seat) (found : Option Report) → IsWantedBy seats found
    → IsWantedBy (seat ∷ seats) found
more_wanted seat seats None wanted = tt
more_wanted seat seats (Some report) wanted =
    or_right (seat.handle == report.handle.0 && mask_has seat.mask report.kind)
    (is_wanted (masks_of seats) report) wanted

wanted_if : (seat : Seat) (seats : List Seat) (step : Step) (b : Bool)
    → is_end seat.end step.end && mask_has seat.mask step.kind ≡ b
    → IsWantedBy seats (report_at seats step)
    → IsWantedBy (seat ∷ seats) (cond b
    (Some (record { handle = record { 0 = seat.handle }; kind = step.kind }))
    (report_at seats step))
wanted_if seat seats step true is rest =
    let has = and_right (is_end seat.end step.end) (mask_has seat.mask step.kind) is in
    ap (λ b. (b && mask_has seat.mask step.kind)
    || is_wanted (masks_of seats) (record {
      handle = record { 0 = seat.handle };
      kind = step.kind;
    })) (eq-eqb seat.handle seat.handle refl)
    ∙ ap (λ b. b || is_wanted (masks_of seats)
    (record { handle = record { 0 = seat.handle }; kind = step.kind })) has
wanted_if seat seats step false is rest = more_wanted seat seats (report_at seats step) rest

wanted_at : (seats : List Seat) (step : Step) → IsWantedBy seats (report_at seats step)
wanted_at [] step = tt
wanted_at (seat ∷ seats) step = wanted_if seat seats step
    (is_end seat.end step.end && mask_has seat.mask step.kind) refl (wanted_at seats step)

all_gives : (seats : List Seat) (r : Option Report) (room : ℕ) (more : ℕ → List Report)
    → IsWantedBy seats r → ((n : ℕ) → list_all (is_wanted (masks_of seats)) (more n) ≡ true)
    → list_all (is_wanted (masks_of seats)) (gives r room more) ≡ true
all_gives seats None room more wanted rest = rest room
all_gives seats (Some r) zero more wanted rest = refl
all_gives seats (Some r) (suc room) more wanted rest =
    ap (λ b. b && list_all (is_wanted (masks_of seats)) (more room)) wanted ∙ rest room

all_given : (seats : List Seat) (steps : List Step) (room : ℕ)
    → list_all (is_wanted (masks_of seats)) (given seats room steps) ≡ true
all_given seats [] room = refl
all_given seats (step ∷ steps) room =
    all_gives seats (report_at seats step) room (λ n. given seats n steps) (wanted_at seats step)
    (all_given seats steps)

-- ---- a wait by the rules

-- the answer is that of a moment with these reports, or that nothing can be reported any more
pub data Tells (moment : ℕ) (reports : List Report) : Waited → Type 0 where
  AtMoment : (answer : Waited) → answer ≡ answer_at moment reports → Tells moment reports answer
  AtEnd : (answer : Waited) → answer ≡ Over moment → reports ≡ [] → Tells moment reports answer

pub record IsSound (p : Playing) (a : Answered) : Type 0 where
  pub later : p.moment ≤ a.next.moment
  pub bounded : a.next.moment ≤ last_moment
  pub few : length a.reports ≤ most_reports
  pub wanted : list_all (is_wanted (masks_of p.seats)) a.reports ≡ true
  pub seats : a.next.seats ≡ p.seats
  pub tells : Tells a.next.moment a.reports a.answer

late_bound : (most : Option ℕ) (now moment : ℕ) → is_late most now moment ≡ true
    → (now ≤ time_up most now) × (time_up most now ≤ moment)
late_bound None now moment late = absurd cc
late_bound (Some most) now moment late = let lt : now + most < moment = grind (arith, nat_tests) in
    (omega arith, omega arith)

sound_groups : (p : Playing) (most : Option ℕ) (groups : List Group) → AreInOrder p.moment groups
    → p.moment ≤ last_moment → IsSound p (of_groups most groups p)
sound_groups p most [] order last =
    record {
      later = omega arith;
      bounded = last;
      few = omega arith;
      wanted = refl;
      seats = refl;
      tells = AtEnd (Over p.moment) refl refl;
    }
sound_groups p most (group ∷ groups) order last = by (is_late most p.moment group.moment) refl
  where
    by : (b : Bool) → is_late most p.moment group.moment ≡ b
        → IsSound p (cond b (of_time most p) (of_group group groups p))
    by true late =
        let up = late_bound most p.moment group.moment late in
        record {
          later = up.0;
          bounded = omega (arith, up.1, order.1);
          few = omega arith;
          wanted = refl;
          seats = refl;
          tells = AtMoment (Quiet (time_up most p.moment)) refl;
        }
    by false late = record {
      later = order.0;
      bounded = order.1;
      few = few_given p.seats (without p.gone group.steps) most_reports;
      wanted = all_given p.seats (without p.gone group.steps) most_reports;
      seats = refl;
      tells = AtMoment (answer_at group.moment
          (given p.seats most_reports (without p.gone group.steps))) refl;
    }

sound_held : (p : Playing) (most : Option ℕ) (reports : List Report) → AreInOrder p.moment p.groups
    → p.moment ≤ last_moment → IsSound p (by_held reports most p)
sound_held p most [] order last = sound_groups p most p.groups order last
sound_held p most (report ∷ reports) order last = record {
  later = omega arith;
  bounded = last;
  few = few_given p.seats p.held most_reports;
  wanted = all_given p.seats p.held most_reports;
  seats = refl;
  tells = AtMoment (answer_at p.moment (given p.seats most_reports p.held)) refl;
}

pub waits_soundly : (p : Playing) (most : Option ℕ) → AreInOrder p.moment p.groups
    → p.moment ≤ last_moment → IsSound p (waited most p)
waits_soundly p most order last = sound_held p most (given p.seats most_reports p.held) order last

-- as every net tells it
answers : (n : NetContent) (most : Option ℕ) (a : Answered) → IsSound (playing_of n) a
    → a ≡ waited most (playing_of n)
    → AnswersWait (script_net_facts n) most a.answer a.next.moment
    (script_net_facts (after_wait most n))
answers n most a s is = record {
  now = ap (λ (x : Answered). x.next.moment) (sym is);
  later = s.later;
  bounded = omega (arith, s.bounded);
  few = subst (λ (x : Answered). length x.reports ≤ 256) is s.few;
  wanted = subst (λ (x : Answered). list_all (is_wanted (masks_of (playing_of n).seats)) x.reports
      ≡ true) is s.wanted;
  calls = ap (λ (x : Answered). Some
      (Waits most x.answer (waited most (playing_of n)).reports ∷ n.calls)) (sym is);
  failed_waits = refl;
  failed_attaches = refl;
  steady = refl;
  attached = ap handles_of (ap (λ (x : Answered). x.next.seats) (sym is) ∙ s.seats);
  spare = omega arith;
  masks = ap (λ ss. Some (masks_of ss)) (ap (λ (x : Answered). x.next.seats) (sym is) ∙ s.seats);
  retired = refl;
  turned_away = refl;
}

at_moment : (n : NetContent) (most : Option ℕ) (moment : ℕ) (reports : List Report)
    → (after_wait most n).reports ≡ reports
    → AnswersWait (script_net_facts n) most (answer_at moment reports) moment
    (script_net_facts (after_wait most n))
    → NetWaits (script_net_facts n) most (answer_at moment reports)
    (script_net_facts (after_wait most n))
at_moment n most moment [] are told = (told, are)
at_moment n most moment (report ∷ reports) are told = (told, ap length are, omega arith)

tells_wait : (n : NetContent) (most : Option ℕ) (a : Answered) (answer : Waited)
    → a ≡ waited most (playing_of n) → Tells a.next.moment a.reports answer
    → AnswersWait (script_net_facts n) most answer a.next.moment
    (script_net_facts (after_wait most n))
    → NetWaits (script_net_facts n) most answer (script_net_facts (after_wait most n))
tells_wait n most a answer is (AtMoment x e) told =
    subst (λ y. NetWaits (script_net_facts n) most y (script_net_facts (after_wait most n))) (sym e)
    (at_moment n most a.next.moment a.reports (ap (λ (y : Answered). y.reports) (sym is))
    (subst (λ y. AnswersWait (script_net_facts n) most y a.next.moment
    (script_net_facts (after_wait most n))) e told))
tells_wait n most a answer is (AtEnd x e none) told =
    subst (λ y. NetWaits (script_net_facts n) most y (script_net_facts (after_wait most n)))
    (sym e) (
      subst (λ y. AnswersWait (script_net_facts n) most y a.next.moment
          (script_net_facts (after_wait most n))) e told,
      ap (λ (y : Answered). y.reports) (sym is)
          ∙ none,
    )

pub net_waits : (n : NetContent) (most : Option ℕ)
    → AreInOrder (playing_of n).moment (playing_of n).groups → (playing_of n).moment ≤ last_moment
    → NetWaits (script_net_facts n) most (waited most (playing_of n)).answer
    (script_net_facts (after_wait most n))
net_waits n most order last =
    let s = waits_soundly (playing_of n) most order last in
    tells_wait n most (waited most (playing_of n)) (waited most (playing_of n)).answer refl s.tells
    (answers n most (waited most (playing_of n)) s refl)

-- ---- masks and ends

one_mask : (handle : ℕ) (mask : Mask) (seat : Seat) (b : Bool) → (seat.handle == handle) ≡ b
    → ((cond b (record seat { mask = mask }) seat).handle ≡ seat.handle)
    × (◌≡◌ {A = ℕ × Mask} (
      (cond b (record seat { mask = mask }) seat).handle,
      (cond b (record seat { mask = mask }) seat).mask,
    )
    (cond b (handle, mask) (seat.handle, seat.mask)))
one_mask handle mask seat true e = (refl, ap (λ (h : ℕ). (h, mask)) (eqb-true seat.handle handle e))
one_mask handle mask seat false e = (refl, refl)

masks-set : (handle : ℕ) (mask : Mask) (seats : List Seat)
    → masks_of (map (masked handle mask) seats) ≡ changed_mask handle mask (masks_of seats)
masks-set handle mask [] = refl
masks-set handle mask (seat ∷ seats) =
    ap (λ (e : ℕ × Mask). e ∷ masks_of (map (masked handle mask) seats))
    (one_mask handle mask seat (seat.handle == handle) refl).1
    ∙ ap (λ es. cond (seat.handle == handle) (handle, mask) (seat.handle, seat.mask) ∷ es)
    (masks-set handle mask seats)

handles-set : (handle : ℕ) (mask : Mask) (seats : List Seat)
    → handles_of (map (masked handle mask) seats) ≡ handles_of seats
handles-set handle mask [] = refl
handles-set handle mask (seat ∷ seats) =
    ap (λ (h : ℕ). h ∷ handles_of (map (masked handle mask) seats))
    (one_mask handle mask seat (seat.handle == handle) refl).0
    ∙ ap (λ hs. seat.handle ∷ hs) (handles-set handle mask seats)

pub sets_mask : (n : NetContent) (handle : ℕ) (mask : Mask)
    → SetsMaskOf (script_net_facts n) handle mask
    (script_net_facts (record n { calls = SetsMask handle mask ∷ n.calls }))
sets_mask n handle mask = record {
  masks = ap Some (masks-set handle mask (playing_of n).seats);
  calls = refl;
  attached = handles-set handle mask (playing_of n).seats;
  spare = omega arith;
  failed_waits = refl;
  failed_attaches = refl;
  now = refl;
  reports = refl;
  steady = refl;
  retired = refl;
  turned_away = refl;
}

abbrev kept : ℕ → List Seat → List Seat
kept handle seats = filter (λ seat. not (has_handle handle seat)) seats

keep_handle : (handle : ℕ) (seat : Seat) (seats : List Seat) (b : Bool)
    → handles_of (cond b (seat ∷ kept handle seats) (kept handle seats))
    ≡ cond b (seat.handle ∷ handles_of (kept handle seats)) (handles_of (kept handle seats))
keep_handle handle seat seats true = refl
keep_handle handle seat seats false = refl

handles-kept : (handle : ℕ) (seats : List Seat)
    → handles_of (kept handle seats) ≡ net.without handle (handles_of seats)
handles-kept handle [] = refl
handles-kept handle (seat ∷ seats) =
    keep_handle handle seat seats (not (seat.handle == handle))
    ∙ ap (λ hs. cond (not (seat.handle == handle)) (seat.handle ∷ hs) hs)
    (handles-kept handle seats)

keep_mask : (handle : ℕ) (seat : Seat) (seats : List Seat) (b : Bool)
    → masks_of (cond b (seat ∷ kept handle seats) (kept handle seats))
    ≡ cond b ((seat.handle, seat.mask) ∷ masks_of (kept handle seats))
    (masks_of (kept handle seats))
keep_mask handle seat seats true = refl
keep_mask handle seat seats false = refl

masks-kept : (handle : ℕ) (seats : List Seat)
    → masks_of (kept handle seats) ≡ without_mask handle (masks_of seats)
masks-kept handle [] = refl
masks-kept handle (seat ∷ seats) =
    keep_mask handle seat seats (not (seat.handle == handle))
    ∙ ap (λ es. cond (not (seat.handle == handle)) ((seat.handle, seat.mask) ∷ es) es)
    (masks-kept handle seats)

pub retires_end : (n : NetContent) (handle : ℕ) (end : ScriptEnd)
    → RetiresEnd (script_net_facts n) handle end
    (script_net_facts (record n {
      retired = (handle, end) ∷ n.retired;
      calls = Retires handle ∷ n.calls;
    }))
retires_end n handle end = record {
  attached = handles-kept handle (playing_of n).seats;
  masks = ap Some (masks-kept handle (playing_of n).seats);
  retired = refl;
  calls = refl;
  spare = omega arith;
  failed_waits = refl;
  failed_attaches = refl;
  now = refl;
  reports = refl;
  steady = refl;
  turned_away = refl;
}

-- fewer ends are attached once one is retired
fewer_if : (handle : ℕ) (seat : Seat) (seats : List Seat) (b : Bool)
    → length (kept handle seats) < length seats
    → length (cond b (seat ∷ kept handle seats) (kept handle seats)) < suc (length seats)
fewer_if handle seat seats true less = omega arith
fewer_if handle seat seats false less = omega arith

no_more_if : (handle : ℕ) (seat : Seat) (seats : List Seat) (b : Bool)
    → length (kept handle seats) ≤ length seats
    → length (cond b (seat ∷ kept handle seats) (kept handle seats)) ≤ suc (length seats)
no_more_if handle seat seats true le = omega arith
no_more_if handle seat seats false le = omega arith

no_more : (handle : ℕ) (seats : List Seat) → length (kept handle seats) ≤ length seats
no_more handle [] = omega arith
no_more handle (seat ∷ seats) = no_more_if handle seat seats (not (seat.handle == handle))
    (no_more handle seats)

pub fewer : (handle : ℕ) (seats : List Seat) → Contains (handles_of seats) handle
    → length (kept handle seats) < length seats
fewer handle [] (k, lt, is) = absurd (omega (arith, lt))
fewer handle (seat ∷ seats) (zero, lt, is) =
    let out : length (kept handle (seat ∷ seats)) ≡ length (kept handle seats) =
    ap (λ b. length (cond (not b) (seat ∷ kept handle seats) (kept handle seats)))
    (eq-eqb seat.handle handle is) in
    omega (arith, out, no_more handle seats)
fewer handle (seat ∷ seats) (suc k, lt, is) =
    fewer_if handle seat seats (not (seat.handle == handle))
    (fewer handle seats (k, omega (arith, lt), is))

-- the net after a wait, field by field
pub after_is : (n : NetContent) (most : Option ℕ) (groups : List Group) (calls : List Call)
    (reports : List Report) (waits : ℕ) → groups ≡ n.groups
    → calls ≡ Waits most (waited most (playing_of n)).answer (waited most (playing_of n)).reports
    ∷ n.calls → reports ≡ (waited most (playing_of n)).reports → waits ≡ counted n.waits
    → record n { groups = groups; calls = calls; reports = reports; waits = waits }
    ≡ after_wait most n
after_is n most groups calls reports waits e f g h =
    λ i. record n { groups = e i; calls = f i; reports = g i; waits = h i }

pub waits_as : (n old new : NetContent) (most : Option ℕ) (answer : Waited) → n ≡ old
    → AreInOrder (playing_of n).moment (playing_of n).groups → (playing_of n).moment ≤ last_moment
    → answer ≡ (waited most (playing_of n)).answer → new ≡ after_wait most n
    → NetWaits (script_net_facts old) most answer (script_net_facts new)
waits_as n old new most answer is order last answered after =
    subst (λ (o : NetContent). NetWaits (script_net_facts o) most answer (script_net_facts new)) is
    (subst (λ (a : Waited). NetWaits (script_net_facts n) most a (script_net_facts new))
    (sym answered)
    (subst (λ (m : NetContent). NetWaits (script_net_facts n) most
    (waited most (playing_of n)).answer (script_net_facts m)) (sym after)
    (net_waits n most order last)))
