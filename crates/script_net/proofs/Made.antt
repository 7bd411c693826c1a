-- What is made of a script.
use Rattle.std.proofs.Common.{◌≡◌, ◌∙◌, ℕ, zero, suc, ◌+◌, ◌<◌, ◌≤◌, ◌==◌, cond, Bool, true, false}
use Rattle.std.proofs.Common.{List, [], ◌∷◌, ◌++◌, length, take, drop, get_or, reverse, replicate}
use Rattle.std.proofs.Common.{Some, vec_capacity, refl, sym, ap, subst, arith}
use Rattle.std.specs.Prelude.{unwrap_or}
use Rattle.std.specs.List.{slice_get}
use Rattle.std.proofs.lemmas.List.{take_more, reverse-append, length-replicate}
use Rattle.ev_base.specs.Terms.{Terms, AtListener, AtConnection}
use Rattle.ev_base.specs.Playing.{at_start, given, without, most_reports}
use Rattle.script_net.specs.declared.player.Player.{Player}
use Rattle.script_net.specs.Scripts.{group_views, steps_at}
use Rattle.script_net.specs.Playable.{AreInOrder, AreWithin, AllWithin, many_steps}
use Rattle.script_net.specs.Seating.{SeatsContent, new_seats}
use Rattle.script_net.specs.Sorting.{AreMarks}
use Rattle.script_net.specs.Player.{Stands, held_of}
use Rattle.script_net.specs.Ends.{new_listener}
use Rattle.script_net.specs.Keeps.{ListenerKeeps}
use Rattle.script_net.specs.Hosts.{ScriptContent, LaysDown}
use Rattle.script_net.specs.NetContent.{retired_of}
use Rattle.script_net.specs.declared.end.ScriptEnd.{ScriptEnd}
use Rattle.std.proofs.lemmas.Bool.{eq-eqb}

-- what stands last in the front of a list comes first in reverse
pub reverse_more : {A : Type 0} (xs : List A) (k : ℕ) (d : A) → k < length xs
    → reverse (take (k + 1) xs) ≡ get_or xs k d ∷ reverse (take k xs)
reverse_more xs k d lt = ap reverse (take_more xs k d lt)
    ∙ reverse-append (take k xs) (get_or xs k d ∷ [])

none_marked : (n d : ℕ) → unwrap_or (slice_get (replicate n false) d) false ≡ false
none_marked zero d = refl
none_marked (suc n) zero = refl
none_marked (suc n) (suc d) = none_marked n d

no_marks : (n : ℕ) → AreMarks (record { listener = false; connections = replicate n false }) []
no_marks n AtListener step at within = refl
no_marks n (AtConnection d) step at within = none_marked n d

pub stands_new : (player : Player) (connections : ℕ) → player.next ≡ 0 → player.now ≡ 0
    → player.first ≡ 0 → player.unwanted.items ≡ [] → player.held.items ≡ []
    → player.passed.items ≡ [] → player.seats
    ≡ record (new_seats connections) { room = player.seats.room }
    → many_steps (group_views player.groups.items) ≤ vec_capacity player.unwanted
    → many_steps (group_views player.groups.items) ≤ vec_capacity player.held
    → many_steps (group_views player.groups.items) ≤ vec_capacity player.passed
    → most_reports ≤ vec_capacity player.reports
    → AreInOrder 0 (group_views player.groups.items)
    → AllWithin connections (group_views player.groups.items)
    → Stands player (at_start (group_views player.groups.items))
stands_new player connections next now first unwanted held passed seats unwanted_room room
    passed_room report_room order within =
    let many : length player.seats.marks.connections ≡ connections =
    ap (λ (s : SeatsContent). length s.marks.connections) seats
    ∙ length-replicate connections false in
    let none : held_of player ≡ [] = ap (λ es. es ++ drop player.first player.held.items) unwanted
    ∙ ap (λ (n : ℕ). drop n player.held.items) first ∙ held in
    record {
      moment = now;
      groups = ap (λ (n : ℕ). drop n (group_views player.groups.items)) next;
      held = ap (λ es. without [] (steps_at es)) none;
      seats = ap (λ (s : SeatsContent). s.seats) seats;
      marks = subst (λ (s : SeatsContent). AreMarks s.marks []) (sym seats) (no_marks connections);
      order = order;
      last = omega arith;
      within = subst (λ (n : ℕ). AllWithin n (group_views player.groups.items)) (sym many) within;
      held_within = subst (λ es. AreWithin (length player.seats.marks.connections) (steps_at es))
          (sym none) tt;
      unwanted = λ same. ap (λ es. given [] most_reports (without [] (steps_at es))) unwanted;
      behind = omega (arith, ap length unwanted);
      unwanted_room = omega (arith, unwanted_room, ap length none);
      first = omega (arith, first);
      room = omega (arith, room, ap length held);
      passed_room = omega (arith, passed_room, ap length none);
      none_passed = passed;
      report_room = report_room;
    }

pub listener_keeps : (t : Terms) (s : ScriptContent) → LaysDown t s
    → ListenerKeeps t (new_listener s.offers s.connections)
listener_keeps t s l = record {
  own = record {
    connection = λ serial story not is told. absurd cc;
    listener = λ offers is told. sym (l.offers offers told);
    unnumbered = λ offers is told. refl;
  };
  connections = l.stories;
}

-- the end that was retired last, from the end of a list
abbrev Entry : Type 0
Entry = ℕ × ScriptEnd

last_if : (handle : ℕ) (x : Entry) (rest : List Entry) (b : Bool) → (x.0 == handle) ≡ b
    → retired_of handle (x ∷ rest) ≡ cond b (Some x.1) (retired_of handle rest)
last_if handle x rest b is = ap (λ c. cond c (Some x.1) (retired_of handle rest)) is

pub last_here : (retired : List Entry) (left k handle : ℕ) (x : Entry) → left ≡ k + 1
    → k < length retired → x ≡ get_or retired k x → x.0 ≡ handle
    → Some x.1 ≡ retired_of handle (reverse (take left retired))
last_here retired left k handle x is lt read same =
    sym (ap (λ (n : ℕ). retired_of handle (reverse (take n retired))) is
    ∙ ap (retired_of handle) (reverse_more retired k x lt)
    ∙ ap (λ (y : Entry). retired_of handle (y ∷ reverse (take k retired))) (sym read)
    ∙ last_if handle x (reverse (take k retired)) true (eq-eqb x.0 handle same))

pub last_before : (retired : List Entry) (left k handle : ℕ) (x : Entry) → left ≡ k + 1
    → k < length retired → x ≡ get_or retired k x → (x.0 == handle) ≡ false
    → retired_of handle (reverse (take k retired)) ≡ retired_of handle (reverse (take left retired))
last_before retired left k handle x is lt read other =
    sym (ap (λ (n : ℕ). retired_of handle (reverse (take n retired))) is
    ∙ ap (retired_of handle) (reverse_more retired k x lt)
    ∙ ap (λ (y : Entry). retired_of handle (y ∷ reverse (take k retired))) (sym read)
    ∙ last_if handle x (reverse (take k retired)) false other)
