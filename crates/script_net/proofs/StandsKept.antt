-- That a player still stands for its script when its ends are attached, masked, retired and turned
-- away.
use Rattle.std.proofs.Common.{◌≡◌, ◌∙◌, ℕ, Bool, true, false, not, cond, ◌||◌, List, [], ◌∷◌}
use Rattle.std.proofs.Common.{length, map, refl, sym, ap, subst, arith}
use Rattle.std.specs.List.{filter}
use Rattle.ev_base.specs.Terms.{StepEnd, Step}
use Rattle.ev_base.specs.Playing.{Seat, Playing, is_end, is_at, given, most_reports, without}
use Rattle.ev_base.specs.Playing.{has_handle, dropped, retired}
use Rattle.script_net.specs.declared.player.Player.{Player}
use Rattle.script_net.specs.Scripts.{steps_at}
use Rattle.script_net.specs.Playable.{AreWithin, AllWithin, IsWithin}
use Rattle.script_net.specs.Seating.{SeatsContent, Marks, with_mark}
use Rattle.script_net.specs.Sorting.{AreMarks}
use Rattle.script_net.specs.Player.{Stands, held_of}
use Rattle.script_net.proofs.SeatsKept.{marked_put, marks_same}
use Rattle.script_net.proofs.SortingLemmas.{unwanted_fewer, unwanted_still}

-- nobody wants the steps that nobody wanted, if no end was attached and no mask set
abbrev pub StillUnwanted : Player → Playing → List Seat → Bool → Type 0
StillUnwanted player p are changed =
    changed ≡ false → given are most_reports (without p.gone (steps_at player.unwanted.items)) ≡ []

-- other seats, of the same script
pub stands_seats : (player : Player) (p : Playing) (seats : SeatsContent) (are : List Seat)
    (changed : Bool) → Stands player p → seats.seats ≡ are → seats.marks ≡ player.seats.marks
    → StillUnwanted player p are changed
    → Stands (record player { seats = seats; changed = changed }) (record p { seats = are })
stands_seats player p seats are changed s is marks still =
    let many = ap (λ (m : Marks). length m.connections) (sym marks) in
    record {
      moment = s.moment;
      groups = s.groups;
      held = s.held;
      seats = is;
      marks = subst (λ (m : Marks). AreMarks m p.gone) (sym marks) s.marks;
      order = s.order;
      last = s.last;
      within = subst (λ (n : ℕ). AllWithin n p.groups) many s.within;
      held_within = subst (λ (n : ℕ). AreWithin n (steps_at (held_of player))) many s.held_within;
      unwanted = still;
      behind = s.behind;
      unwanted_room = s.unwanted_room;
      first = s.first;
      room = s.room;
      passed_room = s.passed_room;
      none_passed = s.none_passed;
      report_room = s.report_room;
    }

-- one end more is gone: its steps are dropped too
drop_if : (step : Step) (steps : List Step) (a b : Bool) (gone : List StepEnd) (end : StepEnd)
    → is_end end step.end ≡ a → is_at gone step ≡ b
    → without (end ∷ gone) steps ≡ without (end ∷ []) (without gone steps)
    → cond (not (a || b)) (step ∷ without (end ∷ gone) steps) (without (end ∷ gone) steps)
    ≡ without (end ∷ []) (cond (not b) (step ∷ without gone steps) (without gone steps))
drop_if step steps true true gone end is at rest = rest
drop_if step steps false true gone end is at rest = rest
drop_if step steps true false gone end is at rest =
    rest ∙ ap (λ b. cond (not (b || false)) (step ∷ without (end ∷ []) (without gone steps))
    (without (end ∷ []) (without gone steps))) (sym is)
drop_if step steps false false gone end is at rest =
    ap (λ ss. step ∷ ss) rest ∙ ap (λ b.
    cond (not (b || false)) (step ∷ without (end ∷ []) (without gone steps))
    (without (end ∷ []) (without gone steps))) (sym is)

without_one : (end : StepEnd) (gone : List StepEnd) (steps : List Step)
    → without (end ∷ gone) steps ≡ without (end ∷ []) (without gone steps)
without_one end gone [] = refl
without_one end gone (step ∷ steps) =
    drop_if step steps (is_end end step.end) (is_at gone step) gone end refl refl
    (without_one end gone steps)

marks_one : (end : StepEnd) (marks : Marks) (gone : List StepEnd) → AreMarks marks gone
    → AreMarks (with_mark end marks) (end ∷ gone)
marks_one end marks gone are x step at within =
    let inside : IsWithin (length marks.connections) x =
    subst (λ n. IsWithin n x) (marks_same end marks) within in
    marked_put end marks x inside ∙ ap (λ b. is_end end x || b) (are x step at inside)
    ∙ ap (λ y. is_end end y || is_at gone step) (sym at)

pub stands_gone : (player : Player) (p : Playing) (seats : SeatsContent) (end : StepEnd)
    → Stands player p → seats ≡ record player.seats { marks = with_mark end player.seats.marks }
    → Stands (record player { seats = seats }) (dropped (end ∷ []) p)
stands_gone player p seats end s is =
    let marks = ap (λ (x : SeatsContent). x.marks) is in
    let many = sym (ap (λ (m : Marks). length m.connections) marks
    ∙ marks_same end player.seats.marks) in
    record {
      moment = s.moment;
      groups = s.groups;
      held = without_one end p.gone (steps_at (held_of player)) ∙ ap (without (end ∷ [])) s.held;
      seats = ap (λ (x : SeatsContent). x.seats) is ∙ s.seats;
      marks = subst (λ (m : Marks). AreMarks m (end ∷ p.gone)) (sym marks)
          (marks_one end player.seats.marks p.gone s.marks);
      order = s.order;
      last = s.last;
      within = subst (λ (n : ℕ). AllWithin n p.groups) many s.within;
      held_within = subst (λ (n : ℕ). AreWithin n (steps_at (held_of player))) many s.held_within;
      unwanted = λ same.
          let apart = without_one end p.gone (steps_at player.unwanted.items) in
          ap (given p.seats most_reports) apart
          ∙ unwanted_fewer p.seats most_reports (λ step. not (is_at (end ∷ []) step))
          (without p.gone (steps_at player.unwanted.items)) (omega arith) (s.unwanted same);
      behind = s.behind;
      unwanted_room = s.unwanted_room;
      first = s.first;
      room = s.room;
      passed_room = s.passed_room;
      none_passed = s.none_passed;
      report_room = s.report_room;
    }

-- an end is retired: the seats are first without it, and then it is gone
pub stands_retired : (player : Player) (p : Playing) (handle : ℕ) (mid new : SeatsContent)
    (end : StepEnd) → Stands player p
    → map (λ (x : Seat). x.end) (filter (has_handle handle) player.seats.seats) ≡ end ∷ []
    → mid.seats ≡ filter (λ (x : Seat). not (has_handle handle x)) player.seats.seats
    → mid ≡ record player.seats { seats = mid.seats }
    → new ≡ record mid { marks = with_mark end mid.marks }
    → Stands (record player { seats = new }) (retired handle p)
stands_retired player p handle mid new end s ends left same marked =
    let kept = filter (λ (x : Seat). not (has_handle handle x)) p.seats in
    let still : StillUnwanted player p kept player.changed =
    λ fresh. unwanted_still (λ (x : Seat). not (has_handle handle x)) p.seats most_reports
    (without p.gone (steps_at player.unwanted.items)) (omega arith) (s.unwanted fresh) in
    let one = stands_seats player p mid kept player.changed s
    (left ∙ ap (filter (λ (x : Seat). not (has_handle handle x))) s.seats)
    (ap (λ (x : SeatsContent). x.marks) same) still in
    let two = stands_gone (record player { seats = mid }) (record p { seats = kept }) new end one
    marked in
    subst (λ (es : List StepEnd). Stands (record player { seats = new })
    (dropped es (record p { seats = kept })))
    (sym (ap (λ (ss : List Seat). map (λ (x : Seat). x.end) (filter (has_handle handle) ss))
    (sym s.seats) ∙ ends)) two
