-- The moments of a run over a script.
use Rattle.std.proofs.Common.{ℕ, ◌≡◌, ◌≤◌, ◌+◌, Bool, true, false, List, [], ◌∷◌}
use Rattle.std.proofs.Common.{◌++◌, sym, subst, refl, arith, cond, append_assoc, Option, Some, None}
use Rattle.std.specs.List.{AllByRecursion}
use Rattle.std.proofs.lemmas.Bool.{false≢true, ltb-true}
use Rattle.laws_script_taken.specs.ev_base.specs.Terms.{Group}
use Rattle.laws_script_taken.specs.ev_base.specs.Playing.{Playing, Answered}
use Rattle.laws_script_taken.specs.ev_base.specs.Playing.{waited, by_held}
use Rattle.laws_script_taken.specs.ev_base.specs.Playing.{of_held, of_groups}
use Rattle.laws_script_taken.specs.ev_base.specs.Playing.{of_group}
use Rattle.laws_script_taken.specs.ev_base.specs.Playing.{of_time, of_none}
use Rattle.laws_script_taken.specs.ev_base.specs.Playing.{answer_at, is_late}
use Rattle.laws_script_taken.specs.ev_base.specs.Playing.{given}
use Rattle.laws_script_taken.specs.ev_base.specs.Playing.{most_reports}
use Rattle.laws_script_taken.specs.ev_base.specs.Playing.{at_start}
use Rattle.laws_script_taken.specs.ev_base.specs.declared.net.Report.{Report}
use Rattle.laws_script_taken.specs.reactor_journal.specs.declared.entry.Entry.{Entry}
use Rattle.laws_script_taken.specs.reactor_journal.specs.declared.entry.Entry.TheVariants.{Opened}
use Rattle.laws_script_taken.specs.reactor_journal.specs.declared.entry.Entry.TheVariants.{Polled}
use Rattle.laws_script_taken.specs.reactor_journal.specs.declared.entry.Entry.TheVariants.{Masked}
use Rattle.laws_script_taken.specs.reactor_journal.specs.declared.entry.Entry.TheVariants.{Refused}
use Rattle.laws_script_taken.specs.reactor_journal.specs.declared.entry.Entry.TheVariants.{Closed}
use Rattle.laws_script_taken.specs.reactor_journal.specs.Past.{now}
use Rattle.laws_script_taken.specs.log_handler.specs.declared.note.ServerNote.{ServerNote}
use Rattle.laws_script_taken.specs.event_script.specs.Script.{ScriptGroup}
use Rattle.laws_script_taken.specs.event_script.specs.Script.{groups_told}
use Rattle.laws_script_taken.specs.event_script.specs.Grammar.{last_moment}
use Rattle.laws_script_taken.specs.laws_script_told.specs.Told.{told}
use Rattle.laws_script_taken.specs.laws_script_told.specs.Told.{told_after}
use Rattle.laws_script_taken.specs.laws_script_told.specs.Told.{time_left_in}
use Rattle.laws_script_taken.specs.reactor_model.specs.Entries.{IsAnsweredAt, taken_before}
use Rattle.laws_script_taken.specs.laws_script_told.specs.Told.{FollowsBefore}

-- the script is no further than its last moment
abbrev IsEarly : Group → Type 0
IsEarly g = g.moment ≤ last_moment

record Early (p : Playing) : Type 0 where
  now : p.moment ≤ last_moment
  later : AllByRecursion IsEarly p.groups

-- what a wait answers, and how far the script is then
record EarlyStill (a : Answered) : Type 0 where
  next : Early a.next
  said : (moment : ℕ) → IsAnsweredAt moment a.answer → moment ≤ last_moment

answered_early : (now : ℕ) (reports : List Report) → now ≤ last_moment → (moment : ℕ)
    → IsAnsweredAt moment (answer_at now reports) → moment ≤ last_moment
answered_early now [] le moment is = subst (λ (n : ℕ). n ≤ last_moment) is le
answered_early now (report ∷ reports) le moment is = subst (λ (n : ℕ). n ≤ last_moment) is le

up_early : (most : Option ℕ) (now limit : ℕ) → limit ≤ last_moment → is_late most now limit ≡ true
    → Rattle.laws_script_taken.specs.ev_base.specs.Playing.time_up most now
    ≤ last_moment
up_early None now limit le late = absurd (false≢true late)
up_early (Some most) now limit le late = let lt = ltb-true (now + most) limit late in
    omega (arith, le, lt)

groups_early : (most : Option ℕ) (groups : List Group) (p : Playing) → Early p
    → AllByRecursion IsEarly groups → EarlyStill (of_groups most groups p)
groups_early most [] p e early = record {
  next = e;
  said = λ moment is. subst (λ (n : ℕ). n ≤ last_moment) is e.now;
}
groups_early most (group ∷ groups) p e early = by (is_late most p.moment group.moment) refl
  where
    by : (b : Bool) → is_late most p.moment group.moment ≡ b
        → EarlyStill (cond b (of_time most p) (of_group group groups p))
    by true late =
        let up = up_early most p.moment group.moment early.0 late in record {
          next = record { now = up; later = e.later };
          said = λ moment is. subst (λ (n : ℕ). n ≤ last_moment) is up;
        }
    by false late = record {
      next = record { now = early.0; later = early.1 };
      said = answered_early group.moment _ early.0;
    }

waited_early : (most : Option ℕ) (p : Playing) → Early p → EarlyStill (waited most p)
waited_early most p e = by (given p.seats most_reports p.held) refl
  where
    by : (reports : List Report) → given p.seats most_reports p.held ≡ reports
        → EarlyStill (by_held reports most p)
    by [] is = groups_early most p.groups p e e.later
    by (report ∷ reports) is = record {
      next = record { now = e.now; later = e.later };
      said = answered_early p.moment _ e.now;
    }

module _ (groups : List ScriptGroup) (early : AllByRecursion (λ g. g.moment ≤ last_moment) groups)
  where
    told_groups : (gs : List ScriptGroup) → AllByRecursion (λ g. g.moment ≤ last_moment) gs
        → AllByRecursion IsEarly (groups_told gs)
    told_groups [] h = tt
    told_groups (g ∷ gs) h = (h.0, told_groups gs h.1)

    told_early : (past : List (Entry ServerNote)) → Early (told (groups_told groups) past)
    told_early [] = record { now = omega arith; later = told_groups groups early }
    told_early (e ∷ past) = by e (told_early past)
      where
        by : (e : Entry ServerNote) → Early (told (groups_told groups) past)
            → Early (told_after past e (told (groups_told groups) past))
        by (Opened handle mask) h = record { now = h.now; later = h.later }
        by (Polled moment) h = (waited_early (time_left_in past) _ h).next
        by (Masked handle mask) h = record { now = h.now; later = h.later }
        by (Refused live fault note) h = record { now = h.now; later = h.later }
        by (Closed handle note) h = record { now = h.now; later = h.later }
        by _ h = h

    -- each wait was answered at such a moment
    pub polled_early : (later past : List (Entry ServerNote)) (moment : ℕ) (taken : List Report)
        → FollowsBefore (groups_told groups) (later ++ Polled moment ∷ past) taken
        → moment ≤ last_moment
    polled_early [] past moment taken h =
        (waited_early (time_left_in past) (told (groups_told groups) past) (told_early past)).said
        moment
        h.0.moment_is
    polled_early (e ∷ later) past moment taken h =
        polled_early later past moment (taken_before e taken) h.1

    -- and so is the moment of each past
    pub now_early : (later past : List (Entry ServerNote)) (taken : List Report)
        → FollowsBefore (groups_told groups) (later ++ past) taken → now past ≤ last_moment
    now_early later [] taken h = omega arith
    now_early later (e ∷ past) taken h =
        by e (polled_early later past) h (now_early (later ++ e ∷ []) past taken
        (subst (λ (l : List (Entry ServerNote)). FollowsBefore (groups_told groups) l taken)
        (sym (append_assoc later (e ∷ []) past)) h))
      where
        by : (e : Entry ServerNote) → ((moment : ℕ) (taken : List Report)
            → FollowsBefore (groups_told groups) (later ++ Polled moment ∷ past) taken
            → moment ≤ last_moment)
            → FollowsBefore (groups_told groups) (later ++ e ∷ past) taken → now past ≤ last_moment
            → now (e ∷ past) ≤ last_moment
        by (Polled moment) polled h le = polled moment taken h
        by _ polled h le = le
