-- What a worker knows once it led (POSA2, Leader/Followers).
use Rattle.std.specs.Prelude.{ℕ, ◌≡◌, true, List, Option, Some, slice_index}
use Rattle.ev_base.specs.Counts.{Rose}
use Rattle.leader_token.specs.Lists.{is_event, Begins, NoneAbove}
use Rattle.leader_token.specs.list_lemmas.specs.Times.{times}
use Rattle.leader_token.specs.Passes.{put_view}
use Rattle.leader_token.specs.declared.kept.View.{View}
use Rattle.reactor_model.specs.reactor_journal.specs.declared.entry.Entry.{Entry}
use Rattle.reactor_model.specs.reactor_journal.specs.Past.{past_of, count}
use Rattle.reactor_core.specs.reactor_summary.specs.Summary.{summary}
use Rattle.reactor_core.specs.Marks.{is_polled}
use Rattle.reactor_core.specs.Stands.{Meaning}
use Rattle.reactor_desk.specs.Desks.{DeskStands, marks_of}
use Rattle.reactor_desk.specs.Leading.{LeadGives, LeadTells, TellsVolumeFault, event_of}
use Rattle.reactor_core.specs.laws_turns.specs.Opens.{opens_of}
use Rattle.reactor_desk.specs.declared.terms.DeskTerms.{DeskTerms}
use Rattle.reactor_desk.specs.declared.desk.Desk.{Desk}
use Rattle.reactor_desk.specs.declared.leading.Led.{Led}
use Rattle.reactor_desk.specs.declared.leading.Led.TheVariants as led

-- The desk that was found under the token stood for the history h, which begins with all that the
-- caller had seen and in which the caller's own event is open. The root, once every other worker
-- was dismissed, finds what it has seen, and no event open but its own.
pub record Finds {H M Q W V N E : Type 0} (m : Meaning H M Q W V N E) (v : View (Entry N) DeskTerms)
    (F : ℕ) (h : List (Entry N)) (found : Desk H M Q W V N E) : Type 0 where
  pub stood : DeskStands m v.terms F found h
  pub begins : Begins v.seen h
  pub above : NoneAbove v.marks (marks_of m found)
  pub own : (e : ℕ) → v.mine ≡ Some e → times e (opens_of h) ≡ 1
  pub alone : v.root ≡ true → v.children ≡ 0 → (h ≡ v.seen)
      × ((e : ℕ) → times e (opens_of h) ≡ is_event e v.mine)

-- The desk was left standing for this list, which the caller has then seen, with this event as its
-- own. No mark fell.
pub record LeavesDesk {H M Q W V N E : Type 0} (m : Meaning H M Q W V N E)
    (v : View (Entry N) DeskTerms) (found left : Desk H M Q W V N E) (list : List (Entry N))
    (mine : Option ℕ) (w : View (Entry N) DeskTerms) : Type 0 where
  pub first : ℕ
  pub stands : DeskStands m v.terms first left list
  pub view : w ≡ put_view v (marks_of m left) list mine
  pub risen : NoneAbove (marks_of m found) (marks_of m left)

-- One lead of a caller that knew v and knows w from then on: it found the history and left the
-- list. With every other answer than VolumeFault no volume failed in it.
pub record IsLed {H M Q W V N E : Type 0} (m : Meaning H M Q W V N E) (v : View (Entry N) DeskTerms)
    (most : Option ℕ) (led : Led H N E) (w : View (Entry N) DeskTerms) : Type 0 where
  pub found : Desk H M Q W V N E
  pub left : Desk H M Q W V N E
  pub first : ℕ
  pub history : List (Entry N)
  pub list : List (Entry N)
  pub finds : Finds m v first history found
  pub gives : LeadGives m v.terms first history most found led left list
  pub volumes : TellsVolumeFault m found led left
  pub tells : LeadTells m found led left
  pub leaves : LeavesDesk m v found left list (event_of led) w

-- the marks of a worker: of the faults of the watch, of failed waits, of the faults of the volumes,
-- and of the last wait that was answered Over
abbrev pub watch_mark : {N : Type 0} → View (Entry N) DeskTerms → ℕ
watch_mark v = slice_index v.marks 0

abbrev pub waits_mark : {N : Type 0} → View (Entry N) DeskTerms → ℕ
waits_mark v = slice_index v.marks 1

abbrev pub volumes_mark : {N : Type 0} → View (Entry N) DeskTerms → ℕ
volumes_mark v = slice_index v.marks 3

abbrev pub over_mark : {N : Type 0} → View (Entry N) DeskTerms → ℕ
over_mark v = slice_index v.marks 4

-- What a lead tells by the marks of its caller: with a fault that of its cause is above what the
-- caller had before, or for the watch above what the terms had at the start; and with Over the last
-- wait that was answered so is the last that the caller has seen.
abbrev pub MarksTell : {H N E : Type 0} → View (Entry N) DeskTerms → Led H N E
    → View (Entry N) DeskTerms → Type 0
MarksTell v led.NetFault w = Rose (waits_mark v) (waits_mark w)
MarksTell v led.VolumeFault w = Rose (volumes_mark v) (volumes_mark w)
MarksTell v led.Broken w = (before : ℕ) → v.terms.run.output_faults ≡ Some before
    → Rose before (watch_mark w)
MarksTell v led.Over w = over_mark w ≡ count is_polled (past_of w.seen)
MarksTell v led.Stopped w = (summary (past_of w.seen)).ended ≡ true
MarksTell v _ w = Unit {0}
