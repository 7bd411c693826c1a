-- The beginning and the end of a shared reactor.
use Rattle.std.specs.Prelude.{ℕ, ◌≡◌, true, false, List, [], length, filter, Some, None}
use Rattle.ev_base.specs.Terms.{Terms}
use Rattle.leader_token.specs.Lists.{is_event, NoneAbove}
use Rattle.leader_token.specs.list_lemmas.specs.Times.{times}
use Rattle.leader_token.specs.declared.kept.View.{View}
use Rattle.notify_ring.specs.Passes.{IsMerged}
use Rattle.notify_ring.specs.Words.{drainer_view}
use Rattle.notify_ring.specs.declared.parts.Drainer.{Drainer}
use Rattle.notify_ring.specs.declared.view.View.{View as RingView}
use Rattle.reactor_model.specs.reactor_journal.specs.declared.entry.Entry.{Entry}
use Rattle.reactor_model.specs.reactor_journal.specs.Past.{past_of}
use Rattle.reactor_core.specs.reactor_summary.specs.Summary.{summary}
use Rattle.reactor_core.specs.Stands.{Meaning, Stands}
use Rattle.reactor_core.specs.declared.reactor.Core.{Core}
use Rattle.reactor_core.specs.Views.{volume_of}
use Rattle.reactor_desk.specs.Desks.{DeskStands, FillsVolume, marks_of}
use Rattle.reactor_model.specs.Entries.{is_notice}
use Rattle.reactor_core.specs.laws_turns.specs.Opens.{opens_of}
use Rattle.reactor_desk.specs.declared.terms.DeskTerms.{DeskTerms}

-- A core may be shared: it stands for a history with no open event and no notification, of which it
-- handed nothing over or at least as many entries as a volume has, and if the terms have
-- `by_turn`, it is the length of the history, and the reactor was not stopped.
pub record MayShare {H M Q W V N E : Type 0} (m : Meaning H M Q W V N E) (t : Terms)
    (h : List (Entry N)) (core : Core H M Q W V N E) : Type 0 where
  pub first : ℕ
  pub stands : Stands m t core first h
  pub filled : FillsVolume (volume_of core) first
  pub closed : opens_of h ≡ []
  pub unposted : filter is_notice h ≡ []
  pub by_turn : (b : ℕ) → t.by_turn ≡ Some b → (b ≡ length h)
      × ((summary (past_of h)).ended ≡ false)

-- The root, who has seen the history, under the terms of the run, and has the marks of the reactor:
-- it has made no other worker and has no event.
pub record IsRoot {N : Type 0} (t : Terms) (h : List (Entry N)) (marks : List ℕ)
    (v : View (Entry N) DeskTerms) : Type 0 where
  pub seen : v.seen ≡ h
  pub marks_are : v.marks ≡ marks
  pub run : v.terms.run ≡ t
  pub found : v.terms.found ≡ length h
  pub root : v.root ≡ true
  pub children : v.children ≡ 0
  pub base : v.base ≡ None
  pub mine : v.mine ≡ None

-- The core at the end, as the root with view v and postings p knows it: it stands, with its
-- drainer, for what the root has seen, in which no event is open but the root's own; no mark is
-- below the root's; and the postings of all workers are numbered one after another, and the
-- drained ones are the first of them.
pub record IsClosed {H M Q W V N E : Type 0} (m : Meaning H M Q W V N E)
    (v : View (Entry N) DeskTerms) (p : RingView) (core : Core H M Q W V N E) : Type 0 where
  pub first : ℕ
  pub drainer : Drainer
  pub stands : DeskStands m v.terms first (record { core = core; drainer = drainer }) v.seen
  pub above : NoneAbove v.marks (marks_of m (record { core = core; drainer = drainer }))
  pub events : (e : ℕ) → times e (opens_of v.seen) ≡ is_event e v.mine
  pub posted : ℕ
  pub merged : IsMerged p (drainer_view drainer) posted
