-- How a reactor begins, and what it leaves when it is over.
use Rattle.std.specs.Prelude.{ℕ, ◌≡◌, ◌≤◌, true, List, [], length, drop, map, Some}
use Rattle.ev_base.specs.Terms.{Terms}
use Rattle.ev_base.specs.Net.{NetFacts, IsNew}
use Rattle.timer_queue.specs.declared.timer.Timer.{Timer}
use Rattle.reactor_model.specs.reactor_journal.specs.declared.entry.Entry.{Entry}
use Rattle.reactor_model.specs.reactor_journal.specs.Past.{past_of}
use Rattle.reactor_summary.specs.Summary.{Summary, summary}
use Rattle.reactor_model.specs.Volumes.{VolumesFacts}
use Rattle.reactor_state.specs.Tables.{armed_of}
use Rattle.reactor_core.specs.Ends.{WhereTold}
use Rattle.reactor_core.specs.Stands.{Meaning, NetStands, HasTaken}
use Rattle.reactor_core.specs.declared.reactor.Parts.{Parts}

-- What the things outside have done when a reactor is made of them: nothing. The terms name how
-- many handlers may be live.
pub record CanBegin {N E : Type 0} (net : NetFacts E) (net_keeps : Type 0) (timers : List Timer)
    (watch : Type 0) (volumes : VolumesFacts N) (t : Terms) (most : ℕ) : Type 0 where
  pub terms : t.most ≡ most
  pub fresh : IsNew net
  pub steady : t.steady ≡ Some true → net.steady ≡ true
  pub keeps : net_keeps
  pub no_timers : timers ≡ []
  pub seen : watch
  pub taken : WhereTold (λ entries. (n : ℕ) → t.volumes_taken ≡ Some n → length entries ≡ n)
      volumes.taken

-- it was stopped, and every handler was closed
pub record IsShutDown (s : Summary) : Type 0 where
  pub ended : s.ended ≡ true
  pub none_live : s.handles ≡ []

-- the parts of a reactor that is over: the journal's rest, the net, the timers, the watch and the
-- volumes stand as they did
pub record PartsStand {H M Q W V N E : Type 0} (m : Meaning H M Q W V N E) (armed : Q → List Timer)
    (t : Terms) (F : ℕ) (h : List (Entry N)) (parts : Parts N M Q W V) : Type 0 where
  pub first : parts.first ≡ F
  pub within : F ≤ length h
  pub journal : parts.journal.entries ≡ drop F h
  pub net : NetStands m.means t (past_of h) [] (m.facts parts.net)
  pub net_keeps : m.keeps t parts.net
  pub timers : map armed_of (armed parts.timers) ≡ (summary (past_of h)).armed
  pub watch : m.watched t parts.watch h
  pub volumes : WhereTold (HasTaken t F h) (m.volumes parts.volumes).taken
