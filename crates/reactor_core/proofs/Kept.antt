-- A core that has more room stands for what it stood for.
use Rattle.std.proofs.Common.{ℕ, ◌≤◌, List, [], length, sym, ◌∙◌, subst, arith, Option, None}
use Rattle.ev_base.specs.Terms.{Terms}
use Rattle.ev_base.specs.Net.{NetFacts, Reserves, FailsCall}
use Rattle.ev_base.specs.declared.net.Report.{Report}
use Rattle.reactor_model.specs.reactor_journal.specs.declared.entry.Entry.{Entry}
use Rattle.reactor_model.specs.reactor_journal.specs.Past.{past_of}
use Rattle.reactor_summary.specs.Summary.{Summary, summary}
use Rattle.reactor_state.specs.declared.places.Places.{Places}
use Rattle.reactor_core.specs.Handlers.{RepositoryStands}
use Rattle.reactor_core.specs.Stands.{Meaning, Tracks, VolumesStand, HasRoom, Keeps, Stands}
use Rattle.reactor_core.specs.Stands.{places_for}
use Rattle.reactor_core.specs.declared.reactor.Core.{Core}
use Rattle.reactor_core.proofs.Ends.{net_kept}
use Rattle.reactor_core.proofs.WaitNumbers.{marks_kept}

fails_of : {E : Type 0} (old new : NetFacts E) → Reserves old new → FailsCall old new
fails_of old new r = record {
  now = r.now;
  reports = r.reports;
  calls = r.calls;
  steady = r.steady;
  attached = r.attached;
  spare = r.spare;
  masks = r.masks;
  retired = r.retired;
  turned_away = r.turned_away;
}

module _ {H M Q W V N E : Type 0} (m : Meaning H M Q W V N E) (t : Terms)
    (old new : Core H M Q W V N E) (F : ℕ) (h : List (Entry N)) (k : Keeps m old new) where
  pub tracks_kept : (hand : Option ℕ) (pending : List Report) → Tracks m t old F h hand pending
      → Tracks m t new F h hand pending
  tracks_kept hand pending o = record {
    most = k.most ∙ o.most;
    few = subst (λ (n : ℕ). n ≤ 4097) (sym k.most) o.few;
    legal = o.legal;
    journal = record {
      first = k.first ∙ o.journal.first;
      within = o.journal.within;
      entries = k.entries ∙ o.journal.entries;
    };
    state = k.shows (summary (past_of h)) o.state;
    repository = subst (λ entries. RepositoryStands m.means t (past_of h) hand entries)
        (sym k.handlers) o.repository;
    net = net_kept m.means t (past_of h) pending (m.facts old.net) (m.facts new.net)
        (omega (arith, k.net.failed_attaches)) (fails_of (m.facts old.net) (m.facts new.net) k.net)
        o.net;
    keeps = k.net_keeps t o.keeps;
    watch = subst (λ w. m.watched t w h) (sym k.watch) o.watch;
    volumes = subst (λ v. VolumesStand t F h (m.volumes v)) (sym k.volumes) o.volumes;
    marks = marks_kept (past_of h) old.marks new.marks (m.facts old.net).calls
        (m.facts new.net).calls k.marks k.net.calls o.marks;
  }

  pub room_kept : (entries : ℕ) (more : Places) (s : Summary) → HasRoom m entries more old s
      → HasRoom m entries more new s
  room_kept entries more s r = record {
    journal = omega (arith, r.journal, k.spare);
    numbers = r.numbers;
    state = k.places (places_for (length s.opens) more) r.state;
    repository = omega (arith, r.repository, k.seats);
    net = omega (arith, r.net, k.net.spare);
  }

  pub stands_kept : Stands m t old F h → Stands m t new F h
  stands_kept o = record {
    tracks = tracks_kept None [] o.tracks;
    settled = o.settled;
    room = room_kept 0 _ (summary (past_of h)) o.room;
  }
