-- What contracts name of a shared reactor and of a worker.
use Rattle.std.specs.Prelude.{◌≡◌, ◌<◌, List, true, None}
use Rattle.leader_token.specs.Words.{id_of, token_of, view_of}
use Rattle.leader_token.specs.declared.kept.View.{View}
use Rattle.leader_token.specs.declared.kept.Kept.{Ghosts as Keeping}
use Rattle.notify_ring.specs.Words.{id_of as ring_id, poster_ring, poster_view}
use Rattle.notify_ring.specs.declared.parts.Poster.{Poster}
use Rattle.notify_ring.specs.declared.posting.Posting.{Posting}
use Rattle.reactor_model.specs.reactor_journal.specs.declared.entry.Entry.{Entry}
use Rattle.reactor_desk.specs.declared.terms.DeskTerms.{DeskTerms}
use Rattle.reactor_desk.specs.declared.desk.Desk.{Desk}
use Rattle.tp_reactor.specs.declared.reactor.Worker.{Worker}
use Rattle.tp_reactor.specs.declared.reactor.Reactor.{Reactor}

-- with the same terms, the root or not, and with as many children
pub record SameKin {N : Type 0} (v w : View (Entry N) DeskTerms) : Type 0 where
  pub terms : w.terms ≡ v.terms
  pub root : w.root ≡ v.root
  pub children : w.children ≡ v.children

module _ {H M Q W V N E : Type 0} {kept : Keeping (Desk H M Q W V N E) (Entry N) DeskTerms} where
  -- what a worker knows
  abbrev pub known_by : Worker H M Q W V N E kept → View (Entry N) DeskTerms
  known_by worker = view_of worker.pass

  abbrev pub poster_of : Worker H M Q W V N E kept → Poster
  poster_of worker = worker.poster

  -- its postings
  abbrev pub posted_of : Worker H M Q W V N E kept → List Posting
  posted_of worker = (poster_view worker.poster).posted

  -- The worker belongs to the reactor, and its terms name the reactor's ring. The root is so with
  -- its pass and its poster, and has made more workers than are not dismissed.
  pub record IsOf {K : Type 0} (worker : Worker H M Q W V N E kept)
      (reactor : Reactor H M Q W V K N E) : Type 0 where
    pub token : token_of worker.pass ≡ id_of reactor.token
    pub ring : poster_ring worker.poster ≡ ring_id reactor.ring
    pub terms : (view_of worker.pass).terms.ring ≡ ring_id reactor.ring
    pub root : (view_of worker.pass).root ≡ (poster_view worker.poster).root
    pub children : (view_of worker.pass).children ≡ (poster_view worker.poster).children
    pub made : (poster_view worker.poster).root ≡ true
        → (poster_view worker.poster).children < (poster_view worker.poster).posters

  -- it neither holds the token nor has an upcall open
  abbrev pub IsIdleWorker : Worker H M Q W V N E kept → Type 0
  IsIdleWorker worker = ((view_of worker.pass).base ≡ None) × ((view_of worker.pass).mine ≡ None)
