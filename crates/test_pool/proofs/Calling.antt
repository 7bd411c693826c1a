-- What a worker is after each of its calls.
use Rattle.std.proofs.Common.{ℕ, ◌≡◌, List, sym, ap, ◌∙◌, subst, Option, None}
use Rattle.tp_reactor.specs.leader_token.specs.Passes.{put_view}
use Rattle.tp_reactor.specs.leader_token.specs.declared.kept.Kept.{Ghosts as Keeping}
use Rattle.tp_reactor.specs.leader_token.specs.declared.kept.View.{View}
use Rattle.notify_ring.specs.Words.{poster_view}
use Rattle.notify_ring.specs.declared.parts.Poster.{Poster}
use Rattle.reactor_model.specs.reactor_journal.specs.declared.entry.Entry.{Entry}
use Rattle.tp_reactor.specs.reactor_desk.specs.declared.terms.DeskTerms.{DeskTerms}
use Rattle.tp_reactor.specs.Words.{known_by, poster_of, IsOf}
use Rattle.timer_queue.specs.Content.{Content}
use Rattle.demux.specs.declared.play_end.PlayEnd.{PlayEnd}
use Rattle.reactor_model.specs.declared.watch.NoWatch.{NoWatch}
use Rattle.tp_reactor.specs.declared.reactor.Worker.{Worker}
use Rattle.test_pool.specs.declared.member.Member.{Member}
use Rattle.test_pool.specs.Callers.{DeskOf, PoolOf, IsOpen, IsFree, SameRank}

module _ {M V : Type 0} {kept : Keeping (DeskOf M V) (Entry ℕ) DeskTerms} where
  -- a call that leaves no upcall on its way
  pub free_put : {K : Type 0} (pool : PoolOf M V K)
      (old new : Worker Member M Content NoWatch V ℕ PlayEnd kept) (marks : List ℕ)
      (list : List (Entry ℕ)) (mine : Option ℕ) → IsOpen (known_by old).terms → IsOf new pool
      → known_by new ≡ put_view (known_by old) marks list mine → mine ≡ None → IsFree pool new
  free_put pool old new marks list mine terms of view none = record {
    of = of;
    idle = (
      ap (λ (v : View (Entry ℕ) DeskTerms). v.base) view,
      ap (λ (v : View (Entry ℕ) DeskTerms). v.mine) view ∙ none,
    );
    terms = subst IsOpen (sym (ap (λ (v : View (Entry ℕ) DeskTerms). v.terms) view)) terms;
  }

  -- no call changes who the root is, or how many workers there are
  pub rank_put : (old new : Worker Member M Content NoWatch V ℕ PlayEnd kept) (marks : List ℕ)
      (list : List (Entry ℕ)) (mine : Option ℕ)
      → known_by new ≡ put_view (known_by old) marks list mine → poster_of new ≡ poster_of old
      → SameRank old new
  rank_put old new marks list mine view poster = record {
    kin = record {
      terms = ap (λ (v : View (Entry ℕ) DeskTerms). v.terms) view;
      root = ap (λ (v : View (Entry ℕ) DeskTerms). v.root) view;
      children = ap (λ (v : View (Entry ℕ) DeskTerms). v.children) view;
    };
    made = ap (λ (p : Poster). (poster_view p).posters) poster;
  }
