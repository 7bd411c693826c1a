-- The core that a shared reactor gives back.
use Rattle.std.proofs.Common.{ℕ, ◌≡◌, List, sym, ap, ◌∙◌, subst}
use Rattle.ev_base.specs.Terms.{Terms}
use Rattle.notify_ring.specs.Passes.{new_drainer, IsMerged}
use Rattle.notify_ring.specs.Words.{drainer_view}
use Rattle.notify_ring.specs.declared.parts.Drainer.{Drainer}
use Rattle.notify_ring.specs.declared.view.View.{View}
use Rattle.reactor_model.specs.reactor_journal.specs.declared.entry.Entry.{Entry}
use Rattle.reactor_core.specs.Stands.{Meaning, Stands}
use Rattle.reactor_core.specs.declared.reactor.Core.{Core}
use Rattle.reactor_desk.specs.Begins.{CanShare, desk_terms}
use Rattle.reactor_desk.specs.Desks.{DeskStands, FillsVolume, marks_of, core_marks}
use Rattle.reactor_desk.specs.declared.terms.DeskTerms.{DeskTerms}
use Rattle.reactor_desk.specs.declared.desk.Desk.{Desk}
use Rattle.leader_token.specs.Lists.{NoneAbove}
use Rattle.leader_token.specs.Passes.{IsLast}
use Rattle.leader_token.specs.declared.kept.View.{View as TokenView}
use Rattle.reactor_core.specs.laws_turns.specs.Opens.{opens_of}
use Rattle.tp_reactor.specs.Ends.{MayShare, IsClosed}

-- a reactor that may be shared, with a new drainer
pub shared : {H M Q W V N E : Type 0} (m : Meaning H M Q W V N E) (t : Terms) (h : List (Entry N))
    (core : Core H M Q W V N E) (desk : Desk H M Q W V N E) (drainer : Drainer)
    → (may : MayShare m t h core) → desk.core ≡ core → desk.drainer ≡ drainer
    → drainer_view drainer ≡ new_drainer
    → ((t : Terms) (F : ℕ) (h : List (Entry N)) → Stands m t core F h → CanShare t h drainer
    → FillsVolume core.volume F → DeskStands m (desk_terms t h core.volume drainer) F desk h)
    → DeskStands m (desk_terms t h desk.core.volume desk.drainer) may.first desk h
shared {H} {M} {Q} {W} {V} {N} {E} m t h core desk drainer may cores same new stands =
    subst (λ (c : Core H M Q W V N E).
    DeskStands m (desk_terms t h c.volume desk.drainer) may.first desk h) (sym cores)
    (subst (λ (d : Drainer). DeskStands m (desk_terms t h core.volume d) may.first desk h)
    (sym same)
    (stands t may.first h may.stands (record {
      fresh = new;
      no_notice = may.unposted;
      turns = λ b named. (may.by_turn b named).0;
    }) may.filled))

-- the marks of its desk are its own
pub marks_shared : {H M Q W V N E : Type 0} (m : Meaning H M Q W V N E) (t : Terms)
    (h : List (Entry N)) (core : Core H M Q W V N E) → MayShare m t h core
    → (desk : Desk H M Q W V N E) (marks : List ℕ) → marks ≡ marks_of m desk → desk.core ≡ core
    → marks ≡ core_marks m core
marks_shared m t h core may desk marks are same = are ∙ ap (core_marks m) same

-- the core of the last desk
module _ {H M Q W V N E : Type 0} (m : Meaning H M Q W V N E) (core : Core H M Q W V N E)
    (desk : Desk H M Q W V N E) where
  pub is_closed : (v w : TokenView (Entry N) DeskTerms) (p r : View) (drainer : Drainer)
      (posted : ℕ) → w ≡ v → r ≡ p → IsLast (λ q first d l. DeskStands m q first d l) opens_of
      (marks_of m) w desk → core ≡ desk.core → drainer ≡ desk.drainer
      → IsMerged r (drainer_view drainer) posted
      → IsClosed m v p core
  is_closed v w p r drainer posted same posters last cores drainers merged =
      let l = subst (λ x. IsLast (λ q first d l. DeskStands m q first d l) opens_of (marks_of m) x
      desk) same last in
      record {
        first = l.first;
        drainer = desk.drainer;
        stands = subst (λ c. DeskStands m v.terms l.first
            (record { core = c; drainer = desk.drainer }) v.seen) (sym cores) l.stood;
        above = subst (λ c. NoneAbove v.marks
            (marks_of m (record { core = c; drainer = desk.drainer }))) (sym cores) l.above;
        events = l.events;
        posted = posted;
        merged = subst (λ d. IsMerged p (drainer_view d) posted) drainers
            (subst (λ x. IsMerged x (drainer_view drainer) posted) posters merged);
      }
