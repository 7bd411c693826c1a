-- Histories that go on.
use Rattle.std.proofs.Common.{ℕ, ◌≡◌, ◌≤◌, Bool, true, List, [], ◌∷◌, ◌++◌, length, refl, sym, ap}
use Rattle.std.proofs.Common.{◌∙◌, subst, arith, Option, length-append}
use Rattle.std.proofs.lemmas.List.{drop-append-le, take-append-le}
use Rattle.ev_base.specs.Terms.{Terms}
use Rattle.ev_base.specs.declared.net.Report.{Report}
use Rattle.reactor_model.specs.reactor_journal.specs.declared.entry.Entry.{Entry}
use Rattle.reactor_model.specs.reactor_journal.specs.Past.{past_of}
use Rattle.reactor_model.specs.reactor_journal.specs.Follow.{Legal, may_follow, follows_due}
use Rattle.reactor_model.specs.reactor_journal.specs.Follow.{follows_ready}
use Rattle.reactor_model.specs.reactor_journal.proofs.Turning.{past_of-more, Legal-more}
use Rattle.reactor_summary.specs.Summary.{summary}
use Rattle.reactor_summary.specs.Rules as R
use Rattle.reactor_summary.proofs.Told.{told}
use Rattle.reactor_summary.proofs.Follows.{may_follow_is}
use Rattle.reactor_core.specs.Handlers.{RepositoryStands}
use Rattle.reactor_core.specs.Marks.{MarksStand, MarksGoOn, told_answers}
use Rattle.reactor_core.specs.Stands.{Meaning, Tracks, JournalStands, NetStands, HasTaken}
use Rattle.reactor_core.specs.Stands.{VolumesStand}
use Rattle.reactor_core.specs.declared.reactor.Core.{Core}
use Rattle.reactor_core.proofs.Ends.{told_same}
use Rattle.reactor_core.proofs.WaitNumbers.{marks_more}

-- an entry that the summary lets follow may follow
pub may_by : {N : Type 0} (most : ℕ) (h : List (Entry N)) (e : Entry N) (due ready : Bool)
    → Legal h most → follows_due (past_of h) ≡ due → follows_ready (past_of h) ≡ ready
    → R.may_follow most due ready (summary (past_of h)) e ≡ true
    → may_follow most (past_of h) e ≡ true
may_by most h e due ready legal d r q =
    sym (may_follow_is most (past_of h) (summary (past_of h)) e legal (told most (past_of h) legal))
    ∙ (ap (λ b. R.may_follow most b (follows_ready (past_of h)) (summary (past_of h)) e) d
    ∙ (ap (λ b. R.may_follow most due b (summary (past_of h)) e) r ∙ q))

-- what an append does: the entry is held and was shown to the watch
pub record Appends {H M Q W V N E : Type 0} (m : Meaning H M Q W V N E)
    (old new : Core H M Q W V N E) (e : Entry N) : Type 0 where
  pub most : new.most ≡ old.most
  pub first : new.first ≡ old.first
  pub journal : new.journal.entries ≡ old.journal.entries ++ e ∷ []
  pub watch : (t : Terms) (h : List (Entry N)) → m.watched t old.watch h
      → m.watched t new.watch (h ++ e ∷ [])
  pub volumes : new.volumes ≡ old.volumes
  pub marks : MarksGoOn e old.marks (told_answers (m.facts old.net).calls) new.marks
      (told_answers (m.facts new.net).calls)

journal_more : {H M Q W V N E : Type 0} (old new : Core H M Q W V N E) (F : ℕ) (h : List (Entry N))
    (e : Entry N) → JournalStands old F h → new.first ≡ old.first
    → new.journal.entries ≡ old.journal.entries ++ e ∷ [] → JournalStands new F (h ++ e ∷ [])
journal_more old new F h e o f j = record {
  first = f ∙ o.first;
  within = omega (arith, o.within, length-append h (e ∷ []));
  entries = j ∙ (ap (λ x. x ++ e ∷ []) o.entries ∙ sym (drop-append-le F h (e ∷ []) o.within));
}

taken_more : {N : Type 0} (t : Terms) (F : ℕ) (h es : List (Entry N)) (taken : List (Entry N))
    → F ≤ length h → HasTaken t F h taken → HasTaken t F (h ++ es) taken
taken_more t F h es taken within o =
    (o.0, o.1 ∙ ap (λ x. o.0 ++ x) (sym (take-append-le F h es within)), o.2)

-- a core goes on by one entry: each part is shown after it
pub tracks_by : {H M Q W V N E : Type 0} (m : Meaning H M Q W V N E) (t : Terms)
    (old new : Core H M Q W V N E) (F : ℕ) (h : List (Entry N)) (e : Entry N)
    (hand hand' : Option ℕ) (pending pending' : List Report)
    → Tracks m t old F h hand pending → Appends m old new e
    → may_follow t.most (past_of h) e ≡ true
    → m.shows new.state (summary (e ∷ past_of h))
    → RepositoryStands m.means t (e ∷ past_of h) hand' new.repo.entries
    → NetStands m.means t (e ∷ past_of h) pending' (m.facts new.net)
    → m.keeps t new.net
    → Tracks m t new F (h ++ e ∷ []) hand' pending'
tracks_by m t old new F h e hand hand' pending pending' o a may state repository net keeps =
    let same = sym (past_of-more h e) in
    record {
      most = a.most ∙ o.most;
      few = subst (λ (k : ℕ). k ≤ 4097) (sym a.most) o.few;
      legal = Legal-more h e t.most o.legal may;
      journal = journal_more old new F h e o.journal a.first a.journal;
      state = subst (λ past. m.shows new.state (summary past)) same state;
      repository = subst (λ past. RepositoryStands m.means t past hand' new.repo.entries) same
          repository;
      net = subst (λ past. NetStands m.means t past pending' (m.facts new.net)) same net;
      keeps = keeps;
      watch = a.watch t h o.watch;
      volumes = subst (λ v. VolumesStand t F (h ++ e ∷ []) (m.volumes v)) (sym a.volumes) (record {
        taken = told_same (HasTaken t F h) (HasTaken t F (h ++ e ∷ []))
            (m.volumes old.volumes).taken (m.volumes old.volumes).taken refl
            (λ taken k. taken_more t F h (e ∷ []) taken o.journal.within k) o.volumes.taken;
        next = o.volumes.next;
      });
      marks = subst (λ past. MarksStand new.marks past (told_answers (m.facts new.net).calls)) same
          (marks_more e (past_of h) old.marks new.marks _ _ a.marks o.marks);
    }
