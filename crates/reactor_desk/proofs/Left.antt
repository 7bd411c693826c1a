-- What a desk stands for once a lead is over, and which events are open in it.
use Rattle.std.proofs.Common.{ℕ, zero, suc, ◌≡◌, ◌≤◌, true, List, [], ◌∷◌, ◌++◌, length, take, drop}
use Rattle.std.proofs.Common.{refl, sym, ap, ◌∙◌, subst, arith, append-nil, length-append, Option}
use Rattle.std.proofs.Common.{Some, None}
use Rattle.std.proofs.lemmas.List.{append_assoc}
use Rattle.std.specs.List.{list_all}
use Rattle.ev_base.specs.Net.{NetFacts}
use Rattle.leader_token.specs.Lists.{Begins}
use Rattle.leader_token.specs.list_lemmas.specs.Times.{times}
use Rattle.reactor_model.specs.reactor_journal.specs.declared.entry.Entry.{Entry}
use Rattle.reactor_model.specs.reactor_journal.specs.declared.entry.Entry.TheVariants.{Started}
use Rattle.reactor_core.specs.laws_turns.specs.Opens.{opens_of}
use Rattle.reactor_core.specs.Stands.{Meaning}
use Rattle.reactor_core.specs.Views.{job_event}
use Rattle.reactor_desk.specs.Desks.{DeskStands}
use Rattle.reactor_desk.specs.Laws.{HistoryLeft}
use Rattle.reactor_desk.specs.Leading.{DispatchGives, LeadGives, event_of}
use Rattle.reactor_model.specs.Entries.{is_notice}
use Rattle.reactor_desk.specs.declared.terms.DeskTerms.{DeskTerms}
use Rattle.reactor_desk.specs.declared.desk.Desk.{Desk}
use Rattle.reactor_desk.specs.declared.leading.Led.{Led}
use Rattle.reactor_desk.specs.declared.leading.Led.TheVariants as led
use Rattle.reactor_desk.proofs.Opens.{is_still, opens_more, opens_still, notices_still, may_still}
use Rattle.reactor_desk.proofs.Opens.{waited_still}

module _ {H M Q W V N E : Type 0} (m : Meaning H M Q W V N E) (q : DeskTerms) where
  left_still : (F : ℕ) (h es list : List (Entry N)) (new : Desk H M Q W V N E) → F ≤ length h
      → list_all is_still es ≡ true → list ≡ h ++ es → DeskStands m q F new list
      → HistoryLeft m q h new list None
  left_still F h es list new within s leaves stands =
      record {
        first = F;
        within = within;
        stands = stands;
        begins = (es, sym leaves);
        opens = λ e. omega (
          arith,
          ap (λ k. times e (opens_of k)) leaves,
          ap (times e) (opens_still h es s),
        );
      }

  left_started : (F : ℕ) (h es : List (Entry N)) (event : ℕ) (list : List (Entry N))
      (new : Desk H M Q W V N E) → F ≤ length h → list_all is_still es ≡ true
      → list ≡ (h ++ es) ++ Started event ∷ [] → DeskStands m q F new list
      → HistoryLeft m q h new list (Some event)
  left_started F h es event list new within s leaves stands = record {
    first = F;
    within = within;
    stands = stands;
    begins = (
      es ++ Started event ∷ [],
      sym (append_assoc h es (Started event ∷ [])) ∙ sym leaves,
    );
    opens = λ e. omega (
      arith,
      ap (λ k. times e (opens_of k)) leaves,
      ap (times e) (opens_more (h ++ es) (Started event)),
      ap (times e) (opens_still h es s),
    );
  }

  -- the notices stand between
  behind_notices : (h notices list : List (Entry N)) (new : Desk H M Q W V N E) (mine : Option ℕ)
      → list_all is_notice notices ≡ true → (l : HistoryLeft m q (h ++ notices) new list mine)
      → l.first ≤ length h → HistoryLeft m q h new list mine
  behind_notices h notices list new mine are l within = record {
    first = l.first;
    within = within;
    stands = l.stands;
    begins = (notices ++ l.begins.0, sym (append_assoc h notices l.begins.0) ∙ l.begins.1);
    opens = λ e. omega (
      arith,
      l.opens e,
      ap (times e) (opens_still h notices (notices_still notices are)),
    );
  }

  wide : (F : ℕ) (h notices : List (Entry N)) → F ≤ length h → F ≤ length (h ++ notices)
  wide F h notices w = omega (arith, length-append h notices)

  left_on : (F : ℕ) (h notices : List (Entry N)) (most : Option ℕ) (before : NetFacts E)
      (l : Led H N E) (new : Desk H M Q W V N E) (list : List (Entry N)) → F ≤ length h
      → DispatchGives m q F (h ++ notices) most before l new list
      → list_all is_notice notices ≡ true → HistoryLeft m q h new list (event_of l)
  unfolding left_started left_still
  left_on F h notices most before (led.Job job) new list w g are =
      behind_notices h notices _ new _ are
      (left_started F (h ++ notices) g.waited (job_event job) list new (wide F h notices w)
      (may_still most (h ++ notices) before g.waited _ g.may) g.leaves g.stands) w
  left_on F h notices most before led.Quiet new list w g are =
      behind_notices h notices _ new _ are
      (left_still F (h ++ notices) g.entries list new (wide F h notices w)
      (waited_still most (h ++ notices) before g.entries _ _ g.waited) g.leaves g.stands) w
  left_on F h notices most before led.Over new list w g are =
      behind_notices h notices _ new _ are
      (left_still F (h ++ notices) g.entries list new (wide F h notices w)
      (waited_still most (h ++ notices) before g.entries _ _ g.waited) g.leaves g.stands) w
  left_on F h notices most before led.NetFault new list w g are =
      left_still F h notices list new w (notices_still notices are) g.leaves
      (subst (DeskStands m q F new) (sym g.leaves) g.stands)
  left_on F h notices most before led.NoMemory new list w g are =
      behind_notices h notices _ new _ are
      (left_still F (h ++ notices) g.entries list new (wide F h notices w)
      (may_still most (h ++ notices) before g.entries _ g.may) g.leaves g.stands) w
  left_on F h notices most before led.Stopped new list w g are = absurd g
  left_on F h notices most before led.Broken new list w g are = absurd g
  left_on F h notices most before led.VolumeFault new list w g are = absurd g

  -- as it was found
  left_same : (F : ℕ) (h list : List (Entry N)) (new : Desk H M Q W V N E) → list ≡ h
      → DeskStands m q F new h → HistoryLeft m q h new list None
  left_same F h list new leaves stands = record {
    first = F;
    within = stands.core.tracks.journal.within;
    stands = subst (DeskStands m q F new) (sym leaves) stands;
    begins = ([], append-nil h ∙ sym leaves);
    opens = λ e. omega (arith, ap (λ k. times e (opens_of k)) leaves);
  }

  pub left_by_lead : (F : ℕ) (h : List (Entry N)) (most : Option ℕ) (old : Desk H M Q W V N E)
      (l : Led H N E) (new : Desk H M Q W V N E) (list : List (Entry N)) → DeskStands m q F old h
      → LeadGives m q F h most old l new list → HistoryLeft m q h new list (event_of l)
  left_by_lead F h most old (led.Job job) new list o (may, g) =
      left_on g.first h g.notices most g.net (led.Job job) new list g.within g.gives g.are
  left_by_lead F h most old led.Quiet new list o (may, g) =
      left_on g.first h g.notices most g.net led.Quiet new list g.within g.gives g.are
  left_by_lead F h most old led.Over new list o (may, g) =
      left_on g.first h g.notices most g.net led.Over new list g.within g.gives g.are
  left_by_lead F h most old led.NetFault new list o (may, g) =
      left_on g.first h g.notices most g.net led.NetFault new list g.within g.gives g.are
  left_by_lead F h most old led.NoMemory new list o (may, g) =
      left_on g.first h g.notices most g.net led.NoMemory new list g.within g.gives g.are
  left_by_lead F h most old led.Stopped new list o g =
      left_same F h list new g.2 (subst (λ (d : Desk H M Q W V N E). DeskStands m q F d h) (sym g.1)
      o)
  left_by_lead F h most old led.Broken new list o g =
      left_same F h list new g.3 (subst (λ (d : Desk H M Q W V N E). DeskStands m q F d h) (sym g.2)
      o)
  left_by_lead F h most old led.VolumeFault new list o g = left_same F h list new g.2 g.1

  -- ---- the list is the only one

  front_same : (n : ℕ) (base rest : List (Entry N)) → n ≤ length base
      → take n (base ++ rest) ≡ take n base
  front_same zero base rest w = refl
  front_same (suc n) [] rest w = absurd (omega arith)
  front_same (suc n) (b ∷ base) rest w = ap (λ k. b ∷ k) (front_same n base rest (omega arith))

  both_parts : (n : ℕ) (list : List (Entry N)) → take n list ++ drop n list ≡ list
  both_parts zero list = refl
  both_parts (suc n) [] = refl
  both_parts (suc n) (x ∷ list) = ap (λ k. x ∷ k) (both_parts n list)

  pub only_one : (base g list : List (Entry N)) (n F : ℕ) (new : Desk H M Q W V N E)
      → F ≤ length base → Begins base g → Begins base list → DeskStands m q n new g
      → DeskStands m q F new list → g ≡ list
  only_one base g list n F new within a b x y =
      let numbers : n ≡ F = sym x.core.tracks.journal.first ∙ y.core.tracks.journal.first in
      let behind : drop F g ≡ drop F list =
      ap (λ k. drop k g) (sym numbers) ∙ (sym x.core.tracks.journal.entries
      ∙ y.core.tracks.journal.entries) in
      let front : take F g ≡ take F list =
      ap (take F) (sym a.1) ∙ (front_same F base a.0 within
      ∙ (sym (front_same F base b.0 within) ∙ ap (take F) b.1))
      in
      sym (both_parts F g) ∙ ((λ i. front i ++ behind i) ∙ both_parts F list)
