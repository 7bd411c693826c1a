-- One hold of the token in which an upcall was settled, and then a lead was made.
use Rattle.std.proofs.Common.{ℕ, ◌≡◌, ◌≤◌, List, [], ◌∷◌, ◌++◌, length, refl, sym, ap, ◌∙◌, subst}
use Rattle.std.proofs.Common.{arith, append-nil, Option, Some, None}
use Rattle.std.proofs.lemmas.List.{append_assoc}
use Rattle.std.specs.Prelude.{IfSome, IfNone}
use Rattle.leader_token.specs.Passes.{put_view}
use Rattle.leader_token.specs.declared.kept.View.{View}
use Rattle.reactor_model.specs.reactor_journal.specs.declared.entry.Entry.{Entry}
use Rattle.reactor_model.specs.reactor_journal.specs.Past.{past_of}
use Rattle.reactor_core.specs.Polling.{FitsLimit}
use Rattle.reactor_core.specs.Settling.{returned}
use Rattle.reactor_core.specs.Stands.{Meaning}
use Rattle.reactor_core.specs.Upcalls.{DoneFits}
use Rattle.reactor_core.specs.declared.acting.Settled.{Settled}
use Rattle.reactor_core.specs.declared.job.Done.{Done}
use Rattle.reactor_core.specs.Views.{volumes_of}
use Rattle.reactor_desk.specs.Desks.{DeskStands, KeepsMarks, core_of, first_of}
use Rattle.reactor_desk.specs.Leading.{LeadGives, LeadTells, MayNotLeadOn, SomeList, event_of}
use Rattle.reactor_desk.specs.Laws.{HistoryLeft}
use Rattle.reactor_desk.specs.Settling.{SettlesDesk}
use Rattle.reactor_desk.specs.declared.terms.DeskTerms.{DeskTerms}
use Rattle.reactor_desk.specs.declared.desk.Desk.{Desk}
use Rattle.reactor_desk.specs.declared.leading.Led.{Led}
use Rattle.reactor_desk.proofs.Left.{left_by_lead}
use Rattle.tp_reactor.specs.Settled.{SettlesAndLeads, SettlesOn}
use Rattle.tp_reactor.proofs.Settling.{held_settle, has_settled}
use Rattle.tp_reactor.proofs.Turns.{Got, Put, May, Holds, finds, leaves, marks, may_put}

none_some : (e : ℕ) → ◌≡◌ {A = Option ℕ} None (Some e) → ⊥
none_some e is = cc

module _ {H M Q W V N E : Type 0} (m : Meaning H M Q W V N E) (v mid : View (Entry N) DeskTerms)
    (found left : Desk H M Q W V N E) (got : Got m v found mid) (done : Done H N E)
    (settled : Settled)
    (s : SettlesDesk m v.terms got.first got.list done found left settled)
    (mine : v.mine ≡ Some done.event) (fits : DoneFits m.means v.terms.run (past_of v.seen)
    done) (kept : KeepsMarks m found left) where
  -- the list that the settling left
  abbrev pub list_settled : List (Entry N)
  list_settled = ((got.list ++ returned done ∷ []) ++ s.settles.closing) ++ s.settles.acted

  settle_holds : Holds m v mid found left got list_settled None
  settle_holds = held_settle m v mid found left got done settled s mine fits kept

  -- what the caller would know, had it put the desk back then
  between : View (Entry N) DeskTerms
  between = put_view v (marks m left) list_settled None

  module _ (most : Option ℕ) (led : Led H N E) (onward : Desk H M Q W V N E)
      (list_led : List (Entry N))
      (gives : LeadGives m v.terms got.first list_settled most left led onward list_led)
      (first : first_of onward ≡ first_of left) (risen : KeepsMarks m left onward) where
    led_left : HistoryLeft m v.terms list_settled onward list_led (event_of led)
    led_left =
        left_by_lead m v.terms got.first list_settled most left led onward list_led s.stands gives

    pub holds_on : Holds m v mid found onward got list_led (event_of led)
    holds_on =
        let x : HistoryLeft m v.terms list_settled onward list_led (event_of led) = led_left in
        let h : Holds m v mid found left got list_settled None = settle_holds in
        let same : x.first ≡ got.first = sym x.stands.core.tracks.journal.first
        ∙ (first ∙ s.stands.core.tracks.journal.first) in
        let within : got.first ≤ length got.list = got.stood.core.tracks.journal.within in
        record {
          first = x.first;
          within = omega (arith, same, within);
          stands = x.stands;
          begins = (
            h.begins.0 ++ x.begins.0,
            sym (append_assoc got.list h.begins.0 x.begins.0)
                ∙ (ap (λ k. k ++ x.begins.0) h.begins.1 ∙ x.begins.1),
          );
          changes = λ e. omega (arith, x.opens e, h.changes e);
          risen = λ k. omega (arith, kept.above k, risen.above k);
        }

    pub settles_and_leads : (w : View (Entry N) DeskTerms)
        → volumes_of (core_of onward) ≡ volumes_of (core_of left) → LeadTells m left led onward
        → Put m mid onward w → SettlesAndLeads m v done settled most led w
    unfolding between
    settles_and_leads w volumes tells put =
        let h : Holds m v mid found left got list_settled None = settle_holds in
        let x : HistoryLeft m v.terms list_settled onward list_led (event_of led) = led_left in
        record {
          between = between;
          settles = record {
            found = found;
            left = left;
            first = got.first;
            history = got.list;
            finds = finds m v mid found got;
            settles = s;
            leaves = record { first = h.first; stands = h.stands; view = refl; risen = h.risen };
          };
          leads = record {
            found = left;
            left = onward;
            first = got.first;
            history = list_settled;
            list = list_led;
            finds = record {
              stood = s.stands;
              begins = ([], append-nil list_settled);
              above = λ k. omega arith;
              own = λ e none. absurd (none_some e none);
              alone = λ root children. (
                refl,
                λ e.
                    omega (arith, h.changes e, (got.alone root children).1 e),
              );
            };
            gives = gives;
            volumes = λ never. ap (λ x. (m.volumes x).faults) volumes;
            tells = tells;
            leaves = record {
              first = x.first;
              stands = x.stands;
              view = (leaves m v mid w found onward got list_led (event_of led) holds_on put).view;
              risen = risen.above;
            };
          };
        }

  -- what the lead of the desk that was settled says, which is lent out of the token anew

  abbrev pub DeskLeadsOn : Option ℕ → Desk H M Q W V N E → Option (Led H N E) → Desk H M Q W V N E
      → Type 0
  DeskLeadsOn most old answer new = (q : DeskTerms) (F : ℕ) (h : List (Entry N))
      → DeskStands m q F old h → FitsLimit q.run most
      → IfSome answer (λ l. SomeList (LeadGives m q F h most old l new))

  abbrev pub DeskStays : Desk H M Q W V N E → Option (Led H N E) → Desk H M Q W V N E → Type 0
  DeskStays old answer new = (q : DeskTerms) (F : ℕ) (h : List (Entry N)) → DeskStands m q F old h
      → IfNone answer (MayNotLeadOn m F h old × (new ≡ old))

  pub stands_on : (lent : Desk H M Q W V N E) → lent ≡ left
      → DeskStands m v.terms got.first lent list_settled
  stands_on lent same = subst (λ d. DeskStands m v.terms got.first d list_settled) (sym same)
      s.stands

  pub tells_on : (answer : Option (Led H N E)) (lent onward : Desk H M Q W V N E) → lent ≡ left
      → IfSome answer (λ l. LeadTells m lent l onward)
      → IfSome answer (λ l. LeadTells m left l onward)
  tells_on answer lent onward same tells =
      subst (λ d. IfSome answer (λ l. LeadTells m d l onward)) same tells

  pub led_on : (most : Option ℕ) (answer : Option (Led H N E)) (lent onward : Desk H M Q W V N E)
      → lent ≡ left → DeskLeadsOn most lent answer onward → FitsLimit v.terms.run most
      → IfSome answer (λ l.
      SomeList (LeadGives m v.terms got.first list_settled most left l onward))
  led_on most answer lent onward same leads limit =
      subst (λ d. DeskLeadsOn most d answer onward) same leads v.terms got.first list_settled
      s.stands limit

  pub stays_on : (answer : Option (Led H N E)) (lent onward : Desk H M Q W V N E) → lent ≡ left
      → DeskStays lent answer onward → IfNone answer (onward ≡ left)
  stays_on None lent onward same stays =
      (subst (λ d. DeskStays d None onward) same stays v.terms got.first list_settled s.stands).1
  stays_on (Some l) lent onward same stays = tt

  -- with a lead that was made, or without one

  pub may_on : (most : Option ℕ) (answer : Option (Led H N E)) (onward : Desk H M Q W V N E)
      → IfSome answer (λ led.
      SomeList (LeadGives m v.terms got.first list_settled most left led onward))
      → IfNone answer (onward ≡ left) → first_of onward ≡ first_of left → KeepsMarks m left onward
      → May m mid onward
  may_on most None onward gives same first risen =
      subst (May m mid) (sym same) (may_put m v mid found left got list_settled None settle_holds)
  may_on most (Some led) onward gives same first risen =
      may_put m v mid found onward got _ (event_of led) (holds_on most led onward gives.0 gives.1 first risen)

  pub settles_on : (most : Option ℕ) (answer : Option (Led H N E)) (onward : Desk H M Q W V N E)
      → IfSome answer (λ led.
      SomeList (LeadGives m v.terms got.first list_settled most left led onward))
      → IfNone answer (onward ≡ left) → first_of onward ≡ first_of left → KeepsMarks m left onward
      → (w : View (Entry N) DeskTerms) → volumes_of (core_of onward) ≡ volumes_of (core_of left)
      → IfSome answer (λ led. LeadTells m left led onward)
      → Put m mid onward w → SettlesOn m v done settled most answer w
  settles_on most None onward gives same first risen w volumes tells put =
      has_settled m v mid found left got done settled w s mine fits kept
      (subst (λ d. Put m mid d w) same put)
  settles_on most (Some led) onward gives same first risen w volumes tells put =
      settles_and_leads most led onward gives.0 gives.1 first risen w volumes tells put
