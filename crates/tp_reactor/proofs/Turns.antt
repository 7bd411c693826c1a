-- One hold of the token: what was found, and what is put back.
use Rattle.std.proofs.Common.{ℕ, ◌≡◌, ◌≤◌, ◌+◌, List, length, sym, ap, ◌∙◌, subst, arith, Option}
use Rattle.std.proofs.Common.{None}
use Rattle.leader_token.specs.Lists.{is_event, Begins, NoneAbove}
use Rattle.leader_token.specs.list_lemmas.specs.Times.{times}
use Rattle.leader_token.specs.Passes.{IsGot, MayPut, IsPut, put_view}
use Rattle.leader_token.specs.declared.kept.Found.{Found}
use Rattle.leader_token.specs.declared.kept.View.{View}
use Rattle.leader_token.proofs.Keeps.{some-of}
use Rattle.leader_token.proofs.Told.{mine_is}
use Rattle.reactor_model.specs.reactor_journal.specs.declared.entry.Entry.{Entry}
use Rattle.reactor_core.specs.Polling.{FitsLimit}
use Rattle.reactor_core.specs.Stands.{Meaning}
use Rattle.reactor_desk.specs.Desks.{DeskStands, KeepsMarks, marks_of}
use Rattle.reactor_desk.specs.Leading.{LeadGives, LeadTells, TellsVolumeFault, SomeList}
use Rattle.reactor_desk.specs.Leading.{event_of}
use Rattle.reactor_core.specs.laws_turns.specs.Opens.{opens_of}
use Rattle.reactor_desk.specs.declared.terms.DeskTerms.{DeskTerms}
use Rattle.reactor_desk.specs.declared.desk.Desk.{Desk}
use Rattle.reactor_desk.specs.declared.leading.Led.{Led}
use Rattle.reactor_desk.specs.Laws.{HistoryLeft}
use Rattle.reactor_desk.proofs.Left.{left_by_lead, only_one}
use Rattle.tp_reactor.specs.Led.{Finds, LeavesDesk, IsLed}

-- marks of what is lent out of the token are those of what was found
pub kept_of : {H M Q W V N E : Type 0} (m : Meaning H M Q W V N E)
    (found lent left : Desk H M Q W V N E) → lent ≡ found → KeepsMarks m lent left
    → KeepsMarks m found left
kept_of m found lent left same kept = subst (λ d. KeepsMarks m d left) same kept

module _ {H M Q W V N E : Type 0} (m : Meaning H M Q W V N E) where
  abbrev pub Stand : DeskTerms → ℕ → Desk H M Q W V N E → List (Entry N) → Type 0
  Stand q F desk h = DeskStands m q F desk h

  abbrev pub marks : Desk H M Q W V N E → List ℕ
  marks = marks_of m

  abbrev pub Got : View (Entry N) DeskTerms → Desk H M Q W V N E → View (Entry N) DeskTerms → Type 0
  Got = IsGot Stand opens_of marks

  abbrev pub May : View (Entry N) DeskTerms → Desk H M Q W V N E → Type 0
  May = MayPut Stand opens_of marks

  abbrev pub Put : View (Entry N) DeskTerms → Desk H M Q W V N E → View (Entry N) DeskTerms → Type 0
  Put = IsPut Stand opens_of marks

  pub finds : (v mid : View (Entry N) DeskTerms) (found : Desk H M Q W V N E)
      → (got : Got v found mid) → Finds m v got.first got.list found
  finds v mid found got = record {
    stood = got.stood;
    begins = got.seen;
    above = subst (λ (l : List ℕ). NoneAbove v.marks l) (sym got.marked) got.above;
    own = got.own;
    alone = got.alone;
  }

  -- what changed among the open events is the caller's own
  abbrev pub Changes : View (Entry N) DeskTerms → List (Entry N) → List (Entry N) → Option ℕ
      → Type 0
  Changes v h list mine = (e : ℕ) → times e (opens_of list) + is_event e v.mine
      ≡ times e (opens_of h) + is_event e mine

  -- what a hold comes to
  pub record Holds (v mid : View (Entry N) DeskTerms) (found left : Desk H M Q W V N E)
      (got : Got v found mid) (list : List (Entry N)) (mine : Option ℕ) : Type 0 where
    pub first : ℕ
    pub within : first ≤ length got.list
    pub stands : DeskStands m v.terms first left list
    pub begins : Begins got.list list
    pub changes : Changes v got.list list mine
    pub risen : NoneAbove (marks found) (marks left)

  abbrev pub may_put : (v mid : View (Entry N) DeskTerms) (found left : Desk H M Q W V N E)
      (got : Got v found mid) (list : List (Entry N)) (mine : Option ℕ)
      → Holds v mid found left got list mine → May mid left
  may_put v mid found left got list mine held = record {
    base = record { list = got.list; marks = got.found };
    first = held.first;
    list = list;
    mine = mine;
    is_base = ap (λ (x : View (Entry N) DeskTerms). x.base) got.view;
    stood = subst (λ (q : DeskTerms). DeskStands m q held.first left list)
        (sym (ap (λ (x : View (Entry N) DeskTerms). x.terms) got.view)) held.stands;
    longer = held.begins;
    above = subst (λ (l : List ℕ). NoneAbove l (marks left)) got.marked held.risen;
    events = λ e. omega (
      arith,
      held.changes e,
      ap (λ (x : View (Entry N) DeskTerms). is_event e x.mine) got.view,
    );
  }

  -- what was put back is what the caller had in mind
  pub leaves : (v mid w : View (Entry N) DeskTerms) (found left : Desk H M Q W V N E)
      (got : Got v found mid) (list : List (Entry N)) (mine : Option ℕ)
      → Holds v mid found left got list mine → Put mid left w
      → LeavesDesk m v found left list mine w
  leaves v mid w found left got list mine held put =
      let a : May mid left = may_put v mid found left got list mine held in
      let b : May mid left = put.may in
      let base : b.base ≡ a.base = some-of b.base a.base (sym b.is_base ∙ a.is_base) in
      let lists : b.list ≡ list = only_one m mid.terms got.list b.list list b.first held.first left
      held.within (subst (λ (f : Found (Entry N)). Begins f.list b.list) base b.longer)
      held.begins b.stood a.stood in
      let own : b.mine ≡ mine = mine_is b.mine mine
      (λ e. omega (
        arith,
        a.events e,
        b.events e,
        ap (λ l. times e (opens_of l)) lists,
        ap (λ (f : Found (Entry N)). times e (opens_of f.list)) base,
      )) in
      record {
        first = held.first;
        stands = held.stands;
        view = put.view ∙ ((λ i. put_view mid (marks left) (lists i) (own i))
            ∙ ap (λ (x : View (Entry N) DeskTerms). put_view x (marks left) list mine) got.view);
        risen = held.risen;
      }

  -- what is lent out of the token is what was found
  pub stood_of : (v mid : View (Entry N) DeskTerms) (found lent : Desk H M Q W V N E)
      (got : Got v found mid) → lent ≡ found → DeskStands m v.terms got.first lent got.list
  stood_of v mid found lent got same =
      subst (λ (d : Desk H M Q W V N E). DeskStands m v.terms got.first d got.list) (sym same)
      got.stood

  -- ---- a lead

  -- what the lead of a desk says
  abbrev pub DeskLeads : Option ℕ → Desk H M Q W V N E → Led H N E → Desk H M Q W V N E → Type 0
  DeskLeads most old l new = (q : DeskTerms) (F : ℕ) (h : List (Entry N)) → DeskStands m q F old h
      → FitsLimit q.run most → SomeList (LeadGives m q F h most old l new)

  module _ (v mid : View (Entry N) DeskTerms) (found lent left : Desk H M Q W V N E)
      (got : Got v found mid) (most : Option ℕ) (l : Led H N E) where
    pub lead_of : lent ≡ found → DeskLeads most lent l left → FitsLimit v.terms.run most
        → SomeList (LeadGives m v.terms got.first got.list most found l left)
    lead_of same leads fits = subst (λ (d : Desk H M Q W V N E). DeskLeads most d l left) same leads
        v.terms got.first got.list got.stood fits

    -- what was lent out of the token led, and is put back
    pub held_lead : (same : lent ≡ found) (leads : DeskLeads most lent l left)
        (fits : FitsLimit v.terms.run most) → v.mine ≡ None → KeepsMarks m lent left
        → Holds v mid found left got (lead_of same leads fits).0 (event_of l)
    held_lead same leads fits idle kept =
        let g : SomeList (LeadGives m v.terms got.first got.list most found l left) =
        lead_of same leads fits in
        let x : HistoryLeft m v.terms got.list left g.0 (event_of l) =
        left_by_lead m v.terms got.first got.list most found l left g.0 got.stood g.1 in
        record {
          first = x.first;
          within = x.within;
          stands = x.stands;
          begins = x.begins;
          changes = λ e. omega (arith, x.opens e, ap (is_event e) idle);
          risen = (subst (λ (d : Desk H M Q W V N E). KeepsMarks m d left) same kept).above;
        }

    pub is_led : (w : View (Entry N) DeskTerms) (same : lent ≡ found)
        (leads : DeskLeads most lent l left) (fits : FitsLimit v.terms.run most) → v.mine ≡ None
        → KeepsMarks m lent left → TellsVolumeFault m lent l left → LeadTells m lent l left
        → Put mid left w → IsLed m v most l w
    is_led w same leads fits idle kept volumes tells put = record {
      found = found;
      left = left;
      first = got.first;
      history = got.list;
      list = (lead_of same leads fits).0;
      finds = finds v mid found got;
      gives = (lead_of same leads fits).1;
      volumes = subst (λ (d : Desk H M Q W V N E). TellsVolumeFault m d l left) same volumes;
      tells = subst (λ (d : Desk H M Q W V N E). LeadTells m d l left) same tells;
      leaves = leaves v mid w found left got _ (event_of l) (held_lead same leads fits idle kept)
          put;
    }
