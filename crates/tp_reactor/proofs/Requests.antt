-- A request under the token.
use Rattle.std.proofs.Common.{ℕ, ◌≡◌, ◌+◌, ◌↔◌, Bool, true, false, List, [], ◌∷◌, ◌++◌, refl, sym}
use Rattle.std.proofs.Common.{ap, ◌∙◌, subst, append-nil, Option, Some, None, Result, Ok, Err, IfOk}
use Rattle.std.proofs.Common.{OnOk, OnErr, IsErr}
use Rattle.std.proofs.lemmas.List.{append_assoc}
use Rattle.ev_base.specs.ev_types.specs.declared.upcall.Handle.{Handle}
use Rattle.ev_base.specs.ev_types.specs.declared.upcall.Mask.{Mask}
use Rattle.std.proofs.lemmas.Bool.{and_from}
use Rattle.std.proofs.lemmas.List.Folds.{list_all-append}
use Rattle.std.specs.List.{list_all}
use Rattle.reactor_core.specs.reactor_summary.specs.declared.parts.LiveHandle.{LiveHandle}
use Rattle.reactor_core.specs.Removing.{AreRemovals}
use Rattle.leader_token.specs.Lists.{is_event}
use Rattle.leader_token.specs.list_lemmas.specs.Times.{times}
use Rattle.leader_token.specs.declared.kept.View.{View}
use Rattle.reactor_model.specs.reactor_journal.specs.declared.entry.Entry.{Entry}
use Rattle.reactor_model.specs.reactor_journal.specs.declared.entry.Entry.TheVariants.{Removed}
use Rattle.reactor_model.specs.reactor_journal.specs.Past.{past_of, offered_here}
use Rattle.reactor_core.specs.reactor_summary.specs.Summary.{Summary, summary, is_alive}
use Rattle.reactor_core.specs.Acting.{StopAppends}
use Rattle.reactor_core.specs.Refusals.{LeavesOffer}
use Rattle.reactor_core.specs.Registering.{IsOffered, registered}
use Rattle.reactor_core.specs.Settling.{IsClosing}
use Rattle.reactor_core.specs.Stands.{Meaning}
use Rattle.reactor_core.specs.declared.reactor.Core.{Core}
use Rattle.reactor_core.specs.declared.registering.RegisterRefused.{RegisterRefused}
use Rattle.reactor_core.specs.declared.removing.NotLive.{NotLive}
use Rattle.reactor_desk.specs.Asking.{MayAsk, DeskAsBefore, DeskGoesOnBy, DeskRegisters}
use Rattle.reactor_desk.specs.Asking.{DeskRemoves, DeskStops, WhereAsked, WhereDesk}
use Rattle.reactor_desk.specs.Desks.{DeskStands, KeepsMarks, core_of}
use Rattle.reactor_desk.specs.declared.terms.DeskTerms.{DeskTerms}
use Rattle.reactor_desk.specs.declared.desk.Desk.{Desk}
use Rattle.reactor_desk.proofs.Opens.{is_still, opens_still}
use Rattle.tp_reactor.specs.Asked.{HasAsked, Asks, IsOfferedAnywhere, Registers, RemovesHandle}
use Rattle.tp_reactor.specs.Asked.{StopsReactor}
use Rattle.tp_reactor.proofs.Turns.{Got, Put, May, Holds, finds, leaves, may_put}

module _ {H M Q W V N E : Type 0} (m : Meaning H M Q W V N E) (v mid : View (Entry N) DeskTerms)
    (found left : Desk H M Q W V N E) (got : Got m v found mid) where
  -- what a request on the desk came to, which neither started an upcall nor settled one
  pub record Asked (P : List (Entry N) → Desk H M Q W V N E → Desk H M Q W V N E → List (Entry N)
      → Type 0) : Type 0 where
    pub entries : List (Entry N)
    pub still : list_all is_still entries ≡ true
    pub stands : DeskStands m v.terms got.first left (got.list ++ entries)
    pub kept : KeepsMarks m found left
    pub gives : P got.list found left entries

  asked_holds : (P : List (Entry N) → Desk H M Q W V N E → Desk H M Q W V N E → List (Entry N)
      → Type 0) → (a : Asked P) → Holds m v mid found left got (got.list ++ a.entries) v.mine
  asked_holds P a = record {
    first = got.first;
    within = got.stood.core.tracks.journal.within;
    stands = a.stands;
    begins = (a.entries, refl);
    changes = λ e. ap (λ (xs : List ℕ). times e xs + is_event e v.mine)
        (opens_still got.list a.entries a.still);
    risen = a.kept.above;
  }

  pub may_ask : (P : List (Entry N) → Desk H M Q W V N E → Desk H M Q W V N E → List (Entry N)
      → Type 0) → Asked P → May m mid left
  may_ask P a = may_put m v mid found left got _ _ (asked_holds P a)

  pub has_asked : (P : List (Entry N) → Desk H M Q W V N E → Desk H M Q W V N E → List (Entry N)
      → Type 0) (w : View (Entry N) DeskTerms) → Asked P → Put m mid left w → HasAsked m v P w
  has_asked P w a put = record {
    found = found;
    left = left;
    first = got.first;
    history = got.list;
    entries = a.entries;
    finds = finds m v mid found got;
    gives = a.gives;
    leaves = leaves m v mid w found left got _ v.mine (asked_holds P a) put;
  }

  -- ---- a request of one entry

  -- what the desk says of it
  pub record SaysOne {A X : Type 0} (e : Summary → A → Entry N) (result : Result A X)
      (C : Summary → Result A X → Type 0)
      (R : Core H M Q W V N E → Result A X → Core H M Q W V N E → Type 0)
      (lent : Desk H M Q W V N E) : Type 0 where
    pub ok : IfOk result (λ a. DeskGoesOnBy m lent (λ s. e s a) left)
    pub err : OnErr result (DeskAsBefore m lent left)
    pub cause : WhereDesk m lent (λ s. C s result)
    pub leaves : R (core_of lent) result (core_of left)
    pub kept : KeepsMarks m lent left

  asked_at : {A X : Type 0} (e : Summary → A → Entry N) (result : Result A X)
      (C : Summary → Result A X → Type 0)
      (R : Core H M Q W V N E → Result A X → Core H M Q W V N E → Type 0)
      → ((s : Summary) (a : A) → is_still (e s a) ≡ true)
      → MayAsk v.terms → SaysOne e result C R found → Asked (Asks e result C R)
  asked_at e (Ok a) C R still may says = record {
    entries = e (summary (past_of got.list)) a ∷ [];
    still = and_from _ true (still (summary (past_of got.list)) a) refl;
    stands = says.ok v.terms got.first got.list got.stood may;
    kept = says.kept;
    gives = record {
      are = refl;
      cause = says.cause v.terms got.first got.list got.stood;
      leaves = says.leaves;
    };
  }
  asked_at e (Err x) C R still may says = record {
    entries = [];
    still = refl;
    stands = subst (DeskStands m v.terms got.first left) (sym (append-nil got.list))
        (says.err v.terms got.first got.list got.stood);
    kept = says.kept;
    gives = record {
      are = refl;
      cause = says.cause v.terms got.first got.list got.stood;
      leaves = says.leaves;
    };
  }

  pub asked_one : {A X : Type 0} (e : Summary → A → Entry N) (result : Result A X)
      (C : Summary → Result A X → Type 0)
      (R : Core H M Q W V N E → Result A X → Core H M Q W V N E → Type 0)
      (lent : Desk H M Q W V N E) → lent ≡ found → ((s : Summary) (a : A) → is_still (e s a) ≡ true)
      → MayAsk v.terms → SaysOne e result C R lent → Asked (Asks e result C R)
  asked_one e result C R lent same still may says =
      asked_at e result C R still may (subst (SaysOne e result C R) same says)

  -- ---- a registration, a removal and a stop

  -- what the desk says of them
  pub record SaysRegisters (handler : H) (mask : Mask) (timer : Option (ℕ × ℕ))
      (result : Result Handle (H × RegisterRefused)) (lent : Desk H M Q W V N E) : Type 0 where
    pub gives : WhereAsked m lent (λ q F h. IsOffered m.means q.run (past_of h) handler
        → DeskRegisters m q F h mask timer lent result left)
    pub leaves : LeavesOffer m handler (core_of lent) result (core_of left)
    pub kept : KeepsMarks m lent left

  registered_still : (s : Summary) (handle : Handle) (mask : Mask) (timer : Option (ℕ × ℕ))
      → list_all is_still (registered {N = N} s handle mask timer) ≡ true
  registered_still s handle mask None = refl
  registered_still s handle mask (Some timer) = refl

  registers_at : (handler : H) (mask : Mask) (timer : Option (ℕ × ℕ))
      (result : Result Handle (H × RegisterRefused))
      → LeavesOffer m handler (core_of found) result (core_of left) → KeepsMarks m found left
      → DeskRegisters m v.terms got.first got.list mask timer found result left
      → Asked (Registers m v.terms.run got.first handler mask timer result)
  registers_at handler mask timer (Ok handle) leaves kept d =
      record {
        entries = registered (summary (past_of got.list)) handle mask timer;
        still = registered_still (summary (past_of got.list)) handle mask timer;
        stands = d.stands;
        kept = kept;
        gives = record { are = refl; gives = d.gives; leaves = leaves };
      }
  registers_at handler mask timer (Err back) leaves kept d =
      record {
        entries = [];
        still = refl;
        stands = subst (DeskStands m v.terms got.first left) (sym (append-nil got.list)) d.stands;
        kept = kept;
        gives = record { are = refl; gives = d.gives; leaves = leaves };
      }

  pub registers_one : (handler : H) (mask : Mask) (timer : Option (ℕ × ℕ))
      (result : Result Handle (H × RegisterRefused)) (lent : Desk H M Q W V N E) → lent ≡ found
      → MayAsk v.terms → IsOfferedAnywhere m.means v.terms.run handler
      → SaysRegisters handler mask timer result lent
      → Asked (Registers m v.terms.run got.first handler mask timer result)
  registers_one handler mask timer result lent same may offered says =
      let s : SaysRegisters handler mask timer result found =
      subst (SaysRegisters handler mask timer result) same says in
      registers_at handler mask timer result s.leaves s.kept
      (s.gives v.terms got.first got.list got.stood may
      (offered (offered_here (past_of got.list))))

  pub record SaysRemoves (handle : Handle) (result : Result (Unit {0}) NotLive)
      (lent : Desk H M Q W V N E) : Type 0 where
    pub cause : WhereDesk m lent (λ s. IsErr result ↔ (is_alive s handle.0 ≡ false))
    pub ok : OnOk result (WhereAsked m lent (λ q F h. DeskRemoves m q F h handle left))
    pub err : OnErr result (left ≡ lent)
    pub kept : KeepsMarks m lent left

  closing_still : (closes : Bool) (handle : Handle) (es : List (Entry N))
      → IsClosing closes handle es → list_all is_still es ≡ true
  closing_still true handle es is = ap (list_all is_still) is.1
  closing_still false handle es is = ap (list_all is_still) is

  removes_at : (handle : Handle) (result : Result (Unit {0}) NotLive) → MayAsk v.terms
      → SaysRemoves handle result found → Asked (RemovesHandle handle result)
  removes_at handle (Ok done) may s =
      let r : DeskRemoves m v.terms got.first got.list handle left =
      s.ok v.terms got.first got.list got.stood may in
      record {
        entries = Removed handle ∷ r.entries;
        still = closing_still _ handle r.entries r.closing;
        stands = subst (DeskStands m v.terms got.first left)
            (append_assoc got.list (Removed handle ∷ []) r.entries) r.stands;
        kept = s.kept;
        gives = record {
          are = (r.entries, r.closing, refl);
          cause = s.cause v.terms got.first got.list got.stood;
        };
      }
  removes_at handle (Err refused) may s = record {
    entries = [];
    still = refl;
    stands = subst (DeskStands m v.terms got.first left) (sym (append-nil got.list))
        (subst (λ (d : Desk H M Q W V N E). DeskStands m v.terms got.first d got.list) (sym s.err)
        got.stood);
    kept = s.kept;
    gives = record { are = refl; cause = s.cause v.terms got.first got.list got.stood };
  }

  pub removes_one : (handle : Handle) (result : Result (Unit {0}) NotLive)
      (lent : Desk H M Q W V N E) → lent ≡ found → MayAsk v.terms → SaysRemoves handle result lent
      → Asked (RemovesHandle handle result)
  removes_one handle result lent same may says =
      removes_at handle result may (subst (SaysRemoves handle result) same says)

  pub record SaysStops (lent : Desk H M Q W V N E) : Type 0 where
    pub stops : WhereAsked m lent (λ q F h. DeskStops m q F h left)
    pub kept : KeepsMarks m lent left

  removals_still : (busy : ℕ → Bool) (hs : List LiveHandle) (es : List (Entry N))
      → AreRemovals busy hs es → list_all is_still es ≡ true
  removals_still busy [] es r = ap (list_all is_still) r
  removals_still busy (a ∷ hs) es r =
      ap (list_all is_still) r.4 ∙ (list_all-append is_still r.0 r.1
      ∙ and_from _ _ (closing_still _ a.handle r.0 r.2) (removals_still busy hs r.1 r.3))

  stop_still : (s : Summary) (ended : Bool) (es : List (Entry N)) → StopAppends s ended es
      → list_all is_still es ≡ true
  stop_still s true es is = ap (list_all is_still) is
  stop_still s false es a = ap (list_all is_still) a.2 ∙ removals_still _ _ a.0 a.1

  pub stops_one : (lent : Desk H M Q W V N E) → lent ≡ found → MayAsk v.terms → SaysStops lent
      → Asked StopsReactor
  stops_one lent same may says =
      let s : SaysStops found = subst SaysStops same says in
      let d : DeskStops m v.terms got.first got.list left =
      s.stops v.terms got.first got.list got.stood may in
      record {
        entries = d.entries;
        still =
            stop_still (summary (past_of got.list)) (summary (past_of got.list)).ended d.entries
            d.appends;
        stands = d.stands;
        kept = s.kept;
        gives = d.appends;
      }
