-- That no upcall is on its way after each call.
use Rattle.std.proofs.Common.{ℕ, ◌≡◌, Bool, true, false, List, [], ◌∷◌, ◌++◌, length, sym, ap, ◌∙◌}
use Rattle.std.proofs.Common.{subst, refl, Option, Some, None}
use Rattle.std.specs.Option.{is_some}
use Rattle.std.specs.Prelude.{Result, Ok, Err, OnErr, IfOk}
use Rattle.ev_base.specs.ev_types.specs.declared.upcall.Handle.{Handle}
use Rattle.ev_base.specs.ev_types.specs.declared.upcall.Mask.{Mask}
use Rattle.ev_base.specs.Terms.{Terms}
use Rattle.reactor_model.specs.reactor_journal.specs.declared.entry.Entry.{Entry}
use Rattle.reactor_model.specs.reactor_journal.specs.declared.entry.Entry.TheVariants.{Ended}
use Rattle.reactor_model.specs.reactor_journal.specs.Past.{past_of}
use Rattle.reactor_core.specs.reactor_summary.specs.Summary.{Summary, step, pick}
use Rattle.reactor_core.specs.Stands.{Meaning, Stands, StandsAsBefore}
use Rattle.reactor_core.specs.Polling.{FitsLimit, Polls}
use Rattle.reactor_core.specs.declared.polling.Polled.{Polled}
use Rattle.reactor_core.specs.HandingOver.{HandsDue, HandsOver, is_due}
use Rattle.reactor_core.specs.Offering.{RegisterGives}
use Rattle.reactor_core.specs.Registering.{registered}
use Rattle.reactor_core.specs.Removing.{StopsOnce}
use Rattle.reactor_core.specs.declared.registering.RegisterRefused.{RegisterRefused}
use Rattle.reactor_core.specs.declared.registering.RegisterRefused.TheVariants.{Stopped, Full}
use Rattle.reactor_core.specs.declared.registering.RegisterRefused.TheVariants.{NoMemory, NetFailed}
use Rattle.core_loop.specs.Idle.{HasClosed, HasEnded, IsIdle, IsIdleOn, WasStopped}
use Rattle.reactor_core.specs.declared.reactor.Core.{Core}
use Rattle.reactor_core.specs.Upcalls.{HasNoPick}
use Rattle.reactor_core.proofs.Over.{none_live}
use Rattle.reactor_core.proofs.Start.{no_pick}
use Rattle.core_loop.proofs.Keeping.{sum, sum_more, Keeps, keeps_removals, keeps_polled}
use Rattle.core_loop.proofs.Keeping.{keeps_registered}

pub idle_keeps : {H M Q W V N E : Type 0} {m : Meaning H M Q W V N E} (old new : Core H M Q W V N E)
    {bound : Option (Option ℕ)} (i : IsIdleOn m bound old) (es : List (Entry N))
    → Keeps i.history es
    → Stands m i.terms new i.first (i.history ++ es) → IsIdleOn m bound new
idle_keeps old new i es k st = record {
  terms = i.terms;
  limit = i.limit;
  first = i.first;
  history = i.history ++ es;
  stands = st;
  none_open = k.opens ∙ i.none_open;
}

abbrev pub idle_same : {H M Q W V N E : Type 0} {m : Meaning H M Q W V N E}
    (old new : Core H M Q W V N E) {bound : Option (Option ℕ)} (i : IsIdleOn m bound old)
    → Stands m i.terms new i.first i.history → IsIdleOn m bound new
idle_same old new i st = record {
  terms = i.terms;
  limit = i.limit;
  first = i.first;
  history = i.history;
  stands = st;
  none_open = i.none_open;
}

pub registers : {H M Q W V N E : Type 0} {m : Meaning H M Q W V N E} (old new : Core H M Q W V N E)
    (result : Result Handle (H × RegisterRefused)) (mask : Mask) (timer : Option (ℕ × ℕ))
    (i : IsIdle m old)
    → RegisterGives m i.terms i.first i.history mask timer old result new → IsIdle m new
registers old new (Ok handle) mask timer i g =
    idle_keeps old new i (registered (sum i.history) handle mask timer)
    (keeps_registered i.history (sum i.history) handle mask timer) g.2
registers old new (Err (back, Stopped)) mask timer i g = idle_same old new i g.1.stands
registers old new (Err (back, Full l o)) mask timer i g = idle_same old new i g.4.stands
registers old new (Err (back, NoMemory)) mask timer i g = idle_same old new i g.1.stands
registers old new (Err (back, NetFailed)) mask timer i g = idle_same old new i g.2.stands

-- a history with no open event that was stopped
pub record Over {H M Q W V N E : Type 0} (m : Meaning H M Q W V N E)
    (core : Core H M Q W V N E) : Type 0 where
  pub idle : IsIdle m core
  pub ended : (sum idle.history).ended ≡ true

pub stopped : {H M Q W V N E : Type 0} {m : Meaning H M Q W V N E} (old new : Core H M Q W V N E)
    (i : IsIdle m old) (b : Bool) → (sum i.history).ended ≡ b
    → StopsOnce m i.terms i.first i.history new b → Over m new
stopped old new i true q st = record {
  idle =
      record {
        terms = i.terms;
        limit = i.limit;
        first = i.first;
        history = i.history;
        stands = st;
        none_open = i.none_open;
      };
  ended = q;
}
stopped {N = N} old new i false q st =
    let e : sum (i.history ++ Ended ∷ []) ≡ step {N = N} (sum i.history) Ended =
    sum_more i.history Ended in
    let k : Keeps (i.history ++ Ended ∷ []) st.entries =
    keeps_removals (i.history ++ Ended ∷ []) _ _ st.entries st.removals in
    record {
      idle = record {
        terms = i.terms;
        limit = i.limit;
        first = i.first;
        history = (i.history ++ Ended ∷ []) ++ st.entries;
        stands = st.stands;
        none_open = k.opens ∙ (ap (λ (s : Summary). s.opens) e ∙ i.none_open);
      };
      ended = k.ended (ap (λ (s : Summary). s.ended) e);
    }

pub over_stopped : {H M Q W V N E : Type 0} {m : Meaning H M Q W V N E} (core : Core H M Q W V N E)
    → Over m core → WasStopped m core
over_stopped core o = (
  o.idle.terms,
  o.idle.first,
  o.idle.history,
  o.idle.stands,
  record {
    ended = o.ended;
    none_live =
        none_live (sum o.idle.history).handles (sum o.idle.history).opens o.idle.none_open
        (o.idle.stands.settled.none_alive o.ended) o.idle.stands.settled.none_waits;
  },
)

-- terms that leave the limit of waits open fit each limit
pub any_limit : (t : Terms) (most : Option ℕ) → t.limit ≡ None → FitsLimit t most
any_limit t most none limit is = absurd (not_some (sym none ∙ is))
  where
    not_some : {A : Type 0} {a : A} → None ≡ Some a → ⊥
    not_some q = cc

-- and terms that have a limit fit that one
pub same_limit : (t : Terms) (most : Option ℕ) → t.limit ≡ Some most → FitsLimit t most
same_limit t most has limit is = same (sym has ∙ is)
  where
    same : {A : Type 0} {a b : A} → Some a ≡ Some b → a ≡ b
    same q = cc

-- a wait on terms that the limit fits
pub polls_on : {H M Q W V N E : Type 0} {m : Meaning H M Q W V N E} {X : Type 0}
    (old new : Core H M Q W V N E) (most : Option ℕ) (result : Result Polled X)
    {bound : Option (Option ℕ)} (i : IsIdleOn m bound old) → FitsLimit i.terms most
    → IfOk result (λ polled. (t : Terms) (F : ℕ) (h : List (Entry N)) → Stands m t old F h
    → FitsLimit t most → Polls m t F h most polled old new)
    → OnErr result (StandsAsBefore m old new) → IsIdleOn m bound new
polls_on old new most (Ok polled) i fits ok err =
    let w = (ok i.terms i.first i.history i.stands fits).waits in
    idle_keeps old new i _ (keeps_polled i.history w.now w.timers _) w.stands
polls_on old new most (Err x) i fits ok err =
    idle_same old new i (err i.terms i.first i.history i.stands)

pub polls : {H M Q W V N E : Type 0} {m : Meaning H M Q W V N E} {X : Type 0}
    (old new : Core H M Q W V N E) (most : Option ℕ) (result : Result Polled X) (i : IsIdle m old)
    → IfOk result (λ polled. (t : Terms) (F : ℕ) (h : List (Entry N)) → Stands m t old F h
    → FitsLimit t most → Polls m t F h most polled old new)
    → OnErr result (StandsAsBefore m old new) → IsIdle m new
polls old new most result i ok err =
    polls_on old new most result i (any_limit i.terms most i.limit) ok err

-- the count of closings of a turn that was made
pub closed_so : {H M Q W V N E R : Type 0} {m : Meaning H M Q W V N E} (core : Core H M Q W V N E)
    (a b : ℕ) → ◌≡◌ {A = Result (Option ℕ) R} (Ok (Some a)) (Ok (Some b)) → HasClosed m a core
    → HasClosed m b core
closed_so {m = m} core a b is h = let same : a ≡ b = cc in subst (λ n. HasClosed m n core) same h

-- a wait that was refused since the reactor was stopped
pub stopped_still : {H M Q W V N E X Y : Type 0} {m : Meaning H M Q W V N E}
    (old new : Core H M Q W V N E) (result : Result X Y) {y : Y} (i : IsIdle m old) → result ≡ Err y
    → (result ≡ Err y → (sum i.history).ended ≡ true) → OnErr result (StandsAsBefore m old new)
    → HasEnded m new
stopped_still old new (Ok x) i is ended err = absurd (err_ok is)
  where
    err_ok : {X Y : Type 0} {x : X} {y : Y} → ◌≡◌ {A = Result X Y} (Ok x) (Err y) → ⊥
    err_ok q = cc
stopped_still old new (Err y) i is ended err =
    (idle_same old new i (err i.terms i.first i.history i.stands), ended is)

-- a look that found no upcall to make
pub none_found : {H M Q W V N E : Type 0} {m : Meaning H M Q W V N E} (core : Core H M Q W V N E)
    (t : Terms) (F : ℕ) (h : List (Entry N)) → Stands m t core F h → (found : Bool)
    → found ≡ is_some (pick (sum h)) → found ≡ false → HasNoPick (past_of h)
none_found core t F h stands found says is =
    no_pick t.most (past_of h) stands.tracks.legal (empty _ (sym says ∙ is))
  where
    empty : {A : Type 0} (x : Option A) → is_some x ≡ false → x ≡ None
    empty None q = refl
    empty (Some a) q = cc

pub none_next : {H M Q W V N E : Type 0} {m : Meaning H M Q W V N E} (core : Core H M Q W V N E)
    (i : IsIdle m core) (found : Bool) → found ≡ is_some (pick (sum i.history)) → found ≡ false
    → HasNoPick (past_of i.history)
none_next core i found says is =
    none_found core i.terms i.first i.history i.stands found says is

-- a handing over leaves the history
pub hands_over : {H M Q W V N E : Type 0} {m : Meaning H M Q W V N E} (old new : Core H M Q W V N E)
    (n : ℕ) {bound : Option (Option ℕ)} (i : IsIdleOn m bound old)
    → HandsOver m i.terms i.first i.history n old new → IsIdleOn m bound new
hands_over {H} {M} {Q} {W} {V} {N} {E} {m} old new n {bound} i given =
    by (is_due old i.first i.history) given.handed
  where
    by : (due : Bool) → HandsDue due m i.terms i.first i.history n old new → IsIdleOn m bound new
    by true d = record {
      terms = i.terms;
      limit = i.limit;
      first = length i.history;
      history = i.history;
      stands = d.1;
      none_open = i.none_open;
    }
    by false d = subst (λ (c : Core H M Q W V N E). IsIdleOn m bound c) (sym d.1) i
