-- The live handles after one more entry.
use Rattle.std.proofs.Common.{ℕ, ◌≡◌, ◌==◌, Bool, true, false, not, ◌&&◌, ◌||◌, List, [], ◌∷◌, ◌++◌}
use Rattle.std.proofs.Common.{map, refl, ap, ◌∙◌, arith, cond, Option, Some, None, option_map}
use Rattle.std.proofs.lemmas.Bool.{and_parts, eqb-true, eq-eqb, ne_eqb}
use Rattle.std.specs.Option.{option_to_list}
use Rattle.std.specs.List.{filter}
use Rattle.ev_types.specs.declared.upcall.Mask.{Mask}
use Rattle.ev_types.specs.declared.upcall.Handle.{Handle}
use Rattle.ev_types.specs.declared.upcall.Answer.TheVariants.{Close}
use Rattle.reactor_journal.specs.Event.{Event}
use Rattle.reactor_journal.specs.declared.entry.Entry.{Entry}
use Rattle.reactor_journal.specs.declared.entry.Entry.TheVariants.{Opened, Masked, Suspended}
use Rattle.reactor_journal.specs.declared.entry.Entry.TheVariants.{Resumed, Returned, Removed}
use Rattle.reactor_journal.specs.declared.entry.Entry.TheVariants.{Closed}
use Rattle.reactor_journal.specs.Past as P
use Rattle.reactor_journal.specs.Follow.{may_follow, is_legal}
use Rattle.reactor_journal.proofs.Basics.{may_fits}
use Rattle.reactor_summary.specs.declared.parts.LiveHandle.{LiveHandle}
use Rattle.reactor_summary.specs.Summary as S
use Rattle.reactor_summary.specs.Summary.{Summary}
use Rattle.reactor_summary.specs.Tells as T
use Rattle.reactor_summary.specs.Tells.{Tells, listed}
use Rattle.reactor_summary.proofs.Lists.{listed_same, map-listed, filter-listed, kept}
use Rattle.reactor_summary.proofs.Opened.{Bare, next_is_bare}
use Rattle.reactor_summary.proofs.Opens.{event_open_is}

-- a handle, if it was not closed
abbrev state : ℕ → Bool → Mask → Bool → Bool → Option LiveHandle
state x closed mask suspended alive =
    cond closed None (Some (record {
      handle = record { 0 = x };
      mask = mask;
      suspended = suspended;
      alive = alive;
    }))

opened_other : (x : ℕ) (b closed suspended opened removed : Bool) (mask before : Mask) → b ≡ false
    → state x closed before suspended (opened && not removed)
    ≡ state x closed (cond b mask before) suspended ((b || opened) && not removed)
opened_other x b closed suspended opened removed mask before h = rw h refl

opened_new : (handle : Handle) (x : ℕ) (b closed suspended opened removed : Bool)
    (mask before : Mask) → b ≡ true → closed ≡ false → suspended ≡ false → removed ≡ false
    → handle.0 ≡ x
    → ◌≡◌ {A = Option LiveHandle} (Some
    (record { handle = handle; mask = mask; suspended = false; alive = true }))
    (state x closed (cond b mask before) suspended ((b || opened) && not removed))
opened_new handle x b closed suspended opened removed mask before h c u r q =
    rw (h, c, u, r) (ap (λ (k : ℕ). Some
    (record { handle = record { 0 = k }; mask = mask; suspended = false; alive = true })) q)

masked : (x y : ℕ) (closed suspended alive : Bool) (mask before : Mask)
    → option_map (S.with_mask x mask) (state y closed before suspended alive)
    ≡ state y closed (cond (x == y) mask before) suspended alive
masked x y true suspended alive mask before = refl
masked x y false suspended alive mask before = by_cases (x == y)
  where
    by_cases : (b : Bool) → ◌≡◌ {A = Option LiveHandle}
        (Some (cond b (record {
          handle = record { 0 = y };
          mask = mask;
          suspended = suspended;
          alive = alive;
        }) (record {
          handle = record { 0 = y };
          mask = before;
          suspended = suspended;
          alive = alive;
        }))) (Some
        (record {
          handle = record { 0 = y };
          mask = cond b mask before;
          suspended = suspended;
          alive = alive;
        }))
    by_cases true = refl
    by_cases false = refl

suspended_now : (x y : ℕ) (closed before alive : Bool) (mask : Mask)
    → option_map (S.with_suspended x true) (state y closed mask before alive)
    ≡ state y closed mask ((x == y) || before) alive
suspended_now x y true before alive mask = refl
suspended_now x y false before alive mask = by_cases (x == y)
  where
    by_cases : (b : Bool) → ◌≡◌ {A = Option LiveHandle}
        (Some (cond b (record {
          handle = record { 0 = y };
          mask = mask;
          suspended = true;
          alive = alive;
        }) (record {
          handle = record { 0 = y };
          mask = mask;
          suspended = before;
          alive = alive;
        }))) (Some (record {
          handle = record { 0 = y };
          mask = mask;
          suspended = b || before;
          alive = alive;
        }))
    by_cases true = refl
    by_cases false = refl

resumed_now : (x y : ℕ) (closed before alive : Bool) (mask : Mask)
    → option_map (S.with_suspended x false) (state y closed mask before alive)
    ≡ state y closed mask (not (x == y) && before) alive
resumed_now x y true before alive mask = refl
resumed_now x y false before alive mask = by_cases (x == y)
  where
    by_cases : (b : Bool) → ◌≡◌ {A = Option LiveHandle}
        (Some (cond b (record {
          handle = record { 0 = y };
          mask = mask;
          suspended = false;
          alive = alive;
        }) (record {
          handle = record { 0 = y };
          mask = mask;
          suspended = before;
          alive = alive;
        }))) (Some (record {
          handle = record { 0 = y };
          mask = mask;
          suspended = not b && before;
          alive = alive;
        }))
    by_cases true = refl
    by_cases false = refl

ended_now : (y : ℕ) (event : Option Event) (closed suspended opened removed : Bool) (mask : Mask)
    → option_map (S.with_end event) (state y closed mask suspended (opened && not removed))
    ≡ state y closed mask suspended (opened && not (P.belongs_to y event || removed))
ended_now y event true suspended opened removed mask = refl
ended_now y event false suspended opened removed mask = by_cases (P.belongs_to y event) opened
  where
    by_cases : (b opened : Bool) → ◌≡◌ {A = Option LiveHandle}
        (Some (cond b (record {
          handle = record { 0 = y };
          mask = mask;
          suspended = suspended;
          alive = false;
        }) (record {
          handle = record { 0 = y };
          mask = mask;
          suspended = suspended;
          alive = opened && not removed;
        })))
        (Some (record {
          handle = record { 0 = y };
          mask = mask;
          suspended = suspended;
          alive = opened && not (b || removed);
        }))
    by_cases true true = refl
    by_cases true false = refl
    by_cases false opened = refl

closed_now : (x y : ℕ) (closed suspended alive : Bool) (mask : Mask)
    → kept (λ (h : LiveHandle). not (x == h.handle.0)) (state y closed mask suspended alive)
    ≡ state y ((x == y) || closed) mask suspended alive
closed_now x y true suspended alive mask = by_cases (x == y)
  where
    by_cases : (b : Bool) → ◌≡◌ {A = Option LiveHandle} None
        (state y (b || true) mask suspended alive)
    by_cases true = refl
    by_cases false = refl
closed_now x y false suspended alive mask = by_cases (x == y)
  where
    by_cases : (b : Bool) → ◌≡◌ {A = Option LiveHandle}
        (cond (not b) (Some (record {
          handle = record { 0 = y };
          mask = mask;
          suspended = suspended;
          alive = alive;
        })) None) (state y (b || false) mask suspended alive)
    by_cases true = refl
    by_cases false = refl

pub handles_step : {N : Type 0} (most : ℕ) (e : Entry N) (past : List (Entry N)) (s : Summary)
    → is_legal most past ≡ true → may_follow most past e ≡ true → Tells past s
    → S.handles_after s e ≡ listed (T.live_handle (e ∷ past)) (P.opened (e ∷ past))
handles_step most (Opened handle mask) past s legal may t =
    let is : handle.0 ≡ P.opened past =
    eqb-true _ _ (and_parts _ _ (may_fits most past (Opened handle mask) may)).0 in
    let bare : Bare past (P.opened past) = next_is_bare most past (P.opened past) legal refl in
    ap (λ hs. hs ++ record { handle = handle; mask = mask; suspended = false; alive = true } ∷ [])
    (t.handles
    ∙ listed_same (T.live_handle past) (T.live_handle (Opened handle mask ∷ past)) (P.opened past)
    (λ k lt. opened_other k (handle.0 == k) (P.was_closed past k) (P.is_suspended past k)
    (P.was_opened past k) (P.was_removed past k) mask (P.mask_of past k)
    (ne_eqb handle.0 k (λ q. absurd (omega arith)))))
    ∙ ap (λ o. listed (T.live_handle (Opened handle mask ∷ past)) (P.opened past)
    ++ option_to_list o)
    (opened_new handle (P.opened past) (handle.0 == P.opened past)
    (P.was_closed past (P.opened past)) (P.is_suspended past (P.opened past))
    (P.was_opened past (P.opened past)) (P.was_removed past (P.opened past)) mask
    (P.mask_of past (P.opened past)) (eq-eqb handle.0 (P.opened past) is) bare.closed
    bare.suspended bare.removed is)
handles_step most (Masked handle mask) past s legal may t =
    ap (map (S.with_mask handle.0 mask)) t.handles
    ∙ (map-listed (S.with_mask handle.0 mask) (T.live_handle past) (P.opened past)
    ∙ listed_same _ (T.live_handle (Masked handle mask ∷ past)) (P.opened past)
    (λ k lt. masked handle.0 k (P.was_closed past k) (P.is_suspended past k) (P.is_alive past k)
    mask (P.mask_of past k)))
handles_step most (Suspended handle) past s legal may t =
    ap (map (S.with_suspended handle.0 true)) t.handles
    ∙ (map-listed (S.with_suspended handle.0 true) (T.live_handle past) (P.opened past)
    ∙ listed_same _ (T.live_handle (Suspended handle ∷ past)) (P.opened past)
    (λ k lt. suspended_now handle.0 k (P.was_closed past k) (P.is_suspended past k)
    (P.is_alive past k) (P.mask_of past k)))
handles_step most (Resumed handle) past s legal may t =
    ap (map (S.with_suspended handle.0 false)) t.handles
    ∙ (map-listed (S.with_suspended handle.0 false) (T.live_handle past) (P.opened past)
    ∙ listed_same _ (T.live_handle (Resumed handle ∷ past)) (P.opened past)
    (λ k lt. resumed_now handle.0 k (P.was_closed past k) (P.is_suspended past k)
    (P.is_alive past k) (P.mask_of past k)))
handles_step most (Removed handle) past s legal may t =
    ap (map (S.with_end (S.of_handle handle))) t.handles
    ∙ (map-listed (S.with_end (S.of_handle handle)) (T.live_handle past) (P.opened past)
    ∙ listed_same _ (T.live_handle (Removed handle ∷ past)) (P.opened past)
    (λ k lt. ended_now k (S.of_handle handle) (P.was_closed past k) (P.is_suspended past k)
    (P.was_opened past k) (P.was_removed past k) (P.mask_of past k)))
handles_step most (Returned event Close note) past s legal may t =
    let same : S.event_open s event ≡ P.event_at past event =
    event_open_is past s event t (may_fits most past (Returned event Close note) may) in
    ap (λ ev. map (S.with_end ev) s.handles) same
    ∙ (ap (map (S.with_end (P.event_at past event))) t.handles
    ∙ (map-listed (S.with_end (P.event_at past event)) (T.live_handle past) (P.opened past)
    ∙ listed_same _ (T.live_handle (Returned event Close note ∷ past)) (P.opened past)
    (λ k lt. ended_now k (P.event_at past event) (P.was_closed past k) (P.is_suspended past k)
    (P.was_opened past k) (P.was_removed past k) (P.mask_of past k))))
handles_step most (Closed handle note) past s legal may t =
    ap (filter (λ (h : LiveHandle). not (handle.0 == h.handle.0))) t.handles
    ∙ (filter-listed (λ (h : LiveHandle). not (handle.0 == h.handle.0)) (T.live_handle past)
    (P.opened past)
    ∙ listed_same _ (T.live_handle (Closed handle note ∷ past)) (P.opened past)
    (λ k lt. closed_now handle.0 k (P.was_closed past k) (P.is_suspended past k) (P.is_alive past k)
    (P.mask_of past k)))
handles_step most _ past s legal may t = t.handles
