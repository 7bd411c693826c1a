-- The winding up of a run in which nothing is open: each handle that is alive is removed and
-- closed, in rising order.
use Rattle.std.proofs.Common.{ℕ, zero, suc, ◌≡◌, ◌∙◌, ◌<◌, ◌==◌, Bool, true, false, cond, not, ◌&&◌}
use Rattle.std.proofs.Common.{◌||◌, List, [], ◌∷◌, ◌++◌, Option, Some, None, refl, sym, subst, ap}
use Rattle.std.proofs.Common.{arith, append-nil, ⊎_elim}
use Rattle.std.specs.List.{list_any, list_all, filter}
use Rattle.std.specs.Option.{option_to_list}
use Rattle.std.proofs.lemmas.Bool.{false≢true, and_parts, and_from, or_parts, or_cases, or_left}
use Rattle.std.proofs.lemmas.Bool.{or_right, both_ways, not-true, cases_Bool, eqb-true, eq-eqb}
use Rattle.std.proofs.lemmas.List.Folds.{list_any-append}
use Rattle.laws_script_calls.specs.ev_types.specs.declared.upcall.Handle.{Handle}
use Rattle.laws_script_calls.specs.reactor_journal.specs.declared.entry.Entry.{Entry}
use Rattle.laws_script_calls.specs.reactor_journal.specs.declared.entry.Entry.TheVariants.{Removed}
use Rattle.laws_script_calls.specs.reactor_journal.specs.declared.entry.Entry.TheVariants.{Closed}
use Rattle.laws_script_calls.specs.reactor_journal.specs.declared.entry.Entry.TheVariants.{Ended}
use Rattle.laws_script_calls.specs.reactor_journal.specs.Past.{any_below, ended, is_alive}
use Rattle.laws_script_calls.specs.reactor_journal.specs.Past.{was_opened, was_removed}
use Rattle.laws_script_calls.specs.reactor_journal.specs.Follow.{is_legal}
use Rattle.laws_script_calls.specs.reactor_journal.proofs.Closing.{any_below-some}
use Rattle.laws_script_calls.specs.reactor_summary.specs.Summary.{summary}
use Rattle.laws_script_calls.specs.reactor_summary.specs.Tells.{listed, live_handle}
use Rattle.laws_script_calls.specs.reactor_summary.specs.declared.parts.LiveHandle.{LiveHandle}
use Rattle.laws_script_calls.specs.reactor_summary.proofs.Lists.{any_listed-some, filter-listed}
use Rattle.laws_script_calls.specs.reactor_summary.proofs.Lists.{kept, none_some}
use Rattle.laws_script_calls.specs.reactor_summary.proofs.Reading.{alive_is, live_some}
use Rattle.laws_script_calls.specs.reactor_summary.proofs.Told as summary_told
use Rattle.laws_script_calls.specs.reactor_core.specs.Removing.{AreRemovals, alive_handles}
use Rattle.laws_script_calls.specs.reactor_core.specs.Settling.{IsClosing}
use Rattle.laws_script_calls.specs.event_script.specs.Script.{ScriptGroup}
use Rattle.laws_script_calls.specs.log_handler.specs.declared.note.ServerNote.{ServerNote}
use Rattle.laws_script_calls.specs.laws_script_runs.specs.Runs.{is_closing}
use Rattle.laws_script_serial.specs.Serial.{IsSettledAtOnce, InstallsOnly, WaitsOnly, ClosesUp}
use Rattle.laws_script_serial.specs.Serial.{OnlyClosesUp}
use Rattle.laws_one_worker.proofs.Pushing.{EachPushed}

-- ---- numbers in rising order

-- whether one of the handles has this number
abbrev pub names : ℕ → List LiveHandle → Bool
names x handles = list_any (λ h. h.handle.0 == x) handles

abbrev pub Rising : List LiveHandle → Type 0
Rising [] = Unit {0}
Rising (h ∷ rest) = ((x : ℕ) → names x rest ≡ true → h.handle.0 < x) × Rising rest

rising_last : (hs : List LiveHandle) (a : LiveHandle) → Rising hs
    → ((x : ℕ) → names x hs ≡ true → x < a.handle.0) → Rising (hs ++ a ∷ [])
rising_last [] a r below = (λ x h. absurd (false≢true h), tt)
rising_last (h ∷ hs) a r below = (
  λ x n. ⊎_elim (λ (k : names x hs ≡ true). r.0 x k)
      (λ (k : ((a.handle.0 == x) || false) ≡ true). last x k)
      (or_cases (names x hs) _ (sym (list_any-append (λ h. h.handle.0 == x) hs (a ∷ [])) ∙ n)),
  rising_last hs a r.1 (λ x n. below x (or_right (h.handle.0 == x) (names x hs) n)),
)
  where
    last : (x : ℕ) → ((a.handle.0 == x) || false) ≡ true → h.handle.0 < x
    last x k =
        let same : a.handle.0 ≡ x = ⊎_elim
        (λ (t : (a.handle.0 == x) ≡ true). eqb-true a.handle.0 x t)
        (λ (f : false ≡ true). absurd (false≢true f)) (or_cases (a.handle.0 == x) false k) in
        subst (λ (n : ℕ). h.handle.0 < n) same
        (below h.handle.0 (or_left (h.handle.0 == h.handle.0) (names h.handle.0 hs)
        (eq-eqb h.handle.0 h.handle.0 refl)))

rising_listed : (f : ℕ → Option LiveHandle)
    → ((k : ℕ) (a : LiveHandle) → f k ≡ Some a → a.handle.0 ≡ k) → (n : ℕ) → Rising (listed f n)
rising_listed f at zero = tt
rising_listed f at (suc n) = by_value (rising_listed f at n) (f n) refl
  where
    below : (x : ℕ) → names x (listed f n) ≡ true → x < n
    below x h =
        let r = any_listed-some (λ h. h.handle.0 == x) f n h in
        subst (λ (k : ℕ). k < n) (sym (at r.0 r.1 r.3) ∙ eqb-true r.1.handle.0 x r.4) r.2

    by_value : Rising (listed f n) → (o : Option LiveHandle) → f n ≡ o
        → Rising (listed f n ++ option_to_list o)
    by_value before None is = subst Rising (sym (append-nil (listed f n))) before
    by_value before (Some a) is = rising_last (listed f n) a before
        (λ x h. subst (λ (k : ℕ). x < k) (sym (at n a is)) (below x h))

kept_some : (p : LiveHandle → Bool) (o : Option LiveHandle) (a : LiveHandle) → kept p o ≡ Some a
    → o ≡ Some a
kept_some p None a h = h
kept_some p (Some b) a h = by_test (p b) h
  where
    by_test : (t : Bool) → cond t (Some b) None ≡ Some a → Some b ≡ Some a
    by_test true h = h
    by_test false h = none_some a h

module _ (most : ℕ) (past : List (Entry ServerNote)) (legal : is_legal most past ≡ true) where
  -- the handles that are alive rise
  pub alive_rise : Rising (alive_handles (summary past))
  alive_rise =
      let is = (summary_told.told most past legal).handles in
      subst Rising (sym (ap (filter (λ (h : LiveHandle). h.alive)) is
      ∙ filter-listed (λ (h : LiveHandle). h.alive) (live_handle past)
      (Rattle.laws_script_calls.specs.reactor_journal.specs.Past.opened past)))
      (rising_listed (λ k. kept (λ (h : LiveHandle). h.alive) (live_handle past k))
      (λ k a h. ap (λ (l : LiveHandle). l.handle.0)
      (sym (live_some past k a (kept_some (λ (h : LiveHandle). h.alive) (live_handle past k) a
      h)).1)) (Rattle.laws_script_calls.specs.reactor_journal.specs.Past.opened past))

  names_alive : (x : ℕ) (hs : List LiveHandle)
      → list_any (λ h. h.handle.0 == x && h.alive) hs ≡ true
      → names x (filter (λ h. h.alive) hs) ≡ true
  names_alive x [] h = absurd (false≢true h)
  names_alive x (l ∷ hs) h = by_alive (names_alive x hs) l.alive h
    where
      by_alive : (list_any (λ h. h.handle.0 == x && h.alive) hs ≡ true
          → names x (filter (λ h. h.alive) hs) ≡ true) → (b : Bool)
          → ((l.handle.0 == x && b) || list_any (λ h. h.handle.0 == x && h.alive) hs) ≡ true
          → names x (cond b (l ∷ filter (λ h. h.alive) hs) (filter (λ h. h.alive) hs)) ≡ true
      by_alive rest true h =
          ⊎_elim (λ (t : (l.handle.0 == x && true) ≡ true).
          or_left (l.handle.0 == x) (names x (filter (λ h. h.alive) hs))
          (and_parts (l.handle.0 == x) true t).0)
          (λ (t : list_any (λ h. h.handle.0 == x && h.alive) hs ≡ true).
          or_right (l.handle.0 == x) (names x (filter (λ h. h.alive) hs)) (rest t))
          (or_cases (l.handle.0 == x && true) (list_any (λ h. h.handle.0 == x && h.alive) hs) h)
      by_alive rest false h =
          ⊎_elim (λ (t : (l.handle.0 == x && false) ≡ true).
          absurd (false≢true (and_parts (l.handle.0 == x) false t).1))
          (λ (t : list_any (λ h. h.handle.0 == x && h.alive) hs ≡ true). rest t)
          (or_cases (l.handle.0 == x && false) (list_any (λ h. h.handle.0 == x && h.alive) hs) h)

  -- and are all of them
  pub alive_named : (x : ℕ) → is_alive past x ≡ true → names x (alive_handles (summary past)) ≡ true
  alive_named x h = names_alive x (summary past).handles
      (alive_is most past (summary past) x legal (summary_told.told most past legal) ∙ h)

-- ---- one removal after another

-- nothing was begun last: the run was stopped, or a handler closed
abbrev pub is_shut : List (Entry ServerNote) → Bool
is_shut (Ended ∷ past) = true
is_shut (Closed handle said ∷ past) = true
is_shut _ = false

module _ (most : ℕ) (idle : Option ℕ) (groups : List ScriptGroup) where
  -- an entry after the end
  pub record Winds (past : List (Entry ServerNote)) (e : Entry ServerNote) : Type 0 where
    pub settles : IsSettledAtOnce past e
    pub installs : InstallsOnly most idle past e
    pub waits : WaitsOnly groups past e
    pub removes : ClosesUp past e
    pub closes : OnlyClosesUp past e

  removes_next : (past : List (Entry ServerNote)) (handle : Handle) → is_shut past ≡ true
      → ended past ≡ true → any_below handle.0 (is_alive past) ≡ false → Winds past (Removed handle)
  removes_next [] handle shut over none = absurd (false≢true shut)
  removes_next (Ended ∷ past) handle shut over none =
      record {
        settles = tt;
        installs = refl;
        waits = tt;
        removes = (over, none);
        closes = λ o. refl;
      }
  removes_next (Closed other said ∷ past) handle shut over none =
      record {
        settles = tt;
        installs = refl;
        waits = tt;
        removes = (over, none);
        closes = λ o. refl;
      }
  removes_next (_ ∷ past) handle shut over none = absurd (false≢true shut)

  closes_next : (past : List (Entry ServerNote)) (handle : Handle) (said : ServerNote)
      → Winds (Removed handle ∷ past) (Closed handle said)
  closes_next past handle said = record {
    settles = tt;
    installs = refl;
    waits = tt;
    removes = tt;
    closes = refl;
  }

  -- those who are alive after the removal of the first were so before, and are others
  record StillAlive (past : List (Entry ServerNote)) (first x : ℕ) : Type 0 where
    before : is_alive past x ≡ true
    other : (first == x) ≡ false

  still_alive : (past : List (Entry ServerNote)) (handle : Handle) (said : ServerNote) (x : ℕ)
      → is_alive (Closed handle said ∷ (Removed handle ∷ past)) x ≡ true
      → StillAlive past handle.0 x
  still_alive past handle said x h =
      let parts = and_parts (was_opened past x) (not ((handle.0 == x) || was_removed past x)) h in
      let none = or_parts (handle.0 == x) (was_removed past x) (not-true _ parts.1) in
      record {
        before = and_from (was_opened past x) (not (was_removed past x)) parts.0
            (ap not none.1);
        other = none.0;
      }

  none_lower : (past : List (Entry ServerNote)) (h : LiveHandle) (rest : List LiveHandle)
      → Rising (h ∷ rest) → ((x : ℕ) → is_alive past x ≡ true → names x (h ∷ rest) ≡ true)
      → any_below h.handle.0 (is_alive past) ≡ false
  none_lower past h rest r all =
      ⊎_elim (λ (t : any_below h.handle.0 (is_alive past) ≡ true). absurd (some t))
      (λ (f : any_below h.handle.0 (is_alive past) ≡ false). f)
      (cases_Bool (any_below h.handle.0 (is_alive past)))
    where
      lower : (x : ℕ) → x < h.handle.0 → names x (h ∷ rest) ≡ true → ⊥
      lower x lt n =
          ⊎_elim (λ (t : (h.handle.0 == x) ≡ true). not_itself x lt (eqb-true h.handle.0 x t))
          (λ (t : names x rest ≡ true). not_above x lt (r.0 x t))
          (or_cases (h.handle.0 == x) (names x rest) n)
        where
          not_itself : (x : ℕ) → x < h.handle.0 → h.handle.0 ≡ x → ⊥
          not_itself x lt e = omega arith

          not_above : (x : ℕ) → x < h.handle.0 → h.handle.0 < x → ⊥
          not_above x lt gt = omega arith

      some : any_below h.handle.0 (is_alive past) ≡ true → ⊥
      some t = let s = any_below-some h.handle.0 (is_alive past) t in lower s.0 s.1 (all s.0 s.2)

  -- the removals of all that are alive
  pub record WindsUp (past es : List (Entry ServerNote)) : Type 0 where
    pub each : EachPushed Winds past es
    pub closing : list_all is_closing es ≡ true

  pub winds_up : (busy : ℕ → Bool) (hs : List LiveHandle) (past es : List (Entry ServerNote))
      → AreRemovals busy hs es → ((x : ℕ) → busy x ≡ false) → Rising hs
      → ((x : ℕ) → is_alive past x ≡ true → names x hs ≡ true) → ended past ≡ true
      → is_shut past ≡ true → WindsUp past es
  winds_up busy [] past es are idle r all over shut =
      subst (WindsUp past) (sym are) (record { each = tt; closing = refl })
  winds_up busy (h ∷ hs) past es are idle r all over shut =
      let c : IsClosing true h.handle are.0 =
      subst (λ (b : Bool). IsClosing (not b) h.handle are.0) (idle h.handle.0) are.2 in
      subst (WindsUp past) (sym (are.4 ∙ ap
      (λ (closing : List (Entry ServerNote)). Removed h.handle ∷ (closing ++ are.1)) c.1))
      (more c.0 (winds_up busy hs (Closed h.handle c.0 ∷ (Removed h.handle ∷ past)) are.1 are.3 idle
      r.1 (later c.0) over refl))
    where
      later : (said : ServerNote) (x : ℕ)
          → is_alive (Closed h.handle said ∷ (Removed h.handle ∷ past)) x ≡ true → names x hs ≡ true
      later said x a =
          let s = still_alive past h.handle said x a in
          ⊎_elim (λ (t : (h.handle.0 == x) ≡ true). absurd (both_ways (h.handle.0 == x) s.other t))
          (λ (t : names x hs ≡ true). t) (or_cases (h.handle.0 == x) (names x hs)
          (all x s.before))

      more : (said : ServerNote) → WindsUp (Closed h.handle said ∷ (Removed h.handle ∷ past)) are.1
          → WindsUp past (Removed h.handle ∷ (Closed h.handle said ∷ are.1))
      more said w = record {
        each = (
          removes_next past h.handle shut over
              (none_lower past h hs r all),
          (closes_next past h.handle said, w.each),
        );
        closing = w.closing;
      }
