-- That a reactor may be taken apart once no upcall is on its way.
use Rattle.std.proofs.Common.{ℕ, ◌≡◌, Bool, true, false, List, [], ◌∷◌, ◌++◌, refl, sym, ap, ◌∙◌}
use Rattle.std.proofs.Common.{arith, cond, Some, None}
use Rattle.std.specs.Prelude.{if◌then◌else◌, option_map}
use Rattle.ev_base.specs.Terms.{Terms}
use Rattle.demux.specs.declared.play_end.PlayEnd.{PlayEnd}
use Rattle.timer_queue.specs.Content.{Content}
use Rattle.reactor_model.specs.reactor_journal.specs.declared.entry.Entry.{Entry}
use Rattle.reactor_model.specs.reactor_journal.specs.declared.entry.Entry.TheVariants.{Ended}
use Rattle.reactor_model.specs.reactor_journal.specs.Follow.{is_legal}
use Rattle.reactor_model.specs.reactor_journal.specs.Past.{past_of, is_open, event_at}
use Rattle.reactor_core.specs.reactor_summary.specs.Summary.{Summary, step, summary}
use Rattle.reactor_core.specs.reactor_summary.specs.Tells.{Each, as_open, open_event}
use Rattle.reactor_core.specs.reactor_summary.specs.declared.parts.OpenEvent.{OpenEvent}
use Rattle.reactor_core.specs.reactor_summary.proofs.Told.{told}
use Rattle.reactor_core.specs.laws_turns.specs.Opens.{open_events}
use Rattle.reactor_core.specs.list_lemmas.specs.Times.{times}
use Rattle.reactor_core.specs.laws_turns.proofs.Opens.{opens_are}
use Rattle.reactor_model.specs.declared.watch.NoWatch.{NoWatch}
use Rattle.reactor_core.specs.Beginning.{IsShutDown}
use Rattle.reactor_core.specs.Removing.{StopsOnce}
use Rattle.reactor_core.specs.Stands.{Meaning, Stands, StandsWith}
use Rattle.reactor_core.specs.declared.reactor.Core.{Core}
use Rattle.reactor_core.proofs.Over.{none_live}
use Rattle.core_loop.proofs.Keeping.{Keeps, sum, sum_more, keeps_removals}
use Rattle.test_pool.specs.declared.member.Member.{Member}

-- an event that is not open has no entry among the open ones
not_open : (past : List (Entry ℕ)) (i : ℕ) (b : Bool) (o : OpenEvent) → b ≡ false
    → (if b then option_map (as_open past i) (event_at past i) else None) ≡ Some o → ⊥
not_open past i true o is found = cc
not_open past i false o is found = cc

closed_is : (b : Bool) → ◌≡◌ {A = ℕ} (cond b 1 0) 0 → b ≡ false
closed_is true is = absurd (omega (arith, is))
closed_is false is = refl

none_of : (past : List (Entry ℕ)) (opens : List OpenEvent) → ((i : ℕ) → is_open past i ≡ false)
    → Each (λ (o : OpenEvent). open_event past o.event ≡ Some o) opens → opens ≡ []
none_of past [] closed each = refl
none_of past (o ∷ opens) closed each =
    absurd (not_open past o.event (is_open past o.event) o (closed o.event) each.0)

pub none_open : (most : ℕ) (past : List (Entry ℕ)) → is_legal most past ≡ true
    → ((e : ℕ) → times e (open_events past) ≡ 0) → (summary past).opens ≡ []
none_open most past legal closed =
    none_of past (summary past).opens (λ i.
    closed_is (is_open past i) (sym (opens_are most past i legal) ∙ closed i))
    (told most past legal).opens

module _ {M V : Type 0} (m : Meaning Member M Content NoWatch V ℕ PlayEnd) (t : Terms) (F : ℕ) where
  over : (core : Core Member M Content NoWatch V ℕ PlayEnd) (h : List (Entry ℕ))
      → Stands m t core F h → (sum h).opens ≡ [] → (sum h).ended ≡ true
      → StandsWith m (λ t h. IsShutDown (summary (past_of h))) core
  over core h st none ended = (
    t,
    F,
    h,
    st,
    record {
      ended = ended;
      none_live =
          none_live (sum h).handles (sum h).opens none (st.settled.none_alive ended)
          st.settled.none_waits;
    },
  )

  pub stopped : (core : Core Member M Content NoWatch V ℕ PlayEnd) (h : List (Entry ℕ)) (b : Bool)
      → (sum h).opens ≡ [] → (sum h).ended ≡ b → StopsOnce m t F h core b
      → StandsWith m (λ t h. IsShutDown (summary (past_of h))) core
  stopped core h true none is st = over core h st none is
  stopped core h false none is st =
      let e : sum (h ++ Ended ∷ []) ≡ step {N = ℕ} (sum h) Ended = sum_more h Ended in
      let k : Keeps (h ++ Ended ∷ []) st.entries =
      keeps_removals (h ++ Ended ∷ []) _ _ st.entries st.removals in
      over core ((h ++ Ended ∷ []) ++ st.entries) st.stands
      (k.opens ∙ (ap (λ (s : Summary). s.opens) e ∙ none))
      (k.ended (ap (λ (s : Summary). s.ended) e))
