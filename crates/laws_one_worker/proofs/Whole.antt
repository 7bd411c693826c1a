-- The run of one worker that ended with Over is the serial journal of its script.
use Rattle.std.proofs.Common.{ℕ, ◌≡◌, ◌∙◌, true, false, List, [], ◌∷◌, Option, Some, refl, sym}
use Rattle.std.proofs.Common.{subst, ap}
use Rattle.std.specs.List.{list_any, list_all}
use Rattle.std.proofs.lemmas.Bool.{false≢true, and_parts, or_from}
use Rattle.std.proofs.lemmas.List.{reverse-reverse}
use Rattle.laws_script_calls.specs.reactor_journal.specs.declared.entry.Entry.{Entry}
use Rattle.laws_script_calls.specs.reactor_journal.specs.declared.entry.Entry.TheVariants.{Polled}
use Rattle.laws_script_calls.specs.reactor_journal.specs.declared.entry.Entry.TheVariants.{Due}
use Rattle.laws_script_calls.specs.reactor_journal.specs.declared.entry.Entry.TheVariants.{Ready}
use Rattle.laws_script_calls.specs.reactor_journal.specs.declared.entry.Entry.TheVariants.{Removed}
use Rattle.laws_script_calls.specs.reactor_journal.specs.declared.entry.Entry.TheVariants.{Closed}
use Rattle.laws_script_calls.specs.reactor_journal.specs.declared.entry.Entry.TheVariants.{Ended}
use Rattle.laws_script_calls.specs.reactor_journal.specs.Past.{past_of}
use Rattle.laws_script_calls.specs.reactor_journal.specs.Follow.{follows_ready}
use Rattle.laws_script_calls.specs.reactor_core.specs.Stands.{Meaning}
use Rattle.tp_reactor.specs.reactor_desk.specs.declared.terms.DeskTerms.{DeskTerms}
use Rattle.tp_reactor.specs.declared.working.Ran.TheVariants as ran
use Rattle.laws_script_calls.specs.event_script.specs.Script.{ScriptGroup}
use Rattle.laws_script_calls.specs.log_handler.specs.declared.note.ServerNote.{ServerNote}
use Rattle.laws_script_calls.specs.laws_script_runs.specs.Runs.{is_closing}
use Rattle.laws_script_calls.specs.laws_script_runs.specs.Steps.{EachStep}
use Rattle.laws_script_calls.specs.laws_script_runs.proofs.Winding as winding
use Rattle.laws_script_serial.specs.Serial.{Serial, IsSettledAtOnce, InstallsOnly, WaitsOnly}
use Rattle.laws_script_serial.specs.Serial.{ClosesUp, OnlyClosesUp, is_foreign, is_over_here}
use Rattle.laws_one_worker.specs.Alone.{RunsAlone}
use Rattle.laws_one_worker.proofs.Pushing.{pushed, past_pushed, EachPushed, each_pushed, each_map}
use Rattle.laws_one_worker.proofs.Pushing.{each_place, none_placed}
use Rattle.laws_one_worker.proofs.Stepping.{settles_free, Steps, over_here}
use Rattle.laws_one_worker.proofs.Removing.{Winds}
use Rattle.laws_one_worker.proofs.Installing as installing
use Rattle.tp_reactor.specs.reactor_desk.specs.Leading.{IsOver}
use Rattle.laws_one_worker.proofs.Rounds.{Idle, is_over_named, loop_over}
use Rattle.laws_one_worker.proofs.Ends as ends

-- what stands after a wait that came to nothing
ends_installing : (most : ℕ) (idle : Option ℕ) (past : List (Entry ServerNote))
    → follows_ready past ≡ true → InstallsOnly most idle past Ended
ends_installing most idle [] ready = absurd (false≢true ready)
ends_installing most idle (Polled moment ∷ past) ready = refl
ends_installing most idle (Due timer ∷ past) ready = refl
ends_installing most idle (Ready handle kind ∷ past) ready = refl
ends_installing most idle (_ ∷ past) ready = absurd (false≢true ready)

-- it removes no handler
removes_nothing : (past : List (Entry ServerNote)) (e : Entry ServerNote)
    → winding.removes e ≡ false → ClosesUp past e
removes_nothing past (Removed handle) none = absurd (false≢true (sym none))
removes_nothing past _ none = tt

familiar_closing : (e : Entry ServerNote) → is_closing e ≡ true → is_foreign e ≡ false
familiar_closing (Removed handle) h = refl
familiar_closing (Closed handle said) h = refl
familiar_closing _ h = absurd (false≢true h)

familiar_all : (es : List (Entry ServerNote)) → list_all is_closing es ≡ true
    → list_any is_foreign es ≡ false
familiar_all [] h = refl
familiar_all (e ∷ es) h = let parts = and_parts (is_closing e) (list_all is_closing es) h in
    or_from _ _ (familiar_closing e parts.0) (familiar_all es parts.1)

pushed_map : (P Q : List (Entry ServerNote) → Entry ServerNote → Type 0)
    → ((past : List (Entry ServerNote)) (e : Entry ServerNote) → P past e → Q past e)
    → (past es : List (Entry ServerNote)) → EachPushed P past es → EachPushed Q past es
pushed_map P Q f past [] each = tt
pushed_map P Q f past (e ∷ es) each = (f past e each.0, pushed_map P Q f (e ∷ past) es each.1)

module _ {H M Q W V E : Type 0} (m : Meaning H M Q W V ServerNote E) (q : DeskTerms)
    (idle : Option ℕ) (groups : List ScriptGroup) (journal : List (Entry ServerNote))
    (r : RunsAlone m q ran.Over idle groups journal) where
  abbrev most : ℕ
  most = q.run.most

  abbrev past : List (Entry ServerNote)
  past = past_of r.run

  -- what the last lead left
  last : Idle m q groups r.limit r.offers_are r.names r.plays IsOver r.run
  last = loop_over m q groups r.limit r.offers_are r.names r.plays r.run r.alone
      (ends.front m q ran.Over idle groups journal r)

  over : is_over_here groups past ≡ true
  over = over_here groups past (Some last.answer) last.waited
      ∙ is_over_named last.answer last.found last.named last.is

  -- ---- the run

  settles : EachStep IsSettledAtOnce past
  settles = ends.settled m q ran.Over idle groups journal r

  removes : EachStep ClosesUp past
  removes = each_place ClosesUp past [] past refl
      (λ later e before is. removes_nothing before e
      (installing.removes_at m q ran.Over idle groups journal r later e before is))

  closes : EachStep OnlyClosesUp past
  closes = installing.closes m q ran.Over idle groups journal r

  waits : EachStep (WaitsOnly groups) past
  waits = each_map (Steps groups) (WaitsOnly groups) (λ before e s. s.waits) past last.waited.each

  installs : EachStep (InstallsOnly most idle) past
  installs = installing.installs m q ran.Over idle groups journal r

  -- ---- its winding up

  past_is : past_of journal ≡ pushed past (Ended ∷ ends.removals m q ran.Over idle groups journal r)
  past_is = ap past_of (ends.journal_is m q ran.Over idle groups journal r)
      ∙ past_pushed r.run (Ended ∷ ends.removals m q ran.Over idle groups journal r)

  -- an entry after the end is so in each way
  both : (P : List (Entry ServerNote) → Entry ServerNote → Type 0) → EachStep P past → P past Ended
      → ((before : List (Entry ServerNote)) (e : Entry ServerNote) → Winds most idle groups before e
      → P before e) → EachStep P (past_of journal)
  both P run end wound =
      subst (EachStep P) (sym past_is)
      (each_pushed P past (Ended ∷ ends.removals m q ran.Over idle groups journal r) run (
        end,
        pushed_map (Winds most idle groups) P wound (Ended ∷ past)
            (ends.removals m q ran.Over idle groups journal r)
            (ends.winds m q ran.Over idle groups journal r).each,
      ))

  kinds : list_any is_foreign journal ≡ false
  kinds =
      ap (list_any is_foreign) (ends.journal_is m q ran.Over idle groups journal r)
      ∙ winding.any_append is_foreign r.run
      (Ended ∷ ends.removals m q ran.Over idle groups journal r)
      (ap (list_any is_foreign) (sym (reverse-reverse r.run))
      ∙ winding.any_reverse is_foreign past
      (none_placed is_foreign past [] past refl
      (installing.familiar m q ran.Over idle groups journal r)))
      (familiar_all (ends.removals m q ran.Over idle groups journal r)
      (ends.winds m q ran.Over idle groups journal r).closing)

  pub serial : Serial most idle groups journal
  serial = record {
    legal = r.whole.legal;
    follows = r.follows;
    stopped = r.whole.stopped;
    kinds = kinds;
    settles = both IsSettledAtOnce settles (settles_free past Ended last.waited.free)
        (λ before e w. w.settles);
    installs = both (InstallsOnly most idle) installs
        (ends_installing most idle past last.waited.ready) (λ before e w. w.installs);
    waits = both (WaitsOnly groups) waits (last.spent, over) (λ before e w. w.waits);
    removes = both ClosesUp removes tt (λ before e w. w.removes);
    closes = both OnlyClosesUp closes (installing.closes_nothing past Ended
        (ends.keeps m q ran.Over idle groups journal r)
        (ends.going m q ran.Over idle groups journal r)) (λ before e w. w.closes);
    closed = r.whole.closed;
    turns = r.turns;
  }
