-- The journal of one worker over a script, without an idle time, is short.
use Rattle.std.proofs.Common.{ℕ, suc, ◌≡◌, ◌∙◌, ◌+◌, ◌*◌, ◌/◌, ◌≤◌, inl, cond, Bool, true, false}
use Rattle.std.proofs.Common.{List, [], ◌∷◌, ◌++◌, length, Option, None, refl, sym, ap, arith}
use Rattle.std.proofs.Common.{length-append}
use Rattle.std.specs.List.{list_any}
use Rattle.std.proofs.lemmas.Bool.{or_parts, or_from}
use Rattle.std.proofs.lemmas.List.{length-reverse, length-map}
use Rattle.laws_one_worker.specs.reactor_journal.specs.declared.entry.Entry.{Entry}
use Rattle.laws_one_worker.specs.reactor_journal.specs.declared.entry.Entry.TheVariants.{Scheduled}
use Rattle.laws_one_worker.specs.reactor_journal.specs.declared.entry.Entry.TheVariants.{Cancelled}
use Rattle.laws_one_worker.specs.reactor_journal.specs.declared.entry.Entry.TheVariants.{Due}
use Rattle.laws_one_worker.specs.reactor_journal.specs.declared.entry.Entry.TheVariants.{Posted}
use Rattle.laws_one_worker.specs.reactor_journal.specs.declared.entry.Entry.TheVariants.{Stale}
use Rattle.laws_one_worker.specs.reactor_journal.specs.declared.entry.Entry.TheVariants.{Masked}
use Rattle.laws_one_worker.specs.reactor_journal.specs.declared.entry.Entry.TheVariants.{Suspended}
use Rattle.laws_one_worker.specs.reactor_journal.specs.declared.entry.Entry.TheVariants.{Resumed}
use Rattle.laws_one_worker.specs.reactor_journal.specs.declared.entry.Entry.TheVariants.{Removed}
use Rattle.laws_one_worker.specs.reactor_journal.specs.declared.entry.Entry.TheVariants.{Ended}
use Rattle.laws_one_worker.specs.reactor_journal.specs.Past.{past_of, count}
use Rattle.laws_one_worker.specs.reactor_journal.specs.Past.{is_opened, is_closed}
use Rattle.laws_one_worker.specs.reactor_journal.specs.Past.{is_ended}
use Rattle.laws_one_worker.specs.reactor_journal.proofs.Turning.{count-append}
use Rattle.laws_one_worker.specs.reactor_core.specs.Stands.{Meaning}
use Rattle.laws_one_worker.specs.reactor_desk.specs.declared.terms.DeskTerms.{DeskTerms}
use Rattle.laws_one_worker.specs.tp_reactor.specs.declared.working.Ran.{Ran}
use Rattle.laws_one_worker.specs.acceptor.specs.Servers.{ServerMay, is_accepted as says_accepted}
use Rattle.laws_one_worker.specs.event_script.specs.Script.{ScriptStep, Opens, Brings, Shuts, Fails}
use Rattle.laws_one_worker.specs.event_script.specs.Script.{ListenerFails, ScriptGroup, steps_of}
use Rattle.laws_one_worker.specs.event_script.specs.Script.{groups_told, report_step}
use Rattle.laws_one_worker.specs.event_script.specs.Script.{opened as opened_in}
use Rattle.laws_one_worker.specs.log_handler.specs.declared.note.ServerNote.{ServerNote}
use Rattle.laws_one_worker.specs.laws_script_runs.specs.Connections.{accepts, accepted}
use Rattle.laws_one_worker.specs.laws_script_runs.specs.Runs.{is_refusal}
use Rattle.laws_one_worker.specs.laws_script_runs.specs.Steps.{EachStep}
use Rattle.laws_one_worker.specs.laws_script_runs.proofs.ByTurns.{TurnsBefore}
use Rattle.laws_one_worker.specs.laws_script_runs.proofs.Numbering.{IsNumbered, balanced}
use Rattle.laws_one_worker.specs.laws_script_runs.proofs.Winding as winding
use Rattle.laws_one_worker.specs.laws_script_serial.specs.Serial.{is_foreign, is_over_here}
use Rattle.laws_one_worker.specs.Alone.{RunsAlone}
use Rattle.laws_one_worker.proofs.Pushing.{none_placed}
use Rattle.laws_one_worker.proofs.Ends as ends
use Rattle.laws_one_worker.proofs.Installing as installing
use Rattle.laws_journal_length.specs.Few.{all_bytes, quiet_groups, has_no_step}
use Rattle.laws_journal_length.proofs.EntryKinds.{is_polled, is_ready, is_started, is_returned}
use Rattle.laws_journal_length.proofs.EntryKinds.{is_again, is_absent, kinds, none_counted}
use Rattle.laws_journal_length.proofs.Telling.{steps_left, steps_told, waits_told}
use Rattle.laws_journal_length.proofs.Starting.{is_other, starts_few}
use Rattle.laws_journal_length.proofs.Reading.{all_reads}
use Rattle.laws_journal_length.proofs.Agains.{accepted_few, agains_few}
use Rattle.laws_journal_length.proofs.Counting.{is_timer_set, is_due, NoTimers, no_timers, untimed}
use Rattle.laws_journal_length.proofs.Counting.{none_set, returned_few, closed_few, wound_few}

-- ---- the script

-- the reads of a script, and its connections, against its steps and bytes
reads_bytes : (steps : List ScriptStep)
    → 4096 * (opened_in steps + all_reads steps) ≤ 4096 * length steps + all_bytes steps
reads_bytes [] = omega arith
reads_bytes (Opens conn ∷ steps) = let rest = reads_bytes steps in omega (arith, rest)
reads_bytes (Brings conn bytes ∷ steps) = let rest = reads_bytes steps in omega (arith, rest)
reads_bytes (Shuts conn ∷ steps) = let rest = reads_bytes steps in omega (arith, rest)
reads_bytes (Fails conn ∷ steps) = let rest = reads_bytes steps in omega (arith, rest)
reads_bytes (ListenerFails ∷ steps) = let rest = reads_bytes steps in omega (arith, rest)

opened_steps : (steps : List ScriptStep) → opened_in steps ≤ length steps
opened_steps [] = omega arith
opened_steps (Opens conn ∷ steps) = let rest = opened_steps steps in omega (arith, rest)
opened_steps (_ ∷ steps) = let rest = opened_steps steps in omega (arith, rest)

quarter : (a t b : ℕ) → 4096 * a ≤ 4096 * t + b → 4 * a ≤ 4 * t + b / 1024
quarter a t b h = omega (arith, h)

steps_in : (groups : List ScriptGroup) → steps_left (groups_told groups) ≡ length (steps_of groups)
steps_in [] = refl
steps_in (group ∷ groups) =
    let rest = steps_in groups in
    let both = length-append group.steps (steps_of groups) in
    let same = length-map group.steps report_step in
    omega (arith, rest, both, same)

groups_in : (groups : List ScriptGroup)
    → length (groups_told groups) ≤ length (steps_of groups) + quiet_groups groups
groups_in [] = omega arith
groups_in (group ∷ groups) = by_steps group.steps (groups_in groups)
    (length-append group.steps (steps_of groups))
  where
    by_steps : (steps : List ScriptStep)
        → length (groups_told groups) ≤ length (steps_of groups) + quiet_groups groups
        → length (steps ++ steps_of groups) ≡ length steps + length (steps_of groups)
        → suc (length (groups_told groups))
        ≤ length (steps ++ steps_of groups)
        + cond (has_no_step steps) (suc (quiet_groups groups)) (quiet_groups groups)
    by_steps [] rest both = omega (arith, rest)
    by_steps (step ∷ steps) rest both = omega (arith, rest, both)

-- ---- small facts

present : (e : Entry ServerNote) → is_foreign e ≡ false → is_timer_set e ≡ false → is_due e ≡ false
    → winding.removes e ≡ false → is_ended e ≡ false → is_absent e ≡ false
present (Scheduled timer handle first every) f t d r n = t
present (Due timer) f t d r n = d
present (Removed handle) f t d r n = r
present Ended f t d r n = n
present (Cancelled timer) f t d r n = f
present (Posted handle kind from seq) f t d r n = f
present (Stale handle from seq) f t d r n = f
present (Masked handle mask) f t d r n = f
present (Suspended handle) f t d r n = f
present (Resumed handle) f t d r n = f
present _ f t d r n = refl

not_other : (e : Entry ServerNote) → is_absent e ≡ false → is_other e ≡ false
not_other (Due timer) h = h
not_other (Posted handle kind from seq) h = h
not_other _ h = refl

none_other : (past : List (Entry ServerNote)) → list_any is_absent past ≡ false
    → list_any is_other past ≡ false
none_other [] none = refl
none_other (e ∷ past) none = let parts = or_parts (is_absent e) (list_any is_absent past) none in
    or_from _ _ (not_other e parts.0) (none_other past parts.1)

registered_few : (may : _) (past : List (Entry ServerNote)) (next : Option (Entry ServerNote))
    → EachStep IsNumbered past → TurnsBefore may says_accepted 1 past next
    → count is_opened past + count is_refusal past ≤ accepted past + 1
registered_few may [] next n turns = omega arith
registered_few may (d ∷ past) next n turns = let b = (balanced may d past next n turns).total in
    omega (arith, b)

at_most_one : (b : Bool) → cond {A = ℕ} b 1 0 ≤ 1
at_most_one true = omega arith
at_most_one false = omega arith

-- the sum
sum : (steps reads opens groups bytes quiet opened_ refused polled ready started returned closed
    again accepted_ wound run journal : ℕ)
    → opened_ + refused ≤ accepted_ + 1 → accepted_ ≤ opens → opens ≤ steps → again ≤ opens + reads
    → 4096 * (opens + reads) ≤ 4096 * steps + bytes → groups ≤ steps + quiet
    → started ≤ ready + again → ready ≤ steps → polled ≤ steps + groups + started + 1
    → returned ≤ started → closed ≤ returned → wound ≤ 2 * opened_
    → run ≡ opened_ + refused + polled + ready + started + returned + closed
    → journal ≡ run + (1 + wound) → journal ≤ 16 * steps + bytes / 1024 + quiet + 200
sum steps reads opens groups bytes quiet opened_ refused polled ready started returned closed again
    accepted_ wound run journal a b c d e f g h i j k l n o =
    let quarters = quarter (opens + reads) steps bytes e in
    omega (arith, a, b, c, d, f, g, h, i, j, k, l, n, o, quarters)

module _ {H M Q W V E : Type 0} (m : Meaning H M Q W V ServerNote E) (q : DeskTerms) (ran : Ran)
    (groups : List ScriptGroup) (journal : List (Entry ServerNote))
    (r : RunsAlone m q ran None groups journal) where
  abbrev run : List (Entry ServerNote)
  run = past_of r.run

  abbrev most : ℕ
  most = q.run.most

  abbrev steps : List ScriptStep
  steps = steps_of groups

  abbrev removals : List (Entry ServerNote)
  removals = ends.removals m q ran None groups journal r

  none_timed : list_any is_timer_set run ≡ false
  none_timed = none_set most run (installing.installs m q ran None groups journal r)

  timers : NoTimers run
  timers = no_timers most run (ends.legal_run m q ran None groups journal r) none_timed

  none_absent : list_any is_absent run ≡ false
  none_absent = none_placed is_absent run [] run refl (λ later e before is.
      present e (installing.familiar m q ran None groups journal r later e before is)
      (winding.none_at is_timer_set later e before
      (sym (ap (list_any is_timer_set) is) ∙ none_timed))
      (winding.none_at is_due later e before (sym (ap (list_any is_due) is) ∙ timers.due))
      (installing.removes_at m q ran None groups journal r later e before is)
      (winding.none_at is_ended later e before
      (sym (ap (list_any is_ended) is) ∙ ends.going m q ran None groups journal r)))

  in_all : (p : Entry ServerNote → Bool)
      → count p run ≤ count p (ends.all m q ran None groups journal r)
  in_all p =
      let parts : count p (ends.all m q ran None groups journal r)
      ≡ count p ((ends.wound m q ran None groups journal r ++ Ended ∷ []) ++ run) =
      ap (count p) (ends.whole_run m q ran None groups journal r) in
      let both = count-append p (ends.wound m q ran None groups journal r ++ Ended ∷ []) run in
      omega (arith, parts, both)

  opens : count is_opened run + count is_refusal run ≤ count accepts run + 1
  opens = registered_few (ServerMay q.run) run None (ends.numbered m q ran None groups journal r)
      (ends.turned_run m q ran None groups journal r)

  accepts_few : count accepts run ≤ opened_in steps
  accepts_few =
      let all = accepted_few m q ran None groups journal r in
      let here = in_all accepts in
      omega (arith, all, here)

  again_few : count is_again run ≤ opened_in steps + all_reads steps
  again_few =
      let all = agains_few m q ran None groups journal r in
      let here = in_all is_again in
      omega (arith, all, here)

  started_few : count is_started run ≤ count is_ready run + count is_again run
  started_few =
      let starts = starts_few most run (ends.legal_run m q ran None groups journal r) in
      let none = none_counted is_other run (none_other run none_absent) in
      omega (arith, starts, none)

  ready_few : count is_ready run ≤ length steps
  ready_few =
      let told = steps_told groups most run [] (ends.legal_run m q ran None groups journal r)
      (untimed groups most run (ends.legal_run m q ran None groups journal r) none_timed)
      (inl refl) (ends.follows_run m q ran None groups journal r) in
      let all = steps_in groups in
      omega (arith, told, all)

  polled_few : count is_polled run ≤ length steps + length (groups_told groups)
      + count is_started run + 1
  polled_few =
      let told = waits_told groups most run (ends.legal_run m q ran None groups journal r)
      (untimed groups most run (ends.legal_run m q ran None groups journal r) none_timed)
      (ends.ready m q ran None groups journal r).each in
      let all = steps_in groups in
      let one = at_most_one (is_over_here groups run) in
      omega (arith, told, all, one)

  journal_length : length journal ≡ length run + (1 + length removals)
  journal_length =
      let whole : length journal ≡ length (r.run ++ Ended ∷ removals) =
      ap length (ends.journal_is m q ran None groups journal r) in
      let both = length-append r.run (Ended ∷ removals) in
      let back = length-reverse r.run in
      omega (arith, whole, both, back)

  pub short : length journal ≤ 16 * length steps + all_bytes steps / 1024 + quiet_groups groups
      + 200
  short =
      sum (length steps) (all_reads steps) (opened_in steps) (length (groups_told groups))
      (all_bytes steps) (quiet_groups groups) (count is_opened run) (count is_refusal run)
      (count is_polled run) (count is_ready run)
      (count is_started run) (count is_returned run) (count is_closed run) (count is_again run)
      (count accepts run) (length removals) (length run) (length journal) opens accepts_few
      (opened_steps steps) again_few (reads_bytes steps)
      (groups_in groups) started_few ready_few polled_few
      (returned_few most run (ends.legal_run m q ran None groups journal r)
      (ends.settled m q ran None groups journal r))
      (closed_few groups run (ends.ready m q ran None groups journal r).each)
      (wound_few most run _ removals (ends.legal_run m q ran None groups journal r)
      (ends.stopped m q ran None groups journal r).1) (kinds run none_absent) journal_length
