-- The entries of a loop of one worker, and where the loop stands between two of its rounds.
use Rattle.std.proofs.Common.{ℕ, ◌≡◌, ◌∙◌, Bool, true, false, ◌&&◌, List, [], ◌∷◌, Option, Some}
use Rattle.std.proofs.Common.{refl, ap}
use Rattle.std.specs.List.{list_all}
use Rattle.std.proofs.lemmas.Bool.{false≢true, and_parts, both_ways}
use Rattle.laws_script_calls.specs.ev_types.specs.declared.upcall.Answer.TheVariants.{Close}
use Rattle.laws_script_calls.specs.reactor_journal.specs.declared.entry.Entry.{Entry}
use Rattle.laws_script_calls.specs.reactor_journal.specs.declared.entry.Entry.TheVariants.{Polled}
use Rattle.laws_script_calls.specs.reactor_journal.specs.declared.entry.Entry.TheVariants.{Due}
use Rattle.laws_script_calls.specs.reactor_journal.specs.declared.entry.Entry.TheVariants.{Ready}
use Rattle.laws_script_calls.specs.reactor_journal.specs.declared.entry.Entry.TheVariants.{Started}
use Rattle.laws_script_calls.specs.reactor_journal.specs.declared.entry.Entry.TheVariants.{Returned}
use Rattle.laws_script_calls.specs.reactor_journal.specs.declared.entry.Entry.TheVariants.{Closed}
use Rattle.laws_script_calls.specs.reactor_journal.specs.declared.entry.Entry.TheVariants.{Ended}
use Rattle.laws_script_calls.specs.reactor_journal.specs.Past.{is_closed}
use Rattle.laws_script_calls.specs.reactor_journal.specs.Follow.{follows_ready}
use Rattle.laws_script_calls.specs.event_script.specs.Script.{ScriptGroup, groups_told}
use Rattle.laws_script_calls.specs.log_handler.specs.declared.note.ServerNote.{ServerNote}
use Rattle.laws_script_calls.specs.ev_base.specs.declared.net.Waited.{Waited as WaitAnswer}
use Rattle.laws_script_calls.specs.ev_base.specs.Playing.{waited}
use Rattle.laws_script_calls.specs.laws_script_told.specs.Told.{last_wait, is_over, told}
use Rattle.laws_script_calls.specs.laws_script_told.specs.Told.{time_left_in}
use Rattle.laws_script_calls.specs.laws_script_runs.specs.Steps.{EachStep}
use Rattle.laws_script_serial.specs.Serial.{IsSettledAtOnce, WaitsOnly, IsSpent, is_over_here}
use Rattle.laws_one_worker.proofs.Pushing.{pushed}

-- no upcall was started last, and no handler ended itself last
abbrev pub is_free : List (Entry ServerNote) → Bool
is_free (Started event ∷ past) = false
is_free (Returned event Close said ∷ past) = false
is_free _ = true

-- what a lead appends
abbrev pub is_leading : Entry ServerNote → Bool
is_leading (Polled moment) = true
is_leading (Due timer) = true
is_leading (Ready handle kind) = true
is_leading (Started event) = true
is_leading _ = false

-- what a wait brings
abbrev pub is_brought : Entry ServerNote → Bool
is_brought (Due timer) = true
is_brought (Ready handle kind) = true
is_brought _ = false

-- what may stand after a turn that was settled
abbrev pub is_plain : Entry ServerNote → Bool
is_plain (Polled moment) = false
is_plain (Due timer) = false
is_plain (Ready handle kind) = false
is_plain (Started event) = false
is_plain (Returned event answer said) = false
is_plain (Closed handle said) = false
is_plain Ended = false
is_plain _ = true

-- a turn was settled last
abbrev pub is_turned : List (Entry ServerNote) → Bool
is_turned (Returned event answer said ∷ past) = true
is_turned _ = false

plain_open : (e : Entry ServerNote) (b : Bool) → is_plain e ≡ true → is_closed e ≡ true → b ≡ true
plain_open (Closed handle said) b h c = absurd (false≢true h)
plain_open _ b h c = absurd (false≢true c)

pub settles_free : (past : List (Entry ServerNote)) (e : Entry ServerNote) → is_free past ≡ true
    → IsSettledAtOnce past e
settles_free [] e h = tt
settles_free (Started event ∷ past) e h = absurd (false≢true h)
settles_free (Returned event Close said ∷ past) e h = absurd (false≢true h)
settles_free (_ ∷ past) e h = tt

plain_free : (e : Entry ServerNote) (past : List (Entry ServerNote)) → is_plain e ≡ true
    → is_free (e ∷ past) ≡ true
plain_free (Started event) past h = absurd (false≢true h)
plain_free (Returned event answer said) past h = absurd (false≢true h)
plain_free _ past h = refl

plain_still : (e : Entry ServerNote) (past : List (Entry ServerNote)) → is_plain e ≡ true
    → follows_ready (e ∷ past) ≡ false
plain_still (Polled moment) past h = absurd (false≢true h)
plain_still (Due timer) past h = absurd (false≢true h)
plain_still (Ready handle kind) past h = absurd (false≢true h)
plain_still _ past h = refl

not_both : (b c : Bool) → b ≡ false → b ≡ true → c ≡ true
not_both b c f t = absurd (both_ways b f t)

module _ (groups : List ScriptGroup) where
  -- an entry of the loop: turns are settled at once; a wait comes only if nothing can be
  -- started, and not after the last; after what a wait brought the same lead goes on, or the
  -- next; and a handler is closed directly after its turn
  pub record Steps (past : List (Entry ServerNote)) (e : Entry ServerNote) : Type 0 where
    pub settles : IsSettledAtOnce past e
    pub waits : WaitsOnly groups past e
    pub behind : follows_ready past ≡ true → is_leading e ≡ true
    pub closes : is_closed e ≡ true → is_turned past ≡ true

  -- between two rounds
  pub record Between (past : List (Entry ServerNote)) : Type 0 where
    pub each : EachStep Steps past
    pub free : is_free past ≡ true
    pub not_over : is_over_here groups past ≡ false

  -- ---- after a turn

  plain_waits : (past : List (Entry ServerNote)) (e : Entry ServerNote) → is_plain e ≡ true
      → WaitsOnly groups past e
  plain_waits past (Polled moment) h = absurd (false≢true h)
  plain_waits past Ended h = absurd (false≢true h)
  plain_waits past _ h = tt

  pub record Settled (past : List (Entry ServerNote)) : Type 0 where
    pub each : EachStep Steps past
    pub free : is_free past ≡ true
    pub still : follows_ready past ≡ false

  pub all_plain : (past es : List (Entry ServerNote)) → list_all is_plain es ≡ true → Settled past
      → Settled (pushed past es)
  all_plain past [] all s = s
  all_plain past (e ∷ es) all s =
      let parts = and_parts (is_plain e) (list_all is_plain es) all in
      all_plain (e ∷ past) es parts.1 (record {
        each = (
          record {
            settles = settles_free past e s.free;
            waits = plain_waits past e parts.0;
            behind = not_both (follows_ready past) (is_leading e) s.still;
            closes = plain_open e (is_turned past) parts.0;
          },
          s.each,
        );
        free = plain_free e past parts.0;
        still = plain_still e past parts.0;
      })

  pub settled_between : (past : List (Entry ServerNote)) → Settled past → Between past
  settled_between past s = record {
    each = s.each;
    free = s.free;
    not_over = ap (λ (b : Bool). b && is_over (last_wait (groups_told groups) past)) s.still;
  }

  -- ---- a wait

  brought_step : (past : List (Entry ServerNote)) (e : Entry ServerNote) → is_brought e ≡ true
      → is_free past ≡ true → Steps past e
  brought_step past (Due timer) h free =
      record {
        settles = settles_free past (Due timer) free;
        waits = tt;
        behind = λ ready. refl;
        closes = λ c. absurd (false≢true c);
      }
  brought_step past (Ready handle kind) h free =
      record {
        settles = settles_free past (Ready handle kind) free;
        waits = tt;
        behind = λ ready. refl;
        closes = λ c. absurd (false≢true c);
      }
  brought_step past _ h free = absurd (false≢true h)

  brought_free : (e : Entry ServerNote) (past : List (Entry ServerNote)) → is_brought e ≡ true
      → is_free (e ∷ past) ≡ true
  brought_free (Due timer) past h = refl
  brought_free (Ready handle kind) past h = refl
  brought_free _ past h = absurd (false≢true h)

  brought_ready : (e : Entry ServerNote) (past : List (Entry ServerNote)) → is_brought e ≡ true
      → follows_ready (e ∷ past) ≡ true
  brought_ready (Due timer) past h = refl
  brought_ready (Ready handle kind) past h = refl
  brought_ready _ past h = absurd (false≢true h)

  brought_last : (e : Entry ServerNote) (past : List (Entry ServerNote)) → is_brought e ≡ true
      → last_wait (groups_told groups) (e ∷ past) ≡ last_wait (groups_told groups) past
  brought_last (Due timer) past h = refl
  brought_last (Ready handle kind) past h = refl
  brought_last _ past h = absurd (false≢true h)

  -- in the entries of a wait, whose answer the script gave
  pub record Waited (past : List (Entry ServerNote)) (answer : Option WaitAnswer) : Type 0 where
    pub each : EachStep Steps past
    pub free : is_free past ≡ true
    pub ready : follows_ready past ≡ true
    pub last : last_wait (groups_told groups) past ≡ answer

  all_brought : (past es : List (Entry ServerNote)) (answer : Option WaitAnswer)
      → list_all is_brought es ≡ true → Waited past answer → Waited (pushed past es) answer
  all_brought past [] answer all w = w
  all_brought past (e ∷ es) answer all w =
      let parts = and_parts (is_brought e) (list_all is_brought es) all in
      all_brought (e ∷ past) es answer parts.1 (record {
        each = (brought_step past e parts.0 w.free, w.each);
        free = brought_free e past parts.0;
        ready = brought_ready e past parts.0;
        last = brought_last e past parts.0 ∙ w.last;
      })

  -- a wait when nothing could be started
  pub all_waited : (past : List (Entry ServerNote)) (moment : ℕ) (es : List (Entry ServerNote))
      → list_all is_brought es ≡ true → Between past → IsSpent past
      → Waited (pushed past (Polled moment ∷ es))
      (Some (waited (time_left_in past) (told (groups_told groups) past)).answer)
  all_waited past moment es all b spent =
      all_brought (Polled moment ∷ past) es _ all (record {
        each = (
          record {
            settles = settles_free past (Polled moment) b.free;
            waits = (spent, b.not_over);
            behind = λ ready. refl;
            closes = λ c. absurd (false≢true c);
          },
          b.each,
        );
        free = refl;
        ready = refl;
        last = refl;
      })

  -- whether the script answered it with Over is whether it did so here
  pub over_here : (past : List (Entry ServerNote)) (answer : Option WaitAnswer) → Waited past answer
      → is_over_here groups past ≡ is_over answer
  over_here past answer w = ap (λ (b : Bool). b && is_over (last_wait (groups_told groups) past))
      w.ready ∙ ap is_over w.last
