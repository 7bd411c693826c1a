-- The last wait of a journal over a script, and the last answer of the net.
use Rattle.std.proofs.Common.{◌≡◌, ◌+◌, arith, ℕ, suc, true, List, [], ◌∷◌, ◌++◌, length, Option}
use Rattle.std.proofs.Common.{Some, None, refl, sym, ap, ◌∙◌, subst, length-append}
use Rattle.std.proofs.lemmas.Bool.{and_parts, false≢true}
use Rattle.std.specs.List.{list_all}
use mathlib.Core.List.{reverse_aux}
use Rattle.ev_base.specs.Net.{Call, Waits, Attaches, SetsMask, Retires, TurnsAway}
use Rattle.ev_base.specs.Playing.{Plays, played, waited}
use Rattle.ev_base.specs.Story.{Offer}
use Rattle.ev_base.specs.Terms.{Terms, Group}
use Rattle.ev_base.specs.declared.net.Report.{Report}
use Rattle.ev_base.specs.declared.net.Waited.{Waited}
use Rattle.ev_base.specs.declared.net.Waited.TheVariants as waited_by
use Rattle.laws_script_calls.specs.reactor_journal.specs.declared.entry.Entry.{Entry}
use Rattle.laws_script_calls.specs.reactor_journal.specs.declared.entry.Entry.TheVariants.{Opened}
use Rattle.laws_script_calls.specs.reactor_journal.specs.declared.entry.Entry.TheVariants.{
  Scheduled,
}
use Rattle.laws_script_calls.specs.reactor_journal.specs.declared.entry.Entry.TheVariants.{
  Cancelled,
}
use Rattle.laws_script_calls.specs.reactor_journal.specs.declared.entry.Entry.TheVariants.{Polled}
use Rattle.laws_script_calls.specs.reactor_journal.specs.declared.entry.Entry.TheVariants.{Due}
use Rattle.laws_script_calls.specs.reactor_journal.specs.declared.entry.Entry.TheVariants.{Ready}
use Rattle.laws_script_calls.specs.reactor_journal.specs.declared.entry.Entry.TheVariants.{Posted}
use Rattle.laws_script_calls.specs.reactor_journal.specs.declared.entry.Entry.TheVariants.{Stale}
use Rattle.laws_script_calls.specs.reactor_journal.specs.declared.entry.Entry.TheVariants.{Started}
use Rattle.laws_script_calls.specs.reactor_journal.specs.declared.entry.Entry.TheVariants.{Returned}
use Rattle.laws_script_calls.specs.reactor_journal.specs.declared.entry.Entry.TheVariants.{Masked}
use Rattle.laws_script_calls.specs.reactor_journal.specs.declared.entry.Entry.TheVariants.{
  Suspended,
}
use Rattle.laws_script_calls.specs.reactor_journal.specs.declared.entry.Entry.TheVariants.{Resumed}
use Rattle.laws_script_calls.specs.reactor_journal.specs.declared.entry.Entry.TheVariants.{Refused}
use Rattle.laws_script_calls.specs.reactor_journal.specs.declared.entry.Entry.TheVariants.{Removed}
use Rattle.laws_script_calls.specs.reactor_journal.specs.declared.entry.Entry.TheVariants.{Closed}
use Rattle.laws_script_calls.specs.reactor_journal.specs.declared.entry.Entry.TheVariants.{Ended}
use Rattle.laws_script_calls.specs.reactor_journal.specs.Follow.{is_legal}
use Rattle.laws_script_calls.specs.reactor_journal.specs.Past.{count}
use Rattle.laws_script_calls.specs.reactor_model.specs.Handling.{Handling}
use Rattle.laws_script_calls.specs.reactor_core.specs.Calls.{AreCalls, IsAskedFor}
use Rattle.laws_script_calls.specs.reactor_core.specs.Calls as C
use Rattle.laws_script_calls.specs.reactor_core.specs.Marks.{IsOverAt, answers, is_polled}
use Rattle.laws_script_calls.specs.reactor_summary.specs.Summary.{summary}
use Rattle.laws_script_calls.specs.log_handler.specs.declared.note.ServerNote.{ServerNote}
use Rattle.laws_script_calls.specs.Laws.{NamesAsServer}
use Rattle.laws_script_calls.proofs.Following.{plays_on, same_time}
use Rattle.laws_script_calls.specs.laws_script_runs.specs.Runs.{is_closing}
use Rattle.laws_script_calls.specs.laws_script_told.specs.Told.{told, time_left_in, last_wait}
use Rattle.laws_script_calls.specs.laws_script_told.specs.Told.{is_over}

-- the answer of the net's last wait
abbrev pub last_of : List Waited → Option Waited
last_of [] = None
last_of (answer ∷ earlier) = Some answer

-- The last wait of the past was answered as the script says, and there are as many waits as
-- answers.
pub record AnswersTell (groups : List Group) (past : List (Entry ServerNote))
    (calls : List Call) : Type 0 where
  pub last : last_wait groups past ≡ last_of (answers calls)
  pub many : count is_polled past ≡ length (answers calls)

module _ {H E : Type 0} (means : Handling H E ServerNote) (t : Terms) (offers : List Offer)
    (groups : List Group) (most : ℕ) (limit : t.limit ≡ Some None)
    (told_of : t.offers ≡ Some offers) (as_server : NamesAsServer means t) where
  asked : (past : List (Entry ServerNote)) (most_ms : Option ℕ) → is_legal most past ≡ true
      → IsAskedFor t.limit (summary past) most_ms → most_ms ≡ time_left_in past
  asked past most_ms legal h = subst
      (λ (l : Option (Option ℕ)). C.IsAskedFor l (summary past) most_ms) limit h
      ∙ same_time most past legal

  pub answers-tell : (past : List (Entry ServerNote)) (taken : List Report) (calls : List Call)
      → is_legal most past ≡ true → AreCalls means t past taken calls → Plays groups calls
      → AnswersTell groups past calls
  answers-tell [] taken calls legal are plays =
      record {
        last = ap (λ cs. last_of (answers cs)) (sym are);
        many = ap (λ cs. length (answers cs)) (sym are);
      }
  answers-tell (Polled moment ∷ past) taken (Waits most_ms answer reports ∷ calls) legal are plays =
      let before = (and_parts _ _ legal).1 in
      let more = answers-tell past [] calls before are.1 plays.1 in
      let same = (plays_on means t offers groups most limit told_of as_server past [] calls before
      are.1 plays.1).same in
      record {
        last = ap (λ (w : Waited). Some w)
            (sym (plays.0.answers ∙ ap (λ (o : Option ℕ). (waited o (played groups calls)).answer)
            (asked past most_ms before are.0.asked)
            ∙ ap (λ p. (waited (time_left_in past) p).answer) same));
        many = ap suc more.many;
      }
  answers-tell (Polled moment ∷ past) taken (Attaches x given serial ∷ calls) legal are plays =
      absurd are.0
  answers-tell (Polled moment ∷ past) taken (SetsMask x given ∷ calls) legal are plays =
      absurd are.0
  answers-tell (Polled moment ∷ past) taken (Retires x ∷ calls) legal are plays = absurd are.0
  answers-tell (Polled moment ∷ past) taken (TurnsAway serial ∷ calls) legal are plays =
      absurd are.0
  answers-tell (Polled moment ∷ past) taken [] legal are plays = absurd are
  answers-tell (Opened handle mask ∷ past) taken (Attaches x given serial ∷ calls) legal are plays =
      let more = answers-tell past taken calls (and_parts _ _ legal).1 are.1 plays in
      record { last = more.last; many = more.many }
  answers-tell (Opened handle mask ∷ past) taken (SetsMask x given ∷ calls) legal are plays =
      absurd are.0
  answers-tell (Opened handle mask ∷ past) taken (Retires x ∷ calls) legal are plays = absurd are.0
  answers-tell (Opened handle mask ∷ past) taken (TurnsAway serial ∷ calls) legal are plays =
      absurd are.0
  answers-tell (Opened handle mask ∷ past) taken (Waits most_ms answer reports ∷ calls) legal are
      plays = absurd are.0
  answers-tell (Opened handle mask ∷ past) taken [] legal are plays = absurd are
  answers-tell (Masked handle mask ∷ past) taken (Attaches x given serial ∷ calls) legal are plays =
      absurd are.0
  answers-tell (Masked handle mask ∷ past) taken (SetsMask x given ∷ calls) legal are plays =
      let more = answers-tell past taken calls (and_parts _ _ legal).1 are.1 plays in
      record { last = more.last; many = more.many }
  answers-tell (Masked handle mask ∷ past) taken (Retires x ∷ calls) legal are plays = absurd are.0
  answers-tell (Masked handle mask ∷ past) taken (TurnsAway serial ∷ calls) legal are plays =
      absurd are.0
  answers-tell (Masked handle mask ∷ past) taken (Waits most_ms answer reports ∷ calls) legal are
      plays = absurd are.0
  answers-tell (Masked handle mask ∷ past) taken [] legal are plays = absurd are
  answers-tell (Closed handle note ∷ past) taken (Attaches x given serial ∷ calls) legal are plays =
      absurd are.0
  answers-tell (Closed handle note ∷ past) taken (SetsMask x given ∷ calls) legal are plays =
      absurd are.0
  answers-tell (Closed handle note ∷ past) taken (Retires x ∷ calls) legal are plays = let more =
      answers-tell past taken calls (and_parts _ _ legal).1 are.1 plays in
      record { last = more.last; many = more.many }
  answers-tell (Closed handle note ∷ past) taken (TurnsAway serial ∷ calls) legal are plays =
      absurd are.0
  answers-tell (Closed handle note ∷ past) taken (Waits most_ms answer reports ∷ calls) legal are
      plays = absurd are.0
  answers-tell (Closed handle note ∷ past) taken [] legal are plays = absurd are
  answers-tell (Refused live fault note ∷ past) taken (Attaches x given serial ∷ calls) legal are
      plays = absurd are.0
  answers-tell (Refused live fault note ∷ past) taken (SetsMask x given ∷ calls) legal are plays =
      absurd are.0
  answers-tell (Refused live fault note ∷ past) taken (Retires x ∷ calls) legal are plays =
      absurd are.0
  answers-tell (Refused live fault note ∷ past) taken (TurnsAway serial ∷ calls) legal are plays =
      let more = answers-tell past taken calls (and_parts _ _ legal).1 are.1 plays in
      record { last = more.last; many = more.many }
  answers-tell (Refused live fault note ∷ past) taken (Waits most_ms answer reports ∷ calls) legal
      are plays = absurd are.0
  answers-tell (Refused live fault note ∷ past) taken [] legal are plays = absurd are
  answers-tell (Ready handle kind ∷ past) taken calls legal are plays =
      let more = answers-tell past (record { handle = handle; kind = kind } ∷ taken) calls
      (and_parts _ _ legal).1 are plays in record { last = more.last; many = more.many }
  answers-tell (Scheduled timer handle first every ∷ past) taken calls legal are plays = let more =
      answers-tell past taken calls (and_parts _ _ legal).1 are plays in
      record { last = more.last; many = more.many }
  answers-tell (Cancelled timer ∷ past) taken calls legal are plays = let more =
      answers-tell past taken calls (and_parts _ _ legal).1 are plays in
      record { last = more.last; many = more.many }
  answers-tell (Due timer ∷ past) taken calls legal are plays = let more =
      answers-tell past taken calls (and_parts _ _ legal).1 are plays in
      record { last = more.last; many = more.many }
  answers-tell (Posted handle kind from seq ∷ past) taken calls legal are plays = let more =
      answers-tell past taken calls (and_parts _ _ legal).1 are plays in
      record { last = more.last; many = more.many }
  answers-tell (Stale handle from seq ∷ past) taken calls legal are plays = let more =
      answers-tell past taken calls (and_parts _ _ legal).1 are plays in
      record { last = more.last; many = more.many }
  answers-tell (Started event ∷ past) taken calls legal are plays = let more =
      answers-tell past taken calls (and_parts _ _ legal).1 are plays in
      record { last = more.last; many = more.many }
  answers-tell (Returned event answer note ∷ past) taken calls legal are plays = let more =
      answers-tell past taken calls (and_parts _ _ legal).1 are plays in
      record { last = more.last; many = more.many }
  answers-tell (Suspended handle ∷ past) taken calls legal are plays = let more =
      answers-tell past taken calls (and_parts _ _ legal).1 are plays in
      record { last = more.last; many = more.many }
  answers-tell (Resumed handle ∷ past) taken calls legal are plays = let more =
      answers-tell past taken calls (and_parts _ _ legal).1 are plays in
      record { last = more.last; many = more.many }
  answers-tell (Removed handle ∷ past) taken calls legal are plays = let more =
      answers-tell past taken calls (and_parts _ _ legal).1 are plays in
      record { last = more.last; many = more.many }
  answers-tell (Ended ∷ past) taken calls legal are plays = let more =
      answers-tell past taken calls (and_parts _ _ legal).1 are plays in
      record { last = more.last; many = more.many }

-- if the wait of the last number was answered Over, the last answer was
pub over-last : (n : ℕ) (told : List Waited) → n ≡ length told → IsOverAt n told
    → is_over (last_of told) ≡ true
over-last n told many o = first o.later o.parts where
  first : (later : List Waited) → told ≡ later ++ waited_by.Over o.moment ∷ o.earlier
      → is_over (last_of told) ≡ true
  first [] is = ap (λ l. is_over (last_of l)) is
  first (x ∷ later) is = absurd (too-many later
      (ap length is ∙ length-append (x ∷ later) (waited_by.Over o.moment ∷ o.earlier))) where
        too-many : (later : List Waited) → length told ≡ suc (length later) + suc (length o.earlier)
            → ⊥
        too-many later more = let counted = o.count in omega (arith, many, counted, more)

-- ---- after the end

-- removals and closings leave the last wait, and the number of waits
pub closings-wait : (groups : List Group) (closing past : List (Entry ServerNote))
    → list_all is_closing closing ≡ true
    → (last_wait groups (reverse_aux closing past) ≡ last_wait groups past)
    × (count is_polled (reverse_aux closing past) ≡ count is_polled past)
closings-wait groups [] past c = (refl, refl)
closings-wait groups (Removed handle ∷ closing) past c =
    closings-wait groups closing (Removed handle ∷ past) c
closings-wait groups (Closed handle note ∷ closing) past c =
    closings-wait groups closing (Closed handle note ∷ past) c
closings-wait groups (Opened handle mask ∷ closing) past c = absurd (false≢true c)
closings-wait groups (Scheduled timer handle first every ∷ closing) past c = absurd (false≢true c)
closings-wait groups (Cancelled timer ∷ closing) past c = absurd (false≢true c)
closings-wait groups (Polled moment ∷ closing) past c = absurd (false≢true c)
closings-wait groups (Due timer ∷ closing) past c = absurd (false≢true c)
closings-wait groups (Ready handle kind ∷ closing) past c = absurd (false≢true c)
closings-wait groups (Posted handle kind from seq ∷ closing) past c = absurd (false≢true c)
closings-wait groups (Stale handle from seq ∷ closing) past c = absurd (false≢true c)
closings-wait groups (Started event ∷ closing) past c = absurd (false≢true c)
closings-wait groups (Returned event answer note ∷ closing) past c = absurd (false≢true c)
closings-wait groups (Masked handle mask ∷ closing) past c = absurd (false≢true c)
closings-wait groups (Suspended handle ∷ closing) past c = absurd (false≢true c)
closings-wait groups (Resumed handle ∷ closing) past c = absurd (false≢true c)
closings-wait groups (Refused live fault note ∷ closing) past c = absurd (false≢true c)
closings-wait groups (Ended ∷ closing) past c = absurd (false≢true c)

pub past-behind : {A : Type 0} (run more past : List A)
    → reverse_aux (run ++ more) past ≡ reverse_aux more (reverse_aux run past)
past-behind [] more past = refl
past-behind (x ∷ run) more past = past-behind run more (x ∷ past)
