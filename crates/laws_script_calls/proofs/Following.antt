-- From the calls of a net to what its journal follows.
use Rattle.std.proofs.Common.{◌≡◌, ◌∙◌, ◌-◌, ℕ, Bool, true, cond, List, [], ◌∷◌, map, Option, Some}
use Rattle.std.proofs.Common.{None, option_map, refl, subst, ap}
use Rattle.std.specs.List.{filter}
use Rattle.std.proofs.lemmas.Bool.{and_parts}
use Rattle.laws_script_runs.specs.ev_base.specs.Terms.{Terms, Group}
use Rattle.laws_script_runs.specs.ev_base.specs.Net.{Call, Waits, Attaches, SetsMask, Retires}
use Rattle.laws_script_runs.specs.ev_base.specs.Net.{TurnsAway}
use Rattle.laws_script_runs.specs.ev_base.specs.declared.net.Report.{Report}
use Rattle.laws_script_runs.specs.ev_base.specs.declared.net.Waited.{Waited}
use Rattle.laws_script_runs.specs.ev_base.specs.declared.net.Waited.TheVariants as waited_by
use Rattle.laws_script_runs.specs.reactor_journal.specs.declared.entry.Entry.{Entry}
use Rattle.laws_script_runs.specs.reactor_journal.specs.declared.entry.Entry.TheVariants.{Opened}
use Rattle.laws_script_runs.specs.reactor_journal.specs.declared.entry.Entry.TheVariants.{Scheduled}
use Rattle.laws_script_runs.specs.reactor_journal.specs.declared.entry.Entry.TheVariants.{Cancelled}
use Rattle.laws_script_runs.specs.reactor_journal.specs.declared.entry.Entry.TheVariants.{Polled}
use Rattle.laws_script_runs.specs.reactor_journal.specs.declared.entry.Entry.TheVariants.{Due}
use Rattle.laws_script_runs.specs.reactor_journal.specs.declared.entry.Entry.TheVariants.{Ready}
use Rattle.laws_script_runs.specs.reactor_journal.specs.declared.entry.Entry.TheVariants.{Posted}
use Rattle.laws_script_runs.specs.reactor_journal.specs.declared.entry.Entry.TheVariants.{Stale}
use Rattle.laws_script_runs.specs.reactor_journal.specs.declared.entry.Entry.TheVariants.{Started}
use Rattle.laws_script_runs.specs.reactor_journal.specs.declared.entry.Entry.TheVariants.{Returned}
use Rattle.laws_script_runs.specs.reactor_journal.specs.declared.entry.Entry.TheVariants.{Masked}
use Rattle.laws_script_runs.specs.reactor_journal.specs.declared.entry.Entry.TheVariants.{Suspended}
use Rattle.laws_script_runs.specs.reactor_journal.specs.declared.entry.Entry.TheVariants.{Resumed}
use Rattle.laws_script_runs.specs.reactor_journal.specs.declared.entry.Entry.TheVariants.{Refused}
use Rattle.laws_script_runs.specs.reactor_journal.specs.declared.entry.Entry.TheVariants.{Removed}
use Rattle.laws_script_runs.specs.reactor_journal.specs.declared.entry.Entry.TheVariants.{Closed}
use Rattle.laws_script_runs.specs.reactor_journal.specs.declared.entry.Entry.TheVariants.{Ended}
use Rattle.laws_script_runs.specs.reactor_journal.specs.Past as P
use Rattle.laws_script_runs.specs.reactor_journal.specs.Follow.{is_legal}
use Rattle.reactor_core.specs.reactor_summary.specs.declared.parts.ArmedTimer.{ArmedTimer}
use Rattle.reactor_core.specs.reactor_summary.specs.Summary.{Summary, summary}
use Rattle.reactor_core.specs.reactor_summary.specs.Tells.{armed_timer}
use Rattle.reactor_core.specs.reactor_summary.proofs.Told as summary_told
use Rattle.reactor_core.specs.reactor_summary.proofs.Reading.{wanted_is}
use Rattle.laws_script_runs.specs.reactor_model.specs.Handling.{Handling, Names}
use Rattle.reactor_core.specs.Calls as C
use Rattle.reactor_core.specs.reactor_state.specs.Tables.{first_armed_deadline}
use Rattle.reactor_core.specs.Calls.{AreCalls, IsWait}
use Rattle.laws_script_runs.specs.log_handler.specs.declared.note.ServerNote.{ServerNote}
use Rattle.laws_script_runs.specs.ev_base.specs.Playing.{Playing, Plays, IsAnswer, played, waited}
use Rattle.laws_script_runs.specs.ev_base.specs.Playing.{attached, mask_set, retired, turned_away}
use Rattle.laws_script_runs.specs.ev_base.specs.Playing.{end_of_serial}
use Rattle.laws_script_runs.specs.laws_script_told.specs.Told.{told, time_left_in}
use Rattle.laws_script_runs.specs.laws_script_told.specs.Told.{first_deadline_in}
use Rattle.laws_script_runs.specs.laws_script_told.specs.Told.{number_accepted, is_taken_in, IsTold}
use Rattle.laws_script_runs.specs.laws_script_told.specs.Told.{FollowsBefore}
use Rattle.laws_script_runs.specs.reactor_model.specs.Entries.{IsAnsweredAt}
use Rattle.laws_script_runs.specs.ev_base.specs.Story.{Offer}
use Rattle.laws_script_runs.specs.reactor_journal.specs.Event.{Origin}
use Rattle.laws_script_calls.specs.Laws.{NamesAsServer}

-- ---- the summary tells the time and the reports that are taken

deadline_left : (past : List (Entry ServerNote)) (moment now : ℕ) (armed : List (ℕ × ℕ))
    → moment ≡ now
    → option_map (λ (d : ℕ). d - moment) (first_armed_deadline (map (armed_timer past) armed))
    ≡ option_map (λ (d : ℕ). d - now) (first_deadline_in armed)
deadline_left past moment now [] h = refl
deadline_left past moment now (a ∷ rest) h = ap (λ (m : ℕ). Some (a.0 - m)) h

pub same_time : (most : ℕ) (past : List (Entry ServerNote)) → is_legal most past ≡ true
    → C.time_left (summary past) ≡ time_left_in past
same_time most past legal =
    let t = summary_told.told most past legal in
    ap (λ (ts : List ArmedTimer). option_map (λ (d : ℕ). d - (summary past).moment)
    (first_armed_deadline ts)) t.armed
    ∙ deadline_left past (summary past).moment (P.now past) (P.armed past) t.moment

filter_same : (p q : Report → Bool) (reports : List Report) → ((r : Report) → p r ≡ q r)
    → filter p reports ≡ filter q reports
filter_same p q [] same = refl
filter_same p q (r ∷ reports) same =
    ap (λ (b : Bool). cond b (r ∷ filter p reports) (filter p reports)) (same r)
    ∙ ap (λ (rs : List Report). cond (q r) (r ∷ rs) rs) (filter_same p q reports same)

same_taken : (most : ℕ) (past : List (Entry ServerNote)) (reports : List Report)
    → is_legal most past ≡ true → filter (C.is_taken (summary past)) reports
    ≡ filter (is_taken_in past) reports
same_taken most past reports legal =
    filter_same _ _ reports (λ (r : Report).
    wanted_is most past (summary past) r.handle.0 r.kind legal (summary_told.told most past legal))

-- ---- entry by entry

pub record PlaysOn (groups : List Group) (past : List (Entry ServerNote)) (taken : List Report)
    (calls : List Call) : Type 0 where
  pub same : played groups calls ≡ told groups past
  pub follows : FollowsBefore groups past taken

module _ {H E : Type 0} (means : Handling H E ServerNote) (t : Terms) (offers : List Offer)
    (groups : List Group) (most : ℕ) (limit : t.limit ≡ Some None)
    (told_of : t.offers ≡ Some offers) (as_server : NamesAsServer means t) where
  -- if the listener's story is told, an end has the serial number that its handler's origin
  -- names, and no other
  named : (origin : Option (Origin ServerNote)) (serial : Option ℕ)
      → Names (means.serial t origin) serial → serial ≡ number_accepted origin
  named origin serial h =
      subst (λ (s : Option (Option ℕ)). Names s serial)
      (as_server origin ∙ ap (λ (o : Option (List Offer)).
      elim o [ None ↦ None | Some _ ↦ Some (number_accepted origin) ]) told_of) h

  asked : (s : Summary) (asked_for : Option ℕ) → C.IsAskedFor t.limit s asked_for
      → asked_for ≡ C.time_left s
  asked s asked_for h = subst (λ (l : Option (Option ℕ)). C.IsAskedFor l s asked_for) limit h

  waits : (past : List (Entry ServerNote)) (moment : ℕ) (taken : List Report) (asked_for : Option ℕ)
      (answer : Waited) (reports : List Report) (calls : List Call)
      → is_legal most past ≡ true → played groups calls ≡ told groups past
      → IsWait t (summary past) moment taken asked_for answer reports
      → IsAnswer asked_for answer reports (played groups calls)
      → (asked_for ≡ time_left_in past) × IsTold groups past moment taken
  waits past moment taken asked_for answer reports calls legal same w plays =
      let time : asked_for ≡ time_left_in past =
      asked (summary past) asked_for w.asked ∙ same_time most past legal in
      let here = ap (λ (o : Option ℕ). waited o (played groups calls)) time
      ∙ ap (λ (p : Playing). waited (time_left_in past) p) same in (
        time,
        record {
          moment_is = subst (IsAnsweredAt moment) (plays.answers ∙ ap (λ (a : _). a.answer) here)
              w.moment;
          are_taken = w.are_taken ∙ same_taken most past reports legal
              ∙ ap (filter (is_taken_in past)) (plays.gives ∙ ap (λ (a : _). a.reports) here);
        },
      )

  pub plays_on : (past : List (Entry ServerNote)) (taken : List Report) (calls : List Call)
      → is_legal most past ≡ true → AreCalls means t past taken calls → Plays groups calls
      → PlaysOn groups past taken calls
  plays_on [] taken calls legal are plays = record { same = ap (played groups) are; follows = tt }
  plays_on (Opened handle mask ∷ past) taken [] legal are plays = absurd are
  plays_on (Opened handle mask ∷ past) taken (Attaches x given serial ∷ calls) legal are plays =
      let more = plays_on past taken calls (and_parts _ _ legal).1 are.1 plays in
      record {
        same = ap (λ (p : Playing). attached x given (end_of_serial serial) p) more.same
            ∙ ap (λ (h : ℕ). attached h given (end_of_serial serial) (told groups past))
            are.0.handle
            ∙ ap (λ (m : _). attached handle.0 m (end_of_serial serial) (told groups past))
            are.0.mask ∙ ap (λ (s : Option ℕ).
            attached handle.0 mask (end_of_serial s) (told groups past))
            (named (P.offered_here past) serial are.0.names);
        follows = (tt, more.follows);
      }
  plays_on (Opened handle mask ∷ past) taken (Waits asked_for answer reports ∷ calls) legal are
      plays = absurd are.0
  plays_on (Opened handle mask ∷ past) taken (SetsMask x given ∷ calls) legal are plays =
      absurd are.0
  plays_on (Opened handle mask ∷ past) taken (Retires x ∷ calls) legal are plays = absurd are.0
  plays_on (Opened handle mask ∷ past) taken (TurnsAway serial ∷ calls) legal are plays =
      absurd are.0
  plays_on (Polled moment ∷ past) taken [] legal are plays = absurd are
  plays_on (Polled moment ∷ past) taken (Waits asked_for answer reports ∷ calls) legal are plays =
      let before = (and_parts _ _ legal).1 in
      let more = plays_on past [] calls before are.1 plays.1 in
      let w = waits past moment taken asked_for answer reports calls before more.same are.0 plays.0
      in
      record {
        same = ap (λ (o : Option ℕ). (waited o (played groups calls)).next) w.0
            ∙ ap (λ (p : Playing). (waited (time_left_in past) p).next) more.same;
        follows = (w.1, more.follows);
      }
  plays_on (Polled moment ∷ past) taken (Attaches x given serial ∷ calls) legal are plays =
      absurd are.0
  plays_on (Polled moment ∷ past) taken (SetsMask x given ∷ calls) legal are plays = absurd are.0
  plays_on (Polled moment ∷ past) taken (Retires x ∷ calls) legal are plays = absurd are.0
  plays_on (Polled moment ∷ past) taken (TurnsAway serial ∷ calls) legal are plays = absurd are.0
  plays_on (Masked handle mask ∷ past) taken [] legal are plays = absurd are
  plays_on (Masked handle mask ∷ past) taken (SetsMask x given ∷ calls) legal are plays =
      let more = plays_on past taken calls (and_parts _ _ legal).1 are.1 plays in
      record {
        same = ap (λ (p : Playing). mask_set x given p) more.same
            ∙ ap (λ (h : ℕ). mask_set h given (told groups past)) are.0.0
            ∙ ap (λ (m : _). mask_set handle.0 m (told groups past)) are.0.1;
        follows = (tt, more.follows);
      }
  plays_on (Masked handle mask ∷ past) taken (Waits asked_for answer reports ∷ calls) legal are
      plays = absurd are.0
  plays_on (Masked handle mask ∷ past) taken (Attaches x given serial ∷ calls) legal are plays =
      absurd are.0
  plays_on (Masked handle mask ∷ past) taken (Retires x ∷ calls) legal are plays = absurd are.0
  plays_on (Masked handle mask ∷ past) taken (TurnsAway serial ∷ calls) legal are plays =
      absurd are.0
  plays_on (Refused live fault note ∷ past) taken [] legal are plays = absurd are
  plays_on (Refused live fault note ∷ past) taken (TurnsAway serial ∷ calls) legal are plays =
      let more = plays_on past taken calls (and_parts _ _ legal).1 are.1 plays in
      record {
        same = ap (λ (p : Playing). turned_away (end_of_serial serial) p) more.same
            ∙ ap (λ (s : Option ℕ). turned_away (end_of_serial s) (told groups past))
            (named (P.offered_here past) serial are.0);
        follows = (tt, more.follows);
      }
  plays_on (Refused live fault note ∷ past) taken (Waits asked_for answer reports ∷ calls) legal are
      plays = absurd are.0
  plays_on (Refused live fault note ∷ past) taken (Attaches x given serial ∷ calls) legal are
      plays = absurd are.0
  plays_on (Refused live fault note ∷ past) taken (SetsMask x given ∷ calls) legal are plays =
      absurd are.0
  plays_on (Refused live fault note ∷ past) taken (Retires x ∷ calls) legal are plays = absurd are.0
  plays_on (Closed handle note ∷ past) taken [] legal are plays = absurd are
  plays_on (Closed handle note ∷ past) taken (Retires x ∷ calls) legal are plays =
      let more = plays_on past taken calls (and_parts _ _ legal).1 are.1 plays in
      record {
        same = ap (λ (p : Playing). retired x p) more.same
            ∙ ap (λ (h : ℕ). retired h (told groups past)) are.0;
        follows = (tt, more.follows);
      }
  plays_on (Closed handle note ∷ past) taken (Waits asked_for answer reports ∷ calls) legal are
      plays = absurd are.0
  plays_on (Closed handle note ∷ past) taken (Attaches x given serial ∷ calls) legal are plays =
      absurd are.0
  plays_on (Closed handle note ∷ past) taken (SetsMask x given ∷ calls) legal are plays =
      absurd are.0
  plays_on (Closed handle note ∷ past) taken (TurnsAway serial ∷ calls) legal are plays =
      absurd are.0
  plays_on (Ready handle kind ∷ past) taken calls legal are plays =
      let more = plays_on past (record { handle = handle; kind = kind } ∷ taken) calls
      (and_parts _ _ legal).1 are plays in
      record { same = more.same; follows = (tt, more.follows) }
  plays_on (Scheduled timer handle first every ∷ past) taken calls legal are plays =
      let more = plays_on past taken calls (and_parts _ _ legal).1 are plays in
      record { same = more.same; follows = (tt, more.follows) }
  plays_on (Cancelled timer ∷ past) taken calls legal are plays =
      let more = plays_on past taken calls (and_parts _ _ legal).1 are plays in
      record { same = more.same; follows = (tt, more.follows) }
  plays_on (Due timer ∷ past) taken calls legal are plays =
      let more = plays_on past taken calls (and_parts _ _ legal).1 are plays in
      record { same = more.same; follows = (tt, more.follows) }
  plays_on (Posted handle kind from seq ∷ past) taken calls legal are plays =
      let more = plays_on past taken calls (and_parts _ _ legal).1 are plays in
      record { same = more.same; follows = (tt, more.follows) }
  plays_on (Stale handle from seq ∷ past) taken calls legal are plays =
      let more = plays_on past taken calls (and_parts _ _ legal).1 are plays in
      record { same = more.same; follows = (tt, more.follows) }
  plays_on (Started event ∷ past) taken calls legal are plays =
      let more = plays_on past taken calls (and_parts _ _ legal).1 are plays in
      record { same = more.same; follows = (tt, more.follows) }
  plays_on (Returned event answer note ∷ past) taken calls legal are plays =
      let more = plays_on past taken calls (and_parts _ _ legal).1 are plays in
      record { same = more.same; follows = (tt, more.follows) }
  plays_on (Suspended handle ∷ past) taken calls legal are plays =
      let more = plays_on past taken calls (and_parts _ _ legal).1 are plays in
      record { same = more.same; follows = (tt, more.follows) }
  plays_on (Resumed handle ∷ past) taken calls legal are plays =
      let more = plays_on past taken calls (and_parts _ _ legal).1 are plays in
      record { same = more.same; follows = (tt, more.follows) }
  plays_on (Removed handle ∷ past) taken calls legal are plays =
      let more = plays_on past taken calls (and_parts _ _ legal).1 are plays in
      record { same = more.same; follows = (tt, more.follows) }
  plays_on (Ended ∷ past) taken calls legal are plays =
      let more = plays_on past taken calls (and_parts _ _ legal).1 are plays in
      record { same = more.same; follows = (tt, more.follows) }
