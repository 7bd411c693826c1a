-- The marks of a reactor's waits, entry by entry.
use Rattle.std.proofs.Common.{ℕ, zero, suc, ◌≡◌, ◌≤◌, ◌+◌, List, [], ◌∷◌, length, refl, sym, ap}
use Rattle.std.proofs.Common.{◌∙◌, subst, arith, Option, Some, None, Result, Ok}
use Rattle.ev_base.specs.Net.{Call, Waits, with_one, HasNone}
use Rattle.ev_base.specs.declared.net.Report.{Report}
use Rattle.ev_base.specs.declared.net.Waited.{Waited}
use Rattle.ev_base.specs.declared.net.Waited.TheVariants.{Reports, Quiet, Over, Failed}
use Rattle.reactor_model.specs.reactor_journal.specs.declared.entry.Entry.{Entry}
use Rattle.reactor_model.specs.reactor_journal.specs.declared.entry.Entry.TheVariants.{Polled}
use Rattle.reactor_model.specs.reactor_journal.specs.Past.{count}
use Rattle.reactor_core.specs.Ends.{WhereTold}
use Rattle.reactor_core.specs.Marks.{is_polled, answers, told_answers, over_after, last_over}
use Rattle.reactor_core.specs.Marks.{marked, marks_after, marks_found, AreMarked, MarksStand}
use Rattle.reactor_core.specs.Marks.{MarksGoOn, IsOverAt}
use Rattle.reactor_core.specs.Polling.{name_of}
use Rattle.reactor_core.specs.Taking.{moment_of}
use Rattle.reactor_core.specs.declared.marks.WaitMarks.{WaitMarks}
use Rattle.reactor_core.specs.declared.polling.PollRefused.{PollRefused}
use Rattle.reactor_core.specs.declared.polling.Polled.{Polled as Found}
use Rattle.reactor_core.specs.declared.polling.Polled.TheVariants as found
use Rattle.reactor_core.proofs.Ends.{told_one}

-- if neither the marks nor the calls change, they stand as before
pub marks_kept : {N : Type 0} (past : List (Entry N)) (old new : WaitMarks)
    (calls calls' : Option (List Call)) → new ≡ old → calls' ≡ calls
    → MarksStand old past (told_answers calls) → MarksStand new past (told_answers calls')
marks_kept past old new calls calls' same told o =
    subst (λ c. MarksStand new past (told_answers c)) (sym told)
    (subst (λ marks. MarksStand marks past (told_answers calls)) (sym same) o)

-- one more answer
marked_more : (old new : WaitMarks) (answer : Waited) (earlier : List Waited)
    → new ≡ marked answer old → AreMarked old earlier → AreMarked new (answer ∷ earlier)
marked_more old new answer earlier q o = record {
  made = ap (λ (marks : WaitMarks). marks.made) q ∙ (let made = o.made in omega (arith, made));
  over = ap (λ (marks : WaitMarks). marks.over) q
      ∙ (ap (λ (n : ℕ). over_after (n + 1) answer old.over) o.made
      ∙ ap (over_after (length earlier + 1) answer) o.over);
}

marked_within : (old : WaitMarks) (answer : Waited) → old.over ≤ old.made
    → (marked answer old).over ≤ (marked answer old).made
marked_within old (Reports at count) le = omega (arith, le)
marked_within old (Quiet at) le = omega (arith, le)
marked_within old (Over at) le = omega arith
marked_within old Failed le = omega (arith, le)

-- the marks go on by an entry
pub marks_more : {N : Type 0} (e : Entry N) (past : List (Entry N)) (old new : WaitMarks)
    (told told' : Option (List Waited)) → MarksGoOn e old told new told' → MarksStand old past told
    → MarksStand new (e ∷ past) told'
marks_more (Polled moment) past old new told told' d o = record {
  made = ap (λ (marks : WaitMarks). marks.made) d.1 ∙ (let made = o.made in omega (arith, made));
  within = subst (λ (marks : WaitMarks). marks.over ≤ marks.made) (sym d.1)
      (marked_within old d.0 o.within);
  over = told_one (AreMarked old) (AreMarked new) told told' d.0 d.2
      (λ earlier k. marked_more old new d.0 earlier d.1 k) o.over;
}
marks_more _ past old new told told' d o = record {
  made = ap (λ (marks : WaitMarks). marks.made) d.0 ∙ o.made;
  within = subst (λ (marks : WaitMarks). marks.over ≤ marks.made) (sym d.0) o.within;
  over = subst (λ (marks : WaitMarks). WhereTold (AreMarked marks) told') (sym d.0)
      (subst (WhereTold (AreMarked old)) (sym d.1) o.over);
}

-- a call that is no wait has no answer, and one that is has one
pub told_quiet : (old new : Option (List Call)) (call : Call) → new ≡ with_one old call
    → ((calls : List Call) → answers (call ∷ calls) ≡ answers calls)
    → told_answers new ≡ told_answers old
told_quiet None new call q same = ap told_answers q
told_quiet (Some calls) new call q same = ap told_answers q ∙ ap Some (same calls)

pub told_wait : (old new : Option (List Call)) (most : Option ℕ) (answer : Waited)
    (reports : List Report) → new ≡ with_one old (Waits most answer reports)
    → told_answers new ≡ with_one (told_answers old) answer
told_wait None new most answer reports q = ap told_answers q
told_wait (Some calls) new most answer reports q = ap told_answers q

-- at the begin there are none
pub marks_begin : {N : Type 0} (marks : WaitMarks) (calls : Option (List Call))
    → marks ≡ record { made = 0; over = 0 } → HasNone calls
    → MarksStand {N = N} marks [] (told_answers calls)
marks_begin marks None q none = record {
  made = ap (λ (marks : WaitMarks). marks.made) q;
  within = subst (λ (marks : WaitMarks). marks.over ≤ marks.made) (sym q) (omega arith);
  over = tt;
}
marks_begin marks (Some calls) q none = record {
  made = ap (λ (marks : WaitMarks). marks.made) q;
  within = subst (λ (marks : WaitMarks). marks.over ≤ marks.made) (sym q) (omega arith);
  over = subst (λ calls. AreMarked marks (answers calls)) (sym none)
      (record {
        made = ap (λ (marks : WaitMarks). marks.made) q;
        over = ap (λ (marks : WaitMarks). marks.over) q;
      });
}

-- if a wait was answered at a moment it is one more
pub after_answer : (answer : Waited) (now : ℕ) (marks : WaitMarks) → moment_of answer ≡ Some now
    → marked answer marks ≡ marks_after answer marks
after_answer (Reports at count) now marks q = refl
after_answer (Quiet at) now marks q = refl
after_answer (Over at) now marks q = refl
after_answer Failed now marks q = cc

pub after_failure : (answer : Waited) (marks : WaitMarks) → moment_of answer ≡ None
    → marks ≡ marks_after answer marks
after_failure (Reports at count) marks q = cc
after_failure (Quiet at) marks q = cc
after_failure (Over at) marks q = cc
after_failure Failed marks q = refl

pub found_of : (answer : Waited) (found : Option Found) (marks : WaitMarks) → name_of answer ≡ found
    → marks_after answer marks ≡ marks_found found marks
found_of (Reports at count) found marks q =
    subst (λ found. marks_after (Reports at count) marks ≡ marks_found found marks) q refl
found_of (Quiet at) found marks q =
    subst (λ found. marks_after (Quiet at) marks ≡ marks_found found marks) q refl
found_of (Over at) found marks q =
    subst (λ found. marks_after (Over at) marks ≡ marks_found found marks) q refl
found_of Failed found marks q = subst (λ found. marks_after Failed marks ≡ marks_found found marks)
    q refl

-- a poll does not lower the mark
pub polled_later : (found : Found) (marks : WaitMarks) → marks.over ≤ marks.made
    → marks.over ≤ (marks_found (Some found) marks).over
polled_later found.Events marks le = omega arith
polled_later found.Quiet marks le = omega arith
polled_later found.Over marks le = omega (arith, le)

-- if it found that nothing can be reported any more, the mark is the number of all waits
pub polled_number : {N : Type 0} (answer : Found) (old new : WaitMarks) (past : List (Entry N))
    (told : Option (List Waited)) → new ≡ marks_found (Some answer) old
    → ◌≡◌ {A = Result Found PollRefused} (Ok answer) (Ok found.Over) → MarksStand new past told
    → new.over ≡ count is_polled past
polled_number found.Events old new past told q is o = cc
polled_number found.Quiet old new past told q is o = cc
polled_number found.Over old new past told q is o =
    ap (λ (marks : WaitMarks). marks.over) q
    ∙ (sym (ap (λ (marks : WaitMarks). marks.made) q) ∙ o.made)

-- if there is a mark, the wait of that number was answered Over
further : (answer : Waited) (earlier : List Waited) (number : ℕ) → IsOverAt number earlier
    → IsOverAt number (answer ∷ earlier)
further answer earlier number o = record {
  later = answer ∷ o.later;
  moment = o.moment;
  earlier = o.earlier;
  parts = ap (λ xs. answer ∷ xs) o.parts;
  count = o.count;
}

over_there : (told : List Waited) (before : ℕ) → last_over told ≡ suc before
    → IsOverAt (suc before) told
over_there [] before q = cc
over_there (Over at ∷ earlier) before q =
    record { later = []; moment = at; earlier = earlier; parts = refl; count = sym q }
over_there (Reports at count ∷ earlier) before q =
    further (Reports at count) earlier (suc before) (over_there earlier before q)
over_there (Quiet at ∷ earlier) before q =
    further (Quiet at) earlier (suc before) (over_there earlier before q)
over_there (Failed ∷ earlier) before q =
    further Failed earlier (suc before) (over_there earlier before q)

over_at : (told : List Waited) (number : ℕ) → number ≡ last_over told → 1 ≤ number
    → IsOverAt number told
over_at told zero q some = let none : ⊥ = omega (arith, some) in absurd none
over_at told (suc before) q some = over_there told before (sym q)

pub marks_over : {N : Type 0} (marks : WaitMarks) (past : List (Entry N))
    (calls : Option (List Call)) → 1 ≤ marks.over → MarksStand marks past (told_answers calls)
    → WhereTold (λ calls. IsOverAt marks.over (answers calls)) calls
marks_over marks past None some o = tt
marks_over marks past (Some calls) some o = over_at (answers calls) marks.over o.over.over some
