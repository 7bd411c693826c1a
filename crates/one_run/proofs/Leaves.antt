-- What a journal of one handler that is finished says of the net's ends, and of notes.
use Rattle.std.proofs.Common.{ℕ, ◌≡◌, true, List, [], ◌∷◌, ◌++◌, map, reverse, refl, ap, ◌∙◌, subst}
use Rattle.std.proofs.Common.{Some, sym}
use Rattle.std.specs.List.{list_all}
use Rattle.std.proofs.lemmas.Bool.{false≢true, and_parts, and_from}
use Rattle.std.proofs.lemmas.List.{append-nil}
use Rattle.std.proofs.lemmas.List.Folds.{list_all-append}
use Rattle.std.proofs.lemmas.Grind.{flat_map-append}
use mathlib.Core.List.{reverse-cons}
use Rattle.ev_base.specs.Terms.{Terms}
use Rattle.reactor_model.specs.reactor_journal.specs.declared.entry.Entry.{Entry}
use Rattle.reactor_model.specs.reactor_journal.specs.declared.entry.Entry.TheVariants.{Opened}
use Rattle.reactor_model.specs.reactor_journal.specs.declared.entry.Entry.TheVariants.{Scheduled}
use Rattle.reactor_model.specs.reactor_journal.specs.declared.entry.Entry.TheVariants.{Cancelled}
use Rattle.reactor_model.specs.reactor_journal.specs.declared.entry.Entry.TheVariants.{Polled, Due}
use Rattle.reactor_model.specs.reactor_journal.specs.declared.entry.Entry.TheVariants.{Ready}
use Rattle.reactor_model.specs.reactor_journal.specs.declared.entry.Entry.TheVariants.{Posted}
use Rattle.reactor_model.specs.reactor_journal.specs.declared.entry.Entry.TheVariants.{Stale}
use Rattle.reactor_model.specs.reactor_journal.specs.declared.entry.Entry.TheVariants.{Started}
use Rattle.reactor_model.specs.reactor_journal.specs.declared.entry.Entry.TheVariants.{Returned}
use Rattle.reactor_model.specs.reactor_journal.specs.declared.entry.Entry.TheVariants.{Masked}
use Rattle.reactor_model.specs.reactor_journal.specs.declared.entry.Entry.TheVariants.{Suspended}
use Rattle.reactor_model.specs.reactor_journal.specs.declared.entry.Entry.TheVariants.{Resumed}
use Rattle.reactor_model.specs.reactor_journal.specs.declared.entry.Entry.TheVariants.{Refused}
use Rattle.reactor_model.specs.reactor_journal.specs.declared.entry.Entry.TheVariants.{Removed}
use Rattle.reactor_model.specs.reactor_journal.specs.declared.entry.Entry.TheVariants.{Closed}
use Rattle.reactor_model.specs.reactor_journal.specs.declared.entry.Entry.TheVariants.{Ended}
use Rattle.reactor_model.specs.reactor_journal.specs.Past.{past_of, count, is_closed, origin_of}
use Rattle.reactor_model.specs.reactor_journal.proofs.Turning.{past_of-more, past_of-append}
use Rattle.reactor_core.specs.reactor_summary.specs.Tells.{is_refused}
use Rattle.reactor_model.specs.Handling.{Handling}
use Rattle.reactor_core.specs.Ends.{AreRetired, AreTurnedAway, WhereTold}
use Rattle.reactor_core.specs.Stands.{NetStands}
use Rattle.ev_base.specs.Net.{NetFacts}
use Rattle.reactor_model.specs.reactor_journal.specs.Follow.{is_legal}
use Rattle.reactor_core.specs.reactor_summary.proofs.Told.{told}
use Rattle.one_run.specs.Phases.{one_handle, note_of, notes_in, turns_in, is_rest, HasClosed}
use Rattle.one_run.specs.Phases.{IsFinished}
use Rattle.reactor_core.proofs.Ends.{such_told}

-- ---- retired ends

rest_reversed : {N : Type 0} (rest : List (Entry N)) → list_all is_rest rest ≡ true
    → list_all is_rest (reverse rest) ≡ true
rest_reversed [] all = refl
rest_reversed (e ∷ rest) all =
    let parts : (is_rest e ≡ true) × (list_all is_rest rest ≡ true) =
    and_parts (is_rest e) (list_all is_rest rest) all in
    ap (list_all is_rest) (reverse-cons e rest)
    ∙ (list_all-append is_rest (reverse rest) (e ∷ [])
    ∙ and_from _ _ (rest_reversed rest parts.1) (and_from _ _ parts.0 refl))

behind_rest : {H E N : Type 0} (means : Handling H E N) (t : Terms) (more past : List (Entry N))
    (ends : List (ℕ × E)) → list_all is_rest more ≡ true → AreRetired means t (more ++ past) ends
    → AreRetired means t past ends
behind_rest means t [] past ends all r = r
behind_rest means t (Polled now ∷ more) past ends all r = behind_rest means t more past ends all r
behind_rest means t (Ended ∷ more) past ends all r = behind_rest means t more past ends all r
behind_rest means t (_ ∷ more) past ends all r = absurd (false≢true all)

none_retired : {H E N : Type 0} (means : Handling H E N) (t : Terms) (past : List (Entry N))
    (ends : List (ℕ × E)) → count is_closed past ≡ 0 → AreRetired means t past ends → ends ≡ []
none_retired means t [] ends none r = r
none_retired means t (Closed handle note ∷ past) ends none r = cc
none_retired means t (Opened handle mask ∷ past) ends none r = none_retired means t past ends none r
none_retired means t (Scheduled timer handle first every ∷ past) ends none r =
    none_retired means t past ends none r
none_retired means t (Cancelled timer ∷ past) ends none r = none_retired means t past ends none r
none_retired means t (Polled now ∷ past) ends none r = none_retired means t past ends none r
none_retired means t (Due timer ∷ past) ends none r = none_retired means t past ends none r
none_retired means t (Ready handle kind ∷ past) ends none r = none_retired means t past ends none r
none_retired means t (Posted handle kind from seq ∷ past) ends none r =
    none_retired means t past ends none r
none_retired means t (Stale handle from seq ∷ past) ends none r =
    none_retired means t past ends none r
none_retired means t (Started event ∷ past) ends none r = none_retired means t past ends none r
none_retired means t (Returned event answer note ∷ past) ends none r =
    none_retired means t past ends none r
none_retired means t (Masked handle mask ∷ past) ends none r = none_retired means t past ends none r
none_retired means t (Suspended handle ∷ past) ends none r = none_retired means t past ends none r
none_retired means t (Resumed handle ∷ past) ends none r = none_retired means t past ends none r
none_retired means t (Refused live fault note ∷ past) ends none r =
    none_retired means t past ends none r
none_retired means t (Removed handle ∷ past) ends none r = none_retired means t past ends none r
none_retired means t (Ended ∷ past) ends none r = none_retired means t past ends none r

-- the one end that was retired is gone as the journal says
pub record RetiresOne {H E N : Type 0} (means : Handling H E N) (t : Terms) {h : List (Entry N)}
    (c : HasClosed h) (ends : List (ℕ × E)) : Type 0 where
  pub end : E
  pub is : ends ≡ (0, end) ∷ []
  pub gone : means.gone t (origin_of (past_of c.before) 0) end (turns_in c.before) c.reason c.note

past_closed : {N : Type 0} (h : List (Entry N)) (c : HasClosed h)
    → past_of h ≡ past_of c.rest ++ Closed one_handle c.note ∷ past_of c.before
past_closed h c = ap past_of c.is ∙ (past_of-append (c.before ++ Closed one_handle c.note ∷ [])
    c.rest ∙ ap (λ past. past_of c.rest ++ past) (past_of-more c.before (Closed one_handle c.note)))

pub retires_one : {H E N : Type 0} (means : Handling H E N) (t : Terms) (h : List (Entry N))
    (c : HasClosed h) (ends : List (ℕ × E)) → AreRetired means t (past_of h) ends
    → RetiresOne means t c ends
retires_one {E = E} means t h c ends r =
    by_ends ends (behind_rest means t (past_of c.rest) (Closed one_handle c.note ∷ past_of c.before)
    ends (rest_reversed c.rest c.quiet)
    (subst (λ past. AreRetired means t past ends) (past_closed h c) r))
  where
    by_ends : (ends : List (ℕ × E)) → AreRetired means t
        (Closed one_handle c.note ∷ past_of c.before) ends → RetiresOne means t c ends
    by_ends [] r = absurd r
    by_ends (entry ∷ more) r = record {
      end = entry.1;
      is = ap (λ rest. entry ∷ rest) (none_retired means t (past_of c.before) more c.none_closed
          r.1) ∙ ap (λ (x : ℕ). (x, entry.1) ∷ []) r.0.0;
      gone = subst (λ why. means.gone t (origin_of (past_of c.before) 0) entry.1 (turns_in c.before)
          why c.note) c.closed_for r.0.1;
    }

pub none_turned_away : {H E N : Type 0} (means : Handling H E N) (t : Terms) (past : List (Entry N))
    (ends : List E) → count is_refused past ≡ 0 → AreTurnedAway means t past ends → ends ≡ []
none_turned_away means t [] ends none r = r
none_turned_away means t (Refused live fault note ∷ past) ends none r = cc
none_turned_away means t (Opened handle mask ∷ past) ends none r =
    none_turned_away means t past ends none r
none_turned_away means t (Scheduled timer handle first every ∷ past) ends none r =
    none_turned_away means t past ends none r
none_turned_away means t (Cancelled timer ∷ past) ends none r =
    none_turned_away means t past ends none r
none_turned_away means t (Polled now ∷ past) ends none r = none_turned_away means t past ends none r
none_turned_away means t (Due timer ∷ past) ends none r = none_turned_away means t past ends none r
none_turned_away means t (Ready handle kind ∷ past) ends none r =
    none_turned_away means t past ends none r
none_turned_away means t (Posted handle kind from seq ∷ past) ends none r =
    none_turned_away means t past ends none r
none_turned_away means t (Stale handle from seq ∷ past) ends none r =
    none_turned_away means t past ends none r
none_turned_away means t (Started event ∷ past) ends none r =
    none_turned_away means t past ends none r
none_turned_away means t (Returned event answer note ∷ past) ends none r =
    none_turned_away means t past ends none r
none_turned_away means t (Masked handle mask ∷ past) ends none r =
    none_turned_away means t past ends none r
none_turned_away means t (Suspended handle ∷ past) ends none r =
    none_turned_away means t past ends none r
none_turned_away means t (Resumed handle ∷ past) ends none r =
    none_turned_away means t past ends none r
none_turned_away means t (Removed handle ∷ past) ends none r =
    none_turned_away means t past ends none r
none_turned_away means t (Closed handle note ∷ past) ends none r =
    none_turned_away means t past ends none r
none_turned_away means t (Ended ∷ past) ends none r = none_turned_away means t past ends none r

-- ---- notes

rest_notes : {N : Type 0} (rest : List (Entry N)) → list_all is_rest rest ≡ true
    → notes_in rest ≡ []
rest_notes [] all = refl
rest_notes (Polled now ∷ rest) all = rest_notes rest all
rest_notes (Ended ∷ rest) all = rest_notes rest all
rest_notes (_ ∷ rest) all = absurd (false≢true all)

-- its notes are those of the turns, and that of the closing
pub finished_notes : {N : Type 0} (h : List (Entry N)) (c : HasClosed h)
    → notes_in h ≡ map note_of (turns_in c.before) ++ c.note ∷ []
finished_notes h c =
    ap notes_in c.is
    ∙ (flat_map-append _ (c.before ++ Closed one_handle c.note ∷ []) c.rest
    ∙ (ap (λ rest. notes_in (c.before ++ Closed one_handle c.note ∷ []) ++ rest)
    (rest_notes c.rest c.quiet)
    ∙ (append-nil (notes_in (c.before ++ Closed one_handle c.note ∷ []))
    ∙ (flat_map-append _ c.before (Closed one_handle c.note ∷ [])
    ∙ ap (λ notes. notes ++ c.note ∷ []) c.notes))))

-- the one net of a run that is finished took one end back, and no other
pub one_came_back : {H E N : Type 0} (means : Handling H E N) (t : Terms) (h : List (Entry N))
    (f : IsFinished h) (net : NetFacts E) (retired : List (ℕ × E)) (turned_away : List E)
    → is_legal t.most (past_of h) ≡ true → NetStands means t (past_of h) [] net
    → net.retired ≡ Some retired → net.turned_away ≡ Some turned_away
    → (handle : ℕ) × (end : E) × (net.retired ≡ Some ((handle, end) ∷ []))
    × (net.turned_away ≡ Some [])
one_came_back means t h f net retired turned_away legal stands are away =
    let one = retires_one means t h f.closed retired
    (subst (λ told. WhereTold (λ ends. AreRetired means t (past_of h) ends) told) are
    (such_told _ _ stands.retired)) in
    let none = none_turned_away means t (past_of h) turned_away
    (sym ((told t.most (past_of h) legal).refused) ∙ ap (λ s. s.refused) f.sums)
    (subst (λ told. WhereTold (λ ends. AreTurnedAway means t (past_of h) ends) told) away
    (such_told _ _ stands.turned_away)) in
    (0, one.end, are ∙ ap Some one.is, away ∙ ap Some none)
