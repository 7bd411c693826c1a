-- What is told of a journal by what volumes took and what is held, and that a journal of one
-- handler that is finished is over.
use Rattle.std.proofs.Common.{ℕ, ◌≡◌, ◌≤◌, inl, inr, true, false, List, [], ◌∷◌, ◌++◌, length, take}
use Rattle.std.proofs.Common.{drop, refl, sym, ap, ◌∙◌, arith, length-append, Option, Some, None}
use Rattle.std.proofs.Common.{Bool, ◌&&◌, if◌then◌else◌}
use Rattle.std.specs.Prelude.{option_map}
use Rattle.std.specs.Option.{option_to_list}
use Rattle.std.proofs.lemmas.List.{take-append-drop, length-take-le}
use Rattle.std.proofs.Math.Seq.{drop-append_seam}
use Rattle.ev_base.specs.Terms.{Terms}
use Rattle.reactor_model.specs.reactor_journal.specs.declared.entry.Entry.{Entry}
use Rattle.reactor_model.specs.reactor_journal.specs.declared.entry.Entry.TheVariants.{Ended}
use Rattle.reactor_model.specs.reactor_journal.specs.Past.{past_of, count, opened, was_closed}
use Rattle.reactor_model.specs.reactor_journal.specs.Past.{all_below, some_wait}
use Rattle.reactor_model.specs.reactor_journal.specs.Follow.{Legal, may_follow}
use Rattle.reactor_core.specs.reactor_summary.specs.declared.parts.LiveHandle.{LiveHandle}
use Rattle.reactor_core.specs.reactor_summary.specs.Summary.{Summary, summary}
use Rattle.reactor_core.specs.reactor_summary.specs.Tells.{Tells, listed, live_handle, is_refused}
use Rattle.reactor_core.specs.reactor_summary.proofs.Told.{told}
use Rattle.reactor_core.specs.Ends.{WhereTold}
use Rattle.reactor_core.specs.Stands.{HasTaken}
use Rattle.reactor_model.specs.Volumes.{VolumesFacts}
use Rattle.log_handler.specs.declared.note.ServerNote.{ServerNote}
use Rattle.one_run.specs.Phases.{IsFinished}
use Rattle.cmd_one.specs.Journals.{IsTold, IsTakenAndHeld, AreHandedOver, IsWholeRun}

-- what is told of the journal is the whole history
pub told_is : (t : Terms) (v w : VolumesFacts ServerNote) (F first : ℕ)
    (held h journal : List (Entry ServerNote)) → t.volumes_taken ≡ option_map length v.taken
    → WhereTold (HasTaken t F h) w.taken
    → first ≡ F → held ≡ drop F h → IsTold v w first held journal → journal ≡ h
told_is t v w F first held h journal terms taken is_first is_held (inr by) =
    by.1 ∙ (is_held ∙ ap (λ (n : ℕ). drop n h) (sym is_first ∙ by.0))
told_is t v w F first held h journal terms taken is_first is_held (inl by) =
    by_volumes v.taken w.taken terms taken by
  where
    by_volumes : (a b : Option (List (Entry ServerNote))) → t.volumes_taken ≡ option_map length a
        → WhereTold (HasTaken t F h) b → IsTakenAndHeld a b held journal → journal ≡ h
    by_volumes None b terms taken by = absurd by
    by_volumes (Some before) None terms taken by = absurd by
    by_volumes (Some before) (Some after) terms taken by =
        let same : length taken.0 ≡ length before = taken.2 (length before) terms in
        let front : drop (length before) after ≡ take F h =
        ap (λ (n : ℕ). drop n after) (sym same)
        ∙ (ap (λ (entries : List (Entry ServerNote)). drop (length taken.0) entries) taken.1
        ∙ drop-append_seam taken.0 (take F h)) in
        by ∙ (ap (λ (entries : List (Entry ServerNote)). drop (length before) after ++ entries)
        is_held
        ∙ (ap (λ (entries : List (Entry ServerNote)). entries ++ drop F h) front
        ∙ take-append-drop F h))

-- and as many entries were handed over
pub handed_over : (t : Terms) (v w : VolumesFacts ServerNote) (F first : ℕ)
    (h : List (Entry ServerNote)) → t.volumes_taken ≡ option_map length v.taken
    → WhereTold (HasTaken t F h) w.taken
    → first ≡ F → F ≤ length h → AreHandedOver v.taken w.taken first
handed_over t v w F first h terms taken is_first within = by v.taken w.taken terms taken
  where
    by : (a b : Option (List (Entry ServerNote))) → t.volumes_taken ≡ option_map length a
        → WhereTold (HasTaken t F h) b → AreHandedOver a b first
    by None b terms taken = tt
    by (Some before) None terms taken = tt
    by (Some before) (Some after) terms taken =
        omega (
          arith,
          taken.2 (length before) terms,
          ap length taken.1
              ∙ length-append taken.0 (take F h),
          length-take-le F h within,
          is_first,
        )

-- nothing was handed over to volumes that took nothing
pub none_handed_over : {N : Type 0} (taken : Option (List (Entry N))) → AreHandedOver taken taken 0
none_handed_over None = tt
none_handed_over (Some taken) = omega arith

-- no handler was refused in a journal that is finished
pub finished_refuses_none : (h : List (Entry ServerNote)) → Legal h 1 → IsFinished h
    → count is_refused (past_of h) ≡ 0
finished_refuses_none h legal f = sym ((told 1 (past_of h) legal).refused)
    ∙ ap (λ (s : Summary). s.refused) f.sums

-- a handle that is not among the live ones, which are none, was closed
was_closed_by : (b : Bool) (live : LiveHandle)
    → [] ≡ [] ++ option_to_list (if b then None else Some live) → b ≡ true
was_closed_by true live q = refl
was_closed_by false live q = absurd (no_list live q)
  where
    no_list : (live : LiveHandle) → ◌≡◌ {A = List LiveHandle} [] (live ∷ []) → ⊥
    no_list live q = cc

-- the journal of a run that is finished is over
pub finished_is_over : (h : List (Entry ServerNote)) → Legal h 1 → IsFinished h → IsWholeRun h
finished_is_over h legal f = record {
  legal = legal;
  stopped = sym tells.ended ∙ ap (λ (s : Summary). s.ended) f.sums;
  closed = all_closed;
}
  where
    tells : Tells (past_of h) (summary (past_of h))
    tells = told 1 (past_of h) legal

    one : opened (past_of h) ≡ 1
    one = sym tells.opened ∙ ap (λ (s : Summary). s.opened) f.sums

    none_live : [] ≡ listed (live_handle (past_of h)) 1
    none_live = sym (ap (λ (s : Summary). s.handles) f.sums)
        ∙ (tells.handles ∙ ap (λ (n : ℕ). listed (live_handle (past_of h)) n) one)

    closed : was_closed (past_of h) 0 ≡ true
    closed = was_closed_by (was_closed (past_of h) 0) _ none_live

    all_closed : all_below (opened (past_of h)) (was_closed (past_of h)) ≡ true
    all_closed = ap (λ (n : ℕ). all_below n (was_closed (past_of h))) one
        ∙ ap (λ (b : Bool). b && true) closed

-- the end alone is over
pub end_is_over : IsWholeRun (Ended ∷ [])
unfolding may_follow some_wait
end_is_over = record { legal = refl; stopped = refl; closed = refl }
