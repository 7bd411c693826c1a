-- The net that the tests of a reactor use: its moments and reports are laid down when it is made.
use Rattle.std.specs.Prelude.{◌≡◌, ◌+◌, ◌^◌, ℕ, Bool, true, not, ◌&&◌, ◌||◌, ◌==◌, nat_le, nat_lt}
use Rattle.std.specs.Prelude.{List, [], ◌∷◌, length, map, filter, slice_index, if◌then◌else◌}
use Rattle.std.specs.Prelude.{Option, Some, None}
use Rattle.std.specs.List.{list_any, list_all}
use Rattle.ev_base.specs.ev_types.specs.declared.upcall.Mask.{Mask}
use Rattle.ev_base.specs.Net.{NetFacts, Call, Waits, mask_has}
use Rattle.ev_base.specs.declared.net.Report.{Report}
use Rattle.ev_base.specs.declared.net.Waited.{Waited}
use Rattle.ev_base.specs.declared.net.Waited.TheVariants.{Reports, Quiet, Over}
use Rattle.ev_base.specs.Calls.{reports_of}
use Rattle.demux.specs.declared.play_end.PlayEnd.{PlayEnd}
use Rattle.demux.specs.declared.watched.Watched.{Watched}
use Rattle.demux.specs.declared.watched.Retired.{Retired}

-- What contracts see of the net. Its lists of ends and calls have the latest first, those of
-- moments and reports the order in which they were laid down.
pub record PlayContent : Type 0 where
  -- the moment of each wait in milliseconds, and the number of the next wait, which stays at their
  -- number once they are used up
  pub moments : List ℕ
  pub waits : ℕ
  -- the reports of the last wait
  pub given : List Report
  -- those that are still to be given, each with the number of the wait that it was laid down for
  pub waiting : List (ℕ × Report)
  -- the ends that are attached, retired and turned away, and how many more it has places for
  pub watched : List Watched
  pub retired : List Retired
  pub turned_away : List PlayEnd
  pub spare : ℕ
  -- the calls that it made
  pub calls : List Call

-- the moment after so many waits: that of the last of them, 0 before the first
abbrev pub reached : ℕ → List ℕ → ℕ
reached waits moments = slice_index (0 ∷ moments) waits

abbrev pub mask_of : Watched → ℕ × Mask
mask_of w = (w.handle.0, w.mask)

abbrev pub masks_of : List Watched → List (ℕ × Mask)
masks_of watched = map mask_of watched

abbrev pub handles_of : List Watched → List ℕ
handles_of watched = map (λ w. w.handle.0) watched

abbrev pub ends_of : List Retired → List (ℕ × PlayEnd)
ends_of retired = map (λ r. (r.handle.0, r.end)) retired

-- it tells all, and it never fails
abbrev pub play_net_facts : PlayContent → NetFacts PlayEnd
play_net_facts n = record {
  failed_waits = 0;
  failed_attaches = 0;
  steady = true;
  attached = handles_of n.watched;
  spare = n.spare;
  now = reached n.waits n.moments;
  reports = n.given;
  calls = Some n.calls;
  masks = Some (masks_of n.watched);
  retired = Some (ends_of n.retired);
  turned_away = Some n.turned_away;
}

-- ---- the conditions of a new net

-- the moments do not fall, from a moment on
abbrev pub do_not_fall : ℕ → List ℕ → Bool
do_not_fall low [] = true
do_not_fall low (m ∷ moments) = nat_le low m && do_not_fall m moments

-- each moment is at most 2^62
abbrev pub are_bounded : List ℕ → Bool
are_bounded moments = list_all (λ m. nat_le m (2 ^ 62)) moments

-- a net that has made no call
abbrev pub new_play : List ℕ → List (ℕ × Report) → PlayContent
new_play moments planned = record {
  moments = moments;
  waits = 0;
  given = [];
  waiting = planned;
  watched = [];
  retired = [];
  turned_away = [];
  spare = 0;
  calls = [];
}

-- ---- waiting

-- the end of this handle is attached
abbrev pub is_attached : ℕ → List Watched → Bool
is_attached handle watched = list_any (λ w. w.handle.0 == handle) watched

-- Its handle was retired after the wait that a report was laid down for, or was retired and is not
-- attached now.
abbrev pub is_gone : Bool → List Retired → ℕ × Report → Bool
is_gone attached retired planned =
    list_any (λ r. r.handle.0 == planned.1.handle.0 && (nat_lt planned.0 r.waits || not attached))
    retired

-- At wait number `wait` a report is dropped: it was laid down for this wait or an earlier one, and
-- its end is gone.
abbrev pub is_dropped : ℕ → List Watched → List Retired → ℕ × Report → Bool
is_dropped wait watched retired planned =
    nat_le planned.0 wait && is_gone (is_attached planned.1.handle.0 watched) retired planned

-- the handle of a report is attached with its kind in the mask
abbrev pub wants : List Watched → Report → Bool
wants watched report = list_any (λ w. w.handle.0 == report.handle.0 && mask_has w.mask report.kind)
    watched

-- At wait number `wait` a report is given: it was laid down for this wait or an earlier one, and it
-- is wanted.
abbrev pub is_given : ℕ → List Watched → ℕ × Report → Bool
is_given wait watched planned = nat_le planned.0 wait && wants watched planned.1

-- the reports that a wait does not drop, and of such reports those that it gives and those that it
-- leaves
abbrev pub kept_at : ℕ → List Watched → List Retired → List (ℕ × Report) → List (ℕ × Report)
kept_at wait watched retired planned = filter (λ p. not (is_dropped wait watched retired p)) planned

abbrev pub given_at : ℕ → List Watched → List (ℕ × Report) → List (ℕ × Report)
given_at wait watched planned = filter (is_given wait watched) planned

abbrev pub left_at : ℕ → List Watched → List (ℕ × Report) → List (ℕ × Report)
left_at wait watched planned = filter (λ p. not (is_given wait watched p)) planned

-- what the next wait gives and leaves
abbrev pub given_by_wait : PlayContent → List Report
given_by_wait n = reports_of (given_at n.waits n.watched
    (kept_at n.waits n.watched n.retired n.waiting))

abbrev pub left_by_wait : PlayContent → List (ℕ × Report)
left_by_wait n = left_at n.waits n.watched (kept_at n.waits n.watched n.retired n.waiting)

-- the answer at a moment with these reports
abbrev pub answer_at : ℕ → List Report → Waited
answer_at now [] = Quiet now
answer_at now (report ∷ reports) = Reports now (length (report ∷ reports))

-- Wait number k answers at moment number k, whatever its limit is. It gives the reports that were
-- laid down for it or held back before, and are wanted now. After the last moment each wait
-- answers Over at that moment, or at 0 if there is none.
abbrev pub PlaysWait : Option ℕ → PlayContent → Option ℕ → Waited → PlayContent → Type 0
PlaysWait (Some moment) old most answer new =
    (answer ≡ answer_at moment (given_by_wait old))
    × (new ≡ record old {
      waits = old.waits + 1;
      given = given_by_wait old;
      waiting = left_by_wait old;
      calls = Waits most answer (given_by_wait old) ∷ old.calls;
    })
PlaysWait None old most answer new =
    (answer ≡ Over (reached old.waits old.moments))
    × (new ≡ record old { given = []; calls = Waits most answer [] ∷ old.calls })

-- ---- ends

-- the ends with one more that is attached, with the mask of one changed, and without one
abbrev pub watching : ℕ → Mask → List Watched → List Watched
watching handle mask watched = record { handle = record { 0 = handle }; mask = mask } ∷ watched

abbrev pub masked : ℕ → Mask → Watched → Watched
masked handle mask w = if w.handle.0 == handle then record w { mask = mask } else w

abbrev pub with_mask : ℕ → Mask → List Watched → List Watched
with_mask handle mask watched = map (masked handle mask) watched

abbrev pub not_watching : ℕ → List Watched → List Watched
not_watching handle watched = filter (λ w. not (w.handle.0 == handle)) watched

-- the end that was retired last of those of a handle
abbrev pub retired_of : ℕ → List Retired → Option PlayEnd
retired_of handle [] = None
retired_of handle (r ∷ retired) = if r.handle.0
    == handle then Some r.end else retired_of handle retired
