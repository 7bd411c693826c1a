-- What the net in memory answers a wait: one report of the one end that it is for at each moment
-- that was laid down, by the rules of nets that play scripts (POSA2, Reactor: Synchronous Event
-- Demultiplexer; scripts are this project's own).
use Rattle.std.specs.Prelude.{◌+◌, ◌-◌, ◌^◌, ℕ, zero, suc, min, nat_lt, nat_le, Bool, true, false}
use Rattle.std.specs.Prelude.{◌&&◌, if◌then◌else◌, List, [], ◌∷◌, slice_get, Option, Some, None}
use Rattle.std.specs.List.{list_all}
use Rattle.ev_base.specs.ev_types.specs.declared.upcall.Mask.{Mask}
use Rattle.ev_base.specs.Playing.{most_reports, is_late, time_up}
use Rattle.ev_base.specs.declared.net.Waited.{Waited}
use Rattle.ev_base.specs.declared.net.Waited.TheVariants.{Reports, Quiet, Over}
use Rattle.dial_memory.specs.declared.moments.Came.{Came}

-- the moments do not fall, from a moment on
abbrev pub do_not_fall : ℕ → List ℕ → Bool
do_not_fall low [] = true
do_not_fall low (m ∷ moments) = nat_le low m && do_not_fall m moments

-- each moment is at most 2^62
abbrev pub are_bounded : List ℕ → Bool
are_bounded moments = list_all (λ m. nat_le m (2 ^ 62)) moments

-- the handle of the first end, the latest attached first, that wants to write
abbrev pub first_writer : List (ℕ × Mask) → Option ℕ
first_writer [] = None
first_writer (entry ∷ masks) = if entry.1.write then Some entry.0 else first_writer masks

-- how many of the reports that are held back are given now
abbrev pub given_now : Option ℕ → ℕ → ℕ
given_now None held = 0
given_now (Some handle) held = min held most_reports

-- What a new report comes to: it is given, or held back while nobody wants it, or dropped if its
-- end is gone for good.
abbrev pub given_new : Bool → Option ℕ → ℕ
given_new false (Some handle) = 1
given_new _ _ = 0

abbrev pub held_new : Bool → Option ℕ → ℕ
held_new false None = 1
held_new _ _ = 0

-- the answer at a moment with so many reports
abbrev pub answer_with : ℕ → ℕ → Waited
answer_with now zero = Quiet now
answer_with now (suc n) = Reports now (suc n)

-- 1. If reports that were held back can be given, they are, at the present moment.
abbrev pub of_held : ℕ → ℕ → ℕ → ℕ → Came
of_held given next now held = record {
  answer = Reports now given;
  given = given;
  now = now;
  next = next;
  held = held - given;
}

-- 2. Else, if no moment is left, nothing can be reported any more. 3. Else, if the next
--    moment comes later than the wait may last, nothing is reported when the time is up. 4. Else
--    the moment comes, with its report.
abbrev pub of_moment : Option ℕ → ℕ → ℕ → ℕ → Bool → Option ℕ → Option ℕ → Came
of_moment None next now held gone writer most =
    record { answer = Over now; given = 0; now = now; next = next; held = held }
of_moment (Some moment) next now held gone writer most =
    if is_late most now moment
    then record {
      answer = Quiet (time_up most now);
      given = 0;
      now = time_up most now;
      next = next;
      held = held;
    }
    else record {
      answer = answer_with moment (given_new gone writer);
      given = given_new gone writer;
      now = moment;
      next = next + 1;
      held = held + held_new gone writer;
    }

abbrev pub came_of : List ℕ → ℕ → ℕ → ℕ → Bool → Option ℕ → Option ℕ → Came
came_of moments next now held gone writer most =
    if nat_lt 0 (given_now writer held) then of_held (given_now writer held) next now held
    else of_moment (slice_get moments next) next now held gone writer most
