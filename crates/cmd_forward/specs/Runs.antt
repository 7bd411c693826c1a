-- What a run of `forward` took of its input, and what it gave its peer (C++NPv2 chapter 7: the
-- client logging daemon). The input told the facts i at the start of the run and tells j at its
-- end, of which at most `limit` bytes may be read; n is what the net tells at its end.
use Rattle.std.specs.Prelude.{◌≡◌, ◌≤◌, ◌+◌, ◌==◌, ◌&&◌, ◌⊎◌, ℕ, Bool, true, false, List, [], ◌∷◌}
use Rattle.std.specs.Prelude.{◌++◌, Option, Some, None}
use Rattle.ev_base.specs.Counts.{Counts}
use Rattle.ev_base.specs.End.{EndFacts, Paused, WroteNothing}
use Rattle.ev_base.specs.Net.{Call, NetFacts, Waits}
use Rattle.ev_base.specs.Source.{SourceFacts}
use Rattle.ev_base.specs.declared.dial.Finish.TheVariants as finish
use Rattle.ev_base.specs.declared.net.Report.{Report}
use Rattle.ev_base.specs.declared.net.Waited.{Waited}
use Rattle.ev_base.specs.ev_types.specs.declared.upcall.Kind.{Kind}
use Rattle.ev_base.specs.ev_types.specs.declared.upcall.Kind.TheVariants as kind
use Rattle.forwarder.specs.Feeding.{feed}
use Rattle.forwarder.specs.Forwarded.{IsWritten}
use Rattle.forwarder.specs.one_net.specs.bounded_input.specs.Input.{TakesInput}
use Rattle.reactor_model.specs.reactor_journal.specs.Past.{count}
use Rattle.reactor_model.specs.Entries.{IsAnsweredAt}
use Rattle.reactor_core.specs.Ends.{WhereTold}

-- ---- the end of the run

-- if the net tells the ends that it took back, it took this one back and no other
pub record TookBack {E : Type 0} (end : E) (n : NetFacts E) : Type 0 where
  pub retired : WhereTold (λ ends. ends ≡ (0, end) ∷ []) n.retired
  pub turned_away : WhereTold (λ ends. ends ≡ []) n.turned_away

-- or it took none back
pub record TookNoneBack {E : Type 0} (n : NetFacts E) : Type 0 where
  pub retired : WhereTold (λ ends. ends ≡ []) n.retired
  pub turned_away : WhereTold (λ ends. ends ≡ []) n.turned_away

-- A run over an end, which is the one that the net took back. These bytes were taken of the input.
-- What the end was given, and then what is still to be sent, is what is forwarded of them.
pub record HasRun {E : Type 0} (tells : E → EndFacts) (limit : ℕ) (i j : SourceFacts)
    (n : NetFacts E) : Type 0 where
  pub end : E
  pub took_back : TookBack end n
  pub failed : Bool
  pub taken : List ℕ
  pub extra : List ℕ
  pub takes : TakesInput limit failed i j taken extra
  pub sent : List ℕ
  pub rest : List ℕ
  pub whole : feed taken ≡ sent ++ rest
  pub written : IsWritten (tells end).written sent

-- no end was taken in, and nothing was taken of the input
pub record HasNotRun {E : Type 0} (limit : ℕ) (i j : SourceFacts) (n : NetFacts E) : Type 0 where
  pub none_back : TookNoneBack n
  pub failed : Bool
  pub takes : TakesInput limit failed i j [] []

-- ---- what the net's calls tell

-- a wait was answered at this moment
pub record WasAnsweredAt (moment : ℕ) (calls : List Call) : Type 0 where
  pub later : List Call
  pub most : Option ℕ
  pub answer : Waited
  pub reports : List Report
  pub earlier : List Call
  pub is : calls ≡ later ++ Waits most answer reports ∷ earlier
  pub at : IsAnsweredAt moment answer

-- how many reports of its waits say that the end may be written, whose handle is 0
abbrev pub is_write : Kind → Bool
is_write kind.Write = true
is_write _ = false

abbrev pub tells_write : Report → Bool
tells_write report = report.handle.0 == 0 && is_write report.kind

abbrev pub reports_before : Call → ℕ → ℕ
reports_before (Waits most answer reports) more = count tells_write reports + more
reports_before _ more = more

abbrev pub reports_in : List Call → ℕ
reports_in [] = 0
reports_in (call ∷ calls) = reports_before call (reports_in calls)

-- ---- what the end's calls tell

-- it was not asked whether its connection is made, or the last answer was that it is not yet
abbrev pub HasWaited : EndFacts → Type 0
HasWaited e = ((e.finishes ≡ 0) × (e.last_finish ≡ None)) ⊎ (e.last_finish ≡ Some finish.Pause)

-- it made no write
pub record WroteNone (e : EndFacts) : Type 0 where
  pub writes : e.writes ≡ 0
  pub last_write : e.last_write ≡ None
  pub written : WroteNothing e.written

-- its last write paused; or it made none, and has waited for its connection
abbrev pub HasRested : EndFacts → Type 0
HasRested e = (e.last_write ≡ Some Paused) ⊎ ((e.writes ≡ 0) × HasWaited e)

-- it made so many questions and writes, together at least as many
pub record MadeAtLeast (many : ℕ) (e : EndFacts) : Type 0 where
  pub questions : ℕ
  pub writes : ℕ
  pub asked : Counts e.finishes questions
  pub wrote : Counts e.writes writes
  pub enough : many ≤ questions + writes
