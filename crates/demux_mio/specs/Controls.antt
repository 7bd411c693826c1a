-- Standard input as a control.
use Rattle.std.specs.Prelude.{◌≡◌, Bool, true, false, Option, Some, None, Result, Ok, Err}
use Rattle.ev_base.specs.declared.source.Got.{Got}
use Rattle.ev_base.specs.declared.source.Got.TheVariants as got
use Rattle.ev_base.specs.declared.net.Waited.{Waited}
use Rattle.ev_base.specs.declared.net.Waited.TheVariants.{Reports, Quiet, Over, Failed}
use Rattle.demux_mio.specs.declared.control.Control.{Control}

-- a read found the end, or failed, and so gives nothing more
abbrev pub is_end : Got → Bool
is_end (got.Bytes n) = false
is_end got.Pause = false
is_end got.Over = true
is_end got.Failed = true

-- if it is watched it has not ended; if it cannot be watched it has ended, or the system
-- refused for another cause, which is handed on
abbrev pub EndsAtOnce : {E : Type 0} → Result (Unit {0}) E → Result Bool E → Type 0
EndsAtOnce (Ok u) (Ok ended) = ended ≡ false
EndsAtOnce (Ok u) (Err e) = ⊥
EndsAtOnce (Err e) (Ok ended) = ended ≡ true
EndsAtOnce (Err e) (Err f) = f ≡ e

-- a net has a control whose end was found; without a control it has none
abbrev pub has_ended : Option Control → Bool
has_ended None = false
has_ended (Some control) = control.ended

-- a wait was answered with Over
abbrev pub is_over : Waited → Bool
is_over (Reports now count) = false
is_over (Quiet now) = false
is_over (Over now) = true
is_over Failed = false

-- A wait with this control answers Over exactly if its end was found by then. An end that was
-- found before is not forgotten; and no net without a control gets one.
pub record EndsWith (old : Option Control) (answer : Waited) (new : Option Control) : Type 0 where
  pub over : is_over answer ≡ has_ended new
  pub stays : has_ended old ≡ true → has_ended new ≡ true
  pub none : old ≡ None → new ≡ None
