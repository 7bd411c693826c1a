-- What a net was asked to watch, by the calls that it made, the latest first.
use Rattle.std.specs.Prelude.{◌≡◌, ◌≢◌, ℕ, ◌==◌, Bool, true, false, List, [], ◌∷◌, if◌then◌else◌}
use Rattle.std.specs.Prelude.{Option}
use Rattle.std.specs.Prelude.{Some, None, option_map, nat_eq}
use Rattle.std.specs.HashMap.{HashMap, get}
use Rattle.ev_base.specs.ev_types.specs.declared.upcall.Kind.{Kind}
use Rattle.ev_base.specs.ev_types.specs.declared.upcall.Kind.TheVariants.{Except}
use Rattle.ev_base.specs.ev_types.specs.declared.upcall.Mask.{Mask}
use Rattle.ev_base.specs.declared.net.Report.{Report}
use Rattle.ev_base.specs.Net.{Call, Waits, Attaches, SetsMask, Retires, TurnsAway, without}
use Rattle.ev_base.specs.Net.{mask_has}
use Rattle.demux_mio.specs.declared.watched.Watched.{Watched}

-- the handles that are attached
abbrev pub attached_in : List Call → List ℕ
attached_in [] = []
attached_in (Waits most answer reports ∷ calls) = attached_in calls
attached_in (Attaches handle mask serial ∷ calls) = handle ∷ attached_in calls
attached_in (SetsMask handle mask ∷ calls) = attached_in calls
attached_in (Retires handle ∷ calls) = without handle (attached_in calls)
attached_in (TurnsAway serial ∷ calls) = attached_in calls

-- the mask of a handle, if that is attached
abbrev pub mask_in : ℕ → List Call → Option Mask
mask_in h [] = None
mask_in h (Waits most answer reports ∷ calls) = mask_in h calls
mask_in h (Attaches handle mask serial ∷ calls) = if handle == h then Some mask else mask_in h calls
mask_in h (SetsMask handle mask ∷ calls) =
    if handle == h then option_map (λ _. mask) (mask_in h calls) else mask_in h calls
mask_in h (Retires handle ∷ calls) = if handle == h then None else mask_in h calls
mask_in h (TurnsAway serial ∷ calls) = mask_in h calls

abbrev pub wants : Option Mask → Kind → Bool
wants None kind = false
wants (Some mask) kind = mask_has mask kind

-- the handle of a report is attached, with its kind in the mask; and exceptional data, which is not
-- watched, is never reported
pub record IsWanted (calls : List Call) (report : Report) : Type 0 where
  pub wanted : wants (mask_in report.handle.0 calls) report.kind ≡ true
  pub never : report.kind ≢ Except

-- a table of sockets has those that are attached, with their masks
abbrev pub Agrees : {S : Type 0} → HashMap ℕ Watched S → List Call → Type 0
Agrees table calls = (h : ℕ) → option_map (λ w. w.mask) (get nat_eq table h) ≡ mask_in h calls
