-- A desk that begins stands for the history of its reactor.
use Rattle.std.proofs.Common.{ℕ, ◌≡◌, List, [], ◌∷◌, length, drop, refl, sym, ap, subst, arith}
use Rattle.ev_base.specs.Terms.{Terms}
use Rattle.notify_ring.specs.Words.{drainer_view}
use Rattle.notify_ring.specs.declared.parts.Drainer.{Drainer}
use Rattle.notify_ring.specs.declared.view.View.{View}
use Rattle.reactor_model.specs.reactor_journal.specs.declared.entry.Entry.{Entry}
use Rattle.reactor_model.specs.reactor_journal.specs.Past.{count}
use Rattle.laws_by_turns.specs.ByTurns.{GoesByTurns}
use Rattle.laws_by_turns.proofs.Turns.{by_turns_from_end}
use Rattle.reactor_core.specs.Marks.{is_polled}
use Rattle.reactor_core.specs.Stands.{Meaning, Stands}
use Rattle.reactor_core.specs.declared.reactor.Core.{Core}
use Rattle.reactor_desk.specs.Notices.{AreRecorded}
use Rattle.reactor_desk.specs.Begins.{CanShare, desk_terms}
use Rattle.reactor_desk.specs.Desks.{DeskStands, FillsVolume, is_started}

none_behind : {A : Type 0} (xs : List A) → drop (length xs) xs ≡ []
none_behind [] = refl
none_behind (x ∷ xs) = none_behind xs

pub desk_begins : {H M Q W V N E : Type 0} (m : Meaning H M Q W V N E) (t : Terms) (F : ℕ)
    (h : List (Entry N)) (core : Core H M Q W V N E) (drainer : Drainer) → Stands m t core F h
    → CanShare t h drainer → FillsVolume core.volume F
    → DeskStands m (desk_terms t h core.volume drainer) F
    (record { core = core; drainer = drainer }) h
desk_begins {N = N} m t F h core drainer o can filled = record {
  core = o;
  volume = refl;
  filled = filled;
  by_turn = λ b named. subst (λ (n : ℕ). GoesByTurns m.means t n h) (sym (can.turns b named))
      (by_turns_from_end m.means t h);
  ring = refl;
  recorded = subst (λ es. AreRecorded es (drainer_view drainer).got) (sym can.no_notice)
      (subst (AreRecorded {N = N} []) (sym (ap (λ (v : View). v.got) can.fresh)) tt);
  waits = omega (arith, ap (count is_polled) (none_behind h));
  starts = omega (arith, ap (count is_started) (none_behind h));
}
