-- A reactor that begins, and one that is over.
use Rattle.std.proofs.Common.{ℕ, ◌≡◌, ◌==◌, ◌≤◌, true, false, List, [], length, refl, sym, ap}
use Rattle.std.proofs.Common.{subst, arith, Option, Some, None}
use Rattle.std.specs.List.{list_any}
use Rattle.std.proofs.lemmas.List.{append-nil}
use Rattle.ev_base.specs.Terms.{Terms}
use Rattle.ev_base.specs.Net.{NetFacts, IsNew, HasNone}
use Rattle.reactor_model.specs.reactor_journal.specs.declared.entry.Entry.{Entry}
use Rattle.reactor_model.specs.reactor_journal.specs.Past.{past_of}
use Rattle.reactor_summary.specs.declared.parts.LiveHandle.{LiveHandle}
use Rattle.reactor_summary.specs.Summary.{summary, nothing}
use Rattle.reactor_model.specs.Handling.{Handling}
use Rattle.handler_repo.specs.Seats as R
use Rattle.reactor_state.specs.State.{no_places}
use Rattle.reactor_core.specs.Handlers.{SeatStands}
use Rattle.reactor_core.specs.Ends.{WhereTold}
use Rattle.reactor_core.specs.Calls.{AreCalls}
use Rattle.reactor_model.specs.Volumes.{IsNext}
use Rattle.reactor_core.specs.Stands.{Meaning, NetStands, HasTaken, Stands}
use Rattle.reactor_core.specs.Beginning.{IsShutDown}
use Rattle.reactor_core.specs.declared.reactor.Core.{Core}
use Rattle.reactor_core.proofs.Seats.{no_seats}
use Rattle.reactor_core.proofs.Moves.{absent}
use Rattle.reactor_core.proofs.WaitNumbers.{marks_begin}

told_none : {A : Type 0} (P : List A → Type 0) (told : Option (List A)) → P [] → HasNone told
    → WhereTold P told
told_none P None p h = tt
told_none P (Some xs) p h = subst P (sym h) p

new_net : {H E N : Type 0} (means : Handling H E N) (t : Terms) (net : NetFacts E) → IsNew net
    → (t.steady ≡ Some true → net.steady ≡ true) → NetStands {N = N} means t [] [] net
new_net {N = N} means t net n steady = record {
  retired = ([], refl, told_none (λ b. b ≡ []) net.retired refl n.retired);
  turned_away = ([], refl, told_none (λ b. b ≡ []) net.turned_away refl n.turned_away);
  attached = n.attached;
  masks = told_none (λ masks. masks ≡ []) net.masks refl n.masks;
  faults = omega arith;
  steady = steady;
  calls = told_none (AreCalls {N = N} means t [] []) net.calls refl n.calls;
  moment = omega arith;
}

taken_at_first : {N : Type 0} (t : Terms) (told : Option (List (Entry N)))
    → WhereTold (λ entries. (n : ℕ) → t.volumes_taken ≡ Some n → length entries ≡ n) told
    → WhereTold (HasTaken t 0 []) told
taken_at_first t None h = tt
taken_at_first t (Some taken) h = (taken, sym (append-nil taken), h)

pub record Begins {H M Q W V N E : Type 0} (m : Meaning H M Q W V N E)
    (core : Core H M Q W V N E) : Type 0 where
  pub few : core.most ≤ 4097
  pub first : core.first ≡ 0
  pub journal : core.journal.entries ≡ []
  pub spare : 1 ≤ core.journal.spare
  pub state : m.shows core.state nothing
  pub places : m.places no_places core.state
  pub repo : core.repo.entries ≡ []
  pub marks : core.marks ≡ record { made = 0; over = 0 }

pub begun : {H M Q W V N E : Type 0} (m : Meaning H M Q W V N E) (t : Terms)
    (core : Core H M Q W V N E) → Begins m core → t.most ≡ core.most → IsNew (m.facts core.net)
    → (t.steady ≡ Some true → (m.facts core.net).steady ≡ true) → m.keeps t core.net
    → m.watched t core.watch []
    → WhereTold (λ entries. (n : ℕ) → t.volumes_taken ≡ Some n → length entries ≡ n)
    (m.volumes core.volumes).taken → IsNext (m.volumes core.volumes).next 0
    → Stands m t core 0 []
begun {H = H} {N = N} m t core d most fresh steady keeps watch taken next = record {
  tracks = record {
    most = sym most;
    few = d.few;
    legal = refl;
    journal = record { first = d.first; within = omega arith; entries = d.journal };
    state = d.state;
    repository = λ x. subst (λ es. SeatStands {N = N} m.means t [] x (R.seat_of x es)) (sym d.repo)
        refl;
    net = new_net m.means t (m.facts core.net) fresh steady;
    keeps = keeps;
    watch = watch;
    volumes = record { taken = taken_at_first t (m.volumes core.volumes).taken taken; next = next };
    marks = marks_begin core.marks (m.facts core.net).calls d.marks fresh.calls;
  };
  settled = record { none_waits = refl; none_due = refl; none_alive = λ e. refl };
  room = record {
    journal = omega (arith, d.spare);
    numbers = omega arith;
    state = d.places;
    repository = omega arith;
    net = omega arith;
  };
}

pub over_no_seat : {H M Q W V N E : Type 0} (m : Meaning H M Q W V N E) (t : Terms)
    (core : Core H M Q W V N E) (F : ℕ) (h : List (Entry N)) → Stands m t core F h
    → IsShutDown (summary (past_of h)) → core.repo.entries ≡ []
over_no_seat m t core F h st o = no_seats core.repo.entries
    (λ x. (absent m.means t false (past_of h) x (R.seat_of x core.repo.entries)
    (ap (list_any (λ (a : LiveHandle). a.handle.0 == x)) o.none_live) (st.tracks.repository x)).1)
