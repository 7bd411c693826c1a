-- The registration of the acceptor with a reactor that has no handler.
use Rattle.std.proofs.Common.{ℕ, ◌≡◌, ◌≤◌, ◌<◌, ◌^◌, ◌++◌, ◌⊎◌, inl, inr, ⊎_elim, List, [], ◌∷◌}
use Rattle.std.proofs.Common.{refl, sym, ap, ◌∙◌, subst, arith, Bool, true, false, Option, Some}
use Rattle.std.proofs.Common.{None}
use Rattle.std.specs.Prelude.{IfSome, Result, Ok, Err}
use Rattle.std.proofs.lemmas.Bool.{false≢true}
use Rattle.ev_base.specs.ev_types.specs.declared.upcall.Handle.{Handle}
use Rattle.ev_base.specs.ev_types.specs.declared.upcall.Kind.{Kind}
use Rattle.ev_base.specs.ev_types.specs.declared.upcall.Mask.{Mask}
use Rattle.ev_base.specs.ev_types.specs.declared.upcall.Upcall.{Upcall}
use Rattle.ev_base.specs.ev_types.specs.declared.upcall.Upcall.TheVariants.{Input, Output, Except}
use Rattle.ev_base.specs.ev_types.specs.declared.upcall.Upcall.TheVariants.{Timeout, Notice}
use Rattle.ev_base.specs.Counts.{Rose}
use Rattle.ev_base.specs.End.{EndFacts}
use Rattle.ev_base.specs.Net.{NetFacts}
use Rattle.ev_base.specs.declared.end.PeerEnd.{Ghosts}
use Rattle.ev_base.specs.ev_types.specs.declared.upcall.Answer.TheVariants.{Keep}
use Rattle.log_handler.specs.reactor_journal.specs.Event.{Item}
use Rattle.ev_base.specs.Terms.{Terms}
use Rattle.tp_reactor.specs.timer_queue.specs.declared.timer.Timer.{Timer}
use Rattle.log_handler.specs.reactor_journal.specs.declared.entry.Entry.{Entry}
use Rattle.log_handler.specs.reactor_journal.specs.declared.entry.Entry.TheVariants.{Opened}
use Rattle.log_handler.specs.reactor_model.specs.Handling.{Stopping}
use Rattle.log_handler.specs.reactor_model.specs.Volumes.{VolumesFacts}
use Rattle.acceptor.specs.Accepting as accepting
use Rattle.acceptor.specs.Servers.{ServerMay, read_alone, servers}
use Rattle.log_handler.specs.Connection as talking
use Rattle.log_handler.specs.declared.note.ServerNote.{ServerNote}
use Rattle.tp_reactor.specs.reactor_core.specs.Offering.{RegisterGives}
use Rattle.tp_reactor.specs.reactor_core.specs.Stands.{Meaning, Stands}
use Rattle.tp_reactor.specs.reactor_core.specs.Views.{net_of, volumes_of}
use Rattle.tp_reactor.specs.reactor_core.specs.declared.reactor.Core.{Core}
use Rattle.tp_reactor.specs.reactor_core.specs.declared.registering.RegisterRefused.{
  RegisterRefused,
}
use Rattle.tp_reactor.specs.reactor_core.specs.declared.registering.RegisterRefused.TheVariants
    as refused
use Rattle.server_run.specs.Finishing.{Finishes, KeepsCounts, named}
use Rattle.server_run.specs.Journals.{first_entry}
use Rattle.server_run.specs.Opening.{OpenCounts, SameCounts, refused_ending}
use Rattle.tp_reactor.specs.reactor_core.specs.Refusals.{MayRefuseFirst}
use Rattle.server_run.specs.Served.{FaultRose, HasCauses, LeavesRun}
use Rattle.server_run.specs.declared.asked.Asked.{Asked}
use Rattle.server_run.specs.declared.ending.Ending.{Ending}
use Rattle.server_run.specs.declared.ending.Ending.TheVariants as ending
use Rattle.server_run.specs.declared.ending.Served.{Served}
use Rattle.server_run.proofs.Notified.{KeepsNotices}
use Rattle.server_run.proofs.Leaving.{broken_told, leaves_unled, none_handed_over}

-- a turn of a server's handler stops the reactor at a notice alone
pub may_stop : (t : Terms) (up : Upcall) → ServerMay t up Stopping → (kind : Kind)
    × (up ≡ Notice kind)
may_stop t Input may = absurd may
may_stop t (Notice kind) may = (kind, refl)
may_stop t Output may = absurd may
may_stop t Except may = absurd may
may_stop t (Timeout timer) may = absurd may

-- a turn of a notice was answered Keep
accepting_keeps : (start p : accepting.Progress) (before : List (Item ServerNote))
    (item : Item ServerNote) (kind : Kind) → accepting.Course start (before ++ item ∷ []) p
    → item.upcall ≡ Notice kind → item.answer ≡ Keep
accepting_keeps start p [] item kind course is =
    let turn : accepting.MakesNoAccept start item course.0 =
    subst (λ (up : Upcall). accepting.ServesUpcall up start item course.0) is course.1 in
    turn.answers
accepting_keeps start p (b ∷ before) item kind course is =
    accepting_keeps course.0 p before item kind course.2 is

talking_keeps : (conn : ℕ) (idle : Option ℕ) (start p : talking.Progress)
    (before : List (Item ServerNote)) (item : Item ServerNote) (kind : Kind)
    → talking.Course conn idle start (before ++ item ∷ []) p → item.upcall ≡ Notice kind
    → item.answer ≡ Keep
talking_keeps conn idle start p [] item kind course is =
    let turn : talking.MakesNoRead conn start Keep None item course.0 =
    subst (λ (up : Upcall). talking.ServesUpcall up conn idle start item course.0) is
    course.1.serves in
    turn.answers
talking_keeps conn idle start p (b ∷ before) item kind course is =
    talking_keeps conn idle course.0 p before item kind course.2 is

pub keeps_notices : {E : Type 0} (G : Ghosts E) (tells : E → EndFacts) (keeps : Terms → E → Type 0)
    → KeepsNotices (servers {E = E} {G = G} tells keeps)
keeps_notices G tells keeps t origin end before item why note kind gone is = ⊎_elim
    (λ listens. accepting_keeps _ listens.listened.now before item kind listens.listened.course is)
    (λ talks. talking_keeps talks.conn talks.idle _ talks.served.now before item kind
    talks.served.course is)
    gone

entry_at : ℕ → List (Entry ServerNote)
entry_at n = Opened (record { 0 = n }) read_alone ∷ []

is_first : (h : Handle) → h.0 ≡ 0 → ◌≡◌ {A = List (Entry ServerNote)} (Opened h read_alone ∷ [])
    (first_entry ∷ [])
unfolding entry_at
is_first h is = ap entry_at is

no_place : {P : Type 0} (most : ℕ) → 0 ≡ most → 1 ≤ most → P
no_place most none some = absurd (omega (arith, none, some))

no_more : {P : Type 0} → ◌≡◌ {A = ℕ} 0 4294967295 → P
no_more is = absurd (omega (arith, is))

module _ {H M Q W V E : Type 0} (m : Meaning H M Q W V ServerNote E) where
  pub registered_first : (t : Terms) (mask : Mask) (old : Core H M Q W V ServerNote E)
      (handle : Handle) (new : Core H M Q W V ServerNote E) → mask ≡ read_alone
      → RegisterGives m t 0 [] mask None old (Ok handle) new → Stands m t new 0 (first_entry ∷ [])
  registered_first t mask old handle new read gives =
      let g = subst (λ (mask : Mask). RegisterGives m t 0 [] mask None old (Ok handle) new) read
      gives in
      subst (λ (k : List (Entry ServerNote)). Stands m t new 0 k) (is_first handle g.1) g.2

  pub refused_for : (t : Terms) (mask : Mask) (old : Core H M Q W V ServerNote E) (back : H)
      (why : RegisterRefused) (new : Core H M Q W V ServerNote E) → 1 ≤ t.most
      → RegisterGives m t 0 [] mask None old (Err (back, why)) new → MayRefuseFirst why
      × Stands m t new 0 []
  refused_for t mask old back refused.Stopped new place gives = absurd (false≢true gives.0)
  refused_for t mask old back (refused.Full live opened) new place gives =
      ⊎_elim (λ all. no_place t.most all place) (λ all. no_more all) gives.1
  refused_for t mask old back refused.NoMemory new place gives = (tt, gives.1.stands)
  refused_for t mask old back refused.NetFailed new place gives = (tt, gives.2.stands)

  rose_refused : (t : Terms) (mask : Mask) (old : Core H M Q W V ServerNote E) (back : H)
      (why : RegisterRefused) (new : Core H M Q W V ServerNote E) (net : NetFacts E)
      (volumes volumes' : VolumesFacts ServerNote)
      → net.failed_attaches ≡ (m.facts (net_of new)).failed_attaches
      → RegisterGives m t 0 [] mask None old (Err (back, why)) new
      → FaultRose (refused_ending why) (m.facts (net_of old)) net volumes volumes'
  rose_refused t mask old back refused.Stopped new net volumes volumes' same gives = tt
  rose_refused t mask old back (refused.Full live opened) new net volumes volumes' same gives = tt
  rose_refused t mask old back refused.NoMemory new net volumes volumes' same gives = tt
  rose_refused t mask old back refused.NetFailed new net volumes volumes' same gives =
      subst (λ (n : ℕ). Rose (m.facts (net_of old)).failed_attaches n) (sym same) gives.1

  rose_named : (how now : Ending) (b : Bool) (net net' : NetFacts E)
      (volumes volumes' : VolumesFacts ServerNote) → now ≡ named how b
      → FaultRose how net net' volumes volumes' → FaultRose now net net' volumes volumes'
  rose_named how now true net net' volumes volumes' is rose =
      subst (λ (x : Ending). FaultRose x net net' volumes volumes') (sym is) tt
  rose_named how now false net net' volumes volumes' is rose =
      subst (λ (x : Ending). FaultRose x net net' volumes volumes') (sym is) rose

  pub refused_causes : (t : Terms) (mask : Mask) (old : Core H M Q W V ServerNote E) (back : H)
      (why : RegisterRefused) (new : Core H M Q W V ServerNote E) (served : Served M Q W V)
      → RegisterGives m t 0 [] mask None old (Err (back, why)) new
      → served.ending ≡ named (refused_ending why) (m.is_broken served.parts.watch)
      → KeepsCounts m new served.parts → HasCauses m (net_of old) (volumes_of old) served
  refused_causes t mask old back why new served gives is counts = record {
    rose = rose_named (refused_ending why) served.ending (m.is_broken served.parts.watch)
        (m.facts (net_of old)) (m.facts served.parts.net) _ _ is
        (rose_refused t mask old back why new (m.facts served.parts.net)
        (m.volumes (volumes_of old)) (m.volumes served.parts.volumes) counts.attaches gives);
    told = broken_told (refused_ending why) served.ending (m.is_broken served.parts.watch) is;
  }

  -- a run that ended for want of memory, whatever it began with
  pub memory_causes : (net : M) (volumes : V) (served : Served M Q W V)
      → served.ending ≡ named ending.NoMemory (m.is_broken served.parts.watch)
      → HasCauses m net volumes served
  memory_causes net volumes served is = record {
    rose = rose_named ending.NoMemory served.ending (m.is_broken served.parts.watch) (m.facts net)
        (m.facts served.parts.net) (m.volumes volumes) (m.volumes served.parts.volumes) is tt;
    told = broken_told ending.NoMemory served.ending (m.is_broken served.parts.watch) is;
  }

  refused_for_one : (why : RegisterRefused) → (refused_ending why ≡ ending.NotAttached)
      ⊎ (refused_ending why ≡ ending.NoMemory)
  refused_for_one refused.Stopped = inr refl
  refused_for_one (refused.Full live opened) = inr refl
  refused_for_one refused.NoMemory = inr refl
  refused_for_one refused.NetFailed = inl refl

  pub refused_leaves : (armed : Q → List Timer) (t : Terms) (asked : Asked) (why : RegisterRefused)
      (core : Core H M Q W V ServerNote E) (served : Served M Q W V)
      → served.ending ≡ named (refused_ending why) (m.is_broken served.parts.watch)
      → Finishes m armed t 0 [] core served.parts → LeavesRun m armed t asked served
  refused_leaves armed t asked why core served is fin =
      leaves_unled m armed t asked (refused_ending why) served is 0 [] core fin
      (none_handed_over asked.volume) (inl refl)
      (refused_for_one why) (λ apart. refl)

  pub unshared_leaves : (armed : Q → List Timer) (t : Terms) (asked : Asked)
      (core : Core H M Q W V ServerNote E) (served : Served M Q W V)
      → served.ending ≡ named ending.NoMemory (m.is_broken served.parts.watch)
      → Finishes m armed t 0 (first_entry ∷ []) core served.parts → LeavesRun m armed t asked served
  unshared_leaves armed t asked core served is fin =
      leaves_unled m armed t asked ending.NoMemory served is 0 (first_entry ∷ []) core fin
      (none_handed_over asked.volume) (inr refl) (inr refl)
      (λ apart. absurd (let not : ending.NoMemory ≡ ending.NotAttached = apart in cc))

-- ---- counts

-- causes since a net and volumes are causes since others with the same counts
causes_since : {H M Q W V N E : Type 0} (m : Meaning H M Q W V N E) (now : Ending)
    (old net : NetFacts E) (left : NetFacts E) (volumes volumes' volumes'' : VolumesFacts N)
    → net.failed_waits ≡ old.failed_waits → net.failed_attaches ≡ old.failed_attaches
    → volumes'.faults ≡ volumes.faults → FaultRose now net left volumes' volumes''
    → FaultRose now old left volumes volumes''
causes_since m ending.Broken old net left volumes volumes' volumes'' waits attaches faults rose = tt
causes_since m ending.NotAttached old net left volumes volumes' volumes'' waits attaches faults
    rose = subst (λ (n : ℕ). Rose n left.failed_attaches) attaches rose
causes_since m ending.NetFault old net left volumes volumes' volumes'' waits attaches faults rose =
    subst (λ (n : ℕ). Rose n left.failed_waits) waits rose
causes_since m ending.NoMemory old net left volumes volumes' volumes'' waits attaches faults rose =
    tt
causes_since m ending.VolumeFault old net left volumes volumes' volumes'' waits attaches faults
    rose = subst (λ (n : ℕ). Rose n volumes''.faults) faults rose
causes_since m ending.Notified old net left volumes volumes' volumes'' waits attaches faults rose =
    tt
causes_since m ending.Over old net left volumes volumes' volumes'' waits attaches faults rose = tt

pub causes_of : {H M Q W V N E : Type 0} (m : Meaning H M Q W V N E) (net : M) (volumes : V)
    (core : Core H M Q W V N E) (served : Served M Q W V) → SameCounts m net volumes core
    → HasCauses m (net_of core) (volumes_of core) served → HasCauses m net volumes served
causes_of m net volumes core served same has = record {
  rose = causes_since m served.ending (m.facts net) (m.facts (net_of core))
      (m.facts served.parts.net) (m.volumes volumes) (m.volumes (volumes_of core))
      (m.volumes served.parts.volumes) same.waits same.attaches same.volumes_faults has.rose;
  told = has.told;
}

pub open_counts : {H M Q W V N E : Type 0} (m : Meaning H M Q W V N E) (net : M) (volumes : V)
    (core : Core H M Q W V N E) (result : Result (Core H M Q W V N E) (Served M Q W V))
    → SameCounts m net volumes core → OpenCounts m (net_of core) (volumes_of core) result
    → OpenCounts m net volumes result
open_counts m net volumes core (Ok now) same counts = record {
  waits = counts.waits ∙ same.waits;
  attaches = counts.attaches ∙ same.attaches;
  volumes_faults = counts.volumes_faults ∙ same.volumes_faults;
}
open_counts m net volumes core (Err served) same has = causes_of m net volumes core served same has

-- ---- what the terms say

pub idle_told : (told : Option (Option ℕ)) (idle : Option ℕ) → told ≡ Some idle → (time : Option ℕ)
    → told ≡ Some time → idle ≡ time
idle_told told idle is time q = same idle time (sym is ∙ q)
  where
    same : (a b : Option ℕ) → Some a ≡ Some b → a ≡ b
    same a b q = cc

pub turn_told : (told : Option ℕ) (n : ℕ) → told ≡ Some n → (b : ℕ) → told ≡ Some b → b ≡ n
turn_told told n is b q = same b n (sym q ∙ is)
  where
    same : (a b : ℕ) → Some a ≡ Some b → a ≡ b
    same a b q = cc

-- a poster that has made no posting may make one
pub room_for : {A : Type 0} (until : Option A) (n : ℕ) → n ≡ 0 → IfSome until (λ asked. n < 2 ^ 56)
room_for None n is = tt
room_for (Some asked) n is = omega (arith, is)
