-- How a run of one connection begins.
use Rattle.std.proofs.Common.{arith, ℕ, ◌≡◌, false, List, [], ◌∷◌, ◌++◌, length, refl, sym, ap, ◌∙◌}
use Rattle.std.proofs.Common.{subst, Option, Some, None}
use Rattle.std.proofs.lemmas.List.{append-nil}
use Rattle.std.specs.Prelude.{Ok, Err, option_and_then, option_map, slice_get}
use Rattle.ev_base.specs.ev_types.specs.declared.upcall.Handle.{Handle}
use Rattle.ev_base.specs.ev_types.specs.declared.upcall.Mask.{Mask}
use Rattle.ev_base.specs.ev_types.specs.declared.upcall.Why.TheVariants.{Own, Refused}
use Rattle.ev_base.specs.Bytes.{ReaderBytes, MovesOn, HasGiven}
use Rattle.ev_base.specs.Source.{SourceFacts}
use Rattle.ev_base.specs.Sink.{SinkFacts}
use Rattle.ev_base.specs.Story.{Story, OfBytes}
use Rattle.ev_base.specs.Terms.{Terms}
use Rattle.ev_base.specs.Net.{IsNew}
use Rattle.ev_base.specs.declared.net.Waited.{Waited}
use Rattle.timer_queue.specs.declared.timer.Timer.{Timer}
use Rattle.reactor_core.specs.Beginning.{CanBegin}
use Rattle.one_net.specs.declared.one_net.OneNet.{OneNet}
use Rattle.one_net.specs.OneNet.{one_net_facts, one_net_keeps, new_net_facts, last_answer, masks_of}
use Rattle.one_net.specs.Watched.{first_report, answer_of}
use Rattle.reactor_model.specs.reactor_journal.specs.Event.{Origin}
use Rattle.reactor_model.specs.reactor_journal.specs.declared.entry.Entry.{Entry}
use Rattle.reactor_model.specs.reactor_journal.specs.declared.entry.Entry.TheVariants.{Opened}
use Rattle.reactor_model.specs.Volumes.{VolumesFacts, BeginsJournal}
use Rattle.reactor_core.specs.Offering.{RegisterGives, GivesBack}
use Rattle.reactor_core.specs.Stands.{Meaning, Stands}
use Rattle.reactor_core.specs.Ends.{WhereTold}
use Rattle.reactor_core.specs.declared.reactor.Core.{Core}
use Rattle.reactor_core.specs.declared.registering.RegisterRefused.{RegisterRefused}
use Rattle.reactor_core.specs.declared.registering.RegisterRefused.TheVariants as refused
use Rattle.log_handler.specs.declared.note.ServerNote.{ServerNote}
use Rattle.log_handler.specs.Connections.{MayComeFrom, ConnectionGone}
use Rattle.one_net.specs.declared.one_end.OneEnd.{OneEnd}
use Rattle.one_net.specs.OneEnd.{one_end_facts, given_by, given_of, end_bytes, extra_of, failed_of}
use Rattle.one_net.specs.OneEnd.{input_of, count_of}
use Rattle.one_net.specs.bounded_input.specs.Input.{FaultsSince}
use Rattle.one_net.specs.OneKeeps.{OneEndKeeps, bytes_at_start, start_bytes}
use Rattle.one_run.specs.Phases.{one_handle, read_mask, IsOpened}
use Rattle.one_run.specs.Opening.{StartsRun, TakesNothing, stories_of, terms_of_run}

-- ---- the terms

at_start_is : (b : Option ReaderBytes)
    → start_bytes (option_and_then (λ stories. slice_get stories 0) (stories_of b))
    (option_and_then (λ stories. slice_get stories 1) (stories_of b)) ≡ b
at_start_is None = refl
at_start_is (Some bytes) = refl

story_is : (b : Option ReaderBytes) (story : Story)
    → option_and_then (λ stories. slice_get stories 0) (stories_of b) ≡ Some story
    → (bytes : ReaderBytes) × (b ≡ Some bytes) × (story ≡ OfBytes bytes.left)
story_is None story told = cc
story_is (Some bytes) story told = (bytes, refl, same story told)
  where
    same : (story : Story) → ◌≡◌ {A = Option Story} (Some (OfBytes bytes.left)) (Some story)
        → story ≡ OfBytes bytes.left
    same story told = cc

limit_is : (limit : Option ℕ) → ◌≡◌ {A = Option (Option ℕ)} (Some None) (Some limit) → None ≡ limit
limit_is limit told = cc

faults_are : (a f : ℕ) → ◌≡◌ {A = Option ℕ} (Some a) (Some f) → f ≡ a
faults_are a f told = cc

faults_were : (a f : ℕ) → ◌≡◌ {A = Option ℕ} (Some a) (Some f) → a ≡ f
faults_were a f told = cc

taken_are : {N : Type 0} (taken : Option (List (Entry N)))
    → WhereTold (λ entries. (n : ℕ) → option_map length taken ≡ Some n → length entries ≡ n) taken
taken_are None = tt
taken_are (Some entries) = λ n told. faults_were (length entries) n told

pub starts : (i : SourceFacts) (o : SinkFacts) (v : VolumesFacts ServerNote)
    → StartsRun (terms_of_run i o v) i o v
starts i o v = record {
  most = refl;
  of_one = record { limit = limit_is; idle = refl };
  no_listener = refl;
  no_script = refl;
  source = record {
    gave = λ g told. faults_are i.gave g told;
    faults = λ f told. faults_are i.faults f told;
    bytes = at_start_is i.bytes;
    story = λ story told. let s = story_is i.bytes story told in
        (s.0, at_start_is i.bytes ∙ s.1, s.2);
  };
  opening = λ text told. told;
  output_faults = λ n told. faults_were o.faults n told;
  taken = taken_are v.taken;
}

-- volumes that have taken nothing since tell what they told
pub starts_as : (i : SourceFacts) (o : SinkFacts) (v w : VolumesFacts ServerNote) → TakesNothing v w
    → StartsRun (terms_of_run i o w) i o v
starts_as i o v w nothing =
    let s = starts i o w in
    record {
      most = s.most;
      of_one = s.of_one;
      no_listener = s.no_listener;
      no_script = s.no_script;
      source = s.source;
      opening = s.opening;
      output_faults = s.output_faults;
      taken = subst (λ (taken : Option (List (Entry ServerNote))).
          WhereTold (λ entries. (n : ℕ) → option_map length w.taken ≡ Some n → length entries ≡ n)
          taken) nothing.taken s.taken;
    }

-- a reactor's volumes began another journal, and it took the same since
pub began_nothing : (v w now : VolumesFacts ServerNote) → BeginsJournal v w → now ≡ w
    → TakesNothing v now
began_nothing v w now begins same =
    record {
      taken = ap (λ (f : VolumesFacts ServerNote). f.taken) same ∙ begins.taken;
      faults = ap (λ (f : VolumesFacts ServerNote). f.faults) same ∙ begins.faults;
    }

-- ---- the reactor

never_waited : {S : Type 0} (net : OneNet S) → one_net_facts net ≡ new_net_facts → (answer : Waited)
    → last_answer net.calls ≡ Some answer → answer ≡ answer_of (first_report (masks_of net))
never_waited net new answer last = no_answer (sym (ap last_answer none) ∙ last)
  where
    none : net.calls ≡ []
    none = told_none (ap (λ facts. facts.calls) new)
      where
        told_none : {A : Type 0} {calls : List A} → ◌≡◌ {A = Option (List A)} (Some calls) (Some [])
            → calls ≡ []
        told_none q = cc

    no_answer : {P : Type 0} → ◌≡◌ {A = Option Waited} None (Some answer) → P
    no_answer q = cc

pub can_begin : {S : Type 0} (t : Terms) (i : SourceFacts) (o : SinkFacts)
    (v : VolumesFacts ServerNote) (net : OneNet S) (timers : List Timer) (watch : Type 0)
    → StartsRun t i o v → IsNew (one_net_facts net) → one_net_facts net ≡ new_net_facts
    → timers ≡ [] → watch → CanBegin (one_net_facts net) (one_net_keeps t net) timers watch v t 1
can_begin t i o v net timers watch s fresh new none seen =
    record {
      terms = s.most;
      fresh = fresh;
      steady = λ asked. refl;
      keeps = record { no_script = s.no_script; answered = never_waited net new };
      no_timers = none;
      seen = seen;
      taken = s.taken;
    }

-- ---- the handler

idle_is : (time : Option ℕ) (told : Option (Option ℕ)) → told ≡ Some None → told ≡ Some time
    → None ≡ time
idle_is time told a b = limit_is time (sym a ∙ b)

number_is : (serial : Option ℕ) (number : ℕ) → serial ≡ Some 0 → serial ≡ Some number → number ≡ 0
number_is serial number a b = faults_are 0 number (sym a ∙ b)

no_offers : {A P : Type 0} (told : Option A) (offers : A) → told ≡ None → told ≡ Some offers → P
no_offers told offers a b = absurd (none_is (sym a ∙ b))
  where
    none_is : {A : Type 0} {a : A} → ◌≡◌ {A = Option A} None (Some a) → ⊥
    none_is q = cc

pub may_come : (t : Terms) (i : SourceFacts) (o : SinkFacts) (v : VolumesFacts ServerNote)
    (origin : Option (Origin ServerNote)) (serial : Option ℕ) → StartsRun t i o v → serial ≡ Some 0
    → MayComeFrom t origin 0 None 0 serial
may_come t i o v origin serial s is = record {
  offered = λ offers told. no_offers t.offers offers s.no_listener told;
  waits = λ time told. idle_is time t.idle s.of_one.idle told;
  numbered = λ number told. number_is serial number is told;
}

-- ---- the registration

entry_at : ℕ → List (Entry ServerNote)
entry_at n = Opened (record { 0 = n }) read_mask ∷ []

is_opened : (h : Handle) → h.0 ≡ 0
    → ◌≡◌ {A = List (Entry ServerNote)} (Opened h read_mask ∷ []) (Opened one_handle read_mask ∷ [])
unfolding entry_at
is_opened h is = ap entry_at is

pub registers : {H M Q W V E : Type 0} (m : Meaning H M Q W V ServerNote E) (t : Terms)
    (timer : Option (ℕ × ℕ)) (old : Core H M Q W V ServerNote E) (handle : Handle)
    (new : Core H M Q W V ServerNote E) → timer ≡ None
    → RegisterGives m t 0 [] read_mask timer old (Ok handle) new → (F : ℕ)
    × (h : List (Entry ServerNote)) × Stands m t new F h × IsOpened h
registers m t timer old handle new none gives =
    let g = subst (λ timer. RegisterGives m t 0 [] read_mask timer old (Ok handle) new) none gives
    in
    (0, Opened handle read_mask ∷ [], g.2, is_opened handle g.1)

pub gives_back : {H M Q W V E : Type 0} (m : Meaning H M Q W V ServerNote E) (t : Terms)
    (mask : Mask) (timer : Option (ℕ × ℕ)) (old : Core H M Q W V ServerNote E) (back : H)
    (why : RegisterRefused) (new : Core H M Q W V ServerNote E)
    → RegisterGives m t 0 [] mask timer old (Err (back, why)) new → GivesBack m t 0 [] back new
gives_back m t mask timer old back refused.Stopped new gives = gives.1
gives_back m t mask timer old back (refused.Full live opened) new gives = gives.4
gives_back m t mask timer old back refused.NoMemory new gives = gives.1
gives_back m t mask timer old back refused.NetFailed new gives = gives.2

-- ---- the source that comes back

moves_nothing : (a b : Option ReaderBytes) → MovesOn a [] b → b ≡ a
moves_nothing None None moves = refl
moves_nothing None (Some b) moves = absurd moves
moves_nothing (Some a) None moves = absurd moves
moves_nothing (Some a) (Some b) moves =
    ap Some (ap (λ (given : List ℕ). record { given = given; left = b.left })
    (moves.1 ∙ append-nil a.given) ∙ ap (λ (left : List ℕ). record { given = a.given; left = left })
    (sym moves.0))

given_none : (extra : List ℕ) (count : ℕ) (b : Option ReaderBytes)
    → HasGiven (end_bytes extra count b) [] → given_by (length extra) count b ≡ []
given_none extra count None given = refl
given_none extra count (Some b) given = given

-- an end that had no turn did not read its source
pub unread : {S : Type 0} (source : S → SourceFacts) (t : Terms) (i : SourceFacts) (o : SinkFacts)
    (v : VolumesFacts ServerNote) (origin : Option (Origin ServerNote)) (end : OneEnd S)
    (said : ServerNote)
    → StartsRun t i o v → t.input_gave ≡ Some i.gave → t.input_faults ≡ Some i.faults
    → ConnectionGone (one_end_facts source) (OneEndKeeps source) t origin end [] Refused said
    → ((source (input_of end)).bytes ≡ i.bytes) × ((source (input_of end)).faults ≡ i.faults)
    × ((source (input_of end)).gave ≡ i.gave)
unread {S} source t i o v origin end said s told_gave told gone = (bytes, faults, gave)
  where
    keeps : OneEndKeeps source t end
    keeps = gone.kept_end

    sound : (failed_of end ≡ false) × (extra_of end ≡ [])
    sound = keeps.sound (subst (λ kept.
        Rattle.log_handler.specs.Connections.HasFaults kept (one_end_facts source end).faults)
        (ap (λ p. p.kept) gone.served.course) gone.served.end.faults)

    given : given_of source end ≡ []
    given = given_none (extra_of end) (count_of end) (source (input_of end)).bytes
        (subst (λ taken. HasGiven (one_end_facts source end).bytes taken)
        (ap (λ p. p.taken) gone.served.course) gone.served.end.given)

    bytes : (source (input_of end)).bytes ≡ i.bytes
    bytes = moves_nothing (bytes_at_start t) (source (input_of end)).bytes
        (subst (λ l. MovesOn (bytes_at_start t) l (source (input_of end)).bytes)
        (ap (λ l. l ++ extra_of end) given ∙ sound.1) keeps.bytes) ∙ s.source.bytes

    faults : (source (input_of end)).faults ≡ i.faults
    faults = subst (λ failed. FaultsSince failed i.faults (source (input_of end)).faults) sound.0
        (keeps.source_faults i.faults told)

    none_given : count_of end ≡ 0
    none_given = gone.served.end.gave ∙ ap (λ p. length p.taken) gone.served.course

    gave : (source (input_of end)).gave ≡ i.gave
    gave = omega (arith, keeps.took i.gave told_gave, none_given, ap length sound.1)

pub not_own : {P : Type 0} → Refused ≡ Own → P
not_own q = cc
