-- What is left of the reactor of a run says what became of the run.
use Rattle.std.proofs.Common.{ℕ, ◌≤◌, ◌≡◌, ◌≢◌, ◌⊎◌, Bool, true, false, List, [], ◌∷◌, refl, sym}
use Rattle.std.proofs.Common.{ap, ◌∙◌, subst, arith, drop, Option, Some, None}
use Rattle.reactor_core.specs.timer_queue.specs.Content.{Content}
use Rattle.ev_base.specs.Source.{SourceFacts}
use Rattle.ev_base.specs.Sink.{SinkFacts}
use Rattle.ev_base.specs.declared.end.PeerEnd.{Ghosts}
use Rattle.reactor_model.specs.reactor_journal.specs.declared.entry.Entry.{Entry}
use Rattle.reactor_model.specs.reactor_journal.specs.Past.{past_of, origin_of, reason_of}
use Rattle.reactor_model.specs.reactor_journal.specs.Follow.{Legal}
use Rattle.reactor_model.specs.Volumes.{VolumesFacts}
use Rattle.reactor_core.specs.Beginning.{PartsStand}
use Rattle.reactor_core.specs.declared.reactor.Core.{Core}
use Rattle.reactor_core.specs.declared.reactor.Parts.{Parts}
use Rattle.log_handler.specs.declared.note.ServerNote.{ServerNote}
use Rattle.log_handler.specs.declared.connection.LogConnection.{LogConnection}
use Rattle.log_handler.specs.LineSink.{LineSink, is_broken, sink_of, whole_of}
use Rattle.log_handler.specs.Connections.{ConnectionGone}
use Rattle.log_handler.specs.Laws.{CoursesAccount}
use Rattle.one_run.specs.one_net.specs.declared.one_end.OneEnd.{OneEnd}
use Rattle.one_run.specs.one_net.specs.declared.one_net.OneNet.{OneNet}
use Rattle.one_run.specs.one_net.specs.OneEnd.{one_end_facts, extra_of, failed_of, input_of}
use Rattle.one_run.specs.one_net.specs.OneKeeps.{OneEndKeeps, most_input}
use Rattle.one_run.specs.one_net.specs.OneNet.{one_net_facts}
use Rattle.one_run.specs.Phases.{IsFinished, CanEnd, GrowsFrom, turns_in}
use Rattle.one_run.specs.Running.{one_meaning, VolumesSince, is_lost, LeavesParts, ClosedItself}
use Rattle.one_run.specs.Running.{IsShutAs, IsWholeUntilLast, HasEnded}
use Rattle.one_run.specs.Opening.{TakesNothing, terms_of_run}
use Rattle.one_run.specs.declared.serving.Halt.{Halt}
use Rattle.one_run.specs.declared.serving.Halt.TheVariants as halt
use Rattle.one_run.proofs.Growing.{whole-more}
use Rattle.one_run.proofs.Begins.{starts}
use Rattle.one_run.proofs.Leaves.{RetiresOne, retires_one}
use Rattle.cmd_one.specs.Journals.{IsTakenAndHeld, AreHandedOver, StandsFor}
use Rattle.cmd_one.specs.Statuses.{EndsSo, code_by}
use Rattle.cmd_one.specs.Ran.{RunsOne, end_by}
use Rattle.cmd_one.specs.declared.connection.Ran.{Ran}
use Rattle.cmd_one.specs.declared.ending.OneEnding.{OneEnding}
use Rattle.cmd_one.proofs.Journals.{told_is, handed_over}
use Rattle.cmd_one.proofs.Outcome.{Became, became}
use Rattle.cmd_one.proofs.Endings.{Known, wrote, has_status, stands_for}
use Rattle.reactor_core.proofs.Ends.{such_told}
use Rattle.reactor_core.specs.Ends.{AreRetired}

-- A run that ended so left these parts of its reactor, which stand for its history, under the terms
-- that say all that the input, the output and the volumes told before it.
pub record IsLeft {S K V : Type 0} (G : Ghosts (OneEnd S)) (source : S → SourceFacts)
    (sink : K → SinkFacts) (volumes : V → VolumesFacts ServerNote) (i : SourceFacts) (o : SinkFacts)
    (v : VolumesFacts ServerNote)
    (parts : Parts ServerNote (OneNet S) Content (LineSink K) V) (why : Option Halt)
    (lost : Bool) : Type 0 where
  pub first : ℕ
  pub journal : List (Entry ServerNote)
  pub legal : Legal journal 1
  pub finished : IsFinished journal
  pub stand : PartsStand (one_meaning {G = G} source sink volumes) (λ q. q.timers)
      (terms_of_run i o v) first journal parts
  -- one that was not halted went on until its connection had closed itself
  pub closed : why ≡ None → ClosedItself lost journal finished
  pub taken : VolumesSince why v.faults (volumes parts.volumes).faults
  pub broken : why ≡ Some halt.Broken → is_broken parts.watch ≡ true
  pub late : IsWholeUntilLast (whole_of parts.watch) journal

not_none : {A P : Type 0} {a : A} → ◌≡◌ {A = Option A} (Some a) None → P
not_none q = cc

-- by how the run ended
pub left_of : {S K V : Type 0} (G : Ghosts (OneEnd S)) (source : S → SourceFacts)
    (sink : K → SinkFacts) (volumes : V → VolumesFacts ServerNote) (i : SourceFacts) (o : SinkFacts)
    (v : VolumesFacts ServerNote)
    (core : Core (LogConnection (OneEnd S) G) (OneNet S) Content (LineSink K) V ServerNote
    (OneEnd S)) (parts : Parts ServerNote (OneNet S) Content (LineSink K) V) (why : Option Halt)
    (lost : Bool) (h : List (Entry ServerNote))
    → HasEnded why lost h → (whole : ℕ) → IsWholeUntilLast whole h → whole ≤ whole_of parts.watch
    → (CanEnd h → LeavesParts (one_meaning {G = G} source sink volumes) (terms_of_run i o v) core
    (λ journal over. GrowsFrom 0 h journal) parts)
    → ((now : ℕ) (lost : Bool) → IsShutAs (now ∷ []) lost h
    → LeavesParts (one_meaning {G = G} source sink volumes) (terms_of_run i o v) core
    (λ journal over. ClosedItself lost journal over × GrowsFrom 0 h journal) parts)
    → VolumesSince why v.faults (volumes parts.volumes).faults
    → (why ≡ Some halt.Broken → is_broken parts.watch ≡ true)
    → IsLeft G source sink volumes i o v parts why lost
left_of G source sink volumes i o v core parts None lost h ended whole late later ends closes taken
    broken =
    let l = closes ended.0 lost ended.1 in
    record {
      first = l.first;
      journal = l.journal;
      legal = l.legal;
      finished = l.finished;
      stand = l.stand;
      closed = λ none. l.so.0;
      taken = taken;
      broken = broken;
      late = whole-more whole (whole_of parts.watch) h l.journal later late l.so.1;
    }
left_of G source sink volumes i o v core parts (Some halt) lost h ended whole late later ends closes
    taken broken =
    let l = ends ended in
    record {
      first = l.first;
      journal = l.journal;
      legal = l.legal;
      finished = l.finished;
      stand = l.stand;
      closed = λ none. not_none none;
      taken = taken;
      broken = broken;
      late = whole-more whole (whole_of parts.watch) h l.journal later late l.so;
    }

module _ {S K V : Type 0} (G : Ghosts (OneEnd S)) (source : S → SourceFacts) (sink : K → SinkFacts)
    (volumes : V → VolumesFacts ServerNote) (account : CoursesAccount) (i : SourceFacts)
    (o : SinkFacts) (v : VolumesFacts ServerNote)
    (parts : Parts ServerNote (OneNet S) Content (LineSink K) V) (why : Option Halt) (lost : Bool)
    (left : IsLeft G source sink volumes i o v parts why lost)
    (last : OneEnd S) (is_last : (handle : ℕ) (end : OneEnd S)
    → (one_net_facts parts.net).retired ≡ Some ((handle, end) ∷ []) → last ≡ end) where
  retired : RetiresOne (one_meaning {S = S} {K = K} {V = V} {G = G} source sink volumes).means
      (terms_of_run i o v) left.finished.closed parts.net.retired.items
  retired = retires_one _ (terms_of_run i o v) left.journal left.finished.closed
      parts.net.retired.items (such_told
      (λ ends. AreRetired (one_meaning {S = S} {K = K} {V = V} {G = G} source sink volumes).means
      (terms_of_run i o v) (past_of left.journal) ends) (Some parts.net.retired.items)
      left.stand.net.retired)

  gone : ConnectionGone (one_end_facts source) (OneEndKeeps source) (terms_of_run i o v)
      (origin_of (past_of left.finished.closed.before) 0) last
      (turns_in left.finished.closed.before) left.finished.closed.reason left.finished.closed.note
  gone = subst (λ (end : OneEnd S). ConnectionGone (one_end_facts source) (OneEndKeeps source)
      (terms_of_run i o v) (origin_of (past_of left.finished.closed.before) 0) end
      (turns_in left.finished.closed.before) left.finished.closed.reason left.finished.closed.note)
      (sym (is_last 0 retired.end (ap Some retired.is))) retired.gone

  outcome : Became source i left.journal left.finished last
  outcome = became source (terms_of_run i o v) i o v account (starts i o v) refl refl left.journal
      left.finished _ last gone

  module _ (broken too_long : Bool) (is_broken_so : broken ≡ is_broken parts.watch)
      (met : too_long ≡ true → extra_of last ≢ []) (not_met : too_long ≡ false → extra_of last ≡ [])
    where
      known : Known i o (source (input_of last)) (sink (sink_of parts.watch)) left.journal v.faults
          (volumes parts.volumes).faults last.extra (failed_of last) broken too_long lost why
      known = record {
        run = outcome.run;
        extra_is = outcome.extra;
        written = wrote sink (terms_of_run i o v) o refl refl parts.watch left.journal
            left.stand.watch left.late broken is_broken_so;
        closed = λ none. record {
          own = ap (λ (before : List (Entry ServerNote)). reason_of (past_of before) 0)
              outcome.before
              ∙ (left.finished.closed.closed_for ∙ (left.closed none).own);
          not_stopped = outcome.own (left.closed none).own;
          lost_is = (left.closed none).lost_so ∙ ap is_lost outcome.said;
          moment = (left.closed none).moment;
          rest = outcome.rest ∙ (left.closed none).rest;
        };
        volumes = left.taken;
        halted = λ why. is_broken_so ∙ left.broken why;
        met = met;
        not_met = not_met;
      }

      pub runs : (end : OneEnding) (input : S) (output : K)
          → end ≡ end_by (failed_of last) broken too_long lost why → input ≡ input_of last
          → output ≡ sink_of parts.watch
          → RunsOne source sink volumes most_input i o v
          (record {
            end = end;
            journal = parts.journal;
            first = parts.first;
            input = input;
            output = output;
            volumes = parts.volumes;
          })
      runs end input output is is_input is_output =
          subst (λ (end : OneEnding). RunsOne source sink volumes most_input i o v
          (record {
            end = end;
            journal = parts.journal;
            first = parts.first;
            input = input;
            output = output;
            volumes = parts.volumes;
          })) (sym is)
          (subst (λ (input : S). RunsOne source sink volumes most_input i o v
          (record {
            end = end_by (failed_of last) broken too_long lost why;
            journal = parts.journal;
            first = parts.first;
            input = input;
            output = output;
            volumes = parts.volumes;
          })) (sym is_input)
          (subst (λ (output : K). RunsOne source sink volumes most_input i o v
          (record {
            end = end_by (failed_of last) broken too_long lost why;
            journal = parts.journal;
            first = parts.first;
            input = input_of last;
            output = output;
            volumes = parts.volumes;
          })) (sym is_output) (record {
            status = has_status i o (source (input_of last)) (sink (sink_of parts.watch))
                left.journal
                v.faults (volumes parts.volumes).faults last.extra (failed_of last) broken too_long
                lost why known;
            journal = λ journal told.
                subst (λ (entries : List (Entry ServerNote)).
                StandsFor most_input i o (source (input_of last)) (sink (sink_of parts.watch))
                (code_by most_input (end_by (failed_of last) broken too_long lost why)) entries)
                (sym (told_is (terms_of_run i o v) v (volumes parts.volumes) left.first parts.first
                parts.journal.entries left.journal journal refl left.stand.volumes
                left.stand.first left.stand.journal told))
                (stands_for i o (source (input_of last)) (sink (sink_of parts.watch)) left.journal
                v.faults (volumes parts.volumes).faults last.extra left.finished left.legal
                (failed_of last) broken too_long lost why known);
            some_journal = record {
              journal = left.journal;
              within = omega (arith, left.stand.first, left.stand.within);
              is_held = left.stand.journal ∙ ap (λ (n : ℕ). drop n left.journal)
                  (sym left.stand.first);
              stands = stands_for i o (source (input_of last)) (sink (sink_of parts.watch))
                  left.journal v.faults (volumes parts.volumes).faults last.extra left.finished
                  left.legal (failed_of last) broken too_long lost why known;
            };
            first = handed_over (terms_of_run i o v) v (volumes parts.volumes) left.first
                parts.first
                left.journal refl left.stand.volumes left.stand.first left.stand.within;
          })))

-- the same run, by what volumes told that have taken nothing since
pub runs_with : {S K V : Type 0} (source : S → SourceFacts) (sink : K → SinkFacts)
    (volumes : V → VolumesFacts ServerNote) (i : SourceFacts) (o : SinkFacts)
    (v w : VolumesFacts ServerNote) (ran : Ran S K V) → TakesNothing v w
    → RunsOne source sink volumes most_input i o w ran
    → RunsOne source sink volumes most_input i o v ran
runs_with source sink volumes i o v w ran nothing runs = record {
  status = subst (λ (before : ℕ). EndsSo most_input i o (source ran.input) (sink ran.output)
      before (volumes ran.volumes).faults ran.end) nothing.faults runs.status;
  journal = λ journal told. runs.journal journal
      (subst (λ (taken : Option (List (Entry ServerNote))).
      IsTakenAndHeld taken (volumes ran.volumes).taken ran.journal.entries journal
      ⊎ ((ran.first ≡ 0) × (journal ≡ ran.journal.entries))) (sym nothing.taken) told);
  some_journal = runs.some_journal;
  first = subst (λ (taken : Option (List (Entry ServerNote))).
      AreHandedOver taken (volumes ran.volumes).taken ran.first) nothing.taken runs.first;
}
