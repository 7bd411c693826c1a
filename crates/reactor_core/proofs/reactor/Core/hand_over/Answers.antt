use Rattle.std.proofs.Common.{◌≡◌, ◌≤◌, ◌<◌, ◌+◌, ◌^◌, ℕ, Bool, refl, sym, ap, ◌∙◌, subst, arith}
use Rattle.std.proofs.Common.{length, option_map}
use Rattle.reactor_model.specs.reactor_journal.specs.Past.{past_of}
use Rattle.reactor_summary.specs.Summary.{summary}
use Rattle.reactor_model.specs.Volumes.{AddsEntries, IsNext}
use Rattle.reactor_state.specs.State.{owed}
use Rattle.reactor_core.specs.HandingOver.{IsHandOverCause}
use Rattle.reactor_core.proofs.HandOver.{few_are, first_is, stands_refused, hands, take_refused}
use Rattle.reactor_core.proofs.reactor.Core.hand_over.Goals as goal

pub take-requires : goal.take-requires
take-requires g c =
    let tracks = c.requires.stands.3.tracks in
    record {
      next = subst (λ (first : ℕ).
          IsNext (g.V.Volumes.facts c.args.self.now.volumes).next first) (sym tracks.journal.first)
          tracks.volumes.next;
    }

pub overflow_add-self : goal.overflow_add-self
overflow_add-self g c =
    let o = c.requires.stands in
    let first : c.args.self.now.first + c.len-held.result ≡ length o.2 =
    first_is c.args.self.now o.1 o.2 c.len-held.result c.len-held.ensures o.3.tracks.journal in
    let few : length o.2 < 2 ^ 62 = few_are c.args.self.now o.1 o.2
    (sym {A = Bool} (c.if-not-is_volume_due.ensures o.0 o.1 o.2 o.3)) in
    omega (arith, first, few)

pub returns-in-Ok-take-clause-ok : goal.returns-in-Ok-take-clause-ok
returns-in-Ok-take-clause-ok g c t F h o =
    let owed_is : c.owed.result ≡ owed (summary (past_of h)) =
    c.owed.ensures (summary (past_of h)) o.tracks.state in
    let fresh = c.replace-volume.ensures.after in
    let ahead : c.owed.result ≤ c.room_ahead.result = c.room_ahead.ensures in
    let room : c.room_ahead.result ≤ c.reserve.new.self.spare = c.in-Ok.ensures.room in
    let spare : owed (summary (past_of h)) ≤ c.reserve.new.self.spare =
    subst (λ (n : ℕ). n ≤ c.reserve.new.self.spare) owed_is (omega (arith, ahead, room)) in
    hands _ t c.args.self.now _ F h c.len-held.result (record {
      others = record {
        most = refl;
        volume = refl;
        state = refl;
        repo = refl;
        net = refl;
        watch = refl;
        marks = refl;
      };
      count = c.len-held.ensures;
      first = refl;
      entries = ap (λ journal. journal.entries) fresh
          ∙ (c.in-Ok.ensures.entries ∙ c.new-fresh.ensures);
      owed = subst (λ journal. owed (summary (past_of h)) ≤ journal.spare) (sym fresh) spare;
      taken = subst (λ journal. AddsEntries (g.V.Volumes.facts c.args.self.now.volumes).taken
          journal.entries (g.V.Volumes.facts c.take.new.self).taken) c.replace-volume.ensures.value
          c.in-Ok-take.ensures.takes.taken;
      next = subst (λ journal. (g.V.Volumes.facts c.take.new.self).next
          ≡ option_map (λ k. k + length journal.entries)
          (g.V.Volumes.facts c.args.self.now.volumes).next) c.replace-volume.ensures.value
          c.in-Ok-take.ensures.takes.next;
      faults = c.in-Ok-take.ensures.takes.faults;
    }) (sym {A = Bool} (c.if-not-is_volume_due.ensures t F h o)) o

pub returns-in-Err-take-clause-same : goal.returns-in-Err-take-clause-same
returns-in-Err-take-clause-same g c =
    let refused = take_refused (g.V.Volumes.facts c.args.self.now.volumes) c.replace-volume.result
    c.in-Err-take.back c.in-Err-take.why (g.V.Volumes.facts c.take.new.self)
    c.in-Err-take.ensures.takes in
    record {
      others = record {
        most = refl;
        volume = refl;
        state = refl;
        repo = refl;
        net = refl;
        watch = refl;
        marks = refl;
      };
      first = refl;
      journal = c.replace.ensures.after ∙ (refused.0.back ∙ c.replace-volume.ensures.value);
      taken = refused.0.taken;
      next = refused.0.next;
    }

pub returns-in-Err-take-clause-err : goal.returns-in-Err-take-clause-err
returns-in-Err-take-clause-err g c t F h o =
    stands_refused _ t c.args.self.now _ F h (returns-in-Err-take-clause-same g c) o

pub returns-in-Err-take-clause-cause : goal.returns-in-Err-take-clause-cause
returns-in-Err-take-clause-cause g c =
    let facts = g.V.Volumes.facts in
    subst (λ refused. IsHandOverCause refused (facts c.args.self.now.volumes).faults
    (facts c.take.new.self).faults) (sym c.hand_over_refusal.ensures)
    (take_refused (facts c.args.self.now.volumes) c.replace-volume.result c.in-Err-take.back
    c.in-Err-take.why (facts c.take.new.self) c.in-Err-take.ensures.takes).1
