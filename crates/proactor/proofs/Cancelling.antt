-- Operations that are cancelled, one after another.
use Rattle.std.proofs.Common.{◌≡◌, ◌∙◌, ◌+◌, ◌-◌, ◌^◌, ℕ, suc, min, arith, false, List, []}
use Rattle.std.proofs.Common.{◌∷◌, ◌++◌, length, refl, sym, ap, subst, Some, None}
use Rattle.std.specs.Prelude.{Result, Ok, Err}
use Rattle.std.proofs.Math.Bool.{or-false}
use Rattle.std.proofs.lemmas.List.{append-nil, append_assoc}
use Rattle.ev_base.specs.ev_types.specs.declared.refusal.NoMemory.{NoMemory}
use Rattle.ev_base.specs.Counts.{Counts}
use Rattle.proactor.specs.declared.operation.Op.{Op}
use Rattle.proactor.specs.declared.operation.Next.{Next}
use Rattle.proactor.specs.declared.operation.Outcome.TheVariants as outcome
use Rattle.proactor.specs.declared.standing.Reading.{Reading}
use Rattle.proactor.specs.declared.standing.Writing.{Writing}
use Rattle.proactor.specs.declared.sums.Sums.{Sums}
use Rattle.proactor.specs.Operations.{FollowsOn, Told, ops_of}
use Rattle.proactor.specs.Events.{Event, Asked, FoundNoMemory, ReadDone, WriteDone}
use Rattle.proactor.specs.Events.{completion, count_done, told, told_in}
use Rattle.proactor.specs.Standing.{Stands, TakesOut}
use Rattle.proactor.specs.Sums.{completed_sums}
use Rattle.proactor.specs.Turns.{Cancels, count_standing}
use Rattle.proactor.specs.Parts.{CountsMore, FollowsTold}
use Rattle.proactor.specs.Closing.{CancelsOne, CancelsSo}
use Rattle.proactor.proofs.Events.{count_done_append, counts_same}
use Rattle.proactor.proofs.Parting.{told_on, told_same}

pub cancelled_one : {C : Type 0} (follows : C → Op → List Told → Type 0) (id : ℕ) (old new : C)
    (r : Result Next NoMemory) → ((first : Op) (list : List Told) → follows old first list
    → FollowsOn (follows new first) list (completion id outcome.Cancelled) r)
    → CancelsOne follows id old new
cancelled_one follows id old new (Ok next) f = record {
  reply = Asked [] (ops_of next.ops) next.done;
  nothing = refl;
  told_so = f;
}
cancelled_one follows id old new (Err none) f = record {
  reply = FoundNoMemory;
  nothing = refl;
  told_so = λ first before h. subst (follows new first) (sym (append-nil before))
      (f first before h);
}

-- some are cancelled, and the others stand still
pub record Cancelling {C : Type 0} (follows : C → Op → List Told → Type 0) (start : Stands)
    (old : C) (before : Sums) (standing : Stands) (handler : C) (sums : Sums)
    (cancelled : ℕ) : Type 0 where
  pub events : List Event
  pub more : (rest : List Event) → Cancels standing.reads standing.writes rest
      → Cancels start.reads start.writes (events ++ rest)
  pub told_so : FollowsTold follows (told events) old handler
  pub completed : CountsMore before.completed (count_done events) sums.completed
  pub read : sums.read ≡ before.read
  pub wrote : sums.wrote ≡ before.wrote
  pub starved : sums.starved ≡ before.starved
  pub gone : ℕ
  pub counts : Counts cancelled gone
  pub all : gone + count_standing standing ≡ count_standing start

module _ {C : Type 0} (follows : C → Op → List Told → Type 0) (start : Stands) (old : C)
    (before : Sums) where
  pub cancelling_none : Cancelling follows start old before start old before 0
  cancelling_none = record {
    events = [];
    more = λ rest c. c;
    told_so = told_same follows [] old refl;
    completed = counts_same before.completed;
    read = refl;
    wrote = refl;
    starved = refl;
    gone = 0;
    counts = refl;
    all = omega arith;
  }

  -- one more
  more_by : (s t : Stands) (a b : C) (sums : Sums) (cancelled now : ℕ) (id : ℕ) (e : Event)
      → Cancelling follows start old before s a sums cancelled → (one : CancelsOne follows id a b)
      → ((rest : List Event) → Cancels t.reads t.writes rest → Cancels s.reads s.writes (e ∷ rest))
      → told (e ∷ []) ≡ told_in (completion id outcome.Cancelled) one.reply
      → count_done (e ∷ []) ≡ 1 → count_standing s ≡ suc (count_standing t)
      → now ≡ min (cancelled + 1) (2 ^ 64 - 1)
      → Cancelling follows start old before t b (completed_sums false sums) now
  more_by s t a b sums cancelled now id e h one conv is done stood count = record {
    events = h.events ++ e ∷ [];
    more = λ rest c. subst (Cancels start.reads start.writes) (sym (append_assoc h.events (e ∷ [])
        rest)) (h.more (e ∷ rest) (conv rest c));
    told_so = told_on follows h.events (e ∷ []) old a b h.told_so
        (λ first list had. subst (λ (xs : List Told). follows b first (list ++ xs)) (sym is)
        (one.told_so first list had));
    completed = λ n c. let so = h.completed n c in
        let all = count_done_append h.events (e ∷ []) in omega (arith, so, all, done);
    read = h.read;
    wrote = h.wrote;
    starved = or-false sums.starved ∙ h.starved;
    gone = suc h.gone;
    counts = let c = h.counts in omega (arith, c, count);
    all = let all = h.all in omega (arith, all, stood);
  }

  pub cancelling_more : (s t : Stands) (a b : C) (sums : Sums) (cancelled now : ℕ) (id : ℕ)
      → Cancelling follows start old before s a sums cancelled
      → TakesOut s.reads s.writes (Some id) t
      → CancelsOne follows id a b → now ≡ min (cancelled + 1) (2 ^ 64 - 1)
      → Cancelling follows start old before t b (completed_sums false sums) now
  cancelling_more s t a b sums cancelled now id h out one count =
      by s.reads s.writes refl refl out
    where
      by : (reads : List Reading) (writes : List Writing) → reads ≡ s.reads → writes ≡ s.writes
          → TakesOut reads writes (Some id) t
          → Cancelling follows start old before t b (completed_sums false sums) now
      by [] [] r w out = absurd out
      by (read ∷ reads) writes r w out =
          more_by s t a b sums cancelled now id (ReadDone read outcome.Cancelled one.reply) h one
          (λ rest c. subst (λ (xs : List Reading). Cancels xs s.writes
          (ReadDone read outcome.Cancelled one.reply ∷ rest)) r (
            one.reply,
            rest,
            one.nothing,
            subst (λ (xs : List Reading). Cancels xs s.writes rest) out.1
                (subst (λ (xs : List Writing). Cancels t.reads xs rest) (out.2 ∙ w) c),
            refl,
          ))
          (append-nil (told_in (completion read.id outcome.Cancelled) one.reply)
          ∙ ap (λ (n : ℕ). told_in (completion n outcome.Cancelled) one.reply) (sym out.0))
          refl
          (let r_ = ap length (sym r) in let t_ = ap length out.1 in
          let w_ = ap length (out.2 ∙ w) in omega (arith, r_, t_, w_)) count
      by [] (write ∷ writes) r w out =
          more_by s t a b sums cancelled now id (WriteDone write outcome.Cancelled one.reply) h one
          (λ rest c. subst (λ (xs : List Reading). Cancels xs s.writes
          (WriteDone write outcome.Cancelled one.reply ∷ rest)) r
          (subst (λ (xs : List Writing). Cancels [] xs
          (WriteDone write outcome.Cancelled one.reply ∷ rest)) w (
            one.reply,
            rest,
            one.nothing,
            subst (λ (xs : List Writing). Cancels [] xs rest) out.2
                (subst (λ (xs : List Reading). Cancels xs t.writes rest) out.1 c),
            refl,
          )))
          (append-nil (told_in (completion write.id outcome.Cancelled) one.reply)
          ∙ ap (λ (n : ℕ). told_in (completion n outcome.Cancelled) one.reply) (sym out.0))
          refl
          (let r_ = ap length (sym r) in let t_ = ap length out.1 in
          let w_ = ap length (sym w) in let v_ = ap length out.2 in
          omega (arith, r_, t_, w_, v_)) count

  pub cancelling_all : (s t : Stands) (handler : C) (sums : Sums) (cancelled : ℕ)
      → Cancelling follows start old before s handler sums cancelled
      → TakesOut s.reads s.writes None t
      → CancelsSo follows start old handler before sums cancelled
  cancelling_all s t handler sums cancelled h out = by s.reads s.writes refl refl out
    where
      by : (reads : List Reading) (writes : List Writing) → reads ≡ s.reads → writes ≡ s.writes
          → TakesOut reads writes None t
          → CancelsSo follows start old handler before sums cancelled
      by [] [] r w out = record {
        events = h.events;
        cancels = subst (Cancels start.reads start.writes) (append-nil h.events) (h.more []
            (subst (λ (xs : List Reading). Cancels xs s.writes []) r
            (subst (λ (xs : List Writing). Cancels [] xs []) w refl)));
        told_so = h.told_so;
        completed = h.completed;
        read = h.read;
        wrote = h.wrote;
        starved = h.starved;
        counts = let all = h.all in let c = h.counts in let r_ = ap length (sym r) in
            let w_ = ap length (sym w) in omega (arith, all, c, r_, w_);
      }
      by (read ∷ reads) writes r w out = absurd out
      by [] (write ∷ writes) r w out = absurd out
