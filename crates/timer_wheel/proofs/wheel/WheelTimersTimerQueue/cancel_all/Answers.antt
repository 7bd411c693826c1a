use Rattle.std.proofs.Common.{◌≡◌, ◌==◌, ◌+◌, ◌-◌, length, get_or, refl, inl, inr, Bool, false, not}
use Rattle.std.proofs.Common.{Some, ap, sym, ◌∙◌, subst, arith}
use Rattle.std.proofs.lemmas.Bool.{eq-eqb, ne_eqb, cases_eq}
use Rattle.std.proofs.lemmas.Option.{slice_get-get_or}
use Rattle.std.specs.List.{slice_get}
use Rattle.std.specs.Vec.{vec_capacity}
use Rattle.timer_index.specs.Index.{IsRising}
use Rattle.timer_queue.specs.declared.timer.Timer.{Timer}
use Rattle.timer_queue.specs.Timers.{in_order, without_handle}
use Rattle.timer_queue.proofs.Contents.{filter-removed, filter_none}
use Rattle.timer_queue.proofs.Members.{among_at}
use Rattle.timer_wheel.specs.declared.place.Place.{Place}
use Rattle.timer_wheel.specs.Spokes.{timers_of}
use Rattle.timer_wheel.specs.Chains.{IsWheel}
use Rattle.timer_wheel.proofs.Steps.{among_places}
use Rattle.timer_wheel.proofs.Firsts.{all_timers, fewer_places, length-timers}
use Rattle.timer_wheel.proofs.Forward.{clear_taken}
use Rattle.timer_wheel.proofs.Kept.{covers_removed}
use Rattle.timer_wheel.proofs.wheel.WheelTimersTimerQueue.cancel_all.Goals as goal

pub remove-requires-clause-there : goal.remove-requires-clause-there
remove-requires-clause-there g c =
    let places = c.loop-end.self-inside.chains.places.items in
    let p : Place = c.index.result.now in
    let here : slice_get places (c.loop-end.end - 1) ≡ Some p =
    slice_get-get_or places (c.loop-end.end - 1) p (omega (arith, c.loop-end.invariant.within))
    ∙ ap Some (sym c.index.ensures) in
    among_at p.timer (timers_of places) (among_places places (c.loop-end.end - 1) p here)

pub loop-end-preserved-then-t-handle : goal.loop-end-preserved-then-t-handle
loop-end-preserved-then-t-handle g c =
    let w = c.loop-end.self-inside in
    let places = w.chains.places.items in
    let p : Place = c.index.result.now in
    let from : c.loop-end.end - 1 + 1 ≡ c.loop-end.end = omega arith in
    let here : slice_get places (c.loop-end.end - 1) ≡ Some p =
    slice_get-get_or places (c.loop-end.end - 1) p (omega (arith, c.loop-end.invariant.within))
    ∙ ap Some (sym c.index.ensures) in
    let q : Timer → Bool = λ t. not (t.handle.0 == c.args.handle.0) in
    let out : q p.timer ≡ false = ap not (eq-eqb _ _ c.if-t-handle.true) in
    record {
      wheel = subst (λ r. IsWheel (length c.self.inside.chains.heads.items) r
          c.remove.new.chains.heads.items c.remove.new.chains.places.items c.remove.new.first)
          (sym c.remove.ensures.shape.ticks)
          (subst (λ n. IsWheel n w.chains.resolution c.remove.new.chains.heads.items
          c.remove.new.chains.places.items c.remove.new.first)
          c.loop-end.invariant.wheel.each_spoke c.remove.ensures.wheel);
      resolution = c.remove.ensures.shape.ticks ∙ c.loop-end.invariant.resolution;
      others = filter-removed p.timer (timers_of places) (timers_of
          c.remove.new.chains.places.items)
          c.loop-end.invariant.wheel.apart c.remove.ensures.timers q out
          ∙ c.loop-end.invariant.others;
      capacity = c.remove.ensures.shape.capacity ∙ c.loop-end.invariant.capacity;
      fewer = omega (
        arith,
        fewer_places p.timer places c.remove.new.chains.places.items
            c.loop-end.invariant.wheel.apart c.remove.ensures.timers,
        c.loop-end.invariant.fewer,
      );
      index = c.loop-end.invariant.index;
      room = c.loop-end.invariant.room;
      covers = covers_removed w.index.items (timers_of places) (timers_of
          c.remove.new.chains.places.items)
          p.timer c.remove.ensures.timers c.loop-end.invariant.covers;
      within = omega (
        arith,
        fewer_places p.timer places c.remove.new.chains.places.items
            c.loop-end.invariant.wheel.apart c.remove.ensures.timers,
        c.loop-end.invariant.within,
      );
      clear = clear_taken c.args.handle.0 places c.remove.new.chains.places.items (c.loop-end.end -
          1)
          p.timer p c.loop-end.invariant.wheel.apart here refl c.remove.ensures.timers
          c.remove.ensures.forward (λ k r least at.
          c.loop-end.invariant.clear k r (omega arith) at);
    }

pub loop-end-preserved : goal.loop-end-preserved
loop-end-preserved g c =
    let places = c.loop-end.self-inside.chains.places.items in
    let p : Place = c.index.result.now in
    let here : slice_get places (c.loop-end.end - 1) ≡ Some p =
    slice_get-get_or places (c.loop-end.end - 1) p (omega (arith, c.loop-end.invariant.within))
    ∙ ap Some (sym c.index.ensures) in
    record {
      wheel = c.loop-end.invariant.wheel;
      resolution = c.loop-end.invariant.resolution;
      others = c.loop-end.invariant.others;
      capacity = c.loop-end.invariant.capacity;
      fewer = c.loop-end.invariant.fewer;
      index = c.loop-end.invariant.index;
      room = c.loop-end.invariant.room;
      covers = c.loop-end.invariant.covers;
      within = omega (arith, c.loop-end.invariant.within);
      clear = λ k r least at same. elim (cases_eq k (c.loop-end.end - 1)) [
        | inl e ↦ c.if-t-handle.false (ap (λ (x : Place). x.timer.handle.0)
            (same_place p r here (ap (slice_get places) (sym e) ∙ at)) ∙ same)
        | inr ne ↦ c.loop-end.invariant.clear k r (omega (arith, least, ne)) at same
      ];
    }
  where
    same_place : (y z : Place)
        → slice_get c.loop-end.self-inside.chains.places.items (c.loop-end.end - 1)
        ≡ Some y → slice_get c.loop-end.self-inside.chains.places.items (c.loop-end.end - 1)
        ≡ Some z
        → y ≡ z
    same_place y z a b = cc

pub invariant_of-self : goal.invariant_of-self
invariant_of-self g c =
    let w = c.loop-end.self-inside in
    let k = c.loop-end.invariant in
    record {
      wheel = subst (λ n. IsWheel n w.chains.resolution w.chains.heads.items w.chains.places.items
          w.first)
          c.self.invariant.wheel.each_spoke k.wheel;
      rising = subst (λ v. IsRising v.items) (sym k.index) c.self.invariant.rising;
      covers = k.covers;
      fits = omega (arith, k.fewer, k.room, c.self.invariant.fits);
      places_fit = omega (arith, k.capacity, k.room, c.self.invariant.places_fit);
      index_fits = omega (
        arith,
        ap (λ v. vec_capacity v) k.index,
        k.room,
        c.self.invariant.index_fits,
      );
    }

pub returns-clause-kept : goal.returns-clause-kept
returns-clause-kept g c =
    let spare : c.self.inside.room - length c.self.inside.chains.places.items
    ≡ c.args.self.now.spare =
    ap (λ q. q.spare) c.self.view_is in
    omega (arith, spare, c.loop-end.invariant.room, c.loop-end.invariant.fewer)

pub returns-clause-timers : goal.returns-clause-timers
returns-clause-timers g c =
    let places = c.loop-end.self-inside.chains.places.items in
    let q : Timer → Bool = λ t. not (t.handle.0 == c.args.handle.0) in
    sym (filter_none q (timers_of places)
    (all_timers q places (λ k d l. ap not
    (ne_eqb _ _ (c.loop-end.invariant.clear k (get_or places k d) (omega arith)
    (slice_get-get_or places k d l))))))
    ∙ c.loop-end.invariant.others ∙ ap
    (λ s. without_handle c.args.handle.0 (in_order (timers_of s.places))) c.self.view_is

pub returns-clause-spare : goal.returns-clause-spare
returns-clause-spare g c =
    let spare : c.self.inside.room - length c.self.inside.chains.places.items
    ≡ c.args.self.now.spare =
    ap (λ q. q.spare) c.self.view_is in
    let places : length c.self.inside.chains.places.items ≡ length c.args.self.now.places =
    ap (λ q. length q.places) c.self.view_is in
    omega (
      arith,
      length-timers c.loop-end.self-inside.chains.places.items,
      length-timers c.args.self.now.places,
      c.loop-end.invariant.room,
      c.loop-end.invariant.fewer,
      c.self.invariant.fits,
    )
