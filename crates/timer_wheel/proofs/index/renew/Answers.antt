use Rattle.std.proofs.Common.{◌≡◌, ◌≢◌, length, map, take, ap, sym, ◌∙◌, subst, arith}
use Rattle.std.proofs.lemmas.List.{take_all}
use Rattle.std.proofs.lemmas.List.Sorted.{length_permutation}
use Rattle.std.specs.List.{AllPairs}
use Rattle.std.specs.List.Sorted.{IsPermutation}
use Rattle.timer_index.specs.declared.index.Numbered.{Numbered}
use Rattle.timer_wheel.specs.Spokes.{timers_of}
use Rattle.timer_wheel.specs.Index.{entry_of_timer}
use Rattle.timer_wheel.proofs.Kept.{entries_apart, entries_cover, length-entries}
use Rattle.timer_wheel.proofs.index.renew.Goals as goal

pub sort-requires : goal.sort-requires
sort-requires c =
    let all : take c.loop-place.place-index c.args.places.now ≡ c.args.places.now =
    take_all c.loop-place.place-index c.args.places.now (omega arith) in
    let is : c.loop-place.index.items ≡ map entry_of_timer (timers_of c.args.places.now) =
    c.loop-place.invariant.0 ∙ ap (λ ps. map entry_of_timer (timers_of ps)) all in
    record {
      apart = subst (λ xs. AllPairs (λ (e f : Numbered). e.timer ≢ f.timer) xs) (sym is)
          (entries_apart (timers_of c.args.places.now) c.requires.apart);
    }

pub returns-clause-covers : goal.returns-clause-covers
returns-clause-covers c =
    let all : take c.loop-place.place-index c.args.places.now ≡ c.args.places.now =
    take_all c.loop-place.place-index c.args.places.now (omega arith) in
    let is : c.loop-place.index.items ≡ map entry_of_timer (timers_of c.args.places.now) =
    c.loop-place.invariant.0 ∙ ap (λ ps. map entry_of_timer (timers_of ps)) all in
    entries_cover (timers_of c.args.places.now) c.sort.new.index.items
    (subst (λ xs. IsPermutation xs c.sort.new.index.items) is c.sort.ensures.entries)

pub returns-clause-len : goal.returns-clause-len
returns-clause-len c =
    let all : take c.loop-place.place-index c.args.places.now ≡ c.args.places.now =
    take_all c.loop-place.place-index c.args.places.now (omega arith) in
    let is : c.loop-place.index.items ≡ map entry_of_timer (timers_of c.args.places.now) =
    c.loop-place.invariant.0 ∙ ap (λ ps. map entry_of_timer (timers_of ps)) all in
    let n : length c.sort.new.index.items ≡ length c.loop-place.index.items =
    length_permutation c.loop-place.index.items c.sort.new.index.items c.sort.ensures.entries in
    omega (arith, n, ap length is, length-entries c.args.places.now)
