use Rattle.std.proofs.Common.{◌∙◌, ◌+◌, ◌++◌, ◌∷◌, [], List, true, length, refl, sym, ap, subst}
use Rattle.std.proofs.Common.{arith}
use Rattle.std.specs.List.{Contains}
use Rattle.std.proofs.lemmas.List.{length_push}
use Rattle.script_net.specs.declared.seats.Place.{Place}
use Rattle.script_net.specs.Seating.{SeatsContent, Latest, Marks, IsSeating, handles_of, seats_of}
use Rattle.script_net.specs.Seating.{seat_of}
use Rattle.script_net.specs.LatestPlaces.{latest_view}
use Rattle.script_net.proofs.SeatingLemmas.{seats_pushed}
use Rattle.script_net.proofs.SeatsKept.{same_content, seating_pushed}
use Rattle.script_net.proofs.seats.Seats.attach.Goals as goal

pub invariant_of-self : goal.invariant_of-self
invariant_of-self c =
    let i = c.self.inside in
    let p : Place = record {
      handle = c.args.handle.0;
      mask = c.args.mask;
      end = c.args.end;
      attached = true;
      earlier = c.put-earlier.result;
    } in
    let marks : Marks = record { listener = i.gone_listener; connections = i.gone.items } in
    let absent = λ (h : Contains (handles_of (seats_of i.places.items)) c.args.handle.0).
    c.requires.absent (subst (λ (s : SeatsContent).
    Contains (handles_of s.seats) c.args.handle.0) c.self.view_is h) in
    let pushed = seating_pushed i.places.items (latest_view i.latest) marks p c.len.result
    (c.len.ensures ∙ omega arith) c.put-earlier.ensures.was absent c.self.invariant in
    subst (λ (ps : List Place). IsSeating ps (latest_view c.put-earlier.new.self) marks)
    (sym c.in-Ok.ensures.items)
    (subst (λ (l : Latest). IsSeating (i.places.items ++ p ∷ []) l marks)
    (sym c.put-earlier.ensures.set) pushed)

pub returns-clause-attached : goal.returns-clause-attached
returns-clause-attached c =
    let i = c.self.inside in
    let p : Place = record {
      handle = c.args.handle.0;
      mask = c.args.mask;
      end = c.args.end;
      attached = true;
      earlier = c.put-earlier.result;
    } in
    same_content _ _
    (ap seats_of c.in-Ok.ensures.items ∙ seats_pushed i.places.items p refl
    ∙ ap (λ (s : SeatsContent). seat_of p ∷ s.seats) c.self.view_is)
    (ap (λ (s : SeatsContent). s.marks) c.self.view_is)
    (ap length c.in-Ok.ensures.items ∙ length_push i.places.items p
    ∙ ap (λ (s : SeatsContent). s.made + 1) c.self.view_is)
    refl
