-- What contracts name of a ring, a poster and a drainer.
use Rattle.std.specs.Prelude.{◌≡◌}
use Rattle.atomic_table.specs.Seated.{TableId}
use Rattle.atomic_table.specs.declared.shared.Seat.{Seat}
use Rattle.notify_ring.specs.declared.view.View.{View}
use Rattle.notify_ring.specs.declared.parts.Ring.{Ring}
use Rattle.notify_ring.specs.declared.parts.Poster.{Poster}
use Rattle.notify_ring.specs.declared.parts.Drainer.{Drainer}

-- The ring's name, which no other ring has.
abbrev pub id_of : Ring → TableId
id_of ring = ring.table.shared.table_id

-- The seat is one of the ring's table.
abbrev pub IsSeatOf : Ring → Seat (Unit {0}) View → Type 0
IsSeatOf ring seat = seat.table_id ≡ id_of ring

-- It is the same seat of the same table.
abbrev pub IsSameSeat : Seat (Unit {0}) View → Seat (Unit {0}) View → Type 0
IsSameSeat old new = (new.table_id ≡ old.table_id) × (new.id ≡ old.id)

-- The name of the ring that a poster belongs to, and what the poster knows.
abbrev pub poster_ring : Poster → TableId
poster_ring poster = poster.seat.table_id

abbrev pub poster_view : Poster → View
poster_view poster = poster.seat.me.0

-- The name of the ring that a drainer belongs to, and what the drainer knows.
abbrev pub drainer_ring : Drainer → TableId
drainer_ring drainer = drainer.seat.table_id

abbrev pub drainer_view : Drainer → View
drainer_view drainer = drainer.seat.me.0
