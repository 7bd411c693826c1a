-- The last places of the ends of a script, as the code keeps them.
use Rattle.script_net.specs.declared.seats.LatestPlaces.{LatestPlaces}
use Rattle.script_net.specs.Seating.{Latest}

abbrev pub latest_view : LatestPlaces → Latest
latest_view l = record { listener = l.listener; connections = l.connections.items }
