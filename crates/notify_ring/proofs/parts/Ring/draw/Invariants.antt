use Rattle.notify_ring.proofs.parts.Ring.draw.Given as goal

abbrev pub ghosts-drawn : goal.ghosts-drawn
ghosts-drawn a = record { handle = a._handle; kind = a._kind }
