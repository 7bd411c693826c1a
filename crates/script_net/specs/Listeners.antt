-- What an accept came to, as the code keeps it.
use Rattle.ev_base.specs.End.{Try, Accepted, Paused, Faulted}
use Rattle.script_net.specs.declared.listener.Came.{Came}
use Rattle.script_net.specs.declared.listener.Came.TheVariants as came

abbrev pub try_of_accept : Came → Try
try_of_accept came.One = Accepted
try_of_accept came.Pause = Paused
try_of_accept came.Failed = Faulted
