-- What a call of the system that moves bytes came to, and how many bytes a socket moves at most.
use Rattle.std.specs.Prelude.{◌≡◌, ◌≤◌, ℕ, List, length, take, Option, Result, Ok, Err}
use Rattle.std.specs.Io.KnownBytes.{Keeps, Appends, Consumes, IsAtEnd}
use Rattle.ev_base.specs.declared.source.Got.{Got}
use Rattle.ev_base.specs.declared.source.Got.TheVariants as got
use Rattle.ev_base.specs.declared.end.Sent.{Sent}
use Rattle.ev_base.specs.declared.end.Sent.TheVariants as sent

-- a read gave bytes, or none at the end of the input, or it would wait or failed
abbrev pub GotOf : {E : Type 0} → Result ℕ E → Got → Type 0
GotOf (Ok n) (got.Bytes m) = (m ≡ n) × (1 ≤ n)
GotOf (Ok n) got.Pause = ⊥
GotOf (Ok n) got.Over = n ≡ 0
GotOf (Ok n) got.Failed = ⊥
GotOf (Err e) (got.Bytes m) = ⊥
GotOf (Err e) got.Pause = Unit {0}
GotOf (Err e) got.Over = ⊥
GotOf (Err e) got.Failed = Unit {0}

-- a write took bytes, or none, which is a fault, or it would wait or failed
abbrev pub SentOf : {E : Type 0} → Result ℕ E → Sent → Type 0
SentOf (Ok n) (sent.Bytes m) = (m ≡ n) × (1 ≤ n)
SentOf (Ok n) sent.Pause = ⊥
SentOf (Ok n) sent.Failed = n ≡ 0
SentOf (Err e) (sent.Bytes m) = ⊥
SentOf (Err e) sent.Pause = Unit {0}
SentOf (Err e) sent.Failed = Unit {0}

abbrev pub GotWithin : Got → List ℕ → Type 0
GotWithin (got.Bytes n) buffer = (1 ≤ n) × (n ≤ length buffer)
GotWithin got.Pause buffer = Unit {0}
GotWithin got.Over buffer = Unit {0}
GotWithin got.Failed buffer = Unit {0}

-- What a read that was answered so did to the bytes that the reader had left: it gave the next of
-- them; or it left them, and if it is the end there was none.
abbrev pub GotFrom : Option (List ℕ) → List ℕ → Got → Option (List ℕ) → Type 0
GotFrom old buffer (got.Bytes n) new = Consumes old new (take n buffer)
GotFrom old buffer got.Pause new = Keeps old new
GotFrom old buffer got.Over new = Keeps old new × IsAtEnd new
GotFrom old buffer got.Failed new = Keeps old new

-- What a write of a piece that was answered so did to the bytes that the writer held: they grew by
-- those that it took, or stayed.
abbrev pub SentTo : Option (List ℕ) → List ℕ → Sent → Option (List ℕ) → Type 0
SentTo old piece (sent.Bytes n) new = Appends old new (take n piece)
SentTo old piece sent.Pause new = Keeps old new
SentTo old piece sent.Failed new = Keeps old new

abbrev pub SentWithin : Sent → List ℕ → Type 0
SentWithin (sent.Bytes n) piece = (1 ≤ n) × (n ≤ length piece)
SentWithin sent.Pause piece = Unit {0}
SentWithin sent.Failed piece = Unit {0}
