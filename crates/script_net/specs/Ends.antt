-- What the ends of a script tell, and what their calls do to them.
use Rattle.std.specs.Prelude.{◌≡◌, ◌<◌, ◌≤◌, if◌then◌else◌, ◌-◌, ℕ, min, nat_lt, Bool, true, false}
use Rattle.std.specs.Prelude.{List, [], ◌∷◌, ◌++◌, length, take, drop, flat_map, Option, Some, None}
use Rattle.ev_base.specs.Counts.{counted}
use Rattle.ev_base.specs.Story.{Part, Piece, Pausing, Ending, Failing, Telling, Offering, Offer}
use Rattle.ev_base.specs.Story.{AreNumbered, read_answer, told_after}
use Rattle.ev_base.specs.End.{EndFacts, Try, Moved, Paused, WasOver, Faulted}
use Rattle.ev_base.specs.declared.source.Got.{Got}
use Rattle.ev_base.specs.declared.source.Got.TheVariants as got
use Rattle.ev_base.specs.declared.end.Sent.{Sent}
use Rattle.ev_base.specs.declared.end.Sent.TheVariants as sent
use Rattle.ev_base.specs.declared.end.Taken.{Taken}
use Rattle.ev_base.specs.declared.end.Taken.TheVariants as taken
use Rattle.script_net.specs.Playable.{AreFilled, many_offered}
use Rattle.script_net.specs.Content.{ConnectionContent, PeerContent, ListenerContent}

-- ---- the bytes of a story

-- the bytes of a part, if it has some
abbrev pub part_bytes : Part → List ℕ
part_bytes (Piece bytes) = bytes
part_bytes Pausing = []
part_bytes Ending = []
part_bytes Failing = []

-- those of the first of the parts that are left that were given already
abbrev pub front_bytes : ℕ → List Part → List ℕ
front_bytes at [] = []
front_bytes at (part ∷ left) = take at (part_bytes part)

-- the bytes that parts will give: nothing is given after the end or a failure, which are told from
-- then on
abbrev pub bytes_of : List Part → List ℕ
bytes_of [] = []
bytes_of (Piece bytes ∷ left) = bytes ++ bytes_of left
bytes_of (Pausing ∷ left) = bytes_of left
bytes_of (Ending ∷ left) = []
bytes_of (Failing ∷ left) = []

-- those that they will give if so many of the first were given already
abbrev pub rest_bytes : ℕ → List Part → List ℕ
rest_bytes at [] = []
rest_bytes at (Piece bytes ∷ left) = drop at bytes ++ bytes_of left
rest_bytes at (Pausing ∷ left) = bytes_of left
rest_bytes at (Ending ∷ left) = []
rest_bytes at (Failing ∷ left) = []

abbrev pub given_bytes : Telling → List ℕ
given_bytes t = flat_map part_bytes t.given ++ front_bytes t.at t.left

-- ---- what the ends tell

-- whether a read answered Over: each later one does so too
abbrev pub is_over : Option Try → Bool
is_over (Some WasOver) = true
is_over _ = false

-- the end of a connection tells its bytes and its story
abbrev pub peer_facts : PeerContent → EndFacts
peer_facts c = record {
  listener = false;
  reads = c.reads;
  last_read = c.last_read;
  writes = c.writes;
  last_write = c.last_write;
  finishes = 0;
  last_finish = None;
  faults = c.faults;
  gave = length (given_bytes c.telling);
  over = is_over c.last_read;
  bytes = Some (record {
    given = given_bytes c.telling;
    left = rest_bytes c.telling.at c.telling.left;
  });
  written = Some c.held;
  serial = Some c.serial;
  telling = Some c.telling;
  offering = None;
}

-- a listener tells its story: it neither reads nor writes
abbrev pub listener_facts : ListenerContent → EndFacts
listener_facts l = record {
  listener = true;
  reads = l.accepts;
  last_read = l.last_accept;
  writes = 0;
  last_write = None;
  finishes = 0;
  last_finish = None;
  faults = l.faults;
  gave = 0;
  over = false;
  bytes = None;
  written = None;
  serial = None;
  telling = None;
  offering = Some l.offering;
}

-- ---- reading

-- what a read came to
abbrev pub try_of : Got → Try
try_of (got.Bytes n) = Moved n
try_of got.Pause = Paused
try_of got.Over = WasOver
try_of got.Failed = Faulted

-- the count of faults after a read
abbrev pub faults_after : Got → ℕ → ℕ
faults_after (got.Bytes n) faults = faults
faults_after got.Pause faults = faults
faults_after got.Over faults = faults
faults_after got.Failed faults = counted faults

-- the end after a read into a buffer with room for so many bytes
abbrev pub after_read : ℕ → PeerContent → PeerContent
after_read room c =
    let answer = read_answer room c.telling.at c.telling.left in
    record c {
      telling = told_after room c.telling.given c.telling.at c.telling.left;
      reads = counted c.reads;
      last_read = Some (try_of answer);
      faults = faults_after answer c.faults;
    }

-- the bytes that a read gave, which stand in front in the buffer
abbrev pub got_bytes : Got → List ℕ → List ℕ
got_bytes (got.Bytes n) buffer = take n buffer
got_bytes got.Pause buffer = []
got_bytes got.Over buffer = []
got_bytes got.Failed buffer = []

-- so many bytes of the first part that is left were given: not all of them
abbrev pub IsInside : ℕ → List Part → Type 0
IsInside at [] = at ≡ 0
IsInside at (Piece bytes ∷ left) = at < length bytes
IsInside at (Pausing ∷ left) = at ≡ 0
IsInside at (Ending ∷ left) = at ≡ 0
IsInside at (Failing ∷ left) = at ≡ 0

-- if a read answered Over, the end of the input is what is left to tell
abbrev pub starts_over : List Part → Bool
starts_over (Ending ∷ left) = true
starts_over _ = false

-- ---- how the code keeps the ends

-- how far the story of some parts was told: those in front of a place whole, and so many bytes of
-- the one there
abbrev pub telling_at : List Part → ℕ → ℕ → Telling
telling_at parts next at = record { given = take next parts; at = at; left = drop next parts }

-- how far a story was told after a read that told its next part whole, or told so many bytes of it
abbrev pub told_part : Part → List Part → List Part → Bool → ℕ → Telling
told_part part given left whole at =
    if whole then record { given = given ++ part ∷ []; at = 0; left = left } else record {
      given = given;
      at = at;
      left = part ∷ left;
    }

-- the end of a connection has room for what it takes, and its pieces have bytes
pub record IsPeer (parts : List Part) (next at held room capacity : ℕ) (over : Bool) : Type 0 where
  pub filled : AreFilled parts
  pub inside : IsInside at (drop next parts)
  pub within : held ≤ room
  pub spare : room ≤ capacity
  pub ended : over ≡ true → starts_over (drop next parts) ≡ true

-- what a write came to
abbrev pub try_of_write : Sent → Try
try_of_write (sent.Bytes n) = Moved n
try_of_write sent.Pause = Paused
try_of_write sent.Failed = Faulted

-- what an end answers to a write of so many bytes, and what it holds after it: it takes bytes
-- until it holds as many as it takes
abbrev pub write_answer : ℕ → PeerContent → Sent
write_answer many c = if nat_lt (length c.held) c.room then sent.Bytes
    (min many (c.room - length c.held)) else sent.Pause

abbrev pub after_write : List ℕ → PeerContent → PeerContent
after_write piece c =
    record c {
      held = if nat_lt (length c.held) c.room then c.held
          ++ take (min (length piece) (c.room - length c.held)) piece else c.held;
      writes = counted c.writes;
      last_write = Some (try_of_write (write_answer (length piece) c));
    }

-- the end of a connection that has made no call
abbrev pub new_peer : ℕ → ConnectionContent → PeerContent
new_peer number connection = record {
  serial = number;
  telling = telling_at connection.parts 0 0;
  room = connection.room;
  held = [];
  reads = 0;
  last_read = None;
  writes = 0;
  last_write = None;
  faults = 0;
}

-- ---- accepting

-- how far the story of some offers was told: those in front of a place
abbrev pub offering_at : List Offer → ℕ → Offering
offering_at offers next = record { given = take next offers; left = drop next offers }

-- The connections that did not come yet are offered by rising number, from as many as were offered
-- before.
pub record IsListener (offering : Offering) (connections : List ConnectionContent) : Type 0 where
  pub numbered : AreNumbered (many_offered offering.given) offering.left
  pub all_offered : many_offered offering.left ≡ length connections

abbrev pub new_listener : List Offer → List ConnectionContent → ListenerContent
new_listener offers connections = record {
  offering = offering_at offers 0;
  connections = connections;
  accepts = 0;
  last_accept = None;
  faults = 0;
}

-- an accept gives the end of the next connection that did not come yet
pub record GivesNext (old : ListenerContent) (end : PeerContent) (new : ListenerContent) : Type 0
  where
    pub number : end.serial ≡ many_offered old.offering.given
    pub connection : ConnectionContent
    pub was_next : old.connections ≡ connection ∷ new.connections
    pub end_is : end ≡ new_peer end.serial connection

abbrev pub AcceptsNext : ListenerContent → Taken PeerContent → ListenerContent → Type 0
AcceptsNext old (taken.One end) new = GivesNext old end new
AcceptsNext old taken.Pause new = new.connections ≡ old.connections
AcceptsNext old taken.Failed new = new.connections ≡ old.connections
