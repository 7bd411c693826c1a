-- What a read does to what the end of a connection tells.
use Rattle.std.proofs.Common.{◌≡◌, ◌∙◌, ℕ, zero, suc, ◌+◌, ◌-◌, ◌<◌, ◌≤◌, min, Bool, true, false}
use Rattle.std.proofs.Common.{cond, List, [], ◌∷◌, ◌++◌, length, take, drop, Some, refl, sym, ap}
use Rattle.std.proofs.Common.{subst, arith}
use Rattle.std.specs.Prelude.{nat_lt}
use Rattle.std.specs.List.{flat_map}
use Rattle.std.proofs.lemmas.Bool.Decides.{nat_tests}
use Rattle.std.proofs.lemmas.List.{append-nil, append_assoc, length-append, length-take-le}
use Rattle.std.proofs.lemmas.List.{length-drop, take-append-drop, take_all, drop-drop}
use Rattle.std.proofs.lemmas.Grind.{flat_map-append}
use Rattle.ev_base.specs.Bytes.{ReaderBytes}
use Rattle.ev_base.specs.Story.{Part, Piece, Pausing, Ending, Failing, Telling, read_answer}
use Rattle.ev_base.specs.Story.{read_bytes, told_after}
use Rattle.ev_base.specs.End.{EndReads}
use Rattle.ev_base.specs.declared.source.Got.{Got}
use Rattle.script_net.specs.Content.{PeerContent}
use Rattle.script_net.specs.Playable.{AreFilled, IsFilled}
use Rattle.script_net.specs.Ends.{peer_facts, after_read, got_bytes, given_bytes, rest_bytes}
use Rattle.script_net.specs.Ends.{bytes_of, front_bytes, part_bytes, IsInside, IsPeer, telling_at}
use Rattle.script_net.specs.Ends.{try_of, starts_over, is_over}

none_of : (k : ℕ) → take {A = ℕ} k [] ≡ []
none_of zero = refl
none_of (suc k) = refl

-- so many bytes more of a list
take_on : (n k : ℕ) (xs : List ℕ) → take (n + k) xs ≡ take n xs ++ take k (drop n xs)
take_on zero k xs = let e : zero + k ≡ k = omega arith in ap (λ (m : ℕ). take m xs) e
take_on (suc n) k [] = none_of (suc n + k) ∙ sym (none_of k)
take_on (suc n) k (x ∷ xs) =
    let e : suc n + k ≡ suc (n + k) = omega arith in
    ap (λ (m : ℕ). take m (x ∷ xs)) e ∙ ap (λ ys. x ∷ ys) (take_on n k xs)

none_before : (left : List Part) → front_bytes 0 left ≡ []
none_before [] = refl
none_before (part ∷ left) = refl

all_left : (left : List Part) → rest_bytes 0 left ≡ bytes_of left
all_left [] = refl
all_left (Piece bytes ∷ left) = refl
all_left (Pausing ∷ left) = refl
all_left (Ending ∷ left) = refl
all_left (Failing ∷ left) = refl

-- a part that was told whole
given_whole : (given : List Part) (part : Part) (left : List Part)
    → given_bytes (record { given = given ++ part ∷ []; at = 0; left = left })
    ≡ flat_map part_bytes given ++ part_bytes part
given_whole given part left =
    ap (λ bs. flat_map part_bytes (given ++ part ∷ []) ++ bs) (none_before left)
    ∙ append-nil (flat_map part_bytes (given ++ part ∷ []))
    ∙ flat_map-append part_bytes given (part ∷ [])
    ∙ ap (λ bs. flat_map part_bytes given ++ bs) (append-nil (part_bytes part))

-- the story after a read of a piece, if it leaves some of it, and if it doesn't
abbrev told_if : ℕ → List Part → ℕ → List ℕ → List Part → Bool → Telling
told_if room given at bytes left b =
    cond b (record { given = given; at = at + room; left = Piece bytes ∷ left })
    (record { given = given ++ Piece bytes ∷ []; at = 0; left = left })

-- so many bytes of a piece are given
abbrev many : ℕ → ℕ → List ℕ → ℕ
many room at bytes = min room (length bytes - at)

record Gives (room : ℕ) (given : List Part) (at : ℕ) (bytes : List ℕ) (left : List Part)
    (new : Telling) : Type 0 where
  pub left_is : rest_bytes at (Piece bytes ∷ left)
      ≡ take (many room at bytes) (drop at bytes) ++ rest_bytes new.at new.left
  pub given_is : given_bytes new ≡ given_bytes
      (record { given = given; at = at; left = Piece bytes ∷ left })
      ++ take (many room at bytes) (drop at bytes)

gives : (room : ℕ) (given : List Part) (at : ℕ) (bytes : List ℕ) (left : List Part) (b : Bool)
    → at < length bytes → nat_lt (at + room) (length bytes) ≡ b
    → Gives room given at bytes left (told_if room given at bytes left b)
gives room given at bytes left true inside e =
    let lt : at + room < length bytes = grind (arith, nat_tests) in
    let all : many room at bytes ≡ room = omega arith in
    let rest : drop (many room at bytes) (drop at bytes) ≡ drop (at + room) bytes =
    drop-drop (many room at bytes) at bytes ∙ ap (λ (n : ℕ). drop (at + n) bytes) all in
    let front : take (at + room) bytes
    ≡ take at bytes ++ take (many room at bytes) (drop at bytes) =
    take_on at room bytes ∙ ap (λ (n : ℕ). take at bytes ++ take n (drop at bytes)) (sym all) in
    record {
      left_is =
          ap (λ bs. bs ++ bytes_of left) (sym
          (take-append-drop (many room at bytes) (drop at bytes))
          ∙ ap (λ bs. take (many room at bytes) (drop at bytes) ++ bs) rest)
          ∙ append_assoc (take (many room at bytes) (drop at bytes)) (drop (at + room) bytes)
          (bytes_of left);
      given_is = ap (λ bs. flat_map part_bytes given ++ bs) front
          ∙ sym (append_assoc (flat_map part_bytes given) (take at bytes)
          (take (many room at bytes) (drop at bytes)));
    }
gives room given at bytes left false inside e =
    let ge : length bytes ≤ at + room = grind (arith, nat_tests) in
    let long = length-drop at bytes in
    let all : take (many room at bytes) (drop at bytes) ≡ drop at bytes =
    take_all (many room at bytes) (drop at bytes) (omega arith) in
    record {
      left_is = ap (λ bs. bs ++ bytes_of left) (sym all)
          ∙ ap (λ bs. take (many room at bytes) (drop at bytes) ++ bs) (sym (all_left left));
      given_is =
          given_whole given (Piece bytes) left
          ∙ ap (λ bs. flat_map part_bytes given ++ bs) (sym (take-append-drop at bytes))
          ∙ sym (append_assoc (flat_map part_bytes given) (take at bytes) (drop at bytes))
          ∙ ap (λ bs. (flat_map part_bytes given ++ take at bytes) ++ bs) (sym all);
    }

-- a connection whose story was told so far
abbrev at_place : PeerContent → List Part → ℕ → List Part → PeerContent
at_place c given at left = record c { telling = record { given = given; at = at; left = left } }

-- what is given in a buffer
given_long : (old more : List ℕ) (buffer : List ℕ) (n : ℕ) → n ≤ length buffer
    → take n buffer ≡ more → length (old ++ more) ≡ length old + n
given_long old more buffer n within same =
    length-append old more ∙ ap (λ bs. length old + length bs) (sym same)
    ∙ ap (λ k. length old + k) (length-take-le n buffer within)

not_over : (over : Bool) (left : List Part) → (over ≡ true → starts_over left ≡ true)
    → starts_over left ≡ false → over ≡ false
not_over false left ended starts = refl
not_over true left ended starts = let e = ended refl in absurd cc

pub reads : (c : PeerContent) (given : List Part) (at : ℕ) (left : List Part) (buffer : List ℕ)
    → 0 < length buffer → IsInside at left → AreFilled left
    → (is_over c.last_read ≡ true → starts_over left ≡ true)
    → got_bytes (read_answer (length buffer) at left) buffer
    ≡ read_bytes (length buffer) at left
    → EndReads (peer_facts (at_place c given at left)) buffer (read_answer (length buffer) at left)
    (peer_facts (after_read (length buffer) (at_place c given at left)))
reads c given at [] buffer some inside filled ended bytes =
    record {
      counts = record {
        reads = refl;
        last_read = refl;
        listener = refl;
        writes = refl;
        last_write = refl;
        finishes = refl;
        last_finish = refl;
        written = refl;
        serial = refl;
      };
      gave = refl;
      bytes = refl;
      telling = (refl, refl, refl);
      was_not_over = not_over (is_over c.last_read) [] ended refl;
      over = refl;
      faults = refl;
      offering = refl;
    }
reads c given at (Piece bytes ∷ left) buffer some inside filled ended same =
    let room = length buffer in
    let n = many room at bytes in
    let g = gives room given at bytes left (nat_lt (at + room) (length bytes)) inside refl in
    record {
      counts = record {
        reads = refl;
        last_read = refl;
        listener = refl;
        writes = refl;
        last_write = refl;
        finishes = refl;
        last_finish = refl;
        written = refl;
        serial = refl;
      };
      some = omega arith;
      within = omega arith;
      gave = ap length g.given_is ∙ given_long (flat_map part_bytes given ++ take at bytes)
          (take n (drop at bytes)) buffer n (omega arith) same;
      bytes = (
        g.left_is ∙ ap (λ bs. bs ++ rest_bytes (told_after room given at (Piece bytes ∷ left)).at
            (told_after room given at (Piece bytes ∷ left)).left) (sym same),
        g.given_is ∙ ap (λ bs. (flat_map part_bytes given ++ take at bytes) ++ bs) (sym same),
      );
      telling = (refl, same, refl);
      was_not_over = not_over (is_over c.last_read) (Piece bytes ∷ left) ended refl;
      over = refl;
      faults = refl;
      offering = refl;
    }
reads c given at (Pausing ∷ left) buffer some inside filled ended same =
    let whole = given_whole given Pausing left
    ∙ ap (λ bs. flat_map part_bytes given ++ bs) (sym (none_of at)) in
    record {
      counts = record {
        reads = refl;
        last_read = refl;
        listener = refl;
        writes = refl;
        last_write = refl;
        finishes = refl;
        last_finish = refl;
        written = refl;
        serial = refl;
      };
      gave = ap length whole;
      bytes = ap Some (both (given_bytes
          (record { given = given ++ Pausing ∷ []; at = 0; left = left }))
          (flat_map part_bytes given ++ take at []) (rest_bytes 0 left) (bytes_of left) whole
          (all_left left));
      telling = (refl, refl, refl);
      was_not_over = not_over (is_over c.last_read) (Pausing ∷ left) ended refl;
      over = refl;
      faults = refl;
      offering = refl;
    }
  where
    both : (a b x y : List ℕ) → a ≡ b → x ≡ y
        → ◌≡◌ {A = ReaderBytes} (record { given = a; left = x }) (record { given = b; left = y })
    both a b x y e f = cc
reads c given at (Ending ∷ left) buffer some inside filled ended same =
    record {
      counts = record {
        reads = refl;
        last_read = refl;
        listener = refl;
        writes = refl;
        last_write = refl;
        finishes = refl;
        last_finish = refl;
        written = refl;
        serial = refl;
      };
      gave = ap (λ (k : ℕ). length (given_bytes
          (record { given = given; at = k; left = Ending ∷ left }))) (sym inside);
      bytes = ap (λ (k : ℕ). Some (record {
        given = given_bytes (record { given = given; at = k; left = Ending ∷ left });
        left = [];
      }))
          (sym inside);
      nothing_left = refl;
      telling = (refl, refl, refl);
      over = refl;
      faults = refl;
      offering = refl;
    }
reads c given at (Failing ∷ left) buffer some inside filled ended same =
    record {
      counts = record {
        reads = refl;
        last_read = refl;
        listener = refl;
        writes = refl;
        last_write = refl;
        finishes = refl;
        last_finish = refl;
        written = refl;
        serial = refl;
      };
      gave = ap (λ (k : ℕ). length (given_bytes
          (record { given = given; at = k; left = Failing ∷ left }))) (sym inside);
      rose = omega arith;
      bytes = ap (λ (k : ℕ). Some (record {
        given = given_bytes (record { given = given; at = k; left = Failing ∷ left });
        left = [];
      }))
          (sym inside);
      telling = (refl, refl, refl);
      was_not_over = not_over (is_over c.last_read) (Failing ∷ left) ended refl;
      over = refl;
      offering = refl;
    }

-- the same, of what was found at the start and what is left at the end
pub read_is : (c old new : PeerContent) (answer : Got) (room : ℕ) (buffer : List ℕ) → c ≡ old
    → room ≡ length buffer → 0 < room
    → IsInside c.telling.at c.telling.left → AreFilled c.telling.left
    → (is_over c.last_read ≡ true → starts_over c.telling.left ≡ true)
    → answer ≡ read_answer room c.telling.at c.telling.left
    → got_bytes answer buffer ≡ read_bytes room c.telling.at c.telling.left
    → new ≡ after_read room old → EndReads (peer_facts old) buffer answer (peer_facts new)
read_is c old new answer room buffer is_old is_room some inside filled ended is_answer bytes
    is_new =
    let same : got_bytes (read_answer (length buffer) c.telling.at c.telling.left) buffer
    ≡ read_bytes (length buffer) c.telling.at c.telling.left =
    subst (λ (n : ℕ). got_bytes (read_answer n c.telling.at c.telling.left) buffer
    ≡ read_bytes n c.telling.at c.telling.left) is_room
    (subst (λ (g : Got). got_bytes g buffer ≡ read_bytes room c.telling.at c.telling.left) is_answer
    bytes) in
    let by_length = reads c c.telling.given c.telling.at c.telling.left buffer (omega arith) inside
    filled ended same in
    let by_room = subst (λ (n : ℕ). EndReads (peer_facts c) buffer
    (read_answer n c.telling.at c.telling.left) (peer_facts (after_read n c))) (sym is_room)
    by_length in
    let by_old = subst (λ (o : PeerContent).
    EndReads (peer_facts o) buffer (read_answer room c.telling.at c.telling.left)
    (peer_facts (after_read room o))) is_old by_room in
    subst (λ (n : PeerContent). EndReads (peer_facts old) buffer answer (peer_facts n)) (sym is_new)
    (subst (λ (g : Got). EndReads (peer_facts old) buffer g (peer_facts (after_read room old)))
    (sym is_answer) by_old)

-- ---- how the code keeps it

pub filled_drop : (n : ℕ) (parts : List Part) → AreFilled parts → AreFilled (drop n parts)
filled_drop zero parts filled = filled
filled_drop (suc n) [] filled = tt
filled_drop (suc n) (part ∷ parts) filled = filled_drop n parts filled.1

starts_inside : (left : List Part) → AreFilled left → IsInside 0 left
starts_inside [] filled = refl
starts_inside (Piece bytes ∷ left) filled = filled.0
starts_inside (Pausing ∷ left) filled = refl
starts_inside (Ending ∷ left) filled = refl
starts_inside (Failing ∷ left) filled = refl

inside_if : (room : ℕ) (given : List Part) (at : ℕ) (bytes : List ℕ) (left : List Part) (b : Bool)
    → nat_lt (at + room) (length bytes) ≡ b → AreFilled left
    → IsInside (told_if room given at bytes left b).at (told_if room given at bytes left b).left
inside_if room given at bytes left true e filled = grind (arith, nat_tests)
inside_if room given at bytes left false e filled = starts_inside left filled

still_inside : (room : ℕ) (given : List Part) (at : ℕ) (left : List Part) → IsInside at left
    → AreFilled left → IsInside (told_after room given at left).at
    (told_after room given at left).left
still_inside room given at [] inside filled = refl
still_inside room given at (Piece bytes ∷ left) inside filled =
    inside_if room given at bytes left (nat_lt (at + room) (length bytes)) refl filled.1
still_inside room given at (Pausing ∷ left) inside filled = starts_inside left filled.1
still_inside room given at (Ending ∷ left) inside filled = refl
still_inside room given at (Failing ∷ left) inside filled = refl

still_over : (room : ℕ) (given : List Part) (at : ℕ) (left : List Part)
    → is_over (Some (try_of (read_answer room at left))) ≡ true
    → starts_over (told_after room given at left).left ≡ true
still_over room given at [] over = absurd cc
still_over room given at (Piece bytes ∷ left) over = absurd cc
still_over room given at (Pausing ∷ left) over = absurd cc
still_over room given at (Ending ∷ left) over = refl
still_over room given at (Failing ∷ left) over = absurd cc

pub still_peer : (parts : List Part) (next at held room capacity : ℕ) (over : Bool)
    → IsPeer parts next at held room capacity over → (n next' at' : ℕ) (answer : Got)
    → answer ≡ read_answer n at (drop next parts)
    → telling_at parts next' at' ≡ told_after n (take next parts) at (drop next parts)
    → IsPeer parts next' at' held room capacity (is_over (Some (try_of answer)))
still_peer parts next at held room capacity over p n next' at' answer is_answer told =
    let filled = filled_drop next parts p.filled in
    record {
      filled = p.filled;
      inside = subst (λ (t : Telling). IsInside t.at t.left) (sym told)
          (still_inside n (take next parts) at (drop next parts) p.inside filled);
      within = p.within;
      spare = p.spare;
      ended = λ e.
          subst (λ (t : Telling). starts_over t.left ≡ true) (sym told)
          (still_over n (take next parts) at (drop next parts)
          (subst (λ (g : Got). is_over (Some (try_of g)) ≡ true) is_answer e));
    }

pub filled_push : (parts : List Part) (part : Part) → AreFilled parts → IsFilled part
    → AreFilled (parts ++ part ∷ [])
filled_push [] part filled more = (more, tt)
filled_push (p ∷ parts) part filled more = (filled.0, filled_push parts part filled.1 more)
