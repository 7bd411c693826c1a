-- What a piece that passed does to what is told.
use Rattle.std.proofs.Common.{◌≡◌, ◌≤◌, ◌∙◌, ◌+◌, ◌-◌, ℕ, List, [], ◌++◌, length, take, drop, refl}
use Rattle.std.proofs.Common.{sym, ap, arith, subst, Option, Some, None, Bool, true, false}
use Rattle.std.proofs.Common.{if◌then◌else◌}
use Rattle.std.proofs.lemmas.List.{append-nil, append_assoc, drop_at, length-append}
use Rattle.std.proofs.lemmas.List.{length-drop, length-take, take_at}
use Rattle.cdr_record.specs.Grammar.{payload_length}
use Rattle.ev_base.specs.Bytes.{ReaderBytes, MovesOn, NothingLeft, HasGiven}
use Rattle.ev_base.specs.Source.{SourceFacts, Reads, GivesBytes}
use Rattle.ev_base.specs.End.{CountsRead, EndFacts, EndReads, EndGives, Try, Moved, Paused}
use Rattle.ev_base.specs.End.{WasOver, Faulted}
use Rattle.ev_base.specs.declared.source.Got.{Got}
use Rattle.ev_base.specs.declared.source.Got.TheVariants as got
use Rattle.ace7_input.specs.declared.place.Place.{Place}
use Rattle.ace7_input.specs.declared.place.Place.TheVariants.{Payload, Header, Behind}
use Rattle.ace7_input.specs.Wide.{as_wide, is_header, wide_behind}
use Rattle.ace7_input.specs.Places.{EndsAt, Passes, behind, bytes_of}
use Rattle.ace7_input.specs.Facts.{told_wide, wide_source, wide_end}
use Rattle.ace7_input.proofs.Passing.{wide_nil, length_wide}

-- ---- at the start

not_told : {P : Type 0} (b : ReaderBytes) → None ≡ Some b → P
not_told b told = absurd (let no : ⊥ = cc in no)

pub starts : (bytes : Option ReaderBytes) → HasGiven bytes [] → EndsAt bytes (Payload 0)
starts bytes none b told t =
    let given : b.given ≡ [] = subst (λ (o : Option ReaderBytes). HasGiven o []) told none in
    subst (λ (g : List ℕ). as_wide (g ++ t) ≡ as_wide g ++ as_wide t) (sym given)
    (sym (ap (λ (l : List ℕ). l ++ as_wide t) (wide_nil 0)))

pub has_given_none : (bytes : Option ReaderBytes) → HasGiven bytes []
    → HasGiven (told_wide bytes) []
has_given_none None none = tt
has_given_none (Some b) none = ap as_wide none ∙ wide_nil 0

-- ---- a piece

-- nothing stands for nothing
none_behind : (c : Bool) (n : ℕ) → (if c then wide_behind n [] else []) ≡ []
none_behind true n = wide_nil n
none_behind false n = refl

behind_nil : (place : Place) → behind place [] ≡ []
behind_nil (Payload left) = wide_nil left
behind_nil (Header begun) = none_behind (is_header (bytes_of begun ++ []))
    (8 - length (bytes_of begun) + payload_length (bytes_of begun ++ []))
behind_nil Behind = refl

-- what was given, and a piece more
module _ (g piece given left : List ℕ) (old new : Place)
    (ends : (t : List ℕ) → as_wide (g ++ t) ≡ as_wide g ++ behind old t)
    (passes : Passes old piece given new) (same : length given ≡ length piece) where
  all : (t : List ℕ) → as_wide ((g ++ piece) ++ t) ≡ (as_wide g ++ given) ++ behind new t
  all t = ap as_wide (append_assoc g piece t) ∙ ends (piece ++ t)
      ∙ ap (λ (l : List ℕ). as_wide g ++ l) (passes t)
      ∙ sym (append_assoc (as_wide g) given (behind new t))

  now_given : as_wide (g ++ piece) ≡ as_wide g ++ given
  now_given = ap as_wide (sym (append-nil (g ++ piece))) ∙ all []
      ∙ ap (λ (l : List ℕ). (as_wide g ++ given) ++ l) (behind_nil new)
      ∙ append-nil (as_wide g ++ given)

  now_ends : (t : List ℕ) → as_wide ((g ++ piece) ++ t) ≡ as_wide (g ++ piece) ++ behind new t
  now_ends t = all t ∙ ap (λ (l : List ℕ). l ++ behind new t) (sym now_given)

  was_left : drop (length g) (as_wide (g ++ (piece ++ left))) ≡ given ++ behind new left
  was_left =
      let long = length_wide 0 g in
      ap (drop (length g)) (ends (piece ++ left))
      ∙ drop_at (as_wide g) (behind old (piece ++ left)) (length g) long ∙ passes left

  now_left : drop (length (g ++ piece)) (as_wide ((g ++ piece) ++ left)) ≡ behind new left
  now_left =
      let long : length (as_wide g ++ given) ≡ length (g ++ piece) =
      omega (arith, length-append (as_wide g) given, length-append g piece, length_wide 0 g) in
      ap (drop (length (g ++ piece))) (all left)
      ∙ drop_at (as_wide g ++ given) (behind new left) (length (g ++ piece)) long

-- a piece that was given stands for one that the reader within gave
pub moves : (old new : Option ReaderBytes) (piece given : List ℕ) (before after : Place)
    → length given ≡ length piece → EndsAt old before → Passes before piece given after
    → MovesOn old piece new → MovesOn (told_wide old) given (told_wide new)
moves None None piece given before after same ends passes moved = tt
moves None (Some new) piece given before after same ends passes moved = absurd moved
moves (Some old) None piece given before after same ends passes moved = absurd moved
moves (Some old) (Some new) piece given before after same ends passes moved =
    let at : (t : List ℕ) → as_wide (old.given ++ t) ≡ as_wide old.given ++ behind before t =
    ends old refl in (
      ap (λ (l : List ℕ). drop (length old.given) (as_wide (old.given ++ l))) moved.0
          ∙ was_left old.given piece given new.left before after at passes same
          ∙ ap (λ (l : List ℕ). given ++ l)
          (sym (ap (λ (g : List ℕ). drop (length g) (as_wide (g ++ new.left))) moved.1
          ∙ now_left old.given piece given new.left before after at passes same)),
      ap as_wide moved.1 ∙ now_given old.given piece given new.left before after at passes same,
    )

Stands : Place → List ℕ → Option ReaderBytes → Type 0
Stands place t None = Unit {0}
Stands place t (Some b) = as_wide (b.given ++ t) ≡ as_wide b.given ++ behind place t

pub ends_after : (old new : Option ReaderBytes) (piece given : List ℕ) (before after : Place)
    → length given ≡ length piece → EndsAt old before → Passes before piece given after
    → MovesOn old piece new → EndsAt new after
unfolding Stands
ends_after old None piece given before after same ends passes moved b told t = not_told b told
ends_after None (Some new) piece given before after same ends passes moved b told t = absurd moved
ends_after (Some old) (Some new) piece given before after same ends passes moved b told t =
    let at : (t : List ℕ) → as_wide (old.given ++ t) ≡ as_wide old.given ++ behind before t =
    ends old refl in
    let now : (t : List ℕ) → as_wide (new.given ++ t) ≡ as_wide new.given ++ behind after t =
    λ t. subst (λ (g : List ℕ). as_wide (g ++ t) ≡ as_wide g ++ behind after t) (sym moved.1)
    (now_ends old.given piece given [] before after at passes same t) in
    subst (Stands after t) told (now t)

-- no byte is left
pub none_left : (bytes : Option ReaderBytes) → NothingLeft bytes → NothingLeft (told_wide bytes)
none_left None none = tt
none_left (Some b) none =
    let long = length_wide 0 b.given in
    ap (λ (l : List ℕ). drop (length b.given) (as_wide (b.given ++ l))) none
    ∙ ap (λ (l : List ℕ). drop (length b.given) (as_wide l)) (append-nil b.given)
    ∙ ap (drop (length b.given)) (sym (append-nil (as_wide b.given)))
    ∙ drop_at (as_wide b.given) [] (length b.given) long

-- ---- a read

-- the buffer has what stands for the piece in its place
module _ (buffer given : List ℕ) (n : ℕ) (within : n ≤ length buffer)
    (same : length given ≡ length (take n buffer)) where
  of_n : length given ≡ n
  of_n = omega (arith, same, within, length-take n buffer)

  front : take n (given ++ drop n buffer) ≡ given
  front = take_at given (drop n buffer) n of_n

  as_long : length (given ++ drop n buffer) ≡ length buffer
  as_long = omega (arith, of_n, within, length-append given (drop n buffer), length-drop n buffer)

-- the place after a read that gave bytes
pub source_ends : (old new : SourceFacts) (buffer given : List ℕ) (n : ℕ) (before after : Place)
    → length given ≡ length (take n buffer) → EndsAt old.bytes before
    → Passes before (take n buffer) given after → GivesBytes old buffer n new
    → EndsAt new.bytes after
source_ends old new buffer given n before after same ends passes gives =
    ends_after old.bytes new.bytes (take n buffer) given before after same ends passes gives.bytes

pub source_gives : (old new : SourceFacts) (buffer given : List ℕ) (n : ℕ) (before after : Place)
    → length given ≡ length (take n buffer) → EndsAt old.bytes before
    → Passes before (take n buffer) given after → GivesBytes old buffer n new
    → GivesBytes (wide_source old) (given ++ drop n buffer) n (wide_source new)
source_gives old new buffer given n before after same ends passes gives =
    let moved = moves old.bytes new.bytes (take n buffer) given before after same ends passes
    gives.bytes in
    record {
      some = gives.some;
      within = omega (arith, gives.within, as_long buffer given n gives.within same);
      gave = gives.gave;
      bytes = subst (λ (p : List ℕ). MovesOn (told_wide old.bytes) p (told_wide new.bytes))
          (sym (front buffer given n gives.within same)) moved;
      was_not_over = gives.was_not_over;
      over = gives.over;
      faults = gives.faults;
    }

-- a read that gave none
pub source_rest : (old new : SourceFacts) (buffer : List ℕ) (answer : Got)
    → ((n : ℕ) → answer ≡ got.Bytes n → ⊥) → Reads old buffer answer new
    → Reads (wide_source old) buffer answer (wide_source new)
source_rest old new buffer (got.Bytes n) not reads = absurd (not n refl)
source_rest old new buffer got.Pause not reads = reads
source_rest old new buffer got.Over not reads = record {
  over = reads.over;
  nothing_left = none_left old.bytes reads.nothing_left;
  gave = reads.gave;
  bytes = ap told_wide reads.bytes;
  faults = reads.faults;
}
source_rest old new buffer got.Failed not reads = record {
  rose = reads.rose;
  gave = reads.gave;
  was_not_over = reads.was_not_over;
  over = reads.over;
  bytes = ap told_wide reads.bytes;
}

-- ---- a read of an end

counts_read : (old new : EndFacts) (came_to : Try) → CountsRead old came_to new
    → CountsRead (wide_end old) came_to (wide_end new)
counts_read old new came_to counts = record {
  reads = counts.reads;
  last_read = counts.last_read;
  listener = counts.listener;
  writes = counts.writes;
  last_write = counts.last_write;
  finishes = counts.finishes;
  last_finish = counts.last_finish;
  written = counts.written;
  serial = counts.serial;
}

pub end_ends : (old new : EndFacts) (buffer given : List ℕ) (n : ℕ) (before after : Place)
    → length given ≡ length (take n buffer) → EndsAt old.bytes before
    → Passes before (take n buffer) given after → EndGives old buffer n new → EndsAt new.bytes after
end_ends old new buffer given n before after same ends passes gives =
    ends_after old.bytes new.bytes (take n buffer) given before after same ends passes gives.bytes

pub end_gives : (old new : EndFacts) (buffer given : List ℕ) (n : ℕ) (before after : Place)
    → length given ≡ length (take n buffer) → EndsAt old.bytes before
    → Passes before (take n buffer) given after → EndGives old buffer n new
    → EndGives (wide_end old) (given ++ drop n buffer) n (wide_end new)
end_gives old new buffer given n before after same ends passes gives =
    let moved = moves old.bytes new.bytes (take n buffer) given before after same ends passes
    gives.bytes in
    record {
      counts = counts_read old new (Moved n) gives.counts;
      some = gives.some;
      within = omega (arith, gives.within, as_long buffer given n gives.within same);
      gave = gives.gave;
      bytes = subst (λ (p : List ℕ). MovesOn (told_wide old.bytes) p (told_wide new.bytes))
          (sym (front buffer given n gives.within same)) moved;
      telling = tt;
      was_not_over = gives.was_not_over;
      over = gives.over;
      faults = gives.faults;
      offering = gives.offering;
    }

pub end_rest : (old new : EndFacts) (buffer : List ℕ) (answer : Got)
    → ((n : ℕ) → answer ≡ got.Bytes n → ⊥) → EndReads old buffer answer new
    → EndReads (wide_end old) buffer answer (wide_end new)
end_rest old new buffer (got.Bytes n) not reads = absurd (not n refl)
end_rest old new buffer got.Pause not reads = record {
  counts = counts_read old new Paused reads.counts;
  gave = reads.gave;
  bytes = ap told_wide reads.bytes;
  telling = tt;
  was_not_over = reads.was_not_over;
  over = reads.over;
  faults = reads.faults;
  offering = reads.offering;
}
end_rest old new buffer got.Over not reads = record {
  counts = counts_read old new WasOver reads.counts;
  gave = reads.gave;
  bytes = ap told_wide reads.bytes;
  nothing_left = none_left old.bytes reads.nothing_left;
  telling = tt;
  over = reads.over;
  faults = reads.faults;
  offering = reads.offering;
}
end_rest old new buffer got.Failed not reads = record {
  counts = counts_read old new Faulted reads.counts;
  gave = reads.gave;
  rose = reads.rose;
  bytes = ap told_wide reads.bytes;
  telling = tt;
  was_not_over = reads.was_not_over;
  over = reads.over;
  offering = reads.offering;
}
