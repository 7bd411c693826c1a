-- What stands first in a list is known by a few numbers, and stays as the list grows.
use Rattle.std.proofs.Common.{◌≡◌, ◌≤◌, ◌<◌, ℕ, ◌+◌, ◌-◌, ◌==◌, List, ◌++◌, length, drop, refl, sym}
use Rattle.std.proofs.Common.{◌∙◌, ap, arith, nat_lt, if◌then◌else◌}
use Rattle.std.proofs.lemmas.Bool.Decides.{nat_tests}
use Rattle.std.proofs.lemmas.List.{length-append, length-drop, drop-append-le, take-append-le}
use Rattle.std.proofs.lemmas.List.{get_or_append_left}
use Rattle.byteorder.specs.Numbers.{big_from-append, little_from-append}
use Rattle.cdr_record.specs.declared.record.Order.{Order}
use Rattle.cdr_record.specs.declared.record.Order.TheVariants.{Big, Little}
use Rattle.cdr_record.specs.declared.bad.BadWhy.{BadWhy}
use Rattle.cdr_record.specs.declared.bad.BadWhy.TheVariants as why
use Rattle.cdr_record.specs.declared.grammar.First.{First}
use Rattle.cdr_record.specs.declared.grammar.First.TheVariants.{More, Bad, One}
use Rattle.cdr_record.specs.Grammar.{first_of, number, order_of, octet, word_at, payload_length}
use Rattle.cdr_record.specs.Grammar.{fields_length, HasFields, message_length, seconds_size}
use Rattle.cdr_record.specs.Grammar.{seconds_width, record_in}

-- what stands first, by the numbers of bytes, octet, payload, fields and message
abbrev pub verdict : ℕ → ℕ → ℕ → ℕ → ℕ → First
verdict l o p f m =
    if l == 0 then More
    else if nat_lt 3 o then Bad why.Order
    else if nat_lt l 8 then More
    else if nat_lt p f then Bad why.Length
    else if nat_lt (f + 65536) p then Bad why.Length
    else if nat_lt l (8 + p) then More
    else if nat_lt (p - f) m then Bad why.Message
    else One (8 + p)

pub first_verdict : (t : List ℕ) → first_of t
    ≡ verdict (length t) (octet t) (payload_length t) (fields_length t) (message_length t)
unfolding first_of
first_verdict t = refl

-- the numbers of a whole record
pub record IsWhole (l o p f m : ℕ) : Type 0 where
  pub version : o ≤ 3
  pub header : 8 ≤ l
  pub least : f ≤ p
  pub most : p ≤ f + 65536
  pub whole : 8 + p ≤ l
  pub room : m ≤ p - f

pub verdict_one : (l o p f m n : ℕ) → verdict l o p f m ≡ One n → IsWhole l o p f m × (n ≡ 8 + p)
verdict_one l o p f m n e = grind (arith, nat_tests)

pub verdict_whole : (l o p f m : ℕ) → IsWhole l o p f m → verdict l o p f m ≡ One (8 + p)
verdict_whole l o p f m w = grind (arith, nat_tests)

-- as the list grows, what was read stays
pub verdict_bad_stays : (l o p f m l' o' p' f' m' : ℕ) (w : BadWhy) → l ≤ l' → (0 < l → o' ≡ o)
    → (0 < l → f' ≡ f) → (8 ≤ l → p' ≡ p) → (8 + f ≤ l → m' ≡ m)
    → verdict l o p f m ≡ Bad w → verdict l' o' p' f' m' ≡ Bad w
verdict_bad_stays l o p f m l' o' p' f' m' w grows eo ef ep em e = grind (arith, nat_tests)

-- a number reads no byte past its end
pub number-append : (order : Order) (n : ℕ) (xs ys : List ℕ) → n ≤ length xs
    → number order n (xs ++ ys) ≡ number order n xs
unfolding number
number-append Big n xs ys h = big_from-append n xs ys h
number-append Little n xs ys h = little_from-append n xs ys h

pub octet-append : (t u : List ℕ) → 0 < length t → octet (t ++ u) ≡ octet t
octet-append t u h = get_or_append_left t u 0 0 h

-- the number at a place reads no byte past its end
pub number_at-append : (order : Order) (n at : ℕ) (t u : List ℕ) → at + n ≤ length t
    → number order n (drop at (t ++ u)) ≡ number order n (drop at t)
number_at-append order n at t u h =
    let le : at ≤ length t = omega arith in
    let room : n ≤ length (drop at t) = omega (arith, length-drop at t) in
    rw (drop-append-le at t u le) (number-append order n (drop at t) u room)

pub word_at-append : (at : ℕ) (t u : List ℕ) → 0 < length t → at + 4 ≤ length t
    → word_at at (t ++ u) ≡ word_at at t
word_at-append at t u some h = rw (octet-append t u some)
    (number_at-append (order_of (octet t)) 4 at t u h)

pub fields_length-append : (t u : List ℕ) → 0 < length t → fields_length (t ++ u) ≡ fields_length t
fields_length-append t u some = rw (octet-append t u some) refl

pub message_length-append : (t u : List ℕ) → HasFields t
    → message_length (t ++ u) ≡ message_length t
message_length-append t u h =
    let some : 0 < length t = omega arith in
    let room : 20 + seconds_size (octet t) + 4 ≤ length t = omega arith in
    rw (octet-append t u some) (number_at-append (order_of (octet t)) 4
    (20 + seconds_size (octet t)) t u room)

-- the seconds take 4 or 8 bytes
pub seconds_size-most : (first : ℕ) → seconds_size first ≤ 8
unfolding seconds_size seconds_width
seconds_size-most first = grind (arith, nat_tests)

-- the fields of a record that is whole stay as the list grows
pub record_in-append : (t u : List ℕ) → HasFields t
    → 8 + fields_length t + message_length t ≤ length t → record_in (t ++ u) ≡ record_in t
unfolding record_in
record_in-append t u h g =
    let size = seconds_size (octet t) in
    let order = order_of (octet t) in
    let some : 0 < length t = omega arith in
    let kind = number_at-append order 4 8 t u (omega arith) in
    let pid = number_at-append order 4 12 t u (omega arith) in
    let sec = number_at-append order size 16 t u (omega arith) in
    let usec = number_at-append order 4 (16 + size) t u (omega arith) in
    let message = number_at-append order 4 (20 + size) t u (omega arith) in
    let start : 24 + size ≤ length t = omega arith in
    let end : message_length t ≤ length (drop (24 + size) t) =
    omega (arith, length-drop (24 + size) t) in
    rw (
      octet-append t u some,
      kind,
      pid,
      sec,
      usec,
      message,
      drop-append-le (24 + size) t u start,
      take-append-le (message_length t) (drop (24 + size) t) u end,
    ) refl

-- what a list that begins with a record says of it
pub first_one : (t : List ℕ) (n : ℕ) → first_of t ≡ One n
    → IsWhole (length t) (octet t) (payload_length t) (fields_length t) (message_length t)
    × (n ≡ 8 + payload_length t)
first_one t n e = verdict_one (length t) (octet t) (payload_length t) (fields_length t)
    (message_length t) n (sym (first_verdict t) ∙ e)

pub first_whole : (t : List ℕ) → IsWhole (length t) (octet t) (payload_length t) (fields_length t)
    (message_length t) → first_of t ≡ One (8 + payload_length t)
first_whole t w = first_verdict t ∙ verdict_whole (length t) (octet t) (payload_length t)
    (fields_length t) (message_length t) w

-- the record has bytes, and they are there
pub one_within : (t : List ℕ) (n : ℕ) → first_of t ≡ One n → (0 < n) × (n ≤ length t)
one_within t n e = let one = first_one t n e in let w = one.0 in
    (omega (arith, one.1), omega (arith, one.1, w.whole))

-- One stays as the list grows
pub one_stays : (t u : List ℕ) (n : ℕ) → first_of t ≡ One n → first_of (t ++ u) ≡ One n
one_stays t u n e =
    let one = first_one t n e in
    let w = one.0 in
    let some : 0 < length t = omega (arith, w.header) in
    let eo = octet-append t u some in
    let ef = fields_length-append t u some in
    let ep = word_at-append 4 t u some (omega (arith, w.header)) in
    let em = message_length-append t u (omega (arith, w.whole, w.least)) in
    let longer = length-append t u in
    let grown : IsWhole (length (t ++ u)) (octet (t ++ u)) (payload_length (t ++ u))
    (fields_length (t ++ u)) (message_length (t ++ u)) = record {
      version = rw eo w.version;
      header = omega (arith, w.header, longer);
      least = rw (ef, ep) w.least;
      most = rw (ef, ep) w.most;
      whole = rw (ep, longer) (omega (arith, w.whole));
      room = rw (ef, ep, em) w.room;
    } in
    first_whole (t ++ u) grown ∙ ap One (ap (λ (p : ℕ). 8 + p) ep ∙ sym one.1)

-- Bad stays as the list grows
pub bad_stays : (t u : List ℕ) (w : BadWhy) → first_of t ≡ Bad w → first_of (t ++ u) ≡ Bad w
bad_stays t u w e =
    first_verdict (t ++ u)
    ∙ verdict_bad_stays (length t) (octet t) (payload_length t) (fields_length t) (message_length t)
    (length (t ++ u)) (octet (t ++ u)) (payload_length (t ++ u)) (fields_length (t ++ u))
    (message_length (t ++ u)) w
    (omega (arith, length-append t u)) (octet-append t u) (fields_length-append t u)
    (λ h. word_at-append 4 t u (omega arith) h) (message_length-append t u)
    (sym (first_verdict t) ∙ e)

-- One needs no byte past its record
pub one_shrinks : (f u : List ℕ) → first_of (f ++ u) ≡ One (length f) → first_of f ≡ One (length f)
one_shrinks f u e =
    let one = first_one (f ++ u) (length f) e in
    let w = one.0 in
    let header : 8 ≤ length f = omega (arith, one.1) in
    let some : 0 < length f = omega arith in
    let eo = octet-append f u some in
    let ef = fields_length-append f u some in
    let ep = word_at-append 4 f u some header in
    let least : fields_length f ≤ payload_length f = rw (ef, ep) at w.least in
    let size : length f ≡ 8 + payload_length f = one.1 ∙ ap (λ (p : ℕ). 8 + p) ep in
    let em = message_length-append f u (omega arith) in
    let shrunk : IsWhole (length f) (octet f) (payload_length f) (fields_length f)
    (message_length f) = record {
      version = rw eo at w.version;
      header = header;
      least = least;
      most = rw (ef, ep) at w.most;
      whole = omega arith;
      room = rw (ef, ep, em) at w.room;
    } in
    first_whole f shrunk ∙ ap One (sym size)
