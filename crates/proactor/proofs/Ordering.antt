-- In which order bytes are given to an end, turn by turn.
use Rattle.std.proofs.Common.{◌≡◌, ◌∙◌, ◌+◌, ◌≤◌, ◌<◌, ℕ, arith, Bool, true, false, List}
use Rattle.std.proofs.Common.{[], ◌∷◌, ◌++◌, length, take, drop, refl, sym, ap, subst, Option, Some}
use Rattle.std.proofs.Common.{None, ⊎_elim}
use Rattle.std.specs.Prelude.{◌||◌, nat_lt}
use Rattle.std.specs.List.{flat_map}
use Rattle.std.proofs.Math.Seq.{take-add}
use Rattle.std.proofs.lemmas.Bool.Decides.{nat_tests}
use Rattle.std.proofs.lemmas.Grind.{flat_map-append}
use Rattle.std.proofs.lemmas.List.{append-nil, append_assoc, length-drop, length-take, take_all}
use Rattle.ev_base.specs.ev_types.specs.declared.upcall.Upcall.{Upcall}
use Rattle.ev_base.specs.ev_types.specs.declared.upcall.Upcall.TheVariants.{Input, Output, Except}
use Rattle.ev_base.specs.ev_types.specs.declared.upcall.Upcall.TheVariants.{Timeout, Notice}
use Rattle.ev_base.specs.ev_types.specs.declared.upcall.Answer.{Answer}
use Rattle.ev_base.specs.End.{EndFacts, EndWrites, IsFresh, WroteNothing}
use Rattle.ev_base.specs.declared.source.Got.{Got}
use Rattle.ev_base.specs.declared.source.Got.TheVariants as got
use Rattle.ev_base.specs.declared.end.Sent.{Sent}
use Rattle.ev_base.specs.declared.end.Sent.TheVariants as sent
use Rattle.reactor_model.specs.reactor_journal.specs.Event.{Item}
use Rattle.reactor_model.specs.Handling.{EndsInClose, GoesOn, IsClose}
use Rattle.proactor.specs.declared.note.AsynchNote.{AsynchNote}
use Rattle.proactor.specs.declared.operation.Op.{Op}
use Rattle.proactor.specs.declared.operation.Outcome.TheVariants as outcome
use Rattle.proactor.specs.declared.standing.Reading.{Reading}
use Rattle.proactor.specs.declared.standing.Writing.{Writing}
use Rattle.proactor.specs.Events.{Event, Gave, ReadDone, Reply, Took, WriteDone, asked_by}
use Rattle.proactor.specs.Events.{asked_reads, asked_writes, done_reads, done_writes, ends, given}
use Rattle.proactor.specs.Events.{given_by, reads_in, some_of, starves, up_in, writes_in, wrote_by}
use Rattle.proactor.specs.Account.{
  Accounts,
  CompletesAll,
  GaveInOrder,
  IsWritten,
  Operates,
  bytes_of,
}
use Rattle.proactor.specs.Account.{completed_ids, completed_reads, completed_writes, first_bytes}
use Rattle.proactor.specs.Account.{
  read_completed_by,
  read_ids,
  write_completed_by,
  write_ids,
  written,
}
use Rattle.proactor.specs.Standing.{Stands, queued}
use Rattle.proactor.specs.Turns.{Advances, Cancels, Course, GoesOnToWrite, OnlyLast, Serves, State}
use Rattle.proactor.specs.Turns.{TakesRead, TakesWrite, TriesBoth, TriesRead, TriesWrite, Turns}
use Rattle.proactor.specs.Turns.{answer_by, answer_to, at_start, tries_read, tries_write}
use Rattle.proactor.proofs.Accounting.{adds_reads, adds_writes, operates_on}
use Rattle.proactor.proofs.Events.{some_of_append}

true_false : true ≡ false → ⊥
true_false q = cc

-- ---- the first of the writes

-- while none failed: all that completed were written, and a front of the first that stands was
record WritesOn (all : List Event) (s : State) : Type 0 where
  all_written : written all ≡ completed_writes all
  within : s.standing.sent ≤ length (first_bytes s.standing.writes)
  bytes : given all
      ≡ bytes_of (completed_writes all) ++ take s.standing.sent (first_bytes s.standing.writes)

take_self : (n : ℕ) (xs : List ℕ) → take n xs ≡ take (length (take n xs)) xs
take_self n xs = by (nat_lt n (length xs)) refl
  where
    by : (b : Bool) → nat_lt n (length xs) ≡ b → take n xs ≡ take (length (take n xs)) xs
    by true is =
        let less : n < length xs = grind (arith, nat_tests) in
        let same : length (take n xs) ≡ n = omega (arith, length-take n xs, less) in
        ap (λ (k : ℕ). take k xs) (sym same)
    by false is =
        let more : length xs ≤ n = grind (arith, nat_tests) in
        let all = take_all n xs more in
        all ∙ sym (take_all (length (take n xs)) xs (omega (arith, length-take n xs, more)))

in_order_from : (first : Op) (all : List Event) (s : State) → Operates first all s
    → WritesOn all s → GaveInOrder (asked_writes first all) all
in_order_from first all s h w = record {
  next = s.standing.writes;
  order = h.writes ∙ ap (λ (xs : List Writing). xs ++ s.standing.writes) (sym w.all_written);
  part = take s.standing.sent (first_bytes s.standing.writes);
  bytes = w.bytes ∙ ap (λ (xs : List Writing). bytes_of xs
      ++ take s.standing.sent (first_bytes s.standing.writes)) (sym w.all_written);
  front = take_self s.standing.sent (first_bytes s.standing.writes);
}

-- more writes after the first change nothing of it
front_more : (ws more : List Writing) (sent : ℕ) → sent ≤ length (first_bytes ws)
    → take sent (first_bytes (ws ++ more)) ≡ take sent (first_bytes ws)
front_more [] more sent within =
    let none : sent ≡ 0 = omega (arith, within) in
    ap (λ (n : ℕ). take n (first_bytes more)) none
    ∙ sym (ap (λ (n : ℕ). take n (first_bytes [])) none)
front_more (w ∷ ws) more sent within = refl

within_more : (ws more : List Writing) (sent : ℕ) → sent ≤ length (first_bytes ws)
    → sent ≤ length (first_bytes (ws ++ more))
within_more [] more sent within = omega (arith, within)
within_more (w ∷ ws) more sent within = within

-- a part of a turn that completed no write and gave no bytes, after which more writes stand
record Stays (s : State) (es : List Event) (t : State) : Type 0 where
  none_written : written es ≡ []
  none_completed : completed_writes es ≡ []
  none_given : given es ≡ []
  sent : t.standing.sent ≡ s.standing.sent
  more : List Writing
  writes : t.standing.writes ≡ s.standing.writes ++ more

stays_none : (s t : State) → t.standing ≡ s.standing → Stays s [] t
stays_none s t same = record {
  none_written = refl;
  none_completed = refl;
  none_given = refl;
  sent = ap (λ (x : Stands). x.sent) same;
  more = [];
  writes = ap (λ (x : Stands). x.writes) same ∙ sym (append-nil s.standing.writes);
}

stays_read : (s t : State) (es : List Event) (facts : EndFacts) (reply : Reply)
    (rest : List Reading) → written es ≡ [] → completed_writes es ≡ [] → given es ≡ []
    → t ≡ record {
      facts = facts;
      standing = queued (up_in reply)
          (record s.standing { reads = rest });
    } → Stays s es t
stays_read s t es facts reply rest written_ completed given_ is = record {
  none_written = written_;
  none_completed = completed;
  none_given = given_;
  sent = ap (λ (u : State). u.standing.sent) is;
  more = writes_in (up_in reply);
  writes = ap (λ (u : State). u.standing.writes) is;
}

stays_so : (s : State) (es : List Event) (t : State) → tries_read s es t → Stays s es t
stays_so s es t tried = by s.standing.reads tried
  where
    came_to : (read : Reading) (rest : List Reading) (gave : Got) (buffer : List ℕ)
        (facts : EndFacts) → TakesRead gave buffer read rest (record s { facts = facts }) es t
        → Stays s es t
    came_to read rest (got.Bytes n) buffer facts c =
        subst (λ (e : List Event). Stays s e t) (sym (c.tells
        ∙ ap (λ (told : List Event). Took (take n buffer) ∷ told) c.completes.tells))
        (stays_read s t _ facts c.completes.reply rest refl refl refl c.completes.leaves)
    came_to read rest got.Pause buffer facts c = subst (λ (e : List Event). Stays s e t) (sym c.0)
        (stays_none s t (ap (λ (u : State). u.standing) c.1))
    came_to read rest got.Over buffer facts c = subst (λ (e : List Event). Stays s e t)
        (sym c.tells) (stays_read s t _ facts c.reply rest refl refl refl c.leaves)
    came_to read rest got.Failed buffer facts c = subst (λ (e : List Event). Stays s e t)
        (sym c.tells) (stays_read s t _ facts c.reply rest refl refl refl c.leaves)

    by : (reads : List Reading) → TriesRead reads s es t → Stays s es t
    by [] c = subst (λ (e : List Event). Stays s e t) (sym c.0)
        (stays_none s t (ap (λ (u : State). u.standing) c.1))
    by (read ∷ rest) c = ⊎_elim
        (λ once. came_to read rest once.gave once.buffer once.facts once.takes)
        (λ none. subst (λ (e : List Event). Stays s e t) (sym none.tells)
        (stays_read s t _ s.facts none.reply rest refl refl refl none.leaves))
        c

writes_stay : (all : List Event) (s : State) (es : List Event) (t : State) → WritesOn all s
    → Stays s es t → WritesOn (all ++ es) t
writes_stay all s es t w k = record {
  all_written = flat_map-append wrote_by all es ∙ ap (λ (xs : List Writing). written all ++ xs)
      k.none_written ∙ append-nil (written all) ∙ w.all_written ∙ sym completed;
  within = subst (λ (n : ℕ). n ≤ length (first_bytes t.standing.writes)) (sym k.sent)
      (subst (λ (ws : List Writing). s.standing.sent ≤ length (first_bytes ws)) (sym k.writes)
      (within_more s.standing.writes k.more s.standing.sent w.within));
  bytes = flat_map-append given_by all es ∙ ap (λ (xs : List ℕ). given all ++ xs) k.none_given
      ∙ append-nil (given all) ∙ w.bytes
      ∙ ap (λ (xs : List ℕ). bytes_of (completed_writes all) ++ xs)
      (sym (front_more s.standing.writes k.more s.standing.sent w.within))
      ∙ ap (λ (xs : List Writing). bytes_of xs
      ++ take s.standing.sent (first_bytes (s.standing.writes ++ k.more))) (sym completed)
      ∙ ap (λ (ws : List Writing). bytes_of (completed_writes (all ++ es))
      ++ take s.standing.sent (first_bytes ws)) (sym k.writes)
      ∙ ap (λ (n : ℕ). bytes_of (completed_writes (all ++ es))
      ++ take n (first_bytes t.standing.writes)) (sym k.sent);
}
  where
    completed : completed_writes (all ++ es) ≡ completed_writes all
    completed = flat_map-append write_completed_by all es
        ∙ ap (λ (xs : List Writing). completed_writes all ++ xs) k.none_completed
        ∙ append-nil (completed_writes all)

-- ---- the first write was tried

-- what comes of it: bytes go in order, and if the end goes on none of its writes failed
record Writes (first : Op) (all : List Event) (s : State) (es : List Event) (t : State) : Type 0
  where
    in_order : GaveInOrder (asked_writes first (all ++ es)) (all ++ es)
    goes_on : some_of ends es ≡ false → WritesOn (all ++ es) t

writes_of : (first : Op) (all : List Event) (s : State) (es : List Event) (t : State)
    → Operates first (all ++ es) t → WritesOn (all ++ es) t → Writes first all s es t
writes_of first all s es t h w = record {
  in_order = in_order_from first (all ++ es) t h w;
  goes_on = λ _. w;
}

single : (all : List Event) (s : State) (e : Event) (t : State) → WritesOn all s
    → written (e ∷ []) ≡ completed_writes (e ∷ [])
    → t.standing.sent ≤ length (first_bytes t.standing.writes)
    → take s.standing.sent (first_bytes s.standing.writes) ++ given (e ∷ [])
    ≡ bytes_of (completed_writes (e ∷ [])) ++ take t.standing.sent (first_bytes t.standing.writes)
    → WritesOn (all ++ e ∷ []) t
single all s e t w all_written within bytes = record {
  all_written = flat_map-append wrote_by all (e ∷ [])
      ∙ ap (λ (xs : List Writing). xs ++ written (e ∷ [])) w.all_written
      ∙ ap (λ (xs : List Writing). completed_writes all ++ xs) all_written
      ∙ sym (flat_map-append write_completed_by all (e ∷ []));
  within = within;
  bytes = flat_map-append given_by all (e ∷ [])
      ∙ ap (λ (xs : List ℕ). xs ++ given (e ∷ [])) w.bytes
      ∙ append_assoc (bytes_of (completed_writes all)) _ (given (e ∷ []))
      ∙ ap (λ (xs : List ℕ). bytes_of (completed_writes all) ++ xs) bytes
      ∙ sym (append_assoc (bytes_of (completed_writes all)) (bytes_of (completed_writes (e ∷ [])))
      _)
      ∙ ap (λ (xs : List ℕ). xs ++ take t.standing.sent (first_bytes t.standing.writes))
      (sym (flat_map-append (λ (x : Writing). x.bytes) (completed_writes all)
      (completed_writes (e ∷ []))))
      ∙ ap (λ (xs : List Writing). bytes_of xs
      ++ take t.standing.sent (first_bytes t.standing.writes))
      (sym (flat_map-append write_completed_by all (e ∷ [])));
}

-- how many of a write's bytes are taken after so many more
taken_within : (n sent : ℕ) (bytes : List ℕ) → n ≤ length (drop sent bytes)
    → nat_lt (sent + n) (length bytes) ≡ false → sent ≤ length bytes → sent + n ≡ length bytes
taken_within n sent bytes within last s =
    let most : length bytes ≤ sent + n = grind (arith, nat_tests) in
    omega (arith, length-drop sent bytes, within, most, s)

still_within : (n sent : ℕ) (bytes : List ℕ) → nat_lt (sent + n) (length bytes) ≡ true
    → sent + n ≤ length bytes
still_within n sent bytes more = let less : sent + n < length bytes = grind (arith, nat_tests) in
    omega (arith, less)

tries_on : (first : Op) (all : List Event) (s : State) (es : List Event) (t : State)
    → WritesOn all s → Operates first (all ++ es) t → tries_write s es t → Writes first all s es t
tries_on first all s es t w h tried = by s.standing.writes refl tried
  where
    nothing : es ≡ [] → t.standing ≡ s.standing → Writes first all s es t
    nothing none same = writes_of first all s es t h (writes_stay all s es t w
        (subst (λ (e : List Event). Stays s e t) (sym none) (stays_none s t same)))

    given_more : (write : Writing) (rest : List Writing) → write ∷ rest ≡ s.standing.writes
        → (n : ℕ) (facts : EndFacts) (more : Bool) (told : List Event)
        → nat_lt (s.standing.sent + n) (length write.bytes) ≡ more
        → EndWrites s.facts (drop s.standing.sent write.bytes) (sent.Bytes n) facts
        → Advances more (s.standing.sent + n) write rest (record s { facts = facts }) told t
        → es ≡ Gave (take n (drop s.standing.sent write.bytes)) ∷ told
        → WritesOn (all ++ es) t
    given_more write rest is n facts true told last e c tells =
        let one : es ≡ Gave (take n (drop s.standing.sent write.bytes)) ∷ [] =
        tells ∙ ap (λ (xs : List Event). Gave (take n (drop s.standing.sent write.bytes)) ∷ xs) c.0
        in
        subst (λ (x : List Event). WritesOn (all ++ x) t) (sym one)
        (subst (λ (u : State). WritesOn
        (all ++ Gave (take n (drop s.standing.sent write.bytes)) ∷ []) u) (sym c.1)
        (single all s (Gave (take n (drop s.standing.sent write.bytes))) _ w refl
        (subst (λ (ws : List Writing). s.standing.sent + n ≤ length (first_bytes ws)) is
        (still_within n s.standing.sent write.bytes last))
        (subst (λ (ws : List Writing). take s.standing.sent (first_bytes ws)
        ++ (take n (drop s.standing.sent write.bytes) ++ [])
        ≡ take (s.standing.sent + n) (first_bytes ws)) is
        (ap (λ (xs : List ℕ). take s.standing.sent write.bytes ++ xs)
        (append-nil (take n (drop s.standing.sent write.bytes)))
        ∙ sym (take-add s.standing.sent n write.bytes)))))
    given_more write rest is n facts false told last e c tells =
        let bytes = take n (drop s.standing.sent write.bytes) in
        let two : es ≡ Gave bytes ∷ WriteDone write outcome.Wrote c.reply ∷ [] =
        tells ∙ ap (λ (xs : List Event). Gave bytes ∷ xs) c.tells in
        let full : s.standing.sent + n ≡ length write.bytes =
        taken_within n s.standing.sent write.bytes e.within last
        (subst (λ (ws : List Writing). s.standing.sent ≤ length (first_bytes ws)) (sym is) w.within)
        in
        let whole : take s.standing.sent write.bytes ++ bytes ≡ write.bytes =
        sym (take-add s.standing.sent n write.bytes)
        ∙ take_all (s.standing.sent + n) write.bytes (omega (arith, full)) in
        subst (λ (x : List Event). WritesOn (all ++ x) t) (sym two)
        (subst (λ (u : State). WritesOn
        (all ++ Gave bytes ∷ WriteDone write outcome.Wrote c.reply ∷ []) u) (sym c.leaves)
        (record {
          all_written = flat_map-append wrote_by all _
              ∙ ap (λ (xs : List Writing). xs ++ write ∷ []) w.all_written
              ∙ sym (flat_map-append write_completed_by all _);
          within = omega arith;
          bytes = flat_map-append given_by all _
              ∙ ap (λ (xs : List ℕ). xs ++ (bytes ++ [])) w.bytes
              ∙ ap (λ (ws : List Writing). (bytes_of (completed_writes all)
              ++ take s.standing.sent (first_bytes ws)) ++ (bytes ++ [])) (sym is)
              ∙ ap (λ (xs : List ℕ). (bytes_of (completed_writes all)
              ++ take s.standing.sent write.bytes) ++ xs) (append-nil bytes)
              ∙ append_assoc (bytes_of (completed_writes all)) _ bytes
              ∙ ap (λ (xs : List ℕ). bytes_of (completed_writes all) ++ xs)
              (whole ∙ sym (append-nil write.bytes))
              ∙ sym (flat_map-append (λ (x : Writing). x.bytes) (completed_writes all) (write ∷ []))
              ∙ ap (λ (xs : List Writing). bytes_of xs) (sym (flat_map-append write_completed_by all
              (Gave bytes ∷ WriteDone write outcome.Wrote c.reply ∷ [])))
              ∙ sym (append-nil _);
        }))

    came_to : (write : Writing) (rest : List Writing) → write ∷ rest ≡ s.standing.writes
        → (took : Sent) (facts : EndFacts)
        → EndWrites s.facts (drop s.standing.sent write.bytes) took facts
        → TakesWrite took write rest (record s { facts = facts }) es t → Writes first all s es t
    came_to write rest is (sent.Bytes n) facts e c = writes_of first all s es t h
        (given_more write rest is n facts (nat_lt (s.standing.sent + n) (length write.bytes)) c.told
        refl e c.advances c.tells)
    came_to write rest is sent.Pause facts e c = nothing c.0 (ap (λ (u : State). u.standing) c.1)
    came_to write rest is sent.Failed facts e c =
        let none_more : written (all ++ es) ≡ written all =
        ap (λ (x : List Event). written (all ++ x)) c.tells ∙ flat_map-append wrote_by all _
        ∙ append-nil (written all) in
        let one_more : completed_writes (all ++ es) ≡ completed_writes all ++ write ∷ [] =
        ap (λ (x : List Event). completed_writes (all ++ x)) c.tells
        ∙ flat_map-append write_completed_by all _ in
        record {
          in_order = record {
            next = write ∷ t.standing.writes;
            order = h.writes
                ∙ ap (λ (xs : List Writing). xs ++ t.standing.writes) one_more
                ∙ append_assoc (completed_writes all) (write ∷ []) t.standing.writes
                ∙ ap (λ (xs : List Writing). xs ++ write ∷ t.standing.writes)
                (sym w.all_written ∙ sym none_more);
            part = take s.standing.sent write.bytes;
            bytes = ap (λ (x : List Event). given (all ++ x)) c.tells
                ∙ flat_map-append given_by all _ ∙ append-nil (given all) ∙ w.bytes
                ∙ ap (λ (ws : List Writing). bytes_of (completed_writes all)
                ++ take s.standing.sent (first_bytes ws)) (sym is)
                ∙ ap (λ (xs : List Writing). bytes_of xs ++ take s.standing.sent write.bytes)
                (sym w.all_written ∙ sym none_more);
            front = take_self s.standing.sent write.bytes;
          };
          goes_on = λ none. absurd (true_false (sym (ap (some_of ends) c.tells) ∙ none));
        }

    by : (writes : List Writing) → writes ≡ s.standing.writes → TriesWrite writes s es t
        → Writes first all s es t
    by [] is c = nothing c.0 (ap (λ (u : State). u.standing) c.1)
    by (write ∷ rest) is c = came_to write rest is c.took c.facts c.writes c.takes

-- ---- one turn

record Turned (first : Op) (all : List Event) (answer : Answer) (t : State) : Type 0 where
  operates : Operates first all t
  in_order : GaveInOrder (asked_writes first all) all
  goes_on : GoesOn answer → WritesOn all t

closes_not : (closes moved : Bool) → GoesOn (answer_by closes moved) → closes ≡ false
closes_not true moved g = absurd g
closes_not false moved g = refl

left_false : (a b : Bool) → a || b ≡ false → a ≡ false
left_false true b is = is
left_false false b is = refl

right_false : (a b : Bool) → a || b ≡ false → b ≡ false
right_false true b is = absurd (true_false is)
right_false false b is = is

turned_idle : (first : Op) (past : List Event) (s : State) (events : List Event) (answer : Answer)
    (t : State) → Operates first past s → WritesOn past s → (events ≡ []) × (t ≡ s)
    → Turned first (past ++ events) answer t
turned_idle first past s events answer t h w c =
    let same : past ++ events ≡ past =
    ap (λ (xs : List Event). past ++ xs) c.0 ∙ append-nil past in
    subst (λ (all : List Event). Turned first all answer t) (sym same)
    (subst (λ (u : State). Turned first past answer u) (sym c.1) (record {
      operates = h;
      in_order = in_order_from first past s h w;
      goes_on = λ _. w;
    }))

turned_both : (first : Op) (past : List Event) (s : State) (events : List Event) (answer : Answer)
    (t : State) → Operates first past s → WritesOn past s → TriesBoth s events t
    → answer ≡ answer_to events → Turned first (past ++ events) answer t
turned_both first past s events answer t h w b answers =
    subst (λ (all : List Event). Turned first all answer t) (sym split)
    (by (some_of starves b.read) b.writes)
  where
    split : past ++ events ≡ (past ++ b.read) ++ b.wrote
    split = ap (λ (xs : List Event). past ++ xs) b.both ∙ sym (append_assoc past b.read b.wrote)

    middle : Operates first (past ++ b.read) b.between
    middle = operates_on first past s b.read b.between h
        (adds_reads s b.read b.between b.reads)

    writes : WritesOn (past ++ b.read) b.between
    writes = writes_stay past s b.read b.between w (stays_so s b.read b.between b.reads)

    by : (starved : Bool) → GoesOnToWrite starved b.between b.wrote t
        → Turned first ((past ++ b.read) ++ b.wrote) answer t
    by true c = turned_idle first (past ++ b.read) b.between b.wrote answer t middle writes c
    by false c =
        let more = operates_on first (past ++ b.read) b.between b.wrote t middle
        (adds_writes b.between b.wrote t c) in
        let tried = tries_on first (past ++ b.read) b.between b.wrote t writes more c in record {
          operates = more;
          in_order = tried.in_order;
          goes_on = λ going. tried.goes_on (right_false (some_of ends b.read)
              (some_of ends b.wrote) (sym (some_of_append ends b.read b.wrote)
              ∙ sym (ap (some_of ends) b.both)
              ∙ left_false (some_of ends events) (some_of starves events)
              (closes_not (some_of ends events || some_of starves events) _
              (subst GoesOn answers going))));
        }

turned : (conn : ℕ) (first : Op) (past : List Event) (s : State) (events : List Event)
    (item : Item AsynchNote) (t : State) → Operates first past s → WritesOn past s
    → Turns conn past s events item t → Turned first (past ++ events) item.answer t
turned conn first past s events item t h w m = by item.upcall m.serves
  where
    by : (up : Upcall) → Serves up s events t → Turned first (past ++ events) item.answer t
    by Input c = turned_both first past s events item.answer t h w c m.answers
    by Output c = turned_both first past s events item.answer t h w c m.answers
    by Except c = turned_idle first past s events item.answer t h w c
    by (Timeout timer) c = turned_idle first past s events item.answer t h w c
    by (Notice kind) c = turned_idle first past s events item.answer t h w c

-- ---- all turns

accounts_on : (conn : ℕ) (first : Op) (past : List Event) (start : State)
    (had : List (Item AsynchNote)) (all : List Event) (s : State) → Operates first past start
    → WritesOn past start → Course conn past start had all s → OnlyLast had → Accounts first all s
accounts_on conn first past start [] all s h w course last =
    subst (λ (a : List Event). Accounts first a s) (sym course.0)
    (subst (λ (u : State). Accounts first past u) (sym course.1) (record {
      operates = h;
      in_order = in_order_from first past start h w;
    }))
accounts_on conn first past start (item ∷ []) all s h w course last =
    let one = turned conn first past start course.0 item course.1 h w course.2 in
    subst (λ (a : List Event). Accounts first a s) (sym course.3.0)
    (subst (λ (u : State). Accounts first (past ++ course.0) u) (sym course.3.1) (record {
      operates = one.operates;
      in_order = one.in_order;
    }))
accounts_on conn first past start (item ∷ next ∷ items) all s h w course last =
    let one = turned conn first past start course.0 item course.1 h w course.2 in
    accounts_on conn first (past ++ course.0) course.1 (next ∷ items) all s one.operates
    (one.goes_on last.0) course.3 last.1

-- before the first turn
begins : (first : Op) (start : EndFacts) → IsFresh start → Operates first [] (at_start start first)
begins first start fresh = record {
  reads = refl;
  writes = refl;
  read_bytes = refl;
  took = fresh.bytes;
  took_so_many = fresh.gave;
  gave = unwritten start.written fresh.written;
  failed = λ q. cc;
  over = sym fresh.over;
  none_cancelled = refl;
}
  where
    unwritten : (t : Option (List ℕ)) → WroteNothing t → IsWritten t []
    unwritten None none = tt
    unwritten (Some text) none = none

pub accounts : (conn : ℕ) (first : Op) (start : EndFacts) (had : List (Item AsynchNote))
    (all : List Event) (s : State) → IsFresh start
    → Course conn [] (at_start start first) had all s → OnlyLast had → Accounts first all s
accounts conn first start had all s fresh course last =
    accounts_on conn first [] (at_start start first) had all s (begins first start fresh) (record {
      all_written = refl;
      within = omega arith;
      bytes = refl;
    }) course last

-- ---- when it is closed

any_of : (a b c d : Bool) → b || d ≡ true → (a || b) || (c || d) ≡ true
any_of true b c d is = refl
any_of false true c d is = refl
any_of false false true d is = refl
any_of false false false d is = is

-- one that closed itself was done, failed, or found no memory
pub ended_so : (conn : ℕ) (past : List Event) (start : State) (had : List (Item AsynchNote))
    (all : List Event) (s : State) → Course conn past start had all s → EndsInClose had
    → some_of ends all || some_of starves all ≡ true
ended_so conn past start [] all s course closes = absurd closes
ended_so conn past start (item ∷ []) all s course closes =
    subst (λ (a : List Event). some_of ends a || some_of starves a ≡ true) (sym course.3.0)
    (later past course.0 (closes_so (some_of ends course.0 || some_of starves course.0)
    (some_of _ course.0) (subst IsClose course.2.answers closes)))
  where
    closes_so : (closes moved : Bool) → IsClose (answer_by closes moved) → closes ≡ true
    closes_so true moved c = refl
    closes_so false true c = absurd c
    closes_so false false c = absurd c

    later : (xs ys : List Event) → some_of ends ys || some_of starves ys ≡ true
        → some_of ends (xs ++ ys) || some_of starves (xs ++ ys) ≡ true
    later xs ys is = ap (λ (b : Bool). b || some_of starves (xs ++ ys)) (some_of_append ends xs ys)
        ∙ ap (λ (b : Bool). (some_of ends xs || some_of ends ys) || b)
        (some_of_append starves xs ys)
        ∙ any_of (some_of ends xs) (some_of ends ys) (some_of starves xs) (some_of starves ys) is
ended_so conn past start (item ∷ next ∷ items) all s course closes =
    ended_so conn (past ++ course.0) course.1 (next ∷ items) all s course.3 closes

-- the operations that stood are completed
record Cancelled (reads : List Reading) (writes : List Writing) (closing : List Event) : Type 0
  where
    reads_are : completed_reads closing ≡ reads
    writes_are : completed_writes closing ≡ writes
    none_asked : flat_map asked_by closing ≡ []

completed_by : (reads : List Reading) (writes : List Writing) (closing : List Event)
    → Cancels reads writes closing → Cancelled reads writes closing
completed_by [] [] closing c = record {
  reads_are = ap completed_reads c;
  writes_are = ap completed_writes c;
  none_asked = ap (flat_map asked_by) c;
}
completed_by (read ∷ reads) writes closing c =
    let rest = completed_by reads writes c.1 c.3 in record {
      reads_are = ap completed_reads c.4 ∙ ap (λ (xs : List Reading). read ∷ xs) rest.reads_are;
      writes_are = ap completed_writes c.4 ∙ rest.writes_are;
      none_asked = ap (flat_map asked_by) c.4
          ∙ ap (λ (xs : List Op). xs ++ flat_map asked_by c.1) c.2 ∙ rest.none_asked;
    }
completed_by [] (write ∷ writes) closing c =
    let rest = completed_by [] writes c.1 c.3 in record {
      reads_are = ap completed_reads c.4 ∙ rest.reads_are;
      writes_are = ap completed_writes c.4
          ∙ ap (λ (xs : List Writing). write ∷ xs) rest.writes_are;
      none_asked = ap (flat_map asked_by) c.4
          ∙ ap (λ (xs : List Op). xs ++ flat_map asked_by c.1) c.2 ∙ rest.none_asked;
    }

read_numbers : (all : List Event) → completed_ids (done_reads all) ≡ read_ids (completed_reads all)
read_numbers [] = refl
read_numbers (Took bytes ∷ all) = read_numbers all
read_numbers (Gave bytes ∷ all) = read_numbers all
read_numbers (ReadDone read came reply ∷ all) = ap (λ (ids : List ℕ). read.id ∷ ids)
    (read_numbers all)
read_numbers (WriteDone write came reply ∷ all) = read_numbers all

write_numbers : (all : List Event)
    → completed_ids (done_writes all) ≡ write_ids (completed_writes all)
write_numbers [] = refl
write_numbers (Took bytes ∷ all) = write_numbers all
write_numbers (Gave bytes ∷ all) = write_numbers all
write_numbers (ReadDone read came reply ∷ all) = write_numbers all
write_numbers (WriteDone write came reply ∷ all) = ap (λ (ids : List ℕ). write.id ∷ ids)
    (write_numbers all)

pub completes_all : (first : Op) (all : List Event) (s : State) (closing : List Event)
    → Operates first all s → Cancels s.standing.reads s.standing.writes closing
    → CompletesAll first (all ++ closing)
completes_all first all s closing h c = record {
  reads = reads_are;
  writes = writes_are;
  read_numbers = read_numbers (all ++ closing) ∙ ap read_ids (sym reads_are);
  write_numbers = write_numbers (all ++ closing) ∙ ap write_ids (sym writes_are);
}
  where
    done : Cancelled s.standing.reads s.standing.writes closing
    done = completed_by s.standing.reads s.standing.writes closing c

    asked : flat_map asked_by (all ++ closing) ≡ flat_map asked_by all
    asked = flat_map-append asked_by all closing
        ∙ ap (λ (xs : List Op). flat_map asked_by all ++ xs) done.none_asked ∙ append-nil _

    reads_are : asked_reads first (all ++ closing) ≡ completed_reads (all ++ closing)
    reads_are = ap (λ (ops : List Op). reads_in (first ∷ ops)) asked ∙ h.reads
        ∙ ap (λ (xs : List Reading). completed_reads all ++ xs) (sym done.reads_are)
        ∙ sym (flat_map-append read_completed_by all closing)

    writes_are : asked_writes first (all ++ closing) ≡ completed_writes (all ++ closing)
    writes_are = ap (λ (ops : List Op). writes_in (first ∷ ops)) asked ∙ h.writes
        ∙ ap (λ (xs : List Writing). completed_writes all ++ xs) (sym done.writes_are)
        ∙ sym (flat_map-append write_completed_by all closing)
