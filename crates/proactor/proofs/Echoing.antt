-- That the end of an echo service writes back what it reads.
use Rattle.std.proofs.Common.{◌≡◌, ◌∙◌, ◌+◌, ◌≤◌, ◌⊎◌, inl, inr, ⊎_elim, ℕ, arith, Bool, true}
use Rattle.std.proofs.Common.{false, List, [], ◌∷◌, ◌++◌, length, take, drop, refl, sym, ap, subst}
use Rattle.std.proofs.Common.{Option, Some, None}
use Rattle.std.specs.Prelude.{◌||◌, nat_lt}
use Rattle.std.specs.List.{AllByRecursion}
use Rattle.std.proofs.lemmas.Bool.Decides.{nat_tests}
use Rattle.std.proofs.lemmas.Grind.{flat_map-append}
use Rattle.std.proofs.lemmas.List.{append-nil, append_assoc, drop-drop, length-drop}
use Rattle.std.proofs.lemmas.List.{take-append-drop, take_all}
use Rattle.ev_base.specs.ev_types.specs.declared.upcall.Upcall.{Upcall}
use Rattle.ev_base.specs.ev_types.specs.declared.upcall.Upcall.TheVariants.{Input, Output, Except}
use Rattle.ev_base.specs.ev_types.specs.declared.upcall.Upcall.TheVariants.{Timeout, Notice}
use Rattle.ev_base.specs.End.{EndFacts, EndWrites}
use Rattle.ev_base.specs.declared.source.Got.{Got}
use Rattle.ev_base.specs.declared.source.Got.TheVariants as got
use Rattle.ev_base.specs.declared.end.Sent.{Sent}
use Rattle.ev_base.specs.declared.end.Sent.TheVariants as sent
use Rattle.reactor_model.specs.reactor_journal.specs.Event.{Item}
use Rattle.proactor.specs.declared.note.AsynchNote.{AsynchNote}
use Rattle.proactor.specs.declared.operation.Op.{Op}
use Rattle.proactor.specs.declared.operation.Outcome.{Outcome}
use Rattle.proactor.specs.declared.operation.Outcome.TheVariants as outcome
use Rattle.proactor.specs.declared.standing.Reading.{Reading}
use Rattle.proactor.specs.declared.standing.Writing.{Writing}
use Rattle.proactor.specs.Account.{finds_over, is_over}
use Rattle.proactor.specs.Echo.{IsEcho, WritesBack, back_of, first_read, next_of}
use Rattle.proactor.specs.Events.{
  Asked,
  Event,
  FoundNoMemory,
  Gave,
  ReadDone,
  Reply,
  Took,
  WriteDone,
}
use Rattle.proactor.specs.Events.{completion, given, given_by, reads_in, some_of, starves, taken}
use Rattle.proactor.specs.Events.{taken_by, told, told_by, told_in, up_in, writes_in}
use Rattle.proactor.specs.Operations.{Told, listed_op}
use Rattle.proactor.specs.Standing.{Stands, queued}
use Rattle.proactor.specs.Turns.{Advances, CompletesRead, Course, GoesOnToWrite}
use Rattle.proactor.specs.Turns.{Serves, State, TakesRead, TakesWrite, TriesBoth, TriesRead}
use Rattle.proactor.specs.Turns.{TriesWrite, at_start, tries_read, tries_write}
use Rattle.proactor.proofs.Events.{some_of_append}

-- ---- what is asked

abbrev AreEchoes : List Told → Type 0
AreEchoes list = AllByRecursion IsEcho list

echoes_left : (xs ys : List Told) → AreEchoes (xs ++ ys) → AreEchoes xs
echoes_left [] ys h = tt
echoes_left (x ∷ xs) ys h = (h.0, echoes_left xs ys h.1)

echoes_right : (xs ys : List Told) → AreEchoes (xs ++ ys) → AreEchoes ys
echoes_right [] ys h = h
echoes_right (x ∷ xs) ys h = echoes_right xs ys h.1

-- a list that begins one of at most one operation
front_of : (up others : List Op) (o : Option Op) → up ++ others ≡ listed_op o
    → (up ≡ []) ⊎ (up ≡ listed_op o)
front_of [] others o is = inl refl
front_of (x ∷ []) others None is = absurd (nothing is)
  where
    nothing : x ∷ others ≡ [] → ⊥
    nothing q = cc
front_of (x ∷ []) others (Some op) is = inr (ap (λ (y : Op). y ∷ []) (same is))
  where
    same : x ∷ others ≡ op ∷ [] → x ≡ op
    same q = cc
front_of (x ∷ y ∷ up) others None is = absurd (nothing is)
  where
    nothing : x ∷ y ∷ (up ++ others) ≡ [] → ⊥
    nothing q = cc
front_of (x ∷ y ∷ up) others (Some op) is = absurd (nothing is)
  where
    nothing : x ∷ y ∷ (up ++ others) ≡ op ∷ [] → ⊥
    nothing q = cc

-- what is queued after a completion: nothing, or what the handler asks for then
asked_so : (id : ℕ) (came : Outcome) (reply : Reply)
    → AreEchoes (told_in (completion id came) reply ++ [])
    → (up_in reply ≡ []) ⊎ (up_in reply ≡ listed_op (next_of came))
asked_so id came FoundNoMemory h = inl refl
asked_so id came (Asked up others done) h = front_of up others (next_of came) h.0.asked

-- ---- where it stands

data Phase : Type 0 where
  ReadsNext : Phase
  WritesNext : Phase
  Idles : Phase

-- a read stands, and all that was taken was given; or a write of what was not given yet; or nothing
record ReadStands (past : List Event) (s : State) : Type 0 where
  reads : s.standing.reads ≡ reads_in (first_read ∷ [])
  writes : s.standing.writes ≡ []
  sent : s.standing.sent ≡ 0
  even : taken past ≡ given past
  not_over : some_of finds_over past ≡ false

record WriteStands (past : List Event) (s : State) : Type 0 where
  reads : s.standing.reads ≡ []
  write : Writing
  writes : s.standing.writes ≡ write ∷ []
  rest : taken past ≡ given past ++ drop s.standing.sent write.bytes
  not_over : some_of finds_over past ≡ false

record NoneStands (past : List Event) (s : State) : Type 0 where
  reads : s.standing.reads ≡ []
  writes : s.standing.writes ≡ []
  back : WritesBack past

abbrev EchoAs : Phase → List Event → State → Type 0
EchoAs ReadsNext past s = ReadStands past s
EchoAs WritesNext past s = WriteStands past s
EchoAs Idles past s = NoneStands past s

abbrev EchoAt : List Event → State → Type 0
EchoAt past s = (phase : Phase) × EchoAs phase past s

true_false : true ≡ false → ⊥
true_false q = cc

written_back : (past : List Event) (s : State) (phase : Phase) → EchoAs phase past s
    → WritesBack past
written_back past s ReadsNext e = record {
  waiting = [];
  back = e.even ∙ sym (append-nil (given past));
  all_back = λ _. refl;
}
written_back past s WritesNext e = record {
  waiting = drop s.standing.sent e.write.bytes;
  back = e.rest;
  all_back = λ over. absurd (true_false (sym over ∙ e.not_over));
}
written_back past s Idles e = e.back

-- ---- a read

-- the read completed with these bytes, or with none: the state after it by what was queued
after_read : (past : List Event) (s t : State) (es : List Event) (came : Outcome) (reply : Reply)
    (bytes : List ℕ) (facts : EndFacts) → (e : ReadStands past s)
    → taken es ≡ bytes → given es ≡ []
    → (some_of finds_over es ≡ true → bytes ≡ [])
    → ((up_in reply ≡ []) ⊎ (up_in reply ≡ back_of bytes ∷ []) × (some_of finds_over es ≡ false))
    → t ≡ record {
      facts = facts;
      standing = queued (up_in reply) (record s.standing { reads = [] });
    }
    → EchoAt (past ++ es) t
after_read past s t es came reply bytes facts e took gave over up is =
    ⊎_elim (λ none. idle none) (λ some. by bytes refl some.0 some.1) up
  where
    taken_is : taken (past ++ es) ≡ given past ++ bytes
    taken_is = flat_map-append taken_by past es ∙ ap (λ (xs : List ℕ). xs ++ taken es) e.even
        ∙ ap (λ (xs : List ℕ). given past ++ xs) took

    given_is : given (past ++ es) ≡ given past
    given_is = flat_map-append given_by past es ∙ ap (λ (xs : List ℕ). given past ++ xs) gave
        ∙ append-nil (given past)

    over_is : some_of finds_over (past ++ es) ≡ some_of finds_over es
    over_is = some_of_append finds_over past es
        ∙ ap (λ (b : Bool). b || some_of finds_over es) e.not_over

    reads_now : (ops : List Op) → up_in reply ≡ ops → t.standing.reads ≡ reads_in ops
    reads_now ops q = ap (λ (u : State). u.standing.reads) is ∙ ap reads_in q

    writes_now : (ops : List Op) → up_in reply ≡ ops → t.standing.writes ≡ writes_in ops
    writes_now ops q = ap (λ (u : State). u.standing.writes) is
        ∙ ap (λ (ws : List Writing). ws ++ writes_in (up_in reply)) e.writes ∙ ap writes_in q

    sent_now : t.standing.sent ≡ 0
    sent_now = ap (λ (u : State). u.standing.sent) is ∙ e.sent

    idle : up_in reply ≡ [] → EchoAt (past ++ es) t
    idle none = (
      Idles,
      record {
        reads = reads_now [] none;
        writes = writes_now [] none;
        back = record {
          waiting = bytes;
          back = taken_is ∙ ap (λ (xs : List ℕ). xs ++ bytes) (sym given_is);
          all_back = λ q. over (sym over_is ∙ q);
        };
      },
    )

    by : (b : List ℕ) → bytes ≡ b → up_in reply ≡ back_of bytes ∷ []
        → some_of finds_over es ≡ false → EchoAt (past ++ es) t
    by [] q some not = (
      ReadsNext,
      record {
        reads = reads_now (first_read ∷ []) (some ∙ ap (λ (x : List ℕ). back_of x ∷ []) q);
        writes = writes_now (first_read ∷ []) (some ∙ ap (λ (x : List ℕ). back_of x ∷ []) q);
        sent = sent_now;
        even = taken_is ∙ ap (λ (xs : List ℕ). given past ++ xs) q ∙ append-nil (given past)
            ∙ sym given_is;
        not_over = over_is ∙ not;
      },
    )
    by (x ∷ xs) q some not = (
      WritesNext,
      record {
        reads = reads_now (back_of (x ∷ xs) ∷ []) (some ∙ ap (λ (y : List ℕ). back_of y ∷ []) q);
        write = record { id = 1; bytes = x ∷ xs };
        writes = writes_now (back_of (x ∷ xs) ∷ []) (some ∙ ap (λ (y : List ℕ). back_of y ∷ []) q);
        rest = taken_is ∙ ap (λ (ys : List ℕ). ys ++ bytes) (sym given_is)
            ∙ ap (λ (ys : List ℕ). given (past ++ es) ++ ys) q
            ∙ ap (λ (n : ℕ). given (past ++ es) ++ drop n (x ∷ xs)) (sym sent_now);
        not_over = over_is ∙ not;
      },
    )

echo_same : (past : List Event) (s t : State) → t.standing ≡ s.standing → EchoAt past s
    → EchoAt past t
echo_same past s t same (ReadsNext, e) = (
  ReadsNext,
  record {
    reads = ap (λ (x : Stands). x.reads) same ∙ e.reads;
    writes = ap (λ (x : Stands). x.writes) same ∙ e.writes;
    sent = ap (λ (x : Stands). x.sent) same ∙ e.sent;
    even = e.even;
    not_over = e.not_over;
  },
)
echo_same past s t same (WritesNext, e) = (
  WritesNext,
  record {
    reads = ap (λ (x : Stands). x.reads) same ∙ e.reads;
    write = e.write;
    writes = ap (λ (x : Stands). x.writes) same ∙ e.writes;
    rest = e.rest
        ∙ ap (λ (x : Stands). given past ++ drop x.sent e.write.bytes) (sym same);
    not_over = e.not_over;
  },
)
echo_same past s t same (Idles, e) = (
  Idles,
  record {
    reads = ap (λ (x : Stands). x.reads) same ∙ e.reads;
    writes = ap (λ (x : Stands). x.writes) same ∙ e.writes;
    back = e.back;
  },
)

-- nothing happened
echo_none : (past : List Event) (s : State) (es : List Event) (t : State) → EchoAt past s → es ≡ []
    → t.standing ≡ s.standing → EchoAt (past ++ es) t
echo_none past s es t e none same =
    subst (λ (xs : List Event). EchoAt xs t)
    (sym (ap (λ (xs : List Event). past ++ xs) none ∙ append-nil past)) (echo_same past s t same e)

abbrev read_at : Reading
read_at = record { id = 0; want = 4096 }

-- either way nothing is queued
none_up : (reply : Reply) → (up_in reply ≡ []) ⊎ (up_in reply ≡ []) → up_in reply ≡ []
none_up reply up = ⊎_elim (λ q. q) (λ q. q) up

tried_read : (past : List Event) (s : State) (es : List Event) (t : State) → (e : ReadStands past s)
    → AreEchoes (told es) → (read : Reading) → TriesRead (read ∷ []) s es t → EchoAt (past ++ es) t
tried_read past s es t e echoes read c = ⊎_elim
    (λ once. came_to once.gave once.buffer once.facts once.takes) (λ none. failed outcome.NoMemory
    s.facts none refl refl) c
  where
    failed : (came : Outcome) (facts : EndFacts)
        → CompletesRead read [] came (record s { facts = facts }) es t
        → next_of came ≡ None → is_over came ≡ false → EchoAt (past ++ es) t
    failed came facts c none not = after_read past s t es came c.reply [] facts e
        (ap taken c.tells) (ap given c.tells) (λ _. refl)
        (inl (none_up c.reply (subst (λ (o : Option Op). (up_in c.reply ≡ [])
        ⊎ (up_in c.reply ≡ listed_op o)) none (asked_so read.id came c.reply
        (subst (λ (xs : List Event). AreEchoes (told xs)) c.tells echoes))))) c.leaves

    came_to : (gave : Got) (buffer : List ℕ) (facts : EndFacts)
        → TakesRead gave buffer read [] (record s { facts = facts }) es t → EchoAt (past ++ es) t
    came_to (got.Bytes n) buffer facts c =
        let bytes = take n buffer in
        let reply = c.completes.reply in
        let es_is : es ≡ Took bytes ∷ ReadDone read (outcome.Read bytes) reply ∷ [] =
        c.tells ∙ ap (λ (xs : List Event). Took bytes ∷ xs) c.completes.tells in
        let not : some_of finds_over es ≡ false = ap (some_of finds_over) es_is in
        after_read past s t es (outcome.Read bytes) reply bytes facts e
        (ap taken es_is ∙ append-nil bytes) (ap given es_is)
        (λ over. absurd (true_false (sym over ∙ not)))
        (⊎_elim (λ q. inl q) (λ q. inr (q, not)) (asked_so read.id (outcome.Read bytes) reply
        (subst (λ (xs : List Event). AreEchoes (told xs)) es_is echoes))) c.completes.leaves
    came_to got.Pause buffer facts c =
        echo_none past s es t (ReadsNext, e) c.0 (ap (λ (u : State). u.standing) c.1)
    came_to got.Over buffer facts c = after_read past s t es outcome.Over c.reply [] facts e
        (ap taken c.tells) (ap given c.tells) (λ _. refl)
        (inl (none_up c.reply (asked_so read.id outcome.Over c.reply
        (subst (λ (xs : List Event). AreEchoes (told xs)) c.tells echoes)))) c.leaves
    came_to got.Failed buffer facts c = failed outcome.Failed facts c refl refl

echo_read : (past : List Event) (s : State) (es : List Event) (t : State) → EchoAt past s
    → AreEchoes (told es) → tries_read s es t → EchoAt (past ++ es) t
echo_read past s es t (ReadsNext, e) echoes c = tried_read past s es t e echoes read_at
    (subst (λ (reads : List Reading). TriesRead reads s es t) (e.reads ∙ reads_are) c)
  where
    reads_are : reads_in (first_read ∷ []) ≡ read_at ∷ []
    reads_are = refl
echo_read past s es t (WritesNext, e) echoes c =
    let none = subst (λ (reads : List Reading). TriesRead reads s es t) e.reads c in
    echo_none past s es t (WritesNext, e) none.0 (ap (λ (u : State). u.standing) none.1)
echo_read past s es t (Idles, e) echoes c =
    let none = subst (λ (reads : List Reading). TriesRead reads s es t) e.reads c in
    echo_none past s es t (Idles, e) none.0 (ap (λ (u : State). u.standing) none.1)

-- ---- a write

-- the write completed, and so many bytes were given before that
after_write : (past : List Event) (s t : State) (es : List Event) (reply : Reply)
    (bytes waiting : List ℕ) (facts : EndFacts) → (e : WriteStands past s) → taken es ≡ []
    → given es ≡ bytes → some_of finds_over es ≡ false
    → drop s.standing.sent e.write.bytes ≡ bytes ++ waiting
    → (up_in reply ≡ []) ⊎ (up_in reply ≡ first_read ∷ []) × (waiting ≡ [])
    → t ≡ record {
      facts = facts;
      standing = queued (up_in reply) (record s.standing { writes = []; sent = 0 });
    } → EchoAt (past ++ es) t
after_write past s t es reply bytes waiting facts e took gave not split up is = ⊎_elim
    (λ none. (
      Idles,
      record {
        reads = reads_now [] none;
        writes = writes_now [] none;
        back = record {
          waiting = waiting;
          back = all;
          all_back = λ over. absurd (true_false (sym over ∙ over_is));
        };
      },
    ))
    (λ some. (
      ReadsNext,
      record {
        reads = reads_now (first_read ∷ []) some.0;
        writes = writes_now (first_read ∷ []) some.0;
        sent = ap (λ (u : State). u.standing.sent) is;
        even = all ∙ ap (λ (xs : List ℕ). given (past ++ es) ++ xs) some.1 ∙ append-nil _;
        not_over = over_is;
      },
    ))
    up
  where
    all : taken (past ++ es) ≡ given (past ++ es) ++ waiting
    all = flat_map-append taken_by past es ∙ ap (λ (xs : List ℕ). taken past ++ xs) took
        ∙ append-nil (taken past) ∙ e.rest ∙ ap (λ (xs : List ℕ). given past ++ xs) split
        ∙ sym (append_assoc (given past) bytes waiting)
        ∙ ap (λ (xs : List ℕ). (given past ++ xs) ++ waiting) (sym gave)
        ∙ ap (λ (xs : List ℕ). xs ++ waiting) (sym (flat_map-append given_by past es))

    over_is : some_of finds_over (past ++ es) ≡ false
    over_is = some_of_append finds_over past es
        ∙ ap (λ (b : Bool). b || some_of finds_over es) e.not_over ∙ not

    reads_now : (ops : List Op) → up_in reply ≡ ops → t.standing.reads ≡ reads_in ops
    reads_now ops q = ap (λ (u : State). u.standing.reads) is
        ∙ ap (λ (rs : List Reading). rs ++ reads_in (up_in reply)) e.reads ∙ ap reads_in q

    writes_now : (ops : List Op) → up_in reply ≡ ops → t.standing.writes ≡ writes_in ops
    writes_now ops q = ap (λ (u : State). u.standing.writes) is ∙ ap writes_in q

tried_write : (past : List Event) (s : State) (es : List Event) (t : State)
    → (e : WriteStands past s) → AreEchoes (told es) → TriesWrite (e.write ∷ []) s es t
    → EchoAt (past ++ es) t
tried_write past s es t e echoes c = came_to c.took c.facts c.writes c.takes
  where
    rest : List ℕ
    rest = drop s.standing.sent e.write.bytes

    goes_on : (n : ℕ) (facts : EndFacts) (more : Bool) (tail : List Event)
        → nat_lt (s.standing.sent + n) (length e.write.bytes) ≡ more
        → n ≤ length (drop s.standing.sent e.write.bytes)
        → Advances more (s.standing.sent + n) e.write [] (record s { facts = facts }) tail t
        → es ≡ Gave (take n (drop s.standing.sent e.write.bytes)) ∷ tail → EchoAt (past ++ es) t
    goes_on n facts true tail last within c tells =
        let bytes = take n (drop s.standing.sent e.write.bytes) in
        let es_is : es ≡ Gave bytes ∷ [] = tells
        ∙ ap (λ (xs : List Event). Gave bytes ∷ xs) c.0 in (
          WritesNext,
          record {
            reads = ap (λ (u : State). u.standing.reads) c.1 ∙ e.reads;
            write = e.write;
            writes = ap (λ (u : State). u.standing.writes) c.1 ∙ e.writes;
            rest = flat_map-append taken_by past es
                ∙ ap (λ (xs : List Event). taken past ++ taken xs) es_is ∙ append-nil (taken past)
                ∙ e.rest
                ∙ ap (λ (xs : List ℕ). given past ++ xs)
                (sym (take-append-drop n (drop s.standing.sent e.write.bytes)))
                ∙ ap (λ (xs : List ℕ). given past ++ (bytes ++ xs))
                (drop-drop n s.standing.sent e.write.bytes)
                ∙ sym (append_assoc (given past) bytes _)
                ∙ ap (λ (xs : List ℕ). (given past ++ xs)
                ++ drop (s.standing.sent + n) e.write.bytes) (sym (append-nil bytes))
                ∙ ap (λ (xs : List Event). (given past ++ given xs)
                ++ drop (s.standing.sent + n) e.write.bytes) (sym es_is)
                ∙ ap (λ (xs : List ℕ). xs ++ drop (s.standing.sent + n) e.write.bytes)
                (sym (flat_map-append given_by past es))
                ∙ ap (λ (k : ℕ). given (past ++ es) ++ drop k e.write.bytes)
                (sym (ap (λ (u : State). u.standing.sent) c.1));
            not_over = some_of_append finds_over past es
                ∙ ap (λ (b : Bool). b || some_of finds_over es) e.not_over
                ∙ ap (some_of finds_over) es_is;
          },
        )
    goes_on n facts false tail last within c tells =
        let bytes = take n (drop s.standing.sent e.write.bytes) in
        let es_is : es ≡ Gave bytes ∷ WriteDone e.write outcome.Wrote c.reply ∷ [] = tells
        ∙ ap (λ (xs : List Event). Gave bytes ∷ xs) c.tells in
        let most : length e.write.bytes ≤ s.standing.sent + n = grind (arith, nat_tests) in
        let whole : bytes ≡ drop s.standing.sent e.write.bytes =
        take_all n (drop s.standing.sent e.write.bytes)
        (omega (arith, length-drop s.standing.sent e.write.bytes, most)) in
        after_write past s t es c.reply bytes [] facts e (ap taken es_is)
        (ap given es_is ∙ append-nil bytes) (ap (some_of finds_over) es_is)
        (sym whole ∙ sym (append-nil bytes))
        (⊎_elim (λ q. inl q) (λ q. inr (q, refl)) (asked_so e.write.id outcome.Wrote c.reply
        (subst (λ (xs : List Event). AreEchoes (told xs)) es_is echoes))) c.leaves

    came_to : (took : Sent) (facts : EndFacts)
        → EndWrites s.facts (drop s.standing.sent e.write.bytes) took facts
        → TakesWrite took e.write [] (record s { facts = facts }) es t → EchoAt (past ++ es) t
    came_to (sent.Bytes n) facts w c = goes_on n facts
        (nat_lt (s.standing.sent + n) (length e.write.bytes)) c.told refl w.within c.advances
        c.tells
    came_to sent.Pause facts w c =
        echo_none past s es t (WritesNext, e) c.0 (ap (λ (u : State). u.standing) c.1)
    came_to sent.Failed facts w c =
        after_write past s t es c.reply [] (drop s.standing.sent e.write.bytes) facts e
        (ap taken c.tells) (ap given c.tells) (ap (some_of finds_over) c.tells) refl
        (inl (none_up c.reply (asked_so e.write.id outcome.Failed c.reply
        (subst (λ (xs : List Event). AreEchoes (told xs)) c.tells echoes)))) c.leaves

echo_write : (past : List Event) (s : State) (es : List Event) (t : State) → EchoAt past s
    → AreEchoes (told es) → tries_write s es t → EchoAt (past ++ es) t
echo_write past s es t (WritesNext, e) echoes c = tried_write past s es t e echoes
    (subst (λ (writes : List Writing). TriesWrite writes s es t) e.writes c)
echo_write past s es t (ReadsNext, e) echoes c =
    let none = subst (λ (writes : List Writing). TriesWrite writes s es t) e.writes c in
    echo_none past s es t (ReadsNext, e) none.0 (ap (λ (u : State). u.standing) none.1)
echo_write past s es t (Idles, e) echoes c =
    let none = subst (λ (writes : List Writing). TriesWrite writes s es t) e.writes c in
    echo_none past s es t (Idles, e) none.0 (ap (λ (u : State). u.standing) none.1)

-- ---- turns

echo_both : (past : List Event) (s : State) (es : List Event) (t : State) → EchoAt past s
    → AreEchoes (told es) → TriesBoth s es t → EchoAt (past ++ es) t
echo_both past s es t e echoes b = subst (λ (xs : List Event). EchoAt xs t)
    (append_assoc past b.read b.wrote ∙ ap (λ (xs : List Event). past ++ xs) (sym b.both))
    (by (some_of starves b.read) b.writes)
  where
    split : AreEchoes (told b.read ++ told b.wrote)
    split = subst AreEchoes (ap told b.both ∙ flat_map-append told_by b.read b.wrote) echoes

    middle : EchoAt (past ++ b.read) b.between
    middle = echo_read past s b.read b.between e (echoes_left (told b.read) (told b.wrote) split)
        b.reads

    by : (starved : Bool) → GoesOnToWrite starved b.between b.wrote t
        → EchoAt ((past ++ b.read) ++ b.wrote) t
    by true c = echo_none (past ++ b.read) b.between b.wrote t middle c.0
        (ap (λ (u : State). u.standing) c.1)
    by false c = echo_write (past ++ b.read) b.between b.wrote t middle
        (echoes_right (told b.read) (told b.wrote) split) c

echo_turn : (past : List Event) (s : State) (es : List Event) (t : State) (up : Upcall)
    → EchoAt past s → AreEchoes (told es) → Serves up s es t → EchoAt (past ++ es) t
echo_turn past s es t Input e echoes c = echo_both past s es t e echoes c
echo_turn past s es t Output e echoes c = echo_both past s es t e echoes c
echo_turn past s es t Except e echoes c =
    echo_none past s es t e c.0 (ap (λ (u : State). u.standing) c.1)
echo_turn past s es t (Timeout timer) e echoes c =
    echo_none past s es t e c.0 (ap (λ (u : State). u.standing) c.1)
echo_turn past s es t (Notice kind) e echoes c =
    echo_none past s es t e c.0 (ap (λ (u : State). u.standing) c.1)

-- all begins with what had happened before
course_begins : (conn : ℕ) (past : List Event) (start : State) (had : List (Item AsynchNote))
    (all : List Event) (s : State) → Course conn past start had all s
    → (rest : List Event) × (all ≡ past ++ rest)
course_begins conn past start [] all s c = ([], c.0 ∙ sym (append-nil past))
course_begins conn past start (item ∷ had) all s c =
    let more = course_begins conn (past ++ c.0) c.1 had all s c.3 in
    (c.0 ++ more.0, more.1 ∙ append_assoc past c.0 more.0)

echo_course : (conn : ℕ) (past : List Event) (start : State) (had : List (Item AsynchNote))
    (all : List Event) (s : State) → EchoAt past start → AreEchoes (told all)
    → Course conn past start had all s → WritesBack all
echo_course conn past start [] all s e echoes c =
    subst WritesBack (sym c.0) (written_back past start e.0 e.1)
echo_course conn past start (item ∷ had) all s e echoes c =
    let more = course_begins conn (past ++ c.0) c.1 had all s c.3 in
    let split : told all ≡ (told past ++ told c.0) ++ told more.0 =
    ap told more.1 ∙ flat_map-append told_by (past ++ c.0) more.0
    ∙ ap (λ (xs : List Told). xs ++ told more.0) (flat_map-append told_by past c.0) in
    let these : AreEchoes (told c.0) = echoes_right (told past) (told c.0)
    (echoes_left (told past ++ told c.0) (told more.0) (subst AreEchoes split echoes)) in
    echo_course conn (past ++ c.0) c.1 had all s
    (echo_turn past start c.0 c.1 item.upcall e these c.2.serves) echoes c.3

pub writes_back : (conn : ℕ) (first : Op) (start : EndFacts) (had : List (Item AsynchNote))
    (all closing : List Event) (s : State) → first ≡ first_read
    → AreEchoes (told (all ++ closing)) → Course conn [] (at_start start first) had all s
    → WritesBack all
writes_back conn first start had all closing s reads echoes c =
    echo_course conn [] (at_start start first) had all s (
      ReadsNext,
      record {
        reads = ap (λ (op : Op). reads_in (op ∷ [])) reads;
        writes = ap (λ (op : Op). writes_in (op ∷ [])) reads;
        sent = refl;
        even = refl;
        not_over = refl;
      },
    ) (echoes_left (told all) (told closing)
    (subst AreEchoes (flat_map-append told_by all closing) echoes)) c
