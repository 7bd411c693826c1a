-- What the turns of an end come to, one after another.
use Rattle.std.proofs.Common.{◌≡◌, ◌∙◌, ◌+◌, ◌≤◌, ℕ, arith, Bool, true, false, List}
use Rattle.std.proofs.Common.{[], ◌∷◌, ◌++◌, length, take, drop, refl, sym, ap, subst, Option, Some}
use Rattle.std.proofs.Common.{None, ⊎_elim}
use Rattle.std.specs.Prelude.{◌||◌, nat_lt}
use Rattle.std.specs.List.{flat_map}
use Rattle.std.proofs.Math.Bool.{or_assoc, or-false}
use Rattle.std.proofs.lemmas.Grind.{flat_map-append}
use Rattle.std.proofs.lemmas.List.{append-nil, append_assoc, length-take}
use Rattle.ev_base.specs.Bytes.{HasGiven, MovesOn, ReaderBytes}
use Rattle.ev_base.specs.Sink.{GrowsBy}
use Rattle.ev_base.specs.End.{EndFacts, EndReads, EndWrites}
use Rattle.ev_base.specs.declared.source.Got.{Got}
use Rattle.ev_base.specs.declared.source.Got.TheVariants as got
use Rattle.ev_base.specs.declared.end.Sent.{Sent}
use Rattle.ev_base.specs.declared.end.Sent.TheVariants as sent
use Rattle.proactor.specs.declared.operation.Op.{Op}
use Rattle.proactor.specs.declared.operation.Outcome.{Outcome}
use Rattle.proactor.specs.declared.operation.Outcome.TheVariants as outcome
use Rattle.proactor.specs.declared.standing.Reading.{Reading}
use Rattle.proactor.specs.declared.standing.Writing.{Writing}
use Rattle.proactor.specs.Events.{Event, Gave, ReadDone, Reply, Took, WriteDone, asked_by}
use Rattle.proactor.specs.Events.{asked_reads, asked_writes, cancels, fails, given, given_by}
use Rattle.proactor.specs.Events.{read_by, reads_in, some_of, taken, taken_by, up_in, writes_in}
use Rattle.proactor.specs.Account.{Operates, IsWritten, completed_reads, completed_writes}
use Rattle.proactor.specs.Account.{finds_over, read_completed_by, write_completed_by}
use Rattle.proactor.specs.Standing.{queued}
use Rattle.proactor.specs.Turns.{Advances, State, TakesRead}
use Rattle.proactor.specs.Turns.{TakesWrite, TriesRead, TriesWrite, tries_read}
use Rattle.proactor.specs.Turns.{tries_write}
use Rattle.proactor.proofs.Events.{lengths, some_of_append}
use Rattle.proactor.proofs.Operations.{reads_in_append, writes_in_append}

-- ---- bytes

gives : (old new : Option ReaderBytes) (before more : List ℕ) → HasGiven old before
    → MovesOn old more new → HasGiven new (before ++ more)
gives None None before more given moves = tt
gives None (Some new) before more given moves = absurd moves
gives (Some old) None before more given moves = absurd moves
gives (Some old) (Some new) before more given moves =
    moves.1 ∙ ap (λ (xs : List ℕ). xs ++ more) given

grows : (old new : Option (List ℕ)) (before more : List ℕ) → IsWritten old before
    → GrowsBy old more new → IsWritten new (before ++ more)
grows None None before more w g = tt
grows None (Some new) before more w g = absurd g
grows (Some old) None before more w g = absurd g
grows (Some old) (Some new) before more w g = g ∙ ap (λ (xs : List ℕ). xs ++ more) w

-- ---- a part of a turn more

-- what these events add, if it stood so before and stands so after them
pub record Adds (s : State) (es : List Event) (t : State) : Type 0 where
  pub reads : s.standing.reads ++ reads_in (flat_map asked_by es)
      ≡ completed_reads es ++ t.standing.reads
  pub writes : s.standing.writes ++ writes_in (flat_map asked_by es)
      ≡ completed_writes es ++ t.standing.writes
  pub read_bytes : flat_map read_by es ≡ taken es
  pub took : (before : List ℕ) → HasGiven s.facts.bytes before
      → HasGiven t.facts.bytes (before ++ taken es)
  pub took_so_many : t.facts.gave ≡ s.facts.gave + length (taken es)
  pub gave : (before : List ℕ) → IsWritten s.facts.written before
      → IsWritten t.facts.written (before ++ given es)
  pub faults : 1 ≤ s.facts.faults → 1 ≤ t.facts.faults
  pub failed : some_of fails es ≡ true → 1 ≤ t.facts.faults
  pub over : s.facts.over || some_of finds_over es ≡ t.facts.over
  pub none_cancelled : some_of cancels es ≡ false

pub operates_on : (first : Op) (all : List Event) (s : State) (es : List Event) (t : State)
    → Operates first all s → Adds s es t → Operates first (all ++ es) t
operates_on first all s es t h a = record {
  reads = asked_more ∙ ap (λ (xs : List Reading). xs ++ reads_in (flat_map asked_by es)) h.reads
      ∙ append_assoc (completed_reads all) s.standing.reads _
      ∙ ap (λ (xs : List Reading). completed_reads all ++ xs) a.reads
      ∙ sym (append_assoc (completed_reads all) (completed_reads es) t.standing.reads)
      ∙ ap (λ (xs : List Reading). xs ++ t.standing.reads)
      (sym (flat_map-append read_completed_by all es));
  writes = writes_more ∙ ap (λ (xs : List Writing). xs ++ writes_in (flat_map asked_by es)) h.writes
      ∙ append_assoc (completed_writes all) s.standing.writes _
      ∙ ap (λ (xs : List Writing). completed_writes all ++ xs) a.writes
      ∙ sym (append_assoc (completed_writes all) (completed_writes es) t.standing.writes)
      ∙ ap (λ (xs : List Writing). xs ++ t.standing.writes)
      (sym (flat_map-append write_completed_by all es));
  read_bytes = flat_map-append read_by all es
      ∙ ap (λ (xs : List ℕ). xs ++ flat_map read_by es) h.read_bytes
      ∙ ap (λ (xs : List ℕ). taken all ++ xs) a.read_bytes ∙ sym (flat_map-append taken_by all es);
  took = subst (HasGiven t.facts.bytes) (sym (flat_map-append taken_by all es))
      (a.took (taken all) h.took);
  took_so_many = let so = h.took_so_many in let more = a.took_so_many in
      let both = lengths taken_by all es in omega (arith, so, more, both);
  gave = subst (IsWritten t.facts.written) (sym (flat_map-append given_by all es))
      (a.gave (given all) h.gave);
  failed = λ is. by_failed (some_of fails all) refl (sym (some_of_append fails all es) ∙ is);
  over = some_of_append finds_over all es
      ∙ ap (λ (b : Bool). b || some_of finds_over es) h.over ∙ a.over;
  none_cancelled = some_of_append cancels all es
      ∙ ap (λ (b : Bool). b || some_of cancels es) h.none_cancelled ∙ a.none_cancelled;
}
  where
    asked_more : asked_reads first (all ++ es)
        ≡ asked_reads first all ++ reads_in (flat_map asked_by es)
    asked_more = ap (λ (ops : List Op). reads_in (first ∷ ops)) (flat_map-append asked_by all es)
        ∙ reads_in_append (first ∷ flat_map asked_by all) (flat_map asked_by es)

    writes_more : asked_writes first (all ++ es)
        ≡ asked_writes first all ++ writes_in (flat_map asked_by es)
    writes_more = ap (λ (ops : List Op). writes_in (first ∷ ops)) (flat_map-append asked_by all es)
        ∙ writes_in_append (first ∷ flat_map asked_by all) (flat_map asked_by es)

    by_failed : (b : Bool) → some_of fails all ≡ b → b || some_of fails es ≡ true
        → 1 ≤ t.facts.faults
    by_failed true is both = a.faults (h.failed is)
    by_failed false is both = a.failed both

-- nothing happened
pub adds_none : (s : State) (facts : EndFacts) → facts.bytes ≡ s.facts.bytes
    → facts.gave ≡ s.facts.gave → facts.written ≡ s.facts.written
    → facts.faults ≡ s.facts.faults → s.facts.over ≡ facts.over
    → Adds s [] (record s { facts = facts })
adds_none s facts bytes gave written faults over = record {
  reads = append-nil s.standing.reads;
  writes = append-nil s.standing.writes;
  read_bytes = refl;
  took = λ before h. subst (HasGiven facts.bytes) (sym (append-nil before))
      (subst (λ (b : Option ReaderBytes). HasGiven b before) (sym bytes) h);
  took_so_many = omega (arith, gave);
  gave = λ before h. subst (IsWritten facts.written) (sym (append-nil before))
      (subst (λ (b : Option (List ℕ)). IsWritten b before) (sym written) h);
  faults = λ some. omega (arith, some, faults);
  failed = λ q. cc;
  over = or-false s.facts.over ∙ over;
  none_cancelled = refl;
}

-- the first read completed, and gave no bytes
adds_read : (s : State) (facts : EndFacts) (read : Reading) (rest : List Reading)
    (came : Outcome) (reply : Reply) → read ∷ rest ≡ s.standing.reads
    → flat_map read_by (ReadDone read came reply ∷ []) ≡ [] → facts.bytes ≡ s.facts.bytes
    → facts.gave ≡ s.facts.gave → facts.written ≡ s.facts.written
    → (1 ≤ s.facts.faults → 1 ≤ facts.faults)
    → (some_of fails (ReadDone read came reply ∷ []) ≡ true → 1 ≤ facts.faults)
    → s.facts.over || some_of finds_over (ReadDone read came reply ∷ []) ≡ facts.over
    → some_of cancels (ReadDone read came reply ∷ []) ≡ false
    → Adds s (ReadDone read came reply ∷ []) (record {
      facts = facts;
      standing = queued (up_in reply) (record s.standing { reads = rest });
    })
adds_read s facts read rest came reply is nothing bytes gave written faults failed over none =
    record {
      reads = ap (λ (xs : List Reading). xs ++ reads_in (up_in reply ++ [])) (sym is)
          ∙ ap (λ (ops : List Op). (read ∷ rest) ++ reads_in ops) (append-nil (up_in reply));
      writes = ap (λ (ops : List Op). s.standing.writes ++ writes_in ops)
          (append-nil (up_in reply));
      read_bytes = nothing;
      took = λ before h. subst (HasGiven facts.bytes) (sym (append-nil before))
          (subst (λ (b : Option ReaderBytes). HasGiven b before) (sym bytes) h);
      took_so_many = omega (arith, gave);
      gave = λ before h. subst (IsWritten facts.written) (sym (append-nil before))
          (subst (λ (b : Option (List ℕ)). IsWritten b before) (sym written) h);
      faults = faults;
      failed = failed;
      over = over;
      none_cancelled = none;
    }

-- the first read completed with bytes
adds_bytes : (s : State) (facts : EndFacts) (buffer : List ℕ) (n : ℕ) (read : Reading)
    (rest : List Reading) (reply : Reply) → read ∷ rest ≡ s.standing.reads
    → EndReads s.facts buffer (got.Bytes n) facts
    → Adds s (Took (take n buffer) ∷ ReadDone read (outcome.Read (take n buffer)) reply ∷ [])
    (record { facts = facts; standing = queued (up_in reply) (record s.standing { reads = rest }) })
adds_bytes s facts buffer n read rest reply is g =
    let bytes = take n buffer in record {
      reads = ap (λ (xs : List Reading). xs ++ reads_in (up_in reply ++ [])) (sym is)
          ∙ ap (λ (ops : List Op). (read ∷ rest) ++ reads_in ops) (append-nil (up_in reply));
      writes = ap (λ (ops : List Op). s.standing.writes ++ writes_in ops)
          (append-nil (up_in reply));
      read_bytes = refl;
      took = λ before h. subst (λ (more : List ℕ). HasGiven facts.bytes (before ++ more))
          (sym (append-nil bytes)) (gives s.facts.bytes facts.bytes before bytes h g.bytes);
      took_so_many = let gave = g.gave in let within = g.within in
          let many = length-take n buffer in let all = ap length (append-nil bytes) in
          omega (arith, gave, within, many, all);
      gave = λ before h. subst (IsWritten facts.written) (sym (append-nil before))
          (subst (λ (b : Option (List ℕ)). IsWritten b before) (sym g.counts.written) h);
      faults = λ some. let same = g.faults in omega (arith, some, same);
      failed = λ q. cc;
      over = or-false s.facts.over ∙ g.was_not_over ∙ sym g.over;
      none_cancelled = refl;
    }

true_or : (a : Bool) → a || true ≡ true
true_or true = refl
true_or false = refl

-- the first read was tried
pub adds_reads : (s : State) (es : List Event) (t : State) → tries_read s es t → Adds s es t
adds_reads s es t tried = by s.standing.reads refl tried
  where
    none_lemma : (s : State) → Adds s [] s
    none_lemma s = adds_none s s.facts refl refl refl refl refl

    came_to : (read : Reading) (rest : List Reading) → read ∷ rest ≡ s.standing.reads
        → (gave : Got) (buffer : List ℕ) (facts : EndFacts) → EndReads s.facts buffer gave facts
        → TakesRead gave buffer read rest (record s { facts = facts }) es t → Adds s es t
    came_to read rest is (got.Bytes n) buffer facts g c =
        subst (λ (e : List Event). Adds s e t) (sym (c.tells
        ∙ ap (λ (told : List Event). Took (take n buffer) ∷ told) c.completes.tells))
        (subst (λ (u : State). Adds s
        (Took (take n buffer) ∷ ReadDone read (outcome.Read (take n buffer)) c.completes.reply ∷ [])
        u) (sym c.completes.leaves)
        (adds_bytes s facts buffer n read rest c.completes.reply is g))
    came_to read rest is got.Pause buffer facts g c =
        subst (λ (e : List Event). Adds s e t) (sym c.0)
        (subst (λ (u : State). Adds s [] u) (sym c.1)
        (adds_none s facts g.bytes g.gave g.counts.written g.faults (g.was_not_over ∙ sym g.over)))
    came_to read rest is got.Over buffer facts g c =
        subst (λ (e : List Event). Adds s e t) (sym c.tells)
        (subst (λ (u : State). Adds s (ReadDone read outcome.Over c.reply ∷ []) u) (sym c.leaves)
        (adds_read s facts read rest outcome.Over c.reply is refl g.bytes g.gave g.counts.written
        (λ some. let same = g.faults in omega (arith, some, same)) (λ q. cc)
        (true_or s.facts.over ∙ sym g.over) refl))
    came_to read rest is got.Failed buffer facts g c =
        subst (λ (e : List Event). Adds s e t) (sym c.tells)
        (subst (λ (u : State). Adds s (ReadDone read outcome.Failed c.reply ∷ []) u) (sym c.leaves)
        (adds_read s facts read rest outcome.Failed c.reply is refl g.bytes g.gave g.counts.written
        (λ some. let rose = g.rose in omega (arith, rose))
        (λ _. let rose = g.rose in omega (arith, rose))
        (or-false s.facts.over ∙ g.was_not_over ∙ sym g.over) refl))

    by : (reads : List Reading) → reads ≡ s.standing.reads → TriesRead reads s es t → Adds s es t
    by [] is c = subst (λ (e : List Event). Adds s e t) (sym c.0)
        (subst (λ (u : State). Adds s [] u) (sym c.1) (none_lemma s))
    by (read ∷ rest) is c = ⊎_elim
        (λ once. came_to read rest is once.gave once.buffer once.facts once.reads once.takes)
        (λ none. subst (λ (e : List Event). Adds s e t) (sym none.tells)
        (subst (λ (u : State). Adds s (ReadDone read outcome.NoMemory none.reply ∷ []) u)
        (sym none.leaves)
        (adds_read s s.facts read rest outcome.NoMemory none.reply is refl refl refl refl
        (λ some. some) (λ q. cc) (or-false s.facts.over) refl)))
        c

-- the first write completed, after these bytes
adds_write : (s : State) (facts : EndFacts) (write : Writing) (rest : List Writing)
    (came : Outcome) (reply : Reply) → write ∷ rest ≡ s.standing.writes
    → facts.bytes ≡ s.facts.bytes → facts.gave ≡ s.facts.gave
    → facts.written ≡ s.facts.written → (1 ≤ s.facts.faults → 1 ≤ facts.faults)
    → (some_of fails (WriteDone write came reply ∷ []) ≡ true → 1 ≤ facts.faults)
    → s.facts.over ≡ facts.over → some_of cancels (WriteDone write came reply ∷ []) ≡ false
    → Adds s (WriteDone write came reply ∷ []) (record {
      facts = facts;
      standing = queued (up_in reply) (record s.standing { writes = rest; sent = 0 });
    })
adds_write s facts write rest came reply is bytes gave written faults failed over none = record {
  reads = ap (λ (ops : List Op). s.standing.reads ++ reads_in ops) (append-nil (up_in reply));
  writes = ap (λ (xs : List Writing). xs ++ writes_in (up_in reply ++ [])) (sym is)
      ∙ ap (λ (ops : List Op). (write ∷ rest) ++ writes_in ops) (append-nil (up_in reply));
  read_bytes = refl;
  took = λ before h. subst (HasGiven facts.bytes) (sym (append-nil before))
      (subst (λ (b : Option ReaderBytes). HasGiven b before) (sym bytes) h);
  took_so_many = omega (arith, gave);
  gave = λ before h. subst (IsWritten facts.written) (sym (append-nil before))
      (subst (λ (b : Option (List ℕ)). IsWritten b before) (sym written) h);
  faults = faults;
  failed = failed;
  over = or-false s.facts.over ∙ over;
  none_cancelled = none;
}

-- a write took bytes
adds_given : (s : State) (facts : EndFacts) (piece : List ℕ) (n sent_now : ℕ)
    → EndWrites s.facts piece (sent.Bytes n) facts
    → Adds s (Gave (take n piece) ∷ []) (record {
      facts = facts;
      standing = record s.standing { sent = sent_now };
    })
adds_given s facts piece n sent_now w =
    let bytes = take n piece in record {
      reads = append-nil s.standing.reads;
      writes = append-nil s.standing.writes;
      read_bytes = refl;
      took = λ before h. subst (HasGiven facts.bytes) (sym (append-nil before))
          (subst (λ (b : Option ReaderBytes). HasGiven b before) (sym w.counts.bytes) h);
      took_so_many = let gave = w.counts.gave in omega (arith, gave);
      gave = λ before h. subst (λ (more : List ℕ). IsWritten facts.written (before ++ more))
          (sym (append-nil bytes)) (grows s.facts.written facts.written before bytes h w.written);
      faults = λ some. let same = w.faults in omega (arith, some, same);
      failed = λ q. cc;
      over = or-false s.facts.over ∙ sym w.counts.over;
      none_cancelled = refl;
    }

-- one part, and then another
adds_both : (s t u : State) (es fs : List Event) → Adds s es t → Adds t fs u → Adds s (es ++ fs) u
adds_both s t u es fs a b = record {
  reads = ap (λ (ops : List Op). s.standing.reads ++ reads_in ops) (flat_map-append asked_by es fs)
      ∙ ap (λ (xs : List Reading). s.standing.reads ++ xs)
      (reads_in_append (flat_map asked_by es) (flat_map asked_by fs))
      ∙ sym (append_assoc s.standing.reads _ _)
      ∙ ap (λ (xs : List Reading). xs ++ reads_in (flat_map asked_by fs)) a.reads
      ∙ append_assoc (completed_reads es) t.standing.reads _
      ∙ ap (λ (xs : List Reading). completed_reads es ++ xs) b.reads
      ∙ sym (append_assoc (completed_reads es) (completed_reads fs) u.standing.reads)
      ∙ ap (λ (xs : List Reading). xs ++ u.standing.reads)
      (sym (flat_map-append read_completed_by es fs));
  writes = ap (λ (ops : List Op). s.standing.writes ++ writes_in ops)
      (flat_map-append asked_by es fs)
      ∙ ap (λ (xs : List Writing). s.standing.writes ++ xs)
      (writes_in_append (flat_map asked_by es) (flat_map asked_by fs))
      ∙ sym (append_assoc s.standing.writes _ _)
      ∙ ap (λ (xs : List Writing). xs ++ writes_in (flat_map asked_by fs)) a.writes
      ∙ append_assoc (completed_writes es) t.standing.writes _
      ∙ ap (λ (xs : List Writing). completed_writes es ++ xs) b.writes
      ∙ sym (append_assoc (completed_writes es) (completed_writes fs) u.standing.writes)
      ∙ ap (λ (xs : List Writing). xs ++ u.standing.writes)
      (sym (flat_map-append write_completed_by es fs));
  read_bytes = flat_map-append read_by es fs
      ∙ ap (λ (xs : List ℕ). xs ++ flat_map read_by fs) a.read_bytes
      ∙ ap (λ (xs : List ℕ). taken es ++ xs) b.read_bytes ∙ sym (flat_map-append taken_by es fs);
  took = λ before h. subst (HasGiven u.facts.bytes) (append_assoc before (taken es) (taken fs)
      ∙ ap (λ (xs : List ℕ). before ++ xs) (sym (flat_map-append taken_by es fs)))
      (b.took (before ++ taken es) (a.took before h));
  took_so_many = let first = a.took_so_many in let more = b.took_so_many in
      let all = lengths taken_by es fs in omega (arith, first, more, all);
  gave = λ before h. subst (IsWritten u.facts.written) (append_assoc before (given es) (given fs)
      ∙ ap (λ (xs : List ℕ). before ++ xs) (sym (flat_map-append given_by es fs)))
      (b.gave (before ++ given es) (a.gave before h));
  faults = λ some. b.faults (a.faults some);
  failed = λ is. by_failed (some_of fails es) refl (sym (some_of_append fails es fs) ∙ is);
  over = ap (λ (x : Bool). s.facts.over || x) (some_of_append finds_over es fs)
      ∙ sym (or_assoc s.facts.over (some_of finds_over es) (some_of finds_over fs))
      ∙ ap (λ (x : Bool). x || some_of finds_over fs) a.over ∙ b.over;
  none_cancelled = some_of_append cancels es fs
      ∙ ap (λ (x : Bool). x || some_of cancels fs) a.none_cancelled ∙ b.none_cancelled;
}
  where
    by_failed : (x : Bool) → some_of fails es ≡ x → x || some_of fails fs ≡ true
        → 1 ≤ u.facts.faults
    by_failed true is both = b.faults (a.failed is)
    by_failed false is both = b.failed both

-- the first write was tried
pub adds_writes : (s : State) (es : List Event) (t : State) → tries_write s es t → Adds s es t
adds_writes s es t tried = by s.standing.writes refl tried
  where
    goes_on : (write : Writing) (rest : List Writing) → write ∷ rest ≡ s.standing.writes
        → (n : ℕ) (facts : EndFacts) (more : Bool) (now : ℕ) (told : List Event)
        → EndWrites s.facts (drop s.standing.sent write.bytes) (sent.Bytes n) facts
        → Advances more now write rest (record s { facts = facts }) told t
        → Adds s (Gave (take n (drop s.standing.sent write.bytes)) ∷ told) t
    goes_on write rest is n facts true now told w c =
        subst (λ (e : List Event). Adds s (Gave (take n (drop s.standing.sent write.bytes)) ∷ e) t)
        (sym c.0) (subst (λ (u : State). Adds s
        (Gave (take n (drop s.standing.sent write.bytes)) ∷ []) u) (sym c.1)
        (adds_given s facts (drop s.standing.sent write.bytes) n now w))
    goes_on write rest is n facts false now told w c =
        subst (λ (e : List Event). Adds s (Gave (take n (drop s.standing.sent write.bytes)) ∷ e) t)
        (sym c.tells) (subst (λ (u : State). Adds s
        (Gave (take n (drop s.standing.sent write.bytes))
        ∷ WriteDone write outcome.Wrote c.reply ∷ []) u) (sym c.leaves)
        (adds_both s (record s { facts = facts }) _
        (Gave (take n (drop s.standing.sent write.bytes)) ∷ [])
        (WriteDone write outcome.Wrote c.reply ∷ [])
        (adds_given s facts (drop s.standing.sent write.bytes) n s.standing.sent w)
        (adds_write (record s { facts = facts }) facts write rest outcome.Wrote c.reply is refl refl
        refl (λ some. some) (λ q. cc) refl refl)))

    came_to : (write : Writing) (rest : List Writing) → write ∷ rest ≡ s.standing.writes
        → (took : Sent) (facts : EndFacts)
        → EndWrites s.facts (drop s.standing.sent write.bytes) took facts
        → TakesWrite took write rest (record s { facts = facts }) es t → Adds s es t
    came_to write rest is (sent.Bytes n) facts w c = subst (λ (e : List Event). Adds s e t)
        (sym c.tells) (goes_on write rest is n facts
        (nat_lt (s.standing.sent + n) (length write.bytes)) (s.standing.sent + n) c.told w
        c.advances)
    came_to write rest is sent.Pause facts w c = subst (λ (e : List Event). Adds s e t) (sym c.0)
        (subst (λ (u : State). Adds s [] u) (sym c.1) (adds_none s facts w.counts.bytes
        w.counts.gave w.written w.faults (sym w.counts.over)))
    came_to write rest is sent.Failed facts w c = subst (λ (e : List Event). Adds s e t)
        (sym c.tells) (subst (λ (u : State). Adds s (WriteDone write outcome.Failed c.reply ∷ []) u)
        (sym c.leaves) (adds_write s facts write rest outcome.Failed c.reply is w.counts.bytes
        w.counts.gave w.written (λ some. let rose = w.rose in omega (arith, rose))
        (λ _. let rose = w.rose in omega (arith, rose)) (sym w.counts.over) refl))

    by : (writes : List Writing) → writes ≡ s.standing.writes → TriesWrite writes s es t
        → Adds s es t
    by [] is c = subst (λ (e : List Event). Adds s e t) (sym c.0)
        (subst (λ (u : State). Adds s [] u) (sym c.1)
        (adds_none s s.facts refl refl refl refl refl))
    by (write ∷ rest) is c = came_to write rest is c.took c.facts c.writes c.takes
