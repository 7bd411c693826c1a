-- Parts of a turn of an end.
use Rattle.std.proofs.Common.{◌≡◌, ◌∙◌, ◌+◌, ◌≤◌, inl, inr, ℕ, arith, Bool, true, false, List}
use Rattle.std.proofs.Common.{[], ◌∷◌, ◌++◌, length, take, drop, refl, sym, ap, subst}
use Rattle.std.specs.Prelude.{◌||◌, not, Ok, Some, None}
use Rattle.std.proofs.Math.Bool.{or-false}
use Rattle.std.proofs.lemmas.Grind.{flat_map-append}
use Rattle.std.proofs.lemmas.List.{append-nil, append_assoc, length-take}
use Rattle.ev_base.specs.Terms.{Terms}
use Rattle.ev_base.specs.End.{EndFacts, EndReads, EndWrites, EndGives, EndPauses, EndTakes}
use Rattle.ev_base.specs.End.{EndIsFull, EndFailsToWrite}
use Rattle.ev_base.specs.declared.end.PeerEnd.{Ghosts}
use Rattle.ev_base.specs.declared.source.Got.{Got}
use Rattle.ev_base.specs.declared.source.Got.TheVariants as got
use Rattle.ev_base.specs.declared.end.Sent.{Sent}
use Rattle.ev_base.specs.declared.end.Sent.TheVariants as sent
use Rattle.proactor.specs.declared.asynch_end.AsynchEnd.{AsynchEnd}
use Rattle.proactor.specs.declared.asynch_end.Step.{Step}
use Rattle.proactor.specs.declared.operation.Op.{Op}
use Rattle.proactor.specs.declared.operation.Outcome.{Outcome}
use Rattle.proactor.specs.declared.operation.Outcome.TheVariants as outcome
use Rattle.proactor.specs.declared.standing.Reading.{Reading}
use Rattle.proactor.specs.declared.standing.Writing.{Writing}
use Rattle.proactor.specs.declared.sums.Sums.{Sums}
use Rattle.proactor.specs.declared.operation.Next.{Next}
use Rattle.proactor.specs.Operations.{FollowsOn, Told}
use Rattle.proactor.specs.Events.{Event, ReadDone, WriteDone, Took, Gave, completion, up_in}
use Rattle.proactor.specs.Events.{
  Asked,
  some_there,
  done_in,
  ends,
  is_failed,
  is_starved,
  lost_in,
  moves,
  some_of,
}
use Rattle.proactor.specs.Events.{starves, told, told_by, told_in, taken, given, count_done}
use Rattle.proactor.specs.Standing.{Stands, FinishesRead, FinishesReadOf, FinishesWrite, TakesUp}
use Rattle.proactor.specs.Standing.{queued, GivesPiece, GivesPieceOf, Wants}
use Rattle.proactor.specs.Standing.{FinishesWriteOf, AdvancesTo, HasLeft, HasLeftOf, has_more}
use Rattle.proactor.specs.Sums.{completed_sums, given_sums, taken_sums}
use Rattle.proactor.specs.Turns.{State, CompletesRead, CompletesWrite, TriesRead, TriesWrite}
use Rattle.proactor.specs.Turns.{TriesBoth, tries_read, tries_write, Advances, TakesRead}
use Rattle.proactor.specs.Turns.{TakesWrite, GoesOnToWrite}
use Rattle.proactor.specs.Parts.{CompletesFirstRead, CompletesFirstWrite, DoesPart, FollowsTold}
use Rattle.proactor.specs.Parts.{HearsOf, IsSummed, completes_read, completes_write, end_of}
use Rattle.proactor.specs.Parts.{handler_of, number_of, standing_of, state_of, sums_of, takes_bytes}
use Rattle.proactor.specs.Parts.{TakesFirstBytes, CountsMore}
use Rattle.proactor.proofs.Events.{counts_same, some_of_append, summed_none}
use Rattle.proactor.proofs.Events.{summed_on}

-- ---- what is counted

one_done : (e : Event) (starved : Bool) (old : Sums) → length (taken (e ∷ [])) ≡ 0
    → length (given (e ∷ [])) ≡ 0 → count_done (e ∷ []) ≡ 1
    → starved ≡ some_of starves (e ∷ []) → IsSummed (e ∷ []) old (completed_sums starved old)
one_done e starved old no_read no_write one is = record {
  read = subst (λ (k : ℕ). CountsMore old.read k old.read) (sym no_read) (counts_same old.read);
  wrote = subst (λ (k : ℕ). CountsMore old.wrote k old.wrote) (sym no_write)
      (counts_same old.wrote);
  completed = λ n h. omega (arith, h, one);
  starved = ap (λ (b : Bool). old.starved || b) is;
}

-- a handler that was told of both lists
pub told_on : {C : Type 0} (follows : C → Op → List Told → Type 0) (xs ys : List Event) (a b c : C)
    → FollowsTold follows (told xs) a b → FollowsTold follows (told ys) b c
    → FollowsTold follows (told (xs ++ ys)) a c
told_on follows xs ys a b c f g first before h =
    subst (follows c first) (append_assoc before (told xs) (told ys)
    ∙ ap (λ (more : List Told). before ++ more) (sym (flat_map-append told_by xs ys)))
    (g first (before ++ told xs) (f first before h))

pub told_same : {C : Type 0} (follows : C → Op → List Told → Type 0) (list : List Told) (a : C)
    → list ≡ [] → FollowsTold follows list a a
told_same follows list a none first before h = subst (follows a first) (sym
    (ap (λ (more : List Told). before ++ more) none ∙ append-nil before)) h

-- ---- the first read or write completes

gave_sums : (bytes : List ℕ) (n : ℕ) (old : Sums) → length bytes ≡ n
    → IsSummed (Gave bytes ∷ []) old (given_sums n old)
gave_sums bytes n old is = record {
  read = counts_same old.read;
  wrote = λ k h. omega (arith, h, is, ap length (append-nil bytes));
  completed = counts_same old.completed;
  starved = sym (or-false old.starved);
}

cut : (n : ℕ) (bytes : List ℕ) → n ≤ length bytes → length (take n bytes) ≡ n
cut n bytes within = omega (arith, length-take n bytes)

-- what was finished stands no more
stands : List Reading → List Writing → ℕ → Stands
stands reads writes sent = record { reads = reads; writes = writes; sent = sent }

read_rest : (s mid : Stands) (reads : List Reading) → mid.reads ≡ reads → mid.writes ≡ s.writes
    → mid.sent ≡ s.sent → mid ≡ record s { reads = reads }
unfolding stands
read_rest s mid reads r w n =
    let is : stands mid.reads mid.writes mid.sent ≡ stands reads s.writes s.sent =
    ap (λ (xs : List Reading). stands xs mid.writes mid.sent) r
    ∙ (ap (λ (xs : List Writing). stands reads xs mid.sent) w
    ∙ ap (λ (k : ℕ). stands reads s.writes k) n) in is

write_rest : (s mid : Stands) (writes : List Writing) → mid.writes ≡ writes → mid.reads ≡ s.reads
    → mid.sent ≡ 0 → mid ≡ record s { writes = writes; sent = 0 }
unfolding stands
write_rest s mid writes w r n =
    let is : stands mid.reads mid.writes mid.sent ≡ stands s.reads writes 0 =
    ap (λ (xs : List Reading). stands xs mid.writes mid.sent) r
    ∙ (ap (λ (xs : List Writing). stands s.reads xs mid.sent) w
    ∙ ap (λ (k : ℕ). stands s.reads writes k) n) in is

state_at : EndFacts → Stands → State
state_at facts standing = record { facts = facts; standing = standing }

pub state_is : (s : State) (facts : EndFacts) (standing : Stands) → s.facts ≡ facts
    → s.standing ≡ standing → s ≡ record { facts = facts; standing = standing }
unfolding state_at
state_is s facts standing f h =
    let is : state_at s.facts s.standing ≡ state_at facts standing =
    ap (λ (e : EndFacts). state_at e s.standing) f ∙ ap (state_at facts) h in is

module _ {E C : Type 0} {G : Ghosts E} (tells : E → EndFacts) (keeps : Terms → E → Type 0)
    (follows : C → Op → List Told → Type 0) where
  -- the parts that every completion has
  part : (does : State → List Event → State → Type 0) (came : Outcome) (id : ℕ) (e : Event)
      (old mid new : AsynchEnd E C G) (step : Step) → (h : HearsOf follows id came mid new step)
      → does (state_of tells old) (e ∷ []) (state_of tells new) → sums_of mid ≡ sums_of old
      → handler_of mid ≡ handler_of old → number_of mid ≡ number_of old → end_of mid ≡ end_of old
      → moves e ≡ false → ends e ≡ is_failed came || done_in h.reply
      → starves e ≡ is_starved came || lost_in h.reply → length (taken (e ∷ [])) ≡ 0
      → length (given (e ∷ [])) ≡ 0 → count_done (e ∷ []) ≡ 1
      → told (e ∷ []) ≡ told_in (completion id came) h.reply →
      DoesPart tells keeps follows does old new step
  part does came id e old mid new step h done sums handler number end no_moves over starved no_read
      no_write one is = record {
        events = e ∷ [];
        done = done;
        step_is = record {
          moved = h.moved ∙ sym (or-false (moves e) ∙ no_moves);
          over = h.over ∙ sym (or-false (ends e) ∙ over);
          starved = h.starved ∙ sym (or-false (starves e) ∙ starved);
        };
        sums = subst (λ (s : Sums). IsSummed (e ∷ []) (sums_of old) s) (sym (h.sums
            ∙ ap (completed_sums step.starved) sums)) (one_done e step.starved (sums_of old) no_read
            no_write one (h.starved ∙ sym (or-false (starves e) ∙ starved)));
        told_so = λ first before had. subst (λ (list : List Told).
            follows (handler_of new) first (before ++ list)) (sym is) (h.told_so first before
            (subst (λ (c : C). follows c first before) (sym handler) had));
        number = h.number ∙ number;
        end = λ t kept. subst (keeps t) (sym (h.end ∙ end)) kept;
      }

  pub read_completes : (came : Outcome) (id : ℕ) (old mid new : AsynchEnd E C G) (step : Step)
      → FinishesRead (standing_of old) id (standing_of mid) → HearsOf follows id came mid new step
      → sums_of mid ≡ sums_of old → handler_of mid ≡ handler_of old
      → number_of mid ≡ number_of old → end_of mid ≡ end_of old →
      DoesPart tells keeps follows (completes_read came) old new step
  read_completes came id old mid new step finishes h sums handler number end =
      by (standing_of old).reads refl finishes.0
    where
      by : (reads : List Reading) → reads ≡ (standing_of old).reads
          → FinishesReadOf reads id (standing_of mid).reads
          → DoesPart tells keeps follows (completes_read came) old new step
      by [] is f = absurd f
      by (read ∷ rest) is f = part (completes_read came) came id (ReadDone read came h.reply) old
          mid
          new step h
          (subst (λ (reads : List Reading). CompletesFirstRead reads came (state_of tells old)
          (ReadDone read came h.reply ∷ []) (state_of tells new)) is (record {
            reply = h.reply;
            tells = refl;
            leaves = state_is (state_of tells new) _ _ (ap tells (h.end ∙ end)) (h.standing
                ∙ ap (queued (up_in h.reply))
                (read_rest (standing_of old) (standing_of mid) rest f.1 finishes.1 finishes.2));
          }))
          sums handler number end refl refl refl refl refl refl
          (append-nil (told_in (completion read.id came) h.reply)
          ∙ ap (λ (n : ℕ). told_in (completion n came) h.reply) (sym f.0))

  pub write_completes : (came : Outcome) (id : ℕ) (old mid new : AsynchEnd E C G) (step : Step)
      → FinishesWrite (standing_of old) id (standing_of mid) → HearsOf follows id came mid new step
      → sums_of mid ≡ sums_of old → handler_of mid ≡ handler_of old
      → number_of mid ≡ number_of old → end_of mid ≡ end_of old →
      DoesPart tells keeps follows (completes_write came) old new step
  write_completes came id old mid new step finishes h sums handler number end =
      by (standing_of old).writes refl finishes.0
    where
      by : (writes : List Writing) → writes ≡ (standing_of old).writes
          → FinishesWriteOf writes id (standing_of mid).writes
          → DoesPart tells keeps follows (completes_write came) old new step
      by [] is f = absurd f
      by (write ∷ rest) is f = part (completes_write came) came id (WriteDone write came h.reply)
          old
          mid new step h
          (subst (λ (writes : List Writing). CompletesFirstWrite writes came (state_of tells old)
          (WriteDone write came h.reply ∷ []) (state_of tells new)) is (record {
            reply = h.reply;
            tells = refl;
            leaves = state_is (state_of tells new) _ _ (ap tells (h.end ∙ end)) (h.standing
                ∙ ap (queued (up_in h.reply))
                (write_rest (standing_of old) (standing_of mid) rest f.1 finishes.1 finishes.2));
          }))
          sums handler number end refl refl refl refl refl refl
          (append-nil (told_in (completion write.id came) h.reply)
          ∙ ap (λ (n : ℕ). told_in (completion n came) h.reply) (sym f.0))

  -- the handler was told, and found memory
  pub hears : (id : ℕ) (came : Outcome) (old new : AsynchEnd E C G) (step : Step) (next : Next)
      (all : Bool) (mid : C) (standing : Stands) (failed starved : Bool)
      → failed ≡ is_failed came → starved ≡ is_starved came
      → ((first : Op) (list : List Told) → follows (handler_of old) first list
      → FollowsOn (follows mid first) list (completion id came) (Ok next))
      → TakesUp next.ops (standing_of old) all standing
      → step ≡ record { moved = false; over = failed || next.done; starved = starved || not all }
      → new ≡ record old {
        handler = mid;
        standing = standing;
        sums = completed_sums (starved || not all) old.sums;
      } → HearsOf follows id came old new step
  hears id came old new step next all mid standing failed starved fails none told taken is leaves =
      subst (λ (n : AsynchEnd E C G). HearsOf follows id came old n step) (sym leaves)
      (subst (λ (s : Step). HearsOf follows id came old (record old {
        handler = mid;
        standing = standing;
        sums = completed_sums (starved || not all) old.sums;
      }) s) (sym is) (record {
        reply = Asked taken.up taken.others next.done;
        standing = taken.leaves;
        moved = refl;
        over = ap (λ (b : Bool). b || next.done) fails;
        starved = ap (λ (b : Bool). b || not all) none
            ∙ ap (λ (b : Bool). is_starved came || b) (lost all taken.others taken.all_is);
        sums = refl;
        told_so = λ first before h. subst (λ (ops : List Op). follows mid first
            (before ++ record { completed = completion id came; asked = ops; done = next.done } ∷
            []))
            taken.are (told first before h);
        number = refl;
        end = refl;
      }))
    where
      lost : (all : Bool) (others : List Op) → all ≡ not (some_there others)
          → not all ≡ some_there others
      lost all [] is = ap not is
      lost all (o ∷ others) is = ap not is

  -- ---- parts of a turn one after another

  -- what was done from here was done from where nothing but the end had changed
  pub carried : (P Q : State → List Event → State → Type 0) (old mid new : AsynchEnd E C G)
      (step : Step) → sums_of mid ≡ sums_of old → handler_of mid ≡ handler_of old
      → number_of mid ≡ number_of old
      → ((t : Terms) → keeps t (end_of old) → keeps t (end_of mid))
      → (d : DoesPart tells keeps follows P mid new step)
      → Q (state_of tells old) d.events (state_of tells new)
      → DoesPart tells keeps follows Q old new step
  carried P Q old mid new step sums handler number end d done = record {
    events = d.events;
    done = done;
    step_is = d.step_is;
    sums = subst (λ (s : Sums). IsSummed d.events s (sums_of new)) sums d.sums;
    told_so = λ first before h. d.told_so first before
        (subst (λ (c : C). follows c first before) (sym handler) h);
    number = d.number ∙ number;
    end = λ t kept. d.end t (end t kept);
  }

  -- nothing happened
  pub idle : (Q : State → List Event → State → Type 0) (old new : AsynchEnd E C G)
      → sums_of new ≡ sums_of old → handler_of new ≡ handler_of old
      → number_of new ≡ number_of old
      → ((t : Terms) → keeps t (end_of old) → keeps t (end_of new))
      → Q (state_of tells old) [] (state_of tells new)
      → DoesPart tells keeps follows Q old new
      (record { moved = false; over = false; starved = false })
  idle Q old new sums handler number end done = record {
    events = [];
    done = done;
    step_is = record { moved = refl; over = refl; starved = refl };
    sums = subst (λ (s : Sums). IsSummed [] (sums_of old) s) (sym sums) (summed_none (sums_of old));
    told_so = λ first before h. subst (λ (c : C). follows c first (before ++ [])) (sym handler)
        (subst (follows (handler_of old) first) (sym (append-nil before)) h);
    number = number;
    end = end;
  }

  -- a write took bytes of the first write, and it goes on
  pub advanced : (n : ℕ) (old : AsynchEnd E C G) (standing : Stands) → HasLeft (standing_of old) n
      → AdvancesTo n (standing_of old) true standing
      → DoesPart tells keeps follows (takes_bytes n) old
      (record old { sums = given_sums n old.sums; standing = standing })
      (record { moved = true; over = false; starved = false })
  advanced n old standing left to = by (standing_of old).writes refl left to.0
    where
      by : (writes : List Writing) → writes ≡ (standing_of old).writes
          → HasLeftOf writes (standing_of old).sent n
          → has_more writes ((standing_of old).sent + n) ≡ true
          → DoesPart tells keeps follows (takes_bytes n) old
          (record old { sums = given_sums n old.sums; standing = standing })
          (record { moved = true; over = false; starved = false })
      by [] is l m = absurd l
      by (write ∷ rest) is l m =
          let bytes = take n (drop (standing_of old).sent write.bytes) in record {
            events = Gave bytes ∷ [];
            done = subst (λ (writes : List Writing). TakesFirstBytes writes n (state_of tells old)
                (Gave bytes ∷ []) (record {
                  facts = tells (end_of old);
                  standing = standing;
                })) is (record {
                  told = [];
                  advances = subst (λ (b : Bool). Advances b ((standing_of old).sent + n) write rest
                      (state_of tells old) [] (record {
                        facts = tells (end_of old);
                        standing = standing;
                      })) (sym m) (
                        refl,
                        ap (λ (s : Stands). record {
                          facts = tells (end_of old);
                          standing = s;
                        }) to.1,
                      );
                  tells = refl;
                });
            step_is = record { moved = refl; over = refl; starved = refl };
            sums = gave_sums bytes n old.sums (cut n (drop (standing_of old).sent write.bytes) l);
            told_so = told_same follows (told (Gave bytes ∷ [])) (handler_of old) refl;
            number = refl;
            end = λ t kept. kept;
          }

  -- the first write completed
  pub wrote_all : (n : ℕ) (old mid new : AsynchEnd E C G) (step : Step)
      → HasLeft (standing_of old) n
      → has_more (standing_of old).writes ((standing_of old).sent + n) ≡ false
      → standing_of mid ≡ standing_of old → sums_of mid ≡ given_sums n (sums_of old)
      → handler_of mid ≡ handler_of old → number_of mid ≡ number_of old → end_of mid ≡ end_of old
      → DoesPart tells keeps follows (completes_write outcome.Wrote) mid new step
      → DoesPart tells keeps follows (takes_bytes n) old new (record step { moved = true })
  wrote_all n old mid new step left more standing sums handler number end d =
      by (standing_of old).writes refl left more
    where
      same : state_of tells mid ≡ state_of tells old
      same = state_is (state_of tells mid) (tells (end_of old)) (standing_of old) (ap tells end)
          standing

      by : (writes : List Writing) → writes ≡ (standing_of old).writes
          → HasLeftOf writes (standing_of old).sent n
          → has_more writes ((standing_of old).sent + n) ≡ false
          → DoesPart tells keeps follows (takes_bytes n) old new (record step { moved = true })
      by [] is l m = absurd l
      by (write ∷ rest) is l m =
          let bytes = take n (drop (standing_of old).sent write.bytes) in
          let done : CompletesWrite write rest outcome.Wrote (state_of tells old) d.events
          (state_of tells new) =
          subst (λ (writes : List Writing). CompletesFirstWrite writes outcome.Wrote
          (state_of tells old) d.events (state_of tells new)) (sym is)
          (subst (λ (s : State). completes_write outcome.Wrote s d.events (state_of tells new)) same
          d.done) in record {
            events = Gave bytes ∷ d.events;
            done = subst (λ (writes : List Writing). TakesFirstBytes writes n (state_of tells old)
                (Gave bytes ∷ d.events) (state_of tells new)) is (record {
                  told = d.events;
                  advances = subst (λ (b : Bool). Advances b ((standing_of old).sent + n) write rest
                      (state_of tells old) d.events (state_of tells new)) (sym m) done;
                  tells = refl;
                });
            step_is = record { moved = refl; over = d.step_is.over; starved = d.step_is.starved };
            sums = summed_on (Gave bytes ∷ []) d.events (sums_of old) (sums_of mid) (sums_of new)
                (subst (λ (s : Sums). IsSummed (Gave bytes ∷ []) (sums_of old) s) (sym sums)
                (gave_sums bytes n (sums_of old)
                (cut n (drop (standing_of old).sent write.bytes) l))) d.sums;
            told_so = λ first before h. d.told_so first before
                (subst (λ (c : C). follows c first before) (sym handler) h);
            number = d.number ∙ number;
            end = λ t kept. d.end t (subst (keeps t) (sym end) kept);
          }

-- ---- what is tried

-- what comes of a write of the first
wrote_by : (took : Sent) (facts : EndFacts) (piece : List ℕ) (before : State) (events : List Event)
    (after : State) → GivesPiece before.standing piece → EndWrites before.facts piece took facts
    → ((write : Writing) (rest : List Writing) → write ∷ rest ≡ before.standing.writes
    → TakesWrite took write rest (record before { facts = facts }) events after)
    → tries_write before events after
wrote_by took facts piece before events after g w f = by before.standing.writes refl g
  where
    by : (writes : List Writing) → writes ≡ before.standing.writes
        → GivesPieceOf writes before.standing.sent piece → TriesWrite writes before events after
    by [] is g = absurd g
    by (write ∷ rest) is g = record {
      took = took;
      facts = facts;
      writes = subst (λ (p : List ℕ). EndWrites before.facts p took facts) g.0 w;
      takes = f write rest is;
    }

-- what comes of a read of the first
read_by : (gave : Got) (facts : EndFacts) (buffer : List ℕ) (want : ℕ) (before : State)
    (events : List Event) (after : State) → Wants before.standing.reads (Some want)
    → length buffer ≡ want → EndReads before.facts buffer gave facts
    → ((read : Reading) (rest : List Reading) → read ∷ rest ≡ before.standing.reads
    → TakesRead gave buffer read rest (record before { facts = facts }) events after)
    → tries_read before events after
read_by gave facts buffer want before events after wants room r f =
    by before.standing.reads refl wants
  where
    by : (reads : List Reading) → reads ≡ before.standing.reads → Wants reads (Some want)
        → TriesRead reads before events after
    by [] is w = absurd w
    by (read ∷ rest) is w = inl (record {
      gave = gave;
      buffer = buffer;
      room = room ∙ w.0;
      facts = facts;
      reads = r;
      takes = f read rest is;
    })

-- there was no memory for it
no_room_by : (before : State) (events : List Event) (after : State)
    → completes_read outcome.NoMemory before events after → tries_read before events after
no_room_by before events after c = by before.standing.reads c
  where
    by : (reads : List Reading) → CompletesFirstRead reads outcome.NoMemory before events after
        → TriesRead reads before events after
    by [] c = absurd c
    by (read ∷ rest) c = inr c

-- none stands
pub no_read : (before : State) → Wants before.standing.reads None → tries_read before [] before
no_read before wants = by before.standing.reads wants
  where
    by : (reads : List Reading) → Wants reads None → TriesRead reads before [] before
    by [] w = (refl, refl)
    by (read ∷ rest) w = absurd w

pub no_write : (before : State) → before.standing.writes ≡ [] → tries_write before [] before
no_write before none = subst (λ (writes : List Writing). TriesWrite writes before [] before)
    (sym none) (refl, refl)

took_sums : (bytes : List ℕ) (n : ℕ) (old : Sums) → length bytes ≡ n
    → IsSummed (Took bytes ∷ []) old (taken_sums n old)
took_sums bytes n old is = record {
  read = λ k h. omega (arith, h, is, ap length (append-nil bytes));
  wrote = counts_same old.wrote;
  completed = counts_same old.completed;
  starved = sym (or-false old.starved);
}

module _ {E C : Type 0} {G : Ghosts E} (tells : E → EndFacts) (keeps : Terms → E → Type 0)
    (follows : C → Op → List Told → Type 0) where
  -- where it stands once its end was called
  called : (old mid : AsynchEnd E C G) → standing_of mid ≡ standing_of old
      → state_of tells mid ≡ record (state_of tells old) { facts = tells (end_of mid) }
  called old mid same =
      state_is (state_of tells mid) (tells (end_of mid)) (standing_of old) refl same

  -- the first write was tried, which came to this
  pub tried_write : (P : State → List Event → State → Type 0) (took : Sent) (piece : List ℕ)
      (old mid new : AsynchEnd E C G) (step : Step) → GivesPiece (standing_of old) piece
      → EndWrites (tells (end_of old)) piece took (tells (end_of mid))
      → standing_of mid ≡ standing_of old → sums_of mid ≡ sums_of old
      → handler_of mid ≡ handler_of old → number_of mid ≡ number_of old
      → ((t : Terms) → keeps t (end_of old) → keeps t (end_of mid))
      → (d : DoesPart tells keeps follows P mid new step)
      → ((write : Writing) (rest : List Writing) → write ∷ rest ≡ (standing_of old).writes
      → P (record (state_of tells old) { facts = tells (end_of mid) }) d.events (state_of tells new)
      → TakesWrite took write rest (record (state_of tells old) { facts = tells (end_of mid) })
      d.events (state_of tells new))
      → DoesPart tells keeps follows tries_write old new step
  tried_write P took piece old mid new step g w standing sums handler number end d f =
      carried tells keeps follows P tries_write old mid new step sums handler number end d
      (wrote_by took (tells (end_of mid)) piece (state_of tells old) d.events (state_of tells new) g
      w
      (λ write rest is. f write rest is (subst (λ (s : State). P s d.events (state_of tells new))
      (called old mid standing) d.done)))

  pub tried_bytes : (n : ℕ) (piece : List ℕ) (old mid new : AsynchEnd E C G) (step : Step)
      → GivesPiece (standing_of old) piece
      → EndTakes (tells (end_of old)) piece n (tells (end_of mid))
      → standing_of mid ≡ standing_of old → sums_of mid ≡ sums_of old
      → handler_of mid ≡ handler_of old → number_of mid ≡ number_of old
      → ((t : Terms) → keeps t (end_of old) → keeps t (end_of mid))
      → DoesPart tells keeps follows (takes_bytes n) mid new step
      → DoesPart tells keeps follows tries_write old new step
  tried_bytes n piece old mid new step g w standing sums handler number end d =
      tried_write (takes_bytes n) (sent.Bytes n) piece old mid new step g w standing sums handler
      number end d (λ write rest is p. subst (λ (writes : List Writing). TakesFirstBytes writes n
      (record (state_of tells old) { facts = tells (end_of mid) }) d.events (state_of tells new))
      (sym is) p)

  pub tried_in_vain : (piece : List ℕ) (old mid new : AsynchEnd E C G) (step : Step)
      → GivesPiece (standing_of old) piece
      → EndFailsToWrite (tells (end_of old)) (tells (end_of mid))
      → standing_of mid ≡ standing_of old → sums_of mid ≡ sums_of old
      → handler_of mid ≡ handler_of old → number_of mid ≡ number_of old
      → ((t : Terms) → keeps t (end_of old) → keeps t (end_of mid))
      → DoesPart tells keeps follows (completes_write outcome.Failed) mid new step
      → DoesPart tells keeps follows tries_write old new step
  tried_in_vain piece old mid new step g w standing sums handler number end d =
      tried_write (completes_write outcome.Failed) sent.Failed piece old mid new step g w standing
      sums handler number end d (λ write rest is p. subst (λ (writes : List Writing).
      CompletesFirstWrite writes outcome.Failed
      (record (state_of tells old) { facts = tells (end_of mid) }) d.events (state_of tells new))
      (sym is) p)

  pub write_paused : (piece : List ℕ) (old new : AsynchEnd E C G)
      → GivesPiece (standing_of old) piece
      → EndIsFull (tells (end_of old)) (tells (end_of new))
      → standing_of new ≡ standing_of old → sums_of new ≡ sums_of old
      → handler_of new ≡ handler_of old → number_of new ≡ number_of old
      → ((t : Terms) → keeps t (end_of old) → keeps t (end_of new))
      → DoesPart tells keeps follows tries_write old new
      (record { moved = false; over = false; starved = false })
  write_paused piece old new g w standing sums handler number end =
      idle tells keeps follows tries_write old new sums handler number end
      (wrote_by sent.Pause (tells (end_of new)) piece (state_of tells old) [] (state_of tells new) g
      w
      (λ write rest is. (refl, called old new standing)))

  -- the first read was tried, which came to this
  pub tried_read : (gave : Got) (came : Outcome) (buffer : List ℕ) (want : ℕ)
      (old mid new : AsynchEnd E C G) (step : Step) → Wants (standing_of old).reads (Some want)
      → length buffer ≡ want → EndReads (tells (end_of old)) buffer gave (tells (end_of mid))
      → ((read : Reading) (rest : List Reading) (s : State) (events : List Event) (after : State)
      → CompletesRead read rest came s events after
      → TakesRead gave buffer read rest s events after)
      → standing_of mid ≡ standing_of old → sums_of mid ≡ sums_of old
      → handler_of mid ≡ handler_of old → number_of mid ≡ number_of old
      → ((t : Terms) → keeps t (end_of old) → keeps t (end_of mid))
      → DoesPart tells keeps follows (completes_read came) mid new step
      → DoesPart tells keeps follows tries_read old new step
  tried_read gave came buffer want old mid new step wants room r takes standing sums handler number
      end d = carried tells keeps follows (completes_read came) tries_read old mid new step sums
      handler number end d
      (read_by gave (tells (end_of mid)) buffer want (state_of tells old) d.events
      (state_of tells new) wants room r (λ read rest is. takes read rest _ d.events _
      (subst (λ (reads : List Reading). CompletesFirstRead reads came
      (record (state_of tells old) { facts = tells (end_of mid) }) d.events (state_of tells new))
      (sym is) (subst (λ (s : State). completes_read came s d.events (state_of tells new))
      (called old mid standing) d.done))))

  pub read_paused : (buffer : List ℕ) (want : ℕ) (old new : AsynchEnd E C G)
      → Wants (standing_of old).reads (Some want) → length buffer ≡ want
      → EndPauses (tells (end_of old)) buffer (tells (end_of new))
      → standing_of new ≡ standing_of old → sums_of new ≡ sums_of old
      → handler_of new ≡ handler_of old → number_of new ≡ number_of old
      → ((t : Terms) → keeps t (end_of old) → keeps t (end_of new))
      → DoesPart tells keeps follows tries_read old new
      (record { moved = false; over = false; starved = false })
  read_paused buffer want old new wants room r standing sums handler number end =
      idle tells keeps follows tries_read old new sums handler number end
      (read_by got.Pause (tells (end_of new)) buffer want (state_of tells old) []
      (state_of tells new) wants room r (λ read rest is. (refl, called old new standing)))

  -- it gave bytes
  pub read_bytes : (n : ℕ) (buffer bytes : List ℕ) (want : ℕ) (old mid new : AsynchEnd E C G)
      (step : Step) → bytes ≡ take n buffer → Wants (standing_of old).reads (Some want)
      → length buffer ≡ want
      → EndGives (tells (end_of old)) buffer n (tells (end_of mid))
      → standing_of mid ≡ standing_of old → sums_of mid ≡ taken_sums n (sums_of old)
      → handler_of mid ≡ handler_of old → number_of mid ≡ number_of old
      → ((t : Terms) → keeps t (end_of old) → keeps t (end_of mid))
      → DoesPart tells keeps follows (completes_read (outcome.Read bytes)) mid new step
      → DoesPart tells keeps follows tries_read old new (record step { moved = true })
  read_bytes n buffer bytes want old mid new step is wants room r standing sums handler number end =
      by bytes is
    where
      by : (bytes : List ℕ) → bytes ≡ take n buffer
          → DoesPart tells keeps follows (completes_read (outcome.Read bytes)) mid new step
          → DoesPart tells keeps follows tries_read old new (record step { moved = true })
      by bytes is d = record {
        events = Took bytes ∷ d.events;
        done = read_by (got.Bytes n) (tells (end_of mid)) buffer want (state_of tells old)
            (Took bytes ∷ d.events) (state_of tells new) wants room r (λ read rest first. record {
              told = d.events;
              completes = subst (λ (xs : List ℕ). CompletesRead read rest (outcome.Read xs)
                  (record (state_of tells old) { facts = tells (end_of mid) }) d.events
                  (state_of tells new)) is
                  (subst (λ (reads : List Reading). CompletesFirstRead reads
                  (outcome.Read bytes) (record (state_of tells old) { facts = tells (end_of mid) })
                  d.events (state_of tells new)) (sym first) (subst (λ (s : State).
                  completes_read (outcome.Read bytes) s d.events (state_of tells new))
                  (called old mid standing) d.done));
              tells = ap (λ (xs : List ℕ). Took xs ∷ d.events) is;
            });
        step_is = record { moved = refl; over = d.step_is.over; starved = d.step_is.starved };
        sums = summed_on (Took bytes ∷ []) d.events (sums_of old) (sums_of mid) (sums_of new)
            (subst (λ (s : Sums). IsSummed (Took bytes ∷ []) (sums_of old) s) (sym sums)
            (took_sums bytes n (sums_of old) (ap length is ∙ cut n buffer r.within))) d.sums;
        told_so = λ first before h. d.told_so first before
            (subst (λ (c : C). follows c first before) (sym handler) h);
        number = d.number ∙ number;
        end = λ t kept. d.end t (end t kept);
      }

  -- there was no memory for it
  pub no_room : (old mid new : AsynchEnd E C G) (step : Step) → standing_of mid ≡ standing_of old
      → sums_of mid ≡ sums_of old → handler_of mid ≡ handler_of old
      → number_of mid ≡ number_of old → end_of mid ≡ end_of old
      → DoesPart tells keeps follows (completes_read outcome.NoMemory) mid new step
      → DoesPart tells keeps follows tries_read old new step
  no_room old mid new step standing sums handler number end d =
      carried tells keeps follows (completes_read outcome.NoMemory) tries_read old mid new step sums
      handler number (λ t kept. subst (keeps t) (sym end) kept) d
      (no_room_by (state_of tells old) d.events (state_of tells new)
      (subst (λ (s : State). completes_read outcome.NoMemory s d.events (state_of tells new))
      (state_is (state_of tells mid) (tells (end_of old)) (standing_of old) (ap tells end) standing)
      d.done))

  -- ---- both

  pub read_alone : (old new : AsynchEnd E C G) (step : Step) → step.starved ≡ true
      → DoesPart tells keeps follows tries_read old new step
      → DoesPart tells keeps follows TriesBoth old new step
  read_alone old new step starved d = carried tells keeps follows tries_read TriesBoth old old new
      step refl refl refl (λ t kept. kept) d (record {
        read = d.events;
        between = state_of tells new;
        wrote = [];
        reads = d.done;
        writes = subst (λ (b : Bool). GoesOnToWrite b (state_of tells new) [] (state_of tells new))
            (sym (sym d.step_is.starved ∙ starved)) (refl, refl);
        both = sym (append-nil d.events);
      })

  pub read_and_write : (old mid new : AsynchEnd E C G) (read wrote : Step) → read.starved ≡ false
      → DoesPart tells keeps follows tries_read old mid read
      → DoesPart tells keeps follows tries_write mid new wrote
      → DoesPart tells keeps follows TriesBoth old new (record {
        moved = read.moved || wrote.moved;
        over = read.over || wrote.over;
        starved = wrote.starved;
      })
  read_and_write old mid new read wrote fed r w = record {
    events = r.events ++ w.events;
    done = record {
      read = r.events;
      between = state_of tells mid;
      wrote = w.events;
      reads = r.done;
      writes = subst (λ (b : Bool). GoesOnToWrite b (state_of tells mid) w.events
          (state_of tells new)) (sym (sym r.step_is.starved ∙ fed)) w.done;
      both = refl;
    };
    step_is = record {
      moved = both moves read.moved wrote.moved r.step_is.moved w.step_is.moved;
      over = both ends read.over wrote.over r.step_is.over w.step_is.over;
      starved = sym (ap (λ (b : Bool). b || wrote.starved) fed)
          ∙ both starves read.starved wrote.starved r.step_is.starved w.step_is.starved;
    };
    sums = summed_on r.events w.events (sums_of old) (sums_of mid) (sums_of new) r.sums w.sums;
    told_so = told_on follows r.events w.events (handler_of old) (handler_of mid) (handler_of new)
        r.told_so w.told_so;
    number = w.number ∙ r.number;
    end = λ t kept. w.end t (r.end t kept);
  }
    where
      both : (p : Event → Bool) (a b : Bool) → a ≡ some_of p r.events → b ≡ some_of p w.events
          → a || b ≡ some_of p (r.events ++ w.events)
      both p a b f g = ap (λ (x : Bool). x || b) f ∙ ap (λ (x : Bool). some_of p r.events || x) g
          ∙ sym (some_of_append p r.events w.events)
