-- What the events at an end over the echo handler come to.
use Rattle.std.proofs.Common.{◌≡◌, ◌⊎◌, inl, inr, ⊎_elim, ℕ, Bool, true, false, List, [], ◌∷◌}
use Rattle.std.proofs.Common.{◌++◌, length, refl, sym, ap, ◌∙◌, subst, append-nil}
use Rattle.std.specs.Prelude.{◌||◌}
use Rattle.std.specs.List.{AllByRecursion, flat_map}
use Rattle.std.proofs.lemmas.Bool.{false≢true}
use Rattle.std.proofs.lemmas.Grind.{flat_map-append}
use Rattle.ev_base.specs.ev_types.specs.declared.upcall.Upcall.{Upcall}
use Rattle.ev_base.specs.ev_types.specs.declared.upcall.Upcall.TheVariants.{Input, Output, Except}
use Rattle.ev_base.specs.ev_types.specs.declared.upcall.Upcall.TheVariants.{Timeout, Notice}
use Rattle.ev_base.specs.End.{EndFacts}
use Rattle.ev_base.specs.declared.source.Got.{Got}
use Rattle.ev_base.specs.declared.source.Got.TheVariants as got
use Rattle.ev_base.specs.declared.end.Sent.{Sent}
use Rattle.ev_base.specs.declared.end.Sent.TheVariants as sent
use Rattle.reactor_model.specs.reactor_journal.specs.Event.{Item}
use Rattle.proactor.specs.Account.{finds_over, is_over}
use Rattle.proactor.specs.Echo.{IsEcho, is_done}
use Rattle.proactor.specs.Events.{Event, Took, Gave, ReadDone, WriteDone, Reply, Asked}
use Rattle.proactor.specs.Events.{FoundNoMemory, completion, done_in, ends, fails, given, given_by}
use Rattle.proactor.specs.Events.{is_failed, some_of, taken, taken_by, told, told_by, told_in}
use Rattle.proactor.specs.Operations.{Told}
use Rattle.proactor.specs.Turns.{Advances, Cancels, Course, GoesOnToWrite, Serves, State, TakesRead}
use Rattle.proactor.specs.Turns.{TakesWrite, TriesRead, TriesWrite}
use Rattle.proactor.specs.declared.note.AsynchNote.{AsynchNote}
use Rattle.proactor.specs.declared.operation.Outcome.{Outcome}
use Rattle.proactor.specs.declared.operation.Outcome.TheVariants as outcome
use Rattle.proactor.specs.declared.standing.Reading.{Reading}
use Rattle.proactor.specs.declared.standing.Writing.{Writing}
use Rattle.proactor.proofs.Events.{some_of_append}

-- ---- no write finds the end of the input

abbrev ends_write : Event → Bool
ends_write (WriteDone write came reply) = is_over came
ends_write _ = false

abbrev IsSound : List Event → Type 0
IsSound es = some_of ends_write es ≡ false

sound_both : (xs ys : List Event) → IsSound xs → IsSound ys → IsSound (xs ++ ys)
sound_both xs ys first second = some_of_append ends_write xs ys
    ∙ ap (λ (b : Bool). b || some_of ends_write ys) first ∙ second

sound_read : (reads : List Reading) (s : State) (es : List Event) (t : State)
    → TriesRead reads s es t → IsSound es
sound_read [] s es t r = subst IsSound (sym r.0) refl
sound_read (read ∷ rest) s es t r =
    ⊎_elim (λ once. by once.gave once.buffer once.facts once.takes)
    (λ c. subst IsSound (sym c.tells) refl) r
  where
    by : (gave : Got) (buffer : List ℕ) (facts : EndFacts)
        → TakesRead gave buffer read rest (record s { facts = facts }) es t → IsSound es
    by (got.Bytes n) buffer facts c =
        let told : IsSound c.told = subst IsSound (sym c.completes.tells) refl in
        subst IsSound (sym c.tells) told
    by got.Pause buffer facts c = subst IsSound (sym c.0) refl
    by got.Over buffer facts c = subst IsSound (sym c.tells) refl
    by got.Failed buffer facts c = subst IsSound (sym c.tells) refl

sound_write : (writes : List Writing) (s : State) (es : List Event) (t : State)
    → TriesWrite writes s es t → IsSound es
sound_write [] s es t w = subst IsSound (sym w.0) refl
sound_write (write ∷ rest) s es t w = by w.took w.facts w.takes
  where
    told_so : (b : Bool) (now : ℕ) (before : State) (told : List Event)
        → Advances b now write rest before told t → IsSound told
    told_so true now before told a = subst IsSound (sym a.0) refl
    told_so false now before told a = subst IsSound (sym a.tells) refl

    by : (took : Sent) (facts : EndFacts)
        → TakesWrite took write rest (record s { facts = facts }) es t → IsSound es
    by (sent.Bytes n) facts c = subst IsSound (sym c.tells) (told_so _ _ _ c.told c.advances)
    by sent.Pause facts c = subst IsSound (sym c.0) refl
    by sent.Failed facts c = subst IsSound (sym c.tells) refl

sound_then : (b : Bool) (s : State) (es : List Event) (t : State) → GoesOnToWrite b s es t
    → IsSound es
sound_then true s es t w = subst IsSound (sym w.0) refl
sound_then false s es t w = sound_write s.standing.writes s es t w

sound_turn : (up : Upcall) (s : State) (es : List Event) (t : State) → Serves up s es t → IsSound es
sound_turn Input s es t b = subst IsSound (sym b.both)
    (sound_both b.read b.wrote (sound_read s.standing.reads s b.read b.between b.reads)
    (sound_then _ b.between b.wrote t b.writes))
sound_turn Output s es t b = subst IsSound (sym b.both)
    (sound_both b.read b.wrote (sound_read s.standing.reads s b.read b.between b.reads)
    (sound_then _ b.between b.wrote t b.writes))
sound_turn Except s es t b = subst IsSound (sym b.0) refl
sound_turn (Timeout timer) s es t b = subst IsSound (sym b.0) refl
sound_turn (Notice kind) s es t b = subst IsSound (sym b.0) refl

pub sound_course : (conn : ℕ) (past : List Event) (start : State) (had : List (Item AsynchNote))
    (all : List Event) (s : State) → Course conn past start had all s → IsSound past → IsSound all
sound_course conn past start [] all s c sound = subst IsSound (sym c.0) sound
sound_course conn past start (item ∷ items) all s c sound =
    sound_course conn (past ++ c.0) c.1 items all s c.3
    (sound_both past c.0 sound (sound_turn item.upcall start c.0 c.1 c.2.serves))

-- ---- if the handler was done or an operation failed, its input was over or a call failed

abbrev Cause : List Event → Type 0
Cause es = (some_of fails es ≡ true) ⊎ (some_of finds_over es ≡ true)

or_left : (a b : Bool) → a ≡ true → (a || b) ≡ true
or_left a b is = ap (λ (x : Bool). x || b) is

or_right : (a b : Bool) → b ≡ true → (a || b) ≡ true
or_right true b is = refl
or_right false b is = is

or_parts : (a b : Bool) → (a || b) ≡ true → (a ≡ true) ⊎ (b ≡ true)
or_parts true b is = inl refl
or_parts false b is = inr is

or_none : (a b : Bool) → (a || b) ≡ false → (a ≡ false) × (b ≡ false)
or_none true b is = absurd (false≢true (sym is))
or_none false b is = (refl, is)

cause_later : (e : Event) (es : List Event) → Cause es → Cause (e ∷ es)
cause_later e es c = ⊎_elim (λ f. inl (or_right (fails e) (some_of fails es) f))
    (λ o. inr (or_right (finds_over e) (some_of finds_over es) o)) c

cause_here : (e : Event) (es : List Event) → (fails e ≡ true) ⊎ (finds_over e ≡ true)
    → Cause (e ∷ es)
cause_here e es c = ⊎_elim (λ f. inl (or_left (fails e) (some_of fails es) f))
    (λ o. inr (or_left (finds_over e) (some_of finds_over es) o)) c

-- a completion that ended it failed, or was told of the end of the input
done_so : (id : ℕ) (came : Outcome) (reply : Reply) (rest : List Told)
    → AllByRecursion IsEcho (told_in (completion id came) reply ++ rest)
    → (is_failed came || done_in reply) ≡ true → (is_failed came ≡ true) ⊎ (is_over came ≡ true)
done_so id came FoundNoMemory rest echoes is = inl (only (is_failed came) is)
  where
    only : (b : Bool) → (b || false) ≡ true → b ≡ true
    only true q = refl
    only false q = q
done_so id came (Asked up others done) rest echoes is =
    ⊎_elim inl (λ d. inr (by came (sym echoes.0.done ∙ d)))
    (or_parts (is_failed came) done is)
  where
    by : (came : Outcome) → is_done came ≡ true → is_over came ≡ true
    by outcome.Over q = refl
    by (outcome.Read bytes) q = absurd (false≢true q)
    by outcome.Wrote q = absurd (false≢true q)
    by outcome.Failed q = absurd (false≢true q)
    by outcome.Cancelled q = absurd (false≢true q)
    by outcome.NoMemory q = absurd (false≢true q)

echoes_right : (xs ys : List Told) → AllByRecursion IsEcho (xs ++ ys) → AllByRecursion IsEcho ys
echoes_right [] ys h = h
echoes_right (x ∷ xs) ys h = echoes_right xs ys h.1

pub ended_so : (es : List Event) → IsSound es → AllByRecursion IsEcho (told es)
    → some_of ends es ≡ true → Cause es
ended_so [] sound echoes is = absurd (false≢true is)
ended_so (Took bytes ∷ es) sound echoes is = cause_later (Took bytes) es
    (ended_so es sound echoes is)
ended_so (Gave bytes ∷ es) sound echoes is = cause_later (Gave bytes) es
    (ended_so es sound echoes is)
ended_so (ReadDone read came reply ∷ es) sound echoes is =
    let e : Event = ReadDone read came reply in
    ⊎_elim (λ here. cause_here e es (done_so read.id came reply (told es) echoes here))
    (λ later. cause_later e es
    (ended_so es sound (echoes_right (told_by e) (told es) echoes) later))
    (or_parts (ends e) (some_of ends es) is)
ended_so (WriteDone write came reply ∷ es) sound echoes is =
    let e : Event = WriteDone write came reply in
    let parts = or_none (ends_write e) (some_of ends_write es) sound in
    ⊎_elim (λ here. cause_here e es (⊎_elim inl
    (λ over. absurd (false≢true (sym parts.0 ∙ over)))
    (done_so write.id came reply (told es) echoes here)))
    (λ later. cause_later e es
    (ended_so es parts.1 (echoes_right (told_by e) (told es) echoes) later))
    (or_parts (ends e) (some_of ends es) is)

-- the echoes of a front of what happened
echoes_left : (xs ys : List Told) → AllByRecursion IsEcho (xs ++ ys) → AllByRecursion IsEcho xs
echoes_left [] ys h = tt
echoes_left (x ∷ xs) ys h = (h.0, echoes_left xs ys h.1)

pub echoes_of : (all closing : List Event) → AllByRecursion IsEcho (told (all ++ closing))
    → AllByRecursion IsEcho (told all)
echoes_of all closing echoes = echoes_left (told all) (told closing)
    (subst (AllByRecursion IsEcho) (flat_map-append told_by all closing) echoes)

-- ---- what is cancelled moves no bytes

cancels_moves : (f : Event → List ℕ) → ((read : Reading) (reply : Reply)
    → f (ReadDone read outcome.Cancelled reply) ≡ [])
    → ((write : Writing) (reply : Reply) → f (WriteDone write outcome.Cancelled reply) ≡ [])
    → (reads : List Reading) (writes : List Writing) (es : List Event)
    → Cancels reads writes es → flat_map f es ≡ []
cancels_moves f read write [] [] es c = ap (flat_map f) c
cancels_moves f read write [] (w ∷ writes) es c =
    ap (flat_map f) c.4 ∙ ap (λ (xs : List ℕ). xs ++ flat_map f c.1) (write w c.0)
    ∙ cancels_moves f read write [] writes c.1 c.3
cancels_moves f read write (r ∷ reads) writes es c =
    ap (flat_map f) c.4 ∙ ap (λ (xs : List ℕ). xs ++ flat_map f c.1) (read r c.0)
    ∙ cancels_moves f read write reads writes c.1 c.3

same_length : (f : Event → List ℕ) (all closing : List Event) → flat_map f closing ≡ []
    → length (flat_map f (all ++ closing)) ≡ length (flat_map f all)
same_length f all closing none =
    ap length (flat_map-append f all closing ∙ ap (λ (xs : List ℕ). flat_map f all ++ xs) none
    ∙ append-nil (flat_map f all))

pub took_same : (all closing : List Event) (reads : List Reading) (writes : List Writing)
    → Cancels reads writes closing → length (taken (all ++ closing)) ≡ length (taken all)
took_same all closing reads writes c = same_length taken_by all closing
    (cancels_moves taken_by (λ read reply. refl) (λ write reply. refl) reads writes closing c)

pub gave_same : (all closing : List Event) (reads : List Reading) (writes : List Writing)
    → Cancels reads writes closing → length (given (all ++ closing)) ≡ length (given all)
gave_same all closing reads writes c = same_length given_by all closing
    (cancels_moves given_by (λ read reply. refl) (λ write reply. refl) reads writes closing c)
