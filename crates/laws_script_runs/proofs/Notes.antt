-- Which notes stand in the turns of each handler.
use Rattle.std.proofs.Common.{ℕ, zero, suc, ◌≡◌, ◌+◌, Bool, true, false, List, [], ◌∷◌, ◌++◌}
use Rattle.std.proofs.Common.{length, refl, sym, ap, ◌∙◌, arith}
use Rattle.std.specs.Prelude.{flat_map}
use Rattle.std.specs.List.{AllByRecursion}
use Rattle.std.proofs.lemmas.Bool.{false≢true}
use Rattle.reactor_model.specs.ev_types.specs.declared.upcall.Upcall.{Upcall}
use Rattle.reactor_model.specs.ev_types.specs.declared.upcall.Upcall.TheVariants.{Input, Output}
use Rattle.reactor_model.specs.ev_types.specs.declared.upcall.Upcall.TheVariants.{Except, Timeout}
use Rattle.reactor_model.specs.ev_types.specs.declared.upcall.Upcall.TheVariants.{Notice}
use Rattle.reactor_model.specs.reactor_journal.specs.Event.{Item}
use Rattle.laws_script_told.specs.log_handler.specs.declared.note.ServerNote.{ServerNote}
use Rattle.laws_script_told.specs.log_handler.specs.declared.note.ServerNote.TheVariants as note
use Rattle.laws_script_turns.specs.acceptor.specs.Accepting.{Progress, Course, ServesUpcall}
use Rattle.laws_script_turns.specs.acceptor.specs.Accepting.{ServesAccept, ServesInput, OneEnd}
use Rattle.laws_script_turns.specs.acceptor.specs.Accepting.{NoEnd, Failure, Gives}
use Rattle.laws_script_turns.specs.acceptor.specs.Laws.{number_in, number_accepted, numbers_from}
use Rattle.laws_script_runs.specs.Connections.{is_note_of}

-- ---- the notes of an acceptor

-- a note of a listener, none of a connection
abbrev pub is_listening : ServerNote → Bool
is_listening (note.Accepted conn) = true
is_listening note.NoneWaiting = true
is_listening note.ListenerFailed = true
is_listening note.ListenerShut = true
is_listening _ = false

abbrev pub Listens : Item ServerNote → Type 0
Listens item = is_listening item.note ≡ true

listens_accept : (gave : Gives) (before after : Progress) (item : Item ServerNote)
    → ServesAccept gave before item after → Listens item
listens_accept (OneEnd serial) before after item h = ap is_listening h.notes
listens_accept NoEnd before after item h = ap is_listening h.notes
listens_accept Failure before after item h = ap is_listening h.notes

listens_input : (b : Bool) (before after : Progress) (item : Item ServerNote)
    → ServesInput b before item after → Listens item
listens_input true before after item h = listens_accept h.gave before after item h.serves
listens_input false before after item h = ap is_listening h.notes

listens_turn : (up : Upcall) (before after : Progress) (item : Item ServerNote)
    → ServesUpcall up before item after → Listens item
listens_turn Input before after item h = listens_input _ before after item h
listens_turn Output before after item h = ap is_listening h.notes
listens_turn Except before after item h = ap is_listening h.notes
listens_turn (Timeout timer) before after item h = ap is_listening h.notes
listens_turn (Notice kind) before after item h = ap is_listening h.notes

pub course_listens : (start p : Progress) (had : List (Item ServerNote)) → Course start had p
    → AllByRecursion Listens had
course_listens start p [] course = tt
course_listens start p (item ∷ had) course =
    (listens_turn item.upcall start course.0 item course.1, course_listens course.0 p had course.2)

-- ---- lists of turns

pub all_left : {A : Type 0} (P : A → Type 0) (xs ys : List A) → AllByRecursion P (xs ++ ys)
    → AllByRecursion P xs
all_left P [] ys h = tt
all_left P (x ∷ xs) ys h = (h.0, all_left P xs ys h.1)

pub all_last : {A : Type 0} (P : A → Type 0) (xs : List A) (y : A) (ys : List A)
    → AllByRecursion P ((xs ++ y ∷ []) ++ ys) → P y
all_last P [] y ys h = h.0
all_last P (x ∷ xs) y ys h = all_last P xs y ys h.1

-- the number that a turn noted after these is how many they noted
pub number_next : (first many : ℕ) (xs : List (Item ServerNote)) (item : Item ServerNote)
    (ys : List (Item ServerNote)) (k : ℕ)
    → flat_map number_in ((xs ++ item ∷ []) ++ ys) ≡ numbers_from first many
    → item.note ≡ note.Accepted k → k ≡ first + length (flat_map number_in xs)
number_next first many [] item ys k e is =
    head many (sym (ap (λ (n : ServerNote). number_accepted n ++ flat_map number_in ys) is) ∙ e)
  where
    head : (many : ℕ) → k ∷ flat_map number_in ys ≡ numbers_from first many → k ≡ first + 0
    head zero h = absurd (none h)
      where
        none : k ∷ flat_map number_in ys ≡ [] → ⊥
        none q = cc
    head (suc many) h = same h ∙ zero_more first
      where
        same : k ∷ flat_map number_in ys ≡ first ∷ numbers_from (suc first) many → k ≡ first
        same q = cc

        zero_more : (n : ℕ) → n ≡ n + 0
        zero_more n = omega arith
number_next first many (x ∷ xs) item ys k e is =
    by_note x.note many e (λ (first : ℕ) (many : ℕ) (h : flat_map number_in ((xs ++ item ∷ [])
    ++ ys) ≡ numbers_from first many). number_next first many xs item ys k h is)
  where
    one : (j : ℕ) (many : ℕ) → j ∷ flat_map number_in ((xs ++ item ∷ []) ++ ys)
        ≡ numbers_from first many
        → ((first many : ℕ) → flat_map number_in ((xs ++ item ∷ []) ++ ys) ≡ numbers_from first many
        → k ≡ first + length (flat_map number_in xs))
        → k ≡ first + suc (length (flat_map number_in xs))
    one j zero h more = absurd (none h)
      where
        none : j ∷ flat_map number_in ((xs ++ item ∷ []) ++ ys) ≡ [] → ⊥
        none q = cc
    one j (suc many) h more = moved first (length (flat_map number_in xs))
        (more (suc first) many (tail h))
      where
        tail : j ∷ flat_map number_in ((xs ++ item ∷ []) ++ ys)
            ≡ first ∷ numbers_from (suc first) many
            → flat_map number_in ((xs ++ item ∷ []) ++ ys) ≡ numbers_from (suc first) many
        tail q = cc

        moved : (f n : ℕ) → k ≡ suc f + n → k ≡ f + suc n
        moved f n q = omega arith

    by_note : (n : ServerNote) (many : ℕ)
        → number_accepted n ++ flat_map number_in ((xs ++ item ∷ []) ++ ys)
        ≡ numbers_from first many
        → ((first many : ℕ) → flat_map number_in ((xs ++ item ∷ []) ++ ys) ≡ numbers_from first many
        → k ≡ first + length (flat_map number_in xs))
        → k ≡ first + length (number_accepted n ++ flat_map number_in xs)
    by_note (note.Accepted j) many h more = one j many h more
    by_note note.NoneWaiting many h more = more first many h
    by_note note.ListenerFailed many h more = more first many h
    by_note note.ListenerShut many h more = more first many h
    by_note (note.Piece conn took records) many h more = more first many h
    by_note (note.Finished conn end) many h more = more first many h

-- a note of a listener is of no connection
pub of_none : (c : ℕ) (said : ServerNote) → is_listening said ≡ true → is_note_of c said ≡ false
of_none c (note.Accepted conn) h = refl
of_none c note.NoneWaiting h = refl
of_none c note.ListenerFailed h = refl
of_none c note.ListenerShut h = refl
of_none c (note.Piece conn took records) h = absurd (false≢true h)
of_none c (note.Finished conn end) h = absurd (false≢true h)
