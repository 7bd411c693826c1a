-- What a connection took of the story that a script has of it: a front of its bytes, and all of
-- them if it came to the end or to a failure.
use Rattle.std.proofs.Common.{◌≡◌, ◌∙◌, ◌+◌, ◌-◌, ◌≤◌, ℕ, min, arith, Bool, true, false, List, []}
use Rattle.std.proofs.Common.{◌∷◌, ◌++◌, length, take, drop, Option, Some, None, refl, sym, subst}
use Rattle.std.proofs.Common.{ap, append-nil, append_assoc, length-append, take-append-drop}
use Rattle.std.proofs.Math.Seq.{take-add, take-append_seam}
use Rattle.std.proofs.lemmas.Bool.{false≢true}
use Rattle.laws_script_complete.specs.ev_types.specs.declared.upcall.Upcall.{Upcall}
use Rattle.laws_script_complete.specs.ev_types.specs.declared.upcall.Upcall.TheVariants.{Input}
use Rattle.laws_script_complete.specs.ev_types.specs.declared.upcall.Upcall.TheVariants.{Output}
use Rattle.laws_script_complete.specs.ev_types.specs.declared.upcall.Upcall.TheVariants.{Except}
use Rattle.laws_script_complete.specs.ev_types.specs.declared.upcall.Upcall.TheVariants.{Timeout}
use Rattle.laws_script_complete.specs.ev_types.specs.declared.upcall.Upcall.TheVariants.{Notice}
use Rattle.laws_script_complete.specs.ev_base.specs.Story.{Part, Piece}
use Rattle.laws_script_complete.specs.ev_base.specs.Story.{Pausing, Ending}
use Rattle.laws_script_complete.specs.ev_base.specs.Story.{Failing}
use Rattle.laws_script_complete.specs.ev_base.specs.Story.{Telling}
use Rattle.laws_script_complete.specs.ev_base.specs.Story.{TellsNext}
use Rattle.laws_script_complete.specs.ev_base.specs.Story.{read_answer}
use Rattle.laws_script_complete.specs.ev_base.specs.Story.{read_bytes}
use Rattle.laws_script_complete.specs.ev_base.specs.declared.source.Got.{Got}
use Rattle.laws_script_complete.specs.reactor_journal.specs.Event.{Item}
use Rattle.laws_script_complete.specs.log_handler.specs.declared.note.ServerNote.{ServerNote}
use Rattle.laws_script_complete.specs.log_handler.specs.Connection.{Progress}
use Rattle.laws_script_complete.specs.log_handler.specs.Connection.{Course}
use Rattle.laws_script_complete.specs.log_handler.specs.Connection.{ServesUpcall}
use Rattle.laws_script_complete.specs.log_handler.specs.Connection.{ServesRead}
use Rattle.laws_script_complete.specs.log_handler.specs.Connection.{AnswersTimeout}
use Rattle.laws_script_complete.specs.log_handler.specs.Connection.{at_start}
use Rattle.laws_script_complete.specs.log_handler.specs.Connection.{is_idle}
use Rattle.laws_script_complete.specs.log_handler.specs.Connection.{piece_room}
use Rattle.laws_script_complete.specs.event_script.specs.Script.{ScriptStep}
use Rattle.laws_script_complete.specs.event_script.specs.Stories.{story}
use Rattle.laws_script_complete.specs.event_script.specs.Stories.{bytes_of}
use Rattle.laws_script_complete.specs.laws_script_turns.specs.Laws.{is_orderly}
use Rattle.laws_script_complete.specs.laws_script_turns.specs.Laws.{pauses_had}
use Rattle.laws_script_complete.specs.laws_script_turns.specs.Laws.{untold}
use Rattle.laws_script_complete.specs.laws_script_turns.proofs.Parts.{bytes_in}
use Rattle.laws_script_complete.specs.laws_script_turns.proofs.Parts.{paired}
use Rattle.laws_script_complete.specs.laws_script_turns.proofs.Parts.{bytes_in-append}
use Rattle.laws_script_complete.specs.laws_script_turns.proofs.Shapes.{Tail}
use Rattle.laws_script_complete.specs.laws_script_turns.proofs.Shapes.{OpenTail}
use Rattle.laws_script_complete.specs.laws_script_turns.proofs.Shapes.{ShutTail}
use Rattle.laws_script_complete.specs.laws_script_turns.proofs.Shapes.{FailTail}
use Rattle.laws_script_complete.specs.laws_script_turns.proofs.Shapes.{tail_parts}
use Rattle.laws_script_complete.specs.laws_script_turns.proofs.Shapes.{shape}
use Rattle.laws_script_complete.specs.laws_script_turns.proofs.Reading.{Reads}
use Rattle.laws_script_complete.specs.laws_script_turns.proofs.Reading.{HasRead}
use Rattle.laws_script_complete.specs.laws_script_turns.proofs.Reading.{IsSound}
use Rattle.laws_script_complete.specs.laws_script_turns.proofs.Reading.{StopsAt}
use Rattle.laws_script_complete.specs.laws_script_turns.proofs.Reading.{front}
use Rattle.laws_script_complete.specs.laws_script_turns.proofs.Reading.{course_reads}
use Rattle.laws_script_complete.specs.laws_script_turns.proofs.Reading.{start_sound}
use Rattle.laws_script_complete.specs.laws_script_turns.proofs.Reading.{begins}
use Rattle.laws_script_complete.specs.laws_script_turns.proofs.Stories.{story_bytes}

-- ---- a front of the story's bytes

record Rest (taken : List ℕ) (parts : List Part) : Type 0 where
  rest : List ℕ
  whole : taken ++ rest ≡ bytes_in parts

front_of : (given : List Part) (at : ℕ) (left : List Part)
    → Rest (bytes_in given ++ front at left) (given ++ left)
front_of given at [] = record {
  rest = [];
  whole = append-nil (bytes_in given ++ []) ∙ sym (bytes_in-append given []);
}
front_of given at (Piece bytes ∷ left) = record {
  rest = drop at bytes ++ bytes_in left;
  whole = append_assoc (bytes_in given) (take at bytes) (drop at bytes ++ bytes_in left)
      ∙ ap (λ (t : List ℕ). bytes_in given ++ t)
      (sym (append_assoc (take at bytes) (drop at bytes) (bytes_in left))
      ∙ ap (λ (t : List ℕ). t ++ bytes_in left) (take-append-drop at bytes))
      ∙ sym (bytes_in-append given (Piece bytes ∷ left));
}
front_of given at (Pausing ∷ left) =
    record {
      rest = bytes_in left;
      whole =
          ap (λ (t : List ℕ). t ++ bytes_in left) (append-nil (bytes_in given))
          ∙ sym (bytes_in-append given (Pausing ∷ left));
    }
front_of given at (Ending ∷ left) =
    record {
      rest = bytes_in left;
      whole =
          ap (λ (t : List ℕ). t ++ bytes_in left) (append-nil (bytes_in given))
          ∙ sym (bytes_in-append given (Ending ∷ left));
    }
front_of given at (Failing ∷ left) =
    record {
      rest = bytes_in left;
      whole =
          ap (λ (t : List ℕ). t ++ bytes_in left) (append-nil (bytes_in given))
          ∙ sym (bytes_in-append given (Failing ∷ left));
    }

-- what was read of the story
abbrev IsRead : List Part → Progress → Type 0
IsRead parts p = Rest p.taken parts

as_read : (parts : List Part) (quiet : ℕ) (p : Progress) → Reads parts quiet p → IsRead parts p
as_read parts quiet p r =
    let f = front_of r.given r.at r.left in
    record {
      rest = f.rest;
      whole = ap (λ (t : List ℕ). t ++ f.rest) r.taken ∙ f.whole
          ∙ ap bytes_in r.whole;
    }

same_taken : (parts : List Part) (p q : Progress) → q.taken ≡ p.taken → IsRead parts p
    → IsRead parts q
same_taken parts p q e r = record {
  rest = r.rest;
  whole = ap (λ (t : List ℕ). t ++ r.rest) e ∙ r.whole;
}

-- ---- one turn

-- a read of a piece gives more of it
piece_read : (parts : List Part) (given : List Part) (at k : ℕ) (bytes : List ℕ) (left : List Part)
    (taken : List ℕ) → given ++ Piece bytes ∷ left ≡ parts
    → taken ≡ (bytes_in given ++ take at bytes) ++ take k (drop at bytes) → Rest taken parts
piece_read parts given at k bytes left taken whole is =
    let f = front_of given (at + k) (Piece bytes ∷ left) in
    record {
      rest = f.rest;
      whole = ap (λ (t : List ℕ). t ++ f.rest)
          (is ∙ append_assoc (bytes_in given) (take at bytes) (take k (drop at bytes))
          ∙ ap (λ (t : List ℕ). bytes_in given ++ t) (sym (take-add at k bytes)))
          ∙ f.whole ∙ ap bytes_in whole;
    }

one_read : (parts : List Part) (conn : ℕ) (before after : Progress) (gave : Got) (bytes : List ℕ)
    (item : Item ServerNote) (given : List Part) (at : ℕ) (left : List Part)
    → gave ≡ read_answer piece_room at left → bytes ≡ read_bytes piece_room at left
    → given ++ left ≡ parts → before.taken ≡ bytes_in given ++ front at left
    → ServesRead conn before gave bytes after.telling item after → IsRead parts before
    → IsRead parts after
one_read parts conn before after gave bytes item given at [] g b whole taken serves r =
    let s = subst (λ (g : Got). ServesRead conn before g bytes after.telling item after) g serves in
    same_taken parts before after (ap (λ (p : Progress). p.taken) s.leaves) r
one_read parts conn before after gave bytes item given at (Piece piece ∷ left) g b whole taken
    serves r =
    let s = subst (λ (g : Got). ServesRead conn before g bytes after.telling item after) g serves in
    piece_read parts given at (min piece_room (length piece - at)) piece left after.taken whole
    (ap (λ (p : Progress). p.taken) s.1.leaves ∙ ap (λ (t : List ℕ). t ++ bytes) taken
    ∙ ap (λ (t : List ℕ). (bytes_in given ++ take at piece) ++ t) b)
one_read parts conn before after gave bytes item given at (Pausing ∷ left) g b whole taken serves
    r =
    let s = subst (λ (g : Got). ServesRead conn before g bytes after.telling item after) g serves in
    same_taken parts before after (ap (λ (p : Progress). p.taken) s.leaves) r
one_read parts conn before after gave bytes item given at (Ending ∷ left) g b whole taken serves r =
    let s = subst (λ (g : Got). ServesRead conn before g bytes after.telling item after) g serves in
    same_taken parts before after (ap (λ (p : Progress). p.taken) s.leaves) r
one_read parts conn before after gave bytes item given at (Failing ∷ left) g b whole taken serves
    r =
    let s = subst (λ (g : Got). ServesRead conn before g bytes after.telling item after) g serves in
    same_taken parts before after (ap (λ (p : Progress). p.taken) s.leaves) r

read_told : (parts : List Part) (conn quiet : ℕ) (before after : Progress) (gave : Got)
    (bytes : List ℕ) (item : Item ServerNote) (now : Option Telling) → now ≡ after.telling
    → (r : Reads parts quiet before)
    → TellsNext (Some (record { given = r.given; at = r.at; left = r.left })) piece_room gave bytes
    now → ServesRead conn before gave bytes after.telling item after → IsRead parts after
read_told parts conn quiet before after gave bytes item None e r tells serves = absurd tells
read_told parts conn quiet before after gave bytes item (Some new) e r tells serves =
    one_read parts conn before after gave bytes item r.given r.at r.left tells.0 tells.1 r.whole
    r.taken serves (as_read parts quiet before r)

timeout_read : (b : Bool) (parts : List Part) (conn : ℕ) (before after : Progress)
    (item : Item ServerNote) → AnswersTimeout b conn before item after → IsRead parts before
    → IsRead parts after
timeout_read true parts conn before after item h r =
    same_taken parts before after (ap (λ (p : Progress). p.taken) h.leaves) r
timeout_read false parts conn before after item h r =
    same_taken parts before after (ap (λ (p : Progress). p.taken) h.leaves) r

one_turn : (up : Upcall) (parts : List Part) (quiet conn : ℕ) (idle : Option ℕ)
    (before after : Progress) (item : Item ServerNote) → Reads parts quiet before
    → ServesUpcall up conn idle before item after → IsRead parts after
one_turn Input parts quiet conn idle before after item r h =
    read_told parts conn quiet before after h.gave h.bytes item after.telling refl r
    (subst (λ (t : Option Telling). TellsNext t piece_room h.gave h.bytes after.telling) r.is
    h.tells) h.serves
one_turn (Timeout timer) parts quiet conn idle before after item r h =
    timeout_read (is_idle idle before.last item.moment) parts conn before after item h
    (as_read parts quiet before r)
one_turn Output parts quiet conn idle before after item r h =
    same_taken parts before after (ap (λ (p : Progress). p.taken) h.leaves)
    (as_read parts quiet before r)
one_turn Except parts quiet conn idle before after item r h =
    same_taken parts before after (ap (λ (p : Progress). p.taken) h.leaves)
    (as_read parts quiet before r)
one_turn (Notice kind) parts quiet conn idle before after item r h =
    same_taken parts before after (ap (λ (p : Progress). p.taken) h.leaves)
    (as_read parts quiet before r)

-- ---- turns

course_front : (parts : List Part) (quiet conn : ℕ) (idle : Option ℕ) (start p : Progress)
    (had : List (Item ServerNote)) → start.kept ≡ None → Reads parts quiet start → IsSound start
    → Course conn idle start had p → IsRead parts p
course_front parts quiet conn idle start p [] none r sound course =
    subst (IsRead parts) (sym course) (as_read parts quiet start r)
course_front parts quiet conn idle start p (item ∷ []) none r sound course =
    subst (IsRead parts) (sym course.2)
    (one_turn item.upcall parts quiet conn idle start course.0 item r course.1.serves)
course_front parts quiet conn idle start p (item ∷ next ∷ had) none r sound course =
    let goes : course.0.kept ≡ None = course.2.1.goes_on in
    let one : Reads parts (quiet + pauses_had (item ∷ [])) course.0 × IsSound course.0 =
    subst (HasRead parts (quiet + pauses_had (item ∷ [])) course.0) goes
    (course_reads parts quiet conn idle start course.0 (item ∷ []) none r sound
    (course.0, course.1, refl)) in
    course_front parts (quiet + pauses_had (item ∷ [])) conn idle course.0 p (next ∷ had) goes one.0
    one.1 course.2

-- ---- the bytes of a script

-- it took a front of the bytes that the script brings it
pub record IsFront (c : ℕ) (steps : List ScriptStep) (bytes : List ℕ) : Type 0 where
  pub within : length bytes ≤ length (bytes_of c steps)
  pub is : take (length bytes) (bytes_of c steps) ≡ bytes

pub course_takes : (c : ℕ) (idle : Option ℕ) (steps : List ScriptStep) (moment : ℕ)
    (had : List (Item ServerNote)) (p : Progress)
    → Course c idle (at_start moment (Some (untold (story c steps)))) had p
    → IsFront c steps p.taken
course_takes c idle steps moment had p course =
    let r = course_front (story c steps) 0 c idle (at_start moment (Some (untold (story c steps))))
    p had refl (begins (story c steps) moment) start_sound course in
    let whole : p.taken ++ r.rest ≡ bytes_of c steps = r.whole ∙ story_bytes c steps in
    let long : length (p.taken ++ r.rest) ≡ length (bytes_of c steps) = ap length whole in
    let parts : length (p.taken ++ r.rest) ≡ length p.taken + length r.rest =
    length-append p.taken r.rest in
    record {
      within = omega (arith, long, parts);
      is = ap (take (length p.taken)) (sym whole) ∙ take-append_seam p.taken r.rest;
    }

-- ---- if it came to the end, or to a failure

abbrev pub stops_reading : Part → Bool
stops_reading Ending = true
stops_reading Failing = true
stops_reading _ = false

tail_short : (tail : Tail) → length (tail_parts tail) ≤ 1
tail_short OpenTail = omega arith
tail_short ShutTail = omega arith
tail_short FailTail = omega arith

bytes_before : (pieces : List (List ℕ)) (tail : Tail) (given : List Part) (part : Part)
    (rest : List Part) → stops_reading part ≡ true
    → given ++ part ∷ rest ≡ paired pieces ++ tail_parts tail
    → bytes_in given ≡ bytes_in (paired pieces)
bytes_before [] tail [] part rest s e = refl
bytes_before [] tail (g ∷ given) part rest s e =
    let long : length ((g ∷ given) ++ part ∷ rest) ≡ length (tail_parts tail) = ap length e in
    let parts : length ((g ∷ given) ++ part ∷ rest) ≡ length (g ∷ given) + length (part ∷ rest) =
    length-append (g ∷ given) (part ∷ rest) in
    let short = tail_short tail in
    absurd (omega (arith, long, parts, short))
bytes_before (bytes ∷ pieces) tail [] part rest s e =
    absurd (false≢true (sym (ap stops_reading (head e)) ∙ s))
  where
    head : part ∷ rest ≡ Piece bytes ∷ Pausing ∷ (paired pieces ++ tail_parts tail)
        → part ≡ Piece bytes
    head h = cc
bytes_before (bytes ∷ pieces) tail (g ∷ []) part rest s e =
    absurd (false≢true (sym (ap stops_reading (head e)) ∙ s))
  where
    head : g ∷ part ∷ rest ≡ Piece bytes ∷ Pausing ∷ (paired pieces ++ tail_parts tail)
        → part ≡ Pausing
    head h = cc
bytes_before (bytes ∷ pieces) tail (g ∷ k ∷ given) part rest s e =
    ap (λ (p : Part). bytes_in (p ∷ k ∷ given)) (first e)
    ∙ ap (λ (p : Part). bytes ++ bytes_in (p ∷ given)) (second e)
    ∙ ap (λ (t : List ℕ). bytes ++ t) (bytes_before pieces tail given part rest s (others e))
  where
    first : g ∷ k ∷ (given ++ part ∷ rest)
        ≡ Piece bytes ∷ Pausing ∷ (paired pieces ++ tail_parts tail) → g ≡ Piece bytes
    first h = cc

    second : g ∷ k ∷ (given ++ part ∷ rest)
        ≡ Piece bytes ∷ Pausing ∷ (paired pieces ++ tail_parts tail) → k ≡ Pausing
    second h = cc

    others : g ∷ k ∷ (given ++ part ∷ rest)
        ≡ Piece bytes ∷ Pausing ∷ (paired pieces ++ tail_parts tail)
        → given ++ part ∷ rest ≡ paired pieces ++ tail_parts tail
    others h = cc

pub took_all : (part : Part) (c : ℕ) (steps : List ScriptStep) (p : Progress)
    → is_orderly c steps ≡ true → stops_reading part ≡ true → StopsAt part (story c steps) p
    → p.taken ≡ bytes_of c steps
took_all part c steps p orderly s stops =
    let sh = shape c steps orderly in
    stops.taken ∙ bytes_before sh.pieces sh.tail stops.given part stops.rest s (stops.whole ∙ sh.is)
    ∙ sym sh.brought
