-- The turns of a connection over the story of its end.
use Rattle.std.proofs.Common.{◌≡◌, ◌≢◌, ◌∙◌, ◌+◌, ◌-◌, ◌≤◌, ◌<◌, ◌⊎◌, ◌&&◌, inl, inr, ℕ, arith, min}
use Rattle.std.proofs.Common.{Bool, true, false, cond, nat_lt, List, [], ◌∷◌, ◌++◌, length, take}
use Rattle.std.proofs.Common.{drop, Option, Some, None, refl, sym, subst, ap, append-nil}
use Rattle.std.proofs.Common.{append_assoc, length-drop, take-append-drop}
use Rattle.std.proofs.lemmas.List.{take_all}
use Rattle.std.proofs.Math.Seq.{take-add}
use Rattle.std.proofs.lemmas.Bool.{ltb-true, ltb-false}
use Rattle.event_script.specs.ev_types.specs.declared.upcall.Answer.{Answer}
use Rattle.event_script.specs.ev_types.specs.declared.upcall.Answer.TheVariants.{Keep}
use Rattle.event_script.specs.ev_types.specs.declared.upcall.Upcall.{Upcall}
use Rattle.event_script.specs.ev_types.specs.declared.upcall.Upcall.TheVariants.{Input, Output}
use Rattle.event_script.specs.ev_types.specs.declared.upcall.Upcall.TheVariants.{Except, Timeout}
use Rattle.event_script.specs.ev_types.specs.declared.upcall.Upcall.TheVariants.{Notice}
use Rattle.event_script.specs.ev_base.specs.Story.{Part, Piece, Pausing, Ending, Failing, Telling}
use Rattle.event_script.specs.ev_base.specs.Story.{TellsNext, read_answer, read_bytes, told_after}
use Rattle.event_script.specs.ev_base.specs.declared.source.Got.{Got}
use Rattle.acceptor.specs.cdr_record.specs.Decoding.{Stop, Clean, Partial, Malformed, decode}
use Rattle.acceptor.specs.cdr_record.specs.Decoding.{left_of}
use Rattle.acceptor.specs.cdr_record.specs.Grammar.{first_of}
use Rattle.acceptor.specs.log_lines.specs.declared.end_kind.EndKind.{EndKind}
use Rattle.acceptor.specs.log_lines.specs.declared.end_kind.EndKind.TheVariants as end
use Rattle.acceptor.specs.reactor_journal.specs.Event.{Item}
use Rattle.acceptor.specs.log_handler.specs.declared.note.ServerNote.{ServerNote}
use Rattle.acceptor.specs.log_handler.specs.Connection.{Progress, Course, at_start, ServesUpcall}
use Rattle.acceptor.specs.log_handler.specs.Connection.{ServesRead, DecodesPiece, LosesPiece}
use Rattle.acceptor.specs.log_handler.specs.Connection.{AnswersTimeout, is_idle, kept_at, end_of}
use Rattle.acceptor.specs.log_handler.specs.Connection.{answer_to, piece_room}
use Rattle.acceptor.specs.log_handler.specs.Laws.{is_input}
use Rattle.laws_script_turns.specs.Laws.{pauses_had, is_keep, untold}
use Rattle.laws_script_turns.proofs.Parts.{bytes_in, pauses, is_plain, bytes_in-append}
use Rattle.laws_script_turns.proofs.Parts.{pauses-append, plain-append}

-- the bytes of the next part that were given
abbrev pub front : ℕ → List Part → List ℕ
front at (Piece bytes ∷ left) = take at bytes
front at _ = []

-- The turns so far read so much of the story: as many found nothing as pauses of it were told, or
-- more once nothing is left.
pub record Reads (parts : List Part) (quiet : ℕ) (p : Progress) : Type 0 where
  pub given : List Part
  pub at : ℕ
  pub left : List Part
  pub is : p.telling ≡ Some (record { given = given; at = at; left = left })
  pub whole : given ++ left ≡ parts
  pub taken : p.taken ≡ bytes_in given ++ front at left
  pub plain : is_plain given ≡ true
  pub quiets : (quiet ≡ pauses given) ⊎ ((left ≡ []) × (pauses given ≤ quiet))

-- reading stopped at a part, after all the bytes before it
pub record StopsAt (part : Part) (parts : List Part) (p : Progress) : Type 0 where
  pub given : List Part
  pub rest : List Part
  pub whole : given ++ part ∷ rest ≡ parts
  pub taken : p.taken ≡ bytes_in given

-- what was taken is a front of all bytes
pub record TakesFront (parts : List Part) (p : Progress) : Type 0 where
  pub rest : List ℕ
  pub whole : p.taken ++ rest ≡ bytes_in parts

-- reading what was taken stops at no bad record
abbrev pub IsSound : Progress → Type 0
IsSound p = (at : ℕ) → (decode p.taken).stop ≢ Malformed at

abbrev pub HasRead : List Part → ℕ → Progress → Option EndKind → Type 0
HasRead parts quiet p None = Reads parts quiet p × IsSound p
HasRead parts quiet p (Some end.End) = StopsAt Ending parts p
HasRead parts quiet p (Some (end.Partial n)) = StopsAt Ending parts p
HasRead parts quiet p (Some (end.Malformed at)) = TakesFront parts p
HasRead parts quiet p (Some end.Failed) = StopsAt Failing parts p × IsSound p
HasRead parts quiet p (Some end.NoMemory) = Unit {0}
HasRead parts quiet p (Some end.Idle) = Unit {0}
HasRead parts quiet p (Some end.Stopped) = Unit {0}
HasRead parts quiet p (Some end.Refused) = Unit {0}

-- ---- bytes

part_taken : (at : ℕ) (bytes : List ℕ)
    → take at bytes ++ take (length bytes - at) (drop at bytes) ≡ bytes
part_taken at bytes =
    let all : take (length bytes - at) (drop at bytes) ≡ drop at bytes =
    take_all (length bytes - at) (drop at bytes) (omega (arith, length-drop at bytes)) in
    ap (λ (t : List ℕ). take at bytes ++ t) all ∙ take-append-drop at bytes

take_more : (at room : ℕ) (bytes : List ℕ)
    → take at bytes ++ take room (drop at bytes) ≡ take (at + room) bytes
take_more at room bytes = sym (take-add at room bytes)

no_front : (left : List Part) → front 0 left ≡ []
no_front [] = refl
no_front (Piece bytes ∷ left) = refl
no_front (Pausing ∷ left) = refl
no_front (Ending ∷ left) = refl
no_front (Failing ∷ left) = refl

record FrontRest (at : ℕ) (left : List Part) : Type 0 where
  rest : List ℕ
  whole : front at left ++ rest ≡ bytes_in left

front_rest : (at : ℕ) (left : List Part) → FrontRest at left
front_rest at [] = record { rest = []; whole = refl }
front_rest at (Piece bytes ∷ left) = record {
  rest = drop at bytes ++ bytes_in left;
  whole = sym (append_assoc (take at bytes) (drop at bytes) (bytes_in left))
      ∙ ap (λ (t : List ℕ). t ++ bytes_in left) (take-append-drop at bytes);
}
front_rest at (Pausing ∷ left) = record { rest = bytes_in left; whole = refl }
front_rest at (Ending ∷ left) = record { rest = bytes_in left; whole = refl }
front_rest at (Failing ∷ left) = record { rest = bytes_in left; whole = refl }

takes_front : (parts : List Part) (quiet : ℕ) (p : Progress) → Reads parts quiet p
    → TakesFront parts p
takes_front parts quiet p r =
    let more = front_rest r.at r.left in
    record {
      rest = more.rest;
      whole = ap (λ (t : List ℕ). t ++ more.rest) r.taken
          ∙ append_assoc (bytes_in r.given) (front r.at r.left) more.rest
          ∙ ap (λ (t : List ℕ). bytes_in r.given ++ t) more.whole
          ∙ sym (bytes_in-append r.given r.left) ∙ ap bytes_in r.whole;
    }

-- ---- one read

record Told (old : Telling) (room : ℕ) (gave : Got) (bytes : List ℕ) (new : Option Telling) : Type 0
  where
    gives : gave ≡ read_answer room old.at old.left
    bytes_are : bytes ≡ read_bytes room old.at old.left
    leaves : new ≡ Some (told_after room old.given old.at old.left)

told_some : (old : Telling) (room : ℕ) (gave : Got) (bytes : List ℕ) (new : Option Telling)
    → TellsNext (Some old) room gave bytes new → Told old room gave bytes new
told_some old room gave bytes None h = absurd h
told_some old room gave bytes (Some new) h =
    record { gives = h.0; bytes_are = h.1; leaves = ap Some h.2 }

-- how a piece is read
record ReadsPiece (given : List Part) (at : ℕ) (bytes : List ℕ) (left : List Part) (piece : List ℕ)
    (new : Telling) : Type 0 where
  whole : new.given ++ new.left ≡ given ++ Piece bytes ∷ left
  taken : bytes_in given ++ (take at bytes ++ piece) ≡ bytes_in new.given ++ front new.at new.left
  plain : is_plain given ≡ true → is_plain new.given ≡ true
  pauses_are : pauses new.given ≡ pauses given

reads_piece : (b : Bool) (room : ℕ) (given : List Part) (at : ℕ) (bytes : List ℕ) (left : List Part)
    → nat_lt (at + room) (length bytes) ≡ b
    → ReadsPiece given at bytes left (take (min room (length bytes - at)) (drop at bytes))
    (cond b (record { given = given; at = at + room; left = Piece bytes ∷ left })
    (record { given = given ++ Piece bytes ∷ []; at = 0; left = left }))
reads_piece true room given at bytes left h =
    let lt : at + room < length bytes = ltb-true _ _ h in
    let some : min room (length bytes - at) ≡ room = omega (arith, lt) in
    record {
      whole = refl;
      taken = ap (λ (t : List ℕ). bytes_in given ++ t)
          (ap (λ (n : ℕ). take at bytes ++ take n (drop at bytes)) some ∙ take_more at room bytes);
      plain = λ k. k;
      pauses_are = refl;
    }
reads_piece false room given at bytes left h =
    let le : length bytes ≤ at + room = ltb-false _ _ h in
    let all : min room (length bytes - at) ≡ length bytes - at = omega (arith, le) in
    record {
      whole = append_assoc given (Piece bytes ∷ []) left;
      taken = ap (λ (t : List ℕ). bytes_in given ++ t)
          (ap (λ (n : ℕ). take at bytes ++ take n (drop at bytes)) all ∙ part_taken at bytes)
          ∙ sym (append-nil (bytes_in given ++ bytes))
          ∙ ap (λ (t : List ℕ). (bytes_in given ++ bytes) ++ t) (sym (no_front left))
          ∙ ap (λ (t : List ℕ). t ++ front 0 left)
          (ap (λ (t : List ℕ). bytes_in given ++ t) (sym (append-nil bytes))
          ∙ sym (bytes_in-append given (Piece bytes ∷ [])));
      plain = λ k. plain-append given (Piece bytes ∷ []) k refl;
      pauses_are = pauses-append given (Piece bytes ∷ []) ∙ plus_zero (pauses given);
    }
  where
    plus_zero : (n : ℕ) → n + 0 ≡ n
    plus_zero n = omega arith

-- ---- one turn

-- how many more turns found nothing
abbrev pub quiet_more : ℕ → Upcall → Answer → ℕ
quiet_more quiet up answer = quiet + cond (is_input up && is_keep answer) 1 0

reads_on : (parts : List Part) (quiet : ℕ) (p : Progress) → p.kept ≡ None → IsSound p
    → Reads parts quiet p → HasRead parts quiet p p.kept
reads_on parts quiet p none sound r = subst (HasRead parts quiet p) (sym none) (r, sound)

sound_as : (p q : Progress) → q.taken ≡ p.taken → IsSound p → IsSound q
sound_as p q same sound = λ at e. sound at (ap (λ (t : List ℕ). (decode t).stop) (sym same) ∙ e)

same_quiet : (n : ℕ) → n ≡ n + 0
same_quiet n = omega arith

-- a turn that was answered by nothing but Keep, with a read or without
keep_more : (quiet : ℕ) (answer : Answer) → answer ≡ Keep
    → quiet_more quiet Input answer ≡ quiet + 1
keep_more quiet answer h = ap (λ (a : Answer). quiet + cond (is_keep a) 1 0) h

keep_same : (quiet : ℕ) (answer : Answer) → is_keep answer ≡ false
    → quiet_more quiet Input answer ≡ quiet
keep_same quiet answer h = ap (λ (b : Bool). quiet + cond b 1 0) h ∙ sym (same_quiet quiet)

answer_not_keep : (s : Stop) → is_keep (answer_to s) ≡ false
answer_not_keep Clean = refl
answer_not_keep (Partial n) = refl
answer_not_keep (Malformed at) = refl

kept_reads : (parts : List Part) (quiet : ℕ) (p : Progress) (s : Stop) → (decode p.taken).stop ≡ s
    → p.kept ≡ kept_at s → Reads parts quiet p → HasRead parts quiet p p.kept
kept_reads parts quiet p Clean e h r = reads_on parts quiet p h (λ at f. absurd (cc (e, f))) r
kept_reads parts quiet p (Partial n) e h r = reads_on parts quiet p h (λ at f. absurd (cc (e, f))) r
kept_reads parts quiet p (Malformed at) e h r =
    subst (HasRead parts quiet p) (sym h) (takes_front parts quiet p r)

piece_told : (parts : List Part) (quiet conn : ℕ) (before after : Progress) (bytes : List ℕ)
    (item : Item ServerNote)
    → DecodesPiece conn before bytes item after.kept ⊎ LosesPiece conn bytes item after.kept
    → after.taken ≡ before.taken ++ bytes → Reads parts quiet after
    → HasRead parts (quiet_more quiet Input item.answer) after after.kept
piece_told parts quiet conn before after bytes item (inl d) taken r =
    let s = (decode (before.taken ++ bytes)).stop in
    subst (λ (n : ℕ). HasRead parts n after after.kept)
    (sym (keep_same quiet item.answer (ap is_keep d.answers ∙ answer_not_keep s)))
    (kept_reads parts quiet after s (ap (λ (t : List ℕ). (decode t).stop) taken) d.ends r)
piece_told parts quiet conn before after bytes item (inr l) taken r =
    subst (HasRead parts (quiet_more quiet Input item.answer) after) (sym l.ends) tt

over_read : (parts : List Part) (quiet : ℕ) (p : Progress) (s : Stop) → p.kept ≡ Some (end_of s)
    → StopsAt Ending parts p → TakesFront parts p → HasRead parts quiet p p.kept
over_read parts quiet p Clean h stops front_ = subst (HasRead parts quiet p) (sym h) stops
over_read parts quiet p (Partial n) h stops front_ = subst (HasRead parts quiet p) (sym h) stops
over_read parts quiet p (Malformed at) h stops front_ = subst (HasRead parts quiet p) (sym h) front_

stops_front : (part : Part) (parts : List Part) (p : Progress) → StopsAt part parts p
    → TakesFront parts p
stops_front part parts p s = record {
  rest = bytes_in (part ∷ s.rest);
  whole = ap (λ (t : List ℕ). t ++ bytes_in (part ∷ s.rest)) s.taken
      ∙ sym (bytes_in-append s.given (part ∷ s.rest)) ∙ ap bytes_in s.whole;
}

more_quiet : (given left : List Part) (quiet : ℕ) → (quiet ≡ pauses given)
    ⊎ ((left ≡ []) × (pauses given ≤ quiet)) → left ≡ [] → (quiet + 1 ≡ pauses given)
    ⊎ ((◌≡◌ {A = List Part} [] []) × (pauses given ≤ quiet + 1))
more_quiet given left quiet (inl e) none = inr (refl, omega (arith, e))
more_quiet given left quiet (inr e) none = inr (refl, let le = e.1 in omega (arith, le))

one_pause : (given left : List Part) (part : Part) (quiet : ℕ) → (quiet ≡ pauses given)
    ⊎ ((Pausing ∷ left ≡ []) × (pauses given ≤ quiet))
    → (quiet + 1 ≡ pauses (given ++ Pausing ∷ []))
    ⊎ ((left ≡ []) × (pauses (given ++ Pausing ∷ []) ≤ quiet + 1))
one_pause given left part quiet (inl e) = inl (omega (arith, e, pauses-append given (Pausing ∷ [])))
one_pause given left part quiet (inr e) = absurd (none e.0)
  where
    none : Pausing ∷ left ≡ [] → ⊥
    none h = cc

piece_quiet : (given now : List Part) (left : List Part) (bytes : List ℕ) (rest : List Part)
    (quiet : ℕ) → (quiet ≡ pauses given) ⊎ ((Piece bytes ∷ rest ≡ []) × (pauses given ≤ quiet))
    → pauses now ≡ pauses given → (quiet ≡ pauses now) ⊎ ((left ≡ []) × (pauses now ≤ quiet))
piece_quiet given now left bytes rest quiet (inl e) same = inl (e ∙ sym same)
piece_quiet given now left bytes rest quiet (inr e) same = absurd (none e.0)
  where
    none : Piece bytes ∷ rest ≡ [] → ⊥
    none h = cc

-- one read, by what is left of the story
input_read : (parts : List Part) (quiet conn room : ℕ) (before after : Progress) (gave : Got)
    (bytes : List ℕ) (item : Item ServerNote) (given : List Part) (at : ℕ) (left : List Part)
    → Told (record { given = given; at = at; left = left }) room gave bytes after.telling
    → ServesRead conn before gave bytes after.telling item after
    → given ++ left ≡ parts → before.taken ≡ bytes_in given ++ front at left → is_plain given ≡ true
    → (quiet ≡ pauses given) ⊎ ((left ≡ []) × (pauses given ≤ quiet)) → IsSound before
    → HasRead parts (quiet_more quiet Input item.answer) after after.kept
input_read parts quiet conn room before after gave bytes item given at [] told serves whole taken
    plain quiets sound =
    let s = subst (λ (g : Got). ServesRead conn before g bytes after.telling item after) told.gives
    serves in
    subst (λ (n : ℕ). HasRead parts n after after.kept)
    (sym (keep_more quiet item.answer s.answers))
    (reads_on parts (quiet + 1) after (ap (λ (r : Progress). r.kept) s.leaves)
    (sound_as before after (ap (λ (r : Progress). r.taken) s.leaves) sound) (record {
      given = given;
      at = 0;
      left = [];
      is = told.leaves;
      whole = whole;
      taken = ap (λ (r : Progress). r.taken) s.leaves ∙ taken;
      plain = plain;
      quiets = more_quiet given [] quiet quiets refl;
    }))
input_read parts quiet conn room before after gave bytes item given at (Piece whole_piece ∷ left)
    told serves whole taken plain quiets sound =
    let s = subst (λ (g : Got). ServesRead conn before g bytes after.telling item after) told.gives
    serves in
    let new = told_after room given at (Piece whole_piece ∷ left) in
    let one : ReadsPiece given at whole_piece left
    (take (min room (length whole_piece - at)) (drop at whole_piece)) new =
    reads_piece (nat_lt (at + room) (length whole_piece)) room given at whole_piece left refl in
    let r : Reads parts quiet after = record {
      given = new.given;
      at = new.at;
      left = new.left;
      is = told.leaves;
      whole = one.whole ∙ whole;
      taken = ap (λ (r : Progress). r.taken) s.1.leaves ∙ ap (λ (t : List ℕ). t ++ bytes) taken
          ∙ append_assoc (bytes_in given) (take at whole_piece) bytes
          ∙ ap (λ (t : List ℕ). bytes_in given ++ (take at whole_piece ++ t)) told.bytes_are
          ∙ one.taken;
      plain = one.plain plain;
      quiets = piece_quiet given new.given new.left whole_piece left quiet quiets one.pauses_are;
    } in
    piece_told parts quiet conn before after bytes item s.1.told
    (ap (λ (r : Progress). r.taken) s.1.leaves) r
input_read parts quiet conn room before after gave bytes item given at (Pausing ∷ left) told serves
    whole taken plain quiets sound =
    let s = subst (λ (g : Got). ServesRead conn before g bytes after.telling item after) told.gives
    serves in
    subst (λ (n : ℕ). HasRead parts n after after.kept)
    (sym (keep_more quiet item.answer s.answers))
    (reads_on parts (quiet + 1) after (ap (λ (r : Progress). r.kept) s.leaves)
    (sound_as before after (ap (λ (r : Progress). r.taken) s.leaves) sound) (record {
      given = given ++ Pausing ∷ [];
      at = 0;
      left = left;
      is = told.leaves;
      whole = append_assoc given (Pausing ∷ []) left ∙ whole;
      taken = ap (λ (r : Progress). r.taken) s.leaves ∙ taken ∙ append-nil (bytes_in given)
          ∙ sym (append-nil (bytes_in given))
          ∙ sym (bytes_in-append given (Pausing ∷ []))
          ∙ sym (append-nil (bytes_in (given ++ Pausing ∷ [])))
          ∙ ap (λ (t : List ℕ). bytes_in (given ++ Pausing ∷ []) ++ t) (sym (no_front left));
      plain = plain-append given (Pausing ∷ []) plain refl;
      quiets = one_pause given left Pausing quiet quiets;
    }))
input_read parts quiet conn room before after gave bytes item given at (Ending ∷ left) told serves
    whole taken plain quiets sound =
    let s = subst (λ (g : Got). ServesRead conn before g bytes after.telling item after) told.gives
    serves in
    let stops : StopsAt Ending parts after =
    record {
      given = given;
      rest = left;
      whole = whole;
      taken = ap (λ (r : Progress). r.taken) s.leaves ∙ taken ∙ append-nil (bytes_in given);
    } in
    over_read parts (quiet_more quiet Input item.answer) after (decode before.taken).stop
    (ap (λ (r : Progress). r.kept) s.leaves) stops (stops_front Ending parts after stops)
input_read parts quiet conn room before after gave bytes item given at (Failing ∷ left) told serves
    whole taken plain quiets sound =
    let s = subst (λ (g : Got). ServesRead conn before g bytes after.telling item after) told.gives
    serves in
    subst (HasRead parts (quiet_more quiet Input item.answer) after)
    (sym (ap (λ (r : Progress). r.kept) s.leaves)) (
      record {
        given = given;
        rest = left;
        whole = whole;
        taken = ap (λ (r : Progress). r.taken) s.leaves ∙ taken ∙ append-nil (bytes_in given);
      },
      sound_as before after (ap (λ (r : Progress). r.taken) s.leaves) sound,
    )

-- a turn without a read
no_read : (parts : List Part) (quiet : ℕ) (before after : Progress)
    → after ≡ record before { kept = None } → Reads parts quiet before → IsSound before
    → HasRead parts quiet after after.kept
no_read parts quiet before after leaves r sound =
    reads_on parts quiet after (ap (λ (q : Progress). q.kept) leaves)
    (sound_as before after (ap (λ (q : Progress). q.taken) leaves) sound) (record {
      given = r.given;
      at = r.at;
      left = r.left;
      is = ap (λ (q : Progress). q.telling) leaves ∙ r.is;
      whole = r.whole;
      taken = ap (λ (q : Progress). q.taken) leaves ∙ r.taken;
      plain = r.plain;
      quiets = r.quiets;
    })

-- at a timeout it goes on, or is closed since it was quiet for too long
timeout_read : (is_quiet : Bool) (parts : List Part) (quiet conn : ℕ) (before after : Progress)
    (item : Item ServerNote) → Reads parts quiet before → IsSound before
    → AnswersTimeout is_quiet conn before item after
    → HasRead parts quiet after after.kept
timeout_read true parts quiet conn before after item r sound h =
    subst (HasRead parts quiet after) (sym (ap (λ (q : Progress). q.kept) h.leaves)) tt
timeout_read false parts quiet conn before after item r sound h =
    no_read parts quiet before after h.leaves r sound

served : (up : Upcall) (parts : List Part) (quiet conn : ℕ) (idle : Option ℕ)
    (before after : Progress) (item : Item ServerNote) → Reads parts quiet before → IsSound before
    → ServesUpcall up conn idle before item after
    → HasRead parts (quiet_more quiet up item.answer) after after.kept
served Input parts quiet conn idle before after item r sound h =
    let tells = subst (λ (t : Option Telling). TellsNext t piece_room h.gave h.bytes after.telling)
    r.is h.tells in
    input_read parts quiet conn piece_room before after h.gave h.bytes item r.given r.at r.left
    (told_some _ piece_room h.gave h.bytes after.telling tells) h.serves r.whole r.taken r.plain
    r.quiets sound
served (Timeout timer) parts quiet conn idle before after item r sound h =
    subst (λ (n : ℕ). HasRead parts n after after.kept) (same_quiet quiet)
    (timeout_read (is_idle idle before.last item.moment) parts quiet conn before after item r
    sound h)
served Output parts quiet conn idle before after item r sound h =
    subst (λ (n : ℕ). HasRead parts n after after.kept) (same_quiet quiet)
    (no_read parts quiet before after h.leaves r sound)
served Except parts quiet conn idle before after item r sound h =
    subst (λ (n : ℕ). HasRead parts n after after.kept) (same_quiet quiet)
    (no_read parts quiet before after h.leaves r sound)
served (Notice kind) parts quiet conn idle before after item r sound h =
    subst (λ (n : ℕ). HasRead parts n after after.kept) (same_quiet quiet)
    (no_read parts quiet before after h.leaves r sound)

-- ---- turns

pub course_reads : (parts : List Part) (quiet conn : ℕ) (idle : Option ℕ) (start p : Progress)
    (had : List (Item ServerNote)) → start.kept ≡ None → Reads parts quiet start → IsSound start
    → Course conn idle start had p
    → HasRead parts (quiet + pauses_had had) p p.kept
course_reads parts quiet conn idle start p [] none r sound course =
    subst (λ (q : Progress). HasRead parts (quiet + 0) q q.kept) (sym course)
    (reads_on parts (quiet + 0) start none sound
    (subst (λ (n : ℕ). Reads parts n start) (same_quiet quiet) r))
course_reads parts quiet conn idle start p (item ∷ []) none r sound course =
    let one = served item.upcall parts quiet conn idle start course.0 item r sound course.1.serves
    in
    subst (λ (n : ℕ). HasRead parts n p p.kept) (one_more quiet _)
    (subst (λ (q : Progress). HasRead parts (quiet_more quiet item.upcall item.answer) q q.kept)
    (sym course.2) one)
  where
    one_more : (n k : ℕ) → n + k ≡ n + (k + 0)
    one_more n k = omega arith
course_reads parts quiet conn idle start p (item ∷ next ∷ had) none r sound course =
    let goes : course.0.kept ≡ None = course.2.1.goes_on in
    let one : Reads parts (quiet_more quiet item.upcall item.answer) course.0 × IsSound course.0 =
    subst (HasRead parts (quiet_more quiet item.upcall item.answer) course.0) goes
    (served item.upcall parts quiet conn idle start course.0 item r sound course.1.serves) in
    subst (λ (n : ℕ). HasRead parts n p p.kept) (plus quiet _ (pauses_had (next ∷ had)))
    (course_reads parts (quiet_more quiet item.upcall item.answer) conn idle course.0 p (next ∷ had)
    goes one.0 one.1 course.2)
  where
    plus : (a b c : ℕ) → (a + b) + c ≡ a + (b + c)
    plus a b c = omega arith

-- ---- from the start

pub start_sound : (at : ℕ) → (decode []).stop ≢ Malformed at
unfolding left_of first_of
start_sound at e = absurd (clean e)
  where
    clean : Clean ≡ Malformed at → ⊥
    clean h = cc

-- no part was told yet
pub begins : (parts : List Part) (moment : ℕ)
    → Reads parts 0 (at_start moment (Some (untold parts)))
begins parts moment = record {
  given = [];
  at = 0;
  left = parts;
  is = refl;
  whole = refl;
  taken = sym (no_front parts);
  plain = refl;
  quiets = inl refl;
}

pub has_read : (parts : List Part) (conn : ℕ) (idle : Option ℕ) (moment : ℕ)
    (had : List (Item ServerNote)) (p : Progress)
    → Course conn idle (at_start moment (Some (untold parts))) had p
    → HasRead parts (0 + pauses_had had) p p.kept
has_read parts conn idle moment had p course =
    course_reads parts 0 conn idle (at_start moment (Some (untold parts))) p had refl
    (begins parts moment) start_sound course
