-- A connection that read all that was reported of it says all that it was brought.
use Rattle.std.proofs.Common.{◌≡◌, ◌≢◌, ◌∙◌, ◌+◌, ◌≤◌, ◌⊎◌, inl, inr, ℕ, arith, Bool, true, false}
use Rattle.std.proofs.Common.{List, [], ◌∷◌, ◌++◌, length, Option, Some, None, refl, sym, subst, ap}
use Rattle.std.proofs.Common.{append-nil}
use Rattle.std.specs.Prelude.{flat_map}
use Rattle.event_script.specs.ev_types.specs.declared.upcall.Why.{Why}
use Rattle.event_script.specs.ev_types.specs.declared.upcall.Why.TheVariants.{Own, Removed, Refused}
use Rattle.event_script.specs.ev_base.specs.Story.{Part, Piece, Pausing, Ending, Failing}
use Rattle.acceptor.specs.cdr_record.specs.declared.record.LogRecord.{LogRecord}
use Rattle.acceptor.specs.cdr_record.specs.Decoding.{Stop, Clean, Partial, Malformed, decode}
use Rattle.acceptor.specs.cdr_record.proofs.Runs.{bad_ends}
use Rattle.acceptor.specs.log_lines.specs.declared.end_kind.EndKind.{EndKind}
use Rattle.acceptor.specs.log_lines.specs.declared.end_kind.EndKind.TheVariants as end
use Rattle.acceptor.specs.log_lines.specs.Texts.{record_lines, closing_line}
use Rattle.acceptor.specs.reactor_journal.specs.Event.{Item}
use Rattle.acceptor.specs.log_handler.specs.declared.note.ServerNote.{ServerNote}
use Rattle.acceptor.specs.log_handler.specs.Connection.{Progress, Course, at_start}
use Rattle.acceptor.specs.log_handler.specs.Connections.{IsClosing}
use Rattle.acceptor.specs.log_handler.specs.Laws.{HasRecords, EndedSo, WasIdle, records_in}
use Rattle.acceptor.specs.log_handler.specs.Laws.{took_last, last_turn}
use Rattle.acceptor.specs.log_handler.proofs.Accounts.{accounts}
use Rattle.event_script.specs.Script.{ScriptStep}
use Rattle.event_script.specs.Stories.{story, bytes_of, was_shut, has_failed}
use Rattle.laws_script_turns.specs.Grouped.{word_by, closing_word, grouped_lines}
use Rattle.laws_script_turns.specs.Laws.{ReadToEnd, is_orderly, steps_on, pauses_had, untold}
use Rattle.laws_script_turns.proofs.Parts.{bytes_in, pauses, is_plain, paired, bytes_in-append}
use Rattle.laws_script_turns.proofs.Parts.{pauses-append, plain-right, pauses-paired, none_left}
use Rattle.laws_script_turns.proofs.Shapes.{Tail, OpenTail, ShutTail, FailTail, tail_parts, is_shut}
use Rattle.laws_script_turns.proofs.Shapes.{is_failed, Shape, shape}
use Rattle.laws_script_turns.proofs.Reading.{Reads, StopsAt, HasRead, front, has_read}

-- ---- the whole story

no_bytes : (tail : Tail) → bytes_in (tail_parts tail) ≡ []
no_bytes OpenTail = refl
no_bytes ShutTail = refl
no_bytes FailTail = refl

no_pauses : (tail : Tail) → pauses (tail_parts tail) ≡ 0
no_pauses OpenTail = refl
no_pauses ShutTail = refl
no_pauses FailTail = refl

whole_bytes : (pieces : List (List ℕ)) (tail : Tail)
    → bytes_in (paired pieces ++ tail_parts tail) ≡ bytes_in (paired pieces)
whole_bytes pieces tail = bytes_in-append (paired pieces) (tail_parts tail)
    ∙ ap (λ (t : List ℕ). bytes_in (paired pieces) ++ t) (no_bytes tail)
    ∙ append-nil (bytes_in (paired pieces))

-- if the end, or a failure, stands in it, it is what the story ends with
record IsAtEnd (part : Part) (pieces : List (List ℕ)) (tail : Tail) (given : List Part) : Type 0
  where
    before : given ≡ paired pieces
    last : tail_parts tail ≡ part ∷ []

abbrev IsStop : Part → Type 0
IsStop (Piece bytes) = ⊥
IsStop Pausing = ⊥
IsStop Ending = Unit {0}
IsStop Failing = Unit {0}

at_end : (part : Part) (pieces : List (List ℕ)) (tail : Tail) (given rest : List Part) → IsStop part
    → given ++ part ∷ rest ≡ paired pieces ++ tail_parts tail → IsAtEnd part pieces tail given
at_end part [] OpenTail [] rest stop e = absurd (none e)
  where
    none : part ∷ rest ≡ [] → ⊥
    none h = cc
at_end part [] ShutTail [] rest stop e = record { before = refl; last = same e }
  where
    same : part ∷ rest ≡ Ending ∷ [] → Ending ∷ [] ≡ part ∷ []
    same h = cc
at_end part [] FailTail [] rest stop e = record { before = refl; last = same e }
  where
    same : part ∷ rest ≡ Failing ∷ [] → Failing ∷ [] ≡ part ∷ []
    same h = cc
at_end part [] OpenTail (g ∷ given) rest stop e = absurd (none e)
  where
    none : g ∷ (given ++ part ∷ rest) ≡ [] → ⊥
    none h = cc
at_end part [] ShutTail (g ∷ given) rest stop e = absurd (none given (tail e))
  where
    tail : g ∷ (given ++ part ∷ rest) ≡ Ending ∷ [] → given ++ part ∷ rest ≡ []
    tail h = cc

    none : (given : List Part) → given ++ part ∷ rest ≡ [] → ⊥
    none [] h = cc
    none (x ∷ xs) h = cc
at_end part [] FailTail (g ∷ given) rest stop e = absurd (none given (tail e))
  where
    tail : g ∷ (given ++ part ∷ rest) ≡ Failing ∷ [] → given ++ part ∷ rest ≡ []
    tail h = cc

    none : (given : List Part) → given ++ part ∷ rest ≡ [] → ⊥
    none [] h = cc
    none (x ∷ xs) h = cc
at_end part (bytes ∷ pieces) tail [] rest stop e = absurd (subst IsStop (head e) stop)
  where
    head : part ∷ rest ≡ Piece bytes ∷ Pausing ∷ (paired pieces ++ tail_parts tail)
        → part ≡ Piece bytes
    head h = cc
at_end part (bytes ∷ pieces) tail (g ∷ []) rest stop e = absurd (subst IsStop (head e) stop)
  where
    head : g ∷ part ∷ rest ≡ Piece bytes ∷ Pausing ∷ (paired pieces ++ tail_parts tail)
        → part ≡ Pausing
    head h = cc
at_end part (bytes ∷ pieces) tail (g ∷ k ∷ given) rest stop e =
    let more = at_end part pieces tail given rest stop (tail_same e) in
    record { before = heads e more.before; last = more.last }
  where
    tail_same : g ∷ k ∷ (given ++ part ∷ rest)
        ≡ Piece bytes ∷ Pausing ∷ (paired pieces ++ tail_parts tail)
        → given ++ part ∷ rest ≡ paired pieces ++ tail_parts tail
    tail_same h = cc

    heads : g ∷ k ∷ (given ++ part ∷ rest)
        ≡ Piece bytes ∷ Pausing ∷ (paired pieces ++ tail_parts tail) → given ≡ paired pieces
        → g ∷ k ∷ given ≡ Piece bytes ∷ Pausing ∷ paired pieces
    heads h i = cc

-- if as many turns found nothing as there are steps, nothing is left, and neither the end nor a
-- failure is told
record HasAll (tail : Tail) (left : List Part) : Type 0 where
  open_ : tail ≡ OpenTail
  none : left ≡ []

plain_tail : (tail : Tail) → is_plain (tail_parts tail) ≡ true → tail ≡ OpenTail
plain_tail OpenTail h = refl
plain_tail ShutTail h = absurd (cc h)
plain_tail FailTail h = absurd (cc h)

short_tail : (tail : Tail) → length (tail_parts tail) ≡ 0 → tail ≡ OpenTail
short_tail OpenTail h = refl
short_tail ShutTail h = absurd (omega (arith, h))
short_tail FailTail h = absurd (omega (arith, h))

has_all : (pieces : List (List ℕ)) (tail : Tail) (given left : List Part) (quiet : ℕ)
    → given ++ left ≡ paired pieces ++ tail_parts tail → is_plain given ≡ true
    → quiet ≡ length pieces + length (tail_parts tail) → (quiet ≡ pauses given)
    ⊎ ((left ≡ []) × (pauses given ≤ quiet)) → HasAll tail left
has_all pieces tail given left quiet whole plain counts (inl e) =
    let all : pauses given + pauses left ≡ length pieces + 0 =
    sym (pauses-append given left) ∙ ap pauses whole
    ∙ pauses-append (paired pieces) (tail_parts tail)
    ∙ ap (λ (n : ℕ). n + pauses (tail_parts tail)) (pauses-paired pieces)
    ∙ ap (λ (n : ℕ). length pieces + n) (no_pauses tail) in
    let short : length (tail_parts tail) ≡ 0 = omega (arith, all, e, counts) in
    let is_open = short_tail tail short in
    let pairs : given ++ left ≡ paired pieces =
    whole ∙ ap (λ (t : Tail). paired pieces ++ tail_parts t) is_open
    ∙ append-nil (paired pieces) in
    let quiet_left : pauses left ≡ 0 = omega (arith, all, e, counts) in
    record { open_ = is_open; none = none_left pieces given left pairs quiet_left }
has_all pieces tail given left quiet whole plain counts (inr e) =
    let all : given ≡ paired pieces ++ tail_parts tail =
    sym (append-nil given) ∙ ap (λ (t : List Part). given ++ t) (sym e.0) ∙ whole in
    record {
      open_ = plain_tail tail (plain-right (paired pieces) (tail_parts tail)
          (sym (ap is_plain all) ∙ plain));
      none = e.0;
    }

-- ---- closing

abbrev Closes : Option EndKind → EndKind → Type 0
Closes None word = word ≡ end.Stopped
Closes (Some kept) word = word ≡ kept

closes : (reason : Why) (kept : Option EndKind) (word : EndKind) → (reason ≢ Own → kept ≡ None)
    → word ≢ end.Refused → IsClosing reason kept word → Closes kept word
closes Own None word own refused h = absurd (none h)
  where
    none : None ≡ Some word → ⊥
    none e = cc
closes Own (Some kept) word own refused h = same h
  where
    same : Some kept ≡ Some word → word ≡ kept
    same e = cc
closes Removed None word own refused h = h
closes Removed (Some kept) word own refused h = absurd (some (own other))
  where
    other : ◌≡◌ {A = Why} Removed Own → ⊥
    other e = cc

    some : Some kept ≡ None → ⊥
    some e = cc
closes Refused kept word own refused h = absurd (refused h)

-- ---- the words

stopped_word : (s : Stop) (failed shut : Bool) → ((at : ℕ) → s ≢ Malformed at) → failed ≡ false
    → shut ≡ false → word_by s failed shut ≡ end.Stopped
stopped_word Clean failed shut sound f s =
    ap (word_by Clean failed) s ∙ ap (λ (b : Bool). word_by Clean b false) f
stopped_word (Partial n) failed shut sound f s =
    ap (word_by (Partial n) failed) s ∙ ap (λ (b : Bool). word_by (Partial n) b false) f
stopped_word (Malformed at) failed shut sound f s = absurd (sound at refl)

failed_word : (s : Stop) (failed shut : Bool) → ((at : ℕ) → s ≢ Malformed at) → failed ≡ true
    → word_by s failed shut ≡ end.Failed
failed_word Clean failed shut sound f = ap (λ (b : Bool). word_by Clean b shut) f
failed_word (Partial n) failed shut sound f = ap (λ (b : Bool). word_by (Partial n) b shut) f
failed_word (Malformed at) failed shut sound f = absurd (sound at refl)

word_same : (s r : Stop) (failed shut f h : Bool) → s ≡ r → failed ≡ f → shut ≡ h
    → word_by s failed shut ≡ word_by r f h
word_same s r failed shut f h e i j =
    ap (λ (x : Stop). word_by x failed shut) e ∙ ap (λ (b : Bool). word_by r b shut) i
    ∙ ap (λ (b : Bool). word_by r f b) j

shut_tail : (tail : Tail) → tail_parts tail ≡ Ending ∷ [] → (is_shut tail ≡ true)
    × (is_failed tail ≡ false)
shut_tail OpenTail h = absurd (cc h)
shut_tail ShutTail h = (refl, refl)
shut_tail FailTail h = absurd (cc h)

fail_tail : (tail : Tail) → tail_parts tail ≡ Failing ∷ [] → is_failed tail ≡ true
fail_tail OpenTail h = absurd (cc h)
fail_tail ShutTail h = absurd (cc h)
fail_tail FailTail h = refl

-- if reading stopped at the end or a failure, all was taken
record TookAll (part : Part) (c : ℕ) (steps : List ScriptStep) (p : Progress) (tail : Tail) : Type 0
  where
    taken : p.taken ≡ bytes_of c steps
    last : tail_parts tail ≡ part ∷ []

took_all : (part : Part) (c : ℕ) (steps : List ScriptStep) (p : Progress)
    (s : Shape (story c steps) (bytes_of c steps) (was_shut c steps) (has_failed c steps)
    (steps_on c steps))
    → IsStop part → StopsAt part (story c steps) p → TookAll part c steps p s.tail
took_all part c steps p s stop stops =
    let at = at_end part s.pieces s.tail stops.given stops.rest stop (stops.whole ∙ s.is) in
    record { taken = stops.taken ∙ ap bytes_in at.before ∙ sym s.brought; last = at.last }

-- ---- all together

module _ (c : ℕ) (steps : List ScriptStep) (p : Progress) (word : EndKind)
    (records : List LogRecord) where
  abbrev Says : Type 0
  Says = record_lines c records ++ closing_line c word ≡ grouped_lines c steps

  -- the records and the word are those of all bytes
  says : (t : List ℕ) → records ≡ (decode t).records → decode t ≡ decode (bytes_of c steps)
      → word ≡ closing_word c steps → Says
  says t are same closing =
      ap (λ (rs : List LogRecord). record_lines c rs ++ closing_line c word)
      (are ∙ ap (λ (d : _). d.records) same)
      ∙ ap (λ (w : EndKind). record_lines c (decode (bytes_of c steps)).records ++ closing_line c w)
      closing

  -- what was taken is all
  says_all : (kept : EndKind) → records ≡ (decode p.taken).records → p.taken ≡ bytes_of c steps
      → word ≡ kept → word_by (decode p.taken).stop (has_failed c steps) (was_shut c steps) ≡ kept
      → Says
  says_all kept are taken closing by =
      says p.taken are (ap decode taken)
      (closing ∙ sym by ∙ ap (λ (t : List ℕ).
      word_by (decode t).stop (has_failed c steps) (was_shut c steps)) taken)

  by_kept : (kept : Option EndKind) (quiet count : ℕ) (last : Option (Item ServerNote))
      → Shape (story c steps) (bytes_of c steps) (was_shut c steps) (has_failed c steps)
      (steps_on c steps)
      → HasRead (story c steps) quiet p kept → (kept ≡ None → quiet ≡ steps_on c steps)
      → EndedSo None last p kept → HasRecords records count p.taken kept → Closes kept word
      → word ≢ end.NoMemory → Says
  by_kept None quiet count last s read all ended are closing memory =
      let r = read.0 in
      let done = has_all s.pieces s.tail r.given r.left quiet (r.whole ∙ s.is) r.plain
      (all refl ∙ s.counts) r.quiets in
      let given : r.given ≡ paired s.pieces =
      sym (append-nil r.given) ∙ ap (λ (t : List Part). r.given ++ t) (sym done.none) ∙ r.whole
      ∙ s.is ∙ ap (λ (t : Tail). paired s.pieces ++ tail_parts t) done.open_
      ∙ append-nil (paired s.pieces) in
      let taken : p.taken ≡ bytes_of c steps =
      r.taken ∙ ap (λ (t : List Part). bytes_in r.given ++ front r.at t) done.none
      ∙ append-nil (bytes_in r.given) ∙ ap bytes_in given ∙ sym s.brought in
      says_all end.Stopped are taken closing
      (stopped_word (decode p.taken).stop (has_failed c steps) (was_shut c steps) read.1
      (s.has_failed ∙ ap is_failed done.open_) (s.was_shut ∙ ap is_shut done.open_))
  by_kept (Some end.End) quiet count last s read all ended are closing memory =
      let took = took_all Ending c steps p s tt read in
      let tail = shut_tail s.tail took.last in
      says_all end.End are took.taken closing
      (word_same _ Clean _ _ false true ended.1 (s.has_failed ∙ tail.1) (s.was_shut ∙ tail.0))
  by_kept (Some (end.Partial n)) quiet count last s read all ended are closing memory =
      let took = took_all Ending c steps p s tt read in
      let tail = shut_tail s.tail took.last in
      says_all (end.Partial n) are took.taken closing
      (word_same _ (Partial n) _ _ false true ended.1 (s.has_failed ∙ tail.1)
      (s.was_shut ∙ tail.0))
  by_kept (Some (end.Malformed at)) quiet count last s read all ended are closing memory =
      let whole : p.taken ++ read.rest ≡ bytes_of c steps =
      read.whole ∙ ap bytes_in s.is ∙ whole_bytes s.pieces s.tail ∙ sym s.brought in
      let same : decode p.taken ≡ decode (bytes_of c steps) =
      sym (bad_ends p.taken read.rest at ended) ∙ ap decode whole in
      says p.taken are same (closing ∙ sym
      (ap (λ (x : Stop). word_by x (has_failed c steps) (was_shut c steps))
      (sym (ap (λ (d : _). d.stop) same) ∙ ended)))
  by_kept (Some end.Failed) quiet count last s read all ended are closing memory =
      let took = took_all Failing c steps p s tt read.0 in
      says_all end.Failed are took.taken closing
      (failed_word (decode p.taken).stop (has_failed c steps) (was_shut c steps) read.1
      (s.has_failed ∙ fail_tail s.tail took.last))
  by_kept (Some end.NoMemory) quiet count last s read all ended are closing memory =
      absurd (memory closing)
  by_kept (Some end.Idle) quiet count last s read all ended are closing memory =
      absurd (never last ended)
    where
      never : (last : Option (Item ServerNote)) → WasIdle None p.last last → ⊥
      never None h = h
      never (Some item) h = cc
  by_kept (Some end.Stopped) quiet count last s read all ended are closing memory = absurd ended
  by_kept (Some end.Refused) quiet count last s read all ended are closing memory = absurd ended

-- ---- all that it says

pub says_everything : (c : ℕ) (steps : List ScriptStep) (moment : ℕ) (had : List (Item ServerNote))
    (p : Progress) (reason : Why) (word : EndKind) → is_orderly c steps ≡ true
    → Course c None (at_start moment (Some (untold (story c steps)))) had p
    → (p.kept ≡ None → pauses_had had ≡ steps_on c steps) → (reason ≢ Own → p.kept ≡ None)
    → IsClosing reason p.kept word → word ≢ end.NoMemory → word ≢ end.Refused
    → record_lines c (flat_map records_in had) ++ closing_line c word ≡ grouped_lines c steps
says_everything c steps moment had p reason word orderly course all own closing memory refused =
    let account = accounts c None moment (Some (untold (story c steps))) had p course in
    let read = has_read (story c steps) c None moment had p course in
    by_kept c steps p word (flat_map records_in had) p.kept (0 + pauses_had had)
    (took_last (last_turn had)) (last_turn had) (shape c steps orderly) read
    (λ (none : p.kept ≡ None). none_more (pauses_had had) (steps_on c steps) (all none))
    account.ended account.records (closes reason p.kept word own refused closing) memory
  where
    none_more : (n k : ℕ) → n ≡ k → 0 + n ≡ k
    none_more n k e = omega arith

-- ---- all bytes taken

-- nothing of the story is left if it neither ended nor failed, and as many turns found nothing
-- as there are steps
all_taken : (c : ℕ) (steps : List ScriptStep) (p : Progress) (quiet : ℕ)
    → Shape (story c steps) (bytes_of c steps) (was_shut c steps) (has_failed c steps)
    (steps_on c steps) → Reads (story c steps) quiet p → quiet ≡ steps_on c steps
    → p.taken ≡ bytes_of c steps
all_taken c steps p quiet s r all =
    let done = has_all s.pieces s.tail r.given r.left quiet (r.whole ∙ s.is) r.plain
    (all ∙ s.counts) r.quiets in
    let given : r.given ≡ paired s.pieces =
    sym (append-nil r.given) ∙ ap (λ (t : List Part). r.given ++ t) (sym done.none) ∙ r.whole
    ∙ s.is ∙ ap (λ (t : Tail). paired s.pieces ++ tail_parts t) done.open_
    ∙ append-nil (paired s.pieces) in
    r.taken ∙ ap (λ (t : List Part). bytes_in r.given ++ front r.at t) done.none
    ∙ append-nil (bytes_in r.given) ∙ ap bytes_in given ∙ sym s.brought

pub takes_all_bytes : (c : ℕ) (idle : Option ℕ) (steps : List ScriptStep) (moment : ℕ)
    (had : List (Item ServerNote)) (p : Progress) → is_orderly c steps ≡ true
    → Course c idle (at_start moment (Some (untold (story c steps)))) had p
    → ReadToEnd p.kept (pauses_had had) (steps_on c steps) → p.taken ≡ bytes_of c steps
takes_all_bytes c idle steps moment had p orderly course ends =
    by_end p.kept (has_read (story c steps) c idle moment had p course) ends
  where
    by_end : (kept : Option EndKind) → HasRead (story c steps) (0 + pauses_had had) p kept
        → ReadToEnd kept (pauses_had had) (steps_on c steps) → p.taken ≡ bytes_of c steps
    by_end None read e = all_taken c steps p (0 + pauses_had had) (shape c steps orderly) read.0
        (none_more (pauses_had had) (steps_on c steps) e)
      where
        none_more : (n k : ℕ) → n ≡ k → 0 + n ≡ k
        none_more n k e = omega arith
    by_end (Some end.End) read e = (took_all Ending c steps p (shape c steps orderly) tt read).taken
    by_end (Some (end.Partial n)) read e =
        (took_all Ending c steps p (shape c steps orderly) tt read).taken
    by_end (Some _) read e = absurd e
