-- That a writer's lines go on to be those of items that it was given.
use Rattle.std.proofs.Common.{◌≡◌, ◌⊎◌, inl, inr, ⊎_elim, ℕ, List, [], ◌∷◌, ◌++◌, ap, refl, subst}
use Rattle.std.proofs.Common.{sym, ◌∙◌, append_assoc}
use Rattle.std.specs.List.{All}
use Rattle.std.proofs.lemmas.List.{append-nil, map-append}
use Rattle.std.proofs.lemmas.List.Elements.{All-head, All-tail}
use Rattle.cdr_record.specs.Borrowed.{owned}
use Rattle.cdr_record.specs.declared.record.LogRecord.{LogRecord}
use Rattle.cdr_record.specs.declared.record.RecordRef.{RecordRef}
use Rattle.task_server.specs.declared.item.Item.{Item}
use Rattle.cmd_pool.specs.Lines.{AddsOrKeeps, Grows, StandsIn, item_of, items_in, line_of}
use Rattle.cmd_pool.specs.Lines.{part, record_of}
use Rattle.cmd_pool.specs.ItemLines.{AddsLinesOf, AreAmong, items_of}
use Rattle.cmd_pool.specs.declared.line.Line.{Line}
use Rattle.cmd_pool.specs.declared.line.Lines.{Lines}
use Rattle.cmd_pool.specs.declared.line.Span.{Span}
use Rattle.cmd_pool.proofs.Among.{among_both, among_front, among_more, among_twice}
use Rattle.cmd_pool.proofs.Lines.{lines_grown, part_more}

-- the item of a line that has this message
abbrev item_with : Line → List ℕ → Item
item_with line message = record {
  conn = line.conn;
  event = line.event;
  index = line.index;
  rec = record_of line message;
}

-- the items of lines in a text to which more was added
items_more : (lines : List Line) (old more : List ℕ) → All (StandsIn old) lines
    → items_in (old ++ more) lines ≡ items_in old lines
items_more [] old more all = refl
items_more (line ∷ lines) old more all =
    let head = All-head (StandsIn old) line lines all in
    let tail = items_more lines old more (All-tail (StandsIn old) line lines all) in
    ap (λ (message : List ℕ). item_with line message ∷ items_in (old ++ more) lines)
    (part_more line.message old more head.message)
    ∙ ap (λ (items : List Item). item_of old line ∷ items) tail

-- the items of lines in a text that has grown
pub items_grown : (lines : List Line) (old new : List ℕ) → Grows old new
    → All (StandsIn old) lines → items_in new lines ≡ items_in old lines
items_grown lines old new grows all =
    subst (λ (text : List ℕ). items_in text lines ≡ items_in old lines) (sym grows.1)
    (items_more lines old grows.0 all)

-- in a text that has grown twice
pub items_grown_twice : (lines : List Line) (old text new : List ℕ) → All (StandsIn old) lines
    → Grows old text → Grows text new → items_in new lines ≡ items_in old lines
items_grown_twice lines old text new all one other =
    items_grown lines text new other (lines_grown lines old text one all)
    ∙ items_grown lines old text one all

-- the item of a line of an item, whose message stands in the text
pub item_is : (item : Item) (entry : RecordRef) (line message : Span) (text : List ℕ)
    → part message text ≡ entry.text.now → owned entry ≡ item.rec
    → item_of text (line_of item entry line message) ≡ item
item_is item entry line message text stands is =
    ap (item_with (line_of item entry line message)) stands
    ∙ ap (λ (r : LogRecord). record {
      conn = item.conn;
      event = item.event;
      index = item.index;
      rec = r;
    }) is

-- a line was added to those of these items, or not
pub adds_or_keeps : (lines new : List Line) (line : Line) (old text : List ℕ) (item : Item)
    → items_in text lines ≡ items_in old lines → item_of text line ≡ item
    → (new ≡ lines ++ line ∷ []) ⊎ (new ≡ lines)
    → AddsOrKeeps (items_in old lines) item (items_in text new)
adds_or_keeps lines new line old text item same is (inl more) = inl
    (ap (items_in text) more ∙ map-append (item_of text) lines (line ∷ [])
    ∙ ap (λ (items : List Item). items ++ item_of text line ∷ []) same
    ∙ ap (λ (i : Item). items_in old lines ++ i ∷ []) is)
adds_or_keeps lines new line old text item same is (inr none) =
    inr (ap (items_in text) none ∙ same)

-- the items of lines and of one more
pub items_of_last : (full : List Lines) (last : Lines)
    → items_of (full ++ last ∷ []) ≡ items_of full ++ items_in last.text.items last.lines.items
items_of_last [] last = append-nil (items_in last.text.items last.lines.items)
items_of_last (lines ∷ full) last =
    ap (λ (items : List Item). items_in lines.text.items lines.lines.items ++ items)
    (items_of_last full last)
    ∙ sym (append_assoc (items_in lines.text.items lines.lines.items) (items_of full)
    (items_in last.text.items last.lines.items))

-- an item was given, and its line added to the last lines, or not
pub given_more : (full : List Lines) (old new : Lines) (given : List Item) (item : Item)
    → AreAmong (items_of (full ++ old ∷ [])) given
    → AddsOrKeeps (items_in old.text.items old.lines.items) item
    (items_in new.text.items new.lines.items)
    → AreAmong (items_of (full ++ new ∷ [])) (given ++ item ∷ [])
given_more full old new given item among (inl more) =
    let before = items_in old.text.items old.lines.items in
    subst (λ (items : List Item). AreAmong items (given ++ item ∷ []))
    (sym (items_of_last full new ∙ ap (λ (items : List Item). items_of full ++ items) more
    ∙ sym (append_assoc (items_of full) before (item ∷ []))))
    (among_both (items_of full ++ before) given (item ∷ [])
    (subst (λ (items : List Item). AreAmong items given) (items_of_last full old) among))
given_more full old new given item among (inr same) =
    subst (λ (items : List Item). AreAmong items (given ++ item ∷ []))
    (items_of_last full old ∙ ap (λ (items : List Item). items_of full ++ items) (sym same)
    ∙ sym (items_of_last full new))
    (among_more (items_of (full ++ old ∷ [])) given (item ∷ []) among)

-- other lines were begun, which are none, and the last ones were kept, or lost
pub next_begun : (full after : List Lines) (last next : Lines) (given : List Item)
    → AreAmong (items_of (full ++ last ∷ [])) given
    → (after ≡ full ++ last ∷ []) ⊎ (after ≡ full) → next.lines.items ≡ []
    → AreAmong (items_of (after ++ next ∷ [])) given
next_begun full after last next given among may none =
    subst (λ (items : List Item). AreAmong items given)
    (sym (items_of_last after next ∙ ap (λ (lines : List Line).
    items_of after ++ items_in next.text.items lines) none ∙ append-nil (items_of after)))
    (kept_or_lost may)
  where
    kept_or_lost : (after ≡ full ++ last ∷ []) ⊎ (after ≡ full) → AreAmong (items_of after) given
    kept_or_lost (inl kept) =
        subst (λ (l : List Lines). AreAmong (items_of l) given) (sym kept) among
    kept_or_lost (inr lost) =
        subst (λ (l : List Lines). AreAmong (items_of l) given) (sym lost)
        (among_front (items_of full) given (items_in last.text.items last.lines.items)
        (subst (λ (items : List Item). AreAmong items given) (items_of_last full last) among))

-- before any lines are moved
pub moves_none : (made : List Lines) → AddsLinesOf [] made made
moves_none made = ([], refl, sym (append-nil (items_of made)))

-- some lines more were moved, or lost
pub moves_more : (moved : List Lines) (lines : Lines) (old now new : List Lines)
    → AddsLinesOf (items_of moved) old now → (new ≡ now ++ lines ∷ []) ⊎ (new ≡ now)
    → AddsLinesOf (items_of (moved ++ lines ∷ [])) old new
moves_more moved lines old now new adds (inl more) =
    let items = items_in lines.text.items lines.lines.items in (
      adds.0 ++ items,
      subst (λ (all : List Item). AreAmong (adds.0 ++ items) all) (sym (items_of_last moved lines))
          (among_both adds.0 (items_of moved) items adds.1),
      ap items_of more ∙ items_of_last now lines
          ∙ ap (λ (before : List Item). before ++ items) adds.2
          ∙ append_assoc (items_of old) adds.0 items,
    )
moves_more moved lines old now new adds (inr same) = (
  adds.0,
  subst (λ (all : List Item). AreAmong adds.0 all) (sym (items_of_last moved lines))
      (among_more adds.0 (items_of moved) (items_in lines.text.items lines.lines.items) adds.1),
  ap items_of same ∙ adds.2,
)

-- of items that stand among others they are lines of those
pub moves_among : (items given : List Item) (old new : List Lines) → AreAmong items given
    → AddsLinesOf items old new → AddsLinesOf given old new
moves_among items given old new among adds =
    (adds.0, among_twice adds.0 items given adds.1 among, adds.2)
