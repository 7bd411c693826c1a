-- That lines go on standing in a text that grows.
use Rattle.std.proofs.Common.{◌≡◌, ◌-◌, ℕ, List, [], ◌∷◌, ◌++◌, take, drop, ap, sym, ◌∙◌}
use Rattle.std.proofs.Common.{◌⊎◌, ⊎_elim, subst, arith}
use Rattle.std.specs.List.{All}
use Rattle.std.proofs.lemmas.List.{drop-append-le, length-append, length-drop, take-append-le}
use Rattle.std.proofs.lemmas.List.Elements.{All-push}
use Rattle.log_lines.specs.Texts.{record_line}
use Rattle.cmd_pool.specs.Lines.{Grows, IsWithin, Stands, StandsIn, part, record_of}
use Rattle.cmd_pool.specs.declared.line.Line.{Line}
use Rattle.cmd_pool.specs.declared.line.Span.{Span}

within_more : (span : Span) (text more : List ℕ) → IsWithin span text → IsWithin span (text ++ more)
within_more span text more in_ = record {
  ordered = in_.ordered;
  within = omega (arith, in_.within, length-append text more);
}

pub part_more : (span : Span) (text more : List ℕ) → IsWithin span text
    → part span (text ++ more) ≡ part span text
part_more span text more in_ =
    ap (take (span.end - span.start))
    (drop-append-le span.start text more (omega (arith, in_.ordered, in_.within)))
    ∙ take-append-le (span.end - span.start) (drop span.start text) more
    (omega (arith, in_.ordered, in_.within, length-drop span.start text))

line_more : (line : Line) (text more : List ℕ) → StandsIn text line → StandsIn (text ++ more) line
line_more line text more in_ = record {
  message = within_more line.message text more in_.message;
  line_within = within_more line.line text more in_.line_within;
  is = part_more line.line text more in_.line_within ∙ in_.is
      ∙ ap (λ (message : List ℕ). record_line line.conn (record_of line message))
      (sym (part_more line.message text more in_.message));
}

lines_more : (lines : List Line) (text more : List ℕ) → All (StandsIn text) lines
    → All (StandsIn (text ++ more)) lines
lines_more lines text more all k line within = line_more _ text more (all k line within)

-- they stand in the text that has grown
pub lines_grown : (lines : List Line) (old new : List ℕ) → Grows old new
    → All (StandsIn old) lines → All (StandsIn new) lines
lines_grown lines old new grows all =
    subst (λ (text : List ℕ). All (StandsIn text) lines) (sym grows.1)
    (lines_more lines old grows.0 all)

-- so does a part of it
pub stands_grown : (span : Span) (bytes old new : List ℕ) → Grows old new → Stands span bytes old
    → Stands span bytes new
stands_grown span bytes old new grows stands =
    subst (λ (text : List ℕ). Stands span bytes text) (sym grows.1) (record {
      within = within_more span old grows.0 stands.within;
      is = part_more span old grows.0 stands.within ∙ stands.is;
    })

-- a line whose text and message stand there
pub line_stands : (line : Line) (message text : List ℕ) → Stands line.message message text
    → Stands line.line (record_line line.conn (record_of line message)) text → StandsIn text line
line_stands line message text message_stands stands = record {
  message = message_stands.within;
  line_within = stands.within;
  is = stands.is ∙ ap (λ (m : List ℕ). record_line line.conn (record_of line m))
      (sym message_stands.is);
}

-- lines in a text that has grown twice
pub lines_grown_twice : (lines : List Line) (old text new : List ℕ) → All (StandsIn old) lines
    → Grows old text → Grows text new → All (StandsIn new) lines
lines_grown_twice lines old text new all one other =
    lines_grown lines text new other (lines_grown lines old text one all)

-- lines in a text, and one more, or none
pub lines_and_maybe : (lines new : List Line) (line : Line) (text : List ℕ)
    → All (StandsIn text) lines → StandsIn text line
    → (new ≡ lines ++ line ∷ []) ⊎ (new ≡ lines) → All (StandsIn text) new
lines_and_maybe lines new line text all one may =
    ⊎_elim (λ more. subst (λ (xs : List Line). All (StandsIn text) xs) (sym more)
    (All-push (StandsIn text) lines line all one))
    (λ same. subst (λ (xs : List Line). All (StandsIn text) xs) (sym same) all) may
