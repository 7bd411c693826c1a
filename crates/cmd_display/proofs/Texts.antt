-- The text that comes out of both tasks.
use Rattle.std.proofs.Common.{◌≡◌, Bool, true, false, ℕ, List, [], ◌∷◌, ◌++◌, map, flat_map, refl}
use Rattle.std.proofs.Common.{ap, sym, ◌∙◌, subst, append_assoc, append-nil}
use Rattle.std.proofs.lemmas.Grind.{flat_map-append}
use Rattle.std.proofs.lemmas.List.{map-append}
use Rattle.ev_base.specs.Sink.{SinkFacts}
use Rattle.cdr_record.specs.declared.record.LogRecord.{LogRecord}
use Rattle.cdr_record.specs.Grammar.{Spells}
use Rattle.cdr_record.specs.Decoding.{decode}
use Rattle.cdr_record.specs.Laws.{DecodeCuts, SpellsEach}
use Rattle.sink_buffer.specs.declared.buffer.SinkBuffer.{SinkBuffer}
use Rattle.sink_buffer.specs.Gathers.{Gathers, held_of, is_broken, output_of}
use Rattle.sink_buffer.specs.Written.{IsPrefixOf, TakesAll, BreaksOff}
use Rattle.message_block.specs.Messages.{MessageState, bytes_of}
use Rattle.module_stream.specs.Tasks.{formatted, separated, text_message}
use Rattle.module_stream.specs.Laws.{FormatsRecords}
use Rattle.module_stream.specs.Progress.{Begins}
use Rattle.cmd_display.specs.Pipelines.{text_of, HasEnded}
use Rattle.cmd_display.specs.Endings.{format_gives, separate_gives}
use Rattle.cmd_display.specs.Shown.{IsCut, message_of, shown_line, shown_of}
use Rattle.sink_buffer.proofs.Gathering.{takes-all}
use Rattle.cmd_display.proofs.Records.{IsStuck, decodes-behind, stuck-is-left}

-- what was put into the sink, after the bytes of some messages were, are those of others
pub gathers-both : {K : Type 0} (facts : K → SinkFacts) (o : SinkFacts) (sink : SinkBuffer K)
    (xs ys : List MessageState) → Gathers facts o sink (text_of xs ++ text_of ys)
    → Gathers facts o sink (text_of (xs ++ ys))
gathers-both facts o sink xs ys h =
    subst (λ text. Gathers facts o sink text) (sym (flat_map-append bytes_of xs ys)) h

-- if a write failed, more can be taken for put
pub gathers-behind : {K : Type 0} (facts : K → SinkFacts) (o : SinkFacts) (sink : SinkBuffer K)
    (put more : List ℕ) → is_broken sink ≡ true → Gathers facts o sink put
    → Gathers facts o sink (put ++ more)
gathers-behind facts o sink put more broken h =
    let b = h.front broken in record {
      whole = λ e. absurd (cc (broken, e));
      front = λ e. record {
        front = b.front;
        is_front = (
          b.is_front.0 ++ more,
          ap (λ xs. xs ++ more) b.is_front.1
              ∙ append_assoc b.front b.is_front.0 more,
        );
        text = b.text;
        rose = b.rose;
      };
    }

-- the line of one record
line-of : FormatsRecords → (f : List ℕ) (entry : LogRecord) → Spells f entry
    → bytes_of (separated (formatted (message_of f))) ≡ shown_line entry
line-of law f entry spells =
    let is : formatted (message_of f) ≡ text_message 0 entry =
    law (message_of f) entry (subst (λ bytes. Spells bytes entry) (sym (append-nil f)) spells)
    in
    ap (λ message. bytes_of (separated message)) is

lines-of : FormatsRecords → (pieces : List (List ℕ)) (records : List LogRecord)
    → SpellsEach pieces records → text_of (separate_gives (format_gives (map message_of pieces)))
    ≡ flat_map shown_line records
lines-of law [] [] each = refl
lines-of law [] (r ∷ records) each = absurd each
lines-of law (p ∷ pieces) [] each = absurd each
lines-of law (p ∷ pieces) (r ∷ records) each =
    ap (λ xs. xs ++ text_of (separate_gives (format_gives (map message_of pieces))))
    (line-of law p r each.0) ∙ ap (λ xs. shown_line r ++ xs)
    (lines-of law pieces records each.1)

-- a front of messages stays one
begins-mapped : (f : MessageState → MessageState) (xs ys : List MessageState) → Begins xs ys
    → Begins (map f xs) (map f ys)
begins-mapped f xs ys b = (map f b.0, ap (map f) b.1 ∙ map-append f xs b.0)

prefix-of : (xs ys : List MessageState) → Begins xs ys → IsPrefixOf (text_of xs) (text_of ys)
prefix-of xs ys b = (text_of b.0, ap text_of b.1 ∙ flat_map-append bytes_of xs b.0)

prefix-through : (xs ys zs : List ℕ) → IsPrefixOf xs ys → IsPrefixOf ys zs → IsPrefixOf xs zs
prefix-through xs ys zs b c = (
  b.0 ++ c.0,
  c.1 ∙ ap (λ front. front ++ c.0) b.1
      ∙ append_assoc xs b.0 c.0,
)

-- The text that was put into the sink: a front of what is shown of the bytes, and if it was
-- whole and no record stands first in the rest, all of it.
pub record IsText {K : Type 0} (facts : K → SinkFacts) (o : SinkFacts) (bytes : List ℕ)
    (all : Type 0) (sink : SinkBuffer K) : Type 0 where
  pub text : List ℕ
  pub front : IsPrefixOf text (shown_of bytes)
  pub whole : all → text ≡ shown_of bytes
  pub gathers : Gathers facts o sink text
  pub nothing_held : is_broken sink ≡ false → held_of sink ≡ []

pub text-of-run : {K : Type 0} (facts : K → SinkFacts) (o : SinkFacts) (cut rest : List ℕ)
    (put : List MessageState) (w : Bool) (sink : SinkBuffer K)
    → FormatsRecords → DecodeCuts → IsCut cut put
    → HasEnded facts format_gives separate_gives o put w sink
    → IsText facts o (cut ++ rest) ((w ≡ true) × IsStuck rest) sink
text-of-run facts o cut rest put w sink formats cuts h e =
    let behind = decodes-behind cuts h.pieces h.records rest h.spells in
    let whole : (decode (cut ++ rest)).records ≡ h.records ++ (decode rest).records =
    ap (λ xs. (decode (xs ++ rest)).records) h.whole ∙ behind.all in
    let shown : shown_of (cut ++ rest) ≡ flat_map shown_line h.records ++ shown_of rest =
    ap (flat_map shown_line) whole ∙ flat_map-append shown_line h.records (decode rest).records
    in
    let lines : text_of (separate_gives (format_gives put)) ≡ flat_map shown_line h.records =
    ap (λ ms. text_of (separate_gives (format_gives ms))) h.messages
    ∙ lines-of formats h.pieces h.records h.spells in
    let fed : Begins e.fed (format_gives put) =
    (let f = begins-mapped formatted e.front put e.begins in (
      e.follows.0 ++ f.0,
      f.1 ∙ ap (λ front. front ++ f.0) e.follows.1
          ∙ append_assoc e.fed e.follows.0 f.0,
    )) in
    let comes : IsPrefixOf (text_of e.lines) (text_of (separate_gives (format_gives put))) =
    prefix-through (text_of e.lines) (text_of (separate_gives e.fed))
    (text_of (separate_gives (format_gives put)))
    (prefix-of e.lines (separate_gives e.fed) e.comes)
    (prefix-of (separate_gives e.fed) (separate_gives (format_gives put))
    (begins-mapped separated e.fed (format_gives put) fed)) in record {
      text = text_of e.lines;
      front = prefix-through (text_of e.lines) (flat_map shown_line h.records)
          (shown_of (cut ++ rest)) (subst (λ t. IsPrefixOf (text_of e.lines) t) lines comes)
          (shown_of rest, shown);
      whole = λ all.
          let a = e.all all.0 in
          let none : shown_of rest ≡ [] = ap (flat_map shown_line)
          (stuck-is-left cuts rest all.1).none in
          ap text_of (a.2 ∙ ap separate_gives (a.1 ∙ ap format_gives a.0)) ∙ lines
          ∙ sym (append-nil (flat_map shown_line h.records))
          ∙ ap (λ t. flat_map shown_line h.records ++ t) (sym none) ∙ sym shown;
      gathers = e.gathers;
      nothing_held = e.nothing_held;
    }

-- ---- what the sink below took

pub text-taken : {K : Type 0} (facts : K → SinkFacts) (o : SinkFacts) (bytes : List ℕ)
    (all : Type 0) (sink : SinkBuffer K) (t : IsText facts o bytes all sink)
    → is_broken sink ≡ false → TakesAll o t.text (facts (output_of sink))
text-taken facts o bytes all sink t sound =
    takes-all facts o sink t.text t.gathers (t.nothing_held sound) sound

pub text-broken : {K : Type 0} (facts : K → SinkFacts) (o : SinkFacts) (bytes : List ℕ)
    (all : Type 0) (sink : SinkBuffer K) (t : IsText facts o bytes all sink) → is_broken sink ≡ true
    → BreaksOff o t.text (facts (output_of sink))
text-broken facts o bytes all sink t broken = t.gathers.front broken

pub broken-of : (o p : SinkFacts) (text whole : List ℕ) → IsPrefixOf text whole → BreaksOff o text p
    → BreaksOff o whole p
broken-of o p text whole front b =
    record {
      front = b.front;
      is_front = prefix-through b.front text whole b.is_front front;
      text = b.text;
      rose = b.rose;
    }
