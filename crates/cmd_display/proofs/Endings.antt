-- How displaying ends, by why no more records were read.
use Rattle.std.proofs.Common.{◌≡◌, ◌≢◌, ◌≤◌, ◌-◌, ◌==◌, ◌^◌, inl, inr, ℕ, zero, suc, Bool, true}
use Rattle.std.proofs.Common.{false, List, [], ◌∷◌, ◌++◌, length, refl, ap, sym, ◌∙◌, subst, arith}
use Rattle.std.proofs.lemmas.List.{length-append}
use Rattle.std.proofs.lemmas.Bool.{eqb-true, eqb-false}
use Rattle.ev_base.specs.Source.{SourceFacts}
use Rattle.ev_base.specs.Sink.{SinkFacts}
use Rattle.cdr_record.specs.declared.grammar.First.TheVariants as front
use Rattle.cdr_record.specs.declared.bad.BadWhy.{BadWhy}
use Rattle.cdr_record.specs.Grammar.{first_of}
use Rattle.cdr_record.specs.Decoding.{Partial, Malformed, decode, left_of, stop_at, told}
use Rattle.cdr_record.specs.Decoding.{unfinished}
use Rattle.cdr_record.specs.Laws.{DecodeCuts}
use Rattle.sink_buffer.specs.declared.buffer.SinkBuffer.{SinkBuffer}
use Rattle.sink_buffer.specs.Gathers.{is_broken, output_of}
use Rattle.sink_buffer.specs.Written.{TakesAll}
use Rattle.message_block.specs.Messages.{MessageState}
use Rattle.module_stream.specs.Laws.{FormatsRecords}
use Rattle.bounded_input.specs.Input.{TakesInput, IsReadToEnd}
use Rattle.bounded_input.specs.Reading.{input_of, limit_of, count_of}
use Rattle.cmd_display.specs.declared.window.Window.{Window}
use Rattle.cmd_display.specs.declared.showing.Stop.{Stop}
use Rattle.cmd_display.specs.declared.showing.Stop.TheVariants as stop
use Rattle.cmd_display.specs.declared.showing.DisplayEnd.{DisplayEnd}
use Rattle.cmd_display.specs.declared.showing.DisplayEnd.TheVariants as end
use Rattle.cmd_display.specs.Windows.{rest_of}
use Rattle.cmd_display.specs.Pipelines.{HasEnded}
use Rattle.cmd_display.specs.Shown.{IsCut, StopsAt, shown_of}
use Rattle.cmd_display.specs.Displays.{HasNoBadRecord, Displays}
use Rattle.cmd_display.specs.Endings.{format_gives, separate_gives, ending_by, ending_of}
use Rattle.cmd_display.specs.Endings.{found_at_end}
use Rattle.cmd_display.proofs.Records.{IsStuck, decodes-behind, stuck-is-left}
use Rattle.cmd_display.proofs.Texts.{IsText, text-of-run, text-taken, text-broken, broken-of}

-- ---- where reading stops

pub more-is-stuck : (rest : List ℕ) → first_of rest ≡ front.More → IsStuck rest
more-is-stuck rest is = λ n e. absurd (cc (is, e))

stop-of : (whole rest : List ℕ) → left_of whole ≡ rest
    → (decode whole).stop ≡ stop_at (length whole - length rest) (length rest) (first_of rest)
stop-of whole rest left = ap (λ r. stop_at (length whole - length r) (length r) (first_of r)) left

left-behind : DecodeCuts → (cut : List ℕ) (put : List MessageState) (rest : List ℕ) → IsCut cut put
    → IsStuck rest → left_of (cut ++ rest) ≡ rest
left-behind law cut put rest h stuck =
    ap (λ xs. left_of (xs ++ rest)) h.whole
    ∙ (decodes-behind law h.pieces h.records rest h.spells).left
    ∙ (stuck-is-left law rest stuck).all

-- if the rest is the beginning of a record or nothing, no record is bad
unfinished-is-sound : (n at : ℕ) → ¬ (unfinished n ≡ Malformed at)
unfinished-is-sound zero at e = absurd (cc e)
unfinished-is-sound (suc n) at e = absurd (cc e)

no-bad : DecodeCuts → (cut : List ℕ) (put : List MessageState) (rest : List ℕ) → IsCut cut put
    → first_of rest ≡ front.More → HasNoBadRecord (cut ++ rest)
no-bad law cut put rest h more = λ at e.
    let left = left-behind law cut put rest h (more-is-stuck rest more) in
    unfinished-is-sound (length rest) at
    (sym (stop-of (cut ++ rest) rest left
    ∙ ap (stop_at (length (cut ++ rest) - length rest) (length rest)) more) ∙ e)

-- bytes are none exactly if their count is 0
pub empty-or-not : (xs ys : List ℕ) (b : Bool) → b ≡ (length xs == 0) → xs ≡ ys
    → (b ≡ true → ys ≡ []) × (b ≡ false → ys ≢ [])
empty-or-not [] ys b e s = (λ t. sym s, λ f. absurd (eqb-false 0 0 (sym e ∙ f) refl))
empty-or-not (x ∷ xs) ys b e s =
    let some : length (x ∷ xs) ≢ 0 = λ z. absurd (omega (arith, z)) in
    (λ t. absurd (some (eqb-true (length (x ∷ xs)) 0 (sym e ∙ t))), λ f z. absurd (cc (s, z)))

-- ---- what each ending says

by-fault : {K : Type 0} (facts : K → SinkFacts) (limit : ℕ) (i : SourceFacts) (o : SinkFacts)
    (j : SourceFacts) (taken extra : List ℕ) (all : Type 0) (sink : SinkBuffer K) (broken w : Bool)
    (found : DisplayEnd)
    → TakesInput limit false i j taken extra → IsText facts o taken all sink
    → is_broken sink ≡ broken
    → (is_broken sink ≡ false → w ≡ true → Displays limit i o j (facts (output_of sink)) found)
    → Displays limit i o j (facts (output_of sink)) (ending_by broken w found)
by-fault facts limit i o j taken extra all sink true w found takes t is else = record {
  taken = taken;
  extra = extra;
  takes = takes;
  written = broken-of o (facts (output_of sink)) t.text (shown_of taken) t.front
      (text-broken facts o taken all sink t is);
}
by-fault facts limit i o j taken extra all sink false false found takes t is else = record {
  taken = taken;
  extra = extra;
  takes = takes;
  text = t.text;
  front = t.front;
  written = text-taken facts o taken all sink t is;
}
by-fault facts limit i o j taken extra all sink false true found takes t is else = else is refl

all-taken : {K : Type 0} (facts : K → SinkFacts) (o : SinkFacts) (bytes : List ℕ) (all : Type 0)
    (sink : SinkBuffer K) → IsText facts o bytes all sink → all → is_broken sink ≡ false
    → TakesAll o (shown_of bytes) (facts (output_of sink))
all-taken facts o bytes all sink t whole sound =
    subst (λ text. TakesAll o text (facts (output_of sink))) (t.whole whole)
    (text-taken facts o bytes all sink t sound)

-- an unfinished record is left
partly : (rest : List ℕ) → rest ≢ [] → unfinished (length rest) ≡ Partial (length rest)
partly [] some = absurd (some refl)
partly (x ∷ rest) some = refl

read-fault : {K : Type 0} (facts : K → SinkFacts) (limit : ℕ) (i : SourceFacts) (o : SinkFacts)
    (j : SourceFacts) (taken : List ℕ) (all : Type 0) (sink : SinkBuffer K) (broken : Bool)
    → TakesInput limit true i j taken [] → HasNoBadRecord taken → IsText facts o taken all sink
    → is_broken sink ≡ broken → Displays limit i o j (facts (output_of sink)) end.ReadFault
read-fault facts limit i o j taken all sink true takes sound t is =
    record {
      taken = taken;
      takes = takes;
      sound = sound;
      text = t.text;
      front = t.front;
      written = inr (text-broken facts o taken all sink t is);
    }
read-fault facts limit i o j taken all sink false takes sound t is =
    record {
      taken = taken;
      takes = takes;
      sound = sound;
      text = t.text;
      front = t.front;
      written = inl (text-taken facts o taken all sink t is);
    }

-- the end of the input was found
at-end : {K : Type 0} (facts : K → SinkFacts) (limit : ℕ) (i : SourceFacts) (o : SinkFacts)
    (j : SourceFacts) (cut rest : List ℕ) (put : List MessageState) (sink : SinkBuffer K)
    (place : ℕ) (none_left : Bool)
    → DecodeCuts → IsCut cut put → TakesInput limit false i j (cut ++ rest) [] → IsReadToEnd j
    → first_of rest ≡ front.More
    → TakesAll o (shown_of (cut ++ rest)) (facts (output_of sink))
    → place ≡ length (cut ++ rest) - length rest
    → (none_left ≡ true → rest ≡ []) → (none_left ≡ false → rest ≢ [])
    → Displays limit i o j (facts (output_of sink)) (found_at_end place none_left)
at-end facts limit i o j cut rest put sink place true law h takes over more written at none some =
    let left = left-behind law cut put rest h (more-is-stuck rest more) in record {
      taken = cut ++ rest;
      takes = takes;
      over = over;
      stop = stop-of (cut ++ rest) rest left
          ∙ ap (stop_at (length (cut ++ rest) - length rest) (length rest)) more
          ∙ ap (λ r. unfinished (length r)) (none refl);
      written = written;
    }
at-end facts limit i o j cut rest put sink place false law h takes over more written at none some =
    let left = left-behind law cut put rest h (more-is-stuck rest more) in record {
      taken = cut ++ rest;
      takes = takes;
      stop = inr (
        over,
        (
          length rest,
          stop-of (cut ++ rest) rest left
              ∙ ap (stop_at (length (cut ++ rest) - length rest) (length rest)) more
              ∙ partly rest (some refl),
          omega (arith, at, length-append cut rest),
        ),
      );
      written = written;
    }

told-small : (place : ℕ) → place ≤ 2 ^ 64 - 1 → told place ≡ place
told-small place within = omega (arith, within)

-- a bad record stands first
at-bad : {K : Type 0} (facts : K → SinkFacts) (limit : ℕ) (i : SourceFacts) (o : SinkFacts)
    (j : SourceFacts) (cut rest : List ℕ) (put : List MessageState) (sink : SinkBuffer K)
    (place : ℕ) (why : BadWhy)
    → DecodeCuts → IsCut cut put → TakesInput limit false i j (cut ++ rest) []
    → first_of rest ≡ front.Bad why
    → TakesAll o (shown_of (cut ++ rest)) (facts (output_of sink))
    → place ≡ length (cut ++ rest) - length rest → place ≤ 2 ^ 64 - 1
    → Displays limit i o j (facts (output_of sink)) (end.BadRecord place)
at-bad facts limit i o j cut rest put sink place why law h takes bad written at within =
    let left = left-behind law cut put rest h (λ n e. absurd (cc (bad, e))) in record {
      taken = cut ++ rest;
      takes = takes;
      stop = inl (stop-of (cut ++ rest) rest left
          ∙ ap (stop_at (length (cut ++ rest) - length rest) (length rest)) bad
          ∙ ap Malformed (ap told (sym at) ∙ told-small place within));
      written = written;
    }

pub displays : {S K : Type 0} (sources : S → SourceFacts) (facts : K → SinkFacts) (i : SourceFacts)
    (o : SinkFacts) (window : Window S) (sink : SinkBuffer K) (cut : List ℕ)
    (put : List MessageState)
    (why : Stop) (w broken : Bool) (place : ℕ) (none_left : Bool) → FormatsRecords → DecodeCuts
    → IsCut cut put → StopsAt sources i window cut why
    → HasEnded facts format_gives separate_gives o put w sink → is_broken sink ≡ broken
    → (why ≡ stop.Broken → is_broken sink ≡ true)
    → place ≡ count_of window.input - length (rest_of window) → place ≤ 2 ^ 64 - 1
    → (none_left ≡ true → rest_of window ≡ []) → (none_left ≡ false → rest_of window ≢ [])
    → Displays (limit_of window.input) i o (sources (input_of window.input))
    (facts (output_of sink)) (ending_of why broken w place none_left)
displays sources facts i o window sink cut put stop.Over w broken place none_left formats law h
    (windows, over, more) ended is is_broken' at within none some =
    let rest = rest_of window in
    let stuck = more-is-stuck rest more in
    let t = text-of-run facts o cut rest put w sink formats law h ended in
    by-fault facts (limit_of window.input) i o (sources (input_of window.input)) (cut ++ rest) []
    ((w ≡ true) × IsStuck rest) sink broken w (found_at_end place none_left) windows.gave.takes
    t is
    (λ sound whole. at-end facts (limit_of window.input) i o (sources (input_of window.input)) cut
    rest put sink place none_left law h windows.gave.takes over more
    (all-taken facts o (cut ++ rest) ((w ≡ true) × IsStuck rest) sink t (whole, stuck) sound)
    (at ∙ ap (λ n. n - length rest) windows.gave.counts) none some)
displays sources facts i o window sink cut put stop.Bad w broken place none_left formats law h
    (windows, (why, bad)) ended is is_broken' at within none some =
    let rest = rest_of window in
    let stuck : IsStuck rest = λ n e. absurd (cc (bad, e)) in
    let t = text-of-run facts o cut rest put w sink formats law h ended in
    by-fault facts (limit_of window.input) i o (sources (input_of window.input)) (cut ++ rest) []
    ((w ≡ true) × IsStuck rest) sink broken w (end.BadRecord place) windows.gave.takes t is
    (λ sound whole. at-bad facts (limit_of window.input) i o (sources (input_of window.input)) cut
    rest put sink place why law h windows.gave.takes bad
    (all-taken facts o (cut ++ rest) ((w ≡ true) × IsStuck rest) sink t (whole, stuck) sound)
    (at ∙ ap (λ n. n - length rest) windows.gave.counts) within)
displays sources facts i o window sink cut put stop.Failed w broken place none_left formats law h
    (rest, more, takes) ended is is_broken' at within none some =
    read-fault facts (limit_of window.input) i o (sources (input_of window.input)) (cut ++ rest)
    ((w ≡ true) × IsStuck rest) sink broken takes (no-bad law cut put rest h more)
    (text-of-run facts o cut rest put w sink formats law h ended) is
displays sources facts i o window sink cut put stop.TooLong w broken place none_left formats law h
    (rest, more, long) ended is is_broken' at within none some =
    let stuck = more-is-stuck rest more in
    let t = text-of-run facts o cut rest put w sink formats law h ended in
    by-fault facts (limit_of window.input) i o (sources (input_of window.input)) (cut ++ rest)
    (long.more ∷ []) ((w ≡ true) × IsStuck rest) sink broken w end.TooLong long.takes t is
    (λ sound whole. record {
      taken = cut ++ rest;
      more = long.more;
      takes = long.takes;
      sound = no-bad law cut put rest h more;
      written = all-taken facts o (cut ++ rest) ((w ≡ true) × IsStuck rest) sink t (whole, stuck)
          sound;
    })
displays sources facts i o window sink cut put stop.NoMemory w broken place none_left formats law h
    (rest, takes) ended is is_broken' at within none some =
    let t = text-of-run facts o cut rest put w sink formats law h ended in
    by-fault facts (limit_of window.input) i o (sources (input_of window.input)) (cut ++ rest) []
    ((w ≡ true) × IsStuck rest) sink broken w end.NoMemory takes t is
    (λ sound whole. record {
      taken = cut ++ rest;
      extra = [];
      takes = takes;
      text = t.text;
      front = t.front;
      written = text-taken facts o (cut ++ rest) ((w ≡ true) × IsStuck rest) sink t sound;
    })
displays sources facts i o window sink cut put stop.Broken w broken place none_left formats law h
    windows ended is is_broken' at within none some =
    let rest = rest_of window in
    let t = text-of-run facts o cut rest put w sink formats law h ended in record {
      taken = cut ++ rest;
      extra = [];
      takes = windows.gave.takes;
      written = broken-of o (facts (output_of sink)) t.text (shown_of (cut ++ rest)) t.front
          (text-broken facts o (cut ++ rest) ((w ≡ true) × IsStuck rest) sink t (is_broken' refl));
    }
