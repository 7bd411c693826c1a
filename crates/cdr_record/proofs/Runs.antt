-- Runs of feeds, and how reading stops.
use Rattle.std.proofs.Common.{◌≡◌, ℕ, zero, suc, List, [], ◌∷◌, ◌++◌, length, refl, sym, ◌∙◌, ap}
use Rattle.std.proofs.Common.{arith, Option}
use Rattle.std.proofs.lemmas.List.{append_assoc, append-nil}
use Rattle.cdr_record.specs.declared.record.LogRecord.{LogRecord}
use Rattle.cdr_record.specs.declared.bad.Bad.{Bad as BadRecord}
use Rattle.cdr_record.specs.declared.bad.BadWhy.{BadWhy}
use Rattle.cdr_record.specs.declared.grammar.First.{First}
use Rattle.cdr_record.specs.declared.grammar.First.TheVariants.{More, Bad, One}
use Rattle.cdr_record.specs.Grammar.{first_of}
use Rattle.cdr_record.specs.Decoding.{records_of, left_of, taken_of, stop_at, Stop, Malformed}
use Rattle.cdr_record.specs.Decoding.{Decoded, decode, DecoderState, StandsFor}
use Rattle.cdr_record.specs.Feeding.{RunsThrough, fresh, joined}
use Rattle.cdr_record.proofs.Growing.{bad_stays}
use Rattle.cdr_record.proofs.Cutting.{Stops, first_nil, is_left, goes_on, taken_of-append}
use Rattle.cdr_record.proofs.Taking.{stuck, fresh_stands}

-- a decoder that stood for t was fed the pieces
pub record RunsOn (t : List ℕ) (pieces : List (List ℕ)) (given : List LogRecord)
    (new : DecoderState) : Type 0 where
  pub records : records_of (t ++ joined pieces) ≡ records_of t ++ given
  pub stands : StandsFor new (t ++ joined pieces)

pub runs_on : (pieces : List (List ℕ)) (records : List LogRecord) (old new : DecoderState)
    (t : List ℕ) → RunsThrough old pieces records new → StandsFor old t
    → RunsOn t pieces records new
runs_on [] records old new t run s =
    record {
      records = rw (append-nil t, run.0) (sym (append-nil (records_of t)));
      stands = rw (append-nil t, run.1) s;
    }
runs_on (piece ∷ pieces) records old new t run s =
    let fed = run.0 in
    let more = run.2 in
    let feeds = run.3 in
    let on = runs_on pieces more run.1 new (t ++ piece) run.4 (feeds.stands t s) in
    let whole = append_assoc t piece (joined pieces) in
    record {
      records = ap records_of (sym whole) ∙ on.records ∙ ap (λ rs. rs ++ more) (feeds.records t s)
          ∙ append_assoc (records_of t) fed.records more
          ∙ ap (λ rs. records_of t ++ rs) (sym run.5);
      stands = rw (← whole) on.stands;
    }

pub gives_all_records : (pieces : List (List ℕ)) (records : List LogRecord) (new : DecoderState)
    → RunsThrough fresh pieces records new
    → (records ≡ records_of (joined pieces)) × StandsFor new (joined pieces)
gives_all_records pieces records new run =
    let on = runs_on pieces records fresh new [] run fresh_stands in
    let none = stuck [] More first_nil tt in
    (sym (on.records ∙ ap (λ rs. rs ++ records) none.records), on.stands)

-- a list determines the decoder that stands for it
same_fields : (o o' : ℕ) (r r' : List ℕ) (b b' : Option BadRecord) → o ≡ o' → r ≡ r' → b ≡ b'
    → ◌≡◌ {A = DecoderState} (record { offset = o; rest = r; bad = b })
    (record { offset = o'; rest = r'; bad = b' })
same_fields o o' r r' b b' eo er eb = rw (eo, er, eb) refl

pub same_state : (d e : DecoderState) (t : List ℕ) → StandsFor d t → StandsFor e t → d ≡ e
same_state d e t s u = same_fields d.offset e.offset d.rest e.rest d.bad e.bad
    (s.offset ∙ sym u.offset) (s.rest ∙ sym u.rest) (s.bad ∙ sym u.bad)

-- ---- a bad record

malformed_is_bad : (place left at : ℕ) (v : First) → Stops v → stop_at place left v ≡ Malformed at
    → (w : BadWhy) × (v ≡ Bad w)
malformed_is_bad place left at (Bad w) s e = (w, refl)
malformed_is_bad place left at (One n) s e = absurd s
malformed_is_bad place zero at More s e = cc
malformed_is_bad place (suc left) at More s e = cc

same_decoded : (rs rs' : List LogRecord) (s s' : Stop) → rs ≡ rs' → s ≡ s'
    → ◌≡◌ {A = Decoded} (record { records = rs; stop = s }) (record { records = rs'; stop = s' })
same_decoded rs rs' s s' er es = rw (er, es) refl

stop_at-bad : (a b l m : ℕ) (w : BadWhy) (v u : First) → a ≡ b → v ≡ Bad w → u ≡ Bad w
    → stop_at a l v ≡ stop_at b m u
stop_at-bad a b l m w v u e ev eu = rw (ev, eu, e) refl

pub bad_ends : (t more : List ℕ) (at : ℕ) → (decode t).stop ≡ Malformed at
    → decode (t ++ more) ≡ decode t
bad_ends t more at e =
    let bad = malformed_is_bad (taken_of t) (length (left_of t)) at (first_of (left_of t))
    (is_left t).stops e in
    let on = goes_on t more in
    let end = stuck (left_of t ++ more) (Bad bad.0) (bad_stays (left_of t) more bad.0 bad.1) tt in
    let first : first_of (left_of (t ++ more)) ≡ Bad bad.0 = ap first_of on.left ∙ end.first in
    let taken : taken_of (t ++ more) ≡ taken_of t =
    omega (arith, taken_of-append t more, end.taken) in
    same_decoded (records_of (t ++ more)) (records_of t) _ _
    (on.records ∙ ap (λ rs. records_of t ++ rs) end.records ∙ append-nil (records_of t))
    (stop_at-bad (taken_of (t ++ more)) (taken_of t) (length (left_of (t ++ more)))
    (length (left_of t)) bad.0 (first_of (left_of (t ++ more))) (first_of (left_of t)) taken
    first bad.1)
