-- The lines of a connection, put entry by entry.
use Rattle.std.proofs.Common.{◌≡◌, ◌≤◌, ◌<◌, arith, ℕ, suc, true, List, ◌++◌, length, take}
use Rattle.std.proofs.Common.{slice_get, Some, sym, ap, ◌∙◌, subst, append_assoc, append-nil}
use Rattle.sink_buffer.specs.Texts.{Puts}
use Rattle.reactor_journal.specs.declared.entry.Entry.{Entry}
use Rattle.log_handler.specs.declared.note.ServerNote.{ServerNote}
use Rattle.log_handler.specs.Notes.{entry_lines}
use Rattle.laws_script_runs.specs.Connections.{is_entry_of, lines_of}
use Rattle.grouped_lines.specs.Chains.{place_from}
use Rattle.grouped_lines.proofs.Places.{place-within, place-is, lines-skipped, lines-next}

module _ {Since Out : Type 0} (stands : Since → Out → List ℕ → Type 0) (c : ℕ)
    (es : List (Entry ServerNote)) where
  -- the lines before a place were put, and the entry there, if there is one, is of the connection
  abbrev IsAt : Out → ℕ → Out → Type 0
  IsAt first at out = (at ≤ length es) × Puts stands first (lines_of c (take at es)) out
      × ((e : Entry ServerNote) → slice_get es at ≡ Some e → is_entry_of c e ≡ true)

  pub begins-at : (at : ℕ) (out : Out) → at ≡ place_from c es 0 → IsAt out at out
  begins-at at out is = subst (λ n. IsAt out n out) (sym is) (
    (place-within c es 0 (omega arith)).1,
    (λ since text s. subst (λ t. stands since out t)
        (sym (append-nil text) ∙ ap (λ l. text ++ l) (sym (lines-skipped c es 0))) s),
    place-is c es 0,
  )

  pub goes-on : (at next : ℕ) (e : Entry ServerNote) (first old new : Out)
      → slice_get es at ≡ Some e → at < length es → IsAt first at old
      → Puts stands old (entry_lines e) new → next ≡ place_from c es (suc at)
      → IsAt first next new
  goes-on at next e first old new here within was put is = subst (λ n. IsAt first n new) (sym is) (
    (place-within c es (suc at) within).1,
    (λ since text s. subst (λ t. stands since new t)
        (append_assoc text (lines_of c (take at es)) (entry_lines e)
        ∙ ap (λ l. text ++ l) (sym (lines-next c es at e here (was.2 e here))
        ∙ sym (lines-skipped c es (suc at))))
        (put since (text ++ lines_of c (take at es)) (was.1 since text s))),
    place-is c es (suc at),
  )

  pub rises : (at next : ℕ) → at < length es → next ≡ place_from c es (suc at) → at < next
  rises at next within is = let from = (place-within c es (suc at) within).0 in
      omega (arith, is, from)
