-- The numbers of a journal's notes, handler by handler.
use Rattle.std.proofs.Common.{ℕ, ◌≡◌, ◌+◌, ◌<◌, ◌==◌, Bool, true, false, cond, ◌||◌, List, [], ◌∷◌}
use Rattle.std.proofs.Common.{◌++◌, refl, sym, ap, ◌∙◌, subst, arith, append_assoc}
use Rattle.std.specs.List.{list_any, sum_by}
use Rattle.std.proofs.lemmas.Bool.{false≢true, or_parts, and_parts, eq-eqb, ne_eqb}
use Rattle.std.proofs.lemmas.List.Sums.{sum_by-cons, sum_by-append}
use Rattle.laws_script_complete.specs.ev_types.specs.declared.upcall.Answer.{Answer}
use Rattle.laws_script_complete.specs.ev_types.specs.declared.upcall.Handle.{Handle}
use Rattle.laws_script_complete.specs.reactor_journal.specs.Event.{Item}
use Rattle.laws_script_complete.specs.reactor_journal.specs.declared.entry.Entry.{Entry}
use Rattle.laws_script_complete.specs.reactor_journal.specs.declared.entry.Entry.TheVariants.{
  Returned,
}
use Rattle.laws_script_complete.specs.reactor_journal.specs.declared.entry.Entry.TheVariants.{
  Refused,
}
use Rattle.laws_script_complete.specs.reactor_journal.specs.declared.entry.Entry.TheVariants.{
  Closed,
}
use Rattle.laws_script_complete.specs.reactor_journal.specs.Past.{had}
use Rattle.laws_script_complete.specs.reactor_journal.specs.Past.{items_made}
use Rattle.laws_script_complete.specs.reactor_journal.specs.Past.{was_opened}
use Rattle.laws_script_complete.specs.reactor_journal.specs.Past.{was_closed}
use Rattle.laws_script_complete.specs.reactor_journal.specs.Follow.{may_follow}
use Rattle.laws_script_complete.specs.reactor_journal.specs.Follow.{is_legal}
use Rattle.laws_script_complete.specs.reactor_journal.proofs.Basics.{may_fits}
use Rattle.laws_script_complete.specs.reactor_journal.proofs.Closing.{closing}
use Rattle.laws_script_complete.specs.reactor_journal.proofs.Turning.{is_legal-front}
use Rattle.laws_script_complete.specs.log_handler.specs.declared.note.ServerNote.{ServerNote}
use Rattle.laws_script_complete.specs.laws_script_runs.specs.Runs.{is_refusal}
use Rattle.laws_script_complete.specs.laws_script_runs.proofs.Settling as settling
use Rattle.laws_script_complete.specs.laws_script_runs.proofs.Settling.{opened_later}
use Rattle.run_summary.specs.Summaries.{of_note, in_notes}
use Rattle.laws_gen.proofs.Sums.{below, sum_plus, same_below, none_below, one_below}

-- the number of a note of a turn, and of a closing
abbrev pub of_turn : (ServerNote → ℕ) → Entry ServerNote → ℕ
of_turn number (Returned event answer said) = number said
of_turn number _ = 0

abbrev pub of_closing : (ServerNote → ℕ) → Entry ServerNote → ℕ
of_closing number (Closed handle said) = number said
of_closing number _ = 0

of_both : (number : ServerNote → ℕ) (e : Entry ServerNote) → is_refusal e ≡ false
    → of_note number e ≡ of_turn number e + of_closing number e
of_both number (Returned event answer said) none = omega arith
of_both number (Refused live fault said) none = absurd (false≢true (sym none))
of_both number (Closed handle said) none = omega arith
of_both number _ none = refl

-- no handler was refused: each note is of a turn or of a closing
pub in_both : (number : ServerNote → ℕ) (past : List (Entry ServerNote))
    → list_any is_refusal past ≡ false
    → in_notes number past ≡ sum_by (of_turn number) past + sum_by (of_closing number) past
in_both number [] none = refl
in_both number (e ∷ past) none =
    let parts = or_parts (is_refusal e) (list_any is_refusal past) none in
    omega (
      arith,
      sum_by-cons (of_note number) e past,
      sum_by-cons (of_turn number) e past,
      sum_by-cons (of_closing number) e past,
      of_both number e parts.0,
      in_both number past parts.1,
    )

-- the number of an item's note
abbrev pub of_item : (ServerNote → ℕ) → Item ServerNote → ℕ
of_item number item = number item.note

one_item : (number : ServerNote → ℕ) (item : Item ServerNote)
    → sum_by (of_item number) (item ∷ []) ≡ number item.note
one_item number item = sum_by-cons (of_item number) item [] ∙ omega arith

module _ (most : ℕ) (all : List (Entry ServerNote)) (legal : is_legal most all ≡ true)
    (handlers : ℕ) (none_else : (x : ℕ) → was_opened all x ≡ true → x < handlers) where
  shifted : (later : List (Entry ServerNote)) (e : Entry ServerNote)
      (past : List (Entry ServerNote)) → all ≡ later ++ e ∷ past → all ≡ (later ++ e ∷ []) ++ past
  shifted later e past is = is ∙ sym (append_assoc later (e ∷ []) past)

  opened_in_all : (later past : List (Entry ServerNote)) (x : ℕ) → all ≡ later ++ past
      → was_opened past x ≡ true → was_opened all x ≡ true
  opened_in_all later past x is o = ap (λ (p : List (Entry ServerNote)). was_opened p x) is
      ∙ opened_later later past x o

  -- ---- turns

  module _ (number : ServerNote → ℕ) where
    one_turn : (later past : List (Entry ServerNote)) (event : ℕ) (answer : Answer)
        (said : ServerNote) → all ≡ later ++ Returned event answer said ∷ past
        → below handlers (λ y. sum_by (of_item number)
        (items_made past y (Returned event answer said))) ≡ number said
    one_turn later past event answer said is =
        let t = settling.turn_of most all legal later past event answer said is in
        let o = opened_in_all (later ++ Returned event answer said ∷ []) past t.x
        (shifted later (Returned event answer said) past is) t.turn.opened_now in
        one_below handlers t.x (λ y. sum_by (of_item number)
        (items_made past y (Returned event answer said))) (none_else t.x o)
        (λ y other. ap (sum_by (of_item number)) (t.turn.others y other))
        ∙ ap (sum_by (of_item number)) t.turn.made ∙ one_item number t.turn.item
        ∙ ap number t.turn.notes

    nothing_made : (past : List (Entry ServerNote)) (e : Entry ServerNote)
        → ((y : ℕ) → items_made past y e ≡ []) → of_turn number e ≡ 0
        → below handlers (λ y. sum_by (of_item number) (items_made past y e)) ≡ of_turn number e
    nothing_made past e none zero_ = none_below handlers
        (λ y. sum_by (of_item number) (items_made past y e))
        (λ c lt. ap (sum_by (of_item number)) (none c)) ∙ sym zero_

    one_entry : (later past : List (Entry ServerNote)) (e : Entry ServerNote)
        → all ≡ later ++ e ∷ past → below handlers
        (λ y. sum_by (of_item number) (items_made past y e)) ≡ of_turn number e
    one_entry later past (Returned event answer said) is = one_turn later past event answer said is
    one_entry later past (Refused live fault said) is =
        nothing_made past (Refused live fault said) (λ y. refl) refl
    one_entry later past (Closed handle said) is =
        nothing_made past (Closed handle said) (λ y. refl) refl
    one_entry later past e is = nothing_made past e (λ y. refl) refl

    turns_so_far : (later past : List (Entry ServerNote)) → all ≡ later ++ past
        → sum_by (of_turn number) past ≡ below handlers (λ y. sum_by (of_item number) (had past y))
    turns_so_far later [] is = sym (none_below handlers (λ y. sum_by (of_item number) [])
        (λ c lt. refl))
    turns_so_far later (e ∷ past) is =
        let rest = turns_so_far (later ++ e ∷ []) past (shifted later e past is) in
        let parts = same_below (λ y. sum_by (of_item number) (had past y ++ items_made past y e))
        (λ y. sum_by (of_item number) (had past y)
        + sum_by (of_item number) (items_made past y e)) handlers
        (λ c lt. sum_by-append (of_item number) (had past c) (items_made past c e)) in
        let sums = sum_plus (λ (y : ℕ). sum_by (of_item number) (had past y))
        (λ (y : ℕ). sum_by (of_item number) (items_made past y e))
        (Rattle.std.specs.List.range_with_len 0 handlers) in
        omega (
          arith,
          sum_by-cons (of_turn number) e past,
          rest,
          parts,
          sums,
          one_entry later past e is,
        )

    -- the notes of all turns are those of each handler's turns
    pub of_all_turns : sum_by (of_turn number) all
        ≡ below handlers (λ y. sum_by (of_item number) (had all y))
    of_all_turns = turns_so_far [] all refl

  -- ---- closings

  module _ (number : ServerNote → ℕ) (weight : ℕ → ℕ)
      (weighs : (later past : List (Entry ServerNote)) (handle : Handle) (said : ServerNote)
      → all ≡ later ++ Closed handle said ∷ past → number said ≡ weight handle.0) where
    abbrev weight_of : List (Entry ServerNote) → ℕ → ℕ
    weight_of past y = cond (was_closed past y) (weight y) 0

    abbrev now_closed : Handle → ℕ → ℕ
    now_closed handle y = cond (handle.0 == y) (weight y) 0

    with_one : (b c : Bool) (w : ℕ) → (b ≡ true → c ≡ false)
        → cond (b || c) w 0 ≡ cond c w 0 + cond b w 0
    with_one true true w apart = absurd (false≢true (sym (apart refl)))
    with_one true false w apart = omega arith
    with_one false true w apart = omega arith
    with_one false false w apart = refl

    at_handle : (b : Bool) (x y : ℕ) (past : List (Entry ServerNote)) → (x == y) ≡ b
        → was_closed past x ≡ false → b ≡ true → was_closed past y ≡ false
    at_handle b x y past is none so = subst (λ (k : ℕ). was_closed past k ≡ false)
        (Rattle.std.proofs.lemmas.Bool.eqb-true x y (is ∙ so)) none

    one_closing : (later past : List (Entry ServerNote)) (handle : Handle) (said : ServerNote)
        → all ≡ later ++ Closed handle said ∷ past
        → below handlers (weight_of (Closed handle said ∷ past))
        ≡ below handlers (weight_of past) + number said
    one_closing later past handle said is =
        let here : is_legal most (Closed handle said ∷ past) ≡ true =
        is_legal-front most later (Closed handle said ∷ past)
        (sym (ap (is_legal most) is) ∙ legal) in
        let w = closing past handle.0 (may_fits most past (Closed handle said)
        (and_parts (may_follow most past (Closed handle said)) (is_legal most past) here).0) in
        let o = opened_in_all (later ++ Closed handle said ∷ []) past handle.0
        (shifted later (Closed handle said) past is) w.0 in
        let parts = same_below (weight_of (Closed handle said ∷ past))
        (λ y. weight_of past y + now_closed handle y) handlers
        (λ c lt. with_one (handle.0 == c) (was_closed past c) (weight c)
        (λ same. at_handle (handle.0 == c) handle.0 c past refl w.3 same)) in
        let sums = sum_plus (weight_of past) (now_closed handle)
        (Rattle.std.specs.List.range_with_len 0 handlers) in
        let one : below handlers (now_closed handle) ≡ now_closed handle handle.0 =
        one_below handlers handle.0 (now_closed handle) (none_else handle.0 o)
        (λ y other. ap (λ (b : Bool). cond b (weight y) 0)
        (ne_eqb handle.0 y (λ q. other (sym q)))) in
        let self : now_closed handle handle.0 ≡ weight handle.0 =
        ap (λ (b : Bool). cond b (weight handle.0) 0) (eq-eqb handle.0 handle.0 refl) in
        omega (arith, parts, sums, one, self, weighs later past handle said is)

    closings_so_far : (later past : List (Entry ServerNote)) → all ≡ later ++ past
        → sum_by (of_closing number) past ≡ below handlers (weight_of past)
    closings_so_far later [] is = sym (none_below handlers (weight_of []) (λ c lt. refl))
    closings_so_far later (Closed handle said ∷ past) is =
        let rest = closings_so_far (later ++ Closed handle said ∷ []) past
        (shifted later (Closed handle said) past is) in
        omega (
          arith,
          sum_by-cons (of_closing number) (Closed handle said) past,
          rest,
          one_closing later past handle said is,
        )
    closings_so_far later (e ∷ past) is =
        let rest = closings_so_far (later ++ e ∷ []) past (shifted later e past is) in
        omega (arith, sum_by-cons (of_closing number) e past, rest)

    -- each handler that is closed is so once
    pub of_all_closings : sum_by (of_closing number) all ≡ below handlers (weight_of all)
    of_all_closings = closings_so_far [] all refl
