-- No connection is accepted but those of the script: the acceptor, closed at last, had its turns
-- over the listener's story.
use Rattle.std.proofs.Common.{◌≡◌, ◌∙◌, ◌<◌, ◌≤◌, ◌+◌, inl, inr, ℕ, true, List, [], ◌∷◌, ◌++◌}
use Rattle.std.proofs.Common.{length, Option, Some, refl, sym, subst, ap, arith, length-append}
use Rattle.std.proofs.Common.{append_assoc}
use Rattle.std.specs.Prelude.{flat_map}
use Rattle.std.specs.List.{AllByRecursion}
use Rattle.std.proofs.lemmas.Grind.{flat_map-append}
use Rattle.laws_script_runs.specs.ev_types.specs.declared.upcall.Answer.{Answer}
use Rattle.laws_script_runs.specs.ev_base.specs.Story.{Offering}
use Rattle.laws_script_runs.specs.ev_base.specs.End.{EndFacts}
use Rattle.laws_script_runs.specs.ev_base.specs.Terms.{Terms}
use Rattle.laws_script_runs.specs.reactor_journal.specs.Event.{Item}
use Rattle.laws_script_runs.specs.reactor_journal.specs.declared.entry.Entry.{Entry}
use Rattle.laws_script_runs.specs.reactor_journal.specs.declared.entry.Entry.TheVariants.{Returned}
use Rattle.laws_script_runs.specs.reactor_journal.specs.declared.entry.Entry.TheVariants.{Closed}
use Rattle.laws_script_runs.specs.reactor_journal.specs.Past.{had, origin_of, reason_of, was_opened}
use Rattle.laws_script_runs.specs.reactor_journal.specs.Past.{was_closed}
use Rattle.laws_script_runs.specs.reactor_journal.specs.Follow.{is_legal}
use Rattle.laws_script_runs.specs.acceptor.specs.Accepting as accepting
use Rattle.laws_script_runs.specs.acceptor.specs.Laws.{number_in, number_accepted, numbers_from}
use Rattle.laws_script_runs.specs.acceptor.specs.Laws.{TakesOffers}
use Rattle.laws_script_runs.specs.acceptor.specs.Servers.{ServerGone}
use Rattle.laws_script_runs.specs.acceptor.proofs.Accounts as acceptor_accounts
use Rattle.laws_script_runs.specs.log_handler.specs.declared.note.ServerNote.{ServerNote}
use Rattle.laws_script_runs.specs.log_handler.specs.declared.note.ServerNote.TheVariants as note
use Rattle.laws_script_runs.specs.log_handler.specs.Laws.{IsPieceOf}
use Rattle.laws_script_runs.specs.log_handler.proofs.Accounts.{accounts}
use Rattle.laws_script_runs.specs.event_script.specs.Script.{ScriptStep, opened}
use Rattle.laws_script_runs.specs.event_script.specs.Stories.{offers}
use Rattle.laws_script_runs.specs.laws_script_turns.specs.Laws.{unoffered}
use Rattle.laws_script_runs.specs.Steps.{EachStep}
use Rattle.laws_script_runs.proofs.Handles.{found, had_found}
use Rattle.laws_script_runs.proofs.Notes.{all_last, number_next}
use Rattle.laws_script_runs.proofs.Taking.{length_numbers, few_taken}
use Rattle.laws_script_runs.proofs.Settling as settling
use Rattle.laws_script_runs.proofs.Settling.{opened_later}
use Rattle.laws_script_calls.specs.Leaving.{HaveStories}

-- ---- how many connections an acceptor takes

-- the number of one that it noted is below how many it took
below_taken : (taken k : ℕ) (xs : List (Item ServerNote)) (item : Item ServerNote)
    (ys : List (Item ServerNote)) → flat_map number_in ((xs ++ item ∷ []) ++ ys)
    ≡ numbers_from 0 taken
    → item.note ≡ note.Accepted k → k < taken
below_taken taken k xs item ys are is =
    let number : k ≡ 0 + length (flat_map number_in xs) = number_next 0 taken xs item ys k are is in
    let outer : length (flat_map number_in ((xs ++ item ∷ []) ++ ys))
    ≡ length (flat_map number_in (xs ++ item ∷ [])) + length (flat_map number_in ys) =
    ap length (flat_map-append number_in (xs ++ item ∷ []) ys)
    ∙ length-append (flat_map number_in (xs ++ item ∷ [])) (flat_map number_in ys) in
    let inner : length (flat_map number_in (xs ++ item ∷ []))
    ≡ length (flat_map number_in xs) + length (flat_map number_in (item ∷ [])) =
    ap length (flat_map-append number_in xs (item ∷ []))
    ∙ length-append (flat_map number_in xs) (flat_map number_in (item ∷ [])) in
    let one : length (flat_map number_in (item ∷ [])) ≡ 1 =
    ap (λ (n : ServerNote). length (number_accepted n ++ [])) is in
    let many : length (flat_map number_in ((xs ++ item ∷ []) ++ ys)) ≡ taken =
    ap length are ∙ length_numbers 0 taken in
    omega (arith, number, outer, inner, one, many)

-- ---- in a journal whose handlers were all closed

abbrev pub NoteBelow : ℕ → ServerNote → Type 0
NoteBelow many (note.Accepted c) = c < many
NoteBelow many _ = Unit {0}

abbrev pub EntryBelow : ℕ → List (Entry ServerNote) → Entry ServerNote → Type 0
EntryBelow many past (Returned event answer said) = NoteBelow many said
EntryBelow many past _ = Unit {0}

-- no piece accepts a connection
piece_below : (many conn : ℕ) (said : ServerNote) (item : Item ServerNote) → item.note ≡ said
    → IsPieceOf conn item → NoteBelow many said
piece_below many conn said item is piece = subst (NoteBelow many) (sym piece.2 ∙ is) tt

module _ {E : Type 0} (tells : E → EndFacts) (keeps : Terms → E → Type 0) (t : Terms)
    (steps : List ScriptStep) (idle : Option ℕ) (have : HaveStories t steps idle) where
  -- each handler that was closed left what one of the server does
  abbrev pub IsGone : List (Entry ServerNote) → Entry ServerNote → Type 0
  IsGone past (Closed handle said) =
      (end : E) × ServerGone tells keeps t (origin_of past handle.0) end (had past handle.0)
      (reason_of past handle.0) said
  IsGone past _ = Unit {0}

  listener_below : (now : accepting.Progress) (offering : Option Offering)
      (items : List (Item ServerNote)) → offering ≡ Some (unoffered (offers steps))
      → accepting.Course (accepting.at_start offering) items now
      → (xs : List (Item ServerNote)) (item : Item ServerNote) (ys : List (Item ServerNote))
      → items ≡ (xs ++ item ∷ []) ++ ys → (k : ℕ) → item.note ≡ note.Accepted k
      → k < opened steps
  listener_below now offering items told course xs item ys are k is =
      let account = acceptor_accounts.accounts offering items now course in
      let few : now.taken ≤ opened steps =
      few_taken steps now.offering now.taken
      (subst (λ (o : Option Offering). TakesOffers o now.offering 0 now.taken) told
      account.offers) in
      let below : k < now.taken = below_taken now.taken k xs item ys
      (ap (flat_map number_in) (sym are) ∙ account.notes) is in
      omega (arith, few, below)

  turn_below : (items : List (Item ServerNote)) (said : ServerNote) (xs : List (Item ServerNote))
      (item : Item ServerNote) (ys : List (Item ServerNote)) → items ≡ (xs ++ item ∷ []) ++ ys
      → item.note ≡ said
      → (origin : _) (end : E) (reason : _) (left : ServerNote)
      → ServerGone tells keeps t origin end items reason left → NoteBelow (opened steps) said
  turn_below items (note.Accepted k) xs item ys are is origin end reason left (inl gone) =
      let g = gone.listened in listener_below g.now g.offering items
      (g.story (offers steps) have.of_listener) g.course xs item ys are k is
  turn_below items _ xs item ys are is origin end reason left (inl gone) = tt
  turn_below items said xs item ys are is origin end reason left (inr gone) =
      let s = gone.served in
      let notes = (accounts gone.conn gone.idle s.moment _ items s.now s.course).notes in
      piece_below (opened steps) gone.conn said item is
      (all_last (IsPieceOf gone.conn) xs item ys
      (subst (AllByRecursion (IsPieceOf gone.conn)) are notes))

  module _ (most : ℕ) (all : List (Entry ServerNote)) (legal : is_legal most all ≡ true)
      (closed : (x : ℕ) → was_opened all x ≡ true → was_closed all x ≡ true)
      (gone : EachStep IsGone all) where
    settled_below : (later past : List (Entry ServerNote)) (event : ℕ) (answer : Answer)
        (said : ServerNote) → all ≡ later ++ Returned event answer said ∷ past
        → NoteBelow (opened steps) said
    settled_below later past event answer said is =
        let settled = settling.turn_of most all legal later past event answer said is in
        let turn = settled.turn in
        let opened_now : was_opened all settled.x ≡ true =
        ap (λ (p : List (Entry ServerNote)). was_opened p settled.x) is
        ∙ opened_later later (Returned event answer said ∷ past) settled.x turn.opened_now in
        let f = found IsGone all settled.x (closed settled.x opened_now) gone in
        let items : had all settled.x ≡ had f.before f.handle.0 =
        had_found most IsGone all settled.x legal f ∙ ap (had f.before) (sym f.mine) in
        turn_below (had f.before f.handle.0) said (had past settled.x) turn.item turn.more
        (sym items ∙ turn.among) turn.notes _ f.left.0 _ f.said f.left.1

    shifted : (later : List (Entry ServerNote)) (e : Entry ServerNote)
        (past : List (Entry ServerNote)) → all ≡ later ++ e ∷ past → all ≡ (later ++ e ∷ []) ++ past
    shifted later e past is = is ∙ sym (append_assoc later (e ∷ []) past)

    entry_below : (later past : List (Entry ServerNote)) (e : Entry ServerNote)
        → all ≡ later ++ e ∷ past → EntryBelow (opened steps) past e
    entry_below later past (Returned event answer said) is =
        settled_below later past event answer said is
    entry_below later past _ is = tt

    each_below : (later past : List (Entry ServerNote)) → all ≡ later ++ past
        → EachStep (EntryBelow (opened steps)) past
    each_below later [] is = tt
    each_below later (e ∷ past) is = (
      entry_below later past e is,
      each_below (later ++ e ∷ []) past (shifted later e past is),
    )

    pub all_below : EachStep (EntryBelow (opened steps)) all
    all_below = each_below [] all refl
