-- Each handle that a legal journal opened has a lane of its own.
use Rattle.std.proofs.Common.{rules, ◌≡◌, ◌∙◌, ℕ, suc, ◌+◌, ◌<◌, Bool, true, false, cond, List}
use Rattle.std.proofs.Common.{refl, arith}
use Rattle.std.proofs.lemmas.Bool.{cond-true}
use Rattle.std.proofs.lemmas.List.Recursion.{is_count_by}
use Rattle.std.specs.Prelude.{nat_lt}
use Rattle.std.specs.List.{count_by}
use Rattle.reactor_journal.specs.declared.entry.Entry.{Entry}
use Rattle.reactor_journal.specs.Past.{past_of, count, is_opened, opened}
use Rattle.reactor_journal.proofs.Alive.{opened_below}
use Rattle.reactor_journal.proofs.Turning.{count-past}
use Rattle.log_handler.specs.declared.note.ServerNote.{ServerNote}
use Rattle.journal_picture.specs.Pictures.{opened_in}
use Rattle.journal_picture.specs.Laws.{HasItsLane}

-- the two ways to count
counted : (entries : List (Entry ServerNote)) → count is_opened entries ≡ count_by is_opened entries
counted entries = is_count_by (count is_opened) is_opened refl
    (λ e es. one_more (is_opened e) (count is_opened es)) entries
  where
    one_more : (b : Bool) (n : ℕ) → cond b (suc n) n ≡ cond b (1 + n) n
    one_more true n = omega arith
    one_more false n = refl

pub has_its_lane : HasItsLane
has_its_lane = λ most x journal legal known.
    let below : x < opened (past_of journal) = opened_below most (past_of journal) x legal known in
    let same : opened (past_of journal) ≡ opened_in journal =
    count-past is_opened journal ∙ counted journal in
    let inside : x < opened_in journal = omega arith in
    let test : nat_lt x (opened_in journal) ≡ true = search rules in
    cond-true (nat_lt x (opened_in journal)) (x + 1) 0 test
