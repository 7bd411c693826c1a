-- That the one end keeps the story that the terms have of number 0: what it keeps of its source
-- says so.
use Rattle.std.specs.Prelude.{◌≡◌, ℕ, Bool, true, false, List, ◌++◌, length, Option, Some, None}
use Rattle.std.proofs.Common.{sym, ◌∙◌, subst}
use Rattle.std.proofs.lemmas.List.{append_assoc}
use Rattle.ev_base.specs.Bytes.{ReaderBytes, MovesOn}
use Rattle.ev_base.specs.Source.{SourceFacts}
use Rattle.ev_base.specs.Story.{Story}
use Rattle.ev_base.specs.Terms.{Terms, story_of}
use Rattle.ev_base.specs.KeepsStory.{KeepsStory, IsStory, IsReading}
use Rattle.one_net.specs.declared.one_end.OneEnd.{OneEnd}
use Rattle.one_net.specs.OneEnd.{one_end_facts, given_by, given_of, end_bytes, extra_of, count_of}
use Rattle.one_net.specs.OneEnd.{input_of}
use Rattle.one_net.specs.OneKeeps.{OneEndKeeps}

-- the story of a serial number that is told
abbrev story_at : Terms → Option ℕ → Option Story
story_at t None = None
story_at t (Some serial) = story_of t serial

-- no end is a listener and none
abbrev IsNot : Bool → Type 0
IsNot false = Unit {0}
IsNot true = ⊥

-- the bytes given and the one that is kept were the next: with those left they are what was left
-- before
reading : (start : ReaderBytes) (extra : List ℕ) (count : ℕ) (now : Option ReaderBytes)
    → MovesOn (Some start) (given_by (length extra) count now ++ extra) now
    → IsReading (end_bytes extra count now) start.left
reading start extra count None moves = moves
reading start extra count (Some now) moves =
    sym (moves.0 ∙ append_assoc (given_by (length extra) count (Some now)) extra now.left)

module _ {S : Type 0} (facts : S → SourceFacts) (t : Terms) (end : OneEnd S)
    (keeps : OneEndKeeps facts t end) where
  is_story : (story : Story) → story_of t 0 ≡ Some story → IsStory (one_end_facts facts end) story
  is_story story told =
      let of_source = keeps.story story told in
      let moves = subst (λ start. MovesOn start (given_of facts end ++ extra_of end)
      (facts (input_of end)).bytes) of_source.1 keeps.bytes in
      subst (IsStory (one_end_facts facts end)) (sym of_source.2)
      (reading of_source.0 (extra_of end) (count_of end) (facts (input_of end)).bytes moves)

  pub keeps_its_story : KeepsStory t (one_end_facts facts end)
  keeps_its_story = record {
    connection = λ serial story connection is_zero told.
        is_story story (subst (λ number. story_at t number ≡ Some story) (sym is_zero) told);
    listener = λ offers listener told. absurd (subst IsNot listener tt);
    unnumbered = λ offers listener told. absurd (subst IsNot listener tt);
  }
