-- That an end of a client that uses ACE 7 keeps what the trait asks of stories: terms that leave
-- the stories of connections open ask for none.
use Rattle.std.specs.Prelude.{◌≡◌, ℕ, List, Option, Some, None, slice_get, option_and_then}
use Rattle.std.proofs.Common.{sym, ◌∙◌, ap}
use Rattle.ev_base.specs.Story.{Story}
use Rattle.ev_base.specs.Terms.{Terms, story_of}
use Rattle.ev_base.specs.End.{EndFacts}
use Rattle.ev_base.specs.KeepsStory.{KeepsStory}
use Rattle.ev_base.specs.declared.end.PeerEnd.{Ghosts}
use Rattle.ace7_input.specs.declared.end.Ace7End.{Ace7End}
use Rattle.ace7_input.specs.Ends.{ace7_end_facts, Ace7EndKeeps}

not_some : {A : Type 0} {a : A} → None ≡ Some a → ⊥
not_some q = cc

no_story : (t : Terms) (serial : ℕ) (story : Story) → t.stories ≡ None
    → story_of t serial ≡ Some story → ⊥
no_story t serial story none told =
    let same = ap (λ (s : Option (List Story)). option_and_then (λ l. slice_get l serial) s) none in
    not_some (sym same ∙ told)

pub keeps_stories : {E : Type 0} {G : Ghosts E} (tells : E → EndFacts) (keeps : Terms → E → Type 0)
    → ((t : Terms) (end : E) → keeps t end → KeepsStory t (tells end))
    → (t : Terms) (end : Ace7End E G) → Ace7EndKeeps keeps t end
    → KeepsStory t (ace7_end_facts tells end)
keeps_stories tells keeps within t end kept =
    let of_inner = within t end.inner kept.within in
    record {
      connection = λ serial story no is told. absurd (no_story t serial story kept.stories told);
      listener = of_inner.listener;
      unnumbered = of_inner.unnumbered;
    }
