-- How the terms of a run are told apart, which a struct with terms among its ghost fields asks for.
use Rattle.std.specs.Prelude.{ℕ, zero, suc, List, Option, Some, None, Bool, true, false, ◌⊎◌, refl}
use Rattle.std.specs.Prelude.{◌≡◌}
use Rattle.std.proofs.Common.{inl, inr}
use Rattle.std.specs.Coded.{Coded, code_by, coded×, coded_ℕ, coded_bool, coded_list, coded_option}
use Rattle.std.specs.Coded.{coded⊎}
use Rattle.ev_types.specs.declared.upcall.Kind.{Kind}
use Rattle.ev_types.specs.declared.upcall.Kind.TheVariants.{Read, Write, Except}
use Rattle.ev_base.specs.Story.{Part, Piece, Pausing, Ending, Failing, Offer, Connection, NoneThere}
use Rattle.ev_base.specs.Story.{OneFailure, Story, OfBytes, OfParts}
use Rattle.ev_base.specs.Terms.{Terms, Step, StepEnd, AtListener, AtConnection, Group}

-- each case of a type of cases by a number, and what it holds
abbrev pub part_parts : Part → List ℕ ⊎ ℕ
part_parts (Piece bytes) = inl bytes
part_parts Pausing = inr 0
part_parts Ending = inr 1
part_parts Failing = inr 2

abbrev pub part_numbered : ℕ → Part
part_numbered zero = Pausing
part_numbered (suc zero) = Ending
part_numbered (suc (suc n)) = Failing

abbrev pub part_of : List ℕ ⊎ ℕ → Part
part_of (inl bytes) = Piece bytes
part_of (inr n) = part_numbered n

abbrev pub part_again : (p : Part) → part_of (part_parts p) ≡ p
part_again (Piece bytes) = refl
part_again Pausing = refl
part_again Ending = refl
part_again Failing = refl

abbrev pub part_coded : Coded Part
part_coded = code_by (List ℕ ⊎ ℕ) (coded⊎ (coded_list coded_ℕ) coded_ℕ) part_parts part_of
    part_again

abbrev pub offer_parts : Offer → ℕ ⊎ Bool
offer_parts (Connection serial) = inl serial
offer_parts NoneThere = inr false
offer_parts OneFailure = inr true

abbrev pub offer_of : ℕ ⊎ Bool → Offer
offer_of (inl serial) = Connection serial
offer_of (inr false) = NoneThere
offer_of (inr true) = OneFailure

abbrev pub offer_again : (o : Offer) → offer_of (offer_parts o) ≡ o
offer_again (Connection serial) = refl
offer_again NoneThere = refl
offer_again OneFailure = refl

abbrev pub offer_coded : Coded Offer
offer_coded = code_by (ℕ ⊎ Bool) (coded⊎ coded_ℕ coded_bool) offer_parts offer_of offer_again

abbrev pub story_parts : Story → List ℕ ⊎ List Part
story_parts (OfBytes bytes) = inl bytes
story_parts (OfParts parts) = inr parts

abbrev pub story_of : List ℕ ⊎ List Part → Story
story_of (inl bytes) = OfBytes bytes
story_of (inr parts) = OfParts parts

abbrev pub story_again : (s : Story) → story_of (story_parts s) ≡ s
story_again (OfBytes bytes) = refl
story_again (OfParts parts) = refl

abbrev pub story_coded : Coded Story
story_coded = code_by (List ℕ ⊎ List Part) (coded⊎ (coded_list coded_ℕ) (coded_list part_coded))
    story_parts story_of story_again

abbrev pub end_parts : StepEnd → Option ℕ
end_parts AtListener = None
end_parts (AtConnection serial) = Some serial

abbrev pub end_of : Option ℕ → StepEnd
end_of None = AtListener
end_of (Some serial) = AtConnection serial

abbrev pub end_again : (e : StepEnd) → end_of (end_parts e) ≡ e
end_again AtListener = refl
end_again (AtConnection serial) = refl

abbrev pub kind_parts : Kind → Option Bool
kind_parts Read = None
kind_parts Write = Some false
kind_parts Except = Some true

abbrev pub kind_of : Option Bool → Kind
kind_of None = Read
kind_of (Some false) = Write
kind_of (Some true) = Except

abbrev pub kind_again : (k : Kind) → kind_of (kind_parts k) ≡ k
kind_again Read = refl
kind_again Write = refl
kind_again Except = refl

abbrev pub step_coded : Coded Step
step_coded = code_by (Option ℕ × Option Bool)
    (coded× (coded_option coded_ℕ) (coded_option coded_bool))
    (λ s. (end_parts s.end, kind_parts s.kind))
    (λ p. record { end = end_of p.0; kind = kind_of p.1 })
    (λ s i. record { end = end_again s.end i; kind = kind_again s.kind i })

abbrev pub group_coded : Coded Group
group_coded = code_by (ℕ × List Step) (coded× coded_ℕ (coded_list step_coded))
    (λ g. (g.moment, g.steps)) (λ p. record { moment = p.0; steps = p.1 }) (λ _. refl)

-- the parts of terms, by what they are asked of
abbrev NetTerms : Type 0
NetTerms = (Option (Option ℕ) × Option Bool) × Option (List Group)

abbrev StoryTerms : Type 0
StoryTerms = Option (List Offer) × Option (List Story)

abbrev StreamTerms : Type 0
StreamTerms = (Option (List ℕ) × Option ℕ) × (Option ℕ × Option ℕ)

abbrev RunTerms : Type 0
RunTerms = (Option ℕ × Option (Option ℕ)) × (Option ℕ × Option ℕ)

abbrev coded_count : Coded (Option ℕ)
coded_count = coded_option coded_ℕ

abbrev net_terms_coded : Coded NetTerms
net_terms_coded = coded× (coded× (coded_option coded_count) (coded_option coded_bool))
    (coded_option (coded_list group_coded))

abbrev story_terms_coded : Coded StoryTerms
story_terms_coded = coded× (coded_option (coded_list offer_coded))
    (coded_option (coded_list story_coded))

abbrev stream_terms_coded : Coded StreamTerms
stream_terms_coded = coded× (coded× (coded_option (coded_list coded_ℕ)) coded_count)
    (coded× coded_count coded_count)

abbrev run_terms_coded : Coded RunTerms
run_terms_coded = coded× (coded× coded_count (coded_option coded_count))
    (coded× coded_count coded_count)

abbrev TermsParts : Type 0
TermsParts = ℕ × ((NetTerms × StoryTerms) × (StreamTerms × RunTerms))

abbrev terms_parts : Terms → TermsParts
terms_parts t = (
  t.most,
  (
    (((t.limit, t.steady), t.groups), (t.offers, t.stories)),
    (
      ((t.opening, t.input_gave), (t.input_faults, t.output_faults)),
      ((t.by_turn, t.idle), (t.volumes_taken, t.volumes_faults)),
    ),
  ),
)

abbrev terms_of : TermsParts → Terms
terms_of (
  most,
  (
    (((limit, steady), groups), (offers, stories)),
    (
      ((opening, input_gave), (input_faults, output_faults)),
      ((by_turn, idle), (volumes_taken, volumes_faults)),
    ),
  ),
) = record {
  most = most;
  limit = limit;
  offers = offers;
  stories = stories;
  groups = groups;
  opening = opening;
  input_gave = input_gave;
  input_faults = input_faults;
  output_faults = output_faults;
  steady = steady;
  by_turn = by_turn;
  idle = idle;
  volumes_taken = volumes_taken;
  volumes_faults = volumes_faults;
}

abbrev pub terms_coded : Coded Terms
terms_coded = code_by TermsParts
    (coded× coded_ℕ (coded× (coded× net_terms_coded story_terms_coded)
    (coded× stream_terms_coded run_terms_coded)))
    terms_parts terms_of (λ _. refl)
