-- The sources and ends of clients that use ACE 7 as it stands.
use Rattle.std.specs.Prelude.{◌≡◌, None}
use Rattle.ev_base.specs.Source.{SourceFacts}
use Rattle.ev_base.specs.Terms.{Terms}
use Rattle.ev_base.specs.End.{EndFacts}
use Rattle.ev_base.specs.declared.source.Source.{Ghosts as SourceGhosts}
use Rattle.ev_base.specs.declared.end.PeerEnd.{Ghosts}
use Rattle.ace7_input.specs.Facts.{wide_source, wide_end}
use Rattle.ace7_input.specs.declared.source.Ace7Source.{Ace7Source}
use Rattle.ace7_input.specs.declared.end.Ace7End.{Ace7End}

-- the source within
abbrev pub source_within : {S : Type 0} {G : SourceGhosts S} → Ace7Source S G → S
source_within source = source.inner

abbrev pub ace7_source_facts : {S : Type 0} {G : SourceGhosts S} → (S → SourceFacts)
    → Ace7Source S G → SourceFacts
ace7_source_facts facts source = wide_source (facts source.inner)

-- the end within
abbrev pub end_within : {E : Type 0} {G : Ghosts E} → Ace7End E G → E
end_within end = end.inner

abbrev pub ace7_end_facts : {E : Type 0} {G : Ghosts E} → (E → EndFacts) → Ace7End E G → EndFacts
ace7_end_facts tells end = wide_end (tells end.inner)

-- It keeps what the end within keeps, under terms that leave the stories of connections open: those
-- would be of the bytes as the end within gives them.
pub record Ace7EndKeeps {E : Type 0} {G : Ghosts E} (keeps : Terms → E → Type 0) (t : Terms)
    (end : Ace7End E G) : Type 0 where
  pub within : keeps t end.inner
  pub stories : t.stories ≡ None
