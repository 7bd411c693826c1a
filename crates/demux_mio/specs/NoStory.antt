-- That the end of a socket keeps no story.
use Rattle.std.specs.Prelude.{◌≡◌, Some, None, refl}
use Rattle.std.proofs.Common.{sym, ◌∙◌}
use Rattle.ev_base.specs.Terms.{Terms}
use Rattle.ev_base.specs.KeepsStory.{KeepsStory}
use Rattle.demux_mio.specs.declared.end.MioEnd.{MioEnd}
use Rattle.demux_mio.specs.Ends.{mio_end_facts, NoOffers}

not_some : {A : Type 0} {a : A} → None ≡ Some a → ⊥
not_some q = cc

pub keeps_no_story : (t : Terms) (end : MioEnd) → NoOffers t → KeepsStory t (mio_end_facts end)
keeps_no_story t end none = record {
  connection = λ serial story no is told. absurd (not_some is);
  listener = λ offers listens told. absurd (not_some (sym none ∙ told));
  unnumbered = λ offers listens told. refl;
}
