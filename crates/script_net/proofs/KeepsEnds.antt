-- That the calls of the ends keep the stories that the terms have of them.
use Rattle.std.proofs.Common.{◌≡◌, ◌∙◌, ℕ, suc, ◌+◌, ◌⊎◌, inl, inr, Bool, true, false, cond, List}
use Rattle.std.proofs.Common.{[], ◌∷◌, ◌++◌, length, take, Option, Some, None, refl, sym, ap, subst}
use Rattle.std.proofs.Common.{arith, add-zero}
use Rattle.std.specs.Prelude.{nat_lt}
use Rattle.std.proofs.lemmas.List.{append_assoc}
use Rattle.ev_base.specs.Bytes.{ReaderBytes, MovesOn}
use Rattle.ev_base.specs.Story.{Part, Piece, Pausing, Ending, Failing, Offer, Connection, NoneThere}
use Rattle.ev_base.specs.Story.{OneFailure, Story, OfBytes, OfParts, Telling, Offering, told_after}
use Rattle.ev_base.specs.Story.{TakesOffer, NoOfferLeft}
use Rattle.ev_base.specs.Terms.{Terms, story_of}
use Rattle.ev_base.specs.KeepsStory.{KeepsStory, IsStory}
use Rattle.ev_base.specs.End.{EndReads}
use Rattle.ev_base.specs.declared.source.Got.{Got}
use Rattle.ev_base.specs.declared.source.Got.TheVariants as got
use Rattle.script_net.specs.Content.{ConnectionContent, PeerContent, ListenerContent}
use Rattle.script_net.specs.Playable.{many_offered}
use Rattle.script_net.specs.Ends.{peer_facts, listener_facts, new_peer, after_write, given_bytes}
use Rattle.script_net.specs.Ends.{rest_bytes, GivesNext}
use Rattle.script_net.specs.Keeps.{AreStories, ListenerKeeps, PeerKeeps}
use Rattle.script_net.proofs.Accepting.{many_more}

-- ---- the end of a connection

-- the story, and the bytes, that an end has in all
abbrev all_parts : PeerContent → List Part
all_parts c = c.telling.given ++ c.telling.left

abbrev all_bytes : PeerContent → List ℕ
all_bytes c = given_bytes c.telling ++ rest_bytes c.telling.at c.telling.left

same_story : (a b : PeerContent) (story : Story) → all_bytes b ≡ all_bytes a
    → all_parts b ≡ all_parts a → IsStory (peer_facts a) story → IsStory (peer_facts b) story
same_story a b (OfBytes bytes) bs ps is = bs ∙ is
same_story a b (OfParts parts) bs ps is = ps ∙ is

keeps_peer : (t : Terms) (a b : PeerContent) → b.serial ≡ a.serial → all_bytes b ≡ all_bytes a
    → all_parts b ≡ all_parts a → PeerKeeps t a → PeerKeeps t b
keeps_peer t a b serial bs ps keeps = record {
  connection = λ s story not is told.
      same_story a b story bs ps (keeps.connection s story refl (ap Some (sym serial) ∙ is) told);
  listener = λ offers is told. absurd cc;
  unnumbered = λ offers is told. absurd cc;
}

abbrev parts_of : Telling → List Part
parts_of t = t.given ++ t.left

told_if : (given : List Part) (at room : ℕ) (part : Part) (left : List Part) (b : Bool)
    → parts_of (cond b (record { given = given; at = at + room; left = part ∷ left })
    (record { given = given ++ part ∷ []; at = 0; left = left })) ≡ given ++ part ∷ left
told_if given at room part left true = refl
told_if given at room part left false = append_assoc given (part ∷ []) left

told_same : (room : ℕ) (given : List Part) (at : ℕ) (left : List Part)
    → (told_after room given at left).given ++ (told_after room given at left).left ≡ given ++ left
told_same room given at [] = refl
told_same room given at (Piece bytes ∷ left) =
    told_if given at room (Piece bytes) left (nat_lt (at + room) (length bytes))
told_same room given at (Pausing ∷ left) = append_assoc given (Pausing ∷ []) left
told_same room given at (Ending ∷ left) = refl
told_same room given at (Failing ∷ left) = refl

moved_same : (a b : ReaderBytes) (bytes : List ℕ) → MovesOn (Some a) bytes (Some b)
    → b.given ++ b.left ≡ a.given ++ a.left
moved_same a b bytes m = ap (λ g. g ++ b.left) m.1 ∙ append_assoc a.given bytes b.left
    ∙ ap (λ l. a.given ++ l) (sym m.0)

abbrev joined : Option ReaderBytes → List ℕ
joined None = []
joined (Some b) = b.given ++ b.left

told_parts : (room : ℕ) (a b : Telling) → b ≡ told_after room a.given a.at a.left
    → b.given ++ b.left ≡ a.given ++ a.left
told_parts room a b e = ap (λ (t : Telling). t.given ++ t.left) e
    ∙ told_same room a.given a.at a.left

serial_same : (a b : PeerContent) → ◌≡◌ {A = Option ℕ} (Some b.serial) (Some a.serial)
    → b.serial ≡ a.serial
serial_same a b e = cc

pub keeps_read : (t : Terms) (a b : PeerContent) (buffer : List ℕ) (answer : Got)
    → EndReads (peer_facts a) buffer answer (peer_facts b) → PeerKeeps t a → PeerKeeps t b
keeps_read t a b buffer (got.Bytes n) r keeps =
    keeps_peer t a b (serial_same a b r.counts.serial)
    (moved_same (record {
      given = given_bytes a.telling;
      left = rest_bytes a.telling.at a.telling.left;
    })
    (record { given = given_bytes b.telling; left = rest_bytes b.telling.at b.telling.left })
    (take n buffer) r.bytes) (told_parts (length buffer) a.telling b.telling r.telling.2) keeps
keeps_read t a b buffer got.Pause r keeps =
    keeps_peer t a b (serial_same a b r.counts.serial) (ap joined r.bytes)
    (told_parts (length buffer) a.telling b.telling r.telling.2) keeps
keeps_read t a b buffer got.Over r keeps =
    keeps_peer t a b (serial_same a b r.counts.serial) (ap joined r.bytes)
    (told_parts (length buffer) a.telling b.telling r.telling.2) keeps
keeps_read t a b buffer got.Failed r keeps =
    keeps_peer t a b (serial_same a b r.counts.serial) (ap joined r.bytes)
    (told_parts (length buffer) a.telling b.telling r.telling.2) keeps

pub keeps_write : (t : Terms) (a b : PeerContent) (piece : List ℕ) → b ≡ after_write piece a
    → PeerKeeps t a → PeerKeeps t b
keeps_write t a b piece is keeps =
    subst (PeerKeeps t) (sym is) (keeps_peer t a (after_write piece a) refl refl refl keeps)

-- ---- the listener

keeps_own : (t : Terms) (a b : ListenerContent)
    → b.offering.given ++ b.offering.left ≡ a.offering.given ++ a.offering.left
    → KeepsStory t (listener_facts a) → KeepsStory t (listener_facts b)
keeps_own t a b same keeps = record {
  connection = λ s story not is told. absurd cc;
  listener = λ offers is told. same ∙ keeps.listener offers refl told;
  unnumbered = λ offers is told. refl;
}

takes_same : (a b : Offering) (offer : Offer) → TakesOffer (Some a) offer (Some b)
    → b.given ++ b.left ≡ a.given ++ a.left
takes_same a b offer m = ap (λ g. g ++ b.left) m.1 ∙ append_assoc a.given (offer ∷ []) b.left
    ∙ ap (λ l. a.given ++ l) (sym m.0)

stories_from : (t : Terms) (m n : ℕ) (cs ds : List ConnectionContent) → n ≡ m → ds ≡ cs
    → AreStories t m cs → AreStories t n ds
stories_from t m n cs ds e f stories =
    subst (λ (k : ℕ). AreStories t k ds) (sym e) (subst (AreStories t m) (sym f) stories)

next_stories : (t : Terms) (from next : ℕ) (c : ConnectionContent) (cs : List ConnectionContent)
    → next ≡ from + 1 → AreStories t from (c ∷ cs) → AreStories t next cs
next_stories t from next c cs e stories = λ k d story found told.
    let there : from + suc k ≡ next + k = omega arith in
    stories (suc k) d story found (subst (λ (n : ℕ). story_of t n ≡ Some story) (sym there) told)

-- the end that an accept gave
told_new : (number : ℕ) (c : ConnectionContent) (story : Story) → story ≡ OfParts c.parts
    → IsStory (peer_facts (new_peer number c)) story
told_new number c story is = subst (IsStory (peer_facts (new_peer number c))) (sym is) refl

keeps_new : (t : Terms) (number : ℕ) (c : ConnectionContent)
    → ((story : Story) → story_of t number ≡ Some story → story ≡ OfParts c.parts)
    → PeerKeeps t (new_peer number c)
keeps_new t number c stories = record {
  connection = λ s story not is told.
      let same : number ≡ s = cc in
      told_new number c story (stories story
      (subst (λ (n : ℕ). story_of t n ≡ Some story) (sym same) told));
  listener = λ offers is told. absurd cc;
  unnumbered = λ offers is told. absurd cc;
}

pub keeps_given : (t : Terms) (a b : ListenerContent) (end : PeerContent) → GivesNext a end b
    → ListenerKeeps t a → PeerKeeps t end
keeps_given t a b end g keeps =
    let first : AreStories t (many_offered a.offering.given) (g.connection ∷ b.connections) =
    stories_from t _ _ a.connections (g.connection ∷ b.connections) refl (sym g.was_next)
    keeps.connections in
    let at : end.serial ≡ many_offered a.offering.given + 0 = g.number ∙ sym (add-zero _) in
    subst (PeerKeeps t) (sym g.end_is)
    (keeps_new t end.serial g.connection
    (λ story told. first 0 g.connection story refl
    (subst (λ (n : ℕ). story_of t n ≡ Some story) at told)))

pub keeps_one : (t : Terms) (a b : ListenerContent) (end : PeerContent) → GivesNext a end b
    → TakesOffer (Some a.offering) (Connection end.serial) (Some b.offering) → ListenerKeeps t a
    → ListenerKeeps t b
keeps_one t a b end g takes keeps =
    let first : AreStories t (many_offered a.offering.given) (g.connection ∷ b.connections) =
    stories_from t _ _ a.connections (g.connection ∷ b.connections) refl (sym g.was_next)
    keeps.connections in
    let more : many_offered b.offering.given ≡ many_offered a.offering.given + 1 =
    ap many_offered takes.1 ∙ many_more a.offering.given (Connection end.serial)
    ∙ omega arith in
    record {
      own = keeps_own t a b (takes_same a.offering b.offering (Connection end.serial) takes)
          keeps.own;
      connections = next_stories t _ _ g.connection b.connections more first;
    }

pub keeps_failed : (t : Terms) (a b : ListenerContent) → b.connections ≡ a.connections
    → TakesOffer (Some a.offering) OneFailure (Some b.offering) → ListenerKeeps t a
    → ListenerKeeps t b
keeps_failed t a b same takes keeps =
    let more : many_offered b.offering.given ≡ many_offered a.offering.given =
    ap many_offered takes.1 ∙ many_more a.offering.given OneFailure ∙ omega arith in
    record {
      own = keeps_own t a b (takes_same a.offering b.offering OneFailure takes) keeps.own;
      connections = stories_from t _ _ a.connections b.connections more same keeps.connections;
    }

pub keeps_none : (t : Terms) (a b : ListenerContent) → b.connections ≡ a.connections
    → NoOfferLeft (Some a.offering) (Some b.offering)
    ⊎ TakesOffer (Some a.offering) NoneThere (Some b.offering) → ListenerKeeps t a
    → ListenerKeeps t b
keeps_none t a b same (inl none) keeps =
    record {
      own = keeps_own t a b (ap (λ (o : Offering). o.given ++ o.left) none.1) keeps.own;
      connections = stories_from t _ _ a.connections b.connections
          (ap (λ (o : Offering). many_offered o.given) none.1) same keeps.connections;
    }
keeps_none t a b same (inr takes) keeps =
    let more : many_offered b.offering.given ≡ many_offered a.offering.given =
    ap many_offered takes.1 ∙ many_more a.offering.given NoneThere ∙ omega arith in
    record {
      own = keeps_own t a b (takes_same a.offering b.offering NoneThere takes) keeps.own;
      connections = stories_from t _ _ a.connections b.connections more same keeps.connections;
    }
