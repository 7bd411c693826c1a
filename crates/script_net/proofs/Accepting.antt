-- What an accept does to what the listener tells.
use Rattle.std.proofs.Common.{◌≡◌, ◌∙◌, ℕ, suc, ◌+◌, ◌<◌, inr, List, [], ◌∷◌, ◌++◌, length, Some}
use Rattle.std.proofs.Common.{refl, sym, ap, subst, arith}
use Rattle.ev_base.specs.Counts.{counted}
use Rattle.ev_base.specs.Story.{Part, Offer, Connection, NoneThere, OneFailure, Offering}
use Rattle.ev_base.specs.Story.{AreNumbered}
use Rattle.ev_base.specs.End.{Try, Accepted, Paused, Faulted, AcceptsEnd, AcceptsNone}
use Rattle.ev_base.specs.End.{FailsToAccept, CountsAccept}
use Rattle.script_net.specs.Content.{ConnectionContent, ListenerContent}
use Rattle.script_net.specs.Playable.{many_offered}
use Rattle.script_net.specs.Ends.{listener_facts, peer_facts, new_peer, front_bytes, IsListener}

-- an offer was told: it was the first that was left
pub record Moves (old : Offering) (offer : Offer) (new : Offering) : Type 0 where
  pub left : old.left ≡ offer ∷ new.left
  pub given : new.given ≡ old.given ++ offer ∷ []

-- ---- what the listener keeps

pub many_more : (offers : List Offer) (offer : Offer)
    → many_offered (offers ++ offer ∷ []) ≡ many_offered offers + many_offered (offer ∷ [])
many_more [] offer = omega arith
many_more (Connection serial ∷ offers) offer = omega (arith, many_more offers offer)
many_more (NoneThere ∷ offers) offer = many_more offers offer
many_more (OneFailure ∷ offers) offer = many_more offers offer

more_given : (old new : Offering) (offer : Offer) → Moves old offer new
    → many_offered new.given ≡ many_offered old.given + many_offered (offer ∷ [])
more_given old new offer m = ap many_offered m.given ∙ many_more old.given offer

left_numbered : (old new : Offering) (offer : Offer) → Moves old offer new
    → AreNumbered (many_offered old.given) old.left
    → AreNumbered (many_offered old.given) (offer ∷ new.left)
left_numbered old new offer m n = subst (AreNumbered (many_offered old.given)) m.left n

pub is_next : (old new : Offering) (serial : ℕ) (cs : List ConnectionContent)
    → Moves old (Connection serial) new → IsListener old cs → serial ≡ many_offered old.given
is_next old new serial cs m l = (left_numbered old new (Connection serial) m l.numbered).0

pub some_left : (old new : Offering) (serial : ℕ) (cs : List ConnectionContent)
    → Moves old (Connection serial) new → IsListener old cs → 0 < length cs
some_left old new serial cs m l = omega (arith, l.all_offered, ap many_offered m.left)

pub one_taken : (old new : Offering) (serial : ℕ) (cs more : List ConnectionContent)
    (c : ConnectionContent) → Moves old (Connection serial) new → cs ≡ c ∷ more → IsListener old cs
    → IsListener new more
one_taken old new serial cs more c m is l =
    let count : many_offered new.given ≡ suc (many_offered old.given) =
    more_given old new (Connection serial) m ∙ omega arith in
    record {
      numbered = subst (λ (n : ℕ). AreNumbered n new.left) (sym count)
          (left_numbered old new (Connection serial) m l.numbered).1;
      all_offered = omega (arith, l.all_offered, ap many_offered m.left, ap length is);
    }

pub none_taken : (old new : Offering) (cs : List ConnectionContent) → Moves old NoneThere new
    → IsListener old cs → IsListener new cs
none_taken old new cs m l =
    let count : many_offered new.given ≡ many_offered old.given =
    more_given old new NoneThere m ∙ omega arith in
    record {
      numbered = subst (λ (n : ℕ). AreNumbered n new.left) (sym count)
          (left_numbered old new NoneThere m l.numbered);
      all_offered = sym (ap many_offered m.left) ∙ l.all_offered;
    }

pub failure_taken : (old new : Offering) (cs : List ConnectionContent) → Moves old OneFailure new
    → IsListener old cs → IsListener new cs
failure_taken old new cs m l =
    let count : many_offered new.given ≡ many_offered old.given =
    more_given old new OneFailure m ∙ omega arith in
    record {
      numbered = subst (λ (n : ℕ). AreNumbered n new.left) (sym count)
          (left_numbered old new OneFailure m l.numbered);
      all_offered = sym (ap many_offered m.left) ∙ l.all_offered;
    }

-- ---- what it tells

-- an accept was counted that came to this
pub record Counted (old : ListenerContent) (came_to : Try) (new : ListenerContent) : Type 0 where
  pub accepts : new.accepts ≡ counted old.accepts
  pub last : new.last_accept ≡ Some came_to

counts : (old : ListenerContent) (came_to : Try) (new : ListenerContent) → Counted old came_to new
    → CountsAccept (listener_facts old) came_to (listener_facts new)
counts old came_to new c = record {
  counts = record {
    reads = c.accepts;
    last_read = c.last;
    listener = refl;
    writes = refl;
    last_write = refl;
    finishes = refl;
    last_finish = refl;
    written = refl;
    serial = refl;
  };
  gave = refl;
  over = refl;
  bytes = refl;
  telling = refl;
}

none_given : (parts : List Part) → front_bytes 0 parts ≡ []
none_given [] = refl
none_given (part ∷ parts) = refl

pub accepts_end : (old new : ListenerContent) (serial : ℕ) (connection : ConnectionContent)
    → Counted old Accepted new → new.faults ≡ old.faults
    → Moves old.offering (Connection serial) new.offering
    → AcceptsEnd (listener_facts old) (peer_facts (new_peer serial connection)) (listener_facts new)
accepts_end old new serial connection c faults m = record {
  counts = counts old Accepted new c;
  no_listener = refl;
  fresh = record {
    reads = refl;
    last_read = refl;
    writes = refl;
    last_write = refl;
    finishes = refl;
    last_finish = refl;
    faults = refl;
    gave = ap length (none_given connection.parts);
    over = refl;
    bytes = none_given connection.parts;
    written = refl;
    telling = (refl, refl);
    offering = tt;
  };
  offering = (m.left, m.given);
  faults = faults;
}

pub accepts_none : (old new : ListenerContent) → Counted old Paused new → new.faults ≡ old.faults
    → Moves old.offering NoneThere new.offering
    → AcceptsNone (listener_facts old) (listener_facts new)
accepts_none old new c faults m = record {
  counts = counts old Paused new c;
  offering = inr (m.left, m.given);
  faults = faults;
}

pub fails_to_accept : (old new : ListenerContent) → Counted old Faulted new
    → new.faults ≡ counted old.faults → Moves old.offering OneFailure new.offering
    → FailsToAccept (listener_facts old) (listener_facts new)
fails_to_accept old new c faults m =
    record {
      counts = counts old Faulted new c;
      offering = (m.left, m.given);
      rose = omega (arith, faults);
    }
