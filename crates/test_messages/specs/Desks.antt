-- What a desk stands for: its journal, which is what its drainer took from the ring of the terms.
use Rattle.std.specs.Prelude.{◌≡◌, ℕ, List, [], ◌∷◌, ◌++◌}
use Rattle.atomic_table.specs.Seated.{TableId}
use Rattle.notify_ring.specs.Words.{drainer_ring, drainer_view}
use Rattle.notify_ring.specs.declared.posting.Posting.{Posting}
use Rattle.test_messages.specs.declared.ring_desk.terms.Terms.{Terms}
use Rattle.test_messages.specs.declared.ring_desk.desk.Desk.{Desk}

-- Terms that name no ring.
abbrev pub no_ring : TableId
no_ring = record {
  words = 0;
  slots = 0;
  views_name = 0;
  atom = 0;
  block = 0;
  offset = 0;
  slot_names = [];
}

abbrev pub open_terms : Terms
open_terms = record { most = 0; ring = no_ring }

pub record DeskStands (terms : Terms) (desk : Desk) (list : List Posting) : Type 0 where
  pub journal : desk.journal.items ≡ list
  pub ring : drainer_ring desk.drainer ≡ terms.ring
  pub taken : (drainer_view desk.drainer).got ≡ list

abbrev pub no_events : List Posting → List ℕ
no_events list = []

abbrev pub no_marks : Desk → List ℕ
no_marks desk = []

-- The new list is the old one, what others took, and one posting more.
abbrev pub Adds : List Posting → List Posting → Type 0
Adds old new = (between : List Posting) × (x : Posting) × (new ≡ (old ++ between) ++ x ∷ [])
