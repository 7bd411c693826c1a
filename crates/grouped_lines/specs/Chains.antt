-- Where the entries of each connection stand in a journal, found from each other.
use Rattle.std.specs.Prelude.{◌≡◌, ◌<◌, ◌≤◌, ◌+◌, ℕ, suc, if◌then◌else◌, Bool, true, false, List}
use Rattle.std.specs.Prelude.{[], ◌∷◌, drop, length, slice_get, slice_index, Option, Some, None}
use Rattle.reactor_journal.specs.declared.entry.Entry.{Entry}
use Rattle.log_handler.specs.declared.note.ServerNote.{ServerNote}
use Rattle.log_handler.specs.declared.note.ServerNote.TheVariants as note
use Rattle.reactor_journal.specs.declared.entry.Entry.TheVariants.{Returned, Refused, Closed}
use Rattle.laws_script_runs.specs.Connections.{is_entry_of, accepted}
use Rattle.grouped_lines.specs.declared.chains.Chains.{Chains}

-- the connection that a note is of, if it has lines
abbrev pub conn_of_note : ServerNote → Option ℕ
conn_of_note (note.Piece conn took records) = Some conn
conn_of_note (note.Finished conn end) = Some conn
conn_of_note _ = None

abbrev pub conn_of : Entry ServerNote → Option ℕ
conn_of (Returned event answer said) = conn_of_note said
conn_of (Refused live fault said) = conn_of_note said
conn_of (Closed handle said) = conn_of_note said
conn_of _ = None

-- it is of none of so many connections
abbrev pub IsOfNone : ℕ → Entry ServerNote → Type 0
IsOfNone connections e = (c : ℕ) → c < connections → is_entry_of c e ≡ false

-- how many entries stand before the first of a connection: all, if there is none of it
abbrev pub entries_before : ℕ → List (Entry ServerNote) → ℕ
entries_before c [] = 0
entries_before c (e ∷ entries) = if is_entry_of c e then 0 else suc (entries_before c entries)

-- the place of a connection's first entry from place i on: the end, if there is none
abbrev pub place_from : ℕ → List (Entry ServerNote) → ℕ → ℕ
place_from c entries i = i + entries_before c (drop i entries)

-- For each entry from place i on that is of one of so many connections there is the place of that
-- connection's next.
abbrev pub AreLinked : List (Entry ServerNote) → ℕ → List ℕ → ℕ → Type 0
AreLinked entries connections behind i =
    (at c : ℕ) (e : Entry ServerNote) → i ≤ at → c < connections → slice_get entries at ≡ Some e
    → is_entry_of c e ≡ true
    → slice_index behind at ≡ place_from c entries (suc at)

-- The chains of the entries from place i on: each connection's first place, and after each place
-- the next.
pub record AreChains (entries : List (Entry ServerNote)) (i : ℕ) (first behind : List ℕ) : Type 0
  where
    pub connections : length first ≡ accepted entries
    pub places : length behind ≡ length entries
    pub begins : (c : ℕ) → c < accepted entries → slice_index first c ≡ place_from c entries i
    pub linked : AreLinked entries (accepted entries) behind i

abbrev pub ChainsFrom : List (Entry ServerNote) → ℕ → Chains → Type 0
ChainsFrom entries i chains = AreChains entries i chains.first.items chains.behind.items
