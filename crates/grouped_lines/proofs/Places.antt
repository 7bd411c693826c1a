-- Where the entries of a connection stand, and what lines stand before them.
use Rattle.std.proofs.Common.{◌≡◌, ◌≢◌, ◌<◌, ◌≤◌, ◌+◌, ◌-◌, ◌==◌, if◌then◌else◌, arith, ℕ, zero}
use Rattle.std.proofs.Common.{suc, Bool, true, false, List, [], ◌∷◌, ◌++◌, length, take, drop, set}
use Rattle.std.proofs.Common.{flat_map, get_or, slice_get, slice_index, Option, Some, None, refl}
use Rattle.std.proofs.Common.{sym, ap, ◌∙◌, subst, append-nil}
use Rattle.std.proofs.lemmas.Option.{none-some, same_Some, slice_get_within}
use Rattle.std.proofs.Math.Seq.{drop-length, take-add}
use Rattle.std.proofs.lemmas.Grind.{flat_map-append, get_or-set_at, get_or_default_zero}
use Rattle.std.proofs.lemmas.Bool.{eqb-true, eqb-false, true≢false, false_from_ne_true}
use Rattle.std.proofs.lemmas.Bool.{true_from_ne_false}
use Rattle.std.proofs.lemmas.List.{length-drop, get_or-set_other, length-set}
use Rattle.reactor_journal.specs.declared.entry.Entry.{Entry}
use Rattle.reactor_journal.specs.declared.entry.Entry.TheVariants as entry
use Rattle.log_handler.specs.declared.note.ServerNote.{ServerNote}
use Rattle.log_handler.specs.declared.note.ServerNote.TheVariants as note
use Rattle.log_handler.specs.Notes.{entry_lines}
use Rattle.laws_script_runs.specs.Connections.{accepted, is_note_of, is_entry_of, lines_in}
use Rattle.laws_script_runs.specs.Connections.{lines_of}
use Rattle.grouped_lines.specs.Chains.{AreChains, AreLinked, IsOfNone, conn_of, conn_of_note}
use Rattle.grouped_lines.specs.Chains.{entries_before, place_from}

-- ---- the connection of an entry

abbrev is_of : ℕ → Option ℕ → Bool
is_of c None = false
is_of c (Some d) = d == c

note-is : (c : ℕ) (n : ServerNote) → is_note_of c n ≡ is_of c (conn_of_note n)
note-is c (note.Accepted conn) = refl
note-is c note.NoneWaiting = refl
note-is c note.ListenerFailed = refl
note-is c note.ListenerShut = refl
note-is c (note.Piece conn took records) = refl
note-is c (note.Finished conn end) = refl

pub entry-is : (c : ℕ) (e : Entry ServerNote) → is_entry_of c e ≡ is_of c (conn_of e)
entry-is c (entry.Returned event answer said) = note-is c said
entry-is c (entry.Refused live fault said) = note-is c said
entry-is c (entry.Closed handle said) = note-is c said
entry-is c (entry.Opened handle mask) = refl
entry-is c (entry.Scheduled timer handle first every) = refl
entry-is c (entry.Cancelled timer) = refl
entry-is c (entry.Polled now) = refl
entry-is c (entry.Due timer) = refl
entry-is c (entry.Ready handle kind) = refl
entry-is c (entry.Posted handle kind from seq) = refl
entry-is c (entry.Stale handle from seq) = refl
entry-is c (entry.Started event) = refl
entry-is c (entry.Masked handle mask) = refl
entry-is c (entry.Suspended handle) = refl
entry-is c (entry.Resumed handle) = refl
entry-is c (entry.Removed handle) = refl
entry-is c entry.Ended = refl

-- ---- places

pub behind : {A : Type 0} (es : List A) (i : ℕ) (e : A) → slice_get es i ≡ Some e
    → drop i es ≡ e ∷ drop (suc i) es
behind [] i e h = absurd (none-some e h)
behind (x ∷ es) zero e h = ap (λ y. y ∷ es) (same_Some x e h)
behind (x ∷ es) (suc i) e h = behind es i e h

pub place-here : (c : ℕ) (es : List (Entry ServerNote)) (i : ℕ) (e : Entry ServerNote)
    → slice_get es i ≡ Some e → is_entry_of c e ≡ true → place_from c es i ≡ i
place-here c es i e h own =
    let at : entries_before c (drop i es) ≡ entries_before c (e ∷ drop (suc i) es) =
    ap (λ l. entries_before c l) (behind es i e h) in
    let none : entries_before c (e ∷ drop (suc i) es) ≡ 0 = rw own refl in
    omega (arith, at, none)

pub place-skips : (c : ℕ) (es : List (Entry ServerNote)) (i : ℕ) (e : Entry ServerNote)
    → slice_get es i ≡ Some e → is_entry_of c e ≡ false
    → place_from c es i ≡ place_from c es (suc i)
place-skips c es i e h other =
    let at : entries_before c (drop i es) ≡ entries_before c (e ∷ drop (suc i) es) =
    ap (λ l. entries_before c l) (behind es i e h) in
    let one : entries_before c (e ∷ drop (suc i) es) ≡ suc (entries_before c (drop (suc i) es)) =
    rw other refl in
    omega (arith, at, one)

pub place-end : (c : ℕ) (es : List (Entry ServerNote)) → place_from c es (length es) ≡ length es
place-end c es = let none : entries_before c (drop (length es) es) ≡ 0 =
    ap (λ l. entries_before c l) (drop-length es) in omega (arith, none)

-- no more entries stand before the first of a connection than there are
few-before : (c : ℕ) (l : List (Entry ServerNote)) → entries_before c l ≤ length l
few-before c [] = omega arith
few-before c (e ∷ l) = before-first (is_entry_of c e) c l (few-before c l) where
  before-first : (b : Bool) (c : ℕ) (l : List (Entry ServerNote)) → entries_before c l ≤ length l
      → (if b then 0 else suc (entries_before c l)) ≤ suc (length l)
  before-first true c l h = omega arith
  before-first false c l h = omega (arith, h)

pub place-within : (c : ℕ) (es : List (Entry ServerNote)) (i : ℕ) → i ≤ length es
    → (i ≤ place_from c es i) × (place_from c es i ≤ length es)
place-within c es i h = (omega arith, omega (arith, h, few-before c (drop i es), length-drop i es))

-- the entry at that place, if there is one, is of the connection
first-is : (c : ℕ) (l : List (Entry ServerNote)) (e : Entry ServerNote)
    → slice_get l (entries_before c l) ≡ Some e → is_entry_of c e ≡ true
first-is c [] e h = absurd (none-some e h)
first-is c (x ∷ l) e h = by-first (is_entry_of c x) refl (first-is c l e) h where
  by-first : (b : Bool) → is_entry_of c x ≡ b
      → (slice_get l (entries_before c l) ≡ Some e → is_entry_of c e ≡ true)
      → slice_get (x ∷ l) (if b then 0 else suc (entries_before c l)) ≡ Some e
      → is_entry_of c e ≡ true
  by-first true own rest here = subst (λ y. is_entry_of c y ≡ true) (same_Some x e here) own
  by-first false other rest there = rest there

get-behind : {A : Type 0} (es : List A) (i k : ℕ) → slice_get es (i + k) ≡ slice_get (drop i es) k
get-behind es zero k = ap (λ n. slice_get es n) (omega arith)
get-behind [] (suc i) k = refl
get-behind (x ∷ es) (suc i) k = ap (λ n. slice_get (x ∷ es) n) (the-sum i k)
    ∙ get-behind es i k where
      the-sum : (i k : ℕ) → suc i + k ≡ suc (i + k)
      the-sum i k = omega arith

pub place-is : (c : ℕ) (es : List (Entry ServerNote)) (i : ℕ) (e : Entry ServerNote)
    → slice_get es (place_from c es i) ≡ Some e → is_entry_of c e ≡ true
place-is c es i e h = first-is c (drop i es) e
    (sym (get-behind es i (entries_before c (drop i es))) ∙ h)

-- ---- lines

none-before : (c : ℕ) (l : List (Entry ServerNote)) → lines_of c (take (entries_before c l) l) ≡ []
none-before c [] = refl
none-before c (e ∷ l) = by-first (is_entry_of c e) refl (none-before c l) where
  by-first : (b : Bool) → is_entry_of c e ≡ b → lines_of c (take (entries_before c l) l) ≡ []
      → lines_of c (take (if b then 0 else suc (entries_before c l)) (e ∷ l)) ≡ []
  by-first true own rest = refl
  by-first false other rest = ap (λ b. (if b then entry_lines e else [])
      ++ lines_of c (take (entries_before c l) l)) other ∙ rest

-- no line stands between a place and the next of the connection
pub lines-skipped : (c : ℕ) (es : List (Entry ServerNote)) (i : ℕ)
    → lines_of c (take (place_from c es i) es) ≡ lines_of c (take i es)
lines-skipped c es i =
    ap (λ l. lines_of c l) (take-add i (entries_before c (drop i es)) es)
    ∙ flat_map-append (lines_in c) (take i es) (take (entries_before c (drop i es)) (drop i es))
    ∙ ap (λ l. lines_of c (take i es) ++ l) (none-before c (drop i es))
    ∙ append-nil (lines_of c (take i es))

pub take-one : {A : Type 0} (es : List A) (i : ℕ) (e : A) → slice_get es i ≡ Some e
    → take (suc i) es ≡ take i es ++ e ∷ []
take-one [] i e h = absurd (none-some e h)
take-one (x ∷ es) zero e h = ap (λ y. y ∷ []) (same_Some x e h)
take-one (x ∷ es) (suc i) e h = ap (λ l. x ∷ l) (take-one es i e h)

-- an entry of the connection adds its lines
pub lines-next : (c : ℕ) (es : List (Entry ServerNote)) (i : ℕ) (e : Entry ServerNote)
    → slice_get es i ≡ Some e → is_entry_of c e ≡ true
    → lines_of c (take (suc i) es) ≡ lines_of c (take i es) ++ entry_lines e
lines-next c es i e h own =
    ap (λ l. lines_of c l) (take-one es i e h)
    ∙ flat_map-append (lines_in c) (take i es) (e ∷ [])
    ∙ ap (λ b. lines_of c (take i es) ++ ((if b then entry_lines e else []) ++ [])) own
    ∙ ap (λ l. lines_of c (take i es) ++ l) (append-nil (entry_lines e))

-- ---- chains

-- two numbers are equal or not
either : (i at : ℕ) {R : Type 0} → (i ≡ at → R) → (i ≢ at → R) → R
either i at {R} same other = by-test (i == at) refl where
  by-test : (b : Bool) → (i == at) ≡ b → R
  by-test true t = same (eqb-true i at t)
  by-test false t = other (eqb-false i at t)

eqb-same : (a b : ℕ) → a ≡ b → (a == b) ≡ true
eqb-same a b same = true_from_ne_false (a == b) (λ no. eqb-false a b no same)

eqb-other : (a b : ℕ) → a ≢ b → (a == b) ≡ false
eqb-other a b differ = false_from_ne_true (a == b) (λ yes. differ (eqb-true a b yes))

-- no entry: each chain begins at the end
pub none-linked : (es : List (Entry ServerNote)) (first behind : List ℕ)
    → length first ≡ accepted es → length behind ≡ length es
    → ((c : ℕ) → c < accepted es → slice_index first c ≡ length es)
    → AreChains es (length es) first behind
none-linked es first behind many places at = record {
  connections = many;
  places = places;
  begins = λ c l. at c l ∙ sym (place-end c es);
  linked = λ i c e from l here own. absurd (past-the-end i e from here);
} where
  past-the-end : (i : ℕ) (e : Entry ServerNote) → length es ≤ i → slice_get es i ≡ Some e → ⊥
  past-the-end i e from here = let within = slice_get_within es i e here in
      omega (arith, from, within)

-- an entry of no connection, or of one that was not accepted
pub skips : (es : List (Entry ServerNote)) (at : ℕ) (first behind : List ℕ) (e : Entry ServerNote)
    → AreChains es (suc at) first behind → slice_get es at ≡ Some e
    → ((c : ℕ) → c < accepted es → is_entry_of c e ≡ false) → AreChains es at first behind
skips es at first behind e h here other = record {
  connections = h.connections;
  places = h.places;
  begins = λ c l. h.begins c l ∙ sym (place-skips c es at e here (other c l));
  linked = λ i c f from l there own.
      either i at (λ same. absurd (not-there i c f same l there own))
      (λ differ. h.linked i c f (omega (arith, from, differ)) l there own);
} where
  not-there : (i c : ℕ) (f : Entry ServerNote) → i ≡ at → c < accepted es → slice_get es i ≡ Some f
      → is_entry_of c f ≡ true → ⊥
  not-there i c f same l there own =
      let is : e ≡ f = same_Some e f (sym here ∙ ap (λ n. slice_get es n) (sym same) ∙ there) in
      true≢false (sym own ∙ ap (λ x. is_entry_of c x) (sym is) ∙ other c l)

-- an entry of an accepted connection
pub links : (es : List (Entry ServerNote)) (at d : ℕ) (first behind : List ℕ) (e : Entry ServerNote)
    → AreChains es (suc at) first behind → slice_get es at ≡ Some e
    → conn_of e ≡ Some d → d < accepted es
    → AreChains es at (set first d at) (set behind at (slice_index first d))
links es at d first behind e h here is few = record {
  connections = length-set first d at ∙ h.connections;
  places = length-set behind at (slice_index first d) ∙ h.places;
  begins = λ c l. either c d (λ same.
      get_or-set_at first d c at 0 same (omega (arith, few, h.connections))
      ∙ sym (place-here c es at e here (own c same)))
      (λ differ. get_or-set_other first d c at 0 differ ∙ h.begins c l
      ∙ sym (place-skips c es at e here (of-other c differ)));
  linked = λ i c f from l there own.
      either i at (λ same. at-place i c f same there own)
      (λ differ. get_or-set_other behind at i (slice_index first d) 0 differ
      ∙ h.linked i c f (omega (arith, from, differ)) l there own);
} where
  own : (c : ℕ) → c ≡ d → is_entry_of c e ≡ true
  own c same = entry-is c e ∙ ap (λ o. is_of c o) is ∙ eqb-same d c (sym same)

  of-other : (c : ℕ) → c ≢ d → is_entry_of c e ≡ false
  of-other c differ = entry-is c e ∙ ap (λ o. is_of c o) is
      ∙ eqb-other d c (λ same. differ (sym same))

  at-place : (i c : ℕ) (f : Entry ServerNote) → i ≡ at → slice_get es i ≡ Some f
      → is_entry_of c f ≡ true → slice_index (set behind at (slice_index first d)) i
      ≡ place_from c es (suc i)
  at-place i c f same there mine =
      let same_entry : e ≡ f = same_Some e f
      (sym here ∙ ap (λ n. slice_get es n) (sym same) ∙ there) in
      let is_own : (d == c) ≡ true = sym (entry-is c e ∙ ap (λ o. is_of c o) is)
      ∙ ap (λ x. is_entry_of c x) same_entry ∙ mine in
      let within = slice_get_within es at e here in
      get_or-set_at behind at i (slice_index first d) 0 same (omega (arith, within, h.places))
      ∙ h.begins d few ∙ ap (λ c. place_from c es (suc at)) (eqb-true d c is_own)
      ∙ ap (λ n. place_from c es (suc n)) (sym same)

pub links-to : (es : List (Entry ServerNote)) (at d n : ℕ) (first behind : List ℕ)
    (e : Entry ServerNote) → AreChains es (suc at) first behind → slice_get es at ≡ Some e
    → conn_of e ≡ Some d → d < accepted es → n ≡ get_or first d n
    → AreChains es at (set first d at) (set behind at n)
links-to es at d n first behind e h here is few read =
    let within : d < length first = omega (arith, few, h.connections) in
    subst (λ k. AreChains es at (set first d at) (set behind at k))
    (sym (get_or_default_zero first d n within) ∙ sym read)
    (links es at d first behind e h here is few)

-- an entry of no connection, or of one beyond so many
pub none-of : (n : ℕ) (e : Entry ServerNote) → conn_of e ≡ None → IsOfNone n e
none-of n e none c l = entry-is c e ∙ ap (λ o. is_of c o) none

pub beyond : (n d : ℕ) (e : Entry ServerNote) → conn_of e ≡ Some d → n ≤ d → IsOfNone n e
beyond n d e is many c l = entry-is c e ∙ ap (λ o. is_of c o) is
    ∙ eqb-other d c (λ same. too-many same l) where
      too-many : d ≡ c → c < n → ⊥
      too-many same l = omega (arith, many, same, l)
