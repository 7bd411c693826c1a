-- What each handler of a whole journal leaves.
use Rattle.std.proofs.Common.{ℕ, suc, ◌≡◌, ◌==◌, ◌≤◌, Bool, true, false, ◌||◌, List, [], ◌∷◌, ◌++◌}
use Rattle.std.proofs.Common.{refl, sym, ap, ◌∙◌, subst, arith, Some, None, ⊎_elim, append-nil}
use Rattle.std.proofs.Common.{append_assoc}
use Rattle.std.proofs.lemmas.Bool.{false≢true, and_parts, cases_Bool, eqb-true, eq-eqb}
use Rattle.reactor_model.specs.ev_types.specs.declared.upcall.Handle.{Handle}
use Rattle.reactor_model.specs.ev_types.specs.declared.upcall.Mask.{Mask}
use Rattle.reactor_model.specs.reactor_journal.specs.Event.{Item, Origin}
use Rattle.reactor_model.specs.reactor_journal.specs.declared.entry.Entry.{Entry}
use Rattle.reactor_model.specs.reactor_journal.specs.declared.entry.Entry.TheVariants.{Opened}
use Rattle.reactor_model.specs.reactor_journal.specs.declared.entry.Entry.TheVariants.{Closed}
use Rattle.reactor_model.specs.reactor_journal.specs.Past.{had, items_made, origin_of, offered_here}
use Rattle.reactor_model.specs.reactor_journal.specs.Past.{opens, closes, was_opened, was_closed}
use Rattle.reactor_model.specs.reactor_journal.specs.Past.{event_at, belongs_to, opened}
use Rattle.reactor_model.specs.reactor_journal.specs.Follow.{may_follow, is_legal}
use Rattle.reactor_model.specs.reactor_journal.proofs.Basics.{may_fits}
use Rattle.reactor_model.specs.reactor_journal.proofs.Closing.{Gone, closed_gone}
use Rattle.reactor_model.specs.reactor_journal.proofs.HadLaw.{quiet, returned_is_open}
use Rattle.laws_script_turns.specs.acceptor.specs.Servers.{read_alone}
use Rattle.laws_script_told.specs.log_handler.specs.declared.note.ServerNote.{ServerNote}
use Rattle.laws_script_runs.specs.Steps.{EachStep}
use Rattle.laws_script_runs.specs.Runs.{first_handle}

-- ---- the closing of a handle

-- the `Closed` of x, of which this holds as each entry's does
pub record Found (Q : List (Entry ServerNote) → Entry ServerNote → Type 0)
    (past : List (Entry ServerNote)) (x : ℕ) : Type 0 where
  pub later : List (Entry ServerNote)
  pub handle : Handle
  pub said : ServerNote
  pub before : List (Entry ServerNote)
  pub is : past ≡ later ++ Closed handle said ∷ before
  pub mine : handle.0 ≡ x
  pub left : Q before (Closed handle said)

module _ (Q : List (Entry ServerNote) → Entry ServerNote → Type 0) where
  found_here : (e : Entry ServerNote) (past : List (Entry ServerNote)) (x : ℕ) → closes x e ≡ true
      → Q past e → Found Q (e ∷ past) x
  found_here (Closed handle said) past x c left =
      record {
        later = [];
        handle = handle;
        said = said;
        before = past;
        is = refl;
        mine = eqb-true handle.0 x c;
        left = left;
      }
  found_here _ past x c left = absurd (false≢true c)

  found_later : (e : Entry ServerNote) (past : List (Entry ServerNote)) (x : ℕ) → Found Q past x
      → Found Q (e ∷ past) x
  found_later e past x f = record {
    later = e ∷ f.later;
    handle = f.handle;
    said = f.said;
    before = f.before;
    is = ap (λ (p : List (Entry ServerNote)). e ∷ p) f.is;
    mine = f.mine;
    left = f.left;
  }

  pub found : (past : List (Entry ServerNote)) (x : ℕ) → was_closed past x ≡ true → EachStep Q past
      → Found Q past x
  found [] x c each = absurd (false≢true c)
  found (e ∷ past) x c each = ⊎_elim
      (λ (t : closes x e ≡ true). found_here e past x t each.0)
      (λ (f : closes x e ≡ false). found_later e past x
      (found past x (sym (ap (λ (b : Bool). b || was_closed past x) f) ∙ c) each.1))
      (cases_Bool (closes x e))

-- ---- turns

-- what a handler has had, more entries on
pub record Grows (later past : List (Entry ServerNote)) (x : ℕ) : Type 0 where
  pub more : List (Item ServerNote)
  pub is : had (later ++ past) x ≡ had past x ++ more

pub had_grows : (later past : List (Entry ServerNote)) (x : ℕ) → Grows later past x
had_grows [] past x = record { more = []; is = sym (append-nil (had past x)) }
had_grows (e ∷ later) past x =
    let g = had_grows later past x in
    record {
      more = g.more ++ items_made (later ++ past) x e;
      is =
          ap (λ (items : List (Item ServerNote)). items ++ items_made (later ++ past) x e) g.is
          ∙ append_assoc (had past x) g.more (items_made (later ++ past) x e);
    }

-- it has none more once it was closed
none_made : (most : ℕ) (e : Entry ServerNote) (past : List (Entry ServerNote)) (x : ℕ)
    → is_legal most past ≡ true → may_follow most past e ≡ true → Gone past x
    → items_made past x e ≡ []
none_made most e past x legal may gone = quiet past x e (λ j r.
    ⊎_elim
    (λ (t : belongs_to x (event_at past j) ≡ true).
    absurd (gone.idle j (returned_is_open most past e j may r) t))
    (λ (f : belongs_to x (event_at past j) ≡ false). f)
    (cases_Bool (belongs_to x (event_at past j))))

closed_later : (later past : List (Entry ServerNote)) (x : ℕ) → was_closed past x ≡ true
    → was_closed (later ++ past) x ≡ true
closed_later [] past x c = c
closed_later (e ∷ later) past x c =
    or_right (closes x e) (was_closed (later ++ past) x) (closed_later later past x c)
  where
    or_right : (b c : Bool) → c ≡ true → (b || c) ≡ true
    or_right true c h = refl
    or_right false c h = h

pub had_closed : (most : ℕ) (later past : List (Entry ServerNote)) (x : ℕ)
    → is_legal most (later ++ past) ≡ true → was_closed past x ≡ true
    → had (later ++ past) x ≡ had past x
had_closed most [] past x legal c = refl
had_closed most (e ∷ later) past x legal c =
    let parts = and_parts (may_follow most (later ++ past) e) (is_legal most (later ++ past)) legal
    in
    let gone = closed_gone most (later ++ past) x parts.1 (closed_later later past x c) in
    ap (λ (items : List (Item ServerNote)). had (later ++ past) x ++ items)
    (none_made most e (later ++ past) x parts.1 parts.0 gone)
    ∙ append-nil (had (later ++ past) x) ∙ had_closed most later past x parts.1 c

-- all its turns are those before its `Closed`
pub had_found : (most : ℕ) (Q : List (Entry ServerNote) → Entry ServerNote → Type 0)
    (past : List (Entry ServerNote)) (x : ℕ) → is_legal most past ≡ true → (f : Found Q past x)
    → had past x ≡ had f.before x
had_found most Q past x legal f =
    ap (λ (p : List (Entry ServerNote)). had p x) f.is
    ∙ had_closed most f.later (Closed f.handle f.said ∷ f.before) x
    (sym (ap (is_legal most) f.is) ∙ legal)
    (ap (λ (b : Bool). b || was_closed f.before x) (eq-eqb f.handle.0 x f.mine))
    ∙ append-nil (had f.before x)

-- ---- origins

-- The first entry registers the acceptor; every other registration stands after a turn, which
-- offered the handler.
abbrev pub IsBegun : List (Entry ServerNote) → Entry ServerNote → Type 0
IsBegun [] e = e ≡ Opened first_handle read_alone
IsBegun (d ∷ past) (Opened handle mask) =
    ((origin : Origin ServerNote) × (offered_here (d ∷ past) ≡ Some origin)) × (mask ≡ read_alone)
IsBegun (d ∷ past) e = Unit {0}

some_opened : (d : Entry ServerNote) (past : List (Entry ServerNote)) → EachStep IsBegun (d ∷ past)
    → 1 ≤ opened (d ∷ past)
some_opened d [] b = subst (λ (e : Entry ServerNote). 1 ≤ opened (e ∷ [])) (sym b.0) (omega arith)
some_opened d (e ∷ past) b = more d (some_opened e past b.1)
  where
    more : (d : Entry ServerNote) → 1 ≤ opened (e ∷ past) → 1 ≤ opened (d ∷ (e ∷ past))
    more (Opened handle mask) h = omega (arith, h)
    more _ h = h

opened_number : (most : ℕ) (e : Entry ServerNote) (past : List (Entry ServerNote)) (x : ℕ)
    → may_follow most past e ≡ true → opens x e ≡ true → x ≡ opened past
opened_number most (Opened handle mask) past x may o =
    sym (eqb-true handle.0 x o) ∙ eqb-true _ _
    (and_parts _ _ (may_fits most past (Opened handle mask) may)).0
opened_number most _ past x may o = absurd (false≢true o)

origin_step : (e : Entry ServerNote) (past : List (Entry ServerNote)) (x : ℕ) → opens x e ≡ false
    → origin_of (e ∷ past) x ≡ origin_of past x
origin_step e past x o = rw (o, origin_of) refl

origin_new : (e : Entry ServerNote) (past : List (Entry ServerNote)) (x : ℕ) → opens x e ≡ true
    → origin_of (e ∷ past) x ≡ offered_here past
origin_new e past x o = rw (o, origin_of) refl

-- the first handler has no origin
pub origin_first : (most : ℕ) (past : List (Entry ServerNote)) → is_legal most past ≡ true
    → EachStep IsBegun past → origin_of past 0 ≡ None
origin_first most [] legal b = refl
origin_first most (e ∷ []) legal b = origin_new e [] 0 (ap (opens 0) b.0)
origin_first most (e ∷ (d ∷ past)) legal b =
    let parts = and_parts (may_follow most (d ∷ past) e) (is_legal most (d ∷ past)) legal in
    let other : opens 0 e ≡ false = ⊎_elim
    (λ (t : opens 0 e ≡ true). absurd (below (some_opened d past b.1)
    (opened_number most e (d ∷ past) 0 parts.0 t)))
    (λ (f : opens 0 e ≡ false). f) (cases_Bool (opens 0 e)) in
    origin_step e (d ∷ past) 0 other ∙ origin_first most (d ∷ past) parts.1 b.1
  where
    below : 1 ≤ opened (d ∷ past) → 0 ≡ opened (d ∷ past) → ⊥
    below h k = omega arith

-- every other has that of the turn after which it was registered
pub record Offered (past : List (Entry ServerNote)) (x : ℕ) : Type 0 where
  pub later : List (Entry ServerNote)
  pub handle : Handle
  pub mask : Mask
  pub first : Entry ServerNote
  pub before : List (Entry ServerNote)
  pub is : past ≡ later ++ Opened handle mask ∷ (first ∷ before)
  pub mine : handle.0 ≡ x
  pub origin : Origin ServerNote
  pub here : offered_here (first ∷ before) ≡ Some origin
  pub of_it : origin_of past x ≡ Some origin

offered_now : (e : Entry ServerNote) (d : Entry ServerNote) (past : List (Entry ServerNote)) (x : ℕ)
    → opens x e ≡ true → IsBegun (d ∷ past) e → Offered (e ∷ (d ∷ past)) x
offered_now (Opened handle mask) d past x o b = record {
  later = [];
  handle = handle;
  mask = mask;
  first = d;
  before = past;
  is = refl;
  mine = eqb-true handle.0 x o;
  origin = b.0.0;
  here = b.0.1;
  of_it = origin_new (Opened handle mask) (d ∷ past) x o ∙ b.0.1;
}
offered_now _ d past x o b = absurd (false≢true o)

pub offered : (past : List (Entry ServerNote)) (c : ℕ) → EachStep IsBegun past
    → was_opened past (suc c) ≡ true → Offered past (suc c)
offered [] c b o = absurd (false≢true o)
offered (e ∷ []) c b o = absurd (none
    (sym (ap (λ (f : Entry ServerNote). opens (suc c) f || false) b.0) ∙ o))
  where
    none : ((0 == suc c) || false) ≡ true → ⊥
    none h = absurd (zero_not (eqb-true 0 (suc c) (or_false _ h)))
      where
        or_false : (b : Bool) → (b || false) ≡ true → b ≡ true
        or_false true h = refl
        or_false false h = h

        zero_not : 0 ≡ suc c → ⊥
        zero_not e = omega arith
offered (e ∷ (d ∷ past)) c b o = ⊎_elim
    (λ (t : opens (suc c) e ≡ true). offered_now e d past (suc c) t b.0)
    (λ (f : opens (suc c) e ≡ false). later_on f
    (offered (d ∷ past) c b.1 (sym (ap (λ (b : Bool). b || was_opened (d ∷ past) (suc c)) f)
    ∙ o)))
    (cases_Bool (opens (suc c) e))
  where
    later_on : opens (suc c) e ≡ false → Offered (d ∷ past) (suc c)
        → Offered (e ∷ (d ∷ past)) (suc c)
    later_on f r = record {
      later = e ∷ r.later;
      handle = r.handle;
      mask = r.mask;
      first = r.first;
      before = r.before;
      is = ap (λ (p : List (Entry ServerNote)). e ∷ p) r.is;
      mine = r.mine;
      origin = r.origin;
      here = r.here;
      of_it = origin_step e (d ∷ past) (suc c) f ∙ r.of_it;
    }
