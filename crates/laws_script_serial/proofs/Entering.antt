-- An entry of a serial journal, and all that is known of it by its place.
use Rattle.std.proofs.Common.{◌≡◌, ◌∙◌, ℕ, true, false, List, [], ◌∷◌, ◌++◌, Option, sym, subst, ap}
use Rattle.std.proofs.Common.{append_assoc}
use Rattle.std.specs.List.{list_any}
use Rattle.std.proofs.lemmas.Bool.{and_parts}
use Rattle.laws_script_runs.specs.reactor_journal.specs.Event.{Item, Origin}
use Rattle.laws_script_runs.specs.reactor_journal.specs.declared.entry.Entry.{Entry}
use Rattle.laws_script_runs.specs.reactor_journal.specs.declared.entry.Entry.TheVariants.{Closed}
use Rattle.laws_script_runs.specs.reactor_journal.specs.Past.{past_of, had, origin_of, reason_of}
use Rattle.laws_script_runs.specs.reactor_journal.specs.Past.{ended_itself, was_opened, was_closed}
use Rattle.laws_script_runs.specs.reactor_journal.specs.Past.{opened}
use Rattle.laws_script_runs.specs.reactor_journal.specs.Follow.{may_follow, is_legal, follows_ready}
use Rattle.laws_script_runs.specs.reactor_journal.proofs.Alive.{opened_below}
use Rattle.laws_script_runs.specs.reactor_journal.proofs.Picking.{all_below-at}
use Rattle.laws_script_runs.specs.reactor_journal.proofs.Turning.{is_legal-front}
use Rattle.laws_script_runs.specs.event_script.specs.Script.{ScriptGroup, groups_told, steps_of}
use Rattle.laws_script_runs.specs.log_handler.specs.declared.note.ServerNote.{ServerNote}
use Rattle.laws_script_runs.specs.laws_script_told.specs.Told.{FollowsBefore}
use Rattle.laws_script_runs.specs.Connections.{AreLeft, IsLeft, HadMemory, entry_lacks, SaysLast}
use Rattle.laws_script_runs.specs.Steps.{EachStep}
use Rattle.laws_script_runs.proofs.Handles.{Found, found, had_found}
use Rattle.laws_script_runs.proofs.Settling as settling
use Rattle.laws_script_runs.proofs.Settling.{each_front, opened_later, origin_still}
use Rattle.laws_script_runs.proofs.Winding as winding
use Rattle.laws_script_serial.specs.Serial.{Serial, IsSettledAtOnce, InstallsOnly, WaitsOnly}
use Rattle.laws_script_serial.specs.Serial.{ClosesUp, OnlyClosesUp, is_foreign}
use Rattle.laws_script_serial.proofs.Leaving.{HasAll}
use Rattle.laws_script_serial.proofs.Reports.{gathered, follows_front, none_behind}

module _ (most : ℕ) (idle : Option ℕ) (groups : List ScriptGroup) where
  -- an entry, those after it and those before it
  pub record Entrance (later : List (Entry ServerNote)) (e : Entry ServerNote)
      (past : List (Entry ServerNote)) : Type 0 where
    pub legal : is_legal most (later ++ e ∷ past) ≡ true
    pub may : may_follow most past e ≡ true
    pub before : is_legal most past ≡ true
    pub settles : IsSettledAtOnce past e
    pub settled : EachStep IsSettledAtOnce past
    pub installs : InstallsOnly most idle past e
    pub waits : WaitsOnly groups past e
    pub removes : ClosesUp past e
    pub closes : OnlyClosesUp past e
    pub closed_up : EachStep OnlyClosesUp past
    pub familiar : is_foreign e ≡ false
    pub told : FollowsBefore (groups_told groups) (e ∷ past) (gathered later [])
    pub none_later : follows_ready (e ∷ past) ≡ false → gathered later [] ≡ []
    pub left : IsLeft (steps_of groups) idle past e
    pub memory : entry_lacks e ≡ false
    pub all_closed : (x : ℕ) → was_opened (later ++ e ∷ past) x ≡ true
        → was_closed (later ++ e ∷ past) x ≡ true
    pub all_left : AreLeft (steps_of groups) idle (later ++ e ∷ past)
    pub all_memory : list_any entry_lacks (later ++ e ∷ past) ≡ false

  pub enters : (journal : List (Entry ServerNote)) → Serial most idle groups journal
      → HadMemory journal → (later : List (Entry ServerNote)) (e : Entry ServerNote)
      (past : List (Entry ServerNote))
      → past_of journal ≡ later ++ e ∷ past → Entrance later e past
  enters journal s memory later e past is = record {
    legal = legal;
    may = parts.0;
    before = parts.1;
    settles = (at IsSettledAtOnce s.settles).0;
    settled = (at IsSettledAtOnce s.settles).1;
    installs = (at (InstallsOnly most idle) s.installs).0;
    waits = (at (WaitsOnly groups) s.waits).0;
    removes = (at ClosesUp s.removes).0;
    closes = (at OnlyClosesUp s.closes).0;
    closed_up = (at OnlyClosesUp s.closes).1;
    familiar = winding.none_at is_foreign later e past
        (sym (ap (list_any is_foreign) is) ∙ winding.any_reverse is_foreign journal s.kinds);
    told = follows_front (groups_told groups) later (e ∷ past) []
        (subst (λ (p : List (Entry ServerNote)). FollowsBefore (groups_told groups) p []) is
        s.follows);
    none_later = none_behind most later (e ∷ past) legal;
    left = (at (IsLeft (steps_of groups) idle) s.turns).0;
    memory = winding.none_at entry_lacks later e past all_memory;
    all_closed = λ x o.
        subst (λ (p : List (Entry ServerNote)). was_closed p x ≡ true) is
        (all_below-at (opened (past_of journal)) (was_closed (past_of journal)) x
        (opened_below most (past_of journal) x s.legal
        (ap (λ (p : List (Entry ServerNote)). was_opened p x) is ∙ o)) s.closed);
    all_left = subst (AreLeft (steps_of groups) idle) is s.turns;
    all_memory = all_memory;
  }
    where
      legal : is_legal most (later ++ e ∷ past) ≡ true
      legal = sym (ap (is_legal most) is) ∙ s.legal

      parts : (may_follow most past e ≡ true) × (is_legal most past ≡ true)
      parts = and_parts (may_follow most past e) (is_legal most past)
          (is_legal-front most later (e ∷ past) legal)

      at : (P : List (Entry ServerNote) → Entry ServerNote → Type 0) → EachStep P (past_of journal)
          → P past e × EachStep P past
      at P each = each_front P later (e ∷ past) (subst (EachStep P) is each)

      all_memory : list_any entry_lacks (later ++ e ∷ past) ≡ false
      all_memory = sym (ap (list_any entry_lacks) is)
          ∙ winding.any_reverse entry_lacks journal memory

  -- ---- the turn that a `Returned` settles

  abbrev pub whole : List (Entry ServerNote) → Entry ServerNote → List (Entry ServerNote)
      → List (Entry ServerNote)
  whole later e past = later ++ e ∷ past

  -- all turns of a handler that was opened before, and what it leaves
  pub has_all : (later : List (Entry ServerNote)) (e : Entry ServerNote)
      (past : List (Entry ServerNote)) → Entrance later e past → (x : ℕ) → was_opened past x ≡ true
      → HasAll (steps_of groups) idle (origin_of past x) (had (whole later e past) x)
  has_all later e past n x o = record {
    own = ended_itself f.before f.handle.0;
    said = f.said;
    memory = winding.none_at entry_lacks f.later (Closed f.handle f.said) f.before
        (sym (ap (list_any entry_lacks) f.is) ∙ n.all_memory);
    leaves = subst (λ (origin : Option (Origin ServerNote)).
        SaysLast (steps_of groups) idle origin (had (whole later e past) x)
        (reason_of f.before f.handle.0) f.said) origin
        (subst (λ (items : List (Item ServerNote)).
        SaysLast (steps_of groups) idle (origin_of f.before f.handle.0) items
        (reason_of f.before f.handle.0) f.said) items f.left);
  }
    where
      all : List (Entry ServerNote)
      all = later ++ e ∷ past

      joined : later ++ e ∷ past ≡ (later ++ e ∷ []) ++ past
      joined = sym (append_assoc later (e ∷ []) past)

      opened_all : was_opened (later ++ e ∷ past) x ≡ true
      opened_all = ap (λ (p : List (Entry ServerNote)). was_opened p x) joined
          ∙ opened_later (later ++ e ∷ []) past x o

      f : Found (IsLeft (steps_of groups) idle) (later ++ e ∷ past) x
      f = found (IsLeft (steps_of groups) idle) (later ++ e ∷ past) x (n.all_closed x opened_all)
          n.all_left

      items : had f.before f.handle.0 ≡ had (later ++ e ∷ past) x
      items = ap (had f.before) f.mine ∙ sym
          (had_found most (IsLeft (steps_of groups) idle) (later ++ e ∷ past) x n.legal f)

      front : later ++ e ∷ past ≡ (f.later ++ Closed f.handle f.said ∷ []) ++ f.before
      front = f.is ∙ sym (append_assoc f.later (Closed f.handle f.said ∷ []) f.before)

      opened_there : was_opened f.before x ≡ true
      opened_there = settling.opened_before_closed most f.later f.before f.handle f.said x
          (sym (ap (is_legal most) f.is) ∙ n.legal) f.mine

      origin : origin_of f.before f.handle.0 ≡ origin_of past x
      origin =
          ap (origin_of f.before) f.mine ∙ sym
          (origin_still most (f.later ++ Closed f.handle f.said ∷ []) f.before x
          (sym (ap (is_legal most) front) ∙ n.legal) opened_there)
          ∙ sym (ap (λ (p : List (Entry ServerNote)). origin_of p x) front)
          ∙ ap (λ (p : List (Entry ServerNote)). origin_of p x) joined
          ∙ origin_still most (later ++ e ∷ []) past x (sym (ap (is_legal most) joined) ∙ n.legal) o
