-- A pool of workers that lead in turn: a root and those that it hired (POSA2, Leader/Followers).
use Rattle.std.specs.Prelude.{ℕ, ◌≡◌, ◌≤◌, ◌+◌, true, false, List, [], ◌∷◌, length, Option, Some}
use Rattle.ev_base.specs.Counts.{Rose}
use Rattle.ev_base.specs.ev_types.specs.declared.upcall.Handle.{Handle}
use Rattle.leader_token.specs.Lists.{Begins}
use Rattle.leader_token.specs.list_lemmas.specs.Times.{times}
use Rattle.leader_token.specs.Passes.{split_right, joined}
use Rattle.leader_token.specs.declared.kept.View.{View}
use Rattle.leader_token.specs.list_lemmas.specs.Sums.{total}
use Rattle.notify_ring.specs.Passes as ring
use Rattle.notify_ring.specs.declared.view.Ended.{Ended}
use Rattle.notify_ring.specs.declared.view.View.{View as RingView}
use Rattle.reactor_model.specs.reactor_journal.specs.declared.entry.Entry.{Entry}
use Rattle.reactor_model.specs.reactor_journal.specs.Past.{past_of, count}
use Rattle.reactor_core.specs.reactor_summary.specs.Summary.{summary}
use Rattle.reactor_core.specs.Marks.{is_polled}
use Rattle.reactor_core.specs.Stands.{Meaning}
use Rattle.reactor_core.specs.Upcalls.{HasNoPick}
use Rattle.reactor_core.specs.laws_turns.specs.Opens.{opens_of}
use Rattle.reactor_desk.specs.declared.terms.DeskTerms.{DeskTerms}
use Rattle.reactor_desk.specs.declared.leading.Led.TheVariants as led
use Rattle.tp_reactor.specs.Led.{IsLed, watch_mark, waits_mark, volumes_mark, over_mark}
use Rattle.tp_reactor.specs.Words.{SameKin}
use Rattle.tp_reactor.specs.Working.{first_ran, Runs}
use Rattle.tp_reactor.specs.declared.working.Ran.{Ran}
use Rattle.tp_reactor.specs.declared.working.Ran.TheVariants as ran

-- How a worker left its loop: with this answer, knowing this, and with these postings.
pub record WorkerEnd (N : Type 0) : Type 0 where
  pub ran : Ran
  pub known : View (Entry N) DeskTerms
  pub posted : RingView

-- what a root that knew v, with postings p, knows once it hired so many workers, and what its
-- postings are
abbrev pub hirer : {N : Type 0} → View (Entry N) DeskTerms → ℕ → View (Entry N) DeskTerms
hirer v many = record v { children = v.children + many }

abbrev pub hirer_posted : RingView → ℕ → RingView
hirer_posted p many = record p { posters = p.posters + many; children = p.children + many }

-- Each of these workers, which were hired from that number on, made its loop, from what the root
-- knew, and posted at most once.
abbrev pub AllRun : {H M Q W V N E : Type 0} → Meaning H M Q W V N E → Option ℕ
    → Option (ℕ × Handle) → View (Entry N) DeskTerms → RingView → ℕ → List (WorkerEnd N) → Type 0
AllRun m most until v p many [] = Unit {0}
AllRun m most until v p many (x ∷ xs) =
    (Runs m most until (split_right v) (ring.split_right (hirer_posted p many)) x.ran x.known
    x.posted × (length x.posted.posted ≤ 1)) × AllRun m most until v p (many + 1) xs

-- of two lists that workers have seen one begins the other, and the root keeps the longer
abbrev pub BothSeen : {N : Type 0} → View (Entry N) DeskTerms → View (Entry N) DeskTerms → Type 0
BothSeen v w = Begins v.seen (joined v w).seen × Begins w.seen (joined v w).seen

-- The root, with the answer that goes first so far, dismissed these workers one after another.
abbrev pub Dismisses : {N : Type 0} → WorkerEnd N → List (WorkerEnd N) → WorkerEnd N → Type 0
Dismisses root [] left = left ≡ root
Dismisses root (x ∷ xs) left = BothSeen root.known x.known
    × Dismisses (record {
      ran = first_ran root.ran x.ran;
      known = joined root.known x.known;
      posted = ring.joined root.posted x.posted;
    }) xs left

-- If each left with Over the root goes on alone, with the answer of its loop; else the answer is
-- the one that goes first.
abbrev pub EndsPool : {H M Q W V N E : Type 0} → Meaning H M Q W V N E → Option ℕ
    → Option (ℕ × Handle) → Ran → WorkerEnd N → WorkerEnd N → Type 0
EndsPool m most until ran.Over left end =
    Runs m most until left.known left.posted end.ran end.known end.posted
EndsPool m most until _ left end = end ≡ left

-- A root that knew v, with postings p, hired so many workers, each of which made its loop, as did
-- the root; then it dismissed them all, and ended the pool.
pub record RunsPool {H M Q W V N E : Type 0} (m : Meaning H M Q W V N E) (most : Option ℕ)
    (until : Option (ℕ × Handle)) (many : ℕ) (v : View (Entry N) DeskTerms) (p : RingView)
    (end : WorkerEnd N) : Type 0 where
  pub root : WorkerEnd N
  pub root_runs : Runs m most until (hirer v many) (hirer_posted p many) root.ran root.known
      root.posted
  pub hired : List (WorkerEnd N)
  pub all : length hired ≡ many
  pub each : AllRun m most until v p 0 hired
  pub left : WorkerEnd N
  pub dismisses : Dismisses root hired left
  pub ends : EndsPool m most until left.ran left end

-- There was no memory for the list of the workers: nobody was hired, and no lead was made.
abbrev pub HiresNone : {N : Type 0} → View (Entry N) DeskTerms → RingView → WorkerEnd N → Type 0
HiresNone v p end = (end.ran ≡ ran.NoMemory) × (end.known ≡ v) × (end.posted ≡ p)

-- ---- what follows from that

-- No event is open, and none can be started.
pub record IsAtRest {N : Type 0} (list : List (Entry N)) : Type 0 where
  pub closed : (e : ℕ) → times e (opens_of list) ≡ 0
  pub none : HasNoPick (past_of list)

-- The last lead of a root that knew v at first, and knows w in the end, answered Over, with as many
-- other workers as at first. If there were none, nothing is left to start or to settle.
pub record EndsWithOver {H M Q W V N E : Type 0} (m : Meaning H M Q W V N E) (most : Option ℕ)
    (v w : View (Entry N) DeskTerms) : Type 0 where
  pub last : View (Entry N) DeskTerms
  pub kin : SameKin v last
  pub grown : Begins v.seen last.seen
  pub leads : IsLed m last most led.Over w
  pub rests : v.root ≡ true → v.children ≡ 0 → IsAtRest w.seen

-- how many postings a root knows of: its own, and those of the workers that it dismissed
abbrev pub known_postings : RingView → ℕ
known_postings p = length p.posted + total (λ (e : Ended). length e.posted) p.ended

-- As many handlers as were asked for were closed or refused before the reactor was stopped.
pub record HasClosed {N : Type 0} (until : Option (ℕ × Handle)) (list : List (Entry N)) : Type 0
  where
    pub count : ℕ
    pub handle : Handle
    pub asked : until ≡ Some (count, handle)
    pub front : List (Entry N)
    pub begins : Begins front list
    pub enough : count ≤ (summary (past_of front)).closed + (summary (past_of front)).refused
    pub running : (summary (past_of front)).ended ≡ false

-- What an answer tells by the marks of the root: with a fault that of its cause is above what the
-- root had before the call, or for the watch above what the terms had at the start; with Over the
-- last wait that was answered so is the last that the root has seen; and with Stopped it has seen
-- that the reactor was stopped.
abbrev pub RanTells : {N : Type 0} → View (Entry N) DeskTerms → Ran → View (Entry N) DeskTerms
    → Type 0
RanTells v ran.NetFault w = Rose (waits_mark v) (waits_mark w)
RanTells v ran.VolumeFault w = Rose (volumes_mark v) (volumes_mark w)
RanTells v ran.Broken w = (before : ℕ) → v.terms.run.output_faults ≡ Some before
    → Rose before (watch_mark w)
RanTells v ran.Over w = over_mark w ≡ count is_polled (past_of w.seen)
RanTells v ran.NoMemory w = Unit {0}
RanTells v ran.Stopped w = (summary (past_of w.seen)).ended ≡ true
