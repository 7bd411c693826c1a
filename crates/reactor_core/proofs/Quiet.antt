-- The entries that a call appends by itself, and that begin and end nothing: what they leave as it
-- is.
use Rattle.std.proofs.Common.{ℕ, suc, ◌≡◌, ◌≤◌, ◌+◌, ◌==◌, Bool, true, false, not, ◌&&◌, ◌||◌, List}
use Rattle.std.proofs.Common.{[], ◌∷◌, ◌++◌, map, length, refl, sym, ap, ◌∙◌, subst, arith, cond}
use Rattle.std.proofs.Common.{None, if◌then◌else◌}
use Rattle.std.proofs.lemmas.Bool.{and_from}
use Rattle.std.specs.List.{list_any}
use Rattle.reactor_summary.specs.ev_types.specs.declared.upcall.Mask.{Mask}
use Rattle.ev_base.specs.Terms.{Terms}
use Rattle.reactor_model.specs.reactor_journal.specs.declared.entry.Entry.{Entry}
use Rattle.reactor_model.specs.reactor_journal.specs.declared.entry.Entry.TheVariants.{Scheduled}
use Rattle.reactor_model.specs.reactor_journal.specs.declared.entry.Entry.TheVariants.{Cancelled}
use Rattle.reactor_model.specs.reactor_journal.specs.declared.entry.Entry.TheVariants.{Posted}
use Rattle.reactor_model.specs.reactor_journal.specs.declared.entry.Entry.TheVariants.{Stale}
use Rattle.reactor_model.specs.reactor_journal.specs.declared.entry.Entry.TheVariants.{Masked}
use Rattle.reactor_model.specs.reactor_journal.specs.declared.entry.Entry.TheVariants.{Suspended}
use Rattle.reactor_model.specs.reactor_journal.specs.declared.entry.Entry.TheVariants.{Resumed}
use Rattle.reactor_model.specs.reactor_journal.specs.declared.entry.Entry.TheVariants.{Opened}
use Rattle.reactor_model.specs.reactor_journal.specs.declared.entry.Entry.TheVariants.{Polled, Due}
use Rattle.reactor_model.specs.reactor_journal.specs.declared.entry.Entry.TheVariants.{Ready}
use Rattle.reactor_model.specs.reactor_journal.specs.declared.entry.Entry.TheVariants.{Started}
use Rattle.reactor_model.specs.reactor_journal.specs.declared.entry.Entry.TheVariants.{Returned}
use Rattle.reactor_model.specs.reactor_journal.specs.declared.entry.Entry.TheVariants.{Refused}
use Rattle.reactor_model.specs.reactor_journal.specs.declared.entry.Entry.TheVariants.{Removed}
use Rattle.reactor_model.specs.reactor_journal.specs.declared.entry.Entry.TheVariants.{Closed}
use Rattle.reactor_model.specs.reactor_journal.specs.declared.entry.Entry.TheVariants.{Ended}
use Rattle.reactor_model.specs.reactor_journal.specs.Past.{past_of, count}
use Rattle.reactor_model.specs.reactor_journal.specs.Follow.{may_follow, is_legal, follows_due}
use Rattle.reactor_model.specs.reactor_journal.specs.Follow.{follows_ready}
use Rattle.reactor_model.specs.reactor_journal.proofs.Turning.{past_of-more}
use Rattle.reactor_summary.specs.declared.parts.LiveHandle.{LiveHandle}
use Rattle.reactor_summary.specs.Summary.{Summary, summary, step, some_wait, is_overdue, is_busy}
use Rattle.reactor_summary.specs.Summary.{with_mask, with_suspended}
use Rattle.reactor_summary.specs.Rules as R
use Rattle.reactor_state.specs.State.{HasNumber, owed, no_places}
use Rattle.reactor_state.specs.declared.places.Places.{Places}
use Rattle.reactor_core.specs.Handlers.{RepositoryStands}
use Rattle.reactor_core.specs.Stands.{Meaning, Tracks, NetStands, IsSettled, HasRoom, Stands}
use Rattle.reactor_core.specs.Stands.{places_for}
use Rattle.reactor_core.specs.declared.reactor.Core.{Core}
use Rattle.reactor_core.proofs.Seats.{keeps_seats, seats_quiet}
use Rattle.reactor_core.proofs.Ends.{keeps_net, net_quiet}
use Rattle.reactor_core.proofs.Steps.{may_by, Appends, tracks_by}

-- the entry opens, starts, settles, ends and closes nothing, and is not of a wait
abbrev pub is_quiet : {N : Type 0} → Entry N → Bool
is_quiet (Scheduled timer handle first every) = true
is_quiet (Cancelled timer) = true
is_quiet (Posted handle kind from seq) = true
is_quiet (Stale handle from seq) = true
is_quiet (Masked handle mask) = true
is_quiet (Suspended handle) = true
is_quiet (Resumed handle) = true
is_quiet _ = false

-- ---- handles that change but stay as alive as they were

-- a change of a handle leaves its number and whether it is alive
pub record KeepsLife (f : LiveHandle → LiveHandle) : Type 0 where
  pub number : (h : LiveHandle) → (f h).handle.0 ≡ h.handle.0
  pub alive : (h : LiveHandle) → (f h).alive ≡ h.alive

same_if : {A : Type 0} (b : Bool) (p : LiveHandle → A) (g h : LiveHandle) → p g ≡ p h
    → p (cond b g h) ≡ p h
same_if true p g h q = q
same_if false p g h q = refl

mask_keeps : (x : ℕ) (mask : Mask) → KeepsLife (with_mask x mask)
mask_keeps x mask = record {
  number = λ h. same_if (x == h.handle.0) (λ h. h.handle.0) (record h { mask = mask }) h refl;
  alive = λ h. same_if (x == h.handle.0) (λ h. h.alive) (record h { mask = mask }) h refl;
}

suspended_keeps : (x : ℕ) (b : Bool) → KeepsLife (with_suspended x b)
suspended_keeps x b = record {
  number = λ h. same_if (x == h.handle.0) (λ h. h.handle.0) (record h { suspended = b }) h refl;
  alive = λ h. same_if (x == h.handle.0) (λ h. h.alive) (record h { suspended = b }) h refl;
}

any_kept : (f : LiveHandle → LiveHandle) (test : ℕ → Bool → Bool) (hs : List LiveHandle)
    → KeepsLife f
    → list_any (λ (h : LiveHandle). test h.handle.0 h.alive) (map f hs)
    ≡ list_any (λ (h : LiveHandle). test h.handle.0 h.alive) hs
any_kept f test [] k = refl
any_kept f test (h ∷ hs) k =
    ap (λ (n : ℕ). test n (f h).alive || list_any (λ (h : LiveHandle). test h.handle.0 h.alive)
    (map f hs)) (k.number h)
    ∙ (ap (λ b. test h.handle.0 b || list_any (λ (h : LiveHandle). test h.handle.0 h.alive)
    (map f hs)) (k.alive h)
    ∙ ap (λ b. test h.handle.0 h.alive || b) (any_kept f test hs k))

count_kept : (f : LiveHandle → LiveHandle) (hs : List LiveHandle) → KeepsLife f
    → count (λ (h : LiveHandle). h.alive) (map f hs) ≡ count (λ (h : LiveHandle). h.alive) hs
count_kept f [] k = refl
count_kept f (h ∷ hs) k =
    ap (λ b. cond b (suc (count (λ (h : LiveHandle). h.alive) (map f hs)))
    (count (λ (h : LiveHandle). h.alive) (map f hs))) (k.alive h)
    ∙ ap (λ (n : ℕ). cond h.alive (suc n) n) (count_kept f hs k)

length_kept : (f : LiveHandle → LiveHandle) (hs : List LiveHandle) → length (map f hs) ≡ length hs
length_kept f [] = refl
length_kept f (h ∷ hs) = ap suc (length_kept f hs)

-- ---- what a quiet entry leaves

pub record IsKept {N : Type 0} (s : Summary) (e : Entry N) : Type 0 where
  pub entries : (step s e).entries ≡ suc s.entries
  pub opens : length (step s e).opens ≡ length s.opens
  pub ended : (step s e).ended ≡ s.ended
  pub owed : owed (step s e) ≡ owed s
  pub waits : some_wait (step s e) ≡ some_wait s
  pub alive : list_any (λ (h : LiveHandle). h.alive) (step s e).handles
      ≡ list_any (λ (h : LiveHandle). h.alive) s.handles
  pub seats : keeps_seats e ≡ true

abbrev unended : Bool → ℕ
unended b = if b then 0 else 1

changed : {N : Type 0} (s : Summary) (e : Entry N) (f : LiveHandle → LiveHandle) → KeepsLife f
    → (step s e).handles ≡ map f s.handles → (step s e).opens ≡ s.opens → (step s e).ended ≡ s.ended
    → keeps_seats e ≡ true → IsKept s e
changed s e f k handles opens ended seats = record {
  entries = refl;
  opens = ap length opens;
  ended = ended;
  owed = omega (
    arith,
    ap length opens,
    ap length handles ∙ length_kept f s.handles,
    ap (count (λ (h : LiveHandle). h.alive)) handles ∙ count_kept f s.handles k,
    ap unended ended,
  );
  waits = ap (λ os. list_any (λ (h : LiveHandle). not h.alive
      && not (list_any (λ o. o.handle.0 == h.handle.0) os)) (step s e).handles) opens
      ∙ (ap (list_any (λ (h : LiveHandle). not h.alive && not (is_busy s h.handle.0))) handles
      ∙ any_kept f (λ n b. not b && not (is_busy s n)) s.handles k);
  alive = ap (list_any (λ (h : LiveHandle). h.alive)) handles ∙ any_kept f (λ n b. b) s.handles k;
  seats = seats;
}

pub kept : {N : Type 0} (s : Summary) (e : Entry N) → is_quiet e ≡ true → IsKept s e
kept s (Opened handle mask) q = cc
kept s (Polled moment) q = cc
kept s (Due timer) q = cc
kept s (Ready handle kind) q = cc
kept s (Started event) q = cc
kept s (Returned event answer note) q = cc
kept s (Refused live fault note) q = cc
kept s (Removed handle) q = cc
kept s (Closed handle note) q = cc
kept s Ended q = cc
kept s (Masked handle mask) q = changed s (Masked handle mask) (with_mask handle.0 mask)
    (mask_keeps handle.0 mask) refl refl refl refl
kept s (Suspended handle) q = changed s (Suspended handle) (with_suspended handle.0 true)
    (suspended_keeps handle.0 true) refl refl refl refl
kept s (Resumed handle) q = changed s (Resumed handle) (with_suspended handle.0 false)
    (suspended_keeps handle.0 false) refl refl refl refl
kept s (Scheduled timer handle first every) q =
    record {
      entries = refl;
      opens = refl;
      ended = refl;
      owed = refl;
      waits = refl;
      alive = refl;
      seats = refl;
    }
kept s (Cancelled timer) q = record {
  entries = refl;
  opens = refl;
  ended = refl;
  owed = refl;
  waits = refl;
  alive = refl;
  seats = refl;
}
kept s (Posted handle kind from seq) q =
    record {
      entries = refl;
      opens = refl;
      ended = refl;
      owed = refl;
      waits = refl;
      alive = refl;
      seats = refl;
    }
kept s (Stale handle from seq) q =
    record {
      entries = refl;
      opens = refl;
      ended = refl;
      owed = refl;
      waits = refl;
      alive = refl;
      seats = refl;
    }

-- ---- the core after a quiet entry

-- What the body of a call does: one entry in a spare place, and one step of the state, which may
-- use the places that were made.
pub record AppendsQuiet {H M Q W V N E : Type 0} (m : Meaning H M Q W V N E)
    (old new : Core H M Q W V N E) (e : Entry N) (more : Places) (P : Summary → Type 0) : Type 0
  where
    pub appends : Appends m old new e
    pub spare : new.journal.spare + 1 ≡ old.journal.spare
    pub repo : new.repo ≡ old.repo
    pub state : (s : Summary) → m.shows old.state s → P s → m.shows new.state (step s e)
    pub places : (n : ℕ) → m.places (places_for n more) old.state
        → m.places (places_for n no_places) new.state

-- if there is room for an entry, there is a number for it
pub has_number : {H M Q W V N E : Type 0} (m : Meaning H M Q W V N E) (core : Core H M Q W V N E)
    (more : Places) (s : Summary) → HasRoom m 1 more core s → HasNumber s
has_number m core more s room = omega (arith, room.numbers)

-- what the net has to do with the history after it
pub record NetKeeps {H M Q W V N E : Type 0} (m : Meaning H M Q W V N E) (t : Terms)
    (old new : Core H M Q W V N E) (past : List (Entry N)) : Type 0 where
  pub stands : NetStands m.means t past [] (m.facts new.net)
  pub keeps : m.keeps t new.net
  pub spare : (m.facts old.net).spare ≤ (m.facts new.net).spare

module _ {H M Q W V N E : Type 0} (m : Meaning H M Q W V N E) (t : Terms)
    (old new : Core H M Q W V N E) (F : ℕ) (h : List (Entry N)) (e : Entry N) where
  -- a net that is left alone
  pub net_alone : new.net ≡ old.net → keeps_net e ≡ true → Tracks m t old F h None []
      → NetKeeps m t old new (e ∷ past_of h)
  net_alone same q o = record {
    stands = subst (λ net. NetStands m.means t (e ∷ past_of h) [] (m.facts net)) (sym same)
        (net_quiet m.means t e (past_of h) [] (m.facts old.net) q o.net);
    keeps = subst (λ net. m.keeps t net) (sym same) o.keeps;
    spare = let q : (m.facts new.net).spare ≡ (m.facts old.net).spare =
        ap (λ net. (m.facts net).spare) same in omega (arith, q);
  }

  -- the core stands for the history with the entry after it
  pub goes_on : (more : Places) (P : Summary → Type 0) → is_quiet e ≡ true
      → AppendsQuiet m old new e more P → NetKeeps m t old new (e ∷ past_of h)
      → R.may_follow t.most (follows_due (past_of h)) (follows_ready (past_of h))
      (summary (past_of h)) e ≡ true
      → (is_legal t.most (e ∷ past_of h) ≡ true → is_overdue (step (summary (past_of h)) e) ≡ false)
      → P (summary (past_of h)) → HasRoom m 1 more old (summary (past_of h)) → Stands m t old F h
      → Stands m t new F (h ++ e ∷ [])
  goes_on more P quiet d net may due p room o =
      let past : List (Entry N) = past_of h in
      let s : Summary = summary past in
      let k : IsKept s e = kept s e quiet in
      let same : past_of (h ++ e ∷ []) ≡ e ∷ past = past_of-more h e in
      let follows : may_follow t.most past e ≡ true =
      may_by t.most h e (follows_due past) (follows_ready past) o.tracks.legal refl refl may in
      let spare : new.repo.spare ≡ old.repo.spare = ap (λ r. r.spare) d.repo in
      record {
        tracks = tracks_by m t old new F h e None None [] [] o.tracks d.appends follows
            (d.state s o.tracks.state p)
            (subst (λ repo. RepositoryStands m.means t (e ∷ past) None repo.entries) (sym d.repo)
            (seats_quiet m.means t e past None old.repo.entries k.seats o.tracks.repository))
            net.stands
            net.keeps;
        settled = subst (λ ps. IsSettled (summary ps)) (sym same) (record {
          none_waits = k.waits ∙ o.settled.none_waits;
          none_due = due (and_from (may_follow t.most past e) (is_legal t.most past) follows
              o.tracks.legal);
          none_alive = λ ended. k.alive ∙ o.settled.none_alive (sym k.ended ∙ ended);
        });
        room = subst (λ ps. HasRoom m 0 no_places new (summary ps)) (sym same) (record {
          journal = omega (arith, room.journal, d.spare, k.owed);
          numbers = omega (arith, room.numbers, k.owed, k.entries);
          state = subst (λ (n : ℕ). m.places (places_for n no_places) new.state) (sym k.opens)
              (d.places (length s.opens) room.state);
          repository = omega (arith, room.repository, spare, k.opens);
          net = omega (arith, room.net, net.spare, k.opens);
        });
      }
