-- The handing over of a volume.
use Rattle.std.proofs.Common.{ℕ, ◌≡◌, ◌≤◌, ◌<◌, ◌+◌, ◌-◌, ◌^◌, ◌&&◌, true, List, [], ◌++◌, length}
use Rattle.std.proofs.Common.{take, drop, sym, ap, ◌∙◌, subst, arith, Option, Some, None}
use Rattle.std.proofs.Common.{option_map, Err}
use Rattle.std.specs.Prelude.{nat_le, nat_lt}
use Rattle.std.proofs.Math.Seq.{drop-length, take-length}
use Rattle.std.proofs.lemmas.Bool.{and_parts, ltb-true}
use Rattle.std.proofs.lemmas.List.{length-drop, length-reverse, take-append-drop, append_assoc}
use Rattle.ev_base.specs.Terms.{Terms}
use Rattle.reactor_model.specs.reactor_journal.specs.Held.{Held}
use Rattle.reactor_model.specs.reactor_journal.specs.declared.entry.Entry.{Entry}
use Rattle.reactor_model.specs.reactor_journal.specs.Past.{past_of}
use Rattle.reactor_model.specs.reactor_journal.specs.Follow.{Legal}
use Rattle.reactor_summary.specs.Summary.{Summary, summary}
use Rattle.reactor_summary.proofs.Told.{told}
use Rattle.reactor_model.specs.Volumes.{VolumesFacts, AddsEntries, IsNext, GivesBack, TakesVolume}
use Rattle.reactor_model.specs.declared.volumes.TakeRefused.{TakeRefused}
use Rattle.reactor_model.specs.declared.volumes.TakeRefused.TheVariants.{Failed, NoMemory}
use Rattle.reactor_state.specs.State.{owed, no_places}
use Rattle.reactor_core.specs.Handlers.{RepositoryStands}
use Rattle.reactor_core.specs.Ends.{WhereTold}
use Rattle.reactor_core.specs.Stands.{Meaning, JournalStands, NetStands, HasTaken, VolumesStand}
use Rattle.reactor_core.specs.Stands.{Stands, places_for}
use Rattle.reactor_core.specs.HandingOver.{is_due, KeepsOthers, HandsDue, HandsOver, HandsNothing}
use Rattle.reactor_core.specs.HandingOver.{IsHandOverCause, hand_over_refusal}
use Rattle.reactor_core.specs.declared.reactor.Core.{Core}
use Rattle.reactor_core.proofs.WaitNumbers.{marks_kept}

-- the summary of a legal history counts its entries
pub entries_are : {N : Type 0} (most : ℕ) (h : List (Entry N)) → Legal h most
    → (summary (past_of h)).entries ≡ length h
entries_are most h legal = (told most (past_of h) legal).entries ∙ length-reverse h

-- the entries that are held are those that were not handed over
pub held_are : {H M Q W V N E : Type 0} (core : Core H M Q W V N E) (F : ℕ) (h : List (Entry N))
    → JournalStands core F h → length core.journal.entries ≡ length h - F
held_are core F h j = ap length j.entries ∙ length-drop F h

-- the volumes took the entries that were held, and so all
taken_all : {N : Type 0} (t : Terms) (F : ℕ) (h held : List (Entry N))
    (old new : Option (List (Entry N))) → held ≡ drop F h → AddsEntries old held new
    → WhereTold (HasTaken t F h) old → WhereTold (HasTaken t (length h) h) new
taken_all t F h held None None q a o = tt
taken_all t F h held None (Some new) q a o = absurd a
taken_all t F h held (Some old) None q a o = absurd a
taken_all t F h held (Some old) (Some new) q a o = (
  o.0,
  a ∙ (ap (λ x. old ++ x) q ∙ (ap (λ x. x ++ drop F h) o.1
      ∙ (append_assoc o.0 (take F h) (drop F h)
      ∙ ap (λ x. o.0 ++ x) (take-append-drop F h ∙ sym (take-length h))))),
  o.2,
)

-- and the next is the number of all
next_all : (F held all : ℕ) (next : Option ℕ) → all ≡ F + held → IsNext next F
    → IsNext (option_map (λ k. k + held) next) all
next_all F held all None q o = tt
next_all F held all (Some next) q o = q ∙ ap (λ (k : ℕ). k + held) o

-- if a volume is due there are few entries
pub few_are : {H M Q W V N E : Type 0} (core : Core H M Q W V N E) (F : ℕ) (h : List (Entry N))
    → is_due core F h ≡ true → length h < 2 ^ 62
few_are core F h due = ltb-true _ _ (and_parts _ _ due).1

module _ {H M Q W V N E : Type 0} (m : Meaning H M Q W V N E) (t : Terms) (old : Core H M Q W V N E)
    (F : ℕ) (h : List (Entry N)) where
  -- the test says whether a volume is due
  pub due_is : (held entries : ℕ) → held ≡ length old.journal.entries
      → entries ≡ (summary (past_of h)).entries → Stands m t old F h
      → (nat_le old.volume held && nat_lt entries (2 ^ 62)) ≡ is_due old F h
  due_is held entries q e o =
      ap (λ (n : ℕ). nat_le old.volume n && nat_lt entries (2 ^ 62))
      (q ∙ held_are old F h o.tracks.journal)
      ∙ ap (λ (n : ℕ). nat_le old.volume (length h - F) && nat_lt n (2 ^ 62))
      (e ∙ entries_are t.most h o.tracks.legal)

-- the number of the first entry that is held, once it is moved on
pub first_is : {H M Q W V N E : Type 0} (core : Core H M Q W V N E) (F : ℕ) (h : List (Entry N))
    (held : ℕ) → held ≡ length core.journal.entries → JournalStands core F h
    → core.first + held ≡ length h
first_is core F h held q j =
    let all : length core.journal.entries ≡ length h - F = held_are core F h j in
    omega (arith, q, all, j.first, j.within)

module _ {H M Q W V N E : Type 0} (m : Meaning H M Q W V N E) (t : Terms)
    (old new : Core H M Q W V N E) (F : ℕ) (h : List (Entry N)) where
  -- a core stands for the same history if its journal and its volumes do, and there is room for
  -- what is owed
  stands_by : (G : ℕ) → KeepsOthers old new → JournalStands new G h
      → owed (summary (past_of h)) ≤ new.journal.spare → VolumesStand t G h (m.volumes new.volumes)
      → Stands m t old F h → Stands m t new G h
  stands_by G k journal spare volumes o =
      let s : Summary = summary (past_of h) in
      record {
        tracks = record {
          most = k.most ∙ o.tracks.most;
          few = subst (λ (n : ℕ). n ≤ 4097) (sym k.most) o.tracks.few;
          legal = o.tracks.legal;
          journal = journal;
          state = subst (λ state. m.shows state s) (sym k.state) o.tracks.state;
          repository = subst (λ repo. RepositoryStands m.means t (past_of h) None repo.entries)
              (sym k.repo) o.tracks.repository;
          net = subst (λ net. NetStands m.means t (past_of h) [] (m.facts net)) (sym k.net)
              o.tracks.net;
          keeps = subst (λ net. m.keeps t net) (sym k.net) o.tracks.keeps;
          watch = subst (λ watch. m.watched t watch h) (sym k.watch) o.tracks.watch;
          volumes = volumes;
          marks = marks_kept (past_of h) old.marks new.marks (m.facts old.net).calls
              (m.facts new.net).calls k.marks (ap (λ net. (m.facts net).calls) k.net)
              o.tracks.marks;
        };
        settled = o.settled;
        room = record {
          journal = omega (arith, spare);
          numbers = o.room.numbers;
          state = subst (λ state. m.places (places_for (length s.opens) no_places) state)
              (sym k.state) o.room.state;
          repository = subst (λ repo. length s.opens + 0 ≤ repo.spare) (sym k.repo)
              o.room.repository;
          net = subst (λ net. length s.opens + 0 ≤ (m.facts net).spare) (sym k.net) o.room.net;
        };
      }

  -- after a refusal the core stands for what it stood for
  pub stands_refused : HandsNothing m old new → Stands m t old F h → Stands m t new F h
  stands_refused k o =
      let held = o.tracks.journal in
      let room = o.room.journal in
      stands_by F k.others
      (record {
        first = k.first ∙ held.first;
        within = held.within;
        entries = ap (λ journal. journal.entries) k.journal ∙ held.entries;
      })
      (subst (λ journal. owed (summary (past_of h)) ≤ journal.spare) (sym k.journal)
      (omega (arith, room)))
      (record {
        taken = subst (λ taken. WhereTold (HasTaken t F h) taken) (sym k.taken)
            o.tracks.volumes.taken;
        next = subst (λ next. IsNext next F) (sym k.next) o.tracks.volumes.next;
      })
      o

  -- what the body does if a volume is due
  pub record Hands (n : ℕ) : Type 0 where
    pub others : KeepsOthers old new
    pub count : n ≡ length old.journal.entries
    pub first : new.first ≡ old.first + n
    pub entries : new.journal.entries ≡ []
    pub owed : owed (summary (past_of h)) ≤ new.journal.spare
    pub taken : AddsEntries (m.volumes old.volumes).taken old.journal.entries
        (m.volumes new.volumes).taken
    pub next : (m.volumes new.volumes).next
        ≡ option_map (λ k. k + length old.journal.entries) (m.volumes old.volumes).next
    pub faults : (m.volumes new.volumes).faults ≡ (m.volumes old.volumes).faults

  pub hands : (n : ℕ) → Hands n → is_due old F h ≡ true → Stands m t old F h
      → HandsOver m t F h n old new
  hands n d due o =
      let j = o.tracks.journal in
      record {
        others = d.others;
        faults = d.faults;
        handed = subst (λ b. HandsDue b m t F h n old new) (sym due) (
          d.count ∙ held_are old F h j,
          stands_by (length h) d.others
              (record {
                first = d.first ∙ first_is old F h n d.count j;
                within = omega arith;
                entries = d.entries ∙ sym (drop-length h);
              })
              d.owed
              (record {
                taken = taken_all t F h old.journal.entries (m.volumes old.volumes).taken
                    (m.volumes new.volumes).taken j.entries d.taken o.tracks.volumes.taken;
                next = subst (λ next. IsNext next (length h)) (sym d.next)
                    (next_all F (length old.journal.entries) (length h) (m.volumes old.volumes).next
                    (let held = held_are old F h j in omega (arith, held, j.within))
                    o.tracks.volumes.next);
              })
              o,
        );
      }

-- what the volumes answer if they refuse
pub take_refused : {N : Type 0} (old : VolumesFacts N) (volume back : Held (Entry N))
    (why : TakeRefused) (new : VolumesFacts N) → TakesVolume old volume (Err (back, why)) new
    → GivesBack old volume back new × IsHandOverCause (hand_over_refusal why) old.faults new.faults
take_refused old volume back Failed new r = r
take_refused old volume back NoMemory new r = r
