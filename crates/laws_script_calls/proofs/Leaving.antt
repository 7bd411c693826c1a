-- From the ends that a net keeps to the turns in the journal.
use Rattle.std.proofs.Common.{◌≡◌, ◌<◌, inl, inr, ℕ, Bool, true, false, List, [], ◌∷◌, Option, Some}
use Rattle.std.proofs.Common.{None, sym, subst}
use Rattle.laws_script_runs.specs.ev_types.specs.declared.upcall.Why.{Why}
use Rattle.laws_script_runs.specs.ev_types.specs.declared.upcall.Why.TheVariants.{
  Refused as ByRefusal,
}
use Rattle.laws_script_runs.specs.ev_base.specs.Story.{Telling, Offering}
use Rattle.laws_script_runs.specs.ev_base.specs.End.{EndFacts}
use Rattle.laws_script_runs.specs.ev_base.specs.Terms.{Terms}
use Rattle.laws_script_runs.specs.reactor_journal.specs.Event.{Item, Origin}
use Rattle.laws_script_runs.specs.reactor_journal.specs.declared.entry.Entry.{Entry}
use Rattle.laws_script_runs.specs.reactor_journal.specs.declared.entry.Entry.TheVariants.{Opened}
use Rattle.laws_script_runs.specs.reactor_journal.specs.declared.entry.Entry.TheVariants.{Scheduled}
use Rattle.laws_script_runs.specs.reactor_journal.specs.declared.entry.Entry.TheVariants.{Cancelled}
use Rattle.laws_script_runs.specs.reactor_journal.specs.declared.entry.Entry.TheVariants.{Polled}
use Rattle.laws_script_runs.specs.reactor_journal.specs.declared.entry.Entry.TheVariants.{Due}
use Rattle.laws_script_runs.specs.reactor_journal.specs.declared.entry.Entry.TheVariants.{Ready}
use Rattle.laws_script_runs.specs.reactor_journal.specs.declared.entry.Entry.TheVariants.{Posted}
use Rattle.laws_script_runs.specs.reactor_journal.specs.declared.entry.Entry.TheVariants.{Stale}
use Rattle.laws_script_runs.specs.reactor_journal.specs.declared.entry.Entry.TheVariants.{Started}
use Rattle.laws_script_runs.specs.reactor_journal.specs.declared.entry.Entry.TheVariants.{Returned}
use Rattle.laws_script_runs.specs.reactor_journal.specs.declared.entry.Entry.TheVariants.{Masked}
use Rattle.laws_script_runs.specs.reactor_journal.specs.declared.entry.Entry.TheVariants.{Suspended}
use Rattle.laws_script_runs.specs.reactor_journal.specs.declared.entry.Entry.TheVariants.{Resumed}
use Rattle.laws_script_runs.specs.reactor_journal.specs.declared.entry.Entry.TheVariants.{Refused}
use Rattle.laws_script_runs.specs.reactor_journal.specs.declared.entry.Entry.TheVariants.{Removed}
use Rattle.laws_script_runs.specs.reactor_journal.specs.declared.entry.Entry.TheVariants.{Closed}
use Rattle.laws_script_runs.specs.reactor_journal.specs.declared.entry.Entry.TheVariants.{Ended}
use Rattle.laws_script_runs.specs.reactor_journal.specs.Past as P
use Rattle.laws_script_runs.specs.reactor_journal.specs.Past.{past_of, had, origin_of, reason_of}
use Rattle.laws_script_runs.specs.reactor_journal.specs.Past.{offered_here, opens, was_opened}
use Rattle.laws_script_runs.specs.reactor_journal.specs.Past.{was_closed}
use Rattle.reactor_core.specs.Ends.{AreRetired, AreTurnedAway}
use Rattle.laws_script_runs.specs.acceptor.specs.Accepting as accepting
use Rattle.laws_script_runs.specs.acceptor.specs.Servers.{ServerGone}
use Rattle.laws_script_runs.specs.reactor_model.specs.Handling.{Handling}
use Rattle.laws_script_runs.specs.log_handler.specs.declared.note.ServerNote.{ServerNote}
use Rattle.laws_script_runs.specs.log_handler.specs.Connection as connection
use Rattle.laws_script_runs.specs.event_script.specs.Script.{ScriptStep, opened}
use Rattle.laws_script_runs.specs.event_script.specs.Stories.{story, offers}
use Rattle.laws_script_runs.specs.laws_script_turns.specs.Laws.{untold, unoffered}
use Rattle.laws_script_runs.specs.Connections.{AreLeft, SaysLast}
use Rattle.laws_script_runs.specs.Steps.{EachStep}
use Rattle.laws_script_runs.specs.Runs.{IsWhole}
use Rattle.laws_script_runs.specs.reactor_journal.proofs.Alive.{opened_below}
use Rattle.laws_script_runs.specs.reactor_journal.proofs.Picking.{all_below-at}
use Rattle.laws_script_calls.specs.Leaving.{HaveStories, LeavesAsServer}
use Rattle.laws_script_calls.proofs.Accepted.{NoteBelow, EntryBelow, IsGone, all_below}

-- an origin of an accepted connection is one of the journal's
abbrev OriginBelow : ℕ → Option (Origin ServerNote) → Type 0
OriginBelow many None = Unit {0}
OriginBelow many (Some o) = NoteBelow many o.note

offered_below : (many : ℕ) (past : List (Entry ServerNote)) → EachStep (EntryBelow many) past
    → OriginBelow many (offered_here past)
offered_below many [] b = tt
offered_below many (Returned event answer said ∷ past) b = b.0
offered_below many (Closed handle other ∷ []) b = tt
offered_below many (Closed handle other ∷ (Returned event answer said ∷ past)) b = b.1.0
offered_below many (Closed handle other ∷ (_ ∷ past)) b = tt
offered_below many (_ ∷ past) b = tt

origin_below : (many : ℕ) (past : List (Entry ServerNote)) (x : ℕ) → EachStep (EntryBelow many) past
    → OriginBelow many (origin_of past x)
origin_below many [] x b = tt
origin_below many (e ∷ past) x b =
    by_test (opens x e) (offered_below many past b.1) (origin_below many past x b.1)
  where
    by_test : (t : Bool) → OriginBelow many (offered_here past)
        → OriginBelow many (origin_of past x)
        → OriginBelow many (elim t [ true ↦ offered_here past | false ↦ origin_of past x ])
    by_test true h k = h
    by_test false h k = k

module _ {H E : Type 0} (means : Handling H E ServerNote) (tells : E → EndFacts)
    (keeps : Terms → E → Type 0) (t : Terms) (steps : List ScriptStep) (idle : Option ℕ)
    (have : HaveStories t steps idle)
    (server : LeavesAsServer means tells keeps t) where
  one_left : (origin : Option (Origin ServerNote)) (end : E) (items : List (Item ServerNote))
      (reason : Why) (said : ServerNote) → OriginBelow (opened steps) origin
      → ServerGone tells keeps t origin end items reason said
      → SaysLast steps idle origin items reason said
  one_left origin end items reason said below (inl gone) =
      let g = gone.listened in
      let telling : g.offering ≡ Some (unoffered (offers steps)) =
      g.story (offers steps) have.of_listener in
      subst (λ (o : Option (Origin ServerNote)). SaysLast steps idle o items reason said)
      (sym (g.comes_from (offers steps) have.of_listener)) (record {
        now = g.now;
        course = subst (λ (o : Option Offering).
            accepting.Course (accepting.at_start o) items g.now) telling g.course;
        notes = gone.notes;
      })
  one_left origin end items reason said below (inr gone) =
      let s = gone.served in
      let from = s.comes_from.offered (offers steps) have.of_listener in
      let few : gone.conn < opened steps = subst (OriginBelow (opened steps)) from.0 below in
      let telling : s.telling ≡ Some (untold (story gone.conn steps)) =
      s.story (story gone.conn steps) (have.of_each gone.conn few) from.1 in
      let idle_is : gone.idle ≡ idle = s.comes_from.waits idle have.idle_is in
      subst (λ (o : Option (Origin ServerNote)). SaysLast steps idle o items reason said)
      (sym from.0)
      (record {
        now = s.now;
        word = gone.word;
        course = subst (λ (i : Option ℕ). connection.Course gone.conn i
            (connection.at_start s.moment (Some (untold (story gone.conn steps)))) items s.now)
            idle_is
            (subst (λ (o : Option Telling). connection.Course gone.conn gone.idle
            (connection.at_start s.moment o) items s.now) telling s.course);
        closing = gone.closing;
        notes = gone.notes;
      })

  each_left : (past : List (Entry ServerNote)) (retired : List (ℕ × E)) (turned : List E)
      → EachStep (EntryBelow (opened steps)) past → AreRetired means t past retired
      → AreTurnedAway means t past turned → AreLeft steps idle past
  each_left [] retired turned b x y = tt
  each_left (Closed handle said ∷ past) [] turned b x y = absurd x
  each_left (Closed handle said ∷ past) (end ∷ retired) turned b x y = (
    one_left (origin_of past handle.0) end.1 (had past handle.0) (reason_of past handle.0) said
        (origin_below (opened steps) past handle.0 b.1) (server _ _ _ _ _ x.0.1),
    each_left past retired turned b.1 x.1 y,
  )
  each_left (Refused live fault said ∷ past) retired [] b x y = absurd y
  each_left (Refused live fault said ∷ past) retired (end ∷ turned) b x y = (
    one_left (offered_here past) end [] ByRefusal said (offered_below (opened steps) past b.1)
        (server _ _ _ _ _ y.0),
    each_left past retired turned b.1 x y.1,
  )
  each_left (Opened handle mask ∷ past) retired turned b x y =
      (tt, each_left past retired turned b.1 x y)
  each_left (Scheduled timer handle first' every ∷ past) retired turned b x y =
      (tt, each_left past retired turned b.1 x y)
  each_left (Cancelled timer ∷ past) retired turned b x y =
      (tt, each_left past retired turned b.1 x y)
  each_left (Polled moment ∷ past) retired turned b x y =
      (tt, each_left past retired turned b.1 x y)
  each_left (Due timer ∷ past) retired turned b x y = (tt, each_left past retired turned b.1 x y)
  each_left (Ready handle kind ∷ past) retired turned b x y =
      (tt, each_left past retired turned b.1 x y)
  each_left (Posted handle kind from seq ∷ past) retired turned b x y =
      (tt, each_left past retired turned b.1 x y)
  each_left (Stale handle from seq ∷ past) retired turned b x y =
      (tt, each_left past retired turned b.1 x y)
  each_left (Started event ∷ past) retired turned b x y =
      (tt, each_left past retired turned b.1 x y)
  each_left (Returned event answer said ∷ past) retired turned b x y =
      (tt, each_left past retired turned b.1 x y)
  each_left (Masked handle mask ∷ past) retired turned b x y =
      (tt, each_left past retired turned b.1 x y)
  each_left (Suspended handle ∷ past) retired turned b x y =
      (tt, each_left past retired turned b.1 x y)
  each_left (Resumed handle ∷ past) retired turned b x y =
      (tt, each_left past retired turned b.1 x y)
  each_left (Removed handle ∷ past) retired turned b x y =
      (tt, each_left past retired turned b.1 x y)
  each_left (Ended ∷ past) retired turned b x y = (tt, each_left past retired turned b.1 x y)

  each_gone : (past : List (Entry ServerNote)) (retired : List (ℕ × E))
      → AreRetired means t past retired → EachStep (IsGone tells keeps t steps idle have) past
  each_gone [] retired x = tt
  each_gone (Closed handle said ∷ past) [] x = absurd x
  each_gone (Closed handle said ∷ past) (end ∷ retired) x =
      ((end.1, server _ _ _ _ _ x.0.1), each_gone past retired x.1)
  each_gone (Opened handle mask ∷ past) retired x = (tt, each_gone past retired x)
  each_gone (Refused live fault said ∷ past) retired x = (tt, each_gone past retired x)
  each_gone (Scheduled timer handle first every ∷ past) retired x = (tt, each_gone past retired x)
  each_gone (Cancelled timer ∷ past) retired x = (tt, each_gone past retired x)
  each_gone (Polled moment ∷ past) retired x = (tt, each_gone past retired x)
  each_gone (Due timer ∷ past) retired x = (tt, each_gone past retired x)
  each_gone (Ready handle kind ∷ past) retired x = (tt, each_gone past retired x)
  each_gone (Posted handle kind from seq ∷ past) retired x = (tt, each_gone past retired x)
  each_gone (Stale handle from seq ∷ past) retired x = (tt, each_gone past retired x)
  each_gone (Started event ∷ past) retired x = (tt, each_gone past retired x)
  each_gone (Returned event answer said ∷ past) retired x = (tt, each_gone past retired x)
  each_gone (Masked handle mask ∷ past) retired x = (tt, each_gone past retired x)
  each_gone (Suspended handle ∷ past) retired x = (tt, each_gone past retired x)
  each_gone (Resumed handle ∷ past) retired x = (tt, each_gone past retired x)
  each_gone (Removed handle ∷ past) retired x = (tt, each_gone past retired x)
  each_gone (Ended ∷ past) retired x = (tt, each_gone past retired x)

  pub ends_tell : (most : ℕ) (journal : List (Entry ServerNote)) (retired : List (ℕ × E))
      (turned : List E) → IsWhole most journal → AreRetired means t (past_of journal) retired
      → AreTurnedAway means t (past_of journal) turned → AreLeft steps idle (past_of journal)
  ends_tell most journal retired turned whole x y =
      let past = past_of journal in
      let closed : ((h : ℕ) → was_opened past h ≡ true → was_closed past h ≡ true) =
      λ h o. all_below-at (P.opened past) (was_closed past) h
      (opened_below most past h whole.legal o) whole.closed in
      each_left past retired turned (all_below tells keeps t steps idle have most past whole.legal
      closed (each_gone past retired x)) x y
