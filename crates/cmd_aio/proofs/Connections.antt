-- What the ends of closed and refused connections tell, by what their handlers left.
use Rattle.std.proofs.Common.{◌≡◌, ◌≤◌, inl, inr, ⊎_elim, ℕ, Bool, true, false, List, []}
use Rattle.std.proofs.Common.{◌∷◌, length, refl, sym, ap, ◌∙◌, subst, Option, Some, None}
use Rattle.std.specs.Prelude.{◌||◌}
use Rattle.ev_base.specs.ev_types.specs.declared.upcall.Why.{Why}
use Rattle.ev_base.specs.ev_types.specs.declared.upcall.Why.TheVariants.{Refused as ByRefusal}
use Rattle.ev_base.specs.Bytes.{HasGiven}
use Rattle.ev_base.specs.Counts.{Counts}
use Rattle.ev_base.specs.End.{EndFacts}
use Rattle.ev_base.specs.Net.{NetFacts}
use Rattle.ev_base.specs.Terms.{Terms}
use Rattle.ev_base.specs.declared.end.PeerEnd.{Ghosts}
use Rattle.reactor_model.specs.reactor_journal.specs.Event.{Item, Origin}
use Rattle.reactor_model.specs.reactor_journal.specs.Past.{past_of}
use Rattle.reactor_model.specs.reactor_journal.specs.declared.entry.Entry.{Entry}
use Rattle.reactor_model.specs.reactor_journal.specs.declared.entry.Entry.TheVariants as entry
use Rattle.reactor_core.specs.Ends.{AreRetired, AreTurnedAway, ThereIs, WhereTold}
use Rattle.reactor_core.specs.Stands.{NetStands}
use Rattle.proactor.specs.Account.{IsWritten}
use Rattle.proactor.specs.Acceptors.{follows_echo}
use Rattle.proactor.specs.Echo.{WritesBack}
use Rattle.proactor.specs.Ends.{AsynchGone}
use Rattle.proactor.specs.Events.{Event, ends, given, some_of, starves, taken}
use Rattle.proactor.specs.Services.{ServiceGone, services, wrapped_items}
use Rattle.proactor.specs.Turns.{Course, State, at_start, count_standing}
use Rattle.proactor.specs.declared.note.AsynchNote.{AsynchNote}
use Rattle.proactor.specs.declared.operation.Op.{Op}
use Rattle.proactor.specs.declared.service.AioNote.{AioNote}
use Rattle.cmd_aio.specs.Connections.{LeavesEnd, Pairs, SaysOf, SaysOfEnd, SaysOfEnds}
use Rattle.cmd_aio.specs.Connections.{SaysOfOffered, SaysOfRefused, closings, refusals}
use Rattle.cmd_aio.proofs.Events.{echoes_of, ended_so, gave_same, sound_course, took_same}

only_left : (a b : Bool) → (a || b) ≡ true → b ≡ false → a ≡ true
only_left true b is none = refl
only_left false b is none = cc

none_wrapped : (items : List (Item AsynchNote)) → [] ≡ wrapped_items items → items ≡ []
none_wrapped [] q = refl
none_wrapped (item ∷ items) q = cc

module _ {E : Type 0} (tells : E → EndFacts) (keeps : Terms → E → Type 0) (t : Terms) (end : E)
  where
    says_of_gone : (items : List (Item AsynchNote)) (reason : Why) (said : AsynchNote)
        (g : AsynchGone tells keeps follows_echo t end items reason said) → WritesBack g.all
        → SaysOfEnd (tells end) reason said
    says_of_gone items reason said g back =
        let o = g.accounts.operates in
        record {
          taken = taken g.all;
          given = given g.all;
          waiting = back.waiting;
          back = back.back;
          all_back = λ over.
              back.all_back (o.over ∙ (ap (λ (e : EndFacts). e.over) g.facts ∙ over));
          took = subst (λ (e : EndFacts). HasGiven e.bytes (taken g.all)) g.facts o.took;
          took_so_many = sym (ap (λ (e : EndFacts). e.gave) g.facts) ∙ o.took_so_many;
          gave = subst (λ (e : EndFacts). IsWritten e.written (given g.all)) g.facts o.gave;
          read = subst (Counts said.read) (took_same g.all g.closing _ _ g.cancels) g.notes.read;
          wrote = subst (Counts said.wrote) (gave_same g.all g.closing _ _ g.cancels)
              g.notes.wrote;
          itself = λ own enough. ⊎_elim
              (λ failed. inr (subst (λ (e : EndFacts). 1 ≤ e.faults) g.facts (o.failed failed)))
              (λ over. inl (sym (ap (λ (e : EndFacts). e.over) g.facts) ∙ (sym o.over ∙ over)))
              (ended_so g.all (sound_course g.conn [] _ items g.all g.last g.turns.course refl)
              (echoes_of g.all g.closing g.told_so.echoes)
              (only_left (some_of ends g.all) (some_of starves g.all) (g.ended own)
              (sym g.notes.no_memory ∙ enough)));
        }

    -- an end that had no turn
    record HadNone (all : List Event) (last : State) : Type 0 where
      pub none : all ≡ []
      pub one : count_standing last.standing ≡ 1

    had_none : (items : List (Item AsynchNote)) (said : AsynchNote)
        (g : AsynchGone tells keeps follows_echo t end items ByRefusal said) → items ≡ []
        → HadNone g.all g.last
    had_none items said g is =
        let c : Course g.conn [] (at_start g.turns.start g.first) [] g.all g.last =
        subst (λ (had : List (Item AsynchNote)). Course g.conn [] (at_start g.turns.start g.first)
        had g.all g.last) is g.turns.course in
        record {
          none = c.0;
          one = ap (λ (s : State). count_standing s.standing) c.1
              ∙ ap (λ (op : Op). count_standing (at_start g.turns.start op).standing)
              g.told_so.reads;
        }

    says_of_refused : (items : List (Item AsynchNote)) (said : AsynchNote)
        (g : AsynchGone tells keeps follows_echo t end items ByRefusal said) → WritesBack g.all
        → items ≡ [] → SaysOfRefused (tells end) said
    says_of_refused items said g back is =
        let h = had_none items said g is in
        record {
          says = says_of_gone items ByRefusal said g back;
          read = subst (Counts said.read) (took_same g.all g.closing _ _ g.cancels
              ∙ ap (λ (all : List Event). length (taken all)) h.none) g.notes.read;
          wrote = subst (Counts said.wrote) (gave_same g.all g.closing _ _ g.cancels
              ∙ ap (λ (all : List Event). length (given all)) h.none) g.notes.wrote;
          cancelled = subst (Counts said.cancelled) h.one g.notes.cancelled_is;
        }

    pub says_of : (origin : Option (Origin AioNote)) (had : List (Item AioNote)) (reason : Why)
        (said : AioNote) → ServiceGone tells keeps t origin end had reason said
        → SaysOf (tells end) reason said
    says_of origin had reason said gone = ⊎_elim
        (λ l. subst (SaysOf (tells end) reason) (sym l.notes) l.listener)
        (λ g. subst (SaysOf (tells end) reason) (sym g.notes)
        (says_of_gone g.items reason g.told g.gone g.back)) gone

    pub says_of_offered : (origin : Option (Origin AioNote)) (said : AioNote)
        → ServiceGone tells keeps t origin end [] ByRefusal said
        → SaysOfOffered (tells end) said
    says_of_offered origin said gone = ⊎_elim
        (λ l. subst (SaysOfOffered (tells end)) (sym l.notes) l.listener)
        (λ g. subst (SaysOfOffered (tells end)) (sym g.notes)
        (says_of_refused g.items g.told g.gone g.back (none_wrapped g.items g.are))) gone

-- ---- all of them

told_as : {A : Type 0} (P Q : A → Type 0) (told : Option A) → ((a : A) → P a → Q a)
    → ThereIs P told → WhereTold Q told
told_as P Q None to there = tt
told_as P Q (Some a) to there = subst Q (sym there.2) (to there.0 there.1)

module _ {E : Type 0} (G : Ghosts E) (tells : E → EndFacts) (keeps : Terms → E → Type 0)
    (t : Terms) where
  closed_pairs : (past : List (Entry AioNote)) (ends : List (ℕ × E))
      → AreRetired (services {E = E} {G = G} tells keeps) t past ends
      → Pairs (LeavesEnd tells) (closings past) ends
  closed_pairs [] ends are = subst (Pairs (LeavesEnd tells) []) (sym are) tt
  closed_pairs (entry.Closed handle said ∷ past) [] are = absurd are
  closed_pairs (entry.Closed handle said ∷ past) (r ∷ ends) are = (
    (are.0.0, says_of tells keeps t r.1 _ _ _ said are.0.1),
    closed_pairs past ends are.1,
  )
  closed_pairs (_ ∷ past) ends are = closed_pairs past ends are

  refused_pairs : (past : List (Entry AioNote)) (ends : List E)
      → AreTurnedAway (services {E = E} {G = G} tells keeps) t past ends
      → Pairs (λ (said : AioNote) (end : E). SaysOfOffered (tells end) said) (refusals past) ends
  refused_pairs [] ends are =
      subst (Pairs (λ (said : AioNote) (end : E). SaysOfOffered (tells end) said) []) (sym are) tt
  refused_pairs (entry.Refused live fault said ∷ past) [] are = absurd are
  refused_pairs (entry.Refused live fault said ∷ past) (end ∷ ends) are = (
    says_of_offered tells keeps t end _ said are.0,
    refused_pairs past ends are.1,
  )
  refused_pairs (_ ∷ past) ends are = refused_pairs past ends are

  pub says_of_ends : (journal : List (Entry AioNote)) (net : NetFacts E)
      → NetStands (services {E = E} {G = G} tells keeps) t (past_of journal) [] net
      → SaysOfEnds tells journal net
  says_of_ends journal net stands = record {
    closed = told_as _ _ net.retired (closed_pairs (past_of journal)) stands.retired;
    refused = told_as _ _ net.turned_away (refused_pairs (past_of journal)) stands.turned_away;
  }
