-- From what a run of the server leaves to what the command does.
use Rattle.std.proofs.Common.{◌≡◌, ◌≤◌, ◌^◌, inl, inr, arith, ℕ, zero, suc}
use Rattle.std.proofs.Common.{List, [], length, drop, Option, Some, None, refl, sym, ap}
use Rattle.std.proofs.Common.{◌∙◌, subst}
use Rattle.std.proofs.lemmas.List.{drop_all}
use Rattle.ev_base.specs.Counts.{Rose}
use Rattle.ev_base.specs.Net.{HasNone, IsNew, NetFacts}
use Rattle.ev_base.specs.Sink.{SinkFacts}
use Rattle.ev_base.specs.Terms.{Terms}
use Rattle.server_run.specs.sink_buffer.specs.Written.{TookAll}
use Rattle.server_run.specs.timer_queue.specs.declared.timer.Timer.{Timer}
use Rattle.server_run.specs.reactor_journal.specs.declared.entry.Entry.{Entry}
use Rattle.server_run.specs.reactor_model.specs.Volumes.{VolumesFacts}
use Rattle.server_run.specs.reactor_core.specs.Calls.{AreCalls}
use Rattle.server_run.specs.reactor_core.specs.Ends.{WhereTold}
use Rattle.server_run.specs.reactor_core.specs.Stands.{Meaning, NetStands}
use Rattle.server_run.specs.log_handler.specs.declared.note.ServerNote.{ServerNote}
use Rattle.grouped_lines.specs.laws_script_runs.specs.Connections.{lines_by_connection}
use Rattle.server_run.specs.Journals.{IsRun}
use Rattle.server_run.specs.Served.{CameSo, FaultRose, HasCauses, LeavesRun}
use Rattle.server_run.specs.declared.asked.Asked.{Asked}
use Rattle.server_run.specs.declared.ending.Ending.{Ending}
use Rattle.server_run.specs.declared.ending.Ending.TheVariants as ending
use Rattle.server_run.specs.declared.ending.Served.{Served}
use Rattle.server_run.proofs.Came.{ended_alone}
use Rattle.cmd_pool.specs.declared.ending.PoolEnd.{PoolEnd}
use Rattle.cmd_pool.specs.declared.ending.PoolEnd.TheVariants as end
use Rattle.cmd_pool.specs.declared.ending.PoolServed.{PoolServed}
use Rattle.cmd_pool.specs.Leaving.{IsKept, LeavesPool, MayEnd, MayLackNet, NetFailedSo, RunsPool}
use Rattle.cmd_pool.specs.Leaving.{RunsWhereGiven, TookLines, WritesKept, WritesLines, end_by}
use Rattle.cmd_pool.specs.Leaving.{unwritten_end}
use Rattle.cmd_pool.specs.Starting.{asked_by, pool_terms}
use Rattle.cmd_pool.specs.Statuses.{RunsCommand}
use Rattle.cmd_pool.specs.declared.top.Pooled.{Pooled}
use Rattle.cmd_pool.specs.declared.words.PoolOptions.{PoolOptions}

-- ---- how it ends

may-end : (how : Ending) → MayEnd (end_by how) how
may-end ending.Over = tt
may-end ending.Notified = tt
may-end ending.NotAttached = tt
may-end ending.NetFault = tt
may-end ending.NoMemory = tt
may-end ending.Broken = tt
may-end ending.VolumeFault = tt

may-unwritten : (how : Ending) → MayEnd (unwritten_end (end_by how)) how
may-unwritten ending.Over = tt
may-unwritten ending.Notified = tt
may-unwritten ending.NotAttached = tt
may-unwritten ending.NetFault = tt
may-unwritten ending.NoMemory = tt
may-unwritten ending.Broken = tt
may-unwritten ending.VolumeFault = tt

took-so : (how : Ending) (o : SinkFacts) (lines : List ℕ) (p : SinkFacts) → TookAll o lines p
    → TookLines (end_by how) o lines p
took-so ending.Over o lines p all = all
took-so ending.Notified o lines p all = all
took-so ending.NotAttached o lines p all = inl all
took-so ending.NetFault o lines p all = inl all
took-so ending.NoMemory o lines p all = inl all
took-so ending.Broken o lines p all = inl all
took-so ending.VolumeFault o lines p all = inl all

took-none : (how : Ending) (o : SinkFacts) (lines : List ℕ) (p : SinkFacts) → p ≡ o
    → TookLines (unwritten_end (end_by how)) o lines p
took-none ending.Over o lines p none = inr none
took-none ending.Notified o lines p none = inr none
took-none ending.NotAttached o lines p none = inr none
took-none ending.NetFault o lines p none = inr none
took-none ending.NoMemory o lines p none = inr none
took-none ending.Broken o lines p none = inr none
took-none ending.VolumeFault o lines p none = inr none

-- ---- the net

rose-from : (before now : ℕ) → before ≡ 0 → Rose before now → Rose 0 now
rose-from before now none rose = subst (λ (n : ℕ). Rose n now) none rose

module _ {H M Q W V E : Type 0} (m : Meaning H M Q W V ServerNote E) (t : Terms) (until : Option ℕ)
  where
    net-failed : {led : Type 0} (how : Ending) (old net : NetFacts E)
        (v w : VolumesFacts ServerNote)
        (journal : List (Entry ServerNote)) → IsNew old → FaultRose how old net v w
        → CameSo how journal (IsRun m.means t until net how journal) led
        → NetFailedSo (end_by how) net journal
    net-failed ending.NotAttached old net v w journal new rose came =
        inr (
          rose-from old.failed_attaches net.failed_attaches new.failed_attaches rose,
          ended_alone m.means t until net journal came,
        )
    net-failed ending.NetFault old net v w journal new rose came =
        inl (rose-from old.failed_waits net.failed_waits new.failed_waits rose)
    net-failed ending.Broken old net v w journal new rose came = tt
    net-failed ending.NoMemory old net v w journal new rose came = tt
    net-failed ending.VolumeFault old net v w journal new rose came = tt
    net-failed ending.Notified old net v w journal new rose came = tt
    net-failed ending.Over old net v w journal new rose came = tt

    net-unwritten : (how : Ending) (net : NetFacts E) (journal : List (Entry ServerNote))
        → NetFailedSo (end_by how) net journal
        → NetFailedSo (unwritten_end (end_by how)) net journal
    net-unwritten ending.NotAttached net journal failed = failed
    net-unwritten ending.NetFault net journal failed = failed
    net-unwritten ending.Broken net journal failed = tt
    net-unwritten ending.NoMemory net journal failed = tt
    net-unwritten ending.VolumeFault net journal failed = tt
    net-unwritten ending.Notified net journal failed = tt
    net-unwritten ending.Over net journal failed = tt

    told-none : {A : Type 0} (P : List A → Type 0) (told : Option (List A)) → P [] → HasNone told
        → WhereTold P told
    told-none P None p none = tt
    told-none P (Some list) p none = subst P (sym none) p

    -- a new net stands for no entry
    new-stands : t.steady ≡ None → (net : NetFacts E) → IsNew net
        → NetStands {N = ServerNote} m.means t [] [] net
    new-stands steady net new = record {
      retired = ([], refl, told-none (λ ends. ends ≡ []) net.retired refl new.retired);
      turned_away = ([], refl, told-none (λ ends. ends ≡ []) net.turned_away refl new.turned_away);
      attached = new.attached;
      masks = told-none (λ masks. masks ≡ []) net.masks refl new.masks;
      faults = omega arith;
      steady = λ asked. absurd (let q = sym steady ∙ asked in cc);
      calls = told-none (AreCalls {N = ServerNote} m.means t [] []) net.calls refl new.calls;
      moment = omega arith;
    }

-- ---- what is left

module _ {H M Q W V E K : Type 0} (m : Meaning H M Q W V ServerNote E) (sink : K → SinkFacts)
    (options : PoolOptions) (output : K) where
  abbrev asked : Asked
  asked = asked_by options

  -- no run was begun, and what is left is as it was
  pub leaves-none : (how : PoolEnd) (served : PoolServed M K) → served.end ≡ how
      → served.net ≡ None → MayLackNet how → served.journal.entries ≡ [] → served.output ≡ output
      → TookLines how (sink output) (lines_by_connection []) (sink output)
      → LeavesPool m sink pool_terms asked (sink output) served
  leaves-none how served is none may empty same lines = record {
    journal = [];
    kept = inl empty;
    run = subst (λ (n : Option M). RunsWhereGiven m pool_terms asked n served.end []) (sym none)
        (subst MayLackNet (sym is) may, refl);
    lines = subst (λ (k : K). TookLines served.end (sink output)
        (lines_by_connection served.journal.entries) (sink k)) (sym same)
        (subst (λ (l : List (Entry ServerNote)). TookLines served.end (sink output)
        (lines_by_connection l) (sink output)) (sym empty)
        (subst (λ (e : PoolEnd). TookLines e (sink output) (lines_by_connection []) (sink output))
        (sym is) lines));
  }

  -- there was no memory to begin
  pub leaves-net : (served : PoolServed M K) (net : M) → served.end ≡ end.NoMemory
      → served.net ≡ Some net → served.journal.entries ≡ [] → served.output ≡ output
      → IsNew (m.facts net) → m.keeps pool_terms net
      → LeavesPool m sink pool_terms asked (sink output) served
  leaves-net served net is given empty same new keeps = record {
    journal = [];
    kept = inl empty;
    run = subst (λ (e : PoolEnd). RunsWhereGiven m pool_terms asked served.net e []) (sym is)
        (subst (λ (n : Option M). RunsWhereGiven m pool_terms asked n end.NoMemory []) (sym given)
        (record {
          ending = ending.NoMemory;
          named = tt;
          came = inl (record { named = inr refl; none = refl });
          stands = new-stands m pool_terms asked.until refl (m.facts net) new;
          keeps = keeps;
          failed = tt;
        }));
    lines = subst (λ (e : PoolEnd). TookLines e (sink output)
        (lines_by_connection served.journal.entries) (sink served.output)) (sym is)
        (inr (ap sink same));
  }

  module _ (armed : Q → List Timer) (net : M) (volumes : V) (ran : Served M Q W V)
      (l : LeavesRun m armed pool_terms asked ran) (new : IsNew (m.facts net))
      (c : HasCauses m net volumes ran) where
    failed-so : NetFailedSo (end_by ran.ending) (m.facts ran.parts.net) l.journal
    failed-so = net-failed m pool_terms asked.until ran.ending (m.facts net)
        (m.facts ran.parts.net) (m.volumes volumes) (m.volumes ran.parts.volumes) l.journal new
        c.rose l.came

    runs : (how : PoolEnd) → MayEnd how ran.ending
        → NetFailedSo how (m.facts ran.parts.net) l.journal
        → RunsPool m pool_terms asked ran.parts.net how l.journal
    runs how named failed = record {
      ending = ran.ending;
      named = named;
      came = l.came;
      stands = l.stand.net;
      keeps = l.stand.net_keeps;
      failed = failed;
    }

    leaves-so : (served : PoolServed M K) (how : PoolEnd) → served.end ≡ how
        → served.net ≡ Some ran.parts.net → MayEnd how ran.ending
        → NetFailedSo how (m.facts ran.parts.net) l.journal
        → IsKept how served.journal.entries l.journal
        → TookLines how (sink output) (lines_by_connection served.journal.entries)
        (sink served.output) → LeavesPool m sink pool_terms asked (sink output) served
    leaves-so served how is given named failed kept lines = record {
      journal = l.journal;
      kept = subst (λ (e : PoolEnd). IsKept e served.journal.entries l.journal) (sym is) kept;
      run = subst (λ (e : PoolEnd). RunsWhereGiven m pool_terms asked served.net e l.journal)
          (sym is) (subst (λ (n : Option M). RunsWhereGiven m pool_terms asked n how l.journal)
          (sym given) (runs how named failed));
      lines = subst (λ (e : PoolEnd). TookLines e (sink output)
          (lines_by_connection served.journal.entries) (sink served.output)) (sym is) lines;
    }

    entries-are : (n : ℕ) → ran.parts.first ≡ n → ran.parts.journal.entries ≡ drop n l.journal
    entries-are n is = l.stand.journal ∙ ap (λ (k : ℕ). drop k l.journal) (sym l.stand.first ∙ is)

    leaves-kept : (served : PoolServed M K) → served.net ≡ Some ran.parts.net
        → served.journal.entries ≡ l.journal
        → WritesLines (end_by ran.ending) (sink output)
        (lines_by_connection served.journal.entries) served.end (sink served.output)
        → LeavesPool m sink pool_terms asked (sink output) served
    leaves-kept served given whole (inl all) =
        leaves-so served (end_by ran.ending) all.0 given (may-end ran.ending) failed-so (inl whole)
        (took-so ran.ending (sink output) _ (sink served.output) all.1)
    leaves-kept served given whole (inr (inl front)) =
        leaves-so served end.WriteFault front.0 given tt tt (inl whole) front.1
    leaves-kept served given whole (inr (inr none)) =
        leaves-so served (unwritten_end (end_by ran.ending)) none.0 given
        (may-unwritten ran.ending)
        (net-unwritten m pool_terms asked.until ran.ending (m.facts ran.parts.net) l.journal
        failed-so)
        (inl whole) (took-none ran.ending (sink output) _ (sink served.output) none.1)

    -- so many entries were let go that none is left
    leaves-lost : (served : PoolServed M K) → served.net ≡ Some ran.parts.net
        → served.journal.entries ≡ [] → served.end ≡ end.NoMemory → sink served.output ≡ sink output
        → LeavesPool m sink pool_terms asked (sink output) served
    leaves-lost served given none is same = leaves-so served end.NoMemory is given tt tt
        (inr (refl, none)) (inr same)

    none-left : (n : ℕ) → ran.parts.first ≡ n → 1 ≤ n → ran.parts.journal.entries ≡ []
    none-left n is some = entries-are n is ∙ drop_all n l.journal
        (let first : ran.parts.first ≡ l.first = l.stand.first in
        let filled : 2 ^ 62 ≤ l.first = l.filled (omega (arith, first, is, some)) in
        let bound : length l.journal ≤ 2 ^ 62 = l.bound in
        omega (arith, first, is, filled, bound))

    by-first : (n : ℕ) → ran.parts.first ≡ n → (served : PoolServed M K)
        → served.net ≡ Some ran.parts.net
        → served.journal.entries ≡ ran.parts.journal.entries
        → WritesKept (end_by ran.ending) ran.parts.first (sink output)
        (lines_by_connection served.journal.entries) served.end (sink served.output)
        → LeavesPool m sink pool_terms asked (sink output) served
    by-first zero is served given same writes =
        leaves-kept served given (same ∙ entries-are 0 is) (writes.kept is)
    by-first (suc n) is served given same writes =
        let lost = writes.lost (omega (arith, is)) in
        leaves-lost served given (same ∙ none-left (suc n) is (omega arith)) lost.0 lost.1

    pub leaves-pool : (served : PoolServed M K) → served.net ≡ Some ran.parts.net
        → served.journal.entries ≡ ran.parts.journal.entries
        → WritesKept (end_by ran.ending) ran.parts.first (sink output)
        (lines_by_connection served.journal.entries) served.end (sink served.output)
        → LeavesPool m sink pool_terms asked (sink output) served
    leaves-pool served given same writes = by-first ran.parts.first refl served given same writes

-- a run that left a net was over a host that listened
pub listened : {H M Q W V K E : Type 0} (m : Meaning H M Q W V ServerNote E) (sink : K → SinkFacts)
    (t : Terms) (asked : Asked) (o : SinkFacts) (served : PoolServed M K) (net : M)
    → served.net ≡ Some net → LeavesPool m sink t asked o served → served.end ≡ end.ListenFault
    → ⊥
listened {M = M} m sink t asked o served net given l is =
    let told : RunsWhereGiven m t asked served.net end.ListenFault l.journal =
    subst (λ (e : PoolEnd). RunsWhereGiven m t asked served.net e l.journal) is l.run in
    let run : RunsPool m t asked net end.ListenFault l.journal =
    subst (λ (n : Option M). RunsWhereGiven m t asked n end.ListenFault l.journal) given told in
    run.named

-- what was asked for by options is what they ask for
pub as-asked : {H M Q W V E : Type 0} {m : Meaning H M Q W V ServerNote E} {armed : Q → List Timer}
    {ran : Served M Q W V} (a b : Asked) → a ≡ b → LeavesRun m armed pool_terms a ran
    → LeavesRun m armed pool_terms b ran
as-asked {m = m} {armed = armed} {ran = ran} a b is l =
    subst (λ (x : Asked). LeavesRun m armed pool_terms x ran) is l

-- what the command comes to by these options it comes to by the same
pub runs-as : {H M Q W V K E : Type 0} {m : Meaning H M Q W V ServerNote E} {sink : K → SinkFacts}
    {o : SinkFacts} {faults : ℕ × ℕ} {ports : List ℕ × List ℕ} {pooled : Pooled M K}
    (a b : PoolOptions) (read : Option PoolOptions) → read ≡ Some a → read ≡ Some b
    → RunsCommand m sink a o faults ports pooled → RunsCommand m sink b o faults ports pooled
runs-as {m = m} {sink = sink} {o = o} {faults = faults} {ports = ports} {pooled = pooled} a b read
    is told runs = let q : Some a ≡ Some b = sym is ∙ told in
    let same : a ≡ b = cc in
    subst (λ (x : PoolOptions). RunsCommand m sink x o faults ports pooled) same runs
