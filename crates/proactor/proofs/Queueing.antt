-- Operations that are queued.
use Rattle.std.proofs.Common.{◌≡◌, ◌∙◌, ◌≤◌, ℕ, Bool, true, false, List, [], ◌∷◌, ◌++◌}
use Rattle.std.proofs.Common.{length, refl, sym, ap, subst, arith}
use Rattle.std.specs.Prelude.{not, Result, Ok, Err, OnOk, OnErr}
use Rattle.std.proofs.lemmas.List.{append-nil, append_assoc}
use Rattle.ev_base.specs.ev_types.specs.declared.refusal.NoMemory.{NoMemory}
use Rattle.proactor.specs.declared.operation.Op.{Op}
use Rattle.proactor.specs.declared.operation.Ops.{Ops}
use Rattle.proactor.specs.declared.standing.Reading.{Reading}
use Rattle.proactor.specs.declared.standing.Writing.{Writing}
use Rattle.proactor.specs.Operations.{listed_op, ops_of}
use Rattle.proactor.specs.Events.{reads_in, some_there, writes_in}
use Rattle.proactor.specs.Standing.{Stands, AreReads, AreWrites, IsWithin, QueuesOne, TakesUp}
use Rattle.proactor.specs.Standing.{queued}
use Rattle.proactor.proofs.Operations.{reads_in_append, writes_in_append}

more_reads : (xs : List Reading) (r : Reading) → AreReads xs → 1 ≤ r.want → r.want ≤ 65536
    → AreReads (xs ++ r ∷ [])
more_reads [] r h some few = (some, few, tt)
more_reads (x ∷ xs) r h some few = (h.0, h.1, more_reads xs r h.2 some few)

more_writes : (xs : List Writing) (w : Writing) → AreWrites xs → 1 ≤ length w.bytes
    → AreWrites (xs ++ w ∷ [])
more_writes [] w h some = (some, tt)
more_writes (x ∷ xs) w h some = (h.0, more_writes xs w h.1 some)

within_more : (xs : List Writing) (w : Writing) (sent : ℕ) → IsWithin xs sent → 1 ≤ length w.bytes
    → IsWithin (xs ++ w ∷ []) sent
within_more [] w sent h some = omega (arith, h, some)
within_more (x ∷ xs) w sent h some = h

pub reads_pushed : (old new : List Reading) (r : Reading) (done : Result (Unit {0}) NoMemory)
    → OnOk done (new ≡ old ++ r ∷ []) → OnErr done (new ≡ old) → AreReads old → 1 ≤ r.want
    → r.want ≤ 65536 → AreReads new
reads_pushed old new r (Ok _) ok err h some few = subst AreReads (sym ok)
    (more_reads old r h some few)
reads_pushed old new r (Err _) ok err h some few = subst AreReads (sym err) h

pub writes_pushed : (old new : List Writing) (w : Writing) (sent : ℕ)
    (done : Result (Unit {0}) NoMemory) → OnOk done (new ≡ old ++ w ∷ []) → OnErr done (new ≡ old)
    → AreWrites old → IsWithin old sent → 1 ≤ length w.bytes → AreWrites new × IsWithin new sent
writes_pushed old new w sent (Ok _) ok err h within some = (
  subst AreWrites (sym ok) (more_writes old w h some),
  subst (λ (xs : List Writing). IsWithin xs sent) (sym ok) (within_more old w sent within some),
)
writes_pushed old new w sent (Err _) ok err h within some = (
  subst AreWrites (sym err) h,
  subst (λ (xs : List Writing). IsWithin xs sent) (sym err) within,
)

-- ---- two operations

stands_of : List Reading → List Writing → ℕ → Stands
stands_of reads writes sent = record { reads = reads; writes = writes; sent = sent }

pub queued_both : (a b : List Op) (s : Stands) → queued b (queued a s) ≡ queued (a ++ b) s
queued_both a b s =
    let r : (s.reads ++ reads_in a) ++ reads_in b ≡ s.reads ++ reads_in (a ++ b) =
    append_assoc s.reads (reads_in a) (reads_in b)
    ∙ ap (λ (xs : List Reading). s.reads ++ xs) (sym (reads_in_append a b)) in
    let w : (s.writes ++ writes_in a) ++ writes_in b ≡ s.writes ++ writes_in (a ++ b) =
    append_assoc s.writes (writes_in a) (writes_in b)
    ∙ ap (λ (xs : List Writing). s.writes ++ xs) (sym (writes_in_append a b)) in
    cc

pub both_taken_up : (ops : Ops) (old mid new : Stands) (all : Bool)
    → QueuesOne ops.first old true mid
    → QueuesOne ops.second mid all new → TakesUp ops old all new
both_taken_up ops old mid new true first second = record {
  up = ops_of ops;
  others = [];
  are = sym (append-nil (ops_of ops));
  leaves = second ∙ ap (queued (listed_op ops.second)) first
      ∙ queued_both (listed_op ops.first) (listed_op ops.second) old;
  all_is = refl;
}
both_taken_up ops old mid new false first second = record {
  up = listed_op ops.first;
  others = listed_op ops.second;
  are = refl;
  leaves = second.1 ∙ first;
  all_is = by (listed_op ops.second) second.0;
}
  where
    by : (xs : List Op) → length xs ≡ 1 → false ≡ not (some_there xs)
    by [] one = absurd (omega (arith, one))
    by (x ∷ xs) one = refl
