-- The steps of a turn as its relation has them.
use Rattle.std.proofs.Common.{◌≡◌, ◌&&◌, ◌∙◌, ℕ, Bool, true, false, not, List, [], ◌++◌, length}
use Rattle.std.proofs.Common.{drop, Option, Some, None, refl, sym, ap, subst}
use Rattle.std.specs.Prelude.{is_none, is_some}
use Rattle.ev_base.specs.End.{EndFacts, EndWrites}
use Rattle.ev_base.specs.declared.end.Sent.TheVariants as sent
use Rattle.cdr_record.specs.Decoding.{DecoderState}
use Rattle.forwarder.specs.Feeding.{sent_all}
use Rattle.forwarder.specs.Readings.{CompletesSo}
use Rattle.forwarder.specs.Forwarding.{State, TakesPiece, WritesIf, may_write, more, none_wait}
use Rattle.forwarder.specs.declared.note.ForwardEnding.{ForwardEnding}
use Rattle.forwarder.specs.declared.reading.Completed.{Completed}

may_both : (b : Bool) (o : Option ForwardEnding) → b ≡ false → is_some o ≡ false
    → (not b && is_none o) ≡ true
may_both true o is none = cc
may_both false None is none = refl
may_both false (Some how) is none = cc

-- a write of all that waits took some bytes
pub wrote_some : (s : State) (f : EndFacts) (n bytes : ℕ) (piece left : List ℕ)
    → none_wait s ≡ false → is_some s.ended ≡ false → piece ≡ s.waiting
    → EndWrites s.facts piece (sent.Bytes n) f → left ≡ drop n piece → bytes ≡ more s.bytes n
    → WritesIf (may_write s) s true (record s { facts = f; waiting = left; bytes = bytes })
wrote_some s f n bytes piece left some open_ all writes passed counts =
    subst (λ (b : Bool). WritesIf b s true (record s { facts = f; waiting = left; bytes = bytes }))
    (sym (may_both (none_wait s) s.ended some open_)) (record {
      came = sent.Bytes n;
      facts = f;
      writes = subst (λ (xs : List ℕ). EndWrites s.facts xs (sent.Bytes n) f) all writes;
      takes = (
        refl,
        ap (λ (xs : List ℕ). record s { facts = f; waiting = xs; bytes = bytes })
            (passed ∙ ap (drop n) all)
            ∙ ap (λ (k : ℕ). record s { facts = f; waiting = drop n s.waiting; bytes = k }) counts,
      );
    })

-- a piece was taken when nothing waited
pub took_piece : (s : State) (piece waiting : List ℕ) (records : ℕ) (came : Completed)
    (d : DecoderState) → s.waiting ≡ [] → CompletesSo s.decoder piece came d
    → waiting ≡ came.bytes.items → records ≡ more s.records came.records
    → TakesPiece piece s
    (record s { decoder = d; waiting = waiting; stop = came.stop; records = records })
took_piece s piece waiting records came d none completes put counts =
    let all : waiting ≡ s.waiting ++ sent_all completes.fed.records =
    put ∙ completes.bytes
    ∙ sym (ap (λ (xs : List ℕ). xs ++ sent_all completes.fed.records) none) in
    let many : records ≡ more s.records (length completes.fed.records) =
    counts ∙ ap (more s.records) completes.records in
    record {
      fed = completes.fed;
      feeds = completes.feeds;
      leaves = rw (all, many, completes.stop) refl;
    }
