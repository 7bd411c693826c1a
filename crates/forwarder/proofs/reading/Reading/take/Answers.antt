use Rattle.std.proofs.Common.{◌≡◌, ◌∙◌, ◌++◌, List, sym, ap, arith}
use Rattle.cdr_record.specs.declared.record.LogRecord.{LogRecord}
use Rattle.forwarder.specs.Feeding.{are_short, count_of, sent_all}
use Rattle.forwarder.specs.Readings.{stop_of}
use Rattle.forwarder.proofs.Bounds.{ArePieces, are_pieces}
use Rattle.forwarder.proofs.reading.Reading.take.Goals as goal
use Rattle.forwarder.proofs.reading.Reading.take.Goals.{After-stop_of}

-- the list has the records that the piece completed
came : (c : After-stop_of) → c.feed_to.new.list ≡ c.in_ok-bad.ensures.ok.0.records
came c = c.in_ok-bad.ensures.ok.2
    ∙ ap (λ (rs : List LogRecord). rs ++ c.in_ok-bad.ensures.ok.0.records) c.new-list.ensures

pieces : (c : After-stop_of) → ArePieces c.in_ok-bad.ensures.ok.0.records
pieces c = are_pieces _ _ c.self.invariant.0 c.args.piece.now _ c.self.invariant.1
    c.in_ok-bad.ensures.ok.3 c.requires.few

spelled : (c : After-stop_of)
    → c.into_parts-bytes.result.0.items ≡ sent_all c.in_ok-bad.ensures.ok.0.records
spelled c = c.into_parts-bytes.ensures.bytes (ap are_short (came c) ∙ (pieces c).short)
    ∙ ap sent_all (came c)

pub returns-clause-completes : goal.returns-clause-completes
returns-clause-completes c =
    let told = c.in_ok-bad.ensures.ok in
    let many = (pieces c).many in
    let count : c.into_parts-bytes.result.1 ≡ count_of told.0.records =
    c.into_parts-bytes.ensures.count ∙ ap count_of (came c) in
    record {
      fed = told.0;
      feeds = rw (← c.self.view_is) told.3;
      bytes = spelled c;
      records = omega (arith, count, many);
      stop = c.stop_of.ensures ∙ ap stop_of (sym told.1);
    }

pub returns-clause-few : goal.returns-clause-few
returns-clause-few c = rw (spelled c) (pieces c).few
