use Rattle.std.proofs.Common.{◌≡◌, length, arith, refl}
use Rattle.std.proofs.lemmas.List.{length-append}
use Rattle.packed_records.specs.Packing.{total, head_of}
use Rattle.packed_records.proofs.Appending.{total-more, unpacked-more}
use Rattle.packed_records.proofs.packed.PackedRecordsRecordList.append.Goals as goal

pub invariant_of-self-2 : goal.invariant_of-self-2
invariant_of-self-2 c =
    let sum : total c.push_reserved.new.self.items ≡ length c.extend_from_slice.new.self.items =
    rw (
      c.push_reserved.ensures.items,
      c.in_ok-reserve.ensures.items,
      c.in_ok-extend_from_slice.ensures.items,
      c.head_of.ensures,
    )
    (omega (
      arith,
      c.self.invariant,
      total-more c.self.inside.heads.items (head_of c.args.entry),
      length-append c.self.inside.messages.items c.args.entry.text.now,
    )) in
    sum

pub returns-clause-ok : goal.returns-clause-ok
returns-clause-ok c =
    rw (
      c.push_reserved.ensures.items,
      c.in_ok-reserve.ensures.items,
      c.in_ok-extend_from_slice.ensures.items,
      ← c.self.view_is,
      c.head_of.ensures,
    )
    (unpacked-more c.self.inside.heads.items (head_of c.args.entry) c.self.inside.messages.items
    c.args.entry.text.now c.self.invariant refl)
