use Rattle.std.proofs.Common.{◌∙◌, sym, ap, length}
use Rattle.packed_records.proofs.Appending.{unpacked-length}
use Rattle.packed_records.proofs.packed.PackedRecords.len.Goals as goal

pub returns : goal.returns
returns c = ap length c.as_slice.ensures.value
    ∙ sym (unpacked-length c.self.inside.heads.items c.self.inside.messages.items)
    ∙ ap length c.self.view_is
