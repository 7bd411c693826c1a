use Rattle.module_stream.proofs.Alone.{formats_records, leaves_others}
use Rattle.module_stream.proofs.laws.formats_what_spells_a_record.Goals as goal

pub returns-clause-records : goal.returns-clause-records
returns-clause-records c = formats_records c.decode_cuts.ensures

pub returns-clause-others : goal.returns-clause-others
returns-clause-others c = leaves_others c.decode_cuts.ensures
