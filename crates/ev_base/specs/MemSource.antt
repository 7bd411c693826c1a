-- The source of pieces in memory.
use Rattle.std.specs.Prelude.{◌≡◌, ℕ, List, length, Some, false, Contains}
use Rattle.ev_base.specs.Source.{SourceFacts}
use Rattle.ev_base.specs.MemoryForms.{given_of, left_of}
use Rattle.ev_base.specs.declared.memory.MemSource.{MemSource}

-- it tells its bytes
abbrev pub mem_source_facts : MemSource → SourceFacts
mem_source_facts source = record {
  faults = source.faults;
  gave = length (given_of source.next source.at source.pieces.items);
  over = source.over;
  bytes = Some (record {
    given = given_of source.next source.at source.pieces.items;
    left = left_of source.next source.at source.pieces.items;
  });
}

-- how many reads it made before it was over, and the numbers of those that are to fail
abbrev pub reads_of : MemSource → ℕ
reads_of source = source.reads

abbrev pub fails_of : MemSource → List ℕ
fails_of source = source.fails.items

-- the next read is to fail
abbrev pub IsToFail : MemSource → Type 0
IsToFail source = ((mem_source_facts source).over ≡ false)
    × Contains (fails_of source) (reads_of source)
