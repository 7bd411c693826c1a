use Rattle.std.proofs.Common.{[]}
use Rattle.module_stream.proofs.text.text_of.Goals as goal

pub returns-clause-text : goal.returns-clause-text
returns-clause-text c = c.into_bytes.ensures.text _ _
    (c.put_borrowed_text.ensures _ [] c.new-text.ensures)

pub returns-clause-within : goal.returns-clause-within
returns-clause-within c = c.into_bytes.ensures.within _ _
    (c.put_borrowed_text.ensures _ [] c.new-text.ensures)
