use Rattle.std.proofs.Common.{◌≡◌, drop}
use Rattle.script_net.specs.event_script.specs.Grammar.{digits_from}
use Rattle.script_text.proofs.words.digits.Given as goal

abbrev pub invariant-loop-byte : goal.invariant-loop-byte
invariant-loop-byte l = digits_from 0 l.word ≡ digits_from l.number (drop l.byte-index l.word)
