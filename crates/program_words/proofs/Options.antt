-- That the parser of the program's own options takes the same words as their line.
use Rattle.std.proofs.Common.{◌≡◌, ◌∙◌, true, false, List, Option, Some, None, refl}
use Rattle.std.proofs.Common.{codes, sym, subst, ap, MatchOption}
use Rattle.clap.specs.Words.{App, Row, Text, first_of}
use Rattle.clap.specs.Walk.{nothing_held}
use Rattle.clap.specs.Simple.{built}
use Rattle.clap.proofs.FaultLemmas.{leaf_fault}
use Rattle.cmd_line.specs.Given.{Entry, given, has_flag, text_of}
use Rattle.cmd_line.specs.Parse.{are_taken, parser_of, rows_on}
use Rattle.cmd_line.proofs.Parsed.{IsParser, Parsed, parsed}
use Rattle.cmd_line.proofs.Readings.{AreWords}
use Rattle.program_words.specs.Calling.{ReadsOwn, Says, SaysAddress, SaysNone, own_line}
use Rattle.program_words.specs.declared.called.Own.{Own}

abbrev pub own_app : App
own_app = parser_of (codes "logd") own_line

own_parser : IsParser own_app (codes "logd") own_line
own_parser = record {
  fault = λ words. leaf_fault (built own_app) nothing_held words refl;
  found = λ words. refl;
}

abbrev own_parsed : (words : List Text) → AreWords words
    → Parsed own_app own_line words (given own_line words)
own_parsed words are = parsed own_app (codes "logd") own_line words own_parser are

-- words that the parser refuses give no options
pub refused : (words : List Text) → AreWords words → are_taken own_app words ≡ false
    → ReadsOwn (given own_line words) None
refused words are none = go (given own_line words) (own_parsed words are)
  where
    go : (read : Option (List Entry)) → Parsed own_app own_line words read → ReadsOwn read None
    go None found = tt
    go (Some entries) found = absurd (cc (sym none ∙ found.0))

-- what the options say by the texts that were found they say by the texts that were given
says : (text : Text → Option Text) (entries : List Entry) (own : Option Own)
    → text (codes "address") ≡ text_of entries (codes "address")
    → has_flag (text (codes "control")) ≡ has_flag (text_of entries (codes "control"))
    → has_flag (text (codes "ace7")) ≡ has_flag (text_of entries (codes "ace7"))
    → MatchOption own (SaysNone (text (codes "address"))) (Says text) → ReadsOwn (Some entries) own
says text entries None address control ace7 found = subst SaysNone address found
says text entries (Some own) address control ace7 found = record {
  address = subst (λ (t : Option Text). SaysAddress t own.address) address found.address;
  control = found.control ∙ control;
  ace7 = found.ace7 ∙ ace7;
}

-- of words that it takes the options have the texts that were found
pub taken : (words : List Text) (rows : List Row) (own : Option Own) → AreWords words
    → are_taken own_app words ≡ true → rows ≡ rows_on own_app words
    → MatchOption own (SaysNone (first_of (codes "address") rows))
    (Says (λ name. first_of name rows))
    → ReadsOwn (given own_line words) own
taken words rows own are all is found = go (given own_line words) (own_parsed words are)
  where
    go : (read : Option (List Entry)) → Parsed own_app own_line words read → ReadsOwn read own
    go None none = absurd (cc (sym all ∙ none))
    go (Some entries) read = says (λ name. first_of name rows) entries own
        (ap (first_of (codes "address")) is ∙ read.1 (codes "address") refl)
        (ap (λ (rs : List Row). has_flag (first_of (codes "control") rs)) is
        ∙ read.2 (codes "control"))
        (ap (λ (rs : List Row). has_flag (first_of (codes "ace7") rs)) is ∙ read.2 (codes "ace7"))
        found
