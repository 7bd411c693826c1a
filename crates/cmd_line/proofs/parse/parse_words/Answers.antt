use Rattle.std.proofs.Common.{ap, arith, ◌∙◌, ◌≡◌, false, List, [], ◌∷◌, inl, inr, map}
use Rattle.std.proofs.Common.{string_bytes}
use Rattle.clap.specs.Words.{Kinds, HasKind, Text, app_of, fault_of, is_simple, kind_of}
use Rattle.clap.specs.Walk.{is_empty}
use Rattle.clap.specs.declared.error.Error.{Error}
use Rattle.clap.specs.declared.error.kind.ErrorKind.{ErrorKind}
use Rattle.clap.specs.declared.error.kind.ErrorKind.TheVariants.{OutOfMemory}
use Rattle.clap.proofs.WalkLemmas.{both}
use Rattle.cmd_line.specs.Parse.{are_taken, rows_on}
use Rattle.cmd_line.proofs.parse.parse_words.Goals as goal

-- an error that is not of memory has a kind, so the list of kinds has one
refused : (kinds : Kinds) (error : Error) (kind : ErrorKind) → kind ≡ kind_of error
    → (kind ≡ OutOfMemory → ⊥) → HasKind kinds error → is_empty kinds ≡ false
refused kinds error kind is not_memory (inl memory) = absurd (not_memory (is ∙ memory))
refused [] error kind is not_memory (inr among) = absurd among
refused (k ∷ rest) error kind is not_memory (inr among) = grind arith

pub returns-in-Ok : goal.returns-in-Ok
unfolding are_taken rows_on
returns-in-Ok c = (
  ap is_empty (c.in-Ok.ensures.kinds c.requires),
  (c.in-Ok.ensures.matches (both (is_simple (app_of c.args.command)) _ c.requires).0).0,
)

pub returns : goal.returns
unfolding are_taken
returns c =
    let words : List Text = map string_bytes c.args.words.now in
    refused (fault_of (app_of c.args.command) words) c.in-Err.error c.kind.result c.kind.ensures
    c.in_default.not-OutOfMemory (c.in-Err.ensures.kinds c.requires)
