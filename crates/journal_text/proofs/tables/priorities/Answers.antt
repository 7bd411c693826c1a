use Rattle.std.proofs.Common.{◌≡◌, ◌∙◌, ◌==◌, ℕ, Bool, true, false, cond, List, [], ◌∷◌, Option}
use Rattle.std.proofs.Common.{Some, decimal, codes, ap, refl, sym}
use Rattle.std.specs.Prelude.{pos, unwrap_or, option_map}
use Rattle.std.specs.List.{find}
use Rattle.log_lines.specs.Texts.{type_text}
use Rattle.journal_text.specs.Rows.{Named, has_code, name_in}
use Rattle.journal_text.specs.Tables.{names_in}
use Rattle.journal_text.specs.Names.{priority_names}
use Rattle.journal_text.proofs.tables.priorities.Goals as goal

abbrev named_or : List Named → ℕ → List ℕ → List ℕ
named_or rows kind other = unwrap_or (name_in rows kind) other

by_test : (b : Bool) (code : ℕ) (name rest other : List ℕ) (o : Option Named)
    → rest ≡ unwrap_or (option_map (λ (row : Named). row.1) o) other
    → cond b name rest ≡ unwrap_or (option_map (λ (row : Named). row.1)
    (cond b (Some (code, name)) o)) other
by_test true code name rest other o is = refl
by_test false code name rest other o is = is

-- the name of the first row, or of a later one
first_or : (kind code : ℕ) (name rest : List ℕ) (rows : List Named)
    → rest ≡ named_or rows kind (decimal kind)
    → cond (kind == code) name rest ≡ named_or ((code, name) ∷ rows) kind (decimal kind)
first_or kind code name rest rows is =
    by_test (kind == code) code name rest (decimal kind) (find (has_code kind) rows) is

abbrev behind_1024 : List Named
behind_1024 = []

abbrev behind_512 : List Named
behind_512 = (1024, codes "LM_EMERGENCY") ∷ behind_1024

abbrev behind_256 : List Named
behind_256 = (512, codes "LM_ALERT") ∷ behind_512

abbrev behind_128 : List Named
behind_128 = (256, codes "LM_CRITICAL") ∷ behind_256

abbrev behind_64 : List Named
behind_64 = (128, codes "LM_ERROR") ∷ behind_128

abbrev behind_32 : List Named
behind_32 = (64, codes "LM_STARTUP") ∷ behind_64

abbrev behind_16 : List Named
behind_16 = (32, codes "LM_WARNING") ∷ behind_32

abbrev behind_8 : List Named
behind_8 = (16, codes "LM_NOTICE") ∷ behind_16

abbrev behind_4 : List Named
behind_4 = (8, codes "LM_INFO") ∷ behind_8

abbrev behind_2 : List Named
behind_2 = (4, codes "LM_DEBUG") ∷ behind_4

abbrev behind_1 : List Named
behind_1 = (2, codes "LM_TRACE") ∷ behind_2

named : (kind : ℕ) → type_text (pos kind) ≡ named_or priority_names kind (decimal kind)
unfolding type_text
named kind =
    first_or kind 1 (codes "LM_SHUTDOWN") _ behind_1
    (first_or kind 2 (codes "LM_TRACE") _ behind_2
    (first_or kind 4 (codes "LM_DEBUG") _ behind_4
    (first_or kind 8 (codes "LM_INFO") _ behind_8
    (first_or kind 16 (codes "LM_NOTICE") _ behind_16
    (first_or kind 32 (codes "LM_WARNING") _ behind_32
    (first_or kind 64 (codes "LM_STARTUP") _ behind_64
    (first_or kind 128 (codes "LM_ERROR") _ behind_128
    (first_or kind 256 (codes "LM_CRITICAL") _ behind_256
    (first_or kind 512 (codes "LM_ALERT") _ behind_512
    (first_or kind 1024 (codes "LM_EMERGENCY") _ behind_1024 (refl)))))))))))

pub returns-clause-lines : goal.returns-clause-lines
returns-clause-lines c = λ kind.
    let are : names_in c.new.result ≡ priority_names = c.new.ensures in
    named kind ∙ ap (λ (rows : List Named). named_or rows kind (decimal kind)) (sym are)
