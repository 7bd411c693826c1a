-- That a command's parser and its line take the same words, and give them the same meaning.
use Rattle.std.proofs.Common.{◌≡◌, ◌∙◌, Bool, true, false, List, [], ◌∷◌, fold, Option, Some, None}
use Rattle.std.proofs.Common.{refl, ap, arith, codes}
use Rattle.clap.specs.Words.{App, Kinds, Row, Text, fault_of, first_of, matches_of}
use Rattle.clap.specs.Walk.{is_empty, nothing_held, with_default}
use Rattle.clap.specs.Faults.{level_fault}
use Rattle.clap.specs.Simple.{built}
use Rattle.clap.proofs.FaultLemmas.{leaf_fault}
use Rattle.cmd_line.specs.Given.{Entry, Line, given, has_flag, has_name, text_of}
use Rattle.cmd_line.specs.Options.{◌>>=◌, form_of, options_of}
use Rattle.cmd_line.specs.Lines.{replay_by, replay_line, replay_of, serve_by, serve_line, serve_of}
use Rattle.cmd_line.specs.Lines.{Texts, port_of}
use Rattle.cmd_line.specs.Parse.{are_taken, parser_of, rows_on}
use Rattle.cmd_line.specs.declared.command.Command.{Command}
use Rattle.cmd_line.specs.declared.command.Command.TheVariants.{Replay, Serve}
use Rattle.cmd_line.specs.declared.options.Form.TheVariants.{Plain}
use Rattle.cmd_line.proofs.Rules.{rules_of, shape_of}
use Rattle.cmd_line.proofs.Steps.{Refused}
use Rattle.cmd_line.proofs.Turns.{held, idle_at}
use Rattle.cmd_line.proofs.Readings.{Agrees, AreWords, agrees, faults, rows_left}
use Rattle.cmd_line.proofs.Texts.{finished_keeps, first_of-text, flags_kept, level_faults}
use Rattle.cmd_line.proofs.Texts.{texts_kept}

-- ---- any line

-- what is parsed is what one level of the line's arguments makes of the words
pub record IsParser (app : App) (top : Text) (line : Line) : Type 0 where
  pub fault : (words : List Text) → fault_of app words
      ≡ level_fault (shape_of top line) [] (held [] None) words false []
  pub found : (words : List Text) → matches_of app words
      ≡ fold with_default (rows_left line (idle_at [] None) words) (rules_of line)

refused_some : (kinds : Kinds) → Refused kinds → is_empty kinds ≡ false
refused_some [] none = absurd none
refused_some (k ∷ kinds) some = grind arith

-- both refuse the words, or the parse finds the texts of the entries
abbrev pub Parsed : App → Line → List Text → Option (List Entry) → Type 0
Parsed app line words None = are_taken app words ≡ false
Parsed app line words (Some entries) = (are_taken app words ≡ true)
    × ((name : Text) → has_name name line.flags ≡ false
    → first_of name (rows_on app words) ≡ text_of entries name)
    × ((name : Text) → has_flag (first_of name (rows_on app words))
    ≡ has_flag (text_of entries name))

parsed_by : (app : App) (top : Text) (line : Line) (words : List Text) (read : Option (List Entry))
    → IsParser app top line
    → Agrees (faults top line (idle_at [] None) words) (rows_left line (idle_at [] None) words) read
    → Parsed app line words read
unfolding are_taken rows_on
parsed_by app top line words None is refused =
    ap is_empty (is.fault words ∙ level_faults top line words)
    ∙ refused_some (faults top line (idle_at [] None) words) refused
parsed_by app top line words (Some entries) is agree =
    let rows = rows_left line (idle_at [] None) words in (
      ap is_empty (is.fault words ∙ level_faults top line words ∙ agree.0),
      λ name other. ap (first_of name) (is.found words)
          ∙ finished_keeps (first_of name) line.valued line.flags (texts_kept name line.flags other)
          rows ∙ first_of-text rows entries name agree.1,
      λ name. ap (λ (rs : List Row). has_flag (first_of name rs)) (is.found words)
          ∙ finished_keeps (λ rs. has_flag (first_of name rs)) line.valued line.flags
          (flags_kept name line.flags) rows
          ∙ ap has_flag (first_of-text rows entries name agree.1),
    )

pub parsed : (app : App) (top : Text) (line : Line) (words : List Text) → IsParser app top line
    → AreWords words → Parsed app line words (given line words)
parsed app top line words is are =
    parsed_by app top line words (given line words) is
    ((agrees top line words are).0 [] None [] (record { settles = refl; shows = refl }))

-- ---- what is made of the texts of any line's options

-- the options of a line can't tell these texts apart
pub record AreAlike (line : Line) (f g : Texts) : Type 0 where
  pub texts : (name : Text) → has_name name line.flags ≡ false → f name ≡ g name
  pub flags : (name : Text) → has_flag (f name) ≡ has_flag (g name)

no_both : (a : Bool) → a ≡ true → a ≡ false → ⊥
no_both a is other = cc

module _ {A : Type 0} (top : Text) (line : Line) (by : Texts → Option A)
    (parser : IsParser (parser_of top line) top line)
    (same : (f g : Texts) → AreAlike line f g → by f ≡ by g) where
  -- if the parser takes the words it finds the texts that they give
  pub taken : (words : List Text) (rows : List Row) → AreWords words
      → are_taken (parser_of top line) words ≡ true → rows ≡ rows_on (parser_of top line) words
      → by (λ name. first_of name rows) ≡ given line words >>= λ entries. by (text_of entries)
  taken words rows are all is =
      ap (λ (rs : List Row). by (λ name. first_of name rs)) is
      ∙ go (given line words) (parsed (parser_of top line) top line words parser are)
    where
      go : (read : Option (List Entry)) → Parsed (parser_of top line) line words read
          → by (λ name. first_of name (rows_on (parser_of top line) words))
          ≡ read >>= λ entries. by (text_of entries)
      go None none = absurd (no_both (are_taken (parser_of top line) words) all none)
      go (Some entries) found =
          same (λ name. first_of name (rows_on (parser_of top line) words)) (text_of entries)
          (record { texts = found.1; flags = found.2 })

  -- words that it refuses say nothing
  pub refused : (words : List Text) → AreWords words → are_taken (parser_of top line) words ≡ false
      → None ≡ given line words >>= λ entries. by (text_of entries)
  refused words are none =
      go (given line words) (parsed (parser_of top line) top line words parser are)
    where
      go : (read : Option (List Entry)) → Parsed (parser_of top line) line words read
          → None ≡ read >>= λ entries. by (text_of entries)
      go None found = refl
      go (Some entries) found =
          absurd (no_both (are_taken (parser_of top line) words) found.0 none)

-- ---- `replay`

abbrev pub replay_app : App
replay_app = parser_of (codes "replay") replay_line

replay_parser : IsParser replay_app (codes "replay") replay_line
replay_parser = record {
  fault = λ words. leaf_fault (built replay_app) nothing_held words refl;
  found = λ words. refl;
}

abbrev replay_with : (grouped journal : Bool) (workers most idle until timers : Option Text)
    → Option Command
replay_with grouped journal workers most idle until timers =
    form_of grouped journal >>= λ form.
    options_of workers most idle until timers form >>= λ options. Some (Replay options)

replay_same : (f g : Texts) → AreAlike replay_line f g → replay_by f ≡ replay_by g
replay_same f g alike =
    ap (λ x. replay_with x (has_flag (f (codes "journal"))) (f (codes "workers")) (f (codes "most"))
    (f (codes "idle")) (f (codes "until")) (f (codes "timers"))) (alike.flags (codes "grouped"))
    ∙ ap (λ x. replay_with (has_flag (g (codes "grouped"))) x (f (codes "workers"))
    (f (codes "most")) (f (codes "idle")) (f (codes "until")) (f (codes "timers")))
    (alike.flags (codes "journal"))
    ∙ ap (λ x. replay_with (has_flag (g (codes "grouped"))) (has_flag (g (codes "journal"))) x
    (f (codes "most")) (f (codes "idle")) (f (codes "until")) (f (codes "timers")))
    (alike.texts (codes "workers") refl)
    ∙ ap (λ x. replay_with (has_flag (g (codes "grouped"))) (has_flag (g (codes "journal")))
    (g (codes "workers")) x (f (codes "idle")) (f (codes "until")) (f (codes "timers")))
    (alike.texts (codes "most") refl)
    ∙ ap (λ x. replay_with (has_flag (g (codes "grouped"))) (has_flag (g (codes "journal")))
    (g (codes "workers")) (g (codes "most")) x (f (codes "until")) (f (codes "timers")))
    (alike.texts (codes "idle") refl)
    ∙ ap (λ x. replay_with (has_flag (g (codes "grouped"))) (has_flag (g (codes "journal")))
    (g (codes "workers")) (g (codes "most")) (g (codes "idle")) x (f (codes "timers")))
    (alike.texts (codes "until") refl)
    ∙ ap (λ x. replay_with (has_flag (g (codes "grouped"))) (has_flag (g (codes "journal")))
    (g (codes "workers")) (g (codes "most")) (g (codes "idle")) (g (codes "until")) x)
    (alike.texts (codes "timers") refl)

pub replay_taken : (words : List Text) (rows : List Row) → AreWords words
    → are_taken replay_app words ≡ true → rows ≡ rows_on replay_app words
    → replay_by (λ name. first_of name rows) ≡ replay_of words
unfolding replay_of
replay_taken = taken (codes "replay") replay_line replay_by replay_parser replay_same

pub replay_refused : (words : List Text) → AreWords words → are_taken replay_app words ≡ false
    → None ≡ replay_of words
unfolding replay_of
replay_refused = refused (codes "replay") replay_line replay_by replay_parser replay_same

-- ---- `serve`

abbrev pub serve_app : App
serve_app = parser_of (codes "serve") serve_line

serve_parser : IsParser serve_app (codes "serve") serve_line
serve_parser = record {
  fault = λ words. leaf_fault (built serve_app) nothing_held words refl;
  found = λ words. refl;
}

abbrev serve_with : (port workers most idle until timers : Option Text) → Option Command
serve_with port workers most idle until timers =
    port_of port >>= λ port. options_of workers most idle until timers Plain >>= λ options.
    Some (Serve port options)

serve_same : (f g : Texts) → AreAlike serve_line f g → serve_by f ≡ serve_by g
serve_same f g alike =
    ap (λ x. serve_with x (f (codes "workers")) (f (codes "most")) (f (codes "idle"))
    (f (codes "until")) (f (codes "timers"))) (alike.texts (codes "port") refl)
    ∙ ap (λ x. serve_with (g (codes "port")) x (f (codes "most")) (f (codes "idle"))
    (f (codes "until")) (f (codes "timers"))) (alike.texts (codes "workers") refl)
    ∙ ap (λ x. serve_with (g (codes "port")) (g (codes "workers")) x (f (codes "idle"))
    (f (codes "until")) (f (codes "timers"))) (alike.texts (codes "most") refl)
    ∙ ap (λ x. serve_with (g (codes "port")) (g (codes "workers")) (g (codes "most")) x
    (f (codes "until")) (f (codes "timers"))) (alike.texts (codes "idle") refl)
    ∙ ap (λ x. serve_with (g (codes "port")) (g (codes "workers")) (g (codes "most"))
    (g (codes "idle")) x (f (codes "timers"))) (alike.texts (codes "until") refl)
    ∙ ap (λ x. serve_with (g (codes "port")) (g (codes "workers")) (g (codes "most"))
    (g (codes "idle")) (g (codes "until")) x) (alike.texts (codes "timers") refl)

pub serve_taken : (words : List Text) (rows : List Row) → AreWords words
    → are_taken serve_app words ≡ true → rows ≡ rows_on serve_app words
    → serve_by (λ name. first_of name rows) ≡ serve_of words
unfolding serve_of
serve_taken = taken (codes "serve") serve_line serve_by serve_parser serve_same

pub serve_refused : (words : List Text) → AreWords words → are_taken serve_app words ≡ false
    → None ≡ serve_of words
unfolding serve_of
serve_refused = refused (codes "serve") serve_line serve_by serve_parser serve_same
