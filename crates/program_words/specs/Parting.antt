-- Which words of a command are the program's own, and which the command sees.
use Rattle.std.specs.Prelude.{◌==◌, ◌||◌, ◌&&◌, Bool, false, if◌then◌else◌, List, [], ◌∷◌, codes}
use Rattle.std.specs.List.{starts_with}
use Rattle.std.specs.Str.{bytes_eq}
use Rattle.cmd_line.specs.Given.{Text, may_be_text}
use Rattle.program_words.specs.declared.takes.Takes.{Takes}

-- ---- which options a command has

-- it listens to an address, or dials one
abbrev pub has_address : Text → Bool
has_address name = bytes_eq name (codes "serve") || bytes_eq name (codes "aio")
    || bytes_eq name (codes "pool") || bytes_eq name (codes "forward")

-- it runs until it is ended, and standard input has nothing else for it
abbrev pub has_control : Text → Bool
has_control name = bytes_eq name (codes "serve") || bytes_eq name (codes "aio")
    || bytes_eq name (codes "pool")

-- it reads the records of clients
abbrev pub has_ace7 : Text → Bool
has_ace7 name = bytes_eq name (codes "one") || bytes_eq name (codes "display")
    || bytes_eq name (codes "serve") || bytes_eq name (codes "pool")

-- the options of the command that the first word names
abbrev pub takes_of : List Text → Takes
takes_of [] = record { address = false; control = false; ace7 = false }
takes_of (name ∷ words) =
    record { address = has_address name; control = has_control name; ace7 = has_ace7 name }

-- ---- which words they are

-- `--address`, whose text is the next word
abbrev pub is_alone : Takes → Text → Bool
is_alone takes word = takes.address && bytes_eq word (codes "--address")

-- `--address=TEXT`
abbrev pub is_joined : Takes → Text → Bool
is_joined takes word =
    takes.address && starts_with (λ a b. a == b) word (codes "--address=")

-- `--control` and `--ace7`, which have no text
abbrev pub is_flag : Takes → Text → Bool
is_flag takes word = (takes.control && bytes_eq word (codes "--control"))
    || (takes.ace7 && bytes_eq word (codes "--ace7"))

-- the word is the program's own: such an option, or the text of one that stands alone before it
abbrev pub is_own : Takes → Bool → Text → Bool
is_own takes waits word =
    (waits && may_be_text word) || is_alone takes word || is_joined takes word || is_flag takes word

-- the program's own words, in order; `waits` says that an option stands alone before the first word
unfoldable pub taken_off : Takes → Bool → List Text → List Text
taken_off takes waits [] = []
taken_off takes waits (word ∷ words) =
    if is_own takes waits word then word ∷ taken_off takes (is_alone takes word) words
    else taken_off takes (is_alone takes word) words

-- the other words, in order
unfoldable pub left_over : Takes → Bool → List Text → List Text
left_over takes waits [] = []
left_over takes waits (word ∷ words) =
    if is_own takes waits word then left_over takes (is_alone takes word) words
    else word ∷ left_over takes (is_alone takes word) words
