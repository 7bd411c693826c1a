-- What the words of the program call.
use Rattle.std.specs.Prelude.{◌≡◌, ◌∷◌, Bool, true, false, List, [], Option, Some, None}
use Rattle.std.specs.Prelude.{map, codes}
use Rattle.std.specs.String.{string_bytes}
use Rattle.std.specs.Net.Addr.{ipv4_octets}
use Rattle.std.specs.Net.Grammar.{IsIpText}
use Rattle.std.specs.declared.net.ip_addr.IpAddr.{IpAddr}
use Rattle.std.specs.declared.net.ip_addr.IpAddr.TheVariants.{V4, V6}
use Rattle.cmd_line.specs.Given.{Entry, Line, Text, given, has_flag, text_of}
use Rattle.help_words.specs.Asking.{is_only}
use Rattle.program_words.specs.Parting.{left_over, taken_off, takes_of}
use Rattle.program_words.specs.declared.called.Own.{Own}
use Rattle.program_words.specs.declared.called.Called.{Called}
use Rattle.program_words.specs.declared.called.Called.TheVariants as called

-- ---- the program's own options

abbrev pub own_line : Line
own_line = record { valued = codes "address" ∷ []; flags = codes "control" ∷ codes "ace7" ∷ [] }

-- the address of this machine alone, 127.0.0.1
abbrev pub IsLocal : IpAddr → Type 0
IsLocal (V4 address) = ipv4_octets address ≡ 127 ∷ 0 ∷ 0 ∷ 1 ∷ []
IsLocal (V6 address) = ⊥

-- the address that an option says, or that of this machine alone
abbrev pub SaysAddress : Option Text → IpAddr → Type 0
SaysAddress None address = IsLocal address
SaysAddress (Some text) address = IsIpText text address

-- the option is there and spells no address
abbrev pub SaysNone : Option Text → Type 0
SaysNone None = ⊥
SaysNone (Some text) = (address : IpAddr) → IsIpText text address → ⊥

-- the options, by the text of each
pub record Says (text : Text → Option Text) (own : Own) : Type 0 where
  pub address : SaysAddress (text (codes "address")) own.address
  pub control : own.control ≡ has_flag (text (codes "control"))
  pub ace7 : own.ace7 ≡ has_flag (text (codes "ace7"))

-- what the options say, or that they are not as they have to be: one stands twice, or spells no
-- address
abbrev pub ReadsOwn : Option (List Entry) → Option Own → Type 0
ReadsOwn None None = Unit {0}
ReadsOwn None (Some own) = ⊥
ReadsOwn (Some entries) None = SaysNone (text_of entries (codes "address"))
ReadsOwn (Some entries) (Some own) = Says (text_of entries) own

-- ---- all words

-- the options that are taken off a command's words
abbrev pub own_of : List Text → Option (List Entry)
own_of words = given own_line (taken_off (takes_of words) false words)

-- what the words call: of a command's words its options of the program's own are taken off, and the
-- others are left
abbrev pub Calls : List Text → Option Called → Type 0
Calls words None = ReadsOwn (own_of words) None
Calls words (Some called.Help) = is_only (codes "--help") words ≡ true
Calls words (Some called.Version) = is_only (codes "--version") words ≡ true
Calls words (Some (called.Command own rest)) =
    (is_only (codes "--help") words ≡ false) × (is_only (codes "--version") words ≡ false)
    × ReadsOwn (own_of words) (Some own)
    × (map string_bytes rest.items ≡ left_over (takes_of words) false words)
