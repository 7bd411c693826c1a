use Rattle.std.proofs.Common.{◌≡◌, ◌∙◌, ◌∷◌, ◌++◌, ◌+◌, ◌<◌, [], List, ℕ, ap, arith, sym, take}
use Rattle.std.proofs.Common.{length, slice_set, ◌≢◌}
use Rattle.std.proofs.lemmas.List.{take_all, length-set, length-take, get_or-set_other}
use Rattle.cdr_record.specs.Grammar.{octet}
use Rattle.ace7_input.specs.declared.place.Place.{Place}
use Rattle.ace7_input.specs.Places.{behind, behind_begun, bytes_of}
use Rattle.ace7_input.proofs.Passing.{begun_more, begun_whole, one_more}
use Rattle.ace7_input.proofs.begun.Begun.add.Goals as goal

pub returns-then-count-lt-ALL_BUT_ONE : goal.returns-then-count-lt-ALL_BUT_ONE
returns-then-count-lt-ALL_BUT_ONE c t =
    let bytes : List ℕ = c.args.self.bytes in
    let few : length (bytes_of c.args.self) < 8 =
    omega (arith, length-take c.args.self.count bytes) in
    let within : c.args.self.count < length bytes = omega arith in
    let more : take (c.args.self.count + 1) (slice_set bytes c.args.self.count c.args.byte)
    ≡ bytes_of c.args.self ++ c.args.byte ∷ [] =
    one_more bytes c.args.self.count c.args.byte within in
    begun_more (bytes_of c.args.self) c.args.byte t few
    ∙ ap (λ (h : List ℕ). c.args.byte ∷ behind_begun h t) (sym more)

pub returns : goal.returns
returns c t =
    let bytes : List ℕ = c.args.self.bytes in
    let header : List ℕ = slice_set bytes c.args.self.count c.args.byte in
    let few : length (bytes_of c.args.self) < 8 =
    omega (arith, length-take c.args.self.count bytes) in
    let within : c.args.self.count < length bytes = omega arith in
    let all : take (c.args.self.count + 1) header ≡ header =
    take_all (c.args.self.count + 1) header
    (omega (arith, length-set bytes c.args.self.count c.args.byte)) in
    let more = one_more bytes c.args.self.count c.args.byte within in
    let whole : length header ≡ 8 =
    omega (arith, length-set bytes c.args.self.count c.args.byte) in
    let other : 0 ≢ c.args.self.count = omega arith in
    let first : octet header ≡ octet bytes =
    get_or-set_other bytes c.args.self.count 0 c.args.byte 0 other in
    begun_more (bytes_of c.args.self) c.args.byte t few
    ∙ ap (λ (h : List ℕ). c.args.byte ∷ behind_begun h t) (sym more ∙ all)
    ∙ ap (λ (l : List ℕ). c.args.byte ∷ l)
    (begun_whole header t whole (omega (arith, first, c.args.self.version)))
    ∙ ap (λ (p : Place). c.args.byte ∷ behind p t) (sym c.after.ensures)
