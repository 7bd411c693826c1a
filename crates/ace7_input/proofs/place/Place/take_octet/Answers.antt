use Rattle.std.proofs.Common.{◌≡◌, ◌∙◌, ◌∷◌, [], List, ℕ, ap, ap₂, arith, sym, take}
use Rattle.ace7_input.specs.declared.place.Place.{Place}
use Rattle.ace7_input.specs.Places.{behind, behind_begun, bytes_of}
use Rattle.ace7_input.proofs.Passing.{wide_first, takes_other}
use Rattle.ace7_input.proofs.place.Place.take_octet.Goals as goal

pub returns-then-byte-lt4 : goal.returns-then-byte-lt4
returns-then-byte-lt4 c t =
    let begun : bytes_of c.new.result ≡ c.args.byte ∷ [] =
    ap (λ n. take n c.new.result.bytes) c.new.ensures.count ∙ c.new.ensures.octet in
    ap (λ (p : Place). behind p (c.args.byte ∷ t)) c.requires
    ∙ wide_first c.args.byte t
    ∙ ap₂ (λ (b : ℕ) (h : List ℕ). b ∷ behind_begun h t) (sym c.widened.ensures) (sym begun)

pub returns-else-byte-lt4 : goal.returns-else-byte-lt4
returns-else-byte-lt4 c t =
    ap (λ (p : Place). behind p (c.args.byte ∷ t)) c.requires
    ∙ takes_other c.args.byte t (omega arith)
