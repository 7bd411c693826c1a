use Rattle.std.proofs.Common.{◌≡◌, refl, pos, arith}
use Rattle.std.proofs.lemmas.Int.{ints}
use Rattle.log_lines.specs.Texts.{type_text}
use Rattle.log_lines.proofs.Types.{type_text-other}
use Rattle.log_lines.proofs.lines.name_of.Goals as goal

pub returns-in-1 : goal.returns-in-1
unfolding type_text
returns-in-1 c = let is : c.args.kind ≡ pos 1 = omega (arith, ints) in rw is refl

pub returns-in-2 : goal.returns-in-2
unfolding type_text
returns-in-2 c = let is : c.args.kind ≡ pos 2 = omega (arith, ints) in rw is refl

pub returns-in-4 : goal.returns-in-4
unfolding type_text
returns-in-4 c = let is : c.args.kind ≡ pos 4 = omega (arith, ints) in rw is refl

pub returns-in-8 : goal.returns-in-8
unfolding type_text
returns-in-8 c = let is : c.args.kind ≡ pos 8 = omega (arith, ints) in rw is refl

pub returns-in-16 : goal.returns-in-16
unfolding type_text
returns-in-16 c = let is : c.args.kind ≡ pos 16 = omega (arith, ints) in rw is refl

pub returns-in-32 : goal.returns-in-32
unfolding type_text
returns-in-32 c = let is : c.args.kind ≡ pos 32 = omega (arith, ints) in rw is refl

pub returns-in-64 : goal.returns-in-64
unfolding type_text
returns-in-64 c = let is : c.args.kind ≡ pos 64 = omega (arith, ints) in rw is refl

pub returns-in-128 : goal.returns-in-128
unfolding type_text
returns-in-128 c = let is : c.args.kind ≡ pos 128 = omega (arith, ints) in rw is refl

pub returns-in-256 : goal.returns-in-256
unfolding type_text
returns-in-256 c = let is : c.args.kind ≡ pos 256 = omega (arith, ints) in rw is refl

pub returns-in-512 : goal.returns-in-512
unfolding type_text
returns-in-512 c = let is : c.args.kind ≡ pos 512 = omega (arith, ints) in rw is refl

pub returns-in-1024 : goal.returns-in-1024
unfolding type_text
returns-in-1024 c = let is : c.args.kind ≡ pos 1024 = omega (arith, ints) in rw is refl

pub returns-in_default : goal.returns-in_default
returns-in_default c =
    type_text-other c.args.kind
    (omega (arith, ints)) (omega (arith, ints)) (omega (arith, ints)) (omega (arith, ints))
    (omega (arith, ints)) (omega (arith, ints)) (omega (arith, ints)) (omega (arith, ints))
    (omega (arith, ints)) (omega (arith, ints)) (omega (arith, ints))
