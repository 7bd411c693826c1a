-- The ranges of the numbers that a command's words say.
use Rattle.std.specs.Prelude.{ℕ, ◌≤◌, IfSome}
use Rattle.cmd_line.specs.declared.command.Command.{Command}
use Rattle.cmd_line.specs.declared.command.Command.TheVariants.{One, Replay, Serve, Display, Audit}
use Rattle.cmd_line.specs.declared.command.Command.TheVariants.{Generate}
use Rattle.cmd_line.specs.declared.options.Options.{Options}

abbrev pub IsWithin : ℕ → ℕ → ℕ → Type 0
IsWithin least most n = (least ≤ n) × (n ≤ most)

pub record AreInRange (options : Options) : Type 0 where
  pub workers : IsWithin 1 64 options.workers
  pub most : IsWithin 1 4096 options.most
  pub idle : IfSome options.idle (IsWithin 1 4294967295)
  pub until : IfSome options.until (IsWithin 1 4294967295)

abbrev pub IsInRange : Command → Type 0
IsInRange (Replay options) = AreInRange options
IsInRange (Serve port options) = IsWithin 1 65535 port × AreInRange options
IsInRange (Generate connections seed) = IsWithin 1 1000 connections × (seed ≤ 4294967295)
IsInRange One = Unit {0}
IsInRange Display = Unit {0}
IsInRange Audit = Unit {0}
