use Rattle.std.proofs.Common.{◌≡◌, ◌≤◌, length, All}
use Rattle.demux_mio.specs.Asked.{IsWanted}
use Rattle.demux_mio.proofs.watching.Watching.give_owed.Given as goal

abbrev pub invariant-loop : goal.invariant-loop
invariant-loop l = record {
  same : l.self ≡ l.initial.self;
  few : length l.reports.items ≤ 256;
  wanted : All (IsWanted l.initial.self) l.reports.items;
}
