-- What a handler of a pool's tests means by its turns: it may ask for anything, and nothing hangs
-- on them.
use Rattle.std.specs.Prelude.{ℕ, false, None}
use Rattle.demux.specs.declared.play_end.PlayEnd.{PlayEnd}
use Rattle.reactor_model.specs.Handling.{Handling}
use Rattle.test_pool.specs.declared.member.Member.{Member}

abbrev pub member : Handling Member PlayEnd ℕ
member = record {
  fits = λ t origin handler had. Unit {0};
  gone = λ t origin end had why note. Unit {0};
  may = λ t up deed. Unit {0};
  installs = λ note. false;
  serial = λ t origin. None;
}
