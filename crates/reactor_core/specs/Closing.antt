-- The closing of a handler (C++NPv2 chapter 3, `handle_close`).
use Rattle.std.specs.Prelude.{ℕ, ◌≡◌, true, List}
use Rattle.reactor_summary.specs.ev_types.specs.declared.upcall.Why.{Why}
use Rattle.reactor_summary.specs.ev_types.specs.declared.upcall.Why.TheVariants.{Own}
use Rattle.ev_base.specs.Terms.{Terms}
use Rattle.reactor_model.specs.reactor_journal.specs.declared.entry.Entry.{Entry}
use Rattle.reactor_model.specs.reactor_journal.specs.Past.{had, origin_of, reason_of}
use Rattle.reactor_summary.specs.Summary.{summary, waits_for_closed}
use Rattle.reactor_model.specs.Handling.{Handling, EndsInClose}
use Rattle.reactor_core.specs.Handlers.{is_live}

-- the handler of a handle that waits for its close, with the reason that the journal gives
pub record IsClosable {H E N : Type 0} (means : Handling H E N) (t : Terms) (past : List (Entry N))
    (x : ℕ) (handler : H) (why : Why) : Type 0 where
  pub live : is_live (summary past) x ≡ true
  pub waits : waits_for_closed (summary past) x ≡ true
  pub reason : reason_of past x ≡ why
  pub own : why ≡ Own → EndsInClose (had past x)
  pub fits : means.fits t (origin_of past x) handler (had past x)
