-- On which terms a run of the command begins, and how.
use Rattle.std.specs.Prelude.{ℕ, [], ◌∷◌, false, Option, Some, None}
use Rattle.ev_base.specs.Sink.{SinkFacts}
use Rattle.ev_base.specs.Terms.{Terms, open_terms}
use Rattle.ev_base.specs.declared.end.PeerEnd.{Ghosts}
use Rattle.reactor_model.specs.reactor_journal.specs.declared.entry.Entry.{Entry}
use Rattle.reactor_model.specs.reactor_journal.specs.declared.entry.Entry.TheVariants.{Opened}
use Rattle.reactor_core.specs.Stands.{Meaning, Stands}
use Rattle.reactor_core.specs.declared.reactor.Core.{Core}
use Rattle.reactor_core.specs.declared.registering.RegisterRefused.{RegisterRefused}
use Rattle.reactor_core.specs.declared.registering.RegisterRefused.TheVariants as register
use Rattle.proactor.specs.Ends.{mask_by}
use Rattle.proactor.specs.declared.acceptor.AsynchAcceptor.{AsynchAcceptor}
use Rattle.proactor.specs.declared.service.AioHandler.{AioHandler}
use Rattle.proactor.specs.declared.service.AioHandler.TheVariants.{Listen}
use Rattle.proactor.specs.declared.service.AioNote.{AioNote}
use Rattle.cmd_aio.specs.declared.ending.AioEnd.{AioEnd}
use Rattle.cmd_aio.specs.declared.ending.AioEnd.TheVariants as end

-- The terms of a run whose output tells these facts at the start, which bind the limit of its waits
-- so, or leave it open: 1,000 connections and the acceptor may be live. They leave open what the
-- host lays down.
abbrev pub terms_bound : Option (Option ℕ) → SinkFacts → Terms
terms_bound bound o = record (open_terms 1001) {
  limit = bound;
  opening = o.text;
  output_faults = Some o.faults;
}

-- those of the run: its waits have no limit of their own
abbrev pub aio_terms : SinkFacts → Terms
aio_terms o = terms_bound (Some None) o

-- what a net or an end keeps, whatever binds that limit
abbrev pub KeepsTerms : {S : Type 0} → (Terms → S → Type 0) → SinkFacts → S → Type 0
KeepsTerms keeps o s = (bound : Option (Option ℕ)) → keeps (terms_bound bound o) s

-- the registration of the acceptor, with reports to read and no others
abbrev pub first_entry : Entry AioNote
first_entry = Opened (record { 0 = 0 }) (mask_by false)

-- a reactor stands for nothing yet, and may take the acceptor, whatever binds that limit
pub record MayRegister {M Q W V E : Type 0} {G : Ghosts E}
    (m : Meaning (AioHandler E G) M Q W V AioNote E) (o : SinkFacts)
    (core : Core (AioHandler E G) M Q W V AioNote E) (acceptor : AsynchAcceptor E G) : Type 0 where
  pub stands : (bound : Option (Option ℕ)) → Stands m (terms_bound bound o) core 0 []
  pub fits : (bound : Option (Option ℕ))
      → m.means.fits (terms_bound bound o) None (Listen acceptor) []

-- it has the acceptor as its one handler, and did nothing yet
abbrev pub IsOpened : {H M Q W V E : Type 0} → Meaning H M Q W V AioNote E → SinkFacts
    → Core H M Q W V AioNote E → Type 0
IsOpened m o core =
    (bound : Option (Option ℕ)) → Stands m (terms_bound bound o) core 0 (first_entry ∷ [])

abbrev pub aio_refusal : RegisterRefused → AioEnd
aio_refusal register.NetFailed = end.NetFault
aio_refusal _ = end.NoMemory
