use Rattle.std.proofs.Common.{refl, sym, subst, ◌∙◌}
use Rattle.std.specs.List.{Contains}
use Rattle.reactor_summary.specs.ev_types.specs.declared.upcall.Handle.{Handle}
use Rattle.reactor_model.specs.reactor_journal.specs.declared.entry.Entry.TheVariants.{Opened}
use Rattle.reactor_model.specs.reactor_journal.specs.Past.{past_of}
use Rattle.reactor_summary.specs.Summary.{summary, step}
use Rattle.reactor_state.specs.State.{Shows}
use Rattle.reactor_core.proofs.Opened.{opened_on, not_attached, comes_back, handle_same}
use Rattle.reactor_core.proofs.Opened.{no_seat_yet}
use Rattle.reactor_core.proofs.WaitNumbers.{told_quiet}
use Rattle.reactor_core.proofs.reactor.Core.open_handler.Goals as goal

pub attach_to-requires-clause-absent : goal.attach_to-requires-clause-absent
attach_to-requires-clause-absent g c k =
    let o = c.requires.may in
    let tracks = o.3.tracks in
    not_attached o.0.most (past_of o.2) c.opened.result tracks.legal
    (sym (c.opened.ensures (summary (past_of o.2)) tracks.state))
    (subst (λ xs. Contains xs c.opened.result) tracks.net.attached k)

pub put-requires-clause-absent : goal.put-requires-clause-absent
put-requires-clause-absent g c =
    let o = c.requires.may in
    let tracks = o.3.tracks in
    no_seat_yet g.H.EventHandler.means o.0 o.0.most (past_of o.2) c.opened.result
    c.args.self.now.repo.entries tracks.legal
    (sym (c.opened.ensures (summary (past_of o.2)) tracks.state)) tracks.repository

pub returns-in-Err-clause-err : goal.returns-in-Err-clause-err
returns-in-Err-clause-err g c t F h o =
    comes_back _ t c.args.self.now _ F h _ c.in-Err.ensures.attaches.1 refl refl refl refl refl refl
    refl refl (c.attach_to.ensures.kept t _ _ o.tracks.keeps o.offered)
    (c.attach_to.ensures.fits t _ _ o.tracks.keeps o.offered) o.number o.tracks

pub returns-in-Err-clause-leaves : goal.returns-in-Err-clause-leaves
returns-in-Err-clause-leaves g c = (c.attach_to.ensures.fits, (c.in-Err.ensures.attaches.1, refl))

pub returns-clause-leaves : goal.returns-clause-leaves
returns-clause-leaves g c = c.in-Ok.ensures.attaches.1.failed_attaches

pub returns-clause-ok : goal.returns-clause-ok
returns-clause-ok g c t F h o = (
  sym (sym (c.opened.ensures (summary (past_of h)) o.tracks.state)),
  opened_on _ t c.args.self.now _ F h _ c.args.mask c.args.handler c.attach_to.new.self
      c.in-Ok.ensures.attaches.0 (record {
        appends = record {
          most = refl;
          first = refl;
          journal = c.append.ensures.entries;
          watch = c.append.ensures.watch;
          volumes = refl;
          marks = (refl, told_quiet _ _ _ c.in-Ok.ensures.attaches.1.calls (λ calls. refl));
        };
        repo = c.put.ensures.entries;
        state = λ s shows n. subst (λ (x : Handle).
            Shows g.Q.TimerQueue.timers c.open-opened.new.self
            (step {N = g.row.H-Note.Denot} s (Opened x c.args.mask)))
            (handle_same _ _ (c.open-opened.ensures.number s shows
            ∙ sym (c.opened.ensures s shows)))
            (c.open-opened.ensures.steps s shows n);
        number = c.opened.ensures;
        net = c.in-Ok.ensures.attaches.1;
        names = λ t past k. c.in-Ok.ensures.attaches.2 t _ _ k;
        fits = λ t past keeps k. c.attach_to.ensures.fits t _ _ keeps k;
        keeps = λ t past keeps k. c.attach_to.ensures.kept t _ _ keeps k;
      }) o.place o.number o.offered o.tracks,
)

pub returns-clause-room : goal.returns-clause-room
returns-clause-room g c = record {
  journal = c.append.ensures.spare;
  places = c.open-opened.ensures.places;
  seats = c.put.ensures.spare;
  net = c.in-Ok.ensures.attaches.1.spare;
}
