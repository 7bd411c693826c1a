use Rattle.std.proofs.Common.{refl, sym, ◌∙◌, ◌≡◌, true}
use Rattle.reactor_model.specs.reactor_journal.specs.Past.{past_of}
use Rattle.reactor_model.specs.reactor_journal.specs.Follow.{follows_due, follows_ready}
use Rattle.reactor_model.specs.reactor_journal.specs.declared.entry.Entry.TheVariants.{Masked}
use Rattle.reactor_summary.specs.Summary.{summary, is_alive}
use Rattle.reactor_state.specs.State.{HasNumber, no_places}
use Rattle.reactor_state.proofs.Fewer.{has_fewer}
use Rattle.reactor_core.specs.Settling.{act_places}
use Rattle.reactor_core.proofs.Quiet.{goes_on, has_number}
use Rattle.reactor_core.proofs.Masking.{alive_attached, masked_follows, net_set}
use Rattle.reactor_core.proofs.Registered.{plain_of}
use Rattle.reactor_core.proofs.Acted.{room_for_one, masked_not, masked_so}
use Rattle.reactor_core.proofs.WaitNumbers.{told_quiet}
use Rattle.reactor_core.proofs.reactor.Core.mask_mine.Goals as goal

pub returns-then-not-is_alive-clause-stands : goal.returns-then-not-is_alive-clause-stands
returns-then-not-is_alive-clause-stands g c t F h st =
    masked_not _ t c.args.self.now F h c.args.handle c.args.mask _
    (sym (c.is_alive.ensures (summary (past_of h)) st.tracks.state) ∙ c.if-not-is_alive.true)
    (plain_of _ (has_fewer g.Q.TimerQueue.spare) 4 act_places t c.args.self.now F h st)

pub set_mask-requires : goal.set_mask-requires
set_mask-requires g c =
    let o = c.requires.stands in
    alive_attached _ o.0 c.args.self.now o.1 o.2 c.args.handle.0 o.3.tracks
    (sym (c.is_alive.ensures (summary (past_of o.2)) o.3.tracks.state)
    ∙ c.if-not-is_alive.false)

pub returns-clause-stands : goal.returns-clause-stands
returns-clause-stands g c t F h st =
    let alive : is_alive (summary (past_of h)) c.args.handle.0 ≡ true =
    sym (c.is_alive.ensures (summary (past_of h)) st.tracks.state) ∙ c.if-not-is_alive.false in
    let room = room_for_one _ (has_fewer g.Q.TimerQueue.spare) c.args.self.now (summary (past_of h))
    st.room in
    masked_so _ t _ F h c.args.handle c.args.mask _ alive
    (goes_on _ t c.args.self.now _ F h (Masked c.args.handle c.args.mask) no_places HasNumber
    refl (record {
      appends = record {
        most = refl;
        first = refl;
        journal = c.append.ensures.entries;
        watch = c.append.ensures.watch;
        volumes = refl;
        marks = (refl, told_quiet _ _ _ c.set_mask.ensures.sets.calls (λ calls. refl));
      };
      spare = c.append.ensures.spare;
      repo = refl;
      state = c.set_mask-2.ensures.steps;
      places = λ n p. c.set_mask-2.ensures.places _ p;
    }) (net_set _ t c.args.self.now _ F h c.args.handle c.args.mask c.set_mask.ensures.sets
    c.set_mask.ensures.kept st.tracks)
    (masked_follows g.row.H-Note.Denot t.most (follows_due (past_of h)) (follows_ready (past_of h))
    (summary (past_of h)) c.args.handle c.args.mask st.settled alive)
    (λ legal. st.settled.none_due)
    (has_number _ _ _ _ room)
    room (plain_of _ (has_fewer g.Q.TimerQueue.spare) 4 act_places t c.args.self.now F h st))
