use Rattle.std.proofs.Common.{◌≡◌, true, false, refl}
use Rattle.std.proofs.lemmas.Bool.{false≢true}
use Rattle.log_handler.specs.declared.note.ServerNote.{ServerNote}
use Rattle.log_handler.specs.declared.note.ServerNote.TheVariants.{Accepted, NoneWaiting}
use Rattle.log_handler.specs.declared.note.ServerNote.TheVariants.{ListenerFailed, ListenerShut}
use Rattle.log_handler.specs.declared.note.ServerNote.TheVariants.{Piece, Finished}
use Rattle.log_handler.specs.Notes.{is_piece}
use Rattle.acceptor.specs.Servers.{is_accepted}
use Rattle.acceptor.proofs.server.talked.Goals as goal

-- a note of what was taken is no `Accepted`
never_accepted : (said : ServerNote) → is_piece said ≡ true → is_accepted said ≡ false
never_accepted (Accepted conn) piece = absurd (false≢true piece)
never_accepted NoneWaiting piece = refl
never_accepted ListenerFailed piece = refl
never_accepted ListenerShut piece = refl
never_accepted (Piece conn took records) piece = refl
never_accepted (Finished conn end) piece = refl

pub returns-clause-never : goal.returns-clause-never
returns-clause-never g c = never_accepted c.args.turn.note c.requires.piece
