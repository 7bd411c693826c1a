use Rattle.laws_script_calls.proofs.Leaving as leaving
use Rattle.laws_script_calls.proofs.laws.ends_tell.Goals as goal

pub returns : goal.returns
returns g c t steps idle most journal retired turned have server whole x y =
    leaving.ends_tell {H = g.row.H.Denot} g.H.EventHandler.means _ _ t steps idle have server most
    journal retired turned whole x y
