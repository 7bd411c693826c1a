use Rattle.std.proofs.Common.{[], None, refl}
use Rattle.connector_run.proofs.Beginning.{caused, idle_none, not_own, refused_for}
use Rattle.connector_run.proofs.Beginning.{registered_first}
use Rattle.connector_run.proofs.Beginning.{took_none}
use Rattle.connector_run.proofs.opening.register.Goals as goal

pub register-requires-clause-stands : goal.register-requires-clause-stands
register-requires-clause-stands g c =
    let r = c.requires.may in
    (r.0, 0, [], r.2.stands, r.2.fits)

pub refusal-requires : goal.refusal-requires
refusal-requires g c =
    let r = c.requires.may in
    (refused_for _ r.0 r.2.terms c.args.wait c.args.core c.register.new.self _ c.in-Err.refused
    (c.in-Err.ensures.stands r.0 0 [] r.2.stands r.2.fits)).0

pub close-requires : goal.close-requires
close-requires g c =
    let r = c.requires.may in
    idle_none _ r.0 r.2.terms c.register.new.self r.1
    (refused_for _ r.0 r.2.terms c.args.wait c.args.core c.register.new.self _ c.in-Err.refused
    (c.in-Err.ensures.stands r.0 0 [] r.2.stands r.2.fits)).1.stands

pub returns-in-Ok-clause-opened : goal.returns-in-Ok-clause-opened
returns-in-Ok-clause-opened g c = λ t may.
    let given = c.in-Ok.ensures.stands t 0 [] may.stands may.fits in
    registered_first _ t may.terms c.register.new.self c.in-Ok.field-0 c.args.wait given.1 given.2

pub returns-in-Err-clause-unopened : goal.returns-in-Err-clause-unopened
returns-in-Err-clause-unopened g c = λ t may.
    let r = refused_for _ t may.terms c.args.wait c.args.core c.register.new.self _ c.in-Err.refused
    (c.in-Err.ensures.stands t 0 [] may.stands may.fits) in
    let n = took_none _ _ t _ (c.close.ensures.from t 0 [] r.1.stands refl) in
    record {
      retired = n.retired;
      turned_away = n.turned_away;
      none_asked = n.none_asked;
      kept = n.kept;
      said = _;
      unused = c.handle_close-end.ensures.gone t None [] (λ own. not_own own) r.1.offered;
    }

pub returns-in-Err-clause-cause : goal.returns-in-Err-clause-cause
returns-in-Err-clause-cause g c =
    let r = c.requires.may in
    caused c.refusal.result _ _ _ _ c.refusal.ensures c.close.ensures.attaches
    (refused_for _ r.0 r.2.terms c.args.wait c.args.core c.register.new.self _ c.in-Err.refused
    (c.in-Err.ensures.stands r.0 0 [] r.2.stands r.2.fits)).2
