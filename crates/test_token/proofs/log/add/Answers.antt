use Rattle.std.proofs.Common.{◌≡◌, ◌∙◌, ap, arith, None}
use Rattle.leader_token.specs.Words.{view_of}
use Rattle.leader_token.specs.Lists.{is_event}
use Rattle.leader_token.proofs.Told.{mine_is}
use Rattle.test_token.proofs.log.add.Goals as goal

pub returns-clause-free : goal.returns-clause-free
returns-clause-free g c =
    let put = c.put.ensures.put in
    let had : (view_of c.get-held.new.pass).mine ≡ None =
    ap (λ v. v.mine) c.get-held.ensures.got.view ∙ c.requires.free.1 in (
      ap (λ v. v.base) put.view,
      ap (λ v. v.mine) put.view
          ∙ mine_is put.may.mine None (λ e. omega (arith, put.may.events e, ap (is_event e) had)),
    )
