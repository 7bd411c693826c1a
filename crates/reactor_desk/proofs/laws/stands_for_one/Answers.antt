use Rattle.reactor_desk.proofs.Left.{only_one}
use Rattle.reactor_desk.proofs.laws.stands_for_one.Goals as goal

pub returns : goal.returns
returns g c q base one other n F desk within a b x y =
    only_one _ q base one other n F desk within a b x y
