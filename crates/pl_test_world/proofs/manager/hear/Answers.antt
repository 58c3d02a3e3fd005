use Rattle.std.proofs.Common.{arith}
use Rattle.pl_world.proofs.Exports.{can_hear_each}
use Rattle.pl_test_world.proofs.Hearing.{heard_then}
use Rattle.pl_test_world.proofs.manager.hear.Goals as goal

pub hears-requires : goal.hears-requires
hears-requires g c =
    can_hear_each c.args.wiring.now (g.M.ManagerLogic.view c.args.manager.now) c.args.heard c.k-k.ensures.plan c.requires.within (let few = c.requires.few in omega (arith, few))
    c.args.switch.0 c.id.result c.id.ensures

pub returns : goal.returns
returns g c =
    heard_then c.hears.result g.M.ManagerLogic.rule g.met.M.ManagerLogic.answers c.args.wiring.now (g.M.ManagerLogic.view c.args.manager.now)
    (g.M.ManagerLogic.view c.hears.new.self) c.args.heard c.args.switch.0 c.id.result c.args.word.now c.args.done.now c.hears.new.out c.id.ensures c.requires.within
    c.hears.ensures.step
