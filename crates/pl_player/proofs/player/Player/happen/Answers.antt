use Rattle.std.proofs.lemmas.Result.{err_from_is_err_and}
use Rattle.std.proofs.Common.{[], ◌∷◌, None, refl}
use Rattle.pl_world.specs.Worlds.{WorldView}
use Rattle.pl_fabric.specs.Executions.{Makes, MakesAll, Stays}
use Rattle.pl_fabric.proofs.Exports.{then_on, then_stops, unless_weaker}
use Rattle.pl_player.proofs.Stops.{world_ends, world_stops}
use Rattle.pl_player.proofs.player.Player.happen.Goals as goal

pub returns-in_err-make-clause-does : goal.returns-in_err-make-clause-does
returns-in_err-make-clause-does g c =
    let p = err_from_is_err_and c.from_residual.result c.from_residual.ensures.1 in
    world_stops (λ (w : WorldView). MakesAll g.S.SwitchLogic.rule g.M.ManagerLogic.rule g.H.HostLogic.rule (c.args.event.now ∷ [])) c.args.self.now c.self.inside.world c.make.new.world c.self.inside.asked.items c.self.view_is
    c.from_residual.result c.in_err-make.field-0.0 p.0 p.1 p.2
    (unless_weaker c.in_err-make.field-0.0 _ _ (then_stops (Makes g.S.SwitchLogic.rule g.M.ManagerLogic.rule g.H.HostLogic.rule c.args.event.now) Stays c.self.inside.world c.make.new.world c.in_err-make.field-0.0) c.in_err-make.ensures.made)

pub returns-clause-does : goal.returns-clause-does
returns-clause-does g c =
    world_ends (λ (w : WorldView). MakesAll g.S.SwitchLogic.rule g.M.ManagerLogic.rule g.H.HostLogic.rule (c.args.event.now ∷ [])) c.args.self.now c.self.inside.world c.make.new.world c.self.inside.asked.items c.self.view_is
    (then_on (Makes g.S.SwitchLogic.rule g.M.ManagerLogic.rule g.H.HostLogic.rule c.args.event.now) Stays c.self.inside.world c.make.new.world None c.make.new.world c.in_ok-make.ensures.made (refl, refl))
