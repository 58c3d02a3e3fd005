use Rattle.std.proofs.Common.{[], ◌∷◌, ap, ◌∙◌, subst}
use Rattle.pl_world.specs.declared.event.Event.{Event}
use Rattle.pl_script_rule.specs.Lines.{Happen}
use Rattle.pl_script_rule.specs.Queues.{loss}
use Rattle.pl_script_rule.specs.Scenes.{Ends}
use Rattle.pl_player.proofs.player.Player.lose.Goals as goal

pub returns-clause-does : goal.returns-clause-does
returns-clause-does g c =
    subst (λ (e : Event). Ends c.happen.result (λ end. Happen g.S.SwitchLogic.rule g.M.ManagerLogic.rule g.H.HostLogic.rule (e ∷ []) c.args.self.now end c.happen.new.self))
    (c.loss-event.ensures ∙ ap (loss c.args.a) c.port_towards.ensures) c.happen.ensures.does
