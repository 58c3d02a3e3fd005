use Rattle.std.proofs.Common.{◌∙◌, ap, slice_get, sym}
use Rattle.pl_world_parts.proofs.Exports.{can_hear, manager_moved}
use Rattle.pl_schedule.proofs.world.World.manager_hears.Goals as goal

pub hears-requires : goal.hears-requires
hears-requires g c = can_hear _ c.args.self.now c.args.s.0 c.id-id.result c.self.view_is c.requires.hears
    (ap (λ plan. slice_get plan.ids c.args.s.0) (sym c.wiring.ensures) ∙ c.id-id.ensures)

pub returns : goal.returns
returns g c = manager_moved g.M.ManagerLogic.rule _ c.args.self.now c.args.s.0 c.args.told.now c.id-id.result (g.M.ManagerLogic.view c.hears.new.self)
    c.new-acts.result c.hears.new.out c.manager_does.new.self c.self.view_is c.new-acts.ensures
    (ap (λ plan. slice_get plan.ids c.args.s.0) (sym c.wiring.ensures) ∙ c.id-id.ensures) c.in_ok-hears.ensures.step
    c.in_ok-manager_does.ensures
