use Rattle.std.proofs.Common.{◌||◌, ◌∙◌, ap, sym}
use Rattle.std.specs.List.{list_any}
use Rattle.pl_node.specs.ManagerViews.{Learnt}
use Rattle.pl_manager_rule.specs.Reports.{is_known_led_to, is_known_trapped_to}
use Rattle.pl_registry.proofs.Releasing.{led_known}
use Rattle.pl_registry.proofs.registry.Registry.is_led_to.Goals as goal

pub returns-then-is_led_to : goal.returns-then-is_led_to
returns-then-is_led_to c =
    let learnt : Learnt = record { addresses = c.self.inside.addresses; reported = c.self.inside.reported; owners = c.self.inside.owners; count = c.self.inside.count } in
    c.if-is_led_to.true ∙ ap (λ b. b || list_any (is_known_trapped_to c.args.pmac) learnt.reported) (sym c.if-is_led_to.true ∙ c.is_led_to.ensures)
    ∙ led_known learnt c.args.pmac ∙ ap (λ (l : Learnt). is_known_led_to l c.args.pmac) c.self.view_is

pub returns-else-is_led_to : goal.returns-else-is_led_to
returns-else-is_led_to c =
    let learnt : Learnt = record { addresses = c.self.inside.addresses; reported = c.self.inside.reported; owners = c.self.inside.owners; count = c.self.inside.count } in
    c.is_led_to-else-is_led_to.ensures
    ∙ ap (λ b. b || list_any (is_known_trapped_to c.args.pmac) learnt.reported) (sym c.if-is_led_to.false ∙ c.is_led_to.ensures)
    ∙ led_known learnt c.args.pmac ∙ ap (λ (l : Learnt). is_known_led_to l c.args.pmac) c.self.view_is
