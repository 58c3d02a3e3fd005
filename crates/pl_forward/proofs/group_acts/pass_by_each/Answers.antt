use Rattle.std.proofs.Common.{◌≡◌, ◌==◌, ◌++◌, map, subst, ap, ◌∙◌}
use Rattle.std.specs.List.{list_any}
use Rattle.std.specs.Prelude.{OnOk}
use Rattle.pl_node.specs.declared.acts.Act.TheVariants.{Pass}
use Rattle.pl_lists.specs.Ports.{ports_of}
use Rattle.pl_forward.proofs.Passing.{contained_ports}
use Rattle.pl_forward.proofs.group_acts.pass_by_each.Goals as goal

pub returns : goal.returns
returns c =
    subst (λ acts. OnOk c.tell_at_each_port.result (c.tell_at_each_port.new.out ≡ c.args.out.now ++ acts))
    (c.one_act_where.ensures (λ port. list_any (λ p. p == port) (ports_of c.args.ports)) (λ port. Pass port c.args.frame.now) 32
    ∙ ap (map (λ port. Pass port c.args.frame.now)) (contained_ports c.args.ports))
    c.tell_at_each_port.ensures
