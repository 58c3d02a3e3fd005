use Rattle.std.proofs.Common.{◌∙◌, ap, subst, sym}
use Rattle.std.specs.List.{All}
use Rattle.std.specs.Ordering.{is_eq}
use Rattle.std.proofs.lemmas.Map.Views.{All-remove_key}
use Rattle.std.specs.Set.{remove_key}
use Rattle.pl_node.specs.declared.switch_records.Member.{Member}
use Rattle.pl_switch_rule.specs.Intake.{leaves, member_cmp}
use Rattle.pl_members.specs.Reached.{MemberIsAtPort}
use Rattle.pl_members.proofs.Removing.{removed_leaves}
use Rattle.pl_members.proofs.members.Members.leave.Goals as goal

pub invariant_of-self : goal.invariant_of-self
invariant_of-self c = record {
  rising = c.remove.ensures.ordered;
  at_ports = subst (All MemberIsAtPort) (sym c.remove.ensures.keys)
      (All-remove_key (λ m. is_eq (member_cmp c.new.result m)) MemberIsAtPort c.self.inside.members.keys c.self.invariant.at_ports);
}

pub returns : goal.returns
returns c =
    let left : Member = record { group = c.args.group; port = c.args.port; amac = c.args.amac } in
    c.remove.ensures.keys
    ∙ ap (λ x. remove_key (λ m. is_eq (member_cmp x m)) c.self.inside.members.keys) c.new.ensures.member
    ∙ removed_leaves left c.self.inside.members.keys c.new.ensures.amac c.self.invariant.at_ports c.self.invariant.rising
    ∙ ap (leaves c.args.port c.args.amac c.args.group) c.self.view_is
