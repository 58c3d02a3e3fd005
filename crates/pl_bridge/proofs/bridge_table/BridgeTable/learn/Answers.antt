use Rattle.std.proofs.Common.{subst, sym}
use Rattle.std.specs.List.{All}
use Rattle.std.proofs.lemmas.Map.Views.{All-insert_key}
use Rattle.pl_switch_rule.specs.Intake.{member_cmp}
use Rattle.pl_members.specs.Reached.{MemberIsAtPort}
use Rattle.pl_bridge.proofs.bridge_table.BridgeTable.learn.Goals as goal

pub invariant_of-self-2 : goal.invariant_of-self-2
invariant_of-self-2 c = record {
  rising = c.insert.ensures.ordered;
  at_ports = subst (All MemberIsAtPort) (sym c.in_ok-insert.ensures.keys)
      (All-insert_key member_cmp c.entry.result MemberIsAtPort c.forget.new.learnt.keys c.forget.ensures.at_ports.at_ports
      (subst MemberIsAtPort (sym c.entry.ensures.entry) (record { port = c.requires; amac = c.entry.ensures.mac })));
}
