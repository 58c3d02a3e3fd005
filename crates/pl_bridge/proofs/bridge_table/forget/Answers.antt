use Rattle.std.proofs.Common.{◌≡◌, ◌∙◌, ap, subst, sym, arith}
use Rattle.std.specs.List.{All}
use Rattle.std.specs.List.Sorted.{IsStrictlySortedBy}
use Rattle.std.specs.Ordering.{is_eq}
use Rattle.std.specs.Set.{remove_key}
use Rattle.std.proofs.lemmas.Map.Views.{All-remove_key}
use Rattle.pl_switch_rule.specs.Intake.{member_cmp}
use Rattle.pl_members.specs.Reached.{MemberIsAtPort}
use Rattle.pl_bridge_rule.specs.BridgeRule.{table_entry}
use Rattle.pl_bridge.proofs.Entries.{without, without_all, without_more, without_none}
use Rattle.pl_bridge.proofs.bridge_table.forget.Goals as goal

pub loop-port-init : goal.loop-port-init
loop-port-init c = record { keys = without_none c.args.mac c.args.learnt.now.keys; at_ports = c.requires }

pub loop-port-preserved : goal.loop-port-preserved
loop-port-preserved c =
    let before = c.loop-port.invariant in
    record {
      keys = c.remove.ensures.keys
          ∙ ap (λ x. remove_key (λ m. is_eq (member_cmp x m)) c.loop-port.learnt.keys) c.entry.ensures.entry
          ∙ ap (remove_key (λ m. is_eq (member_cmp (table_entry c.loop-port.port c.args.mac) m))) before.keys
          ∙ without_more c.loop-port.port c.args.mac c.args.learnt.now.keys c.entry.ensures.mac (subst (All MemberIsAtPort) before.keys before.at_ports.at_ports)
          (subst (IsStrictlySortedBy member_cmp) before.keys before.at_ports.rising);
      at_ports = record {
        rising = c.remove.ensures.ordered;
        at_ports = subst (All MemberIsAtPort) (sym c.remove.ensures.keys)
            (All-remove_key (λ m. is_eq (member_cmp c.entry.result m)) MemberIsAtPort c.loop-port.learnt.keys before.at_ports.at_ports);
      };
    }

pub returns-clause-keys : goal.returns-clause-keys
returns-clause-keys c =
    let all : c.loop-port.port ≡ 24 = omega arith in
    c.loop-port.invariant.keys ∙ ap (λ n. without n c.args.mac c.args.learnt.now.keys) all ∙ without_all c.args.mac c.args.learnt.now.keys c.requires.at_ports
