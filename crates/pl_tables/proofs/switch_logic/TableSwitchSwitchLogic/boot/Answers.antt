use Rattle.std.proofs.Common.{◌≤◌, sym, ap, subst}
use Rattle.pl_node.specs.SwitchViews.{SwitchView}
use Rattle.pl_tables.proofs.Nothing.{nothing_follows}
use Rattle.pl_tables.proofs.switch_logic.TableSwitchSwitchLogic.boot.Goals as goal

pub invariant_of-result : goal.invariant_of-result
invariant_of-result c =
    nothing_follows c.in_ok-boot.field-0 c.no_leads.result c.empty.result c.no_leads.ensures (ap (λ (v : SwitchView). v.place) c.in_ok-boot.ensures)
    (subst (λ k. k ≤ 24) (sym (ap (λ (v : SwitchView). v.k) c.in_ok-boot.ensures)) c.requires.size.high) c.empty.ensures.up c.empty.ensures.avoided c.empty.ensures.down
