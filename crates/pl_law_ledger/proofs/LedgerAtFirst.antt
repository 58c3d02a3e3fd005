-- At the beginning nothing is written down.
use Rattle.std.proofs.Common.{◌≡◌, ◌≤◌, true, List, [], length, Option, Some, option_map, ◌==◌, refl, sym, ap, subst, ◌∙◌, arith}
use Rattle.std.proofs.lemmas.Bool.{and_from, eq-eqb}
use Rattle.std.proofs.lemmas.Option.{none-some}
use Rattle.pl_lemmas.proofs.Exports.{from_map, replicated_empty, replicated_none}
use Rattle.pl_wiring.specs.declared.host.Host.{Host}
use Rattle.pl_wiring.specs.Plan.{Plan}
use Rattle.pl_node.specs.SwitchFacts.{switch_at_boot}
use Rattle.pl_node.specs.SwitchViews.{SwitchView}
use Rattle.pl_journal.specs.Places.{at_port, has_stood, is_at}
use Rattle.pl_node.specs.declared.switch_records.Grant.{Grant}
use Rattle.pl_node.specs.declared.switch_records.Source.{Source}
use Rattle.pl_switch_rule.specs.Granting.{granted, grants_at, remembered_at}
use Rattle.pl_world.specs.declared.limits.Limits.{Limits}
use Rattle.pl_world.specs.declared.attachment.AttachmentPoint.{AttachmentPoint}
use Rattle.pl_world.specs.Booting.{booted, first_attachment}
use Rattle.pl_law_ledger.specs.Ledgers.{IsLedger}

pub boot_ledger : (plan : Plan) (limits : Limits) → IsLedger (booted plan limits)
boot_ledger plan limits = record {
  grants = λ s v x g found is.
      let it = from_map (λ id. switch_at_boot id plan.k) plan.ids s v found in
      absurd (none-some g (subst (λ (u : SwitchView). granted u x ≡ Some g) (sym it.2) is));
  last = λ s v x g h found is used of.
      let it = from_map (λ id. switch_at_boot id plan.k) plan.ids s v found in
      absurd (none-some g (subst (λ (u : SwitchView). granted u x ≡ Some g) (sym it.2) is));
  backed = tt;
  few = λ s v port found.
      let it = from_map (λ id. switch_at_boot id plan.k) plan.ids s v found in
      subst (λ (u : SwitchView). length (grants_at u port) ≤ 65535) it.2
      (let none = ap (λ (gs : List Grant). length gs) (replicated_empty {X = Grant} plan.k port) in omega (arith, none));
  sources = λ s v port source found is.
      let it = from_map (λ id. switch_at_boot id plan.k) plan.ids s v found in
      absurd (none-some source (sym (replicated_none {X = Source} plan.k port) ∙ subst (λ (u : SwitchView). remembered_at u port ≡ Some source) (sym it.2) is));
  standing = λ h attachment is.
      let it = from_map first_attachment plan.hosts h attachment is in
      subst (λ (st : AttachmentPoint). has_stood plan [] h (at_port st.edge.0 st.port) ≡ true) it.2
      (ap (λ (o : Option Host). is_at (option_map (λ (q : Host). at_port q.edge.0 q.port) o) (at_port it.0.edge.0 it.0.port)) it.1
      ∙ and_from (it.0.edge.0 == it.0.edge.0) (it.0.port == it.0.port) (eq-eqb it.0.edge.0 it.0.edge.0 refl) (eq-eqb it.0.port it.0.port refl));
  numbers = λ x reg fits is. absurd (none-some reg is);
  numbered = λ n m is. absurd (none-some m is);
  most = omega arith;
}
