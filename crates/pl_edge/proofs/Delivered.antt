-- What is done by the address table with frames for this edge switch is done by the edge switch.
use Rattle.std.proofs.Common.{◌≡◌, ℕ, List, Option, Some, Result, Ok, Err, IfOk, OnOk, sym, ap, ◌∙◌, subst}
use Rattle.pl_node.specs.declared.acts.Act.{Act}
use Rattle.pl_node.specs.declared.switch_records.Grant.{Grant}
use Rattle.pl_node.specs.declared.switch_records.Member.{Member}
use Rattle.pl_node.specs.declared.switch_records.Source.{Source}
use Rattle.pl_node.specs.declared.trap.Trap.{Trap}
use Rattle.pl_node.specs.SwitchViews.{SwitchView}
use Rattle.pl_delivery.proofs.Exports.{invalidated}
use Rattle.pl_delivery.specs.declared.sent.Sent.{Sent}
use Rattle.pl_delivery.specs.Sending.{IsSentBy, left_to_do, makes_any}
use Rattle.pl_migrate.specs.AddressTables.{AddressTableView, address_table_in, traps}
use Rattle.pl_pmac.specs.declared.pmac.Pmac.{Pmac}
use Rattle.pl_steps.specs.Steps.{SwitchStep}
use Rattle.pl_steps.specs.Taken.{IsTaken, IsTakenUpTo}
use Rattle.pl_switch_rule.specs.Delivering.{destination, tells_sender, trap_for}
use Rattle.pl_switch_rule.specs.Forwarding.{Choice}
use Rattle.pl_switch_rule.specs.Granting.{held_here}
use Rattle.pl_switch_rule.specs.Messages.{forgets_members, invalidates, probes}
use Rattle.pl_edge.specs.EdgeViews.{EdgeView, edge_in, MayBeAt}
use Rattle.pl_edge.proofs.Placing.{edge_of}

module _ (edge : EdgeView) (k : ℕ) (address_table : AddressTableView) (remembered : List (Option Source)) (members : List Member)
    (is : edge_of k (Some address_table) remembered members ≡ edge) where
  abbrev with_rest : SwitchView → SwitchView
  with_rest v = record v { remembered = remembered; members = members }

  pub sent_by : {E : Type 0} (row : Choice → SwitchView → SwitchStep) (out told : List Act) (result : Result Sent E) →
      IfOk result (IsSentBy row address_table out told) →
      IfOk result (λ sent. (choose : Choice) (v : SwitchView) → MayBeAt edge.address_table v.place →
      IsTakenUpTo (left_to_do choose sent (edge_in edge v)) (row choose (edge_in edge v)) out told)
  sent_by row out told (Err e) h = h
  sent_by row out told (Ok sent) h = λ choose v may.
      subst (λ (e : EdgeView). IsTakenUpTo (left_to_do choose sent (edge_in e v)) (row choose (edge_in e v)) out told) is (h choose (with_rest v))

  pub replied : {E : Type 0} (frame : List ℕ) (result : Result (Option (List ℕ)) E) →
      IfOk result (λ reply. (choose : Choice) (v : SwitchView) → makes_any choose reply (address_table_in address_table v)
      ≡ tells_sender choose frame (trap_for (address_table_in address_table v) (destination frame)) (address_table_in address_table v)) →
      IfOk result (λ reply. (choose : Choice) (v : SwitchView) → MayBeAt edge.address_table v.place → makes_any choose reply (edge_in edge v)
      ≡ tells_sender choose frame (trap_for (edge_in edge v) (destination frame)) (edge_in edge v))
  replied frame (Err e) h = h
  replied frame (Ok reply) h = λ choose v may.
      subst (λ (e : EdgeView). makes_any choose reply (edge_in e v) ≡ tells_sender choose frame (trap_for (edge_in e v) (destination frame)) (edge_in e v)) is (h choose (with_rest v))

-- a trap is set, then memberships are forgotten, and then the host is probed
pub three_parts : (edge set after : EdgeView) (old : Pmac) (trap : Trap) (grant : Grant) (at : Option Grant) (out between told : List Act) (v : SwitchView) →
    at ≡ Some grant → at ≡ held_here (edge_in edge v) old → edge_in set v ≡ traps (edge_in edge v) old trap at →
    IsTaken (forgets_members old.port grant.amac (edge_in set v)) (edge_in after v) out between →
    IsTaken (probes old grant (edge_in after v)) (edge_in after v) between told →
    IsTaken (invalidates (edge_in edge v) old trap (held_here (edge_in edge v) old)) (edge_in after v) out told
three_parts edge set after old trap grant at out between told v is_some is_granted is_set forgotten probed =
    subst (λ (g : Option Grant). IsTaken (invalidates (edge_in edge v) old trap g) (edge_in after v) out told) (sym is_some ∙ is_granted)
    (invalidated (edge_in edge v) (edge_in after v) old trap grant out between told
    (subst (λ (w : SwitchView). IsTaken (forgets_members old.port grant.amac w) (edge_in after v) out between)
    (is_set ∙ ap (traps (edge_in edge v) old trap) is_some) forgotten)
    probed)

pub on_ok : {T E : Type 0} {P Q : Type 0} (result : Result T E) → (P → Q) → OnOk result P → OnOk result Q
on_ok (Err e) f h = h
on_ok (Ok x) f h = f h
