-- At each kind of place in a settled fabric a frame has ports by which it goes on.
use Rattle.std.proofs.Common.{◌≡◌, ℕ, Bool, true, false, refl, ap, ◌∙◌}
use Rattle.pl_pmac.specs.declared.pmac.Pmac.{Pmac}
use Rattle.pl_node.specs.SwitchViews.{SwitchView}
use Rattle.pl_switch_rule.specs.declared.came.Came.TheVariants.{FromAbove, FromBelow, FromHost}
use Rattle.pl_switch_rule.specs.Granting.{is_local}
use Rattle.pl_world.specs.Worlds.{WorldView}
use Rattle.pl_fabric.specs.Settled.{IsSettled}
use Rattle.pl_law_control_plane.specs.ControlPlanes.{control_plane}
use Rattle.pl_law_arrival.specs.Orderly.{IsOrderlyWorld}
use Rattle.pl_law_arrival.specs.Reach.{Reaches}
use Rattle.pl_law_addresses.specs.Registered.{IsRegisteredBy}
use Rattle.pl_law_arrival.specs.Ways.{HasPortOn, IsOfOtherPod, IsLast, IsTop, LeadsDown, fabric_of}
use Rattle.pl_law_arrival.proofs.Grounds.{ready}
use Rattle.pl_law_arrival.proofs.Ready.{Ready, edge_is, home, net, one_edge}
use Rattle.pl_law_arrival.proofs.RowsSendOn.{edge_goes_on, first_goes_on, last_goes_down, last_goes_up_and_down, top_goes_on}
use Rattle.pl_law_arrival.proofs.Starting.{starts}

pub from_edge : (w : WorldView) (h g : ℕ) (x : Pmac) → IsOrderlyWorld w → IsSettled w → (reach : Reaches w h g x) → (reach.from.1.attachment.edge.0 ≡ reach.to.attachment.edge.0 → ⊥) →
    HasPortOn (fabric_of w) ((control_plane w).view reach.from.1.attachment.edge.0) reach.from.1.attachment.edge.0 x FromHost (LeadsDown (fabric_of w) x.pod reach.to.attachment.edge.0)
from_edge w h g x order settled reach differ =
    let r = ready w order settled in
    let from = reach.from.1 in
    let s = from.attachment.edge.0 in
    let t = reach.to.attachment.edge.0 in
    let own = home w r h reach.from.0 from in
    let goal = home w r g x reach.to in
    let first = starts (net w) r.calm x t goal s reach.from.0.pod own.level own.pod reach.to.attachment.edge reach.path from.attachment.edge refl refl differ reach.adjacent in
    edge_goes_on (net w) r.calm x t goal s reach.from.0.pod first.0 own.level own.pod (elsewhere r (is_local from.edge x) refl) first.1 first.2
  where
    elsewhere : (r : Ready w) (b : Bool) → is_local reach.from.1.edge x ≡ b → is_local ((control_plane w).view reach.from.1.attachment.edge.0) x ≡ false
    elsewhere r true e = absurd (differ (one_edge w r g x reach.to reach.from.1.attachment.edge.0 reach.from.1.edge reach.from.1.there e))
    elsewhere r false e = ap (λ (v : SwitchView). is_local v x) (edge_is w r h reach.from.0 reach.from.1) ∙ e

module _ (w : WorldView) (g : ℕ) (x : Pmac) (order : IsOrderlyWorld w) (settled : IsSettled w) (to : IsRegisteredBy w g x) (s : ℕ) where
  pub up : IsOfOtherPod (fabric_of w) x.pod to.attachment.edge.0 s → HasPortOn (fabric_of w) ((control_plane w).view s) s x FromBelow (IsTop (fabric_of w) x.pod to.attachment.edge.0)
  up first = let r = ready w order settled in first_goes_on (net w) r.calm x to.attachment.edge.0 (home w r g x to) s first

  pub within : IsLast (fabric_of w) x.pod to.attachment.edge.0 s → HasPortOn (fabric_of w) ((control_plane w).view s) s x FromBelow (λ t. t ≡ to.attachment.edge.0)
  within last = let r = ready w order settled in last_goes_up_and_down (net w) r.calm x to.attachment.edge.0 (home w r g x to) s last

  pub down : IsLast (fabric_of w) x.pod to.attachment.edge.0 s → HasPortOn (fabric_of w) ((control_plane w).view s) s x FromAbove (λ t. t ≡ to.attachment.edge.0)
  down last = let r = ready w order settled in last_goes_down (net w) r.calm x to.attachment.edge.0 (home w r g x to) s last

  pub from_core : IsTop (fabric_of w) x.pod to.attachment.edge.0 s → HasPortOn (fabric_of w) ((control_plane w).view s) s x FromBelow (IsLast (fabric_of w) x.pod to.attachment.edge.0)
  from_core top = let r = ready w order settled in top_goes_on (net w) r.calm x to.attachment.edge.0 (home w r g x to) s top
