-- A way of switches, and the port by which a frame goes on from each of them.
use Rattle.std.proofs.Common.{◌≡◌, ℕ, ◌<◌, ◌&&◌, not, false, List, [], ◌∷◌, ◌++◌, map, reverse, length, Some, slice_get, refl, sym, ap, ◌∙◌, subst}
use Rattle.std.proofs.lemmas.List.{append_assoc, reverse-append}
use Rattle.std.proofs.lemmas.Option.{slice_get_within}
use Rattle.pl_frame.specs.declared.address.Mac.{Mac}
use Rattle.pl_wiring.specs.declared.label.Label.{Label}
use Rattle.pl_wiring.specs.declared.label.SwitchNo.{SwitchNo}
use Rattle.pl_wiring.specs.declared.link.Peer.{Peer}
use Rattle.pl_wiring.specs.declared.link.Peer.TheVariants.{HostPort, Switch}
use Rattle.pl_wiring.specs.Index.{port_index}
use Rattle.pl_wiring.specs.Labels.{switch_count}
use Rattle.pl_wiring.specs.LiveLinks.{is_live_at}
use Rattle.pl_wiring.specs.Peers.{IsPort, peer_of}
use Rattle.pl_wiring.specs.Plan.{IsPlan, Plan}
use Rattle.pl_wiring.proofs.Exports.{port_index-below}
use Rattle.pl_journal.specs.Places.{is_host_port}
use Rattle.pl_world.specs.declared.attachment.AttachmentPoint.{AttachmentPoint}
use Rattle.pl_world.specs.Changes.{is_failed_at}
use Rattle.pl_world.specs.Flying.{IsCounted, IsTreePort}
use Rattle.pl_world.specs.Worlds.{WorldView}
use Rattle.pl_world.proofs.Exports.{all_found, peer_is_port}
use Rattle.pl_bridge_rule.specs.Tree.{IsWay}
use Rattle.pl_law_bridge.specs.ExactWay.{LeadsBy}
use Rattle.pl_law_bridge.specs.Learnt.{HasAt}
use Rattle.pl_law_bridge.proofs.StandingApart.{IsAtHostPort, StandApart}
use Rattle.pl_law_counts.proofs.Exports.{one_port, peer_back}

-- the switches that were crossed, the last one first, before those that are ahead
abbrev pub onto : List SwitchNo → List SwitchNo → List SwitchNo
onto [] ahead = ahead
onto (s ∷ back) ahead = onto back (s ∷ ahead)

abbrev pub numbers : List SwitchNo → List ℕ
numbers switches = map (λ (s : SwitchNo). s.0) switches

pub leads_behind : (w : WorldView) (mac : Mac) (to : AttachmentPoint) (back : List SwitchNo) (t : SwitchNo) (ahead : List SwitchNo) →
    LeadsBy w mac to (onto back (t ∷ ahead)) → LeadsBy w mac to (t ∷ ahead)
leads_behind w mac to [] t ahead leads = leads
leads_behind w mac to (s ∷ back) t ahead leads = (leads_behind w mac to back s (t ∷ ahead) leads).1

way_further : (a : Label) (labels : List Label) → IsWay (a ∷ labels) → IsWay labels
way_further a [] way = tt
way_further a (b ∷ []) way = tt
way_further a (b ∷ c ∷ labels) way = way.1.1

pub way_behind : (f : SwitchNo → Label) (back ahead : List SwitchNo) → IsWay (map f (onto back ahead)) → IsWay (map f ahead)
way_behind f [] ahead way = way
way_behind f (s ∷ back) ahead way = way_further (f s) (map f ahead) (way_behind f back (s ∷ ahead) way)

-- once nothing is ahead the line of crossings is the way in reverse
pub onto_numbers : (back ahead : List SwitchNo) → numbers (onto back ahead) ≡ reverse (numbers back) ++ numbers ahead
onto_numbers [] ahead = refl
onto_numbers (s ∷ back) ahead =
    onto_numbers back (s ∷ ahead) ∙ sym (append_assoc (reverse (numbers back)) (s.0 ∷ []) (numbers ahead))
    ∙ sym (ap (λ l. l ++ numbers ahead) (reverse-append (s.0 ∷ []) (numbers back)))

-- ---- the port by which it goes on
abbrev pub IsHop : Plan → AttachmentPoint → SwitchNo → List SwitchNo → ℕ → Type 0
IsHop plan to s [] port = (s ≡ to.edge) × (port ≡ to.port)
IsHop plan to s (t ∷ ahead) port = (q : ℕ) × (peer_of plan s.0 port ≡ Switch t q)

pub same_hop : (plan : Plan) → IsPlan plan → (to : AttachmentPoint) (s : SwitchNo) (ahead : List SwitchNo) (p r : ℕ) → IsHop plan to s ahead p → IsHop plan to s ahead r → p ≡ r
same_hop plan is to s [] p r one other = one.1 ∙ sym other.1
same_hop plan is to s (t ∷ ahead) p r one other = one_port plan is s.0 p r one.0 other.0 t t one.1 other.1 refl

-- at this moment the switch has the address there, and the port is not failed
pub record Hop (w : WorldView) (mac : Mac) (to : AttachmentPoint) (s : SwitchNo) (ahead : List SwitchNo) : Type 0 where
  pub port : ℕ
  pub is : IsHop w.plan to s ahead port
  pub learnt : HasAt w mac s port
  pub fine : is_failed_at w s.0 port ≡ false
  pub within : port < w.plan.k
  pub place : port_index w.plan.k s.0 port < length w.out

module _ (w : WorldView) (counted : IsCounted w) (mac : Mac) where
  has_switch : (s : SwitchNo) (port : ℕ) → HasAt w mac s port → s.0 < switch_count w.plan.k
  has_switch s port has = subst (λ n. s.0 < n) counted.formed.switches (slice_get_within w.switches s.0 has.view has.found)

  has_place : (s : SwitchNo) (port : ℕ) → HasAt w mac s port → port < w.plan.k → port_index w.plan.k s.0 port < length w.out
  has_place s port has within = subst (λ n. port_index w.plan.k s.0 port < n) (sym counted.formed.out) (port_index-below w.plan.k s.0 port (switch_count w.plan.k) (has_switch s port has) within)

  pub hop : (to : AttachmentPoint) (g : ℕ) → slice_get w.attachments g ≡ Some to → StandApart w → (s : SwitchNo) (ahead : List SwitchNo) → LeadsBy w mac to (s ∷ ahead) → Hop w mac to s ahead
  hop to g found stand s [] leads =
      let free : peer_of w.plan to.edge.0 to.port ≡ HostPort = all_found (IsAtHostPort w.plan) w.attachments g to found stand.at_ports in
      let at : IsTreePort w.plan.k to = all_found (IsTreePort w.plan.k) w.attachments g to found counted.formed.at_ports in
      record {
        port = to.port;
        is = (leads.0, refl);
        learnt = leads.1;
        fine = subst (λ (t : SwitchNo). is_failed_at w t.0 to.port ≡ false) (sym leads.0) (ap (λ (p : Peer). not (is_host_port p) && not (is_live_at w.links to.edge.0 to.port)) free);
        within = at.port;
        place = has_place s to.port leads.1 at.port;
      }
  hop to g found stand s (t ∷ ahead) leads =
      let on = leads.0 in
      let back = peer_back w.plan s.0 on.port t on.into counted.formed.plan on.peer in
      let within = (subst (IsPort w.plan.k) back (peer_is_port w.plan t.0 on.into counted.formed.plan)).1 in
      record {
        port = on.port;
        is = (on.into, on.peer);
        learnt = on.learnt;
        fine = ap (λ (p : Peer). not (is_host_port p) && not (is_live_at w.links s.0 on.port)) on.peer ∙ ap not on.live;
        within = within;
        place = has_place s on.port on.learnt within;
      }
