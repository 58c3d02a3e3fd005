-- Whether a world in which no control frame and no message waits is settled, as far as avoid lists and parts of trees are empty.
use Rattle.std.specs.Prelude.{ℕ, ◌+◌, ◌==◌, ◌&&◌, not, Bool, true, false, if◌then◌else◌, List, [], ◌∷◌, Option, Some, None, is_none, slice_get}
use Rattle.std.specs.List.{list_any, range_with_len}
use Rattle.pl_frame.specs.declared.address.SwitchId.{SwitchId}
use Rattle.pl_layouts.specs.declared.place.Place.{Place}
use Rattle.pl_wiring.specs.Labels.{switch_count}
use Rattle.pl_wiring.specs.declared.link.Peer.{Peer}
use Rattle.pl_wiring.specs.declared.link.Peer.TheVariants.{HostPort, Switch}
use Rattle.pl_wiring.specs.LiveLinks.{is_live_at}
use Rattle.pl_wiring.specs.Peers.{peer_of}
use Rattle.pl_node.specs.declared.neighbour.Neighbour.{Neighbour}
use Rattle.pl_node.specs.AvoidLists.{avoid_list}
use Rattle.pl_node.specs.ManagerFacts.{groups}
use Rattle.pl_node.specs.ManagerViews.{ManagerView, is_told_usable, place_of}
use Rattle.pl_node.specs.PortRecords.{is_usable, port_of}
use Rattle.pl_node.specs.SwitchFacts.{part_of}
use Rattle.pl_node.specs.SwitchViews.{SwitchView}
use Rattle.pl_node.specs.Trees.{tree_part}
use Rattle.pl_fabric.specs.Settled.{announced_at, has_reports, would_change}
use Rattle.pl_queues.specs.Queues.{has_items}
use Rattle.pl_world.specs.declared.item.Item.{Item}
use Rattle.pl_world.specs.declared.item.Item.TheVariants.{Control, Data}
use Rattle.pl_world.specs.Worlds.{WorldView}

abbrev pub same_bool : Bool → Bool → Bool
same_bool true b = b
same_bool false b = not b

abbrev pub same_number : Option ℕ → Option ℕ → Bool
same_number None None = true
same_number None (Some n) = false
same_number (Some m) None = false
same_number (Some m) (Some n) = m == n

abbrev pub same_place : Place → Place → Bool
same_place a b = same_number a.level b.level && (same_number a.position b.position && same_number a.pod b.pod)

abbrev pub same_id : Option SwitchId → Option SwitchId → Bool
same_id None None = true
same_id None (Some n) = false
same_id (Some m) None = false
same_id (Some m) (Some n) = m.0 == n.0

abbrev pub hears_of : Option Neighbour → Neighbour → Bool
hears_of None there = false
hears_of (Some heard) there = (heard.id.0 == there.id.0) && (same_place heard.place there.place && same_id heard.echo there.echo)

abbrev pub is_current : Bool → Option Neighbour → Neighbour → Bool
is_current true heard there = hears_of heard there
is_current false heard there = true

abbrev pub is_settled_end : ManagerView → Bool → SwitchView → ℕ → SwitchView → ℕ → Bool
is_settled_end manager live v port u q =
    same_bool (is_usable v port) live && (is_current live (port_of v port).heard (announced_at u q)
    && (same_bool (is_told_usable manager.told v.id u.id) live && not (would_change v port u q)))

abbrev pub is_settled_to : WorldView → ℕ → SwitchView → ℕ → ℕ → Option SwitchView → Bool
is_settled_to w s v port q None = true
is_settled_to w s v port q (Some u) = is_settled_end w.manager (is_live_at w.links s port) v port u q

abbrev pub is_settled_towards : WorldView → ℕ → SwitchView → ℕ → Peer → Bool
is_settled_towards w s v port HostPort = true
is_settled_towards w s v port (Switch t q) = is_settled_to w s v port q (slice_get w.switches t.0)

abbrev pub is_unsettled_port : WorldView → ℕ → SwitchView → ℕ → Bool
is_unsettled_port w s v port = not (is_settled_towards w s v port (peer_of w.plan s port))

abbrev pub has_part : ManagerView → SwitchView → ℕ → Bool
has_part manager v group = not (is_none (part_of v group) && is_none (tree_part manager.told manager.members group v.id))

abbrev pub is_settled_switch : WorldView → ℕ → SwitchView → Bool
is_settled_switch w s v =
    not (list_any (is_unsettled_port w s v) (range_with_len 0 w.plan.k)) && (same_place (place_of w.manager.told v.id) v.place
    && (not (has_items v.avoid) && (not (has_items (avoid_list w.manager.told v.id))
    && (not (list_any (has_part w.manager v) (groups w.manager.members)) && (not (has_items v.parts) && (v.epoch == w.manager.epoch))))))

abbrev pub are_settled : WorldView → ℕ → List SwitchView → Bool
are_settled w s [] = true
are_settled w s (v ∷ switches) = is_settled_switch w s v && are_settled w (s + 1) switches

abbrev pub is_control_item : Item → Bool
is_control_item (Control frame) = true
is_control_item (Data id frame) = false

abbrev pub is_settled_world : WorldView → Bool
is_settled_world w =
    not (list_any (list_any is_control_item) w.out) && (not (list_any (list_any is_control_item) w.from_hosts)
    && (not (list_any has_items w.to_manager) && (not (list_any has_items w.from_manager)
    && (are_settled w 0 w.switches && has_reports w.manager (switch_count w.plan.k)))))
