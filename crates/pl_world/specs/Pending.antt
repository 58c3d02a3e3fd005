-- What waits in queues and stands against a settled fabric.
use Rattle.std.specs.Prelude.{◌≡◌, ℕ, ◌+◌, ◌*◌, ◌&&◌, not, Bool, true, false, bytes_eq, count_by, sum_by, map, replicate, List, [], Option, Some, None, length, slice_get}
use Rattle.std.specs.List.{AllByRecursion, range_with_len}
use Rattle.pl_wiring.specs.Index.{port_index}
use Rattle.pl_wiring.specs.Labels.{switch_count}
use Rattle.pl_wiring.specs.Plan.{Plan}
use Rattle.pl_node.specs.declared.messages.ToManager.{ToManager}
use Rattle.pl_node.specs.declared.messages.ToManager.TheVariants.{Query}
use Rattle.pl_node.specs.declared.messages.ToSwitch.{ToSwitch}
use Rattle.pl_node.specs.declared.messages.ToSwitch.TheVariants.{Answer, Flood}
use Rattle.pl_node.specs.Announcements.{announcement}
use Rattle.pl_node.specs.PortRecords.{port_of, ports_of_switch}
use Rattle.pl_node.specs.SwitchFacts.{switch_at_boot}
use Rattle.pl_node.specs.SwitchViews.{SwitchView}
use Rattle.pl_queues.specs.Counts.{counted_in}
use Rattle.pl_queues.specs.Queues.{items_at}
use Rattle.pl_world.specs.declared.item.Item.{Item}
use Rattle.pl_world.specs.declared.item.Item.TheVariants.{Control, Data}
use Rattle.pl_world.specs.Worlds.{WorldView}

-- the frame is the message that the switch would send out of that port now
abbrev pub is_announced : SwitchView → ℕ → List ℕ → Bool
is_announced v port frame = not (port_of v port).host && bytes_eq frame (announcement v port)

-- a control frame out of a port is stale, unless its switch would send it out of that port now
unfoldable pub is_stale : SwitchView → ℕ → Item → Bool
is_stale v port (Control frame) = not (is_announced v port frame)
is_stale v port (Data id frame) = false

-- how many items are stale in a queue out of a port
abbrev pub stale_in : Option SwitchView → ℕ → List Item → ℕ
stale_in None port items = 0
stale_in (Some v) port items = count_by (is_stale v port) items

-- in the queues out of all ports of switch number s
abbrev pub stale_at_ports : ℕ → Option SwitchView → List (List Item) → ℕ → ℕ
stale_at_ports k v out s = sum_by (λ port. stale_in v port (items_at out (port_index k s port))) (ports_of_switch k)

abbrev pub stale_at : ℕ → List SwitchView → List (List Item) → ℕ → ℕ
stale_at k switches out s = stale_at_ports k (slice_get switches s) out s

-- and of all switches
abbrev pub stale : ℕ → List SwitchView → List (List Item) → ℕ
stale k switches out = sum_by (stale_at k switches out) (range_with_len 0 (length switches))

-- each message to the manager but a question
abbrev pub is_report : ToManager → Bool
is_report (Query asker asker_ip ip) = false
is_report told = true

-- each message from the manager but the answer to a question
abbrev pub is_order : ToSwitch → Bool
is_order (Answer asker asker_ip ip pmac) = false
is_order (Flood asker asker_ip ip) = false
is_order says = true

-- no stale item is another one
abbrev pub is_control_item : Item → Bool
is_control_item (Control frame) = true
is_control_item (Data id frame) = false

-- The switches, each with k ports, and the queues out of their ports, switch by switch.
pub record SwitchesView : Type 0 where
  pub k : ℕ
  pub switches : List SwitchView
  pub out : List (List Item)

-- as they are at first
abbrev pub first_switches : Plan → SwitchesView
first_switches plan = record {
  k = plan.k;
  switches = map (λ id. switch_at_boot id plan.k) plan.ids;
  out = replicate (switch_count plan.k * plan.k) [];
}

-- a queue for each port
pub record HasQueues (f : SwitchesView) : Type 0 where
  pub ports : AllByRecursion (λ v. v.k ≡ f.k) f.switches
  pub queues : length f.out ≡ length f.switches * f.k

-- and a number is kept that is how many items are stale
pub record KeepsStale (f : SwitchesView) (kept : ℕ) : Type 0 where
  pub queues : HasQueues f
  pub is : kept ≡ stale f.k f.switches f.out

-- Stale control frames out of ports, reports to the manager, and its orders. What a host sends
-- is a data frame (`sent_by_host`), so the queues of hosts are not asked.
abbrev pub pending : WorldView → ℕ
pending w = stale w.plan.k w.switches w.out + counted_in is_report w.to_manager + counted_in is_order w.from_manager
