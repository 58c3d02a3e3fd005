-- The queues of a wiring in queue order, and the next of them that has items.
use Rattle.std.specs.Prelude.{ℕ, ◌+◌, ◌-◌, ◌*◌, ◌/◌, ◌%◌, nat_lt, Bool, if◌then◌else◌, List, ◌++◌, length, map, Option}
use Rattle.std.specs.List.{filter, flat_map, range_with_len}
use Rattle.std.specs.Option.{option_map}
use Rattle.pl_wiring.specs.Labels.{switch_count}
use Rattle.pl_wiring.specs.Plan.{Plan}
use Rattle.pl_world.specs.declared.event.QueueName.{QueueName}
use Rattle.pl_world.specs.declared.event.QueueName.TheVariants as queue
use Rattle.pl_queues.specs.Queues.{next_filled, next_index}
use Rattle.pl_world.specs.Changes.{host_no, switch_no}
use Rattle.pl_world.specs.Refusals.{is_filled}
use Rattle.pl_world.specs.Worlds.{WorldView}

-- the queue of a host, and those of a switch to the manager and from it
abbrev pub host_queue : ℕ → QueueName
host_queue h = queue.FromHost (host_no h)

abbrev pub report_queue : ℕ → QueueName
report_queue s = queue.ToManager (switch_no s)

abbrev pub order_queue : ℕ → QueueName
order_queue s = queue.FromManager (switch_no s)

abbrev pub host_queues : Plan → List QueueName
host_queues plan = map (λ h. queue.FromHost (host_no h)) (range_with_len 0 (length plan.hosts))

-- the queues out of a switch, by rising port
abbrev pub queues_out_of : ℕ → ℕ → List QueueName
queues_out_of k s = map (queue.Port (switch_no s)) (range_with_len 0 k)

-- the numbers of the switches, in label order
abbrev pub switch_numbers : Plan → List ℕ
switch_numbers plan = range_with_len 0 (switch_count plan.k)

-- the hosts' queues in the order of the wiring, those out of ports switch by switch, those to the manager and those from it
unfoldable pub queue_order : Plan → List QueueName
queue_order plan =
    host_queues plan
    ++ (flat_map (queues_out_of plan.k) (switch_numbers plan)
    ++ (map (λ s. queue.ToManager (switch_no s)) (switch_numbers plan)
    ++ map (λ s. queue.FromManager (switch_no s)) (switch_numbers plan)))

-- the numbers of the first queue out of a port, of the first to the manager and of the first from it
abbrev pub first_out : Plan → ℕ
first_out plan = length plan.hosts

abbrev pub first_to_manager : Plan → ℕ
first_to_manager plan = first_out plan + switch_count plan.k * plan.k

abbrev pub first_from_manager : Plan → ℕ
first_from_manager plan = first_to_manager plan + switch_count plan.k

-- how many queues there are
abbrev pub queue_count : Plan → ℕ
queue_count plan = first_from_manager plan + switch_count plan.k

abbrev pub port_queue : ℕ → ℕ → QueueName
port_queue k place = queue.Port (switch_no (place / k)) (place % k)

-- a queue by its number in queue order, from 0
abbrev pub queue_at : Plan → ℕ → QueueName
queue_at plan n =
    if nat_lt n (first_out plan) then queue.FromHost (host_no n)
    else if nat_lt n (first_to_manager plan) then port_queue plan.k (n - first_out plan)
    else if nat_lt n (first_from_manager plan) then queue.ToManager (switch_no (n - first_to_manager plan))
    else queue.FromManager (switch_no (n - first_from_manager plan))

abbrev pub has_items_at : WorldView → ℕ → Bool
has_items_at w n = is_filled w (queue_at w.plan n)

-- the number of the first queue from number `from` on that has items
abbrev pub next_queue : WorldView → ℕ → Option ℕ
next_queue w from = next_index (has_items_at w) (queue_count w.plan) from

-- the same, of a queue array whose first queue has number `first`
abbrev pub next_in : {T : Type 0} → ℕ → List (List T) → ℕ → Option ℕ
next_in first queue_array from = option_map (λ place. first + place) (next_filled queue_array (from - first))

-- the queues with items, in queue order
abbrev pub filled_queues : WorldView → List QueueName
filled_queues w = filter (is_filled w) (queue_order w.plan)
