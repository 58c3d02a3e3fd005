-- The order of queues by example.
use Rattle.std.specs.Prelude.{◌≡◌, [], ◌∷◌, Some, None, refl, slice_set}
use Rattle.pl_world.specs.declared.event.QueueName.TheVariants as queue
use Rattle.pl_node.specs.declared.messages.ToSwitch.TheVariants.{Pod}
use Rattle.pl_examples.specs.FirstPath.{two_hosts}
use Rattle.pl_world.specs.declared.item.Item.TheVariants.{Data}
use Rattle.pl_world.specs.Changes.{host_no, switch_no}
use Rattle.pl_examples.specs.WorldExamples.{start, with_queue}
use Rattle.pl_world.specs.Worlds.{WorldView}
use Rattle.pl_world.specs.QueueOrder.{next_queue, queue_at, queue_count}

-- two hosts; 20 switches with 4 ports, from e0.0 to c1.1
the_order_begins_and_ends_so
    : (queue_at two_hosts 0 ≡ queue.FromHost (host_no 0))
    × (queue_at two_hosts 1 ≡ queue.FromHost (host_no 1))
    × (queue_at two_hosts 2 ≡ queue.Port (switch_no 0) 0)
    × (queue_at two_hosts 5 ≡ queue.Port (switch_no 0) 3)
    × (queue_at two_hosts 6 ≡ queue.Port (switch_no 1) 0)
    × (queue_at two_hosts 81 ≡ queue.Port (switch_no 19) 3)
    × (queue_at two_hosts 82 ≡ queue.ToManager (switch_no 0))
    × (queue_at two_hosts 101 ≡ queue.ToManager (switch_no 19))
    × (queue_at two_hosts 102 ≡ queue.FromManager (switch_no 0))
    × (queue_at two_hosts 121 ≡ queue.FromManager (switch_no 19))
    × (queue_count two_hosts ≡ 122)
the_order_begins_and_ends_so = (refl, refl, refl, refl, refl, refl, refl, refl, refl, refl, refl)

-- a frame waits out of port 2 of e0.0, and e0.1 is to get its pod
abbrev pub two_wait : WorldView
two_wait = record (with_queue start 2 (Data 1 [] ∷ [])) { from_manager = slice_set start.from_manager 1 (Pod 3 ∷ []) }

the_next_queue_with_items_is_found
    : (next_queue two_wait 0 ≡ Some 4)
    × (next_queue two_wait 4 ≡ Some 4)
    × (next_queue two_wait 5 ≡ Some 103)
    × (next_queue two_wait 104 ≡ None)
the_next_queue_with_items_is_found = (refl, refl, refl, refl)
