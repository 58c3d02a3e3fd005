-- What a node is about to hear, as the world's code tells it.
use Rattle.std.specs.Prelude.{◌≡◌, ◌<◌, ℕ, Option, None, Some, option_map, slice_get}
use Rattle.pl_wiring.specs.Labels.{switch_count}
use Rattle.pl_wiring.specs.Plan.{Plan}
use Rattle.pl_node.specs.Accounting.{CanCome}
use Rattle.pl_node.specs.SwitchViews.{SwitchView}
use Rattle.pl_node.specs.declared.messages.ToManager.{ToManager}
use Rattle.pl_queues.specs.Queues.{items_at}
use Rattle.pl_world.specs.declared.event.Event.{Event}
use Rattle.pl_world.specs.declared.event.Event.TheVariants as event
use Rattle.pl_world.specs.declared.event.QueueName.TheVariants as queue
use Rattle.pl_world.specs.Drops as drops
use Rattle.pl_world.specs.Worlds.{WorldView}
use Rattle.pl_world_parts.specs.OneStep.{input_from}
use Rattle.pl_schedule.specs.declared.world.coming.Coming.{Coming}

abbrev pub coming_of : Coming → drops.Coming
coming_of c = record { switch = c.switch.0; input = input_from c.incoming; frame = c.frame }

-- what the manager hears in an event, and of which switch
abbrev pub telling : WorldView → Event → Option (ℕ × ToManager)
telling w (event.Deliver (queue.ToManager s)) = option_map (λ told. (s.0, told)) (slice_get (items_at w.to_manager s.0) 0)
telling w happens = None

-- It comes at a switch of the wiring, and may come there.
pub record IsHeardThere (plan : Plan) (c : Coming) : Type 0 where
  pub there : c.switch.0 < switch_count plan.k
  pub can : (v : SwitchView) → v.k ≡ plan.k → CanCome v (input_from c.incoming)
