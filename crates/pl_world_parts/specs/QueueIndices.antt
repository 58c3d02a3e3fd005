-- Where the queue out of a port stands in the row of all queues.
use Rattle.std.specs.Prelude.{◌≡◌, ◌<◌, ℕ, length}
use Rattle.pl_wiring.specs.Index.{port_index}
use Rattle.pl_world.specs.Pending.{SwitchesView}

-- a port of a switch has its queue at that index
pub record IsQueueIndex (f : SwitchesView) (s port at : ℕ) : Type 0 where
  pub within : port < f.k
  pub is : port_index f.k s port ≡ at
  pub there : at < length f.out
