-- A frame for an address that a bridge has learnt.
use Rattle.std.specs.Prelude.{◌≡◌, ℕ, List, [], ◌∷◌, ◌++◌, Some, slice_get}
use Rattle.pl_frame.specs.declared.address.Mac.{Mac}
use Rattle.pl_wiring.specs.declared.label.SwitchNo.{SwitchNo}
use Rattle.pl_wiring.specs.Index.{port_index}
use Rattle.pl_journal.specs.declared.entry.Entry.TheVariants.{Crossed}
use Rattle.pl_node.specs.SwitchViews.{SwitchView}
use Rattle.pl_queues.specs.Queues.{put_at}
use Rattle.pl_world.specs.declared.item.Item.{Item}
use Rattle.pl_world.specs.declared.item.Item.TheVariants.{Data}
use Rattle.pl_world.specs.Worlds.{WorldView}
use Rattle.pl_bridge_rule.specs.BridgeRule.{port_for}

-- in this world a switch has an address at this port
pub record HasAt (w : WorldView) (mac : Mac) (s : SwitchNo) (port : ℕ) : Type 0 where
  pub view : SwitchView
  pub found : slice_get w.switches s.0 ≡ Some view
  pub learnt : port_for view mac ≡ Some port

-- Of the frame that came it is written that it crossed the switch, and nothing else, so it is not copied and does not end; and it waits behind this port. These were the
-- queues before.
pub record GoesOnAlone (old : WorldView) (from_hosts out : List (List Item)) (new : WorldView) (id : ℕ) (frame : List ℕ) (s : SwitchNo) (port : ℕ) : Type 0 where
  pub written : new.journal ≡ old.journal ++ Crossed id s ∷ []
  pub hosts_wait : new.from_hosts ≡ from_hosts
  pub waits : new.out ≡ put_at out (port_index old.plan.k s.0 port) (Data id frame)
