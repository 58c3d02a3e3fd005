-- The world as contracts see it.
use Rattle.std.specs.Prelude.{ℕ, List, Option}
use Rattle.pl_wiring.specs.Plan.{Plan}
use Rattle.pl_wiring.specs.LiveLinks.{LivePorts}
use Rattle.pl_journal.specs.declared.entry.Entry.{Entry}
use Rattle.pl_node.specs.declared.messages.ToManager.{ToManager}
use Rattle.pl_node.specs.declared.messages.ToSwitch.{ToSwitch}
use Rattle.pl_node.specs.SwitchViews.{SwitchView}
use Rattle.pl_node.specs.ManagerViews.{ManagerView}
use Rattle.pl_node.specs.HostViews.{HostView}
use Rattle.pl_world.specs.declared.item.Item.{Item}
use Rattle.pl_world.specs.declared.limits.Limits.{Limits}
use Rattle.pl_world.specs.declared.attachment.AttachmentPoint.{AttachmentPoint}

pub record WorldView : Type 0 where
  -- the wiring, and which of its links are live
  pub plan : Plan
  pub links : LivePorts
  -- for each host, in the order of the wiring: where it stands, and for how many ticks of that switch no frame of it came there
  pub attachments : List AttachmentPoint
  pub heard : List (Option ℕ)
  -- what they know; switches in label order, hosts in the order of the wiring
  pub switches : List SwitchView
  pub manager : ManagerView
  pub hosts : List HostView
  -- the queues, each with its oldest item first: of each host, of each port of each switch, switch by switch, and of each switch to the
  -- manager and from it
  pub from_hosts : List (List Item)
  pub out : List (List Item)
  pub to_manager : List (List ToManager)
  pub from_manager : List (List ToSwitch)
  -- the oldest entry first
  pub journal : List Entry
  -- how many frames were sent, made or copied, and how many steps were made
  pub begun : ℕ
  pub steps : ℕ
  pub limits : Limits
