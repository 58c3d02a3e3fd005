-- The first two points of a settled fabric, which speak of its queues.
use Rattle.std.specs.Prelude.{◌≡◌, ◌<◌, ℕ, Contains, List, Some, slice_get}
use Rattle.pl_node.specs.declared.messages.ToManager.{ToManager}
use Rattle.pl_node.specs.declared.messages.ToManager.TheVariants.{Query}
use Rattle.pl_node.specs.declared.messages.ToSwitch.{ToSwitch}
use Rattle.pl_node.specs.declared.messages.ToSwitch.TheVariants.{Answer, Flood}
use Rattle.pl_node.specs.SwitchFacts.{IsAnnounced}
use Rattle.pl_node.specs.SwitchViews.{SwitchView}
use Rattle.pl_queues.specs.Queues.{items_at}
use Rattle.pl_world.specs.declared.item.Item.TheVariants.{Control}
use Rattle.pl_world.specs.Changes.{out_of}
use Rattle.pl_world.specs.Worlds.{WorldView}

-- a host's question
abbrev pub IsQuestion : ToManager → Type 0
IsQuestion (Query asker asker_ip ip) = Unit {0}
IsQuestion told = ⊥

-- what a host's question brings about: its answer, or that all hosts are asked
abbrev pub IsReply : ToSwitch → Type 0
IsReply (Answer asker asker_ip ip pmac) = Unit {0}
IsReply (Flood asker asker_ip ip) = Unit {0}
IsReply says = ⊥

pub record HasSettledQueues (w : WorldView) : Type 0 where
  -- 1. Each control frame in a queue is the message that its sender would send there now. A host sends none.
  pub out_of_ports : (s port : ℕ) (v : SwitchView) (frame : List ℕ) → slice_get w.switches s ≡ Some v → port < w.plan.k →
      Contains (out_of w s port) (Control frame) → IsAnnounced v port frame
  pub from_hosts : (h : ℕ) (frame : List ℕ) → Contains (items_at w.from_hosts h) (Control frame) → ⊥
  -- 2. No message to or from the manager waits but the questions of hosts and what they bring about.
  pub to_manager : (s : ℕ) (told : ToManager) → Contains (items_at w.to_manager s) told → IsQuestion told
  pub from_manager : (s : ℕ) (says : ToSwitch) → Contains (items_at w.from_manager s) says → IsReply says
