-- A run of switches and a manager whose rules allow less is one of those whose rules allow more.
use Rattle.std.proofs.Common.{ℕ, ◌+◌, List, [], ◌∷◌, Option, Some, None, set, slice_get}
use Rattle.pl_frame.specs.declared.address.SwitchId.{SwitchId}
use Rattle.pl_wiring.specs.declared.link.Peer.{Peer}
use Rattle.pl_wiring.specs.declared.link.Peer.TheVariants.{HostPort, Switch}
use Rattle.pl_wiring.specs.Index.{port_index}
use Rattle.pl_wiring.specs.Peers.{peer_of}
use Rattle.pl_world.specs.declared.event.Event.{Event}
use Rattle.pl_world.specs.declared.event.Event.TheVariants as event
use Rattle.pl_world.specs.declared.event.QueueName.{QueueName}
use Rattle.pl_world.specs.declared.event.QueueName.TheVariants as queue
use Rattle.pl_node.specs.declared.acts.ManagerAct.{ManagerAct}
use Rattle.pl_node.specs.declared.messages.ToManager.{ToManager}
use Rattle.pl_node.specs.declared.messages.ToSwitch.{ToSwitch}
use Rattle.pl_node.specs.Accounting.{AllowsNoMore}
use Rattle.pl_node.specs.HostInputs.{HostRule}
use Rattle.pl_node.specs.ManagerDuties.{ManagerRule}
use Rattle.pl_node.specs.ManagerViews.{ManagerView}
use Rattle.pl_node.specs.SwitchInputs.{SwitchInput, SwitchRule}
use Rattle.pl_world.specs.declared.item.Item.{Item}
use Rattle.pl_world.specs.declared.item.Item.TheVariants.{Control, Data}
use Rattle.pl_world.specs.declared.spoken_frame.SpokenFrame.{SpokenFrame}
use Rattle.pl_world.specs.declared.attachment.AttachmentPoint.{AttachmentPoint}
use Rattle.pl_world.specs.Changes.{out_of}
use Rattle.pl_queues.specs.Queues.{items_at}
use Rattle.pl_world.specs.Runs.{Moment, WorldRun}
use Rattle.pl_world.specs.Runs.Moment.{Mark, Step}
use Rattle.pl_world.specs.WorldRule.{ComesAtSwitch, ComesIn, ComesOver, Delivers, DeliversFromHost, DeliversFromManager, DeliversOut, DeliversToManager, Happens, SwitchTurn, heard_item}
use Rattle.pl_world.specs.Worlds.{WorldView}

-- what one rule of a manager allows, another does too
abbrev pub IsManagerWithin : ManagerRule → ManagerRule → Type 0
IsManagerWithin one other =
    (before : ManagerView) (s : SwitchId) (says : ToManager) (after : ManagerView)
    (acts : List ManagerAct) → one before s says after acts → other before s says after acts

module _ (one other : SwitchRule) (first second : ManagerRule) (host : HostRule) (within : AllowsNoMore one other) (allowed : IsManagerWithin first second) where
  turns : (w : WorldView) (s : ℕ) (input : SwitchInput) (speech : SpokenFrame) (new : WorldView) →
      SwitchTurn one w s input speech new → SwitchTurn other w s input speech new
  turns w s input speech new m = record {
    before = m.before;
    after = m.after;
    acts = m.acts;
    found = m.found;
    ruled = within m.before input m.after m.acts m.ruled;
    changed = m.changed;
  }

  at_switch : (w : WorldView) (s port : ℕ) (item : Item) (new : WorldView) → ComesAtSwitch one w s port item new → ComesAtSwitch other w s port item new
  at_switch w s port (Control frame) new m = turns _ s _ _ new m
  at_switch w s port (Data id frame) new m = turns _ s _ _ new m

  over : (w : WorldView) (s port : ℕ) (item : Item) (peer : Peer) (new : WorldView) → ComesOver one host w s port item peer new →
      ComesOver other host w s port item peer new
  over w s port item (Switch t q) new m = at_switch w t.0 q item new m
  over w s port item HostPort new m = m

  come_in : (w : WorldView) (h : ℕ) (item : Item) (attachment : Option AttachmentPoint) (new : WorldView) → ComesIn one w h item attachment new → ComesIn other w h item attachment new
  come_in w h item None new m = absurd m
  come_in w h item (Some attachment) new m = at_switch (heard_item w h item) attachment.edge.0 attachment.port item new m

  from_host : (w : WorldView) (h : ℕ) (items : List Item) (new : WorldView) → DeliversFromHost one w h items new → DeliversFromHost other w h items new
  from_host w h [] new m = absurd m
  from_host w h (item ∷ items) new m = come_in (record w { from_hosts = set w.from_hosts h items }) h item (slice_get w.attachments h) new m

  delivers_out : (w : WorldView) (s port : ℕ) (items : List Item) (new : WorldView) → DeliversOut one host w s port items new →
      DeliversOut other host w s port items new
  delivers_out w s port [] new m = absurd m
  delivers_out w s port (item ∷ items) new m =
      over (record w { out = set w.out (port_index w.plan.k s port) items }) s port item (peer_of w.plan s port) new m

  from_manager : (w : WorldView) (s : ℕ) (items : List ToSwitch) (new : WorldView) → DeliversFromManager one w s items new →
      DeliversFromManager other w s items new
  from_manager w s [] new m = absurd m
  from_manager w s (says ∷ items) new m = turns _ s _ _ new m

  to_manager : (w : WorldView) (s : ℕ) (items : List ToManager) (new : WorldView) → DeliversToManager first w s items new →
      DeliversToManager second w s items new
  to_manager w s [] new m = absurd m
  to_manager w s (told ∷ items) new m = record {
    id = m.id;
    after = m.after;
    acts = m.acts;
    found = m.found;
    ruled = allowed w.manager m.id told m.after m.acts m.ruled;
    changed = m.changed;
  }

  delivers : (w : WorldView) (name : QueueName) (new : WorldView) → Delivers one first host w name new → Delivers other second host w name new
  delivers w (queue.FromHost h) new m = from_host w h.0 (items_at w.from_hosts h.0) new m
  delivers w (queue.Port s port) new m = delivers_out w s.0 port (out_of w s.0 port) new m
  delivers w (queue.ToManager s) new m = to_manager w s.0 (items_at w.to_manager s.0) new m
  delivers w (queue.FromManager s) new m = from_manager w s.0 (items_at w.from_manager s.0) new m

  happens : (w : WorldView) (e : Event) (new : WorldView) → Happens one first host w e new → Happens other second host w e new
  happens w (event.Deliver name) new m = delivers w name new m
  happens w (event.Tick s) new m = turns _ s.0 _ _ new m
  happens w e new m = m

  pub run_allowed : (old : WorldView) (moments : List Moment) (new : WorldView) → WorldRun one first host old moments new →
      WorldRun other second host old moments new
  run_allowed old [] new same = same
  run_allowed old (Step e ∷ moments) new run =
      (run.0, (run.1.0, happens (record old { steps = old.steps + 1 }) e run.0 run.1.1), run_allowed run.0 moments new run.2)
  run_allowed old (Mark entry ∷ moments) new run = (run.0, run.1, run_allowed run.0 moments new run.2)

pub run_looser : (one other : SwitchRule) (manager : ManagerRule) (host : HostRule) → AllowsNoMore one other →
    (old : WorldView) (moments : List Moment) (new : WorldView) →
    WorldRun one manager host old moments new → WorldRun other manager host old moments new
run_looser one other manager host within old moments new run =
    run_allowed one other manager manager host within (λ before s says after acts ruled. ruled) old moments new run
