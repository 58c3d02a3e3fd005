-- What an event did: which head was taken from which queue, and who turned then.
use Rattle.std.proofs.Common.{◌≡◌, ℕ, List, [], ◌∷◌, Option, Some, None, set, slice_get, refl}
use Rattle.pl_wiring.specs.declared.host.HostNo.{HostNo}
use Rattle.pl_wiring.specs.declared.label.SwitchNo.{SwitchNo}
use Rattle.pl_wiring.specs.declared.link.Link.{Link}
use Rattle.pl_wiring.specs.declared.link.Peer.{Peer}
use Rattle.pl_wiring.specs.declared.link.Peer.TheVariants.{HostPort, Switch}
use Rattle.pl_wiring.specs.Index.{port_index}
use Rattle.pl_wiring.specs.Peers.{peer_of}
use Rattle.pl_journal.specs.declared.cause.Skip.{Skip}
use Rattle.pl_node.specs.declared.messages.ToManager.{ToManager}
use Rattle.pl_node.specs.declared.messages.ToSwitch.{ToSwitch}
use Rattle.pl_node.specs.HostInputs.{HostInput, HostRule}
use Rattle.pl_node.specs.HostInputs.HostAnswer.{Nothing, Played}
use Rattle.pl_node.specs.HostInputs.HostInput.{HasMoved, Joins, Leaves, Retries, Starts}
use Rattle.pl_node.specs.ManagerDuties.{ManagerRule}
use Rattle.pl_node.specs.SwitchInputs.{SwitchRule}
use Rattle.pl_node.specs.SwitchInputs.SwitchInput.{Says, Tick}
use Rattle.pl_queues.specs.Queues.{items_at}
use Rattle.pl_world.specs.declared.event.Event.{Event}
use Rattle.pl_world.specs.declared.event.Event.TheVariants as event
use Rattle.pl_world.specs.declared.event.QueueName.TheVariants as queue
use Rattle.pl_world.specs.declared.item.Item.{Item}
use Rattle.pl_world.specs.declared.spoken_frame.SpokenFrame.TheVariants.{Silent}
use Rattle.pl_world.specs.declared.attachment.AttachmentPoint.{AttachmentPoint}
use Rattle.pl_world.specs.Changes.{out_of}
use Rattle.pl_world.specs.LinksAndMoves.{host_moved, item_lost, link_between, link_failed, link_repaired}
use Rattle.pl_world.specs.OtherActs.{heard_after_tick, skip_noted}
use Rattle.pl_world.specs.Restarting.{manager_restarted}
use Rattle.pl_world.specs.WorldRule.{ComesAtSwitch, ComesIn, ComesOut, ComesOver, DeliversFromHost, DeliversFromManager, DeliversOut, DeliversToManager, LinkFails, HostMoves, Happens, HostTurn, LinkIsRepaired, Loses, ManagerTurn, SwitchTurn, heard_item, played_as}
use Rattle.pl_world.specs.Worlds.{WorldView}

-- whom an event asks, and for what, where it asks a host for no more than a turn
abbrev pub asked_by : Event → Option (ℕ × HostInput)
asked_by (event.Start h) = Some (h.0, Starts)
asked_by (event.Play h frame original raw) = Some (h.0, played_as raw frame original)
asked_by (event.Retry h) = Some (h.0, Retries)
asked_by (event.Join h group) = Some (h.0, Joins group)
asked_by (event.Leave h group) = Some (h.0, Leaves group)
asked_by e = None

pub data Happened (switch : SwitchRule) (manager : ManagerRule) (host : HostRule) (w : WorldView) (e : Event) (new : WorldView) : Type 0 where
  -- an item of a host comes where the host stands
  FromHost : (h : HostNo) (item : Item) (items : List Item) (attachment : AttachmentPoint) → e ≡ event.Deliver (queue.FromHost h) → items_at w.from_hosts h.0 ≡ item ∷ items →
      slice_get w.attachments h.0 ≡ Some attachment →
      ComesAtSwitch switch (heard_item (record w { from_hosts = set w.from_hosts h.0 items }) h.0 item) attachment.edge.0 attachment.port item new →
      Happened switch manager host w e new
  -- an item comes over a link, or out of a host port
  OverLink : (s : SwitchNo) (port : ℕ) (item : Item) (items : List Item) (t : SwitchNo) (q : ℕ) → e ≡ event.Deliver (queue.Port s port) →
      out_of w s.0 port ≡ item ∷ items →
      peer_of w.plan s.0 port ≡ Switch t q → ComesAtSwitch switch (record w { out = set w.out (port_index w.plan.k s.0 port) items }) t.0 q item new →
      Happened switch manager host w e new
  OutOfPort : (s : SwitchNo) (port : ℕ) (item : Item) (items : List Item) → e ≡ event.Deliver (queue.Port s port) → out_of w s.0 port ≡ item ∷ items →
      peer_of w.plan s.0 port ≡ HostPort → ComesOut host (record w { out = set w.out (port_index w.plan.k s.0 port) items }) s.0 port item new →
      Happened switch manager host w e new
  Reported : (s : SwitchNo) (told : ToManager) (items : List ToManager) → e ≡ event.Deliver (queue.ToManager s) → items_at w.to_manager s.0 ≡ told ∷ items →
      ManagerTurn manager (record w { to_manager = set w.to_manager s.0 items }) s.0 told new → Happened switch manager host w e new
  Ordered : (s : SwitchNo) (says : ToSwitch) (items : List ToSwitch) → e ≡ event.Deliver (queue.FromManager s) → items_at w.from_manager s.0 ≡ says ∷ items →
      SwitchTurn switch (record w { from_manager = set w.from_manager s.0 items }) s.0 (Says says) Silent new → Happened switch manager host w e new
  Ticked : (s : SwitchNo) → e ≡ event.Tick s → SwitchTurn switch (record w { heard = heard_after_tick s.0 w.attachments w.heard }) s.0 Tick Silent new →
      Happened switch manager host w e new
  Failed : (a b : SwitchNo) (link : Link) → e ≡ event.Fail a b → link_between w.plan a.0 b.0 ≡ Some link → new ≡ link_failed w link →
      Happened switch manager host w e new
  Repaired : (a b : SwitchNo) (link : Link) → e ≡ event.Repair a b → link_between w.plan a.0 b.0 ≡ Some link → new ≡ link_repaired w link →
      Happened switch manager host w e new
  Lost : (s : SwitchNo) (port : ℕ) (item : Item) (items : List Item) → e ≡ event.Lose s port → out_of w s.0 port ≡ item ∷ items →
      new ≡ item_lost (record w { out = set w.out (port_index w.plan.k s.0 port) items }) item → Happened switch manager host w e new
  Departed : (h : HostNo) (s : SwitchNo) (port : ℕ) (from : AttachmentPoint) → e ≡ event.Move h s port → slice_get w.attachments h.0 ≡ Some from →
      HostTurn host (host_moved w h.0 from (record { edge = s; port = port })) h.0 HasMoved Nothing new → Happened switch manager host w e new
  -- a host plays a frame, or does what else it was asked for
  PlayedFrame : (h : HostNo) (input : HostInput) (skip : Option Skip) → asked_by e ≡ Some (h.0, input) →
      HostTurn host (skip_noted w h.0 skip) h.0 input (Played skip) new → Happened switch manager host w e new
  Asked : (h : HostNo) (input : HostInput) → asked_by e ≡ Some (h.0, input) → HostTurn host w h.0 input Nothing new → Happened switch manager host w e new
  BeganAnew : e ≡ event.Restart → new ≡ manager_restarted w → Happened switch manager host w e new

module _ (switch : SwitchRule) (manager : ManagerRule) (host : HostRule) (w : WorldView) (e : Event) (new : WorldView) where
  abbrev This : Type 0
  This = Happened switch manager host w e new

  came_in : (h : HostNo) (item : Item) (items : List Item) (place : Option AttachmentPoint) → e ≡ event.Deliver (queue.FromHost h) →
      items_at w.from_hosts h.0 ≡ item ∷ items →
      slice_get w.attachments h.0 ≡ place → ComesIn switch (record w { from_hosts = set w.from_hosts h.0 items }) h.0 item place new → This
  came_in h item items None is head at comes = absurd comes
  came_in h item items (Some attachment) is head at comes = FromHost h item items attachment is head at comes

  from_host : (h : HostNo) (queued : List Item) → e ≡ event.Deliver (queue.FromHost h) → items_at w.from_hosts h.0 ≡ queued →
      DeliversFromHost switch w h.0 queued new → This
  from_host h [] is head comes = absurd comes
  from_host h (item ∷ items) is head comes = came_in h item items (slice_get w.attachments h.0) is head refl comes

  came_over : (s : SwitchNo) (port : ℕ) (item : Item) (items : List Item) (peer : Peer) → e ≡ event.Deliver (queue.Port s port) →
      out_of w s.0 port ≡ item ∷ items →
      peer_of w.plan s.0 port ≡ peer → ComesOver switch host (record w { out = set w.out (port_index w.plan.k s.0 port) items }) s.0 port item peer new → This
  came_over s port item items (Switch t q) is head joined comes = OverLink s port item items t q is head joined comes
  came_over s port item items HostPort is head joined comes = OutOfPort s port item items is head joined comes

  out_of_port : (s : SwitchNo) (port : ℕ) (queued : List Item) → e ≡ event.Deliver (queue.Port s port) → out_of w s.0 port ≡ queued →
      DeliversOut switch host w s.0 port queued new → This
  out_of_port s port [] is head comes = absurd comes
  out_of_port s port (item ∷ items) is head comes = came_over s port item items (peer_of w.plan s.0 port) is head refl comes

  to_manager : (s : SwitchNo) (queued : List ToManager) → e ≡ event.Deliver (queue.ToManager s) → items_at w.to_manager s.0 ≡ queued →
      DeliversToManager manager w s.0 queued new → This
  to_manager s [] is head turn = absurd turn
  to_manager s (told ∷ items) is head turn = Reported s told items is head turn

  from_manager : (s : SwitchNo) (queued : List ToSwitch) → e ≡ event.Deliver (queue.FromManager s) → items_at w.from_manager s.0 ≡ queued →
      DeliversFromManager switch w s.0 queued new → This
  from_manager s [] is head turn = absurd turn
  from_manager s (says ∷ items) is head turn = Ordered s says items is head turn

  failed : (a b : SwitchNo) (link : Option Link) → e ≡ event.Fail a b → link_between w.plan a.0 b.0 ≡ link → LinkFails w link new → This
  failed a b None is found fails = absurd fails
  failed a b (Some link) is found fails = Failed a b link is found fails

  repaired : (a b : SwitchNo) (link : Option Link) → e ≡ event.Repair a b → link_between w.plan a.0 b.0 ≡ link → LinkIsRepaired w link new → This
  repaired a b None is found repairs = absurd repairs
  repaired a b (Some link) is found repairs = Repaired a b link is found repairs

  lost : (s : SwitchNo) (port : ℕ) (queued : List Item) → e ≡ event.Lose s port → out_of w s.0 port ≡ queued → Loses w s.0 port queued new → This
  lost s port [] is head loses = absurd loses
  lost s port (item ∷ items) is head loses = Lost s port item items is head loses

  moved : (h : HostNo) (s : SwitchNo) (port : ℕ) (from : Option AttachmentPoint) → e ≡ event.Move h s port → slice_get w.attachments h.0 ≡ from →
      HostMoves host w h.0 (record { edge = s; port = port }) from new → This
  moved h s port None is at goes = absurd goes
  moved h s port (Some from) is at goes = Departed h s port from is at goes

pub happened : (switch : SwitchRule) (manager : ManagerRule) (host : HostRule) (w : WorldView) (e : Event) (new : WorldView) →
    Happens switch manager host w e new →
    Happened switch manager host w e new
happened switch manager host w (event.Deliver (queue.FromHost h)) new does = from_host switch manager host w _ new h (items_at w.from_hosts h.0) refl refl does
happened switch manager host w (event.Deliver (queue.Port s port)) new does = out_of_port switch manager host w _ new s port (out_of w s.0 port) refl refl does
happened switch manager host w (event.Deliver (queue.ToManager s)) new does =
    to_manager switch manager host w _ new s (items_at w.to_manager s.0) refl refl does
happened switch manager host w (event.Deliver (queue.FromManager s)) new does =
    from_manager switch manager host w _ new s (items_at w.from_manager s.0) refl refl does
happened switch manager host w (event.Tick s) new does = Ticked s refl does
happened switch manager host w (event.Fail a b) new does = failed switch manager host w _ new a b (link_between w.plan a.0 b.0) refl refl does
happened switch manager host w (event.Repair a b) new does = repaired switch manager host w _ new a b (link_between w.plan a.0 b.0) refl refl does
happened switch manager host w (event.Lose s port) new does = lost switch manager host w _ new s port (out_of w s.0 port) refl refl does
happened switch manager host w (event.Move h s port) new does = moved switch manager host w _ new h s port (slice_get w.attachments h.0) refl refl does
happened switch manager host w (event.Start h) new does = Asked h Starts refl does
happened switch manager host w (event.Play h frame original raw) new does = PlayedFrame h (played_as raw frame original) does.skip refl does.turn
happened switch manager host w (event.Retry h) new does = Asked h Retries refl does
happened switch manager host w (event.Join h group) new does = Asked h (Joins group) refl does
happened switch manager host w (event.Leave h group) new does = Asked h (Leaves group) refl does
happened switch manager host w event.Restart new does = BeganAnew refl does
